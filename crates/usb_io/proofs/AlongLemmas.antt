-- What the calls of readers and writers keep of their endpoint and of the rest of its bus.
use Rattle.std.proofs.Common.{◌∙◌, ◌≡◌, ℕ, max, ◌+◌, ◌<◌, ◌≤◌, arith, [], ◌∷◌, ◌++◌, length, length-append, None, Result, Ok, Err, OnOk, OnErr, Bool, refl, ap, subst}
use Rattle.usb_xfer.specs.BufferState.{BufferState}
use Rattle.usb_kernel.proofs.Extends.{extends-same, extends-trans}
use Rattle.usb_device_endpoint.specs.declared.route.Route.{Route}
use Rattle.usb_device_endpoint.specs.BusState.{BusState}
use Rattle.usb_device_endpoint.specs.EndpointState.{EndpointState}
use Rattle.usb_device_endpoint.specs.Handles.{Stands, KeepsOthers}
use Rattle.usb_device_endpoint.proofs.Frames.{others-same}
use Rattle.usb_device_endpoint.specs.Submits.{Enters}
use Rattle.usb_device_endpoint.proofs.HandleLemmas.{others_in_turn}
use Rattle.usb_io.specs.Along.{KeepsAlong, WentOn, WritesAlong}

-- where nothing was done all is kept
pub keeps-same : {On : Type 0} (b : BusState) (e : EndpointState) → Stands b e → On → KeepsAlong On b b e e
keeps-same b e stands on =
    record { goes_on = on; stands = stands; others = others-same b b e.key refl refl; endpoint = refl; few = omega arith }

-- a bound on what is pending holds over two calls
keeps-few : (a b c : ℕ) → b ≤ max a 64 → c ≤ max b 64 → c ≤ max a 64
keeps-few a b c first second = omega arith

-- over one call after another all is kept
pub keeps-trans : {First Second On : Type 0} (x y z : BusState) (e f g : EndpointState) → KeepsAlong First x y e f → KeepsAlong Second y z f g → On → KeepsAlong On x z e g
keeps-trans x y z e f g first second on =
    let key : f.key ≡ e.key = ap (λ (e : EndpointState). e.key) first.endpoint in
    record {
      goes_on = on;
      stands = second.stands;
      others = others_in_turn x y z e.key first.others (subst (λ (k : ℕ). KeepsOthers y z k) key second.others);
      endpoint = second.endpoint ∙ ap (λ (e : EndpointState). record e { pending = g.pending }) first.endpoint;
      few = keeps-few (length e.pending) (length f.pending) (length g.pending) first.few second.few;
    }

-- a submission, or none where memory is lacking, leaves one more pending at most
few-submitted : {A E S : Type 0} (r : Result A E) (old new : S) (e next : EndpointState) (t : ℕ) → OnErr r ((next ≡ e) × (new ≡ old)) → OnOk r (next ≡ record e { pending = e.pending ++ t ∷ [] }) → length next.pending ≤ length e.pending + 1
few-submitted (Ok x) old new e next t same after = rw (after, length-append e.pending (t ∷ [])) (omega arith)
few-submitted (Err x) old new e next t same after = rw same.0 (omega arith)

-- over it all is kept, by an endpoint (e) that is the first of a call
pub keeps-submitted : {A E S On : Type 0} (state : S → BusState) (r : Result A E) (old new : S) (e first next : EndpointState) (t : ℕ) → e ≡ first → length first.pending < 64 → OnErr r ((next ≡ e) × (new ≡ old)) → OnOk r (next ≡ record e { pending = e.pending ++ t ∷ [] })
    → Stands (state new) next → KeepsOthers (state old) (state new) e.key → next ≡ record e { pending = next.pending } → On → KeepsAlong On (state old) (state new) first next
keeps-submitted state r old new e first next t is few same after stands others rest on =
    let count = few-submitted r old new e next t same after in
    let few' : length e.pending < 64 = rw is few in
    rw (← is) (record { goes_on = on; stands = stands; others = others; endpoint = rest; few = omega (arith, count, few') })

-- of writers
pub writes-same : (b : BusState) (e : EndpointState) → Stands b e → WritesAlong b b e e
writes-same b e stands = keeps-same b e stands (record { past = extends-same b.past; clock = omega arith })

pub writes-trans : {x y z : BusState} {e f g : EndpointState} → WritesAlong x y e f → WritesAlong y z f g → WritesAlong x z e g
writes-trans {x} {y} {z} {e} {f} {g} first second =
    keeps-trans x y z e f g first second (record {
      past = extends-trans x.past y.past z.past first.goes_on.past second.goes_on.past;
      clock = let a = first.goes_on.clock in let b = second.goes_on.clock in omega (arith, a, b);
    })

went-submitted : {A E S : Type 0} (state : S → BusState) (r : Result A E) (old new : S) (to : Route) (b : BufferState) (valid : Bool) (e next : EndpointState) → OnOk r (Enters (state old) (state new) to None b valid) → OnErr r ((next ≡ e) × (new ≡ old)) → WentOn (state old) (state new)
went-submitted state (Ok x) old new to b valid e next enters same = record { past = record { more = _ ∷ []; is = enters.ticket.past }; clock = rw enters.ticket.clock (omega arith) }
went-submitted state (Err x) old new to b valid e next enters same = rw same.1 (record { past = extends-same (state old).past; clock = omega arith })

pub writes-submitted : {A E S : Type 0} (state : S → BusState) (r : Result A E) (old new : S) (to : Route) (b : BufferState) (valid : Bool) (e first next : EndpointState) (t : ℕ) → e ≡ first → length first.pending < 64
    → OnOk r (Enters (state old) (state new) to None b valid) → OnErr r ((next ≡ e) × (new ≡ old)) → OnOk r (next ≡ record e { pending = e.pending ++ t ∷ [] }) → Stands (state new) next → KeepsOthers (state old) (state new) e.key → next ≡ record e { pending = next.pending } → WritesAlong (state old) (state new) first next
writes-submitted state r old new to b valid e first next t is few enters same after stands others rest =
    keeps-submitted state r old new e first next t is few same after stands others rest (went-submitted state r old new to b valid e next enters same)
