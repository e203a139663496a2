-- The tickets of a writer carry what its calls wrote.
use Rattle.std.specs.Prelude.{min, nat_lt, ◌-◌, ◌==◌, ◌&&◌, ◌%◌, cond}
use Rattle.std.proofs.Common.{◌∙◌, ◌≡◌, ◌≢◌, inr, ℕ, ◌<◌, List, [], ◌∷◌, ◌++◌, length, append-nil, append_assoc, Option, Some, None, Result, Ok, Err, OnOk, OnErr, true, false, Bool, refl, ap, sym, subst, take, unwrap_or, arith}
use Rattle.std.proofs.lemmas.Bool.{lt-leb, ne_eqb, eqb-true, false≢true}
use Rattle.usb_xfer.specs.BufferState.{BufferState}
use Rattle.usb_xfer.specs.declared.transfer.Completion.{Completion}
use Rattle.usb_kernel.specs.declared.event.Event.{Event}
use Rattle.usb_kernel.specs.declared.event.Body.TheVariants.{Sent}
use Rattle.usb_kernel.specs.Tickets.{tickets}
use Rattle.usb_kernel.specs.Extends.{Extends}
use Rattle.usb_kernel.specs.Submissions.{body_of}
use Rattle.usb_kernel.specs.Submits.{submit_or_refuse}
use Rattle.usb_kernel.specs.WholePackets.{is_whole}
use Rattle.usb_kernel.proofs.Extends.{ticket-stays, extends-event}
use Rattle.usb_device_endpoint.specs.BusState.{BusState}
use Rattle.usb_device_endpoint.specs.Routes.{submission_of}
use Rattle.usb_device_endpoint.specs.EndpointState.{EndpointState, route_of}
use Rattle.usb_device_endpoint.specs.Submits.{Enters}
use Rattle.usb_io.specs.Readers.{no_bytes}
use Rattle.usb_device_endpoint.specs.BusCalls.{BusCalls}
use Rattle.usb_io.specs.Writers.{WriterState, Writing, writing, out_buffer, empty_buffer, send, sent, sent_end, kept_buffer, with_taken, KeepsWriter}
use Rattle.usb_io.specs.WriteAnswers.{accepted, accepted_count, accepts}
use Rattle.usb_io.specs.Writes.{Call, Accept, Flush, Finish, Written, written, flushes, ending, accepts as accepts_of}
use Rattle.usb_io.specs.Carried.{Carries, AllCarry, HandleCarries, CarriesOn, TellsOn, TellsShort, sent_bytes, ended_bytes, full_bytes, submitted_calls}
use Rattle.usb_io.specs.Streams.{Each, IsAscending}
use Rattle.usb_io.proofs.Following.{slice_get-last, ascending-push}
use Rattle.std.proofs.lemmas.Option.{slice_get_within}

-- whatever comes
carries-later : (old new : List Event) (d e m t : ℕ) (b : List ℕ) → Extends old new → Carries old d e m t b → Carries new d e m t b
carries-later old new d e m t b extends is = record { s = is.s; at = ticket-stays old new t is.s extends is.at; device = is.device; endpoint = is.endpoint; maximum = is.maximum; body = is.body }

pub all-later : (old new : List Event) (d e m : ℕ) (ts : List ℕ) (bs : List (List ℕ)) → Extends old new → AllCarry old d e m ts bs → AllCarry new d e m ts bs
all-later old new d e m [] [] extends all = tt
all-later old new d e m [] (b ∷ bs) extends all = all
all-later old new d e m (t ∷ ts) [] extends all = all
all-later old new d e m (t ∷ ts) (b ∷ bs) extends all = (carries-later old new d e m t b extends all.0, all-later old new d e m ts bs extends all.1)

-- one more ticket
pub all-push : (past : List Event) (d e m : ℕ) (ts : List ℕ) (bs : List (List ℕ)) (t : ℕ) (b : List ℕ) → AllCarry past d e m ts bs → Carries past d e m t b → AllCarry past d e m (ts ++ t ∷ []) (bs ++ b ∷ [])
all-push past d e m [] [] t b all is = (is, tt)
all-push past d e m [] (x ∷ bs) t b all is = absurd all
all-push past d e m (u ∷ ts) [] t b all is = absurd all
all-push past d e m (u ∷ ts) (x ∷ bs) t b all is = (all.0, all-push past d e m ts bs t b all.1 is)

own-body : (e : ℕ) (b : BufferState) → e < 128 → body_of e b ≡ Sent b.bytes
own-body e b output = rw (lt-leb 128 e output) refl

own-ticket : (past : List Event) (e : EndpointState) (b : BufferState) (refusal : Option ℕ) → e.address < 128 → Carries (submit_or_refuse (length (tickets past)) (submission_of (route_of e) None b) refusal ∷ past) e.device e.address e.maximum (length (tickets past)) b.bytes
own-ticket past e b None output = record { s = _; at = slice_get-last (tickets past) _; device = refl; endpoint = refl; maximum = refl; body = own-body e.address b output }
own-ticket past e b (Some errno) output = record { s = _; at = slice_get-last (tickets past) _; device = refl; endpoint = refl; maximum = refl; body = own-body e.address b output }

all-below : (past : List Event) (d e m : ℕ) (ts : List ℕ) (bs : List (List ℕ)) → AllCarry past d e m ts bs → Each (λ u. u < length (tickets past)) ts
all-below past d e m [] [] all = tt
all-below past d e m [] (b ∷ bs) all = tt
all-below past d e m (t ∷ ts) [] all = absurd all
all-below past d e m (t ∷ ts) (b ∷ bs) all = (slice_get_within (tickets past) t all.0.s all.0.at, all-below past d e m ts bs all.1)

-- a submission
pub carries_submitted : (old new : BusState) (e next : EndpointState) (b : BufferState) (valid : Bool) → e.address < 128 → Enters old new (route_of e) None b valid → next ≡ record e { pending = e.pending ++ length (tickets old.past) ∷ [] } → CarriesOn old new e next (b.bytes ∷ [])
carries_submitted old new e next b valid output enters is = record {
  maximum = ap (λ (e : EndpointState). e.maximum) is;
  all = λ taken transfers carry. (
    taken,
    length (tickets old.past) ∷ [],
    ap (λ (e : EndpointState). taken ++ e.pending) is ∙ sym (append_assoc taken e.pending (length (tickets old.past) ∷ [])),
    subst (λ (e : EndpointState). HandleCarries new.past e taken (transfers ++ b.bytes ∷ [])) (sym is) (more taken transfers carry),
  );
}
  where
    more : (taken : List ℕ) (transfers : List (List ℕ)) → HandleCarries old.past e taken transfers → HandleCarries new.past (record e { pending = e.pending ++ length (tickets old.past) ∷ [] }) taken (transfers ++ b.bytes ∷ [])
    more taken transfers carry =
        let here = all-later old.past (submit_or_refuse (length (tickets old.past)) (submission_of (route_of e) None b) enters.refusal ∷ old.past) e.device e.address e.maximum (taken ++ e.pending) transfers (extends-event old.past _) carry.0 in
        let pushed = all-push (submit_or_refuse (length (tickets old.past)) (submission_of (route_of e) None b) enters.refusal ∷ old.past) e.device e.address e.maximum (taken ++ e.pending) transfers (length (tickets old.past)) b.bytes here (own-ticket old.past e b enters.refusal output) in
        let up = ascending-push (taken ++ e.pending) (length (tickets old.past)) carry.1 (all-below old.past e.device e.address e.maximum (taken ++ e.pending) transfers carry.0) in (
          subst (λ (past : List Event). AllCarry past e.device e.address e.maximum (taken ++ (e.pending ++ length (tickets old.past) ∷ [])) (transfers ++ b.bytes ∷ [])) (sym enters.ticket.past)
              (subst (λ (ts : List ℕ). AllCarry (submit_or_refuse (length (tickets old.past)) (submission_of (route_of e) None b) enters.refusal ∷ old.past) e.device e.address e.maximum ts (transfers ++ b.bytes ∷ [])) (append_assoc taken e.pending (length (tickets old.past) ∷ [])) pushed),
          subst IsAscending (append_assoc taken e.pending (length (tickets old.past) ∷ [])) up,
        )

-- nothing happens
pub carries_same : (b : BusState) (e : EndpointState) → CarriesOn b b e e []
carries_same b e = record { maximum = refl; all = λ taken transfers carry. (taken, [], sym (append-nil (taken ++ e.pending)), (rw (append-nil transfers) carry.0, carry.1)) }

-- a wait in vain
pub carries_missed : (old new : BusState) (e next : EndpointState) → Extends old.past new.past → next ≡ e → CarriesOn old new e next []
carries_missed old new e next extends is = record {
  maximum = ap (λ (e : EndpointState). e.maximum) is;
  all = λ taken transfers carry. (
    taken,
    [],
    ap (λ (e : EndpointState). taken ++ e.pending) is ∙ sym (append-nil (taken ++ e.pending)),
    subst (λ (e : EndpointState). HandleCarries new.past e taken (transfers ++ [])) (sym is) (rw (append-nil transfers) (all-later old.past new.past e.device e.address e.maximum (taken ++ e.pending) transfers extends carry.0), carry.1),
  );
}

-- the front is taken
pub carries_taken : (old new : BusState) (e next : EndpointState) (front : ℕ) (others : List ℕ) → Extends old.past new.past → e.pending ≡ front ∷ others → next ≡ record e { pending = others } → CarriesOn old new e next []
carries_taken old new e next front others extends was is = record {
  maximum = ap (λ (e : EndpointState). e.maximum) is;
  all = λ taken transfers carry. (
    taken ++ front ∷ [],
    [],
    ap (λ (e : EndpointState). (taken ++ front ∷ []) ++ e.pending) is ∙ sym (same taken) ∙ sym (append-nil (taken ++ e.pending)),
    subst (λ (e : EndpointState). HandleCarries new.past e (taken ++ front ∷ []) (transfers ++ [])) (sym is) (moved taken transfers carry),
  );
}
  where
    same : (taken : List ℕ) → taken ++ e.pending ≡ (taken ++ front ∷ []) ++ others
    same taken = ap (λ (ts : List ℕ). taken ++ ts) was ∙ sym (append_assoc taken (front ∷ []) others)

    moved : (taken : List ℕ) (transfers : List (List ℕ)) → HandleCarries old.past e taken transfers → HandleCarries new.past (record e { pending = others }) (taken ++ front ∷ []) (transfers ++ [])
    moved taken transfers carry =
        let here = all-later old.past new.past e.device e.address e.maximum (taken ++ e.pending) transfers extends carry.0 in
        (rw (append-nil transfers) (subst (λ (ts : List ℕ). AllCarry new.past e.device e.address e.maximum ts transfers) (same taken) here), subst IsAscending (same taken) carry.1)

-- one step after another
pub carries_trans : (x y z : BusState) (a b c : EndpointState) (first second : List (List ℕ)) → CarriesOn x y a b first → CarriesOn y z b c second → CarriesOn x z a c (first ++ second)
carries_trans x y z a b c first second one two = record {
  maximum = two.maximum ∙ one.maximum;
  all = λ taken transfers carry. (
      let mid = one.all taken transfers carry in
      let last = two.all mid.0 (transfers ++ first) mid.3 in
      (last.0, mid.1 ++ last.1, last.2 ∙ ap (λ (ts : List ℕ). ts ++ last.1) mid.2 ∙ append_assoc (taken ++ a.pending) mid.1 last.1, subst (λ (bs : List (List ℕ)). HandleCarries z.past c last.0 bs) (append_assoc transfers first second) last.3)
      );
}

-- a call of a writer that carries on so counts as these calls, where they write as much
pub tells_from : (old new : BusState) (w w' : WriterState) (more : List (List ℕ)) (calls : List Call) → CarriesOn old new w.endpoint w'.endpoint more → w'.size ≡ w.size
    → ((before : List Call) → unwrap_or w.buffer [] ≡ (written w.endpoint.maximum w.size before).standing → ((written w.endpoint.maximum w.size (calls ++ before)).transfers ≡ (written w.endpoint.maximum w.size before).transfers ++ more) × ((written w.endpoint.maximum w.size (calls ++ before)).standing ≡ unwrap_or w'.buffer []))
    → TellsOn old new w w' calls
tells_from old new w w' more calls carries size writes h tells =
    let known = writes h.calls tells.stands in
    let next = carries.all h.taken (written w.endpoint.maximum w.size h.calls).transfers tells.carries in
    let same : written w'.endpoint.maximum w'.size (calls ++ h.calls) ≡ written w.endpoint.maximum w.size (calls ++ h.calls) = ap (λ m. written m w'.size (calls ++ h.calls)) carries.maximum ∙ ap (λ size. written w.endpoint.maximum size (calls ++ h.calls)) size in (
      record { taken = next.0; calls = calls ++ h.calls },
      next.1,
      refl,
      next.2,
      record {
        carries = subst (λ (bs : List (List ℕ)). HandleCarries new.past w'.endpoint next.0 bs) (sym known.0 ∙ ap (λ (x : Written). x.transfers) (sym same)) next.3;
        stands = sym known.1 ∙ ap (λ (x : Written). x.standing) (sym same);
      },
    )

-- takes alone count as no call
pub tells_drained : (old new : BusState) (w w' : WriterState) → CarriesOn old new w.endpoint w'.endpoint [] → w'.size ≡ w.size → unwrap_or w'.buffer [] ≡ unwrap_or w.buffer [] → TellsOn old new w w' []
tells_drained old new w w' carries size bytes = tells_from old new w w' [] [] carries size (λ before stands. (sym (append-nil _), sym stands ∙ sym bytes))

pub tells_same : (b : BusState) (w : WriterState) → TellsOn b b w w []
tells_same b w h tells = (h, [], refl, sym (append-nil (h.taken ++ w.endpoint.pending)), tells)

pub tells_trans : (x y z : BusState) (r s t : WriterState) (first second : List Call) → TellsOn x y r s first → TellsOn y z s t second → TellsOn x z r t (second ++ first)
tells_trans x y z r s t first second one two h tells =
    let mid = one h tells in
    let last = two mid.0 mid.4 in
    (last.0, mid.1 ++ last.1, last.2 ∙ ap (λ (cs : List Call). second ++ cs) mid.2 ∙ sym (append_assoc second first h.calls), last.3 ∙ ap (λ (ts : List ℕ). ts ++ last.1) mid.3 ∙ append_assoc (h.taken ++ r.endpoint.pending) mid.1 last.1, last.4)

-- an end of no bytes is one empty transfer
none-whole : (m : ℕ) → is_whole m 0 ≡ false
none-whole m = elim (nat_lt 0 m) as (λ v. (v && (nat_lt 0 0 && 0 % m == 0)) ≡ false) [ true ↦ refl | false ↦ refl ]

ended-is : (m : ℕ) (buffer : Option (List ℕ)) → ending m (unwrap_or buffer []) ≡ ended_bytes m buffer
ended-is m None = rw (none-whole m) refl
ended-is m (Some bytes) = refl

-- an end leaves the size, and no buffer stands
sent_end-leaves : {S : Type 0} (k : BusCalls S) (buffer : Option (List ℕ)) (w : Writing S) → ((sent_end k buffer w).writer.size ≡ w.writer.size) × ((sent_end k buffer w).writer.buffer ≡ None)
sent_end-leaves k None w = (refl, refl)
sent_end-leaves k (Some bytes) w =
    elim (is_whole w.writer.endpoint.maximum (length bytes)) as (λ v. ((cond v (send k empty_buffer (send k (out_buffer w.writer.size bytes) w)) (send k (out_buffer w.writer.size bytes) w)).writer.size ≡ w.writer.size) × ((cond v (send k empty_buffer (send k (out_buffer w.writer.size bytes) w)) (send k (out_buffer w.writer.size bytes) w)).writer.buffer ≡ None)) [
      | true ↦ (refl, refl)
      | false ↦ (refl, refl)
    ]

pub tells_ended : {S : Type 0} (k : BusCalls S) (old new : S) (w w' : WriterState) → writing new w' ≡ sent_end k w.buffer (writing old w) → CarriesOn (k.state old) (k.state new) w.endpoint w'.endpoint (ended_bytes w.endpoint.maximum w.buffer) → TellsOn (k.state old) (k.state new) w w' (Finish ∷ [])
tells_ended k old new w w' is carries =
    let leaves = sent_end-leaves k w.buffer (writing old w) in
    let size : w'.size ≡ w.size = ap (λ (x : Writing _). x.writer.size) is ∙ leaves.0 in
    let none : w'.buffer ≡ None = ap (λ (x : Writing _). x.writer.buffer) is ∙ leaves.1 in
    tells_from (k.state old) (k.state new) w w' (ended_bytes w.endpoint.maximum w.buffer) (Finish ∷ []) carries size
    (λ before stands. (ap (λ bs. (written w.endpoint.maximum w.size before).transfers ++ ending w.endpoint.maximum bs) (sym stands) ∙ ap (λ bs. (written w.endpoint.maximum w.size before).transfers ++ bs) (ended-is w.endpoint.maximum w.buffer), ap (λ (b : Option (List ℕ)). unwrap_or b []) (sym none)))

pub tells_ended_ok : {S A E : Type 0} (r : Result A E) (k : BusCalls S) (old new : S) (w w' : WriterState) → OnOk r (writing new w' ≡ sent_end k w.buffer (writing old w)) → OnOk r (CarriesOn (k.state old) (k.state new) w.endpoint w'.endpoint (ended_bytes w.endpoint.maximum w.buffer)) → OnOk r (TellsOn (k.state old) (k.state new) w w' (Finish ∷ []))
tells_ended_ok (Ok x) k old new w w' is carries = tells_ended k old new w w' is carries
tells_ended_ok (Err e) k old new w w' is carries = is

-- what a flush submits
sent-parts : {S : Type 0} (k : BusCalls S) (buffer : Option (List ℕ)) (w : Writing S) → w.writer.buffer ≡ buffer → (before : Written) → unwrap_or buffer [] ≡ before.standing → ((sent k buffer w).writer.size ≡ w.writer.size) × ((flushes before).transfers ≡ before.transfers ++ sent_bytes buffer) × ((flushes before).standing ≡ unwrap_or (sent k buffer w).writer.buffer [])
sent-parts k None w was before stands = (refl, rw (← stands) (sym (append-nil before.transfers)), rw (← stands) (ap (λ (b : Option (List ℕ)). unwrap_or b []) (sym was)))
sent-parts k (Some []) w was before stands = (refl, rw (← stands) (sym (append-nil before.transfers)), rw (← stands) (ap (λ (b : Option (List ℕ)). unwrap_or b []) (sym was)))
sent-parts k (Some (x ∷ xs)) w was before stands = (refl, rw (← stands) refl, rw (← stands) refl)

tells-flushed : {S : Type 0} (k : BusCalls S) (old new : S) (w w' : WriterState) → writing new w' ≡ sent k w.buffer (writing old w) → CarriesOn (k.state old) (k.state new) w.endpoint w'.endpoint (sent_bytes w.buffer) → TellsOn (k.state old) (k.state new) w w' (Flush ∷ [])
tells-flushed k old new w w' is carries =
    let size : w'.size ≡ w.size = ap (λ (x : Writing _). x.writer.size) is ∙ (sent-parts k w.buffer (writing old w) refl (record { transfers = []; standing = unwrap_or w.buffer [] }) refl).0 in
    tells_from (k.state old) (k.state new) w w' (sent_bytes w.buffer) (Flush ∷ []) carries size
    (λ before stands. (
    let parts = sent-parts k w.buffer (writing old w) refl (written w.endpoint.maximum w.size before) stands in
    (parts.1, parts.2 ∙ ap (λ (x : Writing _). unwrap_or x.writer.buffer []) (sym is))
    ))

-- a submission, of which nothing changes where memory is lacking
pub tells_submitted : {S E : Type 0} (r : Result (Unit {0}) E) (k : BusCalls S) (old new : S) (w w' : WriterState) → OnOk r (writing new w' ≡ sent k w.buffer (writing old w)) → OnOk r (CarriesOn (k.state old) (k.state new) w.endpoint w'.endpoint (sent_bytes w.buffer)) → OnErr r (writing new w' ≡ writing old w)
    → TellsOn (k.state old) (k.state new) w w' (submitted_calls r)
tells_submitted (Ok u) k old new w w' is carries same = tells-flushed k old new w w' is carries
tells_submitted (Err e) k old new w w' is carries same = subst (λ (x : Writing _). TellsOn (k.state old) (k.state x.bus) w x.writer []) (sym same) (tells_same (k.state old) w)

-- what a writer that took a front keeps of its bytes
kept-bytes : (size n : ℕ) (buffer : Option (List ℕ)) (room left : ℕ) → unwrap_or (kept_buffer size n buffer room left) [] ≡ unwrap_or buffer []
kept-bytes size n None room left =
    elim (room == size && nat_lt left n) as (λ v. unwrap_or {T = List ℕ} (cond (true && v) (Some []) None) [] ≡ []) [ true ↦ refl | false ↦ refl ]
kept-bytes size n (Some b) room left = refl

taken-is : (w w0 : WriterState) (next : EndpointState) (c : Completion) (others : List ℕ) (t : WriterState) → w ≡ w0 → next ≡ record w.endpoint { pending = others } → t ≡ with_taken c next.pending (record w { endpoint = next }) → t ≡ with_taken c others w0
taken-is w w0 next c others t same is kept = kept ∙ ap (λ (e : EndpointState). with_taken c e.pending (record w { endpoint = e })) is ∙ ap (with_taken c others) same

pub tells_taken : (old new : BusState) (w w0 : WriterState) (next : EndpointState) (c : Completion) (front : ℕ) (others : List ℕ) (t : WriterState) → w ≡ w0 → w.endpoint.pending ≡ front ∷ others → next ≡ record w.endpoint { pending = others } → t ≡ with_taken c next.pending (record w { endpoint = next }) → Extends old.past new.past → TellsOn old new w0 t []
tells_taken old new w w0 next c front others t same was is kept extends =
    let whole = taken-is w w0 next c others t same is kept in
    tells_drained old new w0 t (carries_taken old new w0.endpoint t.endpoint front others extends (ap (λ (w : WriterState). w.endpoint.pending) (sym same) ∙ was) (ap (λ (w : WriterState). w.endpoint) whole)) (ap (λ (w : WriterState). w.size) whole)
    (ap (λ (w : WriterState). unwrap_or w.buffer []) whole ∙ kept-bytes w0.size w0.n w0.buffer c.buffer.room (length others))

pub tells_missed : (old new : BusState) (w w0 : WriterState) (next : EndpointState) → w ≡ w0 → next ≡ w.endpoint → Extends old.past new.past → TellsOn old new w0 (record w { endpoint = next }) []
tells_missed old new w w0 next same is extends =
    let whole : record w { endpoint = next } ≡ w0 = ap (λ (e : EndpointState). record w { endpoint = e }) is ∙ same in
    subst (λ (t : WriterState). TellsOn old new w0 t []) (sym whole) (tells_drained old new w0 w0 (carries_missed old new w0.endpoint w0.endpoint extends refl) refl refl)

-- what a write submits and what stands then
accepted-parts : {S : Type 0} (k : BusCalls S) (c : List ℕ) (w : Writing S) (transfers : List (List ℕ)) → ((accepted k c w).writer.size ≡ w.writer.size) × (((accepts_of w.writer.size transfers c).transfers ≡ transfers ++ full_bytes w.writer.size c) × ((accepts_of w.writer.size transfers c).standing ≡ unwrap_or (accepted k c w).writer.buffer []))
accepted-parts k c w transfers =
    elim (length c == w.writer.size) as (λ v. ((cond {A = Writing _} v (send k (out_buffer w.writer.size c) w) (record w { writer = record w.writer { buffer = Some c } })).writer.size ≡ w.writer.size) × (((cond {A = Written} v (record { transfers = transfers ++ c ∷ []; standing = [] }) (record { transfers = transfers; standing = c })).transfers ≡ transfers ++ cond v (c ∷ []) []) × ((cond {A = Written} v (record { transfers = transfers ++ c ∷ []; standing = [] }) (record { transfers = transfers; standing = c })).standing ≡ unwrap_or (cond {A = Writing _} v (send k (out_buffer w.writer.size c) w) (record w { writer = record w.writer { buffer = Some c } })).writer.buffer []))) [
      | true ↦ (refl, (refl, refl))
      | false ↦ (refl, (sym (append-nil transfers), refl))
    ]

pub tells_accepted : {S : Type 0} (k : BusCalls S) (old new : S) (w w' : WriterState) (src : List ℕ) (n : ℕ) → n ≡ accepted_count src w → writing new w' ≡ accepts k src (writing old w) → CarriesOn (k.state old) (k.state new) w.endpoint w'.endpoint (full_bytes w.size (unwrap_or w.buffer [] ++ take (accepted_count src w) src)) → TellsOn (k.state old) (k.state new) w w' (Accept (take n src) ∷ [])
tells_accepted k old new w w' src n count is carries =
    let c = unwrap_or w.buffer [] ++ take (accepted_count src w) src in
    let size : w'.size ≡ w.size = ap (λ (x : Writing _). x.writer.size) is ∙ (accepted-parts k c (writing old w) []).0 in
    tells_from (k.state old) (k.state new) w w' (full_bytes w.size c) (Accept (take n src) ∷ []) carries size
    (λ before stands. (
    let parts = (accepted-parts k c (writing old w) (written w.endpoint.maximum w.size before).transfers).1 in
    let same : (written w.endpoint.maximum w.size before).standing ++ take n src ≡ c = ap (λ bs. bs ++ take n src) (sym stands) ∙ ap (λ n. unwrap_or w.buffer [] ++ take n src) count in
    let all = ap (accepts_of w.size (written w.endpoint.maximum w.size before).transfers) same in
    (ap (λ (w : Written). w.transfers) all ∙ parts.0, ap (λ (w : Written). w.standing) all ∙ parts.1 ∙ ap (λ (x : Writing _). unwrap_or x.writer.buffer []) (sym is))
    ))

pub carries_submitted_ok : {S A E : Type 0} (r : Result A E) (state : S → BusState) (old new : S) (e e0 next : EndpointState) (b : BufferState) (valid : Bool) → e ≡ e0 → e.address < 128 → OnOk r (Enters (state old) (state new) (route_of e) None b valid) → OnOk r (next ≡ record e { pending = e.pending ++ length (tickets (state old).past) ∷ [] }) → OnOk r (CarriesOn (state old) (state new) e0 next (b.bytes ∷ []))
carries_submitted_ok (Ok x) state old new e e0 next b valid same output enters is = subst (λ (e : EndpointState). CarriesOn (state old) (state new) e next (b.bytes ∷ [])) same (carries_submitted (state old) (state new) e next b valid output enters is)
carries_submitted_ok (Err x) state old new e e0 next b valid same output enters is = is

pub carries_none : (b : BusState) (e e0 : EndpointState) (more : List (List ℕ)) → e ≡ e0 → more ≡ [] → CarriesOn b b e0 e more
carries_none b e e0 more same none = rw none (subst (λ (e : EndpointState). CarriesOn b b e0 e []) (sym same) (carries_same b e0))

-- what is not a whole transfer is not submitted
pub full-none : (size : ℕ) (c : List ℕ) → length c ≢ size → full_bytes size c ≡ []
full-none size c apart = rw (ne_eqb (length c) size apart) refl

has-bytes : (m : ℕ) (bytes : List ℕ) → is_whole m (length bytes) ≡ true → no_bytes bytes ≡ false
has-bytes m [] whole = absurd (false≢true (sym (none-whole m) ∙ whole))
has-bytes m (b ∷ bytes) whole = refl

-- a buffer of whole packets was submitted, and the empty transfer that has to follow it
pub carries_ended : {S A E : Type 0} (r : Result A E) (state : S → BusState) (old mid new : S) (w0 w : WriterState) (m t : EndpointState) (bytes : List ℕ) → w ≡ w0 → w.buffer ≡ Some bytes → is_whole w.endpoint.maximum (length bytes) ≡ true → CarriesOn (state old) (state mid) w.endpoint m (bytes ∷ []) → OnOk r (CarriesOn (state mid) (state new) m t ([] ∷ [])) → OnOk r (CarriesOn (state old) (state new) w0.endpoint t (ended_bytes w0.endpoint.maximum w0.buffer))
carries_ended (Ok x) state old mid new w0 w m t bytes same was whole first second =
    subst (λ (w : WriterState). CarriesOn (state old) (state new) w.endpoint t (ended_bytes w.endpoint.maximum w.buffer)) same
    (rw (was, whole) (carries_trans (state old) (state mid) (state new) w.endpoint m t (bytes ∷ []) ([] ∷ []) first second))
carries_ended (Err x) state old mid new w0 w m t bytes same was whole first second = second

-- or it found no memory
pub tells_cut : {S A E : Type 0} (r : Result A E) (state : S → BusState) (old mid new : S) (w0 w m t : WriterState) (bytes : List ℕ) → w ≡ w0 → w.buffer ≡ Some bytes → is_whole w.endpoint.maximum (length bytes) ≡ true → CarriesOn (state old) (state mid) w.endpoint m.endpoint (bytes ∷ []) → m.size ≡ w.size → m.buffer ≡ None → OnErr r (writing new t ≡ writing mid m) → OnErr r (TellsShort (state old) (state new) w0 t)
tells_cut (Ok x) state old mid new w0 w m t bytes same was whole carries size none is = is
tells_cut (Err x) state old mid new w0 w m t bytes same was whole carries size none is =
    inr (
    subst (λ (w : WriterState). TellsOn (state old) (state new) w t (Flush ∷ [])) same
    (subst (λ (x : Writing _). TellsOn (state old) (state x.bus) w x.writer (Flush ∷ [])) (sym is)
    (tells_from (state old) (state mid) w m (bytes ∷ []) (Flush ∷ []) carries size (λ before stands. rest before (sym stands ∙ ap (λ (b : Option (List ℕ)). unwrap_or b []) was))))
    )
  where
    rest : (before : List Call) → (written w.endpoint.maximum w.size before).standing ≡ bytes → ((flushes (written w.endpoint.maximum w.size before)).transfers ≡ (written w.endpoint.maximum w.size before).transfers ++ bytes ∷ []) × ((flushes (written w.endpoint.maximum w.size before)).standing ≡ unwrap_or m.buffer [])
    rest before stands = rw (stands, none, has-bytes w.endpoint.maximum bytes whole) (refl, refl)

-- a buffer that is not full after a write's bytes came to it
pub not-full : (w : WriterState) (b c : BufferState) (src : List ℕ) (n free len size : ℕ) → b ≡ out_buffer w.size (unwrap_or w.buffer []) → c.bytes ≡ b.bytes ++ take n src → n ≡ min (length src) free → free ≡ b.room - length b.bytes → len ≡ length c.bytes → size ≡ w.size → len ≢ size → length (unwrap_or w.buffer [] ++ take (accepted_count src w) src) ≢ w.size
not-full w b c src n free len size fresh after count room measured same apart is =
    let bytes : b.bytes ≡ unwrap_or w.buffer [] = ap (λ (b : BufferState). b.bytes) fresh in
    let whole : b.room ≡ w.size = ap (λ (b : BufferState). b.room) fresh in
    let left : free ≡ w.size - length (unwrap_or w.buffer []) = room ∙ ap (λ r. r - length b.bytes) whole ∙ ap (λ bs. w.size - length bs) bytes in
    let fits : n ≡ accepted_count src w = count ∙ ap (min (length src)) left in
    let all : c.bytes ≡ unwrap_or w.buffer [] ++ take (accepted_count src w) src = after ∙ ap (λ bs. bs ++ take n src) bytes ∙ ap (λ n. unwrap_or w.buffer [] ++ take n src) fits in
    apart (measured ∙ ap length all ∙ is ∙ sym same)

-- an empty buffer is not submitted by a flush
pub none-sent : (bytes : List ℕ) → true ≡ (length bytes == 0) → sent_bytes (Some bytes) ≡ []
none-sent [] empty = refl
none-sent (b ∷ bytes) empty = absurd (let none : length (b ∷ bytes) ≡ 0 = eqb-true (length (b ∷ bytes)) 0 (sym empty) in omega arith)

-- what was set stays
pub keeps_same : (w : WriterState) → KeepsWriter w w
keeps_same w = record { n = refl; size = refl; timeout = refl; endpoint = refl }

pub keeps_trans : (r s t : WriterState) → KeepsWriter r s → KeepsWriter s t → KeepsWriter r t
keeps_trans r s t one two = record {
  n = two.n ∙ one.n;
  size = two.size ∙ one.size;
  timeout = two.timeout ∙ one.timeout;
  endpoint = two.endpoint ∙ ap (λ (e : EndpointState). record e { pending = t.endpoint.pending }) one.endpoint;
}
