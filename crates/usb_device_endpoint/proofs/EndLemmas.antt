-- The ends of tickets.
use Rattle.std.proofs.Common.{ℕ, arith, ◌≤◌, ◌≡◌, ◌≢◌, List, [], ◌∷◌, ◌++◌, length, Option, None, true, false, refl, ◌∙◌, ap, inl, inr}
use Rattle.std.proofs.lemmas.Bool.{eq-eqb}
use Rattle.std.specs.Prelude.{◌==◌, cond}
use Rattle.std.proofs.Math.ListN.{length-append}
use Rattle.usb_kernel.specs.declared.event.Event.{Event}
use Rattle.usb_kernel.specs.declared.event.Event.TheVariants.{Submit, Refuse, Packet, Ack, Echo, Fail, Discard, Reap, Unplug}
use Rattle.usb_kernel.specs.Tickets.{Ticket, tickets}
use Rattle.usb_device_endpoint.specs.BusState.{BusState, without_owner}
use Rattle.usb_device_endpoint.specs.Laws.{EndEnds, EndedStays, EnteredMoves, LaterMoves, EndMoves}
use Rattle.usb_device_endpoint.proofs.HandleLemmas.{with_owner-other}

without_owner-none : (owner : ℕ → Option ℕ) (t u : ℕ) → owner u ≡ None → without_owner owner t u ≡ None
without_owner-none owner t u none = elim (t == u) as (λ v. cond v None (owner u) ≡ None) [ true ↦ refl | false ↦ none ]

pub end_ends : EndEnds
end_ends b t = rw (eq-eqb t t refl) refl

longer : (ts : List Ticket) (t : Ticket) → length ts ≤ length (ts ++ t ∷ [])
longer ts t = let e = length-append ts (t ∷ []) in omega (arith, e)

fewer-event : (event : Event) (past : List Event) → length (tickets past) ≤ length (tickets (event ∷ past))
fewer-event (Submit t d e m body room deadline) past = longer (tickets past) _
fewer-event (Refuse t d e m body room errno) past = longer (tickets past) _
fewer-event (Packet d e b) past = omega arith
fewer-event (Ack d e) past = omega arith
fewer-event (Echo d o i) past = omega arith
fewer-event (Fail d e errno) past = omega arith
fewer-event (Discard t) past = omega arith
fewer-event (Reap t) past = omega arith
fewer-event (Unplug d) past = omega arith

fewer : (more past : List Event) → length (tickets past) ≤ length (tickets (more ++ past))
fewer [] past = omega arith
fewer (event ∷ more) past = let a = fewer more past in let b = fewer-event event (more ++ past) in omega (arith, a, b)

pub ended_stays : EndedStays
ended_stays old new t moved ended =
    let grown : length (tickets old.past) ≤ length (tickets new.past) = rw moved.past.is (fewer moved.past.more old.past) in
    record {
      is = let is = ended.is in omega (arith, grown, is);
      free =
          elim moved.owner [
            | inl same ↦ ap (λ (f : ℕ → Option ℕ). f t) same ∙ ended.free
            | inr other ↦
                elim other [
                  | inl gone ↦ ap (λ (f : ℕ → Option ℕ). f t) gone.1 ∙ without_owner-none old.owner gone.0 t ended.free
                  | inr came ↦
                      let ne : came.0 ≢ t = λ same. let is = ended.is in let le = came.2 in absurd (omega (arith, same, is, le)) in
                      ap (λ (f : ℕ → Option ℕ). f t) came.3 ∙ with_owner-other old.owner came.0 came.1 t ne ∙ ended.free
                ]
          ];
    }

pub entered_moves : EnteredMoves
entered_moves old new to deadline b refusal entered =
    record { past = record { more = _ ∷ []; is = entered.past }; owner = inr (inr (length (tickets old.past), to.key, omega arith, entered.owner)) }

pub later_moves : LaterMoves
later_moves old new later = record { past = later.past; owner = inl later.owner }

pub end_moves : EndMoves
end_moves old new t after =
    record { past = record { more = []; is = ap (λ (b : BusState). b.past) after }; owner = inr (inl (t, ap (λ (b : BusState). b.owner) after)) }
