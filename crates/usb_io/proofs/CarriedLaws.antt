-- What it means that a writer's tickets carry the transfers of its calls.
use Rattle.std.proofs.Common.{ℕ, ◌≡◌, List, [], ◌∷◌, ◌++◌, refl, ap, sym, subst, ◌∙◌, map}
use Rattle.usb_io.specs.Streams.{Byte, stream_of}
use Rattle.usb_io.specs.Writes.{Finish, written, packets_of, marks_of, NoMidFlush, after_writes}
use Rattle.usb_io.specs.CarriedLaws.{FreshTells, LaterTells, TicketsSayMarks, TicketsAreFramed}
use Rattle.usb_io.proofs.Carrying.{all-later}
use Rattle.usb_io.proofs.Messages.{messages_are_framed}
use Rattle.usb_io.proofs.Pieces.{packets_say_marks}

pub fresh_tells : FreshTells
fresh_tells past e size none = record { carries = rw none (tt, tt); stands = refl }

pub later_tells : LaterTells
later_tells old new w h extends tells = record {
  carries = (all-later old new w.endpoint.device w.endpoint.address w.endpoint.maximum (h.taken ++ w.endpoint.pending) (written w.endpoint.maximum w.size h.calls).transfers extends tells.carries.0, tells.carries.1);
  stands = tells.stands;
}

pub tickets_say_marks : TicketsSayMarks
tickets_say_marks past w h more some whole plain tells =
    let m = w.endpoint.maximum in
    let says = packets_say_marks m more h.calls some (subst (λ (size : ℕ). NoMidFlush m size h.calls) (sym whole) plain) in
    let same : stream_of m (packets_of m (written m w.size h.calls).transfers) ++ map Byte (written m w.size h.calls).standing ≡ marks_of h.calls = subst (λ (size : ℕ). stream_of m (packets_of m (written m size h.calls).transfers) ++ map Byte (written m size h.calls).standing ≡ marks_of h.calls) whole says in
    ((written m w.size h.calls).transfers, tells.carries, ap (λ (bytes : List ℕ). stream_of m (packets_of m (written m w.size h.calls).transfers) ++ map Byte bytes) tells.stands ∙ same)

pub tickets_are_framed : TicketsAreFramed
tickets_are_framed past w taken writes before more some whole ended tells =
    let m = w.endpoint.maximum in
    let framed = messages_are_framed m more before writes some (subst (λ (size : ℕ). (written m size before).standing ≡ []) (sym whole) ended) in
    let same : packets_of m (written m w.size (Finish ∷ after_writes writes before)).transfers ≡ packets_of m (written m w.size before).transfers ++ framed.0 = subst (λ (size : ℕ). packets_of m (written m size (Finish ∷ after_writes writes before)).transfers ≡ packets_of m (written m size before).transfers ++ framed.0) whole framed.1 in
    ((written m w.size (Finish ∷ after_writes writes before)).transfers, framed.0, tells.carries, same, framed.2)
