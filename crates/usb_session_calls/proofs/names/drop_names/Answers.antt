use Rattle.std.proofs.Common.{◌∷◌, []}
use Rattle.usb_session_calls.proofs.NameLemmas.{none-front, none-last}
use Rattle.usb_session_calls.proofs.names.drop_names.Goals as goal

pub places-preserved : goal.places-preserved
places-preserved g c =
    none-front c.places.names.items c.pop.new.self.items (c.in-Some.place ∷ []) c.in-Some.ensures.items c.places.invariant

pub unreachable-requires : goal.unreachable-requires
unreachable-requires g c =
    c.in_default-place.not-None (none-last c.places.names.items c.pop.new.self.items c.in-Some.place c.in-Some.ensures.items c.places.invariant)
