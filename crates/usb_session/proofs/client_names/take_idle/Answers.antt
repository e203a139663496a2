use Rattle.std.proofs.Common.{◌∙◌, sym, ap}
use Rattle.usb_session_calls.specs.Names.{set_name}
use Rattle.usb_session.proofs.TakenOut.{free_again, same-none}
use Rattle.usb_session.proofs.Moves.{put_same}
use Rattle.usb_session.proofs.client_names.take_idle.Goals as goal

-- nothing is open under the name
pub returns-in_default-clause-stays : goal.returns-in_default-clause-stays
returns-in_default-clause-stays g c = same-none _ _ _ _ c.take_at.ensures.taken c.in_default.is c.take_at.ensures.rest

-- transfers are pending
pub put_at-requires : goal.put_at-requires
put_at-requires g c = record { free = free_again _ _ _ _ _ c.take_at.ensures.taken c.in-Some.is c.take_at.ensures.rest }

pub returns-then-pending-gt0-clause-stays : goal.returns-then-pending-gt0-clause-stays
returns-then-pending-gt0-clause-stays g c =
    put_same _ _ _ c.args.number c.in-Some.endpoint (sym c.take_at.ensures.taken ∙ c.in-Some.is) c.take_at.ensures.rest c.put_at.ensures.after

-- the direction is another
pub put_at-requires-in-Err : goal.put_at-requires-in-Err
put_at-requires-in-Err g c = record { free = free_again _ _ _ _ _ c.take_at.ensures.taken c.in-Some.is c.take_at.ensures.rest }

pub returns-in-Err-clause-stays : goal.returns-in-Err-clause-stays
returns-in-Err-clause-stays g c =
    put_same _ _ _ c.args.number c.in-Some.endpoint (sym c.take_at.ensures.taken ∙ c.in-Some.is) c.take_at.ensures.rest
    (c.put_at-in-Err.ensures.after ∙ ap (set_name c.take_at.new.names.items c.args.number) c.in-Err.ensures.back)
