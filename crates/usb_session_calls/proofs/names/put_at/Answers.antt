use Rattle.std.proofs.Common.{sym, ◌∙◌, arith}
use Rattle.std.proofs.lemmas.Option.{none-some}
use Rattle.usb_session_calls.proofs.NameLemmas.{free-within, free-read, set-written}
use Rattle.usb_session_calls.proofs.names.put_at.Goals as goal

pub index_mut-place-requires : goal.index_mut-place-requires
index_mut-place-requires g c =
    let within = free-within c.args.names.now.items c.args.name c.requires.free in omega arith

pub unreachable-requires : goal.unreachable-requires
unreachable-requires g c =
    none-some c.in-Some.field-0 (sym (free-read c.args.names.now.items c.args.name c.index_mut-place.result.now c.requires.free c.index_mut-place.ensures.value) ∙ sym c.replace.ensures.value ∙ c.in-Some.is)

pub returns : goal.returns
returns g c = record { after = set-written c.args.names.now.items c.args.name c.args.x c.replace.new.self c.replace.ensures.after }
