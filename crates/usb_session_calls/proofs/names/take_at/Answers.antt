use Rattle.std.proofs.Common.{◌∙◌, arith}
use Rattle.usb_session_calls.proofs.NameLemmas.{named-beyond, freed-beyond, named-read, freed-written}
use Rattle.usb_session_calls.proofs.names.take_at.Goals as goal

pub returns-then-name-len-clause-taken : goal.returns-then-name-len-clause-taken
returns-then-name-len-clause-taken g c = named-beyond c.args.names.now.items c.args.name (omega arith)

pub returns-then-name-len-clause-rest : goal.returns-then-name-len-clause-rest
returns-then-name-len-clause-rest g c = freed-beyond c.args.names.now.items c.args.name (omega arith)

pub returns-clause-taken : goal.returns-clause-taken
returns-clause-taken g c =
    c.take.ensures.value ∙ named-read c.args.names.now.items c.args.name c.index_mut-place.result.now (omega arith) c.index_mut-place.ensures.value

pub returns-clause-rest : goal.returns-clause-rest
returns-clause-rest g c = freed-written c.args.names.now.items c.args.name c.take.new.self c.take.ensures.after
