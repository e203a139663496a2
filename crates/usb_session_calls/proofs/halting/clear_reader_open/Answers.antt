use Rattle.std.proofs.Common.{ap}
use Rattle.usb_device_endpoint.specs.EndpointState.{EndpointState}
use Rattle.usb_io.specs.Reads.{reading}
use Rattle.usb_session_streams.proofs.ReadsGoOn.{halt-came, halt-goes}
use Rattle.usb_session_calls.proofs.ReaderCode.{reader-halt-made}
use Rattle.usb_session_calls.proofs.halting.clear_reader_open.Goals as goal

pub returns-clause-keeps : goal.returns-clause-keeps
returns-clause-keeps c =
    let old = reading c.args.host.now c.args.reader.now in
    let new = reading c.clear_of.new.host c.clear_of.new.reader in
    let on = halt-goes c.clear_of.result old new c.clear_of.ensures.result c.clear_of.ensures.host c.clear_of.ensures.ok c.clear_of.ensures.err in
    record {
      line = on.line;
      past = on.past;
      stands = c.clear_of.ensures.stands;
      others = c.clear_of.ensures.others;
      key = ap (λ (h : EndpointState). h.key) on.endpoint;
      maximum = ap (λ (h : EndpointState). h.maximum) on.endpoint;
      accounts = on.accounts c.requires.stands.key_is_open;
    }

pub returns-clause-answered : goal.returns-clause-answered
returns-clause-answered c =
    let old = reading c.args.host.now c.args.reader.now in
    let new = reading c.clear_of.new.host c.clear_of.new.reader in
    reader-halt-made c.args.host.now c.clear_of.new.host c.args.reader.now c.clear_of.new.reader c.args.line.now
    c.write_result.new.out c.write_result.result
    (halt-came c.clear_of.result old new c.clear_of.ensures.result c.clear_of.ensures.host c.clear_of.ensures.ok c.clear_of.ensures.err)
    (rw (← c.clear_of.ensures.result) c.write_result.ensures.text)
