use Rattle.std.proofs.Common.{ap, sym, subst}
use Rattle.usb_kernel.specs.Extends.{Extends}
use Rattle.usb_device_host.specs.HostState.{HostState}
use Rattle.usb_device_host.specs.HostFrames.{LineGoesOn}
use Rattle.usb_device_host.proofs.FollowLemmas.{on-all_discarded}
use Rattle.usb_io.specs.Readers.{ReaderState}
use Rattle.usb_session_streams.proofs.AccountLemmas.{accounts-of, accounts-all_discarded, of-is}
use Rattle.usb_session_calls.proofs.SubmitCode.{line-all_discarded}
use Rattle.usb_session_calls.proofs.ReaderCode.{reader-cancelled}
use Rattle.usb_session_calls.proofs.reader_settings.cancel_reader_open.Goals as goal

pub returns-clause-keeps : goal.returns-clause-keeps
returns-clause-keeps c =
    let tickets = c.args.reader.now.endpoint.pending in
    record {
      line = subst (LineGoesOn c.args.host.now) (sym c.cancel_all.ensures.bus) (line-all_discarded c.args.host.now tickets);
      past = subst (λ (h : HostState). Extends c.args.host.now.kernel.past h.kernel.past) (sym c.cancel_all.ensures.bus) (on-all_discarded c.args.host.now tickets).past;
      stands = c.cancel_all.ensures.stands;
      others = c.cancel_all.ensures.others;
      key = ap (λ (z : ReaderState). z.endpoint.key) c.cancel_all.ensures.reader;
      maximum = ap (λ (z : ReaderState). z.endpoint.maximum) c.cancel_all.ensures.reader;
      accounts =
          of-is _ _ _ _ _ _ _ c.cancel_all.ensures.bus (ap (λ (z : ReaderState). z.endpoint.pending) c.cancel_all.ensures.reader)
          (accounts-of _ _ c.args.reader.now.endpoint.key tickets (accounts-all_discarded c.args.host.now tickets));
    }

pub returns-clause-answered : goal.returns-clause-answered
returns-clause-answered c =
    reader-cancelled c.args.host.now c.cancel_all.new.bus c.args.reader.now c.cancel_all.new.self c.args.line.now c.write_ok.new.out c.write_ok.result
    c.cancel_all.ensures.bus c.cancel_all.ensures.reader c.write_ok.ensures.text
