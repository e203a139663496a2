use Rattle.std.proofs.Common.{ap, sym, subst}
use Rattle.usb_device_endpoint.specs.EndpointState.{EndpointState}
use Rattle.usb_kernel.specs.Extends.{Extends}
use Rattle.usb_device_host.specs.HostState.{HostState}
use Rattle.usb_device_host.specs.HostFrames.{LineGoesOn}
use Rattle.usb_session_streams.proofs.AccountLemmas.{accounts-of, accounts-halt, of-is}
use Rattle.usb_session_calls.proofs.DeviceHosts.{halt-aside}
use Rattle.usb_session_streams.proofs.LinesGoOn.{line-halt}
use Rattle.usb_session_calls.proofs.HaltCode.{halt-made}
use Rattle.usb_session_calls.proofs.halting.clear_open.Goals as goal

pub returns-clause-keeps : goal.returns-clause-keeps
returns-clause-keeps c =
    let x = c.args.endpoint.now in record {
      line = subst (LineGoesOn c.args.host.now) (sym c.clear_halt.ensures.bus) (line-halt c.args.host.now x.device x.address);
      past = subst (λ (h : HostState). Extends c.args.host.now.kernel.past h.kernel.past) (sym c.clear_halt.ensures.bus) (halt-aside c.args.host.now x.device x.address).handles.goes;
      stands = c.clear_halt.ensures.stands;
      others = c.clear_halt.ensures.others;
      key = ap (λ (h : EndpointState). h.key) c.clear_halt.ensures.rest;
      maximum = ap (λ (h : EndpointState). h.maximum) c.clear_halt.ensures.rest;
      accounts =
          of-is _ _ _ _ _ _ _ c.clear_halt.ensures.bus (ap (λ (h : EndpointState). h.pending) c.clear_halt.ensures.rest)
          (accounts-of _ _ x.key x.pending (accounts-halt c.args.host.now x.device x.address));
    }

pub returns-clause-answered : goal.returns-clause-answered
returns-clause-answered c =
    halt-made c.args.host.now c.clear_halt.new.bus c.args.endpoint.now c.clear_halt.new.self c.args.line.now c.write_result.new.out c.write_result.result c.clear_halt.ensures.bus c.clear_halt.ensures.rest
    (rw (← c.clear_halt.ensures.result) c.write_result.ensures.text)
