use Rattle.std.proofs.Common.{ap, sym, subst}
use Rattle.usb_device_endpoint.specs.EndpointState.{EndpointState}
use Rattle.usb_kernel.specs.Extends.{Extends}
use Rattle.usb_device_host.specs.HostState.{HostState}
use Rattle.usb_device_host.specs.HostFrames.{LineGoesOn}
use Rattle.usb_device_host.proofs.FollowLemmas.{on-all_discarded}
use Rattle.usb_session_streams.proofs.AccountLemmas.{accounts-of, accounts-all_discarded, of-is}
use Rattle.usb_session_calls.proofs.SubmitCode.{cancel-made, line-all_discarded}
use Rattle.usb_session_calls.proofs.cancelling.cancel_open.Goals as goal

pub returns-clause-keeps : goal.returns-clause-keeps
returns-clause-keeps c = record {
  line = subst (LineGoesOn c.args.host.now) (sym c.cancel_all.ensures.bus) (line-all_discarded c.args.host.now c.args.endpoint.now.pending);
  past = subst (λ (h : HostState). Extends c.args.host.now.kernel.past h.kernel.past) (sym c.cancel_all.ensures.bus) (on-all_discarded c.args.host.now c.args.endpoint.now.pending).past;
  stands = c.cancel_all.ensures.stands;
  others = c.cancel_all.ensures.others;
  key = ap (λ (h : EndpointState). h.key) c.cancel_all.ensures.rest;
  maximum = ap (λ (h : EndpointState). h.maximum) c.cancel_all.ensures.rest;
  accounts =
      of-is _ _ _ _ _ _ _ c.cancel_all.ensures.bus (ap (λ (h : EndpointState). h.pending) c.cancel_all.ensures.rest)
      (accounts-of _ _ c.args.endpoint.now.key c.args.endpoint.now.pending (accounts-all_discarded c.args.host.now c.args.endpoint.now.pending));
}

pub returns-clause-answered : goal.returns-clause-answered
returns-clause-answered c =
    cancel-made c.args.host.now c.cancel_all.new.bus c.args.endpoint.now c.cancel_all.new.self c.args.line.now c.write_ok.new.out c.write_ok.result c.cancel_all.ensures.bus c.cancel_all.ensures.rest c.write_ok.ensures.text
