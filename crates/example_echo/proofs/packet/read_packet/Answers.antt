-- The first call that is refused gives the error. Else the packet's transfer is waited for.
use Rattle.std.proofs.Common.{◌∙◌, ap, Ok}
use Rattle.std.proofs.lemmas.Result.{err_from_is_err_and}
use Rattle.usb_device.proofs.InterfaceAnswers.{not_opened, claim_tried_on}
use Rattle.example_echo.proofs.ClaimLemmas.{claims}
use Rattle.example_echo.proofs.PacketLemmas.{packet-refused, endpoint-refused, endpoint-opened, packet-came}
use Rattle.example_echo.proofs.packet.read_packet.Goals.{in-Ok, in-Err}
use Rattle.example_echo.proofs.packet.read_packet.Goals as goal

pub returns-in_err-device : goal.returns-in_err-device
returns-in_err-device c =
    let err = err_from_is_err_and c.from_residual-in_err-device.result c.from_residual-in_err-device.ensures.1 in
    record { reads = rw (err.1, err.2) (packet-refused c.args.host.now c.open_at.new.host _ (not_opened _ _ _ _ _ _ c.in_err-device.ensures.tried)) }

pub returns-in_err-interface : goal.returns-in_err-interface
returns-in_err-interface c =
    let err = err_from_is_err_and c.from_residual-in_err-interface.result c.from_residual-in_err-interface.ensures.1 in
    record {
      reads = rw (err.1, err.2) (packet-refused c.args.host.now c.into_interface.new.host _
          (claim_tried_on _ _ _ _ _ _ _ _ _ c.in_ok-device.ensures.tried c.in_ok-device.ensures.host c.in_err-interface.ensures.claims));
    }

pub returns-in_err-endpoint : goal.returns-in_err-endpoint
returns-in_err-endpoint c =
    let err = err_from_is_err_and c.from_residual-in_err-endpoint.result c.from_residual-in_err-endpoint.ensures.1 in
    record {
      reads = rw (err.1, err.2) (endpoint-refused _ _ _ _ _
          (claims _ _ _ _ _ _ _ c.in_ok-device.ensures.tried c.in_ok-device.ensures.host c.in_ok-interface.ensures.claims)
          c.in_err-endpoint.ensures.opens);
    }

pub returns : goal.returns
returns c = elim c.match-submit.branch [
  | in-Ok w ↦ record {
    reads = rw w.done-is (endpoint-opened _ _ _ _ _
        (claims _ _ _ _ _ _ _ c.in_ok-device.ensures.tried c.in_ok-device.ensures.host c.in_ok-interface.ensures.claims)
        c.in_ok-endpoint.ensures.opens
        ∙ ap Ok (packet-came c.into_endpoint.new.host c.submit.new.bus c.match-submit.host c.close.new.bus
        c.in_ok-endpoint.endpoint c.submit.new.self c.match-submit.endpoint c.in_ok-buffer.buffer _
        c.in_ok-buffer.ensures.empty (ap (λ e. e.pending) c.in_ok-endpoint.ensures.opens.opens.endpoint)
        w.in-Ok.ensures.pending w.in-Ok.ensures.bus
        (rw (w.host-is, w.endpoint-is) w.wait_next_complete.ensures.waited) c.close.ensures.bus));
  }
  | in-Err w ↦ record { reads = rw w.done-is tt }
]
