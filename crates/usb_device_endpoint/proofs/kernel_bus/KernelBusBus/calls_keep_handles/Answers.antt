use Rattle.usb_device_endpoint.proofs.kernel_bus.KernelBusBus.calls_keep_handles.Goals as goal

-- it has no handles but endpoints
pub returns : goal.returns
returns g = record {
  law = record {
    submitted = λ s to deadline t. tt;
    refused = λ s to t errno. tt;
    discarded = λ s ticket. tt;
    abandoned = λ s ticket. tt;
    taken = λ s ticket. tt;
    closed = λ s key. tt;
    turned = λ s. tt;
    idled = λ s until. tt;
    halt_cleared = λ s device endpoint. tt;
  };
}
