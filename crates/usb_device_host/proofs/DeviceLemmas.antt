-- Handles of open devices stand where these keep their counts.
use Rattle.std.proofs.Common.{ℕ, arith}
use Rattle.usb_device_host.specs.HostState.{HostState}
use Rattle.usb_device_host.specs.HandleStates.{StandsDevice}
use Rattle.usb_device_ledger.proofs.DeviceLemmas.{KeepsCounts, KeepsOpened, counted-new}

pub counts-stands : (h g : HostState) (key : ℕ) → KeepsCounts h.devices g.devices → StandsDevice h key → StandsDevice g key
counts-stands h g key keeps stands =
    let c = counted-new h.devices g.devices key stands.device keeps stands.at in
    record { device = c.device; at = c.at; open_handle = omega (arith, c.handles, stands.open_handle) }

pub kept-stands : (h g : HostState) (key : ℕ) → KeepsOpened h.devices g.devices → StandsDevice h key → StandsDevice g key
kept-stands h g key keeps stands =
    let c = keeps.stays key stands.device stands.at stands.open_handle in
    record { device = c.device; at = c.at; open_handle = omega (arith, c.handles, stands.open_handle) }
