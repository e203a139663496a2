-- What the submission of a buffer does.
use Rattle.std.specs.Prelude.{ℕ, ◌≡◌, Bool, true, false, Option, Some, nat_le, if◌then◌else◌}
use Rattle.usb_xfer.specs.BufferState.{BufferState}
use Rattle.usb_xfer.specs.declared.transfer.Held.{Held}
use Rattle.usb_xfer.specs.declared.transfer.TransferData.{TransferData}
use Rattle.usb_xfer.specs.Transfers.{filled_transfer, buffer_held}
use Rattle.usb_kernel.specs.WholePackets.{is_whole}
use Rattle.usb_device_endpoint.specs.declared.route.Route.{Route}
use Rattle.usb_device_endpoint.specs.BusState.{BusState}
use Rattle.usb_device_endpoint.specs.BusCalls.{BusCalls}
use Rattle.usb_device_endpoint.specs.Submitted.{Entered}
use Rattle.usb_device_endpoint.specs.EndpointState.{EndpointState, route_of}

-- an IN endpoint, which has bit 7, is asked for whole packets. An OUT endpoint sends any bytes
abbrev pub is_valid : EndpointState → BufferState → Bool
is_valid e b = if nat_le 128 e.address then is_whole e.maximum b.requested else true

-- the transfer of a buffer that goes by a route
abbrev pub transfer_by : Route → BufferState → TransferData
transfer_by to b = filled_transfer to.endpoint to.kind b

-- a transfer that is valid is submitted, with a deadline or none. Another one is refused with 22
-- (EINVAL), whatever the kernel would answer
abbrev pub handed_over : {S : Type 0} → BusCalls S → S → Route → Option ℕ → TransferData → Bool → S
handed_over k old to deadline transfer valid =
    if valid then k.submitted old to deadline transfer else k.refused old to transfer 22

-- a bus after a buffer was handed in at an endpoint (e), with a deadline or none
abbrev pub entered : {S : Type 0} → BusCalls S → S → EndpointState → Option ℕ → BufferState → S
entered k old e deadline b =
    handed_over k old (route_of e) deadline (transfer_by (route_of e) b) (is_valid e b)

-- a buffer became the next ticket, with a deadline or none, which is refused with 22 where it is
-- not valid
pub record Enters (old new : BusState) (to : Route) (deadline : Option ℕ) (b : BufferState)
    (valid : Bool) : Type 0 where
  pub refusal : Option ℕ
  pub ticket : Entered old new to deadline b refusal
  pub invalid : valid ≡ false → refusal ≡ Some 22

-- so did the buffer that a transfer holds
abbrev pub HandsOver : BusState → BusState → Route → Option ℕ → Held → Bool → Type 0
HandsOver old new to deadline held valid =
    (b : BufferState) → buffer_held held ≡ Some b → Enters old new to deadline b valid
