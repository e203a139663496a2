-- The calls whose sizes are those of a script.
use Rattle.std.proofs.Common.{◌≤◌, List, [], ◌∷◌, length}
use Rattle.usb_script_lines.specs.declared.item.Item.{Item}
use Rattle.usb_script_lines.specs.ItemKinds.{steps_in}
use Rattle.usb_session_calls.specs.Calls.{call_of}
use Rattle.usb_session_calls.specs.declared.call.Call.{Call}
use Rattle.usb_session_calls.specs.declared.call.Call.TheVariants as calls
use Rattle.usb_session_calls.specs.declared.call.OpenCall.{OpenCall}
use Rattle.usb_session_calls.specs.declared.call.OpenCall.TheVariants as opens
use Rattle.usb_session_calls.specs.declared.call.EndpointCall.{EndpointCall}
use Rattle.usb_session_calls.specs.declared.call.EndpointCall.TheVariants as endpoints
use Rattle.usb_session_calls.specs.declared.call.ControlCall.{ControlCall}
use Rattle.usb_session_calls.specs.declared.call.ControlCall.TheVariants as controls
use Rattle.usb_session_calls.specs.declared.call.FutureCall.{FutureCall}
use Rattle.usb_session_calls.specs.declared.call.FutureCall.TheVariants as futures
use Rattle.usb_session_sizes.proofs.Hosts.{AreStepsSized}

-- the transfers of readers and writers, and control transfers on their way
abbrev pub IsOpenSized : OpenCall → Type 0
IsOpenSized (opens.Reader r e size) = size ≤ 65536
IsOpenSized (opens.Writer w e size) = size ≤ 65536
IsOpenSized (opens.ControlIn n target setup wanted timeout) = wanted ≤ 65535
IsOpenSized (opens.ControlOut n target setup bytes timeout) = length bytes ≤ 65535
IsOpenSized call = Unit {0}

-- the transfers of an endpoint
abbrev pub IsTransferSized : EndpointCall → Type 0
IsTransferSized (endpoints.SubmitIn n timeout) = n ≤ 65536
IsTransferSized (endpoints.SubmitOut bytes timeout) = length bytes ≤ 65536
IsTransferSized (endpoints.TransferIn n timeout) = n ≤ 65536
IsTransferSized (endpoints.TransferOut bytes timeout) = length bytes ≤ 65536
IsTransferSized call = Unit {0}

-- control transfers that are waited for
abbrev pub IsControlSized : ControlCall → Type 0
IsControlSized (controls.In target setup wanted timeout) = wanted ≤ 65535
IsControlSized (controls.Out target setup bytes timeout) = length bytes ≤ 65535
IsControlSized call = Unit {0}

abbrev pub IsFutureSized : FutureCall → Type 0
IsFutureSized futures.Poll = Unit {0}
IsFutureSized (futures.Wait steps) = AreStepsSized steps

-- each call, with its steps
abbrev pub IsCallSized : Call → Type 0
IsCallSized (calls.Steps steps) = AreStepsSized steps
IsCallSized (calls.Open call) = IsOpenSized call
IsCallSized (calls.Endpoint e call steps) = IsTransferSized call × AreStepsSized steps
IsCallSized (calls.Reader r call steps) = AreStepsSized steps
IsCallSized (calls.Writer w call steps) = AreStepsSized steps
IsCallSized (calls.Client m call steps) = AreStepsSized steps
IsCallSized (calls.Control call steps) = IsControlSized call × AreStepsSized steps
IsCallSized (calls.Future n call) = IsFutureSized call
IsCallSized call = Unit {0}

-- a line by its call, and by its steps, which a call that is barred does alone
abbrev pub IsItemSized : Item → Type 0
IsItemSized item = IsCallSized (call_of item) × AreStepsSized (steps_in item)

abbrev pub AreItemsSized : List Item → Type 0
AreItemsSized [] = Unit {0}
AreItemsSized (item ∷ items) = IsItemSized item × AreItemsSized items
