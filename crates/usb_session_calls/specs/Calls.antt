-- The call of a line, by what it is made on.
use Rattle.std.specs.Prelude.{ℕ, Bool, true, false, List, [], length, Some, None}
use Rattle.usb_kernel_devices.specs.declared.step.KernelStep.{KernelStep}
use Rattle.usb_script_lines.specs.declared.item.Item.{Item}
use Rattle.usb_script_lines.specs.declared.item.Item.TheVariants as item
use Rattle.usb_session_calls.specs.declared.call.Call.{Call}
use Rattle.usb_session_calls.specs.declared.call.Call.TheVariants.{Setup, Steps, Now, Tree, Open, Close, Device, Interface, Endpoint, Reader, Writer, Client, Control, Future}
use Rattle.usb_session_calls.specs.declared.call.TreeCall.TheVariants as trees
use Rattle.usb_session_calls.specs.declared.call.OpenCall.TheVariants as opens
use Rattle.usb_session_calls.specs.declared.call.CloseCall.TheVariants as closes
use Rattle.usb_session_calls.specs.declared.call.DeviceCall.TheVariants as devices
use Rattle.usb_session_calls.specs.declared.call.InterfaceCall.TheVariants as interfaces
use Rattle.usb_session_calls.specs.declared.call.EndpointCall.TheVariants as endpoints
use Rattle.usb_session_calls.specs.declared.call.ReaderCall.TheVariants as readers
use Rattle.usb_session_calls.specs.declared.call.WriterCall.TheVariants as writers
use Rattle.usb_session_calls.specs.declared.call.ClientCall.TheVariants as clients
use Rattle.usb_session_calls.specs.declared.call.ControlCall.TheVariants as controls
use Rattle.usb_session_calls.specs.declared.call.FutureCall.TheVariants as futures

-- what each line asks for. A setup line took effect before the first call
unfoldable pub call_of : Item → Call
call_of (item.Device k bus address speed configuration descriptors) = Setup
call_of (item.Driver k number) = Setup
call_of (item.Attribute path name value) = Setup
call_of (item.Denied path name errno) = Setup
call_of (item.Child path name) = Setup
call_of (item.Link path name target) = Setup
call_of (item.Entry name path) = Setup
call_of (item.Root errno) = Setup
call_of (item.Uevent groups bytes) = Setup
call_of (item.Steps steps) = Steps steps
call_of item.Now = Now
call_of item.List = Tree trees.List
call_of item.Buses = Tree trees.Buses
call_of (item.Probe path) = Tree (trees.Probe path)
call_of (item.Match path selector) = Tree (trees.Match path selector)
call_of item.Hotplug = Tree trees.Hotplug
call_of (item.Open d bus address) = Open (opens.Device d bus address)
call_of (item.OpenPath d path) = Open (opens.Path d path)
call_of (item.CloneDevice name d) = Open (opens.CloneDevice name d)
call_of (item.Claim d number i) = Open (opens.Claim d number i false)
call_of (item.DetachAndClaim d number i) = Open (opens.Claim d number i true)
call_of (item.CloneInterface name i) = Open (opens.CloneInterface name i)
call_of (item.Endpoint e i address kind) = Open (opens.Endpoint e i address kind)
call_of (item.Reader r e size) = Open (opens.Reader r e size)
call_of (item.IntoInner e r) = Open (opens.ReaderInner e r)
call_of (item.Writer w e size) = Open (opens.Writer w e size)
call_of (item.WriterIntoInner e w) = Open (opens.WriterInner e w)
call_of (item.Client m out inp) = Open (opens.Client m out inp)
call_of (item.StartControlIn n target setup wanted timeout) = Open (opens.ControlIn n target setup wanted timeout)
call_of (item.StartControlOut n target setup bytes timeout) = Open (opens.ControlOut n target setup bytes timeout)
call_of (item.CloseDevice d) = Close (closes.Device d)
call_of (item.CloseInterface i) = Close (closes.Interface i)
call_of (item.Release i) = Close (closes.Release i)
call_of (item.CloseEndpoint e) = Close (closes.Endpoint e)
call_of (item.CloseReader r) = Close (closes.Reader r)
call_of (item.CloseWriter w) = Close (closes.Writer w)
call_of (item.CloseClient m) = Close (closes.Client m)
call_of (item.CloseFuture n) = Close (closes.Future n)
call_of (item.DeviceDescriptor d) = Device d devices.Descriptor
call_of (item.Descriptors d) = Device d devices.Descriptors
call_of (item.ActiveConfiguration d) = Device d devices.ActiveConfiguration
call_of (item.Speed d) = Device d devices.Speed
call_of (item.Reset d) = Device d devices.Reset
call_of (item.SetConfiguration d value) = Device d (devices.SetConfiguration value)
call_of (item.DetachDriver d number) = Device d (devices.DetachDriver number)
call_of (item.AttachDriver d number) = Device d (devices.AttachDriver number)
call_of (item.SetAltSetting i setting) = Interface i (interfaces.SetAltSetting setting)
call_of (item.GetAltSetting i) = Interface i interfaces.GetAltSetting
call_of (item.InterfaceDescriptor i) = Interface i interfaces.Descriptor
call_of (item.SubmitIn e n) = Endpoint e (endpoints.SubmitIn n None) []
call_of (item.SubmitOut e bytes) = Endpoint e (endpoints.SubmitOut bytes None) []
call_of (item.SubmitInWithDeadline e n timeout) = Endpoint e (endpoints.SubmitIn n (Some timeout)) []
call_of (item.SubmitOutWithDeadline e bytes timeout) = Endpoint e (endpoints.SubmitOut bytes (Some timeout)) []
call_of (item.Pending e) = Endpoint e endpoints.Pending []
call_of (item.Poll e) = Endpoint e endpoints.Poll []
call_of (item.Wait e timeout steps) = Endpoint e (endpoints.Wait timeout) steps
call_of (item.TransferIn e n timeout steps) = Endpoint e (endpoints.TransferIn n timeout) steps
call_of (item.TransferOut e bytes timeout steps) = Endpoint e (endpoints.TransferOut bytes timeout) steps
call_of (item.Cancel e) = Endpoint e endpoints.Cancel []
call_of (item.ClearHalt e) = Endpoint e endpoints.ClearHalt []
call_of (item.Read framing r most steps) = Reader r (readers.Read framing most) steps
call_of (item.PollRead framing r most) = Reader r (readers.PollRead framing most) []
call_of (item.FillBuf framing r steps) = Reader r (readers.FillBuf framing) steps
call_of (item.PollFillBuf framing r) = Reader r (readers.PollFillBuf framing) []
call_of (item.Consume framing r n) = Reader r (readers.Consume framing n) []
call_of (item.IsEnd r) = Reader r readers.IsEnd []
call_of (item.ConsumeEnd r) = Reader r readers.ConsumeEnd []
call_of (item.SetNumTransfers r n) = Reader r (readers.SetNumTransfers n) []
call_of (item.SetReadTimeout r timeout) = Reader r (readers.SetReadTimeout timeout) []
call_of (item.CancelReader r) = Reader r readers.Cancel []
call_of (item.ClearReaderHalt r) = Reader r readers.ClearHalt []
call_of (item.Write w bytes steps) = Writer w (writers.Write bytes) steps
call_of (item.PollWrite w bytes) = Writer w (writers.PollWrite bytes) []
call_of (item.Submit w) = Writer w writers.Submit []
call_of (item.SubmitEnd w) = Writer w writers.SubmitEnd []
call_of (item.Flush w steps) = Writer w writers.Flush steps
call_of (item.PollFlush w) = Writer w writers.PollFlush []
call_of (item.FlushEnd w steps) = Writer w writers.FlushEnd steps
call_of (item.PollFlushEnd w) = Writer w writers.PollFlushEnd []
call_of (item.SetWriterTransfers w n) = Writer w (writers.SetNumTransfers n) []
call_of (item.SetWriteTimeout w timeout) = Writer w (writers.SetWriteTimeout timeout) []
call_of (item.Request m body steps) = Client m (clients.Request body) steps
call_of (item.Response m steps) = Client m clients.Response steps
call_of (item.Outstanding m) = Client m clients.Outstanding []
call_of (item.ControlIn target setup wanted timeout steps) = Control (controls.In target setup wanted timeout) steps
call_of (item.ControlOut target setup bytes timeout steps) = Control (controls.Out target setup bytes timeout) steps
call_of (item.GetDescriptor d kind index language timeout steps) = Control (controls.Descriptor d kind index language timeout) steps
call_of (item.SupportedLanguages d timeout steps) = Control (controls.Languages d timeout) steps
call_of (item.StringDescriptor d index language timeout steps) = Control (controls.Text d index language timeout) steps
call_of (item.PollFuture n) = Future n futures.Poll
call_of (item.WaitFuture n steps) = Future n (futures.Wait steps)

-- the steps that a call has from its line
abbrev pub steps_of : Call → List KernelStep
steps_of (Steps steps) = steps
steps_of (Endpoint e call steps) = steps
steps_of (Reader r call steps) = steps
steps_of (Writer w call steps) = steps
steps_of (Client m call steps) = steps
steps_of (Control call steps) = steps
steps_of (Future n (futures.Wait steps)) = steps
steps_of call = []

-- how many places of the kernel a call may use: one for each of its steps, and one for a reset
abbrev pub places_of : Call → ℕ
places_of (Device d devices.Reset) = 1
places_of call = length (steps_of call)

-- whether it hands in a control transfer, or is made on one that is on its way
abbrev pub is_of_control : Call → Bool
is_of_control (Control call steps) = true
is_of_control (Future n call) = true
is_of_control (Open (opens.ControlIn n target setup wanted timeout)) = true
is_of_control (Open (opens.ControlOut n target setup bytes timeout)) = true
is_of_control (Close (closes.Future n)) = true
is_of_control call = false

-- whether it may answer one
abbrev pub answers_control : Call → Bool
answers_control (Control call steps) = true
answers_control (Future n call) = true
answers_control call = false
