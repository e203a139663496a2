-- Which lines are calls on what is open or on the tree, and which of these are control transfers, or on interfaces, endpoints, readers, writers and clients of messages.
use Rattle.std.specs.Prelude.{Bool, true, false}
use Rattle.usb_script_lines.specs.declared.item.Item.{Item}
use Rattle.usb_script_lines.specs.declared.item.Item.TheVariants.{Device, Driver, Attribute, Denied, Child, Link, Entry, Root, Uevent, List, Buses, Probe, Match, Hotplug, OpenPath, Now, CloneInterface, CloseInterface, SetAltSetting, GetAltSetting, InterfaceDescriptor, Release, Endpoint, SubmitIn, SubmitOut, SubmitInWithDeadline, SubmitOutWithDeadline, Pending, Poll, Wait, TransferIn, TransferOut, Cancel, ClearHalt, CloseEndpoint, Reader, IntoInner, SetNumTransfers, SetReadTimeout, CancelReader, ClearReaderHalt, CloseReader, Read, PollRead, FillBuf, PollFillBuf, Consume, IsEnd, ConsumeEnd, Writer, WriterIntoInner, SetWriterTransfers, SetWriteTimeout, CloseWriter, Write, PollWrite, Submit, SubmitEnd, Flush, PollFlush, FlushEnd, PollFlushEnd, Client, Request, Response, Outstanding, CloseClient, ControlIn, ControlOut, GetDescriptor, SupportedLanguages, StringDescriptor, StartControlIn, StartControlOut, PollFuture, WaitFuture, CloseFuture, Steps}

-- those on an endpoint: they hand a transfer in, ask for one, wait, cancel, clear its halt or close
abbrev pub is_of_endpoint : Item → Bool
is_of_endpoint (SubmitIn e n) = true
is_of_endpoint (SubmitOut e bytes) = true
is_of_endpoint (SubmitInWithDeadline e n timeout) = true
is_of_endpoint (SubmitOutWithDeadline e bytes timeout) = true
is_of_endpoint (Pending e) = true
is_of_endpoint (Poll e) = true
is_of_endpoint (Wait e timeout steps) = true
is_of_endpoint (TransferIn e n timeout steps) = true
is_of_endpoint (TransferOut e bytes timeout steps) = true
is_of_endpoint (Cancel e) = true
is_of_endpoint (ClearHalt e) = true
is_of_endpoint (CloseEndpoint e) = true
is_of_endpoint item = false

-- those by which a reader is made of an endpoint, set, cancelled or closed
abbrev pub sets_reader : Item → Bool
sets_reader (Reader r e size) = true
sets_reader (IntoInner e r) = true
sets_reader (SetNumTransfers r n) = true
sets_reader (SetReadTimeout r timeout) = true
sets_reader (CancelReader r) = true
sets_reader (ClearReaderHalt r) = true
sets_reader (CloseReader r) = true
sets_reader item = false

-- those on a reader: these, and those that read
abbrev pub is_of_reader : Item → Bool
is_of_reader (Read framing r most steps) = true
is_of_reader (PollRead framing r most) = true
is_of_reader (FillBuf framing r steps) = true
is_of_reader (PollFillBuf framing r) = true
is_of_reader (Consume framing r n) = true
is_of_reader (IsEnd r) = true
is_of_reader (ConsumeEnd r) = true
is_of_reader item = sets_reader item

-- those by which a writer is made of an endpoint, set or closed
abbrev pub sets_writer : Item → Bool
sets_writer (Writer w e size) = true
sets_writer (WriterIntoInner e w) = true
sets_writer (SetWriterTransfers w n) = true
sets_writer (SetWriteTimeout w timeout) = true
sets_writer (CloseWriter w) = true
sets_writer item = false

-- those on a writer: these, and those that submit or take transfers
abbrev pub is_of_writer : Item → Bool
is_of_writer (Write w bytes steps) = true
is_of_writer (PollWrite w bytes) = true
is_of_writer (Submit w) = true
is_of_writer (SubmitEnd w) = true
is_of_writer (Flush w steps) = true
is_of_writer (PollFlush w) = true
is_of_writer (FlushEnd w steps) = true
is_of_writer (PollFlushEnd w) = true
is_of_writer item = sets_writer item

-- those on a client of messages, or by which one is made of two endpoints
abbrev pub is_of_client : Item → Bool
is_of_client (Client m out inp) = true
is_of_client (Request m body steps) = true
is_of_client (Response m steps) = true
is_of_client (Outstanding m) = true
is_of_client (CloseClient m) = true
is_of_client item = false

-- those by which a device is asked for a descriptor
abbrev pub asks_descriptor : Item → Bool
asks_descriptor (GetDescriptor d kind index language timeout steps) = true
asks_descriptor (SupportedLanguages d timeout steps) = true
asks_descriptor (StringDescriptor d index language timeout steps) = true
asks_descriptor item = false

-- those that hand in a control transfer and await it
abbrev pub awaits_control : Item → Bool
awaits_control (ControlIn target setup wanted timeout steps) = true
awaits_control (ControlOut target setup bytes timeout steps) = true
awaits_control item = asks_descriptor item

-- those that may answer a control transfer: these, and those that poll or await one on its way
abbrev pub answers_control : Item → Bool
answers_control (PollFuture n) = true
answers_control (WaitFuture n steps) = true
answers_control item = awaits_control item

-- those of control transfers: they are handed in, awaited or not, and what is on its way is polled, awaited or closed
abbrev pub is_of_control : Item → Bool
is_of_control (ControlIn target setup wanted timeout steps) = true
is_of_control (ControlOut target setup bytes timeout steps) = true
is_of_control (StartControlIn n target setup wanted timeout) = true
is_of_control (StartControlOut n target setup bytes timeout) = true
is_of_control (PollFuture n) = true
is_of_control (WaitFuture n steps) = true
is_of_control (CloseFuture n) = true
is_of_control item = asks_descriptor item

-- those on a claimed interface, or on an endpoint
abbrev pub is_of_interface : Item → Bool
is_of_interface (CloneInterface name i) = true
is_of_interface (CloseInterface i) = true
is_of_interface (SetAltSetting i setting) = true
is_of_interface (GetAltSetting i) = true
is_of_interface (InterfaceDescriptor i) = true
is_of_interface (Release i) = true
is_of_interface (Endpoint e i address kind) = true
is_of_interface item = is_of_endpoint item

-- those on the tree of attributes or on packets of udev
abbrev pub is_of_tree : Item → Bool
is_of_tree List = true
is_of_tree Buses = true
is_of_tree (Probe path) = true
is_of_tree (Match path selector) = true
is_of_tree Hotplug = true
is_of_tree (OpenPath d path) = true
is_of_tree item = false

-- those on a device (`open` too), on an interface or on an endpoint, but for control transfers, readers, writers and clients of messages
abbrev pub is_of_handle : Item → Bool
is_of_handle (Device k bus address speed configuration descriptors) = false
is_of_handle (Driver k number) = false
is_of_handle (Attribute path name value) = false
is_of_handle (Denied path name errno) = false
is_of_handle (Child path name) = false
is_of_handle (Link path name target) = false
is_of_handle (Entry name path) = false
is_of_handle (Root errno) = false
is_of_handle (Uevent groups bytes) = false
is_of_handle List = false
is_of_handle Buses = false
is_of_handle (Probe path) = false
is_of_handle (Match path selector) = false
is_of_handle Hotplug = false
is_of_handle (OpenPath d path) = false
is_of_handle (ControlIn target setup wanted timeout steps) = false
is_of_handle (ControlOut target setup bytes timeout steps) = false
is_of_handle (GetDescriptor d kind index language timeout steps) = false
is_of_handle (SupportedLanguages d timeout steps) = false
is_of_handle (StringDescriptor d index language timeout steps) = false
is_of_handle (StartControlIn n target setup wanted timeout) = false
is_of_handle (StartControlOut n target setup bytes timeout) = false
is_of_handle (PollFuture n) = false
is_of_handle (WaitFuture n steps) = false
is_of_handle (CloseFuture n) = false
is_of_handle (Reader r e size) = false
is_of_handle (IntoInner e r) = false
is_of_handle (SetNumTransfers r n) = false
is_of_handle (SetReadTimeout r timeout) = false
is_of_handle (CancelReader r) = false
is_of_handle (ClearReaderHalt r) = false
is_of_handle (CloseReader r) = false
is_of_handle (Read framing r most steps) = false
is_of_handle (PollRead framing r most) = false
is_of_handle (FillBuf framing r steps) = false
is_of_handle (PollFillBuf framing r) = false
is_of_handle (Consume framing r n) = false
is_of_handle (IsEnd r) = false
is_of_handle (ConsumeEnd r) = false
is_of_handle (Writer w e size) = false
is_of_handle (WriterIntoInner e w) = false
is_of_handle (SetWriterTransfers w n) = false
is_of_handle (SetWriteTimeout w timeout) = false
is_of_handle (CloseWriter w) = false
is_of_handle (Write w bytes steps) = false
is_of_handle (PollWrite w bytes) = false
is_of_handle (Submit w) = false
is_of_handle (SubmitEnd w) = false
is_of_handle (Flush w steps) = false
is_of_handle (PollFlush w) = false
is_of_handle (FlushEnd w steps) = false
is_of_handle (PollFlushEnd w) = false
is_of_handle (Client m out inp) = false
is_of_handle (Request m body steps) = false
is_of_handle (Response m steps) = false
is_of_handle (Outstanding m) = false
is_of_handle (CloseClient m) = false
is_of_handle Now = false
is_of_handle (Steps steps) = false
is_of_handle item = true
