-- Each call is answered by a line that is not empty.
use Rattle.std.proofs.Common.{◌≡◌, ◌≢◌, ℕ, Bool, true, false, List, [], ◌∷◌, map, slice_get, length, take, ◌-◌, Option, Some, None, Result, Ok, Err, refl, ap, ◌∙◌, inl, inr, ◌⊎◌}
use Rattle.std.specs.Prelude.{◌||◌, ◌&&◌, nat_lt, if◌then◌else◌}
use Rattle.std.specs.Option.{option_map}
use Rattle.std.proofs.lemmas.List.Elements.{All-head}
use Rattle.futures.specs.declared.task.Poll.{Poll}
use Rattle.futures.specs.declared.task.Poll.TheVariants as polls
use Rattle.usb_desc.specs.declared.types.Direction.TheVariants.{In, Out}
use Rattle.usb_desc.specs.declared.types.TransferType.{TransferType}
use Rattle.usb_xfer.specs.BufferState.{BufferState}
use Rattle.usb_xfer.specs.declared.error.TransferError.{TransferError}
use Rattle.usb_xfer.specs.declared.transfer.Completion.{Completion}
use Rattle.usb_xfer.specs.declared.transfer.TransferData.{TransferData}
use Rattle.usb_desc.specs.declared.types.Direction.{Direction}
use Rattle.usb_error.specs.ErrorState.{ErrorState}
use Rattle.usb_error.specs.Errors.{clear_halt_error, interface_in_use_error}
use Rattle.usb_error.specs.FaultState.{FaultState}
use Rattle.usb_error.specs.Faults.{transfer_fault}
use Rattle.usb_error.specs.Outcomes.{◌>>=◌, result_map}
use Rattle.usb_error.specs.declared.active.ActiveConfigurationError.{ActiveConfigurationError}
use Rattle.usb_error.specs.declared.descriptor_error.GetDescriptorError.{GetDescriptorError}
use Rattle.usb_error.specs.declared.descriptor_error.GetDescriptorError.TheVariants as descriptors
use Rattle.usb_kernel.specs.TransferCompletions.{transfer_completion}
use Rattle.usb_enum_sysfs.specs.declared.sysfs.SysfsError.{SysfsError}
use Rattle.usb_enum.specs.Buses.{BusFacts, buses}
use Rattle.usb_enum.specs.Devices.{DeviceFacts}
use Rattle.usb_enum.specs.Hotplug.{hotplug_polled}
use Rattle.usb_enum.specs.Listing.{devices}
use Rattle.usb_enum.specs.Probing.{probe}
use Rattle.usb_enum.specs.declared.hotplug.HotplugEvent.{HotplugEvent}
use Rattle.usb_enum.specs.declared.hotplug.HotplugEvent.TheVariants.{Connected, Disconnected}
use Rattle.usb_device_endpoint.specs.CallErrors.{or_error}
use Rattle.usb_device_endpoint.specs.Submits.{entered}
use Rattle.usb_device_endpoint.specs.Blocking.{blocked}
use Rattle.usb_device_endpoint.specs.Waits.{waited}
use Rattle.usb_device_host.specs.HostState.{HostState}
use Rattle.usb_device_host.specs.HostCalls.{host_halt_result, host_calls}
use Rattle.usb_device_host.specs.Opens.{host_opened, open_key}
use Rattle.usb_device_host.specs.Owners.{is_shared}
use Rattle.usb_device_host.specs.InterfaceClaims.{claim_tried, claimed_key, host_claimed}
use Rattle.usb_device_host.specs.EndpointOpens.{as_asked, host_asked, host_tries}
use Rattle.usb_device_host.specs.OnDevices.{active_of, set_configuration_tried, reset_tried, detach_tried, attach_tried}
use Rattle.usb_device_host.specs.OnInterfaces.{alt_setting_tried, current_setting}
use Rattle.usb_device.specs.Futures.{FutureState, control_answer}
use Rattle.usb_device.specs.DescriptorCalls.{transferred, text_of, languages_of}
use Rattle.usb_io.specs.Readers.{with_read, without_end, is_end}
use Rattle.usb_io.specs.Reads.{reading, filled_to}
use Rattle.usb_io.specs.Streams.{Byte, End}
use Rattle.usb_io.specs.Answers.{fill_came, read_came}
use Rattle.usb_io.specs.Carried.{written_calls, begun_calls}
use Rattle.usb_io.specs.WriteAnswers.{write_came, flush_came, flush_end_came, poll_flush_end_came, submit_came, submit_end_came}
use Rattle.usb_io.specs.declared.fault.ReadFault.{ReadFault}
use Rattle.usb_io.specs.declared.fault.ReadFault.TheVariants as reads
use Rattle.usb_io.specs.declared.fault.WriteFault.{WriteFault}
use Rattle.usb_io.specs.declared.fault.WriteFault.TheVariants as writes
use Rattle.usb_io.specs.Answered.{Answered}
use Rattle.usb_io.specs.Writers.{Writing}
use Rattle.usb_io.specs.Writes as acts
use Rattle.usb_io.specs.StreamFaults.{read_fault, write_fault}
use Rattle.usb_msg.specs.declared.error.Ending.{Ending}
use Rattle.usb_msg.specs.declared.error.Ending.TheVariants as endings
use Rattle.usb_msg.specs.Errors.{error_of}
use Rattle.usb_msg.specs.Frames.{tag_in, body_in, has_tag}
use Rattle.usb_msg.specs.Clients.{ClientState}
use Rattle.usb_msg.specs.Requests.{Messaging, Message, after_write, frame_written, requested_by, requested}
use Rattle.usb_msg.specs.Responses.{without_message, by_tag, by_length, responded_by, responded}
use Rattle.usb_msg.proofs.Responding.{responds}
use Rattle.usb_script_words.specs.EndpointKinds.{transfer_type_of, direction_of}
use Rattle.usb_script_words.specs.declared.control.ControlTarget.{ControlTarget}
use Rattle.usb_script_lines.specs.declared.item.Item.{Item}
use Rattle.usb_script_lines.specs.declared.item.Item.TheVariants as lines
use Rattle.usb_script_lines.specs.ItemKinds.{is_call, steps_in}
use Rattle.usb_script_words.specs.declared.framing.Framing.{Framing}
use Rattle.usb_script_words.specs.declared.framing.Framing.TheVariants.{UntilShort}
use Rattle.usb_session_text.specs.Calls.{condition_line, error_line, result_line}
use Rattle.usb_session_text.specs.Completions.{count_line, now_line, done_line, polled_line, waited_line}
use Rattle.usb_session_text.specs.Controls.{pending_line, data_line, failed_line, descriptor_failed_line, received_line, sent_line, descriptor_line, languages_told, languages_line, string_told, string_line}
use Rattle.usb_session_text.specs.Descriptors.{descriptors_line, setting_words, class_words}
use Rattle.usb_session_text.specs.Devices.{device_line}
use Rattle.usb_session_text.specs.Settings.{configuration_line, no_configuration_line, speed_line, alt_setting_line, interface_line}
use Rattle.usb_session_tree.specs.Selecting.{matched}
use Rattle.usb_session_tree.specs.Attributes.{match_line, sysfs_line}
use Rattle.usb_session_tree.specs.Buses.{buses_line}
use Rattle.usb_session_tree.specs.Devices.{info_line}
use Rattle.usb_session_tree.specs.Events.{connected_line, disconnected_line, hotplug_line}
use Rattle.usb_session_tree.specs.Listings.{devices_line}
use Rattle.usb_session_streams.specs.Faults.{io_line, read_fault_line, write_fault_line}
use Rattle.usb_session_streams.specs.Reads.{read_line, buffer_line, is_end_line, consumed_end_line}
use Rattle.usb_session_streams.specs.Writes.{wrote_line}
use Rattle.usb_session_streams.specs.ClientLines.{message_error_line, tag_line, request_line, body_line, response_line}
use Rattle.usb_session_streams.specs.ClientNeeds.{bars_request, bars_response}
use Rattle.usb_session_streams.specs.Needs.{bars_need, bars_call, bars_transfers, write_need, flush_need, finish_need, poll_finish_need}
use Rattle.usb_session_streams.specs.Told.{with_calls, failures_of}
use Rattle.usb_session_streams.specs.Printed.{written_line, flushed_line, poll_line, submitted_to}
use Rattle.usb_session_calls.specs.Names.{named, is_free, change_named}
use Rattle.usb_session_calls.specs.declared.call.Call.{Call}
use Rattle.usb_session_calls.specs.declared.call.Call.TheVariants as calls
use Rattle.usb_session_calls.specs.declared.call.TreeCall.{TreeCall}
use Rattle.usb_session_calls.specs.declared.call.TreeCall.TheVariants as trees
use Rattle.usb_session_calls.specs.declared.call.OpenCall.{OpenCall}
use Rattle.usb_session_calls.specs.declared.call.OpenCall.TheVariants as opens
use Rattle.usb_session_calls.specs.declared.call.CloseCall.{CloseCall}
use Rattle.usb_session_calls.specs.declared.call.CloseCall.TheVariants as closes
use Rattle.usb_session_calls.specs.declared.call.DeviceCall.{DeviceCall}
use Rattle.usb_session_calls.specs.declared.call.DeviceCall.TheVariants as asks
use Rattle.usb_session_calls.specs.declared.call.InterfaceCall.{InterfaceCall}
use Rattle.usb_session_calls.specs.declared.call.InterfaceCall.TheVariants as settings
use Rattle.usb_session_calls.specs.declared.call.EndpointCall.{EndpointCall}
use Rattle.usb_session_calls.specs.declared.call.EndpointCall.TheVariants as endpoints
use Rattle.usb_session_calls.specs.declared.call.ReaderCall.{ReaderCall}
use Rattle.usb_session_calls.specs.declared.call.ReaderCall.TheVariants as readers
use Rattle.usb_session_calls.specs.declared.call.WriterCall.{WriterCall}
use Rattle.usb_session_calls.specs.declared.call.WriterCall.TheVariants as writers
use Rattle.usb_session_calls.specs.declared.call.ClientCall.{ClientCall}
use Rattle.usb_session_calls.specs.declared.call.ClientCall.TheVariants as clients
use Rattle.usb_session_calls.specs.declared.call.ControlCall.{ControlCall}
use Rattle.usb_session_calls.specs.declared.call.ControlCall.TheVariants as controls
use Rattle.usb_session_calls.specs.State.{State, Endpoint, Reader, Writer, Client, tickets_of, with_host}
use Rattle.usb_session_calls.specs.Answer.{Answer, answer_with, condition_answer, ok_answer, error_answer, at_host, if_open}
use Rattle.usb_session_calls.specs.Steps.{with_steps, stepped_all}
use Rattle.usb_session_calls.specs.Calls.{call_of, answers_control}
use Rattle.usb_session_calls.specs.OpenAt.{DeviceAt, InterfaceAt, device_at, interface_at}
use Rattle.usb_session_calls.specs.Buffers.{in_buffer, out_buffer}
use Rattle.usb_session_calls.specs.Clones.{with_handle, clone_device_answer, with_clone, clone_interface_answer}
use Rattle.usb_session_calls.specs.Closes.{without_endpoint, close_answer, without_future, close_future_answer, without_device, close_device_answer, without_interface, close_interface_answer, release_on, release_answer}
use Rattle.usb_session_calls.specs.Endpoints.{endpoint_as, endpoint_asked, endpoint_on, endpoint_answer}
use Rattle.usb_session_calls.specs.Submits.{has_direction, bars_submission, submitted, submit_on}
use Rattle.usb_session_calls.specs.Polls.{took, poll_on}
use Rattle.usb_session_calls.specs.Waits.{wait_on}
use Rattle.usb_session_calls.specs.Transfers.{bars_transfer, transfer_made, transfer_on}
use Rattle.usb_session_calls.specs.EndpointCalls.{endpoint_called, on_endpoint}
use Rattle.usb_session_calls.specs.DeviceCalls.{active_line, device_called, on_device}
use Rattle.usb_session_calls.specs.InterfaceCalls.{interface_called, on_interface}
use Rattle.usb_session_calls.specs.Readers.{called, with_count, with_reader, reader_on, reader_answer, without_reader, inner_answer, closed_reader, close_reader_answer}
use Rattle.usb_session_calls.specs.Reads.{is_until_short, given_line, polled_given_line, bars_read, read_as, filled_as, read_on, fill_on, read_off}
use Rattle.usb_session_calls.specs.CalledReaders.{reader_called, on_reader}
use Rattle.usb_session_calls.specs.Writers.{with_transfers, with_writer, writer_on, writer_answer, without_writer, writer_inner_answer, closed_writer, close_writer_answer}
use Rattle.usb_session_calls.specs.Writes.{writing_at, left_by_writer, called_as, write_on, flush_as, finish_as}
use Rattle.usb_session_calls.specs.CalledWriters.{writer_called, on_writer}
use Rattle.usb_session_calls.specs.Clients.{is_idle, with_client, client_on, client_answer, closed_client, close_client_answer}
use Rattle.usb_session_calls.specs.Messages.{messaging_at, request_as, response_as}
use Rattle.usb_session_calls.specs.CalledClients.{client_called, on_client}
use Rattle.usb_session_calls.specs.Controls.{device_of_target, bars_control, request_for, request_with}
use Rattle.usb_session.specs.Listings.{listed, list_answer, listed_buses, buses_answer}
use Rattle.usb_session.specs.Probes.{probed, probe_answer, looked_for, match_answer}
use Rattle.usb_session.specs.Hotplugs.{hotplug_answer}
use Rattle.usb_session.specs.TreeCalls.{on_tree}
use Rattle.usb_session.specs.Opens.{opened_as, opened_at, open_answer, opened_probed, open_path_answer}
use Rattle.usb_session.specs.Claims.{claimed_as, claim_on, claim_answer}
use Rattle.usb_session.specs.Futures.{with_future, start_on, start_answer}
use Rattle.usb_session.specs.NameCalls.{on_open, on_close}
use Rattle.usb_session.specs.CallAnswers.{call_answer, line_answer}
use Rattle.usb_session.specs.Crowded.{bars_line}
use Rattle.usb_session.specs.Answers.{answer}
use Rattle.usb_session.specs.Output.{start, behind}
use Rattle.usb_session.specs.ControlAnswers.{ControlAnswer, told_of, listed as tickets_listed, answered_future, future_gone, answered_by}
use Rattle.usb_session.specs.Served.{control_ticket_by}
use Rattle.usb_session.proofs.HandleLemmas.{inv-start, inv-of, scripts-go_on}
use Rattle.usb_session.proofs.ClientEnds.{IsTold, AllTell, tell-behind}
use Rattle.usb_session.proofs.ControlCame.{Came, Tells, answer-tells}
use Rattle.usb_session.proofs.ControlsLaw.{none-await, await-behind}

-- whether a line is there
abbrev has_line : List ℕ → Bool
has_line [] = false
has_line (x ∷ xs) = true

abbrev Speaks : Answer → Type 0
Speaks a = has_line a.line ≡ true

-- a call on what may be open, one that is allowed where something is so, and one that is barred there
named-speaks : {X : Type 0} (state : State) (o : Option X) (call : X → Answer) → ((x : X) → Speaks (call x)) → Speaks (if_open o call (condition_answer state))
named-speaks state None call says = refl
named-speaks state (Some x) call says = says x

free-speaks : (state : State) (free : Bool) (call : Answer) → Speaks call → Speaks (if free then call else condition_answer state)
free-speaks state true call says = says
free-speaks state false call says = refl

bar-speaks : (state : State) (bars : Bool) (call : Answer) → Speaks call → Speaks (if bars then condition_answer state else call)
bar-speaks state true call says = refl
bar-speaks state false call says = says

either-speaks : (b : Bool) (yes_ no_ : Answer) → Speaks yes_ → Speaks no_ → Speaks (if b then yes_ else no_)
either-speaks true yes_ no_ first second = first
either-speaks false yes_ no_ first second = second

-- what is asked of the tree
sysfs-speaks : (error : SysfsError) → has_line (sysfs_line error) ≡ true
unfolding sysfs_line
sysfs-speaks error = refl

listed-speaks : (state : State) (r : Result (List DeviceFacts) ErrorState) → Speaks (listed state r)
unfolding devices_line error_line
listed-speaks state (Ok found) = refl
listed-speaks state (Err error) = refl

listed_buses-speaks : (state : State) (r : Result (List BusFacts) ErrorState) → Speaks (listed_buses state r)
unfolding buses_line error_line
listed_buses-speaks state (Ok found) = refl
listed_buses-speaks state (Err error) = refl

probed-speaks : (state : State) (r : Result DeviceFacts SysfsError) → Speaks (probed state r)
unfolding info_line
probed-speaks state (Ok device) = refl
probed-speaks state (Err error) = sysfs-speaks error

looked_for-speaks : (state : State) (r : Result Bool SysfsError) → Speaks (looked_for state r)
unfolding match_line
looked_for-speaks state (Ok is_match) = refl
looked_for-speaks state (Err error) = sysfs-speaks error

event-speaks : (p : Poll HotplugEvent) → has_line (hotplug_line p) ≡ true
unfolding connected_line disconnected_line
event-speaks polls.Pending = refl
event-speaks (polls.Ready (Connected device)) = refl
event-speaks (polls.Ready (Disconnected id)) = refl

on_tree-speaks : (state : State) (call : TreeCall) → Speaks (on_tree state call)
unfolding list_answer buses_answer probe_answer match_answer hotplug_answer
on_tree-speaks state trees.List = listed-speaks state (devices state.tree)
on_tree-speaks state trees.Buses = listed_buses-speaks state (buses state.tree)
on_tree-speaks state (trees.Probe path) = probed-speaks state (probe state.tree path)
on_tree-speaks state (trees.Match path selector) = looked_for-speaks state (matched state.tree path selector)
on_tree-speaks state trees.Hotplug = event-speaks (hotplug_polled state.tree state.packets)

-- what is opened
opened_as-speaks : (state : State) (d : ℕ) (r : Result ℕ ErrorState) → Speaks (opened_as state d r)
unfolding error_line
opened_as-speaks state d (Ok key) = refl
opened_as-speaks state d (Err error) = refl

opened_at-speaks : (state : State) (d bus address : ℕ) → Speaks (opened_at state d bus address)
opened_at-speaks state d bus address = opened_as-speaks (with_host state (host_opened state.host bus address)) d (open_key state.host bus address)

opened_probed-speaks : (state : State) (d : ℕ) (r : Result DeviceFacts SysfsError) → Speaks (opened_probed state d r)
opened_probed-speaks state d (Ok device) = opened_at-speaks state d device.numbers.busnum device.numbers.address
opened_probed-speaks state d (Err error) = sysfs-speaks error

claimed_as-speaks : (state : State) (number i : ℕ) (r : Result ℕ ErrorState) → Speaks (claimed_as state number i r)
unfolding error_line
claimed_as-speaks state number i (Ok key) = refl
claimed_as-speaks state number i (Err error) = refl

endpoint_as-speaks : (state : State) (e address : ℕ) (kind : TransferType) (x : InterfaceAt) (r : Result ℕ ErrorState) → Speaks (endpoint_as state e address kind x r)
unfolding error_line
endpoint_as-speaks state e address kind x (Ok maximum) = refl
endpoint_as-speaks state e address kind x (Err error) = refl

claim_on-speaks : (state : State) (number i : ℕ) (reattach : Bool) (x : DeviceAt) → Speaks (claim_on state number i reattach x)
claim_on-speaks state number i reattach x =
    let host = host_claimed state.host x.key number reattach in
    let tried = claimed_key (length state.host.interfaces) (claim_tried state.host x.opened number reattach) in
    free-speaks state (is_free state.interfaces i) (claimed_as (with_host state host) number i tried) (claimed_as-speaks (with_host state host) number i tried)

endpoint_on-speaks : (state : State) (e address : ℕ) (kind : TransferType) (direction : Direction) (x : InterfaceAt) → Speaks (endpoint_on state e address kind direction x)
endpoint_on-speaks state e address kind direction x =
    let host = host_asked state.host x.claimed.opened in
    free-speaks state (is_free state.endpoints e) (endpoint_asked state e address kind direction x host)
    (endpoint_as-speaks (with_host state host) e address kind x (host_tries host x.handle.key x.claimed address kind direction))

start_answer-speaks : (state : State) (n : ℕ) (target : ControlTarget) (request : TransferData) (timeout : ℕ) → Speaks (start_answer state n target request timeout)
unfolding start_answer
start_answer-speaks state n target request timeout =
    named-speaks state (device_of_target state target) (λ device. if is_free state.futures n then start_on state n request timeout device else condition_answer state)
    (λ device. free-speaks state (is_free state.futures n) (start_on state n request timeout device)
    (bar-speaks state (bars_control state.host.kernel.past) (ok_answer (with_future state n request timeout device)) refl))

on_open-speaks : (state : State) (call : OpenCall) → Speaks (on_open state call)
unfolding open_answer open_path_answer clone_device_answer claim_answer clone_interface_answer endpoint_answer reader_answer inner_answer writer_answer writer_inner_answer client_answer
on_open-speaks state (opens.Device d bus address) = free-speaks state (is_free state.devices d) (opened_at state d bus address) (opened_at-speaks state d bus address)
on_open-speaks state (opens.Path d path) = free-speaks state (is_free state.devices d) (opened_probed state d (probe state.tree path)) (opened_probed-speaks state d (probe state.tree path))
on_open-speaks state (opens.CloneDevice name d) =
    named-speaks state (named state.devices d) (λ key. if is_free state.devices name then ok_answer (with_handle state name key) else condition_answer state)
    (λ key. free-speaks state (is_free state.devices name) (ok_answer (with_handle state name key)) refl)
on_open-speaks state (opens.Claim d number i detach) = named-speaks state (device_at state d) (claim_on state number i detach) (claim_on-speaks state number i detach)
on_open-speaks state (opens.CloneInterface name i) =
    named-speaks state (named state.interfaces i) (λ f. if is_free state.interfaces name then ok_answer (with_clone state name f) else condition_answer state)
    (λ f. free-speaks state (is_free state.interfaces name) (ok_answer (with_clone state name f)) refl)
on_open-speaks state (opens.Endpoint e i address kind) =
    named-speaks state (interface_at state i) (endpoint_on state e address (transfer_type_of kind) (direction_of kind)) (endpoint_on-speaks state e address (transfer_type_of kind) (direction_of kind))
on_open-speaks state (opens.Reader r e size) =
    named-speaks state (named state.endpoints e) (reader_on state r e size)
    (λ h. free-speaks state (is_free state.readers r) (if has_direction In h.state then ok_answer (with_reader state r e size h) else condition_answer state)
    (free-speaks state (has_direction In h.state) (ok_answer (with_reader state r e size h)) refl))
on_open-speaks state (opens.ReaderInner e r) =
    named-speaks state (named state.readers r) (λ x. if is_free state.endpoints e then ok_answer (without_reader state e r x) else condition_answer state)
    (λ x. free-speaks state (is_free state.endpoints e) (ok_answer (without_reader state e r x)) refl)
on_open-speaks state (opens.Writer w e size) =
    named-speaks state (named state.endpoints e) (writer_on state w e size)
    (λ h. free-speaks state (is_free state.writers w) (if has_direction Out h.state then ok_answer (with_writer state w e size h) else condition_answer state)
    (free-speaks state (has_direction Out h.state) (ok_answer (with_writer state w e size h)) refl))
on_open-speaks state (opens.WriterInner e w) =
    named-speaks state (named state.writers w) (λ x. if is_free state.endpoints e then ok_answer (without_writer state e w x) else condition_answer state)
    (λ x. free-speaks state (is_free state.endpoints e) (ok_answer (without_writer state e w x)) refl)
on_open-speaks state (opens.Client m a b) =
    named-speaks state (named state.endpoints a) (λ out. if_open (named state.endpoints b) (client_on state m a b out) (condition_answer state))
    (λ out. named-speaks state (named state.endpoints b) (client_on state m a b out)
    (λ inp. free-speaks state (is_free state.clients m && (is_idle Out out.state && is_idle In inp.state)) (ok_answer (with_client state m a b out inp)) refl))
on_open-speaks state (opens.ControlIn n target setup wanted timeout) = start_answer-speaks state n target (request_for setup wanted) timeout
on_open-speaks state (opens.ControlOut n target setup bytes timeout) = start_answer-speaks state n target (request_with setup bytes) timeout

-- what is closed
release_on-speaks : (state : State) (i : ℕ) (x : InterfaceAt) → Speaks (release_on state i x)
unfolding error_line
release_on-speaks state i x = either-speaks (is_shared state.host x.handle.key x.claimed) (error_answer state interface_in_use_error) (ok_answer (without_interface state i x.handle)) refl refl

on_close-speaks : (state : State) (call : CloseCall) → Speaks (on_close state call)
unfolding close_device_answer close_interface_answer release_answer close_answer close_reader_answer close_writer_answer close_client_answer close_future_answer
on_close-speaks state (closes.Device d) = named-speaks state (named state.devices d) (λ key. ok_answer (without_device state d key)) (λ key. refl)
on_close-speaks state (closes.Interface i) = named-speaks state (named state.interfaces i) (λ f. ok_answer (without_interface state i f)) (λ f. refl)
on_close-speaks state (closes.Release i) = named-speaks state (interface_at state i) (release_on state i) (release_on-speaks state i)
on_close-speaks state (closes.Endpoint e) = named-speaks state (named state.endpoints e) (λ h. ok_answer (without_endpoint state e h)) (λ h. refl)
on_close-speaks state (closes.Reader r) = named-speaks state (named state.readers r) (λ x. ok_answer (closed_reader state r x)) (λ x. refl)
on_close-speaks state (closes.Writer w) = named-speaks state (named state.writers w) (λ x. ok_answer (closed_writer state w x)) (λ x. refl)
on_close-speaks state (closes.Client m) = named-speaks state (named state.clients m) (λ x. ok_answer (closed_client state m x)) (λ x. refl)
on_close-speaks state (closes.Future n) = named-speaks state (named state.futures n) (λ f. ok_answer (without_future state n f)) (λ f. refl)

-- calls on open devices and claimed interfaces
result-speaks : (r : Result (Unit {0}) ErrorState) → has_line (result_line r) ≡ true
unfolding error_line
result-speaks (Ok done) = refl
result-speaks (Err error) = refl

active-speaks : (r : Result (List ℕ) ActiveConfigurationError) → has_line (active_line r) ≡ true
unfolding configuration_line no_configuration_line
active-speaks (Ok configuration) = refl
active-speaks (Err error) = refl

device_called-speaks : (state : State) (call : DeviceCall) (x : DeviceAt) → Speaks (at_host state (device_called call state.host x))
unfolding device_line descriptors_line speed_line
device_called-speaks state asks.Descriptor x = refl
device_called-speaks state asks.Descriptors x = refl
device_called-speaks state asks.ActiveConfiguration x = active-speaks (active_of (as_asked state.host.kernel x.opened))
device_called-speaks state asks.Speed x = refl
device_called-speaks state (asks.SetConfiguration value) x = result-speaks (set_configuration_tried state.host x.opened value)
device_called-speaks state asks.Reset x = result-speaks (reset_tried state.host x.opened)
device_called-speaks state (asks.DetachDriver number) x = result-speaks (detach_tried state.host x.opened number)
device_called-speaks state (asks.AttachDriver number) x = result-speaks (attach_tried state.host x.opened number)

interface-speaks : (o : Option (List ℕ)) → has_line (interface_line o) ≡ true
unfolding setting_words class_words
interface-speaks None = refl
interface-speaks (Some setting) = refl

interface_called-speaks : (state : State) (call : InterfaceCall) (x : InterfaceAt) → Speaks (at_host state (interface_called call state.host x))
unfolding alt_setting_line
interface_called-speaks state (settings.SetAltSetting setting) x = result-speaks (alt_setting_tried state.host x.handle.key x.claimed setting)
interface_called-speaks state settings.GetAltSetting x = refl
interface_called-speaks state settings.Descriptor x = interface-speaks (current_setting (host_asked state.host x.claimed.opened) x.claimed)

-- on endpoints
waited-speaks : (o : Option Completion) → has_line (waited_line o) ≡ true
unfolding done_line
waited-speaks None = refl
waited-speaks (Some c) = refl

took-speaks : (line : Option Completion → List ℕ) (state : State) (e t : ℕ) (o : Option Completion) → ((p : Option Completion) → has_line (line p) ≡ true) → Speaks (took line state e t o)
took-speaks line state e t None says = says None
took-speaks line state e t (Some c) says = says (Some c)

polled-speaks : (o : Option Completion) → has_line (polled_line o) ≡ true
unfolding done_line
polled-speaks None = refl
polled-speaks (Some c) = refl

poll_on-speaks : (state : State) (e : ℕ) (o : Option ℕ) → Speaks (poll_on state e o)
poll_on-speaks state e None = refl
poll_on-speaks state e (Some t) = took-speaks polled_line state e t (transfer_completion state.host.kernel.past t) polled-speaks

wait_on-speaks : (state : State) (e timeout : ℕ) (o : Option ℕ) → Speaks (wait_on state e timeout o)
wait_on-speaks state e timeout None = refl
wait_on-speaks state e timeout (Some t) =
    let host = waited host_calls t timeout state.host in
    took-speaks waited_line (with_host state host) e t (transfer_completion host.kernel.past t) waited-speaks

submit_on-speaks : (state : State) (direction : Direction) (e : ℕ) (b : BufferState) (timeout : Option ℕ) (h : Endpoint) → Speaks (submit_on state direction e b timeout h)
submit_on-speaks state direction e b timeout h = bar-speaks state (bars_submission state.host.kernel.past direction h.state) (ok_answer (submitted state e b timeout h)) refl

transfer_on-speaks : (state : State) (direction : Direction) (e : ℕ) (b : BufferState) (timeout : ℕ) (h : Endpoint) → Speaks (transfer_on state direction e b timeout h)
transfer_on-speaks state direction e b timeout h =
    bar-speaks state (bars_transfer state.host.kernel.past direction h.state) (transfer_made state e b timeout h)
    (waited-speaks (transfer_completion (blocked host_calls (tickets_of state) timeout (entered host_calls state.host h.state None b)).kernel.past (tickets_of state)))

endpoint_called-speaks : (state : State) (e : ℕ) (call : EndpointCall) (h : Endpoint) → Speaks (endpoint_called call state e h)
unfolding count_line
endpoint_called-speaks state e (endpoints.SubmitIn n timeout) h = submit_on-speaks state In e (in_buffer n) timeout h
endpoint_called-speaks state e (endpoints.SubmitOut bytes timeout) h = submit_on-speaks state Out e (out_buffer bytes) timeout h
endpoint_called-speaks state e endpoints.Pending h = refl
endpoint_called-speaks state e endpoints.Poll h = poll_on-speaks state e (slice_get h.state.pending 0)
endpoint_called-speaks state e (endpoints.Wait timeout) h = wait_on-speaks state e timeout (slice_get h.state.pending 0)
endpoint_called-speaks state e (endpoints.TransferIn n timeout) h = transfer_on-speaks state In e (in_buffer n) timeout h
endpoint_called-speaks state e (endpoints.TransferOut bytes timeout) h = transfer_on-speaks state Out e (out_buffer bytes) timeout h
endpoint_called-speaks state e endpoints.Cancel h = refl
endpoint_called-speaks state e endpoints.ClearHalt h = result-speaks (or_error clear_halt_error (host_halt_result state.host h.state.device h.state.address))

-- on readers
fault-speaks : (fault : ReadFault) → has_line (read_fault_line fault) ≡ true
unfolding io_line
fault-speaks fault = refl

given-speaks : (line : List ℕ → List ℕ) → ((bytes : List ℕ) → has_line (line bytes) ≡ true) → (r : Result (List ℕ) ReadFault) → has_line (given_line line r) ≡ true
given-speaks line says (Ok bytes) = says bytes
given-speaks line says (Err fault) = fault-speaks fault

polled_given-speaks : (line : List ℕ → List ℕ) → ((bytes : List ℕ) → has_line (line bytes) ≡ true) → (r : Result (List ℕ) ReadFault) → has_line (polled_given_line line r) ≡ true
polled_given-speaks line says (Ok bytes) = says bytes
polled_given-speaks line says (Err reads.TimedOut) = refl
polled_given-speaks line says (Err reads.UnexpectedEof) = fault-speaks reads.UnexpectedEof
polled_given-speaks line says (Err (reads.Transfer error)) = fault-speaks (reads.Transfer error)

read-speaks : (bytes : List ℕ) → has_line (read_line bytes) ≡ true
unfolding read_line
read-speaks bytes = refl

buffer-speaks : (bytes : List ℕ) → has_line (buffer_line bytes) ≡ true
unfolding buffer_line
buffer-speaks bytes = refl

end-speaks : (b : Bool) → has_line (is_end_line b) ≡ true
end-speaks true = refl
end-speaks false = refl

read_on-speaks : (state : State) (framing : Framing) (r most timeout : ℕ) (line : Result (List ℕ) ReadFault → List ℕ) (x : Reader) → ((a : Result (List ℕ) ReadFault) → has_line (line a) ≡ true) → Speaks (read_on state framing r most timeout line x)
read_on-speaks state framing r most timeout line x says =
    let came = read_came host_calls (is_until_short framing) timeout most (reading state.host x.state) in
    bar-speaks state (bars_read state framing x) (read_as state framing r x line came) (says came.answer)

fill_on-speaks : (state : State) (framing : Framing) (r timeout : ℕ) (line : Result (List ℕ) ReadFault → List ℕ) (x : Reader) → ((a : Result (List ℕ) ReadFault) → has_line (line a) ≡ true) → Speaks (fill_on state framing r timeout line x)
fill_on-speaks state framing r timeout line x says =
    let came = fill_came host_calls (is_until_short framing) timeout (reading state.host x.state) in
    bar-speaks state (bars_read state framing x) (filled_as state framing r x line came) (says came.answer)

reader_called-speaks : (state : State) (r : ℕ) (call : ReaderCall) (x : Reader) → Speaks (reader_called call state r x)
reader_called-speaks state r (readers.Read framing most) x = read_on-speaks state framing r most x.state.timeout (given_line read_line) x (given-speaks read_line read-speaks)
reader_called-speaks state r (readers.PollRead framing most) x = read_on-speaks state framing r most 0 (polled_given_line read_line) x (polled_given-speaks read_line read-speaks)
reader_called-speaks state r (readers.FillBuf framing) x = fill_on-speaks state framing r x.state.timeout (given_line buffer_line) x (given-speaks buffer_line buffer-speaks)
reader_called-speaks state r (readers.PollFillBuf framing) x = fill_on-speaks state framing r 0 (polled_given_line buffer_line) x (polled_given-speaks buffer_line buffer-speaks)
reader_called-speaks state r (readers.Consume framing n) x =
    bar-speaks state (nat_lt (length x.state.unread) n) (ok_answer (read_off state framing r x (map Byte (take n x.state.unread)) (take n x.state.unread) (with_read n x.state))) refl
reader_called-speaks state r readers.IsEnd x = end-speaks (is_end x.state)
reader_called-speaks state r readers.ConsumeEnd x =
    either-speaks (is_end x.state) (answer_with (read_off state UntilShort r x (End ∷ []) [] (without_end x.state)) (consumed_end_line (Ok tt))) (answer_with state (consumed_end_line (Err (record {})))) refl refl
reader_called-speaks state r (readers.SetNumTransfers n) x =
    bar-speaks state (nat_lt 64 n || bars_need state.host.kernel.past (length x.state.endpoint.pending) (n - 1 - length x.state.endpoint.pending))
    (ok_answer (called state r x.consumed [] (filled_to host_calls (n - 1) (reading state.host (with_count n x.state))))) refl
reader_called-speaks state r (readers.SetReadTimeout timeout) x = refl
reader_called-speaks state r readers.Cancel x = refl
reader_called-speaks state r readers.ClearHalt x = result-speaks (or_error clear_halt_error (host_halt_result state.host x.state.endpoint.device x.state.endpoint.address))

-- on writers
write_fault-speaks : (fault : WriteFault) → has_line (write_fault_line fault) ≡ true
unfolding io_line
write_fault-speaks fault = refl

written-speaks : (r : Result ℕ WriteFault) → has_line (written_line r) ≡ true
unfolding wrote_line
written-speaks (Ok count) = refl
written-speaks (Err fault) = write_fault-speaks fault

flushed-speaks : (r : Result (Unit {0}) WriteFault) → has_line (flushed_line r) ≡ true
flushed-speaks (Ok done) = refl
flushed-speaks (Err fault) = write_fault-speaks fault

poll-speaks : {A : Type 0} (line : Result A WriteFault → List ℕ) → ((r : Result A WriteFault) → has_line (line r) ≡ true) → (r : Result A WriteFault) → has_line (poll_line line r) ≡ true
poll-speaks line says (Ok x) = says (Ok x)
poll-speaks line says (Err (writes.Transfer e)) = says (Err (writes.Transfer e))
poll-speaks line says (Err writes.TimedOut) = refl

called_as-speaks : {A : Type 0} (state : State) (w : ℕ) (x : Writer) (need : ℕ) (does : List acts.Call) (line : Result A WriteFault → List ℕ) (came : Answered A WriteFault (Writing HostState)) → ((r : Result A WriteFault) → has_line (line r) ≡ true) → Speaks (called_as state w x need does line came)
called_as-speaks state w x need does line came says =
    bar-speaks state (bars_call (writing_at state x) need) (answer_with (left_by_writer state w (option_map (with_calls does (failures_of came.answer)) x.calls) came.left) (line came.answer)) (says came.answer)

write_on-speaks : (state : State) (w : ℕ) (bytes : List ℕ) (x : Writer) (line : Result ℕ WriteFault → List ℕ) (timeout : ℕ) → ((r : Result ℕ WriteFault) → has_line (line r) ≡ true) → Speaks (write_on state w bytes x line timeout)
write_on-speaks state w bytes x line timeout says =
    let came = write_came host_calls timeout bytes (writing_at state x) in
    called_as-speaks state w x (write_need x.state) (written_calls bytes came.answer) line came says

flush_as-speaks : (state : State) (w : ℕ) (x : Writer) (line : Result (Unit {0}) WriteFault → List ℕ) (came : Answered (Unit {0}) WriteFault (Writing HostState)) → ((r : Result (Unit {0}) WriteFault) → has_line (line r) ≡ true) → Speaks (flush_as state w x line came)
flush_as-speaks state w x line came says = called_as-speaks state w x (flush_need x.state) (acts.Flush ∷ []) line came says

finish_as-speaks : (state : State) (w : ℕ) (x : Writer) (line : Result (Unit {0}) WriteFault → List ℕ) (came : Answered (Unit {0}) WriteFault (Writing HostState)) → ((r : Result (Unit {0}) WriteFault) → has_line (line r) ≡ true) → Speaks (finish_as state w x line came)
finish_as-speaks state w x line came says = called_as-speaks state w x (finish_need x.state) (acts.Finish ∷ []) line came says

writer_called-speaks : (state : State) (w : ℕ) (call : WriterCall) (x : Writer) → Speaks (writer_called call state w x)
writer_called-speaks state w (writers.Write bytes) x = write_on-speaks state w bytes x written_line x.state.timeout written-speaks
writer_called-speaks state w (writers.PollWrite bytes) x = write_on-speaks state w bytes x (poll_line written_line) 0 (poll-speaks written_line written-speaks)
writer_called-speaks state w writers.Submit x = flush_as-speaks state w x flushed_line (submitted_to (submit_came host_calls (writing_at state x))) flushed-speaks
writer_called-speaks state w writers.SubmitEnd x = finish_as-speaks state w x flushed_line (submitted_to (submit_end_came host_calls (writing_at state x))) flushed-speaks
writer_called-speaks state w writers.Flush x = flush_as-speaks state w x flushed_line (flush_came host_calls x.state.timeout (writing_at state x)) flushed-speaks
writer_called-speaks state w writers.PollFlush x = flush_as-speaks state w x (poll_line flushed_line) (flush_came host_calls 0 (writing_at state x)) (poll-speaks flushed_line flushed-speaks)
writer_called-speaks state w writers.FlushEnd x = finish_as-speaks state w x flushed_line (flush_end_came host_calls x.state.timeout (writing_at state x)) flushed-speaks
writer_called-speaks state w writers.PollFlushEnd x =
    called_as-speaks state w x (poll_finish_need x.state) (begun_calls x.state.begun) (poll_line flushed_line) (poll_flush_end_came host_calls (writing_at state x)) (poll-speaks flushed_line flushed-speaks)
writer_called-speaks state w (writers.SetNumTransfers n) x = bar-speaks state (bars_transfers n) (ok_answer (record state { writers = change_named (with_transfers n) state.writers w })) refl
writer_called-speaks state w (writers.SetWriteTimeout timeout) x = refl

-- on clients. A client that has ended tells why, which is not want of memory
io-speaks : (fault : FaultState) → has_line (io_line fault) ≡ true
unfolding io_line
io-speaks fault = refl

ending-speaks : (why : Ending) → Some why ≢ Some endings.Memory → has_line (message_error_line (error_of why)) ≡ true
ending-speaks (endings.Short len) told = refl
ending-speaks endings.TooLong told = refl
ending-speaks (endings.WrongTag expected got) told = refl
ending-speaks (endings.Transfer e) told = io-speaks (transfer_fault e)
ending-speaks endings.Memory told = absurd (told refl)

tag-speaks : (tag : ℕ) → has_line (tag_line tag) ≡ true
unfolding tag_line
tag-speaks tag = refl

body-speaks : (body : List ℕ) → has_line (body_line body) ≡ true
unfolding body_line
body-speaks body = refl

after-speaks : (c : ClientState) (r : Result ℕ WriteFault) (v : Writing HostState) → has_line (request_line (after_write host_calls c r v).answer) ≡ true
after-speaks c (Ok n) v = tag-speaks c.requests
after-speaks c (Err fault) v = io-speaks (write_fault fault)

request-speaks : (body : List ℕ) (why : Option Ending) (w : Messaging HostState) → IsTold why → has_line (request_line (requested_by host_calls body why w).answer) ≡ true
request-speaks body (Some why) w told = ending-speaks why told
request-speaks body None w told = let a = frame_written host_calls body w in after-speaks w.client a.answer a.left

by_tag-speaks : (b : Bool) (message : List ℕ) (c : ClientState) → has_line (response_line (by_tag b message c).answer) ≡ true
by_tag-speaks true message c = body-speaks (body_in message)
by_tag-speaks false message c = ending-speaks (endings.WrongTag c.responses (tag_in message)) (λ same. absurd (cc))

by_length-speaks : (b : Bool) (message : List ℕ) (c : ClientState) → has_line (response_line (by_length b message c).answer) ≡ true
by_length-speaks true message c = ending-speaks (endings.Short (length message)) (λ same. absurd (cc))
by_length-speaks false message c = by_tag-speaks (has_tag c.responses message) message c

response-speaks : (why : Option Ending) (w : Messaging HostState) → IsTold why → has_line (response_line (responded_by host_calls why w).answer) ≡ true
response-speaks (Some why) w told = ending-speaks why told
response-speaks None w told =
    responds host_calls (λ (v : Messaging HostState). Unit {0}) (λ v is_few so_far. tt) (λ (a : Message (List ℕ) HostState). has_line (response_line a.answer) ≡ true)
    (λ v end so_far. by_length-speaks (nat_lt (length v.client.frame) 4) v.client.frame (without_message v.client)) (λ v so_far. ending-speaks endings.TooLong (λ same. absurd (cc))) (λ v fault so_far. io-speaks (read_fault fault)) w tt

client_called-speaks : (state : State) (m : ℕ) (call : ClientCall) (x : Client) → IsTold x.state.ended → Speaks (client_called call state m x)
unfolding count_line
client_called-speaks state m (clients.Request body) x told =
    let w = messaging_at state x in
    bar-speaks state (bars_request body w) (request_as state m body (requested host_calls body w)) (request-speaks body x.state.ended w told)
client_called-speaks state m clients.Response x told =
    let w = messaging_at state x in
    bar-speaks state (bars_response w) (response_as state m (responded host_calls w)) (response-speaks x.state.ended w told)
client_called-speaks state m clients.Outstanding x told = refl

open-speaks : {X : Type 0} (state : State) (o : Option X) (call : X → Answer) → ((x : X) → o ≡ Some x → Speaks (call x)) → Speaks (if_open o call (condition_answer state))
open-speaks state None call says = refl
open-speaks state (Some x) call says = says x refl

-- what a control transfer tells of its completion
failed-speaks : (error : TransferError) → has_line (failed_line error) ≡ true
unfolding failed_line
failed-speaks error = refl

descriptor_failed-speaks : (error : GetDescriptorError) → has_line (descriptor_failed_line error) ≡ true
descriptor_failed-speaks (descriptors.Transfer error) = failed-speaks error
descriptor_failed-speaks descriptors.InvalidDescriptor = refl

received-speaks : (r : Result (List ℕ) TransferError) → has_line (received_line r) ≡ true
unfolding data_line
received-speaks (Ok bytes) = refl
received-speaks (Err error) = failed-speaks error

sent-speaks : (r : Result (Unit {0}) TransferError) → has_line (sent_line r) ≡ true
sent-speaks (Ok done) = refl
sent-speaks (Err error) = failed-speaks error

descriptor-speaks : (r : Result (List ℕ) GetDescriptorError) → has_line (descriptor_line r) ≡ true
unfolding data_line
descriptor-speaks (Ok bytes) = refl
descriptor-speaks (Err error) = descriptor_failed-speaks error

languages-speaks : (r : Result (List ℕ) GetDescriptorError) → has_line (languages_line r) ≡ true
unfolding languages_told
languages-speaks (Ok languages) = refl
languages-speaks (Err error) = descriptor_failed-speaks error

string-speaks : (r : Result (List ℕ) GetDescriptorError) → has_line (string_line r) ≡ true
unfolding string_told
string-speaks (Ok text) = refl
string-speaks (Err error) = descriptor_failed-speaks error

told_of-speaks : (call : ControlCall) (c : Completion) → has_line (told_of call c) ≡ true
told_of-speaks (controls.In target setup wanted timeout) c = received-speaks (control_answer In c)
told_of-speaks (controls.Out target setup bytes timeout) c = sent-speaks (result_map (λ _. tt) (control_answer Out c))
told_of-speaks (controls.Descriptor d kind index language timeout) c = descriptor-speaks (transferred (control_answer In c))
told_of-speaks (controls.Languages d timeout) c = languages-speaks (transferred (control_answer In c) >>= languages_of)
told_of-speaks (controls.Text d index language timeout) c = string-speaks (transferred (control_answer In c) >>= text_of)

-- a line that tells of none says that the call is barred, or pending
others-speak : (a : Answer) → (a.line ≡ condition_line) ⊎ (a.line ≡ pending_line) → Speaks a
others-speak a (inl is) = ap has_line is
others-speak a (inr is) = ap has_line is

tells-speak : (a : Answer) (tells : Completion → List ℕ) (ts : List ℕ) → ((c : Completion) → has_line (tells c) ≡ true) → Tells a (map (λ t. record { ticket = t; line = a.line; tells = tells }) ts) → Speaks a
tells-speak a tells [] says told = others-speak a (told.others refl)
tells-speak a tells (t ∷ ts) says told =
    let x : ControlAnswer = record { ticket = t; line = a.line; tells = tells } in
    let came = All-head (Came a.state.host) x (map (λ t. record { ticket = t; line = a.line; tells = tells }) ts) told.each in
    ap has_line came.told_ ∙ says came.completion

future-speaks : (a : Answer) (o : Option FutureState) → Tells a (answered_future a.line o) → Speaks a
future-speaks a None told = others-speak a (told.others refl)
future-speaks a (Some f) told = tells-speak a (λ c. received_line (control_answer f.direction c)) (tickets_listed f.ticket) (λ c. received-speaks (control_answer f.direction c)) told

-- whether a call is one that has no answer
abbrev is_silent : Call → Bool
is_silent calls.Setup = true
is_silent (calls.Steps steps) = true
is_silent call = false

-- each other call but those of control transfers
call-speaks : (state : State) (call : Call) → AllTell state → is_silent call ≡ false → answers_control call ≡ false → Speaks (call_answer state call)
unfolding call_answer now_line on_device on_interface on_endpoint on_reader on_writer on_client
call-speaks state calls.Setup tells silent other = absurd (cc)
call-speaks state (calls.Steps steps) tells silent other = absurd (cc)
call-speaks state calls.Now tells silent other = refl
call-speaks state (calls.Tree call) tells silent other = on_tree-speaks state call
call-speaks state (calls.Open call) tells silent other = on_open-speaks state call
call-speaks state (calls.Close call) tells silent other = on_close-speaks state call
call-speaks state (calls.Device d call) tells silent other = named-speaks state (device_at state d) (λ x. at_host state (device_called call state.host x)) (device_called-speaks state call)
call-speaks state (calls.Interface i call) tells silent other = named-speaks state (interface_at state i) (λ x. at_host state (interface_called call state.host x)) (interface_called-speaks state call)
call-speaks state (calls.Endpoint e call steps) tells silent other =
    let now = with_steps state steps in named-speaks now (named now.endpoints e) (endpoint_called call now e) (endpoint_called-speaks now e call)
call-speaks state (calls.Reader r call steps) tells silent other =
    let now = with_steps state steps in named-speaks now (named now.readers r) (reader_called call now r) (reader_called-speaks now r call)
call-speaks state (calls.Writer w call steps) tells silent other =
    let now = with_steps state steps in named-speaks now (named now.writers w) (writer_called call now w) (writer_called-speaks now w call)
call-speaks state (calls.Client m call steps) tells silent other =
    let now = with_steps state steps in open-speaks now (named now.clients m) (client_called call now m) (λ x at. client_called-speaks now m call x (tells m x at))
call-speaks state (calls.Control call steps) tells silent other = absurd (cc)
call-speaks state (calls.Future n call) tells silent other = absurd (cc)

-- and those
control-speaks : (state : State) (call : Call) (a : Answer) → answers_control call ≡ true → Tells a (answered_by state call a) → Speaks a
control-speaks state (calls.Control call steps) a is told = tells-speak a (told_of call) (control_ticket_by state (calls.Control call steps) a) (told_of-speaks call) told
control-speaks state (calls.Future n call) a is told = future-speaks a (future_gone state a.state n) told
control-speaks state call a is told = absurd (cc)

-- the call of a line that is a call has one
call_of-speaks : (line : Item) → is_call line ≡ true → is_silent (call_of line) ≡ false
unfolding call_of
call_of-speaks (lines.Device k bus address speed configuration descriptors) is = absurd (cc)
call_of-speaks (lines.Driver k number) is = absurd (cc)
call_of-speaks (lines.Attribute path name value) is = absurd (cc)
call_of-speaks (lines.Denied path name errno) is = absurd (cc)
call_of-speaks (lines.Child path name) is = absurd (cc)
call_of-speaks (lines.Link path name target) is = absurd (cc)
call_of-speaks (lines.Entry name path) is = absurd (cc)
call_of-speaks (lines.Root errno) is = absurd (cc)
call_of-speaks (lines.Uevent groups bytes) is = absurd (cc)
call_of-speaks (lines.Steps steps) is = absurd (cc)
call_of-speaks line is = refl

-- where the session is crowded it is barred
answer-speaks : (state : State) (line : Item) → Speaks (line_answer state line) → Speaks (answer state line)
unfolding answer
answer-speaks state line says = either-speaks (bars_line state line) (condition_answer (stepped_all state (steps_in line))) (line_answer state line) refl says

line-speaks : (items before : List Item) (line : Item) → is_call line ≡ true → (b : Bool) → answers_control (call_of line) ≡ b → Speaks (answer (behind (start items) before) line)
line-speaks items before line is true yes_ =
    let state = behind (start items) before in
    control-speaks state (call_of line) (answer state line) yes_ (answer-tells state line (inv-of items before) (await-behind (start items) before (inv-start items) (none-await items)) yes_)
line-speaks items before line is false no_ =
    let state = behind (start items) before in
    answer-speaks state line (call-speaks state (call_of line) (tell-behind scripts-go_on items before) (call_of-speaks line is) no_)

some-line : (l : List ℕ) → has_line l ≡ true → l ≢ []
some-line [] is = absurd (cc)
some-line (x ∷ xs) is = λ none. cc

pub calls-speak : (items before : List Item) (line : Item) → is_call line ≡ true → (answer (behind (start items) before) line).line ≢ []
calls-speak items before line is = some-line (answer (behind (start items) before) line).line (line-speaks items before line is (answers_control (call_of line)) refl)
