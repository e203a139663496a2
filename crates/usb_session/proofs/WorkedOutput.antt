-- What it means that a script is worked out: its items, and what is written for it, computed by the definitions alone.
use lib.Utf8.{encode}
use Rattle.std.proofs.Common.{◌≡◌, ℕ, List, [], ◌∷◌, ◌++◌, Ok}
use Rattle.std.specs.Fmt.{digits}
use Rattle.std.specs.Prelude.{⊤, map, flat_map}
use Rattle.std.specs.Char.Utf16.{utf16_chars}
use Rattle.hex.specs.Hex.{encode_with}
use Rattle.usb_desc.specs.Chain.{chain}
use Rattle.usb_desc.specs.Groups.{groups}
use Rattle.usb_desc.specs.Configurations.{concatenated, configurations}
use Rattle.usb_desc.specs.Interfaces.{interfaces_among}
use Rattle.usb_kernel.specs.Timers.{timer_turned}
use Rattle.usb_kernel.specs.Completions.{completion}
use Rattle.usb_kernel.specs.Info.{unreaped}
use Rattle.usb_kernel.specs.TransferCompletions.{transfer_completion}
use Rattle.usb_device_endpoint.specs.Waits.{waited}
use Rattle.usb_device_endpoint.specs.Blocking.{waited_by_seconds}
use Rattle.usb_io.specs.Reads.{turned}
use Rattle.usb_io.specs.Fronts.{drained}
use Rattle.usb_msg.specs.Responses.{gathered}
use Rattle.usb_device_ledger.specs.Owners.{is_used_among, is_owned_among}
use Rattle.usb_device_ledger.specs.Releases.{claim_ended, claim_of, endpoints_left}
use Rattle.usb_device_host.specs.Releases.{endpoint_left, owner_gone, settled}
use Rattle.usb_device_ledger.specs.Devices.{device_changed}
use Rattle.usb_kernel.specs.Calls.{called, after_reset}
use Rattle.usb_device_host.specs.Opens.{descriptors_tried, open_tried, host_opened, open_key}
use Rattle.usb_device_host.specs.InterfaceClaims.{host_claimed}
use Rattle.usb_device_host.specs.EndpointOpens.{host_asked, endpoint_of_setting, host_tries}
use Rattle.usb_device_host.specs.Controls.{host_started}
use Rattle.usb_device_host.specs.HostAwaits.{host_awaited}
use Rattle.usb_device_host.specs.HostCalls.{host_submitted, host_refused, host_discarded, host_left}
use Rattle.usb_device_host.specs.TicketEnds.{host_ended, host_taken, host_abandoned, came}
use Rattle.usb_device_host.specs.HostTurns.{host_stepped, host_reaped, host_turned, host_turn}
use Rattle.usb_device_host.specs.Handles.{handle_cloned, handle_closed}
use Rattle.usb_device_host.specs.OnDevices.{host_detached, host_attached, host_reset, host_configured, host_speed_asked}
use Rattle.usb_device_host.specs.OnInterfaces.{alt_setting_set}
use Rattle.usb_device_host.specs.Speeds.{speed_of_code}
use Rattle.usb_device_host.specs.Finishes.{finished}
use Rattle.usb_session_text.specs.Words.{hex_word, class_code}
use Rattle.usb_session_text.specs.Calls.{error_line}
use Rattle.usb_session_text.specs.Completions.{done_line, count_line, now_line}
use Rattle.usb_session_text.specs.Controls.{data_line, failed_line, languages_told, string_told}
use Rattle.usb_session_text.specs.Tickets.{ticket_line}
use Rattle.usb_session_text.specs.Devices.{device_line, class_words, product_words, string_words}
use Rattle.usb_session_text.specs.Settings.{configuration_line, no_configuration_line, speed_line, alt_setting_line}
use Rattle.usb_session_text.specs.Descriptors.{endpoint_words, class_words as interface_words, setting_words, configuration_words, descriptors_line}
use Rattle.usb_script_lines.specs.declared.item.Item.{Item}
use Rattle.usb_script.specs.Parse.{script_of}
use Rattle.usb_session_calls.specs.Names.{named, is_free, change_named, freed, set_name}
use Rattle.usb_session.specs.Opens.{open_answer}
use Rattle.usb_session.specs.Claims.{claim_answer}
use Rattle.usb_session_calls.specs.Endpoints.{endpoint_answer}
use Rattle.usb_session_calls.specs.Steps.{stepped_all}
use Rattle.usb_session_calls.specs.Clones.{clone_device_answer, clone_interface_answer}
use Rattle.usb_session_streams.specs.Faults.{io_line}
use Rattle.usb_session_streams.specs.Reads.{read_line, buffer_line}
use Rattle.usb_session_streams.specs.Writes.{wrote_line}
use Rattle.usb_session_streams.specs.ClientLines.{tag_line, body_line}
use Rattle.usb_session_calls.specs.Readers.{reader_answer, inner_answer, close_reader_answer, reader_closed}
use Rattle.usb_session_calls.specs.Writers.{writer_answer, writer_inner_answer, close_writer_answer, writer_closed}
use Rattle.usb_session_calls.specs.Clients.{client_answer, close_client_answer, client_closed}
use Rattle.usb_session_calls.specs.Controls.{on_control}
use Rattle.usb_session.specs.Futures.{start_answer, on_future}
use Rattle.usb_session_calls.specs.Closes.{close_answer, close_future_answer, close_device_answer, close_interface_answer, release_answer, closed}
use Rattle.usb_session_calls.specs.Calls.{call_of}
use Rattle.usb_session_calls.specs.DeviceCalls.{on_device}
use Rattle.usb_session_calls.specs.InterfaceCalls.{on_interface}
use Rattle.usb_session_calls.specs.EndpointCalls.{on_endpoint}
use Rattle.usb_session_calls.specs.CalledReaders.{on_reader}
use Rattle.usb_session_calls.specs.CalledWriters.{on_writer}
use Rattle.usb_session_calls.specs.CalledClients.{on_client}
use Rattle.usb_session.specs.CallAnswers.{call_answer}
use Rattle.usb_session.specs.Answers.{answer}
use Rattle.usb_session.specs.Ends.{future_closed_under, interface_closed, name_closed, all_closed, ended}
use Rattle.usb_session.specs.Fates.{fate_line, fate_lines}
use Rattle.usb_session.specs.Output.{start, output}

-- all that an output unfolds
unfoldable pub output_on_literals : ⊤
unfolding output start answer call_of call_answer on_device on_interface on_endpoint on_reader on_writer on_client on_control on_future reader_answer inner_answer close_reader_answer reader_closed turned read_line buffer_line io_line writer_answer writer_inner_answer close_writer_answer writer_closed client_answer close_client_answer client_closed gathered tag_line body_line drained wrote_line start_answer close_future_answer future_closed_under host_started host_awaited timer_turned data_line failed_line languages_told string_told utf16_chars encode open_answer claim_answer endpoint_answer close_answer clone_device_answer clone_interface_answer close_device_answer close_interface_answer release_answer stepped_all closed interface_closed name_closed all_closed ended fate_line fate_lines named is_free change_named freed set_name is_used_among is_owned_among claim_ended claim_of owner_gone settled endpoint_left endpoints_left device_changed called descriptors_tried open_tried host_opened open_key host_claimed host_asked endpoint_of_setting host_tries host_submitted host_refused host_discarded host_left host_ended host_taken host_abandoned came host_stepped host_reaped host_turned host_turn waited waited_by_seconds handle_closed handle_cloned after_reset host_detached host_attached host_reset host_configured host_speed_asked speed_of_code alt_setting_set finished transfer_completion completion unreaped chain groups concatenated configurations interfaces_among hex_word error_line done_line count_line now_line ticket_line device_line class_words product_words string_words class_code endpoint_words interface_words setting_words configuration_words descriptors_line configuration_line no_configuration_line speed_line alt_setting_line digits encode_with
output_on_literals = tt

-- a line of a script, the item that it is, and the line that it is answered, which is empty where it has no answer
abbrev pub Line : Type 0
Line = List ℕ × Item × List ℕ

-- with LF at its end, and nothing for an empty one
abbrev pub with_end : List ℕ → List ℕ
with_end [] = []
with_end (b ∷ bytes) = (b ∷ bytes) ++ 10 ∷ []

abbrev pub script : List Line → List ℕ
script lines = flat_map (λ line. with_end line.0) lines

abbrev pub items : List Line → List Item
items lines = map (λ line. line.1) lines

abbrev pub answers : List Line → List ℕ
answers lines = flat_map (λ line. with_end line.2) lines

-- the bytes of the lines are a script of their items, and what is written for these are the answers and then the fates of the tickets
abbrev pub IsWorkedOut : List Line → List (List ℕ) → Type 0
IsWorkedOut lines fates = (script_of (script lines) ≡ Ok (items lines)) × (output (items lines) ≡ answers lines ++ flat_map with_end fates)
