-- The lines of endpoints see no place of the kernel.
use Rattle.std.proofs.Common.{List, None, Option, Some, ap, refl, slice_get, ℕ, ◌∙◌, ◌≡◌}
use Rattle.usb_desc.specs.declared.types.Direction.{Direction}
use Rattle.usb_desc.specs.declared.types.Direction.TheVariants.{In, Out}
use Rattle.usb_device_endpoint.specs.Blocking.{blocked}
use Rattle.usb_device_endpoint.specs.Submits.{entered}
use Rattle.usb_device_endpoint.specs.Waits.{waited}
use Rattle.usb_device_host.specs.HostCalls.{host_calls}
use Rattle.usb_device_host.specs.HostState.{HostState}
use Rattle.usb_kernel.specs.Calls.{called}
use Rattle.usb_kernel.specs.TransferCompletions.{transfer_completion}
use Rattle.usb_session_beginnings.proofs.Hosts.{bare, blocked-blind, discards-blind, entered-blind, taken-blind, waited-blind}
use Rattle.usb_session_beginnings.proofs.States.{AnswersBlind, bar-blind, bare_answer, open-blind}
use Rattle.usb_session_calls.specs.Answer.{answer_with, ok_answer}
use Rattle.usb_session_calls.specs.Buffers.{in_buffer, out_buffer}
use Rattle.usb_session_calls.specs.EndpointCalls.{endpoint_called, on_endpoint}
use Rattle.usb_session_calls.specs.Halts.{halt_cleared}
use Rattle.usb_session_calls.specs.Names.{change_named, named}
use Rattle.usb_session_calls.specs.Polls.{front_taken, poll_on, took}
use Rattle.usb_session_calls.specs.State.{Endpoint, State, tickets_of, with_host}
use Rattle.usb_session_calls.specs.Submits.{bars_submission, deadline_by, submit_on, submitted, with_submission}
use Rattle.usb_session_calls.specs.Transfers.{bars_transfer, transfer_ended, transfer_made, transfer_on, with_taken}
use Rattle.usb_session_calls.specs.Waits.{wait_ended, wait_on}
use Rattle.usb_session_calls.specs.declared.call.EndpointCall.{EndpointCall}
use Rattle.usb_session_text.specs.Completions.{polled_line, waited_line}
use Rattle.usb_xfer.specs.BufferState.{BufferState}
use Rattle.usb_xfer.specs.declared.transfer.Completion.{Completion}
use Rattle.usb_session_calls.specs.declared.call.EndpointCall.TheVariants as endpoints

submit_on-blind : (direction : Direction) (e : ℕ) (b : BufferState) (timeout : Option ℕ) (h : Endpoint)
    → AnswersBlind (λ s. submit_on s direction e b timeout h)
submit_on-blind direction e b timeout h s =
    bar-blind s (bars_submission s.host.kernel.past direction h.state) (λ s. ok_answer (submitted s e b timeout h))
    (ap (λ g. ok_answer (record s { host = g; endpoints = change_named (with_submission (tickets_of s)) s.endpoints e }))
    (entered-blind h.state (deadline_by s.host timeout) b s.host))

took-blind : (line : Option Completion → List ℕ) (e t : ℕ) (o : Option Completion) → AnswersBlind (λ s. took line s e t o)
took-blind line e t None s = refl
took-blind line e t (Some c) s =
    ap (λ g. answer_with (record s { host = g; endpoints = change_named (front_taken t) s.endpoints e }) (line (Some c))) (taken-blind t s.host)

poll_on-blind : (e : ℕ) (o : Option ℕ) → AnswersBlind (λ s. poll_on s e o)
poll_on-blind e None s = refl
poll_on-blind e (Some t) s = took-blind polled_line e t (transfer_completion s.host.kernel.past t) s

wait_on-blind : (e timeout : ℕ) (o : Option ℕ) → AnswersBlind (λ s. wait_on s e timeout o)
wait_on-blind e timeout None s = refl
wait_on-blind e timeout (Some t) s =
    let host = waited host_calls t timeout s.host in
    ap (wait_ended s e t) (waited-blind t timeout s.host)
    ∙ took-blind waited_line e t (transfer_completion host.kernel.past t) (with_host s host)

ended-blind : (s : State) (e t : ℕ) (host : HostState) → transfer_ended s e t (bare host) ≡ bare_answer (transfer_ended s e t host)
ended-blind s e t host =
    ap (λ g. answer_with (record s { host = g; endpoints = change_named (with_taken t) s.endpoints e })
    (waited_line (transfer_completion host.kernel.past t)))
    (taken-blind t host)

transfer_on-blind : (direction : Direction) (e : ℕ) (b : BufferState) (timeout : ℕ) (h : Endpoint)
    → AnswersBlind (λ s. transfer_on s direction e b timeout h)
transfer_on-blind direction e b timeout h s =
    let t = tickets_of s in
    let host = entered host_calls s.host h.state None b in
    bar-blind s (bars_transfer s.host.kernel.past direction h.state) (λ s. transfer_made s e b timeout h)
    (ap (transfer_ended s e t) (ap (blocked host_calls t timeout) (entered-blind h.state None b s.host) ∙ blocked-blind t timeout host)
    ∙ ended-blind s e t (blocked host_calls t timeout host))

halt-blind : (h : Endpoint) → AnswersBlind (λ s. halt_cleared s h)
unfolding called
halt-blind h s = refl

endpoint_called-blind : (e : ℕ) (call : EndpointCall) (h : Endpoint) → AnswersBlind (λ s. endpoint_called call s e h)
endpoint_called-blind e (endpoints.SubmitIn n timeout) h = submit_on-blind In e (in_buffer n) timeout h
endpoint_called-blind e (endpoints.SubmitOut bytes timeout) h = submit_on-blind Out e (out_buffer bytes) timeout h
endpoint_called-blind e endpoints.Pending h = λ s. refl
endpoint_called-blind e endpoints.Poll h = poll_on-blind e (slice_get h.state.pending 0)
endpoint_called-blind e (endpoints.Wait timeout) h = wait_on-blind e timeout (slice_get h.state.pending 0)
endpoint_called-blind e (endpoints.TransferIn n timeout) h = transfer_on-blind In e (in_buffer n) timeout h
endpoint_called-blind e (endpoints.TransferOut bytes timeout) h = transfer_on-blind Out e (out_buffer bytes) timeout h
endpoint_called-blind e endpoints.Cancel h = λ s. ap (λ g. ok_answer (with_host s g)) (discards-blind h.state.pending s.host)
endpoint_called-blind e endpoints.ClearHalt h = halt-blind h

pub on_endpoint-blind : (e : ℕ) (call : EndpointCall) → AnswersBlind (λ s. on_endpoint s e call)
unfolding on_endpoint
on_endpoint-blind e call s = open-blind s (named s.endpoints e) (λ s. endpoint_called call s e) (λ h. endpoint_called-blind e call h s)
