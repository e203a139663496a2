-- Calls on a writer take steps from the front of the line, and keep what is open.
use Rattle.std.proofs.Common.{◌∙◌, ◌≡◌, ℕ, Bool, true, false, List, [], ◌∷◌, Option, None, refl, ap, sym, subst}
use Rattle.usb_xfer.specs.BufferState.{BufferState}
use Rattle.usb_xfer.specs.declared.transfer.Completion.{Completion}
use Rattle.usb_kernel.proofs.Extends.{extends-same, extends-trans}
use Rattle.usb_device_endpoint.specs.EndpointState.{EndpointState, route_of}
use Rattle.usb_device_endpoint.specs.Waits.{waited}
use Rattle.usb_device_endpoint.specs.Submits.{is_valid, transfer_by, handed_over, entered}
use Rattle.usb_device_host.specs.HostState.{HostState}
use Rattle.usb_device_host.specs.HostCalls.{host_calls}
use Rattle.usb_device_host.specs.HostFrames.{LineGoesOn}
use Rattle.usb_device_host.specs.TicketEnds.{host_taken}
use Rattle.usb_device_host.proofs.HostKeeps.{KeepsOpen}
use Rattle.usb_device_host.proofs.CallFrames.{keeps-open, keeps-submitted, keeps-refused, keeps-taken}
use Rattle.usb_device_host.proofs.CountLemmas.{entered-count, waited-count, taken-count}
use Rattle.usb_device_host.proofs.FollowLemmas.{adds-entered, taken-past}
use Rattle.usb_device_host.proofs.WaitFrames.{line-keeps, line-trans, went-waited}
use Rattle.usb_io.specs.Writers.{WriterState, Writing, writing, not_begun, send, with_taken, KeepsWriter}
use Rattle.usb_io.specs.WriteAnswers.{write_drained, write_came, flush_came, flush_end_came, poll_flush_end_came, submit_came, submit_end_came}
use Rattle.usb_session_streams.specs.Told.{Write, FlushAll, FlushEnd, PollFlushEnd, Submit, SubmitEnd}
use Rattle.usb_session_streams.specs.Accounts.{TicketsAreCounted, KeepsAccountsOf}
use Rattle.usb_session_streams.specs.WriterCalls.{WriterGoesOn, WriterCallsGoOn}
use Rattle.usb_session_streams.proofs.AccountLemmas.{counted-kept, counted-more, accounts-of, accounts-waited, of-same, of-on, of-entered, of-taken}
use Rattle.usb_session_streams.proofs.WritesKeep.{with_set, Keeps, submit-keeps, submit_end-keeps, write_drained-keeps, write-keeps, flush-keeps, flush_end-keeps, poll_flush_end-keeps}

keeps-same : (w : WriterState) → KeepsWriter w w
keeps-same w = record { n = refl; size = refl; timeout = refl; endpoint = refl }

pub line-same : (h : HostState) → LineGoesOn h h
line-same h = line-keeps h h (keeps-open h)

pub call-same : (w : Writing HostState) → WriterGoesOn w w
call-same w =
    record {
      line = line-same w.bus;
      past = extends-same w.bus.kernel.past;
      settings = keeps-same w.writer;
      accounts = λ open_. of-same w.bus w.writer.endpoint.key w.writer.endpoint.pending;
    }

pub call-trans : (a b c : Writing HostState) → WriterGoesOn a b → WriterGoesOn b c → WriterGoesOn a c
call-trans a b c first second =
    record {
      line = line-trans a.bus b.bus c.bus first.line second.line;
      past = extends-trans a.bus.kernel.past b.bus.kernel.past c.bus.kernel.past first.past second.past;
      settings = record {
        n = second.settings.n ∙ first.settings.n;
        size = second.settings.size ∙ first.settings.size;
        timeout = second.settings.timeout ∙ first.settings.timeout;
        endpoint = second.settings.endpoint ∙ ap (λ (e : EndpointState). record e { pending = c.writer.endpoint.pending }) first.settings.endpoint;
      };
      accounts = λ open_. of-on a.bus b.bus c.bus a.writer.endpoint.key b.writer.endpoint.key a.writer.endpoint.pending b.writer.endpoint.pending c.writer.endpoint.pending (ap (λ (e : EndpointState). e.key) first.settings.endpoint) first.line open_ (first.accounts open_) second.accounts;
    }

pub call-set : (w : Writing HostState) (buffer : Option (List ℕ)) (begun : Bool) → WriterGoesOn w (with_set buffer begun w)
call-set w buffer begun =
    record {
      line = line-same w.bus;
      past = extends-same w.bus.kernel.past;
      settings = record { n = refl; size = refl; timeout = refl; endpoint = refl };
      accounts = λ open_. of-same w.bus w.writer.endpoint.key w.writer.endpoint.pending;
    }

pub call-not_begun : (w : Writing HostState) → WriterGoesOn w (not_begun w)
call-not_begun w = call-set w w.writer.buffer false

keeps-handed : (h : HostState) (e : EndpointState) (b : BufferState) (valid : Bool) → KeepsOpen h (handed_over host_calls h (route_of e) None (transfer_by (route_of e) b) valid)
keeps-handed h e b true = keeps-submitted h (route_of e) None (transfer_by (route_of e) b)
keeps-handed h e b false = keeps-refused h (route_of e) (transfer_by (route_of e) b) 22

pub call-send : (w : Writing HostState) (b : BufferState) → WriterGoesOn w (send host_calls b w)
call-send w b =
    record {
      line = line-keeps w.bus (entered host_calls w.bus w.writer.endpoint None b) (keeps-handed w.bus w.writer.endpoint b (is_valid w.writer.endpoint b));
      past = (adds-entered w.bus w.writer.endpoint None b).goes.past;
      settings = record { n = refl; size = refl; timeout = refl; endpoint = refl };
      accounts = λ open_. of-entered w.bus w.writer.endpoint None b open_;
    }

pub call-waited : (w : Writing HostState) (front timeout : ℕ) → WriterGoesOn w (writing (waited host_calls front timeout w.bus) w.writer)
call-waited w front timeout =
    let went = went-waited w.bus front timeout in
    record {
      line = went.line;
      past = went.later.past;
      settings = keeps-same w.writer;
      accounts = λ open_. accounts-of w.bus (waited host_calls front timeout w.bus) w.writer.endpoint.key w.writer.endpoint.pending (accounts-waited w.bus front timeout);
    }

pub call-taken : (w : Writing HostState) (front : ℕ) (others : List ℕ) (c : Completion) → w.writer.endpoint.pending ≡ front ∷ others → WriterGoesOn w (writing (host_taken w.bus front) (with_taken c others w.writer))
call-taken w front others c was =
    record {
      line = line-keeps w.bus (host_taken w.bus front) (keeps-taken w.bus front);
      past = record { more = []; is = taken-past w.bus front };
      settings = record { n = refl; size = refl; timeout = refl; endpoint = refl };
      accounts = λ open_.
          subst (λ (ts : List ℕ). KeepsAccountsOf w.bus (host_taken w.bus front) w.writer.endpoint.key ts others) (sym was) (of-taken w.bus front others w.writer.endpoint.key);
    }

call-kept : (first : Writing HostState) → Keeps (WriterGoesOn first)
call-kept first = record {
  set = λ w buffer begun so_far. call-trans first w (with_set buffer begun w) so_far (call-set w buffer begun);
  submission = λ w b so_far. call-trans first w (send host_calls b w) so_far (call-send w b);
  wait = λ w timeout front others was so_far. call-trans first w (writing (waited host_calls front timeout w.bus) w.writer) so_far (call-waited w front timeout);
  taking = λ w front others c was come so_far. call-trans first w (writing (host_taken w.bus front) (with_taken c others w.writer)) so_far (call-taken w front others c was);
}

pub call-write_drained : (timeout : ℕ) (w : Writing HostState) → WriterGoesOn w (write_drained host_calls timeout w).left
call-write_drained timeout w = write_drained-keeps (WriterGoesOn w) (call-kept w) timeout w (call-same w)

pub write_goes_on : (timeout : ℕ) (src : List ℕ) (w : Writing HostState) → WriterGoesOn w (write_came host_calls timeout src w).left
write_goes_on timeout src w = write-keeps (WriterGoesOn w) (call-kept w) timeout src w (call-same w)

pub flush_goes_on : (timeout : ℕ) (w : Writing HostState) → WriterGoesOn w (flush_came host_calls timeout w).left
flush_goes_on timeout w = flush-keeps (WriterGoesOn w) (call-kept w) timeout w (call-same w)

pub flush_end_goes_on : (timeout : ℕ) (w : Writing HostState) → WriterGoesOn w (flush_end_came host_calls timeout w).left
flush_end_goes_on timeout w = flush_end-keeps (WriterGoesOn w) (call-kept w) timeout w (call-same w)

pub poll_flush_end_goes_on : (w : Writing HostState) → WriterGoesOn w (poll_flush_end_came host_calls w).left
poll_flush_end_goes_on w = poll_flush_end-keeps (WriterGoesOn w) (call-kept w) w (call-same w)

pub submit_goes_on : (w : Writing HostState) → WriterGoesOn w (submit_came host_calls w)
submit_goes_on w = submit-keeps (WriterGoesOn w) (call-kept w) w (call-same w)

pub submit_end_goes_on : (w : Writing HostState) → WriterGoesOn w (submit_end_came host_calls w)
submit_end_goes_on w = submit_end-keeps (WriterGoesOn w) (call-kept w) w (call-same w)

pub writer_calls-go_on : WriterCallsGoOn
writer_calls-go_on (Write timeout src) w = write_goes_on timeout src w
writer_calls-go_on (FlushAll timeout) w = flush_goes_on timeout w
writer_calls-go_on (FlushEnd timeout) w = flush_end_goes_on timeout w
writer_calls-go_on PollFlushEnd w = poll_flush_end_goes_on w
writer_calls-go_on Submit w = submit_goes_on w
writer_calls-go_on SubmitEnd w = submit_end_goes_on w

-- a host has as many tickets as its journal
abbrev pub IsCounted : Writing HostState → Type 0
IsCounted w = TicketsAreCounted w.bus

count-kept : Keeps IsCounted
count-kept = record {
  set = λ w buffer begun so_far. so_far;
  submission = λ w b so_far. counted-more w.bus (entered host_calls w.bus w.writer.endpoint None b) (entered-count w.bus w.writer.endpoint None b) so_far;
  wait = λ w timeout front others was so_far. counted-kept w.bus (waited host_calls front timeout w.bus) (waited-count w.bus front timeout) so_far;
  taking = λ w front others c was come so_far. counted-kept w.bus (host_taken w.bus front) (taken-count w.bus front) so_far;
}

pub write-count : (timeout : ℕ) (src : List ℕ) (w : Writing HostState) → IsCounted w → IsCounted (write_came host_calls timeout src w).left
write-count timeout src w so_far = write-keeps IsCounted count-kept timeout src w so_far

pub flush-count : (timeout : ℕ) (w : Writing HostState) → IsCounted w → IsCounted (flush_came host_calls timeout w).left
flush-count timeout w so_far = flush-keeps IsCounted count-kept timeout w so_far

pub flush_end-count : (timeout : ℕ) (w : Writing HostState) → IsCounted w → IsCounted (flush_end_came host_calls timeout w).left
flush_end-count timeout w so_far = flush_end-keeps IsCounted count-kept timeout w so_far

pub poll_flush_end-count : (w : Writing HostState) → IsCounted w → IsCounted (poll_flush_end_came host_calls w).left
poll_flush_end-count w so_far = poll_flush_end-keeps IsCounted count-kept w so_far

pub submit-count : (w : Writing HostState) → IsCounted w → IsCounted (submit_came host_calls w)
submit-count w so_far = submit-keeps IsCounted count-kept w so_far

pub submit_end-count : (w : Writing HostState) → IsCounted w → IsCounted (submit_end_came host_calls w)
submit_end-count w so_far = submit_end-keeps IsCounted count-kept w so_far
