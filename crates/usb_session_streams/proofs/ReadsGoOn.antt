-- Calls on a reader take steps from the front of the line, and keep what is open.
use Rattle.std.proofs.Common.{◌∙◌, ◌≡◌, ℕ, Bool, List, [], ◌∷◌, None, Result, Ok, Err, refl, ap, subst, sym, false}
use Rattle.std.specs.Prelude.{IfOk, IfErr, OnOk, OnErr}
use Rattle.std.specs.Borrow.{Bor}
use Rattle.usb_desc.specs.declared.error.Fail.{Fail}
use Rattle.usb_desc.specs.declared.error.NoMemory.{NoMemory}
use Rattle.usb_error.specs.ErrorState.{ErrorState}
use Rattle.usb_error.specs.Errors.{clear_halt_error}
use Rattle.usb_kernel.specs.Calls.{called}
use Rattle.usb_kernel.proofs.Extends.{extends-same, extends-trans}
use Rattle.usb_xfer.specs.declared.transfer.Completion.{Completion}
use Rattle.usb_device_endpoint.specs.CallErrors.{or_error}
use Rattle.usb_device_endpoint.specs.EndpointState.{EndpointState}
use Rattle.usb_device_endpoint.specs.Submits.{entered}
use Rattle.usb_device_endpoint.specs.Waits.{waited}
use Rattle.usb_device_host.specs.HostState.{HostState}
use Rattle.usb_device_host.specs.HostCalls.{host_halt_result, host_halt_cleared, host_calls}
use Rattle.usb_device_host.specs.TicketEnds.{host_taken}
use Rattle.usb_device_host.proofs.CallFrames.{keeps-taken}
use Rattle.usb_device_host.proofs.CountLemmas.{entered-count, waited-count, taken-count}
use Rattle.usb_device_host.proofs.FollowLemmas.{adds-entered, taken-past}
use Rattle.usb_device_host.proofs.WaitFrames.{line-keeps, line-trans, went-waited}
use Rattle.usb_io.specs.Readers.{ReaderState, fresh_buffer, with_taken, without_error}
use Rattle.usb_io.specs.Reads.{Reading, reading, KeepsSettings, pending_of, ended_off, submit_one, filled_to, FilledShort}
use Rattle.usb_io.specs.Answered.{answered}
use Rattle.usb_io.specs.Answers.{fill_came, read_came, ReadFails}
use Rattle.usb_io.specs.Lent.{Filled}
use Rattle.usb_io.specs.declared.fault.ReadFault.{ReadFault}
use Rattle.usb_io.proofs.ReadKeeps.{Keeps, KeepsRead, fill-keeps, read-keeps, filled-keeps, filled_short-keeps, read_answer-keeps, fill_answer-keeps}
use Rattle.usb_session_streams.specs.ReaderCalls.{Fill, Read, Submit, ClearHalt, halt_left, halt_came, ReaderGoesOn, ReaderCallsGoOn}
use Rattle.usb_session_streams.specs.Accounts.{TicketsAreCounted, KeepsAccountsOf}
use Rattle.usb_session_streams.proofs.AccountLemmas.{counted-kept, counted-more, accounts-of, accounts-waited, accounts-halt, of-same, of-on, of-entered, of-taken}
use Rattle.usb_session_streams.proofs.LinesGoOn.{line-same, line-one, line-halt}
use Rattle.usb_session_streams.proofs.Halted.{halted-rest, halted-settings}

settings-same : (r : ReaderState) → KeepsSettings r r
settings-same r = record { n = refl; size = refl; timeout = refl }

pub call-same : (w : Reading HostState) → ReaderGoesOn w w
call-same w =
    record {
      line = line-same w.bus;
      past = extends-same w.bus.kernel.past;
      endpoint = refl;
      settings = settings-same w.reader;
      accounts = λ open_. of-same w.bus w.reader.endpoint.key (pending_of w);
    }

pub call-trans : (a b c : Reading HostState) → ReaderGoesOn a b → ReaderGoesOn b c → ReaderGoesOn a c
call-trans a b c first second =
    record {
      line = line-trans a.bus b.bus c.bus first.line second.line;
      past = extends-trans a.bus.kernel.past b.bus.kernel.past c.bus.kernel.past first.past second.past;
      endpoint = second.endpoint ∙ ap (λ (e : EndpointState). record e { pending = c.reader.endpoint.pending }) first.endpoint;
      settings = record { n = second.settings.n ∙ first.settings.n; size = second.settings.size ∙ first.settings.size; timeout = second.settings.timeout ∙ first.settings.timeout };
      accounts = λ open_. of-on a.bus b.bus c.bus a.reader.endpoint.key b.reader.endpoint.key (pending_of a) (pending_of b) (pending_of c) (ap (λ (e : EndpointState). e.key) first.endpoint) first.line open_ (first.accounts open_) second.accounts;
    }

call-one : (w : Reading HostState) → ReaderGoesOn w (submit_one host_calls w)
call-one w =
    let b = fresh_buffer w.reader.size in
    record {
      line = line-one w;
      past = (adds-entered w.bus w.reader.endpoint None b).goes.past;
      endpoint = refl;
      settings = record { n = refl; size = refl; timeout = refl };
      accounts = λ open_. of-entered w.bus w.reader.endpoint None b open_;
    }

call-waited : (w : Reading HostState) (front timeout : ℕ) → ReaderGoesOn w (reading (waited host_calls front timeout w.bus) w.reader)
call-waited w front timeout =
    let went = went-waited w.bus front timeout in
    record {
      line = went.line;
      past = went.later.past;
      endpoint = refl;
      settings = settings-same w.reader;
      accounts = λ open_. accounts-of w.bus (waited host_calls front timeout w.bus) w.reader.endpoint.key (pending_of w) (accounts-waited w.bus front timeout);
    }

call-taken : (w : Reading HostState) (front : ℕ) (others : List ℕ) (c : Completion) → pending_of w ≡ front ∷ others → ReaderGoesOn w (reading (host_taken w.bus front) (with_taken c others w.reader))
call-taken w front others c was =
    record {
      line = line-keeps w.bus (host_taken w.bus front) (keeps-taken w.bus front);
      past = record { more = []; is = taken-past w.bus front };
      endpoint = refl;
      settings = record { n = refl; size = refl; timeout = refl };
      accounts = λ open_.
          subst (λ (ts : List ℕ). KeepsAccountsOf w.bus (host_taken w.bus front) w.reader.endpoint.key ts others) (sym was) (of-taken w.bus front others w.reader.endpoint.key);
    }

call-off : (w : Reading HostState) → ReaderGoesOn w (ended_off w)
call-off w =
    record {
      line = line-same w.bus;
      past = extends-same w.bus.kernel.past;
      endpoint = refl;
      settings = record { n = refl; size = refl; timeout = refl };
      accounts = λ open_. of-same w.bus w.reader.endpoint.key (pending_of w);
    }

call-read : (first : Reading HostState) → KeepsRead (ReaderGoesOn first)
call-read first w n so_far =
    record {
      line = so_far.line;
      past = so_far.past;
      endpoint = so_far.endpoint;
      settings = record { n = so_far.settings.n; size = so_far.settings.size; timeout = so_far.settings.timeout };
      accounts = so_far.accounts;
    }

call-kept : (us : Bool) (timeout : ℕ) (first : Reading HostState) → Keeps host_calls us timeout (ReaderGoesOn first)
call-kept us timeout first = record {
  submission = λ w so_far. call-trans first w (submit_one host_calls w) so_far (call-one w);
  end = λ w goes so_far. call-trans first w (ended_off w) so_far (call-off w);
  wait = λ w front others was so_far. call-trans first w (reading (waited host_calls front timeout w.bus) w.reader) so_far (call-waited w front timeout);
  taking = λ w front others c was goes come so_far. call-trans first w (reading (host_taken w.bus front) (with_taken c others w.reader)) so_far (call-taken w front others c was);
}

pub fill_goes_on : (us : Bool) (timeout : ℕ) (w : Reading HostState) → ReaderGoesOn w (fill_came host_calls us timeout w).left
fill_goes_on us timeout w = fill-keeps host_calls us timeout (ReaderGoesOn w) (call-kept us timeout w) w (call-same w)

pub read_goes_on : (us : Bool) (timeout most : ℕ) (w : Reading HostState) → ReaderGoesOn w (read_came host_calls us timeout most w).left
read_goes_on us timeout most w = read-keeps host_calls us timeout (ReaderGoesOn w) (call-kept us timeout w) most w (call-read w) (call-same w)

pub submissions_go_on : (goal : ℕ) (w : Reading HostState) → ReaderGoesOn w (filled_to host_calls goal w)
submissions_go_on goal w = filled-keeps host_calls false 0 (ReaderGoesOn w) (call-kept false 0 w) goal w (call-same w)

-- the clearing of a halt
call-halted : (w : Reading HostState) (r : ReaderState) → r.endpoint ≡ w.reader.endpoint → KeepsSettings w.reader r → ReaderGoesOn w (reading (host_halt_cleared w.bus w.reader.endpoint.device w.reader.endpoint.address) r)
unfolding called
call-halted w r same settings =
    let device = w.reader.endpoint.device in
    let address = w.reader.endpoint.address in
    let key = w.reader.endpoint.key in
    let host = host_halt_cleared w.bus device address in
    record {
      line = line-halt w.bus device address;
      past = extends-same w.bus.kernel.past;
      endpoint = same ∙ ap (λ (ts : List ℕ). record w.reader.endpoint { pending = ts }) (sym (ap (λ (e : EndpointState). e.pending) same));
      settings = settings;
      accounts = λ open_.
          subst (λ (ts : List ℕ). KeepsAccountsOf w.bus host key (pending_of w) ts) (sym (ap (λ (e : EndpointState). e.pending) same))
          (accounts-of w.bus host key (pending_of w) (accounts-halt w.bus device address));
    }

pub halt_goes_on : (w : Reading HostState) → ReaderGoesOn w (halt_came w)
halt_goes_on w =
    let answer = host_halt_result w.bus w.reader.endpoint.device w.reader.endpoint.address in
    call-halted w (halt_left answer w.reader) (halted-rest answer w.reader) (halted-settings answer w.reader)

pub reader_calls-go_on : ReaderCallsGoOn
reader_calls-go_on (Fill us timeout) w = fill_goes_on us timeout w
reader_calls-go_on (Read us timeout most) w = read_goes_on us timeout most w
reader_calls-go_on (Submit goal) w = submissions_go_on goal w
reader_calls-go_on ClearHalt w = halt_goes_on w

-- so it is whatever a call answered (a poll is a wait of no time)
module _ (us : Bool) (old new : Reading HostState) where
  pub read-goes : (timeout most : ℕ) (bytes : ℕ → List ℕ) (r : Result ℕ (Fail ReadFault))
      → IfOk r (λ n. read_came host_calls us timeout most old ≡ answered (Ok (bytes n)) new) → IfErr r (ReadFails host_calls us timeout most old new) → ReaderGoesOn old new
  read-goes timeout most bytes r is failed = read_answer-keeps host_calls us timeout (ReaderGoesOn old) (call-kept us timeout old) most old new bytes r (call-read old) is failed (call-same old)

  pub fill-goes : (timeout : ℕ) (r : Result (Bor (List ℕ)) (Fail ReadFault)) → Filled host_calls us timeout old new r → ReaderGoesOn old new
  fill-goes timeout r filled = fill_answer-keeps host_calls us timeout (ReaderGoesOn old) (call-kept us timeout old) old new r filled (call-same old)

-- and over submissions
pub num-goes : (r : Result Unit NoMemory) (goal : ℕ) (old new : Reading HostState) → OnOk r (new ≡ filled_to host_calls goal old) → OnErr r (FilledShort host_calls goal old new) → ReaderGoesOn old new
num-goes (Ok u) goal old new ok err = subst (ReaderGoesOn old) (sym ok) (submissions_go_on goal old)
num-goes (Err e) goal old new ok err = filled_short-keeps host_calls false 0 (ReaderGoesOn old) (call-kept false 0 old) goal old new err (call-same old)

-- and where a halt was cleared
halted-by : (answer : Result (Unit {0}) ℕ) (r : Result Unit ErrorState) (x y : ReaderState) → r ≡ or_error clear_halt_error answer → OnOk r (y ≡ without_error x) → OnErr r (y ≡ x) → y ≡ halt_left answer x
halted-by (Ok done) r x y is ok err = subst (λ (r : Result Unit ErrorState). OnOk r (y ≡ without_error x)) is ok
halted-by (Err errno) r x y is ok err = subst (λ (r : Result Unit ErrorState). OnErr r (y ≡ x)) is err

pub halt-came : (r : Result Unit ErrorState) (old new : Reading HostState) → r ≡ or_error clear_halt_error (host_halt_result old.bus old.reader.endpoint.device old.reader.endpoint.address) → new.bus ≡ host_halt_cleared old.bus old.reader.endpoint.device old.reader.endpoint.address
    → OnOk r (new.reader ≡ without_error old.reader) → OnErr r (new.reader ≡ old.reader) → new ≡ halt_came old
halt-came r old new is bus ok err =
    let answer = host_halt_result old.bus old.reader.endpoint.device old.reader.endpoint.address in
    ap (λ (h : HostState). reading h new.reader) bus
    ∙ ap (λ (x : ReaderState). reading (host_halt_cleared old.bus old.reader.endpoint.device old.reader.endpoint.address) x) (halted-by answer r old.reader new.reader is ok err)

pub halt-goes : (r : Result Unit ErrorState) (old new : Reading HostState) → r ≡ or_error clear_halt_error (host_halt_result old.bus old.reader.endpoint.device old.reader.endpoint.address) → new.bus ≡ host_halt_cleared old.bus old.reader.endpoint.device old.reader.endpoint.address
    → OnOk r (new.reader ≡ without_error old.reader) → OnErr r (new.reader ≡ old.reader) → ReaderGoesOn old new
halt-goes r old new is bus ok err = subst (ReaderGoesOn old) (sym (halt-came r old new is bus ok err)) (halt_goes_on old)

-- a host has as many tickets as its journal
abbrev pub IsCounted : Reading HostState → Type 0
IsCounted w = TicketsAreCounted w.bus

count-kept : (us : Bool) (timeout : ℕ) → Keeps host_calls us timeout IsCounted
count-kept us timeout = record {
  submission = λ w so_far. let b = fresh_buffer w.reader.size in counted-more w.bus (entered host_calls w.bus w.reader.endpoint None b) (entered-count w.bus w.reader.endpoint None b) so_far;
  end = λ w goes so_far. so_far;
  wait = λ w front others was so_far. counted-kept w.bus (waited host_calls front timeout w.bus) (waited-count w.bus front timeout) so_far;
  taking = λ w front others c was goes come so_far. counted-kept w.bus (host_taken w.bus front) (taken-count w.bus front) so_far;
}

pub fill-count : (us : Bool) (timeout : ℕ) (w : Reading HostState) → IsCounted w → IsCounted (fill_came host_calls us timeout w).left
fill-count us timeout w so_far = fill-keeps host_calls us timeout IsCounted (count-kept us timeout) w so_far

pub read-count : (us : Bool) (timeout most : ℕ) (w : Reading HostState) → IsCounted w → IsCounted (read_came host_calls us timeout most w).left
read-count us timeout most w so_far = read-keeps host_calls us timeout IsCounted (count-kept us timeout) most w (λ v n counted. counted) so_far

pub filled-count : (goal : ℕ) (w : Reading HostState) → IsCounted w → IsCounted (filled_to host_calls goal w)
filled-count goal w so_far = filled-keeps host_calls false 0 IsCounted (count-kept false 0) goal w so_far
