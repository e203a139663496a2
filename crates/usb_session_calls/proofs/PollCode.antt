-- What `poll` and `pending` answer.
use Rattle.std.proofs.Common.{◌≡◌, ℕ, ◌++◌, List, [], ◌∷◌, length, Option, Result, refl, ap, sym, ◌∙◌, String, string_bytes, slice_get, arith}
use Rattle.std.specs.Prelude.{OnOk}
use Rattle.std.specs.declared.alloc.Global.{Global}
use Rattle.usb_xfer.specs.declared.transfer.Completion.{Completion}
use Rattle.usb_kernel.specs.TransferCompletions.{transfer_completion}
use Rattle.usb_device_endpoint.specs.EndpointState.{EndpointState}
use Rattle.usb_device_endpoint.specs.Handles.{Stands, KeepsOthers}
use Rattle.usb_device_endpoint.specs.Waits.{front_found, polled}
use Rattle.usb_device_host.specs.HostState.{HostState}
use Rattle.usb_device_host.specs.HostBus.{bus_of}
use Rattle.usb_device_host.specs.HostCalls.{host_calls}
use Rattle.usb_session_text.specs.Calls.{condition_line}
use Rattle.usb_session_text.specs.Completions.{polled_line, count_line}
use Rattle.usb_session_calls.specs.State.{State, Endpoint, with_host}
use Rattle.usb_session_calls.specs.Answer.{Answer, answer_with}
use Rattle.usb_session_calls.specs.Polls.{poll_on, took}
use Rattle.usb_session_calls.specs.OpenCalls.{CallKeeps, CallAnswers}
use Rattle.usb_session_calls.proofs.Queue.{call-told, front_kept, front-answers, polled-goes, polled-past, polled-rest, polled-accounts}

abbrev pub poll : State → ℕ → Endpoint → Answer
poll state e h = poll_on state e (slice_get h.state.pending 0)

pub nothing_pending : (l : List ℕ) (n : ℕ) → n ≡ length l → n ≡ 0 → l ≡ []
nothing_pending [] n count none = refl
nothing_pending (x ∷ xs) n count none = absurd (omega arith)

pub poll-barred : {E : Type 0} (host : HostState) (x : EndpointState) (before text : String Global) (result : Result Unit E) → x.pending ≡ [] → OnOk result (string_bytes text ≡ string_bytes before ++ condition_line) → CallAnswers host host x x before text result poll
poll-barred host x before text result none printed =
    call-told host host x x before text result condition_line poll refl refl printed
    (λ state e h host_was same. ap (poll_on state e) (front_kept h x [] same none))

-- there is a front
pub record Front (l : List ℕ) : Type 0 where
  pub front : ℕ
  pub others : List ℕ
  pub is : l ≡ front ∷ others

pub some-front : (l : List ℕ) → (l ≡ [] → ⊥) → Front l
some-front [] some = absurd (some refl)
some-front (t ∷ ts) some = record { front = t; others = ts; is = refl }

pub poll-answers : {E : Type 0} (host now : HostState) (x y : EndpointState) (before text : String Global) (result : Result Unit E) (r : Option Completion) → (x.pending ≡ [] → ⊥) → polled host_calls host x ≡ front_found r now y → OnOk result (string_bytes text ≡ string_bytes before ++ polled_line r) → CallAnswers host now x y before text result poll
poll-answers host now x y before text result r some is printed =
    let f = some-front x.pending some in
    front-answers polled_line host host now x y before text result poll f.front f.others r f.is printed
    (λ state e h host_was at.
    ap (poll_on state e) at
    ∙ ap (λ (g : HostState). took polled_line (with_host state g) e f.front (transfer_completion g.kernel.past f.front)) host_was)
    is

pub poll-keeps : (host now : HostState) (x y : EndpointState) (r : Option Completion) → polled host_calls host x ≡ front_found r now y → Stands (bus_of now) y → KeepsOthers (bus_of host) (bus_of now) x.key → CallKeeps host now x y
poll-keeps host now x y r is stands others =
    let rest = polled-rest host x r now y is in
    record {
      line = polled-goes host x r now y is;
      past = polled-past host x r now y is;
      stands = stands;
      others = others;
      key = ap (λ (z : EndpointState). z.key) rest;
      maximum = ap (λ (z : EndpointState). z.maximum) rest;
      accounts = polled-accounts host x r now y is;
    }

-- the number of pending transfers is told
pub pending-counted : {E : Type 0} (host : HostState) (x : EndpointState) (count : ℕ) (before text : String Global) (result : Result Unit E) → count ≡ length x.pending → OnOk result (string_bytes text ≡ string_bytes before ++ count_line count) → CallAnswers host host x x before text result (λ state e h. answer_with state (count_line (length h.state.pending)))
pending-counted host x count before text result is printed =
    call-told host host x x before text result (count_line count) (λ state e h. answer_with state (count_line (length h.state.pending))) refl refl printed
    (λ state e h host_was same. ap (λ (z : EndpointState). answer_with state (count_line (length z.pending))) same ∙ ap (λ n. answer_with state (count_line n)) (sym is))
