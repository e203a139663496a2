-- What calls on an open endpoint answer.
use Rattle.std.proofs.Common.{◌≡◌, ℕ, List, [], ◌∷◌, ◌++◌, drop, Option, Some, None, Result, Ok, Err, refl, ap, sym, ◌∙◌, subst, slice_get, String, string_bytes}
use Rattle.std.specs.Prelude.{OnOk}
use Rattle.std.specs.declared.alloc.Global.{Global}
use Rattle.usb_xfer.specs.declared.transfer.Completion.{Completion}
use Rattle.usb_kernel.specs.Extends.{Extends}
use Rattle.usb_kernel.proofs.Extends.{extends-same}
use Rattle.usb_kernel.specs.TransferCompletions.{transfer_completion}
use Rattle.usb_device_endpoint.specs.EndpointState.{EndpointState}
use Rattle.usb_device_endpoint.specs.Waits.{Polled, front_found, taken_if, polled_of, polled}
use Rattle.usb_device_host.specs.HostState.{HostState}
use Rattle.usb_device_host.specs.HostFrames.{LineGoesOn}
use Rattle.usb_device_host.specs.HostCalls.{host_calls}
use Rattle.usb_device_host.specs.TicketEnds.{host_taken}
use Rattle.usb_device_host.proofs.CallFrames.{keeps-open, keeps-taken}
use Rattle.usb_device_host.proofs.WaitFrames.{line-keeps}
use Rattle.usb_device_host.proofs.FollowLemmas.{taken-past}
use Rattle.usb_session_streams.specs.Accounts.{KeepsAccountsOf}
use Rattle.usb_session_streams.proofs.AccountLemmas.{of-same, of-taken}
use Rattle.usb_session_calls.specs.Names.{change_named}
use Rattle.usb_session_calls.specs.State.{State, Endpoint, with_host}
use Rattle.usb_session_calls.specs.Answer.{Answer, answer_with}
use Rattle.usb_session_calls.specs.Answered.{Answered}
use Rattle.usb_session_calls.specs.Polls.{took, front_taken}
use Rattle.usb_session_calls.specs.OpenCalls.{CallAnswers, with_called}
use Rattle.usb_session_calls.proofs.Answering.{host_is, told-answered}
use Rattle.usb_session_calls.proofs.NameLemmas.{change_named-none}
use Rattle.usb_session_calls.proofs.Called.{represents-put}

-- an answer by which the host is another and the endpoint is changed, and a line is told
pub record Comes (state : State) (e : ℕ) (h : Endpoint) (now : HostState) (y : EndpointState) (f : Endpoint → Endpoint) (line : List ℕ) (a : Answer) : Type 0 where
  pub is : a ≡ answer_with (record state { host = now; endpoints = change_named f state.endpoints e }) line
  pub kept_is : (f h).state ≡ y

pub call-comes : {E : Type 0} (old now : HostState) (x y : EndpointState) (before text : String Global) (result : Result Unit E) (f : Endpoint → Endpoint) (line : List ℕ) (call : State → ℕ → Endpoint → Answer) → OnOk result (string_bytes text ≡ string_bytes before ++ line) → ((state : State) (e : ℕ) (h : Endpoint) → state.host ≡ old → h.state ≡ x → Comes state e h now y f line (call state e h)) → CallAnswers old now x y before text result call
call-comes old now x y before text (Err error) f line call printed comes = tt
call-comes old now x y before text (Ok done) f line call printed comes =
    λ s state e h r host at same.
    let c = comes state e h (sym (host_is s state r) ∙ host) same in
    subst (Answered (with_called s e now y) (string_bytes before) (string_bytes text)) (sym c.is)
    (told-answered (with_called s e now y) (record state { host = now; endpoints = change_named f state.endpoints e }) (string_bytes before) (string_bytes text) line
    (represents-put s state now f e h y r at c.kept_is) printed)

-- only the host goes on
pub call-host : {E : Type 0} (old now : HostState) (x y : EndpointState) (before text : String Global) (result : Result Unit E) (line : List ℕ) (call : State → ℕ → Endpoint → Answer) → y ≡ x → OnOk result (string_bytes text ≡ string_bytes before ++ line) → ((state : State) (e : ℕ) (h : Endpoint) → state.host ≡ old → h.state ≡ x → call state e h ≡ answer_with (with_host state now) line) → CallAnswers old now x y before text result call
call-host old now x y before text result line call same printed tells =
    call-comes old now x y before text result (λ z. z) line call printed
    (λ state e h host_was kept_is.
    record {
      is = tells state e h host_was kept_is ∙ ap (λ (l : List (Option Endpoint)). answer_with (record state { host = now; endpoints = l }) line) (sym (change_named-none state.endpoints e));
      kept_is = kept_is ∙ sym same;
    })

-- nothing is changed
pub call-told : {E : Type 0} (old now : HostState) (x y : EndpointState) (before text : String Global) (result : Result Unit E) (line : List ℕ) (call : State → ℕ → Endpoint → Answer) → now ≡ old → y ≡ x → OnOk result (string_bytes text ≡ string_bytes before ++ line) → ((state : State) (e : ℕ) (h : Endpoint) → state.host ≡ old → h.state ≡ x → call state e h ≡ answer_with state line) → CallAnswers old now x y before text result call
call-told old now x y before text result line call stays same printed tells =
    call-host old now x y before text result line call same printed
    (λ state e h host_was kept_is. tells state e h host_was kept_is ∙ ap (λ (g : HostState). answer_with (with_host state g) line) (host_was ∙ sym stays))

-- the oldest pending ticket
pub front_kept : (h : Endpoint) (x : EndpointState) (l : List ℕ) → h.state ≡ x → x.pending ≡ l → slice_get h.state.pending 0 ≡ slice_get l 0
front_kept h x l same is = ap (λ (z : EndpointState). slice_get z.pending 0) same ∙ ap (λ (l : List ℕ). slice_get l 0) is

-- it is taken where it is reaped at the host (mid) that the call came to. It is the first of these
module _ {E : Type 0} (print : Option Completion → List ℕ) (old mid now : HostState) (x y : EndpointState) (before text : String Global) (result : Result Unit E) (call : State → ℕ → Endpoint → Answer) (t : ℕ) (ts : List ℕ) (r : Option Completion)
    (was : x.pending ≡ t ∷ ts) (printed : OnOk result (string_bytes text ≡ string_bytes before ++ print r))
    (takes : (state : State) (e : ℕ) (h : Endpoint) → state.host ≡ old → slice_get h.state.pending 0 ≡ Some t → call state e h ≡ took print (with_host state mid) e t (transfer_completion mid.kernel.past t)) where
  took-answers : (o : Option Completion) → transfer_completion mid.kernel.past t ≡ o → taken_if host_calls mid x t ts o ≡ front_found r now y → CallAnswers old now x y before text result call
  took-answers None none is =
      call-host old now x y before text result (print r) call (sym (ap (λ (p : Polled HostState). p.endpoint) is)) printed
      (λ state e h host_was same.
      takes state e h host_was (front_kept h x (t ∷ ts) same was)
      ∙ ap (took print (with_host state mid) e t) none
      ∙ ap (λ (p : Polled HostState). answer_with (with_host state p.bus) (print p.completion)) is)
  took-answers (Some c) come is =
      call-comes old now x y before text result (front_taken t) (print r) call printed
      (λ state e h host_was same.
      record {
        is =
            takes state e h host_was (front_kept h x (t ∷ ts) same was)
            ∙ ap (took print (with_host state mid) e t) come
            ∙ ap (λ (p : Polled HostState). answer_with (record state { host = p.bus; endpoints = change_named (front_taken t) state.endpoints e }) (print p.completion)) is;
        kept_is =
            ap (λ (z : EndpointState). record z { pending = drop 1 z.pending }) same
            ∙ ap (λ (l : List ℕ). record x { pending = drop 1 l }) was
            ∙ ap (λ (p : Polled HostState). p.endpoint) is;
      })

  pub front-answers : polled host_calls mid x ≡ front_found r now y → CallAnswers old now x y before text result call
  front-answers is = took-answers (transfer_completion mid.kernel.past t) refl (sym (ap (polled_of host_calls mid x) was) ∙ is)

-- what a poll keeps of a host, and of the endpoint
module _ (mid : HostState) (x : EndpointState) where
  taken_if-keeps : (P : Polled HostState → Type 0) (t : ℕ) (ts : List ℕ) (o : Option Completion) → P (front_found None mid x) → ((c : Completion) → P (front_found (Some c) (host_taken mid t) (record x { pending = ts }))) → P (taken_if host_calls mid x t ts o)
  taken_if-keeps P t ts None here taken = here
  taken_if-keeps P t ts (Some c) here taken = taken c

  polled_of-keeps : (P : Polled HostState → Type 0) (l : List ℕ) → P (front_found None mid x) → ((t : ℕ) (ts : List ℕ) (c : Completion) → l ≡ t ∷ ts → P (front_found (Some c) (host_taken mid t) (record x { pending = ts }))) → P (polled_of host_calls mid x l)
  polled_of-keeps P [] here taken = here
  polled_of-keeps P (t ∷ ts) here taken = taken_if-keeps P t ts (transfer_completion mid.kernel.past t) here (λ c. taken t ts c refl)

  module _ (r : Option Completion) (now : HostState) (y : EndpointState) (is : polled host_calls mid x ≡ front_found r now y) where
    pub polled-goes : LineGoesOn mid now
    polled-goes = subst (λ (p : Polled HostState). LineGoesOn mid p.bus) is (polled_of-keeps (λ p. LineGoesOn mid p.bus) x.pending (line-keeps mid mid (keeps-open mid)) (λ t ts c was. line-keeps mid (host_taken mid t) (keeps-taken mid t)))

    pub polled-past : Extends mid.kernel.past now.kernel.past
    polled-past = subst (λ (p : Polled HostState). Extends mid.kernel.past p.bus.kernel.past) is (polled_of-keeps (λ p. Extends mid.kernel.past p.bus.kernel.past) x.pending (extends-same mid.kernel.past) (λ t ts c was. record { more = []; is = taken-past mid t }))

    pub polled-rest : y ≡ record x { pending = y.pending }
    polled-rest = subst (λ (p : Polled HostState). p.endpoint ≡ record x { pending = p.endpoint.pending }) is (polled_of-keeps (λ p. p.endpoint ≡ record x { pending = p.endpoint.pending }) x.pending refl (λ t ts c was. refl))

    pub polled-accounts : KeepsAccountsOf mid now x.key x.pending y.pending
    polled-accounts =
        subst (λ (p : Polled HostState). KeepsAccountsOf mid p.bus x.key x.pending p.endpoint.pending) is
        (polled_of-keeps (λ p. KeepsAccountsOf mid p.bus x.key x.pending p.endpoint.pending) x.pending (of-same mid x.key x.pending)
        (λ t ts c was. subst (λ (l : List ℕ). KeepsAccountsOf mid (host_taken mid t) x.key l ts) (sym was) (of-taken mid t ts x.key)))
