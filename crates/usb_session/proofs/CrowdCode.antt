-- What a session answers where it is crowded, from what its code does.
use Rattle.std.proofs.Common.{◌≡◌, ◌∙◌, refl, ap, sym, subst, Bool, true, false, List, ◌++◌, Result, Ok, Err}
use Rattle.std.specs.Prelude.{nat_lt, ◌&&◌, OnOk, String, string_bytes, if◌then◌else◌}
use Rattle.std.specs.declared.alloc.Global.{Global}
use Rattle.usb_kernel_devices.specs.declared.step.KernelStep.{KernelStep}
use Rattle.usb_kernel.specs.Info.{unreaped}
use Rattle.usb_device_host.specs.HostState.{HostState}
use Rattle.usb_script_lines.specs.declared.item.Item.{Item}
use Rattle.usb_script_lines.specs.ItemKinds.{is_call, steps_in}
use Rattle.usb_session_text.specs.Calls.{condition_line}
use Rattle.usb_session_calls.specs.declared.call.Call.{Call}
use Rattle.usb_session_calls.specs.State.{State}
use Rattle.usb_session_calls.specs.Answer.{condition_answer}
use Rattle.usb_session_calls.specs.Steps.{stepped_all}
use Rattle.usb_session_calls.specs.SessionState.{SessionState}
use Rattle.usb_session_calls.specs.Relation.{Represents}
use Rattle.usb_session.specs.Crowded.{is_crowded, bars_line}
use Rattle.usb_session_calls.specs.Calls.{call_of}
use Rattle.usb_session.specs.CallAnswers.{call_answer, line_answer}
use Rattle.usb_session.specs.Answers.{answer}
use Rattle.usb_session_calls.specs.Answered.{Answered, Answers}
use Rattle.usb_session_calls.proofs.Answering.{host_is}

-- the session's host is the state's
pub crowded-is : (s : SessionState) (state : State) → Represents s state → nat_lt 1024 (unreaped s.host.kernel.past) ≡ is_crowded state
crowded-is s state r = ap (λ (h : HostState). nat_lt 1024 (unreaped h.kernel.past)) (host_is s state r)

-- what is no call isn't barred, and a call is where the session is crowded
pub passes : (item : Item) (b : Bool) → b ≡ is_call item → b ≡ false → (state : State) → false ≡ bars_line state item
passes item b same no_ state = subst (λ (v : Bool). false ≡ (v && is_crowded state)) (sym no_ ∙ same) refl

pub crowds : (item : Item) (b : Bool) → b ≡ is_call item → b ≡ true → (v : Bool) (state : State) → v ≡ is_crowded state → v ≡ bars_line state item
crowds item b same yes_ v state is = subst (λ (w : Bool). v ≡ (w && is_crowded state)) (sym yes_ ∙ same) is

-- the steps of a barred call are applied
pub barred-answered : {E : Type 0} (old new : SessionState) (before after : String Global) (result : Result Unit E) (steps : List KernelStep) (item : Item) → steps ≡ steps_in item
    → ((state : State) → Represents old state → Represents new (stepped_all state steps)) → OnOk result (string_bytes after ≡ string_bytes before ++ condition_line)
    → Answers old new before after result (λ state. condition_answer (stepped_all state (steps_in item)))
barred-answered old new before after (Ok done) steps item same stands text = λ state r.
    record { state = subst (λ (s : List KernelStep). Represents new (stepped_all state s)) same (stands state r); line = text }
barred-answered old new before after (Err error) steps item same stands text = tt

-- a line is barred, or it is not
module _ (old new : SessionState) (before after : String Global) (item : Item) where
  answered-by : (b : Bool) (state : State) → b ≡ bars_line state item
      → Answered new (string_bytes before) (string_bytes after) (if b then condition_answer (stepped_all state (steps_in item)) else line_answer state item)
      → Answered new (string_bytes before) (string_bytes after) (answer state item)
  unfolding answer
  answered-by b state same is =
      subst (λ (v : Bool). Answered new (string_bytes before) (string_bytes after) (if v then condition_answer (stepped_all state (steps_in item)) else line_answer state item)) same is

  pub answers-barred : {E : Type 0} (result : Result Unit E) (b : Bool) → ((state : State) → Represents old state → b ≡ bars_line state item) → b ≡ true
      → Answers old new before after result (λ state. condition_answer (stepped_all state (steps_in item))) → Answers old new before after result (λ state. answer state item)
  answers-barred (Ok done) b bars yes_ answered = λ state r. answered-by true state (sym yes_ ∙ bars state r) (answered state r)
  answers-barred (Err error) b bars yes_ answered = tt

  pub answers-line : {E : Type 0} (result : Result Unit E) (b : Bool) → ((state : State) → Represents old state → b ≡ bars_line state item) → b ≡ false
      → (call : Call) → call ≡ call_of item → Answers old new before after result (λ state. call_answer state call) → Answers old new before after result (λ state. answer state item)
  answers-line (Ok done) b bars no_ call same answered = λ state r.
      answered-by false state (sym no_ ∙ bars state r) (subst (λ (x : Call). Answered new (string_bytes before) (string_bytes after) (call_answer state x)) same (answered state r))
  answers-line (Err error) b bars no_ call same answered = tt
