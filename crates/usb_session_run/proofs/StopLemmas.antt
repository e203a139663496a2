-- The journal of a run that may be stopped.
use Rattle.std.proofs.Common.{◌≡◌, ◌≢◌, ◌⊎◌, ℕ, ◌<◌, ◌≤◌, List, [], ◌∷◌, ◌++◌, length, Some, None, Result, Ok, Err, refl, ap, sym, ◌∙◌, subst, inl, inr, arith, append-nil, append_assoc, length-append}
use Rattle.std.specs.declared.option.Option.{Option}
use Rattle.std.specs.Prelude.{OnOk}
use Rattle.std.specs.Option.{ForSome}
use Rattle.std.specs.Io.KnownBytes.{Appends}
use Rattle.std.proofs.Transfers.{starts_with_length}
use Rattle.std.proofs.lemmas.List.{append_cancel_left}
use Rattle.std.proofs.lemmas.Option.{same_Some}
use Rattle.usb_kernel.specs.declared.event.Event.{Event}
use Rattle.usb_kernel.specs.Extends.{Extends}
use Rattle.usb_kernel.proofs.Extends.{extends-same, extends-trans}
use Rattle.usb_script_lines.specs.declared.item.Item.{Item}
use Rattle.usb_device_host.specs.HostState.{HostState}
use Rattle.usb_session_calls.specs.State.{State}
use Rattle.usb_session_calls.specs.SessionState.{SessionState}
use Rattle.usb_session_calls.specs.Relation.{Represents}
use Rattle.usb_session_calls.specs.Answered.{Answered}
use Rattle.usb_session.specs.Answers.{answer}
use Rattle.usb_session.specs.AnswerLines.{answer_lines}
use Rattle.usb_session.specs.Output.{start, behind, final_host}
use Rattle.usb_session_calls.proofs.Answering.{host_is}
use Rattle.usb_session.proofs.HandleLemmas.{scripts-go_on}
use Rattle.usb_session.proofs.CallLines.{calls-speak}
use Rattle.usb_session.proofs.LinesBehind.{behind-push, behind-extends, final-extends}
use Rattle.usb_session_run.specs.Causes.{WrotePrefix}
use Rattle.usb_session_run.specs.Stops.{StoppedBehind, KeepsAnswered}
use Rattle.usb_session_run.proofs.OutsideLemmas.{Appends_none, Appends_more, Wrote_prefix}

-- the answers to two lists, one behind the other
answers-append : (state : State) (xs ys : List Item) → answer_lines state (xs ++ ys) ≡ answer_lines state xs ++ answer_lines (behind state xs) ys
answers-append state [] ys = refl
answers-append state (x ∷ xs) ys =
    ap (λ l. (answer state x).line ++ l) (answers-append (answer state x).state xs ys)
    ∙ sym (append_assoc (answer state x).line (answer_lines (answer state x).state xs) (answer_lines (behind (answer state x).state xs) ys))

answers-push : (state : State) (xs : List Item) (x : Item) → answer_lines state (xs ++ x ∷ []) ≡ answer_lines state xs ++ (answer (behind state xs) x).line
answers-push state xs x = answers-append state xs (x ∷ []) ∙ ap (λ l. answer_lines state xs ++ l) (append-nil (answer (behind state xs) x).line)

-- a session on the way through the items of a run: what was answered, and what is left
pub record Going (old new : Option (List ℕ)) (s : SessionState) (items left : List Item) : Type 0 where
  pub done : List Item
  pub parts : done ++ left ≡ items
  pub stands : Represents s (behind (start items) done)
  pub got : Appends old new (answer_lines (start items) done)

pub going-start : (old : Option (List ℕ)) (s : SessionState) (items : List Item) → Represents s (start items) → Going old old s items items
going-start old s items r = record { done = []; parts = refl; stands = r; got = Appends_none old }

-- an item more is answered
module _ {old mid : Option (List ℕ)} {items : List Item} (s next : SessionState) (item : Item) (left : List Item) (line : List ℕ) (going : Going old mid s items (item ∷ left)) (answered : (state : State) → Represents s state → Answered next [] line (answer state item)) where
  abbrev before : State
  before = behind (start items) going.done

  parts-more : (going.done ++ item ∷ []) ++ left ≡ items
  parts-more = append_assoc going.done (item ∷ []) left ∙ going.parts

  stands-more : Represents next (behind (start items) (going.done ++ item ∷ []))
  stands-more = subst (Represents next) (sym (behind-push (start items) going.done item)) (answered before going.stands).state

  lines-more : answer_lines (start items) going.done ++ line ≡ answer_lines (start items) (going.done ++ item ∷ [])
  lines-more = ap (λ l. answer_lines (start items) going.done ++ l) (answered before going.stands).line ∙ sym (answers-push (start items) going.done item)

  pub going-on : (new : Option (List ℕ)) → Appends mid new line → Going old new next items left
  going-on new appends =
      record {
        done = going.done ++ item ∷ [];
        parts = parts-more;
        stands = stands-more;
        got = subst (Appends old new) lines-more (Appends_more old mid new (answer_lines (start items) going.done) line going.got appends);
      }

  -- the sink failed within its line
  pub stopped-writing : (new : Option (List ℕ)) → WrotePrefix mid new line → StoppedBehind old new items next.host.kernel.past
  stopped-writing new cut =
      let state = behind (start items) (going.done ++ item ∷ []) in
      record {
        done = going.done ++ item ∷ [];
        rest = left;
        parts = parts-more;
        wrote = Wrote_prefix {old = old} {mid = mid} {whole = answer_lines (start items) (going.done ++ item ∷ [])} {left = line} new line [] (record { done = answer_lines (start items) going.done; appended = going.got; complete = lines-more }) cut (append-nil line);
        journal = subst (λ (h : HostState). Extends state.host.kernel.past h.kernel.past) (sym (host_is next state stands-more)) (extends-same state.host.kernel.past);
      }

-- or memory was lacking before it
pub stopped-memory : {old mid : Option (List ℕ)} {items left : List Item} (s : SessionState) (past : List Event) → Going old mid s items left → Extends s.host.kernel.past past → StoppedBehind old mid items past
stopped-memory {old} {mid} {items} {left} s past going later =
    record {
      done = going.done;
      rest = left;
      parts = going.parts;
      wrote = ([], record { done = answer_lines (start items) going.done; appended = going.got; complete = append-nil (answer_lines (start items) going.done) });
      journal = subst (λ (h : HostState). Extends h.kernel.past past) (host_is s (behind (start items) going.done) going.stands) later;
    }

-- then the session is ended
pub stopped-ended : {old new : Option (List ℕ)} {items : List Item} (past last : List Event) → StoppedBehind old new items past → Extends past last → StoppedBehind old new items last
stopped-ended {items = items} past last s goes =
    record {
      done = s.done;
      rest = s.rest;
      parts = s.parts;
      wrote = s.wrote;
      journal = extends-trans (behind (start items) s.done).host.kernel.past past last s.journal goes;
    }

-- of two beginnings of a list one is within the other
two-fronts : {X : Type 0} (a : List X) (x : X) (b c d : List X) → a ++ x ∷ b ≡ c ++ d → ((m : List X) × (a ≡ c ++ m)) ⊎ ((m : List X) × (c ≡ (a ++ x ∷ []) ++ m))
two-fronts a x b [] d e = inl (a, refl)
two-fronts [] x b (y ∷ c) d e = inr (c, cc)
two-fronts (z ∷ a) x b (y ∷ c) d e =
    let same : z ≡ y = cc in
    let rest : a ++ x ∷ b ≡ c ++ d = cc in
    elim (two-fronts a x b c d rest) [
      | inl p ↦ let q = p.1 in inl (p.0, cc)
      | inr p ↦ let q = p.1 in inr (p.0, cc)
    ]

some-length : (l : List ℕ) → l ≢ [] → 0 < length l
some-length [] some = absurd (some refl)
some-length (x ∷ xs) some = omega arith

-- what the sink got is what was appended
got-is : (old new : Option (List ℕ)) (told got done : List ℕ) → old ≡ Some told → new ≡ Some (told ++ got) → Appends old new done → got ≡ done
got-is None new told got done was now appended = cc
got-is (Some xs) None told got done was now appended = cc
got-is (Some xs) (Some ys) told got done was now appended =
    let a : xs ≡ told = cc in
    let b : ys ≡ told ++ got = cc in
    append_cancel_left told got done (sym b ∙ appended ∙ ap (λ (l : List ℕ). l ++ done) a)

-- the answers with a line that comes later are longer
longer : (state : State) (done more : List Item) (line : Item) → (answer (behind state (done ++ more)) line).line ≢ [] → length (answer_lines state done) < length (answer_lines state ((done ++ more) ++ line ∷ []))
longer state done more line some =
    let front = done ++ more in
    let l = (answer (behind state front) line).line in
    let one = some-length l some in
    let all = ap length (answers-push state front line) in
    let both = length-append (answer_lines state front) l in
    let first = ap length (answers-append state done more) in
    let two = length-append (answer_lines state done) (answer_lines (behind state done) more) in
    omega (arith, one, all, both, first, two)

pub stopped-keeps : (old new : Option (List ℕ)) (items : List Item) (past : List Event) → StoppedBehind old new items past → KeepsAnswered old new items past
stopped-keeps old new items past s told got front rest line was now parts is gave =
    let state = start items in
    let some = calls-speak items front line is in
    let w = s.wrote.1 in
    let same = ap length (got-is old new told got w.done was now w.appended) in
    let whole = ap length w.complete in
    let both = length-append w.done s.wrote.0 in
    let long = starts_with_length got (answer_lines state (front ++ line ∷ [])) gave in
    elim (two-fronts front line rest s.done s.rest (parts ∙ sym s.parts)) [
      | inl p ↦
          let less = longer state s.done p.0 line (subst (λ (l : List Item). (answer (behind state l) line).line ≢ []) p.1 some) in
          let long_ = subst (λ (l : List Item). length (answer_lines state (l ++ line ∷ [])) ≤ length got) p.1 long in
          absurd (omega (arith, same, whole, both, less, long_))
      | inr p ↦
          let front_ = front ++ line ∷ [] in
          let on = behind-extends scripts-go_on items front_ p.0 in
          extends-trans (behind state front_).host.kernel.past (behind state s.done).host.kernel.past past
          (subst (λ (l : List Item). Extends (behind state front_).host.kernel.past (behind state l).host.kernel.past) (sym p.1) on) s.journal
    ]

-- the journal of a whole run
pub final-keeps : (old new : Option (List ℕ)) (items : List Item) (past : List Event) → past ≡ (final_host items).kernel.past → KeepsAnswered old new items past
final-keeps old new items past last told got front rest line was now parts is gave =
    let front_ = front ++ line ∷ [] in
    subst (λ (p : List Event). Extends (behind (start items) front_).host.kernel.past p) (sym last)
    (final-extends scripts-go_on items front_ rest (append_assoc front (line ∷ []) rest ∙ parts))

-- what is so of a kernel that is handed back, and of an answer whatever it is
pub some-has : {X : Type 0} (P : X → Type 0) (x : X) → P x → ForSome (Some x) P
some-has P x has y is = subst P (same_Some x y is) has

pub always-on_ok : {T E Q : Type 0} (r : Result T E) → Q → OnOk r Q
always-on_ok (Ok x) q = q
always-on_ok (Err e) q = tt
