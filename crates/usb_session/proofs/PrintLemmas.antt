-- What is printed of the tickets that are taken.
use Rattle.std.proofs.Common.{◌≡◌, ℕ, suc, arith, List, [], ◌∷◌, ◌++◌, length, length-append, map, get_or, Option, Some, None, true, false, refl, ap, sym, ◌∙◌, subst, append-nil}
use Rattle.std.specs.Prelude.{nat_lt, is_none, All, if◌then◌else◌}
use Rattle.std.specs.Option.{option_map, option_map_or}
use Rattle.std.proofs.lemmas.Bool.Decides.{nat_tests}
use Rattle.std.proofs.lemmas.List.{map-append}
use Rattle.std.proofs.lemmas.List.Elements.{All-nil, All-head, All-tail, All-push}
use Rattle.std.proofs.lemmas.Option.{none-some, same_Some}
use Rattle.usb_xfer.specs.declared.transfer.Completion.{Completion}
use Rattle.usb_kernel.specs.declared.event.Event.{Event}
use Rattle.usb_kernel.specs.Extends.{Extends}
use Rattle.usb_kernel.specs.Completions.{completion}
use Rattle.usb_kernel.proofs.Extends.{completion-stays}
use Rattle.usb_kernel.specs.TransferCompletions.{completion_of, transfer_completion}
use Rattle.usb_session_text.specs.Completions.{done_line, polled_line}
use Rattle.usb_session_calls.specs.EndpointNames.{EndpointName, endpoint_under}
use Rattle.usb_session_calls.specs.State.{State, Endpoint}
use Rattle.usb_session_calls.specs.Answer.{Answer}
use Rattle.usb_session.specs.Served.{taken_under, was_streamed_under, lines_behind}
use Rattle.usb_session.proofs.Views.{View, view_of, taken_in, streamed_in}

-- the line of a ticket's completion
abbrev pub line_in : List Event → ℕ → List ℕ
line_in past t = polled_line (transfer_completion past t)

pub mapped-some : {X Y : Type 0} (f : X → Y) (o : Option X) (y : Y) → option_map f o ≡ Some y → (x : X) × (o ≡ Some x) × (f x ≡ y)
mapped-some f None y is = absurd (none-some y is)
mapped-some f (Some x) y is = (x, refl, same_Some (f x) y is)

pub transfer-stays : (old new : List Event) (t : ℕ) (c : Completion) → Extends old new → transfer_completion old t ≡ Some c → transfer_completion new t ≡ Some c
unfolding transfer_completion
transfer-stays old new t c extends is =
    let d = mapped-some completion_of (completion old t) c is in
    ap (option_map completion_of) (completion-stays old new t d.0 extends d.1) ∙ ap (λ x. Some x) d.2

-- a ticket that has its completion
pub record HasCame (past : List Event) (t : ℕ) : Type 0 where
  pub completion : Completion
  pub is : transfer_completion past t ≡ Some completion

came-stays : (old new : List Event) (t : ℕ) → Extends old new → HasCame old t → HasCame new t
came-stays old new t extends came = record { completion = came.completion; is = transfer-stays old new t came.completion extends came.is }

came-line : (old new : List Event) (t : ℕ) → Extends old new → HasCame old t → line_in new t ≡ line_in old t
came-line old new t extends came = ap polled_line (transfer-stays old new t came.completion extends came.is ∙ sym came.is)

came-lines : (old new : List Event) (ts : List ℕ) → Extends old new → All (HasCame old) ts → map (line_in new) ts ≡ map (line_in old) ts
came-lines old new [] extends all = refl
came-lines old new (t ∷ ts) extends all =
    let first = came-line old new t extends (All-head (HasCame old) t ts all) in
    let others = came-lines old new ts extends (All-tail (HasCame old) t ts all) in cc

-- these lines are those of these tickets
pub record Prints (past : List Event) (ts : List ℕ) (lines : List (List ℕ)) : Type 0 where
  pub came : All (HasCame past) ts
  pub are : lines ≡ map (line_in past) ts

pub prints-stay : (old new : List Event) (ts : List ℕ) (lines : List (List ℕ)) → Extends old new → Prints old ts lines → Prints new ts lines
prints-stay old new ts lines extends p =
    record { came = λ k d below. came-stays old new (get_or ts k d) extends (p.came k d below); are = p.are ∙ sym (came-lines old new ts extends p.came) }

prints-more : (past : List Event) (ts : List ℕ) (t : ℕ) (lines : List (List ℕ)) (line : List ℕ) → HasCame past t → line ≡ line_in past t → Prints past ts lines → Prints past (ts ++ t ∷ []) (lines ++ line ∷ [])
prints-more past ts t lines line came is p =
    record {
      came = All-push (HasCame past) ts t p.came came;
      are = ap (λ l. l ++ line ∷ []) p.are ∙ (ap (λ x. map (line_in past) ts ++ x ∷ []) is ∙ sym (map-append (line_in past) ts (t ∷ [])));
    }

-- of what is open under a name now, and of which no reader or writer was made, an answer took no ticket more; or it took one, and printed its completion
pub data Takes (v : View) (a : Answer) (e : EndpointName) (g : Endpoint) : Type 0 where
  none : streamed_in v e ≡ false → g.taken ≡ taken_in v e → Takes v a e g
  next : (t : ℕ) (c : Completion) → streamed_in v e ≡ false → g.taken ≡ taken_in v e ++ t ∷ [] → transfer_completion a.state.host.kernel.past t ≡ Some c → a.line ≡ done_line c → Takes v a e g

-- the lines of all that is open, and of which no reader or writer was made
abbrev pub AllPrint : State → (EndpointName → List (List ℕ)) → Type 0
AllPrint state lines = (e : EndpointName) (h : Endpoint) → endpoint_under state e ≡ Some h → h.was_streamed ≡ false → Prints state.host.kernel.past h.taken (lines e)

pub taken-of : (v : View) (e : EndpointName) (h : Endpoint) → v.opened e ≡ Some h → taken_in v e ≡ h.taken
taken-of v e h is = ap (λ (o : Option Endpoint). option_map_or (λ (x : Endpoint). x.taken) o []) is

pub read-under : (v : View) (e : EndpointName) (h : Endpoint) → v.opened e ≡ Some h → streamed_in v e ≡ h.was_streamed
read-under v e h is = ap (λ (o : Option Endpoint). option_map_or (λ (x : Endpoint). x.was_streamed) o false) is

prints-none : (past : List Event) → Prints past [] []
prints-none past = record { came = All-nil (HasCame past); are = refl }

prints-in : (past : List Event) (lines : List (List ℕ)) (o : Option Endpoint) → ((h : Endpoint) → o ≡ Some h → Prints past h.taken lines) → Prints past (option_map_or (λ (x : Endpoint). x.taken) o []) (if is_none o then [] else lines)
prints-in past lines None prints = prints-none past
prints-in past lines (Some h) prints = prints h refl

prints-are : (past : List Event) (ts us : List ℕ) (lines now : List (List ℕ)) → us ≡ ts → now ≡ lines → Prints past ts lines → Prints past us now
prints-are past ts us lines now same are p = record { came = subst (λ l. All (HasCame past) l) (sym same) p.came; are = are ∙ (p.are ∙ ap (map (line_in past)) (sym same)) }

pub not_more : (n m : ℕ) → m ≡ n → nat_lt n m ≡ false
not_more n m same = grind (arith, nat_tests)

pub one_more : (n m : ℕ) → m ≡ suc n → nat_lt n m ≡ true
one_more n m more = grind (arith, nat_tests)

one-prints : (state : State) (a : Answer) (lines : EndpointName → List (List ℕ)) (e : EndpointName) (g : Endpoint) → Extends state.host.kernel.past a.state.host.kernel.past → endpoint_under a.state e ≡ Some g → g.was_streamed ≡ false → AllPrint state lines → Takes (view_of state) a e g → Prints a.state.host.kernel.past g.taken (lines_behind state a lines e)
one-prints state a lines e g extends is unread all takes = by takes
  where
    past : List Event
    past = a.state.host.kernel.past

    was : List ℕ
    was = taken_under state e

    printed : List (List ℕ)
    printed = if is_none (endpoint_under state e) then [] else lines e

    before : was_streamed_under state e ≡ false → Prints past was printed
    before none_read = prints-stay state.host.kernel.past past was printed extends (prints-in state.host.kernel.past (lines e) (endpoint_under state e) (λ h at. all e h at (sym (read-under (view_of state) e h at) ∙ none_read)))

    now : taken_under a.state e ≡ g.taken
    now = taken-of (view_of a.state) e g is

    unread_now : was_streamed_under a.state e ≡ false
    unread_now = read-under (view_of a.state) e g is ∙ unread

    by : Takes (view_of state) a e g → Prints past g.taken (lines_behind state a lines e)
    by (none none_read same) =
        let stays = not_more (length was) (length (taken_under a.state e)) (ap (λ l. length l) (now ∙ same)) in
        prints-are past was g.taken printed (lines_behind state a lines e) same (rw stays (append-nil printed)) (before none_read)
    by (next t c none_read same came line) =
        let size = length-append was (t ∷ []) in
        let count : length (taken_under a.state e) ≡ length (was ++ t ∷ []) = ap (λ l. length l) (now ∙ same) in
        let more = one_more (length was) (length (taken_under a.state e)) (omega (arith, size, count)) in
        prints-are past (was ++ t ∷ []) g.taken (printed ++ a.line ∷ []) (lines_behind state a lines e) same (rw (more, unread_now) refl)
        (prints-more past was t printed a.line (record { completion = c; is = came }) (line ∙ ap polled_line (sym came)) (before none_read))

pub all-print : (state : State) (a : Answer) (lines : EndpointName → List (List ℕ)) → Extends state.host.kernel.past a.state.host.kernel.past → AllPrint state lines → ((e : EndpointName) (g : Endpoint) → endpoint_under a.state e ≡ Some g → g.was_streamed ≡ false → Takes (view_of state) a e g) → AllPrint a.state (lines_behind state a lines)
all-print state a lines extends all takes e g is unread = one-prints state a lines e g extends is unread all (takes e g is unread)
