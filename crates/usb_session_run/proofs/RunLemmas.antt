-- The run over the items of a script, and what the sink got.
use Rattle.std.proofs.Common.{◌≡◌, ℕ, ◌+◌, ◌-◌, ◌<◌, Bool, true, false, cond, Result, Ok, Err, IfOk, List, [], ◌∷◌, ◌++◌, length, count_by, refl, ap, sym, ◌∙◌, subst, arith}
use Rattle.std.specs.declared.option.Option.{Option}
use Rattle.std.specs.Io.KnownBytes.{Appends}
use Rattle.std.proofs.lemmas.List.{append-nil}
use Rattle.std.proofs.lemmas.List.Sums.{sum_by-cons}
use Rattle.usb_script_lines.specs.declared.item.Item.{Item}
use Rattle.usb_script_lines.specs.ItemKinds.{is_call}
use Rattle.usb_device_host.specs.HostState.{HostState}
use Rattle.usb_session_calls.specs.SessionState.{SessionState}
use Rattle.usb_session.specs.declared.summary.Summary.{Summary}
use Rattle.usb_kernel.specs.Tickets.{tickets}
use Rattle.usb_session_calls.specs.State.{State}
use Rattle.usb_session.specs.Answers.{answer}
use Rattle.usb_session_calls.specs.Answered.{Answered}
use Rattle.usb_session.specs.Ends.{ended}
use Rattle.usb_session.specs.Fates.{fate_line, fate_lines, fate_lines_from}
use Rattle.usb_session.specs.Output.{output, output_from, last_host, final_host, start}
use Rattle.usb_session_calls.specs.Relation.{Represents}
use Rattle.usb_session.specs.Sums.{counts_of, sum_of}
use Rattle.usb_session.proofs.FateLemmas.{fate_lines_from-step, fate_lines-all}
use Rattle.usb_session_run.specs.Causes.{Wrote, WrotePrefix}
use Rattle.usb_session_run.specs.Running.{AllAnswered}
use Rattle.usb_session_run.proofs.OutsideLemmas.{Wrote_none, Wrote_more, Wrote_all, Wrote_prefix}

-- a session on the way through the items: what it stands for, what was written and what is left
pub record Running (old new : Option (List ℕ)) (s : SessionState) (items : List Item) (whole : List ℕ) (last : HostState) : Type 0 where
  pub now : State
  pub stands : Represents s now
  pub wrote : Wrote old new whole (output_from now items)
  pub leads : last_host now items ≡ last

pub running-start : (old : Option (List ℕ)) (s : SessionState) (items : List Item) → Represents s (start items) → Running old old s items (output items) (final_host items)
unfolding output final_host
running-start old s items r = record { now = start items; stands = r; wrote = Wrote_none old (output_from (start items) items); leads = refl }

-- the line of the first item that is left
line-left : (now : State) (item : Item) (items : List Item) (line : List ℕ) → line ≡ (answer now item).line → line ++ output_from (answer now item).state items ≡ output_from now (item ∷ items)
line-left now item items line same = ap (λ l. l ++ output_from (answer now item).state items) same

pub running-on : {old mid : Option (List ℕ)} {whole : List ℕ} {last : HostState} (new : Option (List ℕ)) (s next : SessionState) (item : Item) (items : List Item) (line : List ℕ) → Running old mid s (item ∷ items) whole last → ((state : State) → Represents s state → Answered next [] line (answer state item)) → Appends mid new line → Running old new next items whole last
running-on new s next item items line run answered appends =
    let a = answered run.now run.stands in
    record {
      now = (answer run.now item).state;
      stands = a.state;
      wrote = Wrote_more new line (output_from (answer run.now item).state items) run.wrote appends (line-left run.now item items line a.line);
      leads = run.leads;
    }

-- the sink failed within a line
pub running-cut : {old mid : Option (List ℕ)} {whole : List ℕ} {last : HostState} (new : Option (List ℕ)) (s next : SessionState) (item : Item) (items : List Item) (line : List ℕ) → Running old mid s (item ∷ items) whole last → ((state : State) → Represents s state → Answered next [] line (answer state item)) → WrotePrefix mid new line → WrotePrefix old new whole
running-cut new s next item items line run answered cut =
    let a = answered run.now run.stands in
    Wrote_prefix new line (output_from (answer run.now item).state items) run.wrote cut (line-left run.now item items line a.line)

-- memory was wanting before the first line
pub running-none : (old : Option (List ℕ)) (whole : List ℕ) → WrotePrefix old old whole
running-none old whole = (whole, Wrote_none old whole)

-- all items are answered
pub running-done : {old new : Option (List ℕ)} (s : SessionState) (items : List Item) → Running old new s [] (output items) (final_host items) → AllAnswered old new s items
running-done s items run = record { now = run.now; stands = run.stands; wrote = run.wrote; leads = run.leads }

-- a call is counted, and what is no call is not
pub calls-yes : (item : Item) (items : List Item) (b : Bool) → b ≡ is_call item → b ≡ true → count_by is_call (item ∷ items) ≡ 1 + count_by is_call items
calls-yes item items b is passes =
    let call : is_call item ≡ true = sym is ∙ passes in
    sum_by-cons (λ x. cond (is_call x) 1 0) item items ∙ rw call refl

pub calls-no : (item : Item) (items : List Item) (b : Bool) → b ≡ is_call item → b ≡ false → count_by is_call (item ∷ items) ≡ count_by is_call items
calls-no item items b is fails =
    let other : is_call item ≡ false = sym is ∙ fails in
    sum_by-cons (λ x. cond (is_call x) 1 0) item items ∙ rw other (omega arith)

-- but for the fate lines of the host at the end all is written
pub answered-but_fates : {old new : Option (List ℕ)} (s : SessionState) (host : HostState) (items : List Item) → AllAnswered old new s items → ((state : State) → Represents s state → host ≡ ended state) → Wrote old new (output items) (fate_lines host)
answered-but_fates {old} {new} s host items done ends =
    subst (λ (h : HostState). Wrote old new (output items) (fate_lines h)) (sym (ends done.now done.stands)) done.wrote

-- and then they are
pub answered-end : {old mid : Option (List ℕ)} (new : Option (List ℕ)) (host : HostState) (items : List Item) → Wrote old mid (output items) (fate_lines host) → Appends mid new (fate_lines host) → Appends old new (output items)
answered-end new host items wrote appends = Wrote_all (Wrote_more new (fate_lines host) [] wrote appends (append-nil (fate_lines host))) refl

pub answered-cut : {old mid : Option (List ℕ)} (new : Option (List ℕ)) (host : HostState) (items : List Item) → Wrote old mid (output items) (fate_lines host) → WrotePrefix mid new (fate_lines host) → WrotePrefix old new (output items)
answered-cut new host items wrote cut = Wrote_prefix new (fate_lines host) [] wrote cut (append-nil (fate_lines host))

-- the host at the end is the last of the script
pub host-final : {old new : Option (List ℕ)} (s : SessionState) (host : HostState) (items : List Item) → AllAnswered old new s items → ((state : State) → Represents s state → host ≡ ended state) → host ≡ final_host items
host-final s host items done ends = ends done.now done.stands ∙ done.leads

-- the summary of the last host
pub answered-sum : (host : HostState) (items : List Item) (calls : ℕ) (summary : Summary) → host ≡ final_host items → summary ≡ counts_of calls host → calls ≡ count_by is_call items → summary ≡ sum_of items
answered-sum host items calls summary final sums counted =
    sums ∙ ap (counts_of calls) final ∙ ap (λ n. counts_of n (final_host items)) counted

-- what is so anyhow is so where a call answered
pub always-ok : {T E Q : Type 0} (r : Result T E) → Q → IfOk r (λ x. Q)
always-ok (Ok x) q = q
always-ok (Err e) q = tt

-- the fate lines
pub fates-start : (old : Option (List ℕ)) (h : HostState) → Wrote old old (fate_lines h) (fate_lines_from h 0 (length (tickets h.kernel.past) - 0))
fates-start old h = rw (← fate_lines-all h) (Wrote_none old (fate_lines h))

pub fates-on : {old mid : Option (List ℕ)} (new : Option (List ℕ)) (h : HostState) (t n : ℕ) (line : List ℕ) → t < n → n ≡ length (tickets h.kernel.past) → line ≡ fate_line h t → Wrote old mid (fate_lines h) (fate_lines_from h t (length (tickets h.kernel.past) - t)) → Appends mid new line → Wrote old new (fate_lines h) (fate_lines_from h (t + 1) (length (tickets h.kernel.past) - (t + 1)))
fates-on new h t n line below all is wrote appends =
    let within : t < length (tickets h.kernel.past) = omega arith in
    Wrote_more new line (fate_lines_from h (t + 1) (length (tickets h.kernel.past) - (t + 1))) wrote appends (rw is (sym (fate_lines_from-step h t (length (tickets h.kernel.past)) within)))

pub fates-cut : {old mid : Option (List ℕ)} (new : Option (List ℕ)) (h : HostState) (t n : ℕ) (line : List ℕ) → t < n → n ≡ length (tickets h.kernel.past) → line ≡ fate_line h t → Wrote old mid (fate_lines h) (fate_lines_from h t (length (tickets h.kernel.past) - t)) → WrotePrefix mid new line → WrotePrefix old new (fate_lines h)
fates-cut new h t n line below all is wrote cut =
    let within : t < length (tickets h.kernel.past) = omega arith in
    Wrote_prefix new line (fate_lines_from h (t + 1) (length (tickets h.kernel.past) - (t + 1))) wrote cut (rw is (sym (fate_lines_from-step h t (length (tickets h.kernel.past)) within)))
