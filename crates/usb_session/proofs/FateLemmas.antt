-- The fate lines.
use Rattle.std.proofs.Common.{◌≡◌, ℕ, ◌<◌, ◌+◌, ◌-◌, suc, arith, List, ◌++◌, length, Option, Some, None, Bool, true, false, cond, refl, ap, sym, ◌∙◌, slice_get}
use Rattle.std.specs.Option.{option_map}
use Rattle.std.specs.Prelude.{IsSome, option_and_then}
use Rattle.usb_kernel.specs.declared.submission.TicketInfo.{TicketInfo}
use Rattle.usb_kernel.specs.Tickets.{Ticket, tickets}
use Rattle.usb_kernel.specs.Fates.{Fate}
use Rattle.usb_kernel.specs.Journal.{fate}
use Rattle.usb_kernel.specs.Completions.{done_of, completion_if, completion}
use Rattle.usb_kernel.specs.Info.{info_of, info_for, info_if}
use Rattle.usb_device_ledger.specs.declared.ends.TicketEnd.{TicketEnd}
use Rattle.usb_device_ledger.specs.Entries.{HostTicket, HeldBy, Abandoned, Ended}
use Rattle.usb_device_host.specs.HostState.{HostState}
use Rattle.usb_device_ledger.specs.EndedTickets.{ended_at, end_at}
use Rattle.usb_session_text.specs.Tickets.{ticket_line}
use Rattle.usb_session.specs.EndWords.{word_of}
use Rattle.usb_session.specs.FinalFates.{FatesAreFinal}
use Rattle.usb_session.specs.Fates.{end_word, ended_word, line_if, fate_line, fate_lines, fate_lines_from}

-- the word of what became of a ticket is that of its end
word-ended : (o : Option HostTicket) → word_of (option_and_then ended_at o) ≡ ended_word o
word-ended None = refl
word-ended (Some (HeldBy hold)) = refl
word-ended (Some (Abandoned key)) = refl
word-ended (Some (Ended end)) = refl

pub fate_line-is : (h : HostState) (t : ℕ) (info : TicketInfo) (how line : List ℕ) → info_of h.kernel.past t ≡ Some info → how ≡ word_of (end_at h.tickets t) → line ≡ ticket_line t info how → line ≡ fate_line h t
unfolding fate_line
fate_line-is h t info how line here word is =
    is ∙ ap (ticket_line t info) (word ∙ word-ended (slice_get h.tickets t)) ∙ ap (λ o. line_if t o (ended_word (slice_get h.tickets t))) (sym here)

-- the lines from a number on: that of the number, and the others
pub fate_lines_from-step : (h : HostState) (k n : ℕ) → k < n → fate_lines_from h k (n - k) ≡ fate_line h k ++ fate_lines_from h (k + 1) (n - (k + 1))
fate_lines_from-step h k n below =
    let more : n - k ≡ suc (n - (k + 1)) = omega arith in
    let next : suc k ≡ k + 1 = omega arith in
    rw (more, ← next) refl

pub fate_lines-all : (h : HostState) → fate_lines h ≡ fate_lines_from h 0 (length (tickets h.kernel.past) - 0)
unfolding fate_lines
fate_lines-all h = let all : length (tickets h.kernel.past) - 0 ≡ length (tickets h.kernel.past) = omega arith in rw all refl

-- what is known of a ticket that has its completion
record IsReaped (o : Option Ticket) (f : Fate) : Type 0 where
  info : TicketInfo
  errno : ℕ
  known : info_if o f ≡ Some info
  finished : info.status ≡ Some errno
  reaped : info.reaped ≡ true

reaped-by : (t : ℕ) (s : Ticket) (f : Fate) (reaped : Bool) (status : Option ℕ) → f.reaped ≡ reaped → f.status ≡ status → IsSome (cond reaped (option_map (λ errno. done_of t s f errno) status) None) → IsReaped (Some s) f
reaped-by t s f true (Some errno) is_reaped has_status some =
    record { info = info_for s f; errno = errno; known = refl; finished = has_status; reaped = is_reaped }
reaped-by t s f true None is_reaped has_status some = absurd (cc)
reaped-by t s f false status is_reaped has_status some = absurd (cc)

completed-by : (t : ℕ) (o : Option Ticket) (f : Fate) → IsSome (completion_if t o f) → IsReaped o f
completed-by t None f some = absurd (cc)
completed-by t (Some s) f some = reaped-by t s f f.reaped f.status refl refl some

end-of : (o : Option TicketEnd) → IsSome o → (end : TicketEnd) × (o ≡ Some end)
end-of None some = absurd (cc)
end-of (Some end) some = (end, refl)

pub fates-final : FatesAreFinal
unfolding completion
fates-final h t ends completions below within =
    let known = completed-by t (slice_get (tickets h.kernel.past) t) (fate h.kernel.past t) (completions t within) in
    let end = end-of (end_at h.tickets t) (ends t below) in
    record {
      info = known.info;
      errno = known.errno;
      end = end.0;
      known = known.known;
      finished = known.finished;
      reaped = known.reaped;
      ended = end.1;
      line = sym (fate_line-is h t known.info (end_word end.0) (ticket_line t known.info (end_word end.0)) known.known (ap word_of (sym end.1)) refl);
    }
