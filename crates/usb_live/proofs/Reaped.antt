-- A ticket that was reaped.
use Rattle.std.proofs.Common.{◌≡◌, ℕ, ◌∷◌, List, Option, Some, None, refl, ap, sym, ◌∙◌, arith, cond, slice_get, eq-eqb}
use Rattle.std.specs.Prelude.{is_some}
use Rattle.std.proofs.lemmas.Grind.{common_steps}
use Rattle.usb_xfer.specs.declared.transfer.Completion.{Completion}
use Rattle.usb_kernel.specs.declared.event.Event.{Event}
use Rattle.usb_kernel.specs.declared.event.Event.TheVariants.{Reap}
use Rattle.usb_kernel.specs.declared.submission.Done.{Done}
use Rattle.usb_kernel.specs.Tickets.{Ticket, tickets}
use Rattle.usb_kernel.specs.Fates.{Fate}
use Rattle.usb_kernel.specs.Journal.{fate}
use Rattle.usb_kernel.specs.Completions.{reapable, completion, completed, done_if}
use Rattle.usb_kernel.specs.Steps.{after_reap}
use Rattle.usb_kernel.specs.Value.{KernelState}
use Rattle.usb_kernel.proofs.Completions.{completion-reap}
use Rattle.usb_kernel.specs.TransferCompletions.{completion_of}
use Rattle.usb_live.specs.Answers.{Reaps}

ticket_of : (t : ℕ) (s : Ticket) (f : Fate) (done : Done) → done_if t f s ≡ Some done → done.ticket ≡ t
ticket_of t s f done some = grind (arith, common_steps)

ticket_if : (t : ℕ) (o : Option Ticket) (past : List Event) (done : Done) → slice_get (tickets past) t ≡ o → reapable past t ≡ Some done → done.ticket ≡ t
ticket_if t None past done at some = let none : None ≡ Some done = rw at at some in cc
ticket_if t (Some s) past done at some = let here : done_if t (fate past t) s ≡ Some done = rw at at some in ticket_of t s (fate past t) done here

-- the journal gives a reaped ticket its completion
gives : (past : List Event) (t : ℕ) (done : Done) → reapable past t ≡ Some done → completion (after_reap past t) t ≡ Some done
gives past t done was =
    let same : done.ticket ≡ t = ticket_if t (slice_get (tickets past) t) past done refl was in
    let found : completed (Some done) (completion past) t ≡ Some done = rw (eq-eqb done.ticket t same) refl in
    completion-reap past t t ∙ (ap (λ (o : Option Done). completed o (completion past) t) was ∙ found)

-- what the kernel's reap tells, of the ticket that it answered
pub reaps : (k l : KernelState) (t : ℕ) (done : Done) (c : Completion) → Some done ≡ reapable k.past t → l ≡ record k { past = after_reap k.past t }
    → c ≡ completion_of done → Reaps k l t c
reaps k l t done c was kernel is =
    let after : after_reap k.past t ≡ Reap t ∷ k.past = ap (λ (o : Option Done). cond (is_some o) (Reap t ∷ k.past) k.past) (sym was) in
    record {
      done = done;
      was = sym was;
      kernel = kernel ∙ ap (λ (past : List Event). record k { past = past }) after;
      gives = ap (λ (s : KernelState). completion s.past t) kernel ∙ gives k.past t done (sym was);
      is = is;
    }
