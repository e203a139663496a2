use Rattle.std.proofs.Common.{◌≡◌, ℕ, ◌+◌, arith, List, [], ◌∷◌, ◌++◌, length, map, Option, true, false, refl, ap, ◌∙◌, cond}
use Rattle.std.specs.Prelude.{filter, ◌==◌, ◌&&◌}
use Rattle.std.specs.List.{enumerate_from}
use Rattle.usb_kernel.specs.declared.event.Event.{Event}
use Rattle.usb_kernel.specs.declared.event.Event.TheVariants.{Submit}
use Rattle.usb_kernel.specs.declared.event.Body.{Body}
use Rattle.usb_kernel.specs.Tickets.{Ticket, tickets}
use Rattle.usb_kernel.specs.Fates.{Fate}
use Rattle.usb_kernel.specs.Journal.{fate, is_open, open_tickets}
use Rattle.usb_kernel.proofs.Fresh.{fate-fresh}

open-append : (ts : List Ticket) (k : ℕ) (s : Ticket) (f : ℕ → Fate) (d e : ℕ) → map {A = ℕ × Ticket} (λ p. p.0) (filter (is_open f d e) (enumerate_from k (ts ++ s ∷ []))) ≡ map {A = ℕ × Ticket} (λ p. p.0) (filter (is_open f d e) (enumerate_from k ts)) ++ cond (is_open f d e (k + length ts, s)) ((k + length ts) ∷ []) []
open-append [] k s f d e =
    let z : k + 0 ≡ k = omega arith in
    rw z (elim (is_open f d e (k, s)) as (λ v. map {A = ℕ × Ticket} (λ p. p.0) (cond v ((k, s) ∷ []) []) ≡ cond v (k ∷ []) []) [ true ↦ refl | false ↦ refl ])
open-append (t ∷ ts) k s f d e =
    let z : k + length (t ∷ ts) ≡ (k + 1) + length ts = omega arith in
    let others = open-append ts (k + 1) s f d e in
    let rest = cond (is_open f d e ((k + 1) + length ts, s)) (((k + 1) + length ts) ∷ []) [] in
    rw z (elim (is_open f d e (k, t)) as (λ v. map {A = ℕ × Ticket} (λ p. p.0) (cond v ((k, t) ∷ filter (is_open f d e) (enumerate_from (k + 1) (ts ++ s ∷ []))) (filter (is_open f d e) (enumerate_from (k + 1) (ts ++ s ∷ [])))) ≡ map {A = ℕ × Ticket} (λ p. p.0) (cond v ((k, t) ∷ filter (is_open f d e) (enumerate_from (k + 1) ts)) (filter (is_open f d e) (enumerate_from (k + 1) ts))) ++ rest) [ true ↦ ap (λ xs. k ∷ xs) others | false ↦ others ])

-- a submission opens one more ticket, on its own endpoint
pub open_tickets-submit : (past : List Event) (t d e m : ℕ) (body : Body) (room : ℕ) (deadline : Option ℕ) (d' e' : ℕ) → open_tickets (Submit t d e m body room deadline ∷ past) d' e' ≡ open_tickets past d' e' ++ cond (d == d' && (e == e' && true)) (length (tickets past) ∷ []) []
open_tickets-submit past t d e m body room deadline d' e' =
    let z : 0 + length (tickets past) ≡ length (tickets past) = omega arith in
    let new = fate-fresh past (length (tickets past)) (omega arith) in
    let s : Ticket = record { device = d; endpoint = e; maximum = m; body = body; capacity = room; refused = false; deadline = deadline } in
    open-append (tickets past) 0 s (fate past) d' e' ∙ rw (z, new) refl
