-- How the bytes of an OUT ticket are acknowledged, packet by packet, and how the packets of an IN
-- ticket join.
use Rattle.std.proofs.Common.{◌≡◌, ℕ, ◌+◌, ◌-◌, ◌*◌, ◌<◌, ◌≤◌, Bool, List, [], ◌∷◌, ◌++◌, length, take, drop, min, Option, Some, None, true, false, refl, sym, ap, ◌∙◌, arith}
use Rattle.std.specs.Prelude.{nat_lt, nat_le, is_none, cond, ◌||◌}
use Rattle.std.specs.List.{concat}
use Rattle.std.proofs.Math.Bool.{or-true}
use Rattle.std.proofs.lemmas.List.{length-append, length-drop, take_min, append-nil}
use Rattle.std.proofs.lemmas.List.Folds.{concat-append}
use Rattle.std.proofs.lemmas.Bool.{le-leb, lt-ltb}
use Rattle.usb_kernel.specs.declared.event.Body.TheVariants.{Wanted, Sent}
use Rattle.usb_kernel.specs.Tickets.{Ticket}
use Rattle.usb_kernel.specs.Fates.{Fate, with_ack, with_packet, accept, count_of, count_for, wanted_of, received, finish}
use Rattle.usb_kernel.specs.Journal.{taken_of, bytes_between}
use Rattle.usb_bot_disk.proofs.MachineLemmas.{packet_at, not-le, not-lt}

-- an OUT ticket of these bytes, of which n are acknowledged; it is finished with all of them
pub record IsOut (s : Ticket) (bytes : List ℕ) (maximum n : ℕ) (f : Fate) : Type 0 where
  pub body : s.body ≡ Sent bytes
  pub maximum_is : s.maximum ≡ maximum
  pub count : n ≡ maximum * f.acks

module _ (s : Ticket) (bytes : List ℕ) (maximum n : ℕ) (f : Fate) (is : IsOut s bytes maximum n f) where
  count-next : count_of s (record f { acks = f.acks + 1 }) ≡ min (length bytes) (n + maximum)
  count-next =
      let more : maximum * (f.acks + 1) ≡ n + maximum = omega (arith, is.count) in
      ap (λ b. count_for b s.maximum (received f) (f.acks + 1)) is.body
      ∙ ap (λ m. min (length bytes) (m * (f.acks + 1))) is.maximum_is
      ∙ ap (min (length bytes)) more

  pub count-now : n ≤ length bytes → count_of s f ≡ n
  count-now inside =
      let all : min (length bytes) n ≡ n = omega (arith, inside) in
      ap (λ b. count_for b s.maximum (received f) f.acks) is.body
      ∙ ap (λ m. min (length bytes) (m * f.acks)) is.maximum_is
      ∙ ap (min (length bytes)) (sym is.count)
      ∙ all

  wanted-is : wanted_of s.body ≡ length bytes
  wanted-is = ap wanted_of is.body

  -- an acknowledgement that is not the last
  pub ack-more : n + maximum < length bytes → with_ack s f ≡ record f { acks = f.acks + 1 }
  ack-more more =
      let g : Fate = record f { acks = f.acks + 1 } in
      let test : nat_le (wanted_of s.body) (count_of s g) ≡ false = not-le (wanted_of s.body) (count_of s g) (omega (arith, wanted-is, count-next, more)) in
      ap (λ v. cond v (finish 0 g) g) test

  -- and the last
  pub ack-last : length bytes ≤ n + maximum → f.status ≡ None → with_ack s f ≡ record f { acks = f.acks + 1; status = Some 0 }
  ack-last last unfinished =
      let g : Fate = record f { acks = f.acks + 1 } in
      let test : nat_le (wanted_of s.body) (count_of s g) ≡ true = le-leb (wanted_of s.body) (count_of s g) (omega (arith, wanted-is, count-next, last)) in
      ap (λ v. cond v (finish 0 g) g) test ∙ ap (λ (o : Option ℕ). cond (is_none o) (record g { status = Some 0 }) g) unfinished

  counts-same : f.status ≡ None → (v : Bool) → count_of s (cond v (finish 0 (record f { acks = f.acks + 1 })) (record f { acks = f.acks + 1 })) ≡ count_of s (record f { acks = f.acks + 1 })
  counts-same unfinished true = ap (λ (o : Option ℕ). count_of s (cond (is_none o) (record f { acks = f.acks + 1; status = Some 0 }) (record f { acks = f.acks + 1 }))) unfinished
  counts-same unfinished false = refl

  -- the bytes that it takes
  pub ack-takes : n ≤ length bytes → f.status ≡ None → taken_of (Some s) f ≡ packet_at bytes maximum n
  ack-takes inside unfinished =
      let g : Fate = record f { acks = f.acks + 1 } in
      let after : count_of s (with_ack s f) ≡ min (length bytes) (n + maximum) = counts-same unfinished (nat_le (wanted_of s.body) (count_of s g)) ∙ count-next in
      let part : min (length bytes) (n + maximum) - n ≡ min maximum (length (drop n bytes)) = omega (arith, length-drop n bytes, inside) in
      ap (λ b. bytes_between b (count_of s f) (count_of s (with_ack s f))) is.body
      ∙ ap (λ now. take (now - count_of s f) (drop (count_of s f) bytes)) after
      ∙ ap (λ before. take (min (length bytes) (n + maximum) - before) (drop before bytes)) (count-now inside)
      ∙ ap (λ k. take k (drop n bytes)) part
      ∙ take_min maximum (drop n bytes)

-- an IN ticket that wants so many bytes, of which these have come
pub record IsIn (s : Ticket) (wanted maximum : ℕ) (got : List ℕ) (f : Fate) : Type 0 where
  pub body : s.body ≡ Wanted wanted
  pub maximum_is : s.maximum ≡ maximum
  pub got_is : received f ≡ got

concat-push : (xss : List (List ℕ)) (b : List ℕ) → concat (xss ++ b ∷ []) ≡ concat xss ++ b
concat-push xss b = concat-append xss (b ∷ []) ∙ ap (λ ys. concat xss ++ ys) (append-nil b)

module _ (s : Ticket) (wanted maximum : ℕ) (got : List ℕ) (f : Fate) (is : IsIn s wanted maximum got f) (b : List ℕ) where
  got-next : received (record f { packets = f.packets ++ b ∷ [] }) ≡ got ++ b
  got-next = concat-push f.packets b ∙ ap (λ xs. xs ++ b) is.got_is

  fits-in : length b ≤ maximum → nat_lt s.maximum (length b) ≡ false
  fits-in short = not-lt s.maximum (length b) (omega (arith, is.maximum_is, short))

  -- a full packet that is not the last
  pub packet-more : length b ≡ maximum → length got + maximum < wanted →
      (with_packet s b f ≡ record f { packets = f.packets ++ b ∷ [] }) × IsIn s wanted maximum (got ++ b) (record f { packets = f.packets ++ b ∷ [] })
  packet-more full more =
      let g : Fate = record f { packets = f.packets ++ b ∷ [] } in
      let whole : nat_lt (length b) s.maximum ≡ false = not-lt (length b) s.maximum (omega (arith, is.maximum_is, full)) in
      let want : wanted_of s.body ≡ wanted = ap wanted_of is.body in
      let long : length (received g) ≡ length got + maximum = ap length got-next ∙ length-append got b ∙ ap (λ n. length got + n) full in
      let less : nat_le (wanted_of s.body) (length (received g)) ≡ false = not-le (wanted_of s.body) (length (received g)) (omega (arith, want, long, more)) in (
        ap (λ v. cond v (finish 75 f) (accept s b f)) (fits-in (omega (arith, full)))
            ∙ ap (λ v. cond (v || nat_le (wanted_of s.body) (length (received g))) (finish 0 g) g) whole
            ∙ ap (λ v. cond v (finish 0 g) g) less,
        record { body = is.body; maximum_is = is.maximum_is; got_is = got-next },
      )

  -- and one with which what is wanted has come
  pub packet-last : length b ≤ maximum → wanted ≤ length got + length b → f.status ≡ None →
      (with_packet s b f ≡ record f { packets = f.packets ++ b ∷ []; status = Some 0 }) × IsIn s wanted maximum (got ++ b) (record f { packets = f.packets ++ b ∷ []; status = Some 0 })
  packet-last short last unfinished =
      let g : Fate = record f { packets = f.packets ++ b ∷ [] } in
      let want : wanted_of s.body ≡ wanted = ap wanted_of is.body in
      let long : length (received g) ≡ length got + length b = ap length got-next ∙ length-append got b in
      let over : nat_le (wanted_of s.body) (length (received g)) ≡ true = le-leb (wanted_of s.body) (length (received g)) (omega (arith, want, long, last)) in (
        ap (λ v. cond v (finish 75 f) (accept s b f)) (fits-in short)
            ∙ ap (λ v. cond (nat_lt (length b) s.maximum || v) (finish 0 g) g) over
            ∙ ap (λ v. cond v (finish 0 g) g) (or-true (nat_lt (length b) s.maximum))
            ∙ ap (λ (o : Option ℕ). cond (is_none o) (record g { status = Some 0 }) g) unfinished,
        record { body = is.body; maximum_is = is.maximum_is; got_is = got-next },
      )

  -- a packet that is shorter than the maximum ends the ticket
  pub packet-short : length b < maximum → f.status ≡ None →
      with_packet s b f ≡ record f { packets = f.packets ++ b ∷ []; status = Some 0 }
  packet-short short unfinished =
      let g : Fate = record f { packets = f.packets ++ b ∷ [] } in
      let less : nat_lt (length b) s.maximum ≡ true = lt-ltb (length b) s.maximum (omega (arith, is.maximum_is, short)) in
      ap (λ v. cond v (finish 75 f) (accept s b f)) (fits-in (omega (arith, short)))
      ∙ ap (λ v. cond (v || nat_le (wanted_of s.body) (length (received g))) (finish 0 g) g) less
      ∙ ap (λ (o : Option ℕ). cond (is_none o) (record g { status = Some 0 }) g) unfinished
