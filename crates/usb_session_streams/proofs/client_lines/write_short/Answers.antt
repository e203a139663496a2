use Rattle.std.proofs.Common.{◌∙◌, ◌++◌, ◌∷◌, [], ℕ, List, ap, append_assoc, string_bytes, codes}
use Rattle.std.specs.Fmt.{decimal}
use Rattle.std.proofs.lemmas.Result.{on_ok_weaker}
use Rattle.usb_session_text.specs.Words.{part}
use Rattle.usb_session_streams.proofs.client_lines.write_short.Goals as goal

pub returns : goal.returns
returns c =
    let old = string_bytes c.args.out.now in
    let what = codes "msgerror" ++ part (codes "short") in
    record {
      text =
          on_ok_weaker c.end_line.result (λ is.
          is
          ∙ ap (λ (xs : List ℕ). xs ++ 10 ∷ []) (c.in_ok-push_number_part.ensures.text ∙ ap (λ (xs : List ℕ). xs ++ part (decimal c.from.result)) (c.in_ok-push_what.ensures.text ∙ append_assoc old (codes "msgerror") (part (codes "short"))))
          ∙ ap (λ (n : ℕ). ((old ++ what) ++ part (decimal n)) ++ 10 ∷ []) c.from.ensures
          ∙ append_assoc (old ++ what) (part (decimal c.args.len)) (10 ∷ [])
          ∙ append_assoc old what (part (decimal c.args.len) ++ 10 ∷ [])) c.end_line.ensures.text;
    }
