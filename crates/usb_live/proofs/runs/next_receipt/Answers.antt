use Rattle.std.proofs.Common.{◌≡◌, arith}
use Rattle.usb_live.proofs.runs.next_receipt.Goals as goal

pub returns-clause-most : goal.returns-clause-most
returns-clause-most g c = λ polls some. let same : polls ≡ c.in-Some.polls = cc in omega (arith, same)

pub returns-clause-all : goal.returns-clause-all
returns-clause-all g c = λ none polls some. let same : polls ≡ c.in-Some.polls = cc in omega (arith, same)
