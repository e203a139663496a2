use Rattle.std.proofs.Common.{◌∙◌, Result, Err, ap}
use Rattle.std.proofs.lemmas.Result.{err_from_is_err_and}
use Rattle.usb_desc.specs.declared.error.Fail.{Fail}
use Rattle.usb_desc.specs.declared.error.Fail.TheVariants.{Cause, Memory}
use Rattle.usb_error.specs.Outcomes.{◌>>=◌, Tried}
use Rattle.usb_enum.proofs.NumberLemmas.{numbers_by_parts}
use Rattle.usb_enum.proofs.numbers.read_numbers.Goals as goal

-- the error of the first call is that of all
tried_first :
    {A B E : Type 0} (error : Fail E) (first : Result A E) (rest : A → Result B E)
    → Tried {A = A} (Err error) first → Tried {A = B} (Err error) (first >>= rest)
tried_first (Cause error) first rest is = ap (λ r. r >>= rest) is
tried_first Memory first rest is = tt

pub returns-in_err-place : goal.returns-in_err-place
returns-in_err-place c =
    let parts = numbers_by_parts c.args.tree.now c.args.folder.now in
    let err = err_from_is_err_and c.from_residual.result c.from_residual.ensures.1 in
    let tried = tried_first c.in_err-place.field-0.0 _ _ c.in_err-place.ensures.tried in
    record { tried = rw (err.1, err.2, parts) tried }

pub returns-in_err-product : goal.returns-in_err-product
returns-in_err-product c =
    let parts = numbers_by_parts c.args.tree.now c.args.folder.now in
    let residual = c.from_residual-in_err-product in
    let err = err_from_is_err_and residual.result residual.ensures.1 in
    let tried = tried_first c.in_err-product.field-0.0 _ _ c.in_err-product.ensures.tried in
    record { tried = rw (err.1, err.2, parts, c.in_ok-place.ensures.tried) tried }

pub returns-in_err-class : goal.returns-in_err-class
returns-in_err-class c =
    let parts = numbers_by_parts c.args.tree.now c.args.folder.now in
    let residual = c.from_residual-in_err-class in
    let err = err_from_is_err_and residual.result residual.ensures.1 in
    let place = c.in_ok-place.ensures.tried in
    let product = c.in_ok-product.ensures.tried in
    let tried = tried_first c.in_err-class.field-0.0 _ _ c.in_err-class.ensures.tried in
    record { tried = rw (err.1, err.2, parts, place, product) tried }

pub returns : goal.returns
returns c =
    let parts = numbers_by_parts c.args.tree.now c.args.folder.now in
    let place = c.in_ok-place.ensures.tried in
    let product = c.in_ok-product.ensures.tried in
    record { tried = parts ∙ rw (place, product, c.in_ok-class.ensures.tried) }
