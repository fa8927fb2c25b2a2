use Rattle.std.proofs.Common.{◌≡◌, ap, sym, ◌∙◌, arith, Some}
use Rattle.std.specs.Prelude.{pos}
use Rattle.std.specs.Option.{option_and_then}
use Rattle.std.proofs.lemmas.Int.{ints}
use Rattle.fraction.specs.Rational.{whole}
use Rattle.fraction.specs.Checked.{add_checked}
use Rattle.fraction.specs.Lemmas.Checked.{mul_checked-zero, add_checked-zero}
use Rattle.fraction.specs.Lemmas.Order.{zero_from_num}
use Rattle.derivation_book.specs.Sums.{with_product}
use Rattle.dual_simplex.proofs.point_sums.with_product.Goals as goal

pub returns-then-numer-eq0 : goal.returns-then-numer-eq0
returns-then-numer-eq0 c =
    let zero : c.args.number ≡ whole (pos 0) = zero_from_num c.args.number (omega (arith, ints)) in
    let none : with_product c.args.total c.args.coefficient (whole (pos 0)) ≡ Some c.args.total = ap (option_and_then (λ v. add_checked c.args.total v)) (mul_checked-zero c.args.coefficient) ∙ add_checked-zero c.args.total c.limits_hold.ensures in
    sym (ap (with_product c.args.total c.args.coefficient) zero ∙ none)
