use Rattle.std.proofs.Common.{◌≤◌, ◌∙◌, arith, ap, sym, pos, length}
use Rattle.std.specs.Prelude.{slice_get}
use Rattle.std.specs.Ordering.{int_eq}
use Rattle.std.proofs.lemmas.List.{get_or_past}
use Rattle.std.proofs.lemmas.Option.{get_or_from_slice_get}
use Rattle.fraction.specs.Rational.{ℚ, whole}
use Rattle.fraction.specs.Lemmas.Bounds.{whole_parts}
use Rattle.dual_simplex.proofs.prepared_sums.PointSums.is_zero_at.Goals as goal

pub returns-then-column-len : goal.returns-then-column-len
returns-then-column-len c =
    let x = c.args.self.now in
    let past : length x ≤ c.args.column = omega (arith, c.if-column-len.true, c.len.ensures, ap length c.self.view_is) in
    sym (ap (λ (q : ℚ). int_eq q.num (pos 0)) (get_or_past x c.args.column (whole (pos 0)) past) ∙ ap (λ z. int_eq z (pos 0)) (whole_parts (pos 0)).0)

pub returns : goal.returns
returns c =
    let x = c.args.self.now in
    c.is_zero.ensures
    ∙ ap (λ (q : ℚ). int_eq q.num (pos 0)) (sym (get_or_from_slice_get x c.args.column c.get.result (whole (pos 0)) (ap (λ y. slice_get y c.args.column) (sym c.self.view_is) ∙ c.get.ensures)))
