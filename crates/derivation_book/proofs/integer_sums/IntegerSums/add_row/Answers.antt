use Rattle.std.proofs.Common.{◌≡◌, ◌++◌, ◌∙◌, ℕ, Some, All, map, length, take, drop, sym, subst, arith, rules}
use Rattle.std.specs.Int.{w64, w128}
use Rattle.std.proofs.lemmas.Int.{to_z-of_z}
use Rattle.std.proofs.lemmas.List.{take_at}
use mir.Val.{SFits, to_z, of_z}
use Rattle.fraction.specs.Rational.{ℚ, whole}
use Rattle.fraction.specs.Whole.{IsWhole}
use Rattle.fraction.specs.Lemmas.Bounds.{whole_parts}
use Rattle.derivation_book.specs.Adding.{columns_added}
use Rattle.derivation_book.specs.Sums.{with_product}
use Rattle.derivation_book.proofs.Numerators.{product_added, numbers_added}
use Rattle.derivation_book.proofs.integer_sums.IntegerSums.add_row.Goals as goal

pub returns-in-Some-with_product-clause-added : goal.returns-in-Some-with_product-clause-added
returns-in-Some-with_product-clause-added c = λ t.
    let zs = c.self.inside.coefficients.items in
    let n = c.self.inside.coefficients.len in
    let more = c.add_terms.new.sums in
    let side = c.self.inside.side in
    let f = c.args.factor in
    let b = c.in-Some.side in
    let s = c.in-Some-with_product.side in
    let side_fits : SFits w128 side = search rules in
    let b_fits : SFits w64 b = search rules in
    let s_fits : SFits w128 s = search rules in
    let same : to_z w64 (of_z w64 f) ≡ f = to_z-of_z w64 f c.ranges.factor in
    let long : length more ≡ n = omega (arith, c.add_terms.auto.sums, c.deref_mut.ensures.len) in
    let written : take n (more ++ drop (length more) zs) ≡ more = take_at more (drop (length more) zs) n long in
    let columns : columns_added (map whole zs) 0 (whole f) c.args.row.now.terms ≡ Some (map whole more) =
    (λ i. columns_added (map whole (sym c.deref_mut.ensures.value i)) 0 (whole (sym same i)) (sym c.as_slice.ensures i)) ∙ c.add_terms.ensures.added t in
    let added : with_product (whole side) (whole f) (whole b) ≡ Some (whole (to_z w128 (of_z w128 s))) =
    product_added side (to_z w128 (of_z w128 side)) f (to_z w64 (of_z w64 f)) b (to_z w64 (of_z w64 b)) (to_z w128 (of_z w128 s)) s (to_z-of_z w128 side side_fits) same (to_z-of_z w64 b b_fits)
    (sym (to_z-of_z w128 s s_fits)) c.in-Some-with_product.ensures.value in
    numbers_added c.args.self.now zs more (take n (more ++ drop (length more) zs)) side f b (to_z w128 (of_z w128 s)) c.args.row.now c.self.view_is c.in-Some.ensures written columns added

pub returns-in-Some-with_product-clause-whole : goal.returns-in-Some-with_product-clause-whole
returns-in-Some-with_product-clause-whole c = λ t. (
  subst (All (λ (m : ℕ × ℚ). IsWhole m.1)) c.as_slice.ensures (c.add_terms.ensures.whole t),
  subst IsWhole (sym c.in-Some.ensures) (whole_parts c.in-Some.side).1,
)
