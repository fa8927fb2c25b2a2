use Rattle.std.proofs.Common.{◌≡◌, ◌<◌, Some, pos, length, set, refl, sym, subst, arith, rules}
use Rattle.std.specs.Int.{w64, w128}
use Rattle.std.proofs.lemmas.Int.{to_z-of_z}
use Rattle.std.proofs.lemmas.List.Elements.{All-set}
use mir.Val.{SFits, to_z, of_z}
use Rattle.fraction.specs.Rational.{whole}
use Rattle.derivation_book.specs.Sums.{with_product}
use Rattle.derivation_book.specs.Places.{lower_row_at, upper_row_at}
use Rattle.derivation_book.specs.IntegerSums.{FitsInteger}
use Rattle.derivation_book.proofs.Numerators.{product_added, term_added, numbers_added}
use Rattle.derivation_book.proofs.integer_sums.IntegerSums.add_bound.Goals as goal
use Rattle.derivation_book.proofs.integer_sums.IntegerSums.add_bound.Goals.{After-index_mut}

-- the sums with the bound's row
with_side : (c : After-index_mut) → with_product (whole c.self.inside.side) (whole c.args.factor) (whole c.args.bound) ≡ Some (whole (to_z w128 (of_z w128 c.in-Some-Some.side)))
with_side c =
    let s = c.in-Some-Some.side in
    let t = c.self.inside.side in
    let s_fits : SFits w128 s = search rules in
    let t_fits : SFits w128 t = search rules in
    product_added t (to_z w128 (of_z w128 t)) c.args.factor (to_z w64 (of_z w64 c.args.factor)) c.args.bound (to_z w64 (of_z w64 c.args.bound)) (to_z w128 (of_z w128 s)) s (to_z-of_z w128 t t_fits)
    (to_z-of_z w64 c.args.factor c.ranges.factor) (to_z-of_z w64 c.args.bound c.ranges.bound) (sym (to_z-of_z w128 s s_fits)) c.in-Some-Some.ensures.value

with_one : (c : After-index_mut) → with_product (whole c.index-own.result.now) (whole c.args.factor) (whole (pos 1)) ≡ Some (whole (to_z w128 (of_z w128 c.in-Some-Some.sum)))
with_one c =
    let s = c.in-Some-Some.sum in
    let z = c.index-own.result.now in
    let s_fits : SFits w128 s = search rules in
    let z_fits : SFits w128 z = search rules in
    product_added z (to_z w128 (of_z w128 z)) c.args.factor (to_z w64 (of_z w64 c.args.factor)) (pos 1) (pos 1) (to_z w128 (of_z w128 s)) s (to_z-of_z w128 z z_fits) (to_z-of_z w64 c.args.factor c.ranges.factor) refl
    (sym (to_z-of_z w128 s s_fits)) c.in-Some-Some.ensures'.value

pub invariant_of-self : goal.invariant_of-self
invariant_of-self c =
    let s = c.in-Some-Some.side in
    let u = c.in-Some-Some.sum in
    let s_fits : SFits w128 s = search rules in
    let u_fits : SFits w128 u = search rules in (
      All-set FitsInteger c.self.inside.coefficients.items c.args.column (to_z w128 (of_z w128 u)) (subst FitsInteger (sym (to_z-of_z w128 u u_fits)) c.in-Some-Some.ensures'.fits) c.self.invariant.0,
      subst FitsInteger (sym (to_z-of_z w128 s s_fits)) c.in-Some-Some.ensures.fits,
    )

pub returns-in-Some-Some-clause-lower : goal.returns-in-Some-Some-clause-lower
returns-in-Some-Some-clause-lower c = λ t.
    let k = c.args.column in
    let zs = c.self.inside.coefficients.items in
    let u = to_z w128 (of_z w128 c.in-Some-Some.sum) in
    let there : k < length zs = omega (arith, c.self.inside.coefficients.ok.0) in
    numbers_added c.args.self.now zs (set zs k u) (set zs k u) c.self.inside.side c.args.factor c.args.bound (to_z w128 (of_z w128 c.in-Some-Some.side)) (lower_row_at k c.args.bound) c.self.view_is refl refl
    (term_added zs c.args.factor k (whole (pos 1)) (pos 1) c.index-own.result.now u c.self.invariant.0 there c.index-own.ensures refl (with_one (goal.at.returns-in-Some-Some-clause-lower c).After-index_mut))
    (with_side (goal.at.returns-in-Some-Some-clause-lower c).After-index_mut)

pub returns-in-Some-Some-clause-upper : goal.returns-in-Some-Some-clause-upper
returns-in-Some-Some-clause-upper c = λ t.
    let k = c.args.column in
    let zs = c.self.inside.coefficients.items in
    let u = to_z w128 (of_z w128 c.in-Some-Some.sum) in
    let there : k < length zs = omega (arith, c.self.inside.coefficients.ok.0) in
    numbers_added c.args.self.now zs (set zs k u) (set zs k u) c.self.inside.side c.args.factor c.args.bound (to_z w128 (of_z w128 c.in-Some-Some.side)) (upper_row_at k c.args.bound) c.self.view_is refl refl
    (term_added zs c.args.factor k (whole (pos 1)) (pos 1) c.index-own.result.now u c.self.invariant.0 there c.index-own.ensures refl (with_one (goal.at.returns-in-Some-Some-clause-upper c).After-index_mut))
    (with_side (goal.at.returns-in-Some-Some-clause-upper c).After-index_mut)
