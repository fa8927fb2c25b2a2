use Rattle.std.proofs.Common.{ℕ, ◌<◌, [], ◌∷◌, ◌∙◌, pos, length, get_or, map, ap, sym, subst, arith, rules}
use Rattle.std.specs.Int.{w64, w128}
use Rattle.std.proofs.lemmas.Int.{to_z-of_z}
use Rattle.std.proofs.lemmas.List.{get_or_default}
use Rattle.std.proofs.lemmas.List.Elements.{All-set}
use mir.Val.{SFits, to_z, of_z}
use Rattle.fraction.specs.Rational.{whole}
use Rattle.fraction.specs.Lemmas.Whole.{narrow_integer_is}
use Rattle.derivation_book.specs.Adding.{columns_added}
use Rattle.derivation_book.specs.IntegerSums.{FitsInteger}
use Rattle.derivation_book.proofs.Numerators.{product_added, term_added}
use Rattle.derivation_book.proofs.integer_sums.add_term.Goals as goal

pub returns-in-Some-with_product-clause-added : goal.returns-in-Some-with_product-clause-added
returns-in-Some-with_product-clause-added c = λ t.
    let zs = c.args.sums.now in
    let k = c.column-column.result in
    let a = c.args.term.now.1 in
    let n = c.in-Some.number in
    let z = get_or zs k (pos 0) in
    let s = c.in-Some-with_product.sum in
    let n_fits : SFits w64 n = search rules in
    let z_fits : SFits w128 z = search rules in
    let s_fits : SFits w128 s = search rules in
    let there : k < length zs = omega arith in
    ap (λ (j : ℕ). columns_added (map whole zs) 0 (whole c.args.factor) ((j, a) ∷ [])) (sym c.column-column.ensures)
    ∙ term_added zs c.args.factor k a n z (to_z w128 (of_z w128 s)) c.requires there (get_or_default zs k (pos 0) z there) (narrow_integer_is a n c.in-Some.ensures)
    (product_added z (to_z w128 (of_z w128 z)) c.args.factor (to_z w64 (of_z w64 c.args.factor)) n (to_z w64 (of_z w64 n)) (to_z w128 (of_z w128 s)) s (to_z-of_z w128 z z_fits) (to_z-of_z w64 c.args.factor c.ranges.factor)
    (to_z-of_z w64 n n_fits) (sym (to_z-of_z w128 s s_fits)) c.in-Some-with_product.ensures.value)

pub returns-in-Some-with_product-clause-held : goal.returns-in-Some-with_product-clause-held
returns-in-Some-with_product-clause-held c =
    let s = c.in-Some-with_product.sum in
    let s_fits : SFits w128 s = search rules in
    All-set FitsInteger c.args.sums.now c.column-column.result (to_z w128 (of_z w128 s)) (subst FitsInteger (sym (to_z-of_z w128 s s_fits)) c.in-Some-with_product.ensures.fits) c.requires
