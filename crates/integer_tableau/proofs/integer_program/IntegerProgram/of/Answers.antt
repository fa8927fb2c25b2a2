use Rattle.std.proofs.Common.{◌≡◌, ◌<◌, ◌≤◌, ◌-◌, ℕ, [], ap, arith, get_or, length, map, sym, subst, ◌∙◌}
use Rattle.std.proofs.lemmas.List.{length-map}
use Rattle.fraction.specs.Rational.{whole}
use Rattle.integer_tableau.proofs.Programs.{program_is_integral}
use Rattle.integer_tableau.specs.IntegerTableau.{fraction_bounds}
use Rattle.integer_tableau.specs.Numbers.{IsWithin, total_size}
use Rattle.integer_tableau.specs.Range.{size_limit}
use Rattle.tableau.specs.WellFormed.{IsIntegral}
use Rattle.integer_tableau.proofs.integer_program.IntegerProgram.of.Goals as goal

pub returns-clause-value : goal.returns-clause-value
returns-clause-value c =
    let p = c.args.program.now in
    let rows : map (map whole) c.in_ok-rows-2.rows.items.value.items ≡ p.rows = ap (map (map whole)) c.in_ok-rows-2.ensures ∙ (rw c.in-Some-2.is at c.in_ok-rows.ensures.value) in
    let costs : map whole c.in-Some.costs ≡ p.costs = rw c.in-Some.is at c.in_ok-costs.ensures in
    let bounds : map fraction_bounds c.in-Some-3.bounds.items ≡ p.bounds = (rw c.in-Some-3.is at c.in_ok-bounds.ensures) ∙ c.bounds.ensures.value in
    let numbers : c.in_ok-numbers.numbers.items ≡ p.numbers = c.in_ok-numbers.ensures.items ∙ c.numbers.ensures.value in
    c.from_parts.ensures ∙ (λ i. record { rows = rows i; costs = costs i; bounds = bounds i; numbers = numbers i })

pub returns-clause-integral : goal.returns-clause-integral
returns-clause-integral c =
    subst IsIntegral (sym c.from_parts.ensures) (program_is_integral c.in_ok-rows-2.rows.items.value.items c.in-Some.costs c.in-Some-3.bounds.items c.in_ok-numbers.numbers.items)

pub from_parts-requires : goal.from_parts-requires
from_parts-requires c =
    let p = c.args.program.now in
    let rows = c.in-Some-2.rows.items in
    let costs = c.in-Some.costs in
    let w = c.in-Some-small_weight.ensures in
    let same : c.in_ok-rows-2.rows.items.value.items ≡ rows = c.in_ok-rows-2.ensures in
    let seen : c.deref.result.now ≡ c.in_ok-rows-2.rows.items.value.items = c.deref.ensures.value ∙ sym same in
    let rows_are : map (map whole) rows ≡ p.rows = rw c.in-Some-2.is at c.in_ok-rows.ensures.value in
    let full : (i : ℕ) → i < length rows → length (get_or rows i []) ≡ length p.costs = rw c.in-Some-2.is at c.in_ok-rows.ensures.width in
    let bounds_are : map fraction_bounds c.in-Some-3.bounds.items ≡ c.bounds.result.now = rw c.in-Some-3.is at c.in_ok-bounds.ensures in
    let costs_are : map whole costs ≡ p.costs = rw c.in-Some.is at c.in_ok-costs.ensures in
    let width : length costs ≡ length p.costs = sym (length-map costs whole) ∙ ap length costs_are in
    record {
      rows_full = λ i l. (subst (λ rs. (i : ℕ) → i < length rs → length (get_or rs i []) ≡ length p.costs) (sym same) full) i l ∙ sym width;
      bounds_there = omega (arith, ap length bounds_are, length-map c.in-Some-3.bounds.items fraction_bounds, c.bounds.ensures.count, width, ap length rows_are, length-map rows (map whole), ap length same);
      rows_within = subst (λ rs. (i : ℕ) → i < length rs → IsWithin (size_limit - 1) (get_or rs i [])) seen w.rows_within;
      costs_within = w.costs_within;
      weights = subst (λ rs. (i : ℕ) → i < length rs → total_size (get_or rs i []) ≤ c.in-Some-small_weight.weight) seen w.weights;
      light = w.small;
    }
