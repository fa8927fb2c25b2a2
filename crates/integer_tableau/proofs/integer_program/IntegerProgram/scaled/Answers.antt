use Rattle.std.proofs.Common.{◌≡◌, ◌<◌, ◌≤◌, ◌-◌, ℕ, [], get_or, length, map, ap, arith, sym, subst, ◌∙◌}
use Rattle.std.proofs.lemmas.List.{length-map}
use Rattle.fraction.specs.Rational.{whole}
use Rattle.integer_tableau.specs.Numbers.{IsWithin, total_size}
use Rattle.integer_tableau.specs.Range.{size_limit}
use Rattle.integer_tableau.specs.Scales.{AreScaledBounds, AreScaledRows, scale_at, scaled_by, unscaled_program}
use Rattle.integer_tableau.proofs.ScaledPrograms.{program_is}
use Rattle.integer_tableau.proofs.integer_program.IntegerProgram.scaled.Goals as goal

pub returns : goal.returns
returns c =
    let p = c.args.program.now in
    let scales = c.args.scales.now in
    let rows = c.in-Some-2.rows.items in
    let bounds = c.in-Some-3.bounds.items in
    let same : c.in_ok-rows-2.rows.items.value.items ≡ rows = c.in_ok-rows-2.ensures in
    let er : length rows ≡ length p.rows = rw c.in-Some-2.is at c.in_ok-rows.ensures.count in
    let hr : AreScaledRows scales rows p.rows = rw c.in-Some-2.is at c.in_ok-rows.ensures.value in
    let w : (i : ℕ) → i < length rows → length (get_or rows i []) ≡ length p.costs = rw c.in-Some-2.is at c.in_ok-rows.ensures.width in
    let eb : length bounds ≡ length p.bounds = (rw c.in-Some-3.is at c.in_ok-bounds.ensures.count) ∙ ap length c.bounds.ensures.value in
    let hb : AreScaledBounds (length p.costs) scales bounds p.bounds =
    subst (λ bs. AreScaledBounds (length p.costs) scales bounds bs) c.bounds.ensures.value (subst (λ n. AreScaledBounds n scales bounds c.bounds.result.now) c.columns.ensures (rw c.in-Some-3.is at c.in_ok-bounds.ensures.value)) in
    let ec : map (λ z. scaled_by 1 c.args.cost_scale (whole z)) c.in-Some.costs ≡ p.costs = rw c.in-Some.is at c.in_ok-costs.ensures in
    let en : c.in_ok-numbers.numbers.items ≡ p.numbers = c.in_ok-numbers.ensures.items ∙ c.numbers.ensures.value in
    subst (λ q. unscaled_program (scale_at (length q.costs) scales) c.args.cost_scale q ≡ p) (sym c.from_parts.ensures)
    (program_is scales c.args.cost_scale c.in_ok-rows-2.rows.items.value.items c.in-Some.costs bounds c.in_ok-numbers.numbers.items p
    ec (ap length same ∙ er) (subst (λ rs. AreScaledRows scales rs p.rows) (sym same) hr)
    (subst (λ rs. (i : ℕ) → i < length rs → length (get_or rs i []) ≡ length p.costs) (sym same) w) eb hb en)

pub from_parts-requires : goal.from_parts-requires
from_parts-requires c =
    let p = c.args.program.now in
    let rows = c.in-Some-2.rows.items in
    let costs = c.in-Some.costs in
    let w = c.in-Some-small_weight.ensures in
    let same : c.in_ok-rows-2.rows.items.value.items ≡ rows = c.in_ok-rows-2.ensures in
    let seen : c.deref.result.now ≡ c.in_ok-rows-2.rows.items.value.items = c.deref.ensures.value ∙ sym same in
    let many : length rows ≡ length p.rows = rw c.in-Some-2.is at c.in_ok-rows.ensures.count in
    let full : (i : ℕ) → i < length rows → length (get_or rows i []) ≡ length p.costs = rw c.in-Some-2.is at c.in_ok-rows.ensures.width in
    let bounds_many : length c.in-Some-3.bounds.items ≡ length c.bounds.result.now = rw c.in-Some-3.is at c.in_ok-bounds.ensures.count in
    let costs_are : map (λ z. scaled_by 1 c.args.cost_scale (whole z)) costs ≡ p.costs = rw c.in-Some.is at c.in_ok-costs.ensures in
    let width : length costs ≡ length p.costs = sym (length-map costs (λ z. scaled_by 1 c.args.cost_scale (whole z))) ∙ ap length costs_are in
    record {
      rows_full = λ i l. (subst (λ rs. (i : ℕ) → i < length rs → length (get_or rs i []) ≡ length p.costs) (sym same) full) i l ∙ sym width;
      bounds_there = omega (arith, bounds_many, c.bounds.ensures.count, width, many, ap length same);
      rows_within = subst (λ rs. (i : ℕ) → i < length rs → IsWithin (size_limit - 1) (get_or rs i [])) seen w.rows_within;
      costs_within = w.costs_within;
      weights = subst (λ rs. (i : ℕ) → i < length rs → total_size (get_or rs i []) ≤ c.in-Some-small_weight.weight) seen w.weights;
      light = w.small;
    }

pub all_scaled_bounds-requires-clause-there : goal.all_scaled_bounds-requires-clause-there
all_scaled_bounds-requires-clause-there c = omega (arith, c.bounds.ensures.count, c.columns.ensures, c.requires.there)
