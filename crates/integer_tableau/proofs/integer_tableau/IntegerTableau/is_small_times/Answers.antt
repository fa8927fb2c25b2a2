use Rattle.std.proofs.Common.{◌≡◌, ◌*◌, ℕ, List, get_or, max, nat_abs, rules, subst, sym, w64, to_z, of_z}
use mir.Val.{SFits}
use Rattle.std.proofs.lemmas.Int.{to_z-of_z}
use Rattle.integer_tableau.specs.IntegerTableau.{IntegerTableau, of_parts}
use Rattle.integer_tableau.specs.Positions.{IsColumnOf}
use Rattle.integer_tableau.specs.declared.position.Position.{Position}
use Rattle.integer_tableau.specs.declared.position.Position.TheVariants.{InBasis, InColumn}
use Rattle.integer_tableau.specs.Small.{AreNumbersWithin, IsKept, IsSmallTimes}
use Rattle.integer_tableau.proofs.ListedRows.{compact_has_rows}
use Rattle.integer_tableau.proofs.SmallTimes.{by_weight, is_small_times}
use Rattle.integer_tableau.proofs.integer_tableau.IntegerTableau.is_small_times.Goals as goal

transported : {A B : Type 0} → A ≡ B → A → B
transported e a = subst (λ X. X) e a

pub are_small_by_weight-requires : goal.are_small_by_weight-requires
are_small_by_weight-requires c = compact_has_rows _ _ _ _ c.self.invariant.0 c.self.inside.basic_columns.items _ _ c.deref-2.ensures.value c.self.invariant.4 c.deref.ensures.value

pub limit_by_each-requires-clause-listed : goal.limit_by_each-requires-clause-listed
limit_by_each-requires-clause-listed c = compact_has_rows _ _ _ _ c.self.invariant.0 c.self.inside.basic_columns.items _ _ c.deref-6.ensures.value c.self.invariant.4 c.deref-5.ensures.value

pub limit_by_each-requires-clause-apart : goal.limit_by_each-requires-clause-apart
limit_by_each-requires-clause-apart c =
    subst (λ (ss : List Position). (v k : ℕ) → get_or ss v InBasis ≡ InColumn k → IsColumnOf ss v k) (sym c.deref-4.ensures.value) c.self.invariant.0.consistent.alone

pub returns-in-Some : goal.returns-in-Some
returns-in-Some c = λ small.
    let n = c.self.inside in
    let f : SFits w64 n.denominator = search rules in
    let is = to_z-of_z w64 n.denominator f in
    let w : IntegerTableau = of_parts n.fixed.bounds.items n.positions.items n.at_upper.items n.nonbasic_values.items n.rows.items n.reduced_costs n.values.items n.denominator n.pivots in
    subst (IsSmallTimes c.args.times) c.self.view_is
    (is_small_times n.fixed.numbers.items n.fixed.rows.items.value.items n.fixed.weight n.fixed.reach w c.self.invariant.0 c.in-Some.limit c.args.times (c.is_small_times.ensures small)
    (subst (λ z. AreNumbersWithin c.in-Some.limit (nat_abs z) n.fixed.rows.items.value.items n.positions.items n.rows.items n.reduced_costs) is
    (transported (λ i. AreNumbersWithin c.in-Some.limit (nat_abs (to_z w64 (of_z w64 n.denominator))) (c.deref-3.ensures.value i) (c.deref-4.ensures.value i) (c.deref-5.ensures.value i) n.reduced_costs) c.in-Some.ensures)))

pub returns-then-are_small_by_weight : goal.returns-then-are_small_by_weight
returns-then-are_small_by_weight c = λ ok.
    let n = c.self.inside in
    let f : SFits w64 n.denominator = search rules in
    let is = to_z-of_z w64 n.denominator f in
    let w : IntegerTableau = of_parts n.fixed.bounds.items n.positions.items n.at_upper.items n.nonbasic_values.items n.rows.items n.reduced_costs n.values.items n.denominator n.pivots in
    let x = c.if-are_small_by_weight.ensures ok in
    let k : IsKept x.0 (nat_abs n.denominator) n.rows.items n.reduced_costs =
    subst (λ z. IsKept x.0 (nat_abs z) n.rows.items n.reduced_costs) is
    (transported (λ i. IsKept x.0 (nat_abs (to_z w64 (of_z w64 n.denominator))) (c.deref.ensures.value i) n.reduced_costs) x.1) in
    subst (IsSmallTimes c.args.times) c.self.view_is
    (is_small_times n.fixed.numbers.items n.fixed.rows.items.value.items n.fixed.weight n.fixed.reach w c.self.invariant.0 (max n.fixed.weight 1 * x.0) c.args.times x.2
    (by_weight n.fixed.weight x.0 (nat_abs n.denominator) n.fixed.rows.items.value.items n.positions.items n.rows.items n.reduced_costs c.self.invariant.0.weights k))
