use Rattle.std.proofs.Common.{◌≡◌, ◌≢◌, ◌<◌, ◌+◌, arith, get_or, get_or-set_other, get_or-set_same, set, refl, Some, ap, length, rules, sym, subst, ◌∙◌, pos, ◌<ℤ◌, w64, to_z, of_z}
use mir.Val.{SFits}
use Rattle.std.specs.Vec.{with_items}
use Rattle.tableau.specs.Pivot.{pivoted}
use Rattle.std.proofs.lemmas.Int.{to_z-of_z}
use Rattle.integer_tableau.proofs.FromCode.{carried}
use Rattle.std.proofs.lemmas.List.{get_or_default}
use Rattle.integer_tableau.proofs.Exchanges.{nonbasic_values_exchanged, positions_exchanged}
use Rattle.integer_tableau.specs.Numbers.{number_at}
use Rattle.integer_tableau.specs.RowSums.{AreRowSums}
use Rattle.integer_tableau.specs.declared.position.Position.TheVariants.{InBasis, InColumn}
use Rattle.integer_tableau.proofs.Sizes.{written}
use Rattle.integer_tableau.specs.BasicColumns.{basic_from}
use Rattle.integer_tableau.specs.Combined.{IsCompact, expanded}
use Rattle.integer_tableau.specs.IntegerTableau.{IntegerTableau, of_parts, tableau_of}
use Rattle.integer_tableau.specs.Positions.{AreNonbasic}
use Rattle.integer_tableau.specs.Running.{running_parts, running_view}
use Rattle.integer_tableau.proofs.running_tableau.RunningTableau.turn.Goals as goal
use Rattle.integer_tableau.proofs.running_tableau.RunningTableau.turn.Goals.{After-turn_kept_sums}

-- the parts after the turn
module _ (c : After-turn_kept_sums) where
  abbrev new_parts : IntegerTableau
  new_parts =
      let n = c.args.self.now in
      let m = c.pivot_parts.new in
      of_parts n.fixed.bounds.items (with_items n.positions m.positions).items (with_items n.at_upper m.at_upper).items (with_items n.nonbasic_values m.nonbasic_values).items
      (with_items n.rows m.rows).items m.reduced_costs (with_items n.values m.values).items (to_z w64 (of_z w64 c.in-Some.denominator)) (n.pivots + 1)

  made : (pivoted c.args.leaving c.args.entering (running_view c.args.self.now)
      ≡ Some (tableau_of (length new_parts.rows) c.args.self.now.fixed.numbers.items (expanded c.args.self.now.fixed.rows.items.value.items new_parts)))
      × IsCompact c.args.self.now.fixed.rows.items.value.items c.args.self.now.fixed.weight c.args.self.now.fixed.reach new_parts
  made =
      let f : SFits w64 c.in-Some.denominator = search rules in
      let e = to_z-of_z w64 c.in-Some.denominator f in
      let n = c.args.self.now in
      let fd : SFits w64 n.denominator = search rules in
      let d = to_z-of_z w64 n.denominator fd in
      let m = c.pivot_parts.new in
      carried n.fixed.numbers.items c.deref-2.result.now n.fixed.rows.items.value.items n.fixed.weight n.fixed.reach c.args.leaving c.args.entering
      (of_parts c.deref.result.now c.deref_mut.result.now c.deref_mut-3.result.now c.deref_mut-4.result.now c.deref_mut-5.result.now n.reduced_costs c.deref_mut-6.result.now (to_z w64 (of_z w64 n.denominator)) n.pivots)
      (running_parts n)
      (of_parts c.deref.result.now m.positions m.at_upper m.nonbasic_values m.rows m.reduced_costs m.values c.in-Some.denominator (n.pivots + 1))
      _
      (running_view n)
      c.deref-2.ensures.value
      (λ i. of_parts (c.deref.ensures.value i) (c.deref_mut.ensures.value i) (c.deref_mut-3.ensures.value i) (c.deref_mut-4.ensures.value i) (c.deref_mut-5.ensures.value i) n.reduced_costs (c.deref_mut-6.ensures.value i) (d i) n.pivots)
      (λ i. of_parts (c.deref.ensures.value i)
      (sym (written m.positions n.positions.items n.positions.len (c.pivot_parts.auto.positions ∙ c.deref_mut.ensures.len)) i)
      (sym (written m.at_upper n.at_upper.items n.at_upper.len (c.pivot_parts.auto.at_upper ∙ c.deref_mut-3.ensures.len)) i)
      (sym (written m.nonbasic_values n.nonbasic_values.items n.nonbasic_values.len (c.pivot_parts.auto.nonbasic_values ∙ c.deref_mut-4.ensures.len)) i)
      (sym (written m.rows n.rows.items n.rows.len (c.pivot_parts.auto.rows ∙ c.deref_mut-5.ensures.len)) i)
      m.reduced_costs
      (sym (written m.values n.values.items n.values.len (c.pivot_parts.auto.values ∙ c.deref_mut-6.ensures.len)) i)
      (sym e i) (n.pivots + 1))
      refl c.in-Some.ensures.pivoted.0

pub returns-clause-value : goal.returns-clause-value
returns-clause-value c = λ _. (made (goal.at.returns-clause-value c).After-turn_kept_sums).0

pub returns-clause-running : goal.returns-clause-running
returns-clause-running c = λ _.
    let f : SFits w64 c.in-Some.denominator = search rules in
    let e = to_z-of_z w64 c.in-Some.denominator f in
    let n = c.args.self.now in
    let m = c.pivot_parts.new in
    let positions_are = written m.positions n.positions.items n.positions.len (c.pivot_parts.auto.positions ∙ c.deref_mut.ensures.len) in
    let nonbasic_are = written m.nonbasic n.nonbasic.items n.nonbasic.len (c.pivot_parts.auto.nonbasic ∙ c.deref_mut-2.ensures.len) in
    let rows_are = written m.rows n.rows.items n.rows.len (c.pivot_parts.auto.rows ∙ c.deref_mut-5.ensures.len) in
    record {
      compact = (made (goal.at.returns-clause-running c).After-turn_kept_sums).1;
      positive = subst (λ z. pos 0 <ℤ z) (sym e) c.in-Some.ensures.pivoted.1;
      nonbasic = subst (λ (T : Type 0). T) (λ i. AreNonbasic (sym positions_are i) (sym nonbasic_are i)) c.in-Some.ensures.nonbasic;
      columns = ap length nonbasic_are ∙ c.pivot_parts.auto.nonbasic ∙ ap length c.deref_mut-2.ensures.value ∙ c.requires.running.columns
          ∙ sym (ap length rows_are ∙ c.pivot_parts.auto.rows ∙ ap length c.deref_mut-5.ensures.value);
      basic = c.in-Some.ensures.basic ∙ (λ i. basic_from 0 (length (sym rows_are i)) (sym positions_are i));
    }

pub returns-clause-sums : goal.returns-clause-sums
returns-clause-sums c = λ _.
    let n = c.args.self.now in
    let m = c.pivot_parts.new in
    let x = c.in-Some.ensures.exchanged in
    let ps = n.fixed.rows.items.value.items in
    let ss = n.positions.items in
    let xs = n.nonbasic_values.items in
    let r = c.args.leaving in
    let e = c.args.entering in
    let fl : SFits w64 c.index-left.result.now = search rules in
    let fb : SFits w64 c.index-bound.result.now = search rules in
    let many : length xs ≡ length ss = c.requires.running.compact.consistent.nonbasic_values in
    let leaving : get_or ss r InBasis ≡ InBasis = subst (λ ss. get_or ss r InBasis ≡ InBasis) c.deref_mut.ensures.value x.leaving in
    let entering : get_or ss e InBasis ≡ InColumn x.column = subst (λ ss. get_or ss e InBasis ≡ InColumn x.column) c.deref_mut.ensures.value x.entering in
    let apart : r ≢ e = λ q. let no : InBasis ≡ InColumn x.column = sym leaving ∙ ap (λ v. get_or ss v InBasis) q ∙ entering in cc in
    let positions_are = written m.positions ss n.positions.len (c.pivot_parts.auto.positions ∙ c.deref_mut.ensures.len) ∙ x.positions ∙ ap (positions_exchanged r e x.column) c.deref_mut.ensures.value in
    let values_are = written m.nonbasic_values xs n.nonbasic_values.len (c.pivot_parts.auto.nonbasic_values ∙ c.deref_mut-4.ensures.len) ∙ x.values
    ∙ ap (nonbasic_values_exchanged r e x.bound) c.deref_mut-4.ensures.value in
    let there : r < length xs = omega (arith, many, c.requires.leaving_there) in
    let left : number_at xs e ≡ to_z w64 (of_z w64 c.index-left.result.now) =
    sym (to_z-of_z w64 c.index-left.result.now fl ∙ c.index-left.ensures ∙ get_or_default xs e c.index-left.result.now (pos 0) (omega (arith, many, c.requires.entering_there))) in
    let bound : to_z w64 (of_z w64 c.index-bound.result.now) ≡ x.bound =
    to_z-of_z w64 c.index-bound.result.now fb ∙ c.index-bound.ensures ∙ ap (λ ys. get_or ys r c.index-bound.result.now) values_are
    ∙ get_or-set_other (set xs r x.bound) e r (pos 0) c.index-bound.result.now apart ∙ get_or-set_same xs r x.bound c.index-bound.result.now there in
    subst (λ (T : Type 0). T) (λ i. AreRowSums ps (sym positions_are i) ((ap (λ b. nonbasic_values_exchanged r e b xs) bound ∙ sym values_are) i) c.turn_kept_sums.new.row_sums.items)
    (c.turn_kept_sums.ensures ps ss xs x.column x.column c.requires.columns c.requires.sums many c.requires.leaving_there c.requires.entering_there leaving entering left)
