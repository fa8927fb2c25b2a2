use Rattle.std.proofs.Common.{◌≡◌, ◌<◌, ◌^◌, ◌∙◌, ap, arith, length, pos, subst, sym}
use Rattle.std.specs.Prelude.{nat_abs, ◌<ℤ◌}
use Rattle.integer_tableau.proofs.Loops.{back64}
use Rattle.integer_tableau.specs.BasicColumns.{basic_from}
use Rattle.integer_tableau.specs.Combined.{IsCompact, expanded}
use Rattle.integer_tableau.specs.IntegerTableau.{of_parts, tableau_of}
use Rattle.integer_tableau.specs.Positions.{AreNonbasic}
use Rattle.integer_tableau.proofs.SameBasis.{same_sums}
use Rattle.integer_tableau.specs.RowSums.{AreRowSums}
use Rattle.integer_tableau.proofs.basic_solution.BasicSolution.into_running.Goals as goal

carried_back : (A B : Type 0) → A ≡ B → B → A
carried_back A B e b = subst (λ (T : Type 0). T) (sym e) b

pub returns-clause-running : goal.returns-clause-running
returns-clause-running c =
    let n = c.args.self in
    let own = c.in_ok-own.ensures in
    let kept = c.requires.kept.1 in
    let small : nat_abs c.number.result < 2 ^ 63 = omega (arith, ap nat_abs c.number.ensures, c.divisor.result.small) in
    let denominator = back64 c.number.result small ∙ c.number.ensures ∙ c.divisor.ensures in
    record {
      compact = carried_back _ _
          (λ i. IsCompact (own.1 i) c.args.weight n.reach (of_parts n.bounds.items (own.2 i) n.at_upper.items n.nonbasic_values.items (own.4 i) (own.5 i) n.values.items (denominator i) n.pivots)) c.requires.at.compact;
      positive = carried_back _ _ (λ i. pos 0 <ℤ denominator i) kept.positive;
      nonbasic = carried_back _ _ (λ i. AreNonbasic (own.2 i) (own.3 i)) kept.nonbasic;
      columns = carried_back _ _ (λ i. length (own.3 i) ≡ length (own.4 i)) kept.columns;
      basic = carried_back _ _ (λ i. own.6 i ≡ basic_from 0 (length (own.4 i)) (own.2 i)) kept.basic;
    }

pub returns-clause-rows : goal.returns-clause-rows
returns-clause-rows c = c.in_ok-own.ensures.1

pub returns-clause-sums : goal.returns-clause-sums
returns-clause-sums c =
    let n = c.args.self in
    let own = c.in_ok-own.ensures in
    carried_back _ _ (λ i. AreRowSums (own.1 i) (own.2 i) n.nonbasic_values.items n.row_sums.items)
    (same_sums _ n.positions.items _ n.nonbasic_values.items n.row_sums.items c.requires.at.basis c.requires.at.sums)

pub returns-clause-view : goal.returns-clause-view
returns-clause-view c =
    let n = c.args.self in
    let own = c.in_ok-own.ensures in
    let small : nat_abs c.number.result < 2 ^ 63 = omega (arith, ap nat_abs c.number.ensures, c.divisor.result.small) in
    let denominator = back64 c.number.result small ∙ c.number.ensures ∙ c.divisor.ensures in
    (λ i. tableau_of (length (own.4 i)) (own.0 i)
    (expanded (own.1 i) (of_parts n.bounds.items (own.2 i) n.at_upper.items n.nonbasic_values.items (own.4 i) (own.5 i) n.values.items (denominator i) n.pivots)))
