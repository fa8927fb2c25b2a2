use Rattle.std.proofs.Common.{◌≡◌, ◌∙◌, true, ap, sym, inr, nat_abs, w64, false, get_or, None}
use Rattle.std.proofs.lemmas.Int.{to_z-of_z}
use Rattle.integer_tableau.proofs.Candidates.{still_best_by_order}
use Rattle.integer_tableau.specs.Entering.{comes_first}
use Rattle.integer_tableau.specs.Exits.{is_behind}
use Rattle.integer_tableau.specs.IntegerTableau.{fraction_bounds}
use Rattle.integer_tableau.specs.RankedColumns.{IsWithColumn}
use Rattle.integer_tableau.proofs.column_ranking.with_column.Goals as goal
use Rattle.integer_tableau.proofs.column_ranking.with_column.Goals.{In_ok-push}

pub returns-then-not-comes_first-clause-value : goal.returns-then-not-comes_first-clause-value
returns-then-not-comes_first-clause-value c =
    let a = c.args in
    let u = get_or a.at_upper.now a.variable false in
    let b = fraction_bounds (get_or a.bounds.now a.variable (record { lower = None; upper = None })) in
    still_best_by_order a.variable a.direction u b a.reduced_cost a.coefficient a.best _ _ (c.unsigned_abs.ensures.value ∙ ap nat_abs (to_z-of_z w64 a.reduced_cost c.ranges.reduced_cost))
    (c.unsigned_abs-2.ensures.value ∙ ap nat_abs (to_z-of_z w64 a.coefficient c.ranges.coefficient)) c.requires.great (sym c.comes_first.ensures ∙ c.if-not-comes_first.true)

-- the column comes before the best so far, and behind the last candidate
taken : (c : In_ok-push)
    → (comes_first record { variable = c.args.variable; reduced_cost = nat_abs c.args.reduced_cost; coefficient = nat_abs c.args.coefficient } c.args.best ≡ true)
    × IsWithColumn c.args.column c.args.variable c.args.reduced_cost c.args.coefficient c.args.last c.args.columns.now.items c.push.new.self.items
taken c =
    let a = c.args in
    let is = c.in-Some.ensures.some in
    let zd = to_z-of_z w64 a.reduced_cost c.ranges.reduced_cost in
    let zt = to_z-of_z w64 a.coefficient c.ranges.coefficient in
    let cost = c.unsigned_abs.ensures.value ∙ ap nat_abs zd in
    let size = c.unsigned_abs-2.ensures.value ∙ ap nat_abs zt in (
      sym (λ i. comes_first record { variable = a.variable; reduced_cost = cost i; coefficient = size i } a.best) ∙ sym c.comes_first.ensures ∙ c.if-not-comes_first.false,
      inr (
        c.in-Some.ranked,
        c.in_ok-push.ensures.items,
        is.0,
        is.1,
        is.2 ∙ ap nat_abs zd,
        is.3 ∙ zt,
        sym (λ i. is_behind a.last record { variable = a.variable; reduced_cost = nat_abs (zd i); coefficient = nat_abs (zt i) }) ∙ c.in-Some.ensures.wanted,
      ),
    )

pub returns-then-may_enter-clause-columns : goal.returns-then-may_enter-clause-columns
returns-then-may_enter-clause-columns c = inr (taken (goal.at.returns-then-may_enter-clause-columns c).In_ok-push)

pub returns-else-may_enter-clause-columns : goal.returns-else-may_enter-clause-columns
returns-else-may_enter-clause-columns c = inr (taken (goal.at.returns-else-may_enter-clause-columns c).In_ok-push)
