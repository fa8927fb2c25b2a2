use Rattle.std.proofs.Common.{◌≡◌, ◌∙◌, ℕ, ap, nat_abs, refl, rules, subst, sym, get_or, filter, length, Bool, false, None, w64, arith}
use mir.Val.{SFits}
use Rattle.std.proofs.lemmas.Int.{to_z-of_z}
use Rattle.integer_tableau.proofs.DroppedColumns.{of_another, one_more, stays, still_great}
use Rattle.integer_tableau.proofs.EnteringByColumn.{best_enters, column_more, none_enters}
use Rattle.integer_tableau.specs.Exits.{column_candidate, is_behind, is_between, variable_enters}
use Rattle.integer_tableau.specs.Numbers.{number_at}
use Rattle.integer_tableau.specs.RankedColumns.{AreRanked}
use Rattle.integer_tableau.proofs.column_ranking.rank_to_best.Goals as goal

pub loop-column-preserved : goal.loop-column-preserved
loop-column-preserved c =
    let a = c.args in
    let k = c.loop-column.column in
    let v = get_or a.nonbasic.now k 0 in
    let d = number_at a.reduced_costs.now k in
    let t = number_at a.row.now k in
    let fd : SFits w64 d = search rules in
    let ft : SFits w64 t = search rules in
    let zd = to_z-of_z w64 d fd in
    let zt = to_z-of_z w64 t ft in
    let h = c.requires.nonbasic_are in
    let best = c.loop-column.best in
    let before = c.loop-column.invariant in
    record {
      first = λ ss are many. column_more a.direction ss a.at_upper.now a.bounds.now a.reduced_costs.now a.row.now a.nonbasic.now are many (c.requires.bounds_there ∙ many)
          k _ _ (get_or a.at_upper.now v false) (get_or a.bounds.now v (record { lower = None; upper = None })) _ _ c.loop-column-test.true refl refl
          zd zt c.in_ok-best.ensures.value (before.first ss are many);
      great = still_great best _ before.great c.in_ok-best.ensures.better;
      ranked = one_more a.nonbasic.now a.reduced_costs.now a.row.now a.last k v _ _ refl zd zt best before.great
          (of_another a.direction h.0 a.at_upper.now a.bounds.now a.reduced_costs.now a.row.now a.nonbasic.now h.1 k c.loop-column-test.true best (before.first h.0 h.1 h.2))
          _ c.in_ok-best.ensures.better c.loop-column.columns.items _ c.in_ok-best.ensures.columns before.ranked;
    }

pub returns-then-best-eq0-clause-none : goal.returns-then-best-eq0-clause-none
returns-then-best-eq0-clause-none c = λ e ss are many.
    let a = c.args in
    sym (none_enters a.direction ss a.at_upper.now a.bounds.now a.reduced_costs.now a.row.now a.nonbasic.now are many (c.requires.bounds_there ∙ many)
    c.loop-column.column c.loop-column.best c.loop-column-test.false c.loop-column.auto.column-end (c.loop-column.invariant.first ss are many) c.if-best-eq0.true)

pub returns-clause-some : goal.returns-clause-some
returns-clause-some c = λ e.
    let a = c.args in
    let best = c.loop-column.best in
    let ns = a.nonbasic.now in
    let wanted : ℕ → Bool = λ k. is_between a.last best (column_candidate ns a.reduced_costs.now a.row.now k) in
    let all : c.loop-column.column ≡ length ns = omega (arith, c.loop-column-test.false, c.loop-column.auto.column-end) in (
      best,
      λ ss are many. sym (best_enters a.direction ss a.at_upper.now a.bounds.now a.reduced_costs.now a.row.now ns are many (c.requires.bounds_there ∙ many)
          c.loop-column.column best c.loop-column-test.false c.loop-column.auto.column-end (c.loop-column.invariant.first ss are many) c.if-best-eq0.false),
      subst (AreRanked ns a.reduced_costs.now a.row.now wanted (length ns)) (sym c.drop_behind.ensures)
          (subst (λ n. AreRanked ns a.reduced_costs.now a.row.now wanted n (filter (stays best) c.loop-column.columns.items)) all c.loop-column.invariant.ranked),
    )

pub with_column-requires-clause-noted : goal.with_column-requires-clause-noted
with_column-requires-clause-noted c = λ e.
    let a = c.args in
    let k = c.loop-column.column in
    let v = get_or a.nonbasic.now k 0 in
    let d = number_at a.reduced_costs.now k in
    let t = number_at a.row.now k in
    let fd : SFits w64 d = search rules in
    let ft : SFits w64 t = search rules in
    let zd = to_z-of_z w64 d fd in
    let zt = to_z-of_z w64 t ft in
    ap (variable_enters a.direction a.at_upper.now a.bounds.now v) zt
    ∙ c.requires.noted k c.loop-column-test.true (sym (λ i. is_behind a.last record { variable = v; reduced_cost = nat_abs (zd i); coefficient = nat_abs (zt i) }) ∙ e)
