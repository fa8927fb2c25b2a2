use Rattle.std.proofs.Common.{◌∙◌, refl, rules, get_or, false, None, w64, arith}
use mir.Val.{SFits}
use Rattle.std.proofs.lemmas.Int.{to_z-of_z}
use Rattle.integer_tableau.proofs.EnteringByColumn.{best_enters, best_within, column_more, none_enters, variable_there}
use Rattle.integer_tableau.specs.Numbers.{number_at}
use Rattle.integer_tableau.proofs.entering.entering.Goals as goal

pub loop-column-preserved : goal.loop-column-preserved
loop-column-preserved c =
    let a = c.args in
    let k = c.loop-column.column in
    let v = get_or a.nonbasic.now k 0 in
    let d = number_at a.reduced_costs.now k in
    let t = number_at a.row.now k in
    let fd : SFits w64 d = search rules in
    let ft : SFits w64 t = search rules in
    record {
      first = λ ss are many. column_more a.direction ss a.at_upper.now a.bounds.now a.reduced_costs.now a.row.now a.nonbasic.now are many (c.requires.bounds_there ∙ many)
          k _ _ (get_or a.at_upper.now v false) (get_or a.bounds.now v (record { lower = None; upper = None })) _ _ c.loop-column-test.true refl refl
          (to_z-of_z w64 d fd) (to_z-of_z w64 t ft) c.with_candidate-best.ensures.value (c.loop-column.invariant.first ss are many);
      great = c.with_candidate-best.ensures.great;
    }

pub with_candidate-best-requires-clause-at_upper_there : goal.with_candidate-best-requires-clause-at_upper_there
with_candidate-best-requires-clause-at_upper_there c =
    let a = c.args in
    let h = c.requires.nonbasic_are in
    omega (arith, h.2, variable_there h.0 a.nonbasic.now h.1 c.loop-column.column c.loop-column-test.true)

pub with_candidate-best-requires-clause-bounds_there : goal.with_candidate-best-requires-clause-bounds_there
with_candidate-best-requires-clause-bounds_there c =
    let a = c.args in
    let h = c.requires.nonbasic_are in
    omega (arith, h.2, c.requires.bounds_there, variable_there h.0 a.nonbasic.now h.1 c.loop-column.column c.loop-column-test.true)

pub returns-then-best-eq0-clause-value : goal.returns-then-best-eq0-clause-value
returns-then-best-eq0-clause-value c = λ ss are many.
    let a = c.args in
    none_enters a.direction ss a.at_upper.now a.bounds.now a.reduced_costs.now a.row.now a.nonbasic.now are many (c.requires.bounds_there ∙ many)
    c.loop-column.column c.loop-column.best c.loop-column-test.false c.loop-column.auto.column-end (c.loop-column.invariant.first ss are many) c.if-best-eq0.true

pub returns-else-best-eq0-clause-value : goal.returns-else-best-eq0-clause-value
returns-else-best-eq0-clause-value c = λ ss are many.
    let a = c.args in
    best_enters a.direction ss a.at_upper.now a.bounds.now a.reduced_costs.now a.row.now a.nonbasic.now are many (c.requires.bounds_there ∙ many)
    c.loop-column.column c.loop-column.best c.loop-column-test.false c.loop-column.auto.column-end (c.loop-column.invariant.first ss are many) c.if-best-eq0.false

pub returns-else-best-eq0-clause-within : goal.returns-else-best-eq0-clause-within
returns-else-best-eq0-clause-within c =
    let a = c.args in
    let h = c.requires.nonbasic_are in
    let l = best_within a.direction h.0 a.at_upper.now a.bounds.now a.reduced_costs.now a.row.now a.nonbasic.now h.1 h.2 (c.requires.bounds_there ∙ h.2)
    c.loop-column.column c.loop-column.best c.loop-column-test.false c.loop-column.auto.column-end (c.loop-column.invariant.first h.0 h.1 h.2) c.if-best-eq0.false in
    omega (arith, l, h.2)
