use Rattle.std.proofs.Common.{◌≡◌, ◌+◌, ◌++◌, ◌∙◌, ap, drop, length, map, subst, sym, None, Some}
use Rattle.std.proofs.lemmas.List.{length-map}
use Rattle.std.proofs.lemmas.List.Elements.{All-get_or}
use Rattle.fraction.specs.Rational.{whole}
use Rattle.tableau.specs.LinearProgram.{LinearProgram, over, variables}
use Rattle.tableau.specs.Start.{started}
use Rattle.tableau.specs.Tableau.{Tableau}
use Rattle.integer_tableau.proofs.Programs.{program_over}
use Rattle.integer_tableau.proofs.StoredStarts.{at_first, can_start_over, started_at, statuses_at}
use Rattle.integer_tableau.specs.IntegerProgram.{CanStart, column_bounds, fraction_program}
use Rattle.integer_tableau.specs.Kept.{AreKept, IsKept, IsStartSolution}
use Rattle.integer_tableau.proofs.integer_tableau.IntegerTableau.start.Goals as goal

pub into_tableau-requires-clause-kept : goal.into_tableau-requires-clause-kept
into_tableau-requires-clause-kept c =
    let p = c.program.inside in
    let ps = p.rows.items.value.items in
    let k = c.in_ok-start.start in
    let kept : AreKept ps p.weight p.costs k = c.in_ok-start.ensures.kept ps p.weight p.bounds.items (sym c.len.ensures) c.program.invariant.0 in
    (p.costs, All-get_or (IsKept ps p.weight p.costs) k.all 0 _ c.in_ok-start.ensures.some kept.each)

pub into_tableau-requires-clause-at : goal.into_tableau-requires-clause-at
into_tableau-requires-clause-at c =
    let p = c.program.inside in
    let ps = p.rows.items.value.items in
    let bounds = map column_bounds c.args.area.now ++ drop (length p.costs) c.deref.result.now in
    let k = c.in_ok-start.start in
    let kept : AreKept ps p.weight p.costs k = c.in_ok-start.ensures.kept ps p.weight p.bounds.items (sym c.len.ensures) c.program.invariant.0 in
    let wide : length c.args.area.now ≡ length p.costs = c.requires ∙ ap (λ (q : LinearProgram). length q.costs) (sym c.program.view_is) ∙ length-map p.costs whole in
    let can : CanStart ps p.weight p.costs bounds =
    can_start_over ps p.weight p.costs c.deref.result.now c.args.area.now wide (subst (CanStart ps p.weight p.costs) (sym c.deref.ensures.value) c.program.invariant.0) in
    let first : IsStartSolution None c.new.result p.costs bounds c.in-Some.solution = rw c.in-Some.is at c.in_ok-solution.ensures.solution in
    at_first ps p.weight p.costs bounds k c.in-Some.solution can kept c.in_ok-start.ensures.some None c.new.result first tt (c.new.ensures ps)

pub returns-clause-value : goal.returns-clause-value
returns-clause-value c =
    let p = c.program.inside in
    let ps = p.rows.items.value.items in
    let area = c.args.area.now in
    let bounds = map column_bounds area ++ drop (length p.costs) c.deref.result.now in
    let numbers = c.deref-2.result.now in
    let k = c.in_ok-start.start in
    let kept : AreKept ps p.weight p.costs k = c.in_ok-start.ensures.kept ps p.weight p.bounds.items (sym c.len.ensures) c.program.invariant.0 in
    let wide : length c.args.area.now ≡ length p.costs = c.requires ∙ ap (λ (q : LinearProgram). length q.costs) (sym c.program.view_is) ∙ length-map p.costs whole in
    let can : CanStart ps p.weight p.costs bounds =
    can_start_over ps p.weight p.costs c.deref.result.now area wide (subst (CanStart ps p.weight p.costs) (sym c.deref.ensures.value) c.program.invariant.0) in
    let first : IsStartSolution None c.new.result p.costs bounds c.in-Some.solution = rw c.in-Some.is at c.in_ok-solution.ensures.solution in
    let program_is : over c.args.program.now area ≡ fraction_program ps p.costs bounds numbers =
    ap (λ p. over p area) (sym c.program.view_is) ∙ program_over ps p.costs p.bounds.items p.numbers.items area
    ∙ (λ i. fraction_program ps p.costs (map column_bounds area ++ drop (length p.costs) (sym c.deref.ensures.value i)) (sym c.deref-2.ensures.value i)) in
    ap started program_is ∙ started_at ps p.weight p.costs bounds k c.in-Some.solution can kept c.in_ok-start.ensures.some None c.new.result first numbers ∙ ap Some (sym c.in_ok-tableau.ensures)

pub returns-clause-size : goal.returns-clause-size
returns-clause-size c =
    let p = c.program.inside in
    let ps = p.rows.items.value.items in
    let bounds = map column_bounds c.args.area.now ++ drop (length p.costs) c.deref.result.now in
    let k = c.in_ok-start.start in
    let kept : AreKept ps p.weight p.costs k = c.in_ok-start.ensures.kept ps p.weight p.bounds.items (sym c.len.ensures) c.program.invariant.0 in
    let wide : length c.args.area.now ≡ length p.costs = c.requires ∙ ap (λ (q : LinearProgram). length q.costs) (sym c.program.view_is) ∙ length-map p.costs whole in
    let can : CanStart ps p.weight p.costs bounds =
    can_start_over ps p.weight p.costs c.deref.result.now c.args.area.now wide (subst (CanStart ps p.weight p.costs) (sym c.deref.ensures.value) c.program.invariant.0) in
    let first : IsStartSolution None c.new.result p.costs bounds c.in-Some.solution = rw c.in-Some.is at c.in_ok-solution.ensures.solution in
    ap (λ (t : Tableau). length t.statuses) c.in_ok-tableau.ensures
    ∙ statuses_at ps p.weight p.costs bounds k c.in-Some.solution can kept c.in_ok-start.ensures.some None c.new.result first tt (c.new.ensures ps) c.deref-2.result.now
    ∙ (λ i. sym (length-map p.costs whole) i + sym (length-map ps (map whole)) i) ∙ ap variables c.program.view_is
