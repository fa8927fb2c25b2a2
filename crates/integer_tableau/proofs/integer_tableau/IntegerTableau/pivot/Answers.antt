use Rattle.std.proofs.Common.{◌+◌, ◌<◌, ◌^◌, Some, ap, refl, sym, subst, ◌∙◌}
use Rattle.tableau.specs.Pivot.{pivoted}
use Rattle.tableau.specs.Tableau.{Tableau}
use Rattle.integer_tableau.proofs.FromCode.{is_there}
use Rattle.integer_tableau.proofs.integer_tableau.IntegerTableau.pivot.Goals as goal

pub turn_alone-requires-clause-leaving_there : goal.turn_alone-requires-clause-leaving_there
turn_alone-requires-clause-leaving_there c =
    let running = c.into_running-running in
    is_there _ _ _ _ _ _ c.args.self running.ensures.running.compact running.ensures.view running.result.positions.items c.args.leaving refl c.requires.leaving_there

pub turn_alone-requires-clause-entering_there : goal.turn_alone-requires-clause-entering_there
turn_alone-requires-clause-entering_there c =
    let running = c.into_running-running in
    is_there _ _ _ _ _ _ c.args.self running.ensures.running.compact running.ensures.view running.result.positions.items c.args.entering refl c.requires.entering_there

pub turn_alone-requires-clause-room : goal.turn_alone-requires-clause-room
turn_alone-requires-clause-room c = subst (λ n. n + 1 < 2 ^ 64) (sym (ap (λ (t : Tableau). t.pivots) c.into_running-running.ensures.view)) c.requires.room

pub returns-clause-value : goal.returns-clause-value
returns-clause-value c =
    ap (pivoted c.args.leaving c.args.entering) (sym c.into_running-running.ensures.view) ∙ c.if-not-turn_alone.ensures.value refl ∙ ap Some (sym c.into_tableau.ensures)

pub returns-clause-counted : goal.returns-clause-counted
returns-clause-counted c =
    ap (λ (t : Tableau). t.pivots) c.into_tableau.ensures ∙ c.if-not-turn_alone.ensures.counted refl ∙ ap (λ (t : Tableau). t.pivots + 1) c.into_running-running.ensures.view
