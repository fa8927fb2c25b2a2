use Rattle.std.proofs.Common.{◌≡◌, ◌<◌, ap, arith, nat_abs, of_z, pos, refl, rules, subst, to_z, w64, ◌∙◌}
use mir.Val.{SFits}
use Rattle.std.proofs.lemmas.Int.{to_z-of_z}
use Rattle.integer_tableau.proofs.Requests.{as_many, solution_of}
use Rattle.integer_tableau.proofs.StoredRuns.{at_same_place, move_same, turn_same, turning}
use Rattle.integer_tableau.proofs.stored_run.make_step.Goals as goal

pub returns-in-Stops-clause-kept : goal.returns-in-Stops-clause-kept
returns-in-Stops-clause-kept c = λ costs h. c.request.ensures.kept c.args.weight costs h

pub returns-in-Unknown-clause-kept : goal.returns-in-Unknown-clause-kept
returns-in-Unknown-clause-kept c = λ costs h. c.request.ensures.kept c.args.weight costs h

pub returns-in_default-clause-kept : goal.returns-in_default-clause-kept
returns-in_default-clause-kept c = λ costs h. c.request.ensures.kept c.args.weight costs h

pub turn-requires-clause-solution : goal.turn-requires-clause-solution
turn-requires-clause-solution c =
    let a = c.args in
    let old = a.store.now.kept in
    let mid = c.request.new.self.kept in
    solution_of a.program_rows.now a.weight c.requires.kept.0 mid a.place a.solution.now (omega (arith, c.requires.there, as_many mid old c.request.ensures.same))
    (c.request.ensures.kept a.weight c.requires.kept.0 c.requires.kept.1) (at_same_place a.program_rows.now a.weight mid old a.place a.solution.now c.request.ensures.same c.requires.there c.requires.at)

pub turn-requires-clause-there : goal.turn-requires-clause-there
turn-requires-clause-there c = omega (arith, c.requires.there, as_many c.request.new.self.kept c.args.store.now.kept c.request.ensures.same)

pub turn-requires-clause-turn : goal.turn-requires-clause-turn
turn-requires-clause-turn c =
    let a = c.args in
    turn_same a.program_rows.now c.request.new.self.kept a.store.now.kept a.place a.solution.now c.in-Goes.turn c.request.ensures.same c.requires.there c.in-Goes.ensures.request

pub returns-then-not-turn-clause-kept : goal.returns-then-not-turn-clause-kept
returns-then-not-turn-clause-kept c = λ costs h. c.request.ensures.kept c.args.weight costs h

pub target-requires-clause-kept : goal.target-requires-clause-kept
target-requires-clause-kept c = (c.requires.kept.0, c.request.ensures.kept c.args.weight c.requires.kept.0 c.requires.kept.1)

pub target-requires-clause-there : goal.target-requires-clause-there
target-requires-clause-there c = omega (arith, c.requires.there, as_many c.request.new.self.kept c.args.store.now.kept c.request.ensures.same)

pub target-requires-clause-turning : goal.target-requires-clause-turning
target-requires-clause-turning c =
    let a = c.args in
    let old = a.store.now.kept in
    let mid = c.request.new.self.kept in
    let w = c.in-Goes.turn in
    let f : SFits w64 w.coefficient = search rules in
    let same : to_z w64 (of_z w64 w.coefficient) ≡ w.coefficient = to_z-of_z w64 w.coefficient f in
    let g : SFits w64 c.in-Some.size = search rules in
    let size = to_z w64 (of_z w64 c.in-Some.size) in
    let size_is : size ≡ pos (nat_abs w.coefficient) = to_z-of_z w64 c.in-Some.size g ∙ c.in-Some.ensures.0 ∙ ap (λ z. pos (nat_abs z)) same in (
      a.solution.now,
      turning a.program_rows.now a.weight mid a.place a.solution.now w size c.turn.new.self
          (at_same_place a.program_rows.now a.weight mid old a.place a.solution.now c.request.ensures.same c.requires.there c.requires.at)
          (turn_same a.program_rows.now mid old a.place a.solution.now w c.request.ensures.same c.requires.there c.in-Goes.ensures.request)
          size_is (subst (λ z. 0 < nat_abs z) same c.in-Some.ensures.1) (c.if-not-turn.ensures.near refl) (c.if-not-turn.ensures.turned refl),
    )

pub returns-in-Some-target-clause-kept : goal.returns-in-Some-target-clause-kept
returns-in-Some-target-clause-kept c = λ costs h. c.target.ensures.kept costs (c.request.ensures.kept c.args.weight costs h)

pub returns-in-Some-target-clause-step : goal.returns-in-Some-target-clause-step
returns-in-Some-target-clause-step c =
    let a = c.args in
    let old = a.store.now.kept in
    let mid = c.request.new.self.kept in
    let w = c.in-Goes.turn in
    let f : SFits w64 w.coefficient = search rules in
    let same : to_z w64 (of_z w64 w.coefficient) ≡ w.coefficient = to_z-of_z w64 w.coefficient f in
    let g : SFits w64 c.in-Some.size = search rules in
    let size = to_z w64 (of_z w64 c.in-Some.size) in
    let size_is : size ≡ pos (nat_abs w.coefficient) = to_z-of_z w64 c.in-Some.size g ∙ c.in-Some.ensures.0 ∙ ap (λ z. pos (nat_abs z)) same in
    move_same a.program_rows.now a.weight mid old a.place a.solution.now c.target.new.self.kept c.in-Some-target.target c.turn.new.self c.request.ensures.same c.requires.there
    (c.in-Some-target.ensures.moved a.solution.now (turning a.program_rows.now a.weight mid a.place a.solution.now w size c.turn.new.self
    (at_same_place a.program_rows.now a.weight mid old a.place a.solution.now c.request.ensures.same c.requires.there c.requires.at)
    (turn_same a.program_rows.now mid old a.place a.solution.now w c.request.ensures.same c.requires.there c.in-Goes.ensures.request)
    size_is (subst (λ z. 0 < nat_abs z) same c.in-Some.ensures.1) (c.if-not-turn.ensures.near refl) (c.if-not-turn.ensures.turned refl)))

pub returns-in-None-clause-kept : goal.returns-in-None-clause-kept
returns-in-None-clause-kept c = λ costs h. c.target.ensures.kept costs (c.request.ensures.kept c.args.weight costs h)
