use Rattle.std.proofs.Common.{◌<◌, ◌∙◌, ap, arith, rules, sym, subst, w64, to_z, IfSome}
use mir.Val.{SFits}
use Rattle.std.proofs.lemmas.Int.{to_z-of_z}
use Rattle.integer_tableau.proofs.Moves.{edge_leads, kept_of, move_stays, turn_moves}
use Rattle.integer_tableau.specs.StoredRun.{IsMove, IsTurning, dictionary_at}
use Rattle.integer_tableau.specs.declared.basic_solution.BasicSolution.{BasicSolution}
use Rattle.integer_tableau.proofs.dictionary_store.DictionaryStore.target.Goals as goal

pub returns-then-number-pivot_size-clause-moved : goal.returns-then-number-pivot_size-clause-moved
returns-then-number-pivot_size-clause-moved c =
    let a = c.args in
    let k = a.self.now.kept in
    let costs = c.requires.kept.0 in
    let positive : 0 < a.turn.target = omega (arith, c.if-turn-ne0.true) in
    let f : SFits w64 c.number.result = search rules in
    let same = sym (to_z-of_z w64 c.number.result f) ∙ ap (to_z w64) c.if-number-pivot_size.true ∙ to_z-of_z w64 a.pivot_size c.ranges.pivot_size in
    let h = edge_leads a.program_rows.now a.weight costs k a.place a.turn c.requires.kept.1 c.requires.edge positive in
    λ n t.
    move_stays a.program_rows.now a.weight (dictionary_at k a.place) n k c.note_met.new.self.kept a.turn.target a.solution.now (ap (λ k. k.all) c.note_met.ensures)
    (turn_moves a.program_rows.now a.weight k a.place n a.turn a.pivot_size a.solution.now t costs a.turn.target h.0 (kept_of a.program_rows.now a.weight costs k a.place c.requires.there c.requires.kept.1)
    (kept_of a.program_rows.now a.weight costs k a.turn.target h.0 c.requires.kept.1) (sym c.divisor.ensures ∙ sym c.number.ensures ∙ same) h.1)

pub returns-clause-moved : goal.returns-clause-moved
returns-clause-moved c =
    let a = c.args in
    let k = a.self.now.kept in
    subst (λ z. IfSome c.found_or_made.result (λ q. (n : BasicSolution) → IsTurning a.program_rows.now a.weight k a.place n a.turn z a.solution.now
    → IsMove a.program_rows.now a.weight (dictionary_at k a.place) n c.found_or_made.new.self.kept q a.solution.now))
    (to_z-of_z w64 a.pivot_size c.ranges.pivot_size) c.found_or_made.ensures.moved
