use Rattle.std.proofs.Common.{◌<◌, ◌∙◌, ap, arith, length, sym, subst, w64}
use Rattle.std.proofs.lemmas.Int.{to_z-of_z}
use Rattle.integer_tableau.proofs.Moves.{found_behind, kept_of, move_stays, noted_leads, turn_moves}
use Rattle.integer_tableau.specs.IntegerDictionary.{ArePositionsBehind}
use Rattle.integer_tableau.specs.Kept.{AreKept, kept_at, row_in}
use Rattle.integer_tableau.specs.StoredRun.{IsMove, IsTurning, dictionary_at}
use Rattle.integer_tableau.proofs.dictionary_store.DictionaryStore.found_or_made.Goals as goal

pub note-requires-clause-leads : goal.note-requires-clause-leads
note-requires-clause-leads c =
    let a = c.args in
    let k = a.self.now.kept in
    let e = c.note_met.ensures in
    let q = c.found-found.result in
    let positive : 0 < q = omega (arith, c.if-found-ne0.true) in
    let behind = found_behind a.program_rows.now a.weight k a.place c.requires.turning.0 a.turn a.pivot_size a.solution.now c.requires.turning.1 (kept_at k.all q) (c.found-found.ensures.basis positive) in
    noted_leads k c.note_met.new.self.kept a.place a.turn q c.requires.edge (ap (λ k. k.edges) e) (ap (λ k. kept_at k.all a.place) e) (subst (λ k. q < length k.all) (sym e) (c.found-found.ensures.there positive))
    (subst (λ l. ArePositionsBehind a.turn.leaving a.turn.entering (kept_at k.all a.place).positions (kept_at l.all q).positions) (sym e) behind)

pub returns-then-found-ne0-clause-kept : goal.returns-then-found-ne0-clause-kept
returns-then-found-ne0-clause-kept c =
    λ costs h. c.note.ensures.kept c.args.program_rows.now c.args.weight costs (subst (AreKept c.args.program_rows.now c.args.weight costs) (sym c.note_met.ensures) h)

pub returns-then-found-ne0-clause-moved : goal.returns-then-found-ne0-clause-moved
returns-then-found-ne0-clause-moved c =
    let a = c.args in
    let k = a.self.now.kept in
    let q = c.found-found.result in
    let positive : 0 < q = omega (arith, c.if-found-ne0.true) in
    let costs = c.requires.kept.0 in
    let there = c.found-found.ensures.there positive in
    λ n t.
    move_stays a.program_rows.now a.weight (dictionary_at k a.place) n k c.note.new.self q a.solution.now (c.note.ensures.all ∙ ap (λ k. k.all) c.note_met.ensures)
    (turn_moves a.program_rows.now a.weight k a.place n a.turn a.pivot_size a.solution.now t costs q there (kept_of a.program_rows.now a.weight costs k a.place c.requires.there c.requires.kept.1)
    (kept_of a.program_rows.now a.weight costs k q there c.requires.kept.1) (c.found-found.ensures.denominator positive ∙ to_z-of_z w64 a.pivot_size c.ranges.pivot_size)
    (found_behind a.program_rows.now a.weight k a.place n a.turn a.pivot_size a.solution.now t (kept_at k.all q) (c.found-found.ensures.basis positive)))

pub make-requires-clause-row : goal.make-requires-clause-row
make-requires-clause-row c =
    let a = c.args in
    λ made. c.note_new.ensures.row ∙ c.requires.row made ∙ ap (λ k. row_in a.program_rows.now (kept_at k.all a.place) a.turn.leaving) (sym c.note_new.ensures.kept)

pub make-requires-clause-turning : goal.make-requires-clause-turning
make-requires-clause-turning c =
    let a = c.args in
    let z = to_z-of_z w64 a.pivot_size c.ranges.pivot_size in
    (c.requires.turning.0, subst (λ (T : Type 0). T) (λ i. IsTurning a.program_rows.now a.weight (sym c.note_new.ensures.kept i) a.place c.requires.turning.0 a.turn (sym z i) a.solution.now) c.requires.turning.1)

pub returns-in_err-made-clause-kept : goal.returns-in_err-made-clause-kept
returns-in_err-made-clause-kept c =
    λ costs h. c.make.ensures.kept costs (subst (AreKept c.args.program_rows.now c.args.weight costs) (sym c.note_new.ensures.kept) h)

pub note-requires-2-clause-leads : goal.note-requires-2-clause-leads
note-requires-2-clause-leads c =
    let a = c.args in
    let k = a.self.now.kept in
    let e = c.note_new.ensures.kept in
    let l = c.make.new.self.kept in
    let q = c.in_ok-made.made in
    let z = to_z-of_z w64 a.pivot_size c.ranges.pivot_size in
    let n = c.requires.turning.0 in
    let h = c.in_ok-made.ensures in
    let move = h.moved n (subst (λ (T : Type 0). T) (λ i. IsTurning a.program_rows.now a.weight (sym c.note_new.ensures.kept i) a.place n a.turn (sym z i) a.solution.now) c.requires.turning.1) in
    let early : a.place < q = omega (arith, c.requires.there, h.pushed.0, ap (λ k. length k.all) e) in
    noted_leads k l a.place a.turn q c.requires.edge (h.edges ∙ ap (λ k. k.edges) e) (h.pushed.1 a.place early ∙ ap (λ k. kept_at k.all a.place) e) move.there
    (found_behind a.program_rows.now a.weight k a.place n a.turn a.pivot_size a.solution.now c.requires.turning.1 (kept_at l.all q) move.at.basis)

pub returns-clause-kept : goal.returns-clause-kept
returns-clause-kept c =
    λ costs h. c.note-2.ensures.kept c.args.program_rows.now c.args.weight costs (c.in_ok-made.ensures.kept costs (subst (AreKept c.args.program_rows.now c.args.weight costs) (sym c.note_new.ensures.kept) h))

pub returns-clause-moved : goal.returns-clause-moved
returns-clause-moved c =
    let a = c.args in
    let z = to_z-of_z w64 a.pivot_size c.ranges.pivot_size in
    λ n t.
    move_stays a.program_rows.now a.weight (dictionary_at a.self.now.kept a.place) n c.make.new.self.kept c.note-2.new.self c.in_ok-made.made a.solution.now c.note-2.ensures.all
    (subst (λ k. IsMove a.program_rows.now a.weight (dictionary_at k a.place) n c.make.new.self.kept c.in_ok-made.made a.solution.now) c.note_new.ensures.kept
    (c.in_ok-made.ensures.moved n (subst (λ (T : Type 0). T) (λ i. IsTurning a.program_rows.now a.weight (sym c.note_new.ensures.kept i) a.place n a.turn (sym z i) a.solution.now) t)))
