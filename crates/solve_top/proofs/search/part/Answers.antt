use Rattle.std.proofs.Common.{◌≡◌, ◌∙◌, None}
use Rattle.node_journal.specs.Lemmas.Resting.{at_rest}
use Rattle.solve_top.proofs.search.part.Goals as goal

pub returns-clause-rests : goal.returns-clause-rests
returns-clause-rests g c = λ told sound.
    let e : c.into_parts-state.result.1.fault ≡ None = cc in
    let m : g.D.Disk.now c.args.pool.journal.disk ≡ g.D.Disk.now c.into_parts-state.result.1.disk = cc in
    at_rest _ _ (m ∙ c.history_holds.ensures.rests told e)
