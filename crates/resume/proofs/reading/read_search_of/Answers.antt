use Rattle.std.proofs.Common.{subst, List, ℕ}
use Rattle.node_journal.specs.Views.{payloads_of}
use Rattle.resume.specs.Refusals.{RefusesFirst}
use Rattle.resume.proofs.Refusing.{other_refused}
use Rattle.resume.proofs.reading.read_search_of.Goals as goal

pub returns-then-ne-clause-refused : goal.returns-then-ne-clause-refused
returns-then-ne-clause-refused g c =
    other_refused c.args.model.now (payloads_of c.args.scanned.now) c.other_model.result c.requires.some
    (subst (λ (l : List ℕ). RefusesFirst c.args.model.now c.other_model.result l) c.payload-first.ensures c.other_model.ensures)
