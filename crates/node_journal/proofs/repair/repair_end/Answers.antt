use Rattle.std.proofs.Common.{ℕ, List, [], ◌∷◌, ◌++◌, ap, ◌∙◌}
use Rattle.outside.specs.Images.{resting}
use Rattle.node_journal.specs.Views.{payloads_of}
use Rattle.node_journal.proofs.Ends.{prefix_after}
use Rattle.node_journal.proofs.Repairing.{shut_after, runs_may}
use Rattle.node_journal.proofs.repair.repair_end.Goals as goal

pub returns-in_err-shut-clause-any_moment : goal.returns-in_err-shut-clause-any_moment
returns-in_err-shut-clause-any_moment g c told =
    shut_after (payloads_of c.args.scanned.now) c.args.scanned.now.small (c.requires.ends told) c.end.ensures.place (c.in_ok-trim.ensures.done told) (c.trim.ensures.any_moment told) (c.shut.ensures.any_moment told)

pub returns-clause-done : goal.returns-clause-done
returns-clause-done g c told =
    let ends = c.requires.ends told in
    let prefix = prefix_after (payloads_of c.args.scanned.now) (g.D.Disk.now c.args.disk.now).seen (g.D.Disk.now c.trim.new.disk) c.end.result ends c.end.ensures.place (c.in_ok-trim.ensures.done told) in
    c.in_ok-shut.ensures.done told ∙ ap (λ (l : List ℕ). resting (l ++ 0 ∷ [])) (prefix ∙ ends.prefix)

pub returns-clause-any_moment : goal.returns-clause-any_moment
returns-clause-any_moment g c told =
    shut_after (payloads_of c.args.scanned.now) c.args.scanned.now.small (c.requires.ends told) c.end.ensures.place (c.in_ok-trim.ensures.done told) (c.trim.ensures.any_moment told) (c.shut.ensures.any_moment told)

pub returns-in_err-shut-clause-offers : goal.returns-in_err-shut-clause-offers
returns-in_err-shut-clause-offers g c told = runs_may (c.shut.ensures.any_moment told) (c.trim.ensures.offers told) (c.shut.ensures.offers told)

pub returns-clause-offers : goal.returns-clause-offers
returns-clause-offers g c told = runs_may (c.shut.ensures.any_moment told) (c.trim.ensures.offers told) (c.shut.ensures.offers told)
