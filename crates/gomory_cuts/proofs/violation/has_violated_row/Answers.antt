use Rattle.std.proofs.Common.{sym, ◌∙◌}
use Rattle.derivation_book.specs.Lemmas.Rounded.{rounded_rises}
use Rattle.gomory_cuts.proofs.violation.has_violated_row.Goals as goal

pub is_violated-requires : goal.is_violated-requires
is_violated-requires c = rounded_rises c.args.problem.now c.args.book.now.cuts c.args.mult.now c.in-Some.row (sym c.in_ok-row.ensures ∙ c.in-Some.is)
