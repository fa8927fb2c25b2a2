use Rattle.scaled_program.proofs.AnswersRead.{costs_multipliers, point_unscaled, row_multipliers_unscaled}
use Rattle.scaled_program.proofs.laws.answers_are_read.Goals as goal

pub returns : goal.returns
returns f = record { points = point_unscaled; costs = costs_multipliers; rows = row_multipliers_unscaled }
