use Rattle.mps_reader.specs.Lemmas.Laws.{reads_or_refused, never_both, one_problem, one_fault}
use Rattle.mps_reader.proofs.laws.texts_read_or_are_refused.Goals as goal

pub returns : goal.returns
returns c = record { either = reads_or_refused; never_both = never_both; one_problem = one_problem; one_fault = one_fault }
