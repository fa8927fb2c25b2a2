use Rattle.mps_reader.specs.Lemmas.Laws.{found_first, found_is}
use Rattle.mps_reader.proofs.laws.faults_are_first.Goals as goal

pub returns : goal.returns
returns c = record { found = found_first; first = found_is }
