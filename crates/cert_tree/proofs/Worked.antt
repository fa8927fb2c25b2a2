-- A worked search of one event: minimise x over x in 3..2.
use Rattle.std.specs.Prelude.{pos, List, [], ◌∷◌, None, refl, codes}
use Rattle.fraction.specs.Rational.{whole}
use Rattle.problem.specs.Problem.{Problem}
use Rattle.problem.specs.Best.{IsVoid}
use Rattle.problem.specs.Limited.{IsLimited}
use Rattle.cert_rows.specs.Validity.{IsValid}
use Rattle.node_events.specs.declared.proof.Proof.TheVariants.{Empty}
use Rattle.node_events.specs.declared.event.Event.TheVariants.{Close}
use Rattle.event_core.specs.declared.entry.Entry.{Entry}
use Rattle.cert_merge.specs.Endings.{IsFinished}
use Rattle.cert_merge.specs.Merged.{merged}
use Rattle.cert_tree.proofs.Finishing.{merged_valid, merged_true}
use Rattle.problem.specs.declared.objective_sense.ObjectiveSense.TheVariants.{Minimise}

abbrev crossed : Problem
crossed = record { names = codes "x" ∷ []; rows = []; objective = (0, whole (pos 1)) ∷ []; sense = Minimise; spans = record { lo = pos 3; hi = pos 2 } ∷ [] }

abbrev closed_at_once : List Entry
closed_at_once = record { worker = None; event = Close 0 (Empty 0) } ∷ []

finished : IsFinished crossed closed_at_once
finished = record { legal = (record { admitted = refl; stands = (refl, refl) }, tt); none_open = refl }

certificate_valid : IsLimited crossed → IsValid crossed (merged crossed closed_at_once)
certificate_valid l = merged_valid crossed l closed_at_once finished

no_point : IsLimited crossed → IsVoid crossed
no_point l = merged_true crossed l closed_at_once finished
