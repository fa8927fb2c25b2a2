use Rattle.std.proofs.Common.{◌==◌, sym, ap, ◌∙◌}
use Rattle.mps_reader.specs.Faults.{may_follow, stage_of}
use Rattle.mps_reader.proofs.SectionOrder.{end_follows}
use Rattle.mps_reader.proofs.order.follows.Goals as goal

pub returns-in-EndData : goal.returns-in-EndData
returns-in-EndData c s h = ap (λ n. n == 4) (c.stage_of-stage.ensures ∙ ap stage_of h.last) ∙ sym (end_follows s.words) ∙ ap (may_follow s.words) (sym c.in-EndData.is)
