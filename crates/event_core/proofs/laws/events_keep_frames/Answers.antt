use Rattle.event_core.specs.Lemmas.Frames.{keeps_frame}
use Rattle.event_core.proofs.laws.events_keep_frames.Goals as goal

pub returns : goal.returns
returns c = keeps_frame
