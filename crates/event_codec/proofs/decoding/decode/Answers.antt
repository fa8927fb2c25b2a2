use Rattle.std.proofs.Common.{ap, subst, ◌∙◌, arith}
use Rattle.event_codec.specs.ReadResults.{Gives}
use Rattle.event_codec.specs.Reading.{event_of}
use Rattle.event_codec.proofs.Events.{is_found, whole_again}
use Rattle.event_codec.proofs.decoding.decode.Goals as goal

pub returns-clause-found : goal.returns-clause-found
returns-clause-found c = is_found c.args.enc c.args.bytes.now c.whole_event.result (λ i. omega (arith, c.type_inv.bytes i)) c.whole_event.ensures

pub returns-clause-only : goal.returns-clause-only
returns-clause-only c = λ e is typed spelled. subst (λ f. Gives c.whole_event.result f) (ap (event_of c.args.enc) spelled ∙ whole_again c.args.enc e is typed) c.whole_event.ensures
