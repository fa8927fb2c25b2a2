use Rattle.std.proofs.Common.{ap, subst, ◌∙◌, arith}
use Rattle.event_codec.specs.Models.{model_of, GivesModel}
use Rattle.event_codec.proofs.Records.{is_found, model_again}
use Rattle.event_codec.proofs.model.decode_model.Goals as goal

pub returns-clause-found : goal.returns-clause-found
returns-clause-found c = is_found c.args.bytes.now c.whole_model.result (λ i. omega (arith, c.type_inv.bytes i)) c.whole_model.ensures

pub returns-clause-only : goal.returns-clause-only
returns-clause-only c = λ text upper is spelled. subst (λ f. GivesModel c.whole_model.result f) (ap model_of spelled ∙ model_again text upper is) c.whole_model.ensures
