use Rattle.std.proofs.Common.{ap, subst, ◌∙◌, arith}
use Rattle.event_codec.specs.ReadResults.{GivesList}
use Rattle.event_codec.specs.Groups.{group_of}
use Rattle.event_codec.proofs.Groups.{group_is_found, whole_group_again}
use Rattle.event_codec.proofs.group_decoding.decode_group.Goals as goal

pub returns-clause-found : goal.returns-clause-found
returns-clause-found c = group_is_found c.args.enc c.args.bytes.now c.whole_group.result (λ i. omega (arith, c.type_inv.bytes i)) c.whole_group.ensures

pub returns-clause-only : goal.returns-clause-only
returns-clause-only c = λ events is spelled. subst (λ f. GivesList c.whole_group.result f) (ap (group_of c.args.enc) spelled ∙ whole_group_again c.args.enc events is) c.whole_group.ensures
