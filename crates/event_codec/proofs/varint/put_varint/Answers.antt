use Rattle.std.proofs.Common.{◌++◌, ◌∷◌, [], ◌∙◌, ap, sym, List, ℕ}
use Rattle.event_codec.proofs.Varints.{varint-small}
use Rattle.event_codec.proofs.varint.put_varint.Goals as goal

pub returns-then-number-lt128 : goal.returns-then-number-lt128
returns-then-number-lt128 c = c.in_ok-push.ensures.items ∙ ap (λ (l : List ℕ). c.args.out.now.items ++ l) (sym (varint-small c.args.number c.if-number-lt128.true))
