use Rattle.std.proofs.Common.{◌≡◌, ap, sym, ◌∙◌, cond, Some, None}
use Rattle.mps_lines.specs.Decimals.{spelt_of}
use Rattle.mps_lines.specs.Infinities.{is_vast}
use Rattle.mps_lines.proofs.values.vast_with.Goals as goal

pub returns-then-is_vast : goal.returns-then-is_vast
returns-then-is_vast c p e =
    let negative = c.args.negative in
    let q : c.is_vast.result ≡ is_vast (spelt_of negative c.args.whole.now c.args.part.now p) =
    c.is_vast.ensures negative p.1 (ap (λ x. x.1) e) ∙ ap (λ b. is_vast (spelt_of negative c.args.whole.now c.args.part.now (b, p.1))) (ap (λ x. x.0) e) in
    sym (ap (λ b. cond b (Some negative) None) (sym q ∙ c.if-is_vast.true))

pub returns-else-is_vast : goal.returns-else-is_vast
returns-else-is_vast c p e =
    let negative = c.args.negative in
    let q : c.is_vast.result ≡ is_vast (spelt_of negative c.args.whole.now c.args.part.now p) =
    c.is_vast.ensures negative p.1 (ap (λ x. x.1) e) ∙ ap (λ b. is_vast (spelt_of negative c.args.whole.now c.args.part.now (b, p.1))) (ap (λ x. x.0) e) in
    sym (ap (λ b. cond b (Some negative) None) (sym q ∙ c.if-is_vast.false))
