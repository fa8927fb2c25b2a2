use Rattle.std.proofs.Common.{◌<◌, ◌+◌, length, ap, ◌∙◌, arith, sym, ◌∷◌}
use Rattle.std.proofs.lemmas.List.{take_rest}
use Rattle.mps_lines.specs.Lines.{raw_lines}
use Rattle.mps_lines.proofs.Ends.{cut_at, last_line}
use Rattle.mps_lines.proofs.lines.cut.Goals as goal

pub returns-then-at-text-clause-lines : goal.returns-then-at-text-clause-lines
returns-then-at-text-clause-lines c =
    last_line c.args.text.now c.line_len-at.result c.line_len-at.ensures.value c.if-at-text.true c.requires
    ∙ ap (λ r. c.args.text.now ∷ raw_lines r) (sym (take_rest c.args.text.now c.line_len-at.result))

pub returns-clause-lines : goal.returns-clause-lines
returns-clause-lines c =
    let l : c.line_len-at.result < length c.args.text.now = omega (arith, c.line_len-at.ensures.bound, c.if-at-text.false) in
    cut_at c.args.text.now c.line_len-at.result c.line_len-at.ensures.value l
    ∙ (λ i. sym c.without_cr.ensures i ∷ raw_lines (sym (take_rest c.args.text.now (c.line_len-at.result + 1)) i))
