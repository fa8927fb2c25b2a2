use Rattle.std.proofs.Common.{◌++◌, ap, sym, ◌∙◌, nat_abs, drop, w64, to_z, of_z}
use Rattle.std.proofs.lemmas.Int.{to_z-of_z}
use Rattle.std.proofs.lemmas.List.{append-nil}
use Rattle.tableau.specs.Multipliers.{numbered}
use Rattle.integer_tableau.specs.Positions.{coefficients}
use Rattle.integer_tableau.proofs.NamedCoefficients.{numbered_past}
use Rattle.integer_tableau.proofs.named_coefficients.named_coefficients.Goals as goal

pub returns-then-i-positions : goal.returns-then-i-positions
returns-then-i-positions c =
    let i = c.loop-i.i in
    let d = nat_abs (to_z w64 (of_z w64 c.args.denominator)) in
    sym (append-nil c.loop-i.named)
    ∙ ap (λ rest. c.loop-i.named ++ rest) (sym (numbered_past (drop i c.args.numbers.now) d i c.args.positions.now c.args.row.now c.if-i-positions.true))
    ∙ c.loop-i.invariant
    ∙ ap (λ z. numbered c.args.numbers.now (coefficients (nat_abs z) c.args.positions.now c.args.row.now)) (to_z-of_z w64 c.args.denominator c.ranges.denominator)
