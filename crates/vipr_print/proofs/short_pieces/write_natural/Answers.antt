use Rattle.std.proofs.Common.{arith}
use Rattle.std.proofs.lemmas.Fmt.{length-decimal-le}
use Rattle.vipr_print.proofs.short_pieces.write_natural.Goals as goal

pub write_digits-requires : goal.write_digits-requires
write_digits-requires c = (omega (arith, length-decimal-le 20 c.args.number (omega arith) (omega arith) c.ranges.number.fits), omega arith)

pub returns-clause-place : goal.returns-clause-place
returns-clause-place c =
    let long = length-decimal-le 20 c.args.number (omega arith) (omega arith) c.ranges.number.fits in
    (omega (arith, long), omega (arith, long))
