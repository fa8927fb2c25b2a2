use Rattle.std.proofs.Common.{arith}
use Rattle.std.proofs.lemmas.Fmt.{length-decimal-le}
use Rattle.vipr_print.proofs.short_pieces.write_integer.Goals as goal

pub write_digits-start-requires : goal.write_digits-start-requires
write_digits-start-requires c = (omega (arith, length-decimal-le 19 c.unsigned_abs.result (omega arith) (omega arith) (omega arith)), omega arith)

pub write_byte-requires : goal.write_byte-requires
write_byte-requires c =
    let long = length-decimal-le 19 c.unsigned_abs.result (omega arith) (omega arith) (omega arith) in
    record { within = (omega (arith, long), omega (arith, long)) }

pub returns-then-number-lt0-clause-place : goal.returns-then-number-lt0-clause-place
returns-then-number-lt0-clause-place c =
    let long = length-decimal-le 19 c.unsigned_abs.result (omega arith) (omega arith) (omega arith) in
    (omega (arith, long), omega (arith, long))

pub returns-else-number-lt0-clause-place : goal.returns-else-number-lt0-clause-place
returns-else-number-lt0-clause-place c =
    let long = length-decimal-le 19 c.unsigned_abs.result (omega arith) (omega arith) (omega arith) in
    (omega (arith, long), omega (arith, long))
