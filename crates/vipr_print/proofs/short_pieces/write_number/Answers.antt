use Rattle.std.proofs.Common.{arith}
use Rattle.std.proofs.lemmas.Fmt.{length-decimal-le}
use Rattle.vipr_print.proofs.short_pieces.write_number.Goals as goal

pub write_digits-digits_at-requires : goal.write_digits-digits_at-requires
write_digits-digits_at-requires c = (omega (arith, length-decimal-le 10 c.from.result (omega arith) (omega arith) (omega arith)), omega arith)

pub write_byte-requires : goal.write_byte-requires
write_byte-requires c =
    let long = length-decimal-le 10 c.from.result (omega arith) (omega arith) (omega arith) in
    record { within = (omega (arith, long), omega (arith, long)) }

pub returns-clause-place : goal.returns-clause-place
returns-clause-place c =
    let long = length-decimal-le 10 c.from.result (omega arith) (omega arith) (omega arith) in
    (omega (arith, long), omega (arith, long))
