use Rattle.std.proofs.Common.{arith, append-nil, append_assoc, to_z-of_z}
use Rattle.std.proofs.lemmas.List.{drop_all}
use Rattle.vipr_print.proofs.short_pieces.write_term.Goals as goal

pub returns-clause-written : goal.returns-clause-written
returns-clause-written c =
    rw (c.write_number.ensures.written, c.write_byte-blank_at.ensures.written, c.write_integer-number_at.ensures.written, drop_all 32 c.args.buffer.now (omega arith), append-nil, append_assoc, to_z-of_z c.ranges.number)
