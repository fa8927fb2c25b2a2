-- One more line, behind those of the numbers below.
use Rattle.std.specs.Prelude.{◌≡◌, ◌+◌, ℕ, suc, ◌++◌}
use Rattle.std.proofs.Common.{ap, arith}
use Rattle.drill_instance.specs.Texts.{row_line, row_lines, binary_line, binary_lines}

pub more_rows : (i : ℕ) → row_lines (i + 1) ≡ row_lines i ++ row_line i
more_rows i = ap row_lines (let e : i + 1 ≡ suc i = omega arith in e)

pub more_binaries : (j : ℕ) → binary_lines (j + 1) ≡ binary_lines j ++ binary_line j
more_binaries j = ap binary_lines (let e : j + 1 ≡ suc j = omega arith in e)
