-- Lemmas: columns have the scale 1, and rows have those of the list.
use Rattle.std.proofs.Common.{◌≡◌, ℕ, ◌+◌, ◌-◌, ◌<◌, arith, ap, ◌∙◌, List, get_or}
use Rattle.std.specs.Prelude.{if◌then◌else◌}
use borrow.Author.Tests.{lt-ltb, le-ltb}
use Rattle.integer_tableau.specs.Scales.{scale_at}

pub column_scale : (columns : ℕ) (scales : List ℕ) (i : ℕ) → i < columns → scale_at columns scales i ≡ 1
column_scale columns scales i l = ap (λ b. if b then 1 else get_or scales (i - columns) 1) (lt-ltb i columns l)

pub row_scale : (columns : ℕ) (scales : List ℕ) (i : ℕ) → scale_at columns scales (columns + i) ≡ get_or scales i 1
row_scale columns scales i =
    ap (λ b. if b then 1 else get_or scales (columns + i - columns) 1) (le-ltb (columns + i) columns (omega arith)) ∙ ap (λ n. get_or scales n 1) (let e : columns + i - columns ≡ i = omega arith in e)
