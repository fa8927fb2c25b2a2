-- Rows of numerators over a common denominator: the row solved for the entering variable, and its substitution in another row.
--
-- This is integer pivoting (Edmonds), with exact divisions (Bareiss 1968): the new denominator is the size of the pivot, and each new numerator is a
-- quotient by the old one. That each division is exact is tested by the code, and is a premise here.
use Rattle.std.specs.Prelude.{◌≡◌, ℕ, ◌*◌, ◌+◌, ◌-◌, ◌/◌, length, ℤ, pos, negsuc, ◌+ℤ◌, ◌-ℤ◌, ◌*ℤ◌, neg_ℤ, List, slice_set}
use Rattle.integer_tableau.specs.Numbers.{number_at, IsWithin}
use Rattle.integer_tableau.specs.Range.{size_limit}

-- ---- by column
-- each number of `new`, times d, is that of `row` times e plus that of `source` times q
abbrev pub IsSubstituted : ℤ → ℤ → ℤ → List ℤ → List ℤ → List ℤ → Type 0
IsSubstituted d e q row source new = (k : ℕ) → number_at new k *ℤ d ≡ number_at row k *ℤ e +ℤ number_at source k *ℤ q

-- each number of `new`, times d, is that of `source` times q less that of `row` times m
abbrev pub IsDifference : ℤ → ℤ → ℤ → List ℤ → List ℤ → List ℤ → Type 0
IsDifference d m q row source new = (k : ℕ) → number_at new k *ℤ d ≡ number_at source k *ℤ q -ℤ number_at row k *ℤ m

-- the numerator of -a / p, over the size of p
abbrev pub quotient_numerator : ℤ → ℤ → ℤ
quotient_numerator (pos p) a = neg_ℤ a
quotient_numerator (negsuc p) a = a

-- the row of denominator d, solved for the variable of column k, whose numerator there is p: its denominator is the size of p
abbrev pub IsSolvedFor : ℤ → ℕ → ℕ → List ℤ → List ℤ → Type 0
IsSolvedFor p k d row new = (j : ℕ) → number_at new j ≡ quotient_numerator p (number_at (slice_set row k (neg_ℤ (pos d))) j)

-- a bound on the sizes of a row after a substitution, by bounds on those of the row and of the solved row
abbrev pub substituted_size : ℕ → ℕ → ℕ → ℕ → ℕ → ℕ
substituted_size size e source_size q d = (size * e + source_size * q) / d

-- ---- of whole rows, whose numbers are small
-- the variable of column k is substituted, by its solved row
pub record IsSubstitutedRow (d e : ℤ) (k : ℕ) (source row new : List ℤ) : Type 0 where
  pub before : IsWithin (size_limit - 1) row
  pub after : IsWithin (size_limit - 1) new
  pub numbers : IsSubstituted d e (number_at row k) (slice_set row k (pos 0)) source new
  pub width : length new ≡ length row

-- the row is solved for the variable of column k
pub record IsSolvedRow (k d : ℕ) (row new : List ℤ) : Type 0 where
  pub before : IsWithin (size_limit - 1) row
  pub after : IsWithin (size_limit - 1) new
  pub numbers : IsSolvedFor (number_at row k) k d row new
  pub width : length new ≡ length row

-- a row of the source's width has the variable substituted, another one stays
pub record IsSubstitutedIfFull (d e : ℤ) (k : ℕ) (source row new : List ℤ) : Type 0 where
  pub full : length row ≡ length source → IsSubstitutedRow d e k source row new
  pub other : (length row ≡ length source → ⊥) → new ≡ row
