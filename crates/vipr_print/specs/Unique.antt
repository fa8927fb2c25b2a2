-- A text spells at most one certificate.
use Rattle.std.specs.Prelude.{◌≡◌, ◌<◌, ◌^◌, ℕ, List, [], ◌++◌, length, nat_abs, All}
use Rattle.fraction.specs.Rational.{ℚ}
use Rattle.problem.specs.Problem.{Problem}
use Rattle.cert_rows.specs.declared.line.CertRow.{CertRow}
use Rattle.cert_rows.specs.declared.line.Why.{Why}
use Rattle.cert_rows.specs.declared.line.Why.TheVariants.{Asm, Lin, Rnd, Uns}
use Rattle.cert_rows.specs.declared.certificate.Goal.{Goal}
use Rattle.cert_rows.specs.declared.certificate.Goal.TheVariants.{Infeas, Range}
use Rattle.cert_rows.specs.declared.certificate.Cert.{Cert}
use Rattle.cert_rows.specs.Validity.{IsValid}
use Rattle.vipr_print.specs.Spelling.{text_of}
use Rattle.problem.specs.Linear.{Terms, Point}

-- a name or a label in one piece: each byte is above the blank, so no blank and no line feed stands in it, as in a field of a model
abbrev pub IsWord : List ℕ → Type 0
IsWord text = All (λ b. 32 < b) text

-- at most 64 digits, since no more are spelled; a number of 128 bits has at most 39
abbrev pub IsShort : ℕ → Type 0
IsShort n = n < 10 ^ 64

-- both its numbers are short
pub record IsShortFraction (x : ℚ) : Type 0 where
  pub num : IsShort (nat_abs x.num)
  pub den : IsShort x.den

-- its number and its factor are short
pub record IsShortTerm (t : ℕ × ℚ) : Type 0 where
  pub number : IsShort t.0
  pub factor : IsShortFraction t.1

-- its terms are short, and their count is
pub record IsShortList (ts : Terms) : Type 0 where
  pub count : IsShort (length ts)
  pub terms : All IsShortTerm ts

-- its right side and its terms are short
pub record IsShortRow (r : CertRow) : Type 0 where
  pub rhs : IsShortFraction r.rhs
  pub terms : IsShortList r.terms

-- its numbers are short
abbrev pub IsShortReason : Why → Type 0
IsShortReason Asm = Unit {0}
IsShortReason (Lin mult) = IsShortList mult
IsShortReason (Rnd mult) = IsShortList mult
IsShortReason (Uns i1 l1 i2 l2) = IsShort i1 × IsShort l1 × IsShort i2 × IsShort l2

-- its row and its reason are short
pub record IsShortLine (d : CertRow × Why) : Type 0 where
  pub row : IsShortRow d.0
  pub reason : IsShortReason d.1

-- its numbers are short
abbrev pub IsShortClaim : Goal → Type 0
IsShortClaim Infeas = Unit {0}
IsShortClaim (Range lb ub) = IsShortFraction lb × IsShortFraction ub

-- its numbers are short
abbrev pub IsShortPoint : Point → Type 0
IsShortPoint x = All (λ z. IsShort (nat_abs z)) x

-- every number of a certificate, and how many there are of anything
pub record HasShortNumbers (c : Cert) : Type 0 where
  pub columns : IsShort (length c.part.names)
  pub objective : IsShortList c.part.objective
  pub rows : All IsShortRow c.part.rows
  pub row_count : IsShort (length c.part.rows)
  pub claim : IsShortClaim c.claim
  pub points : All IsShortPoint c.points
  pub point_count : IsShort (length c.points)
  pub lines : All IsShortLine c.lines
  pub line_count : IsShort (length c.lines)

-- each point has a number for each column: only those that aren't 0 are spelled, so the text doesn't show how many there are
abbrev pub HasWholePoints : Cert → Type 0
HasWholePoints c = All (λ x. length x ≡ length c.part.names) c.points

-- Names and labels are words, points whole and numbers short. What this program prints is so: names are fields of a model, labels a letter
-- and a number; points are whole in every valid certificate, and numbers short in every certificate, as two further laws say.
pub record IsSpellable (c : Cert) : Type 0 where
  pub names : All IsWord c.part.names
  pub labels : All (λ r. IsWord r.label) c.part.rows
  pub line_labels : All (λ d. IsWord d.0.label) c.lines
  pub points : HasWholePoints c
  pub numbers : HasShortNumbers c

-- a certificate that its text tells: it is spellable, and no other spellable one has this text
pub record SpellsOnly (c : Cert) : Type 0 where
  pub spellable : IsSpellable c
  pub only : (d : Cert) → IsSpellable d → text_of d ≡ text_of c → d ≡ c

-- certificates with one text are one
abbrev pub TextsSpellOneCertificate : Type 0
TextsSpellOneCertificate = (c d : Cert) → IsSpellable c → IsSpellable d → text_of c ≡ text_of d → c ≡ d

-- no text of a certificate begins another's, so what a sink took before it failed spells a certificate only if it is the whole text
abbrev pub TextsBeginNoOther : Type 0
TextsBeginNoOther = (c d : Cert) (rest : List ℕ) → IsSpellable c → IsSpellable d → text_of c ≡ text_of d ++ rest → (c ≡ d) × (rest ≡ [])

-- each point of a valid certificate has a number for each column
abbrev pub ValidPointsAreWhole : Problem → Type 0
ValidPointsAreWhole p = (c : Cert) → IsValid p c → HasWholePoints c
