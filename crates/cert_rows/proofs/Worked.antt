-- Certificates that were worked out by hand are valid, and wrong ones are not.
use Rattle.std.specs.Prelude.{◌≡◌, ℕ, ℤ, pos, negsuc, true, false, List, [], ◌∷◌, refl, codes}
use Rattle.std.proofs.lemmas.Bool.Decides.{not_from_Decides}
use Rattle.fraction.specs.Gcd.{gcd, gcd_within}
use Rattle.fraction.specs.Rational.{ℚ, whole, frac, ◌+ℚ◌, ◌*ℚ◌, neg_ℚ, floor, ceil}
use Rattle.problem_box.specs.declared.span.Span.{Span}
use Rattle.problem.specs.declared.row.Sense.{Sense}
use Rattle.problem.specs.declared.row.Sense.TheVariants.{G, L, E}
use Rattle.problem.specs.declared.row.Row.{Row}
use Rattle.problem.specs.Problem.{Problem}
use Rattle.cert_rows.specs.declared.line.CertRow.{CertRow}
use Rattle.cert_rows.specs.declared.line.Why.{Why}
use Rattle.cert_rows.specs.declared.line.Why.TheVariants.{Asm, Lin, Rnd, Uns}
use Rattle.cert_rows.specs.declared.certificate.Goal.{Goal}
use Rattle.cert_rows.specs.declared.certificate.Goal.TheVariants.{Infeas, Range}
use Rattle.cert_rows.specs.declared.certificate.Cert.{Cert}
use Rattle.cert_rows.specs.Validity.{IsValid}
use Rattle.cert_rows.specs.Lemmas.Decider.{is_valid, IsValid-decided}
use Rattle.problem.specs.declared.objective_sense.ObjectiveSense.{ObjectiveSense}
use Rattle.problem.specs.declared.objective_sense.ObjectiveSense.TheVariants.{Minimise, Maximise}

abbrev n : ℕ → ℚ
n k = whole (pos k)

abbrev m : ℕ → ℚ
m k = whole (negsuc k)

abbrev row : List ℕ → Sense → ℚ → List (ℕ × ℚ) → CertRow
row label sense rhs terms = record { label = label; sense = sense; rhs = rhs; terms = terms }

abbrev bare : Sense → ℚ → List (ℕ × ℚ) → Row
bare sense rhs terms = record { sense = sense; rhs = rhs; terms = terms }

abbrev span : ℤ → ℤ → Span
span a b = record { lo = a; hi = b }

abbrev x : List (ℕ × ℚ)
x = (0, n 1) ∷ []

abbrev y : List (ℕ × ℚ)
y = (1, n 1) ∷ []

-- one column with bounds and one row
abbrev one : ℚ → ℚ → ℚ → ℤ → ℤ → Problem
one cost a rhs lo hi = record { names = codes "x" ∷ []; rows = bare G rhs ((0, a) ∷ []) ∷ []; objective = (0, cost) ∷ []; sense = Minimise; spans = span lo hi ∷ [] }

abbrev one_cert : ℚ → ℚ → ℚ → ℤ → ℤ → Goal → List (List ℤ) → List (CertRow × Why) → Cert
one_cert cost a rhs lo hi claim points lines = record {
  part = record {
    names = codes "x" ∷ [];
    objective = (0, cost) ∷ [];
    sense = Minimise;
    rows = row (codes "R0") G rhs ((0, a) ∷ []) ∷ row (codes "L0") G (whole lo) x ∷ row (codes "U0") L (whole hi) x ∷ [];
  };
  claim = claim;
  points = points;
  lines = lines;
}

-- minimise 3x, x >= 1, x in 2..2
abbrev p1 : Problem
p1 = one (n 3) (n 1) (n 1) (pos 2) (pos 2)

abbrev c1 : Goal → List (ℕ × ℚ) → Cert
c1 claim mult = one_cert (n 3) (n 1) (n 1) (pos 2) (pos 2) claim ((pos 2 ∷ []) ∷ []) ((row (codes "N0") G (n 6) ((0, n 3) ∷ []), Lin mult) ∷ [])

test1 : is_valid p1 (c1 (Range (n 6) (n 6)) ((1, n 3) ∷ [])) ≡ true
unfolding frac gcd gcd_within ◌+ℚ◌ ◌*ℚ◌ neg_ℚ floor ceil
test1 = refl

pub row1 : IsValid p1 (c1 (Range (n 6) (n 6)) ((1, n 3) ∷ []))
row1 = (IsValid-decided p1 (c1 (Range (n 6) (n 6)) ((1, n 3) ∷ []))).0 test1

-- the row itself shows too little, and an upper bound row has the other sign
test1_low : is_valid p1 (c1 (Range (n 6) (n 6)) ((0, n 3) ∷ [])) ≡ false
unfolding frac gcd gcd_within ◌+ℚ◌ ◌*ℚ◌ neg_ℚ floor ceil
test1_low = refl

test1_sign : is_valid p1 (c1 (Range (n 6) (n 6)) ((2, n 3) ∷ [])) ≡ false
unfolding frac gcd gcd_within ◌+ℚ◌ ◌*ℚ◌ neg_ℚ floor ceil
test1_sign = refl

test1_later : is_valid p1 (c1 (Range (n 6) (n 6)) ((3, n 1) ∷ [])) ≡ false
unfolding frac gcd gcd_within ◌+ℚ◌ ◌*ℚ◌ neg_ℚ floor ceil
test1_later = refl

pub row1_wrong : IsValid p1 (c1 (Range (n 6) (n 6)) ((0, n 3) ∷ [])) → ⊥
row1_wrong = not_from_Decides (is_valid p1 (c1 (Range (n 6) (n 6)) ((0, n 3) ∷ []))) (IsValid-decided p1 (c1 (Range (n 6) (n 6)) ((0, n 3) ∷ []))) test1_low

-- minimise x, 2x >= 11, x in 0..5
abbrev p2 : Problem
p2 = one (n 1) (n 2) (n 11) (pos 0) (pos 5)

abbrev c2 : Cert
c2 = one_cert (n 1) (n 2) (n 11) (pos 0) (pos 5) Infeas [] ((row (codes "N0") G (n 1) [], Lin ((0, n 1) ∷ (2, m 1) ∷ [])) ∷ [])

test2 : is_valid p2 c2 ≡ true
unfolding frac gcd gcd_within ◌+ℚ◌ ◌*ℚ◌ neg_ℚ floor ceil
test2 = refl

-- minimise x, 2x >= 3, x in 0..5
abbrev p3 : Problem
p3 = one (n 1) (n 2) (n 3) (pos 0) (pos 5)

abbrev c3 : ℚ → Cert
c3 half = one_cert (n 1) (n 2) (n 3) (pos 0) (pos 5) (Range (n 2) (n 2)) ((pos 2 ∷ []) ∷ [])
    ((row (codes "K0") G (n 2) x, Rnd ((0, half) ∷ [])) ∷ (row (codes "N0") G (n 2) x, Lin ((3, n 1) ∷ [])) ∷ [])

test3 : is_valid p3 (c3 (frac (pos 1) 2)) ≡ true
unfolding frac gcd gcd_within ◌+ℚ◌ ◌*ℚ◌ neg_ℚ floor ceil
test3 = refl

-- its coefficient isn't whole
test3_fraction : is_valid p3 (c3 (frac (pos 2) 3)) ≡ false
unfolding frac gcd gcd_within ◌+ℚ◌ ◌*ℚ◌ neg_ℚ floor ceil
test3_fraction = refl

-- maximise x, 2x <= 5, x in 0..5
abbrev p4 : Problem
p4 = record { names = codes "x" ∷ []; rows = bare L (n 5) ((0, n 2) ∷ []) ∷ []; objective = x; sense = Maximise; spans = span (pos 0) (pos 5) ∷ [] }

abbrev c4 : ObjectiveSense → ℕ → ℚ → Cert
c4 sense point last = record {
  part = record {
    names = codes "x" ∷ [];
    objective = x;
    sense = sense;
    rows = row (codes "R0") L (n 5) ((0, n 2) ∷ []) ∷ row (codes "L0") G (n 0) x ∷ row (codes "U0") L (n 5) x ∷ [];
  };
  claim = Range (n 2) (n 2);
  points = (pos point ∷ []) ∷ [];
  lines = (row (codes "K0") G (m 1) ((0, m 0) ∷ []), Rnd ((0, frac (negsuc 0) 2) ∷ [])) ∷ (row (codes "N0") L (n 2) x, Lin ((3, last) ∷ [])) ∷ [];
}

test4 : is_valid p4 (c4 Maximise 2 (m 0)) ≡ true
unfolding frac gcd gcd_within ◌+ℚ◌ ◌*ℚ◌ neg_ℚ floor ceil
test4 = refl

-- the other direction, a point below the claimed value, and the multiplier of the cut not negated
test4_sense : is_valid p4 (c4 Minimise 2 (m 0)) ≡ false
unfolding frac gcd gcd_within ◌+ℚ◌ ◌*ℚ◌ neg_ℚ floor ceil
test4_sense = refl

test4_point : is_valid p4 (c4 Maximise 1 (m 0)) ≡ false
unfolding frac gcd gcd_within ◌+ℚ◌ ◌*ℚ◌ neg_ℚ floor ceil
test4_point = refl

test4_sign : is_valid p4 (c4 Maximise 2 (n 1)) ≡ false
unfolding frac gcd gcd_within ◌+ℚ◌ ◌*ℚ◌ neg_ℚ floor ceil
test4_sign = refl

-- 2x + 2y = 3, x and y in 0..1
abbrev two : List (ℕ × ℚ)
two = (0, n 2) ∷ (1, n 2) ∷ []

abbrev pb : Problem
pb = record { names = codes "x" ∷ codes "y" ∷ []; rows = bare E (n 3) two ∷ []; objective = []; sense = Minimise; spans = span (pos 0) (pos 1) ∷ span (pos 0) (pos 1) ∷ [] }

abbrev cb : List (CertRow × Why) → Cert
cb lines = record {
  part = record {
    names = codes "x" ∷ codes "y" ∷ [];
    objective = [];
    sense = Minimise;
    rows = row (codes "R0") E (n 3) two ∷ row (codes "L0") G (n 0) x ∷ row (codes "U0") L (n 1) x ∷ row (codes "L1") G (n 0) y ∷ row (codes "U1") L (n 1) y ∷ [];
  };
  claim = Infeas;
  points = [];
  lines = lines;
}

abbrev c6 : Why → Cert
c6 last = cb (
    (row (codes "A1") L (n 0) y, Asm) ∷
    (row (codes "A2") G (n 1) y, Asm) ∷
    (row (codes "A3") L (n 0) x, Asm) ∷
    (row (codes "A4") G (n 1) x, Asm) ∷
    (row (codes "N4") G (n 1) [], Lin ((0, m 0) ∷ (6, n 2) ∷ (8, n 2) ∷ [])) ∷
    (row (codes "N3") G (n 1) [], Lin ((0, n 1) ∷ (4, m 1) ∷ (7, m 1) ∷ [])) ∷
    (row (codes "N2") G (n 1) [], Uns 10 7 9 8) ∷
    (row (codes "N1") G (n 1) [], Lin ((0, n 1) ∷ (2, m 1) ∷ (5, m 1) ∷ [])) ∷
    (row (codes "N0") G (n 1) [], last) ∷ [])

test6 : is_valid pb (c6 (Uns 12 5 11 6)) ≡ true
unfolding frac gcd gcd_within ◌+ℚ◌ ◌*ℚ◌ neg_ℚ floor ceil
test6 = refl

-- the children changed over, and a sibling's assumption
test6_swapped : is_valid pb (c6 (Uns 11 5 12 6)) ≡ false
unfolding frac gcd gcd_within ◌+ℚ◌ ◌*ℚ◌ neg_ℚ floor ceil
test6_swapped = refl

test6_sibling : is_valid pb (c6 (Uns 12 7 11 8)) ≡ false
unfolding frac gcd gcd_within ◌+ℚ◌ ◌*ℚ◌ neg_ℚ floor ceil
test6_sibling = refl

abbrev c11 : Cert
c11 = cb (
    (row (codes "K0") G (n 2) ((0, n 1) ∷ (1, n 1) ∷ []), Rnd ((0, frac (pos 1) 2) ∷ [])) ∷
    (row (codes "K1") G (m 0) ((0, m 0) ∷ (1, m 0) ∷ []), Rnd ((0, frac (negsuc 0) 2) ∷ [])) ∷
    (row (codes "N0") G (n 1) [], Lin ((0, frac (negsuc 0) 2) ∷ (5, n 1) ∷ [])) ∷ [])

test11 : is_valid pb c11 ≡ true
unfolding frac gcd gcd_within ◌+ℚ◌ ◌*ℚ◌ neg_ℚ floor ceil
test11 = refl
