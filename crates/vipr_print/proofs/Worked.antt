-- A text that was worked out by hand.
use Rattle.std.specs.Prelude.{◌≡◌, ◌<◌, ◌+◌, ◌^◌, ℕ, ℤ, pos, nat_abs, [], ◌∷◌, List, length, refl, codes}
use Rattle.std.proofs.Common.{sym, subst, arith}
use Rattle.std.proofs.lemmas.List.Elements.{All-from_recursion}
use Rattle.std.specs.Fmt.{digits, decimal}
use Rattle.fraction.specs.Gcd.{gcd, gcd_within}
use Rattle.fraction.specs.Rational.{ℚ, whole, frac}
use Rattle.fraction.specs.Lemmas.Bounds.{whole_parts}
use Rattle.problem.specs.declared.row.Sense.{Sense}
use Rattle.problem.specs.declared.row.Sense.TheVariants.{G, L}
use Rattle.problem.specs.declared.objective_sense.ObjectiveSense.TheVariants.{Minimise, Maximise}
use Rattle.cert_rows.specs.declared.line.CertRow.{CertRow}
use Rattle.cert_rows.specs.declared.line.Why.{Why}
use Rattle.cert_rows.specs.declared.line.Why.TheVariants.{Lin}
use Rattle.cert_rows.specs.declared.certificate.Goal.TheVariants.{Range}
use Rattle.cert_rows.specs.declared.certificate.Cert.{Cert}
use Rattle.vipr_print.specs.Spelling.{text_of}
use Rattle.vipr_print.specs.Unique.{IsWord, IsShort, IsShortFraction, IsShortTerm, IsShortList, IsShortRow, IsShortLine, IsShortPoint, HasShortNumbers, IsSpellable}

abbrev n : ℕ → ℚ
n k = whole (pos k)

abbrev row : List ℕ → Sense → ℚ → List (ℕ × ℚ) → CertRow
row label sense rhs terms = record { label = label; sense = sense; rhs = rhs; terms = terms }

-- minimise 3x, x >= 1, x in 2..2
abbrev certificate : Cert
certificate = record {
  part = record {
    names = codes "x" ∷ [];
    objective = (0, n 3) ∷ [];
    sense = Minimise;
    rows = row (codes "R0") G (n 1) ((0, n 1) ∷ []) ∷ row (codes "L0") G (n 2) ((0, n 1) ∷ []) ∷ row (codes "U0") L (n 2) ((0, n 1) ∷ []) ∷ [];
  };
  claim = Range (n 6) (n 6);
  points = (pos 2 ∷ []) ∷ [];
  lines = (row (codes "N0") G (n 6) ((0, n 3) ∷ []), Lin ((1, n 3) ∷ [])) ∷ [];
}

text : text_of certificate ≡
    codes "VER 1.0\nVAR 1\nx\nINT 1\n0\nOBJ min\n1 0 3\nCON 3 2\nR0 G 1 1 0 1\nL0 G 2 1 0 1\nU0 L 2 1 0 1\nRTP range 6 6\nSOL 1\nS0 1 0 2\nDER 1\nN0 G 6 1 0 3 { lin 1 1 3 } -1\n"
unfolding frac gcd gcd_within digits
text = refl

-- no column, and a point that is 0
abbrev nothing : Cert
nothing = record {
  part = record { names = []; objective = []; sense = Minimise; rows = [] };
  claim = Range (n 0) (n 0);
  points = (pos 0 ∷ []) ∷ [];
  lines = [];
}

text_of_nothing : text_of nothing ≡ codes "VER 1.0\nVAR 0\nINT 0\nOBJ min\n0\nCON 0 0\nRTP range 0 0\nSOL 1\nS0 0\nDER 0\n"
unfolding frac gcd gcd_within digits
text_of_nothing = refl

-- the same one, maximised
text_of_maximised : text_of (record nothing { part = record nothing.part { sense = Maximise } }) ≡ codes "VER 1.0\nVAR 0\nINT 0\nOBJ max\n0\nCON 0 0\nRTP range 0 0\nSOL 1\nS0 0\nDER 0\n"
unfolding frac gcd gcd_within digits
text_of_maximised = refl

-- the text doesn't show how many numbers a point has, if those behind are 0
text_of_no_number : text_of (record nothing { points = [] ∷ [] }) ≡ text_of nothing
unfolding frac gcd gcd_within digits
text_of_no_number = refl

-- nor where a name ends that has a line feed
abbrev named : List (List ℕ) → Cert
named names = record nothing { part = record { names = names; objective = []; sense = Minimise; rows = [] } }

text_of_broken_names : text_of (named (codes "x\ny" ∷ codes "z" ∷ [])) ≡ text_of (named (codes "x" ∷ codes "y\nz" ∷ []))
unfolding frac gcd gcd_within digits
text_of_broken_names = refl

-- nor digits before the last 64
text_of_many_digits : decimal (10 ^ 64 + 10 ^ 63) ≡ decimal (10 ^ 63)
unfolding digits
text_of_many_digits = refl

-- ---- the laws of texts speak of the certificate above
short : (k : ℕ) → k < 10 ^ 64 → IsShortFraction (n k)
short k h =
    let w = whole_parts (pos k) in
    record { num = subst (λ z. IsShort (nat_abs z)) (sym w.0) h; den = subst IsShort (sym w.1) (omega arith) }

one_term : (j k : ℕ) → j < 10 ^ 64 → k < 10 ^ 64 → IsShortList ((j, n k) ∷ [])
one_term j k g h = record { count = omega arith; terms = All-from_recursion IsShortTerm ((j, n k) ∷ []) (record { number = g; factor = short k h }, tt) }

short_row : (label : List ℕ) (sense : Sense) (a k : ℕ) → a < 10 ^ 64 → k < 10 ^ 64 → IsShortRow (row label sense (n a) ((0, n k) ∷ []))
short_row label sense a k g h = record { rhs = short a g; terms = one_term 0 k (omega arith) h }

numbers : HasShortNumbers certificate
numbers = record {
  columns = omega arith;
  objective = one_term 0 3 (omega arith) (omega arith);
  rows = All-from_recursion IsShortRow certificate.part.rows (
    short_row (codes "R0") G 1 1 (omega arith) (omega arith),
    (short_row (codes "L0") G 2 1 (omega arith) (omega arith), (short_row (codes "U0") L 2 1 (omega arith) (omega arith), tt)),
  );
  row_count = omega arith;
  claim = (short 6 (omega arith), short 6 (omega arith));
  points = All-from_recursion IsShortPoint certificate.points (All-from_recursion (λ (z : ℤ). IsShort (nat_abs z)) (pos 2 ∷ []) (omega arith, tt), tt);
  point_count = omega arith;
  lines = All-from_recursion IsShortLine certificate.lines
      (record { row = short_row (codes "N0") G 6 3 (omega arith) (omega arith); reason = one_term 1 3 (omega arith) (omega arith) }, tt);
  line_count = omega arith;
}

two_letters : (a b : ℕ) → 32 < a → 32 < b → IsWord (a ∷ b ∷ [])
two_letters a b g h = All-from_recursion (λ c. 32 < c) (a ∷ b ∷ []) (g, (h, tt))

spellable : IsSpellable certificate
spellable = record {
  names = All-from_recursion IsWord certificate.part.names (All-from_recursion (λ c. 32 < c) (codes "x") (omega arith, tt), tt);
  labels = All-from_recursion (λ (r : CertRow). IsWord r.label) certificate.part.rows
      (two_letters 82 48 (omega arith) (omega arith), (two_letters 76 48 (omega arith) (omega arith), (two_letters 85 48 (omega arith) (omega arith), tt)));
  line_labels = All-from_recursion (λ (d : CertRow × Why). IsWord d.0.label) certificate.lines (two_letters 78 48 (omega arith) (omega arith), tt);
  points = All-from_recursion (λ (x : List ℤ). length x ≡ 1) certificate.points (refl, tt);
  numbers = numbers;
}
