-- Certificates that were worked out by hand are what the table gives for their searches.
use Rattle.std.specs.Prelude.{◌≡◌, ℕ, ℤ, pos, negsuc, false, List, [], ◌∷◌, None, refl, codes}
use Rattle.std.specs.Fmt.{digits}
use Rattle.fraction.specs.Gcd.{gcd, gcd_within}
use Rattle.fraction.specs.Rational.{ℚ, whole, frac, ◌+ℚ◌, ◌*ℚ◌, neg_ℚ}
use Rattle.problem_box.specs.declared.span.Span.{Span}
use Rattle.problem.specs.declared.row.Sense.{Sense}
use Rattle.problem.specs.declared.row.Sense.TheVariants.{G, L, E}
use Rattle.problem.specs.declared.row.Row.{Row}
use Rattle.problem.specs.Problem.{Problem}
use Rattle.cert_rows.specs.declared.line.CertRow.{CertRow}
use Rattle.cert_rows.specs.declared.line.Why.{Why}
use Rattle.cert_rows.specs.declared.line.Why.TheVariants.{Asm, Lin, Rnd, Uns}
use Rattle.cert_rows.specs.declared.certificate.Goal.{Goal}
use Rattle.cert_rows.specs.declared.certificate.Goal.TheVariants.{Infeas, Range}
use Rattle.cert_rows.specs.declared.certificate.Cert.{Cert}
use Rattle.node_events.specs.declared.proof.Proof.TheVariants.{Empty, Refute, Bound}
use Rattle.node_events.specs.declared.reason.Reason.TheVariants.{Stalled}
use Rattle.node_events.specs.declared.event.Event.{Event}
use Rattle.node_events.specs.declared.event.Event.TheVariants.{Offer, Split, Close}
use Rattle.derivation_book.specs.declared.cut.Cut.{Cut}
use Rattle.event_core.specs.declared.entry.Entry.{Entry}
use Rattle.event_core.specs.Histories.{state_of}
use Rattle.cert_merge.specs.Merged.{certificate_of, merged}
use Rattle.problem.specs.declared.objective_sense.ObjectiveSense.TheVariants.{Minimise, Maximise}

abbrev n : ℕ → ℚ
n k = whole (pos k)

-- the number - 1 - k
abbrev m : ℕ → ℚ
m k = whole (negsuc k)

abbrev row : List ℕ → Sense → ℚ → List (ℕ × ℚ) → CertRow
row label sense rhs terms = record { label = label; sense = sense; rhs = rhs; terms = terms }

abbrev bare : Sense → ℚ → List (ℕ × ℚ) → Row
bare sense rhs terms = record { sense = sense; rhs = rhs; terms = terms }

abbrev span : ℤ → ℤ → Span
span a b = record { lo = a; hi = b }

abbrev x : List (ℕ × ℚ)
x = (0, n 1) ∷ []

abbrev y : List (ℕ × ℚ)
y = (1, n 1) ∷ []

-- one column, and a row for each multiple of it that is given
abbrev one : List (ℕ × ℚ) → List Row → ℤ → ℤ → Problem
one objective rows lo hi = record { names = codes "x" ∷ []; rows = rows; objective = objective; sense = Minimise; spans = span lo hi ∷ [] }

abbrev maximised : Problem → Problem
maximised p = record p { sense = Maximise }

-- events without a worker
abbrev events : List Event → List Entry
events [] = []
events (e ∷ es) = record { worker = None; event = e } ∷ events es

-- with these cuts
abbrev merged_with : Problem → List Cut → List Entry → Cert
merged_with p cs es = certificate_of (record (state_of p es) { cuts = cs }) es

-- what is derived, claimed and listed
abbrev shown : Cert → Goal × List (List ℤ) × List (CertRow × Why)
shown c = (c.claim, c.points, c.lines)

-- minimise 3x, x >= 1, x in 2..2
table1 : merged (one ((0, n 3) ∷ []) (bare G (n 1) x ∷ []) (pos 2) (pos 2)) (events (Offer (pos 2 ∷ []) ∷ Close 0 (Bound [] false) ∷ [])) ≡ record {
  part = record {
    names = codes "x" ∷ [];
    objective = (0, n 3) ∷ [];
    sense = Minimise;
    rows = row (codes "R0") G (n 1) x ∷ row (codes "L0") G (n 2) x ∷ row (codes "U0") L (n 2) x ∷ [];
  };
  claim = Range (n 6) (n 6);
  points = (pos 2 ∷ []) ∷ [];
  lines = (row (codes "N0") G (n 6) ((0, n 3) ∷ []), Lin ((1, n 3) ∷ [])) ∷ [];
}
unfolding frac gcd gcd_within ◌+ℚ◌ ◌*ℚ◌ neg_ℚ digits
table1 = refl

-- the same, maximised: the upper bound's line, and the other sense
table1_maximised : shown (merged (maximised (one ((0, n 3) ∷ []) (bare G (n 1) x ∷ []) (pos 2) (pos 2))) (events (Offer (pos 2 ∷ []) ∷ Close 0 (Bound [] false) ∷ [])))
    ≡ (Range (n 6) (n 6), (pos 2 ∷ []) ∷ [], (row (codes "N0") L (n 6) ((0, n 3) ∷ []), Lin ((2, n 3) ∷ [])) ∷ [])
unfolding frac gcd gcd_within ◌+ℚ◌ ◌*ℚ◌ neg_ℚ digits
table1_maximised = refl

-- minimise x, 2x >= 11, x in 0..5
table2 : shown (merged (one x (bare G (n 11) ((0, n 2) ∷ []) ∷ []) (pos 0) (pos 5)) (events (Close 0 (Refute ((0, n 1) ∷ [])) ∷ [])))
    ≡ (Infeas, [], (row (codes "N0") G (n 1) [], Lin ((0, n 1) ∷ (2, m 1) ∷ [])) ∷ [])
unfolding frac gcd gcd_within ◌+ℚ◌ ◌*ℚ◌ neg_ℚ digits
table2 = refl

-- minimise x, 2x >= 3, x in 0..5, with one cut
abbrev cut3 : Cut
cut3 = record { row = bare G (n 2) x; mult = (0, frac (pos 1) 2) ∷ [] }

table3 : shown (merged_with (one x (bare G (n 3) ((0, n 2) ∷ []) ∷ []) (pos 0) (pos 5)) (cut3 ∷ []) (events (Offer (pos 2 ∷ []) ∷ Close 0 (Bound ((3, n 1) ∷ []) false) ∷ [])))
    ≡ (Range (n 2) (n 2), (pos 2 ∷ []) ∷ [], (row (codes "K0") G (n 2) x, Rnd ((0, frac (pos 1) 2) ∷ [])) ∷ (row (codes "N0") G (n 2) x, Lin ((3, n 1) ∷ [])) ∷ [])
unfolding frac gcd gcd_within ◌+ℚ◌ ◌*ℚ◌ neg_ℚ digits
table3 = refl

-- maximise x, 2x <= 5, x in 0..5, with one cut, which the node's line takes with the negated multiplier
abbrev cut3_maximised : Cut
cut3_maximised = record { row = bare G (m 1) ((0, m 0) ∷ []); mult = (0, frac (negsuc 0) 2) ∷ [] }

table3_maximised : shown (merged_with (maximised (one x (bare L (n 5) ((0, n 2) ∷ []) ∷ []) (pos 0) (pos 5))) (cut3_maximised ∷ []) (events (Offer (pos 2 ∷ []) ∷ Close 0 (Bound ((3, n 1) ∷ []) false) ∷ [])))
    ≡ (Range (n 2) (n 2), (pos 2 ∷ []) ∷ [], (row (codes "K0") G (m 1) ((0, m 0) ∷ []), Rnd ((0, frac (negsuc 0) 2) ∷ [])) ∷ (row (codes "N0") L (n 2) x, Lin ((3, m 0) ∷ [])) ∷ [])
unfolding frac gcd gcd_within ◌+ℚ◌ ◌*ℚ◌ neg_ℚ digits
table3_maximised = refl

-- minimise x, x in 3..2
table4 : shown (merged (one x [] (pos 3) (pos 2)) (events (Close 0 (Empty 0) ∷ []))) ≡ (Infeas, [], (row (codes "N0") G (n 1) [], Lin ((0, n 1) ∷ (1, m 0) ∷ [])) ∷ [])
unfolding frac gcd gcd_within ◌+ℚ◌ ◌*ℚ◌ neg_ℚ digits
table4 = refl

-- minimise nothing, x in 0..5
table5 : shown (merged (one [] [] (pos 0) (pos 5)) (events (Offer (pos 0 ∷ []) ∷ Close 0 (Bound [] false) ∷ []))) ≡ (Range (n 0) (n 0), (pos 0 ∷ []) ∷ [], (row (codes "N0") G (n 0) [], Lin []) ∷ [])
unfolding frac gcd gcd_within ◌+ℚ◌ ◌*ℚ◌ neg_ℚ digits
table5 = refl

-- minimise x / 2, x in 1..5
table20 : shown (merged (one ((0, frac (pos 1) 2) ∷ []) [] (pos 1) (pos 5)) (events (Offer (pos 1 ∷ []) ∷ Close 0 (Bound [] false) ∷ [])))
    ≡ (Range (frac (pos 1) 2) (frac (pos 1) 2), (pos 1 ∷ []) ∷ [], (row (codes "N0") G (frac (pos 1) 2) ((0, frac (pos 1) 2) ∷ []), Lin ((0, frac (pos 1) 2) ∷ [])) ∷ [])
unfolding frac gcd gcd_within ◌+ℚ◌ ◌*ℚ◌ neg_ℚ digits
table20 = refl

-- 2x + 2y = 3, x and y in 0..1
abbrev even : Problem
even = record { names = codes "x" ∷ codes "y" ∷ []; rows = bare E (n 3) ((0, n 2) ∷ (1, n 2) ∷ []) ∷ []; objective = []; sense = Minimise; spans = span (pos 0) (pos 1) ∷ span (pos 0) (pos 1) ∷ [] }

-- row 0 as it stands, and with its signs turned
abbrev by_row : ℕ → Event
by_row i = Close i (Refute ((0, n 1) ∷ []))

abbrev by_turned_row : ℕ → Event
by_turned_row i = Close i (Refute ((0, m 0) ∷ []))

abbrev tree : List Entry
tree = events (Split 0 1 (pos 0) (Stalled 0) ∷ by_row 1 ∷ Split 2 0 (pos 0) (Stalled 0) ∷ by_turned_row 4 ∷ by_row 3 ∷ [])

table6 : shown (merged even tree) ≡ (
  Infeas,
  [],
  (row (codes "A1") L (n 0) y, Asm) ∷
      (row (codes "A2") G (n 1) y, Asm) ∷
      (row (codes "A3") L (n 0) x, Asm) ∷
      (row (codes "A4") G (n 1) x, Asm) ∷
      (row (codes "N4") G (n 1) [], Lin ((0, m 0) ∷ (6, n 2) ∷ (8, n 2) ∷ [])) ∷
      (row (codes "N3") G (n 1) [], Lin ((0, n 1) ∷ (4, m 1) ∷ (7, m 1) ∷ [])) ∷
      (row (codes "N2") G (n 1) [], Uns 10 7 9 8) ∷
      (row (codes "N1") G (n 1) [], Lin ((0, n 1) ∷ (2, m 1) ∷ (5, m 1) ∷ [])) ∷
      (row (codes "N0") G (n 1) [], Uns 12 5 11 6) ∷ [],
)
unfolding frac gcd gcd_within ◌+ℚ◌ ◌*ℚ◌ neg_ℚ digits
table6 = refl

-- the same with two cuts, at node 0
abbrev cuts11 : List Cut
cuts11 =
    record { row = bare G (n 2) ((0, n 1) ∷ (1, n 1) ∷ []); mult = (0, frac (pos 1) 2) ∷ [] } ∷
    record { row = bare G (m 0) ((0, m 0) ∷ (1, m 0) ∷ []); mult = (0, frac (negsuc 0) 2) ∷ [] } ∷ []

table11 : shown (merged_with even cuts11 (events (Close 0 (Refute ((0, frac (negsuc 0) 2) ∷ (5, n 1) ∷ [])) ∷ []))) ≡ (
  Infeas,
  [],
  (row (codes "K0") G (n 2) ((0, n 1) ∷ (1, n 1) ∷ []), Rnd ((0, frac (pos 1) 2) ∷ [])) ∷
      (row (codes "K1") G (m 0) ((0, m 0) ∷ (1, m 0) ∷ []), Rnd ((0, frac (negsuc 0) 2) ∷ [])) ∷
      (row (codes "N0") G (n 1) [], Lin ((0, frac (negsuc 0) 2) ∷ (5, n 1) ∷ [])) ∷ [],
)
unfolding frac gcd gcd_within ◌+ℚ◌ ◌*ℚ◌ neg_ℚ digits
table11 = refl

-- the same rows, split on x first, without cuts
abbrev x_first : List Entry
x_first = events (Split 0 0 (pos 0) (Stalled 0) ∷ by_row 1 ∷ Split 2 1 (pos 0) (Stalled 0) ∷ by_row 3 ∷ by_turned_row 4 ∷ [])

table_x_first : shown (merged even x_first) ≡ (
  Infeas,
  [],
  (row (codes "A1") L (n 0) x, Asm) ∷
      (row (codes "A2") G (n 1) x, Asm) ∷
      (row (codes "A3") L (n 0) y, Asm) ∷
      (row (codes "A4") G (n 1) y, Asm) ∷
      (row (codes "N4") G (n 1) [], Lin ((0, m 0) ∷ (6, n 2) ∷ (8, n 2) ∷ [])) ∷
      (row (codes "N3") G (n 1) [], Lin ((0, n 1) ∷ (2, m 1) ∷ (7, m 1) ∷ [])) ∷
      (row (codes "N2") G (n 1) [], Uns 10 7 9 8) ∷
      (row (codes "N1") G (n 1) [], Lin ((0, n 1) ∷ (4, m 1) ∷ (5, m 1) ∷ [])) ∷
      (row (codes "N0") G (n 1) [], Uns 12 5 11 6) ∷ [],
)
unfolding frac gcd gcd_within ◌+ℚ◌ ◌*ℚ◌ neg_ℚ digits
table_x_first = refl
