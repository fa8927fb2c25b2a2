-- Lemmas: what a valid certificate claims is true.
use Rattle.std.specs.Prelude.{◌≡◌, ◌+◌, ◌-◌, ◌*◌, ℕ, zero, suc, ℤ, pos, List, [], ◌∷◌, ◌++◌, map, length, All, slice_index_or, refl}
use Rattle.std.proofs.Common.{sym, ap, ◌∙◌, subst, inl, inr, arith}
use Rattle.std.proofs.lemmas.List.Elements.{All-nil, All-cons, All-head, All-tail, All-weaker, All-append}
use Rattle.std.proofs.Math.Seq.{get_or-append_seam}
use Rattle.fraction.specs.Rational.{ℚ, whole, ◌≤ℚ◌}
use Rattle.fraction.specs.Lemmas.Rational.{≤ℚ_refl, one-*ℚ}
use Rattle.fraction.specs.Lemmas.Order.{whole-≤ℚ}
use Rattle.problem_box.specs.declared.span.Span.{Span}
use Rattle.problem_box.specs.Boxes.{IsInBox}
use Rattle.problem.specs.declared.row.Row.{Row}
use Rattle.problem.specs.declared.objective_sense.ObjectiveSense.{ObjectiveSense}
use Rattle.problem.specs.declared.objective_sense.ObjectiveSense.TheVariants.{Minimise, Maximise}
use Rattle.problem.specs.Linear.{value, number_at}
use Rattle.fraction.specs.Lemmas.Ring.{+ℚ-zero}
use Rattle.problem.specs.Rows.{Compares, Satisfies}
use Rattle.problem.specs.Problem.{Problem}
use Rattle.problem.specs.Feasible.{IsFeasible, objective_at}
use Rattle.problem.specs.Best.{IsVoid}
use Rattle.cert_rows.specs.declared.line.CertRow.{CertRow}
use Rattle.cert_rows.specs.declared.line.Why.{Why}
use Rattle.cert_rows.specs.declared.line.Why.TheVariants.{Asm, Lin, Rnd, Uns}
use Rattle.cert_rows.specs.declared.certificate.Goal.{Goal}
use Rattle.cert_rows.specs.declared.certificate.Goal.TheVariants.{Infeas, Range}
use Rattle.cert_rows.specs.declared.certificate.Cert.{Cert}
use Rattle.cert_rows.specs.Lines.{CertLine, row_of, row_at, assumed_by, no_cert_line}
use Rattle.cert_rows.specs.Combination.{combination}
use Rattle.cert_rows.specs.Domination.{Dominates}
use Rattle.cert_rows.specs.Assumptions.{assumes, assumed_by_all, without}
use Rattle.cert_rows.specs.Validity.{Follows, IsLinear, IsRounded, IsUnsplit, rounded, derived_line_of, with_derived, AllFollow, lower_row, upper_row, bound_rows, given_lines, all_lines, last_row, bound_sense, objective_row, ShowsRange, ShowsClaim, IsValid}
use Rattle.cert_rows.specs.Lemmas.Signs.{Satisfies-combination, Satisfies-dominated, Satisfies-rounded, Satisfies-split, none-absurd}
use Rattle.cert_rows.specs.Lemmas.Held.{All-union, All-without, All-assumed}
use Rattle.cert_rows.specs.Soundness.{IsInRange}

-- the point satisfies the line, if it satisfies its assumptions
abbrev pub HoldsUnderAssumptions : List ℤ → List CertLine → CertLine → Type 0
HoldsUnderAssumptions x ls l = All (λ n. Satisfies x (row_at ls n)) l.assumes → Satisfies x l.row

abbrev pub AllHold : List ℤ → List CertLine → Type 0
AllHold x ls = (i : ℕ) → HoldsUnderAssumptions x ls (slice_index_or ls i no_cert_line)

-- ---- one line
referred : (x : List ℤ) (ls : List CertLine) (mult : List (ℕ × ℚ)) → AllHold x ls → All (λ n. Satisfies x (row_at ls n)) (assumed_by_all ls mult)
    → All (λ m. Satisfies x (row_at ls m.0)) mult
referred x ls mult h a =
    All-weaker (λ (m : ℕ × ℚ). All (λ n. Satisfies x (row_at ls n)) (assumed_by ls m.0)) (λ (m : ℕ × ℚ). Satisfies x (row_at ls m.0)) (λ m k. h m.0 k) mult
    (All-assumed (λ n. Satisfies x (row_at ls n)) ls mult a)

linear : (x : List ℤ) (ls : List CertLine) (r : Row) (mult : List (ℕ × ℚ)) → AllHold x ls → IsLinear ls r mult
    → All (λ n. Satisfies x (row_at ls n)) (assumed_by_all ls mult) → Satisfies x r
linear x ls r mult h f a =
    Satisfies-dominated x (combination r.sense ls mult) r f.dominates (Satisfies-combination x r.sense ls mult f.combined.signs (referred x ls mult h a))

rounding : (x : List ℤ) (ls : List CertLine) (r : Row) (mult : List (ℕ × ℚ)) → AllHold x ls → IsRounded ls r mult
    → All (λ n. Satisfies x (row_at ls n)) (assumed_by_all ls mult) → Satisfies x r
rounding x ls r mult h f a =
    Satisfies-dominated x (rounded (combination r.sense ls mult)) r f.dominates
    (Satisfies-rounded x (combination r.sense ls mult) f.whole_terms (Satisfies-combination x r.sense ls mult f.combined.signs (referred x ls mult h a)))

unsplit : (x : List ℤ) (ls : List CertLine) (r : Row) (i1 l1 i2 l2 : ℕ) → AllHold x ls → IsUnsplit ls r i1 l1 i2 l2
    → All (λ n. Satisfies x (row_at ls n)) (assumes ls (Uns i1 l1 i2 l2)) → Satisfies x r
unsplit x ls r i1 l1 i2 l2 h f a =
    let P : ℕ → Type 0 = λ n. Satisfies x (row_at ls n) in
    let both = All-union P (without l1 (assumed_by ls i1)) (without l2 (assumed_by ls i2)) a in
    elim (Satisfies-split x (row_at ls l1) (row_at ls l2) f.split) [
      | inl low ↦ Satisfies-dominated x (row_at ls i1) r f.first_dominates (h i1 (All-without P l1 (assumed_by ls i1) low both.0))
      | inr high ↦ Satisfies-dominated x (row_at ls i2) r f.second_dominates (h i2 (All-without P l2 (assumed_by ls i2) high both.1))
    ]

-- ---- one line more
-- what a line is in a longer list, it is in the prefix of it, or it isn't there
before : (x : List ℤ) (ls ms : List CertLine) (n : ℕ) → Satisfies x (row_at (ls ++ ms) n) → Satisfies x (row_at ls n)
before x [] ms n h = ≤ℚ_refl _
before x (l ∷ ls) ms zero h = h
before x (l ∷ ls) ms (suc n) h = before x ls ms n h

each_of : (P : CertLine → Type 0) (ls : List CertLine) (y : CertLine) → ((i : ℕ) → P (slice_index_or ls i no_cert_line)) → P y → (i : ℕ) → P (slice_index_or (ls ++ y ∷ []) i no_cert_line)
each_of P [] y h k zero = k
each_of P [] y h k (suc i) = h zero
each_of P (l ∷ ls) y h k zero = h zero
each_of P (l ∷ ls) y h k (suc i) = each_of P ls y (λ i. h (suc i)) k i

earlier : (x : List ℤ) (ls : List CertLine) (y : CertLine) (ns : List ℕ) → All (λ n. Satisfies x (row_at (ls ++ y ∷ []) n)) ns → All (λ n. Satisfies x (row_at ls n)) ns
earlier x ls y ns h = All-weaker (λ n. Satisfies x (row_at (ls ++ y ∷ []) n)) (λ n. Satisfies x (row_at ls n)) (λ n k. before x ls (y ∷ []) n k) ns h

next_holds : (x : List ℤ) (ls : List CertLine) (r : CertRow) (w : Why) → AllHold x ls → Follows ls (row_of r) w
    → HoldsUnderAssumptions x (ls ++ derived_line_of ls (r, w) ∷ []) (derived_line_of ls (r, w))
next_holds x ls r Asm h f a =
    let y = derived_line_of ls (r, Asm) in
    subst (λ (l : CertLine). Satisfies x l.row) (get_or-append_seam ls y [] no_cert_line) (All-head (λ n. Satisfies x (row_at (ls ++ y ∷ []) n)) (length ls) [] a)
next_holds x ls r (Lin mult) h f a = linear x ls (row_of r) mult h f (earlier x ls _ _ a)
next_holds x ls r (Rnd mult) h f a = rounding x ls (row_of r) mult h f (earlier x ls _ _ a)
next_holds x ls r (Uns i1 l1 i2 l2) h f a = unsplit x ls (row_of r) i1 l1 i2 l2 h f (earlier x ls _ _ a)

one_more : (x : List ℤ) (ls : List CertLine) (d : CertRow × Why) → AllHold x ls → Follows ls (row_of d.0) d.1 → AllHold x (ls ++ derived_line_of ls d ∷ [])
one_more x ls d h f =
    each_of (HoldsUnderAssumptions x (ls ++ derived_line_of ls d ∷ [])) ls (derived_line_of ls d)
    (λ i a. h i (earlier x ls (derived_line_of ls d) (assumed_by ls i) a)) (next_holds x ls d.0 d.1 h f)

-- each derived line holds at every point that satisfies the given lines and its assumptions
pub AllHold-derived : (x : List ℤ) (ls : List CertLine) (ds : List (CertRow × Why)) → AllHold x ls → AllFollow ls ds → AllHold x (with_derived ls ds)
AllHold-derived x ls [] h f = h
AllHold-derived x ls (d ∷ ds) h f = AllHold-derived x (ls ++ derived_line_of ls d ∷ []) ds (one_more x ls d h f.0) f.1

-- ---- the given lines
pub length-bounds : (j : ℕ) (ss : List Span) → length (bound_rows j ss) ≡ 2 * length ss
length-bounds j [] = refl
length-bounds j (s ∷ ss) = omega (arith, length-bounds (j + 1) ss)

pub unit_value : (x : List ℤ) (j : ℕ) (y : ℤ) → number_at x j ≡ y → value ((j, whole (pos 1)) ∷ []) x ≡ whole y
unit_value x j y e = +ℚ-zero _ ∙ one-*ℚ _ ∙ ap whole e

pub satisfies_bounds : (x : List ℤ) (j : ℕ) (ss : List Span) (ys : List ℤ) → ((k : ℕ) → number_at x (j + k) ≡ number_at ys k) → IsInBox ss ys → All (Satisfies x) (bound_rows j ss)
satisfies_bounds x j [] ys h b = All-nil (Satisfies x)
satisfies_bounds x j (s ∷ ss) [] h b = absurd b
satisfies_bounds x j (s ∷ ss) (y ∷ ys) h b =
    let e : value ((j, whole (pos 1)) ∷ []) x ≡ whole y = unit_value x j y (ap (number_at x) (omega arith) ∙ h zero) in
    All-cons (Satisfies x) (lower_row j s) (upper_row j s ∷ bound_rows (j + 1) ss) (subst (λ v. whole s.lo ≤ℚ v) (sym e) (whole-≤ℚ _ _ b.0.0))
    (All-cons (Satisfies x) (upper_row j s) (bound_rows (j + 1) ss) (subst (λ v. v ≤ℚ whole s.hi) (sym e) (whole-≤ℚ _ _ b.0.1))
    (satisfies_bounds x (j + 1) ss ys (λ k. ap (number_at x) (omega arith) ∙ h (suc k)) b.1))

given_at : (x : List ℤ) (rs : List CertRow) → All (Satisfies x) (map row_of rs) → (i : ℕ) → Satisfies x (row_at (given_lines rs) i)
given_at x [] h i = ≤ℚ_refl _
given_at x (r ∷ rs) h zero = All-head (Satisfies x) (row_of r) (map row_of rs) h
given_at x (r ∷ rs) h (suc i) = given_at x rs (All-tail (Satisfies x) (row_of r) (map row_of rs) h) i

pub AllHold-all : (p : Problem) (c : Cert) → IsValid p c → (x : List ℤ) → IsFeasible p x → AllHold x (all_lines c)
AllHold-all p c v x f =
    let rows : All (Satisfies x) (p.rows ++ bound_rows 0 p.spans) =
    All-append (Satisfies x) p.rows (bound_rows 0 p.spans) f.rows (satisfies_bounds x 0 p.spans x (λ k. ap (number_at x) (omega arith)) f.in_box) in
    AllHold-derived x (given_lines c.part.rows) c.lines
    (λ i _. given_at x c.part.rows (subst (All (Satisfies x)) (sym v.rows) rows) i) v.lines

-- the last line of a valid certificate holds at each feasible point
pub last_holds : (p : Problem) (c : Cert) → IsValid p c → (x : List ℤ) → IsFeasible p x → Satisfies x (last_row c)
last_holds p c v x f =
    AllHold-all p c v x f (length (all_lines c) - 1) (subst (All (λ n. Satisfies x (row_at (all_lines c) n))) (sym v.unconditional) (All-nil (λ n. Satisfies x (row_at (all_lines c) n))))

abbrev pub ClaimHolds : Problem → Cert → Goal → Type 0
ClaimHolds p c Infeas = IsVoid p
ClaimHolds p c (Range lb ub) = IsInRange p.sense p c lb ub

-- each feasible point is on the good side of the bound that the last line shows
bounded : (p : Problem) (c : Cert) (bound : ℚ) → IsValid p c → Dominates (last_row c) (objective_row p bound) → (x : List ℤ) → IsFeasible p x
    → (s : ObjectiveSense) → p.sense ≡ s → Compares (bound_sense s) bound (objective_at p x)
bounded p c bound v d x f s e =
    subst (λ (t : ObjectiveSense). Compares (bound_sense t) bound (objective_at p x)) e (Satisfies-dominated x (last_row c) (objective_row p bound) d (last_holds p c v x f))

in_range : (s : ObjectiveSense) (p : Problem) (c : Cert) (lb ub : ℚ) → p.sense ≡ s → IsValid p c → ShowsRange s p c lb ub → IsInRange s p c lb ub
in_range Minimise p c lb ub e v h = record {
  below = λ x f. bounded p c lb v h.0 x f Minimise e;
  listed = let a = h.1 in (a.0, a.1, a.2, a.3, (subst (IsFeasible p) a.3 (v.solutions a.0 a.1 a.2), a.4));
}
in_range Maximise p c lb ub e v h = record {
  above = λ x f. bounded p c ub v h.0 x f Maximise e;
  listed = let a = h.1 in (a.0, a.1, a.2, a.3, (subst (IsFeasible p) a.3 (v.solutions a.0 a.1 a.2), a.4));
}

claimed : (p : Problem) (c : Cert) (g : Goal) → IsValid p c → ShowsClaim p c g → ClaimHolds p c g
claimed p c Infeas v s = λ x f. none-absurd x (last_row c) s (last_holds p c v x f)
claimed p c (Range lb ub) v s = in_range p.sense p c lb ub refl v s

pub claim_holds : (p : Problem) (c : Cert) → IsValid p c → ClaimHolds p c c.claim
claim_holds p c v = claimed p c c.claim v v.claim
