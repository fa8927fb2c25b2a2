-- Lemmas: the lines of closed nodes follow from the lines before them.
use Rattle.std.specs.Prelude.{◌≡◌, ℕ, pos, Bool, true, false, cond, nat_lt, eqb, List, [], ◌∷◌, All, refl}
use Rattle.std.proofs.Common.{sym, ap, ◌∙◌, subst, inl, inr}
use Rattle.std.proofs.lemmas.List.Elements.{All-nil, All-cons, All-head, All-tail}
use Rattle.fraction.specs.Rational.{ℚ, whole, floor, ceil, neg_ℚ, ◌≤ℚ◌}
use Rattle.fraction.specs.Lemmas.Rational.{≤ℚ_trans}
use Rattle.fraction.specs.Order.{◌<ℚ◌}
use Rattle.problem.specs.declared.objective_sense.ObjectiveSense.{ObjectiveSense}
use Rattle.problem.specs.declared.objective_sense.ObjectiveSense.TheVariants.{Minimise, Maximise}
use Rattle.problem.specs.declared.row.Row.{Row}
use Rattle.problem.specs.Linear.{coefficient}
use Rattle.problem.specs.Directions.{negated, directed, directed_value}
use Rattle.problem.specs.Lemmas.Directions.{neg-≤ℚ}
use Rattle.cert_rows.specs.declared.line.Why.TheVariants.{Lin, Rnd}
use Rattle.cert_rows.specs.Lines.{CertLine, assumed_by}
use Rattle.cert_rows.specs.Assumptions.{inserted, union, without, assumed_by_all}
use Rattle.cert_rows.specs.Validity.{Follows, bound_sense}
use Rattle.cert_merge.specs.Merged.{absurd_row}
use Rattle.cert_merge.specs.Laws.{Closes}
use Rattle.cert_merge.specs.Lemmas.Negated.{whole_negated, floor-neg, terms_negated, rhs_negated, combination_negated, own_terms}
use Rattle.fraction.specs.Whole.{IsWhole}

-- the row that bounds the own objective, by a bound of what is minimised
abbrev bound_row : ObjectiveSense → ℚ → List (ℕ × ℚ) → Row
bound_row s z terms = record { sense = bound_sense s; rhs = directed_value s z; terms = terms }

-- a bound that the price reaches
pub follows-bound : (s : ObjectiveSense) (ls : List CertLine) (terms : List (ℕ × ℚ)) (p z : ℚ) (ms : List (ℕ × ℚ)) → Closes ls (directed s terms) p ms → z ≤ℚ p
    → Follows ls (bound_row s z terms) (Lin (directed s ms))
follows-bound Minimise ls terms p z ms c h = record {
  combined = c.combined;
  dominates = inr (record { sense = refl; terms = c.terms; rhs = subst (λ v. z ≤ℚ v) (sym c.rhs) h });
}
follows-bound Maximise ls terms p z ms c h = record {
  combined = combination_negated ls ms c.combined;
  dominates = inr (record { sense = refl; terms = own_terms ls terms p ms c; rhs = subst (λ v. v ≤ℚ neg_ℚ z) (sym (rhs_negated ls ms ∙ ap neg_ℚ c.rhs)) (neg-≤ℚ z p h) });
}

-- a bound that the price reaches once it is rounded up
pub follows-rounded : (s : ObjectiveSense) (ls : List CertLine) (terms : List (ℕ × ℚ)) (p z : ℚ) (ms : List (ℕ × ℚ)) → Closes ls (directed s terms) p ms
    → ((j : ℕ) → IsWhole (coefficient (directed s terms) j)) → z ≤ℚ whole (ceil p) → Follows ls (bound_row s z terms) (Rnd (directed s ms))
follows-rounded Minimise ls terms p z ms c w h = record {
  combined = c.combined;
  whole_terms = λ j. subst IsWhole (sym (c.terms j)) (w j);
  dominates = inr (record { sense = refl; terms = c.terms; rhs = subst (λ v. z ≤ℚ whole (ceil v)) (sym c.rhs) h });
}
follows-rounded Maximise ls terms p z ms c w h = record {
  combined = combination_negated ls ms c.combined;
  whole_terms = λ j. subst IsWhole (sym (terms_negated ls ms j ∙ ap neg_ℚ (c.terms j))) (whole_negated (coefficient (negated terms) j) (w j));
  dominates = inr (record {
    sense = refl;
    terms = own_terms ls terms p ms c;
    rhs = subst (λ v. whole (floor v) ≤ℚ neg_ℚ z) (sym (rhs_negated ls ms ∙ ap neg_ℚ c.rhs)) (≤ℚ_trans _ _ _ (floor-neg p) (neg-≤ℚ z (whole (ceil p)) h));
  });
}

-- a price above 0 of the zero target
pub follows-refute : (ls : List CertLine) (p : ℚ) (ms : List (ℕ × ℚ)) → Closes ls [] p ms → whole (pos 0) <ℚ p → Follows ls absurd_row (Lin ms)
follows-refute ls p ms c h = record {
  combined = c.combined;
  dominates = inl (record { no_terms = c.terms; excludes = subst (λ v. whole (pos 0) <ℚ v) (sym c.rhs) h });
}

-- ---- what lines assume
inserted_holds : (P : ℕ → Type 0) (n : ℕ) (ks : List ℕ) → P n → All P ks → All P (inserted n ks)
inserted_holds P n [] p h = All-cons P n [] p h
inserted_holds P n (k ∷ ks) p h = step (nat_lt n k) (eqb n k) (inserted_holds P n ks p (All-tail P k ks h))
  where
    step : (b c : Bool) → All P (inserted n ks) → All P (cond b (n ∷ k ∷ ks) (cond c (k ∷ ks) (k ∷ inserted n ks)))
    step true c ih = All-cons P n (k ∷ ks) p h
    step false true ih = h
    step false false ih = All-cons P k (inserted n ks) (All-head P k ks h) ih

pub union_holds : (P : ℕ → Type 0) (ns ks : List ℕ) → All P ns → All P ks → All P (union ns ks)
union_holds P [] ks h k = k
union_holds P (n ∷ ns) ks h k = inserted_holds P n (union ns ks) (All-head P n ns h) (union_holds P ns ks (All-tail P n ns h) k)

pub all_hold : (P : ℕ → Type 0) (ls : List CertLine) (ms : List (ℕ × ℚ)) → All (λ m. All P (assumed_by ls m.0)) ms → All P (assumed_by_all ls ms)
all_hold P ls [] h = All-nil P
all_hold P ls (m ∷ ms) h =
    union_holds P (assumed_by ls m.0) (assumed_by_all ls ms) (All-head (λ (m : ℕ × ℚ). All P (assumed_by ls m.0)) m ms h) (all_hold P ls ms (All-tail (λ (m : ℕ × ℚ). All P (assumed_by ls m.0)) m ms h))

-- all numbers but l have P: without l, all have it
pub without_holds : (P : ℕ → Type 0) (l : ℕ) (ks : List ℕ) → All (λ k. (eqb l k ≡ false) → P k) ks → All P (without l ks)
without_holds P l [] h = All-nil P
without_holds P l (k ∷ ks) h =
    step (eqb l k) (All-head (λ k. (eqb l k ≡ false) → P k) k ks h) (without_holds P l ks (All-tail (λ k. (eqb l k ≡ false) → P k) k ks h))
  where
    step : (b : Bool) → (b ≡ false → P k) → All P (without l ks) → All P (cond b (without l ks) (k ∷ without l ks))
    step true p ih = ih
    step false p ih = All-cons P k (without l ks) (p refl) ih
