-- Rows and their entries that aren't 0: each gives the other.
use Rattle.std.proofs.Common.{◌≡◌, ℕ, zero, suc, ◌+◌, ◌<◌, ◌≤◌, arith, refl, ap, sym, ◌∙◌, subst, Bool, true, false, [], ◌∷◌, length, get_or, take, drop, replicate, ◌++◌, inl, inr}
use Rattle.std.specs.Prelude.{pos, All, if◌then◌else◌}
use Rattle.std.specs.Ordering.{int_eq}
use Rattle.std.proofs.lemmas.Bool.{lt-ltb, le-ltb, eq-eqb, ne_eqb, cases_eq}
use Rattle.std.proofs.lemmas.List.Elements.{All-nil, All-cons, All-head, All-tail}
use Rattle.std.proofs.Math.Seq.{drop-nil, take-nil}
use Rattle.fraction.specs.Rational.{ℚ}
use Rattle.fraction.specs.Fits.{FitsFraction}
use Rattle.problem.specs.Linear.{Terms, coefficient}
use Rattle.problem.specs.Lemmas.Linear.{beyond}
use Rattle.problem.specs.Lemmas.Rising.{rise_lower, before_first, at_first}
use Rattle.problem.specs.Rising.{RiseFrom, AreRising}
use Rattle.tableau.specs.Elimination.{Coefficients, zero_ℚ}
use Rattle.tableau.specs.LinearProgram.{coefficients_from}
use Rattle.tableau.specs.Start.{padded}
use Rattle.tableau.specs.Lemmas.Started.{length-coefficients, past_term}
use Rattle.tableau.specs.Sparse.{with_entry, nonzeros, HasFraction, IsSparse, kept_below, before_variable, from_variable, first_coefficient}
use Rattle.tableau.specs.SparseSteps.{IsPosition}
use Rattle.fraction.specs.Lemmas.Checked.{zero_has_fraction, zero_from_test, zero_test}

-- ---- rising terms
pub nonzeros_rise : (j : ℕ) (ts : Coefficients) → RiseFrom j (nonzeros j ts)
nonzeros_rise j [] = tt
nonzeros_rise j (t ∷ ts) = at (int_eq t.num (pos 0)) (nonzeros_rise (j + 1) ts)
  where
    next : j + 1 ≡ suc j
    next = omega arith

    at : (b : Bool) → RiseFrom (j + 1) (nonzeros (j + 1) ts) → RiseFrom j (if b then nonzeros (j + 1) ts else (j, t) ∷ nonzeros (j + 1) ts)
    at true r = rise_lower j (j + 1) (nonzeros (j + 1) ts) (omega arith) r
    at false r = (omega arith, subst (λ k. RiseFrom k (nonzeros (j + 1) ts)) next r)

-- ---- coefficients
pub row_of_nonzeros : (j : ℕ) (ts : Coefficients) → coefficients_from j (length ts) (nonzeros j ts) ≡ ts
row_of_nonzeros j [] = refl
row_of_nonzeros j (t ∷ ts) = at (int_eq t.num (pos 0)) refl (row_of_nonzeros (j + 1) ts)
  where
    rest : RiseFrom (suc j) (nonzeros (j + 1) ts)
    rest = subst (λ k. RiseFrom k (nonzeros (j + 1) ts)) (let e : j + 1 ≡ suc j = omega arith in e) (nonzeros_rise (j + 1) ts)

    at : (b : Bool) → int_eq t.num (pos 0) ≡ b → coefficients_from (j + 1) (length ts) (nonzeros (j + 1) ts) ≡ ts
        → coefficients_from j (suc (length ts)) (if b then nonzeros (j + 1) ts else (j, t) ∷ nonzeros (j + 1) ts) ≡ t ∷ ts
    at true e ih = λ i. (before_first (suc j) (nonzeros (j + 1) ts) j rest (omega arith) ∙ sym (zero_from_test t e)) i ∷ ih i
    at false e ih = λ i. at_first (j, t) (nonzeros (j + 1) ts) j rest refl i
        ∷ (past_term (j, t) (nonzeros (j + 1) ts) (j + 1) (length ts) (omega arith) ∙ ih) i

-- ---- entries of rising terms
no_terms : (j k : ℕ) → nonzeros j (coefficients_from j k []) ≡ []
no_terms j zero = refl
no_terms j (suc k) = ap (λ b. if b then nonzeros (j + 1) (coefficients_from (j + 1) k []) else (j, zero_ℚ) ∷ nonzeros (j + 1) (coefficients_from (j + 1) k [])) zero_test ∙ no_terms (j + 1) k

kept_none : (w : ℕ) (ts : Terms) → RiseFrom w ts → kept_below w ts ≡ []
kept_none w [] h = refl
kept_none w (t ∷ ts) h = ap (λ b. if b then with_entry t.0 t.1 (kept_below w ts) else kept_below w ts) (le-ltb t.0 w h.0) ∙ kept_none w ts (rise_lower w (suc t.0) ts (omega (arith, h.0)) h.1)

kept_step : (j k w : ℕ) (ts : Terms) → j + suc k ≡ w → RiseFrom (j + 1) ts → nonzeros (j + 1) (coefficients_from (j + 1) k ts) ≡ kept_below w ts
    → nonzeros j (coefficients_from j (suc k) ts) ≡ kept_below w ts
kept_step j k w ts e h ih =
    ap (λ z. with_entry j z (nonzeros (j + 1) (coefficients_from (j + 1) k ts))) (before_first (j + 1) ts j h (omega arith))
    ∙ ap (λ b. if b then nonzeros (j + 1) (coefficients_from (j + 1) k ts) else (j, zero_ℚ) ∷ nonzeros (j + 1) (coefficients_from (j + 1) k ts)) zero_test ∙ ih

pub kept_is : (j k w : ℕ) (ts : Terms) → j + k ≡ w → RiseFrom j ts → nonzeros j (coefficients_from j k ts) ≡ kept_below w ts
kept_is j zero w ts e h = sym (kept_none w ts (subst (λ m. RiseFrom m ts) (omega arith) h))
kept_is j (suc k) w [] e h = no_terms j (suc k)
kept_is j (suc k) w (t ∷ ts) e h = elim (cases_eq t.0 j) [
  | inl f ↦
      let rest : RiseFrom (j + 1) ts = subst (λ m. RiseFrom m ts) (let g : suc t.0 ≡ j + 1 = omega (arith, f) in g) h.1 in
      let first : coefficient (t ∷ ts) j ≡ t.1 = at_first t ts j h.1 f in
      let others : nonzeros (j + 1) (coefficients_from (j + 1) k (t ∷ ts)) ≡ kept_below w ts =
      ap (nonzeros (j + 1)) (past_term t ts (j + 1) k (omega (arith, f))) ∙ kept_is (j + 1) k w ts (omega arith) rest in
      (λ i. with_entry (sym f i) (first i) (others i)) ∙ sym (ap (λ b. if b then with_entry t.0 t.1 (kept_below w ts) else kept_below w ts) (lt-ltb t.0 w (omega (arith, f, e))))
  | inr f ↦
      let later : RiseFrom (j + 1) (t ∷ ts) = (omega (arith, h.0, f), h.1) in
      kept_step j k w (t ∷ ts) e later (kept_is (j + 1) k w (t ∷ ts) (omega arith) later)
]

-- ---- a row and its entries
-- what a row's entries are
pub row_from : (y : Coefficients) (w : ℕ) (es : Terms) → length y ≡ w → es ≡ nonzeros 0 y → coefficients_from 0 w es ≡ y
row_from y w es l e = (λ i. coefficients_from 0 (sym l i) (e i)) ∙ row_of_nonzeros 0 y

pub sparse_from : (y : Coefficients) (w : ℕ) (es : Terms) → length y ≡ w → es ≡ nonzeros 0 y → All HasFraction es → IsSparse w es
sparse_from y w es l e h = record { entries = e ∙ ap (nonzeros 0) (sym (row_from y w es l e)); fractions = h }

pub sparse_rise : (w : ℕ) (es : Terms) → IsSparse w es → AreRising es
sparse_rise w es h = subst AreRising (sym h.entries) (nonzeros_rise 0 (coefficients_from 0 w es))

fit_from : (j : ℕ) (ts : Coefficients) → All HasFraction (nonzeros j ts) → All FitsFraction ts
fit_from j [] h = All-nil FitsFraction
fit_from j (t ∷ ts) h = at (int_eq t.num (pos 0)) refl h (λ k. fit_from (j + 1) ts k)
  where
    at : (b : Bool) → int_eq t.num (pos 0) ≡ b → All HasFraction (if b then nonzeros (j + 1) ts else (j, t) ∷ nonzeros (j + 1) ts)
        → (All HasFraction (nonzeros (j + 1) ts) → All FitsFraction ts) → All FitsFraction (t ∷ ts)
    at true e h ih = All-cons FitsFraction t ts (subst FitsFraction (sym (zero_from_test t e)) zero_has_fraction) (ih h)
    at false e h ih = All-cons FitsFraction t ts (All-head HasFraction (j, t) (nonzeros (j + 1) ts) h) (ih (All-tail HasFraction (j, t) (nonzeros (j + 1) ts) h))

pub row_fits : (w : ℕ) (es : Terms) → IsSparse w es → All FitsFraction (coefficients_from 0 w es)
row_fits w es h = fit_from 0 (coefficients_from 0 w es) (subst (All HasFraction) h.entries h.fractions)

-- ---- one coefficient
not_there : (c k : ℕ) (es : Terms) → c < k → RiseFrom k es → first_coefficient c (from_variable c es) ≡ zero_ℚ
not_there c k [] l h = refl
not_there c k (e ∷ es) l h =
    ap (λ b. first_coefficient c (if b then from_variable c es else e ∷ es)) (le-ltb e.0 c (omega (arith, h.0)))
    ∙ ap (λ b. if b then e.1 else zero_ℚ) (ne_eqb e.0 c (λ f. omega (arith, h.0, f, l)))

coefficient_at : (j c : ℕ) (ts : Coefficients) → first_coefficient (j + c) (from_variable (j + c) (nonzeros j ts)) ≡ get_or ts c zero_ℚ
coefficient_at j c [] = refl
coefficient_at j zero (t ∷ ts) = at (int_eq t.num (pos 0)) refl
  where
    at : (b : Bool) → int_eq t.num (pos 0) ≡ b
        → first_coefficient (j + 0) (from_variable (j + 0) (if b then nonzeros (j + 1) ts else (j, t) ∷ nonzeros (j + 1) ts)) ≡ t
    at true e = not_there (j + 0) (j + 1) (nonzeros (j + 1) ts) (omega arith) (nonzeros_rise (j + 1) ts) ∙ sym (zero_from_test t e)
    at false e =
        ap (λ b. first_coefficient (j + 0) (if b then from_variable (j + 0) (nonzeros (j + 1) ts) else (j, t) ∷ nonzeros (j + 1) ts)) (le-ltb j (j + 0) (let l : j + 0 ≤ j = omega arith in l))
        ∙ ap (λ b. if b then t else zero_ℚ) (eq-eqb j (j + 0) (let f : j ≡ j + 0 = omega arith in f))
coefficient_at j (suc c) (t ∷ ts) = at (int_eq t.num (pos 0)) (coefficient_at (j + 1) c ts)
  where
    next : j + 1 + c ≡ j + suc c
    next = omega arith

    at : (b : Bool) → first_coefficient (j + 1 + c) (from_variable (j + 1 + c) (nonzeros (j + 1) ts)) ≡ get_or ts c zero_ℚ
        → first_coefficient (j + suc c) (from_variable (j + suc c) (if b then nonzeros (j + 1) ts else (j, t) ∷ nonzeros (j + 1) ts)) ≡ get_or ts c zero_ℚ
    at true h = ap (λ k. first_coefficient k (from_variable k (nonzeros (j + 1) ts))) (sym next) ∙ h
    at false h =
        ap (λ b. first_coefficient (j + suc c) (if b then from_variable (j + suc c) (nonzeros (j + 1) ts) else (j, t) ∷ nonzeros (j + 1) ts)) (lt-ltb j (j + suc c) (omega arith))
        ∙ ap (λ k. first_coefficient k (from_variable k (nonzeros (j + 1) ts))) (sym next) ∙ h

pub coefficient_is : (w c : ℕ) (es : Terms) → IsSparse w es → get_or (coefficients_from 0 w es) c zero_ℚ ≡ first_coefficient c (from_variable c es)
coefficient_is w c es h =
    sym (coefficient_at 0 c (coefficients_from 0 w es))
    ∙ ap (λ k. first_coefficient k (from_variable k (nonzeros 0 (coefficients_from 0 w es)))) (let f : 0 + c ≡ c = omega arith in f)
    ∙ ap (λ es. first_coefficient c (from_variable c es)) (sym h.entries)

-- ---- the place of a variable among rising entries
pub later_rise : (k : ℕ) (es : Terms) (i : ℕ) (d : ℕ × ℚ) → RiseFrom k es → i < length es → k ≤ (get_or es i d).0
later_rise k [] i d h l = absurd (omega arith)
later_rise k (e ∷ es) zero d h l = h.0
later_rise k (e ∷ es) (suc i) d h l = omega (arith, later_rise (suc e.0) es i d h.1 (omega arith), h.0)

pub rise_at : (k : ℕ) (es : Terms) (i m : ℕ) (d : ℕ × ℚ) → RiseFrom k es → i < m → m < length es → (get_or es i d).0 < (get_or es m d).0
rise_at k [] i m d h l b = absurd (omega arith)
rise_at k (e ∷ es) i zero d h l b = absurd (omega arith)
rise_at k (e ∷ es) zero (suc m) d h l b = omega (arith, later_rise (suc e.0) es m d h.1 (omega arith))
rise_at k (e ∷ es) (suc i) (suc m) d h l b = rise_at (suc e.0) es i m d h.1 (omega arith) (omega arith)

pub drop_position : (v : ℕ) (es : Terms) (p : ℕ) → IsPosition v es p → drop p es ≡ from_variable v es
drop_position v [] p h = drop-nil p
drop_position v (e ∷ es) zero h = sym (ap (λ b. if b then from_variable v es else e ∷ es) (le-ltb e.0 v (h.from 0 e (omega arith) (omega arith))))
drop_position v (e ∷ es) (suc p) h =
    drop_position v es p (record { there = omega (arith, h.there); before = λ k d l. h.before (suc k) d (omega arith); from = λ k d l b. h.from (suc k) d (omega arith) (omega arith) })
    ∙ sym (ap (λ b. if b then from_variable v es else e ∷ es) (lt-ltb e.0 v (h.before 0 e (omega arith))))

pub take_position : (v : ℕ) (es : Terms) (p : ℕ) → IsPosition v es p → take p es ≡ before_variable v es
take_position v [] p h = take-nil p
take_position v (e ∷ es) zero h = sym (ap (λ b. if b then e ∷ before_variable v es else []) (le-ltb e.0 v (h.from 0 e (omega arith) (omega arith))))
take_position v (e ∷ es) (suc p) h =
    ap (λ xs. e ∷ xs) (take_position v es p (record { there = omega (arith, h.there); before = λ k d l. h.before (suc k) d (omega arith); from = λ k d l b. h.from (suc k) d (omega arith) (omega arith) }))
    ∙ sym (ap (λ b. if b then e ∷ before_variable v es else []) (lt-ltb e.0 v (h.before 0 e (omega arith))))

-- ---- rows with zeros behind them
appended : (j k m : ℕ) (es : Terms) → coefficients_from j (k + m) es ≡ coefficients_from j k es ++ coefficients_from (j + k) m es
appended j zero m es = λ i. coefficients_from ((let e : j ≡ j + 0 = omega arith in e) i) ((let e : 0 + m ≡ m = omega arith in e) i) es
appended j (suc k) m es =
    ap (λ n. coefficients_from j n es) (let e : suc k + m ≡ suc (k + m) = omega arith in e)
    ∙ ap (λ xs. coefficient es j ∷ xs) (appended (j + 1) k m es ∙ ap (λ n. coefficients_from (j + 1) k es ++ coefficients_from n m es) (let e : j + 1 + k ≡ j + suc k = omega arith in e))

only_zeros : (j m : ℕ) (es : Terms) → ((i : ℕ) → j ≤ i → coefficient es i ≡ zero_ℚ) → coefficients_from j m es ≡ replicate m zero_ℚ
only_zeros j zero es h = refl
only_zeros j (suc m) es h = λ i. h j (omega arith) i ∷ only_zeros (j + 1) m es (λ k l. h k (omega arith)) i

entries_below : (j : ℕ) (ts : Coefficients) (w : ℕ) → j + length ts ≤ w → All (λ (e : ℕ × ℚ). e.0 < w) (nonzeros j ts)
entries_below j [] w l = All-nil (λ (e : ℕ × ℚ). e.0 < w)
entries_below j (t ∷ ts) w l = at (int_eq t.num (pos 0)) (entries_below (j + 1) ts w (omega arith))
  where
    at : (b : Bool) → All (λ (e : ℕ × ℚ). e.0 < w) (nonzeros (j + 1) ts) → All (λ (e : ℕ × ℚ). e.0 < w) (if b then nonzeros (j + 1) ts else (j, t) ∷ nonzeros (j + 1) ts)
    at true h = h
    at false h = All-cons (λ (e : ℕ × ℚ). e.0 < w) (j, t) (nonzeros (j + 1) ts) (omega arith) h

pub sparse_below : (w : ℕ) (es : Terms) → IsSparse w es → All (λ (e : ℕ × ℚ). e.0 < w) es
sparse_below w es h = subst (All (λ (e : ℕ × ℚ). e.0 < w)) (sym h.entries) (entries_below 0 (coefficients_from 0 w es) w (omega (arith, length-coefficients 0 w es)))

pub padded_is : (w m : ℕ) (es : Terms) → IsSparse w es → coefficients_from 0 (w + m) es ≡ padded m (coefficients_from 0 w es)
padded_is w m es h =
    appended 0 w m es ∙ ap (λ n. coefficients_from 0 w es ++ coefficients_from n m es) (let e : 0 + w ≡ w = omega arith in e)
    ∙ ap (λ xs. coefficients_from 0 w es ++ xs) (only_zeros w m es (λ i l. beyond w es i (sparse_below w es h) l))

nonzeros-append : (j : ℕ) (xs : Coefficients) (m : ℕ) → nonzeros j (xs ++ replicate m zero_ℚ) ≡ nonzeros j xs
nonzeros-append j [] zero = refl
nonzeros-append j [] (suc m) = ap (λ b. if b then nonzeros (j + 1) (replicate m zero_ℚ) else (j, zero_ℚ) ∷ nonzeros (j + 1) (replicate m zero_ℚ)) zero_test ∙ nonzeros-append (j + 1) [] m
nonzeros-append j (x ∷ xs) m = ap (with_entry j x) (nonzeros-append (j + 1) xs m)

pub padded_sparse : (w m : ℕ) (es : Terms) → IsSparse w es → IsSparse (w + m) es
padded_sparse w m es h = record {
  entries = h.entries ∙ sym (nonzeros-append 0 (coefficients_from 0 w es) m) ∙ ap (nonzeros 0) (sym (padded_is w m es h));
  fractions = h.fractions;
}

-- ---- a row of terms
kept_rise : (w k : ℕ) (ts : Terms) → RiseFrom k ts → coefficients_from 0 w (kept_below w ts) ≡ coefficients_from 0 w ts
kept_rise w k ts h = row_from (coefficients_from 0 w ts) w (kept_below w ts) (length-coefficients 0 w ts) (sym (kept_is 0 w w ts (omega arith) (rise_lower 0 k ts (omega arith) h)))

pub terms_row : (w : ℕ) (ts es : Terms) → AreRising ts → es ≡ [] ++ kept_below w ts → coefficients_from 0 w es ≡ coefficients_from 0 w ts
terms_row w ts es h e = ap (coefficients_from 0 w) e ∙ kept_rise w 0 ts h

pub terms_sparse : (w : ℕ) (ts es : Terms) → AreRising ts → es ≡ [] ++ kept_below w ts → All HasFraction es → IsSparse w es
terms_sparse w ts es h e f = sparse_from (coefficients_from 0 w ts) w es (length-coefficients 0 w ts) (e ∙ sym (kept_is 0 w w ts (omega arith) h)) f
