-- A basis fixes its dictionary: each coefficient is what a solution with one nonbasic variable at 1 gives.
use Rattle.std.proofs.Common.{◌≡◌, ℕ, zero, suc, ◌+◌, ◌<◌, arith, refl, ap, sym, ◌∙◌, subst, List, [], ◌∷◌, length, get_or, inl, inr}
use Rattle.std.specs.Prelude.{◌⊎◌}
use Rattle.std.proofs.lemmas.List.{same_lists, get_or_default}
use Rattle.fraction.specs.Lemmas.Bounds.{dot_value}
use Rattle.fraction.specs.Rational.{ℚ}
use Rattle.tableau.specs.Elimination.{entry, zero_ℚ}
use Rattle.tableau.specs.Invariants.{IsCanonical, IsCanonicalRow, IsNonbasic, Solves, SolvesRows}
use Rattle.tableau.specs.Lemmas.Places.{basic_or, not_both_statuses}
use Rattle.tableau.specs.Lemmas.Sums.{unit, length-unit, dot-unit, dot-agree}
use Rattle.tableau.specs.LinearProgram.{LinearProgram}
use Rattle.tableau.specs.Tableau.{Tableau, row_of, status_of}
use Rattle.tableau.specs.declared.status.BasisStatus.{BasisStatus}
use Rattle.tableau.specs.declared.status.BasisStatus.TheVariants.{Basic, AtLower, AtUpper}
use Rattle.integer_tableau.specs.Dictionary.{HasSameBasis, HasSameDictionary, HasSameMatrix, IsDictionaryOf}

-- ---- lists by index
pub listed : ℕ → ℕ → (ℕ → ℚ) → List ℚ
listed k zero f = []
listed k (suc n) f = f k ∷ listed (suc k) n f

pub length-listed : (k n : ℕ) (f : ℕ → ℚ) → length (listed k n f) ≡ n
unfolding listed
length-listed k zero f = refl
length-listed k (suc n) f = ap suc (length-listed (suc k) n f)

listed_from : (k n : ℕ) (f : ℕ → ℚ) (i : ℕ) → i < n → entry (listed k n f) i ≡ f (k + i)
unfolding listed
listed_from k zero f i l = absurd (omega arith)
listed_from k (suc n) f zero l = ap f (omega arith)
listed_from k (suc n) f (suc i) l = listed_from (suc k) n f i (omega arith) ∙ ap f (omega arith)

pub listed_at : (n : ℕ) (f : ℕ → ℚ) (i : ℕ) → i < n → entry (listed 0 n f) i ≡ f i
listed_at n f i l = listed_from 0 n f i l ∙ ap f (omega arith)

-- ---- the solution with variable j at 1 and the other nonbasic ones at 0
pub where_basic : BasisStatus → ℚ → ℚ → ℚ
where_basic Basic v w = v
where_basic AtLower v w = w
where_basic AtUpper v w = w

pub if_basic : (s : BasisStatus) (v w : ℚ) → s ≡ Basic → where_basic s v w ≡ v
unfolding where_basic
if_basic Basic v w e = refl
if_basic AtLower v w e = cc
if_basic AtUpper v w e = cc

pub if_nonbasic : (s : BasisStatus) (v w : ℚ) → IsNonbasic s → where_basic s v w ≡ w
unfolding where_basic
if_nonbasic Basic v w h = absurd h
if_nonbasic AtLower v w h = refl
if_nonbasic AtUpper v w h = refl

along : ℕ → Tableau → ℕ → List ℚ
along n t j = listed 0 n (λ i. where_basic (status_of t i) (entry (row_of t i) j) (entry (unit j n) i))

length-along : (n : ℕ) (t : Tableau) (j : ℕ) → length (along n t j) ≡ n
unfolding along
length-along n t j = length-listed 0 n _

along_basic : (n : ℕ) (t : Tableau) (j i : ℕ) → i < n → status_of t i ≡ Basic → entry (along n t j) i ≡ entry (row_of t i) j
unfolding along
along_basic n t j i l b = listed_at n _ i l ∙ if_basic (status_of t i) _ _ b

along_nonbasic : (n : ℕ) (t : Tableau) (j i : ℕ) → i < n → IsNonbasic (status_of t i) → entry (along n t j) i ≡ entry (unit j n) i
unfolding along
along_nonbasic n t j i l b = listed_at n _ i l ∙ if_nonbasic (status_of t i) _ _ b

-- what a row in canonical form says of it: the coefficient of j
along_says : (n : ℕ) (t : Tableau) (j : ℕ) (row : List ℚ) → j < n → IsCanonicalRow n t row → dot_value row (along n t j) ≡ entry row j
along_says n t j row l h =
    dot-agree row (along n t j) (unit j n) (length-along n t j ∙ sym (length-unit j n)) each ∙ dot-unit j n row l
  where
    each : (i : ℕ) → i < length (along n t j) → (entry row i ≡ zero_ℚ) ⊎ (entry (along n t j) i ≡ entry (unit j n) i)
    each i m =
        let k : i < n = omega (arith, m, length-along n t j) in
        elim (basic_or (status_of t i)) [
          | inl b ↦ inl (h.clear i k b)
          | inr b ↦ inr (along_nonbasic n t j i k b)
        ]

along_solves : (n : ℕ) (t : Tableau) (j : ℕ) → j < n → IsCanonical n t → Solves n t (along n t j)
along_solves n t j l h i k b = along_says n t j (row_of t i) l (h.rows i k b) ∙ sym (along_basic n t j i k b)

-- ---- two tableaus of one matrix
pub same_rows : (p q : LinearProgram) (x : List ℚ) → HasSameMatrix p q → SolvesRows p x → SolvesRows q x
same_rows p q x m s i l =
    ap (λ rows. dot_value (get_or rows i []) x) (sym m.rows) ∙ s i (subst (λ (rows : List (List ℚ)). i < length rows) (sym m.rows) l)
    ∙ ap (λ (costs : List ℚ). entry x (length costs + i)) m.costs

module _ (n : ℕ) (p q : LinearProgram) (t u : Tableau) (m : HasSameMatrix p q) (h : IsDictionaryOf n p t) (k : IsDictionaryOf n q u) (b : HasSameBasis n t u) where
  -- a row in the canonical form of u is in that of t
  as_row : (row : List ℚ) → IsCanonicalRow n u row → IsCanonicalRow n t row
  as_row row c = record { full = c.full; clear = λ j l e. c.clear j l (b.to j l e) }

  solves_other : (x : List ℚ) → length x ≡ n → Solves n t x → Solves n u x
  solves_other x l s = k.solutions.to x l (same_rows p q x m (h.solutions.back x l s))

  row_entries : (i j : ℕ) → i < n → j < n → status_of t i ≡ Basic → entry (row_of t i) j ≡ entry (row_of u i) j
  row_entries i j li lj e =
      sym (along_basic n t j i li e)
      ∙ sym (solves_other (along n t j) (length-along n t j) (along_solves n t j lj h.canonical) i li (b.to i li e))
      ∙ along_says n t j (row_of u i) lj (as_row (row_of u i) (k.canonical.rows i li (b.to i li e)))

  cost_entries : (j : ℕ) → j < n → entry t.reduced_costs j ≡ entry u.reduced_costs j
  cost_entries j l =
      let s : Solves n t (along n t j) = along_solves n t j l h.canonical in
      sym (along_says n t j t.reduced_costs l h.canonical.costs)
      ∙ h.objective (along n t j) (length-along n t j) s
      ∙ ap (λ (costs : List ℚ). dot_value costs (along n t j)) m.costs
      ∙ sym (k.objective (along n t j) (length-along n t j) (solves_other (along n t j) (length-along n t j) s))
      ∙ along_says n t j u.reduced_costs l (as_row u.reduced_costs k.canonical.costs)

  equal_lists : (xs ys : List ℚ) → length xs ≡ n → length ys ≡ n → ((j : ℕ) → j < n → entry xs j ≡ entry ys j) → xs ≡ ys
  equal_lists xs ys lx ly e = same_lists xs ys (lx ∙ sym ly) (λ j d l.
      get_or_default xs j d zero_ℚ l ∙ e j (omega (arith, l, lx)) ∙ sym (get_or_default ys j d zero_ℚ (omega (arith, l, lx, ly))))

  equal_rows : (i : ℕ) → i < n → row_of t i ≡ row_of u i
  equal_rows i l = elim (basic_or (status_of t i)) [
    | inl e ↦ equal_lists (row_of t i) (row_of u i) (h.canonical.rows i l e).full (k.canonical.rows i l (b.to i l e)).full (λ j lj. row_entries i j l lj e)
    | inr e ↦ h.canonical.nonbasic i l e ∙ sym (k.canonical.nonbasic i l (other e))
  ]
    where
      other : IsNonbasic (status_of t i) → IsNonbasic (status_of u i)
      other e = elim (basic_or (status_of u i)) [
        | inl f ↦ absurd (not_both_statuses (status_of t i) (b.back i l f) e)
        | inr f ↦ f
      ]

  pub same_dictionary : HasSameDictionary t u
  same_dictionary = record {
    rows = same_lists t.rows u.rows (h.count ∙ sym k.count) (λ i d l.
        get_or_default t.rows i d [] l ∙ equal_rows i (omega (arith, l, h.count)) ∙ sym (get_or_default u.rows i d [] (omega (arith, l, h.count, k.count))));
    costs = equal_lists t.reduced_costs u.reduced_costs h.canonical.costs.full k.canonical.costs.full cost_entries;
  }
