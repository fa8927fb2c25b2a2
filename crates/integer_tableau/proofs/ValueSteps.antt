-- The values after a step, by the dictionary before it: each basic one changes by its coefficient of the entering variable.
use Rattle.std.proofs.Common.{◌≡◌, ◌≢◌, ℕ, ◌<◌, arith, sym, ◌∙◌, subst, List, length, set, inl, inr}
use Rattle.std.specs.Prelude.{◌⊎◌}
use Rattle.std.proofs.lemmas.Bool.{cases_eq}
use Rattle.std.proofs.lemmas.List.{length-set, get_or-set_other, get_or-set_same}
use Rattle.fraction.specs.Lemmas.Bounds.{dot_value}
use Rattle.fraction.specs.Rational.{ℚ}
use Rattle.tableau.specs.Elimination.{entry, zero_ℚ}
use Rattle.tableau.specs.Invariants.{IsCanonicalRow, IsNonbasic, Solves}
use Rattle.tableau.specs.Lemmas.Places.{basic_or, not_both_statuses}
use Rattle.tableau.specs.Lemmas.Sums.{dot-agree}
use Rattle.tableau.specs.LinearProgram.{LinearProgram}
use Rattle.tableau.specs.Tableau.{Tableau, row_of, status_of}
use Rattle.tableau.specs.declared.status.BasisStatus.TheVariants.{Basic}
use Rattle.integer_tableau.specs.Dictionary.{AreValuesAfter, HasExchangedBasis, HasSameMatrix, IsDictionaryOf}
use Rattle.integer_tableau.proofs.Unique.{if_basic, if_nonbasic, length-listed, listed, listed_at, same_rows, where_basic}

module _ (n : ℕ) (p q : LinearProgram) (t u : Tableau) (r c : ℕ) (xs : List ℚ) (value bound : ℚ) (m : HasSameMatrix p q) (h : IsDictionaryOf n p t) (k : IsDictionaryOf n q u)
    (lr : r < n) (lc : c < n) (leaving : status_of t r ≡ Basic) (entering : IsNonbasic (status_of t c)) (b : HasExchangedBasis n r c t u) (lx : length xs ≡ n)
    (at_r : dot_value (row_of t r) (set xs c value) ≡ bound) where
  -- the nonbasic values of t, but that c has its new value
  abbrev ys : List ℚ
  ys = set xs c value

  length-ys : length ys ≡ n
  length-ys = length-set xs c value ∙ lx

  -- with what the rows of t say
  z : List ℚ
  z = listed 0 n (λ i. where_basic (status_of t i) (dot_value (row_of t i) ys) (entry ys i))

  length-z : length z ≡ n
  unfolding z
  length-z = length-listed 0 n _

  z_basic : (i : ℕ) → i < n → status_of t i ≡ Basic → entry z i ≡ dot_value (row_of t i) ys
  unfolding z
  z_basic i l e = listed_at n _ i l ∙ if_basic (status_of t i) _ _ e

  z_nonbasic : (i : ℕ) → i < n → IsNonbasic (status_of t i) → entry z i ≡ entry ys i
  unfolding z
  z_nonbasic i l e = listed_at n _ i l ∙ if_nonbasic (status_of t i) _ _ e

  says : (row : List ℚ) → IsCanonicalRow n t row → dot_value row z ≡ dot_value row ys
  says row w = dot-agree row z ys (length-z ∙ sym length-ys) each
    where
      each : (i : ℕ) → i < length z → (entry row i ≡ zero_ℚ) ⊎ (entry z i ≡ entry ys i)
      each i l =
          let li : i < n = omega (arith, l, length-z) in
          elim (basic_or (status_of t i)) [
            | inl e ↦ inl (w.clear i li e)
            | inr e ↦ inr (z_nonbasic i li e)
          ]

  solves : Solves n t z
  solves i l e = says (row_of t i) (h.canonical.rows i l e) ∙ sym (z_basic i l e)

  solves_after : Solves n u z
  solves_after = k.solutions.to z length-z (same_rows p q z m (h.solutions.back z length-z solves))

  apart : r ≢ c
  apart e = not_both_statuses (status_of t c) (subst (λ i. status_of t i ≡ Basic) e leaving) entering

  abbrev after : List ℚ
  after = set (set xs r bound) c zero_ℚ

  at_nonbasic : (i : ℕ) → i < n → IsNonbasic (status_of u i) → entry after i ≡ entry z i
  at_nonbasic i l e = elim (cases_eq i c) [
    | inl f ↦ absurd (not_both_statuses (status_of u i) (subst (λ i. status_of u i ≡ Basic) (sym f) b.entered) e)
    | inr f ↦ elim (cases_eq i r) [
      | inl g ↦ subst (λ i. entry after i ≡ entry z i) (sym g)
          (get_or-set_other (set xs r bound) c r zero_ℚ zero_ℚ apart ∙ get_or-set_same xs r bound zero_ℚ (omega (arith, lr, lx)) ∙ sym at_r ∙ sym (z_basic r lr leaving))
      | inr g ↦ elim (basic_or (status_of t i)) [
        | inl w ↦ absurd (not_both_statuses (status_of u i) (b.to i l g f w) e)
        | inr w ↦
            get_or-set_other (set xs r bound) c i zero_ℚ zero_ℚ f ∙ get_or-set_other xs r i bound zero_ℚ g
            ∙ sym (z_nonbasic i l w ∙ get_or-set_other xs c i value zero_ℚ f)
      ]
    ]
  ]

  says_after : (row : List ℚ) → IsCanonicalRow n u row → dot_value row after ≡ dot_value row z
  says_after row w = dot-agree row after z (many ∙ sym length-z) each
    where
      many : length after ≡ n
      many = length-set (set xs r bound) c zero_ℚ ∙ length-set xs r bound ∙ lx

      each : (i : ℕ) → i < length after → (entry row i ≡ zero_ℚ) ⊎ (entry after i ≡ entry z i)
      each i l =
          let li : i < n = omega (arith, l, many) in
          elim (basic_or (status_of u i)) [
            | inl e ↦ inl (w.clear i li e)
            | inr e ↦ inr (at_nonbasic i li e)
          ]

  value_after : (i : ℕ) → i < n → status_of u i ≡ Basic → dot_value (row_of u i) after ≡ entry z i
  value_after i l e = says_after (row_of u i) (k.canonical.rows i l e) ∙ solves_after i l e

  pub values_after : AreValuesAfter n r c t u xs value bound
  values_after = record {
    entered = value_after c lc b.entered ∙ z_nonbasic c lc entering ∙ get_or-set_same xs c value zero_ℚ (omega (arith, lc, lx));
    others = λ i l f e. value_after i l e ∙ z_basic i l (b.back i l (λ g. b.left (subst (λ i. status_of u i ≡ Basic) g e)) f e);
  }
