-- Stored dictionaries as tableaus, and steps between them.
use Rattle.std.proofs.Common.{◌≡◌, ℕ, ◌<◌, refl, ap, sym, ◌∙◌, subst, Bool, false, Some, List, [], length, get_or, map, inl, inr}
use Rattle.std.specs.Prelude.{ℤ}
use Rattle.std.proofs.lemmas.List.{length-map}
use Rattle.fraction.specs.Lemmas.Bounds.{dot_value}
use Rattle.fraction.specs.Rational.{ℚ}
use Rattle.tableau.specs.Invariants.{IsCanonicalRow, IsNonbasic, Solves}
use Rattle.tableau.specs.Lemmas.PivotKeeps.{IsExchange, apart, keeps_canonical, keeps_objective, keeps_solutions}
use Rattle.tableau.specs.Lemmas.Pivoted.{IsPivoted as IsPivotedTo, pivoted_is}
use Rattle.tableau.specs.Lemmas.Places.{basic_or, not_both_statuses}
use Rattle.tableau.specs.LinearProgram.{LinearProgram}
use Rattle.tableau.specs.Pivot.{pivoted}
use Rattle.tableau.specs.Place.{IsPivotThere}
use Rattle.tableau.specs.Tableau.{HasSize, Tableau, row_of, status_of}
use Rattle.tableau.specs.declared.bounds.Direction.{Direction}
use Rattle.tableau.specs.declared.status.BasisStatus.{BasisStatus}
use Rattle.tableau.specs.declared.status.BasisStatus.TheVariants.{Basic}
use Rattle.integer_tableau.specs.Combined.{IsCompact, expanded}
use Rattle.integer_tableau.specs.IntegerTableau.{IntegerTableau, status, tableau_of}
use Rattle.integer_tableau.specs.declared.position.Position.TheVariants.{InBasis}
use Rattle.integer_tableau.specs.Dictionary.{HasSameBasis, IsDictionaryOf}
use Rattle.integer_tableau.specs.IntegerDictionary.{IsStored, dictionary_of, fraction_dictionary}
use Rattle.integer_tableau.proofs.IntegerStep.{dictionary_from}
use Rattle.integer_tableau.proofs.Statuses.{basic_position, basic_status, get_or-statuses}

-- ---- the same rows and reduced costs under other statuses, of the same basis
module _ (n : ℕ) (p : LinearProgram) (t u : Tableau) (rows : t.rows ≡ u.rows) (costs : t.reduced_costs ≡ u.reduced_costs) (b : HasSameBasis n t u) (h : IsDictionaryOf n p t) where
  row_same : (i : ℕ) → row_of t i ≡ row_of u i
  row_same i = ap (λ rows. get_or rows i []) rows

  as_row : (row : List ℚ) → IsCanonicalRow n t row → IsCanonicalRow n u row
  as_row row c = record { full = c.full; clear = λ j l e. c.clear j l (b.back j l e) }

  there : (x : List ℚ) → Solves n t x → Solves n u x
  there x s i l e = ap (λ row. dot_value row x) (sym (row_same i)) ∙ s i l (b.back i l e)

  here : (x : List ℚ) → Solves n u x → Solves n t x
  here x s i l e = ap (λ row. dot_value row x) (row_same i) ∙ s i l (b.to i l e)

  pub same_basis_dictionary : IsDictionaryOf n p u
  same_basis_dictionary = record {
    count = subst (λ (rows : List (List ℚ)). length rows ≡ n) rows h.count;
    canonical = record {
      rows = λ i l e. subst (IsCanonicalRow n u) (row_same i) (as_row (row_of t i) (h.canonical.rows i l (b.back i l e)));
      costs = subst (IsCanonicalRow n u) costs (as_row t.reduced_costs h.canonical.costs);
      nonbasic = λ i l e. sym (row_same i) ∙ h.canonical.nonbasic i l (elim (basic_or (status_of t i)) [
        | inl f ↦ absurd (not_both_statuses (status_of u i) (b.to i l f) e)
        | inr f ↦ f
      ]);
    };
    solutions = record { to = λ x l s. there x (h.solutions.to x l s); back = λ x l s. h.solutions.back x l (here x s) };
    objective = λ x l s. ap (λ costs. dot_value costs x) (sym costs) ∙ h.objective x l (here x s);
  }

-- ---- a tableau and its dictionary
module _ (ps : List (List ℤ)) (weight reach : ℕ) (t : IntegerTableau) (compact : IsCompact ps weight reach t) (numbers : List ℕ) where
  abbrev view : Tableau
  view = tableau_of (length t.rows) numbers (expanded ps t)

  abbrev plain : Tableau
  plain = fraction_dictionary ps (dictionary_of t)

  abbrev lower : List Bool
  lower = map (λ s. false) t.positions

  was : (v : ℕ) → v < length t.positions → status_of view v ≡ status (get_or t.positions v InBasis) (get_or t.at_upper v false)
  was v l = get_or-statuses t.positions t.at_upper v compact.consistent.at_upper l

  is : (v : ℕ) → v < length t.positions → status_of plain v ≡ status (get_or t.positions v InBasis) (get_or lower v false)
  is v l = get_or-statuses t.positions lower v (length-map t.positions (λ s. false)) l

  same_basis : HasSameBasis (length t.positions) view plain
  same_basis = record {
    to = λ v l e. is v l ∙ basic_status (get_or t.positions v InBasis) (get_or lower v false) (basic_position (get_or t.positions v InBasis) (get_or t.at_upper v false) (sym (was v l) ∙ e));
    back = λ v l e. was v l ∙ basic_status (get_or t.positions v InBasis) (get_or t.at_upper v false) (basic_position (get_or t.positions v InBasis) (get_or lower v false) (sym (is v l) ∙ e));
  }

  other_way : HasSameBasis (length t.positions) plain view
  other_way = record { to = same_basis.back; back = same_basis.to }

  pub as_stored : (p : LinearProgram) → IsDictionaryOf (length t.positions) p view → IsStored ps weight p (dictionary_of t)
  as_stored p h = record { compact = dictionary_from ps weight reach t compact; dictionary = same_basis_dictionary (length t.positions) p view plain refl refl same_basis h }

  pub from_stored : (p : LinearProgram) → IsStored ps weight p (dictionary_of t) → IsDictionaryOf (length t.positions) p view
  from_stored p h = same_basis_dictionary (length t.positions) p plain view refl refl other_way h.dictionary

-- ---- a pivot that was made leaves a dictionary of the same linear program
module _ (n : ℕ) (p : LinearProgram) (t u : Tableau) (r c : ℕ) (s : HasSize n t) (h : IsDictionaryOf n p t) (lr : r < n) (lc : c < n) (there : IsPivotThere t r c) (e : pivoted r c t ≡ Some u) where
  nonbasic : (s : BasisStatus) → (s ≡ Basic → ⊥) → IsNonbasic s
  nonbasic s f = elim (basic_or s) [
    | inl e ↦ absurd (f e)
    | inr g ↦ g
  ]

  exchange : IsExchange n r c t
  exchange = record { leaving_there = lr; entering_there = lc; leaving = there.leaving; entering = nonbasic (status_of t c) there.entering }

  kept : (w : Direction) → IsPivotedTo n r c w t u → IsDictionaryOf n p u
  kept w x = record {
    count = x.size.rows;
    canonical = keeps_canonical n r c w t u exchange x h.canonical;
    solutions = keeps_solutions n r c w p t u exchange x h.canonical h.solutions;
    objective = keeps_objective n r c w p t u exchange x h.canonical h.objective;
  }

  pub pivoted_dictionary : IsDictionaryOf n p u
  pivoted_dictionary = let x = pivoted_is n r c t u s lr lc (apart n r c t exchange) e in kept x.0 x.1
