-- Statuses, variable by variable.
use Rattle.std.proofs.Common.{◌≡◌, ℕ, zero, suc, ◌<◌, arith, refl, ap, sym, ◌∙◌, Bool, true, false, List, [], ◌∷◌, length, get_or, inl, inr}
use Rattle.std.specs.Prelude.{◌⊎◌, ◌≢◌}
use Rattle.std.proofs.lemmas.List.{get_or_default}
use Rattle.integer_tableau.specs.Consistent.{IsConsistent}
use Rattle.integer_tableau.specs.IntegerTableau.{IntegerTableau, bound_status, status, statuses_of, tableau_of}
use Rattle.integer_tableau.specs.declared.position.Position.{Position}
use Rattle.integer_tableau.specs.declared.position.Position.TheVariants.{InBasis, InColumn}
use Rattle.tableau.specs.Tableau.{Tableau, status_of}
use Rattle.tableau.specs.declared.status.BasisStatus.TheVariants.{Basic}

pub get_or-statuses : (ss : List Position) (us : List Bool) (v : ℕ) → length us ≡ length ss → v < length ss → get_or (statuses_of ss us) v Basic ≡ status (get_or ss v InBasis) (get_or us v false)
get_or-statuses [] us v e l = absurd (omega arith)
get_or-statuses (s ∷ ss) [] v e l = absurd (omega arith)
get_or-statuses (s ∷ ss) (u ∷ us) zero e l = refl
get_or-statuses (s ∷ ss) (u ∷ us) (suc v) e l = get_or-statuses ss us v (omega arith) (omega arith)

pub status_is : (columns : ℕ) (numbers : List ℕ) (w : IntegerTableau) (t : Tableau) → IsConsistent w → tableau_of columns numbers w ≡ t → (r : ℕ) → r < length w.positions
    → (p : Position) (u : Bool) → p ≡ get_or w.positions r p → u ≡ get_or w.at_upper r u → status p u ≡ status_of t r
status_is columns numbers w t consistent view r there p u ep eu =
    (λ i. status ((ep ∙ get_or_default w.positions r p InBasis there) i) ((eu ∙ get_or_default w.at_upper r u false (omega (arith, there, consistent.at_upper))) i))
    ∙ sym (get_or-statuses w.positions w.at_upper r consistent.at_upper there) ∙ ap (λ t. status_of t r) view

-- ---- by the position
pub basic_position : (s : Position) (u : Bool) → status s u ≡ Basic → s ≡ InBasis
basic_position InBasis u e = refl
basic_position (InColumn k) true e = absurd (let z : ⊥ = cc in z)
basic_position (InColumn k) false e = absurd (let z : ⊥ = cc in z)

pub basic_status : (s : Position) (u : Bool) → s ≡ InBasis → status s u ≡ Basic
basic_status s u e = ap (λ s. status s u) e

pub other_status : (s : Position) (u : Bool) → s ≢ InBasis → status s u ≡ bound_status u
other_status InBasis u n = absurd (n refl)
other_status (InColumn k) u n = refl

in_basis_or : (s : Position) → (s ≡ InBasis) ⊎ (s ≢ InBasis)
in_basis_or InBasis = inl refl
in_basis_or (InColumn k) = inr (λ e. let z : ⊥ = cc in z)

pub same_status : (s s' : Position) (u : Bool) → (s ≡ InBasis → s' ≡ InBasis) → (s' ≡ InBasis → s ≡ InBasis) → status s u ≡ status s' u
same_status s s' u f g = elim (in_basis_or s) [
  | inl e ↦ basic_status s u e ∙ sym (basic_status s' u (f e))
  | inr n ↦ other_status s u n ∙ sym (other_status s' u (λ e. n (g e)))
]
