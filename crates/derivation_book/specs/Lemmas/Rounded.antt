-- Lemmas: rows of cuts: their terms rise, and none is 0.
use Rattle.std.specs.Prelude.{◌≡◌, ℕ, suc, ◌+◌, ◌≤◌, ◌<◌, pos, Bool, true, false, cond, List, [], ◌∷◌, ◌++◌, length, All, Some, None, refl}
use Rattle.std.specs.Option.{option_and_then}
use Rattle.std.specs.List.{list_all}
use Rattle.std.proofs.Common.{sym, ap, ◌∙◌, subst, arith}
use Rattle.std.proofs.lemmas.Bool.{false≢true}
use Rattle.std.proofs.lemmas.Bool.Decides.{Decides-int_eq}
use Rattle.std.proofs.lemmas.Option.{cond_some}
use Rattle.std.proofs.lemmas.List.Elements.{All-nil, All-cons}
use Rattle.std.proofs.lemmas.List.{append-nil, append_assoc}
use Rattle.fraction.specs.Rational.{ℚ, whole}
use Rattle.fraction.specs.Lemmas.Bounds.{whole_parts, was_some}
use Rattle.problem.specs.Lemmas.Rising.{rise_lower}
use Rattle.problem.specs.declared.row.Row.{Row}
use Rattle.problem.specs.Problem.{Problem}
use Rattle.problem.specs.Rising.{RiseFrom, AreRising, AreNonzero}
use Rattle.derivation_book.specs.declared.cut.Cut.{Cut}
use Rattle.derivation_book.specs.Known.{known_lines}
use Rattle.derivation_book.specs.Sums.{Sums, combined}
use Rattle.derivation_book.specs.Rounded.{is_zero, is_usable, is_cut_coefficient, nonzero_terms, cut_row, rounded_sums, rounded_row}
use Rattle.derivation_book.specs.Cuts.{AreCutsAfter}

-- ---- the terms that aren't 0
zero_from : (a : ℚ) → is_zero a ≡ true → a.num ≡ pos 0
zero_from a e = (Decides-int_eq a.num (pos 0)).0 e

not_zero : (a : ℚ) → is_zero a ≡ false → a ≡ whole (pos 0) → ⊥
not_zero a e f = false≢true (sym e ∙ (Decides-int_eq a.num (pos 0)).1 (ap (λ (x : ℚ). x.num) f ∙ (whole_parts (pos 0)).0))

pub terms_rise : (j : ℕ) (cs : List ℚ) → RiseFrom j (nonzero_terms j cs)
terms_rise j [] = tt
terms_rise j (a ∷ cs) = step (is_zero a) (nonzero_terms (j + 1) cs) (terms_rise (j + 1) cs)
  where
    step : (b : Bool) (ts : List (ℕ × ℚ)) → RiseFrom (j + 1) ts → RiseFrom j (cond b ts ((j, a) ∷ ts))
    step true ts h = rise_lower j (j + 1) ts (omega arith) h
    step false ts h = (omega arith, rise_lower (suc j) (j + 1) ts (omega arith) h)

abbrev IsNonzero : ℕ × ℚ → Type 0
IsNonzero t = t.1 ≡ whole (pos 0) → ⊥

pub terms_nonzero : (j : ℕ) (cs : List ℚ) → AreNonzero (nonzero_terms j cs)
terms_nonzero j [] = All-nil IsNonzero
terms_nonzero j (a ∷ cs) = step (is_zero a) refl (nonzero_terms (j + 1) cs) (terms_nonzero (j + 1) cs)
  where
    step : (b : Bool) → is_zero a ≡ b → (ts : List (ℕ × ℚ)) → AreNonzero ts → AreNonzero (cond b ts ((j, a) ∷ ts))
    step true e ts h = h
    step false e ts h = All-cons IsNonzero (j, a) ts (not_zero a e) h

abbrev pub IsBelow : ℕ → ℕ × ℚ → Type 0
IsBelow n t = t.0 < n

pub terms_below : (j : ℕ) (cs : List ℚ) (n : ℕ) → j + length cs ≤ n → All (IsBelow n) (nonzero_terms j cs)
terms_below j [] n l = All-nil (IsBelow n)
terms_below j (a ∷ cs) n l = step (is_zero a) (nonzero_terms (j + 1) cs) (terms_below (j + 1) cs n (omega (arith, l)))
  where
    step : (b : Bool) (ts : List (ℕ × ℚ)) → All (IsBelow n) ts → All (IsBelow n) (cond b ts ((j, a) ∷ ts))
    step true ts h = h
    step false ts h = All-cons (IsBelow n) (j, a) ts (omega (arith, l)) h

-- ---- what a rounded row tells
pub record IsMadeFrom (p : Problem) (cs : List Cut) (mult : List (ℕ × ℚ)) (r : Row) : Type 0 where
  pub usable : list_all (is_usable (known_lines p cs)) mult ≡ true
  pub sums : Sums
  pub combined : combined (known_lines p cs) mult (length p.spans) ≡ Some sums
  pub coefficients : list_all is_cut_coefficient sums.coefficients ≡ true
  pub row : cut_row sums ≡ r

pub made_from : (p : Problem) (cs : List Cut) (mult : List (ℕ × ℚ)) (r : Row) → rounded_row p cs mult ≡ Some r → IsMadeFrom p cs mult r
made_from p cs mult r e = step (list_all (is_usable (known_lines p cs)) mult) refl e
  where
    inner : (q : Sums) → rounded_sums q ≡ Some r → (list_all is_cut_coefficient q.coefficients ≡ true) × (cut_row q ≡ r)
    inner q e = cond_some (list_all is_cut_coefficient q.coefficients) (cut_row q) r e

    step : (b : Bool) → list_all (is_usable (known_lines p cs)) mult ≡ b
        → cond b (option_and_then rounded_sums (combined (known_lines p cs) mult (length p.spans))) None ≡ Some r → IsMadeFrom p cs mult r
    step true u e =
        let w = was_some rounded_sums (combined (known_lines p cs) mult (length p.spans)) r e in
        let i = inner w.0 w.2 in
        record { usable = u; sums = w.0; combined = w.1; coefficients = i.0; row = i.1 }
    step false u e = cc

pub rounded_rises : (p : Problem) (cs : List Cut) (mult : List (ℕ × ℚ)) (r : Row) → rounded_row p cs mult ≡ Some r → AreRising r.terms
rounded_rises p cs mult r e =
    let m = made_from p cs mult r e in subst (λ (s : Row). AreRising s.terms) m.row (terms_rise 0 m.sums.coefficients)

-- ---- one cut more
pub one_more : (p : Problem) (before cs : List Cut) (c : Cut) → AreCutsAfter p before cs → rounded_row p (before ++ cs) c.mult ≡ Some c.row → AreCutsAfter p before (cs ++ c ∷ [])
one_more p before [] c h e = (ap (λ ds. rounded_row p ds c.mult) (sym (append-nil before)) ∙ e, tt)
one_more p before (d ∷ cs) c h e = (h.0, one_more p (before ++ d ∷ []) cs c h.1 (ap (λ ds. rounded_row p ds c.mult) (append_assoc before (d ∷ []) cs) ∙ e))
