-- The first empty column, as the definition of a verdict finds it.
use Rattle.std.specs.Prelude.{◌≡◌, ◌+◌, ℕ, zero, suc, ℤ, ◌≤ℤ◌, ◌<ℤ◌, int_lt, Bool, true, false, cond, List, [], ◌∷◌, All, take, Option, Some, None, slice_get, refl}
use Rattle.std.specs.List.{position_from}
use Rattle.std.proofs.Common.{sym, ap, ◌∙◌, arith}
use Rattle.std.proofs.lemmas.Int.{ints}
use Rattle.std.proofs.lemmas.List.Elements.{All-head, All-tail}
use Rattle.fraction.specs.Rational.{ℚ}
use Rattle.problem_box.specs.declared.span.Span.{Span}
use Rattle.problem_box.specs.Changes.{IsFirstEmpty}
use Rattle.problem.specs.Problem.{Problem}
use Rattle.row_activity.specs.declared.verdict.Sign.{Sign}
use Rattle.row_activity.specs.Activity.{low_of, IsNonempty}
use Rattle.row_activity.specs.Verdicts.{refuted_from, first_empty, reaches, is_fixed, first_of_all, verdict}
use Rattle.problem.specs.Directions.{aim}

crossed : (a b : ℤ) → a <ℤ b → int_lt a b ≡ true
crossed a b h = step (int_lt a b) refl
  where
    step : (t : Bool) → int_lt a b ≡ t → int_lt a b ≡ true
    step true e = e
    step false e = absurd (grind (arith, ints))

in_order : (a b : ℤ) → b ≤ℤ a → int_lt a b ≡ false
in_order a b h = step (int_lt a b) refl
  where
    step : (t : Bool) → int_lt a b ≡ t → int_lt a b ≡ false
    step true e = absurd (grind (arith, ints))
    step false e = e

first_at : (n : ℕ) (ss : List Span) (j : ℕ) (s : Span) → slice_get ss j ≡ Some s → s.hi <ℤ s.lo → All (λ s. s.lo ≤ℤ s.hi) (take j ss)
    → position_from (λ (s : Span). int_lt s.hi s.lo) n ss ≡ Some (n + j)
first_at n [] j s e h b = cc
first_at n (t ∷ ss) zero s e h b =
    let same : t ≡ s = cc in
    let test : int_lt t.hi t.lo ≡ true = ap (λ (v : Span). int_lt v.hi v.lo) same ∙ crossed s.hi s.lo h in
    ap (λ v. cond v (Some n) (position_from (λ (s : Span). int_lt s.hi s.lo) (n + 1) ss)) test ∙ ap Some (omega arith)
first_at n (t ∷ ss) (suc j) s e h b =
    let test : int_lt t.hi t.lo ≡ false = in_order t.hi t.lo (All-head (λ (s : Span). s.lo ≤ℤ s.hi) t (take j ss) b) in
    ap (λ v. cond v (Some n) (position_from (λ (s : Span). int_lt s.hi s.lo) (n + 1) ss)) test
    ∙ first_at (n + 1) ss j s e h (All-tail (λ (s : Span). s.lo ≤ℤ s.hi) t (take j ss) b) ∙ ap Some (omega arith)

pub first_empty_is : (ss : List Span) (j : ℕ) → IsFirstEmpty ss j → first_empty ss ≡ Some j
first_empty_is ss j h = first_at 0 ss j h.span h.there h.empty h.before ∙ ap Some (omega arith)

none_from : (n : ℕ) (ss : List Span) → IsNonempty ss → position_from (λ (s : Span). int_lt s.hi s.lo) n ss ≡ None
none_from n [] h = refl
none_from n (s ∷ ss) h =
    ap (λ v. cond v (Some n) (position_from (λ (s : Span). int_lt s.hi s.lo) (n + 1) ss)) (in_order s.hi s.lo (All-head (λ (s : Span). s.lo ≤ℤ s.hi) s ss h))
    ∙ none_from (n + 1) ss (All-tail (λ (s : Span). s.lo ≤ℤ s.hi) s ss h)

pub none_empty : (ss : List Span) → IsNonempty ss → first_empty ss ≡ None
none_empty ss h = none_from 0 ss h

-- the verdict is the first that holds
pub settled : (p : Problem) (ss : List Span) (c : Option ℚ) (a : Option ℕ) (b : Option (ℕ × Sign)) (d f : Bool)
    → first_empty ss ≡ a → refuted_from 0 ss p.rows ≡ b → reaches (low_of ss (aim p)) c ≡ d → is_fixed ss ≡ f → first_of_all a b d f ≡ verdict p ss c
settled p ss c a b d f u v w x = λ i. first_of_all (sym u i) (sym v i) (sym w i) (sym x i)
