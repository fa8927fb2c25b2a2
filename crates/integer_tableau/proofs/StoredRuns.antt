-- Runs by kept dictionaries, step by step.
use Rattle.std.proofs.Common.{◌≡◌, ◌≢◌, ℕ, suc, ◌+◌, ◌-◌, ◌<◌, arith, refl, ap, sym, ◌∙◌, subst, List, [], length}
use Rattle.std.specs.Prelude.{ℤ, pos, nat_abs, ◌*◌, ◌^◌, Result, IfOk}
use mathlib.Core.Logic.{inr}
use Rattle.integer_tableau.proofs.Requests.{as_many, at_same, same_places}
use Rattle.integer_tableau.specs.Kept.{HaveSameDictionaries, IsAt, KeptDictionaries, kept_at}
use Rattle.integer_tableau.specs.StoredRun.{IsKeptEnd, IsLastPlace, IsMove, IsStoredEnd, IsTurnAt, IsTurned, IsTurning, IsUnmoved, dictionary_at, view_with}
use Rattle.integer_tableau.specs.declared.basic_solution.BasicSolution.{BasicSolution}
use Rattle.integer_tableau.specs.declared.request.Turn.{Turn}
use Rattle.integer_tableau.specs.declared.stored_run.StoredEnd.{StoredEnd}
use Rattle.tableau.specs.Place.{PlaceIsWithin, place}
use Rattle.tableau.specs.Run.{EndsAs, RunEnd, continued, run_from, step_at}
use Rattle.tableau.specs.Tableau.{Tableau}
use Rattle.tableau.specs.declared.place.Place.{Place}
use Rattle.tableau.specs.declared.place.Place.TheVariants.{Cramped, Done, NoColumn, Pivot}

-- ---- lists with the same dictionaries
pub at_same_place : (ps : List (List ℤ)) (weight : ℕ) (k l : KeptDictionaries) (p : ℕ) (n : BasicSolution) → HaveSameDictionaries k l → p < length l.all → IsAt ps weight (kept_at l.all p) n
    → IsAt ps weight (kept_at k.all p) n
at_same_place ps weight k l p n e b h = at_same ps weight (kept_at l.all p) (kept_at k.all p) n (sym (same_places k l p e b)) h

-- ---- a solution that moves
pub turn_same : (ps : List (List ℤ)) (k l : KeptDictionaries) (p : ℕ) (n : BasicSolution) (w : Turn) → HaveSameDictionaries k l → p < length l.all → IsTurnAt ps (dictionary_at l p) n w
    → IsTurnAt ps (dictionary_at k p) n w
turn_same ps k l p n w e b h = subst (λ m. IsTurnAt ps m n w) (sym (same_places k l p e b)) h

pub turning : (ps : List (List ℤ)) (weight : ℕ) (k : KeptDictionaries) (p : ℕ) (n : BasicSolution) (w : Turn) (size : ℤ) (m : BasicSolution) → IsAt ps weight (kept_at k.all p) n
    → IsTurnAt ps (dictionary_at k p) n w → size ≡ pos (nat_abs w.coefficient) → 0 < nat_abs w.coefficient → n.reach * nat_abs size < 2 ^ 63
    → (bound : ℤ) × IsTurned ps (dictionary_at k p) n w size bound m → IsTurning ps weight k p n w size m
turning ps weight k p n w size m at turn size_is some near turned = record {
  at = at;
  turn = turn;
  size_is = size_is;
  some = some;
  near = near;
  bound = turned.0;
  turned = turned.1;
}

pub move_same : (ps : List (List ℤ)) (weight : ℕ) (k l : KeptDictionaries) (p : ℕ) (n : BasicSolution) (new : KeptDictionaries) (q : ℕ) (m : BasicSolution) → HaveSameDictionaries k l → p < length l.all
    → IsMove ps weight (dictionary_at k p) n new q m → IsMove ps weight (dictionary_at l p) n new q m
move_same ps weight k l p n new q m e b h = subst (λ d. IsMove ps weight d n new q m) (same_places k l p e b) h

-- ---- a solution that hasn't moved
pub unmoved_at : (ps : List (List ℤ)) (weight : ℕ) (old new : KeptDictionaries) (p : ℕ) (n m : BasicSolution) → IsUnmoved old new n m → p < length old.all → IsAt ps weight (kept_at old.all p) n
    → IsAt ps weight (kept_at new.all p) m
unmoved_at ps weight old new p n m u l h = subst (IsAt ps weight (kept_at new.all p)) (sym u.solution) (at_same_place ps weight new old p n u.dictionaries l h)

pub unmoved_view : (numbers : List ℕ) (ps : List (List ℤ)) (old new : KeptDictionaries) (p : ℕ) (n m : BasicSolution) → IsUnmoved old new n m → p < length old.all
    → view_with numbers ps (dictionary_at new p) m ≡ view_with numbers ps (dictionary_at old p) n
unmoved_view numbers ps old new p n m u l = λ i. view_with numbers ps (same_places new old p u.dictionaries l i) (u.solution i)

-- ---- runs
-- it ends where no pivot is asked for
ends_here : (k : ℕ) (t : Tableau) (p : Place) → p ≡ place t → ((r c : ℕ) → p ≢ Pivot r c) → EndsAs (run_from (suc k) t) p t
ends_here k t p e n = subst (λ q. EndsAs (continued (run_from k) (step_at t q)) p t) e (at p n)
  where
    at : (q : Place) → ((r c : ℕ) → q ≢ Pivot r c) → EndsAs (continued (run_from k) (step_at t q)) q t
    at Done n = record { place = refl; pivots = refl; tableau = refl }
    at (NoColumn r) n = record { place = refl; pivots = refl; tableau = refl }
    at Cramped n = record { place = refl; pivots = refl; tableau = refl }
    at (Pivot r c) n = absurd (n r c refl)

-- it goes on where one is made
pub goes_on : (cap made : ℕ) (t u : Tableau) (e : RunEnd) → made < cap → step_at t (place t) ≡ inr u → run_from (cap - made) t ≡ e → run_from (cap - (made + 1)) u ≡ e
goes_on cap made t u e l s h =
    let q : cap - made ≡ suc (cap - (made + 1)) = omega (arith, l) in
    sym (ap (continued (run_from (cap - (made + 1)))) s) ∙ ap (λ k. run_from k t) (sym q) ∙ h

-- it has ended with a solution that hasn't moved
pub kept_end : (numbers : List ℕ) (ps : List (List ℤ)) (weight : ℕ) (old new : KeptDictionaries) (most made : ℕ) (e : RunEnd) (l : Place) (p : ℕ) (n m : BasicSolution) → made < most → p < length old.all
    → IsAt ps weight (kept_at old.all p) n → run_from (most - made) (view_with numbers ps (dictionary_at old p) n) ≡ e → n.pivots ≡ made → IsUnmoved old new n m → IsLastPlace (view_with [] ps (dictionary_at old p) n) l
    → IsKeptEnd numbers ps weight new most e l p m
kept_end numbers ps weight old new most made e l p n m b there at same counted u last = record {
  there = omega (arith, there, as_many new old u.dictionaries);
  at = unmoved_at ps weight old new p n m u there at;
  ends = subst (EndsAs e l) (sym view) (subst (λ e. EndsAs e l (view_with numbers ps (dictionary_at old p) n)) (ap (λ k. run_from k (view_with numbers ps (dictionary_at old p) n)) (sym rest) ∙ same)
      (ends_here (most - (made + 1)) (view_with numbers ps (dictionary_at old p) n) l last.place last.other));
  within = subst (λ (t : Tableau). PlaceIsWithin (length t.statuses) l) (sym view) last.within;
  exact = last.exact;
  capped = omega (arith, b, counted, ap (λ (n : BasicSolution). n.pivots) u.solution);
}
  where
    view : view_with numbers ps (dictionary_at new p) m ≡ view_with numbers ps (dictionary_at old p) n
    view = unmoved_view numbers ps old new p n m u there

    rest : most - made ≡ suc (most - (made + 1))
    rest = omega (arith, b)

-- as it ended by the one tableau it ended by the same one
pub same_end : (numbers : List ℕ) (ps : List (List ℤ)) (weight : ℕ) (k : KeptDictionaries) (r : Result StoredEnd ℕ) (c d : ℕ) (e f : RunEnd) → c ≡ d → e ≡ f
    → IfOk r (IsStoredEnd numbers ps weight k c e) → IfOk r (IsStoredEnd numbers ps weight k d f)
same_end numbers ps weight k r c d e f p q h = subst (λ e. IfOk r (IsStoredEnd numbers ps weight k d e)) q (subst (λ c. IfOk r (IsStoredEnd numbers ps weight k c e)) p h)
