-- Steps of the loops over all variables.
use Rattle.std.proofs.Common.{◌≡◌, ◌≢◌, ℕ, zero, suc, ◌+◌, ◌<◌, ◌≤◌, arith, ap, sym, ◌∙◌, subst, List, [], ◌∷◌, ◌++◌, length, get_or, set, take, below_more, get_or-set_other, get_or-set_same}
use Rattle.std.specs.Prelude.{eqb}
use Rattle.std.specs.Int.{w64}
use Rattle.std.specs.Ordering.{is_eq}
use Rattle.std.specs.Bool.{one_answer}
use Rattle.std.proofs.Common.{to_z, of_z}
use mir.Val.{SFits}
use Rattle.std.proofs.lemmas.Bool.Decides.{Decides-like, Decides-eqb}
use Rattle.std.proofs.lemmas.Int.{to_z-of_z}
use Rattle.std.specs.Prelude.{ℤ, pos, nat_abs, int_lt, ◌<ℤ◌, ◌*ℤ◌, Option, Some, None, map}
use Rattle.std.specs.Option.{IfSome}
use Rattle.std.proofs.lemmas.Int.{ints}
use Rattle.std.proofs.lemmas.List.{get_or_append_left, get_or_push, length-set, length_push, take_more, map-append}
use Rattle.fraction.specs.Checked.{compare}
use Rattle.fraction.specs.Lemmas.Bounds.{whole_parts}
use Rattle.fraction.specs.Lemmas.Order.{compare_equal}
use Rattle.fraction.specs.Rational.{frac, whole, ℚ}
use Rattle.integer_tableau.specs.Lemmas.Comparing.{above_whole, below_whole}
use Rattle.integer_tableau.specs.Combined.{bound_size, total_bound_size}
use Rattle.integer_tableau.specs.declared.integer_bounds.IntegerBounds.{IntegerBounds}
use Rattle.integer_tableau.specs.Entries.{entry_size}
use Rattle.integer_tableau.specs.declared.program_row.ProgramEntry.{ProgramEntry}
use Rattle.integer_tableau.proofs.EntrySums.{entry_at}
use Rattle.integer_tableau.specs.Pivot.{IsEliminated, IsSubstitutedValue}
use Rattle.integer_tableau.specs.Substitution.{IsSolvedRow, IsSubstitutedIfFull, IsSubstitutedRow}
use Rattle.tableau.specs.Leaving.{is_above, is_below}

entry_size-take : (es : List ProgramEntry) (i : ℕ) → i < length es → entry_size (take (suc i) es) ≡ entry_size (take i es) + nat_abs (entry_at es i).number
entry_size-take [] i l = absurd (omega arith)
entry_size-take (e ∷ es) zero l = omega arith
entry_size-take (e ∷ es) (suc i) l = omega (arith, entry_size-take es i (omega arith))

pub entry_size_more : (es : List ProgramEntry) (i total more x : ℕ) → i < length es → total ≡ entry_size (take i es) → x ≡ nat_abs (entry_at es i).number → more ≡ total + x → more ≡ entry_size (take (i + 1) es)
entry_size_more es i total more x l t n m = let e : i + 1 ≡ suc i = omega arith in rw e (omega (arith, t, n, m, entry_size-take es i l))

pub total_bound_size_more : (bs : List IntegerBounds) (i total more x : ℕ) → i < length bs → total ≡ total_bound_size (take i bs) → x ≡ bound_size (get_or bs i (record { lower = None; upper = None }))
    → more ≡ total + x → more ≡ total_bound_size (take (i + 1) bs)
total_bound_size_more bs i total more x l t n m = let q : i + 1 ≡ suc i = omega arith in rw q (omega (arith, t, n, m, step bs i l))
  where
    step : (bs : List IntegerBounds) (i : ℕ) → i < length bs → total_bound_size (take (suc i) bs) ≡ total_bound_size (take i bs) + bound_size (get_or bs i (record { lower = None; upper = None }))
    step [] i l = absurd (omega arith)
    step (c ∷ bs) zero l = omega arith
    step (c ∷ bs) (suc i) l = omega (arith, step bs i (omega arith))

-- an element more
pub next_mapped_at : {A B : Type 0} (f : A → B) (xs : List A) (i : ℕ) (d : A) → i < length xs → map f (take (i + 1) xs) ≡ map f (take i xs) ++ (f (get_or xs i d) ∷ [])
next_mapped_at f xs i d l = ap (map f) (take_more xs i d l) ∙ map-append f (take i xs) (get_or xs i d ∷ [])

-- an element is replaced
module _ {X : Type 0} (R : ℕ → X → X → Type 0) (none : X) where
  pub each_more : (first now : List X) (i : ℕ) (x : X) → i < length now → ((v : ℕ) → v < i → R v (get_or first v none) (get_or now v none))
      → R i (get_or first i none) x → (v : ℕ) → v < i + 1 → R v (get_or first v none) (get_or (set now i x) v none)
  each_more first now i x l h r = below_more (λ v. R v (get_or first v none) (get_or (set now i x) v none)) i
      (λ v m. let ne : v ≢ i = omega arith in subst (R v (get_or first v none)) (sym (get_or-set_other now i v x none ne)) (h v m))
      (subst (R i (get_or first i none)) (sym (get_or-set_same now i x none l)) r)

pub others_more : {X : Type 0} (none : X) (first now : List X) (i : ℕ) (x : X) → ((v : ℕ) → i ≤ v → get_or now v none ≡ get_or first v none) → (v : ℕ) → i + 1 ≤ v → get_or (set now i x) v none ≡ get_or first v none
others_more none first now i x h v m = let ne : v ≢ i = omega arith in get_or-set_other now i v x none ne ∙ h v (omega arith)

-- what holds at each index holds so with one element more
pub each_pushed : {X : Type 0} (P : ℕ → X → Type 0) (none : X) (xs new : List X) (x : X) (i : ℕ) → new ≡ xs ++ x ∷ [] → length xs ≡ i → ((k : ℕ) → k < length xs → P k (get_or xs k none)) → P i x
    → (k : ℕ) → k < length new → P k (get_or new k none)
each_pushed P none xs new x i e full h here k l =
    let more = below_more (λ k. P k (get_or (xs ++ x ∷ []) k none)) i (λ k m. subst (P k) (sym (get_or_append_left xs (x ∷ []) none k (omega (arith, m, full)))) (h k (omega (arith, m, full))))
    (subst (P i) (sym (get_or_push xs x none i full)) here) in
    subst (λ new. P k (get_or new k none)) (sym e) (more k (omega (arith, l, ap length e, full, length_push xs x)))

-- another fact of what is there
pub if_some : {A : Type 0} (P Q : A → Type 0) (o : Option A) → ((v : A) → P v → Q v) → IfSome o P → IfSome o Q
if_some P Q None f h = h
if_some P Q (Some v) f h = f v h

-- ---- outside a bound
same_size : (d : ℤ) → pos 0 <ℤ d → 0 < nat_abs d
same_size d o = omega (arith, ints)

positive_is : (d : ℤ) → pos 0 <ℤ d → pos (nat_abs d) ≡ d
positive_is d o = omega (arith, ints)

pub above_is : (v u d y : ℤ) → pos 0 <ℤ d → y ≡ u *ℤ d → int_lt y v ≡ is_above (frac v (nat_abs d)) (Some (whole u))
above_is v u d y o e = rw e (ap (λ z. int_lt (u *ℤ z) v) (sym (positive_is d o)) ∙ sym (above_whole v u (nat_abs d) (same_size d o)))

pub below_is : (v l d y : ℤ) → pos 0 <ℤ d → y ≡ l *ℤ d → int_lt v y ≡ is_below (frac v (nat_abs d)) (Some (whole l))
below_is v l d y o e = rw e (ap (λ z. int_lt v (l *ℤ z)) (sym (positive_is d o)) ∙ sym (below_whole v l (nat_abs d) (same_size d o)))

-- ---- a pivot's rows
pub eliminated_from : (c k d e : ℕ) (dd ee : ℤ) (row solved : List ℤ) (first two : List (List ℤ)) (reduced_costs costs' : List ℤ) → dd ≡ pos d → ee ≡ pos e → IsSolvedRow k d row solved
    → ((v : ℕ) → v < length first → IsSubstitutedIfFull dd ee k solved (get_or first v []) (get_or two v [])) → IsSubstitutedRow dd ee k solved reduced_costs costs' → length two ≡ length first
    → IsEliminated c k d e row solved first (set two c solved) reduced_costs costs'
eliminated_from c k d e dd ee row solved first two reduced_costs costs' dd_is ee_is turn steps costs many = record {
  is_solved = turn;
  put = λ l. get_or-set_same two c solved [] (omega (arith, l, many));
  others = λ v l n.
      subst (λ x. IsSubstitutedIfFull (pos d) (pos e) k solved (get_or first v []) x) (sym (get_or-set_other two c v solved [] n))
      (subst (λ z. IsSubstitutedIfFull z (pos e) k solved (get_or first v []) (get_or two v [])) dd_is
      (subst (λ z. IsSubstitutedIfFull dd z k solved (get_or first v []) (get_or two v [])) ee_is (steps v l)));
  costs = subst (λ z. IsSubstitutedRow z (pos e) k solved reduced_costs costs') dd_is (subst (λ z. IsSubstitutedRow dd z k solved reduced_costs costs') ee_is costs);
  as_many = length-set two c solved ∙ many;
}

pub size_is : (d : ℤ) → pos 0 <ℤ d → d ≡ pos (nat_abs d)
size_is d o = omega (arith, ints)

pub value_at : (width k : ℕ) (x e t d : ℤ) (l l' : List ℤ) (v v' w w' : ℤ) → l ≡ l' → v ≡ v' → w ≡ w' → IsSubstitutedValue width k x e t d l v w → IsSubstitutedValue width k x e t d l' v' w'
value_at width k x e t d l l' v v' w w' p q r h = subst (λ l. IsSubstitutedValue width k x e t d l v' w') p (subst (λ v. IsSubstitutedValue width k x e t d l v w') q (subst (IsSubstitutedValue width k x e t d l v) r h))

-- ---- bounds that differ
pub tie_is : (l u : ℤ) → SFits w64 l → SFits w64 u → eqb (of_z w64 l) (of_z w64 u) ≡ is_eq (compare (whole l) (whole u))
tie_is l u f g = one_answer (eqb (of_z w64 l) (of_z w64 u)) (is_eq (compare (whole l) (whole u)))
    (Decides-like (eqb (of_z w64 l) (of_z w64 u))
    (λ e. ap whole (sym (to_z-of_z w64 l f) ∙ ap (to_z w64) e ∙ to_z-of_z w64 u g))
    (λ e. ap (of_z w64) (sym (whole_parts l).0 ∙ ap (λ (x : ℚ). x.num) e ∙ (whole_parts u).0))
    (Decides-eqb (of_z w64 l) (of_z w64 u)))
    (compare_equal (whole l) (whole u))
