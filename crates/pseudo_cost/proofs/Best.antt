-- The best column of the front of a list.
use Rattle.std.proofs.Common.{◌≡◌, ℕ, ◌+◌, ◌<◌, ◌≤◌, inl, inr, List, length, get_or, arith, sym, subst, ◌∙◌, below_more}
use Rattle.std.specs.Prelude.{All, Contains}
use Rattle.std.proofs.lemmas.List.{get_or_default}
use Rattle.pseudo_cost.specs.declared.column_gains.ColumnGains.{ColumnGains}
use Rattle.pseudo_cost.specs.ColumnGains.{score_at, IsBetterOf}

-- the best of the first n columns of a list
pub record IsBestOfFirst (cs : List ColumnGains) (js : List ℕ) (n best : ℕ) : Type 0 where
  pub there : best < length cs
  pub listed : Contains js best
  pub greatest : (k d : ℕ) → k < n → score_at cs (get_or js k d) ≤ score_at cs best
  pub least : (k d : ℕ) → k < n → score_at cs (get_or js k d) ≡ score_at cs best → best ≤ get_or js k d

-- the better of the best so far and the next one has the greatest score
greatest_of_more : (f : ℕ → ℕ) (js : List ℕ) (n best e r : ℕ) → n < length js → ((k d : ℕ) → k < n → f (get_or js k d) ≤ f best)
    → f best ≤ f r → f (get_or js n e) ≤ f r → (k d : ℕ) → k < n + 1 → f (get_or js k d) ≤ f r
greatest_of_more f js n best e r lt below first second k d h =
    below_more (λ i. (d : ℕ) → f (get_or js i d) ≤ f r) n
    (λ i l d. let q = below i d l in omega arith)
    (λ d. subst (λ x. f x ≤ f r) (get_or_default js n e d lt) second)
    k h d

-- it is also the least column of that score
least_of_more : (f : ℕ → ℕ) (js : List ℕ) (n best e r : ℕ) → n < length js → ((k d : ℕ) → k < n → f (get_or js k d) ≤ f best)
    → ((k d : ℕ) → k < n → f (get_or js k d) ≡ f best → best ≤ get_or js k d) → f best ≤ f r → (f best ≡ f r → r ≤ best)
    → (f (get_or js n e) ≡ f r → r ≤ get_or js n e) → (k d : ℕ) → k < n + 1 → f (get_or js k d) ≡ f r → r ≤ get_or js k d
least_of_more f js n best e r lt below least first first_tie second_tie k d h =
    below_more (λ i. (d : ℕ) → f (get_or js i d) ≡ f r → r ≤ get_or js i d) n
    (λ i l d q.
    let a = below i d l in
    let same : f best ≡ f r = omega arith in
    let also : f (get_or js i d) ≡ f best = omega arith in
    let b = first_tie same in
    let c = least i d l also in omega arith)
    (λ d. subst (λ x. f x ≡ f r → r ≤ x) (get_or_default js n e d lt) second_tie)
    k h d

pub with_next : (cs : List ColumnGains) (js : List ℕ) (n best e r : ℕ) → IsBestOfFirst cs js n best → n < length js → All (λ j. j < length cs) js
    → IsBetterOf cs best (get_or js n e) r → IsBestOfFirst cs js (n + 1) r
with_next cs js n best e r so_far lt all better = record {
  there = elim better.one [
    | inl q ↦ subst (λ x. x < length cs) (sym q) so_far.there
    | inr q ↦ subst (λ x. x < length cs) (sym q) (all n e lt)
  ];
  listed = elim better.one [
    | inl q ↦ subst (Contains js) (sym q) so_far.listed
    | inr q ↦ (n, lt, get_or_default js n r e lt ∙ sym q)
  ];
  greatest = greatest_of_more (score_at cs) js n best e r lt so_far.greatest better.first better.second;
  least = least_of_more (score_at cs) js n best e r lt so_far.greatest so_far.least better.first better.first_tie better.second_tie;
}
