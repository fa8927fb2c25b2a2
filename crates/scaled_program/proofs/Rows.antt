-- One row of a pivot: where both rows come out, the one is the other read with scales.
use Rattle.std.proofs.Common.{◌≡◌, ℕ, ◌+◌, ◌<◌, arith, ap, sym, ◌∙◌, Option, Some, None, List, [], ◌∷◌, set, true, false, Bool}
use Rattle.std.specs.Prelude.{pos, nat_abs, if◌then◌else◌}
use Rattle.std.specs.Ordering.{int_eq}
use Rattle.std.specs.Option.{option_map}
use Rattle.fraction.specs.Lemmas.Bounds.{was_some, was_mapped}
use Rattle.fraction.specs.Rational.{ℚ, ◌*ℚ◌, ◌+ℚ◌}
use Rattle.fraction.specs.Lemmas.Rational.{*ℚ_comm, +ℚ_comm, divided}
use Rattle.tableau.specs.Elimination.{add_multiple, add_multiple_of_row, entry, negative_quotient, negative_quotients, solved_for, substituted, zero_ℚ}
use Rattle.tableau.specs.Lemmas.RowAlgebra.{add_multiple_is, cancelled, minus_one, negative_quotient_is}
use Rattle.integer_tableau.specs.Scales.{Scales, scaled_by, unscaled_row}
use Rattle.integer_tableau.specs.Lemmas.MapFrom.{get_or-map_from, set-map_from}
use Rattle.scaled_program.proofs.Numbers.{scaled_product, scaled_self, scaled_sum, scaled_zero}

pub entry_unscaled : (σ : Scales) (s : ℕ) (row : List ℚ) (j : ℕ) → entry (unscaled_row σ s 0 row) j ≡ scaled_by (σ j) s (entry row j)
entry_unscaled σ s row j =
    get_or-map_from (λ j x. scaled_by (σ j) s x) 0 row j zero_ℚ zero_ℚ (λ k. scaled_zero (σ k) s) ∙ ap (λ k. scaled_by (σ k) s (entry row j)) (let g : 0 + j ≡ j = omega arith in g)

pub clear_unscaled : (σ : Scales) (s c : ℕ) (row : List ℚ) → set (unscaled_row σ s 0 row) c zero_ℚ ≡ unscaled_row σ s 0 (set row c zero_ℚ)
clear_unscaled σ s c row = ap (set (unscaled_row σ s 0 row) c) (sym (scaled_zero (σ (0 + c)) s)) ∙ set-map_from (λ j x. scaled_by (σ j) s x) 0 row c zero_ℚ

-- ---- another row, of unit s, in which variable c of unit k is substituted
module _ (σ : Scales) (s k : ℕ) (os : 0 < s) (ok : 0 < k) where
  added : (q t x d e : ℚ) (a : ℕ) → add_multiple q t x ≡ Some d → add_multiple (scaled_by k s q) (scaled_by a s t) (scaled_by a k x) ≡ Some e → e ≡ scaled_by a s d
  added q t x d e a h g =
      add_multiple_is (scaled_by k s q) (scaled_by a s t) (scaled_by a k x) e g
      ∙ ap (λ z. scaled_by a s t +ℚ z) (scaled_product a s k q x os ok)
      ∙ sym (scaled_sum a s t (q *ℚ x))
      ∙ ap (scaled_by a s) (sym (add_multiple_is q t x d h))

  pub added_rows : (q : ℚ) (i : ℕ) (ts xs ds es : List ℚ) → add_multiple_of_row q ts xs ≡ Some ds → add_multiple_of_row (scaled_by k s q) (unscaled_row σ s i ts) (unscaled_row σ k i xs) ≡ Some es
      → es ≡ unscaled_row σ s i ds
  added_rows q i [] xs ds es h g = let e : [] ≡ ds = cc in let f : [] ≡ es = cc in sym f ∙ ap (unscaled_row σ s i) e
  added_rows q i (t ∷ ts) [] ds es h g =
      let e : t ∷ ts ≡ ds = cc in let f : unscaled_row σ s i (t ∷ ts) ≡ es = cc in sym f ∙ ap (unscaled_row σ s i) e
  added_rows q i (t ∷ ts) (x ∷ xs) ds es h g =
      let a = was_some (λ d. option_map (λ ds. d ∷ ds) (add_multiple_of_row q ts xs)) (add_multiple q t x) ds h in
      let b = was_mapped (λ ds. a.0 ∷ ds) (add_multiple_of_row q ts xs) ds a.2 in
      let a' = was_some (λ d. option_map (λ ds. d ∷ ds) (add_multiple_of_row (scaled_by k s q) (unscaled_row σ s (i + 1) ts) (unscaled_row σ k (i + 1) xs)))
      (add_multiple (scaled_by k s q) (scaled_by (σ i) s t) (scaled_by (σ i) k x)) es g in
      let b' = was_mapped (λ ds. a'.0 ∷ ds) (add_multiple_of_row (scaled_by k s q) (unscaled_row σ s (i + 1) ts) (unscaled_row σ k (i + 1) xs)) es a'.2 in
      sym b'.2
      ∙ (λ z. added q t x a.0 a'.0 (σ i) a.1 a'.1 z ∷ added_rows q (i + 1) ts xs b.0 b'.0 b.1 b'.1 z)
      ∙ ap (unscaled_row σ s i) b.2

pub substituted_unscaled : (σ : Scales) (s c : ℕ) (new row ds es : List ℚ) → 0 < s → 0 < σ c → substituted c new row ≡ Some ds
    → substituted c (unscaled_row σ (σ c) 0 new) (unscaled_row σ s 0 row) ≡ Some es → es ≡ unscaled_row σ s 0 ds
substituted_unscaled σ s c new row ds es os oc h g =
    added_rows σ s (σ c) os oc (entry row c) 0 (set row c zero_ℚ) new ds es h
    ((λ i. add_multiple_of_row (sym (entry_unscaled σ s row c) i) (sym (clear_unscaled σ s c row) i) (unscaled_row σ (σ c) 0 new)) ∙ g)

-- ---- the row of variable r, of unit s, solved for variable c, of unit k
module _ (σ : Scales) (s k : ℕ) (os : 0 < s) (ok : 0 < k) (p : ℚ) (there : 0 < nat_abs p.num) (there' : 0 < nat_abs (scaled_by k s p).num) where
  quotient : (t d e : ℚ) (a : ℕ) → negative_quotient p t ≡ Some d → negative_quotient (scaled_by k s p) (scaled_by a s t) ≡ Some e → e ≡ scaled_by a k d
  quotient t d e a h g =
      let x = negative_quotient_is p t d there h in
      let y = negative_quotient_is (scaled_by k s p) (scaled_by a s t) e there' g in
      let z : scaled_by a k d *ℚ scaled_by k s p +ℚ scaled_by a s t ≡ zero_ℚ =
      ap (λ w. w +ℚ scaled_by a s t) (*ℚ_comm (scaled_by a k d) (scaled_by k s p) ∙ scaled_product a s k p d os ok ∙ ap (scaled_by a s) (*ℚ_comm p d))
      ∙ sym (scaled_sum a s (d *ℚ p) t) ∙ ap (scaled_by a s) x ∙ scaled_zero a s in
      divided (scaled_by k s p) e (scaled_by a k d) there' (cancelled (e *ℚ scaled_by k s p) (scaled_by a k d *ℚ scaled_by k s p) (scaled_by a s t) y (+ℚ_comm (scaled_by a s t) (scaled_by a k d *ℚ scaled_by k s p) ∙ z))

  quotients : (i : ℕ) (ts ds es : List ℚ) → negative_quotients p ts ≡ Some ds → negative_quotients (scaled_by k s p) (unscaled_row σ s i ts) ≡ Some es → es ≡ unscaled_row σ k i ds
  quotients i [] ds es h g = let e : [] ≡ ds = cc in let f : [] ≡ es = cc in sym f ∙ ap (unscaled_row σ k i) e
  quotients i (t ∷ ts) ds es h g =
      let a = was_some (λ d. option_map (λ ds. d ∷ ds) (negative_quotients p ts)) (negative_quotient p t) ds h in
      let b = was_mapped (λ ds. a.0 ∷ ds) (negative_quotients p ts) ds a.2 in
      let a' = was_some (λ d. option_map (λ ds. d ∷ ds) (negative_quotients (scaled_by k s p) (unscaled_row σ s (i + 1) ts))) (negative_quotient (scaled_by k s p) (scaled_by (σ i) s t)) es g in
      let b' = was_mapped (λ ds. a'.0 ∷ ds) (negative_quotients (scaled_by k s p) (unscaled_row σ s (i + 1) ts)) es a'.2 in
      sym b'.2 ∙ (λ z. quotient t a.0 a'.0 (σ i) a.1 a'.1 z ∷ quotients (i + 1) ts b.0 b'.0 b.1 b'.1 z) ∙ ap (unscaled_row σ k i) b.2

marked : (σ : Scales) (r : ℕ) (row : List ℚ) → 0 < σ r → set (unscaled_row σ (σ r) 0 row) r minus_one ≡ unscaled_row σ (σ r) 0 (set row r minus_one)
marked σ r row o =
    ap (set (unscaled_row σ (σ r) 0 row) r) (sym (ap (λ j. scaled_by (σ j) (σ r) minus_one) (let g : 0 + r ≡ r = omega arith in g) ∙ scaled_self (σ r) minus_one o))
    ∙ set-map_from (λ j x. scaled_by (σ j) (σ r) x) 0 row r minus_one

if_solved : (p : ℚ) (o : Option (List ℚ)) (ds : List ℚ) → (if int_eq p.num (pos 0) then None else o) ≡ Some ds → o ≡ Some ds
if_solved p o ds h = step (int_eq p.num (pos 0)) h
  where
    step : (b : Bool) → (if b then None else o) ≡ Some ds → o ≡ Some ds
    step true h = cc
    step false h = h

pub solved_unscaled : (σ : Scales) (r c : ℕ) (row ds es : List ℚ) → 0 < σ r → 0 < σ c → 0 < nat_abs (entry row c).num → 0 < nat_abs (scaled_by (σ c) (σ r) (entry row c)).num
    → solved_for r c row ≡ Some ds → solved_for r c (unscaled_row σ (σ r) 0 row) ≡ Some es → es ≡ unscaled_row σ (σ c) 0 ds
solved_unscaled σ r c row ds es or oc there there' h g =
    quotients σ (σ r) (σ c) or oc (entry row c) there there' 0 (set (set row r minus_one) c zero_ℚ) ds es (if_solved (entry row c) _ ds h)
    ((λ i. negative_quotients (sym (entry_unscaled σ (σ r) row c) i) (sym (ap (λ ys. set ys c zero_ℚ) (marked σ r row or) ∙ clear_unscaled σ (σ r) c (set row r minus_one)) i))
    ∙ if_solved (entry (unscaled_row σ (σ r) 0 row) c) _ es g)
