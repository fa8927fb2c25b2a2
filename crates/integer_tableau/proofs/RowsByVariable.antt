-- A row of whole numbers as the row of fractions that it stands for, by variable, and the steps of a pivot on it.
use Rattle.std.proofs.Common.{◌≡◌, ◌≢◌, ℕ, ◌-◌, ◌^◌, ◌<◌, arith, refl, ap, sym, ◌∙◌, Some, None, List, [], ◌∷◌, length, get_or, set, inl, inr, get_or-set_other, get_or-set_same}
use Rattle.std.specs.Prelude.{ℤ, pos, negsuc, neg_ℤ, ◌+ℤ◌, ◌*ℤ◌, nat_abs, map, if◌then◌else◌}
use Rattle.std.specs.Ordering.{int_eq}
use Rattle.std.specs.Option.{option_and_then, option_map}
use Rattle.std.proofs.lemmas.Int.{ints}
use lib.IntN.{*ℤ_comm}
use Rattle.std.proofs.lemmas.Bool.{cases_eq, cases_lt}
use Rattle.std.proofs.lemmas.List.{same_lists, get_or-map, map-set, length-map, length-set, set-get_or, get_or_past}
use Rattle.fraction.specs.Rational.{frac, whole, ℚ}
use Rattle.integer_tableau.specs.Lemmas.Fractions.{add_multiple_exact, frac-num_positive, less_over, negative_quotient_exact, zero_over}
use Rattle.integer_tableau.specs.Numbers.{IsWithin, number_at}
use Rattle.integer_tableau.specs.Range.{size_limit}
use Rattle.integer_tableau.specs.Positions.{IsColumnOf, coefficient, coefficients}
use Rattle.integer_tableau.proofs.Exchanges.{positions_exchanged}
use Rattle.integer_tableau.specs.Substitution.{IsSolvedFor, IsSubstituted, quotient_numerator}
use Rattle.integer_tableau.specs.declared.position.Position.{Position}
use Rattle.integer_tableau.specs.declared.position.Position.TheVariants.{InBasis, InColumn}
use Rattle.tableau.specs.Elimination.{add_multiple, add_multiple_of_row, negative_quotient, negative_quotients, solved_for, substituted}

-- ---- what differs in the column of c alone
module _ {B : Type 0} (f g : Position → B) (positions : List Position) (c k : ℕ) (alone : IsColumnOf positions c k) (based : f InBasis ≡ g InBasis) (others : (j : ℕ) → j ≢ k → f (InColumn j) ≡ g (InColumn j)) where
  agree : (v : ℕ) → v ≢ c → (s : Position) → get_or positions v InBasis ≡ s → f s ≡ g s
  agree v n InBasis e = based
  agree v n (InColumn j) e = elim (cases_eq j k) [
    | inl p ↦ absurd (n (alone v (e ∙ ap InColumn p)))
    | inr p ↦ others j p
  ]

  pub agree_but : (r : ℕ) (x y : B) → set (set (map f positions) r x) c y ≡ set (set (map g positions) r x) c y
  agree_but r x y = same_lists _ _ (length-set _ c y ∙ length-set _ r x ∙ length-map positions f ∙ sym (length-set _ c y ∙ length-set _ r x ∙ length-map positions g)) by_index
    where
      long : (h : Position → B) (v : ℕ) → v < length (set (set (map h positions) r x) c y) → v < length positions
      long h v m = omega (arith, m, length-set (set (map h positions) r x) c y, length-set (map h positions) r x, length-map positions h)

      away : (v : ℕ) (d : B) → v < length positions → v ≢ c → get_or (set (map f positions) r x) v d ≡ get_or (set (map g positions) r x) v d
      away v d m n = elim (cases_eq v r) [
        | inl p ↦ same v d m p
        | inr p ↦ get_or-set_other (map f positions) r v x d p ∙ get_or-map f positions v InBasis d m ∙ agree v n (get_or positions v InBasis) refl ∙ sym (get_or-map g positions v InBasis d m) ∙ sym (get_or-set_other (map g positions) r v x d p)
      ]
        where
          same : (v : ℕ) (d : B) → v < length positions → v ≡ r → get_or (set (map f positions) r x) v d ≡ get_or (set (map g positions) r x) v d
          same v d m p =
              ap (λ w. get_or (set (map f positions) r x) w d) p ∙ get_or-set_same (map f positions) r x d (omega (arith, m, p, length-map positions f))
              ∙ sym (ap (λ w. get_or (set (map g positions) r x) w d) p ∙ get_or-set_same (map g positions) r x d (omega (arith, m, p, length-map positions g)))

      by_index : (v : ℕ) (d : B) → v < length (set (set (map f positions) r x) c y) → get_or (set (set (map f positions) r x) c y) v d ≡ get_or (set (set (map g positions) r x) c y) v d
      by_index v d m = elim (cases_eq v c) [
        | inl p ↦
            ap (λ w. get_or (set (set (map f positions) r x) c y) w d) p ∙ get_or-set_same (set (map f positions) r x) c y d (omega (arith, long f v m, p, length-set (map f positions) r x, length-map positions f))
            ∙ sym (ap (λ w. get_or (set (set (map g positions) r x) c y) w d) p ∙ get_or-set_same (set (map g positions) r x) c y d (omega (arith, long f v m, p, length-set (map g positions) r x, length-map positions g)))
        | inr p ↦ get_or-set_other (set (map f positions) r x) c v y d p ∙ away v d (long f v m) p ∙ sym (get_or-set_other (set (map g positions) r x) c v y d p)
      ]

pub map_exchanged : {B : Type 0} (g : Position → B) (positions : List Position) (r c k : ℕ) → set (set (map g positions) r (g (InColumn k))) c (g InBasis) ≡ map g (positions_exchanged r c k positions)
map_exchanged g positions r c k = sym (map-set g (set positions r (InColumn k)) c InBasis ∙ ap (λ xs. set xs c (g InBasis)) (map-set g positions r (InColumn k)))

-- ---- from each variable to the row
add_multiple_all : (q : ℚ) (f g h : Position → ℚ) (us : List Position) → ((u : Position) → add_multiple q (f u) (g u) ≡ Some (h u)) → add_multiple_of_row q (map f us) (map g us) ≡ Some (map h us)
add_multiple_all q f g h [] p = refl
add_multiple_all q f g h (u ∷ us) p =
    ap (option_and_then (λ d. option_map (λ ds. d ∷ ds) (add_multiple_of_row q (map f us) (map g us)))) (p u)
    ∙ ap (option_map (λ ds. h u ∷ ds)) (add_multiple_all q f g h us p)

negative_quotient_all : (p : ℚ) (f h : Position → ℚ) (us : List Position) → ((u : Position) → negative_quotient p (f u) ≡ Some (h u)) → negative_quotients p (map f us) ≡ Some (map h us)
negative_quotient_all p f h [] e = refl
negative_quotient_all p f h (u ∷ us) e =
    ap (option_and_then (λ d. option_map (λ ds. d ∷ ds) (negative_quotients p (map f us)))) (e u)
    ∙ ap (option_map (λ ds. h u ∷ ds)) (negative_quotient_all p f h us e)

pub number_at-set_other : (row : List ℤ) (k j : ℕ) (z : ℤ) → j ≢ k → number_at row j ≡ number_at (set row k z) j
number_at-set_other row k j z n = sym (get_or-set_other row k j z (pos 0) n)

narrow_set : (row : List ℤ) (k : ℕ) (z : ℤ) → IsWithin (size_limit - 1) row → nat_abs z < size_limit → (j : ℕ) → nat_abs (number_at (set row k z) j) < 2 ^ 63
narrow_set row k z h s j = elim (cases_eq j k) [
  | inl p ↦ rw p (here j)
  | inr p ↦ rw (get_or-set_other row k j z (pos 0) p) (omega (arith, h j))
]
  where
    here : (j : ℕ) → nat_abs (number_at (set row k z) k) < 2 ^ 63
    here j = elim (cases_lt k (length row)) [
      | inl l ↦ rw (get_or-set_same row k z (pos 0) l) (omega (arith, s))
      | inr l ↦ rw (get_or_past (set row k z) k (pos 0) (omega (arith, l, length-set row k z))) (omega arith)
    ]

-- ---- a substitution in a row
module _ (positions : List Position) (r c k d e : ℕ) (alone : IsColumnOf positions c k) (at_c : get_or positions c InBasis ≡ InColumn k) (at_r : get_or positions r InBasis ≡ InBasis)
    (c_there : c < length positions) (r_there : r < length positions) (od : 0 < d) (hd : d < size_limit) where
  read_c : (row : List ℤ) → get_or (coefficients d positions row) c (whole (pos 0)) ≡ frac (number_at row k) d
  read_c row = get_or-map (coefficient d row) positions c InBasis (whole (pos 0)) c_there ∙ ap (coefficient d row) at_c

  -- what is left of a row without column k
  pub put_c : (row : List ℤ) → k < length row → set (coefficients d positions row) c (whole (pos 0)) ≡ map (coefficient d (set row k (pos 0))) (positions_exchanged r c k positions)
  put_c row l =
      ap (λ xs. set xs c (whole (pos 0))) (sym (ap (set (coefficients d positions row) r) (sym (get_or-map (coefficient d row) positions r InBasis (whole (pos 0)) r_there ∙ ap (coefficient d row) at_r)) ∙ set-get_or (coefficients d positions row) r (whole (pos 0))))
      ∙ agree_but (coefficient d row) (coefficient d (set row k (pos 0))) positions c k alone refl (λ j n. ap (λ z. frac z d) (number_at-set_other row k j (pos 0) n)) r (whole (pos 0)) (whole (pos 0))
      ∙ ap (λ x. set (set (map (coefficient d (set row k (pos 0))) positions) r x) c (whole (pos 0))) (sym (ap (λ z. frac z d) (get_or-set_same row k (pos 0) (pos 0) l) ∙ zero_over d od))
      ∙ map_exchanged (coefficient d (set row k (pos 0))) positions r c k

  pub row_substituted : (row source new : List ℤ) → 0 < e → e < size_limit → k < length row → IsWithin (size_limit - 1) row → IsWithin (size_limit - 1) source
      → IsSubstituted (pos d) (pos e) (number_at row k) (set row k (pos 0)) source new
      → substituted c (coefficients e (positions_exchanged r c k positions) source) (coefficients d positions row) ≡ Some (coefficients e (positions_exchanged r c k positions) new)
  row_substituted row source new oe he l hr hs step =
      (λ i. add_multiple_of_row (read_c row i) (put_c row l i) (coefficients e (positions_exchanged r c k positions) source))
      ∙ add_multiple_all (frac (number_at row k) d) (coefficient d (set row k (pos 0))) (coefficient e source) (coefficient e new) (positions_exchanged r c k positions) each
    where
      each : (u : Position) → add_multiple (frac (number_at row k) d) (coefficient d (set row k (pos 0)) u) (coefficient e source u) ≡ Some (coefficient e new u)
      each InBasis =
          (λ i. add_multiple (frac (number_at row k) d) (sym (zero_over d od) i) (sym (zero_over e oe) i))
          ∙ add_multiple_exact (number_at row k) (pos 0) (pos 0) (pos 0) d e od oe (omega arith) (omega arith) (omega (arith, hr k)) (omega arith) (omega arith) (nothing (number_at row k) (pos d) (pos e))
          ∙ ap Some (zero_over e oe)
        where
          nothing : (q d e : ℤ) → pos 0 *ℤ d ≡ pos 0 *ℤ e +ℤ q *ℤ pos 0
          nothing q d e = omega (arith, ints)
      each (InColumn j) = add_multiple_exact (number_at row k) (number_at (set row k (pos 0)) j) (number_at source j) (number_at new j) d e od oe (omega arith) (omega arith) (omega (arith, hr k))
          (narrow_set row k (pos 0) hr (omega arith) j) (omega (arith, hs j))
          (step j ∙ ap (λ z. number_at (set row k (pos 0)) j *ℤ pos e +ℤ z) (*ℤ_comm (number_at source j) (number_at row k)))

  -- ---- the solved row
  pub row_solved : (row new : List ℤ) → k < length row → IsWithin (size_limit - 1) row → 0 < nat_abs (number_at row k) → IsSolvedFor (number_at row k) k d row new
      → solved_for r c (coefficients d positions row) ≡ Some (coefficients (nat_abs (number_at row k)) (positions_exchanged r c k positions) new)
  row_solved row new l h o turn =
      (λ i. if int_eq (read_c row i).num (pos 0) then None else negative_quotients (read_c row i) (set (set (coefficients d positions row) r (whole (negsuc 0))) c (whole (pos 0))))
      ∙ ap (λ b. if b then None else negative_quotients (frac (number_at row k) d) (set (set (coefficients d positions row) r (whole (negsuc 0))) c (whole (pos 0)))) (frac-num_positive (number_at row k) d od o)
      ∙ ap (negative_quotients (frac (number_at row k) d)) put
      ∙ negative_quotient_all (frac (number_at row k) d) (coefficient d (set row k (neg_ℤ (pos d)))) (coefficient (nat_abs (number_at row k)) new) (positions_exchanged r c k positions) each
    where
      small : nat_abs (neg_ℤ (pos d)) < size_limit
      small = omega (arith, ints)

      put : set (set (coefficients d positions row) r (whole (negsuc 0))) c (whole (pos 0)) ≡ map (coefficient d (set row k (neg_ℤ (pos d)))) (positions_exchanged r c k positions)
      put =
          agree_but (coefficient d row) (coefficient d (set row k (neg_ℤ (pos d)))) positions c k alone refl (λ j n. ap (λ z. frac z d) (number_at-set_other row k j (neg_ℤ (pos d)) n)) r (whole (negsuc 0)) (whole (pos 0))
          ∙ ap (λ x. set (set (map (coefficient d (set row k (neg_ℤ (pos d)))) positions) r x) c (whole (pos 0))) (sym (ap (λ z. frac z d) (get_or-set_same row k (neg_ℤ (pos d)) (pos 0) l) ∙ less_over d od))
          ∙ map_exchanged (coefficient d (set row k (neg_ℤ (pos d)))) positions r c k

      each : (u : Position) → negative_quotient (frac (number_at row k) d) (coefficient d (set row k (neg_ℤ (pos d))) u) ≡ Some (coefficient (nat_abs (number_at row k)) new u)
      each InBasis =
          ap (negative_quotient (frac (number_at row k) d)) (sym (zero_over d od)) ∙ negative_quotient_exact (number_at row k) (pos 0) d od (omega arith) o (omega (arith, h k)) (omega arith)
          ∙ ap Some (ap (λ z. frac z (nat_abs (number_at row k))) (nothing (number_at row k)) ∙ zero_over (nat_abs (number_at row k)) o)
        where
          nothing : (b : ℤ) → quotient_numerator b (pos 0) ≡ pos 0
          nothing (pos b) = refl
          nothing (negsuc b) = refl
      each (InColumn j) =
          negative_quotient_exact (number_at row k) (number_at (set row k (neg_ℤ (pos d))) j) d od (omega arith) o (omega (arith, h k)) (narrow_set row k (neg_ℤ (pos d)) h small j)
          ∙ ap (λ z. Some (frac z (nat_abs (number_at row k)))) (sym (turn j))
