-- A bound on the sizes in a combination: in a column of the row at most one nonbasic variable says something.
use Rattle.std.proofs.Common.{◌≡◌, ℕ, zero, suc, ◌+◌, ◌*◌, ◌<◌, ◌≤◌, ◌⊎◌, arith, refl, ap, ◌∙◌, List, [], ◌∷◌, length, get_or, drop, inl, inr}
use Rattle.std.specs.Prelude.{ℤ, pos, nat_abs, ◌+ℤ◌, ◌*ℤ◌, if◌then◌else◌}
use Rattle.std.proofs.Math.Nat.{mul-le-mul_left, mul-le-mul_right}
use Rattle.std.proofs.lemmas.Int.{ints, unsigned_abs-mul}
use Rattle.std.proofs.lemmas.Bool.{cases_eq, eq-eqb, ne_eqb}
use Rattle.std.proofs.lemmas.List.{drop_all}
use Rattle.integer_tableau.proofs.CombinedLoops.{sum_unfolds}
use Rattle.integer_tableau.proofs.EntrySums.{entry_at, entry_sum, said_of}
use Rattle.integer_tableau.specs.Combined.{numerator_of}
use Rattle.integer_tableau.specs.Entries.{RiseWithin}
use Rattle.integer_tableau.specs.Numbers.{number_at}
use Rattle.integer_tableau.specs.Positions.{IsColumnOf}
use Rattle.integer_tableau.specs.declared.position.Position.{Position}
use Rattle.integer_tableau.specs.declared.position.Position.TheVariants.{InBasis, InColumn}
use Rattle.integer_tableau.specs.declared.program_row.ProgramEntry.{ProgramEntry}

-- ---- places rise
at_least : (j n : ℕ) (es : List ProgramEntry) → RiseWithin j n es → (i : ℕ) → i < length es → j ≤ (entry_at es i).place
at_least j n [] r i l = absurd (omega (arith, l))
at_least j n (e ∷ es) r zero l = r.0
at_least j n (e ∷ es) r (suc i) l = omega (arith, r.0, at_least (suc e.place) n es r.2 i (omega (arith, l)))

pub places_rise : (j n : ℕ) (es : List ProgramEntry) → RiseWithin j n es → (i h : ℕ) → i < h → h < length es → (entry_at es i).place < (entry_at es h).place
places_rise j n [] r i h b l = absurd (omega (arith, l))
places_rise j n (e ∷ es) r i zero b l = absurd (omega (arith, b))
places_rise j n (e ∷ es) r zero (suc h) b l = omega (arith, at_least (suc e.place) n es r.2 h (omega (arith, l)))
places_rise j n (e ∷ es) r (suc i) (suc h) b l = places_rise (suc e.place) n es r.2 i h (omega (arith, b)) (omega (arith, l))

-- ---- the sum in column k, of which the first i entries are bounded
-- the nonbasic variable of column k is among these
pub record IsPassed (d : ℕ) (ss : List Position) (ls : List (List ℤ)) (es : List ProgramEntry) (i basic most k : ℕ) : Type 0 where
  pub variable : ℕ
  pub there : get_or ss variable InBasis ≡ InColumn k
  pub before : (h : ℕ) → i ≤ h → h < length es → variable < (entry_at es h).place
  pub bound : nat_abs (entry_sum (said_of d ss ls k) es) ≤ basic + most * d + nat_abs (entry_sum (said_of d ss ls k) (drop i es))

-- by what basic columns say, and by the greatest coefficient of a nonbasic one
abbrev pub IsBounded : ℕ → List Position → List (List ℤ) → List ProgramEntry → ℕ → ℕ → ℕ → ℕ → Type 0
IsBounded d ss ls es i basic most k =
    (nat_abs (entry_sum (said_of d ss ls k) es) ≤ basic + nat_abs (entry_sum (said_of d ss ls k) (drop i es))) ⊎ IsPassed d ss ls es i basic most k

size_of_sum : (a b : ℤ) → nat_abs (a +ℤ b) ≤ nat_abs a + nat_abs b
size_of_sum a b = omega (arith, ints)

module _ (d : ℕ) (ss : List Position) (ls : List (List ℤ)) (es : List ProgramEntry) (k : ℕ) where
  pub bounded_whole : (i basic most : ℕ) → length es ≤ i → IsBounded d ss ls es i basic most k → nat_abs (entry_sum (said_of d ss ls k) es) ≤ basic + most * d
  bounded_whole i basic most l (inl h) = omega (arith, h, ap (λ es. nat_abs (entry_sum (said_of d ss ls k) es)) (drop_all i es l))
  bounded_whole i basic most l (inr h) = omega (arith, h.bound, ap (λ es. nat_abs (entry_sum (said_of d ss ls k) es)) (drop_all i es l))

  module _ (i basic most basic' most' : ℕ) (l : i < length es) (rise : (h : ℕ) → i < h → h < length es → (entry_at es i).place < (entry_at es h).place)
      (apart : (v j : ℕ) → get_or ss v InBasis ≡ InColumn j → IsColumnOf ss v j) (m : basic ≤ basic') (n : most ≤ most') where
    rest_within : (x : ℕ) → nat_abs (said_of d ss ls k (entry_at es i).place) ≤ x
        → nat_abs (entry_sum (said_of d ss ls k) (drop i es)) ≤ nat_abs (entry_at es i).number * x + nat_abs (entry_sum (said_of d ss ls k) (drop (i + 1) es))
    rest_within x h =
        let c = (entry_at es i).number in
        let y = said_of d ss ls k (entry_at es i).place in
        omega (arith, ap nat_abs (sum_unfolds (said_of d ss ls k) es i l), size_of_sum (c *ℤ y) (entry_sum (said_of d ss ls k) (drop (i + 1) es)), unsigned_abs-mul c y, mul-le-mul_left (nat_abs c) h)

    -- nothing new in this column
    kept : (x : ℕ) → nat_abs (entry_sum (said_of d ss ls k) (drop i es)) ≤ x + nat_abs (entry_sum (said_of d ss ls k) (drop (i + 1) es)) → basic + x ≤ basic'
        → IsBounded d ss ls es i basic most k → IsBounded d ss ls es (i + 1) basic' most' k
    kept x h g (inl b) = inl (omega (arith, h, g, b))
    kept x h g (inr b) = inr (record {
      variable = b.variable;
      there = b.there;
      before = λ h p q. b.before h (omega (arith, p)) q;
      bound = omega (arith, h, g, b.bound, mul-le-mul_right d n);
    })

    by_position : (s : Position) → get_or ss (entry_at es i).place InBasis ≡ s
        → (s ≡ InBasis → basic + nat_abs (entry_at es i).number * nat_abs (number_at (get_or ls (entry_at es i).place []) k) ≤ basic')
        → ((c : ℕ) → s ≡ InColumn c → nat_abs (entry_at es i).number ≤ most') → IsBounded d ss ls es i basic most k → IsBounded d ss ls es (i + 1) basic' most' k
    by_position InBasis q g w b =
        let row = get_or ls (entry_at es i).place [] in
        let x = nat_abs (number_at row k) in
        kept (nat_abs (entry_at es i).number * x) (rest_within x (omega (arith, ap (λ s. nat_abs (numerator_of d row s k)) q))) (g refl) b
    by_position (InColumn c) q g w b = elim (cases_eq k c) [
      | inl p ↦ hit p b
      | inr p ↦ kept 0 (omega (arith, rest_within 0 (omega (arith, ap nat_abs (other p))))) (omega (arith, m)) b
    ]
      where
        other : (k ≡ c → ⊥) → said_of d ss ls k (entry_at es i).place ≡ pos 0
        other p = ap (λ s. numerator_of d (get_or ls (entry_at es i).place []) s k) q ∙ ap (λ b. if b then pos d else pos 0) (ne_eqb k c p)

        same : k ≡ c → said_of d ss ls k (entry_at es i).place ≡ pos d
        same p = ap (λ s. numerator_of d (get_or ls (entry_at es i).place []) s k) q ∙ ap (λ b. if b then pos d else pos 0) (eq-eqb k c p)

        in_column : k ≡ c → get_or ss (entry_at es i).place InBasis ≡ InColumn k
        in_column p = q ∙ ap InColumn (omega (arith, p))

        hit : k ≡ c → IsBounded d ss ls es i basic most k → IsBounded d ss ls es (i + 1) basic' most' k
        hit p (inl b) = inr (record {
          variable = (entry_at es i).place;
          there = in_column p;
          before = λ h x y. rise h (omega (arith, x)) y;
          bound = omega (arith, m, b, rest_within d (omega (arith, ap nat_abs (same p))), mul-le-mul_right d (w c refl));
        })
        hit p (inr b) = let z : (entry_at es i).place ≡ b.variable = apart b.variable k b.there (entry_at es i).place (in_column p) in absurd (omega (arith, z, b.before i (omega arith) l))

    pub bounded_more : (basic_more : get_or ss (entry_at es i).place InBasis ≡ InBasis → basic + nat_abs (entry_at es i).number * nat_abs (number_at (get_or ls (entry_at es i).place []) k) ≤ basic')
        → ((c : ℕ) → get_or ss (entry_at es i).place InBasis ≡ InColumn c → nat_abs (entry_at es i).number ≤ most') → IsBounded d ss ls es i basic most k → IsBounded d ss ls es (i + 1) basic' most' k
    bounded_more g w b = by_position (get_or ss (entry_at es i).place InBasis) refl g w b
