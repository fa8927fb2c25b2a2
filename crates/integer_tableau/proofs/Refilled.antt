-- Lists that are written over from the front.
use Rattle.std.proofs.Common.{◌≡◌, ℕ, zero, suc, ◌+◌, ◌<◌, arith, refl, ap, sym, ◌∙◌, None, List, [], ◌∷◌, ◌++◌, length, get_or, set, take, drop, drop-cons, append_assoc}
use Rattle.std.specs.Prelude.{ℤ, pos}
use Rattle.std.proofs.lemmas.List.{set_at}
use Rattle.integer_tableau.specs.Start.{start_number, start_numbers}
use Rattle.integer_tableau.specs.declared.integer_bounds.IntegerBounds.{IntegerBounds}

-- an element more
pub put_next : {X : Type 0} (xs old now more : List X) (i : ℕ) (x d : X) → now ≡ xs ++ drop i old → length xs ≡ i → i < length old → more ≡ xs ++ x ∷ [] → set now i x ≡ more ++ drop (i + 1) old
put_next xs old now more i x d e n l m =
    let j : suc i ≡ i + 1 = omega arith in
    ap (λ zs. set zs i x) (e ∙ ap (λ ys. xs ++ ys) (drop-cons old i d l))
    ∙ set_at xs (get_or old i d) (drop (suc i) old) x i n
    ∙ sym (append_assoc xs (x ∷ []) (drop (suc i) old))
    ∙ (λ t. sym m t ++ drop (j t) old)

-- the value of a column more
pub start_numbers_more : (cs : List ℤ) (bs : List IntegerBounds) (i : ℕ) → i < length cs → i < length bs
    → start_numbers (take (i + 1) cs) bs ≡ start_numbers (take i cs) bs ++ start_number (get_or cs i (pos 0)) (get_or bs i (record { lower = None; upper = None })) ∷ []
start_numbers_more cs bs i l m = let j : i + 1 ≡ suc i = omega arith in ap (λ k. start_numbers (take k cs) bs) j ∙ step cs bs i l m
  where
    step : (cs : List ℤ) (bs : List IntegerBounds) (i : ℕ) → i < length cs → i < length bs
        → start_numbers (take (suc i) cs) bs ≡ start_numbers (take i cs) bs ++ start_number (get_or cs i (pos 0)) (get_or bs i (record { lower = None; upper = None })) ∷ []
    step [] bs i l m = absurd (omega arith)
    step (c ∷ cs) [] i l m = absurd (omega arith)
    step (c ∷ cs) (b ∷ bs) zero l m = refl
    step (c ∷ cs) (b ∷ bs) (suc i) l m = ap (λ zs. start_number c b ∷ zs) (step cs bs i (omega arith) (omega arith))
