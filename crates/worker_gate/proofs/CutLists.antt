-- Cuts that are copied, one after another.
use Rattle.std.specs.Prelude.{◌≡◌, ◌<◌, ◌≤◌, ◌+◌, ℕ, zero, suc, List, [], ◌∷◌, ◌++◌, length, take, drop, Option, Some, None, option_map, slice_get, refl}
use Rattle.std.proofs.Common.{sym, ap, ◌∙◌, arith}
use Rattle.std.proofs.lemmas.List.{drop-append-le}
use Rattle.problem.specs.declared.row.Row.{Row}
use Rattle.problem.specs.Linear.{Multipliers}
use Rattle.derivation_book.specs.declared.cut.Cut.{Cut}

take_one : (cs : List Cut) (n : ℕ) (c : Cut) → slice_get cs n ≡ Some c → take (suc n) cs ≡ take n cs ++ c ∷ []
take_one [] n c e = cc
take_one (d ∷ cs) zero c e = let same : d ≡ c = cc in ap (λ b. b ∷ []) same
take_one (d ∷ cs) (suc n) c e = ap (λ (bs : List Cut). d ∷ bs) (take_one cs n c e)

pub take_all : (cs : List Cut) → take (length cs) cs ≡ cs
take_all [] = refl
take_all (c ∷ cs) = ap (λ (bs : List Cut). c ∷ bs) (take_all cs)

of_parts : (o : Option Cut) (r : Row) (m : Multipliers) → option_map (λ (c : Cut). c.row) o ≡ Some r → option_map (λ (c : Cut). c.mult) o ≡ Some m → o ≡ Some (record { row = r; mult = m })
of_parts None r m e f = cc
of_parts (Some c) r m e f =
    let a : c.row ≡ r = cc in
    let b : c.mult ≡ m = cc in
    λ i. Some (record { row = a i; mult = b i })

length_taken : (n : ℕ) (cs : List Cut) → n < length cs → length (take n cs) ≡ n
length_taken zero cs l = refl
length_taken (suc n) [] l = absurd (omega (arith, l))
length_taken (suc n) (c ∷ cs) l = ap suc (length_taken n cs (omega (arith, l)))

-- one more
pub copied : (known n : ℕ) (cs items more : List Cut) (r : Row) (m : Multipliers) → known ≤ n → n < length cs → items ≡ drop known (take n cs) → option_map (λ (c : Cut). c.row) (slice_get cs n) ≡ Some r
    → option_map (λ (c : Cut). c.mult) (slice_get cs n) ≡ Some m → more ≡ items ++ record { row = r; mult = m } ∷ [] → more ≡ drop known (take (n + 1) cs)
copied known n cs items more r m l k e row mult pushed =
    let c : Cut = record { row = r; mult = m } in
    let next : take (n + 1) cs ≡ take n cs ++ c ∷ [] = ap (λ j. take j cs) (let s : n + 1 ≡ suc n = omega arith in s) ∙ take_one cs n c (of_parts (slice_get cs n) r m row mult) in
    pushed ∙ ap (λ (bs : List Cut). bs ++ c ∷ []) e ∙ sym (drop-append-le known (take n cs) (c ∷ []) (omega (arith, l, length_taken n cs k))) ∙ ap (drop known) (sym next)
