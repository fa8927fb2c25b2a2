-- Parts of lists.
use Rattle.std.proofs.Common.{◌≡◌, ℕ, ◌+◌, ◌-◌, ◌≤◌, List, ◌++◌, length, take, drop, sym, ◌∙◌, ap, arith, take-append-drop, length-drop, append_assoc}
use Rattle.std.proofs.Math.Seq.{take-add}
use Rattle.std.proofs.lemmas.List.{take_at, take_all, drop-drop}

-- the next k bytes, put before others, and the bytes behind them
pub given : (xs copied others : List ℕ) (a k : ℕ) → length copied ≡ k → copied ≡ take k (drop a xs) → drop a xs ≡ take k (copied ++ others) ++ drop (a + k) xs
given xs copied others a k len is =
    sym (take-append-drop k (drop a xs)) ∙ ap (λ (l : List ℕ). l ++ drop k (drop a xs)) (sym is ∙ sym (take_at copied others k len)) ∙ ap (λ (l : List ℕ). take k (copied ++ others) ++ l) (drop-drop k a xs)

-- a prefix of a list, and the next bytes of its rest
pub more_taken : (old xs : List ℕ) (a k : ℕ) → a ≤ length xs → (old ++ take a xs) ++ take k (take (length xs - a) (drop a xs)) ≡ old ++ take (a + k) xs
more_taken old xs a k le =
    ap (λ (l : List ℕ). (old ++ take a xs) ++ take k l) (take_all (length xs - a) (drop a xs) (omega (arith, length-drop a xs)))
    ∙ append_assoc old (take a xs) (take k (drop a xs)) ∙ ap (λ (l : List ℕ). old ++ l) (sym (take-add a k xs))
