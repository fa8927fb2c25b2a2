use Rattle.std.proofs.Common.{◌≡◌, ◌+◌, ◌++◌, ◌∷◌, [], ◌∙◌, sym, ap, arith, ℕ, List}
use Rattle.std.specs.List.{range_with_len}
use Rattle.std.proofs.lemmas.List.{append_assoc, map-id}
use Rattle.std.proofs.lemmas.List.FromFn.{map-range_with_len_more}
use Rattle.integer_tableau.proofs.dictionary.push_numbers.Goals as goal

one_more : (n : ℕ) → range_with_len 0 (n + 1) ≡ range_with_len 0 n ++ n ∷ []
one_more n =
    sym (map-id (range_with_len 0 (n + 1))) ∙ map-range_with_len_more (λ (x : ℕ). x) 0 n n (omega arith)
    ∙ ap (λ xs. xs ++ n ∷ []) (map-id (range_with_len 0 n))

pushed : (first now after : List ℕ) (n : ℕ) → now ≡ first ++ range_with_len 0 n → after ≡ now ++ n ∷ [] → after ≡ first ++ range_with_len 0 (n + 1)
pushed first now after n e p = p ∙ ap (λ xs. xs ++ n ∷ []) e ∙ append_assoc first (range_with_len 0 n) (n ∷ []) ∙ ap (λ xs. first ++ xs) (sym (one_more n))

pub loop-number-preserved : goal.loop-number-preserved
loop-number-preserved c = pushed _ _ _ c.loop-number.number c.loop-number.invariant c.in_ok-push.ensures.items
