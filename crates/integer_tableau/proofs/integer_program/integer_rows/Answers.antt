use Rattle.std.proofs.Common.{◌≡◌, ◌<◌, ℕ, below_more, subst, refl, ◌++◌, ◌∷◌, [], ap, sym, ◌∙◌, map, get_or, length, ℤ, List, arith}
use Rattle.std.proofs.lemmas.List.{get_or_append_left, get_or_push, length_push, map_push, take_more}
use Rattle.fraction.specs.Rational.{ℚ, whole}
use Rattle.integer_tableau.proofs.integer_program.integer_rows.Goals as goal

pub loop-i-preserved : goal.loop-i-preserved
loop-i-preserved c =
    let i = c.loop-i.i in
    let xs = c.args.program.now.rows in
    let there : i < length xs = omega arith in
    let made : map whole c.in-Some.row ≡ get_or xs i [] = rw c.in-Some.is at c.in_ok-row.ensures.value in
    let wide : length c.in-Some.row ≡ length c.args.program.now.costs = rw c.in-Some.is at c.in_ok-row.ensures.width in
    let old = c.loop-i.rows.items in
    let row = c.in-Some.row in
    let P = λ (j : ℕ). length (get_or (old ++ row ∷ []) j []) ≡ length c.args.program.now.costs in
    record {
      value = ap (map (map whole)) c.in_ok-push-in-Some.ensures.items ∙ map_push (map whole) c.loop-i.rows.items c.in-Some.row ∙ ap (λ (q : List ℚ). map (map whole) c.loop-i.rows.items ++ q ∷ []) made
          ∙ ap (λ (qs : List (List ℚ)). qs ++ get_or xs i [] ∷ []) c.loop-i.invariant.value ∙ sym (take_more xs i [] there);
      width = subst (λ (rows : List (List ℤ)). (j : ℕ) → j < length rows → length (get_or rows j []) ≡ length c.args.program.now.costs) (sym c.in_ok-push-in-Some.ensures.items)
          (λ j l. below_more P (length old) (λ k m. ap length (get_or_append_left old (row ∷ []) [] k m) ∙ c.loop-i.invariant.width k m) (ap length (get_or_push old row [] (length old) refl) ∙ wide) j
          (omega (arith, l, length_push old row)));
    }
