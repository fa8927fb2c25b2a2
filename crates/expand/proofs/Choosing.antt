-- The corner of a box, and boxes with a free column.
use Rattle.std.specs.Prelude.{◌≡◌, ◌<◌, ◌+◌, ℕ, pos, negsuc, ◌≤ℤ◌, List, [], ◌∷◌, ◌++◌, All, length, take, Some, slice_get, slice_index_or}
use Rattle.std.proofs.Common.{sym, ap, ◌∙◌, arith}
use Rattle.std.proofs.lemmas.Int.{ints}
use Rattle.std.proofs.lemmas.Option.{slice_get_within, get_or_from_slice_get}
use Rattle.std.proofs.lemmas.List.{take_more, length-map, get_or-map}
use Rattle.problem_box.specs.declared.span.Span.{Span}
use Rattle.row_activity.specs.Meaning.{IsOpen}
use Rattle.row_activity.specs.declared.verdict.Sign.{Sign}
use Rattle.row_activity.specs.declared.verdict.Sign.TheVariants.{Plus, Minus}
use Rattle.fraction.specs.Rational.{whole}
use Rattle.fraction.specs.Lemmas.Bounds.{whole_nonzero}
use Rattle.expand.specs.Verdicts.{corner, multiplier}

pub corner_more : (ss : List Span) (j : ℕ) (s : Span) → slice_get ss j ≡ Some s → take j (corner ss) ++ s.lo ∷ [] ≡ take (j + 1) (corner ss)
corner_more ss j s e =
    let l = slice_get_within ss j s e in
    let l' : j < length (corner ss) = omega (arith, l, length-map ss (λ (s : Span). s.lo)) in
    let here : slice_index_or (corner ss) j s.lo ≡ s.lo = get_or-map (λ (s : Span). s.lo) ss j s s.lo l ∙ ap (λ (t : Span). t.lo) (get_or_from_slice_get ss j s s e) in
    ap (λ z. take j (corner ss) ++ z ∷ []) (sym here) ∙ sym (take_more (corner ss) j s.lo l')

-- an open box has a free column
pub some_free : (ss : List Span) → IsOpen ss → All (λ s. s.hi ≤ℤ s.lo) ss → ⊥
some_free ss h f = h.free (λ k d l. let a = h.nonempty k d l in let b = f k d l in omega (arith, ints, a, b))

-- no multiplier is 0
pub multiplier_nonzero : (s : Sign) → multiplier s ≡ whole (pos 0) → ⊥
multiplier_nonzero Plus e = whole_nonzero (pos 1) (λ z. cc) e
multiplier_nonzero Minus e = whole_nonzero (negsuc 0) (λ z. cc) e
