-- A cut changes the span at one column.
use Rattle.std.specs.Prelude.{◌≡◌, ℕ, zero, suc, ℤ, List, [], ◌∷◌, slice_get, Some, slice_set, refl}
use Rattle.std.proofs.Common.{ap, sym}
use Rattle.problem_box.specs.declared.span.Span.{Span}
use Rattle.problem_box.specs.Changes.{cut_high, cut_low}

pub cut_high_is : (ss : List Span) (j : ℕ) (b : ℤ) (s : Span) → slice_get ss j ≡ Some s → slice_set ss j (record s { hi = b }) ≡ cut_high ss j b
cut_high_is [] j b s h = refl
cut_high_is (t ∷ ss) zero b s h = let e : t ≡ s = cc in ap (λ (v : Span). record v { hi = b } ∷ ss) (sym e)
cut_high_is (t ∷ ss) (suc j) b s h = ap (λ rest. t ∷ rest) (cut_high_is ss j b s h)

pub cut_low_is : (ss : List Span) (j : ℕ) (b : ℤ) (s : Span) → slice_get ss j ≡ Some s → slice_set ss j (record s { lo = b }) ≡ cut_low ss j b
cut_low_is [] j b s h = refl
cut_low_is (t ∷ ss) zero b s h = let e : t ≡ s = cc in ap (λ (v : Span). record v { lo = b } ∷ ss) (sym e)
cut_low_is (t ∷ ss) (suc j) b s h = ap (λ rest. t ∷ rest) (cut_low_is ss j b s h)
