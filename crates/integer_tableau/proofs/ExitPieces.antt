-- What holds of the elements of a piece of a list, and the last piece with others behind it.
use Rattle.std.proofs.Common.{◌≡◌, ℕ, ◌+◌, ◌-◌, ◌<◌, ◌≤◌, arith, ap, sym, subst, ◌∙◌, List, ◌++◌, length, get_or, take, drop}
use Rattle.std.specs.Prelude.{slice_range, All}
use Rattle.std.proofs.lemmas.List.{drop-append-le, length-append, length-drop, take_all}
use Rattle.std.proofs.lemmas.List.Edits.{get_or-between}
use Rattle.std.proofs.lemmas.List.Elements.{All-drop, All-take}
use Rattle.integer_tableau.proofs.Arenas.{piece_many}

module _ {X : Type 0} (xs : List X) where
  pub get_or-piece : (a n k : ℕ) (d : X) → k < n → get_or (slice_range xs a (a + n)) k d ≡ get_or xs (a + k) d
  get_or-piece a n k d l = get_or-between xs a (a + n) k d (omega (arith, l))

  -- what holds of each element of a piece
  pub all_of_piece : (P : X → Type 0) (a n : ℕ) → a + n ≤ length xs → ((k : ℕ) (d : X) → k < n → P (get_or xs (a + k) d)) → All P (slice_range xs a (a + n))
  all_of_piece P a n l h = λ k d m. let m : k < n = omega (arith, m, piece_many xs a n l) in subst P (sym (get_or-piece a n k d m)) (h k d m)

  pub at_of_piece : (P : X → Type 0) (a n : ℕ) → a + n ≤ length xs → All P (slice_range xs a (a + n)) → (k : ℕ) (d : X) → k < n → P (get_or xs (a + k) d)
  at_of_piece P a n l h k d m = subst P (get_or-piece a n k d m) (h k d (omega (arith, m, piece_many xs a n l)))

  pub piece_of_all : (P : X → Type 0) (a b : ℕ) → All P xs → All P (slice_range xs a b)
  piece_of_all P a b h = All-take P (b - a) (drop a xs) (All-drop P a xs h)

  -- others are put behind the last piece
  pub piece-append_end : (ys : List X) (a n m : ℕ) → a + n ≡ length xs → m ≡ length ys → slice_range (xs ++ ys) a (a + (n + m)) ≡ slice_range xs a (a + n) ++ ys
  piece-append_end ys a n m l e =
      ap (take (a + (n + m) - a)) (drop-append-le a xs ys (omega (arith, l)))
      ∙ take_all (a + (n + m) - a) (drop a xs ++ ys) (omega (arith, l, e, length-append (drop a xs) ys, length-drop a xs))
      ∙ ap (λ zs. zs ++ ys) (sym (take_all (a + n - a) (drop a xs) (omega (arith, l, length-drop a xs))))
