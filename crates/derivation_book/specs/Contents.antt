-- What a book holds.
use Rattle.std.specs.Prelude.{ℕ, List}
use Rattle.derivation_book.specs.declared.cut.Cut.{Cut}

-- the cuts in the order of their numbers, and how many more it has room for
pub record Contents : Type 0 where
  pub cuts : List Cut
  pub room : ℕ
