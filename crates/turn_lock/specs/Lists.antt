-- A list of entries that only grows, and what a pass knows of it.
use Rattle.std.specs.Prelude.{◌≡◌, ℕ, List, ◌++◌, length, Option, Some, Contains, Box, nat_le, if◌then◌else◌}
use Rattle.std.specs.declared.alloc.Global.{Global}

-- the list of a value that lies apart
abbrev pub list_in : {V E : Type 0} → (V → List E) → Box V Global → List E
list_in list box = list box.value

module _ {E : Type 0} (name : E → Option ℕ) (names : List ℕ) where
  -- no entry has one of the names
  abbrev pub NoneOf : List E → Type 0
  NoneOf entries = (e : E) (n : ℕ) → Contains entries e → name e ≡ Some n → Contains names n → ⊥

  -- each entry has one of the names, or none at all
  abbrev pub OwnOrNone : List E → Type 0
  OwnOrNone entries = (e : E) (n : ℕ) → Contains entries e → name e ≡ Some n → Contains names n

  -- the list begins with what was seen, and behind that others alone wrote
  abbrev pub GoesOn : List E → List E → Type 0
  GoesOn seen list = (behind : List E) × (list ≡ seen ++ behind) × NoneOf behind

  -- the list was made longer by entries of one's own, or by entries with no name
  abbrev pub Grows : List E → List E → Type 0
  Grows found list = (own : List E) × (list ≡ found ++ own) × OwnOrNone own

-- the longer of two lists
abbrev pub longer : {E : Type 0} → List E → List E → List E
longer a b = if nat_le (length a) (length b) then b else a

-- the other of the two
abbrev pub shorter : {E : Type 0} → List E → List E → List E
shorter a b = if nat_le (length a) (length b) then a else b

-- what goes with the shorter of two lists
abbrev pub shorter_has : {E X : Type 0} → List E → List E → X → X → X
shorter_has a b x y = if nat_le (length a) (length b) then x else y
