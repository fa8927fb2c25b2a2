-- What crashes leave at the moments of several calls of a journal.
use Rattle.std.specs.Prelude.{◌≡◌, ℕ, ◌≤◌, List, [], ◌∷◌, ◌++◌, length, take, Option, Some, None, slice_get}
use Rattle.outside.specs.Images.{IsImage}
use Rattle.outside.specs.declared.moment.Moment.{Moment}
use Rattle.node_journal.specs.Records.{Records, Intact, Foreign, BrokenAt, records}

-- the first so many payloads
abbrev pub first_of : ℕ → Records → Records
first_of n (Intact ps) = Intact (take n ps)
first_of n Foreign = Foreign
first_of n (BrokenAt place) = BrokenAt place

-- how many payloads there are
abbrev pub count_of : Records → ℕ
count_of (Intact ps) = length ps
count_of Foreign = 0
count_of (BrokenAt place) = 0

-- there are payloads, and the first are these
abbrev pub BeginsWith : List (List ℕ) → Records → Type 0
BeginsWith ps r = first_of (length ps) r ≡ Intact ps

-- there are payloads, and these begin with them
abbrev pub IsPrefixOf : List (List ℕ) → Records → Type 0
IsPrefixOf ps r = r ≡ Intact (take (count_of r) ps)

-- one of two lists of payloads begins the other
abbrev pub Agree : Records → Records → Type 0
Agree r s = first_of (count_of s) r ≡ first_of (count_of r) s

-- each crash at this moment leaves at least these payloads, as the first
abbrev pub Keeps : List (List ℕ) → Moment → Type 0
Keeps ps m = (c : List ℕ) → IsImage m c → BeginsWith ps (records c)

-- each crash at one of the moments from this number on leaves bytes that have P
abbrev pub EachFrom : ℕ → List Moment → (List ℕ → Type 0) → Type 0
EachFrom from ms P = (i : ℕ) (m : Moment) (c : List ℕ) → from ≤ i → slice_get ms i ≡ Some m → IsImage m c → P c

-- at each of the moments from this number on a crash can leave bytes that have P
abbrev pub SomeFrom : ℕ → List Moment → (List ℕ → Type 0) → Type 0
SomeFrom from ms P = (i : ℕ) (m : Moment) → from ≤ i → slice_get ms i ≡ Some m → (c : List ℕ) × IsImage m c × P c

-- a crash at this moment can leave bytes that have P, no matter which
abbrev pub MayLeave : (List ℕ → Type 0) → Moment → Type 0
MayLeave P m = ∥ ((c : List ℕ) × IsImage m c × P c) ∥₁

-- where a crash at one of the moments from this number on can, a crash at each later moment can
abbrev pub RemainsFrom : ℕ → List Moment → (List ℕ → Type 0) → Type 0
RemainsFrom from ms P = (i j : ℕ) (m n : Moment) → from ≤ i → i ≤ j → slice_get ms i ≡ Some m → slice_get ms j ≡ Some n → MayLeave P m → MayLeave P n

-- the moments of the first list are the first of the second
abbrev pub ExtendsMoments : List Moment → List Moment → Type 0
ExtendsMoments ms more = (i : ℕ) (m : Moment) → slice_get ms i ≡ Some m → slice_get more i ≡ Some m

-- bytes of any kind
abbrev pub Anything : List ℕ → Type 0
Anything c = Unit {0}

-- What crashes leave at the moments from this number on, of which these are all, the oldest first.
pub record IsHistory (from : ℕ) (ms : List Moment) : Type 0 where
  -- each crash leaves payloads
  pub reads : EachFrom from ms (λ c. BeginsWith [] (records c))
  -- of any two crashes one leaves the payloads that the other leaves, or more
  pub agreeing : (i j : ℕ) (m n : Moment) (c d : List ℕ) → from ≤ i → from ≤ j → slice_get ms i ≡ Some m → slice_get ms j ≡ Some n
      → IsImage m c → IsImage n d → Agree (records c) (records d)
  -- what all crashes at one moment leave, all crashes at each later moment leave
  pub lasting : (i j : ℕ) (m n : Moment) (ps : List (List ℕ)) → from ≤ i → i ≤ j → slice_get ms i ≡ Some m → slice_get ms j ≡ Some n → Keeps ps m → Keeps ps n
  -- what any crash at one moment leaves, some crash at each later moment leaves, or more; and so some crash at the last
  pub remaining : (ps : List (List ℕ)) → RemainsFrom from ms (λ c. BeginsWith ps (records c))

-- What a journal of these payloads keeps of its disk, from the moment of this number on. The last is the disk's count at the fault by which it failed.
pub record KeepsHistory (from : ℕ) (past : List Moment) (now : Moment) (ps : List (List ℕ)) (fault : Option ℕ) : Type 0 where
  pub begun : from ≤ length past
  pub history : IsHistory from (past ++ now ∷ [])
  -- while it is sound, each crash leaves a prefix of its payloads
  pub prefixes : fault ≡ None → EachFrom from (past ++ now ∷ []) (λ c. IsPrefixOf ps (records c))
