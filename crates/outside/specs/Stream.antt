-- What reads and writes answer.
use Rattle.std.specs.Prelude.{◌≡◌, ℕ, ◌≤◌, ◌<◌, Bool, true, false, List, [], ◌++◌, take}
use Rattle.outside.specs.declared.source.Got.{Got}
use Rattle.outside.specs.declared.source.Got.TheVariants as got
use Rattle.outside.specs.declared.sink.Put.{Put}
use Rattle.outside.specs.declared.sink.Put.TheVariants as put

-- the test for a read that failed
abbrev pub failed_read : Got → Bool
failed_read (got.Gave k) = false
failed_read got.End = false
failed_read got.Failed = true

-- a read into so many bytes gives at least one and no more than these
abbrev pub IsGot : ℕ → Got → Type 0
IsGot room (got.Gave k) = (0 < k) × (k ≤ room)
IsGot room got.End = Unit {0}
IsGot room got.Failed = Unit {0}

-- What is left before and after: the bytes that were given stood first, and the end comes where none is left.
abbrev pub ReadsFrom : List ℕ → List ℕ → List ℕ → Got → Type 0
ReadsFrom before after buf (got.Gave k) = before ≡ take k buf ++ after
ReadsFrom before after buf got.End = (before ≡ []) × (after ≡ [])
ReadsFrom before after buf got.Failed = after ≡ before

-- the test for a write that failed
abbrev pub failed_write : Put → Bool
failed_write (put.Took k) = false
failed_write put.Failed = true

-- a write of so many bytes takes at least one and no more than these
abbrev pub IsPut : ℕ → Put → Type 0
IsPut size (put.Took k) = (0 < k) × (k ≤ size)
IsPut size put.Failed = Unit {0}

-- What a sink holds before and after.
abbrev pub Appends : List ℕ → List ℕ → List ℕ → Put → Type 0
Appends before after piece (put.Took k) = after ≡ before ++ take k piece
Appends before after piece put.Failed = after ≡ before

-- a prefix of the bytes went in
abbrev pub AppendsPrefix : List ℕ → List ℕ → List ℕ → Type 0
AppendsPrefix before after bytes = (n : ℕ) × (after ≡ before ++ take n bytes)
