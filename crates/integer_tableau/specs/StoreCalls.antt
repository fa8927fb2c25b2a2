-- What several calls on the store ask for and promise.
use Rattle.std.specs.Prelude.{◌<◌, ℕ, ℤ, List, length}
use Rattle.integer_tableau.specs.Kept.{AreKept, KeptDictionaries}
use Rattle.integer_tableau.specs.StoredRun.{IsMove, IsTurning, dictionary_at}
use Rattle.integer_tableau.specs.declared.basic_solution.BasicSolution.{BasicSolution}
use Rattle.integer_tableau.specs.declared.request.Turn.{Turn}

-- dictionaries of a linear program of these rows, whatever its costs are
abbrev pub AreKeptOf : List (List ℤ) → ℕ → KeptDictionaries → Type 0
AreKeptOf ps weight k = (costs : List ℤ) × AreKept ps weight costs k

-- those of a linear program of these rows stay such
abbrev pub StayKept : List (List ℤ) → ℕ → KeptDictionaries → KeptDictionaries → Type 0
StayKept ps weight old new = (costs : List ℤ) → AreKept ps weight costs old → AreKept ps weight costs new

-- a solution has taken a turn at the dictionary of this place
abbrev pub HasTurned : List (List ℤ) → ℕ → KeptDictionaries → ℕ → Turn → ℤ → BasicSolution → Type 0
HasTurned ps weight k p w size m = (n : BasicSolution) × IsTurning ps weight k p n w size m

-- a solution has taken some turn at one of these dictionaries of a linear program
abbrev pub IsTurnedSolution : KeptDictionaries → BasicSolution → Type 0
IsTurnedSolution k m = (ps : List (List ℤ)) × (weight : ℕ) × (costs : List ℤ) × (p : ℕ) × (n : BasicSolution) × (w : Turn) × (size : ℤ) × AreKept ps weight costs k × (p < length k.all) × IsTurning ps weight k p n w size m

-- whatever the solution was before that turn, the turn takes it to the dictionary at this place
abbrev pub IsTarget : List (List ℤ) → ℕ → KeptDictionaries → ℕ → Turn → ℤ → BasicSolution → KeptDictionaries → ℕ → Type 0
IsTarget ps weight old p w size m new q = (n : BasicSolution) → IsTurning ps weight old p n w size m → IsMove ps weight (dictionary_at old p) n new q m
