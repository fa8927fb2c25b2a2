-- The rule of a lock's table.
use Rattle.std.specs.Prelude.{◌≡◌, ◌⊎◌, ℕ, ◌+◌, ◌%◌, ◌≤◌, ◌<◌, Bool, true, false, List, [], ◌∷◌, ◌++◌, length, Option, Some, None, Contains, sum_by, is_some}
use mathlib.Core.Option.{some, none}
use lib.ListN.{get_elem?}
use Rattle.atomic_table.specs.Table.{State}
use Rattle.turn_lock.specs.Lists.{NoneOf, GoesOn}
use Rattle.turn_lock.specs.Names.{AreDistinct, names_below}
use Rattle.turn_lock.specs.declared.board.View.{View}

-- how a word counts
abbrev pub word_of : ℕ → ℕ
word_of n = n % 18446744073709551616

-- 1 for true, so that a sum counts
abbrev pub one_if : Bool → ℕ
one_if true = 1
one_if false = 0

module _ {E : Type 0} where
  -- the view of the first pass, over a value with this list
  abbrev pub first_view : ℕ → List E → View E
  first_view weight list = record { names = names_below weight; ticket = None; out = false; seen = list; less = []; less_names = [] }

  -- What one seat knows: `noted` is the list of the lock. A seat that was spent has no name, and so no ticket.
  pub record Seated (name : E → Option ℕ) (issued served : ℕ) (noted : List E) (v : View E) : Type 0 where
    pub behind : List E
    pub prefix : noted ≡ v.seen ++ behind
    pub not_own : NoneOf name v.names behind
    -- what it has seen goes on from what the part of it knew that had seen less
    pub part : GoesOn name v.less_names v.less v.seen
    pub distinct : AreDistinct v.names
    pub ticket : (t : ℕ) → v.ticket ≡ Some t → (served ≤ t) × (t < issued) × (0 < length v.names)
    pub out : v.out ≡ true → (v.ticket ≡ Some served) × (v.seen ≡ noted)

  -- how many passes wait with a ticket
  abbrev pub tickets_in : List (View E) → ℕ
  tickets_in views = sum_by (λ v. one_if (is_some v.ticket)) views

  -- how many names all passes have
  abbrev pub weight_in : List (View E) → ℕ
  weight_in views = sum_by (λ v. length v.names) views

  -- The value is at home, with the noted list, and no seat has it; or one seat has it out.
  abbrev pub Homed : {V : Type 0} → (V → List E) → List E → State (Option V) (View E) → Type 0
  Homed list noted s = ((x : _) × (s.homes ≡ some (Some x) ∷ []) × (list x ≡ noted) × ((by : ℕ) (v : View E) → get_elem? s.views by ≡ some v → v.out ≡ false))
      ⊎ ((s.homes ≡ none ∷ []) × (by : ℕ) × (v : View E) × (get_elem? s.views by ≡ some v) × (v.out ≡ true))

  -- a pass that was not spent has seen all of the list
  abbrev pub Known : List E → List (View E) → Type 0
  Known noted views = (by : ℕ) × (v : View E) × (get_elem? views by ≡ some v) × (0 < length v.names) × (v.seen ≡ noted)

  -- Tickets are drawn and served in turn: `issued` were drawn, and `served` were passed on.
  pub record TakesTurns {V : Type 0} (list : V → List E) (name : E → Option ℕ) (weight : ℕ) (s : State (Option V) (View E)) : Type 0 where
    pub issued : ℕ
    pub served : ℕ
    pub noted : List E
    pub words : s.words ≡ word_of issued ∷ word_of served ∷ word_of (length noted) ∷ []
    pub small : weight < 18446744073709551616
    pub tickets : served + tickets_in s.views ≡ issued
    pub each : (by : ℕ) (v : View E) → get_elem? s.views by ≡ some v → Seated name issued served noted v
    pub apart : (a b : ℕ) (v w : View E) (t : ℕ) → get_elem? s.views a ≡ some v → get_elem? s.views b ≡ some w → v.ticket ≡ Some t → w.ticket ≡ Some t → a ≡ b
    pub names : (a b : ℕ) (v w : View E) (n : ℕ) → get_elem? s.views a ≡ some v → get_elem? s.views b ≡ some w → Contains v.names n → Contains w.names n → a ≡ b
    pub weights : weight_in s.views ≡ weight
    pub longest : Known noted s.views
    pub home : Homed list noted s
