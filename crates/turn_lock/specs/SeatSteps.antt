-- What each kind of step tells the seat that makes it.
use Rattle.std.specs.Prelude.{◌≡◌, ◌≢◌, ℕ, true, false, List, [], ◌∷◌, ◌++◌, Option, Some, None}
use Rattle.atomic_table.specs.Table.{Me, Step, rest}
use Rattle.turn_lock.specs.Lists.{GoesOn, longer, shorter, shorter_has}
use Rattle.turn_lock.specs.Names.{greatest, without_first}
use Rattle.turn_lock.specs.Turns.{word_of}
use Rattle.turn_lock.specs.declared.board.View.{View}

module _ {E : Type 0} where
  -- the view of a pass that has drawn this ticket
  abbrev pub with_ticket : View E → ℕ → View E
  with_ticket v t = record { names = v.names; ticket = Some t; out = v.out; seen = v.seen; less = v.less; less_names = v.less_names }

  -- it has the value out, and has seen its list
  abbrev pub on_turn : View E → List E → View E
  on_turn v list = record { names = v.names; ticket = v.ticket; out = true; seen = list; less = []; less_names = [] }

  -- it has neither ticket nor value
  abbrev pub at_rest : View E → View E
  at_rest v = record { names = v.names; ticket = None; out = false; seen = v.seen; less = v.less; less_names = v.less_names }

  -- Split: one part has the greatest name, the other the rest, and both have seen what the whole had.
  abbrev pub others_of : View E → View E
  others_of v = record { names = without_first (greatest v.names) v.names; ticket = v.ticket; out = v.out; seen = v.seen; less = v.less; less_names = v.less_names }

  -- the part of a view that has its greatest name alone
  abbrev pub greatest_of : View E → View E
  greatest_of v = record { names = greatest v.names ∷ []; ticket = None; out = false; seen = v.seen; less = v.less; less_names = v.less_names }

  -- Join: the names of both, and the longer list; of the part that had seen less its list and names are kept.
  abbrev pub joined : View E → View E → View E
  joined v w = record { names = v.names ++ w.names; ticket = None; out = false; seen = longer v.seen w.seen; less = shorter v.seen w.seen; less_names = shorter_has v.seen w.seen v.names w.names }

  -- the view of a pass that was joined to another
  abbrev pub spent : View E
  spent = record { names = []; ticket = None; out = false; seen = []; less = []; less_names = [] }

module _ {V E : Type 0} where
  -- draw: a ticket
  abbrev pub Drawn : Step (Option V) → Me (Option V) (View E) → ℕ → Me (Option V) (View E) → Type 0
  Drawn s before found after = (t : ℕ) × (found ≡ word_of t) × (after ≡ (with_ticket before.0 t, before.1))

  -- the value is out, and its list goes on from what the seat had seen
  abbrev pub Takes : (V → List E) → (E → Option ℕ) → Me (Option V) (View E) → Me (Option V) (View E) → Type 0
  Takes list name before after = (x : V) × GoesOn name before.0.names before.0.seen (list x) × (after ≡ (on_turn before.0 (list x), (0, Some x) ∷ before.1))

  -- look: where the number found is that of the ticket the value is out, and else nothing changed
  abbrev pub Looked : (V → List E) → (E → Option ℕ) → Step (Option V) → Me (Option V) (View E) → ℕ → Me (Option V) (View E) → Type 0
  Looked list name s before found after = (t : ℕ) → before.0.ticket ≡ Some t → (found ≡ word_of t → Takes list name before after) × (found ≢ word_of t → after ≡ before)

  -- note: the value's list is noted
  abbrev pub Noted : (V → List E) → Step (Option V) → Me (Option V) (View E) → ℕ → Me (Option V) (View E) → Type 0
  Noted list s before found after = (x : V) → before.1 ≡ (0, Some x) ∷ [] → after ≡ (on_turn before.0 (list x), before.1)

  -- pass on: the value is at home again, and the next ticket is served
  abbrev pub PassedOn : Step (Option V) → Me (Option V) (View E) → ℕ → Me (Option V) (View E) → Type 0
  PassedOn s before found after = after ≡ (at_rest before.0, rest before.1)

  -- tell: nothing changes, and what was joined goes on from the part that had seen less
  abbrev pub Told : (E → Option ℕ) → Step (Option V) → Me (Option V) (View E) → ℕ → Me (Option V) (View E) → Type 0
  Told name s before found after = (after ≡ before) × GoesOn name before.0.less_names before.0.less before.0.seen

  -- the seat has neither ticket nor value, but a name
  pub record IsIdle (me : Me (Option V) (View E)) : Type 0 where
    pub no_ticket : me.0.ticket ≡ None
    pub not_out : me.0.out ≡ false
    pub bare : me.1 ≡ []

  -- the seat has the ticket t, of which it was told the word, and waits
  pub record Waits (ticket : ℕ) (me : Me (Option V) (View E)) : Type 0 where
    pub t : ℕ
    pub word : ticket ≡ word_of t
    pub has : me.0.ticket ≡ Some t
    pub not_out : me.0.out ≡ false
    pub bare : me.1 ≡ []
