-- The pass that a gate keeps. A fact of a struct has to be one that holds in one way, and so it is said by equations of plain data.
use Rattle.std.specs.Prelude.{◌≡◌, ◌<◌, ℕ, Bool, true, false, List, [], ◌∷◌, length, Option, Some, None, is_some}
use Rattle.atomic_table.specs.Seated.{TableId}
use Rattle.turn_lock.specs.Passes.{IsPassOf, names_of, seen_by}
use Rattle.turn_lock.specs.declared.lock.TurnLock.{TurnLock}
use Rattle.turn_lock.specs.declared.pass.Pass.{Pass}
use Rattle.worker_gate.specs.declared.entry.PoolEntry.{PoolEntry}
use Rattle.worker_gate.specs.Entries.{is_opened, opening_in}

module _ {V : Type 0} where
  -- what the pass of a gate has seen, and the rest of it
  abbrev pub seen_in : Option (Pass V PoolEntry) → List PoolEntry
  seen_in (Some pass) = seen_by pass
  seen_in None = []

  -- the names of a pass that may be away
  abbrev pub names_in : Option (Pass V PoolEntry) → List ℕ
  names_in (Some pass) = names_of pass
  names_in None = []

  -- the table that it belongs to
  abbrev pub table_in : Option (Pass V PoolEntry) → Option TableId
  table_in (Some pass) = Some pass.place.table_id
  table_in None = None

  -- the ticket that it waits with
  abbrev pub ticket_in : Option (Pass V PoolEntry) → Option ℕ
  ticket_in (Some pass) = pass.place.me.0.ticket
  ticket_in None = None

  -- whether its value is out, in a turn
  abbrev pub out_in : Option (Pass V PoolEntry) → Bool
  out_in (Some pass) = pass.place.me.0.out
  out_in None = false

  -- how many entries it holds
  abbrev pub held_by : Option (Pass V PoolEntry) → ℕ
  held_by (Some pass) = length pass.place.me.1
  held_by None = 0

  -- it is there, is of this lock, has the name of the worker alone, who is one of the workers, and has seen the opening
  pub record HasPass (lock : TurnLock V PoolEntry) (worker : ℕ) (pass : Option (Pass V PoolEntry)) : Type 0 where
    pub there : is_some pass ≡ true
    pub table : table_in pass ≡ Some lock.table.shared.table_id
    pub no_ticket : ticket_in pass ≡ None
    pub not_out : out_in pass ≡ false
    pub bare : held_by pass ≡ 0
    pub named : names_in pass ≡ worker ∷ []
    pub opened : is_opened (seen_in pass) ≡ true
    pub member : worker < (opening_in (seen_in pass)).workers

  -- a pass of this lock with the name of the worker alone, who is one of the workers; it has seen the opening
  pub record IsGatePass (lock : TurnLock V PoolEntry) (worker : ℕ) (pass : Pass V PoolEntry) : Type 0 where
    pub own : IsPassOf lock pass
    pub named : names_of pass ≡ worker ∷ []
    pub opened : is_opened (seen_by pass) ≡ true
    pub member : worker < (opening_in (seen_by pass)).workers
