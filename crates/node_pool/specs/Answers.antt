-- What a claim answers, and when there is room for one.
use Rattle.std.specs.Prelude.{◌≡◌, ◌<◌, ◌≤◌, ℕ, true, Option, Some, None}
use Rattle.node_events.specs.declared.event.Event.TheVariants as event
use Rattle.event_core.specs.States.{State, is_open, open_count}
use Rattle.event_core.specs.Holds.{is_held}
use Rattle.event_core.specs.Rooms.{Recorded, IsReady}
use Rattle.node_pool.specs.Free.{is_free}
use Rattle.node_pool.specs.declared.halt.Halt.{Halt}
use Rattle.node_pool.specs.declared.answers.Claim.{Claim}
use Rattle.node_pool.specs.declared.answers.Claim.TheVariants.{Node, Idle, Done, Halted}

-- A claim takes no memory, whichever node it is of.
abbrev pub IsReadyToClaim : Recorded → Type 0
IsReadyToClaim c = IsReady c (event.Claim 0)

-- there are open nodes, and each is held
pub record IsIdle (s : State) : Type 0 where
  pub some : 0 < open_count s
  pub held : (i : ℕ) → is_open s i ≡ true → is_held s i ≡ true

-- the greatest of the open nodes that nobody holds
pub record IsGreatestFree (s : State) (n : ℕ) : Type 0 where
  pub free : is_free s n ≡ true
  pub greatest : (i : ℕ) → is_free s i ≡ true → i ≤ n

-- what a claim answers in a pool with this halt and state
abbrev pub IsClaim : Option Halt → State → Claim → Type 0
IsClaim (Some h) s answer = answer ≡ Halted
IsClaim None s (Node n) = IsGreatestFree s n
IsClaim None s Idle = IsIdle s
IsClaim None s Done = open_count s ≡ 0
IsClaim None s Halted = ⊥
