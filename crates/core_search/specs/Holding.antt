-- The node that the worker holds.
use Rattle.std.specs.Prelude.{◌≡◌, ℕ, true, [], ◌∷◌}
use Rattle.event_core.specs.States.{State, is_open}

-- worker 0 holds this open node, and nobody holds another one
pub record IsHeldAlone (s : State) (i : ℕ) : Type 0 where
  pub held : s.holds ≡ record { worker = 0; node = i } ∷ []
  pub opened : is_open s i ≡ true
