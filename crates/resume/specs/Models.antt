-- The model that the first payload of a journal has.
use Rattle.std.specs.Prelude.{◌≡◌, ◌≢◌, ℕ, ℤ, nat_abs, List, take, Option, Some, None, slice_get}
use Rattle.std.specs.Option.{ForSome}
use Rattle.problem.specs.Problem.{Problem}
use Rattle.mps_reader.specs.Reading.{Reads}
use Rattle.event_codec.specs.Models.{model_code, IsUpper}

-- the upper bound as the reader of models takes it
abbrev pub bound_of : Option ℤ → Option ℕ
bound_of None = None
bound_of (Some z) = Some (nat_abs z)

-- the text with this upper bound, from 0 to the largest bound, reads as the problem
pub record IsTextOf (text : List ℕ) (upper : Option ℤ) (p : Problem) : Type 0 where
  pub bounded : ForSome upper IsUpper
  pub reads : Reads text (bound_of upper) p

-- the payload is the record of a model that reads as the problem
pub record IsModelOf (payload : List ℕ) (p : Problem) : Type 0 where
  pub text : List ℕ
  pub upper : Option ℤ
  pub written : payload ≡ model_code text upper
  pub is : IsTextOf text upper p

-- the payload is the record of no model
abbrev pub IsNoModel : List ℕ → Type 0
IsNoModel payload = (p : Problem) → IsModelOf payload p → ⊥

-- The first place at which two payloads differ. Where one begins the other it is the length of the shorter one.
pub record DiffersFirstAt (a b : List ℕ) (at : ℕ) : Type 0 where
  pub same : take at a ≡ take at b
  pub differs : slice_get a at ≢ slice_get b at

-- the payload is the record of a model, but not this record, from which it differs first at this place
pub record IsOtherModel (model payload : List ℕ) (at : ℕ) : Type 0 where
  pub problem : Problem
  pub is : IsModelOf payload problem
  pub differs : DiffersFirstAt payload model at
