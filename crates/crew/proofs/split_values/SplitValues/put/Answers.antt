use Rattle.std.specs.Prelude.{◌⊎◌, Result, Ok, Err, OnOk, OnErr}
use Rattle.std.proofs.Common.{inl, inr}
use Rattle.crew.proofs.split_values.SplitValues.put.Goals as goal

either_way : {T E : Type 0} {A B : Type 0} (r : Result T E) → OnOk r A → OnErr r B → A ⊎ B
either_way (Ok x) a b = inl a
either_way (Err e) a b = inr b

pub returns : goal.returns
returns c = either_way c.insert.result c.insert.ensures.updates c.insert.ensures.err
