-- Answers of lines, and their faults.
use Rattle.std.specs.Prelude.{◌≡◌, Option, Result, Ok, Err, OnOk}
use Rattle.std.proofs.Common.{ap, subst}
use Rattle.mps_reader.specs.Faults.{◌<|>◌}
use Rattle.mps_reader.specs.Tables.{Stops}
use Rattle.mps_reader.specs.declared.kinds.Kind.{Kind}
use Rattle.mps_reader.specs.declared.kinds.Stop.{Stop}
use Rattle.mps_reader.specs.declared.kinds.Stop.TheVariants as stop

pub on_ok2 : {T E P Q R : Type 0} (r : Result T E) → (P → Q → R) → OnOk r P → OnOk r Q → OnOk r R
on_ok2 (Ok a) f p q = f p q
on_ok2 (Err e) f p q = tt

pub on_ok3 : {T E P Q R S : Type 0} (r : Result T E) → (P → Q → R → S) → OnOk r P → OnOk r Q → OnOk r R → OnOk r S
on_ok3 (Ok a) f p q s = f p q s
on_ok3 (Err e) f p q s = tt

pub stops_same : (t : Stop) (a b : Option Kind) → a ≡ b → Stops t a → Stops t b
stops_same t a b e h = subst (λ (o : Option Kind). Stops t o) e h

pub stops_first : (t : Stop) (a b : Option Kind) → Stops t a → Stops t (a <|> b)
stops_first (stop.Fault k) a b h = ap (λ o. o <|> b) h
stops_first stop.Memory a b h = tt
