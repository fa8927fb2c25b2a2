-- Lemmas: a table of names as a list.
use Rattle.std.proofs.Common.{refl, ap, cond, false, is_some}
use Rattle.std.proofs.lemmas.Bool.{true≢false}
use Rattle.std.specs.Str.{bytes_eq}
use Rattle.mps_reader.specs.Words.{value_under}
use Rattle.std.specs.Map.{lookup}
use Rattle.std.specs.Prelude.{◌≡◌, ℕ, List, ◌∷◌, ◌++◌, Option, Some, None, length, suc, []}
use denote.Ref.{Bor}
use Rattle.mps_reader.specs.Tables.{table}

pub value_under_table : {V : Type 0} (es : List (Bor (List ℕ) × V)) (name : List ℕ) → value_under (table es) name ≡ lookup (λ k. bytes_eq name k.now) es
value_under_table [] name = refl
value_under_table (e ∷ es) name = ap (cond (bytes_eq name e.0.now) (Some e.1)) (value_under_table es name)

pub length-table : {V : Type 0} (es : List (Bor (List ℕ) × V)) → length (table es) ≡ length es
length-table [] = refl
length-table (e ∷ es) = ap suc (length-table es)

pub table-add : {V : Type 0} (es : List (Bor (List ℕ) × V)) (name : Bor (List ℕ)) (v : V) → table (es ++ (name, v) ∷ []) ≡ table es ++ (name.now, v) ∷ []
table-add [] name v = refl
table-add (e ∷ es) name v = ap (λ rest. (e.0.now, e.1) ∷ rest) (table-add es name v)

pub none_when_false : {V : Type 0} (o : Option V) → is_some o ≡ false → o ≡ None
none_when_false None h = refl
none_when_false (Some v) h = absurd (true≢false h)
