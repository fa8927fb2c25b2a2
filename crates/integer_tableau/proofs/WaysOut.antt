-- What a function that returns early says of its result and of lists that others would be put behind.
use Rattle.std.proofs.Common.{◌≡◌, ◌++◌, ◌∙◌, [], Bool, true, false, List, Option, None, append-nil, ap, subst, sym}
use Rattle.std.specs.Option.{IfSome}
use Rattle.std.specs.Prelude.{if◌then◌else◌}

-- nothing is said of a result that is none
pub none_then : {A : Type 0} (o : Option A) (P : A → Type 0) → o ≡ None → IfSome o P
none_then o P e = subst (λ o. IfSome o P) (sym e) tt

-- a list behind whose own elements others are put, or aren't
module _ {A : Type 0} (b : Bool) (new old more : List A) (e : new ≡ (if b then old ++ more else old)) where
  pub extended : true ≡ b → new ≡ old ++ more
  extended t = e ∙ ap (λ b. if b then old ++ more else old) (sym t)

  pub stays : false ≡ b → new ≡ old
  stays f = e ∙ ap (λ b. if b then old ++ more else old) (sym f)

  pub stays_grown : false ≡ b → (more : List A) × (new ≡ old ++ more)
  stays_grown f = ([], stays f ∙ sym (append-nil old))

-- one that wasn't touched
pub untouched : {A : Type 0} (old : List A) → (more : List A) × (old ≡ old ++ more)
untouched old = ([], sym (append-nil old))
