-- Lists that begin with others.
use Rattle.std.specs.Prelude.{◌≡◌, ◌≤◌, List, length, take}
use Rattle.std.proofs.Common.{sym, ap, ◌∙◌, arith, length-take}
use Rattle.std.proofs.lemmas.List.{take-take}

-- what begins a list begins those that this one begins
pub begun_on : {A : Type 0} (a b c : List A) → take (length a) b ≡ a → take (length b) c ≡ b → take (length a) c ≡ a
begun_on a b c first second = sym (take-take (length a) (length b) c short) ∙ ap (λ l. take (length a) l) second ∙ first
  where
    short : length a ≤ length b
    short = omega (arith, length-take (length a) b, ap (λ l. length l) first)
