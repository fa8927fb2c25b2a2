-- Texts that are pushed one behind the other.
use Rattle.std.specs.Prelude.{◌≡◌, ℕ, List, ◌++◌}
use Rattle.std.proofs.Common.{ap, sym, ◌∙◌, append_assoc}

pub two_before : (t a b c m n : List ℕ) → m ≡ t ++ a → n ≡ m ++ b → n ++ c ≡ t ++ (a ++ b ++ c)
two_before t a b c m n e f =
    ap (λ x. x ++ c) (f ∙ ap (λ x. x ++ b) e) ∙ append_assoc (t ++ a) b c ∙ append_assoc t a (b ++ c) ∙ ap (λ x. t ++ x) (sym (append_assoc a b c))
