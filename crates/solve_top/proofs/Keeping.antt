-- What a sink has taken that fails at its end.
use Rattle.std.specs.Prelude.{◌≡◌, List, ℕ, ◌++◌, length}
use Rattle.std.proofs.Common.{◌∙◌, ap, sym, arith}
use Rattle.std.proofs.lemmas.List.{take_all}
use Rattle.outside.specs.Stream.{AppendsPrefix}

-- all of a text is a prefix of it
pub whole_is_prefix : (before after text : List ℕ) → after ≡ before ++ text → AppendsPrefix before after text
whole_is_prefix before after text h = (length text, h ∙ ap (λ (l : List ℕ). before ++ l) (sym (take_all (length text) text (omega arith))))
