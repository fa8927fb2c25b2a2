use Rattle.std.proofs.Common.{◌∙◌, ap, List, ℕ, ◌++◌, ◌∷◌, []}
use Rattle.node_journal.proofs.Whole.{same, whole, placed, small}
use Rattle.node_journal.proofs.scanned.Scanned.from_gates.Goals as goal

pub invariant_of-result-clause-whole : goal.invariant_of-result-clause-whole
invariant_of-result-clause-whole c = whole c.args.file.items c.args.gates.places.items _ c.args.gates.end c.requires (c.in_ok-push.ensures.items ∙ ap (λ (l : List ℕ). l ++ 0 ∷ []) c.truncate.ensures.items)

pub invariant_of-result-clause-placed : goal.invariant_of-result-clause-placed
invariant_of-result-clause-placed c = placed c.args.file.items c.args.gates.places.items _ c.args.gates.end c.requires (c.in_ok-push.ensures.items ∙ ap (λ (l : List ℕ). l ++ 0 ∷ []) c.truncate.ensures.items)

pub invariant_of-result-clause-small : goal.invariant_of-result-clause-small
invariant_of-result-clause-small c = small c.args.file.items c.args.gates.places.items _ c.args.gates.end c.requires (c.in_ok-push.ensures.items ∙ ap (λ (l : List ℕ). l ++ 0 ∷ []) c.truncate.ensures.items)

pub returns-clause-payloads : goal.returns-clause-payloads
returns-clause-payloads c = same c.args.file.items c.args.gates.places.items _ c.args.gates.end c.requires (c.in_ok-push.ensures.items ∙ ap (λ (l : List ℕ). l ++ 0 ∷ []) c.truncate.ensures.items)
