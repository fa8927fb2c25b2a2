use Rattle.std.proofs.Common.{◌≡◌, ℕ, ◌+◌, ◌-◌, List, length, get_or, rules, take, drop, true, false, ap, ◌∙◌, sym, subst, ◌<◌, ◌^◌}
use Rattle.std.proofs.lemmas.List.{take_rest}
use Rattle.node_journal.specs.Index.{IsIndexed}
use Rattle.node_journal.specs.Records.{is_gate_open, is_whole, size_at}
use Rattle.node_journal.proofs.Steps.{none_is, some_is, broken, next}
use Rattle.node_journal.proofs.gates.find_gates.Goals as goal

pub returns-in_default-clause-refused : goal.returns-in_default-clause-refused
returns-in_default-clause-refused c =
    let tail = take_rest c.args.file.now c.loop-size.gate in
    let opened : is_gate_open (drop c.loop-size.gate c.args.file.now) ≡ true = sym (ap is_gate_open tail) ∙ sym c.is_gate_open.ensures ∙ c.loop-size-test.true in
    let cut : is_whole (drop c.loop-size.gate c.args.file.now) ≡ false = sym (ap is_whole tail) ∙ none_is _ _ c.in_default.ensures.size in
    broken c.args.file.now c.loop-size.places.items c.loop-size.gate c.loop-size.invariant opened cut

pub loop-size-preserved : goal.loop-size-preserved
loop-size-preserved c =
    let file = c.args.file.now in
    let gate = c.loop-size.gate in
    let tail = take_rest file gate in
    let opened : is_gate_open (drop gate file) ≡ true = sym (ap is_gate_open tail) ∙ sym c.is_gate_open.ensures ∙ c.loop-size-test.true in
    let both = some_is (is_whole (take (length file - gate) (drop gate file))) (size_at (take (length file - gate) (drop gate file))) c.in-Some.size c.in-Some.ensures.size in
    let whole : is_whole (drop gate file) ≡ true = sym (ap is_whole tail) ∙ both.0 in
    let size : c.in-Some.size ≡ size_at (drop gate file) = both.1 ∙ ap size_at tail in
    let small : size_at (drop gate file) < 2 ^ 32 = subst (λ (n : ℕ). n < 2 ^ 32) size c.in-Some.ensures.bound in
    let bytes : (i : ℕ) → get_or file i 0 < 256 = search rules in
    let came = next file c.loop-size.places.items gate c.loop-size.invariant bytes opened whole small in
    subst (λ (n : ℕ). IsIndexed file c.push.new.self.items (gate + (5 + n))) (sym size) (subst (λ (l : List ℕ). IsIndexed file l (gate + (5 + size_at (drop gate file)))) (sym c.in_ok-push.ensures.items) came)
