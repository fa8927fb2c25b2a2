use Rattle.std.proofs.Common.{◌≡◌, ◌+◌, ◌-◌, ℕ, List, length, take, drop, arith, rules, ◌∙◌, ap}
use Rattle.std.proofs.lemmas.Grind.{common_steps}
use Rattle.outside.proofs.Parts.{given}
use Rattle.outside.proofs.mem_source.MemSourceSource.read.Goals as goal

pub returns-clause-bytes : goal.returns-clause-bytes
returns-clause-bytes c =
    let len : length c.copy_from_slice.new.self ≡ c.min-count.result = search (rules, common_steps) in
    let n : c.args.self.now.at + c.min-count.result - c.args.self.now.at ≡ c.min-count.result = omega arith in
    let is : c.copy_from_slice.new.self ≡ take c.min-count.result (drop c.args.self.now.at c.args.self.now.bytes.items) = c.copy_from_slice.ensures.after ∙ ap (λ (k : ℕ). take k (drop c.args.self.now.at c.deref-2.result.now)) n ∙ ap (λ (l : List ℕ). take c.min-count.result (drop c.args.self.now.at l)) c.deref-2.ensures.value in
    given c.args.self.now.bytes.items c.copy_from_slice.new.self (drop c.min-count.result c.args.buf.now) c.args.self.now.at c.min-count.result len is
