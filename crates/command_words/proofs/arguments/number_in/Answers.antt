use Rattle.std.proofs.Common.{◌≤◌, Some, None, arith, refl, inl, inr}
use Rattle.std.specs.Prelude.{Ok, Err}
use Rattle.clap.specs.Words.{found_of, one_text}
use Rattle.clap.proofs.WalkLemmas.{one_text-rows}
use Rattle.command_words.proofs.Numbers.{tried}
use Rattle.command_words.proofs.arguments.number_in.Goals as goal

pub returns-in-Ok-None-clause-number : goal.returns-in-Ok-None-clause-number
returns-in-Ok-None-clause-number c =
    let h = rw c.in-Ok-None.field-0-is at c.in-Ok-None.ensures in
    rw (← one_text-rows (found_of c.args.matches.now) c.args.id.now) (tried c.args.low c.args.high _ (Ok None) (omega arith) h.none h.value)

pub returns-then-number-high-clause-number : goal.returns-then-number-high-clause-number
returns-then-number-high-clause-number c =
    let h = rw c.in-Ok-Some.field-0-is at c.in-Ok-Some.ensures in
    let t = tried c.args.low c.args.high (one_text (found_of c.args.matches.now) c.args.id.now) (Ok (Some c.in-Ok-Some.number)) (omega arith) h.none h.value in
    rw (← one_text-rows (found_of c.args.matches.now) c.args.id.now) (t.0 (omega arith) (omega arith))

pub returns-else-low-number-clause-usage : goal.returns-else-low-number-clause-usage
returns-else-low-number-clause-usage c =
    let h = rw c.in-Ok-Some.field-0-is at c.in-Ok-Some.ensures in
    let t = tried c.args.low c.args.high (one_text (found_of c.args.matches.now) c.args.id.now) (Ok (Some c.in-Ok-Some.number)) (omega arith) h.none h.value in
    let out : c.args.low ≤ c.in-Ok-Some.number → c.in-Ok-Some.number ≤ c.args.high → ⊥ = λ lo hi. elim c.else-low-number.either [
      | inl above ↦ absurd (omega (arith, above.1))
      | inr below ↦ absurd (omega (arith, below))
    ] in
    (refl, rw (← one_text-rows (found_of c.args.matches.now) c.args.id.now) (t.1 out))

pub returns-in-Err-clause-usage : goal.returns-in-Err-clause-usage
returns-in-Err-clause-usage c =
    let t = tried c.args.low c.args.high (one_text (found_of c.args.matches.now) c.args.id.now) (Err c.in-Err.field-0) (omega arith) c.in-Err.ensures.none c.in-Err.ensures.value in
    (refl, rw (← one_text-rows (found_of c.args.matches.now) c.args.id.now) t)
