use Rattle.std.proofs.Common.{◌≡◌, ◌+◌, ◌++◌, ◌∷◌, [], ap, sym, ◌∙◌, append_assoc, arith, length, replicate}
use Rattle.std.proofs.lemmas.List.{append-nil, length-append, length-replicate, replicate_more}
use Rattle.tableau.specs.Elimination.{zero_ℚ}
use Rattle.tableau.proofs.start.pad.Goals as goal

pub loop-init : goal.loop-init
loop-init c = sym (append-nil c.args.numbers.now.items)

pub loop-preserved : goal.loop-preserved
loop-preserved c =
    let numbers = c.args.numbers.now.items in
    c.in_ok-push.ensures.items ∙ (λ j. c.loop.invariant j ++ c.of.ensures j ∷ []) ∙ append_assoc numbers (replicate c.loop.counter zero_ℚ) (zero_ℚ ∷ []) ∙ ap (λ zs. numbers ++ zs) (replicate_more c.loop.counter zero_ℚ)

pub returns : goal.returns
returns c =
    let numbers = c.args.numbers.now.items in
    let all : c.loop.counter ≡ c.args.count = omega arith in
    let value : c.loop.numbers.items ≡ numbers ++ replicate c.args.count zero_ℚ = c.loop.invariant ∙ ap (λ n. numbers ++ replicate n zero_ℚ) all in
    record {
      value = value;
      count = ap length value ∙ length-append numbers (replicate c.args.count zero_ℚ) ∙ ap (λ n. length numbers + n) (length-replicate c.args.count zero_ℚ);
    }
