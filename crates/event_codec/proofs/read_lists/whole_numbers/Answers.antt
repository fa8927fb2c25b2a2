use Rattle.std.proofs.Common.{◌≡◌, ◌++◌, ◌∷◌, [], ap, ◌∙◌, rules}
use Rattle.std.specs.Prelude.{ℤ}
use Rattle.std.specs.Int.{w64}
use Rattle.std.specs.Int.RustNames.{FitsSigned}
use Rattle.std.proofs.lemmas.Int.{to_z-of_z}
use Rattle.std.proofs.lemmas.Result.{err_from_is_err_and}
use Rattle.event_codec.specs.Reading.{i64_at, elements_at}
use Rattle.event_codec.proofs.Loops.{goes_on, ends, is_done}
use Rattle.event_codec.proofs.read_lists.whole_numbers.Goals as goal

pub returns-in_err-number : goal.returns-in_err-number
returns-in_err-number c =
    let p = err_from_is_err_and c.from_residual.result c.from_residual.ensures.1 in
    rw (p.1, p.2) (ends (i64_at c.args.enc) c.in_err-number.field-0.0 c.loop.numbers.items c.args.count c.loop.counter c.loop.cursor (elements_at (i64_at c.args.enc) c.args.count c.args.cursor.now) c.loop-test.true c.in_err-number.ensures c.loop.invariant)

pub loop-preserved : goal.loop-preserved
loop-preserved c =
    let n = c.in_ok-number.number in
    let fits : FitsSigned w64 n = search rules in
    let items : c.push.new.self.items ≡ c.loop.numbers.items ++ n ∷ [] = c.in_ok-push.ensures.items ∙ ap (λ (z : ℤ). c.loop.numbers.items ++ z ∷ []) (to_z-of_z w64 n fits) in
    rw items (goes_on (i64_at c.args.enc) c.loop.numbers.items c.args.count c.loop.counter c.loop.cursor n _ (elements_at (i64_at c.args.enc) c.args.count c.args.cursor.now) c.loop-test.true c.in_ok-number.ensures c.loop.invariant)

pub returns : goal.returns
returns c = is_done (i64_at c.args.enc) c.loop.numbers.items c.args.count c.loop.counter c.loop.cursor (elements_at (i64_at c.args.enc) c.args.count c.args.cursor.now) c.loop-test.false c.loop.invariant
