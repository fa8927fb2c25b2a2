use Rattle.std.proofs.Common.{◌≡◌, ◌<◌, ◌≤◌, ◌++◌, ◌∙◌, ap, sym, subst, List, ℕ, length, take, get_or, rules}
use Rattle.std.specs.Prelude.{ℤ, pos}
use Rattle.std.specs.Int.{w64}
use Rattle.std.specs.Int.RustNames.{FitsSigned}
use Rattle.std.specs.List.{flat_map}
use Rattle.std.proofs.lemmas.Int.{to_z-of_z}
use Rattle.std.proofs.lemmas.List.Elements.{All-more}
use Rattle.event_codec.specs.Codes.{u32_code, i64_code}
use Rattle.event_codec.proofs.Elements.{one_more_at, grown}
use Rattle.event_codec.proofs.Typed.{all_of}
use Rattle.event_codec.proofs.put.put_point.Goals as goal

pub loop-number-preserved : goal.loop-number-preserved
loop-number-preserved c =
    let i = c.loop-number.number-index in
    let xs = c.args.point.now in
    let items = c.as_slice-numbers.result.now in
    let out = c.loop-number.out.items in
    let z = get_or items i (pos 0) in
    let fits : FitsSigned w64 z = search rules in
    let spelled : c.put_i64.new.out.items ≡ out ++ i64_code c.args.enc z = c.in_ok-put_i64.ensures.spelled ∙ ap (λ (n : ℤ). out ++ i64_code c.args.enc n) (to_z-of_z w64 z fits) in
    let here : z ≡ get_or xs i (pos 0) = ap (λ (s : List ℤ). get_or s i (pos 0)) c.as_slice-numbers.ensures in
    let within : i < length xs = subst (λ (s : List ℤ). i < length s) c.as_slice-numbers.ensures c.loop-number-test.true in
    record {
      spelled = grown out c.args.out.now.items (u32_code c.args.enc (length xs)) (flat_map (i64_code c.args.enc) (take i xs)) (i64_code c.args.enc z) c.put_i64.new.out.items spelled c.loop-number.invariant.spelled
          ∙ ap (λ (y : List ℕ). c.args.out.now.items ++ (u32_code c.args.enc (length xs) ++ y)) (sym (one_more_at (i64_code c.args.enc) xs i (pos 0) z within here));
      typed = All-more (λ n. FitsSigned w64 n) xs i (pos 0) within c.loop-number.invariant.typed (subst (λ n. FitsSigned w64 n) here fits);
    }

pub returns-clause-typed : goal.returns-clause-typed
returns-clause-typed c =
    let xs = c.args.point.now in
    let all : length xs ≤ c.loop-number.number-index = subst (λ (s : List ℤ). length s ≤ c.loop-number.number-index) c.as_slice-numbers.ensures c.loop-number-test.false in
    all_of (λ n. FitsSigned w64 n) xs c.loop-number.number-index all c.loop-number.invariant.typed
