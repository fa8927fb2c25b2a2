use Rattle.std.proofs.Common.{◌≡◌, ◌<◌, ◌≤◌, ◌++◌, ◌∙◌, ap, sym, subst, List, ℕ, length, take, get_or}
use Rattle.std.specs.List.{flat_map}
use Rattle.std.proofs.lemmas.List.Elements.{All-more}
use Rattle.fraction.specs.Rational.{ℚ}
use Rattle.event_codec.specs.Codes.{u32_code, factor_code}
use Rattle.event_codec.proofs.Elements.{one_more_at, grown}
use Rattle.event_codec.proofs.Typed.{HasTypes, factors_from}
use Rattle.event_codec.proofs.put.put_mult.Goals as goal

pub loop-term-preserved : goal.loop-term-preserved
loop-term-preserved c =
    let i = c.loop-term.term-index in
    let xs = c.args.mult.now in
    let t = c.term-item.result in
    let here : t ≡ get_or xs i t = c.term-item.is ∙ ap (λ (s : List (ℕ × ℚ)). get_or s i t) c.as_slice-term-items.ensures.items in
    let within : i < length xs = subst (λ (s : List (ℕ × ℚ)). i < length s) c.as_slice-term-items.ensures.items c.loop-term-test.true in
    record {
      spelled = grown c.loop-term.out.items c.args.out.now.items (u32_code c.args.enc (length xs)) (flat_map (factor_code c.args.enc) (take i xs)) (factor_code c.args.enc t) c.put_factor.new.out.items c.in_ok-put_factor.ensures.spelled c.loop-term.invariant.spelled
          ∙ ap (λ (x : List ℕ). c.args.out.now.items ++ (u32_code c.args.enc (length xs) ++ x)) (sym (one_more_at (factor_code c.args.enc) xs i t t within here));
      typed = All-more HasTypes xs i t within c.loop-term.invariant.typed (subst HasTypes here c.in_ok-put_factor.ensures.typed);
    }

pub returns-clause-typed : goal.returns-clause-typed
returns-clause-typed c =
    let xs = c.args.mult.now in
    let all : length xs ≤ c.loop-term.term-index = subst (λ (s : List (ℕ × ℚ)). length s ≤ c.loop-term.term-index) c.as_slice-term-items.ensures.items c.loop-term-test.false in
    factors_from xs c.loop-term.term-index all c.as_slice-term-items.ensures.rising c.as_slice-term-items.ensures.nonzero c.loop-term.invariant.typed
