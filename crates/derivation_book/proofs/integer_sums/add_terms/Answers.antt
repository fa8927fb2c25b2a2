use Rattle.std.proofs.Common.{ℕ, ◌∙◌, All, map, refl, ap, sym, subst, arith}
use Rattle.std.specs.Int.{w64}
use Rattle.std.proofs.lemmas.Int.{to_z-of_z}
use Rattle.std.proofs.lemmas.List.{take_all}
use Rattle.std.proofs.lemmas.List.Elements.{All-more}
use mir.Val.{to_z, of_z}
use Rattle.fraction.specs.Rational.{ℚ, whole}
use Rattle.fraction.specs.Whole.{IsWhole}
use Rattle.derivation_book.specs.Adding.{columns_added}
use Rattle.derivation_book.specs.Lemmas.Columns.{still_rising, next_added, all_added}
use Rattle.derivation_book.proofs.Numerators.{all_fit}
use Rattle.derivation_book.proofs.integer_sums.add_terms.Goals as goal

abbrev IsWholeTerm : ℕ × ℚ → Type 0
IsWholeTerm t = IsWhole t.1

pub loop-term-preserved : goal.loop-term-preserved
loop-term-preserved c =
    let zs = c.loop-term.sums in
    let m = whole (to_z w64 (of_z w64 c.args.factor)) in
    let ts = c.args.terms.now in
    let i = c.loop-term.term-index in
    let t = c.term-item.result in
    let held = all_fit zs c.loop-term.invariant.held in
    record {
      held = c.if-not-add_term.ensures.held;
      rising = still_rising (map whole zs) m ts i t (omega arith) c.term-item.is held c.loop-term.invariant.rising;
      integers = All-more IsWholeTerm ts i t (omega arith) c.loop-term.invariant.integers (subst IsWholeTerm c.term-item.is (c.if-not-add_term.ensures.whole refl));
      left = next_added (map whole zs) m ts i t (omega arith) c.term-item.is held c.loop-term.invariant.rising t (map whole c.add_term.new.sums) refl (c.if-not-add_term.ensures.added refl)
          ∙ c.loop-term.invariant.left;
    }

pub returns-clause-added : goal.returns-clause-added
returns-clause-added c = λ q.
    ap (λ f. columns_added (map whole c.args.sums.now) 0 (whole f) c.args.terms.now) (sym (to_z-of_z w64 c.args.factor c.ranges.factor))
    ∙ sym c.loop-term.invariant.left
    ∙ all_added (map whole c.loop-term.sums) (whole (to_z w64 (of_z w64 c.args.factor))) c.args.terms.now c.loop-term.term-index (omega arith) (all_fit c.loop-term.sums c.loop-term.invariant.held)

pub returns-clause-whole : goal.returns-clause-whole
returns-clause-whole c = λ q. subst (All IsWholeTerm) (take_all c.loop-term.term-index c.args.terms.now (omega arith)) c.loop-term.invariant.integers
