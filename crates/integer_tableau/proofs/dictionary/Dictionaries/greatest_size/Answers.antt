use Rattle.std.proofs.Common.{◌≤◌, ◌∙◌, arith, rules, ap, subst, nat_abs, take}
use Rattle.std.specs.Prelude.{All, List}
use Rattle.std.proofs.lemmas.List.{take_all}
use Rattle.std.proofs.lemmas.List.Elements.{All-get_or, All-more, All-weaker}
use Rattle.integer_tableau.proofs.FurtherKept.{IsWithinSize, all_within_size}
use Rattle.integer_tableau.specs.declared.dictionary.Dictionary.{Dictionary}
use Rattle.integer_tableau.proofs.dictionary.Dictionaries.greatest_size.Goals as goal
use Rattle.integer_tableau.proofs.dictionary.Dictionaries.greatest_size.Goals.{After-loop-own}

all : (c : After-loop-own) → All (IsWithinSize c.loop-own.size) c.args.self.now.all
all c = all_within_size c.self.inside c.args.self.now c.self.view_is c.self.invariant c.loop-own.size
    (subst (λ (ds : List Dictionary). All (λ (d : Dictionary). (d.size ≤ c.loop-own.size) × (nat_abs d.divisor.number ≤ c.loop-own.size)) ds)
    (take_all c.loop-own.own-index c.deref-own-items.result.now c.loop-own-test.false ∙ c.deref-own-items.ensures.value) c.loop-own.invariant)

pub loop-own-preserved : goal.loop-own-preserved
loop-own-preserved c =
    let now : Dictionary → Type 0 = λ d. (d.size ≤ c.max-size.result) × (nat_abs d.divisor.number ≤ c.max-size.result) in
    let was : Dictionary → Type 0 = λ d. (d.size ≤ c.loop-own.size) × (nat_abs d.divisor.number ≤ c.loop-own.size) in
    let items = c.deref-own-items.result.now in
    let grown : c.loop-own.size ≤ c.max-size.result = search rules in
    let own_small : c.own-item.result.size ≤ c.max-size.result = search rules in
    let divisor_small : nat_abs c.number.result ≤ c.max-size.result = search rules in
    All-more now items c.loop-own.own-index c.own-item.result c.loop-own-test.true
    (All-weaker was now (λ d h. (omega (arith, h.0, grown), omega (arith, h.1, grown))) (take c.loop-own.own-index items) c.loop-own.invariant)
    (subst now c.own-item.is (own_small, omega (arith, divisor_small, ap nat_abs c.number.ensures)))

pub returns-clause-denominators : goal.returns-clause-denominators
returns-clause-denominators c p l = (All-get_or (IsWithinSize c.loop-own.size) c.args.self.now.all p _ l (all c)).0

pub returns-clause-rows : goal.returns-clause-rows
returns-clause-rows c p l = (All-get_or (IsWithinSize c.loop-own.size) c.args.self.now.all p _ l (all c)).1
