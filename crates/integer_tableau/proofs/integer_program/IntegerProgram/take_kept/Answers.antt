use Rattle.std.proofs.Common.{◌≡◌, ◌-◌, ◌++◌, ◌∙◌, arith, ap, sym, subst, List, length}
use Rattle.std.specs.Prelude.{ℤ}
use Rattle.std.proofs.lemmas.List.{length-append}
use Rattle.integer_tableau.specs.IntegerProgram.{CanStart}
use Rattle.integer_tableau.specs.Kept.{AreKept}
use Rattle.integer_tableau.proofs.integer_program.IntegerProgram.take_kept.Goals as goal

pub invariant_of-self : goal.invariant_of-self
invariant_of-self c =
    let own = c.self.inside in
    let other = c.other.inside in
    let rows : List (List ℤ) = own.rows.items.value.items in
    let first : List (List ℤ) = other.rows.items.value.items in
    let begun = c.begin_with.ensures c.if-not-begin_with.false in
    let further : List (List ℤ) = begun.0 in
    let rows_are : rows ≡ first ++ further = sym c.deref.ensures.value ∙ begun.1 ∙ ap (λ (xs : List (List ℤ)). xs ++ further) c.deref-else-not-are_same.ensures.value in
    let costs_are : own.costs ≡ other.costs = sym c.numerators.ensures ∙ c.are_same.ensures c.if-not-are_same.false ∙ c.numerators-2.ensures in
    let many : length further ≡ c.len.result - c.len-2.result = omega (arith, c.len.ensures, c.len-2.ensures, ap length rows_are, length-append first further) in (
      c.self.invariant.0,
      subst (λ (ps : List (List ℤ)). AreKept ps own.weight own.costs c.take_store.new.own.kept) (sym rows_are)
          (c.take_store.ensures.own first further other.weight own.costs own.bounds.items many
          (subst (λ (costs : List ℤ). AreKept first other.weight costs other.store.kept) (sym costs_are) c.other.invariant.1)
          (subst (λ (ps : List (List ℤ)). CanStart ps own.weight own.costs own.bounds.items) rows_are c.self.invariant.0)
          (subst (λ (ps : List (List ℤ)). AreKept ps own.weight own.costs own.store.kept) rows_are c.self.invariant.1)),
      c.self.invariant.2,
      c.self.invariant.3,
    )

pub invariant_of-other : goal.invariant_of-other
invariant_of-other c = (c.other.invariant.0, c.take_store.ensures.other _ _ _, c.other.invariant.2, c.other.invariant.3)
