use Rattle.std.proofs.Common.{◌≢◌, ◌<◌, ℕ, arith, get_or, length, refl, subst, sym}
use Rattle.integer_tableau.proofs.NonbasicCounts.{found_same, nonbasic_there}
use Rattle.integer_tableau.specs.declared.position.Position.TheVariants.{InBasis}
use Rattle.integer_tableau.proofs.dictionary_store.DictionaryStore.found.Goals as goal

pub are_nonbasic-requires : goal.are_nonbasic-requires
are_nonbasic-requires c =
    let h = c.requires.turning in
    let k = c.args.self.now.kept in
    let q = c.of_hash-place.result in
    let there = c.of_hash-place.ensures (omega (arith, c.if-place-eq0.false)) in
    subst (λ (T : Type 0). T) (λ i. (j : ℕ) → j < length (sym c.nonbasic.ensures.value i) → get_or (sym c.nonbasic.ensures.value i) j 0 < length (sym c.deref.ensures.value i))
    (nonbasic_there h.0 h.1 h.2 k h.3 h.4 h.5 h.6 c.args.solution.now h.7 h.8 h.9 c.nonbasic.ensures.positions q there)

pub returns-then-are_nonbasic-clause-basis : goal.returns-then-are_nonbasic-clause-basis
returns-then-are_nonbasic-clause-basis c = λ positive.
    let h = c.requires.turning in
    let k = c.args.self.now.kept in
    let q = c.of_hash-place.result in
    found_same h.0 h.1 h.2 k h.3 h.4 h.5 h.6 c.args.solution.now h.7 h.8 h.9 c.nonbasic.ensures.positions q (c.of_hash-place.ensures positive)
    (subst (λ (T : Type 0). T) (λ i. (j : ℕ) → j < length (c.nonbasic.ensures.value i) → get_or (c.deref.ensures.value i) (get_or (c.nonbasic.ensures.value i) j 0) InBasis ≢ InBasis) (c.if-are_nonbasic.ensures refl))
