use Rattle.std.proofs.Common.{◌≡◌, ◌<◌, ◌∙◌, sym, ap, subst, arith, List, [], length, get_or, take, ℕ}
use Rattle.std.proofs.lemmas.List.{take_all}
use Rattle.integer_tableau.proofs.Arenas.{looked_up_next, places_constant, positions_many}
use Rattle.integer_tableau.proofs.EnteringByColumn.{variable_there}
use Rattle.integer_tableau.proofs.EnteringByEdge.{once_each}
use Rattle.integer_tableau.proofs.KeptViews.{IsViewed, are_viewed}
use Rattle.integer_tableau.specs.Arena.{in_column, positions_by}
use Rattle.integer_tableau.specs.Exits.{IsOnceEach}
use Rattle.integer_tableau.specs.Kept.{KeptDictionaries, KeptDictionary, kept_at}
use Rattle.integer_tableau.specs.Positions.{AreNonbasic}
use Rattle.integer_tableau.specs.declared.position.Position.TheVariants.{InBasis}
use Rattle.integer_tableau.proofs.dictionary.Dictionaries.positions.Goals as goal

module _ (variables width : ℕ) (d : KeptDictionary) (vs : List ℕ) (same : vs ≡ d.nonbasic) (are : AreNonbasic d.positions d.nonbasic) where
  once : IsOnceEach vs
  once = subst IsOnceEach (sym same) (once_each d.positions d.nonbasic are)

  within : IsViewed variables width d → (k : ℕ) → k < length vs → get_or vs k 0 < variables
  within viewed k l =
      let there = variable_there d.positions d.nonbasic are k (omega (arith, l, ap length same)) in
      omega (arith, ap (λ vs. get_or vs k 0) same, there, viewed.variables_many)

pub loop-column-init : goal.loop-column-init
loop-column-init c =
    c.in_ok-positions.ensures.items_if_clones_equal (λ y e. e) ∙ sym (places_constant InBasis 0 c.self.inside.variables)
    ∙ ap (λ (k : KeptDictionaries). positions_by k.variables []) c.self.view_is

pub index_mut-requires : goal.index_mut-requires
index_mut-requires c =
    let k = c.args.self.now in
    let vs = c.nonbasic-variable-items in
    let viewed = are_viewed _ _ _ _ _ _ _ _ k c.self.view_is c.args.place c.requires.there in
    let here = within k.variables k.width (kept_at k.all c.args.place) vs.result.now vs.ensures.value c.requires.nonbasic viewed c.loop-column.column c.loop-column-test.true in
    omega (arith, here, ap length c.loop-column.invariant, positions_many k.variables (take c.loop-column.column vs.result.now), c.loop-column.positions.ok.0)

pub loop-column-preserved : goal.loop-column-preserved
loop-column-preserved c =
    let k = c.args.self.now in
    let vs = c.nonbasic-variable-items in
    let viewed = are_viewed _ _ _ _ _ _ _ _ k c.self.view_is c.args.place c.requires.there in
    let d = kept_at k.all c.args.place in
    looked_up_next in_column k.variables vs.result.now c.loop-column.positions.items c.loop-column.column (once k.variables k.width d vs.result.now vs.ensures.value c.requires.nonbasic) c.loop-column-test.true
    (within k.variables k.width d vs.result.now vs.ensures.value c.requires.nonbasic viewed c.loop-column.column c.loop-column-test.true) c.loop-column.invariant

pub returns : goal.returns
returns c =
    let viewed = are_viewed _ _ _ _ _ _ _ _ c.args.self.now c.self.view_is c.args.place c.requires.there in
    c.loop-column.invariant ∙ ap (positions_by c.args.self.now.variables) (take_all c.loop-column.column c.nonbasic-variable-items.result.now c.loop-column-test.false ∙ c.nonbasic-variable-items.ensures.value)
    ∙ sym viewed.positions
