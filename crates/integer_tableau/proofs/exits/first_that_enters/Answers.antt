use Rattle.std.proofs.Common.{◌≡◌, ◌<◌, ℕ, List, arith, rules, sym, ◌∙◌, true, false, length, pos}
use Rattle.std.proofs.lemmas.List.Sums.{position_or_len_is}
use Rattle.integer_tableau.specs.Exits.{are_free, edge_at, edge_enters}
use Rattle.integer_tableau.specs.declared.exits.Edge.{Edge}
use Rattle.integer_tableau.specs.declared.integer_bounds.IntegerBounds.{IntegerBounds}
use Rattle.integer_tableau.proofs.FreeEdges.{enters_by_bounds, free_enters}
use Rattle.integer_tableau.proofs.exits.first_that_enters.Goals as goal
use Rattle.integer_tableau.proofs.exits.first_that_enters.Goals.{At-loop-index}

-- no edge before this place enters
none_before : (c : At-loop-index) (bs : List IntegerBounds) → c.args.free.now ≡ are_free bs → (q : ℕ) → q < c.loop-index.index → edge_enters c.args.direction c.args.at_upper.now bs (edge_at c.args.edges.now q) ≡ false
none_before c bs are q l =
    let a = c.args in
    enters_by_bounds a.direction a.at_upper.now a.free.now bs (edge_at a.edges.now q) are (omega (arith, c.requires.free_there, c.requires.at_upper_there q (omega (arith, l, c.loop-index.auto.index-end))))
    ∙ c.loop-index.invariant q l

pub returns-then-enters : goal.returns-then-enters
returns-then-enters c bs are =
    let a = c.args in
    let e : Edge = edge_at a.edges.now c.loop-index.index in
    let enters : free_enters a.direction a.at_upper.now a.free.now e ≡ true = search rules in
    sym (position_or_len_is (edge_enters a.direction a.at_upper.now bs) a.edges.now c.loop-index.index record { from = 0; leaving = 0; entering = 0; column = 0; coefficient = pos 0; target = 0 }
    (omega (arith, c.loop-index-test.true)) (none_before (goal.at.returns-then-enters c).At-loop-index bs are)
    (λ l. enters_by_bounds a.direction a.at_upper.now a.free.now bs e are (omega (arith, c.requires.free_there, c.requires.at_upper_there c.loop-index.index l)) ∙ enters))

pub returns : goal.returns
returns c bs are =
    let a = c.args in
    sym (position_or_len_is (edge_enters a.direction a.at_upper.now bs) a.edges.now (length a.edges.now) record { from = 0; leaving = 0; entering = 0; column = 0; coefficient = pos 0; target = 0 }
    (omega arith) (λ k l. none_before (goal.at.returns c).At-loop-index bs are k (omega (arith, l, c.loop-index-test.false))) (λ l. absurd (omega (arith, l))))
