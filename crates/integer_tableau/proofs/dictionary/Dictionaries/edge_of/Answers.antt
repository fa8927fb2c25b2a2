use Rattle.std.proofs.Common.{◌≡◌, ◌+◌, ◌<◌, ◌≤◌, ◌∙◌, ℕ, Bool, false, List, length, arith, ap, All}
use Rattle.std.specs.List.{position_or_len}
use Rattle.std.specs.Prelude.{slice_range}
use Rattle.std.proofs.lemmas.List.{get_or_default}
use Rattle.std.proofs.lemmas.List.Sums.{fails_before_first}
use Rattle.integer_tableau.proofs.Arenas.{piece_many}
use Rattle.integer_tableau.specs.Exits.{edge_enters}
use Rattle.integer_tableau.specs.Kept.{KeptDictionaries, edges_of, exit_at}
use Rattle.integer_tableau.specs.declared.exits.Edge.{Edge}
use Rattle.integer_tableau.specs.declared.exits.Exit.{Exit}
use Rattle.integer_tableau.proofs.dictionary.Dictionaries.edge_of.Goals as goal
use Rattle.integer_tableau.proofs.dictionary.Dictionaries.edge_of.Goals.{Else-index-own}

none_passes : (test : Edge → Bool) (es : List Edge) (x : Exit) (p : ℕ) → p ≡ position_or_len test (edges_of es x) → x.count ≤ p → x.first + x.count ≤ length es → All (λ (e : Edge). test e ≡ false) (edges_of es x)
none_passes test es x p e l within = λ k d m. fails_before_first test (edges_of es x) k d (omega (arith, m, l, e, piece_many es x.first x.count within))

-- the exit that is looked at, and its edges
own : (c : Else-index-own) → c.index-own.result.now ≡ exit_at c.args.self.now.exits c.args.exit
own c =
    let l : c.args.exit < length c.self.inside.exits.items = omega (arith, c.requires.there, ap (λ (k : KeptDictionaries). length k.exits) c.self.view_is) in
    c.index-own.ensures ∙ get_or_default c.self.inside.exits.items c.args.exit c.index-own.result.now _ l ∙ ap (λ (k : KeptDictionaries). exit_at k.exits c.args.exit) c.self.view_is

edges : (c : Else-index-own) → c.deref.result.now ≡ c.args.self.now.edges
edges c = c.deref.ensures.value ∙ ap (λ (k : KeptDictionaries). k.edges) c.self.view_is

pub returns-else-index-own-clause-none : goal.returns-else-index-own-clause-none
returns-else-index-own-clause-none c =
    let a = c.args in
    none_passes (edge_enters a.direction a.solution.now.at_upper.items a.solution.now.bounds.items) a.self.now.edges (exit_at a.self.now.exits a.exit) c.first_that_enters-index.result
    (c.first_that_enters-index.ensures a.solution.now.bounds.items (c.deref-3.ensures.value ∙ c.requires.free)
    ∙ (λ i. position_or_len (edge_enters a.direction (c.deref-2.ensures.value i) a.solution.now.bounds.items) (slice_range (edges c i) (own c i).first ((own c i).first + (own c i).count))))
    (omega (arith, c.if-index-own.false, ap (λ (x : Exit). x.count) (own c))) c.requires.within
