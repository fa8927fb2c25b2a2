use Rattle.std.proofs.Common.{◌≡◌, ◌+◌, ◌++◌, ◌⊎◌, ℕ, List, map, take, inl, inr, arith, ap, ◌∙◌, append_assoc}
use Rattle.std.specs.Prelude.{All, slice_range}
use Rattle.std.proofs.lemmas.List.Elements.{All-append, All-map}
use Rattle.integer_tableau.proofs.ExitPieces.{piece_of_all}
use Rattle.integer_tableau.specs.Kept.{KeptDictionary, Leads}
use Rattle.integer_tableau.specs.RankedColumns.{edge_of}
use Rattle.integer_tableau.specs.declared.exits.Edge.{Edge}
use Rattle.integer_tableau.specs.declared.ranked_column.RankedColumn.{RankedColumn}
use Rattle.integer_tableau.proofs.exits.lengthen.Goals as goal
use Rattle.integer_tableau.proofs.exits.lengthen.Goals.{After-push_edges}

-- edges that lead where the others do, or nowhere yet
record IsMore (old new : List Edge) : Type 0 where
  more : List Edge
  put : new ≡ old ++ more
  leads : (ds : List KeptDictionary) → All (Leads ds) old → All (Leads ds) more

lead_nowhere : (from leaving : ℕ) (columns : List RankedColumn) (ds : List KeptDictionary) → All (Leads ds) (map (edge_of from leaving) columns)
lead_nowhere from leaving columns ds = All-map (Leads ds) (edge_of from leaving) columns (λ k d l o. absurd (omega (arith, o)))

more_edges : (old moved new : List Edge) (first count from leaving n : ℕ) (columns : List RankedColumn) → (moved ≡ old) ⊎ (moved ≡ old ++ slice_range old first (first + count))
    → new ≡ moved ++ map (edge_of from leaving) (take n columns) → IsMore old new
more_edges old moved new first count from leaving n columns h e = elim h [
  | inl m ↦ record {
    more = map (edge_of from leaving) (take n columns);
    put = e ∙ ap (λ es. es ++ map (edge_of from leaving) (take n columns)) m;
    leads = λ ds a. lead_nowhere from leaving (take n columns) ds;
  }
  | inr m ↦ record {
    more = slice_range old first (first + count) ++ map (edge_of from leaving) (take n columns);
    put = e ∙ ap (λ es. es ++ map (edge_of from leaving) (take n columns)) m ∙ append_assoc old (slice_range old first (first + count)) (map (edge_of from leaving) (take n columns));
    leads = λ ds a. All-append (Leads ds) (slice_range old first (first + count)) (map (edge_of from leaving) (take n columns)) (piece_of_all old (Leads ds) first (first + count) a) (lead_nowhere from leaving (take n columns) ds);
  }
]

pub returns-in_err-push_edges-clause-stay : goal.returns-in_err-push_edges-clause-stay
returns-in_err-push_edges-clause-stay c =
    let a = c.args in
    let m = more_edges a.edges.now.items c.move_to_end.new.list.items c.push_edges.new.edges.items a.noted.first a.noted.count a.noted.from a.noted.variable c.push_edges.ensures.more.0 a.columns.now
    c.move_to_end.ensures.pushed c.push_edges.ensures.more.1 in
    (m.more, m.put, m.leads)

pub returns-clause-stay : goal.returns-clause-stay
returns-clause-stay c =
    let a = c.args in
    let m = more_edges a.edges.now.items c.move_to_end.new.list.items c.push_edges.new.edges.items a.noted.first a.noted.count a.noted.from a.noted.variable c.push_edges.ensures.more.0 a.columns.now
    c.move_to_end.ensures.pushed c.push_edges.ensures.more.1 in
    (m.more, m.put, m.leads)
