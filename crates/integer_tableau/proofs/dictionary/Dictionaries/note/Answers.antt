use Rattle.std.proofs.Common.{◌≡◌, ◌<◌, ◌∙◌, ℕ, ℤ, List, length, get_or, set, sym, subst}
use Rattle.std.proofs.lemmas.List.{get_or_default}
use Rattle.integer_tableau.proofs.EnteringByEdge.{aimed}
use Rattle.integer_tableau.proofs.ExitViews.{view_inside}
use Rattle.integer_tableau.proofs.ExitsKept.{edge_aimed}
use Rattle.integer_tableau.specs.Exits.{edge_at}
use Rattle.integer_tableau.specs.Kept.{AreKept, KeptDictionaries, Leads}
use Rattle.integer_tableau.specs.declared.exits.Edge.{Edge}
use Rattle.integer_tableau.proofs.dictionary.Dictionaries.note.Goals as goal

-- y is the edge at place e
target_noted : (ps : List (List ℤ)) (weight : ℕ) (costs : List ℤ) (k old : KeptDictionaries) (e target : ℕ) (y : Edge) → k ≡ old → e < length old.edges → Leads old.all (aimed (edge_at old.edges e) target)
    → y ≡ get_or k.edges e y → AreKept ps weight costs old → AreKept ps weight costs (record k { edges = set k.edges e (aimed y target) })
target_noted ps weight costs k old e target y same there leads at h =
    let l = subst (λ (k : KeptDictionaries). e < length k.edges) (sym same) there in
    subst (λ (y : Edge). AreKept ps weight costs (record k { edges = set k.edges e (aimed y target) })) (sym (at ∙ get_or_default k.edges e y _ l))
    (edge_aimed ps weight costs k (subst (AreKept ps weight costs) (sym same) h) e target l (subst (λ (k : KeptDictionaries). Leads k.all (aimed (edge_at k.edges e) target)) (sym same) leads))

pub returns-clause-kept : goal.returns-clause-kept
returns-clause-kept c = λ ps weight costs h.
    target_noted ps weight costs (view_inside c.self.inside) c.args.self.now c.args.edge c.args.target c.index_mut.result.now c.self.view_is c.requires.there c.requires.leads c.index_mut.ensures.value h
