use Rattle.std.proofs.Common.{◌∙◌, ap}
use Rattle.integer_tableau.specs.Kept.{KeptDictionaries}
use Rattle.integer_tableau.proofs.StartKept.{new_starts_kept}
use Rattle.integer_tableau.proofs.dictionary_store.DictionaryStore.begin.Goals as goal

pub returns-clause-kept : goal.returns-clause-kept
returns-clause-kept c = λ ps weight bounds many ready.
    let no_exits = ap (λ (k : KeptDictionaries). k.exits) c.reserve.ensures ∙ c.clear.ensures.exits in
    let no_edges = ap (λ (k : KeptDictionaries). k.edges) c.reserve.ensures ∙ c.clear.ensures.edges in
    new_starts_kept ps weight c.args.costs.now bounds ready c.push_start.new.self (c.push_start.ensures.start ps many) (c.push_start.ensures.exits ∙ no_exits) (c.push_start.ensures.edges ∙ no_edges)
