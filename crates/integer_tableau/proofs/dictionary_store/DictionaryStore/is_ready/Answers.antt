use Rattle.integer_tableau.proofs.dictionary_store.DictionaryStore.is_ready.Goals as goal

pub returns-then-count-eq0-clause-kept : goal.returns-then-count-eq0-clause-kept
returns-then-count-eq0-clause-kept c = λ ps weight bounds many ready old. c.begin.ensures.kept ps weight bounds many ready
