use Rattle.std.proofs.Common.{sym, subst}
use Rattle.integer_tableau.specs.Kept.{AreKept}
use Rattle.integer_tableau.specs.declared.dictionary_store.DictionaryStore.{DictionaryStore}
use Rattle.integer_tableau.proofs.further_rows.take_store.Goals as goal

pub returns-then-add_rows-clause-own : goal.returns-then-add_rows-clause-own
returns-then-add_rows-clause-own c = λ ps further old costs bounds many kept ready own.
    c.add_rows.ensures c.if-add_rows.true ps further old costs bounds many (subst (λ (s : DictionaryStore). AreKept ps old costs s.kept) (sym c.replace-store.ensures.value) kept) ready

pub returns-then-add_rows-clause-other : goal.returns-then-add_rows-clause-other
returns-then-add_rows-clause-other c = λ ps old costs. subst (λ (s : DictionaryStore). AreKept ps old costs s.kept) (sym c.replace-store.ensures.after) (c.new.ensures ps old costs)

pub returns-else-add_rows-clause-other : goal.returns-else-add_rows-clause-other
returns-else-add_rows-clause-other c = λ ps old costs. subst (λ (s : DictionaryStore). AreKept ps old costs s.kept) (sym c.replace-store.ensures.after) (c.new.ensures ps old costs)
