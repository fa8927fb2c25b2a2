use Rattle.std.proofs.Common.{◌≡◌, sym, subst, refl, Option, Some}
use Rattle.std.specs.Prelude.{IsSome}
use Rattle.integer_tableau.proofs.IntegerStep.{small_rows}
use Rattle.integer_tableau.proofs.NotCrampedValues.{values_there}
use Rattle.integer_tableau.specs.Lemmas.NotCramped.{elimination_there}
use Rattle.integer_tableau.proofs.dictionary_laws.small_numbers_are_not_cramped.Goals as goal

some : {A : Type 0} (o : Option A) (v : A) → o ≡ Some v → IsSome o
some o v e = subst IsSome (sym e) refl

pub returns : goal.returns
returns f = record {
  eliminations = λ d r c t h l k. let x = elimination_there (λ i. d) d r c t (small_rows d t h) l k in some _ x.0 x.1;
  values = λ e t h p. let x = values_there e t.nonbasic_values t.statuses t.rows h.positive h.small p h.rows in some _ x.0 x.1;
}
