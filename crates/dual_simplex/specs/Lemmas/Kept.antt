-- Lemmas: a relaxation that is kept while the book gets more cuts.
use Rattle.std.specs.Prelude.{◌++◌, List, Option, Some, None}
use Rattle.std.proofs.Common.{arith, sym, subst, length-append}
use Rattle.std.proofs.lemmas.List.{take-append-le}
use Rattle.problem.specs.Problem.{Problem}
use Rattle.derivation_book.specs.declared.cut.Cut.{Cut}
use Rattle.dual_simplex.specs.Prepared.{Prepared, IsRelaxationOf, IsPreparedOf, IsKept}

still_prepared : (p : Problem) (cs ds : List Cut) (r : Prepared) → IsPreparedOf p cs r → IsPreparedOf p (cs ++ ds) r
still_prepared p cs ds r h = record {
  few = let e = length-append cs ds in omega (arith, h.few, e);
  prepared = subst (λ (bs : List Cut). IsRelaxationOf p bs r) (sym (take-append-le r.cuts cs ds h.few)) h.prepared;
}

pub still_kept : (p : Problem) (cs ds : List Cut) (o : Option Prepared) → IsKept p cs o → IsKept p (cs ++ ds) o
still_kept p cs ds None h = tt
still_kept p cs ds (Some r) h = still_prepared p cs ds r h
