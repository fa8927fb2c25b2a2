-- Lemma: a payload is the record of the model of one problem at most.
use Rattle.std.specs.Prelude.{◌≡◌, ℕ, ℤ, List, Option, Some, None, IfSome, refl}
use Rattle.std.specs.Option.{ForSome}
use Rattle.std.proofs.Common.{sym, ◌∙◌, subst}
use Rattle.problem.specs.Problem.{Problem}
use Rattle.mps_reader.specs.Reading.{Reads}
use Rattle.mps_reader.specs.Lemmas.Laws.{one_problem}
use Rattle.event_codec.specs.Laws.{RecordsTellApart}
use Rattle.event_codec.specs.Models.{IsUpper}
use Rattle.resume.specs.Models.{bound_of, IsModelOf}

if_some : (o : Option ℤ) → ForSome o IsUpper → IfSome o IsUpper
if_some None h = tt
if_some (Some y) h = h y refl

pub one_model : RecordsTellApart → (payload : List ℕ) (p q : Problem) → IsModelOf payload p → IsModelOf payload q → p ≡ q
one_model law payload p q m n =
    let same = law m.text n.text m.upper n.upper (if_some m.upper m.is.bounded) (if_some n.upper n.is.bounded) (sym m.written ∙ n.written) in
    let bound : Reads m.text (bound_of n.upper) p = subst (λ (u : Option ℤ). Reads m.text (bound_of u) p) same.1 m.is.reads in
    let reads : Reads n.text (bound_of n.upper) p = subst (λ (t : List ℕ). Reads t (bound_of n.upper) p) same.0 bound in
    one_problem n.text (bound_of n.upper) p q reads n.is.reads
