-- A relaxation that was prepared, to be solved over many boxes.
use Rattle.std.specs.Prelude.{◌≡◌, ℕ, ◌<◌, ◌≤◌, List, Option, IfSome, length, take}
use Rattle.problem.specs.Problem.{Problem}
use Rattle.derivation_book.specs.declared.cut.Cut.{Cut}
use Rattle.tableau.specs.LinearProgram.{LinearProgram}
use Rattle.dual_simplex.specs.Answers.{linear_program}
use Rattle.dual_simplex.specs.Sizes.{IsIntegerRelaxation, most_numbered_cuts}

-- how many cuts it has, and its linear program over the problem's own box, where that has the form of small whole numbers, or that of scaled ones
pub record Prepared : Type 0 where
  pub cuts : ℕ
  pub program : Option LinearProgram
  pub scaled : Option LinearProgram

-- the linear program of a problem and these cuts, whose numbers are whole and small
pub record IsIntegerProgramOf (p : Problem) (cs : List Cut) (lp : LinearProgram) : Type 0 where
  pub is_program : lp ≡ linear_program p cs p.spans
  pub integers : IsIntegerRelaxation p cs

-- prepared for a problem and these cuts
pub record IsRelaxationOf (p : Problem) (cs : List Cut) (r : Prepared) : Type 0 where
  pub numbered : r.cuts < most_numbered_cuts
  pub program : IfSome r.program (IsIntegerProgramOf p cs)
  pub scaled : IfSome r.scaled (λ lp. lp ≡ linear_program p cs p.spans)

-- prepared for a problem and the first of these cuts
pub record IsPreparedOf (p : Problem) (cs : List Cut) (r : Prepared) : Type 0 where
  pub few : r.cuts ≤ length cs
  pub prepared : IsRelaxationOf p (take r.cuts cs) r

-- what is kept, if anything is, was prepared for a problem and the first of these cuts
abbrev pub IsKept : Problem → List Cut → Option Prepared → Type 0
IsKept p cs o = IfSome o (IsPreparedOf p cs)
