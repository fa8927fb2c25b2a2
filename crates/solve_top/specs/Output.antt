-- The lines on the second output.
use Rattle.std.specs.Prelude.{ℕ, List, ◌++◌, Option, Some, None, codes}
use Rattle.std.specs.Fmt.{decimal}
use Rattle.cert_rows.specs.declared.certificate.Goal.{Goal}
use Rattle.cert_rows.specs.declared.certificate.Goal.TheVariants.{Infeas, Range}
use Rattle.fraction.specs.Rational.{ℚ}
use Rattle.resume.specs.declared.figures.Survey.{Survey}
use Rattle.vipr_print.specs.Spelling.{spelled_number}
use Rattle.solve_top.specs.declared.request.Request.{Request}
use Rattle.solve_top.specs.declared.request.Request.TheVariants.{Solve, Resume, Show, Drill}

-- the answer of a certificate
abbrev pub answer_line : Goal → List ℕ
answer_line Infeas = codes "infeasible\n"
answer_line (Range lb ub) = codes "optimal " ++ spelled_number ub ++ codes "\n"

-- a word with a number
abbrev pub number_line : List ℕ → ℕ → List ℕ
number_line word n = word ++ decimal n ++ codes "\n"

-- the numbers of nodes and cuts
abbrev pub count_lines : ℕ → ℕ → List ℕ
count_lines nodes cuts = number_line (codes "nodes ") nodes ++ number_line (codes "cuts ") cuts

-- the lines of a search that is finished
abbrev pub answer_lines : Goal → ℕ → ℕ → List ℕ
answer_lines claim nodes cuts = answer_line claim ++ count_lines nodes cuts

-- those of a command: a drill tells its answer alone
abbrev pub finished_lines : Request → Goal → ℕ → ℕ → List ℕ
finished_lines (Solve limits upper) claim nodes cuts = answer_lines claim nodes cuts
finished_lines (Resume limits) claim nodes cuts = answer_lines claim nodes cuts
finished_lines Show claim nodes cuts = answer_lines claim nodes cuts
finished_lines (Drill seed limits) claim nodes cuts = answer_line claim

-- the lines of a search that stopped with so many nodes and cuts, so many of the nodes open
abbrev pub spent_lines : ℕ → ℕ → ℕ → List ℕ
spent_lines nodes cuts open_nodes = (codes "spent\n" ++ count_lines nodes cuts) ++ number_line (codes "open ") open_nodes

-- the problem's own objective at the best point so far
abbrev pub best_line : Option ℚ → List ℕ
best_line None = codes "best none\n"
best_line (Some q) = codes "best " ++ spelled_number q ++ codes "\n"

-- the lines of a journal that is shown
abbrev pub survey_lines : Survey → List ℕ
survey_lines v = (number_line (codes "events ") v.events ++ count_lines v.nodes v.cuts ++ number_line (codes "open ") v.open) ++ best_line v.best
