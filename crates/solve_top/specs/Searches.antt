-- A search with its history, and what it answers: a certificate and a few lines.
use Rattle.std.specs.Prelude.{◌≡◌, ◌↔◌, ◌≤◌, ◌<◌, ◌+◌, ◌*◌, ℕ, max, if◌then◌else◌, eqb, is_none, List, [], ◌∷◌, length, All, IsSomeAnd}
use Rattle.problem.specs.Problem.{Problem}
use Rattle.problem.specs.Best.{IsVoid}
use Rattle.problem_box.specs.PointCount.{point_count}
use Rattle.event_core.specs.declared.entry.Entry.{Entry}
use Rattle.event_core.specs.States.{State, open_count, best_value}
use Rattle.event_core.specs.Histories.{state_of, AreLegal}
use Rattle.event_core.specs.Rooms.{Recorded}
use Rattle.core_search.specs.Endings.{AdmitsSplit}
use Rattle.core_search.specs.Visits.{SearchesNodes}
use Rattle.cert_rows.specs.declared.certificate.Cert.{Cert}
use Rattle.cert_rows.specs.declared.certificate.Goal.TheVariants.{Infeas}
use Rattle.cert_rows.specs.Validity.{IsValid}
use Rattle.cert_merge.specs.Endings.{IsFinished}
use Rattle.cert_merge.specs.Merged.{merged, claim_of}
use Rattle.cert_tree.specs.Laws.{IsTrueClaim}
use Rattle.vipr_print.specs.Spelling.{text_of}
use Rattle.vipr_print.specs.Unique.{SpellsOnly}
use Rattle.solve_top.specs.declared.request.Request.{Request}
use Rattle.solve_top.specs.declared.request.Request.TheVariants.{Solve, Resume, Show, Drill}
use Rattle.solve_top.specs.Changes.{SourceChange, SinkChange, DiskChange, Takes, KeepsAll}
use Rattle.solve_top.specs.Requests.{limits_in}
use Rattle.solve_top.specs.Models.{BeganWith, IsProblemOf}
use Rattle.solve_top.specs.Output.{answer_line, answer_lines, spent_lines}

-- a problem, and the events of its search in order
pub record Search : Type 0 where
  pub problem : Problem
  pub history : List Entry

-- those of a state that is handed back
abbrev pub search_of : Recorded → Search
search_of r = record { problem = r.state.problem; history = r.history }

-- the events that were read from a journal: those without a worker, at the front
abbrev pub events_read : List Entry → List Entry
events_read [] = []
events_read (e ∷ es) = if is_none e.worker then e ∷ events_read es else []

-- those behind them, which the search has made
abbrev pub events_made : List Entry → List Entry
events_made [] = []
events_made (e ∷ es) = if is_none e.worker then events_made es else e ∷ es

-- the event is of one of the workers 0 to n - 1
abbrev pub IsOfWorkers : ℕ → Entry → Type 0
IsOfWorkers n e = IsSomeAnd e.worker (λ w. w < n)

-- where it began in this run
abbrev pub begin_of : Search → State
begin_of s = state_of s.problem (events_read s.history)

-- where it stands
abbrev pub end_of : Search → State
end_of s = state_of s.problem s.history

-- The search is of the problem of the command's model, and began with the events that its journal held. Its events are legal in turn, and those that it
-- has made are of the workers that the command asks for. It has at most as many nodes and cuts as the command asks for, or as it began with.
pub record IsSearchOf (q : Request) (m : SourceChange) (d : DiskChange) (s : Search) : Type 0 where
  pub problem : IsProblemOf q m d s.problem
  pub began : BeganWith q m d s.problem (events_read s.history)
  pub legal : AreLegal s.problem s.history
  pub of_workers : All (IsOfWorkers (limits_in q).workers) (events_made s.history)
  pub within : length (end_of s).nodes ≤ max (limits_in q).nodes (length (begin_of s).nodes)
  pub few_cuts : length (end_of s).cuts ≤ max (limits_in q).cuts (length (begin_of s).cuts)

-- One worker searched on from the events that were read, and looked at each node with the room that was left for so many cuts.
pub record HasSearchedAlone (cuts : ℕ) (t : Recorded) : Type 0 where
  pub begun : Recorded
  pub history : begun.history ≡ events_read t.history
  pub state : begun.state ≡ begin_of (search_of t)
  pub visits : SearchesNodes cuts begun t

-- its events are legal in turn, and no node is left open
abbrev pub HasFinished : Search → Type 0
HasFinished s = IsFinished s.problem s.history

-- some open node may be split, and the two children would pass the budget
pub record HasSpent (budget : ℕ) (s : Search) : Type 0 where
  pub splits : AdmitsSplit (end_of s)
  pub full : budget < length (end_of s).nodes + 2

-- the budget is below 2p - 1, where the root box has p points
abbrev pub HasTooFewNodes : Problem → ℕ → Type 0
HasTooFewNodes p budget = budget + 1 < 2 * point_count p.spans

-- the text of its certificate
unfoldable pub certificate_text : Search → List ℕ
certificate_text s = text_of (merged s.problem s.history)

-- the lines that tell of a state: its answer where no node is open
abbrev pub lines_at : State → List ℕ
lines_at t =
    if eqb (open_count t) 0 then answer_lines (claim_of (best_value t)) (length t.nodes) (length t.cuts)
    else spent_lines (length t.nodes) (length t.cuts) (open_count t)

-- the lines that tell of a search
unfoldable pub lines_due : Search → List ℕ
lines_due s = lines_at (end_of s)

-- the line of its answer alone
unfoldable pub answer_due : Search → List ℕ
answer_due s = answer_line (claim_of (best_value (end_of s)))

-- the lines that a command tells of a search: a drill that is finished tells its answer alone
abbrev pub lines_for : Request → Search → List ℕ
lines_for (Solve limits upper) s = lines_due s
lines_for (Resume limits) s = lines_due s
lines_for Show s = lines_due s
lines_for (Drill seed limits) s = answer_due s

-- The search is finished, and what the sink took spells its certificate, which is valid and claims the truth: infeasibility exactly where no point
-- is feasible, else a best point. No other spellable certificate has that text. The sink keeps it.
pub record IsSolved (s : Search) (cert : SinkChange) : Type 0 where
  pub certificate : Cert
  pub finished : HasFinished s
  pub merges : certificate ≡ merged s.problem s.history
  pub spells : Takes cert (text_of certificate)
  pub only : SpellsOnly certificate
  pub valid : IsValid s.problem certificate
  pub claim : IsTrueClaim s.problem certificate.points certificate.claim
  pub exact : IsVoid s.problem ↔ (certificate.claim ≡ Infeas)
  pub lasts : KeepsAll cert
