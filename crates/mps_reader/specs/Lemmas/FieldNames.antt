-- The names of a problem that a text reads as are visible ASCII, as fields are.
use Rattle.std.specs.Prelude.{◌≡◌, ℕ, Bool, true, false, cond, nat_lt, List, [], ◌∷◌, Option, Some, None, Result, Ok, Err, length}
use Rattle.std.specs.List.{list_all}
use Rattle.std.proofs.Common.{refl, sym, ap, ◌∙◌, subst}
use Rattle.std.proofs.lemmas.List.Folds.{list_all-map}
use Rattle.problem.specs.Problem.{Problem}
use Rattle.mps_lines.specs.Lines.{Line, lines_of, raw_lines}
use Rattle.mps_reader.specs.Faults.{line_fault}
use Rattle.mps_reader.specs.VisibleNames.{is_visible}
use Rattle.mps_reader.specs.Lemmas.LinesWithinLimits.{none_keeps, line_more}
use Rattle.mps_reader.specs.Meaning.{problem_of, end_fault, unless_fault}
use Rattle.mps_reader.specs.Reading.{Reads, reading, finish, sections_from, after_line, ends, text_limit}
use Rattle.mps_reader.specs.Sections.{Sections, none_yet, with_line, entries_of, columns_of}
use Rattle.mps_reader.specs.declared.kinds.Kind.{Kind}
use Rattle.mps_reader.specs.declared.kinds.Kind.TheVariants as kind
use Rattle.mps_reader.specs.Lemmas.Limits.{KeepsLimits}

-- lines without a fault keep to the limits up to ENDATA
sections_keep : (last : ℕ) (s : Sections) (lines : List Line) (t : Sections) → KeepsLimits s → sections_from last s lines ≡ Ok t → KeepsLimits t
sections_keep last s [] t h e = cc
sections_keep last s (line ∷ lines) t h e = step (line_fault s line) refl (sections_from last (with_line s line) lines) (sections_keep last (with_line s line) lines t) e
  where
    same : (a b : Sections) (f : Result Sections (ℕ × Kind)) → f ≡ Ok a → f ≡ Ok b → a ≡ b
    same a b f h k = cc

    by : (b : Bool) → line_fault s line ≡ None → (rest : Result Sections (ℕ × Kind)) → (KeepsLimits (with_line s line) → rest ≡ Ok t → KeepsLimits t) → cond b (Ok s) rest ≡ Ok t → KeepsLimits t
    by true f rest more e = subst (λ (u : Sections). KeepsLimits u) (same s t (Ok s) refl e) h
    by false f rest more e = more (line_more s line h f) e

    step : (f : Option Kind) → line_fault s line ≡ f → (rest : Result Sections (ℕ × Kind)) → (KeepsLimits (with_line s line) → rest ≡ Ok t → KeepsLimits t) → after_line f line rest s ≡ Ok t → KeepsLimits t
    step (Some k) g rest more e = cc
    step None g rest more e = by (ends line) g rest more e

visible_names : (upper : Option ℕ) (s : Sections) (p : Problem) (f : Option (ℕ × Kind)) → KeepsLimits s → unless_fault f (problem_of upper s) ≡ Ok p → list_all is_visible p.names ≡ true
visible_names upper s p (Some fault) h e = cc
visible_names upper s p None h e =
    ap (λ (q : Problem). list_all is_visible q.names) (sym (same e))
    ∙ list_all-map is_visible (λ c. c.0) (columns_of (entries_of s.columns)) ∙ h.columns.names
  where
    same : unless_fault None (problem_of upper s) ≡ Ok p → problem_of upper s ≡ p
    same e = cc

finished_names : (text : List ℕ) (upper : Option ℕ) (p : Problem) (r : Result Sections (ℕ × Kind)) → sections_from (length (raw_lines text)) none_yet (lines_of text) ≡ r → finish upper r ≡ Ok p
    → list_all is_visible p.names ≡ true
finished_names text upper p (Ok s) e h = visible_names upper s p (end_fault upper s) (sections_keep (length (raw_lines text)) none_yet (lines_of text) s none_keeps e) h
finished_names text upper p (Err fault) e h = cc

-- each byte of each name is visible ASCII
pub names_are_visible : (text : List ℕ) (upper : Option ℕ) (p : Problem) → Reads text upper p → list_all is_visible p.names ≡ true
unfolding reading
names_are_visible text upper p h = by (nat_lt text_limit (length text)) h
  where
    by : (b : Bool) → cond b (Err (0, kind.TooMany)) (finish upper (sections_from (length (raw_lines text)) none_yet (lines_of text))) ≡ Ok p → list_all is_visible p.names ≡ true
    by true h = cc
    by false h = finished_names text upper p (sections_from (length (raw_lines text)) none_yet (lines_of text)) refl h
