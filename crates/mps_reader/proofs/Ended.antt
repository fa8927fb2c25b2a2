-- Lemmas: the faults at the end and the spans, column by column.
use Rattle.std.specs.Prelude.{◌≡◌, ℕ, ◌+◌, List, ◌∷◌, ◌++◌, drop, slice_get, Option, Some, None, []}
use Rattle.std.specs.Option.{option_or}
use Rattle.std.proofs.Common.{sym, ap, ◌∙◌, append-nil, append_assoc, add-one}
use Rattle.std.proofs.Math.Seq.{drop-cons}
use Rattle.std.proofs.lemmas.Option.{slice_get_within, get_or_from_slice_get}
use Rattle.problem_box.specs.declared.span.Span.{Span}
use Rattle.mps_reader.specs.Meaning.{at_line, column_end_fault, columns_end_fault, span, spans_of}
use Rattle.mps_reader.specs.declared.kinds.Column.{Column}
use Rattle.mps_reader.specs.declared.kinds.Kind.{Kind}
use Rattle.mps_reader.specs.declared.limits.ColumnBounds.{ColumnBounds}

-- the columns before an index have no fault, and these are their spans
pub record AreFineBefore (upper : Option ℕ) (bounds : List ℕ → ColumnBounds) (columns : List (List ℕ × Column)) (ss : List Span) (i : ℕ) : Type 0 where
  pub fault : columns_end_fault upper bounds columns ≡ columns_end_fault upper bounds (drop i columns)
  pub spans : spans_of upper bounds columns ≡ ss ++ spans_of upper bounds (drop i columns)

module _ (upper : Option ℕ) (bounds : List ℕ → ColumnBounds) (columns : List (List ℕ × Column)) (ss : List Span) (i : ℕ) (h : AreFineBefore upper bounds columns ss i) where
  -- all columns
  pub fine_at_end : drop i columns ≡ [] → (columns_end_fault upper bounds columns ≡ None) × (spans_of upper bounds columns ≡ ss)
  fine_at_end e = (h.fault ∙ ap (columns_end_fault upper bounds) e, h.spans ∙ ap (λ cs. ss ++ spans_of upper bounds cs) e ∙ append-nil ss)

  module _ (c : List ℕ × Column) (there : slice_get columns i ≡ Some c) where
    left : drop i columns ≡ c ∷ drop (i + 1) columns
    left = drop-cons columns i c (slice_get_within columns i c there) ∙ (λ j. get_or_from_slice_get columns i c c there j ∷ drop (sym (add-one i) j) columns)

    faults_by : (o : Option Kind) → column_end_fault upper c.1.is_marked (bounds c.0) ≡ o
        → columns_end_fault upper bounds columns ≡ option_or (at_line c.1.line o) (columns_end_fault upper bounds (drop (i + 1) columns))
    faults_by o e = h.fault ∙ ap (columns_end_fault upper bounds) left ∙ ap (λ o. option_or (at_line c.1.line o) (columns_end_fault upper bounds (drop (i + 1) columns))) e

    -- a column with a fault
    pub column_stops : (k : Kind) → column_end_fault upper c.1.is_marked (bounds c.0) ≡ Some k → columns_end_fault upper bounds columns ≡ Some (c.1.line, k)
    column_stops k e = faults_by (Some k) e

    -- one more
    pub fine_more : (s : Span) → column_end_fault upper c.1.is_marked (bounds c.0) ≡ None → s ≡ span upper (bounds c.0) → AreFineBefore upper bounds columns (ss ++ s ∷ []) (i + 1)
    fine_more s e q = record {
      fault = faults_by None e;
      spans = h.spans ∙ ap (λ cs. ss ++ spans_of upper bounds cs) left ∙ ap (λ s. ss ++ s ∷ spans_of upper bounds (drop (i + 1) columns)) (sym q)
          ∙ sym (append_assoc ss (s ∷ []) (spans_of upper bounds (drop (i + 1) columns)));
    }
