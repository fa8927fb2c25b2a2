use Rattle.std.proofs.Common.{◌≡◌, ℕ, List, ◌++◌, ◌∷◌, [], None, Some, ap, ◌∙◌, arith, refl, length}
use Rattle.fraction.specs.Rational.{ℚ}
use Rattle.mps_reader.specs.RowState.{RowState}
use Rattle.mps_reader.proofs.RowTable.{kept_push}
use Rattle.mps_reader.specs.RowTable.{state_of, row_states}
use Rattle.mps_reader.specs.declared.row_table.RowEntry.TheVariants as entry
use Rattle.mps_reader.specs.declared.row_terms.TermRow.{TermRow}
use Rattle.mps_reader.proofs.row_table.RowTable.push_kept.Goals as goal

with_terms : List (ℕ × ℚ) → RowState
with_terms ts = record { terms = Some ts; named_by = None }

pub returns : goal.returns
unfolding with_terms
returns c =
    let kept = c.self.inside.kept.items in
    let entries = c.self.inside.entries.items in
    let r : TermRow = record { row = c.in-Ok-Ok.row; named_by = None; terms = c.new-terms.result } in
    let n : c.in-Ok-Ok.spot ≡ length kept = omega (arith, c.in-Ok-Ok.ensures'.1, c.len-2.ensures, c.self.inside.kept.ok.0) in
    let e : r.row ≡ length entries = omega (arith, c.in-Ok-Ok.ensures.1, c.len.ensures, c.self.inside.entries.ok.0) in
    ap (λ (ks : List TermRow). row_states ks c.push-2.new.self.items) c.in_ok-push.ensures.items
    ∙ ap (row_states (kept ++ r ∷ [])) c.in_ok-push-2.ensures.items
    ∙ ap (λ n. row_states (kept ++ r ∷ []) (entries ++ entry.Keeps n ∷ [])) n
    ∙ kept_push (length entries) r e kept entries refl
    ∙ ap (λ rs. rs ++ state_of r ∷ []) c.self.view_is
    ∙ ap (λ ts. c.args.self.now ++ with_terms ts ∷ []) c.new-terms.ensures
