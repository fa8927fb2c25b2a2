use Rattle.std.proofs.Common.{sym, subst, ◌∙◌}
use Rattle.std.proofs.lemmas.Result.{IfErr-weaker}
use Rattle.mps_reader.specs.Faults.{side_line_fault}
use Rattle.mps_reader.specs.Sections.{pairs_of, sides, sides_of}
use Rattle.mps_reader.specs.SideLines.{HasSides, some_sides_fault}
use Rattle.mps_reader.proofs.SideLines.{plain_line}
use Rattle.mps_reader.proofs.Stopping.{on_ok2, stops_same}
use Rattle.mps_reader.specs.Tables.{Stops, table, texts}
use Rattle.mps_reader.proofs.sides.Sides.take_plain.Goals as goal

pub returns : goal.returns
returns g c earlier h =
    let ranged = c.args.are_ranges in
    let rows = table c.args.rows.now.entries in
    let fields = c.args.fields.now in
    let p = plain_line ranged rows earlier fields c.requires.three c.requires.five in
    let k = c.take_pairs.ensures.rows (sides_of earlier) h.sides in (
      on_ok2 c.take_pairs.result
          (λ t k. (p.judged ∙ t.0, subst (λ ps. HasSides ranged rows c.take_pairs.new.self ps) (sym p.more) t.1, k ∙ h.group ∙ sym p.named_is))
          k.0 c.take_pairs.ensures.group,
      IfErr-weaker c.take_pairs.result (λ t. Stops t (some_sides_fault ranged rows (sides_of earlier) (pairs_of (texts fields)))) (λ t. Stops t (side_line_fault ranged rows earlier (sides (texts fields))))
          (λ t k. stops_same t (some_sides_fault ranged rows (sides_of earlier) (pairs_of (texts fields))) (side_line_fault ranged rows earlier (sides (texts fields))) (sym p.judged) k)
          k.1,
    )
