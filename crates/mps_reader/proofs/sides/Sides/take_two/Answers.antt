use Rattle.std.proofs.Common.{◌≡◌, ℕ, List, Option, None, [], ◌∷◌, ◌++◌, ap, sym, ◌∙◌, append_assoc, subst}
use Rattle.std.proofs.lemmas.Result.{on_ok_weaker, IfErr-weaker}
use Rattle.mps_reader.specs.Faults.{◌<|>◌, side_fault}
use Rattle.mps_reader.specs.Lemmas.LinesWithinLimits.{none_both}
use Rattle.mps_reader.specs.SideLines.{HasSides}
use Rattle.mps_reader.proofs.SideLines.{stops_before}
use Rattle.mps_reader.proofs.Stopping.{stops_same}
use Rattle.mps_reader.specs.Tables.{Stops, table}
use Rattle.mps_reader.specs.declared.kinds.Kind.{Kind}
use Rattle.mps_reader.proofs.sides.Sides.take_two.Goals as goal

pub returns-in-Ok-clause-rows : goal.returns-in-Ok-clause-rows
returns-in-Ok-clause-rows g c before h =
    let new = c.take-in-Ok.new.self in
    let ranged = c.args.are_ranges in
    let rows = table c.args.rows.now.entries in
    let first : List ℕ × List ℕ = (c.args.row.now, c.args.value.now) in
    let second : List ℕ × List ℕ = (c.args.second_row.now, c.args.second_value.now) in
    let t = (c.in-Ok.ensures.rows before h).0 in
    let k = c.take-in-Ok.ensures.rows (before ++ first ∷ []) t.1 in
    let later : Option Kind = side_fault ranged rows (before ++ first ∷ []) second <|> None in
    let e : (side_fault ranged rows before first <|> later) ≡ later = ap (λ o. o <|> later) (none_both (side_fault ranged rows before first) None t.0).0 in (
      on_ok_weaker c.take-in-Ok.result (λ u. (e ∙ u.0, subst (λ ps. HasSides ranged rows new ps) (append_assoc before (first ∷ []) (second ∷ [])) u.1)) k.0,
      IfErr-weaker c.take-in-Ok.result (λ u. Stops u later) (λ u. Stops u (side_fault ranged rows before first <|> later)) (λ u w. stops_same u later (side_fault ranged rows before first <|> later) (sym e) w) k.1,
    )

pub returns-in-Err-clause-rows : goal.returns-in-Err-clause-rows
returns-in-Err-clause-rows g c before h =
    let ranged = c.args.are_ranges in
    let rows = table c.args.rows.now.entries in
    let first : List ℕ × List ℕ = (c.args.row.now, c.args.value.now) in
    let second : List ℕ × List ℕ = (c.args.second_row.now, c.args.second_value.now) in
    (tt, stops_before c.in-Err.stop (side_fault ranged rows before first) (side_fault ranged rows (before ++ first ∷ []) second <|> None) (c.in-Err.ensures.rows before h).1)
