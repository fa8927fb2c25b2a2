use Rattle.std.proofs.Common.{◌≡◌, false, Result, Ok, Err, OnOk, is_err, sym, ◌∙◌, get_or, set}
use Rattle.mps_reader.specs.Faults.{entry_fault, number_fault}
use Rattle.mps_reader.specs.RowState.{bare_row, with_number}
use Rattle.mps_reader.proofs.RowsSoFar.{names_fine, names_stop}
use Rattle.mps_reader.proofs.State.{entry_held, last_same}
use Rattle.mps_reader.proofs.Stopping.{stops_same}
use Rattle.mps_reader.specs.Tables.{entry_of, table}
use Rattle.mps_reader.proofs.columns.Columns.take.Goals as goal

of_fine : {T E P : Type 0} (r : Result T E) → false ≡ is_err r → OnOk r P → P
of_fine (Ok a) f p = p
of_fine (Err e) f p = cc

pub returns-in-Err-clause-err : goal.returns-in-Err-clause-err
returns-in-Err-clause-err g c entries h =
    let es = c.args.rows.now.entries in
    let e = entry_of c.args.e.now in
    names_stop (table es) entries e c.in-Err.kind (c.in-Err.ensures.err entries h (last_same c.args.self.now es entries h e c.is_same-same.result c.is_same-same.ensures))

pub returns-in-Err-number_in-clause-err : goal.returns-in-Err-number_in-clause-err
returns-in-Err-number_in-clause-err g c entries h =
    let es = c.args.rows.now.entries in
    let e = entry_of c.args.e.now in
    let k = last_same c.args.self.now es entries h e c.is_same-same.result c.is_same-same.ensures in
    stops_same c.in-Err-number_in.stop (number_fault e.value) (entry_fault (table es) entries e) (sym (names_fine (table es) entries e (c.in-Ok.ensures.ok entries h k))) c.in-Err-number_in.ensures.err

pub returns-in-Ok-take-clause-ok : goal.returns-in-Ok-take-clause-ok
returns-in-Ok-take-clause-ok g c entries h =
    let s = c.args.self.now in
    let es = c.args.rows.now.entries in
    let e = entry_of c.args.e.now in
    let same = c.is_same-same.result in
    let i = c.in-Ok.index in
    let k = last_same s es entries h e same c.is_same-same.ensures in
    let new = c.stand_at.new.self in
    let f = c.if-is_err.ensures.value in
    let w = of_fine c.stand_at.result f c.stand_at.ensures.rows in
    let q = c.in-Ok-number_in.ensures.ok in (
      names_fine (table es) entries e (c.in-Ok.ensures.ok entries h k) ∙ q.1,
      entry_held s es entries e h same c.is_same-same.ensures c.in-Ok.ensures.new
          (record { columns = new.columns; last = new.last; place = new.place; rows = c.take.new.self }) i bare_row c.in-Ok.ensures.row
          (of_fine c.stand_at.result f c.stand_at.ensures.columns) (of_fine c.stand_at.result f c.stand_at.ensures.last) (of_fine c.stand_at.result f c.stand_at.ensures.place)
          (c.in-Ok-take.ensures ∙ (λ j. set (w j) i (with_number new.place (q.0 j) (get_or (w j) i bare_row)))),
    )
