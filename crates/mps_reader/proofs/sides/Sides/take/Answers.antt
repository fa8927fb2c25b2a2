use Rattle.std.proofs.Common.{◌≡◌, ◌+◌, true, false, None, ℕ, List, Option, Result, Ok, Err, OnOk, is_err, arith, refl, subst, sym, ◌∙◌}
use Rattle.fraction.specs.Rational.{ℚ}
use Rattle.mps_reader.specs.Faults.{side_fault}
use Rattle.mps_reader.proofs.SideLines.{row_taken}
use Rattle.mps_reader.proofs.Stopping.{stops_first}
use Rattle.mps_reader.specs.SideTable.{Gives}
use Rattle.mps_reader.specs.Tables.{table}
use Rattle.mps_reader.proofs.sides.Sides.take.Goals as goal

given : {T E : Type 0} (r : Result T E) (old new : List (Option ℚ)) (i : ℕ) (p q : ℚ) → false ≡ is_err r → OnOk r (Gives old new i p) → p ≡ q → Gives old new i q
given (Ok a) old new i p q f g e = subst (λ (q : ℚ). Gives old new i q) e g
given (Err x) old new i p q f g e = cc

zero_more : (n : ℕ) → n ≡ n + 0
zero_more n = omega arith

pub returns-in-Err-clause-rows : goal.returns-in-Err-clause-rows
returns-in-Err-clause-rows g c before h =
    (tt, stops_first c.in-Err.stop (side_fault c.args.are_ranges (table c.args.rows.now.entries) before (c.args.row.now, c.args.value.now)) None (c.in-Err.ensures.err before h))

pub returns-then-counts_twice-clause-rows : goal.returns-then-counts_twice-clause-rows
returns-then-counts_twice-clause-rows g c before h =
    let st = c.args.self.now in
    let i = c.in-Ok.given.index in (
      row_taken c.args.are_ranges c.args.rows.now.entries st before h (c.args.row.now, c.args.value.now) i c.in-Ok.ensures.row c.in-Ok.given.kind c.in-Ok.ensures.kind (c.in-Ok.ensures.ok before h)
          (record { numbers = c.put.new.self; group = st.group; ranged = st.ranged + 1 }) (given c.put.result st.numbers c.put.new.self i _ _ c.if-is_err.ensures.value c.put.ensures c.in-Ok.ensures.number)
          true (sym c.counts_twice.ensures ∙ c.if-counts_twice.true) refl,
      tt,
    )

pub returns-else-counts_twice-clause-rows : goal.returns-else-counts_twice-clause-rows
returns-else-counts_twice-clause-rows g c before h =
    let st = c.args.self.now in
    let i = c.in-Ok.given.index in (
      row_taken c.args.are_ranges c.args.rows.now.entries st before h (c.args.row.now, c.args.value.now) i c.in-Ok.ensures.row c.in-Ok.given.kind c.in-Ok.ensures.kind (c.in-Ok.ensures.ok before h)
          (record { numbers = c.put.new.self; group = st.group; ranged = st.ranged }) (given c.put.result st.numbers c.put.new.self i _ _ c.if-is_err.ensures.value c.put.ensures c.in-Ok.ensures.number)
          false (sym c.counts_twice.ensures ∙ c.if-counts_twice.false) (zero_more st.ranged),
      tt,
    )
