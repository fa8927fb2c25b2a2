use Rattle.std.proofs.Common.{◌≡◌, ◌<◌, ◌+◌, ◌*◌, ◌+ℤ◌, ◌-ℤ◌, ◌*ℤ◌, ℕ, ℤ, length, get_or, arith, rules, pos, ap, sym, ◌∙◌, w64, to_z, of_z}
use Rattle.std.specs.Int.{w128}
use mir.Val.{SFits}
use Rattle.std.proofs.lemmas.Int.{to_z-of_z}
use Rattle.std.proofs.lemmas.Nat.{mul-add-lt}
use Rattle.integer_tableau.proofs.ListedRows.{still_unlisted, unlisted_more}
use Rattle.integer_tableau.proofs.Turns.{flat_number, placed_more}
use Rattle.integer_tableau.specs.Arena.{flat_row}
use Rattle.integer_tableau.specs.Numbers.{number_at}
use Rattle.integer_tableau.proofs.turn_values.step_basic_values.Goals as goal

pub overflow_mul-index : goal.overflow_mul-index
overflow_mul-index c =
    let l = mul-add-lt c.loop-index.index c.args.width c.args.column (length c.args.basic_columns.now) c.loop-index-test.true c.requires.column in
    record { fits = omega (arith, l, c.requires.rows_there) }

pub overflow_add-index : goal.overflow_add-index
overflow_add-index c =
    let l = mul-add-lt c.loop-index.index c.args.width c.args.column (length c.args.basic_columns.now) c.loop-index-test.true c.requires.column in
    record { fits = omega (arith, l, c.requires.rows_there) }

pub bounds-rows-index : goal.bounds-rows-index
bounds-rows-index c =
    let l = mul-add-lt c.loop-index.index c.args.width c.args.column (length c.args.basic_columns.now) c.loop-index-test.true c.requires.column in
    omega (arith, l, c.requires.rows_there)

pub bounds-values-v : goal.bounds-values-v
bounds-values-v c = omega (arith, c.requires.there c.loop-index.index c.loop-index-test.true, c.loop-index.auto.values)

pub loop-index-preserved : goal.loop-index-preserved
loop-index-preserved c =
    let a = c.args in
    let js = a.basic_columns.now in
    let i = c.loop-index.index in
    let j = get_or js i 0 in
    let d = a.divisor.number in
    let x = to_z w64 (of_z w64 a.left) in
    let e = to_z w64 (of_z w64 a.size) in
    let y = to_z w128 (of_z w128 a.entering) in
    let l : i < length js = c.loop-index-test.true in
    let there : j < length c.loop-index.values = omega (arith, c.requires.there i l, c.loop-index.auto.values) in
    let f : SFits w64 (get_or c.loop-index.values j (pos 0)) = search rules in
    let g : SFits w64 c.in-Some.after = search rules in
    let h : SFits w64 (number_at a.rows.now (i * a.width + a.column)) = search rules in
    let value = to_z-of_z w64 (get_or c.loop-index.values j (pos 0)) f ∙ still_unlisted (pos 0) js a.values.now c.loop-index.values i c.requires.rise l c.loop-index.invariant.left in
    let factor = to_z-of_z w64 (number_at a.rows.now (i * a.width + a.column)) h ∙ sym (flat_number a.width a.rows.now i a.column c.requires.column) in
    let R : ℕ → ℤ → ℤ → Type 0 = λ p old new. new *ℤ d ≡ (old -ℤ number_at (flat_row a.width a.rows.now p) a.column *ℤ x) *ℤ e +ℤ y *ℤ number_at (flat_row a.width a.rows.now p) a.column in
    record {
      done = placed_more R (pos 0) js a.values.now c.loop-index.values i (to_z w64 (of_z w64 c.in-Some.after)) c.requires.rise l there c.loop-index.invariant.done
          (ap (λ z. z *ℤ d) (to_z-of_z w64 c.in-Some.after g) ∙ c.in-Some.ensures ∙ (λ t. (value t -ℤ factor t *ℤ x) *ℤ e +ℤ y *ℤ factor t));
      left = unlisted_more (pos 0) js a.values.now c.loop-index.values i (to_z w64 (of_z w64 c.in-Some.after)) c.loop-index.invariant.left;
    }

pub returns : goal.returns
returns c =
    let a = c.args in
    let x = to_z-of_z w64 a.left c.ranges.left in
    let e = to_z-of_z w64 a.size c.ranges.size in
    let y = to_z-of_z w128 a.entering c.ranges.entering in
    record {
      basic = λ _ p l.
          let t = number_at (flat_row a.width a.rows.now p) a.column in
          c.loop-index.invariant.done p (omega (arith, l, c.loop-index-test.false))
          ∙ (λ k. (number_at a.values.now (get_or a.basic_columns.now p 0) -ℤ t *ℤ x k) *ℤ e k +ℤ y k *ℤ t);
    }
