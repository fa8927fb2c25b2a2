use Rattle.std.proofs.Common.{◌≡◌, ◌∙◌, sym, ap, subst, ◌<◌, ◌+◌, ◌++◌, ◌∷◌, [], drop, length, ℕ, true, false, Vec, Global, arith}
use Rattle.std.specs.Prelude.{All, nat_eq}
use Rattle.std.specs.Bool.{one_answer}
use Rattle.std.proofs.lemmas.Bool.Decides.{Decides-eqb}
use Rattle.expand.specs.Columns.{fractional_from}
use Rattle.expand.proofs.Fractional.{listed_within, column_added, column_passed, columns_done}
use Rattle.expand.proofs.columns.fractional_columns.Goals as goal
use Rattle.expand.proofs.columns.fractional_columns.Goals.{then-not-is_whole+in_ok-push, else-not-is_whole}

pub loop-column-preserved : goal.loop-column-preserved
loop-column-preserved c =
    let x = c.args.point.now in
    let j = c.loop-column.column in
    let tested : c.is_whole.result ≡ nat_eq c.get.result.den 1 = one_answer c.is_whole.result (nat_eq c.get.result.den 1) c.is_whole.ensures (Decides-eqb c.get.result.den 1) in
    elim c.if-not-is_whole.branch [
      | then-not-is_whole+in_ok-push w ↦
          (let items : c.if-not-is_whole.columns.items ≡ c.loop-column.columns.items ++ j ∷ [] = ap (λ (v : Vec ℕ Global). v.items) w.columns-is ∙ w.in_ok-push.ensures.items in
          let test : nat_eq c.get.result.den 1 ≡ false = let t = w.if-not-is_whole.true in cc in
          ap (λ js. js ++ fractional_from (j + 1) (drop (j + 1) x)) items ∙ column_added c.loop-column.columns.items x j c.get.result c.get.ensures test c.loop-column.invariant)
      | else-not-is_whole w ↦
          (let items : c.if-not-is_whole.columns.items ≡ c.loop-column.columns.items = ap (λ (v : Vec ℕ Global). v.items) w.columns-is in
          let test : nat_eq c.get.result.den 1 ≡ true = let t = w.if-not-is_whole.false in cc in
          ap (λ js. js ++ fractional_from (j + 1) (drop (j + 1) x)) items ∙ column_passed c.loop-column.columns.items x j c.get.result c.get.ensures test c.loop-column.invariant)
    ]

pub returns-clause-columns : goal.returns-clause-columns
returns-clause-columns c = columns_done c.loop-column.columns.items c.args.point.now c.loop-column.column (omega arith) c.loop-column.invariant

pub returns-clause-there : goal.returns-clause-there
returns-clause-there c = subst (All (λ j. j < length c.args.point.now)) (sym (returns-clause-columns c)) (listed_within c.args.point.now)
