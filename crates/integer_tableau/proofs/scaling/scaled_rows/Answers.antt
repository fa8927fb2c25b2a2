use Rattle.std.proofs.Common.{◌≡◌, ◌<◌, ◌+◌, ◌++◌, ◌∷◌, [], get_or, length, map, arith, ap, subst, ◌∙◌}
use Rattle.std.proofs.lemmas.List.{get_or_default, length_push}
use Rattle.fraction.specs.Rational.{whole}
use Rattle.integer_tableau.specs.Scales.{scaled_by}
use Rattle.integer_tableau.proofs.Lists.{each_pushed}
use Rattle.integer_tableau.proofs.scaling.scaled_rows.Goals as goal

pub scaled_row-requires-clause-positive : goal.scaled_row-requires-clause-positive
scaled_row-requires-clause-positive c =
    let l : c.loop-i.i < length c.args.scales.now = omega (arith, c.loop-i-test.true, c.rows-i-end.ensures, c.requires.there) in
    subst (λ n. 0 < n) (get_or_default c.args.scales.now c.loop-i.i 1 0 l) (c.requires.positive c.loop-i.i l)

pub loop-i-preserved : goal.loop-i-preserved
loop-i-preserved c =
    let scales = c.args.scales.now in
    let p = c.args.program.now in
    let i = c.loop-i.i in
    let xs = c.loop-i.rows.items in
    let new = c.push.new.self.items in
    let x = c.in-Some.row in
    let e : new ≡ xs ++ x ∷ [] = c.in_ok-push-in-Some.ensures.items in
    let h = c.loop-i.invariant in
    let l : i < length scales = omega (arith, c.loop-i-test.true, c.rows-i-end.ensures, c.requires.there) in
    let value : map (λ z. scaled_by 1 (get_or scales i 0) (whole z)) x ≡ get_or p.rows i [] = rw c.in-Some.is at c.in_ok-row.ensures.value in
    let width : length x ≡ length p.costs = rw c.in-Some.is at c.in_ok-row.ensures.width in
    let scale = get_or_default scales i 1 0 l in
    record {
      count = ap length e ∙ length_push xs x ∙ ap (λ n. n + 1) h.count;
      value = each_pushed (λ k row. map (λ z. scaled_by 1 (get_or scales k 1) (whole z)) row ≡ get_or p.rows k []) [] xs new x i e h.count h.value (ap (λ s. map (λ z. scaled_by 1 s (whole z)) x) scale ∙ value);
      width = each_pushed (λ k row. length row ≡ length p.costs) [] xs new x i e h.count h.width width;
    }
