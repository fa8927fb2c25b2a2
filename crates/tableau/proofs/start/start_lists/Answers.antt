use Rattle.std.proofs.Common.{◌≡◌, ◌+◌, arith, ap, ◌∙◌, ◌++◌, length, map, replicate}
use Rattle.std.proofs.lemmas.List.{length-replicate}
use Rattle.tableau.specs.declared.status.BasisStatus.TheVariants.{Basic}
use Rattle.tableau.specs.Elimination.{zero_ℚ}
use Rattle.tableau.specs.Start.{start_status, start_values, padded}
use Rattle.tableau.proofs.start.start_lists.Goals as goal

pub column_values-requires : goal.column_values-requires
column_values-requires c = omega (arith, ap length (c.deref-2.ensures.value ∙ c.in_ok-dense.ensures), c.requires)

pub returns : goal.returns
returns c =
    let costs = c.args.costs.now in
    let rows = c.args.rows in
    let dense : c.deref.result.now ≡ costs = c.deref.ensures.value ∙ c.in_ok-dense.ensures in
    let dense_too : c.deref-2.result.now ≡ costs = c.deref-2.ensures.value ∙ c.in_ok-dense.ensures in
    let count : length c.in_ok-statuses.statuses.items ≡ length costs + rows = c.in_ok-statuses.ensures.count ∙ ap (λ ds. length ds + rows) dense in
    let len : c.len.result ≡ length costs + rows = omega (arith, c.len.ensures, c.in_ok-statuses.statuses.ok, count) in
    let values : c.in_ok-values.values.items ≡ replicate (length costs + rows) zero_ℚ = c.in_ok-values.ensures.items_if_clones_equal (λ y e. e) ∙ (λ j. replicate (len j) (c.of.ensures j)) in
    record {
      statuses = c.in_ok-statuses.ensures.value ∙ ap (λ ds. map start_status ds ++ replicate rows Basic) dense;
      nonbasic_values = c.in_ok-pad.ensures.value ∙ ap (padded rows) (c.in_ok-nonbasic_values.ensures.value ∙ ap (λ ds. start_values ds c.args.bounds.now) dense_too);
      values = values;
      count = (count, c.in_ok-pad.ensures.count ∙ ap (λ n. n + rows) (c.in_ok-nonbasic_values.ensures.count ∙ ap length dense_too), ap length values ∙ length-replicate (length costs + rows) zero_ℚ);
    }
