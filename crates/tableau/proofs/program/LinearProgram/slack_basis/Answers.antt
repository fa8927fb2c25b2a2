use Rattle.std.proofs.Common.{◌≡◌, ℕ, ◌+◌, ◌*◌, ◌^◌, ◌<◌, ◌≤◌, arith, ap, ◌∙◌, List, [], ◌++◌, length, map, replicate}
use Rattle.std.proofs.lemmas.List.{length-append, length-replicate}
use Rattle.fraction.specs.Rational.{ℚ}
use Rattle.tableau.specs.declared.bounds.Bounds.{Bounds}
use Rattle.tableau.specs.declared.status.BasisStatus.{BasisStatus}
use Rattle.tableau.specs.declared.status.BasisStatus.TheVariants.{Basic}
use Rattle.tableau.specs.Elimination.{zero_ℚ}
use Rattle.tableau.specs.LinearProgram.{LinearProgram}
use Rattle.tableau.specs.Start.{start_status, start_values, padded, slack_basis}
use Rattle.tableau.specs.Tableau.{Tableau}
use Rattle.tableau.proofs.program.LinearProgram.slack_basis.Goals as goal

-- the sizes of what it is made of, for n columns and m rows
sizes : (n m w k b s v x r d : ℕ) → b ≡ n + m → m + 2 * n < 2 ^ 32 → w ≡ n → k ≡ m → (s ≡ n + k) × (v ≡ n + k) × (x ≡ n + k) → r ≡ w + m → d ≡ n + k
    → (w ≤ s) × (b ≡ s) × (v ≡ s) × (r ≡ s) × (d ≡ s) × (x ≡ s) × (s < 2 ^ 32)
sizes n m w k b s v x r d bounds few columns count lists rows costs =
    (omega arith, omega arith, omega arith, omega arith, omega arith, omega arith, omega arith)

-- what is made of these parts
made : (p : LinearProgram) (w k : ℕ) (bs : List Bounds) (ss : List BasisStatus) (vs xs : List ℚ) (rs : List (List ℚ)) (ds : List ℚ)
    → w ≡ length p.costs → k ≡ length p.rows → bs ≡ p.bounds
    → ss ≡ map start_status p.costs ++ replicate k Basic → vs ≡ padded k (start_values p.costs bs) → xs ≡ replicate (length p.costs + k) zero_ℚ
    → rs ≡ replicate w [] ++ map (padded (length p.rows)) p.rows → ds ≡ padded k p.costs
    → let t : Tableau = record { columns = w; numbers = p.numbers; bounds = p.bounds; statuses = ss; nonbasic_values = vs; rows = rs; reduced_costs = ds; values = xs; pivots = 0 } in t ≡ slack_basis p
made p w k bs ss vs xs rs ds columns count bounds statuses nonbasic_values values rows costs = λ j. record {
  columns = columns j;
  numbers = p.numbers;
  bounds = p.bounds;
  statuses = (statuses ∙ ap (λ m. map start_status p.costs ++ replicate m Basic) count) j;
  nonbasic_values = (nonbasic_values ∙ (λ j. padded (count j) (start_values p.costs (bounds j)))) j;
  rows = (rows ∙ ap (λ n. replicate n [] ++ map (padded (length p.rows)) p.rows) columns) j;
  reduced_costs = (costs ∙ ap (λ m. padded m p.costs) count) j;
  values = (values ∙ ap (λ m. replicate (length p.costs + m) zero_ℚ) count) j;
  pivots = 0;
}

pub start_lists-requires : goal.start_lists-requires
start_lists-requires c = omega (arith, c.deref.ensures.len, c.self.invariant.0)

pub start_rows-requires : goal.start_rows-requires
start_rows-requires c = λ k d l. omega (arith, c.self.invariant.2 k d l, c.self.invariant.3)

pub pad-requires : goal.pad-requires
pad-requires c = omega (arith, c.self.invariant.3, c.len-count.ensures, c.self.inside.rows.ok)

pub invariant_of-result : goal.invariant_of-result
invariant_of-result c =
    let costs = c.self.inside.costs in
    let count : c.len-count.result ≡ length c.self.inside.rows.items = omega (arith, c.len-count.ensures, c.self.inside.rows.ok) in
    let padded_costs : length c.pad.new.self ≡ length costs + c.len-count.result =
    ap length c.pad.ensures ∙ length-append costs (replicate c.len-count.result zero_ℚ) ∙ ap (λ m. length costs + m) (length-replicate c.len-count.result zero_ℚ) in
    sizes (length costs) (length c.self.inside.rows.items) c.width-columns.result c.len-count.result (length c.self.inside.bounds.items) _ _ _ (length c.in_ok-rows.rows.items) (length c.pad.new.self)
    c.self.invariant.0 c.self.invariant.3 c.width-columns.ensures count c.in_ok-statuses.ensures.count c.in_ok-rows.ensures.count padded_costs

pub returns : goal.returns
returns c =
    let count : c.len-count.result ≡ length c.self.inside.rows.items = omega (arith, c.len-count.ensures, c.self.inside.rows.ok) in
    made (record { rows = c.self.inside.rows.items; costs = c.self.inside.costs; bounds = c.self.inside.bounds.items; numbers = c.self.inside.numbers.items }) c.width-columns.result c.len-count.result c.deref.result.now _ _ _ _ _
    c.width-columns.ensures count c.deref.ensures.value
    c.in_ok-statuses.ensures.statuses c.in_ok-statuses.ensures.nonbasic_values c.in_ok-statuses.ensures.values c.in_ok-rows.ensures.value c.pad.ensures
    ∙ ap slack_basis c.self.view_is
