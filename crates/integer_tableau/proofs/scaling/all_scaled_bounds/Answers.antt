use Rattle.std.proofs.Common.{◌≡◌, ◌+◌, ◌++◌, ◌∷◌, [], None, ap, sym, ◌∙◌, get_or, length}
use Rattle.std.proofs.lemmas.List.{get_or_default, length_push}
use Rattle.tableau.specs.Leaving.{unbounded}
use Rattle.integer_tableau.specs.IntegerTableau.{fraction_bounds}
use Rattle.integer_tableau.specs.Scales.{bounds_over, scale_at}
use Rattle.integer_tableau.proofs.Lists.{each_pushed}
use Rattle.integer_tableau.proofs.scaling.all_scaled_bounds.Goals as goal

pub loop-i-preserved : goal.loop-i-preserved
loop-i-preserved c =
    let all = c.args.all.now in
    let columns = c.args.columns in
    let scales = c.args.scales.now in
    let i = c.loop-i.i in
    let xs = c.loop-i.integers.items in
    let new = c.push.new.self.items in
    let x = c.in-Some.bounds in
    let e : new ≡ xs ++ x ∷ [] = c.in_ok-push-in-Some.ensures.items in
    let h = c.loop-i.invariant in
    let value : bounds_over (scale_at columns scales i) (fraction_bounds x) ≡ get_or all i unbounded =
    ap (λ s. bounds_over s (fraction_bounds x)) (sym c.scale_of.ensures) ∙ c.in-Some.ensures ∙ c.index-all-i.is ∙ get_or_default all i c.index-all-i.result unbounded c.loop-i-test.true in
    record {
      count = ap length e ∙ length_push xs x ∙ ap (λ n. n + 1) h.count;
      value = each_pushed (λ k b. bounds_over (scale_at columns scales k) (fraction_bounds b) ≡ get_or all k unbounded) (record { lower = None; upper = None }) xs new x i e h.count h.value value;
    }
