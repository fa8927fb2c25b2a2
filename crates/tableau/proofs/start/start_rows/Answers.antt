use Rattle.std.proofs.Common.{◌≡◌, ◌+◌, ◌<◌, ◌^◌, arith, ap, ◌∙◌, sym, subst, List, [], ◌++◌, length, map, replicate, take, drop}
use Rattle.std.specs.Prelude.{All}
use Rattle.std.proofs.lemmas.List.{length-append, length-replicate, length-map, take-append-le, take_all}
use Rattle.fraction.specs.Rational.{ℚ}
use Rattle.tableau.specs.Start.{padded}
use Rattle.tableau.proofs.start.start_rows.Goals as goal

pub pad_rows-requires : goal.pad_rows-requires
pad_rows-requires c =
    let zeros : c.len-zeros.result ≡ length c.args.rows.now.items = omega (arith, c.len-zeros.ensures, c.args.rows.now.ok) in
    subst (All (λ (r : List ℚ). length r + c.len-zeros.result < 2 ^ 64)) (sym c.deref_mut.ensures.value) (λ k d l. omega (arith, c.requires k d l, zeros))

pub returns : goal.returns
returns c =
    let rows = c.args.rows.now.items in
    let n = c.args.rows.now.len in
    let padded_rows = c.pad_rows.new.rows in
    let zeros : c.len-zeros.result ≡ length rows = omega (arith, c.len-zeros.ensures, c.args.rows.now.ok) in
    let is_padded : padded_rows ≡ map (padded (length rows)) rows = c.pad_rows.ensures ∙ (λ j. map (padded (zeros j)) (c.deref_mut.ensures.value j)) in
    let size : length padded_rows ≡ n = ap length is_padded ∙ length-map rows (padded (length rows)) ∙ sym c.args.rows.now.ok.0 in
    let others : take n (padded_rows ++ drop (length padded_rows) rows) ≡ map (padded (length rows)) rows =
    take-append-le n padded_rows _ (omega (arith, size)) ∙ take_all n padded_rows (omega (arith, size)) ∙ is_padded in
    let value : c.append.new.self.items ≡ replicate c.args.columns [] ++ map (padded (length rows)) rows = c.in_ok-append.ensures.items ∙ (λ j. c.in_ok-all_rows.ensures j ++ others j) in
    record {
      value = value;
      count = ap length value ∙ length-append (replicate {A = List ℚ} c.args.columns []) (map (padded (length rows)) rows) ∙ (λ j. length-replicate {A = List ℚ} c.args.columns [] j + length-map rows (padded (length rows)) j);
    }
