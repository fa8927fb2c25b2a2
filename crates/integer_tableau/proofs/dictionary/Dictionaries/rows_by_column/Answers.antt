use Rattle.std.proofs.Common.{◌≡◌, ◌<◌, ◌+◌, ◌*◌, ◌∙◌, sym, ap, subst, arith, length, get_or, set, take, replicate, ℕ, List, []}
use Rattle.std.specs.Prelude.{ℤ, slice_range}
use Rattle.std.proofs.lemmas.List.{take_all}
use Rattle.integer_tableau.proofs.Arenas.{looked_up_next, no_rows}
use Rattle.integer_tableau.specs.Arena.{flat_row_if_there, rows_by}
use Rattle.integer_tableau.specs.Exits.{IsOnceEach}
use Rattle.integer_tableau.specs.Kept.{KeptDictionaries}
use Rattle.integer_tableau.proofs.dictionary.Dictionaries.rows_by_column.Goals as goal

pub loop-index-init : goal.loop-index-init
loop-index-init c = c.in_ok-rows.ensures ∙ ap (λ (k : KeptDictionaries). replicate k.width []) c.self.view_is ∙ sym (no_rows c.args.self.now.width c.rows-numerators.result.now)

next : (inside width : ℕ) (numerators row new : List ℤ) (columns own : List ℕ) (rows : List (List ℤ)) (k : ℕ) → inside ≡ width → new ≡ row → row ≡ slice_range numerators (k * inside) (k * inside + inside)
    → columns ≡ own → IsOnceEach own → ((p : ℕ) → p < length own → get_or own p 0 < width) → k < length columns → rows ≡ rows_by width (take k columns) numerators
    → set rows (get_or columns k 0) new ≡ rows_by width (take (k + 1) columns) numerators
next inside width numerators row new columns own rows k e made copied same once within l now =
    ap (set rows (get_or columns k 0)) (made ∙ copied ∙ (λ i. slice_range numerators (k * e i) (k * e i + e i)))
    ∙ looked_up_next (flat_row_if_there width numerators) width columns rows k (subst IsOnceEach (sym same) once) l here now
  where
    here : get_or columns k 0 < width
    here = omega (arith, ap (λ vs. get_or vs k 0) same, within k (omega (arith, l, ap length same)))

pub loop-index-preserved : goal.loop-index-preserved
loop-index-preserved c =
    next c.self.inside.width c.args.self.now.width c.rows-numerators.result.now c.in_ok-row.row.items c.make.result c.basic_columns-column-items.result.now _ c.loop-index.rows.items c.loop-index.index
    (ap (λ (k : KeptDictionaries). k.width) c.self.view_is) c.make.ensures c.in_ok-row.ensures.items c.basic_columns-column-items.ensures c.requires.once c.requires.columns c.loop-index-test.true c.loop-index.invariant

pub returns : goal.returns
returns c =
    c.loop-index.invariant
    ∙ ap (λ columns. rows_by c.args.self.now.width columns c.rows-numerators.result.now) (take_all c.loop-index.index c.basic_columns-column-items.result.now c.loop-index-test.false ∙ c.basic_columns-column-items.ensures)
    ∙ sym c.rows-numerators.ensures.rows
