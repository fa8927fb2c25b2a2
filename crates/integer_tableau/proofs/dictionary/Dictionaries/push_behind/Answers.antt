use Rattle.std.proofs.Common.{◌≡◌, ◌≢◌, ◌+◌, ◌-◌, ◌*◌, ◌++◌, ◌<◌, ◌<ℤ◌, ◌≤◌, ◌∷◌, ◌∙◌, [], refl, nat_abs, pos, sym, ap, subst, arith, ℕ, Option, None, Some, List, length, get_or, set, map, w64, to_z, of_z}
use Rattle.std.specs.Prelude.{ℤ, slice_range, All, IfNone}
use Rattle.std.proofs.lemmas.Int.{to_z-of_z}
use Rattle.std.proofs.lemmas.List.{length-map, length-set}
use Rattle.integer_tableau.proofs.Behind.{IsBefore, IsPushed, all_in_lists, all_kept, before_of, behind, costs_small, grows_none, kept_pushed, lists_pushed, of_pieces, own_in_lists, own_is, rows_small, solved_long, turn_column, turn_known, turn_listed, turn_rises}
use Rattle.integer_tableau.proofs.Arenas.{piece_many}
use Rattle.integer_tableau.proofs.WaysOut.{extended, none_then, stays, stays_grown}
use Rattle.integer_tableau.specs.Arena.{AreMadeRows, row_by}
use Rattle.integer_tableau.specs.BasicColumns.{basic_exchanged, count_below}
use Rattle.integer_tableau.specs.Kept.{IsDictionaryBehind, IsInLists, IsKept, KeptDictionaries, KeptDictionary, costs_of, kept_at, kept_in, rows_of}
use Rattle.integer_tableau.specs.Numbers.{IsWithin}
use Rattle.integer_tableau.specs.Range.{size_limit}
use Rattle.integer_tableau.specs.Substitution.{IsSubstitutedRow}
use Rattle.integer_tableau.specs.declared.dictionary.Dictionaries.TheInside.{Inside}
use Rattle.integer_tableau.specs.declared.dictionary.Dictionary.{Dictionary}
use Rattle.integer_tableau.specs.declared.position.Position.TheVariants.{InBasis, InColumn}
use Rattle.integer_tableau.specs.declared.request.Turn.{Turn}
use Rattle.integer_tableau.proofs.dictionary.Dictionaries.push_behind.Goals as goal
use Rattle.integer_tableau.proofs.dictionary.Dictionaries.push_behind.Goals.{In_ok-ok-2}

if_none : {A : Type 0} (o : Option A) (P : Type 0) → P → IfNone o P
if_none None P p = p
if_none (Some x) P p = tt

-- the dictionary that is turned, in the lists
record IsTurnIn (d : Inside) (own : Dictionary) (w : Turn) (solved : List ℤ) : Type 0 where
  before : IsBefore d.variables d.width d.numerators.items d.basic_columns.items d.nonbasic.items own w solved
  there : IsInLists d.width d.numerators.items d.basic_columns.items d.nonbasic.items own

turn_in : (d : Inside) (k : KeptDictionaries) → map (kept_in d.variables d.width d.numerators.items d.basic_columns.items d.nonbasic.items) d.all.items ≡ k.all → (place : ℕ) → place < length k.all
    → (own : Dictionary) → own ≡ get_or d.all.items place own → (w : Turn) (solved : List ℤ) → All (IsInLists d.width d.numerators.items d.basic_columns.items d.nonbasic.items) d.all.items
    → ((ps : List (List ℤ)) × (weight : ℕ) × (costs : List ℤ) × IsKept ps weight costs (kept_at k.all place)) → w.leaving < length (kept_at k.all place).positions → w.entering < length (kept_at k.all place).positions
    → get_or (kept_at k.all place).positions w.leaving InBasis ≡ InBasis → get_or (kept_at k.all place).positions w.entering InBasis ≡ InColumn w.column → length solved ≡ length (kept_at k.all place).rows
    → IsTurnIn d own w solved
turn_in d k e place there own at w solved inv kept l m at_r at_c same = record {
  before = before_of d.variables d.width d.numerators.items d.basic_columns.items d.nonbasic.items own w solved (kept_at k.all place)
      (own_is d.variables d.width d.numerators.items d.basic_columns.items d.nonbasic.items d.all.items k.all e place there own at) kept l m at_r at_c same;
  there = own_in_lists d.variables d.width d.numerators.items d.basic_columns.items d.nonbasic.items d.all.items k.all e place there own at inv;
}

pub overflow_add-old_columns : goal.overflow_add-old_columns
overflow_add-old_columns c =
    let d = c.self.inside in
    let there = own_in_lists d.variables d.width d.numerators.items d.basic_columns.items d.nonbasic.items d.all.items c.args.self.now.all (ap (λ (k : KeptDictionaries). k.all) c.self.view_is) c.args.place c.requires.there c.index-own.result.now c.index-own.ensures c.self.invariant in
    let ends : c.index-own.result.now.basic_columns + c.index-own.result.now.count ≤ length c.deref.result.now = omega (arith, there.basic_there, ap length c.deref.ensures.value) in
    omega (arith, ends, c.deref.type_inv.0)

pub offset_bounds-deref-own : goal.offset_bounds-deref-own
offset_bounds-deref-own c =
    let d = c.self.inside in
    let there = own_in_lists d.variables d.width d.numerators.items d.basic_columns.items d.nonbasic.items d.all.items c.args.self.now.all (ap (λ (k : KeptDictionaries). k.all) c.self.view_is) c.args.place c.requires.there c.index-own.result.now c.index-own.ensures c.self.invariant in
    let ends : c.index-own.result.now.basic_columns + c.index-own.result.now.count ≤ length c.deref.result.now = omega (arith, there.basic_there, ap length c.deref.ensures.value) in
    omega (arith, ends, c.deref.type_inv.1)

pub slice_bounds-old_columns-end : goal.slice_bounds-old_columns-end
slice_bounds-old_columns-end c =
    let d = c.self.inside in
    let there = own_in_lists d.variables d.width d.numerators.items d.basic_columns.items d.nonbasic.items d.all.items c.args.self.now.all (ap (λ (k : KeptDictionaries). k.all) c.self.view_is) c.args.place c.requires.there c.index-own.result.now c.index-own.ensures c.self.invariant in
    let ends : c.index-own.result.now.basic_columns + c.index-own.result.now.count ≤ length c.deref.result.now = omega (arith, there.basic_there, ap length c.deref.ensures.value) in
    ends

pub put_columns-requires : goal.put_columns-requires
put_columns-requires c =
    let a = c.args in
    let d = c.self.inside in
    let own = c.index-own.result.now in
    let r = c.requires in
    let t = turn_in d a.self.now (ap (λ (k : KeptDictionaries). k.all) c.self.view_is) a.place r.there own c.index-own.ensures a.turn a.solved.now c.self.invariant r.kept r.leaving_there r.entering_there r.leaving r.entering r.width in
    subst (λ bs. a.turn.leaving < d.width → count_below a.turn.leaving (slice_range bs own.basic_columns (own.basic_columns + own.count)) < length (slice_range bs own.basic_columns (own.basic_columns + own.count))) (sym c.deref.ensures.value) (turn_listed d.variables d.width d.numerators.items d.basic_columns.items d.nonbasic.items own a.turn a.solved.now t.before t.there)

pub push_numerators-requires-clause-there : goal.push_numerators-requires-clause-there
push_numerators-requires-clause-there c =
    let a = c.args in
    let d = c.self.inside in
    let own = c.index-own.result.now in
    let r = c.requires in
    let t = turn_in d a.self.now (ap (λ (k : KeptDictionaries). k.all) c.self.view_is) a.place r.there own c.index-own.ensures a.turn a.solved.now c.self.invariant r.kept r.leaving_there r.entering_there r.leaving r.entering r.width in
    subst (λ n. own.numerators + own.count * n + n ≤ length d.numerators.items) (sym (solved_long d.variables d.width d.numerators.items d.basic_columns.items d.nonbasic.items own a.turn a.solved.now t.before t.there)) t.there.numerators_there

pub push_numerators-requires-clause-rise : goal.push_numerators-requires-clause-rise
push_numerators-requires-clause-rise c =
    let a = c.args in
    let d = c.self.inside in
    let own = c.index-own.result.now in
    let r = c.requires in
    let t = turn_in d a.self.now (ap (λ (k : KeptDictionaries). k.all) c.self.view_is) a.place r.there own c.index-own.ensures a.turn a.solved.now c.self.invariant r.kept r.leaving_there r.entering_there r.leaving r.entering r.width in
    subst (λ bs. (p q : ℕ) → p < q → q < length (slice_range bs own.basic_columns (own.basic_columns + own.count)) → get_or (slice_range bs own.basic_columns (own.basic_columns + own.count)) p 0 < get_or (slice_range bs own.basic_columns (own.basic_columns + own.count)) q 0) (sym c.deref.ensures.value) (turn_rises d.variables d.width d.numerators.items d.basic_columns.items d.nonbasic.items own a.turn a.solved.now t.before t.there)

pub push_numerators-requires-clause-known : goal.push_numerators-requires-clause-known
push_numerators-requires-clause-known c =
    let a = c.args in
    let d = c.self.inside in
    let own = c.index-own.result.now in
    let r = c.requires in
    let t = turn_in d a.self.now (ap (λ (k : KeptDictionaries). k.all) c.self.view_is) a.place r.there own c.index-own.ensures a.turn a.solved.now c.self.invariant r.kept r.leaving_there r.entering_there r.leaving r.entering r.width in
    let exchanged : c.deref-2.result.now ≡ basic_exchanged d.width a.turn.leaving a.turn.entering (slice_range d.basic_columns.items own.basic_columns (own.basic_columns + own.count)) =
    c.deref-2.ensures.value ∙ c.if-not-put_columns.ensures refl ∙ ap (λ bs. basic_exchanged d.width a.turn.leaving a.turn.entering (slice_range bs own.basic_columns (own.basic_columns + own.count))) c.deref.ensures.value in
    subst (λ bs. (p : ℕ) → p < length c.deref-2.result.now → get_or c.deref-2.result.now p 0 ≢ a.turn.entering → (q : ℕ) × (q < length (slice_range bs own.basic_columns (own.basic_columns + own.count))) × (get_or (slice_range bs own.basic_columns (own.basic_columns + own.count)) q 0 ≡ get_or c.deref-2.result.now p 0)) (sym c.deref.ensures.value)
    (turn_known d.variables d.width d.numerators.items d.basic_columns.items d.nonbasic.items own a.turn a.solved.now t.before t.there c.deref-2.result.now exchanged)

pub push_numerators-requires-clause-column : goal.push_numerators-requires-clause-column
push_numerators-requires-clause-column c =
    let a = c.args in
    let d = c.self.inside in
    let own = c.index-own.result.now in
    let r = c.requires in
    let t = turn_in d a.self.now (ap (λ (k : KeptDictionaries). k.all) c.self.view_is) a.place r.there own c.index-own.ensures a.turn a.solved.now c.self.invariant r.kept r.leaving_there r.entering_there r.leaving r.entering r.width in
    subst (λ n. a.turn.column < n) (sym (solved_long d.variables d.width d.numerators.items d.basic_columns.items d.nonbasic.items own a.turn a.solved.now t.before t.there)) (turn_column d.variables d.width d.numerators.items d.basic_columns.items d.nonbasic.items own a.turn a.solved.now t.before t.there)

pub push_numerators-requires-clause-within : goal.push_numerators-requires-clause-within
push_numerators-requires-clause-within c =
    let a = c.args in
    let d = c.self.inside in
    let own = c.index-own.result.now in
    let r = c.requires in
    let t = turn_in d a.self.now (ap (λ (k : KeptDictionaries). k.all) c.self.view_is) a.place r.there own c.index-own.ensures a.turn a.solved.now c.self.invariant r.kept r.leaving_there r.entering_there r.leaving r.entering r.width in
    subst (λ n. IsWithin own.size (slice_range d.numerators.items own.numerators (own.numerators + own.count * n + n))) (sym (solved_long d.variables d.width d.numerators.items d.basic_columns.items d.nonbasic.items own a.turn a.solved.now t.before t.there)) t.there.within

pub push_numerators-requires-clause-rows_small : goal.push_numerators-requires-clause-rows_small
push_numerators-requires-clause-rows_small c =
    let a = c.args in
    let d = c.self.inside in
    let own = c.index-own.result.now in
    let r = c.requires in
    let t = turn_in d a.self.now (ap (λ (k : KeptDictionaries). k.all) c.self.view_is) a.place r.there own c.index-own.ensures a.turn a.solved.now c.self.invariant r.kept r.leaving_there r.entering_there r.leaving r.entering r.width in
    subst (λ n. IsWithin (size_limit - 1) (rows_of n d.numerators.items own)) (sym (solved_long d.variables d.width d.numerators.items d.basic_columns.items d.nonbasic.items own a.turn a.solved.now t.before t.there)) (rows_small d.variables d.width d.numerators.items d.basic_columns.items d.nonbasic.items own a.turn a.solved.now t.before t.there)

pub push_numerators-requires-clause-costs_small : goal.push_numerators-requires-clause-costs_small
push_numerators-requires-clause-costs_small c =
    let a = c.args in
    let d = c.self.inside in
    let own = c.index-own.result.now in
    let r = c.requires in
    let t = turn_in d a.self.now (ap (λ (k : KeptDictionaries). k.all) c.self.view_is) a.place r.there own c.index-own.ensures a.turn a.solved.now c.self.invariant r.kept r.leaving_there r.entering_there r.leaving r.entering r.width in
    subst (λ n. IsWithin (size_limit - 1) (costs_of n d.numerators.items own)) (sym (solved_long d.variables d.width d.numerators.items d.basic_columns.items d.nonbasic.items own a.turn a.solved.now t.before t.there)) (costs_small d.variables d.width d.numerators.items d.basic_columns.items d.nonbasic.items own a.turn a.solved.now t.before t.there)

pub invariant_of-self : goal.invariant_of-self
invariant_of-self c =
    let d = c.self.inside in
    all_in_lists d.variables d.width d.numerators.items c.push_numerators.new.numerators.items d.basic_columns.items d.basic_columns.items d.nonbasic.items d.nonbasic.items c.push_numerators.ensures.more (grows_none d.basic_columns.items) (grows_none d.nonbasic.items) d.all.items c.self.invariant

pub returns-in_err-size-clause-failed : goal.returns-in_err-size-clause-failed
returns-in_err-size-clause-failed c =
    let d = c.self.inside in
    if_none c.from_residual.result _
    (all_kept d.variables d.width d.numerators.items c.push_numerators.new.numerators.items d.basic_columns.items d.basic_columns.items d.nonbasic.items d.nonbasic.items c.push_numerators.ensures.more (grows_none d.basic_columns.items) (grows_none d.nonbasic.items) d.all.items c.self.invariant
    ∙ ap (λ (k : KeptDictionaries). k.all) c.self.view_is)

pub push_nonbasic-requires-clause-there : goal.push_nonbasic-requires-clause-there
push_nonbasic-requires-clause-there c =
    let a = c.args in
    let d = c.self.inside in
    let own = c.index-own.result.now in
    let r = c.requires in
    let t = turn_in d a.self.now (ap (λ (k : KeptDictionaries). k.all) c.self.view_is) a.place r.there own c.index-own.ensures a.turn a.solved.now c.self.invariant r.kept r.leaving_there r.entering_there r.leaving r.entering r.width in
    t.there.nonbasic_there

pub push_nonbasic-requires-clause-column : goal.push_nonbasic-requires-clause-column
push_nonbasic-requires-clause-column c =
    let a = c.args in
    let d = c.self.inside in
    let own = c.index-own.result.now in
    let r = c.requires in
    let t = turn_in d a.self.now (ap (λ (k : KeptDictionaries). k.all) c.self.view_is) a.place r.there own c.index-own.ensures a.turn a.solved.now c.self.invariant r.kept r.leaving_there r.entering_there r.leaving r.entering r.width in
    turn_column d.variables d.width d.numerators.items d.basic_columns.items d.nonbasic.items own a.turn a.solved.now t.before t.there

pub invariant_of-self-in_err-push_nonbasic : goal.invariant_of-self-in_err-push_nonbasic
invariant_of-self-in_err-push_nonbasic c =
    let d = c.self.inside in
    all_in_lists d.variables d.width d.numerators.items c.push_numerators.new.numerators.items d.basic_columns.items d.basic_columns.items d.nonbasic.items c.push_nonbasic.new.nonbasic.items c.push_numerators.ensures.more (grows_none d.basic_columns.items) c.push_nonbasic.ensures.more d.all.items c.self.invariant

pub returns-in_err-push_nonbasic-clause-failed : goal.returns-in_err-push_nonbasic-clause-failed
returns-in_err-push_nonbasic-clause-failed c =
    let d = c.self.inside in
    if_none c.from_residual-in_err-push_nonbasic.result _
    (all_kept d.variables d.width d.numerators.items c.push_numerators.new.numerators.items d.basic_columns.items d.basic_columns.items d.nonbasic.items c.push_nonbasic.new.nonbasic.items c.push_numerators.ensures.more (grows_none d.basic_columns.items) c.push_nonbasic.ensures.more d.all.items c.self.invariant
    ∙ ap (λ (k : KeptDictionaries). k.all) c.self.view_is)

pub invariant_of-self-in_err-ok : goal.invariant_of-self-in_err-ok
invariant_of-self-in_err-ok c =
    let d = c.self.inside in
    all_in_lists d.variables d.width d.numerators.items c.push_numerators.new.numerators.items d.basic_columns.items c.extend_from_slice.new.self.items d.nonbasic.items c.push_nonbasic.new.nonbasic.items c.push_numerators.ensures.more (stays_grown _ c.extend_from_slice.new.self.items c.self.inside.basic_columns.items c.deref-3.result.now c.extend_from_slice.ensures.items c.in_err-ok.ensures.variant) c.push_nonbasic.ensures.more d.all.items c.self.invariant

pub returns-in_err-ok-clause-failed : goal.returns-in_err-ok-clause-failed
returns-in_err-ok-clause-failed c =
    let d = c.self.inside in
    if_none c.from_residual-in_err-ok.result _
    (all_kept d.variables d.width d.numerators.items c.push_numerators.new.numerators.items d.basic_columns.items c.extend_from_slice.new.self.items d.nonbasic.items c.push_nonbasic.new.nonbasic.items c.push_numerators.ensures.more (stays_grown _ c.extend_from_slice.new.self.items c.self.inside.basic_columns.items c.deref-3.result.now c.extend_from_slice.ensures.items c.in_err-ok.ensures.variant) c.push_nonbasic.ensures.more d.all.items c.self.invariant
    ∙ ap (λ (k : KeptDictionaries). k.all) c.self.view_is)

pub invariant_of-self-in_err-ok-2 : goal.invariant_of-self-in_err-ok-2
invariant_of-self-in_err-ok-2 c =
    let d = c.self.inside in
    let same = stays _ c.push.new.self.items c.self.inside.all.items _ c.push.ensures.items c.in_err-ok-2.ensures.variant in
    let more = extended _ c.extend_from_slice.new.self.items c.self.inside.basic_columns.items c.deref-3.result.now c.extend_from_slice.ensures.items c.in_ok-ok.ensures.variant in
    subst (All (IsInLists d.width c.push_numerators.new.numerators.items c.extend_from_slice.new.self.items c.push_nonbasic.new.nonbasic.items)) (sym same)
    (all_in_lists d.variables d.width d.numerators.items c.push_numerators.new.numerators.items d.basic_columns.items c.extend_from_slice.new.self.items d.nonbasic.items c.push_nonbasic.new.nonbasic.items c.push_numerators.ensures.more (c.deref-3.result.now, more) c.push_nonbasic.ensures.more d.all.items c.self.invariant)

pub returns-in_err-ok-2-clause-failed : goal.returns-in_err-ok-2-clause-failed
returns-in_err-ok-2-clause-failed c =
    let d = c.self.inside in
    let same = stays _ c.push.new.self.items c.self.inside.all.items _ c.push.ensures.items c.in_err-ok-2.ensures.variant in
    let more = extended _ c.extend_from_slice.new.self.items c.self.inside.basic_columns.items c.deref-3.result.now c.extend_from_slice.ensures.items c.in_ok-ok.ensures.variant in
    if_none c.from_residual-in_err-ok-2.result _
    (ap (map (kept_in d.variables d.width c.push_numerators.new.numerators.items c.extend_from_slice.new.self.items c.push_nonbasic.new.nonbasic.items)) same
    ∙ all_kept d.variables d.width d.numerators.items c.push_numerators.new.numerators.items d.basic_columns.items c.extend_from_slice.new.self.items d.nonbasic.items c.push_nonbasic.new.nonbasic.items c.push_numerators.ensures.more (c.deref-3.result.now, more) c.push_nonbasic.ensures.more d.all.items c.self.invariant ∙ ap (λ (k : KeptDictionaries). k.all) c.self.view_is)

-- where it is put in
module _ (c : In_ok-ok-2) where
  abbrev d : Inside
  d = c.self.inside

  abbrev own : Dictionary
  own = c.index-own.result.now

  abbrev js : List ℕ
  js = c.deref-2.result.now

  abbrev us : List ℕ
  us = set (slice_range c.self.inside.nonbasic.items c.index-own.result.now.nonbasic (c.index-own.result.now.nonbasic + c.self.inside.width)) c.args.turn.column c.args.turn.leaving

  abbrev made : List ℤ
  made = c.in_ok-size.ensures.pushed.0

  abbrev costs : List ℤ
  costs = c.in_ok-size.ensures.pushed.1

  abbrev x : Dictionary
  x = record {
    numerators = c.len-numerators.result;
    nonbasic = c.len-nonbasic.result;
    basic_columns = c.len-basic_columns.result;
    count = c.len.result;
    size = c.in_ok-size.size;
    divisor = c.make.result;
    hash = c.args.hash;
    first_exit = 0;
    exits = 0;
  }

  view_is : map (kept_in d.variables d.width d.numerators.items d.basic_columns.items d.nonbasic.items) d.all.items ≡ c.args.self.now.all
  view_is = ap (λ (k : KeptDictionaries). k.all) c.self.view_is

  turned : IsTurnIn d own c.args.turn c.args.solved.now
  turned =
      let r = c.requires in
      turn_in d c.args.self.now view_is c.args.place r.there own c.index-own.ensures c.args.turn c.args.solved.now c.self.invariant r.kept r.leaving_there r.entering_there r.leaving r.entering r.width

  exchanged : js ≡ basic_exchanged d.width c.args.turn.leaving c.args.turn.entering (slice_range d.basic_columns.items own.basic_columns (own.basic_columns + own.count))
  exchanged = c.deref-2.ensures.value ∙ c.if-not-put_columns.ensures refl
      ∙ ap (λ bs. basic_exchanged d.width c.args.turn.leaving c.args.turn.entering (slice_range bs own.basic_columns (own.basic_columns + own.count))) c.deref.ensures.value

  wide : length c.args.solved.now ≡ d.width
  wide = solved_long d.variables d.width d.numerators.items d.basic_columns.items d.nonbasic.items own c.args.turn c.args.solved.now turned.before turned.there

  size_is : to_z w64 (of_z w64 c.args.pivot_size) ≡ c.args.pivot_size
  size_is = to_z-of_z w64 c.args.pivot_size c.ranges.pivot_size

  rows : AreMadeRows own.divisor.number c.args.pivot_size c.args.turn.column c.args.turn.entering d.width c.args.solved.now
      (row_by d.width (slice_range d.basic_columns.items own.basic_columns (own.basic_columns + own.count)) (rows_of d.width d.numerators.items own)) js made
  rows = subst (λ (T : Type 0). T) (λ i. AreMadeRows own.divisor.number (size_is i) c.args.turn.column c.args.turn.entering (wide i) c.args.solved.now
      (row_by (wide i) (slice_range (c.deref.ensures.value i) own.basic_columns (own.basic_columns + own.count)) (rows_of (wide i) d.numerators.items own)) js made) c.in_ok-size.ensures.pushed.3

  costs_made : IsSubstitutedRow own.divisor.number c.args.pivot_size c.args.turn.column c.args.solved.now (costs_of d.width d.numerators.items own) costs
  costs_made = subst (λ (T : Type 0). T) (λ i. IsSubstitutedRow own.divisor.number (size_is i) c.args.turn.column c.args.solved.now (costs_of (wide i) d.numerators.items own) costs) c.in_ok-size.ensures.pushed.4

  added : c.push.new.self.items ≡ d.all.items ++ x ∷ []
  added = extended _ c.push.new.self.items c.self.inside.all.items (x ∷ []) c.push.ensures.items c.in_ok-ok-2.ensures.variant

  columns_added : c.extend_from_slice.new.self.items ≡ d.basic_columns.items ++ js
  columns_added =
      extended _ c.extend_from_slice.new.self.items c.self.inside.basic_columns.items c.deref-3.result.now c.extend_from_slice.ensures.items c.in_ok-ok.ensures.variant
      ∙ ap (λ (us : List ℕ). c.self.inside.basic_columns.items ++ us) (c.deref-3.ensures.value ∙ sym c.deref-2.ensures.value)

  is_pushed : IsPushed d.width d.numerators.items c.push_numerators.new.numerators.items d.basic_columns.items c.extend_from_slice.new.self.items d.nonbasic.items c.push_nonbasic.new.nonbasic.items js us made costs c.args.pivot_size x
  is_pushed = record {
    numerators = c.in_ok-size.ensures.pushed.2;
    numerators_from = omega (arith, c.len-numerators.ensures, c.self.inside.numerators.ok.0);
    made_many = rows.count;
    costs_many = costs_made.width ∙ piece_many d.numerators.items (own.numerators + own.count * d.width) d.width turned.there.numerators_there;
    basic = columns_added;
    basic_from = omega (arith, c.len-basic_columns.ensures, c.self.inside.basic_columns.ok.0);
    count = omega (arith, c.len.ensures, c.deref-2.ensures.len);
    nonbasic = c.in_ok-push_nonbasic.ensures.pushed;
    nonbasic_from = omega (arith, c.len-nonbasic.ensures, c.self.inside.nonbasic.ok.0);
    nonbasic_many = length-set (slice_range d.nonbasic.items own.nonbasic (own.nonbasic + d.width)) c.args.turn.column c.args.turn.leaving ∙ piece_many d.nonbasic.items own.nonbasic d.width turned.there.nonbasic_there;
    size = c.in_ok-size.ensures.pushed.5;
    denominator = c.make.ensures ∙ size_is;
    first_exit = refl;
    exits = refl;
  }

  abbrev new : KeptDictionary
  new = of_pieces c.self.inside.variables c.self.inside.width c.deref-2.result.now
      (set (slice_range c.self.inside.nonbasic.items c.index-own.result.now.nonbasic (c.index-own.result.now.nonbasic + c.self.inside.width)) c.args.turn.column c.args.turn.leaving)
      c.in_ok-size.ensures.pushed.0 c.in_ok-size.ensures.pushed.1 c.args.pivot_size 0 0

pub invariant_of-self-2 : goal.invariant_of-self-2
invariant_of-self-2 c =
    let d = c.self.inside in
    lists_pushed d.variables d.width d.numerators.items c.push_numerators.new.numerators.items d.basic_columns.items c.extend_from_slice.new.self.items d.nonbasic.items c.push_nonbasic.new.nonbasic.items (js c) (us c) (made c) (costs c) c.args.pivot_size (x c) (is_pushed c)
    d.all.items c.push.new.self.items (added c) c.self.invariant

pub returns-clause-pushed : goal.returns-clause-pushed
returns-clause-pushed c =
    let a = c.args in
    let d = c.self.inside in (
      new c,
      kept_pushed d.variables d.width d.numerators.items c.push_numerators.new.numerators.items d.basic_columns.items c.extend_from_slice.new.self.items d.nonbasic.items c.push_nonbasic.new.nonbasic.items (js c) (us c) (made c) (costs c) a.pivot_size (x c) (is_pushed c)
          d.all.items c.push.new.self.items (added c) c.self.invariant ∙ ap (λ (ks : List KeptDictionary). ks ++ new c ∷ []) (view_is c),
      subst (λ (k : KeptDictionary). IsDictionaryBehind k a.turn a.solved.now a.pivot_size (new c)) (sym (own_is d.variables d.width d.numerators.items d.basic_columns.items d.nonbasic.items d.all.items a.self.now.all (view_is c) a.place c.requires.there (own c) c.index-own.ensures))
          (behind d.variables d.width d.numerators.items d.basic_columns.items d.nonbasic.items (own c) a.turn a.solved.now (turned c).before (turned c).there (js c) a.pivot_size (made c) (costs c) (exchanged c) (rows c) (costs_made c)),
    )

pub returns-then-not-put_columns-clause-exits : goal.returns-then-not-put_columns-clause-exits
returns-then-not-put_columns-clause-exits c = refl

pub returns-then-not-put_columns-clause-edges : goal.returns-then-not-put_columns-clause-edges
returns-then-not-put_columns-clause-edges c = refl

pub returns-then-not-put_columns-clause-variables : goal.returns-then-not-put_columns-clause-variables
returns-then-not-put_columns-clause-variables c = refl

pub returns-then-not-put_columns-clause-width : goal.returns-then-not-put_columns-clause-width
returns-then-not-put_columns-clause-width c = refl

pub returns-in_err-size-clause-exits : goal.returns-in_err-size-clause-exits
returns-in_err-size-clause-exits c = ap (λ (k : KeptDictionaries). k.exits) c.self.view_is

pub returns-in_err-size-clause-edges : goal.returns-in_err-size-clause-edges
returns-in_err-size-clause-edges c = ap (λ (k : KeptDictionaries). k.edges) c.self.view_is

pub returns-in_err-size-clause-variables : goal.returns-in_err-size-clause-variables
returns-in_err-size-clause-variables c = ap (λ (k : KeptDictionaries). k.variables) c.self.view_is

pub returns-in_err-size-clause-width : goal.returns-in_err-size-clause-width
returns-in_err-size-clause-width c = ap (λ (k : KeptDictionaries). k.width) c.self.view_is

pub returns-in_err-push_nonbasic-clause-exits : goal.returns-in_err-push_nonbasic-clause-exits
returns-in_err-push_nonbasic-clause-exits c = ap (λ (k : KeptDictionaries). k.exits) c.self.view_is

pub returns-in_err-push_nonbasic-clause-edges : goal.returns-in_err-push_nonbasic-clause-edges
returns-in_err-push_nonbasic-clause-edges c = ap (λ (k : KeptDictionaries). k.edges) c.self.view_is

pub returns-in_err-push_nonbasic-clause-variables : goal.returns-in_err-push_nonbasic-clause-variables
returns-in_err-push_nonbasic-clause-variables c = ap (λ (k : KeptDictionaries). k.variables) c.self.view_is

pub returns-in_err-push_nonbasic-clause-width : goal.returns-in_err-push_nonbasic-clause-width
returns-in_err-push_nonbasic-clause-width c = ap (λ (k : KeptDictionaries). k.width) c.self.view_is

pub returns-in_err-ok-clause-exits : goal.returns-in_err-ok-clause-exits
returns-in_err-ok-clause-exits c = ap (λ (k : KeptDictionaries). k.exits) c.self.view_is

pub returns-in_err-ok-clause-edges : goal.returns-in_err-ok-clause-edges
returns-in_err-ok-clause-edges c = ap (λ (k : KeptDictionaries). k.edges) c.self.view_is

pub returns-in_err-ok-clause-variables : goal.returns-in_err-ok-clause-variables
returns-in_err-ok-clause-variables c = ap (λ (k : KeptDictionaries). k.variables) c.self.view_is

pub returns-in_err-ok-clause-width : goal.returns-in_err-ok-clause-width
returns-in_err-ok-clause-width c = ap (λ (k : KeptDictionaries). k.width) c.self.view_is

pub returns-in_err-ok-2-clause-exits : goal.returns-in_err-ok-2-clause-exits
returns-in_err-ok-2-clause-exits c = ap (λ (k : KeptDictionaries). k.exits) c.self.view_is

pub returns-in_err-ok-2-clause-edges : goal.returns-in_err-ok-2-clause-edges
returns-in_err-ok-2-clause-edges c = ap (λ (k : KeptDictionaries). k.edges) c.self.view_is

pub returns-in_err-ok-2-clause-variables : goal.returns-in_err-ok-2-clause-variables
returns-in_err-ok-2-clause-variables c = ap (λ (k : KeptDictionaries). k.variables) c.self.view_is

pub returns-in_err-ok-2-clause-width : goal.returns-in_err-ok-2-clause-width
returns-in_err-ok-2-clause-width c = ap (λ (k : KeptDictionaries). k.width) c.self.view_is

pub returns-clause-exits : goal.returns-clause-exits
returns-clause-exits c = ap (λ (k : KeptDictionaries). k.exits) c.self.view_is

pub returns-clause-edges : goal.returns-clause-edges
returns-clause-edges c = ap (λ (k : KeptDictionaries). k.edges) c.self.view_is

pub returns-clause-variables : goal.returns-clause-variables
returns-clause-variables c = ap (λ (k : KeptDictionaries). k.variables) c.self.view_is

pub returns-clause-width : goal.returns-clause-width
returns-clause-width c = ap (λ (k : KeptDictionaries). k.width) c.self.view_is

pub returns-then-not-put_columns-clause-failed : goal.returns-then-not-put_columns-clause-failed
returns-then-not-put_columns-clause-failed c = refl

pub returns-then-not-put_columns-clause-pushed : goal.returns-then-not-put_columns-clause-pushed
returns-then-not-put_columns-clause-pushed c = tt

pub push_numerators-requires-clause-source_small : goal.push_numerators-requires-clause-source_small
push_numerators-requires-clause-source_small c = c.requires.source_small

pub push_numerators-requires-clause-pivot_size_small : goal.push_numerators-requires-clause-pivot_size_small
push_numerators-requires-clause-pivot_size_small c = subst (λ z. nat_abs z < size_limit) (sym (to_z-of_z w64 c.args.pivot_size c.ranges.pivot_size)) c.requires.pivot_size_small

pub make-requires-clause-positive : goal.make-requires-clause-positive
make-requires-clause-positive c = subst (λ z. pos 0 <ℤ z) (sym (to_z-of_z w64 c.args.pivot_size c.ranges.pivot_size)) c.requires.positive

pub make-requires-clause-small : goal.make-requires-clause-small
make-requires-clause-small c = subst (λ z. nat_abs z < size_limit) (sym (to_z-of_z w64 c.args.pivot_size c.ranges.pivot_size)) c.requires.pivot_size_small

pub slice_bounds-old_columns-start : goal.slice_bounds-old_columns-start
slice_bounds-old_columns-start c = omega arith

pub returns-in_err-size-clause-pushed : goal.returns-in_err-size-clause-pushed
returns-in_err-size-clause-pushed c = none_then c.from_residual.result _ c.from_residual.ensures

pub returns-in_err-push_nonbasic-clause-pushed : goal.returns-in_err-push_nonbasic-clause-pushed
returns-in_err-push_nonbasic-clause-pushed c = none_then c.from_residual-in_err-push_nonbasic.result _ c.from_residual-in_err-push_nonbasic.ensures

pub returns-in_err-ok-clause-pushed : goal.returns-in_err-ok-clause-pushed
returns-in_err-ok-clause-pushed c = none_then c.from_residual-in_err-ok.result _ c.from_residual-in_err-ok.ensures

pub returns-in_err-ok-2-clause-pushed : goal.returns-in_err-ok-2-clause-pushed
returns-in_err-ok-2-clause-pushed c = none_then c.from_residual-in_err-ok-2.result _ c.from_residual-in_err-ok-2.ensures

pub push_numerators-requires-clause-count : goal.push_numerators-requires-clause-count
push_numerators-requires-clause-count c =
    let d = c.self.inside in
    let there = own_in_lists d.variables d.width d.numerators.items d.basic_columns.items d.nonbasic.items d.all.items c.args.self.now.all (ap (λ (k : KeptDictionaries). k.all) c.self.view_is) c.args.place c.requires.there c.index-own.result.now c.index-own.ensures c.self.invariant in
    piece_many c.deref.result.now c.index-own.result.now.basic_columns c.index-own.result.now.count (omega (arith, there.basic_there, ap length c.deref.ensures.value))

pub slice_bounds-old_columns-count : goal.slice_bounds-old_columns-count
slice_bounds-old_columns-count c = omega arith

pub returns-clause-failed : goal.returns-clause-failed
returns-clause-failed c = tt

pub index-own-requires : goal.index-own-requires
index-own-requires c =
    let d = c.self.inside in
    omega (arith, c.requires.there, ap (λ (k : KeptDictionaries). length k.all) c.self.view_is, length-map d.all.items (kept_in d.variables d.width d.numerators.items d.basic_columns.items d.nonbasic.items), d.all.ok.0)
