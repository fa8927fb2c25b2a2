use Rattle.std.proofs.Common.{◌≡◌, ℕ, ◌+◌, ◌-◌, ◌++◌, ◌≤◌, ◌∙◌, ℤ, List, ap, arith, drop, length, length-append, pos, replicate, subst, sym, take, w64}
use Rattle.std.specs.Prelude.{slice_range, if◌then◌else◌}
use Rattle.std.proofs.lemmas.Int.{to_z-of_z}
use Rattle.std.proofs.lemmas.List.{take_all, take-append-le}
use Rattle.integer_tableau.proofs.Sizes.{written}
use Rattle.integer_tableau.specs.Numbers.{IsWithin}
use Rattle.integer_tableau.specs.Range.{size_limit}
use Rattle.integer_tableau.specs.Substitution.{IsSubstitutedRow}
use Rattle.integer_tableau.proofs.made_dictionary.push_substituted.Goals as goal
use Rattle.integer_tableau.proofs.made_dictionary.push_substituted.Goals.{After-copy_from_slice}

-- the elements before those that were added
front_is : (old added grown front : List ℤ) (start : ℕ) → grown ≡ old ++ added → start ≡ length old → front ≡ take start grown → front ≡ old
front_is old added grown front start g s f = f ∙ ap (take start) g ∙ take-append-le start old added (omega (arith, s)) ∙ take_all start old (omega (arith, s))

-- the list, where a row stands behind these
put_behind : (old front row items : List ℤ) (start many n : ℕ) → front ≡ old → length front ≡ start → length row + start ≡ many → many ≡ n
    → take n ((front ++ row) ++ drop (length (front ++ row)) items) ≡ old ++ row
put_behind old front row items start many n is f m l = written (front ++ row) items n (omega (arith, length-append front row, f, m, l)) ∙ ap (λ xs. xs ++ row) is

module _ (c : After-copy_from_slice) where
  abbrev old : List ℤ
  old = c.args.numerators.now.items

  abbrev zeros : List ℤ
  zeros = replicate (c.in_ok-end.end - c.args.numerators.now.len) (pos 0)

  many : c.len-start.result ≡ length old
  many = omega (arith, c.len-start.ensures, c.args.numerators.now.ok.1)

  grown : c.deref_mut.result.now ≡ old ++ zeros
  grown =
      let more : length old ≤ c.in_ok-end.end = omega (arith, c.in_ok-end.ensures, many) in
      c.deref_mut.ensures.value ∙ c.resize.ensures.items ∙ ap (λ b. if b then take c.in_ok-end.end old ++ zeros else old) (sym c.in_ok-ok.ensures.variant) ∙ ap (λ xs. xs ++ zeros) (take_all c.in_ok-end.end old more)

  first_is : c.split_at_mut-before.result.0.now ≡ old
  first_is = front_is old zeros c.deref_mut.result.now c.split_at_mut-before.result.0.now c.len-start.result grown many c.split_at_mut-before.ensures.front

  copied : c.copy_from_slice.new.self ≡ slice_range old c.args.from (c.args.from + length c.args.solved.now)
  copied = c.copy_from_slice.ensures.after ∙ (λ i. slice_range (first_is i) c.args.from (c.args.from + c.width-2.ensures i))

  put : (row : List ℤ) → length row ≡ length c.copy_from_slice.new.self
      → take c.resize.new.self.len ((c.split_at_mut-before.result.0.now ++ row) ++ drop (length (c.split_at_mut-before.result.0.now ++ row)) c.resize.new.self.items) ≡ old ++ row
  put row m =
      put_behind old c.split_at_mut-before.result.0.now row c.resize.new.self.items c.len-start.result (length c.deref_mut.result.now) c.resize.new.self.len first_is c.split_at_mut-before.ensures.front_len
      (omega (arith, m, c.copy_from_slice.auto.self, c.split_at_mut-before.ensures.back_len)) c.deref_mut.ensures.len

pub substitute_small-requires-clause-row_small : goal.substitute_small-requires-clause-row_small
substitute_small-requires-clause-row_small c = subst (IsWithin (size_limit - 1)) (sym (copied (goal.at.substitute_small-requires-clause-row_small c).After-copy_from_slice)) c.requires.row_small

pub substitute_small-requires-clause-row_within : goal.substitute_small-requires-clause-row_within
substitute_small-requires-clause-row_within c = subst (IsWithin c.args.size) (sym (copied (goal.at.substitute_small-requires-clause-row_within c).After-copy_from_slice)) c.requires.row_within

pub returns-in_err-bound-clause-more : goal.returns-in_err-bound-clause-more
returns-in_err-bound-clause-more c = (c.substitute_small.new.row, put (goal.at.returns-in_err-bound-clause-more c).After-copy_from_slice c.substitute_small.new.row c.substitute_small.auto.row)

pub returns-clause-more : goal.returns-clause-more
returns-clause-more c = (c.substitute_small.new.row, put (goal.at.returns-clause-more c).After-copy_from_slice c.substitute_small.new.row c.substitute_small.auto.row)

pub returns-clause-pushed : goal.returns-clause-pushed
returns-clause-pushed c =
    let a = c.args in
    let row : List ℤ = c.substitute_small.new.row in
    let size = to_z-of_z w64 a.pivot_size c.ranges.pivot_size in
    let is = copied (goal.at.returns-clause-pushed c).After-copy_from_slice in (
      row,
      put (goal.at.returns-clause-pushed c).After-copy_from_slice row c.substitute_small.auto.row,
      subst (λ (T : Type 0). T) (λ i. IsSubstitutedRow a.divisor.number (size i) a.column a.solved.now (is i) row) c.in_ok-bound.ensures.row,
      c.in_ok-bound.ensures.within,
    )
