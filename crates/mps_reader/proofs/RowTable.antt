-- Lemmas: what a table of rows says of each row, where only the rows whose terms count hold them.
use Rattle.std.specs.Prelude.{◌≡◌, ℕ, ◌+◌, ◌<◌, Bool, true, false, ◌==◌, if◌then◌else◌, List, ◌∷◌, ◌++◌, Some, length, zero, suc, slice_get, []}
use Rattle.std.proofs.Common.{refl, sym, ap, ◌∙◌, arith, set, get_or, subst, ◌≢◌}
use Rattle.std.proofs.lemmas.Option.{get_or_from_slice_get, slice_get_read}
use Rattle.mps_reader.specs.RowState.{RowState, bare_row}
use Rattle.mps_reader.specs.declared.row_table.RowEntry.{RowEntry}
use Rattle.mps_reader.specs.declared.row_table.RowEntry.TheVariants as entry
use Rattle.mps_reader.specs.declared.row_terms.TermRow.{TermRow}
use Rattle.mps_reader.specs.RowTable.{state_of, own_state, state_at, row_states_from, row_states}

from_length : (kept : List TermRow) (i : ℕ) (entries : List RowEntry) → length (row_states_from kept i entries) ≡ length entries
from_length kept i [] = refl
from_length kept i (e ∷ entries) = ap suc (from_length kept (suc i) entries)

pub states_length : (kept : List TermRow) (entries : List RowEntry) → length (row_states kept entries) ≡ length entries
states_length kept entries = from_length kept 0 entries

from_push : (kept : List TermRow) (i : ℕ) (entries : List RowEntry) → row_states_from kept i (entries ++ entry.Unnamed ∷ []) ≡ row_states_from kept i entries ++ bare_row ∷ []
from_push kept i [] = refl
from_push kept i (e ∷ entries) = ap (λ rs. state_at kept i e ∷ rs) (from_push kept (suc i) entries)

-- one more row, which keeps no terms
pub states_push : (kept : List TermRow) (entries : List RowEntry) → row_states kept (entries ++ entry.Unnamed ∷ []) ≡ row_states kept entries ++ bare_row ∷ []
states_push kept entries = from_push kept 0 entries

from_get : (kept : List TermRow) (i k : ℕ) (entries : List RowEntry) → get_or (row_states_from kept i entries) k bare_row ≡ state_at kept (k + i) (get_or entries k entry.Unnamed)
from_get kept i k [] = refl
from_get kept i zero (e ∷ entries) = let n : i ≡ 0 + i = omega arith in ap (λ n. state_at kept n e) n
from_get kept i (suc k) (e ∷ entries) =
    let n : k + suc i ≡ suc k + i = omega arith in
    from_get kept (suc i) k entries ∙ ap (λ n. state_at kept n (get_or entries k entry.Unnamed)) n

pub states_get : (kept : List TermRow) (entries : List RowEntry) (i : ℕ) → get_or (row_states kept entries) i bare_row ≡ state_at kept i (get_or entries i entry.Unnamed)
states_get kept entries i =
    let n : i + 0 ≡ i = omega arith in
    from_get kept 0 i entries ∙ ap (λ n. state_at kept n (get_or entries i entry.Unnamed)) n

pub other_index : (r i j : ℕ) → r ≡ i → i ≢ j → (r == j) ≡ false
other_index r i j e n = by (r == j) refl
  where
    by : (b : Bool) → (r == j) ≡ b → b ≡ false
    by false h = refl
    by true h = absurd (n (grind (arith, e, h)))

pub same_index : (r i : ℕ) → r ≡ i → (r == i) ≡ true
same_index r i e = grind (arith, e)

not_own : (i j : ℕ) (r : TermRow) → r.row ≡ i → i ≢ j → own_state j (Some r) ≡ bare_row
not_own i j r e n = ap (λ (b : Bool). if b then state_of r else bare_row) (other_index r.row i j e n)

own : (i : ℕ) (r : TermRow) → r.row ≡ i → own_state i (Some r) ≡ state_of r
own i r e = ap (λ (b : Bool). if b then state_of r else bare_row) (same_index r.row i e)

-- ---- the row at an index
module _ (kept : List TermRow) (entries : List RowEntry) (rows : List RowState) (i : ℕ) (v : row_states kept entries ≡ rows) where
  pub within_entries : i < length rows → i < length entries
  within_entries l = omega (arith, l, states_length kept entries, ap length v)

  pub row_by : (e : RowEntry) → slice_get entries i ≡ Some e → get_or rows i bare_row ≡ state_at kept i e
  row_by e g = ap (λ rs. get_or rs i bare_row) (sym v) ∙ states_get kept entries i ∙ ap (state_at kept i) (get_or_from_slice_get entries i e entry.Unnamed g)

  pub row_kept : (q : ℕ) (r : TermRow) → slice_get entries i ≡ Some (entry.Keeps q) → slice_get kept q ≡ Some r → r.row ≡ i → get_or rows i bare_row ≡ state_of r
  row_kept q r g h e = row_by (entry.Keeps q) g ∙ ap (own_state i) h ∙ own i r e

-- the row at an index keeps its terms, and they stand at q
pub record IsKeptAt (kept : List TermRow) (entries : List RowEntry) (rows : List RowState) (i q : ℕ) (old : TermRow) : Type 0 where
  pub within : i < length entries
  pub entry : slice_get entries i ≡ Some (entry.Keeps q)
  pub there : slice_get kept q ≡ Some old
  pub own : old.row ≡ i
  pub row : get_or rows i bare_row ≡ state_of old

-- by the entry that is read, and the terms that are seen
module _ (kept : List TermRow) (entries : List RowEntry) (rows : List RowState) (i : ℕ) (v : row_states kept entries ≡ rows) (l : i < length rows) (e : RowEntry) (g : e ≡ get_or entries i e)
    (seen : List TermRow) (f : seen ≡ kept) where
  entry_there : slice_get entries i ≡ Some e
  entry_there = slice_get_read entries (length entries) i e refl (within_entries kept entries rows i v l) g

  pub row_seen : get_or rows i bare_row ≡ state_at seen i e
  row_seen = row_by kept entries rows i v e entry_there ∙ ap (λ (ks : List TermRow). state_at ks i e) (sym f)

  pub kept_at : (q : ℕ) → q < length seen → e ≡ entry.Keeps q → ((r : TermRow) → slice_get seen q ≡ Some r → r.row ≡ i) → (old : TermRow) → old ≡ get_or kept q old → IsKeptAt kept entries rows i q old
  kept_at q w k own old o =
      let slot : slice_get entries i ≡ Some (entry.Keeps q) = entry_there ∙ ap Some k in
      let there : slice_get kept q ≡ Some old = slice_get_read kept (length kept) q old refl (subst (λ (ks : List TermRow). q < length ks) f w) o in
      let same : old.row ≡ i = own old (ap (λ (ks : List TermRow). slice_get ks q) f ∙ there) in
      record { within = within_entries kept entries rows i v l; entry = slot; there = there; own = same; row = row_kept kept entries rows i v q old slot there same }

-- ---- a change at one row
-- the other rows stay as they are
abbrev pub KeepsOthers : List TermRow → List TermRow → ℕ → Type 0
KeepsOthers kept new i = (j : ℕ) (e : RowEntry) → i ≢ j → state_at new j e ≡ state_at kept j e

module _ (kept new : List TermRow) (i : ℕ) (q : RowEntry) (keeps : KeepsOthers kept new i) where
  from_kept : (j : ℕ) (entries : List RowEntry) → i < j → row_states_from new j entries ≡ row_states_from kept j entries
  from_kept j [] l = refl
  from_kept j (e ∷ entries) l = λ k. keeps j e (λ f. omega (arith, l, f)) k ∷ from_kept (suc j) entries (omega (arith, l)) k

  from_set : (j k : ℕ) (entries : List RowEntry) → k + j ≡ i → k < length entries → row_states_from new j (set entries k q) ≡ set (row_states_from kept j entries) k (state_at new i q)
  from_set j k [] e l = absurd (omega (arith, l))
  from_set j zero (p ∷ entries) e l =
      let n : j ≡ i = omega (arith, e) in
      λ k. state_at new (n k) q ∷ from_kept (suc j) entries (omega (arith, e)) k
  from_set j (suc k) (p ∷ entries) e l = λ m. keeps j p (λ f. omega (arith, e, f)) m ∷ from_set (suc j) k entries (omega (arith, e)) (omega (arith, l)) m

  pub states_set : (entries : List RowEntry) → i < length entries → row_states new (set entries i q) ≡ set (row_states kept entries) i (state_at new i q)
  states_set entries l = from_set 0 i entries (omega arith) l

  from_behind : (j : ℕ) (entries : List RowEntry) → j + length entries ≡ i → row_states_from new j (entries ++ q ∷ []) ≡ row_states_from kept j entries ++ state_at new i q ∷ []
  from_behind j [] e = let n : j ≡ i = omega (arith, e) in λ k. state_at new (n k) q ∷ []
  from_behind j (p ∷ entries) e = λ m. keeps j p (λ f. omega (arith, e, f)) m ∷ from_behind (suc j) entries (omega (arith, e)) m

-- a row that keeps no terms changes
pub entry_set : (kept : List TermRow) (i : ℕ) (q : RowEntry) (entries : List RowEntry) → i < length entries → row_states kept (set entries i q) ≡ set (row_states kept entries) i (state_at kept i q)
entry_set kept i q entries l = states_set kept kept i q (λ j e n. refl) entries l

-- one more row, which keeps its terms
module _ (i : ℕ) (r : TermRow) (e : r.row ≡ i) where
  pushed : (kept : List TermRow) (j p : ℕ) → i ≢ j → own_state j (slice_get (kept ++ r ∷ []) p) ≡ own_state j (slice_get kept p)
  pushed [] j zero n = not_own i j r e n
  pushed [] j (suc p) n = refl
  pushed (a ∷ kept) j zero n = refl
  pushed (a ∷ kept) j (suc p) n = pushed kept j p n

  push_keeps : (kept : List TermRow) → KeepsOthers kept (kept ++ r ∷ []) i
  push_keeps kept j entry.Unnamed n = refl
  push_keeps kept j (entry.NamedBy p) n = refl
  push_keeps kept j (entry.Keeps p) n = pushed kept j p n

  push_own : (kept : List TermRow) → own_state i (slice_get (kept ++ r ∷ []) (length kept)) ≡ state_of r
  push_own [] = own i r e
  push_own (a ∷ kept) = push_own kept

  pub kept_push : (kept : List TermRow) (entries : List RowEntry) → i ≡ length entries
      → row_states (kept ++ r ∷ []) (entries ++ entry.Keeps (length kept) ∷ []) ≡ row_states kept entries ++ state_of r ∷ []
  kept_push kept entries l = from_behind kept (kept ++ r ∷ []) i (entry.Keeps (length kept)) (push_keeps kept) 0 entries (omega (arith, l))
      ∙ ap (λ s. row_states kept entries ++ s ∷ []) (push_own kept)

-- a row that keeps its terms changes
module _ (i : ℕ) (r : TermRow) (e : r.row ≡ i) where
  changed : (kept : List TermRow) (q : ℕ) (old : TermRow) (j p : ℕ) → slice_get kept q ≡ Some old → old.row ≡ i → i ≢ j → own_state j (slice_get (set kept q r) p) ≡ own_state j (slice_get kept p)
  changed [] q old j p g o n = refl
  changed (a ∷ kept) zero old j zero g o n =
      let same : a ≡ old = cc in
      not_own i j r e n ∙ sym (not_own i j a (ap (λ (r : TermRow). r.row) same ∙ o) n)
  changed (a ∷ kept) zero old j (suc p) g o n = refl
  changed (a ∷ kept) (suc q) old j zero g o n = refl
  changed (a ∷ kept) (suc q) old j (suc p) g o n = changed kept q old j p g o n

  change_keeps : (kept : List TermRow) (q : ℕ) (old : TermRow) → slice_get kept q ≡ Some old → old.row ≡ i → KeepsOthers kept (set kept q r) i
  change_keeps kept q old g o j entry.Unnamed n = refl
  change_keeps kept q old g o j (entry.NamedBy p) n = refl
  change_keeps kept q old g o j (entry.Keeps p) n = changed kept q old j p g o n

  change_own : (kept : List TermRow) (q : ℕ) (old : TermRow) → slice_get kept q ≡ Some old → own_state i (slice_get (set kept q r) q) ≡ state_of r
  change_own [] q old g = cc
  change_own (a ∷ kept) zero old g = own i r e
  change_own (a ∷ kept) (suc q) old g = change_own kept q old g

set_again : {X : Type 0} (xs : List X) (i : ℕ) (x : X) → slice_get xs i ≡ Some x → set xs i x ≡ xs
set_again [] i x g = cc
set_again (y ∷ xs) zero x g = let same : x ≡ y = cc in λ k. same k ∷ xs
set_again (y ∷ xs) (suc i) x g = ap (λ ys. y ∷ ys) (set_again xs i x g)

module _ (i : ℕ) (r : TermRow) (e : r.row ≡ i) (kept : List TermRow) (q : ℕ) (old : TermRow) (g : slice_get kept q ≡ Some old) (o : old.row ≡ i)
    (entries : List RowEntry) where
  -- it has one more term
  pub kept_again : slice_get entries i ≡ Some (entry.Keeps q) → i < length entries → row_states (set kept q r) entries ≡ set (row_states kept entries) i (state_of r)
  kept_again p l = ap (row_states (set kept q r)) (sym (set_again entries i (entry.Keeps q) p))
      ∙ states_set kept (set kept q r) i (entry.Keeps q) (change_keeps i r e kept q old g o) entries l
      ∙ ap (set (row_states kept entries) i) (change_own i r e kept q old g)

  -- its terms are taken away
  pub kept_no_more : i < length entries → row_states (set kept q r) (set entries i entry.Unnamed) ≡ set (row_states kept entries) i bare_row
  kept_no_more l = states_set kept (set kept q r) i entry.Unnamed (change_keeps i r e kept q old g o) entries l
