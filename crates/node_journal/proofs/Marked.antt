-- The mark at the front of a file.
use Rattle.std.specs.Prelude.{◌≡◌, ℕ, ◌<◌, Bool, true, false, nat_eq, nat_le, List, [], length, take, drop, if◌then◌else◌, refl}
use Rattle.std.proofs.Common.{arith, ap, sym, ◌∙◌, length-take}
use Rattle.std.proofs.lemmas.Bool.Decides.{nat_tests}
use Rattle.std.proofs.lemmas.List.{take_all}
use Rattle.std.specs.Cmp.Lexicographic.{pointwise}
use Rattle.std.specs.List.{starts_with}
use Rattle.node_journal.specs.Records.{Intact, Foreign, mark, read_frames, records}

-- the first 8 bytes are not the mark
pub foreign : (file read : List ℕ) → 9 < length file → read ≡ take 8 file → starts_with nat_eq read mark ≡ false → records file ≡ Foreign
foreign file read long is other = choice (nat_le (length file) 9) (starts_with nat_eq file mark) (truth (length file) long) no_mark
  where
    truth : (k : ℕ) → 9 < k → nat_le k 9 ≡ false
    truth k lt = grind (arith, nat_tests)

    front : take 8 (take 8 file) ≡ take 8 file
    front = take_all 8 (take 8 file) (omega (arith, length-take 8 file))

    no_mark : starts_with nat_eq file mark ≡ false
    no_mark = sym (ap (λ (l : List ℕ). starts_with nat_eq l mark) is ∙ ap (λ (l : List ℕ). pointwise nat_eq mark l) front) ∙ other

    choice : (short marked : Bool) → short ≡ false → marked ≡ false → (if short then Intact [] else (if marked then read_frames (length file) 8 (drop 8 file) else Foreign)) ≡ Foreign
    choice true marked h k = absurd (no_true h)
      where
        no_true : true ≡ false → ⊥
        no_true e = cc
    choice false true h k = cc
    choice false false h k = refl
