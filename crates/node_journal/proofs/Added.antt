-- A disk that holds payloads whole, and one more payload.
use Rattle.std.specs.Prelude.{◌≡◌, ℕ, ◌+◌, ◌<◌, ◌^◌, Bool, true, ◌&&◌, nat_lt, List, [], ◌∷◌, ◌++◌, length, take, refl}
use Rattle.std.proofs.Common.{arith, ap, inl, subst, sym, ◌∙◌, append_assoc, length-append}
use Rattle.std.proofs.Math.Logic.{∥∥₁_map}
use Rattle.std.proofs.lemmas.Bool.Decides.{nat_tests}
use Rattle.std.proofs.lemmas.List.{append-nil, take_at}
use Rattle.std.proofs.lemmas.List.Folds.{list_all-append}
use Rattle.std.specs.List.{list_all}
use Rattle.outside.specs.Images.{IsImage, LeavesOnly, resting}
use Rattle.outside.specs.Lemmas.Passing.{started, weaker}
use Rattle.outside.specs.declared.moment.Moment.{Moment}
use Rattle.node_journal.specs.Records.{Intact, mark, payloads_held, records}
use Rattle.node_journal.specs.Frames.{frame, frames_of, file_of, end_of, tail_of, has_small_length}
use Rattle.node_journal.specs.Whole.{payloads_in, IsWhole}
use Rattle.node_journal.proofs.Framing.{frames_of-append, head_length, records_closed}
use Rattle.node_journal.specs.Gate.{IsBefore, IsBeforeOrWith, IsOpened}
use Rattle.node_journal.specs.History.{SomeFrom, RemainsFrom}
use Rattle.node_journal.specs.Appends.{IsWithOrWithout}
use Rattle.node_journal.proofs.Ends.{adding, opening, open_records, before_records, last_shut}
use Rattle.node_journal.specs.Lemmas.Histories.{run_each, some_weaker}
use Rattle.node_journal.specs.Lemmas.Resting.{rested}

-- what a disk with the file of payloads holds
pub payloads_in-file : (m : Moment) (ps : List (List ℕ)) → list_all has_small_length ps ≡ true → m ≡ resting (file_of ps) → payloads_in m ≡ ps
unfolding payloads_in
payloads_in-file m ps small is = ap (λ (n : Moment). payloads_held (records n.seen)) is ∙ ap payloads_held (records_closed ps (0 ∷ []) small (last_shut (0 ∷ []) (omega arith)))

pub whole_file : (m : Moment) (ps : List (List ℕ)) (end : ℕ) → list_all has_small_length ps ≡ true → m ≡ resting (file_of ps) → end ≡ end_of ps → IsWhole m end
whole_file m ps end small is at =
    let held = sym (payloads_in-file m ps small is) in
    record {
      rests = is ∙ ap (λ (qs : List (List ℕ)). resting (file_of qs)) held;
      end_is = at ∙ ap (λ (qs : List (List ℕ)). end_of qs) held;
      small = ap (λ (qs : List (List ℕ)). list_all has_small_length qs) (sym held) ∙ small;
    }

-- a payload is added behind the last one, and its gate opened
module _ (ps : List (List ℕ)) (p : List ℕ) (small : list_all has_small_length ps ≡ true) (little : length p < 2 ^ 32) where
  prefix_length : length (mark ++ frames_of ps) ≡ end_of ps
  prefix_length = omega (arith, length-append mark (frames_of ps))

  prefix : take (end_of ps) (file_of ps) ≡ mark ++ frames_of ps
  prefix = take_at (mark ++ frames_of ps) (0 ∷ []) (end_of ps) prefix_length

  more : frames_of (ps ++ p ∷ []) ≡ frames_of ps ++ frame p
  more = frames_of-append ps (p ∷ []) ∙ ap (λ (l : List ℕ). frames_of ps ++ l) (append-nil (frame p))

  new_file : (mark ++ frames_of ps) ++ 1 ∷ tail_of p ≡ file_of (ps ++ p ∷ [])
  new_file =
      ap (λ (l : List ℕ). (mark ++ frames_of ps) ++ l) opened
      ∙ sym (append_assoc (mark ++ frames_of ps) (frame p) (0 ∷ []))
      ∙ ap (λ (l : List ℕ). l ++ 0 ∷ []) (append_assoc mark (frames_of ps) (frame p) ∙ ap (λ (l : List ℕ). mark ++ l) (sym more))
    where
      opened : 1 ∷ tail_of p ≡ frame p ++ 0 ∷ []
      opened = refl

  pub all_small : list_all has_small_length (ps ++ p ∷ []) ≡ true
  all_small = list_all-append has_small_length ps (p ∷ []) ∙ both (list_all has_small_length ps) (has_small_length p) small (truth (length p) little)
    where
      truth : (k : ℕ) → k < 2 ^ 32 → nat_lt k (2 ^ 32) ≡ true
      truth k lt = grind (arith, nat_tests)

      both : (a b : Bool) → a ≡ true → b ≡ true → (a && (b && true)) ≡ true
      both a b x y = cc

  pub next_end : end_of (ps ++ p ∷ []) ≡ end_of ps + 5 + length p
  next_end = omega (arith, ap length more, length-append (frames_of ps) (frame p), head_length p)

  -- what the disk holds, and what a crash leaves while the payload is written
  module _ {n : Moment} {end : ℕ} (rests : n ≡ resting (file_of ps)) (at : end ≡ end_of ps) where
    seen_is : n.seen ≡ file_of ps
    seen_is = ap (λ (m : Moment). m.seen) rests

    written_file : {written : List ℕ} → written ≡ tail_of p → take end n.seen ++ 1 ∷ written ≡ file_of (ps ++ p ∷ [])
    written_file {written = written} is =
        ap (λ (k : ℕ). take k n.seen ++ 1 ∷ written) at
        ∙ ap (λ (l : List ℕ). take (end_of ps) l ++ 1 ∷ written) seen_is
        ∙ ap (λ (l : List ℕ). l ++ 1 ∷ written) prefix
        ∙ ap (λ (l : List ℕ). (mark ++ frames_of ps) ++ 1 ∷ l) is
        ∙ new_file

    pub written_rests : {m : Moment} {written : List ℕ} → m ≡ resting (take end n.seen ++ 1 ∷ written) → written ≡ tail_of p → m ≡ resting (file_of (ps ++ p ∷ []))
    written_rests done is = done ∙ ap resting (written_file is)

    before_end : take end n.seen ≡ mark ++ frames_of ps
    before_end = ap (λ (k : ℕ). take k n.seen) at ∙ ap (λ (l : List ℕ). take (end_of ps) l) seen_is ∙ prefix

    leaves : (written c : List ℕ) → written ≡ tail_of p → IsBeforeOrWith n.seen end written c → IsWithOrWithout ps p c
    leaves written c is left = adding ps p n.seen c end all_small small seen_is before_end new_file (subst (λ (l : List ℕ). IsBeforeOrWith n.seen end l c) is left)

    pub leaves_with : {past : List Moment} {past' : List Moment} {now' : Moment} {written : List ℕ} → written ≡ tail_of p → LeavesOnly past n past' now' (IsBeforeOrWith n.seen end written) → LeavesOnly past n past' now' (IsWithOrWithout ps p)
    leaves_with {past = past} {past' = past'} {now' = now'} {written = written} is run = weaker past n past' now' (IsBeforeOrWith n.seen end written) (IsWithOrWithout ps p) (λ c left. leaves written c is left) run

    pub remains_with : {past : List Moment} {past' : List Moment} {now' : Moment} {written : List ℕ} → written ≡ tail_of p → LeavesOnly past n past' now' (IsBeforeOrWith n.seen end written)
        → RemainsFrom (length past) (past' ++ now' ∷ []) (IsOpened n.seen end written) → RemainsFrom (length past) (past' ++ now' ∷ []) (λ c. records c ≡ Intact (ps ++ p ∷ []))
    remains_with {past = past} {past' = past'} {now' = now'} {written = written} is run remains i j m k ge le ati atj may =
        ∥∥₁_map (remains i j m k ge le ati atj (∥∥₁_map may opened)) (λ w. (w.0, w.1, with_open w.0 w.2))
      where
        opened_at : (c : List ℕ) → IsBeforeOrWith n.seen end written c → records c ≡ Intact (ps ++ p ∷ []) → IsOpened n.seen end written c
        opened_at c left held = subst (λ (l : List ℕ). IsOpened n.seen end l c) (sym is) (opening ps p n.seen c end all_small small seen_is before_end new_file (subst (λ (l : List ℕ). IsBeforeOrWith n.seen end l c) is left) held)

        opened : (c : List ℕ) × IsImage m c × (records c ≡ Intact (ps ++ p ∷ [])) → (c : List ℕ) × IsImage m c × IsOpened n.seen end written c
        opened w = (w.0, w.1, opened_at w.0 (run_each past n past' now' (IsBeforeOrWith n.seen end written) run i m w.0 ge ati w.1) w.2)

        with_open : (c : List ℕ) → IsOpened n.seen end written c → records c ≡ Intact (ps ++ p ∷ [])
        with_open c opened = open_records ps p n.seen c end all_small small seen_is before_end new_file (opened.whole ∙ ap (λ (l : List ℕ). take end n.seen ++ 1 ∷ l) is)

    pub can_leave : (from : ℕ) (past' : List Moment) → SomeFrom from past' (IsBefore n.seen) → SomeFrom from past' (λ c. records c ≡ Intact ps)
    can_leave from past' some = some_weaker from past' (IsBefore n.seen) (λ c. records c ≡ Intact ps) (λ c left. before_records ps n.seen c small seen_is left) some

    -- nothing was written yet
    pub leaves_none : (past : List Moment) → LeavesOnly past n past n (IsWithOrWithout ps p)
    leaves_none past = started past n (IsWithOrWithout ps p) (λ c is. inl (before_records ps n.seen c small seen_is ([], held c is ∙ sym (append-nil n.seen))))
      where
        held : (c : List ℕ) → IsImage n c → c ≡ n.seen
        held c is = rested n.seen c (subst (λ m. IsImage m c) (rests ∙ ap resting (sym seen_is)) is)

-- what a disk holds whole, after a payload was added
module _ {n : Moment} {end : ℕ} (p : List ℕ) {n' : Moment} (whole : IsWhole n end) (little : length p < 2 ^ 32) (is : n' ≡ resting (file_of (payloads_in n ++ p ∷ []))) where
  pub added_in : payloads_in n' ≡ payloads_in n ++ p ∷ []
  added_in = payloads_in-file n' (payloads_in n ++ p ∷ []) (all_small (payloads_in n) p whole.small little) is

  pub added_rests : n' ≡ resting (file_of (payloads_in n'))
  added_rests = is ∙ ap (λ (qs : List (List ℕ)). resting (file_of qs)) (sym added_in)

  pub added_whole : {end' : ℕ} → end' ≡ end + 5 + length p → IsWhole n' end'
  added_whole {end' = end'} at = whole_file n' (payloads_in n ++ p ∷ []) end' (all_small (payloads_in n) p whole.small little) is (omega (arith, at, whole.end_is, next_end (payloads_in n) p whole.small little))

  pub added_count : {count count' : ℕ} → count ≡ length (payloads_in n) → count' ≡ count + 1 → count' ≡ length (payloads_in n')
  added_count old new = omega (arith, old, new, ap length added_in, length-append (payloads_in n) (p ∷ []))
