-- The four calls of an append, one after another, over what a disk tells.
use Rattle.std.proofs.Common.{◌≡◌, ℕ, ◌+◌, List, [], ◌∷◌, ◌++◌, length, take, refl, sym, ◌∙◌, ap, subst, arith}
use Rattle.std.proofs.lemmas.List.{append-nil}
use Rattle.std.proofs.Math.Logic.{∥∥₁_elim, ∥∥₁_map, ∥∥₁_prop}
use Rattle.outside.specs.Lemmas.SeenIsImage.{rests}
use Rattle.node_journal.specs.History.{SomeFrom, MayLeave, RemainsFrom}
use Rattle.node_journal.specs.Lemmas.Histories.{some_none, some_goes, some_fails, remains_begun, remains_goes, remains_fails}
use Rattle.outside.specs.Images.{IsImage, LeavesOnly, OneMomentPasses, Fails, moment_after_write, resting, moment_after_sync, overwritten}
use Rattle.node_journal.specs.Lemmas.Resting.{rested}
use Rattle.node_journal.specs.Gate.{IsBefore, IsBeforeOrWith, IsOpened}
use Rattle.outside.specs.declared.moment.Moment.{Moment}
use Rattle.outside.specs.Lemmas.Passing.{started, goes_on, fails_on}
use Rattle.node_journal.proofs.Torn.{behind, wrote_behind, opened, before_all, first_write, first_sync, second_write, second_sync}

module _ (payload : List ℕ) (end : ℕ) (p : List Moment) (n : Moment) (rest : n ≡ resting n.seen) (len : length n.seen ≡ end + 1) where
  file : List ℕ
  file = n.seen

  Only : List Moment → Moment → Type 0
  Only past now = LeavesOnly p n past now (IsBeforeOrWith n.seen end payload)

  at_first : (c : List ℕ) → IsImage n c → IsBeforeOrWith n.seen end payload c
  at_first c is = before_all n.seen payload end len c (subst (λ m. IsImage m c) rest is)

  one : (c : List ℕ) → IsImage (moment_after_write (end + 1) payload n) c → IsBeforeOrWith n.seen end payload c
  one c is = first_write n.seen payload end len c (subst (λ m. IsImage (moment_after_write (end + 1) payload m) c) rest is)

  pub fails_1 : (p1 : List Moment) (n1 : Moment) → Fails p n p1 n1 (moment_after_write (end + 1) payload n) → LeavesOnly p n p1 n1 (IsBeforeOrWith n.seen end payload)
  fails_1 p1 n1 f = fails_on p p p1 n n n1 _ _ (started p n _ at_first) f at_first one

  module _ (p1 : List Moment) (n1 : Moment) (g1 : OneMomentPasses p n p1 n1 (moment_after_write (end + 1) payload n)) where
    so_far_1 : LeavesOnly p n p1 n1 (IsBeforeOrWith n.seen end payload)
    so_far_1 = goes_on p p p1 n n n1 _ _ (started p n _ at_first) g1 one

    one' : (c : List ℕ) → IsImage n1 c → IsBeforeOrWith n.seen end payload c
    one' c is = one c (subst (λ m. IsImage m c) g1.came is)

    two : (c : List ℕ) → IsImage (moment_after_sync n1) c → IsBeforeOrWith n.seen end payload c
    two c is = first_sync n.seen payload end len c (subst (λ m. IsImage (moment_after_sync m) c) g1.came is)

    pub fails_2 : (p2 : List Moment) (n2 : Moment) → Fails p1 n1 p2 n2 (moment_after_sync n1) → LeavesOnly p n p2 n2 (IsBeforeOrWith n.seen end payload)
    fails_2 p2 n2 f = fails_on p p1 p2 n n1 n2 _ _ so_far_1 f one' two

    module _ (p2 : List Moment) (n2 : Moment) (g2 : OneMomentPasses p1 n1 p2 n2 (moment_after_sync n1)) where
      so_far_2 : LeavesOnly p n p2 n2 (IsBeforeOrWith n.seen end payload)
      so_far_2 = goes_on p p1 p2 n n1 n2 _ _ so_far_1 g2 two

      is_2 : n2 ≡ resting (overwritten (end + 1) payload n.seen)
      is_2 = g2.came ∙ ap moment_after_sync g1.came

      two' : (c : List ℕ) → IsImage n2 c → IsBeforeOrWith n.seen end payload c
      two' c is = two c (subst (λ m. IsImage m c) g2.came is)

      three : (c : List ℕ) → IsImage (moment_after_write end (1 ∷ []) n2) c → IsBeforeOrWith n.seen end payload c
      three c is = second_write n.seen payload end len c (subst (λ m. IsImage (moment_after_write end (1 ∷ []) m) c) is_2 is)

      pub fails_3 : (p3 : List Moment) (n3 : Moment) → Fails p2 n2 p3 n3 (moment_after_write end (1 ∷ []) n2) → LeavesOnly p n p3 n3 (IsBeforeOrWith n.seen end payload)
      fails_3 p3 n3 f = fails_on p p2 p3 n n2 n3 _ _ so_far_2 f two' three

      module _ (p3 : List Moment) (n3 : Moment) (g3 : OneMomentPasses p2 n2 p3 n3 (moment_after_write end (1 ∷ []) n2)) where
        so_far_3 : LeavesOnly p n p3 n3 (IsBeforeOrWith n.seen end payload)
        so_far_3 = goes_on p p2 p3 n n2 n3 _ _ so_far_2 g3 three

        three' : (c : List ℕ) → IsImage n3 c → IsBeforeOrWith n.seen end payload c
        three' c is = three c (subst (λ m. IsImage m c) g3.came is)

        four : (c : List ℕ) → IsImage (moment_after_sync n3) c → IsBeforeOrWith n.seen end payload c
        four c is = second_sync n.seen payload end len c (subst (λ m. IsImage (moment_after_sync m) c) (g3.came ∙ ap (moment_after_write end (1 ∷ [])) is_2) is)

        pub fails_4 : (p4 : List Moment) (n4 : Moment) → Fails p3 n3 p4 n4 (moment_after_sync n3) → LeavesOnly p n p4 n4 (IsBeforeOrWith n.seen end payload)
        fails_4 p4 n4 f = fails_on p p3 p4 n n3 n4 _ _ so_far_3 f three' four

        pub ends : (p4 : List Moment) (n4 : Moment) → OneMomentPasses p3 n3 p4 n4 (moment_after_sync n3) → LeavesOnly p n p4 n4 (IsBeforeOrWith n.seen end payload)
        ends p4 n4 g = goes_on p p3 p4 n n3 n4 _ _ so_far_3 g four

-- Until the last of the four calls is done a crash can leave the bytes from before, with a closed gate at their end. Where
-- some crash leaves the open gate, some crash at each later moment does.
unwritten : (at : ℕ) (bytes old : List ℕ) → IsImage (moment_after_write at bytes (resting old)) old
unwritten at bytes old = record { no_shorter = omega arith; no_longer = omega arith; elsewhere = λ i lt out. refl }

module _ (payload : List ℕ) (end : ℕ) (p : List Moment) (n : Moment) (rest : n ≡ resting n.seen) (len : length n.seen ≡ end + 1) where
  prefix : IsBefore n.seen n.seen
  prefix = ([], sym (append-nil n.seen))

  can_0 : (c : List ℕ) × IsImage n c × IsBefore n.seen c
  can_0 = (n.seen, subst (λ m. IsImage m n.seen) (sym rest) (rests n.seen), prefix)

  only_0 : (c : List ℕ) → IsImage n c → IsBefore n.seen c
  only_0 c is = ([], rested n.seen c (subst (λ m. IsImage m c) rest is) ∙ sym (append-nil n.seen))

  -- before the gate is written no crash leaves it open
  not_yet : (m : Moment) → ((c : List ℕ) → IsImage m c → IsBefore n.seen c) → (m' : Moment) → MayLeave (IsOpened n.seen end payload) m → MayLeave (IsOpened n.seen end payload) m'
  not_yet m only m' may = ∥∥₁_elim may ∥∥₁_prop (λ w. absurd (w.2.new (only w.0 w.1)))

  pub remains_1 : (p1 : List Moment) (n1 : Moment) → Fails p n p1 n1 (moment_after_write (end + 1) payload n) → RemainsFrom (length p) (p1 ++ n1 ∷ []) (IsOpened n.seen end payload)
  remains_1 p1 n1 f = remains_fails (length p) p n p1 n1 _ _ (remains_begun p n _) (not_yet n only_0 n1) f

  pub may_1 : (p1 : List Moment) (n1 : Moment) → Fails p n p1 n1 (moment_after_write (end + 1) payload n) → SomeFrom (length p) p1 (IsBefore n.seen)
  may_1 p1 n1 f = some_fails (length p) p n p1 n1 _ _ (some_none p _) can_0 f

  module _ (p1 : List Moment) (n1 : Moment) (g1 : OneMomentPasses p n p1 n1 (moment_after_write (end + 1) payload n)) where
    gone_1 : SomeFrom (length p) p1 (IsBefore n.seen)
    gone_1 = some_goes (length p) p n p1 n1 _ _ (some_none p _) can_0 g1

    can_1 : (c : List ℕ) × IsImage n1 c × IsBefore n.seen c
    can_1 = (n.seen, subst (λ m. IsImage m n.seen) (sym (g1.came ∙ ap (moment_after_write (end + 1) payload) rest)) (unwritten (end + 1) payload n.seen), prefix)

    only_1 : (c : List ℕ) → IsImage n1 c → IsBefore n.seen c
    only_1 c is = behind n.seen payload c (end + 1) len (subst (λ m. IsImage m c) (g1.came ∙ ap (moment_after_write (end + 1) payload) rest) is)

    remained_1 : RemainsFrom (length p) (p1 ++ n1 ∷ []) (IsOpened n.seen end payload)
    remained_1 = remains_goes (length p) p n p1 n1 _ _ (remains_begun p n _) (not_yet n only_0 n1) g1

    pub remains_2 : (p2 : List Moment) (n2 : Moment) → Fails p1 n1 p2 n2 (moment_after_sync n1) → RemainsFrom (length p) (p2 ++ n2 ∷ []) (IsOpened n.seen end payload)
    remains_2 p2 n2 f = remains_fails (length p) p1 n1 p2 n2 _ _ remained_1 (not_yet n1 only_1 n2) f

    pub may_2 : (p2 : List Moment) (n2 : Moment) → Fails p1 n1 p2 n2 (moment_after_sync n1) → SomeFrom (length p) p2 (IsBefore n.seen)
    may_2 p2 n2 f = some_fails (length p) p1 n1 p2 n2 _ _ gone_1 can_1 f

    module _ (p2 : List Moment) (n2 : Moment) (g2 : OneMomentPasses p1 n1 p2 n2 (moment_after_sync n1)) where
      gone_2 : SomeFrom (length p) p2 (IsBefore n.seen)
      gone_2 = some_goes (length p) p1 n1 p2 n2 _ _ gone_1 can_1 g2

      at_2 : n2 ≡ resting (overwritten (end + 1) payload n.seen)
      at_2 = g2.came ∙ ap moment_after_sync g1.came

      behind_prefix : IsBefore n.seen (overwritten (end + 1) payload n.seen)
      behind_prefix = (payload, wrote_behind n.seen payload (end + 1) len)

      can_2 : (c : List ℕ) × IsImage n2 c × IsBefore n.seen c
      can_2 = (overwritten (end + 1) payload n.seen, subst (λ m. IsImage m (overwritten (end + 1) payload n.seen)) (sym at_2) (rests (overwritten (end + 1) payload n.seen)), behind_prefix)

      only_2 : (c : List ℕ) → IsImage n2 c → IsBefore n.seen c
      only_2 c is = (payload, rested _ c (subst (λ m. IsImage m c) at_2 is) ∙ wrote_behind n.seen payload (end + 1) len)

      remained_2 : RemainsFrom (length p) (p2 ++ n2 ∷ []) (IsOpened n.seen end payload)
      remained_2 = remains_goes (length p) p1 n1 p2 n2 _ _ remained_1 (not_yet n1 only_1 n2) g2

      pub remains_3 : (p3 : List Moment) (n3 : Moment) → Fails p2 n2 p3 n3 (moment_after_write end (1 ∷ []) n2) → RemainsFrom (length p) (p3 ++ n3 ∷ []) (IsOpened n.seen end payload)
      remains_3 p3 n3 f = remains_fails (length p) p2 n2 p3 n3 _ _ remained_2 (not_yet n2 only_2 n3) f

      pub may_3 : (p3 : List Moment) (n3 : Moment) → Fails p2 n2 p3 n3 (moment_after_write end (1 ∷ []) n2) → SomeFrom (length p) p3 (IsBefore n.seen)
      may_3 p3 n3 f = some_fails (length p) p2 n2 p3 n3 _ _ gone_2 can_2 f

      module _ (p3 : List Moment) (n3 : Moment) (g3 : OneMomentPasses p2 n2 p3 n3 (moment_after_write end (1 ∷ []) n2)) where
        gone_3 : SomeFrom (length p) p3 (IsBefore n.seen)
        gone_3 = some_goes (length p) p2 n2 p3 n3 _ _ gone_2 can_2 g3

        can_3 : (c : List ℕ) × IsImage n3 c × IsBefore n.seen c
        can_3 = (overwritten (end + 1) payload n.seen, subst (λ m. IsImage m (overwritten (end + 1) payload n.seen)) (sym (g3.came ∙ ap (moment_after_write end (1 ∷ [])) at_2)) (unwritten end (1 ∷ []) (overwritten (end + 1) payload n.seen)), behind_prefix)

        pub may_4 : (p4 : List Moment) (n4 : Moment) → Fails p3 n3 p4 n4 (moment_after_sync n3) → SomeFrom (length p) p4 (IsBefore n.seen)
        may_4 p4 n4 f = some_fails (length p) p3 n3 p4 n4 _ _ gone_3 can_3 f

        -- the open gate is there to be read
        is_open : (n4 : Moment) → n4.seen ≡ n3.seen → IsImage n4 n4.seen → MayLeave (IsOpened n.seen end payload) n3 → MayLeave (IsOpened n.seen end payload) n4
        is_open n4 same seen may = ∥∥₁_map may (λ w. (n4.seen, seen, subst (λ (c : List ℕ). IsOpened n.seen end payload c) (w.2.whole ∙ sym (same ∙ read)) w.2))
          where
            read : n3.seen ≡ take end n.seen ++ 1 ∷ payload
            read = ap (λ (m : Moment). m.seen) (g3.came ∙ ap (moment_after_write end (1 ∷ [])) at_2) ∙ opened n.seen payload end len

        remained_3 : RemainsFrom (length p) (p3 ++ n3 ∷ []) (IsOpened n.seen end payload)
        remained_3 = remains_goes (length p) p2 n2 p3 n3 _ _ remained_2 (not_yet n2 only_2 n3) g3

        pub remains_4 : (p4 : List Moment) (n4 : Moment) → n4.seen ≡ n3.seen → IsImage n4 n4.seen → Fails p3 n3 p4 n4 (moment_after_sync n3) → RemainsFrom (length p) (p4 ++ n4 ∷ []) (IsOpened n.seen end payload)
        remains_4 p4 n4 same seen f = remains_fails (length p) p3 n3 p4 n4 _ _ remained_3 (is_open n4 same seen) f

        pub remains_end : (p4 : List Moment) (n4 : Moment) → n4.seen ≡ n3.seen → IsImage n4 n4.seen → OneMomentPasses p3 n3 p4 n4 (moment_after_sync n3) → RemainsFrom (length p) (p4 ++ n4 ∷ []) (IsOpened n.seen end payload)
        remains_end p4 n4 same seen g = remains_goes (length p) p3 n3 p4 n4 _ _ remained_3 (is_open n4 same seen) g

        pub may_end : (p4 : List Moment) (n4 : Moment) → OneMomentPasses p3 n3 p4 n4 (moment_after_sync n3) → SomeFrom (length p) p4 (IsBefore n.seen)
        may_end p4 n4 g = some_goes (length p) p3 n3 p4 n4 _ _ gone_3 can_3 g
