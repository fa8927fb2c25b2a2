-- The calls of a repair, one after another, over what a disk tells.
use Rattle.std.specs.Prelude.{◌≡◌, ℕ, ◌+◌, ◌≤◌, true, List, [], ◌∷◌, ◌++◌, length, take, drop, refl}
use Rattle.std.proofs.Common.{arith, ap, subst, sym, ◌∙◌, inl, length-drop, take-append-drop}
use Rattle.std.proofs.lemmas.List.{append-nil, drop_all}
use Rattle.std.specs.List.{list_all}
use Rattle.outside.specs.Images.{IsImage, LeavesOnly, OneMomentPasses, Fails, moment_after_write, moment_after_cut, resting, moment_after_sync, overwritten}
use Rattle.outside.specs.Lemmas.Passing.{started, goes_on, fails_on, weaker, joined}
use Rattle.outside.specs.declared.moment.Moment.{Moment}
use Rattle.node_journal.specs.Gate.{IsBefore}
use Rattle.node_journal.specs.Records.{mark, records, Intact}
use Rattle.node_journal.specs.Frames.{has_small_length, end_of}
use Rattle.node_journal.specs.Index.{ReadsTo, EndsAt}
use Rattle.node_journal.specs.History.{SomeFrom, Anything}
use Rattle.node_journal.specs.Repairs.{IsPrefixAndOne}
use Rattle.node_journal.proofs.Ends.{nil_of, short_holds, one_records, prefix_after}
use Rattle.node_journal.specs.Lemmas.Histories.{some_none, some_goes, some_fails, some_joined, can_seen}
use Rattle.node_journal.proofs.Torn.{same_prefix, outside_one}
use Rattle.node_journal.specs.Lemmas.Resting.{rested}

-- a crash before a call, in its midst, and at rest after it leaves bytes that have P
pub record IsStepOver (P : List ℕ → Type 0) (n done : Moment) : Type 0 where
  pub before : (c : List ℕ) → IsImage n c → P c
  pub between : (c : List ℕ) → IsImage done c → P c
  pub after : P done.seen

-- one such call and a sync
pub first_fails : {P : List ℕ → Type 0} {p : List Moment} {n done : Moment} {p1 : List Moment} {n1 : Moment} → IsStepOver P n done → Fails p n p1 n1 done → LeavesOnly p n p1 n1 P
first_fails {P = P} {p = p} {n = n} {done = done} {p1 = p1} {n1 = n1} h f = fails_on p p p1 n n n1 done P (started p n P h.before) f h.before h.between

module _ {P : List ℕ → Type 0} {p : List Moment} {n done : Moment} {p1 : List Moment} {n1 : Moment} (h : IsStepOver P n done) (g1 : OneMomentPasses p n p1 n1 done) where
  so_far : LeavesOnly p n p1 n1 P
  so_far = goes_on p p p1 n n n1 done P (started p n P h.before) g1 h.between

  here : (c : List ℕ) → IsImage n1 c → P c
  here c is = h.between c (subst (λ m. IsImage m c) g1.came is)

  there : (c : List ℕ) → IsImage (moment_after_sync n1) c → P c
  there c is = subst P (sym (rested done.seen c (subst (λ m. IsImage (moment_after_sync m) c) g1.came is))) h.after

  pub second_fails : {p2 : List Moment} {n2 : Moment} → Fails p1 n1 p2 n2 (moment_after_sync n1) → LeavesOnly p n p2 n2 P
  second_fails {p2 = p2} {n2 = n2} f = fails_on p p1 p2 n n1 n2 (moment_after_sync n1) P so_far f here there

  pub both_go : {p2 : List Moment} {n2 : Moment} → OneMomentPasses p1 n1 p2 n2 (moment_after_sync n1) → LeavesOnly p n p2 n2 P
  both_go {p2 = p2} {n2 = n2} g = goes_on p p1 p2 n n1 n2 (moment_after_sync n1) P so_far g there

-- at each moment of two calls a crash can leave something
pub one_may_fail : {p : List Moment} {n done : Moment} {p1 : List Moment} {n1 : Moment} → IsImage n n.seen → Fails p n p1 n1 done → SomeFrom (length p) p1 Anything
one_may_fail {p = p} {n = n} {done = done} {p1 = p1} {n1 = n1} seen f = some_fails (length p) p n p1 n1 done Anything (some_none p Anything) (can_seen n seen) f

pub one_may_go : {p : List Moment} {n done : Moment} {p1 : List Moment} {n1 : Moment} → IsImage n n.seen → OneMomentPasses p n p1 n1 done → SomeFrom (length p) p1 Anything
one_may_go {p = p} {n = n} {done = done} {p1 = p1} {n1 = n1} seen g = some_goes (length p) p n p1 n1 done Anything (some_none p Anything) (can_seen n seen) g

module _ {p : List Moment} {n done : Moment} {p1 : List Moment} {n1 : Moment} (seen : IsImage n n.seen) (g : OneMomentPasses p n p1 n1 done) (later : IsImage n1 n1.seen) where
  pub two_may_fail : {p2 : List Moment} {n2 next : Moment} → Fails p1 n1 p2 n2 next → SomeFrom (length p) p2 Anything
  two_may_fail {p2 = p2} {n2 = n2} {next = next} f = some_fails (length p) p1 n1 p2 n2 next Anything (one_may_go seen g) (can_seen n1 later) f

  pub two_may_go : {p2 : List Moment} {n2 next : Moment} → OneMomentPasses p1 n1 p2 n2 next → SomeFrom (length p) p2 Anything
  two_may_go {p2 = p2} {n2 = n2} {next = next} k = some_goes (length p) p1 n1 p2 n2 next Anything (one_may_go seen g) (can_seen n1 later) k

-- the bytes are those of a journal of these payloads
abbrev HasAll : List (List ℕ) → List ℕ → Type 0
HasAll ps c = records c ≡ Intact ps

-- a disk of at most 9 bytes
pub renewed : {p : List Moment} {n : Moment} {p1 : List Moment} {n1 : Moment} (ps : List (List ℕ)) → ReadsTo n.seen ps → length n.seen ≤ 9 → LeavesOnly p n p1 n1 (λ c. length c ≤ 9) → LeavesOnly p n p1 n1 (HasAll ps)
renewed {p = p} {n = n} {p1 = p1} {n1 = n1} ps reads short run = weaker p n p1 n1 (λ c. length c ≤ 9) (HasAll ps) (short_holds ps (nil_of n.seen ps reads short)) run

-- the closed gate, after what stood behind it was taken away
pub shut_after : {p : List Moment} {n : Moment} {p1 : List Moment} {n1 : Moment} {p2 : List Moment} {n2 : Moment} {e : ℕ} (ps : List (List ℕ)) → list_all has_small_length ps ≡ true → EndsAt n.seen ps (end_of ps) → e ≡ end_of ps
    → n1 ≡ resting (take (end_of ps + 1) n.seen) → LeavesOnly p n p1 n1 (HasAll ps) → LeavesOnly p1 n1 p2 n2 (IsPrefixAndOne (take e n1.seen)) → LeavesOnly p n p2 n2 (HasAll ps)
shut_after {p = p} {n = n} {p1 = p1} {n1 = n1} {p2 = p2} {n2 = n2} {e = e} ps small ends place trimmed first next =
    joined p p1 p2 n n1 n2 (HasAll ps) first
    (weaker p1 n1 p2 n2 (IsPrefixAndOne (take e n1.seen)) (HasAll ps) (λ c is. one_records ps n.seen (end_of ps) small ends (take e n1.seen) c (prefix_after ps n.seen n1 e ends place trimmed) is) next)

-- one run, and then another
pub runs_may : {from : ℕ} {p1 : List Moment} {n1 : Moment} {p2 : List Moment} {n2 : Moment} {Q : List ℕ → Type 0} → LeavesOnly p1 n1 p2 n2 Q → SomeFrom from p1 Anything → SomeFrom (length p1) p2 Anything → SomeFrom from p2 Anything
runs_may {from = from} {p1 = p1} {n1 = n1} {p2 = p2} {n2 = n2} {Q = Q} run first next = some_joined from p1 n1 p2 n2 Anything Q run first next

-- a write of 9 bytes over at most 9
pub short_write : (file bytes c : List ℕ) → length file ≤ 9 → length bytes ≡ 9 → IsImage (moment_after_write 0 bytes (resting file)) c → length c ≤ 9
short_write file bytes c short nine is = omega (arith, is.no_longer, short, nine)

pub over_short : (file bytes : List ℕ) → length file ≤ 9 → length bytes ≡ 9 → overwritten 0 bytes file ≡ bytes
over_short file bytes short nine = ap (λ (l : List ℕ). bytes ++ l) (drop_all (0 + length bytes) file (omega (arith, short, nine))) ∙ append-nil bytes

-- a cut leaves the front
pub cut_image : (file c : List ℕ) (n : ℕ) → n ≤ length file → IsImage (moment_after_cut n (resting file)) c → IsBefore (take n file) c
cut_image file c n le is =
    let prefix : take n c ≡ take n file = same_prefix n c file (omega (arith, is.no_shorter, le)) le (λ i lt. is.elsewhere i (omega (arith, lt, le)) refl) in
    (drop n c, sym (take-append-drop n c) ∙ ap (λ (l : List ℕ). l ++ drop n c) prefix)

-- a byte at the end leaves the front and at most one byte
pub end_image : (file c : List ℕ) (end : ℕ) → end ≤ length file → length file ≤ end + 1 → IsImage (moment_after_write end (0 ∷ []) (resting file)) c → IsPrefixAndOne (take end file) c
end_image file c end le last is =
    let prefix : take end c ≡ take end file = same_prefix end c file (omega (arith, is.no_shorter, le)) le (λ i lt. is.elsewhere i (omega (arith, lt, le)) (outside_one end 1 i (inl lt))) in
    (drop end c, sym (take-append-drop end c) ∙ ap (λ (l : List ℕ). l ++ drop end c) prefix, omega (arith, length-drop end c, is.no_longer, last))

pub end_is : (file : List ℕ) (end : ℕ) → length file ≤ end + 1 → overwritten end (0 ∷ []) file ≡ take end file ++ 0 ∷ []
end_is file end last = ap (λ (l : List ℕ). (take end file ++ 0 ∷ []) ++ l) (drop_all (end + 1) file (omega (arith, last))) ∙ append-nil (take end file ++ 0 ∷ [])

-- a file that is at rest
pub file_rests : (n : Moment) → n ≡ resting n.seen → (c : List ℕ) → IsImage n c → c ≡ n.seen
file_rests n rest c is = rested n.seen c (subst (λ m. IsImage m c) rest is)

pub cut_step : (n : Moment) → n ≡ resting n.seen → (end : ℕ) → end + 1 ≤ length n.seen → IsStepOver (IsBefore (take (end + 1) n.seen)) n (moment_after_cut (end + 1) n)
cut_step n rest end within = record {
  before = λ c is. (drop (end + 1) n.seen, file_rests n rest c is ∙ sym (take-append-drop (end + 1) n.seen));
  between = λ c is. cut_image n.seen c (end + 1) within (subst (λ m. IsImage (moment_after_cut (end + 1) m) c) rest is);
  after = ([], sym (append-nil (take (end + 1) n.seen)));
}

pub shut_step : (n : Moment) → n ≡ resting n.seen → (end : ℕ) → end ≤ length n.seen → length n.seen ≤ end + 1 → IsStepOver (IsPrefixAndOne (take end n.seen)) n (moment_after_write end (0 ∷ []) n)
shut_step n rest end within last = record {
  before = λ c is. (drop end n.seen, file_rests n rest c is ∙ sym (take-append-drop end n.seen), omega (arith, length-drop end n.seen, last));
  between = λ c is. end_image n.seen c end within last (subst (λ m. IsImage (moment_after_write end (0 ∷ []) m) c) rest is);
  after = (0 ∷ [], end_is n.seen end last, omega arith);
}

-- at most as long as the file of no payload
pub renew_step : (n : Moment) → n ≡ resting n.seen → length n.seen ≤ 9 → IsStepOver (λ c. length c ≤ 9) n (moment_after_write 0 (mark ++ 0 ∷ []) n)
renew_step n rest short = record {
  before = λ c is. omega (arith, short, ap length (file_rests n rest c is));
  between = λ c is. short_write n.seen (mark ++ 0 ∷ []) c short refl (subst (λ m. IsImage (moment_after_write 0 (mark ++ 0 ∷ []) m) c) rest is);
  after = omega (arith, ap length (over_short n.seen (mark ++ 0 ∷ []) short refl));
}
