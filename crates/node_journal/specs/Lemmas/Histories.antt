-- How a history goes on, for this crate and those above.
use Rattle.std.specs.Prelude.{◌≡◌, ◌⊎◌, ℕ, zero, suc, ◌+◌, ◌-◌, ◌≤◌, ◌<◌, List, [], ◌∷◌, ◌++◌, length, take, drop, Option, Some, slice_get, refl}
use Rattle.std.proofs.Common.{arith, ap, subst, sym, ◌∙◌, inl, inr, ⊎_elim, append_assoc, length-append, length-take, take-append-drop}
use Rattle.std.proofs.lemmas.List.{take_all, take-take, take-append-le}
use Rattle.std.proofs.lemmas.Option.{none-some, same_Some, slice_get_within}
use Rattle.std.proofs.Math.Logic.{∥∥₁_elim, ∥∥₁_map, ∥∥₁_prop}
use Rattle.outside.specs.Images.{IsImage, Leaves, LeavesOnly, NoMomentPasses, OneMomentPasses, Fails}
use Rattle.outside.specs.declared.moment.Moment.{Moment}
use Rattle.node_journal.specs.Appends.{IsWithOrWithout}
use Rattle.node_journal.specs.History.{first_of, count_of, BeginsWith, IsPrefixOf, Agree, Keeps, EachFrom, SomeFrom, Anything, MayLeave, RemainsFrom, ExtendsMoments, IsHistory, KeepsHistory}
use Rattle.node_journal.specs.Records.{Records, Intact, payloads_held, records}

pub side : (i l : ℕ) → (i ≤ l) ⊎ (l < i)
side i l = grind arith

-- places in two lists
get_left : (xs ys : List Moment) (i : ℕ) → i < length xs → slice_get (xs ++ ys) i ≡ slice_get xs i
get_left [] ys i lt = absurd (omega (arith, lt))
get_left (x ∷ xs) ys zero lt = refl
get_left (x ∷ xs) ys (suc i) lt = get_left xs ys i (omega (arith, lt))

get_right : (xs ys : List Moment) (i : ℕ) → length xs ≤ i → slice_get (xs ++ ys) i ≡ slice_get ys (i - length xs)
get_right [] ys i le = ap (λ (k : ℕ). slice_get ys k) (omega arith)
get_right (x ∷ xs) ys zero le = absurd (omega (arith, le))
get_right (x ∷ xs) ys (suc i) le = get_right xs ys i (omega (arith, le)) ∙ ap (λ (k : ℕ). slice_get ys k) (omega arith)

pub get_seam : (xs : List Moment) (y : Moment) (ys : List Moment) → slice_get (xs ++ y ∷ ys) (length xs) ≡ Some y
get_seam [] y ys = refl
get_seam (x ∷ xs) y ys = get_seam xs y ys

-- what stands at the end, and before it
at_last : (past : List Moment) (now : Moment) (i : ℕ) (m : Moment) → length past ≤ i → slice_get (past ++ now ∷ []) i ≡ Some m → now ≡ m
at_last past now i m late at =
    same_Some now m (sym (get_seam past now []) ∙ ap (λ (k : ℕ). slice_get (past ++ now ∷ []) k) (omega (arith, late, slice_get_within (past ++ now ∷ []) i m at, length-append past (now ∷ []))) ∙ at)

at_before : (past : List Moment) (now : Moment) (i : ℕ) (m : Moment) → i < length past → slice_get (past ++ now ∷ []) i ≡ Some m → slice_get past i ≡ Some m
at_before past now i m lt at = sym (get_left past (now ∷ []) i lt) ∙ at

leaves_at : (P : List ℕ → Type 0) (ms : List Moment) (i : ℕ) (m : Moment) (c : List ℕ) → Leaves P ms → slice_get ms i ≡ Some m → IsImage m c → P c
leaves_at P [] i m c all at is = absurd (none-some m at)
leaves_at P (x ∷ ms) zero m c all at is = all.0 c (subst (λ n. IsImage n c) (sym (same_Some x m at)) is)
leaves_at P (x ∷ ms) (suc i) m c all at is = leaves_at P ms i m c all.1 at is

pub begins_all : (ps : List (List ℕ)) → BeginsWith [] (Intact ps)
begins_all ps = refl

begins_more : (qs ps more : List (List ℕ)) → BeginsWith qs (Intact ps) → BeginsWith qs (Intact (ps ++ more))
begins_more qs ps more is = ap Intact (take-append-le (length qs) ps more short ∙ same)
  where
    same : take (length qs) ps ≡ qs
    same = ap payloads_held is

    short : length qs ≤ length ps
    short = omega (arith, length-take (length qs) ps, ap length same)

pub prefix_self : (ps more : List (List ℕ)) → IsPrefixOf (ps ++ more) (Intact ps)
prefix_self ps more = ap Intact (sym (take-append-le (length ps) ps more (omega arith) ∙ take_all (length ps) ps (omega arith)))

pub prefix_more : (ps more : List (List ℕ)) (r : Records) → IsPrefixOf ps r → IsPrefixOf (ps ++ more) r
prefix_more ps more r is = is ∙ ap Intact (sym (take-append-le (count_of r) ps more short))
  where
    short : count_of r ≤ length ps
    short = omega (arith, ap count_of is, length-take (count_of r) ps)

begins_prefix : (qs ps : List (List ℕ)) (r : Records) → IsPrefixOf ps r → BeginsWith qs r → BeginsWith qs (Intact ps)
begins_prefix qs ps r is begins = subst (λ (l : List (List ℕ)). BeginsWith qs (Intact l)) (take-append-drop (count_of r) ps) (begins_more qs (take (count_of r) ps) (drop (count_of r) ps) (subst (λ (x : Records). BeginsWith qs x) is begins))

-- what begins one list
pub agree_prefixes : (ps : List (List ℕ)) (r s : Records) → IsPrefixOf ps r → IsPrefixOf ps s → Agree r s
agree_prefixes ps r s a b = ap (λ (x : Records). first_of (count_of s) x) a ∙ ap Intact (both (count_of s) (count_of r)) ∙ sym (ap (λ (x : Records). first_of (count_of r) x) b)
  where
    low : (k l : ℕ) → k ≤ l → take k (take l ps) ≡ take l (take k ps)
    low k l le = take-take k l ps le ∙ sym (take_all l (take k ps) (omega (arith, le, length-take k ps)))

    both : (k l : ℕ) → take k (take l ps) ≡ take l (take k ps)
    both k l = elim (side k l) [ inl le ↦ low k l le | inr gt ↦ sym (low l k (omega (arith, gt))) ]

pub begins_none : (ps : List (List ℕ)) (r : Records) → IsPrefixOf ps r → BeginsWith [] r
begins_none ps r is = ap (λ (x : Records). first_of 0 x) is

-- a run of calls, from one moment to a later one
module _ (past : List Moment) (now : Moment) (past' : List Moment) (now' : Moment) (P : List ℕ → Type 0) (run : LeavesOnly past now past' now' P) where
  pub longer : length past ≤ length past'
  longer = omega (arith, ap length run.passed, length-append past' (now' ∷ []), length-append past (now ∷ run.moments))

  pub run_each : EachFrom (length past) (past' ++ now' ∷ []) P
  run_each i m c from at is = leaves_at P (now ∷ run.moments) (i - length past) m c run.each (sym (get_right past (now ∷ run.moments) i from) ∙ ap (λ (l : List Moment). slice_get l i) (sym run.passed) ∙ at) is

  pub old_moment : (i : ℕ) (m : Moment) → i ≤ length past → slice_get (past' ++ now' ∷ []) i ≡ Some m → slice_get (past ++ now ∷ []) i ≡ Some m
  old_moment i m le at = elim (side (length past) i) [
    | inl ge ↦ ap (λ (k : ℕ). slice_get (past ++ now ∷ []) k) (same ge) ∙ get_seam past now [] ∙ sym (get_seam past now run.moments) ∙ ap (λ (k : ℕ). slice_get (past ++ now ∷ run.moments) k) (sym (same ge)) ∙ there
    | inr lt ↦ get_left past (now ∷ []) i lt ∙ sym (get_left past (now ∷ run.moments) i lt) ∙ there
  ]
    where
      there : slice_get (past ++ now ∷ run.moments) i ≡ Some m
      there = ap (λ (l : List Moment). slice_get l i) (sym run.passed) ∙ at

      same : length past ≤ i → i ≡ length past
      same ge = omega (arith, le, ge)

  pub continued : ExtendsMoments (past ++ now ∷ []) (past' ++ now' ∷ [])
  continued i m at = ap (λ (l : List Moment). slice_get l i) (run.passed ∙ sym (append_assoc past (now ∷ []) run.moments)) ∙ get_left (past ++ now ∷ []) run.moments i (slice_get_within (past ++ now ∷ []) i m at) ∙ at

pub continued_stands : (past : List Moment) (now : Moment) (past' : List Moment) (now' : Moment) → NoMomentPasses past now past' now' → ExtendsMoments (past ++ now ∷ []) (past' ++ now' ∷ [])
continued_stands past now past' now' stands i m at = ap (λ (l : List Moment). slice_get (l ++ now' ∷ []) i) stands.none ∙ ap (λ x. slice_get (past ++ x ∷ []) i) stands.same ∙ at

-- What a moment of a history keeps, each crash at each later moment leaves.
pub later_keep : (from : ℕ) (ms : List Moment) (i : ℕ) (m : Moment) (ps : List (List ℕ)) → IsHistory from ms → from ≤ i → slice_get ms i ≡ Some m → Keeps ps m → EachFrom i ms (λ c. BeginsWith ps (records c))
later_keep from ms i m ps history ge at keeps j n c le atj is = history.lasting i j m n ps ge le at atj keeps c is

pub some_weaker : (from : ℕ) (past : List Moment) (P Q : List ℕ → Type 0) → ((c : List ℕ) → P c → Q c) → SomeFrom from past P → SomeFrom from past Q
some_weaker from past P Q f all i m ge at = let w = all i m ge at in (w.0, w.1, f w.0 w.2)

-- and so at the last moment too
some_last : (from : ℕ) (past : List Moment) (now : Moment) (P : List ℕ → Type 0) → SomeFrom from past P → (c : List ℕ) × IsImage now c × P c → SomeFrom from (past ++ now ∷ []) P
some_last from past now P all here i m ge at = elim (side (length past) i) [
  | inl last ↦ (here.0, subst (λ x. IsImage x here.0) (at_last past now i m last at) here.1, here.2)
  | inr early ↦ all i m ge (at_before past now i m early at)
]

-- At one moment there is no later one.
pub remains_begun : (past : List Moment) (now : Moment) (P : List ℕ → Type 0) → RemainsFrom (length past) (past ++ now ∷ []) P
remains_begun past now P i j m n ge le ati atj may = subst (λ x. MayLeave P x) (sym (at_last past now i m ge ati) ∙ at_last past now j n (omega (arith, ge, le)) atj) may

-- a history goes on by a call that adds a payload, or fails to
module _ (from : ℕ) (past : List Moment) (now : Moment) (past' : List Moment) (now' : Moment) (ps : List (List ℕ)) (p : List ℕ)
    (so_far : IsHistory from (past ++ now ∷ [])) (prefixes : EachFrom from (past ++ now ∷ []) (λ c. IsPrefixOf ps (records c))) (begun : from ≤ length past)
    (run : LeavesOnly past now past' now' (IsWithOrWithout ps p)) (without : SomeFrom (length past) past' (λ c. records c ≡ Intact ps))
    (here : (c : List ℕ) × IsImage now c × (records c ≡ Intact ps)) where
  prefix_of_new : (c : List ℕ) → IsWithOrWithout ps p c → IsPrefixOf (ps ++ p ∷ []) (records c)
  prefix_of_new c is = ⊎_elim
      (λ old. subst (λ (r : Records). IsPrefixOf (ps ++ p ∷ []) r) (sym old) (prefix_self ps (p ∷ [])))
      (λ new. subst (λ (r : Records). IsPrefixOf (ps ++ p ∷ []) r) (sym new) (ap Intact (sym (take_all (length (ps ++ p ∷ [])) (ps ++ p ∷ []) (omega arith)))))
      is

  -- each crash leaves a prefix of the payloads with the new one
  pub prefixes_grow : EachFrom from (past' ++ now' ∷ []) (λ c. IsPrefixOf (ps ++ p ∷ []) (records c))
  prefixes_grow i m c ge at is = elim (side i (length past)) [
    | inl le ↦ prefix_more ps (p ∷ []) (records c) (prefixes i m c ge (old_moment past now past' now' (IsWithOrWithout ps p) run i m le at) is)
    | inr gt ↦ prefix_of_new c (run_each past now past' now' (IsWithOrWithout ps p) run i m c (omega (arith, gt)) at is)
  ]

  begins_new : (qs : List (List ℕ)) (c : List ℕ) → BeginsWith qs (Intact ps) → IsWithOrWithout ps p c → BeginsWith qs (records c)
  begins_new qs c is held = ⊎_elim
      (λ old. subst (λ (r : Records). BeginsWith qs r) (sym old) is)
      (λ new. subst (λ (r : Records). BeginsWith qs r) (sym new) (begins_more qs ps (p ∷ []) is))
      held

  begins_here : (qs : List (List ℕ)) → Keeps qs now → BeginsWith qs (Intact ps)
  begins_here qs keeps = subst (λ (r : Records). BeginsWith qs r) here.2 (keeps here.0 here.1)

  lasts : (i j : ℕ) (m n : Moment) (qs : List (List ℕ)) → from ≤ i → i ≤ j → slice_get (past' ++ now' ∷ []) i ≡ Some m → slice_get (past' ++ now' ∷ []) j ≡ Some n → Keeps qs m → Keeps qs n
  lasts i j m n qs ge le ati atj keeps = elim (side j (length past)) [
    | inl early ↦ so_far.lasting i j m n qs ge le (old i m (omega (arith, le, early)) ati) (old j n early atj) keeps
    | inr late ↦ elim (side i (length past)) [
      | inl early ↦ from_now (omega (arith, late)) (begins_here qs (so_far.lasting i (length past) m now qs ge early (old i m early ati) (get_seam past now []) keeps))
      | inr gt ↦ elim (side (length past') i) [
        | inl last ↦ subst (λ x. Keeps qs x) (same_Some m n (sym ati ∙ ap (λ (k : ℕ). slice_get (past' ++ now' ∷ []) k) (equal last) ∙ atj)) keeps
        | inr gone ↦ from_now (omega (arith, late)) (begins_by (without i m (omega (arith, gt)) (sym (get_left past' (now' ∷ []) i gone) ∙ ati)))
      ]
    ]
  ]
    where
      old : (k : ℕ) (x : Moment) → k ≤ length past → slice_get (past' ++ now' ∷ []) k ≡ Some x → slice_get (past ++ now ∷ []) k ≡ Some x
      old = old_moment past now past' now' (IsWithOrWithout ps p) run

      from_now : length past ≤ j → BeginsWith qs (Intact ps) → Keeps qs n
      from_now late is c image = begins_new qs c is (run_each past now past' now' (IsWithOrWithout ps p) run j n c late atj image)

      begins_by : (c : List ℕ) × IsImage m c × (records c ≡ Intact ps) → BeginsWith qs (Intact ps)
      begins_by w = subst (λ (r : Records). BeginsWith qs r) w.2 (keeps w.0 w.1)

      equal : length past' ≤ i → i ≡ j
      equal last = omega (arith, last, le, slice_get_within (past' ++ now' ∷ []) j n atj, length-append past' (now' ∷ []))

  -- once some crash leaves the new payload, some crash at each later moment does
  module _ (added : RemainsFrom (length past) (past' ++ now' ∷ []) (λ c. records c ≡ Intact (ps ++ p ∷ []))) (seen : IsImage now' now'.seen) where
    can_leave : SomeFrom (length past) (past' ++ now' ∷ []) (IsWithOrWithout ps p)
    can_leave = some_last (length past) past' now' (IsWithOrWithout ps p) (some_weaker (length past) past' (λ c. records c ≡ Intact ps) (IsWithOrWithout ps p) (λ c is. inl is) without)
        (now'.seen, seen, run_each past now past' now' (IsWithOrWithout ps p) run (length past') now' now'.seen (longer past now past' now' (IsWithOrWithout ps p) run) (get_seam past' now' []) seen)

    remains : (qs : List (List ℕ)) → RemainsFrom from (past' ++ now' ∷ []) (λ c. BeginsWith qs (records c))
    remains qs i j m n ge le ati atj may = elim (side j (length past)) [
      | inl early ↦ so_far.remaining qs i j m n ge le (old i m (omega (arith, le, early)) ati) (old j n early atj) may
      | inr late ↦ ∥∥₁_elim may ∥∥₁_prop (λ w. elim (side i (length past)) [
        | inl early ↦ from_old (omega (arith, late)) (begins_prefix qs ps (records w.0) (prefixes i m w.0 ge (old i m early ati) w.1) w.2)
        | inr gt ↦ ⊎_elim
            (λ is. from_old (omega (arith, late)) (subst (λ (r : Records). BeginsWith qs r) is w.2))
            (λ is. from_new (added i j m n (omega (arith, gt)) le ati atj ∣ (w.0, w.1, is) ∣₁) (subst (λ (r : Records). BeginsWith qs r) is w.2))
            (run_each past now past' now' (IsWithOrWithout ps p) run i m w.0 (omega (arith, gt)) ati w.1)
      ])
    ]
      where
        old : (k : ℕ) (x : Moment) → k ≤ length past → slice_get (past' ++ now' ∷ []) k ≡ Some x → slice_get (past ++ now ∷ []) k ≡ Some x
        old = old_moment past now past' now' (IsWithOrWithout ps p) run

        from_old : length past ≤ j → BeginsWith qs (Intact ps) → MayLeave (λ c. BeginsWith qs (records c)) n
        from_old late is = let w = can_leave j n late atj in ∣ (w.0, w.1, begins_new qs w.0 is w.2) ∣₁

        from_new : MayLeave (λ c. records c ≡ Intact (ps ++ p ∷ [])) n → BeginsWith qs (Intact (ps ++ p ∷ [])) → MayLeave (λ c. BeginsWith qs (records c)) n
        from_new may is = ∥∥₁_map may (λ w. (w.0, w.1, subst (λ (r : Records). BeginsWith qs r) (sym w.2) is))

    pub history_grows : IsHistory from (past' ++ now' ∷ [])
    history_grows = record {
      reads = λ i m c ge at is. begins_none (ps ++ p ∷ []) (records c) (prefixes_grow i m c ge at is);
      agreeing = λ i j m n c d gi gj ati atj isc isd. agree_prefixes (ps ++ p ∷ []) (records c) (records d) (prefixes_grow i m c gi ati isc) (prefixes_grow j n d gj atj isd);
      lasting = lasts;
      remaining = remains;
    }

-- a history begins by calls at each moment of which a crash leaves these payloads alone
module _ (past : List Moment) (now : Moment) (past' : List Moment) (now' : Moment) (ps : List (List ℕ)) (run : LeavesOnly past now past' now' (λ c. records c ≡ Intact ps))
    (some : SomeFrom (length past) past' (λ c. records c ≡ Intact ps)) where
  each : EachFrom (length past) (past' ++ now' ∷ []) (λ c. records c ≡ Intact ps)
  each = run_each past now past' now' (λ c. records c ≡ Intact ps) run

  pub prefixes_begin : EachFrom (length past) (past' ++ now' ∷ []) (λ c. IsPrefixOf ps (records c))
  prefixes_begin i m c ge at is = subst (λ (r : Records). IsPrefixOf ps r) (sym (each i m c ge at is)) (ap Intact (sym (take_all (length ps) ps (omega arith))))

  lasts_begin : (i j : ℕ) (m n : Moment) (qs : List (List ℕ)) → length past ≤ i → i ≤ j → slice_get (past' ++ now' ∷ []) i ≡ Some m → slice_get (past' ++ now' ∷ []) j ≡ Some n → Keeps qs m → Keeps qs n
  lasts_begin i j m n qs ge le ati atj keeps = elim (side (length past') i) [
    | inl last ↦ subst (λ x. Keeps qs x) (same_Some m n (sym ati ∙ ap (λ (k : ℕ). slice_get (past' ++ now' ∷ []) k) (equal last) ∙ atj)) keeps
    | inr gone ↦ held (some i m ge (sym (get_left past' (now' ∷ []) i gone) ∙ ati))
  ]
    where
      equal : length past' ≤ i → i ≡ j
      equal last = omega (arith, last, le, slice_get_within (past' ++ now' ∷ []) j n atj, length-append past' (now' ∷ []))

      held : (c : List ℕ) × IsImage m c × (records c ≡ Intact ps) → Keeps qs n
      held w d is = subst (λ (r : Records). BeginsWith qs r) (w.2 ∙ sym (each j n d (omega (arith, ge, le)) atj is)) (keeps w.0 w.1)

  pub history_begins : ((qs : List (List ℕ)) → RemainsFrom (length past) (past' ++ now' ∷ []) (λ c. BeginsWith qs (records c))) → IsHistory (length past) (past' ++ now' ∷ [])
  history_begins remains = record {
    reads = λ i m c ge at is. begins_none ps (records c) (prefixes_begin i m c ge at is);
    agreeing = λ i j m n c d gi gj ati atj isc isd. agree_prefixes ps (records c) (records d) (prefixes_begin i m c gi ati isc) (prefixes_begin j n d gj atj isd);
    lasting = lasts_begin;
    remaining = remains;
  }

-- What remains in such a history: what a read gives at the end is left by a crash. Or no moment went by.
pub remains_each : (past : List Moment) (now : Moment) (past' : List Moment) (now' : Moment) (r : Records) → LeavesOnly past now past' now' (λ c. records c ≡ r) → SomeFrom (length past) past' (λ c. records c ≡ r) → IsImage now' now'.seen
    → (qs : List (List ℕ)) → RemainsFrom (length past) (past' ++ now' ∷ []) (λ c. BeginsWith qs (records c))
remains_each past now past' now' r run some seen qs i j m n ge le ati atj may =
    let w = some_last (length past) past' now' (λ c. records c ≡ r) some last j n (omega (arith, ge, le)) atj in
    ∥∥₁_map may (λ v. (w.0, w.1, subst (λ (x : Records). BeginsWith qs x) (each i m v.0 ge ati v.1 ∙ sym w.2) v.2))
  where
    each : EachFrom (length past) (past' ++ now' ∷ []) (λ c. records c ≡ r)
    each = run_each past now past' now' (λ c. records c ≡ r) run

    last : (c : List ℕ) × IsImage now' c × (records c ≡ r)
    last = (now'.seen, seen, each (length past') now' now'.seen (longer past now past' now' (λ c. records c ≡ r) run) (get_seam past' now' []) seen)

pub remains_stands : (past : List Moment) (now : Moment) (past' : List Moment) (now' : Moment) (P : List ℕ → Type 0) → NoMomentPasses past now past' now' → RemainsFrom (length past) (past' ++ now' ∷ []) P
remains_stands past now past' now' P stands =
    subst (λ m. RemainsFrom (length past) (past' ++ m ∷ []) P) (sym stands.same) (subst (λ (l : List Moment). RemainsFrom (length past) (l ++ now ∷ []) P) (sym stands.none) (remains_begun past now P))

-- moments that a run of calls lets go by, at each of which a crash can leave bytes that have P
pub some_none : (past : List Moment) (P : List ℕ → Type 0) → SomeFrom (length past) past P
some_none past P i m ge at = absurd (omega (arith, ge, slice_get_within past i m at))

pub some_grown : (from : ℕ) (past : List Moment) (now : Moment) (past' : List Moment) (P : List ℕ → Type 0) → SomeFrom from past P → (c : List ℕ) × IsImage now c × P c → past' ≡ past ++ now ∷ [] → SomeFrom from past' P
some_grown from past now past' P so_far here grew = subst (λ (l : List Moment). SomeFrom from l P) (sym grew) (some_last from past now P so_far here)

pub some_goes : (from : ℕ) (past : List Moment) (now : Moment) (past' : List Moment) (now' next : Moment) (P : List ℕ → Type 0) → SomeFrom from past P → (c : List ℕ) × IsImage now c × P c → OneMomentPasses past now past' now' next → SomeFrom from past' P
some_goes from past now past' now' next P so_far here goes = some_grown from past now past' P so_far here goes.passed

pub some_fails : (from : ℕ) (past : List Moment) (now : Moment) (past' : List Moment) (now' done : Moment) (P : List ℕ → Type 0) → SomeFrom from past P → (c : List ℕ) × IsImage now c × P c → Fails past now past' now' done → SomeFrom from past' P
some_fails from past now past' now' done P so_far here fails = elim fails.passed [
  | inl same ↦ subst (λ (l : List Moment). SomeFrom from l P) (sym same.0) so_far
  | inr grew ↦ some_grown from past now past' P so_far here grew
]

pub some_stands : (past : List Moment) (now : Moment) (past' : List Moment) (now' : Moment) (P : List ℕ → Type 0) → NoMomentPasses past now past' now' → SomeFrom (length past) past' P
some_stands past now past' now' P stands = subst (λ (l : List Moment). SomeFrom (length past) l P) (sym stands.none) (some_none past P)

-- what a read gives is something
pub can_seen : (now : Moment) → IsImage now now.seen → (c : List ℕ) × IsImage now c × Anything c
can_seen now is = (now.seen, is, tt)

-- the next run begins where the first ended
pub some_joined : (from : ℕ) (past : List Moment) (now : Moment) (past' : List Moment) (now' : Moment) (P Q : List ℕ → Type 0) → LeavesOnly past now past' now' Q → SomeFrom from past P → SomeFrom (length past) past' P → SomeFrom from past' P
some_joined from past now past' now' P Q run first next i m ge at = elim (side (length past) i) [
  | inl late ↦ next i m late at
  | inr early ↦ first i m ge (sym (get_left past (now ∷ run.moments) i early) ∙ ap (λ (l : List Moment). slice_get l i) (sym run.passed) ∙ get_left past' (now' ∷ []) i (slice_get_within past' i m at) ∙ at)
]

-- a crash can leave something, and all that it can leave has P
pub some_each : (past : List Moment) (now : Moment) (past' : List Moment) (now' : Moment) (P : List ℕ → Type 0) → LeavesOnly past now past' now' P → SomeFrom (length past) past' Anything → SomeFrom (length past) past' P
some_each past now past' now' P run some i m ge at = let w = some i m ge at in
    (w.0, w.1, run_each past now past' now' P run i m w.0 ge (get_left past' (now' ∷ []) i (slice_get_within past' i m at) ∙ at) w.1)

-- What remains after one more call, which let a moment go by, or failed.
pub remains_grown : (from : ℕ) (past : List Moment) (now : Moment) (past' : List Moment) (now' : Moment) (P : List ℕ → Type 0) → RemainsFrom from (past ++ now ∷ []) P → (MayLeave P now → MayLeave P now') → past' ≡ past ++ now ∷ []
    → RemainsFrom from (past' ++ now' ∷ []) P
remains_grown from past now past' now' P so_far on grew i j m n ge le ati atj may = elim (side (length past') j) [
  | inl last ↦ subst (λ x. MayLeave P x) (at_last past' now' j n last atj) (elim (side (length past') i) [
    | inl same ↦ subst (λ x. MayLeave P x) (sym (at_last past' now' i m same ati)) may
    | inr early ↦ on (so_far i (length past) m now ge (omega (arith, early, size)) (old i m early ati) (get_seam past now []) may)
  ])
  | inr early ↦ so_far i j m n ge le (old i m (omega (arith, early, le)) ati) (old j n early atj) may
]
  where
    size : length past' ≡ length past + 1
    size = omega (arith, ap length grew, length-append past (now ∷ []))

    old : (k : ℕ) (x : Moment) → k < length past' → slice_get (past' ++ now' ∷ []) k ≡ Some x → slice_get (past ++ now ∷ []) k ≡ Some x
    old k x lt at = ap (λ (l : List Moment). slice_get l k) (sym grew) ∙ at_before past' now' k x lt at

pub remains_goes : (from : ℕ) (past : List Moment) (now : Moment) (past' : List Moment) (now' next : Moment) (P : List ℕ → Type 0) → RemainsFrom from (past ++ now ∷ []) P → (MayLeave P now → MayLeave P now') → OneMomentPasses past now past' now' next
    → RemainsFrom from (past' ++ now' ∷ []) P
remains_goes from past now past' now' next P so_far on goes = remains_grown from past now past' now' P so_far on goes.passed

pub remains_fails : (from : ℕ) (past : List Moment) (now : Moment) (past' : List Moment) (now' done : Moment) (P : List ℕ → Type 0) → RemainsFrom from (past ++ now ∷ []) P → (MayLeave P now → MayLeave P now') → Fails past now past' now' done
    → RemainsFrom from (past' ++ now' ∷ []) P
remains_fails from past now past' now' done P so_far on fails = elim fails.passed [
  | inl same ↦ subst (λ m. RemainsFrom from (past' ++ m ∷ []) P) (sym same.1) (subst (λ (l : List Moment). RemainsFrom from (l ++ now ∷ []) P) (sym same.0) so_far)
  | inr grew ↦ remains_grown from past now past' now' P so_far on grew
]

-- A call that lets no moment go by keeps what is kept.
pub kept_stands : (from : ℕ) (past : List Moment) (now : Moment) (past' : List Moment) (now' : Moment) (ps : List (List ℕ)) (fault : Option ℕ) → KeepsHistory from past now ps fault → NoMomentPasses past now past' now' → KeepsHistory from past' now' ps fault
kept_stands from past now past' now' ps fault kept stands = subst (λ m. KeepsHistory from past' m ps fault) (sym stands.same) (subst (λ (l : List Moment). KeepsHistory from l now ps fault) (sym stands.none) kept)
