-- Lemmas: a history goes on from an earlier moment.
use Rattle.std.specs.Prelude.{◌≡◌, ℕ, ◌≤◌, ◌<◌, List, [], ◌∷◌, ◌++◌, length, take, Option, None, Some, slice_get, refl}
use Rattle.std.proofs.Common.{arith, sym, ◌∙◌, ap, inl, inr, length-append, length-take}
use Rattle.std.proofs.lemmas.List.{take-take, take_all}
use Rattle.std.proofs.lemmas.Option.{slice_get_cases, slice_get_within}
use Rattle.outside.specs.Images.{IsImage}
use Rattle.outside.specs.declared.moment.Moment.{Moment}
use Rattle.node_journal.specs.History.{first_of, count_of, BeginsWith, IsPrefixOf, Agree, Keeps, RemainsFrom, ExtendsMoments, IsHistory, KeepsHistory}
use Rattle.node_journal.specs.Records.{Records, Intact, Foreign, BrokenAt, records}
use Rattle.node_journal.specs.Lemmas.Histories.{side, get_seam}

fewer : (n : ℕ) (s : Records) → count_of (first_of n s) ≤ count_of s
fewer n (Intact ps) = omega (arith, length-take n ps)
fewer n Foreign = omega arith
fewer n (BrokenAt place) = omega arith

first_of_first : (k l : ℕ) (s : Records) → k ≤ l → first_of k s ≡ first_of k (first_of l s)
first_of_first k l (Intact ps) le = ap Intact (sym (take-take k l ps le))
first_of_first k l Foreign le = refl
first_of_first k l (BrokenAt place) le = refl

-- a moment inside a list
slice_get_is : (ms : List Moment) (i : ℕ) → i < length ms → (x : Moment) × (slice_get ms i ≡ Some x)
slice_get_is ms i lt = elim (slice_get_cases ms i).1 [
  | inl some ↦ (some.0, some.2)
  | inr past ↦ absurd (omega (arith, lt, past.0))
]

-- what begins a list of payloads agrees with what begins with all of them
agree_beyond : (ps : List (List ℕ)) (r s : Records) → IsPrefixOf ps r → BeginsWith ps s → Agree r s
agree_beyond ps r s less more = ap (λ (x : Records). first_of (count_of s) x) less ∙ ap Intact same ∙ sym there
  where
    short : count_of r ≤ length ps
    short = omega (arith, ap count_of less, length-take (count_of r) ps)

    long : length ps ≤ count_of s
    long = omega (arith, ap count_of more, fewer (length ps) s)

    there : first_of (count_of r) s ≡ Intact (take (count_of r) ps)
    there = first_of_first (count_of r) (length ps) s short ∙ ap (λ (x : Records). first_of (count_of r) x) more

    same : take (count_of s) (take (count_of r) ps) ≡ take (count_of r) ps
    same = take_all (count_of s) (take (count_of r) ps) (omega (arith, length-take (count_of r) ps, short, long))

-- Two histories are joined: at the last moment of the first each crash leaves all of its payloads, and the second begins at a moment of the first.
module _ (from since : ℕ) (past past' : List Moment) (now now' : Moment) (ps : List (List ℕ)) (first : KeepsHistory from past now ps None) (all : Keeps ps now)
    (extends : ExtendsMoments (past ++ now ∷ []) (past' ++ now' ∷ [])) (begun : since ≤ length past) (next : IsHistory since (past' ++ now' ∷ [])) where
  old : (i : ℕ) (m : Moment) → i ≤ length past → slice_get (past' ++ now' ∷ []) i ≡ Some m → slice_get (past ++ now ∷ []) i ≡ Some m
  old i m le at = same (slice_get_is (past ++ now ∷ []) i (omega (arith, le, length-append past (now ∷ []))))
    where
      same : (x : Moment) × (slice_get (past ++ now ∷ []) i ≡ Some x) → slice_get (past ++ now ∷ []) i ≡ Some m
      same w = w.1 ∙ sym (extends i w.0 w.1) ∙ at

  -- behind the first history each crash leaves all of its payloads
  later : (j : ℕ) (n : Moment) (d : List ℕ) → length past ≤ j → slice_get (past' ++ now' ∷ []) j ≡ Some n → IsImage n d → BeginsWith ps (records d)
  later j n d le at is = next.lasting (length past) j now n ps begun le (extends (length past) now (get_seam past now [])) at all d is

  prefix : (i : ℕ) (m : Moment) (c : List ℕ) → from ≤ i → i ≤ length past → slice_get (past' ++ now' ∷ []) i ≡ Some m → IsImage m c → IsPrefixOf ps (records c)
  prefix i m c ge le at is = first.prefixes refl i m c ge (old i m le at) is

  reads : (i : ℕ) (m : Moment) (c : List ℕ) → from ≤ i → slice_get (past' ++ now' ∷ []) i ≡ Some m → IsImage m c → BeginsWith [] (records c)
  reads i m c ge at is = elim (side i (length past)) [
    | inl le ↦ first.history.reads i m c ge (old i m le at) is
    | inr gt ↦ next.reads i m c (omega (arith, begun, gt)) at is
  ]

  agreeing : (i j : ℕ) (m n : Moment) (c d : List ℕ) → from ≤ i → from ≤ j → slice_get (past' ++ now' ∷ []) i ≡ Some m → slice_get (past' ++ now' ∷ []) j ≡ Some n → IsImage m c → IsImage n d → Agree (records c) (records d)
  agreeing i j m n c d gi gj ati atj isc isd = elim (side i (length past)) [
    | inl li ↦ elim (side j (length past)) [
      | inl lj ↦ first.history.agreeing i j m n c d gi gj (old i m li ati) (old j n lj atj) isc isd
      | inr gt ↦ agree_beyond ps (records c) (records d) (prefix i m c gi li ati isc) (later j n d (omega (arith, gt)) atj isd)
    ]
    | inr gti ↦ elim (side j (length past)) [
      | inl lj ↦ sym (agree_beyond ps (records d) (records c) (prefix j n d gj lj atj isd) (later i m c (omega (arith, gti)) ati isc))
      | inr gtj ↦ next.agreeing i j m n c d (omega (arith, begun, gti)) (omega (arith, begun, gtj)) ati atj isc isd
    ]
  ]

  lasting : (i j : ℕ) (m n : Moment) (qs : List (List ℕ)) → from ≤ i → i ≤ j → slice_get (past' ++ now' ∷ []) i ≡ Some m → slice_get (past' ++ now' ∷ []) j ≡ Some n → Keeps qs m → Keeps qs n
  lasting i j m n qs ge le ati atj keeps = elim (side i (length past)) [
    | inl li ↦ elim (side j (length past)) [
      | inl lj ↦ first.history.lasting i j m n qs ge le (old i m li ati) (old j n lj atj) keeps
      | inr gt ↦ next.lasting (length past) j now n qs begun (omega (arith, gt)) (extends (length past) now (get_seam past now [])) atj
          (first.history.lasting i (length past) m now qs ge li (old i m li ati) (get_seam past now []) keeps)
    ]
    | inr gt ↦ next.lasting i j m n qs (omega (arith, begun, gt)) le ati atj keeps
  ]

  remaining : (qs : List (List ℕ)) → RemainsFrom from (past' ++ now' ∷ []) (λ c. BeginsWith qs (records c))
  remaining qs i j m n ge le ati atj may = elim (side i (length past)) [
    | inl li ↦ elim (side j (length past)) [
      | inl lj ↦ first.history.remaining qs i j m n ge le (old i m li ati) (old j n lj atj) may
      | inr gt ↦ next.remaining qs (length past) j now n begun (omega (arith, gt)) (extends (length past) now (get_seam past now [])) atj
          (first.history.remaining qs i (length past) m now ge li (old i m li ati) (get_seam past now []) may)
    ]
    | inr gt ↦ next.remaining qs i j m n (omega (arith, begun, gt)) le ati atj may
  ]

  -- the second history goes on from where the first began
  pub histories_joined : IsHistory from (past' ++ now' ∷ [])
  histories_joined = record { reads = reads; agreeing = agreeing; lasting = lasting; remaining = remaining }

prefix_longer : (ps qs : List (List ℕ)) (r : Records) → take (length ps) qs ≡ ps → IsPrefixOf ps r → IsPrefixOf qs r
prefix_longer ps qs r begins is = is ∙ ap Intact (ap (λ (l : List (List ℕ)). take (count_of r) l) (sym begins) ∙ take-take (count_of r) (length ps) qs short)
  where
    short : count_of r ≤ length ps
    short = omega (arith, ap count_of is, length-take (count_of r) ps)

-- The same with all that a journal keeps, where the payloads of the second begin with those of the first.
pub keeps_joined : (from since : ℕ) (past past' : List Moment) (now now' : Moment) (ps : List (List ℕ)) → KeepsHistory from past now ps None → Keeps ps now → ExtendsMoments (past ++ now ∷ []) (past' ++ now' ∷ [])
    → since ≤ length past → (qs : List (List ℕ)) (fault : Option ℕ) → KeepsHistory since past' now' qs fault → (fault ≡ None → take (length ps) qs ≡ ps) → KeepsHistory from past' now' qs fault
keeps_joined from since past past' now now' ps first all extends begun qs fault next begins = record {
  begun = omega (arith, first.begun, slice_get_within (past' ++ now' ∷ []) (length past) now (extends (length past) now (get_seam past now [])), length-append past' (now' ∷ []));
  history = histories_joined from since past past' now now' ps first all extends begun next.history;
  prefixes = λ sound i m c ge at is. elim (side i (length past)) [
    | inl le ↦ prefix_longer ps qs (records c) (begins sound) (first.prefixes refl i m c ge (old from since past past' now now' ps first all extends begun next.history i m le at) is)
    | inr gt ↦ next.prefixes sound i m c (omega (arith, begun, gt)) at is
  ];
}
