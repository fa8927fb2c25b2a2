-- Lists of nodes by rising number.
use Rattle.std.specs.Prelude.{◌≡◌, ◌⊎◌, ◌<◌, ◌≤◌, ◌+◌, ◌-◌, ℕ, zero, suc, Bool, true, false, ◌||◌, nat_eq, nat_lt, List, [], ◌∷◌, ◌++◌, length, take, drop, slice_index_or, refl}
use Rattle.std.specs.List.{insert}
use Rattle.std.proofs.Common.{sym, ap, ◌∙◌, subst, inl, inr, arith}
use Rattle.std.proofs.lemmas.Bool.{false_from_ne_true, or_cases, cases_lt, eqb-true, eq-eqb, ltb-true, ltb-false}
use Rattle.std.proofs.lemmas.List.{length_push, get_or_append_left, get_or_push, take-append-drop}
use Rattle.std.proofs.lemmas.List.Edits.{length-insert, get_or-insert_below, get_or-insert_at, get_or-insert_above}
use Rattle.std.proofs.lemmas.List.Folds.{list_any-append, list_any_at, Any-from_list_any}
use Rattle.std.proofs.lemmas.List.Quantifiers.{all_pairs_push}
use Rattle.std.specs.List.Sorted.{IsNonDecreasing, IsPartitionPoint}
use Rattle.node_pool.specs.Free.{AreRising, has_node}

-- ---- truth values
pub or_end : (a b : Bool) → (a || (b || false)) ≡ (a || b)
or_end true b = refl
or_end false true = refl
or_end false false = refl

-- ---- which nodes they are
pub has-push : (ns : List ℕ) (n i : ℕ) → has_node (ns ++ n ∷ []) i ≡ (has_node ns i || nat_eq n i)
has-push ns n i = list_any-append (λ m. nat_eq m i) ns (n ∷ []) ∙ or_end (has_node ns i) (nat_eq n i)

-- each number at a place is below n
abbrev pub AreBelow : List ℕ → ℕ → Type 0
AreBelow ns n = (k d : ℕ) → k < length ns → slice_index_or ns k d < n

pub below_has : (ns : List ℕ) (n i : ℕ) → AreBelow ns n → has_node ns i ≡ true → i < n
below_has ns n i below e =
    let w = Any-from_list_any (λ m. nat_eq m i) ns e in
    omega (arith, below w.0 w.1 w.2, w.3, eqb-true w.1 i w.4)

pub missing : (ns : List ℕ) (n : ℕ) → AreBelow ns n → has_node ns n ≡ false
missing ns n below = false_from_ne_true (has_node ns n) (λ e. let l = below_has ns n n below e in omega (arith, l))

-- ---- one more at the end
pub rising-push : (ns : List ℕ) (n : ℕ) → AreRising ns → AreBelow ns n → AreRising (ns ++ n ∷ [])
rising-push ns n rising below = all_pairs_push (λ m o. m < o) ns n rising (λ k d l. below k d l)

pub below-push : (ns : List ℕ) (n o : ℕ) → AreBelow ns n → n < o → AreBelow (ns ++ n ∷ []) o
below-push ns n o below lt k d l = elim (cases_lt k (length ns)) [
  | inl a ↦ omega (arith, get_or_append_left ns (n ∷ []) d k a, below k d a, lt)
  | inr a ↦ omega (arith, get_or_push ns n d k (let m = length_push ns n in omega (arith, m, a, l)), lt)
]

-- ---- the last one
module _ (ns : List ℕ) (n : ℕ) (rising : AreRising (ns ++ n ∷ [])) where
  pub rising-front : AreRising ns
  rising-front i j d lt l =
      let m = length_push ns n in
      omega (arith, rising i j d lt (omega (arith, m, l)), get_or_append_left ns (n ∷ []) d i (omega (arith, lt, l)), get_or_append_left ns (n ∷ []) d j l)

  pub below-last : AreBelow ns n
  below-last k d l =
      let m = length_push ns n in
      omega (arith, rising k (length ns) d l (omega (arith, m)), get_or_append_left ns (n ∷ []) d k l, get_or_push ns n d (length ns) refl)

  pub greatest_last : (i : ℕ) → has_node (ns ++ n ∷ []) i ≡ true → i ≤ n
  greatest_last i e = elim (or_cases (has_node ns i) (nat_eq n i) (sym (has-push ns n i) ∙ e)) [
    | inl h ↦ (let l = below_has ns n i below-last h in omega (arith, l))
    | inr h ↦ (let q = eqb-true n i h in omega (arith, q))
  ]

  pub has_last : has_node (ns ++ n ∷ []) n ≡ true
  has_last = has-push ns n n ∙ ap (λ b. has_node ns n || b) (eq-eqb n n refl) ∙ or_true (has_node ns n)
    where
      or_true : (a : Bool) → (a || true) ≡ true
      or_true true = refl
      or_true false = refl

-- no place has a node that isn't there
pub other : (ns : List ℕ) (n k d : ℕ) → has_node ns n ≡ false → k < length ns → slice_index_or ns k d ≡ n → ⊥
other ns n k d absent l e = cc (absent, list_any_at (λ m. nat_eq m n) ns k d l (eq-eqb (slice_index_or ns k d) n e))

-- ---- how many
-- a number at place k is at least k, and more than that where a smaller number is missing
abbrev Skips : ℕ → ℕ → ℕ → Type 0
Skips n k m = (k + 1 ≤ m) ⊎ ((m < n) × (k ≤ m))

skips : (ns : List ℕ) (n k d : ℕ) → AreRising ns → has_node ns n ≡ false → k < length ns → Skips n k (slice_index_or ns k d)
skips ns n zero d rising absent l = elim (cases_lt (slice_index_or ns zero d) n) [
  | inl lt ↦ inr (lt, omega arith)
  | inr ge ↦ inl (let o = other ns n zero d absent l in omega (arith, o, ge))
]
skips ns n (suc k) d rising absent l =
    let r = rising k (suc k) d (omega arith) l in
    elim (skips ns n k d rising absent (omega (arith, l))) [
      | inl a ↦ inl (omega (arith, a, r))
      | inr a ↦ elim (cases_lt (slice_index_or ns (suc k) d) n) [
        | inl lt ↦ inr (lt, omega (arith, a, r))
        | inr ge ↦ inl (let o = other ns n (suc k) d absent l in omega (arith, o, ge, a, r))
      ]
    ]

pub fewer : (ns : List ℕ) (n m : ℕ) → AreRising ns → AreBelow ns m → has_node ns n ≡ false → n < m → length ns < m
fewer ns n m rising below absent lt = elim (cases_lt 0 (length ns)) [
  | inl some ↦ (let b = below (length ns - 1) 0 (omega (arith, some)) in
      elim (skips ns n (length ns - 1) 0 rising absent (omega (arith, some))) [
        | inl a ↦ omega (arith, a, b, some)
        | inr a ↦ omega (arith, a, b, some, lt)
      ])
  | inr none ↦ omega (arith, none, lt)
]

-- ---- one more at its place
module _ (ns : List ℕ) (n place : ℕ) (rising : AreRising ns) (within : place ≤ length ns) (before : (k d : ℕ) → k < place → slice_index_or ns k d < n)
    (behind : (k d : ℕ) → place ≤ k → k < length ns → n < slice_index_or ns k d) where
  -- where a number of the new list comes from
  abbrev Source : ℕ → ℕ → ℕ → Type 0
  Source k d m = ((k < place) × (m ≡ slice_index_or ns k d)) ⊎ (((k ≡ place) × (m ≡ n)) ⊎ ((place < k) × (m ≡ slice_index_or ns (k - 1) d)))

  source : (k d : ℕ) → Source k d (slice_index_or (insert ns place n) k d)
  source k d = elim (cases_lt k place) [
    | inl lt ↦ inl (lt, get_or-insert_below ns place n d k lt within)
    | inr ge ↦ elim (cases_lt place k) [
      | inl gt ↦ inr (inr (gt, subst (λ m. slice_index_or (insert ns place n) m d ≡ slice_index_or ns (k - 1) d) (omega (arith, gt)) (get_or-insert_above ns place n d (k - 1) (omega (arith, gt)) within)))
      | inr le ↦ (let e : place ≡ k = omega (arith, ge, le) in inr (inl (sym e, subst (λ m. slice_index_or (insert ns place n) m d ≡ n) e (get_or-insert_at ns place n d within))))
    ]
  ]

  pub rising-insert : AreRising (insert ns place n)
  rising-insert i j d lt l =
      let size = length-insert ns place n within in
      elim (source i d) [
        | inl a ↦ elim (source j d) [
          | inl b ↦ omega (arith, a, b, rising i j d lt (omega (arith, b, within)))
          | inr c ↦ elim c [
            | inl b ↦ omega (arith, a, b, before i d a.0)
            | inr b ↦ (let m : j - 1 < length ns = omega (arith, size, l, b) in
                elim (cases_lt i (j - 1)) [
                  | inl f ↦ omega (arith, a, b, rising i (j - 1) d f m)
                  | inr f ↦ omega (arith, a, b, f, lt)
                ])
          ]
        ]
        | inr c ↦ elim c [
          | inl a ↦ elim (source j d) [
            | inl b ↦ omega (arith, a, b, lt)
            | inr e ↦ elim e [
              | inl b ↦ omega (arith, a, b, lt)
              | inr b ↦ omega (arith, a, b, behind (j - 1) d (omega (arith, b)) (omega (arith, size, l, b)))
            ]
          ]
          | inr a ↦ elim (source j d) [
            | inl b ↦ omega (arith, a, b, lt)
            | inr e ↦ elim e [
              | inl b ↦ omega (arith, a, b, lt)
              | inr b ↦ omega (arith, a, b, rising (i - 1) (j - 1) d (omega (arith, a, lt)) (omega (arith, size, l, b)))
            ]
          ]
        ]
      ]

pub has-insert : (ns : List ℕ) (n place i : ℕ) → has_node (insert ns place n) i ≡ (has_node ns i || nat_eq n i)
has-insert ns n place i =
    list_any-append (λ m. nat_eq m i) (take place ns) (n ∷ drop place ns)
    ∙ moved (has_node (take place ns) i) (nat_eq n i) (has_node (drop place ns) i)
    ∙ ap (λ b. b || nat_eq n i) (sym (list_any-append (λ m. nat_eq m i) (take place ns) (drop place ns)) ∙ ap (λ (ms : List ℕ). has_node ms i) (take-append-drop place ns))
  where
    moved : (a e b : Bool) → (a || (e || b)) ≡ ((a || b) || e)
    moved true e b = refl
    moved false true true = refl
    moved false true false = refl
    moved false false true = refl
    moved false false false = refl

-- ---- the place of a node that isn't there
pub non_decreasing : (ns : List ℕ) → AreRising ns → IsNonDecreasing ns
non_decreasing ns rising i j d le l = elim (cases_lt i j) [
  | inl lt ↦ (let r = rising i j d lt l in omega (arith, r))
  | inr ge ↦ (let e : i ≡ j = omega (arith, le, ge) in omega (arith, ap (λ k. slice_index_or ns k d) e))
]

-- the numbers below n stand before the place, and the others from it on
module _ (ns : List ℕ) (n place : ℕ) (absent : has_node ns n ≡ false) (parted : IsPartitionPoint (λ m. nat_lt m n ≡ true) (λ m. nat_lt m n ≡ false) ns place) where
  pub less_before : (k d : ℕ) → k < place → slice_index_or ns k d < n
  less_before k d l = ltb-true (slice_index_or ns k d) n (parted.0 k d (omega arith) l)

  pub more_behind : (k d : ℕ) → place ≤ k → k < length ns → n < slice_index_or ns k d
  more_behind k d g l =
      let ge = ltb-false (slice_index_or ns k d) n (parted.1 k d g l) in
      let o = other ns n k d absent l in
      omega (arith, ge, o)
