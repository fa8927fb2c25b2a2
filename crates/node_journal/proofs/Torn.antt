-- What a crash leaves in each step of an append.
use Rattle.std.proofs.Common.{◌≡◌, ◌⊎◌, inl, inr, ℕ, zero, suc, ◌+◌, ◌≤◌, ◌<◌, false, List, [], ◌∷◌, ◌++◌, length, take, drop, get_or, refl, sym, ◌∙◌, ap, subst, append_assoc, arith, take-append-drop, length-append}
use Rattle.std.proofs.lemmas.Grind.{common_steps}
use Rattle.std.proofs.lemmas.Bool.{cases_eq}
use Rattle.std.proofs.lemmas.Bool.Decides.{nat_tests}
use Rattle.std.proofs.lemmas.List.{ext_get_or, take_all, drop_all, take_at, append-nil, drop_more, drop_at}
use Rattle.outside.specs.Images.{IsImage, is_in_ranges, overwritten, moment_after_write, resting}
use Rattle.node_journal.specs.Gate.{IsBefore, IsBeforeOrWith}
use Rattle.node_journal.specs.Lemmas.Resting.{rested}

pub outside_one : (at n i : ℕ) → (i < at) ⊎ (at + n ≤ i) → is_in_ranges ((at, n) ∷ []) i ≡ false
outside_one at n i away = grind (arith, nat_tests)

-- the first n bytes, where each is the same
pub same_prefix : (n : ℕ) (a b : List ℕ) → n ≤ length a → n ≤ length b → ((i : ℕ) → i < n → get_or a i 0 ≡ get_or b i 0) → take n a ≡ take n b
same_prefix n a b la lb each = ext_get_or 0 (take n a) (take n b) (grind (arith, common_steps)) (λ i lt. let small : i < n = grind (arith, common_steps) in let one : get_or (take n a) i 0 ≡ get_or a i 0 = grind (arith, common_steps) in let two : get_or (take n b) i 0 ≡ get_or b i 0 = grind (arith, common_steps) in one ∙ each i small ∙ sym two)

-- behind the end was written: the file stands in front
pub behind : (file bytes c : List ℕ) (at : ℕ) → length file ≡ at → IsImage (moment_after_write at bytes (resting file)) c → IsBefore file c
behind file bytes c at len is =
    let prefix : take at c ≡ take at file = same_prefix at c file (omega (arith, is.no_shorter)) (omega arith) (λ i lt. is.elsewhere i (omega arith) (outside_one at (length bytes) i (inl lt))) in
    (drop at c, sym (take-append-drop at c) ∙ ap (λ (l : List ℕ). l ++ drop at c) (prefix ∙ take_all at file (omega arith)))

pub wrote_behind : (file bytes : List ℕ) (at : ℕ) → length file ≡ at → overwritten at bytes file ≡ file ++ bytes
wrote_behind file bytes at len =
    ap (λ (l : List ℕ). l ++ bytes ++ drop (at + length bytes) file) (take_all at file (omega arith)) ∙ ap (λ (l : List ℕ). file ++ bytes ++ l) (drop_all (at + length bytes) file (omega arith)) ∙ append-nil (file ++ bytes)

elsewhere_same : (prefix rest : List ℕ) (a b i : ℕ) → (i ≡ length prefix → ⊥) → get_or (prefix ++ a ∷ rest) i 0 ≡ get_or (prefix ++ b ∷ rest) i 0
elsewhere_same [] rest a b zero away = absurd (away refl)
elsewhere_same [] rest a b (suc i) away = refl
elsewhere_same (x ∷ prefix) rest a b zero away = refl
elsewhere_same (x ∷ prefix) rest a b (suc i) away = elsewhere_same prefix rest a b i (λ e. away (ap suc e))

at_same : (prefix rest : List ℕ) (a : ℕ) → get_or (prefix ++ a ∷ rest) (length prefix) 0 ≡ a
at_same [] rest a = refl
at_same (x ∷ prefix) rest a = at_same prefix rest a

-- one byte was written: the rest stands
pub at_gate : (prefix rest c : List ℕ) (old end : ℕ) → length prefix ≡ end → IsImage (moment_after_write end (1 ∷ []) (resting (prefix ++ old ∷ rest))) c → (gate : ℕ) × (c ≡ prefix ++ gate ∷ rest)
at_gate prefix rest c old end len is = (get_or c end 0, ext_get_or 0 c (prefix ++ get_or c end 0 ∷ rest) size each)
  where
    size : length c ≡ length (prefix ++ get_or c end 0 ∷ rest)
    size = omega (arith, length-append prefix (old ∷ rest), length-append prefix (get_or c end 0 ∷ rest), is.no_shorter, is.no_longer)

    apart : (i : ℕ) → i < length c → (i ≡ end → ⊥) → get_or c i 0 ≡ get_or (prefix ++ get_or c end 0 ∷ rest) i 0
    apart i lt ne = is.elsewhere i (omega (arith, lt, size, length-append prefix (old ∷ rest), length-append prefix (get_or c end 0 ∷ rest))) (outside_one end 1 i (side i ne)) ∙ elsewhere_same prefix rest old (get_or c end 0) i (λ e. ne (e ∙ len))
      where
        side : (i : ℕ) → (i ≡ end → ⊥) → (i < end) ⊎ (end + 1 ≤ i)
        side i ne = grind arith

    here : (i : ℕ) → i ≡ end → get_or c i 0 ≡ get_or (prefix ++ get_or c end 0 ∷ rest) i 0
    here i e = ap (λ (k : ℕ). get_or c k 0) e ∙ sym (at_same prefix rest (get_or c end 0)) ∙ ap (λ (k : ℕ). get_or (prefix ++ get_or c end 0 ∷ rest) k 0) (len ∙ sym e)

    each : (i : ℕ) → i < length c → get_or c i 0 ≡ get_or (prefix ++ get_or c end 0 ∷ rest) i 0
    each i lt = elim (cases_eq i end) [ inl e ↦ here i e | inr ne ↦ apart i lt ne ]

-- the file with its last byte apart
last_apart : (file : List ℕ) (end : ℕ) → length file ≡ end + 1 → file ≡ take end file ++ get_or file end 0 ∷ []
last_apart file end len =
    sym (take-append-drop end file) ∙ ap (λ (l : List ℕ). take end file ++ l) (drop_more file end 0 (omega arith) ∙ ap (λ (l : List ℕ). get_or file end 0 ∷ l) (drop_all (end + 1) file (omega arith)))

module _ (file payload : List ℕ) (end : ℕ) (len : length file ≡ end + 1) where
  P : List ℕ → Type 0
  P = IsBeforeOrWith file end payload

  prefix : length (take end file) ≡ end
  prefix = grind (arith, common_steps)

  staged : overwritten (end + 1) payload file ≡ take end file ++ get_or file end 0 ∷ payload
  staged = wrote_behind file payload (end + 1) len ∙ ap (λ (l : List ℕ). l ++ payload) (last_apart file end len) ∙ append_assoc (take end file) (get_or file end 0 ∷ []) payload

  pub before_all : (c : List ℕ) → IsImage (resting file) c → IsBeforeOrWith file end payload c
  before_all c is = inl ([], rested file c is ∙ sym (append-nil file))

  pub first_write : (c : List ℕ) → IsImage (moment_after_write (end + 1) payload (resting file)) c → IsBeforeOrWith file end payload c
  first_write c is = inl (behind file payload c (end + 1) len is)

  pub first_sync : (c : List ℕ) → IsImage (resting (overwritten (end + 1) payload file)) c → IsBeforeOrWith file end payload c
  first_sync c is = inl (payload, rested _ c is ∙ wrote_behind file payload (end + 1) len)

  pub second_write : (c : List ℕ) → IsImage (moment_after_write end (1 ∷ []) (resting (overwritten (end + 1) payload file))) c → IsBeforeOrWith file end payload c
  second_write c is = inr (at_gate (take end file) payload c (get_or file end 0) end prefix (subst (λ (l : List ℕ). IsImage (moment_after_write end (1 ∷ []) (resting l)) c) staged is))

  -- the bytes with the gate open
  pub opened : overwritten end (1 ∷ []) (overwritten (end + 1) payload file) ≡ take end file ++ 1 ∷ payload
  opened = ap (λ (l : List ℕ). overwritten end (1 ∷ []) l) staged ∙ over
    where
      over : overwritten end (1 ∷ []) (take end file ++ get_or file end 0 ∷ payload) ≡ take end file ++ 1 ∷ payload
      over = ap (λ (l : List ℕ). l ++ (1 ∷ []) ++ drop (end + 1) (take end file ++ get_or file end 0 ∷ payload)) (take_at (take end file) (get_or file end 0 ∷ payload) end prefix) ∙ ap (λ (l : List ℕ). (take end file ++ 1 ∷ []) ++ l) tail ∙ append_assoc (take end file) (1 ∷ []) payload
        where
          tail : drop (end + 1) (take end file ++ get_or file end 0 ∷ payload) ≡ payload
          tail = ap (λ (l : List ℕ). drop (end + 1) l) (sym (append_assoc (take end file) (get_or file end 0 ∷ []) payload)) ∙ drop_at (take end file ++ get_or file end 0 ∷ []) payload (end + 1) (omega (arith, prefix, length-append (take end file) (get_or file end 0 ∷ [])))

  pub second_sync : (c : List ℕ) → IsImage (resting (overwritten end (1 ∷ []) (overwritten (end + 1) payload file))) c → IsBeforeOrWith file end payload c
  second_sync c is = inr (1, rested _ c is ∙ opened)
