-- What is read of a file whose end is torn.
use Rattle.std.specs.Prelude.{◌≡◌, ℕ, ◌+◌, ◌*◌, ◌≤◌, ◌<◌, true, false, ◌&&◌, nat_eq, nat_lt, List, [], ◌∷◌, ◌++◌, length, take, drop, get_or, refl}
use Rattle.std.proofs.Common.{arith, ap, sym, ◌∙◌, inl, inr, ⊎_elim, append_assoc, length-append, length-drop, take-append-drop}
use Rattle.std.proofs.lemmas.Grind.{common_steps}
use Rattle.std.proofs.lemmas.Bool.{and_left, and_right, cases_eq}
use Rattle.std.proofs.lemmas.Bool.Decides.{nat_tests}
use Rattle.std.proofs.lemmas.List.{take_more}
use Rattle.std.specs.List.{list_all}
use Rattle.outside.specs.Images.{resting}
use Rattle.outside.specs.declared.moment.Moment.{Moment}
use Rattle.node_journal.specs.Records.{Records, Intact, mark, is_gate_open, payloads_held, records}
use Rattle.node_journal.specs.Frames.{frames_of, file_of, end_of, tail_of, has_small_length}
use Rattle.node_journal.proofs.Framing.{records_closed, framed_longer}
use Rattle.node_journal.specs.Gate.{IsBefore, IsBeforeOrWith, IsOpened}
use Rattle.node_journal.specs.Index.{EndsAt, ReadsTo}
use Rattle.node_journal.specs.Repairs.{IsPrefixAndOne}
use Rattle.node_journal.specs.Appends.{IsWithOrWithout}

-- a gate that is not 1 is closed
pub gate_shut : (gate : ℕ) (rest : List ℕ) → nat_eq gate 1 ≡ false → is_gate_open (gate ∷ rest) ≡ false
gate_shut gate rest h = and_right (nat_lt 1 (length (gate ∷ rest))) (nat_eq gate 1) h

-- and so is the last byte
pub last_shut : (rest : List ℕ) → length rest ≤ 1 → is_gate_open rest ≡ false
last_shut rest le = and_left (nat_lt 1 (length rest)) (nat_eq (get_or rest 0 0) 1) (truth (length rest) le)
  where
    truth : (k : ℕ) → k ≤ 1 → nat_lt 1 k ≡ false
    truth k le = grind (arith, nat_tests)

pub short_records : (c : List ℕ) → length c ≤ 9 → records c ≡ Intact []
short_records c le = grind (arith, nat_tests, le)

pub prefix_records : (ps : List (List ℕ)) (prefix rest c : List ℕ) → list_all has_small_length ps ≡ true → prefix ≡ mark ++ frames_of ps → is_gate_open rest ≡ false → c ≡ prefix ++ rest → records c ≡ Intact ps
prefix_records ps prefix rest c small is shut e = ap records (e ∙ ap (λ (l : List ℕ). l ++ rest) is) ∙ records_closed ps rest small shut

module _ (ps : List (List ℕ)) (file : List ℕ) (end : ℕ) (small : list_all has_small_length ps ≡ true) (ends : EndsAt file ps end) where
  pub end_records : records file ≡ Intact ps
  end_records = prefix_records ps (take end file) (drop end file) file small ends.prefix ends.closed (sym (take-append-drop end file))

  pub cut_records : end + 1 < length file → (c : List ℕ) → IsBefore (take (end + 1) file) c → records c ≡ Intact ps
  cut_records more c is = prefix_records ps (take end file) (gate ∷ is.0) c small ends.prefix (gate_shut gate is.0 not_one) parts
    where
      gate : ℕ
      gate = get_or file end 0

      here : get_or (drop end file) 0 0 ≡ gate
      here = grind (arith, common_steps)

      truth : (n g : ℕ) → 1 < n → (nat_lt 1 n && nat_eq g 1) ≡ false → nat_eq g 1 ≡ false
      truth n g lt h = grind (arith, nat_tests)

      not_one : nat_eq gate 1 ≡ false
      not_one = sym (ap (λ (g : ℕ). nat_eq g 1) here) ∙ truth (length (drop end file)) (get_or (drop end file) 0 0) (omega (arith, length-drop end file, more)) ends.closed

      parts : c ≡ take end file ++ gate ∷ is.0
      parts = is.1 ∙ ap (λ (l : List ℕ). l ++ is.0) (take_more file end 0 (omega (arith, more))) ∙ append_assoc (take end file) (gate ∷ []) is.0

  pub one_records : (prefix c : List ℕ) → prefix ≡ take end file → IsPrefixAndOne prefix c → records c ≡ Intact ps
  one_records prefix c same is = prefix_records ps prefix is.0 c small (same ∙ ends.prefix) (last_shut is.0 is.2) is.1

few : (qs : List (List ℕ)) → 5 * length qs ≤ 1 → qs ≡ []
few [] le = refl
few (q ∷ qs) le = absurd (omega (arith, le))

-- a short file has no payload
pub nil_of : (file : List ℕ) (ps : List (List ℕ)) → ReadsTo file ps → length file ≤ 9 → ps ≡ []
nil_of file ps reads short = ⊎_elim (λ none. none.1) (λ ends. few ps (omega (arith, ends.within, short, framed_longer ps))) reads

pub reads_records : (file : List ℕ) (ps : List (List ℕ)) → list_all has_small_length ps ≡ true → ReadsTo file ps → records file ≡ Intact ps
reads_records file ps small reads = ⊎_elim (λ none. short_records file none.0 ∙ ap Intact (sym none.1)) (λ ends. end_records ps file (end_of ps) small ends) reads

pub short_holds : (ps : List (List ℕ)) → ps ≡ [] → (c : List ℕ) → length c ≤ 9 → records c ≡ Intact ps
short_holds ps none c le = short_records c le ∙ ap Intact (sym none)

-- what is in front of the end after a cut behind it
pub prefix_after : (ps : List (List ℕ)) (file : List ℕ) (n : Moment) (e : ℕ) → EndsAt file ps (end_of ps) → e ≡ end_of ps → n ≡ resting (take (end_of ps + 1) file) → take e n.seen ≡ take (end_of ps) file
prefix_after ps file n e ends at is = ap (λ (k : ℕ). take k n.seen) at ∙ ap (λ (m : Moment). take (end_of ps) m.seen) is ∙ both (end_of ps) file
  where
    both : (k : ℕ) (l : List ℕ) → take k (take (k + 1) l) ≡ take k l
    both k l = grind (arith, common_steps)

-- the bytes of a file of payloads, and anything behind its closed gate
pub before_records : (ps : List (List ℕ)) (file c : List ℕ) → list_all has_small_length ps ≡ true → file ≡ file_of ps → IsBefore file c → records c ≡ Intact ps
before_records ps file c small whole b = prefix_records ps (mark ++ frames_of ps) (0 ∷ b.0) c small refl (gate_shut 0 b.0 refl) (b.1 ∙ ap (λ (l : List ℕ). l ++ b.0) whole ∙ append_assoc (mark ++ frames_of ps) (0 ∷ []) b.0)

-- the bytes that a crash leaves while a payload is added
module _ (ps : List (List ℕ)) (p file c : List ℕ) (end : ℕ) (more : list_all has_small_length (ps ++ p ∷ []) ≡ true) (small : list_all has_small_length ps ≡ true) (whole : file ≡ file_of ps) (prefix : take end file ≡ mark ++ frames_of ps)
    (new : (mark ++ frames_of ps) ++ 1 ∷ tail_of p ≡ file_of (ps ++ p ∷ [])) where
  same : (gate : ℕ) → c ≡ take end file ++ gate ∷ tail_of p → c ≡ (mark ++ frames_of ps) ++ gate ∷ tail_of p
  same gate e = e ∙ ap (λ (l : List ℕ). l ++ gate ∷ tail_of p) prefix

  other : (g : ℕ) → (g ≡ 1 → ⊥) → nat_eq g 1 ≡ false
  other g ne = grind (arith, nat_tests)

  pub open_records : c ≡ take end file ++ 1 ∷ tail_of p → records c ≡ Intact (ps ++ p ∷ [])
  open_records e = ap records (same 1 e ∙ new) ∙ records_closed (ps ++ p ∷ []) (0 ∷ []) more (last_shut (0 ∷ []) (omega arith))

  shut_records : (gate : ℕ) → (gate ≡ 1 → ⊥) → c ≡ take end file ++ gate ∷ tail_of p → records c ≡ Intact ps
  shut_records gate ne e = prefix_records ps (mark ++ frames_of ps) (gate ∷ tail_of p) c small refl (gate_shut gate (tail_of p) (other gate ne)) (same gate e)

  one : (gate : ℕ) → gate ≡ 1 → c ≡ take end file ++ gate ∷ tail_of p → c ≡ take end file ++ 1 ∷ tail_of p
  one gate is e = e ∙ ap (λ (k : ℕ). take end file ++ k ∷ tail_of p) is

  pub adding : IsBeforeOrWith file end (tail_of p) c → IsWithOrWithout ps p c
  adding is = ⊎_elim (λ b. inl (before_records ps file c small whole b)) (λ g. with g.0 g.1) is
    where
      with : (gate : ℕ) → c ≡ take end file ++ gate ∷ tail_of p → IsWithOrWithout ps p c
      with gate e = elim (cases_eq gate 1) [ inl is ↦ inr (open_records (one gate is e)) | inr ne ↦ inl (shut_records gate ne e) ]

  -- where the new payload is there, its gate was opened
  pub opening : IsBeforeOrWith file end (tail_of p) c → records c ≡ Intact (ps ++ p ∷ []) → IsOpened file end (tail_of p) c
  opening is held = ⊎_elim (λ b. absurd (not_old (before_records ps file c small whole b))) (λ g. with g.0 g.1) is
    where
      not_old : records c ≡ Intact ps → ⊥
      not_old old = omega (arith, ap (λ (r : Records). length (payloads_held r)) (sym old ∙ held), length-append ps (p ∷ []))

      with : (gate : ℕ) → c ≡ take end file ++ gate ∷ tail_of p → IsOpened file end (tail_of p) c
      with gate e = elim (cases_eq gate 1) [
        | inl is ↦ record { whole = one gate is e; new = λ b. not_old (before_records ps file c small whole b) }
        | inr ne ↦ absurd (not_old (shut_records gate ne e))
      ]
