-- What a file of frames reads as.
use Rattle.std.specs.Prelude.{◌≡◌, ℕ, zero, suc, ◌+◌, ◌-◌, ◌*◌, ◌≤◌, ◌<◌, ◌^◌, Bool, true, false, nat_eq, nat_le, nat_lt, if◌then◌else◌, List, [], ◌∷◌, ◌++◌, length, take, drop, slice_index, refl}
use Rattle.std.proofs.Common.{arith, ap, sym, ◌∙◌, append_assoc, length-append}
use Rattle.std.proofs.lemmas.Bool.{and_parts}
use Rattle.std.proofs.lemmas.Bool.Decides.{nat_tests}
use Rattle.std.proofs.lemmas.List.{take_at, drop_at}
use Rattle.std.proofs.lemmas.Nat.{from_le_bytes-to_le_bytes_4}
use Rattle.std.specs.List.{starts_with, list_all}
use Rattle.node_journal.specs.Records.{Records, Intact, Foreign, BrokenAt, mark, is_gate_open, size_at, is_whole, payload_of, with_first, read_frames, records}
use Rattle.node_journal.specs.Frames.{frame, frames_of, places_from, payloads_at, has_small_length}

small_is : (p : List ℕ) → has_small_length p ≡ true → length p < 2 ^ 32
small_is p h = grind (arith, nat_tests)

-- the frame of p, in front of other bytes
pub head_open : (p rest : List ℕ) → is_gate_open (frame p ++ rest) ≡ true
head_open p rest = grind (arith, nat_tests)

pub head_size : (p rest : List ℕ) → has_small_length p ≡ true → size_at (frame p ++ rest) ≡ length p
head_size p rest small = from_le_bytes-to_le_bytes_4 (length p) (small_is p small)

pub head_length : (p : List ℕ) → length (frame p) ≡ 5 + length p
head_length p = omega arith

pub head_whole : (p rest : List ℕ) → has_small_length p ≡ true → is_whole (frame p ++ rest) ≡ true
head_whole p rest small = truth (5 + size_at (frame p ++ rest)) (length (frame p ++ rest)) (omega (arith, head_size p rest small, length-append (frame p) rest, head_length p))
  where
    truth : (a b : ℕ) → a ≤ b → nat_le a b ≡ true
    truth a b le = grind (arith, nat_tests)

pub head_payload : (p rest : List ℕ) → has_small_length p ≡ true → payload_of (frame p ++ rest) ≡ p
head_payload p rest small = ap (λ (n : ℕ). take n (p ++ rest)) (head_size p rest small) ∙ take_at p rest (length p) refl

pub head_behind : (p rest : List ℕ) → has_small_length p ≡ true → drop (5 + size_at (frame p ++ rest)) (frame p ++ rest) ≡ rest
head_behind p rest small = drop_at (frame p) rest (5 + size_at (frame p ++ rest)) (head_length p ∙ ap (λ (n : ℕ). 5 + n) (sym (head_size p rest small)))

-- payloads before those that are read
abbrev pub with_all : List (List ℕ) → Records → Records
with_all [] r = r
with_all (p ∷ ps) r = with_first p (with_all ps r)

pub with_all-Intact : (ps : List (List ℕ)) → with_all ps (Intact []) ≡ Intact ps
with_all-Intact [] = refl
with_all-Intact (p ∷ ps) = ap (λ r. with_first p r) (with_all-Intact ps)

pub with_all-BrokenAt : (ps : List (List ℕ)) (at : ℕ) → with_all ps (BrokenAt at) ≡ BrokenAt at
with_all-BrokenAt [] at = refl
with_all-BrokenAt (p ∷ ps) at = ap (λ r. with_first p r) (with_all-BrokenAt ps at)

-- one frame is read
pub frames_one : (n at : ℕ) (rest : List ℕ) → is_gate_open rest ≡ true → is_whole rest ≡ true
    → read_frames (suc n) at rest ≡ with_first (payload_of rest) (read_frames n (at + 5 + size_at rest) (drop (5 + size_at rest) rest))
frames_one n at rest opened whole = grind (arith, opened, whole)

pub frames_closed : (n at : ℕ) (rest : List ℕ) → is_gate_open rest ≡ false → read_frames n at rest ≡ Intact []
frames_closed zero at rest closed = refl
frames_closed (suc n) at rest closed = grind (arith, closed)

pub frames_broken : (n at : ℕ) (rest : List ℕ) → is_gate_open rest ≡ true → is_whole rest ≡ false → read_frames (suc n) at rest ≡ BrokenAt at
frames_broken n at rest opened cut = grind (arith, opened, cut)

-- all of some frames are read
pub frames_all : (ps : List (List ℕ)) (n at : ℕ) (rest : List ℕ) → list_all has_small_length ps ≡ true
    → read_frames (length ps + n) at (frames_of ps ++ rest) ≡ with_all ps (read_frames n (at + length (frames_of ps)) rest)
frames_all [] n at rest small = let a : length {A = List ℕ} [] + n ≡ n = omega arith in let b : at ≡ at + length (frames_of []) = omega arith in ap (λ (k : ℕ). read_frames k at rest) a ∙ ap (λ (k : ℕ). read_frames n k rest) b
frames_all (p ∷ ps) n at rest small =
    let one = (and_parts (has_small_length p) (list_all has_small_length ps) small).0 in
    let more = (and_parts (has_small_length p) (list_all has_small_length ps) small).1 in
    let apart : (frame p ++ frames_of ps) ++ rest ≡ frame p ++ (frames_of ps ++ rest) = append_assoc (frame p) (frames_of ps) rest in
    let behind = frames_of ps ++ rest in
    let more_one : length (p ∷ ps) + n ≡ suc (length ps + n) = omega arith in
    ap (λ (l : List ℕ). read_frames (length (p ∷ ps) + n) at l) apart
    ∙ ap (λ (k : ℕ). read_frames k at (frame p ++ behind)) more_one
    ∙ frames_one (length ps + n) at (frame p ++ behind) (head_open p behind) (head_whole p behind one)
    ∙ ap (λ (q : List ℕ). with_first q (read_frames (length ps + n) (at + 5 + size_at (frame p ++ behind)) (drop (5 + size_at (frame p ++ behind)) (frame p ++ behind)))) (head_payload p behind one)
    ∙ ap (λ (l : List ℕ). with_first p (read_frames (length ps + n) (at + 5 + size_at (frame p ++ behind)) l)) (head_behind p behind one)
    ∙ ap (λ r. with_first p r) (frames_all ps n (at + 5 + size_at (frame p ++ behind)) rest more)
    ∙ ap (λ (k : ℕ). with_first p (with_all ps (read_frames n k rest))) (omega (arith, head_size p behind one, head_length p, length-append (frame p) (frames_of ps)))

-- each payload has its gate and its length before it
pub framed_longer : (ps : List (List ℕ)) → 5 * length ps ≤ length (frames_of ps)
framed_longer [] = omega arith
framed_longer (p ∷ ps) = omega (arith, framed_longer ps, length-append (frame p) (frames_of ps), head_length p)

pub frames_of-append : (ps qs : List (List ℕ)) → frames_of (ps ++ qs) ≡ frames_of ps ++ frames_of qs
frames_of-append [] qs = refl
frames_of-append (p ∷ ps) qs = ap (λ (l : List ℕ). frame p ++ l) (frames_of-append ps qs) ∙ sym (append_assoc (frame p) (frames_of ps) (frames_of qs))

pub places-append : (at : ℕ) (ps : List (List ℕ)) (q : List ℕ) → places_from at (ps ++ q ∷ []) ≡ places_from at ps ++ (at + length (frames_of ps)) ∷ []
places-append at [] q = ap (λ (n : ℕ). n ∷ []) (omega arith)
places-append at (p ∷ ps) q = ap (λ (l : List ℕ). at ∷ l) (places-append (at + 5 + length p) ps q ∙ ap (λ (n : ℕ). places_from (at + 5 + length p) ps ++ n ∷ []) (omega (arith, length-append (frame p) (frames_of ps), head_length p)))

-- the payloads stand where their places say
pub payloads_are : (prefix : List ℕ) (ps : List (List ℕ)) (rest : List ℕ) (at : ℕ) → length prefix ≡ at → list_all has_small_length ps ≡ true
    → payloads_at (prefix ++ frames_of ps ++ rest) (places_from at ps) ≡ ps
payloads_are prefix [] rest at len small = refl
payloads_are prefix (p ∷ ps) rest at len small =
    let one = (and_parts (has_small_length p) (list_all has_small_length ps) small).0 in
    let more = (and_parts (has_small_length p) (list_all has_small_length ps) small).1 in
    let split : prefix ++ (frame p ++ frames_of ps) ++ rest ≡ prefix ++ (frame p ++ (frames_of ps ++ rest)) = append_assoc prefix (frame p ++ frames_of ps) rest ∙ ap (λ (l : List ℕ). prefix ++ l) (append_assoc (frame p) (frames_of ps) rest) in
    let here : payload_of (drop at (prefix ++ (frame p ++ frames_of ps) ++ rest)) ≡ p = ap (λ (l : List ℕ). payload_of (drop at l)) split ∙ ap payload_of (drop_at prefix (frame p ++ (frames_of ps ++ rest)) at len) ∙ head_payload p (frames_of ps ++ rest) one in
    let apart : prefix ++ (frame p ++ frames_of ps) ++ rest ≡ (prefix ++ frame p) ++ frames_of ps ++ rest = ap (λ (l : List ℕ). l ++ rest) (sym (append_assoc prefix (frame p) (frames_of ps))) in
    let there = ap (λ (l : List ℕ). payloads_at l (places_from (at + 5 + length p) ps)) apart ∙ payloads_are (prefix ++ frame p) ps rest (at + 5 + length p) (omega (arith, len, length-append prefix (frame p), head_length p)) more in
    (λ i. here i ∷ there i)

-- a file of the mark and frames, and what stands behind them
module _ (ps : List (List ℕ)) (rest : List ℕ) (small : list_all has_small_length ps ≡ true) where
  total : length (mark ++ frames_of ps ++ rest) ≡ 8 + length (frames_of ps) + length rest
  total = omega (arith, length-append (mark ++ frames_of ps) rest, length-append mark (frames_of ps))

  short_file : nat_le (length (mark ++ frames_of ps ++ rest)) 9 ≡ true → length (mark ++ frames_of ps ++ rest) ≤ 9
  short_file h = grind (arith, nat_tests)

  -- what it reads as, by what stands behind the frames
  reads_as : (n : ℕ) (r : Records) → length (mark ++ frames_of ps ++ rest) ≡ length ps + n → with_all ps (read_frames n (8 + length (frames_of ps)) rest) ≡ r
      → (nat_le (length (mark ++ frames_of ps ++ rest)) 9 ≡ true → Intact [] ≡ r) → records (mark ++ frames_of ps ++ rest) ≡ r
  reads_as n r fuel is few = at (nat_le (length all) 9) refl
    where
      all : List ℕ
      all = mark ++ frames_of ps ++ rest

      behind : drop 8 all ≡ frames_of ps ++ rest
      behind = ap (λ (l : List ℕ). drop 8 l) (append_assoc mark (frames_of ps) rest)

      long : read_frames (length all) 8 (drop 8 all) ≡ r
      long = ap (λ (l : List ℕ). read_frames (length all) 8 l) behind ∙ ap (λ (k : ℕ). read_frames k 8 (frames_of ps ++ rest)) fuel ∙ frames_all ps n 8 rest small ∙ is

      at : (b : Bool) → nat_le (length all) 9 ≡ b → (if b then Intact [] else (if starts_with nat_eq all mark then read_frames (length all) 8 (drop 8 all) else Foreign)) ≡ r
      at true h = few h
      at false h = ap (λ (b : Bool). if b then read_frames (length all) 8 (drop 8 all) else Foreign) (ap (λ (l : List ℕ). starts_with nat_eq l mark) (append_assoc mark (frames_of ps) rest)) ∙ long

  -- then a gate that is closed
  pub records_closed : is_gate_open rest ≡ false → records (mark ++ frames_of ps ++ rest) ≡ Intact ps
  records_closed closed =
      let n : ℕ = length (mark ++ frames_of ps ++ rest) - length ps in
      reads_as n (Intact ps) (omega (arith, total, framed_longer ps)) (ap (λ r. with_all ps r) (frames_closed n (8 + length (frames_of ps)) rest closed) ∙ with_all-Intact ps)
      (λ h. ap Intact (sym (few ps (omega (arith, short_file h, total, framed_longer ps)))))
    where
      few : (qs : List (List ℕ)) → 5 * length qs ≤ 1 → qs ≡ []
      few [] le = refl
      few (q ∷ qs) le = absurd (omega (arith, le))

  -- or a frame that is cut short
  pub records_broken : is_gate_open rest ≡ true → is_whole rest ≡ false → records (mark ++ frames_of ps ++ rest) ≡ BrokenAt (8 + length (frames_of ps))
  records_broken opened cut =
      let n : ℕ = length (mark ++ frames_of ps ++ rest) - length ps - 1 in
      let end : ℕ = 8 + length (frames_of ps) in
      reads_as (suc n) (BrokenAt end) (omega (arith, total, two, framed_longer ps)) (ap (λ r. with_all ps r) (frames_broken n end rest opened cut) ∙ with_all-BrokenAt ps end)
      (λ h. absurd (omega (arith, short_file h, total, two)))
    where
      two : 1 < length rest
      two = lt (length rest) (and_parts (nat_lt 1 (length rest)) (nat_eq (slice_index rest 0) 1) opened).0
        where
          lt : (k : ℕ) → nat_lt 1 k ≡ true → 1 < k
          lt k h = grind (arith, nat_tests)
