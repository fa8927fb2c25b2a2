-- From one gate to the next.
use Rattle.std.specs.Prelude.{◌≡◌, ℕ, zero, suc, ◌+◌, ◌≤◌, ◌<◌, ◌^◌, Bool, true, false, ◌&&◌, nat_eq, nat_le, nat_lt, List, [], ◌∷◌, ◌++◌, length, take, drop, get_or, slice_index, Some, None, if◌then◌else◌, refl}
use Rattle.std.proofs.Common.{arith, ap, subst, sym, ◌∙◌, append_assoc, length-append, length-take, length-drop, take-append-drop}
use Rattle.std.proofs.Math.Seq.{take-add}
use Rattle.std.proofs.lemmas.Grind.{common_steps}
use Rattle.std.proofs.lemmas.Bool.Decides.{nat_tests}
use Rattle.std.proofs.lemmas.List.{append-nil, map-append}
use Rattle.std.proofs.lemmas.List.Folds.{list_all-append}
use Rattle.std.proofs.lemmas.Nat.{le_bytes_4}
use Rattle.std.specs.List.{list_all}
use Rattle.std.specs.Int.{w32, to_le_bytes, from_le_bytes}
use Rattle.node_journal.specs.Records.{Intact, BrokenAt, mark, is_gate_open, size_at, is_whole, payload_of, records}
use Rattle.node_journal.specs.Frames.{frame, frames_of, places_from, payloads_at, end_of, has_small_length}
use Rattle.node_journal.proofs.Framing.{frames_of-append, places-append, records_closed, records_broken}
use Rattle.node_journal.specs.Index.{IsIndexed, EndsAt}

whole_is : (rest : List ℕ) → is_whole rest ≡ true → 5 + size_at rest ≤ length rest
whole_is rest h = truth (5 + size_at rest) (length rest) h
  where
    truth : (a b : ℕ) → nat_le a b ≡ true → a ≤ b
    truth a b h = grind (arith, nat_tests)

gate_is : (rest : List ℕ) → is_gate_open rest ≡ true → slice_index rest 0 ≡ 1
gate_is rest h = truth (nat_lt 1 (length rest)) (slice_index rest 0) h
  where
    truth : (b : Bool) (g : ℕ) → (b && nat_eq g 1) ≡ true → g ≡ 1
    truth true g h = grind (arith, nat_tests)
    truth false g h = cc

-- the bytes of a whole frame are those that its payload is written with
frame_is : (rest : List ℕ) → ((i : ℕ) → get_or rest i 0 < 256) → is_gate_open rest ≡ true → 5 + size_at rest ≤ length rest → take (5 + size_at rest) rest ≡ frame (payload_of rest)
frame_is [] bytes opened le = absurd (omega (arith, le))
frame_is (a ∷ []) bytes opened le = absurd (omega (arith, le))
frame_is (a ∷ b ∷ []) bytes opened le = absurd (omega (arith, le))
frame_is (a ∷ b ∷ c ∷ []) bytes opened le = absurd (omega (arith, le))
frame_is (a ∷ b ∷ c ∷ d ∷ []) bytes opened le = absurd (omega (arith, le))
frame_is (a ∷ b ∷ c ∷ d ∷ e ∷ more) bytes opened le = all
  where
    s : ℕ
    s = from_le_bytes w32 (b ∷ c ∷ d ∷ e ∷ [])

    enough : s ≤ length more
    enough = omega (arith, le)

    one : a ≡ 1
    one = gate_is (a ∷ b ∷ c ∷ d ∷ e ∷ more) opened

    small : (i : ℕ) → get_or (b ∷ c ∷ d ∷ e ∷ []) i 0 < 256
    small zero = bytes 1
    small (suc zero) = bytes 2
    small (suc (suc zero)) = bytes 3
    small (suc (suc (suc zero))) = bytes 4
    small (suc (suc (suc (suc i)))) = omega arith

    size : length (take s more) ≡ s
    size = omega (arith, length-take s more, enough)

    written : to_le_bytes w32 (length (take s more)) ≡ b ∷ c ∷ d ∷ e ∷ []
    written = ap (λ (n : ℕ). to_le_bytes w32 n) size ∙ le_bytes_4 (b ∷ c ∷ d ∷ e ∷ []) s refl small refl

    five : 5 + s ≡ suc (suc (suc (suc (suc s))))
    five = omega arith

    all : take (5 + s) (a ∷ b ∷ c ∷ d ∷ e ∷ more) ≡ frame (take s more)
    all = ap (λ (n : ℕ). take n (a ∷ b ∷ c ∷ d ∷ e ∷ more)) five ∙ ap (λ (g : ℕ). g ∷ b ∷ c ∷ d ∷ e ∷ take s more) one ∙ sym (ap (λ (l : List ℕ). 1 ∷ l ++ take s more) written)

module _ (file places : List ℕ) (gate : ℕ) (is : IsIndexed file places gate) where
  abbrev pub ps : List (List ℕ)
  ps = payloads_at file places

  abbrev pub rest : List ℕ
  rest = drop gate file

  -- the gate stands behind the frames before it
  pub gate_at : gate ≡ 8 + length (frames_of ps)
  gate_at =
      let len : length (mark ++ frames_of ps) ≡ 8 + length (frames_of ps) = omega (arith, length-append mark (frames_of ps)) in
      let taken : length (take gate file) ≡ gate = omega (arith, length-take gate file, is.within) in
      sym taken ∙ ap length is.prefix ∙ len

  pub split : file ≡ mark ++ frames_of ps ++ rest
  split = sym (take-append-drop gate file) ∙ ap (λ (l : List ℕ). l ++ rest) is.prefix

  pub broken : is_gate_open rest ≡ true → is_whole rest ≡ false → records file ≡ BrokenAt gate
  broken opened cut = ap records split ∙ records_broken ps rest is.small opened cut ∙ ap BrokenAt (sym gate_at)

  pub closed : is_gate_open rest ≡ false → records file ≡ Intact ps
  closed shut = ap records split ∙ records_closed ps rest is.small shut

  pub ends : is_gate_open rest ≡ false → EndsAt file ps (end_of ps)
  ends shut = subst (λ (e : ℕ). EndsAt file ps e) gate_at (record { prefix = is.prefix; within = is.within; closed = shut })

  pub next : ((i : ℕ) → get_or file i 0 < 256) → is_gate_open rest ≡ true → is_whole rest ≡ true → size_at rest < 2 ^ 32 → IsIndexed file (places ++ gate ∷ []) (gate + (5 + size_at rest))
  next bytes opened whole small = record { within = omega (arith, fits, is.within, length-drop gate file); prefix = prefix; places_are = places_are; small = all_small }
    where
      p : List ℕ
      p = payload_of rest

      fits : 5 + size_at rest ≤ length rest
      fits = whole_is rest whole

      one_more : payloads_at file (places ++ gate ∷ []) ≡ ps ++ p ∷ []
      one_more = map-append (λ (place : ℕ). payload_of (drop place file)) places (gate ∷ [])

      behind : (i : ℕ) → get_or rest i 0 < 256
      behind i = let same : get_or rest i 0 ≡ get_or file (gate + i) 0 = grind (arith, common_steps) in omega (arith, same, bytes (gate + i))

      framed_more : frames_of (ps ++ p ∷ []) ≡ frames_of ps ++ frame p
      framed_more = frames_of-append ps (p ∷ []) ∙ ap (λ (l : List ℕ). frames_of ps ++ l) (append-nil (frame p))

      prefix : take (gate + (5 + size_at rest)) file ≡ mark ++ frames_of (payloads_at file (places ++ gate ∷ []))
      prefix =
          take-add gate (5 + size_at rest) file
          ∙ ap (λ (l : List ℕ). l ++ take (5 + size_at rest) rest) is.prefix
          ∙ ap (λ (l : List ℕ). (mark ++ frames_of ps) ++ l) (frame_is rest behind opened fits)
          ∙ append_assoc mark (frames_of ps) (frame p)
          ∙ sym (ap (λ (l : List ℕ). mark ++ l) framed_more)
          ∙ sym (ap (λ (qs : List (List ℕ)). mark ++ frames_of qs) one_more)

      places_are : places ++ gate ∷ [] ≡ places_from 8 (payloads_at file (places ++ gate ∷ []))
      places_are =
          ap (λ (l : List ℕ). l ++ gate ∷ []) is.places_are
          ∙ ap (λ (n : ℕ). places_from 8 ps ++ n ∷ []) gate_at
          ∙ sym (places-append 8 ps p)
          ∙ sym (ap (λ (qs : List (List ℕ)). places_from 8 qs) one_more)

      little : has_small_length p ≡ true
      little = let short : length p ≤ size_at rest = omega (arith, length-take (size_at rest) (drop 5 rest)) in truth (length p) (omega (arith, short, small))
        where
          truth : (k : ℕ) → k < 2 ^ 32 → nat_lt k (2 ^ 32) ≡ true
          truth k lt = grind (arith, nat_tests)

      both : (a b : Bool) → a ≡ true → b ≡ true → (a && (b && true)) ≡ true
      both a b x y = cc

      all_small : list_all has_small_length (payloads_at file (places ++ gate ∷ [])) ≡ true
      all_small = ap (λ (qs : List (List ℕ)). list_all has_small_length qs) one_more ∙ list_all-append has_small_length ps (p ∷ []) ∙ both (list_all has_small_length ps) (has_small_length p) is.small little

pub none_is : (b : Bool) (n : ℕ) → None ≡ (if b then Some n else None) → b ≡ false
none_is true n h = cc
none_is false n h = refl

pub some_is : (b : Bool) (n m : ℕ) → Some m ≡ (if b then Some n else None) → (b ≡ true) × (m ≡ n)
some_is true n m h = (refl, cc)
some_is false n m h = cc
