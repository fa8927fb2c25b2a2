-- The code of an event: the bytes of a payload (docs/JOURNAL.md). There are two encodings, which differ in how they spell numbers.
use Rattle.std.specs.Prelude.{ℕ, ◌<◌, ◌^◌, ℤ, pos, Bool, true, false, List, [], ◌∷◌, ◌++◌, length}
use Rattle.std.specs.List.{flat_map}
use Rattle.std.specs.Int.{w32, w64, w128, to_le_bytes, cast_unsigned}
use Rattle.fraction.specs.Rational.{ℚ}
use Rattle.problem.specs.Linear.{Multipliers}
use Rattle.node_events.specs.declared.event.Event.{Event}
use Rattle.node_events.specs.declared.event.Event.TheVariants.{Claim, Release, Cut, Offer, Split, Close}
use Rattle.node_events.specs.declared.reason.Reason.{Reason}
use Rattle.node_events.specs.declared.reason.Reason.TheVariants.{Fractional, Cramped, Stalled}
use Rattle.node_events.specs.declared.proof.Proof.{Proof}
use Rattle.node_events.specs.declared.proof.Proof.TheVariants.{Empty, Refute, Bound}
use Rattle.event_codec.specs.declared.enc.Enc.{Enc}
use Rattle.event_codec.specs.declared.enc.Enc.TheVariants.{One, Two}
use Rattle.event_codec.specs.Varints.{varint_code, zigzag}

-- ---- numbers, in each encoding
-- a number as 4 bytes, the lowest first; or as few as it needs
unfoldable pub u32_code : Enc → ℕ → List ℕ
u32_code One n = to_le_bytes w32 n
u32_code Two n = varint_code n

-- a whole number as 8 bytes, the lowest first, in two's complement; or as few as it needs
unfoldable pub i64_code : Enc → ℤ → List ℕ
i64_code One z = to_le_bytes w64 (cast_unsigned w64 z)
i64_code Two z = varint_code (zigzag z)

-- a whole number as 16 bytes, the lowest first, in two's complement; or as few as it needs
unfoldable pub i128_code : Enc → ℤ → List ℕ
i128_code One z = to_le_bytes w128 (cast_unsigned w128 z)
i128_code Two z = varint_code (zigzag z)

-- a flag as one byte
abbrev pub flag_code : Bool → List ℕ
flag_code false = 0 ∷ []
flag_code true = 1 ∷ []

-- the numerator, then the denominator
abbrev pub fraction_code : Enc → ℚ → List ℕ
fraction_code enc q = i128_code enc q.num ++ i128_code enc (pos q.den)

-- ---- lists: how many elements, then the code of each
-- how many elements there are, and the code of each
unfoldable pub list_code : {A : Type 0} → Enc → (A → List ℕ) → List A → List ℕ
list_code enc of xs = u32_code enc (length xs) ++ flat_map of xs

-- a row and its factor
abbrev pub factor_code : Enc → ℕ × ℚ → List ℕ
factor_code enc m = u32_code enc m.0 ++ fraction_code enc m.1

-- the factors, each with its row's number
abbrev pub mult_code : Enc → Multipliers → List ℕ
mult_code enc ms = list_code enc (factor_code enc) ms

-- ---- why a node is split, and why it is closed
-- a tag for the kind of reason, and its parts
unfoldable pub reason_code : Enc → Reason → List ℕ
reason_code enc (Fractional cuts point) = (0 ∷ u32_code enc cuts) ++ list_code enc (fraction_code enc) point
reason_code enc (Cramped cuts pivots) = (1 ∷ u32_code enc cuts) ++ u32_code enc pivots
reason_code enc (Stalled cuts) = 2 ∷ u32_code enc cuts

-- a tag for the kind of proof, and its parts
unfoldable pub proof_code : Enc → Proof → List ℕ
proof_code enc (Refute mult) = 0 ∷ mult_code enc mult
proof_code enc (Bound mult rounded) = (1 ∷ flag_code rounded) ++ mult_code enc mult
proof_code enc (Empty column) = 2 ∷ u32_code enc column

-- The code of an event. A claim and a release are not kept, and have none.
unfoldable pub code : Enc → Event → List ℕ
code enc (Claim node) = []
code enc (Release node) = []
code enc (Cut mult) = 2 ∷ mult_code enc mult
code enc (Offer point) = 3 ∷ list_code enc (i64_code enc) point
code enc (Split node column bound reason) = (4 ∷ u32_code enc node) ++ u32_code enc column ++ i64_code enc bound ++ reason_code enc reason
code enc (Close node proof) = (5 ∷ u32_code enc node) ++ proof_code enc proof

-- ---- which events have a code
-- the list has few enough elements to be counted by 32 bits
abbrev pub IsShort : {A : Type 0} → List A → Type 0
IsShort xs = length xs < 2 ^ 32

-- its lists are short
abbrev pub IsCodableReason : Reason → Type 0
IsCodableReason (Fractional cuts point) = IsShort point
IsCodableReason (Cramped cuts pivots) = Unit {0}
IsCodableReason (Stalled cuts) = Unit {0}

-- its lists are short
abbrev pub IsCodableProof : Proof → Type 0
IsCodableProof (Refute mult) = IsShort mult
IsCodableProof (Bound mult rounded) = IsShort mult
IsCodableProof (Empty column) = Unit {0}

-- The event has a code in the encoding. It is no claim and no release, and its list, if it has one, has fewer than 2^32 elements.
abbrev pub IsCodable : Enc → Event → Type 0
IsCodable enc (Claim node) = ⊥
IsCodable enc (Release node) = ⊥
IsCodable enc (Cut mult) = IsShort mult
IsCodable enc (Offer point) = IsShort point
IsCodable enc (Split node column bound reason) = IsCodableReason reason
IsCodable enc (Close node proof) = IsCodableProof proof
