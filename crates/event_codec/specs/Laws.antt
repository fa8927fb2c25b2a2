-- Laws of codes.
use Rattle.std.specs.Prelude.{◌≡◌, ℕ, ℤ, List, ◌++◌, Option, IfSome}
use Rattle.node_events.specs.declared.event.Event.{Event}
use Rattle.event_codec.specs.declared.enc.Enc.{Enc}
use Rattle.event_codec.specs.Codes.{code, IsCodable}
use Rattle.event_codec.specs.Types.{IsEvent}
use Rattle.event_codec.specs.Groups.{IsGroup, group_code}
use Rattle.event_codec.specs.Models.{IsUpper, model_code}
use Rattle.event_codec.specs.Upgrades.{upgrade_code}

-- Within one encoding the code of no event is a prefix of another's: where bytes begin with the codes of two events, the events are one.
abbrev pub NoCodeIsAPrefix : Type 0
NoCodeIsAPrefix = (enc : Enc) (a b : Event) (x y : List ℕ) → IsCodable enc a → IsCodable enc b → IsEvent a → IsEvent b → code enc a ++ x ≡ code enc b ++ y → (a ≡ b) × (x ≡ y)

-- Within one encoding only equal events have equal codes.
abbrev pub CodesTellApart : Type 0
CodesTellApart = (enc : Enc) (a b : Event) → IsCodable enc a → IsCodable enc b → IsEvent a → IsEvent b → code enc a ≡ code enc b → a ≡ b

-- Within one encoding only equal groups have equal codes.
abbrev pub GroupsTellApart : Type 0
GroupsTellApart = (enc : Enc) (a b : List Event) → IsGroup enc a → IsGroup enc b → group_code enc a ≡ group_code enc b → a ≡ b

-- Only equal models have equal records.
abbrev pub RecordsTellApart : Type 0
RecordsTellApart = (text text2 : List ℕ) (upper upper2 : Option ℤ) → IfSome upper IsUpper → IfSome upper2 IsUpper → model_code text upper ≡ model_code text2 upper2 → (text ≡ text2) × (upper ≡ upper2)

-- In no encoding the record of the upgrade is the code of a group.
abbrev pub UpgradeIsNoGroup : Type 0
UpgradeIsNoGroup = (enc : Enc) (events : List Event) → IsGroup enc events → ¬ (group_code enc events ≡ upgrade_code)
