-- The tables of RHS and RANGES after the lines before.
use Rattle.std.specs.Prelude.{◌≡◌, ℕ, Bool, true, if◌then◌else◌, List, ◌++◌, map, Option, Some, None, Result, OnOk, IfErr, pos, []}
use Rattle.std.specs.Option.{option_map, unwrap_or}
use Rattle.std.proofs.Common.{get_or}
use Rattle.fraction.specs.Rational.{ℚ, whole}
use Rattle.mps_lines.specs.Lines.{Line}
use Rattle.mps_reader.specs.Faults.{◌<|>◌, is_counted, count_ranged, sides_fault, side_line_fault}
use Rattle.mps_reader.specs.Sections.{DeclaredRows, RowValues, number, set_of_sides, side_set, sides, sides_of, with_sides}
use Rattle.mps_reader.specs.Tables.{Stops, bytes_of}
use Rattle.mps_reader.specs.Words.{value_under}
use Rattle.mps_reader.specs.declared.kinds.Kind.{Kind}
use Rattle.mps_reader.specs.declared.kinds.Kind.TheVariants as kind
use Rattle.mps_reader.specs.declared.kinds.RowType.{RowType}
use Rattle.mps_reader.specs.declared.kinds.Stop.{Stop}
use Rattle.mps_reader.specs.declared.sides.Sides.{Sides}

-- the number that counts: one of an N row means nothing
abbrev pub number_for : RowType → List ℕ → ℚ
number_for type value = if is_counted type then number value else whole (pos 0)

-- the number of a row after these
abbrev pub side_so_far : RowValues → List ℕ × RowType → Option ℚ
side_so_far before r = option_map (number_for r.1) (value_under before r.0)

-- the table has these numbers of the rows, and where they are ranges, that many of them count
pub record HasSides (ranged : Bool) (rows : DeclaredRows) (st : Sides) (before : RowValues) : Type 0 where
  pub numbers : (i : ℕ) → get_or st.numbers i None ≡ get_or (map (side_so_far before) rows) i None
  pub count : ranged ≡ true → st.ranged ≡ count_ranged rows before

-- the table and the set's name are those of these lines
pub record HasSideLines (ranged : Bool) (rows : DeclaredRows) (st : Sides) (earlier : List Line) : Type 0 where
  pub sides : HasSides ranged rows st (sides_of earlier)
  pub group : bytes_of st.group ≡ side_set earlier

-- ---- a line's rows with their values, behind a set's name or none
-- the fault of the rows with their values, or that there are none
abbrev pub some_sides_fault : Bool → DeclaredRows → RowValues → Option RowValues → Option Kind
some_sides_fault ranged rows before None = Some kind.BadFields
some_sides_fault ranged rows before (Some pairs) = sides_fault ranged rows before pairs

-- rows with their values are taken: none is at fault and the table has their numbers too, or their fault is told; `first` is a fault before theirs
abbrev pub TakesRows : Bool → DeclaredRows → Option Kind → Option RowValues → Sides → Sides → Result Unit Stop → Type 0
TakesRows ranged rows first pairs before after result = (earlier : RowValues) → HasSides ranged rows before earlier
    → OnOk result (((first <|> some_sides_fault ranged rows earlier pairs) ≡ None) × HasSides ranged rows after (earlier ++ unwrap_or pairs []))
    × IfErr result (λ stop. Stops stop (first <|> some_sides_fault ranged rows earlier pairs))

-- the fields of a line are taken after those of earlier lines
abbrev pub TakesFields : Bool → DeclaredRows → List (List ℕ) → Sides → Sides → Result Unit Stop → Type 0
TakesFields ranged rows fields before after result = (earlier : List Line) → HasSideLines ranged rows before earlier
    → OnOk result ((side_line_fault ranged rows earlier (sides fields) ≡ None) × HasSides ranged rows after (with_sides (sides fields) (sides_of earlier)) × (bytes_of after.group ≡ set_of_sides (sides fields) (side_set earlier)))
    × IfErr result (λ stop. Stops stop (side_line_fault ranged rows earlier (sides fields)))
