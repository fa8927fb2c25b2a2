-- Words and what they are as a command, by what clap makes of them.
use Rattle.std.proofs.Common.{◌≡◌, ◌∙◌, ap, List, [], ◌∷◌, Option, None, refl, sym}
use Rattle.clap.specs.Words.{Row, Text, fault_of, subcommand_of}
use Rattle.clap.specs.Kinds.{Kinds}
use Rattle.command_words.specs.Commands.{asked_of, command_of, unless_fault}
use Rattle.command_words.specs.Table.{commands}

-- words in which clap finds no fault are what their matches ask for
pub taken : (words : List Text) (rows : Option (Text × List Row)) → fault_of commands words ≡ [] → rows ≡ subcommand_of commands words
    → command_of words ≡ asked_of rows
unfolding command_of
taken words rows none is =
    ap (λ (kinds : Kinds). unless_fault kinds (asked_of (subcommand_of commands words))) none ∙ ap asked_of (sym is)

-- words in which it finds one are no command
pub refused : (words : List Text) → (fault_of commands words ≡ [] → ⊥) → command_of words ≡ None
unfolding command_of
refused words some = go (fault_of commands words) some
  where
    go : (kinds : Kinds) → (kinds ≡ [] → ⊥) → unless_fault kinds (asked_of (subcommand_of commands words)) ≡ None
    go [] some = absurd (some refl)
    go (kind ∷ kinds) some = refl
