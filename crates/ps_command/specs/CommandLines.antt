-- The player's command line as clap reads it: the program's name, its arguments in their order, and what clap matches
-- for them in words. Texts of help stand elsewhere, and so do the rules on which arguments go together.
use Rattle.std.specs.Prelude.{◌≡◌, Bool, true, false, List, [], ◌∷◌, Some, codes}
use Rattle.clap.specs.Lexer.{usize_max}
use Rattle.clap.specs.Simple.{on_top}
use Rattle.clap.specs.Words.{App, Row, Rule, Text, matches_of, new_app, new_rule, rule_of, with_rule}
use Rattle.clap.specs.declared.builder.action.ArgAction.TheVariants.{Append, Set, SetTrue}
use Rattle.clap.specs.declared.builder.arg.Arg.{Arg}

-- a flag, `--name`
abbrev pub flag : Text → Rule
flag name = record (new_rule name) { long = Some name; action = Some SetTrue }

-- an option with a value, `--name VALUE`
abbrev pub option : Text → Rule
option name = record (new_rule name) { long = Some name; action = Some Set; value_names = 1 }

-- an argument with a rule on which others may or must stand beside it
abbrev pub bound : Rule → Rule
bound rule = record rule { is_free = false }

-- GAME, which has no name before it
abbrev pub game_file : Rule
game_file = bound (record (new_rule (codes "GAME")) { action = Some Set })

-- FURTHER, one file or more after it
abbrev pub further_files : Rule
further_files = record (new_rule (codes "FURTHER")) {
  action = Some Append;
  range = Some (record { start_inclusive = 1; end_inclusive = usize_max });
}

-- the argument is read by this rule, on this command alone
abbrev pub IsArgument : Rule → Arg → Type 0
IsArgument rule arg = (rule_of arg ≡ rule) × (arg.global ≡ false)

-- all arguments, in their order
abbrev pub arguments : List Rule
arguments =
    game_file
    ∷ further_files
    ∷ flag (codes "check")
    ∷ bound (flag (codes "why"))
    ∷ bound (flag (codes "all"))
    ∷ bound (option (codes "limit"))
    ∷ option (codes "format")
    ∷ bound (flag (codes "warn"))
    ∷ bound (flag (codes "strict"))
    ∷ bound (flag (codes "solve"))
    ∷ bound (option (codes "states"))
    ∷ bound (option (codes "after"))
    ∷ bound (option (codes "stop-file"))
    ∷ bound (flag (codes "replay"))
    ∷ bound (option (codes "level"))
    ∷ option (codes "keys")
    ∷ option (codes "view")
    ∷ bound (option (codes "sizes"))
    ∷ bound (flag (codes "trace"))
    ∷ flag (codes "plain")
    ∷ flag (codes "fresh")
    ∷ bound (option (codes "show"))
    ∷ bound (flag (codes "describe"))
    ∷ bound (option (codes "explain"))
    ∷ []

-- the command itself, without an argument: it has a name and a version
abbrev pub bare_player : App
bare_player = on_top (λ top. record top { has_version = true }) (new_app (codes "ps_play"))

-- a command with more arguments
unfoldable pub with_rules : App → List Rule → App
with_rules app [] = app
with_rules app (rule ∷ more) = with_rules (with_rule app rule) more

-- the command with all arguments
unfoldable pub player : App
player = with_rules bare_player arguments

-- what clap matches in words, of which the first is the program's own name
unfoldable pub matched : List Text → List Row
matched words = matches_of player words
