-- The table of names with what they stand for.
use Rattle.std.specs.Prelude.{ℕ, List, Option, option_map, option_and_then, map, filter_map}
use Rattle.ps_model.specs.names.Names.{Meaning, Glyph}
use Rattle.ps_model.specs.names.Meanings.{meaning_of_mention}
use Rattle.ps_model.specs.names.NamesRead.{glyph_with}
use Rattle.ps_names.specs.declared.known.KnownName.{KnownName}
use Rattle.ps_names.specs.Known.{Named, mention_shown}

abbrev pub known_name_shown : KnownName → Named
known_name_shown known = record {
  name = known.name.now;
  character = known.character;
  mention =
      mention_shown known.mention;
}

-- what a known name stands for, where the names of the legend stand for these
abbrev pub meaning_with : List (Option Meaning) → Named → Option Meaning
meaning_with meanings named = meaning_of_mention meanings named.mention

-- a known name with what it stands for, where the names of the legend stand for these
abbrev pub with_meaning : List (Option Meaning) → Named → Named × Option Meaning
with_meaning meanings named = (named, meaning_with meanings named)

abbrev pub with_meanings : List (Option Meaning) → List Named → List (Named × Option Meaning)
with_meanings meanings known = map (with_meaning meanings) known

-- the entry of a name that stands for something
abbrev pub entry_with : Named × Option Meaning → Option (List ℕ × Meaning)
entry_with each = option_map (λ meaning. (each.0.name, meaning)) each.1

abbrev pub entries_with : List (Named × Option Meaning) → List (List ℕ × Meaning)
entries_with table = filter_map entry_with table

-- the glyph of a name that is one
abbrev pub glyph_named : Named × Option Meaning → Option Glyph
glyph_named each = option_and_then (λ meaning. glyph_with each.0.character meaning) each.1
