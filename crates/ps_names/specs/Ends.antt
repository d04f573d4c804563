-- Where the synonyms after a mention end.
use Rattle.std.specs.Prelude.{ℕ, ◌+◌, ◌≡◌, ⊤, None, List, slice_index_or}
use Rattle.ps_model.specs.names.Meanings.{LegendName, Mention, OfLine, meaning_behind}
use Rattle.ps_names.specs.declared.ends.End.{End}
use Rattle.ps_names.specs.declared.ends.End.TheVariants.{Unknown, Never, At}
use Rattle.ps_names.specs.Known.{mention_shown}
use Rattle.ps_names.specs.MeaningSteps.{behind_synonym}

-- after `passed` synonyms stands a mention
abbrev pub StandsBehind : List LegendName → Mention → ℕ → Mention → Type 0
StandsBehind legend mention passed last = (most : ℕ) →
    meaning_behind legend (passed + most) mention ≡ meaning_behind legend most last

-- after `passed` synonyms stands a mention that is none
pub record EndsAt (legend : List LegendName) (mention : Mention) (passed : ℕ) (last : Mention) : Type 0 where
  pub stands : StandsBehind legend mention passed last
  pub no_synonym : behind_synonym legend last ≡ None

-- a mention stands for nothing, after however many synonyms
abbrev pub StandsForNothing : List LegendName → Mention → Type 0
StandsForNothing legend mention = (most : ℕ) → meaning_behind legend most mention ≡ None

-- what is known of the end after a mention
abbrev pub IsEnd : List LegendName → Mention → End → Type 0
IsEnd legend mention Unknown = ⊤
IsEnd legend mention Never = StandsForNothing legend mention
IsEnd legend mention (At passed last) = EndsAt legend mention passed (mention_shown last)

-- what is known of the ends after the lines of a legend, by their places
abbrev pub AreEnds : List LegendName → List End → Type 0
AreEnds legend ends = (place : ℕ) → IsEnd legend (OfLine place) (slice_index_or ends place Unknown)
