-- What the names of the legend stand for, name by name.
use Rattle.std.specs.Prelude.{ℕ, Option, None, Some, option_map, option_and_then, List, map, length, slice_get}
use Rattle.ps_model.specs.declared.texts.Joiner.{Joiner}
use Rattle.ps_model.specs.declared.texts.Joiner.TheVariants.{Alone, And, Or}
use Rattle.ps_model.specs.declared.faults.Fault.{Fault}
use Rattle.ps_model.specs.names.Names as model
use Rattle.ps_model.specs.names.Meanings.{LegendName, Mention, OfObject, OfLine, objects_of, meaning_behind}
use Rattle.ps_model.specs.names.Meanings.{meaning_of_mention}
use Rattle.ps_model.specs.names.DeclarationFaults.{faults_of_legend_name}
use Rattle.ps_names.specs.declared.meaning.Meaning.{Meaning}
use Rattle.ps_names.specs.Shown.{meaning_shown}

abbrev pub meaning_shown_if : Option Meaning → Option model.Meaning
meaning_shown_if meaning = option_map meaning_shown meaning

abbrev pub meanings_shown : List (Option Meaning) → List (Option model.Meaning)
meanings_shown meanings = map meaning_shown_if meanings

-- the one mention of a synonym
abbrev pub alone : Joiner → List Mention → Option Mention
alone Alone mentions = slice_get mentions 0
alone And mentions = None
alone Or mentions = None

-- what a synonym is one for; a mention of another kind is none
abbrev pub behind_synonym : List LegendName → Mention → Option Mention
behind_synonym legend (OfObject object) = None
behind_synonym legend (OfLine place) = option_and_then (λ name.
    alone name.joiner name.mentions) (slice_get legend place)

-- what an aggregate or a property stands for
abbrev pub joined_meaning : List LegendName → Joiner → LegendName → Option model.Meaning
joined_meaning legend Alone name = None
joined_meaning legend And name = Some (model.AllOf name.line (objects_of legend name))
joined_meaning legend Or name = Some (model.AnyOf name.line (objects_of legend name))

-- what the aggregates and properties stand for, by their places; nothing for synonyms
abbrev pub joined_at : List LegendName → LegendName → Option model.Meaning
joined_at legend name = joined_meaning legend name.joiner name

abbrev pub joined_meanings : List LegendName → List (Option model.Meaning)
joined_meanings legend = map (joined_at legend) legend

-- what the legend line of a place stands for
abbrev pub meaning_at : List LegendName → ℕ × LegendName → Option model.Meaning
meaning_at legend numbered = meaning_behind legend (length legend) (OfLine numbered.0)

-- the faults of the legend line of a place by what it names
abbrev pub faults_at : List LegendName → List (Option model.Meaning) → ℕ × LegendName → List Fault
faults_at legend meanings numbered = faults_of_legend_name legend numbered.0 numbered.1
    (map (meaning_of_mention meanings) numbered.1.mentions)
