-- The legend lines of the code as those of the definitions.
use Rattle.std.specs.Prelude.{ℕ, ◌++◌, List, Option, option_map, map}
use Rattle.ps_model.specs.names.LegendLines as model
use Rattle.ps_model.specs.names.Meanings as meanings
use Rattle.ps_names.specs.declared.legend.RightSide.{RightSide}
use Rattle.ps_names.specs.declared.legend.Declaration.{Declaration}
use Rattle.ps_names.specs.Known.{Named, named_as}

-- these, and after them those, if there are those
abbrev pub behind : {A : Type 0} → List A → Option (List A) → Option (List A)
behind before after = option_map (λ items. before ++ items) after

abbrev pub side_shown : RightSide → model.RightSide
side_shown side = record { joiner = side.joiner; mentions = map (λ n. n.now) side.names.items }

abbrev pub declaration_shown : Declaration → model.Declaration
declaration_shown declaration = record {
  line = declaration.line;
  name = declaration.name.now;
  right =
      side_shown declaration.right;
}

abbrev pub declarations_shown : List Declaration → List model.Declaration
declarations_shown declarations = map declaration_shown declarations

-- the name of the legend line of a place
abbrev pub named_line : ℕ × model.Declaration → Named
named_line numbered = named_as (meanings.OfLine numbered.0) numbered.1.name
