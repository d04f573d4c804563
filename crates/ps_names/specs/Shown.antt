-- The meanings of the code as the meanings of the definitions.
use Rattle.ps_model.specs.names.Names as model
use Rattle.ps_names.specs.declared.meaning.Meaning.{Meaning}
use Rattle.ps_names.specs.declared.meaning.Meaning.TheVariants.{One, All, Any}

abbrev pub meaning_shown : Meaning → model.Meaning
meaning_shown (One object) = model.One object
meaning_shown (All line objects) = model.AllOf line objects
meaning_shown (Any line objects) = model.AnyOf line objects
