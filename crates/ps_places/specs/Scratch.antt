-- What an attempt keeps of a row of a rule: its sets of columns and lines as lists of truth values.
use Rattle.std.specs.Prelude.{Bool, List}
use Rattle.ps_places.specs.declared.scratch.RowScratch.{RowScratch}

abbrev pub Scratch : Type 0
Scratch = RowScratch (List Bool)
