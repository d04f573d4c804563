-- The motion of a word on the right, by the occurrence of the left that it is bound to.
use Rattle.std.specs.Prelude.{Option, Some, None}
use Rattle.ps_model.specs.declared.pieces.Motion.{Motion}
use Rattle.ps_model.specs.declared.rules.MovementWord.{MovementWord}
use Rattle.ps_model.specs.names.Names.{Meaning}
use Rattle.ps_model.specs.rules.SourceRules.{CellPair, SourceRule}
use Rattle.ps_model.specs.meaning.Occurrences.{bound_word}
use Rattle.ps_model.specs.meaning.Readings.{Reading}
use Rattle.ps_model.specs.meaning.Wanted.{motion_of_word}

abbrev pub bound_motion : SourceRule → CellPair → Reading → Option MovementWord → Meaning → Option Motion
bound_motion rule cell reading None meaning = None
bound_motion rule cell reading (Some word) meaning = motion_of_word reading (bound_word rule cell word meaning) word
