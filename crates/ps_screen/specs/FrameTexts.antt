-- The text of a frame, as the owner of the board keeps it.
use Rattle.ps_model.specs.board.Grid.{Grid}
use Rattle.ps_model.specs.names.Names.{Names}
use Rattle.std.specs.Prelude.{IfSome, Bool, List, Option}
use Rattle.ps_screen.specs.KeptRows.{ArePatchedRows, AreRowsOf}
use Rattle.ps_screen.specs.PlainFrames.{IsPatchedFrame, IsPlainFrame}
use Rattle.ps_screen.specs.declared.frame_texts.FrameText.{FrameText}
use Rattle.ps_screen.specs.declared.frame_texts.FrameText.TheVariants.{Whole, Rows}

-- it is that of a grid's frame: all of it, where it's plain, or its rows
abbrev pub IsTextOf : Names → Grid → FrameText → Type 0
IsTextOf names g (Whole text) = IsPlainFrame names g text
IsTextOf names g (Rows texts) = AreRowsOf names g texts.items

-- it has the rows of a set as one grid's frame has them, and the others as another's
abbrev pub IsPatched : Names → List Bool → Grid → Grid → FrameText → Type 0
IsPatched names rows g h (Whole text) = IsPatchedFrame names rows g h text
IsPatched names rows g h (Rows texts) = ArePatchedRows names rows g h texts.items

-- if there is one, it is that of a grid's frame
abbrev pub IsFrameOf : Names → Grid → Option FrameText → Type 0
IsFrameOf names g frame = IfSome frame (λ text. IsTextOf names g text)
