-- How a refusal is told to the author of a game: by one line, `line L: CODE Name`.
use Rattle.std.specs.Prelude.{ℕ, List, ◌++◌, codes}
use Rattle.std.specs.Fmt.{decimal}
use Rattle.ps_model.specs.declared.faults.Fault.{Fault}
use Rattle.ps_model.specs.declared.faults.FaultKind.{FaultKind}
use Rattle.ps_model.specs.declared.faults.FaultKind.TheVariants.{NotUtf8, TooLong, SectionOrder, NoSection, Realtime}
use Rattle.ps_model.specs.declared.faults.FaultKind.TheVariants.{TooManyReadings, Impossible, BadFlickscreen}
use Rattle.ps_model.specs.declared.faults.FaultKind.TheVariants.{BadObject, Twice}
use Rattle.ps_model.specs.declared.faults.FaultKind.TheVariants.{MixedAndOr, UnknownName, Cycle, AggregateInProperty}
use Rattle.ps_model.specs.declared.faults.FaultKind.TheVariants.{PropertyInAggregate, AggregateInLayer, NoLayer}
use Rattle.ps_model.specs.declared.faults.FaultKind.TheVariants.{NoBackground, NoPlayer, BadBackground, BadPlayer}
use Rattle.ps_model.specs.declared.faults.FaultKind.TheVariants.{TooManyNames, SameLayerAggregate, BadLine, BadBracket}
use Rattle.ps_model.specs.declared.faults.FaultKind.TheVariants.{UnknownWord, RowsDiffer, NothingRight, NameTwice}
use Rattle.ps_model.specs.declared.faults.FaultKind.TheVariants.{NoAggregate, Unbound, LateMove, PlusAlone, PlusLate}
use Rattle.ps_model.specs.declared.faults.FaultKind.TheVariants.{Loop, Ellipsis, NotInProfile, TooManyRules}
use Rattle.ps_model.specs.declared.faults.FaultKind.TheVariants.{UnknownGlyph, PropertyGlyph, TooLarge, NoLevel}
use Rattle.ps_model.specs.declared.faults.FaultKind.TheVariants.{TooManyEntries, BadWin, UnknownWinName}

-- the code of a cause, a blank and its name
abbrev pub words_of : FaultKind → List ℕ
words_of NotUtf8 = codes "TX1 NotUtf8"
words_of TooLong = codes "TX2 TooLong"
words_of SectionOrder = codes "GM1 SectionOrder"
words_of NoSection = codes "GM2 NoSection"
words_of Realtime = codes "GM3 Realtime"
words_of TooManyReadings = codes "GM4 TooManyReadings"
words_of Impossible = codes "GM5 Impossible"
words_of BadFlickscreen = codes "GM6 BadFlickscreen"
words_of BadObject = codes "NA1 BadObject"
words_of Twice = codes "NA2 Twice"
words_of MixedAndOr = codes "NA3 MixedAndOr"
words_of UnknownName = codes "NA4 UnknownName"
words_of Cycle = codes "NA5 Cycle"
words_of AggregateInProperty = codes "NA6 AggregateInProperty"
words_of PropertyInAggregate = codes "NA7 PropertyInAggregate"
words_of AggregateInLayer = codes "NA8 AggregateInLayer"
words_of NoLayer = codes "NA9 NoLayer"
words_of NoBackground = codes "NA10 NoBackground"
words_of NoPlayer = codes "NA11 NoPlayer"
words_of BadBackground = codes "NA12 BadBackground"
words_of BadPlayer = codes "NA13 BadPlayer"
words_of TooManyNames = codes "NA14 TooMany"
words_of SameLayerAggregate = codes "NA15 SameLayerAggregate"
words_of BadLine = codes "NA16 BadLine"
words_of BadBracket = codes "RU1 BadBracket"
words_of UnknownWord = codes "RU2 UnknownWord"
words_of RowsDiffer = codes "RU3 RowsDiffer"
words_of NothingRight = codes "RU4 NothingRight"
words_of NameTwice = codes "RU5 NameTwice"
words_of NoAggregate = codes "RU6 NoAggregate"
words_of Unbound = codes "RU7 Unbound"
words_of LateMove = codes "RU8 LateMove"
words_of PlusAlone = codes "RU9 PlusAlone"
words_of PlusLate = codes "RU10 PlusLate"
words_of Loop = codes "RU11 Loop"
words_of Ellipsis = codes "RU12 Ellipsis"
words_of NotInProfile = codes "RU13 NotInProfile"
words_of TooManyRules = codes "RU14 TooMany"
words_of UnknownGlyph = codes "LV1 UnknownGlyph"
words_of PropertyGlyph = codes "LV2 PropertyGlyph"
words_of TooLarge = codes "LV3 TooLarge"
words_of NoLevel = codes "LV4 NoLevel"
words_of TooManyEntries = codes "LV5 TooMany"
words_of BadWin = codes "WN1 BadWin"
words_of UnknownWinName = codes "WN2 UnknownName"

-- the line that tells of a fault
abbrev pub fault_line : Fault → List ℕ
fault_line fault = codes "line " ++ decimal fault.line ++ codes ": " ++ words_of fault.kind
