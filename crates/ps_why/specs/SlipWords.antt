-- What is said about a word that has a slip: what stands before it, the word, and what stands after it.
use Rattle.std.specs.Prelude.{ℕ, List, ◌++◌, codes}
use Rattle.ps_facts.specs.declared.slips.ShapeSlip.{ShapeSlip}
use Rattle.ps_facts.specs.declared.slips.ShapeSlip.TheVariants.{LikeArrow, LikeBracket, NoArrow, SecondArrow}
use Rattle.ps_facts.specs.declared.slips.ShapeSlip.TheVariants.{Nested, Unclosed}
use Rattle.ps_facts.specs.declared.slips.ShapeSlip.TheVariants.{LoneClosing, NothingLeft, NothingRight, BarOutside}
use Rattle.ps_facts.specs.declared.slips.ShapeSlip.TheVariants.{DirectionOutside, WordOutside, LongArrow, NoCells}
use Rattle.ps_facts.specs.declared.slips.RuleSlip.{RuleSlip}
use Rattle.ps_facts.specs.declared.slips.RuleSlip.TheVariants.{LoopWords, MessageAlone, LateMove, Chance}
use Rattle.ps_facts.specs.declared.slips.RuleSlip.TheVariants.{Rigid}
use Rattle.ps_facts.specs.declared.slips.RuleSlip.TheVariants.{TwiceInCell, RuleComment, LikeLoop, WinLine}
use Rattle.ps_facts.specs.declared.slips.RuleSlip.TheVariants.{FirstEllipsis, LastEllipsis, EllipsisBeside}
use Rattle.ps_facts.specs.declared.slips.RuleSlip.TheVariants.{EllipsisAgain}
use Rattle.ps_facts.specs.declared.slips.PlaceSlip.{PlaceSlip}
use Rattle.ps_facts.specs.declared.slips.PlaceSlip.TheVariants.{Ahead, CommandInCell, KeyWordInCell, Nameless}
use Rattle.ps_facts.specs.declared.slips.PlaceSlip.TheVariants.{OutsideLeft, BeforeRow, NoCommand}
use Rattle.ps_facts.specs.declared.slips.FormSlip.{FormSlip}
use Rattle.ps_facts.specs.declared.slips.FormSlip.TheVariants.{NoEquals, NoJoiner, EqualsAsName, LegendEnds}
use Rattle.ps_facts.specs.declared.slips.FormSlip.TheVariants.{NoQuantifier}
use Rattle.ps_facts.specs.declared.slips.FormSlip.TheVariants.{NoOn, FurtherWord, WinEnds, SecondName, ThirdName}
use Rattle.ps_facts.specs.declared.slips.FormSlip.TheVariants.{NameAgain, RealTime, WinComment}
use Rattle.ps_facts.specs.declared.slips.FormSlip.TheVariants.{RoomSize, NoRoomSize, LikeMessage, LegendLine}
use Rattle.ps_facts.specs.declared.slips.FormSlip.TheVariants.{Caption, RuleLine}
use Rattle.ps_facts.specs.declared.slips.Slip.{Slip}
use Rattle.ps_facts.specs.declared.slips.Slip.TheVariants.{Shape, Rule, Place, Form}

-- what stands before a word with a wrong bracket, bar or arrow
abbrev pub shape_front : ShapeSlip → List ℕ
shape_front LikeArrow = codes "This line has no `->`: write it in place of `"
shape_front LongArrow = codes "An arrow is just `->`: take out the `"
shape_front LikeBracket = codes "The brackets of a rule are `[` and `]`: `"
shape_front NoArrow = codes "This line has no `->` and ends after `"
shape_front SecondArrow = codes "`"
shape_front Nested = codes "Another `[` comes after this `"
shape_front Unclosed = codes "No `]` closes this `"
shape_front LoneClosing = codes "No `[` is open before this `"
shape_front NothingLeft = codes "There are no brackets to the left of `"
shape_front NothingRight = codes "Nothing comes after `"
shape_front NoCells = codes "This rule has only `"
shape_front BarOutside = codes "`"
shape_front DirectionOutside = codes "`"
shape_front WordOutside = codes "`"

-- what stands after it
abbrev pub shape_back : ShapeSlip → List ℕ
shape_back LikeArrow = codes "`."
shape_back LongArrow = codes "` before it."
shape_back LikeBracket = codes "` is neither."
shape_back NoArrow = codes "`: a rule has one, and is written on one line."
shape_back SecondArrow = codes "` appears a second time: a rule has only one."
shape_back Nested = codes "` before any `]`: brackets don't nest."
shape_back Unclosed = codes "` on its side of `->`."
shape_back LoneClosing = codes "` on its side of `->`."
shape_back NothingLeft = codes "`."
shape_back NothingRight = codes "`: a rule is written on one line."
shape_back NoCells = codes "`: its cells have to be in `[` and `]`, as `(` begins a comment."
shape_back BarOutside = codes "` is outside brackets: it separates the cells of a row."
shape_back DirectionOutside = codes "` is after `->`: the directions of a rule come before the first `[`."
shape_back WordOutside = codes "` is outside brackets."

-- what stands before another word of a rule
abbrev pub rule_front : RuleSlip → List ℕ
rule_front LoopWords = codes "`"
rule_front MessageAlone = codes "`"
rule_front LateMove =
    codes "A `late` rule runs after the movement, so its brackets can't have movement words: take out `"
rule_front Chance = codes "`"
rule_front Rigid = codes "`"
rule_front TwiceInCell = codes "`"
rule_front RuleComment = codes "Comments are written between `(` and `)`: `"
rule_front LikeLoop =
    codes "A loop begins with `startloop` and ends with `endloop`, each alone on its line: this line begins with `"
rule_front WinLine = codes "A win condition belongs below the header WINCONDITIONS, but this line is in RULES: `"
rule_front FirstEllipsis = codes "`"
rule_front LastEllipsis = codes "`"
rule_front EllipsisBeside = codes "`"
rule_front EllipsisAgain = codes "`"

-- what stands after it
abbrev pub rule_back : RuleSlip → List ℕ
rule_back LoopWords = codes "` has to be alone on its line."
rule_back MessageAlone = codes "` is on a line without `->`: the message of a rule comes after `->`."
rule_back LateMove = codes "`, or `late`."
rule_back Chance =
    codes "` isn't supported, as nothing here is random: a rule has to say which place and direction it means."
rule_back Rigid =
    codes "` isn't supported: a late rule with `cancel` can cancel a turn in which only a part has moved."
rule_back TwiceInCell = codes "` is in this cell a second time."
rule_back RuleComment = codes "` doesn't begin one."
rule_back LikeLoop = codes "`."
rule_back WinLine = codes "` begins one."
rule_back FirstEllipsis = codes "` is first in its row: a cell has to come before it."
rule_back LastEllipsis = codes "` is last in its row: a cell has to come after it."
rule_back EllipsisBeside = codes "` has to be alone in its cell."
rule_back EllipsisAgain = codes "` is right before another one: a cell has to come between them."

-- what stands before a word that can't stand where it stands
abbrev pub place_front : PlaceSlip → List ℕ
place_front Ahead = codes "`"
place_front CommandInCell = codes "`"
place_front KeyWordInCell = codes "`"
place_front Nameless = codes "A name has to come right after `"
place_front OutsideLeft = codes "`"
place_front BeforeRow = codes "`"
place_front NoCommand = codes "`"

-- what stands after it
abbrev pub place_back : PlaceSlip → List ℕ
place_back Ahead = codes "` is before the first `[`, where only `late` and directions may be, and `+` at the start."
place_back CommandInCell = codes "` is in brackets: commands come after the last `]` on the right."
place_back KeyWordInCell = codes "` is in brackets, where only names, movement words, `no` and `...` may be."
place_back Nameless = codes "`."
place_back OutsideLeft = codes "` is outside brackets: on the left, nothing may be outside them after the first `[`."
place_back BeforeRow = codes "` is before a `[` on the right: commands come after the last `]`."
place_back NoCommand = codes "` isn't a command: only commands come after the brackets on the right."

-- what stands before a word of another section
abbrev pub form_front : FormSlip → List ℕ
form_front NoEquals = codes "A line of LEGEND is `X = Y`, `X = Y and Z` or `X = Y or Z`: `"
form_front NoJoiner = codes "A line of LEGEND is `X = Y`, `X = Y and Z` or `X = Y or Z`: `"
form_front EqualsAsName = codes "A line of LEGEND is `X = Y`, `X = Y and Z` or `X = Y or Z`: `"
form_front LegendEnds = codes "A line of LEGEND is `X = Y`, `X = Y and Z` or `X = Y or Z`, and can't end after `"
form_front NoQuantifier = codes "A win condition is `No X`, `Some X`, `Any X` or `All X`, or that with `on Y`: `"
form_front NoOn = codes "A win condition is `No X`, `Some X`, `Any X` or `All X`, or that with `on Y`: `"
form_front FurtherWord = codes "A win condition is `No X`, `Some X`, `Any X` or `All X`, or that with `on Y`: `"
form_front WinEnds =
    codes "A win condition is `No X`, `Some X`, `Any X` or `All X`, or that with `on Y`, and can't end after `"
form_front SecondName = codes "An object's line has its name, and perhaps a second one of one character: `"
form_front ThirdName = codes "An object's line has its name, and perhaps a second one of one character: `"
form_front NameAgain = codes "`"
form_front RealTime = codes "`"
form_front WinComment = codes "Comments are written between `(` and `)`: `"
form_front LegendLine = codes "A line such as `X = Y` belongs below the header LEGEND, but this one is in OBJECTS: `"
form_front RoomSize = codes "After `flickscreen` comes the size of a room in one word, such as `5x5`: here it is `"
form_front NoRoomSize = codes "The size of a room, such as `5x5`, has to come after `"
form_front Caption = codes "A text that is to be shown begins with `message`, as `message "
form_front RuleLine = codes "A rule belongs below the header RULES, but this line is in COLLISIONLAYERS: `"
form_front LikeMessage = codes "A message begins with the word `message` and a blank: this line begins with `"

-- what stands after it
abbrev pub form_back : FormSlip → List ℕ
form_back NoEquals = codes "` is where `=` has to be."
form_back NoJoiner = codes "` is where `and` or `or` has to be."
form_back EqualsAsName = codes "` is where a name has to be."
form_back LegendEnds = codes "`."
form_back NoQuantifier = codes "` is where one of these four has to be."
form_back NoOn = codes "` is where `on` has to be."
form_back FurtherWord = codes "` is one word too many."
form_back WinEnds = codes "`."
form_back SecondName = codes "` is its second word."
form_back ThirdName = codes "` is its third word."
form_back NameAgain = codes "` is already a name on this line: upper and lower case are the same."
form_back RealTime =
    codes "` isn't supported, as everything here follows a key: a rule with `again` goes on by itself."
form_back WinComment = codes "` doesn't begin one."
form_back LegendLine = codes "` is its second word."
form_back RoomSize = codes "`."
form_back NoRoomSize = codes "`."
form_back Caption = codes " ..` does."
form_back RuleLine = codes "` begins a row of a rule."
form_back LikeMessage = codes "`."

-- what stands before the word that has a slip
abbrev pub slip_front : Slip → List ℕ
slip_front (Shape slip) = shape_front slip
slip_front (Rule slip) = rule_front slip
slip_front (Place slip) = place_front slip
slip_front (Form slip) = form_front slip

-- what stands after it
abbrev pub slip_back : Slip → List ℕ
slip_back (Shape slip) = shape_back slip
slip_back (Rule slip) = rule_back slip
slip_back (Place slip) = place_back slip
slip_back (Form slip) = form_back slip

-- what is said about a word that has a slip
abbrev pub slip_words : Slip → List ℕ → List ℕ
slip_words slip word = slip_front slip ++ (word ++ slip_back slip)
