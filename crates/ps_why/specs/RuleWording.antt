-- What is said about a rule, in words.
use Rattle.std.specs.Prelude.{ℕ, nat_eq, nat_lt, if◌then◌else◌, List, ◌++◌, codes}
use Rattle.std.specs.Fmt.{decimal}
use Rattle.ps_causes.specs.declared.causes.Further.{Further}
use Rattle.ps_causes.specs.declared.causes.Part.{Part}
use Rattle.ps_causes.specs.declared.causes.Part.TheVariants.{FromArrow, WithoutArrow}
use Rattle.ps_causes.specs.declared.causes.RuleCause.{RuleCause}
use Rattle.ps_causes.specs.declared.causes.RuleCause.TheVariants.{BrokenArrow, Pair, Several, Unbound, Rows, Cells, GoesOn}
use Rattle.ps_causes.specs.declared.causes.Could.{Could}
use Rattle.ps_causes.specs.declared.causes.Could.TheVariants.{Nothing, Either, Other}
use Rattle.ps_causes.specs.declared.causes.Shared.{Shared}
use Rattle.ps_causes.specs.declared.causes.Shared.TheVariants.{Object, Property, Layer}
use Rattle.ps_causes.specs.declared.causes.Spot.{Spot}

-- what two names of one cell share
abbrev pub shared_words : Shared → List ℕ
shared_words (Object name) =
    codes "both name `" ++ (name.name.now ++ (codes "` of line " ++ (decimal name.line ++ codes ".")))
shared_words (Property line) = codes "are the same property, that of line " ++ (decimal line ++ codes ".")
shared_words (Layer line) = codes "line " ++ (decimal line ++ codes " of COLLISIONLAYERS is a layer of both.")

-- that two names stand in one cell, and what they share
abbrev pub pair_words : List ℕ → List ℕ → Shared → List ℕ
pair_words word other shared =
    codes "`" ++ (other ++ (codes "` and `" ++ (word ++ (codes "` are in one cell, and " ++ shared_words shared))))

-- that a word stands for several objects at once
abbrev pub several_words : List ℕ → ℕ → List ℕ
several_words word line =
    codes "Line " ++ (decimal line ++ (codes " makes `" ++ (word ++
    codes "` several objects at once, and `no` can't come before such a name.")))

-- that of `times` words two were told
abbrev pub further_words : ℕ → List ℕ
further_words times = if nat_lt 2 times then codes " among them." else codes "."

-- a word, and its cell
abbrev pub spot_words : Spot → List ℕ
spot_words spot = codes "`" ++ (spot.word.text.now ++ (codes "` in cell " ++ decimal spot.cell))

-- another property of the left, and its cell
abbrev pub other_words : List ℕ → ℕ → List ℕ
other_words name cell =
    codes ". The left has another property, `" ++ (name ++ (codes "` in cell " ++ (decimal cell ++ codes ".")))

-- what of the left could be meant, where `times` of it are like the word
abbrev pub could_words : ℕ → Could → List ℕ
could_words times Nothing = codes "."
could_words times (Either first second) =
    codes ", " ++ (spot_words first ++ (codes " and " ++ (spot_words second ++ further_words times)))
could_words times (Other spot) = other_words spot.word.text.now spot.cell

-- that a word of the right isn't on the left, and what else is said
abbrev pub lone_words : List ℕ → List ℕ → List ℕ
lone_words word back =
    codes "`" ++ (word ++ (
    codes "` on the right has to be on the left too, to say which one is meant: there is none to the left of `->`, "
    ++ (codes "`no` aside" ++ back)))

-- that the left has a word of the right `times` times, and what else is said
abbrev pub several_left_words : List ℕ → ℕ → List ℕ → List ℕ
several_left_words word times back =
    codes "`" ++ (word ++ (
    codes "` on the right means that of the same cell on the left, or else the only one there: the left has "
    ++ (decimal times ++ back)))

-- that nothing decides a word of the right
abbrev pub unbound_words : List ℕ → ℕ → Could → List ℕ
unbound_words word times could =
    if nat_eq times 0 then lone_words word (could_words times could)
    else several_left_words word times (could_words times could)

-- how many rows stand on the two sides
abbrev pub rows_words : ℕ → ℕ → List ℕ
rows_words left right =
    codes "Both sides of `->` need the same number of rows in brackets: here the left has " ++ (decimal left ++
    (codes ", the right " ++ (decimal right ++ codes ".")))

-- how many cells a row has on the two sides
abbrev pub cells_words : ℕ → ℕ → ℕ → List ℕ
cells_words row left right =
    codes "A row needs the same number of cells on both sides of `->`: here row " ++ (decimal row ++ (codes " has "
    ++ (decimal left ++ (codes " on the left, " ++ (decimal right ++ codes " on the right.")))))

-- that two words make no arrow
abbrev pub broken_words : List ℕ → List ℕ → List ℕ
broken_words word other =
    codes "The arrow of a rule is `->`, in one piece: this line has `" ++ (other ++ (codes "` and `" ++ (word ++
    codes "` in its place.")))

-- what part of a rule a line is
abbrev pub part_words : Part → List ℕ
part_words FromArrow = codes " begins with `->`."
part_words WithoutArrow = codes " has no `->`."

-- that a rule goes on in a further line
abbrev pub going_on_words : Further → List ℕ
going_on_words further =
    codes "A rule is written on one line, but line " ++ (decimal further.line ++ part_words further.part)

-- what is said about a rule
abbrev pub rule_sentence : RuleCause → List ℕ
rule_sentence (Pair word other shared) = pair_words word.text.now other.text.now shared
rule_sentence (Several word declared) = several_words word.text.now declared
rule_sentence (Unbound word times could) = unbound_words word.text.now times could
rule_sentence (Rows arrow left right) = rows_words left right
rule_sentence (Cells arrow row left right) = cells_words row left right
rule_sentence (BrokenArrow word other) = broken_words word.text.now other.text.now
rule_sentence (GoesOn word further) = going_on_words further
