-- The two programs of a game's rules: the plain one, and the late one. Rules in their order make groups, a rule with
-- `+` in that of the rule before; the groups between `startloop` and `endloop` make a loop, which both programs have.
use Rattle.std.specs.Prelude.{Bool, true, false, if◌then◌else◌, List, [], ◌∷◌, ◌++◌, map, filter}
use Rattle.std.specs.List.{flat_map, filter_map, slice_split}
use Rattle.std.specs.Prelude.{Option, Some, None, not}
use Rattle.ps_model.specs.declared.rules.Part.{Part}
use Rattle.ps_model.specs.declared.rules.Part.TheVariants.{Plain, Late}
use Rattle.ps_model.specs.names.Names.{Names}
use Rattle.ps_model.specs.rules.SourceRules.{SourceRule, RuleLine, Rule, LoopStart, LoopEnd}
use Rattle.ps_model.specs.meaning.ReadingMeanings.{meanings}
use Rattle.ps_model.specs.board.RuleSections.{SectionOf, Group, Loop, section_by}
use Rattle.ps_model.specs.board.Programs.{Section}

-- the rule belongs to that part of a turn
abbrev pub is_in_part : Part → SourceRule → Bool
is_in_part Plain rule = not rule.late
is_in_part Late rule = rule.late

-- the rule of a line
abbrev pub rule_in : RuleLine → Option SourceRule
rule_in (Rule rule) = Some rule
rule_in LoopStart = None
rule_in LoopEnd = None

-- the line starts a loop
abbrev pub is_start : RuleLine → Bool
is_start (Rule rule) = false
is_start LoopStart = true
is_start LoopEnd = false

-- the line ends a loop
abbrev pub is_end : RuleLine → Bool
is_end (Rule rule) = false
is_end LoopStart = false
is_end LoopEnd = true

-- the first rule of a group has a `+`, so that it belongs to the rule before
abbrev pub is_joined : List SourceRule → Bool
is_joined [] = false
is_joined (rule ∷ rules) = rule.joined

-- a rule before groups: in the first one, where that is joined to it, else in one of its own
abbrev pub before_groups : SourceRule → List (List SourceRule) → List (List SourceRule)
before_groups rule [] = (rule ∷ []) ∷ []
before_groups rule (first ∷ others) = if is_joined first then (rule ∷ first) ∷ others else (rule ∷ []) ∷ first ∷ others

-- the groups of rules
abbrev pub groups_of : List SourceRule → List (List SourceRule)
groups_of [] = []
groups_of (rule ∷ rules) = before_groups rule (groups_of rules)

-- the groups of one part that lines make
abbrev pub groups_in : Part → List RuleLine → List (List SourceRule)
groups_in part lines = groups_of (filter (is_in_part part) (filter_map rule_in lines))

-- lines outside of loops: each group is a section
abbrev pub outside_loops : Part → List RuleLine → List (SectionOf SourceRule)
outside_loops part lines = map Group (groups_in part lines)

-- lines inside of a loop: all groups are one section
abbrev pub inside_loop : Part → List RuleLine → List (SectionOf SourceRule)
inside_loop part lines = Loop (groups_in part lines) ∷ []

-- what comes of pieces: of the first one, and then of each other one
abbrev pub of_pieces : {A B : Type 0} → (A → List B) → (A → List B) → List A → List B
of_pieces first other [] = []
of_pieces first other (piece ∷ pieces) = first piece ++ flat_map other pieces

-- the lines after the start of a loop, cut at its end: inside are those before it
abbrev pub behind_start : Part → List RuleLine → List (SectionOf SourceRule)
behind_start part lines = of_pieces (inside_loop part) (outside_loops part) (slice_split is_end lines)

-- the sections of lines, which are cut at the starts of loops: outside are those before the first start
abbrev pub sections_of : Part → List RuleLine → List (SectionOf SourceRule)
sections_of part lines = of_pieces (outside_loops part) (behind_start part) (slice_split is_start lines)

-- the program that has in place of each rule those that it makes
abbrev pub program_by : {A : Type 0} → (SourceRule → List A) → Part → List RuleLine → List (SectionOf A)
program_by made part lines = map (section_by (flat_map made)) (sections_of part lines)

-- the program of a part of a turn: by what the rules mean
abbrev pub program_of : Names → Part → List RuleLine → List Section
program_of names part lines = program_by (meanings names) part lines
