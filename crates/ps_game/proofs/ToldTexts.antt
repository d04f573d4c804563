-- The faults of a text that a check tells are picked from all of its own.
use Rattle.std.proofs.Common.{◌≡◌, ◌∙◌, ◌⊎◌, inl, inr, ◌++◌, ◌∷◌, ℕ, suc, Bool, true, false, Option, Some, None, List, []}
use Rattle.std.proofs.Common.{length, refl, sym, ap, append_assoc}
use Rattle.std.specs.List.{IsAmong, list_any}
use Rattle.std.proofs.Common.{arith}
use Rattle.std.proofs.lemmas.Bool.Decides.{nat_tests}
use Rattle.std.specs.Option.{is_none}
use Rattle.std.specs.Prelude.{not, nat_eq, nat_lt, is_some, ◌&&◌, if◌then◌else◌}
use Rattle.ps_model.specs.declared.texts.Section.TheVariants.{Rules, Wins, Levels}
use Rattle.ps_model.specs.declared.faults.Fault.{Fault}
use Rattle.ps_model.specs.text.Faults.{first_fault}
use Rattle.ps_model.specs.text.TextFaults.{text_fault}
use Rattle.ps_model.specs.text.Lines.{Line, lines_of}
use Rattle.ps_model.specs.text.Sections.{section_lines, header_number, heading_faults}
use Rattle.ps_model.specs.names.Names.{Names}
use Rattle.ps_model.specs.rules.SourceRules.{SourceRule}
use Rattle.ps_model.specs.rules.RuleFaults.{rule_faults}
use Rattle.ps_model.specs.rules.ReadingFaults.{too_many_readings, impossible_rules, or_impossible, faults_of_readings}
use Rattle.ps_model.specs.session.LevelFaults.{level_faults}
use Rattle.ps_model.specs.board.WinLines.{win_faults}
use Rattle.ps_model.specs.game.Games.{Game, faults, game_of_lines, game_read, line_faults, unless}
use Rattle.ps_rules.specs.ToldRules.{told_rules}
use Rattle.ps_levels.specs.ToldLevels.{told_levels}
use Rattle.ps_levels.specs.ToldWins.{told_wins}
use Rattle.ps_game.specs.ToldFaults.{first_or, told_readings, readings_below, rules_of_lines, told_below_names}
use Rattle.ps_game.specs.ToldFaults.{names_of_lines, faults_of_names, told_of_lines, told_of_text, told_with, told_once}
use Rattle.ps_game.specs.ToldFaults.{told_faults}
use Rattle.ps_game.specs.ToldLaws.{FirstIsToldFirst, NoneOfGames, ToldAreFaults}
use Rattle.ps_game.proofs.Picked.{Has, AreOf, same-are, joined-are, has-left, has-right, has-among, among-has, front-same}
use Rattle.ps_game.proofs.ToldParts.{rules-are, rules-first, levels-are, levels-first, wins-are, wins-first}

-- the first alone, or others
or-are : (xs ys all : List Fault) → AreOf ys all → AreOf (first_or xs ys) (xs ++ all)
or-are [] ys all behind fault has = behind fault has
or-are (x ∷ xs) ys all behind fault (inl same) = inl same
or-are (x ∷ xs) ys all behind fault (inr has) = absurd has

or-first : (xs ys all : List Fault) → first_fault ys ≡ first_fault all →
    first_fault (first_or xs ys) ≡ first_fault (xs ++ all)
or-first [] ys all e = e
or-first (x ∷ xs) ys all e = refl

-- readings ------------------------------------------------------------------------------------------------------------

readings-by : (names : Names) (rules : List SourceRule) (many : List Fault) →
    AreOf (first_or many (impossible_rules names rules)) (or_impossible names rules many)
readings-by names rules [] each has = has
readings-by names rules (fault ∷ others) each (inl same) = inl same
readings-by names rules (fault ∷ others) each (inr has) = absurd has

readings-first-by : (names : Names) (rules : List SourceRule) (many : List Fault) →
    first_fault (first_or many (impossible_rules names rules)) ≡ first_fault (or_impossible names rules many)
readings-first-by names rules [] = refl
readings-first-by names rules (fault ∷ others) = refl

readings-are : (front : List Fault) (names : Names) (rules : List SourceRule) →
    AreOf (readings_below front names rules) (faults_of_readings names rules)
readings-are [] names rules each has = readings-by names rules (too_many_readings names 0 rules) each has
readings-are (fault ∷ others) names rules each has = absurd has

-- those below a fault don't matter
rest-first : (front rules levels wins all others : List Fault) (names : Names) (read : List SourceRule) →
    first_fault rules ≡ first_fault front → first_fault levels ≡ first_fault all →
    first_fault wins ≡ first_fault others →
    first_fault (rules ++ (levels ++ (wins ++ readings_below front names read)))
    ≡ first_fault (front ++ (all ++ (others ++ faults_of_readings names read)))
rest-first [] [] levels wins all others names read r l w =
    front-same levels all (wins ++ told_readings names read) (others ++ faults_of_readings names read) l
    (front-same wins others (told_readings names read) (faults_of_readings names read) w
    (readings-first-by names read (too_many_readings names 0 read)))
rest-first [] (x ∷ rules) levels wins all others names read r l w = absurd (let h = r in cc)
rest-first (fault ∷ front) [] levels wins all others names read r l w = absurd (let h = r in cc)
rest-first (fault ∷ front) (x ∷ rules) levels wins all others names read r l w = r

-- lines ---------------------------------------------------------------------------------------------------------------

-- the faults below the names
abbrev rest_faults : Names → List Line → List Fault
rest_faults names lines =
    rule_faults names (section_lines lines Rules)
    ++ (level_faults names (header_number lines Levels) (section_lines lines Levels)
    ++ (win_faults names (section_lines lines Wins) ++ faults_of_readings names (rules_of_lines names lines)))

rest-are : (names : Names) (lines : List Line) → AreOf (told_below_names names lines) (rest_faults names lines)
rest-are names lines =
    let below : List Fault = readings_below (rule_faults names (section_lines lines Rules)) names
    (rules_of_lines names lines) in
    let readings : List Fault = faults_of_readings names (rules_of_lines names lines) in
    let wins : List Fault = told_wins names (section_lines lines Wins) in
    let all : List Fault = win_faults names (section_lines lines Wins) in
    let levels : List Fault = told_levels names (header_number lines Levels) (section_lines lines Levels) in
    let each : List Fault = level_faults names (header_number lines Levels) (section_lines lines Levels) in
    joined-are (told_rules names (section_lines lines Rules)) (rule_faults names (section_lines lines Rules))
    (levels ++ (wins ++ below)) (each ++ (all ++ readings)) (rules-are names (section_lines lines Rules))
    (joined-are levels each (wins ++ below) (all ++ readings)
    (levels-are names (header_number lines Levels) (section_lines lines Levels))
    (joined-are wins all below readings (wins-are names (section_lines lines Wins))
    (readings-are (rule_faults names (section_lines lines Rules)) names (rules_of_lines names lines))))

lines-are : (lines : List Line) → AreOf (told_of_lines lines) (line_faults lines)
lines-are lines =
    or-are (heading_faults lines) (first_or (faults_of_names lines) (told_below_names (names_of_lines lines) lines))
    (faults_of_names lines ++ rest_faults (names_of_lines lines) lines)
    (or-are (faults_of_names lines) (told_below_names (names_of_lines lines) lines)
    (rest_faults (names_of_lines lines) lines) (rest-are (names_of_lines lines) lines))

lines-first : (lines : List Line) → first_fault (told_of_lines lines) ≡ first_fault (line_faults lines)
lines-first lines =
    let names : Names = names_of_lines lines in
    or-first (heading_faults lines) (first_or (faults_of_names lines) (told_below_names names lines))
    (faults_of_names lines ++ rest_faults names lines)
    (or-first (faults_of_names lines) (told_below_names names lines) (rest_faults names lines)
    (rest-first (rule_faults names (section_lines lines Rules)) (told_rules names (section_lines lines Rules))
    (told_levels names (header_number lines Levels) (section_lines lines Levels))
    (told_wins names (section_lines lines Wins))
    (level_faults names (header_number lines Levels) (section_lines lines Levels))
    (win_faults names (section_lines lines Wins)) names (rules_of_lines names lines)
    (rules-first names (section_lines lines Rules))
    (levels-first names (header_number lines Levels) (section_lines lines Levels))
    (wins-first names (section_lines lines Wins))))

-- texts ---------------------------------------------------------------------------------------------------------------

text-by : (text : List ℕ) (fault : Option Fault) → AreOf
    (elim fault [ Some only ↦ only ∷ [] | None ↦ told_of_lines (lines_of text) ])
    (elim fault [ Some only ↦ only ∷ [] | None ↦ line_faults (lines_of text) ])
text-by text None = lines-are (lines_of text)
text-by text (Some fault) = same-are (fault ∷ [])

text-are : (text : List ℕ) → AreOf (told_of_text text) (faults text)
text-are text = text-by text (text_fault text)

text-first-by : (text : List ℕ) (fault : Option Fault) →
    first_fault (elim fault [ Some only ↦ only ∷ [] | None ↦ told_of_lines (lines_of text) ]) ≡ first_fault
    (elim fault [ Some only ↦ only ∷ [] | None ↦ line_faults (lines_of text) ])
text-first-by text None = lines-first (lines_of text)
text-first-by text (Some fault) = refl

text-first : (text : List ℕ) → first_fault (told_of_text text) ≡ first_fault (faults text)
text-first text = text-first-by text (text_fault text)

-- each line once ------------------------------------------------------------------------------------------------------

with-by : (told : List Fault) (fault : Fault) (more : Bool) →
    AreOf (if more then told ++ fault ∷ [] else told) (told ++ fault ∷ [])
with-by told fault true each has = has
with-by told fault false each has = has-left told (fault ∷ []) each has

moved : (told : List Fault) (fault : Fault) (faults : List Fault) → AreOf ((told ++ fault ∷ []) ++ faults)
    (told ++ (fault ∷ faults))
moved told fault faults each has = rw (← append_assoc told (fault ∷ []) faults) has

once-are : (most : ℕ) (told faults : List Fault) → AreOf (told_once most told faults) (told ++ faults)
once-are most told [] each has = has-left told [] each has
once-are most told (fault ∷ faults) each has =
    let next : List Fault = told_with most told fault in
    let more : Bool = nat_lt (length told) most && not (list_any (λ other. nat_eq other.line fault.line) told) in
    moved told fault faults each (joined-are next (told ++ fault ∷ []) faults faults (with-by told fault more)
    (same-are faults) each (once-are most next faults each has))

-- what is told stays
keeps-by : (first fault : Fault) (told : List Fault) (more : Bool) →
    first_fault (if more then (first ∷ told) ++ fault ∷ [] else first ∷ told) ≡ Some first
keeps-by first fault told true = refl
keeps-by first fault told false = refl

pub kept-first : (most : ℕ) (told faults : List Fault) (first : Fault) → first_fault told ≡ Some first →
    first_fault (told_once most told faults) ≡ Some first
kept-first most [] faults first e = absurd (let h = e in cc)
kept-first most (one ∷ told) [] first e = e
kept-first most (one ∷ told) (fault ∷ faults) first e =
    let more : Bool = nat_lt (length (one ∷ told)) most && not
    (list_any (λ other. nat_eq other.line fault.line) (one ∷ told)) in
    kept-first most (told_with most (one ∷ told) fault) faults first (keeps-by one fault told more ∙ e)

once-first : (most : ℕ) (faults : List Fault) → first_fault (told_once (suc most) [] faults) ≡ first_fault faults
once-first most [] = refl
once-first most (fault ∷ others) =
    let room : nat_lt 0 (suc most) ≡ true = grind (arith, nat_tests) in
    ap (λ (more : Bool). first_fault (told_once (suc most) (if more && true then fault ∷ [] else []) others)) room
    ∙ kept-first (suc most) (fault ∷ []) others fault refl

-- games ---------------------------------------------------------------------------------------------------------------

unless-some : (found : List Fault) (read : Game) → is_some (unless found read) ≡ is_none (first_fault found)
unless-some [] read = refl
unless-some (fault ∷ others) read = refl

game-by : (text : List ℕ) (fault : Option Fault) →
    is_some (elim fault as (λ o. Option Game) [ Some only ↦ None | None ↦ game_of_lines (lines_of text) ])
    ≡ is_none (first_fault (elim fault [ Some only ↦ only ∷ [] | None ↦ line_faults (lines_of text) ]))
game-by text None = unless-some (line_faults (lines_of text)) (game_read (lines_of text))
game-by text (Some fault) = refl

none-counted : (found : List Fault) → is_none (first_fault found) ≡ nat_eq (length found) 0
none-counted [] = refl
none-counted (fault ∷ others) =
    let some : nat_eq (suc (length others)) 0 ≡ false = grind (arith, nat_tests) in sym some

-- laws ----------------------------------------------------------------------------------------------------------------

pub first_is_told_first : FirstIsToldFirst
first_is_told_first most text = once-first most (told_of_text text) ∙ text-first text

pub none_of_games : NoneOfGames
none_of_games most text =
    game-by text (text_fault text) ∙ ap is_none (sym (first_is_told_first most text))
    ∙ none-counted (told_faults (suc most) text)

pub told_are_faults : ToldAreFaults
told_are_faults most text fault among =
    has-among (faults text) fault (text-are text fault (once-are most [] (told_of_text text) fault
    (among-has (told_faults most text) fault among)))
