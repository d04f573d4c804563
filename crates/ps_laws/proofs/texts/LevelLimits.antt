-- The sides of the levels of every game are within the limits: a level that is too large is a fault.
use Rattle.std.proofs.Common.{◌≡◌, ℕ, suc, ◌+◌, ◌≤◌, false, List, [], ◌∷◌, ◌++◌, length, map, arith}
use Rattle.std.specs.Prelude.{All}
use Rattle.std.proofs.lemmas.Bool.Decides.{nat_tests}
use Rattle.std.proofs.lemmas.List.Elements.{All-nil, All-cons}
use Rattle.ps_model.specs.declared.texts.Section.TheVariants.{Objects, Legend, Layers, Rules, Levels}
use Rattle.ps_model.specs.declared.faults.Fault.{Fault}
use Rattle.ps_model.specs.declared.faults.FaultKind.TheVariants.{TooLarge}
use Rattle.ps_model.specs.declared.limits.TheConstants.{SIDE_LIMIT}
use Rattle.ps_model.specs.text.Lines.{Line}
use Rattle.ps_model.specs.text.Sections.{section_lines, header_number, heading_faults}
use Rattle.ps_model.specs.names.Names.{Names}
use Rattle.ps_model.specs.names.NameFaults.{name_faults}
use Rattle.ps_model.specs.rules.RuleFaults.{rule_faults}
use Rattle.ps_model.specs.session.LevelLines.{EntryLines, MessageLine, LevelRows, characters_of, entry_of_lines}
use Rattle.ps_model.specs.session.LevelLines.{entry_lines}
use Rattle.ps_model.specs.session.LevelFaults.{is_too_large, row_faults, rows_faults, too_many, entry_faults}
use Rattle.ps_model.specs.session.LevelFaults.{entries_faults, level_faults}
use Rattle.ps_model.specs.session.GameLevels.{IsEntryWithinLimits}
use Rattle.ps_model.specs.game.Games.{Game, game_read, line_faults}
use Rattle.ps_laws.specs.GamesOfTexts.{GameLevelsAreWithinLimits}
use Rattle.ps_laws.proofs.texts.FaultlessNames.{of_every_faultless}
use Rattle.ps_laws.proofs.common.Lists.{none-before, none-behind}
use Rattle.ps_laws.proofs.common.FirstFaults.{untold}

-- a row without faults isn't where a level is too large
row-fits : (names : Names) (width place : ℕ) (row : Line) → row_faults names width place row ≡ [] →
    is_too_large width place ≡ false
row-fits names width place row e = untold (is_too_large width place) TooLarge row.number
    (none-behind _ _ (none-behind _ _ e))

narrow : (width : ℕ) → is_too_large width 0 ≡ false → width ≤ SIDE_LIMIT
narrow width e = grind (arith, nat_tests)

below-limit : (width place : ℕ) → is_too_large width place ≡ false → place ≤ SIDE_LIMIT → suc place ≤ SIDE_LIMIT
below-limit width place e h = grind (arith, nat_tests)

-- rows without faults are no more than the limit
pub rows-fit : (names : Names) (width place : ℕ) (rows : List Line) → place ≤ SIDE_LIMIT →
    rows_faults names width place rows ≡ [] → place + length rows ≤ SIDE_LIMIT
rows-fit names width place [] h e = omega arith
rows-fit names width place (row ∷ rows) h e =
    let here : List Fault = row_faults names width place row in
    let others : List Fault = rows_faults names width (suc place) rows in
    let less : suc place ≤ SIDE_LIMIT = below-limit width place
    (row-fits names width place row (none-before here others e)) h in
    let rest : suc place + length rows ≤ SIDE_LIMIT =
    rows-fit names width (suc place) rows less (none-behind here others e) in
    omega (arith, rest)

-- an entry without faults
pub entry-within : (names : Names) (place : ℕ) (entry : EntryLines) → entry_faults names place entry ≡ [] →
    IsEntryWithinLimits (entry_of_lines names entry)
entry-within names place (MessageLine line) e = tt
entry-within names place (LevelRows first below) e =
    let width : ℕ = length (characters_of first) in
    let here : List Fault = row_faults names width 0 first in
    let more : List Fault = too_many place first in
    let others : List Fault = rows_faults names width 1 below in
    let fits : 1 + length below ≤ SIDE_LIMIT =
    rows-fit names width 1 below (omega arith) (none-behind more others (none-behind here (more ++ others) e)) in
    record {
      columns = narrow width (row-fits names width 0 first (none-before here (more ++ others) e));
      some_row = omega arith;
      rows = omega (arith, fits);
    }

entries-within : (names : Names) (place : ℕ) (entries : List EntryLines) → entries_faults names place entries ≡ [] →
    All IsEntryWithinLimits (map (entry_of_lines names) entries)
entries-within names place [] e = All-nil IsEntryWithinLimits
entries-within names place (entry ∷ entries) e =
    let here : List Fault = entry_faults names place entry in
    let others : List Fault = entries_faults names (suc place) entries in
    All-cons IsEntryWithinLimits (entry_of_lines names entry) (map (entry_of_lines names) entries)
    (entry-within names place entry (none-before here others e))
    (entries-within names (suc place) entries (none-behind here others e))

levels-faultless : (lines : List Line) → line_faults lines ≡ [] →
    level_faults (game_read lines).names (header_number lines Levels) (section_lines lines Levels) ≡ []
levels-faultless lines e =
    none-before (level_faults (game_read lines).names (header_number lines Levels) (section_lines lines Levels)) _
    (none-behind (rule_faults (game_read lines).names (section_lines lines Rules)) _
    (none-behind (name_faults (header_number lines Objects) (section_lines lines Objects) (section_lines lines Legend)
    (section_lines lines Layers)) _ (none-behind (heading_faults lines) _ e)))

pub game-levels-within : GameLevelsAreWithinLimits
game-levels-within text read e =
    of_every_faultless (λ (made : Game). All IsEntryWithinLimits made.entries)
    (λ lines none. entries-within (game_read lines).names 0 (entry_lines (section_lines lines Levels))
    (none-before (entries_faults (game_read lines).names 0 (entry_lines (section_lines lines Levels))) _
    (levels-faultless lines none))) text read e
