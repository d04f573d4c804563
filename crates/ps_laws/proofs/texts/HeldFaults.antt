-- What the list of faults leaves out stands after one that it lists.
use Rattle.std.proofs.Common.{◌≡◌, ℕ, Bool, false, ◌&&◌, Option, Some, None, List, [], ◌∷◌, ◌++◌, flat_map, filter_map}
use Rattle.std.proofs.Common.{refl, ap, ap₂}
use Rattle.std.specs.Prelude.{option_to_list}
use Rattle.std.specs.List.{list_any}
use Rattle.ps_model.specs.declared.texts.Section.TheVariants.{Objects, Legend, Layers, Rules, Wins, Levels}
use Rattle.ps_model.specs.declared.faults.Fault.{Fault}
use Rattle.ps_model.specs.declared.faults.FaultKind.TheVariants.{BadBracket, UnknownWord, RowsDiffer, NameTwice}
use Rattle.ps_model.specs.declared.faults.FaultKind.TheVariants.{NoAggregate}
use Rattle.ps_model.specs.text.Faults.{when}
use Rattle.ps_model.specs.text.TextFaults.{utf8_fault, text_fault}
use Rattle.ps_model.specs.text.Lines.{Line, lines_of}
use Rattle.ps_model.specs.text.Sections.{section_lines, header_number, heading_faults}
use Rattle.ps_model.specs.names.Names.{Names}
use Rattle.ps_model.specs.names.NameFaults.{name_faults}
use Rattle.ps_model.specs.rules.SourceRules.{SourceRule}
use Rattle.ps_model.specs.rules.RuleSymbols.{Token, tokens_of, tokens_kept}
use Rattle.ps_model.specs.rules.RuleShape.{RuleShape}
use Rattle.ps_model.specs.rules.RuleLines.{LineForm, StartForm, EndForm, RuleForm, NoForm, form_of, lines_with_words}
use Rattle.ps_model.specs.rules.RuleShapeFaults.{has_bad_bracket, has_unknown_word, has_other_rows}
use Rattle.ps_model.specs.rules.RuleNameFaults.{name_twice, is_no_before_aggregate}
use Rattle.ps_model.specs.rules.RuleFaults.{Above, above_next, faults_of_rule, faults_of_form, faults_of_line}
use Rattle.ps_model.specs.rules.RuleFaults.{faults_below, nothing_above, rule_faults}
use Rattle.ps_model.specs.rules.ReadingFaults.{too_many_readings, or_impossible, reading_faults}
use Rattle.ps_model.specs.session.LevelFaults.{level_faults}
use Rattle.ps_model.specs.board.WinLines.{win_faults}
use Rattle.ps_model.specs.board.RulePrograms.{rule_in}
use Rattle.ps_model.specs.game.Games.{Game, game_read, faults_beside, line_faults}
use Rattle.ps_model.specs.game.HeldFaults.{items_of_sides, hidden_by_rows, hidden_in_line, hidden_by_count}
use Rattle.ps_model.specs.game.HeldFaults.{hidden_in_lines}
use Rattle.ps_laws.specs.OneGame.{HiddenAreBehind}
use Rattle.ps_laws.proofs.common.Lists.{none-before, none-behind}
use Rattle.ps_laws.proofs.common.FirstFaults.{untold}

-- rules ---------------------------------------------------------------------------------------------------------------

-- a rule without faults has the same rows on both sides
same_rows : (above : Above) (line : ℕ) (shape : RuleShape) (rule : SourceRule) →
    faults_of_rule above line shape rule ≡ [] → has_other_rows shape ≡ false
same_rows above line shape rule e =
    let behind_brackets = none-behind (when (has_bad_bracket shape) BadBracket line) _ e in
    let behind_words = none-behind (when (has_unknown_word shape) UnknownWord line) _ behind_brackets in
    untold (has_other_rows shape) RowsDiffer line
    (none-before (when (has_other_rows shape) RowsDiffer line) _ behind_words)

none-by_rows : (above : Above) (line : ℕ) (form : LineForm) → faults_of_form above line form ≡ [] →
    hidden_by_rows line form ≡ []
none-by_rows above line StartForm e = refl
none-by_rows above line EndForm e = refl
none-by_rows above line (RuleForm shape rule) e =
    let none : has_other_rows shape ≡ false = same_rows above line shape rule e in
    ap (λ (b : Bool). when (b && list_any name_twice (items_of_sides shape)) NameTwice line
    ++ when (b && list_any (list_any is_no_before_aggregate) (items_of_sides shape)) NoAggregate line) none
none-by_rows above line NoForm e = refl

none-in_lines : (names : Names) (above : Above) (lines : List Line) → faults_below names above lines ≡ [] →
    flat_map (hidden_in_line names) lines ≡ []
none-in_lines names above [] e = refl
none-in_lines names above (line ∷ lines) e =
    let tokens : List Token = tokens_of names line in
    let form : LineForm = form_of line (tokens_kept tokens) in
    let here = none-before (faults_of_line above line.number tokens form)
    (faults_below names (above_next above line.number form) lines) e in
    let later = none-behind (faults_of_line above line.number tokens form)
    (faults_below names (above_next above line.number form) lines) e in
    ap₂ (λ (front behind : List Fault). front ++ behind)
    (none-by_rows above line.number form (none-before (faults_of_form above line.number form) _ here))
    (none-in_lines names (above_next above line.number form) lines later)

none-by_count : (names : Names) (rules : List SourceRule) (found : List Fault) → or_impossible names rules found ≡ [] →
    hidden_by_count found names rules ≡ []
none-by_count names rules [] e = refl
none-by_count names rules (fault ∷ others) e = absurd (cc e)

-- texts ---------------------------------------------------------------------------------------------------------------

none-hidden : (read : Game) (lines : List Line) → faults_beside read lines ≡ [] → hidden_in_lines read lines ≡ []
none-hidden read lines e =
    let behind_headings = none-behind (heading_faults lines) _ e in
    let behind_names = none-behind (name_faults (header_number lines Objects) (section_lines lines Objects)
    (section_lines lines Legend) (section_lines lines Layers)) _ behind_headings in
    let behind_rules = none-behind (rule_faults read.names (section_lines lines Rules)) _ behind_names in
    let behind_levels = none-behind (level_faults read.names (header_number lines Levels) (section_lines lines Levels))
    _ behind_rules in
    let readings = none-behind (win_faults read.names (section_lines lines Wins))
    (reading_faults read.names read.rules) behind_levels in
    ap₂ (λ (front behind : List Fault). front ++ behind)
    (none-in_lines read.names nothing_above (lines_with_words (section_lines lines Rules))
    (none-before (rule_faults read.names (section_lines lines Rules)) _ behind_names))
    (none-by_count read.names (filter_map rule_in read.rules)
    (too_many_readings read.names 0 (filter_map rule_in read.rules)) readings)

by_text : (text : List ℕ) (found : Option Fault) →
    (let told : List Fault = elim found [ Some fault ↦ fault ∷ [] | None ↦ line_faults (lines_of text) ] in told ≡ []) →
    let hidden : List Fault = elim found [
      | Some fault ↦ option_to_list (utf8_fault text)
      | None ↦ hidden_in_lines
          (game_read (lines_of text)) (lines_of text)
    ] in hidden ≡ []
by_text text (Some fault) e = absurd (cc e)
by_text text None e = none-hidden (game_read (lines_of text)) (lines_of text) e

pub hidden_are_behind : HiddenAreBehind
hidden_are_behind text e = by_text text (text_fault text) e
