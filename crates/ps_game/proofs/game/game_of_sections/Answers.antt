use Rattle.std.proofs.Common.{◌≡◌, List, Some}
use Rattle.ps_model.specs.declared.faults.Fault.{Fault as TheFault}
use Rattle.ps_model.specs.text.Faults.{first_fault}
use Rattle.ps_model.specs.game.Games.{line_faults, game_of_lines}
use Rattle.ps_model.specs.text.Lines.{Line, lines_of}
use Rattle.ps_model.specs.declared.refusal.Refusal.{Refusal}
use Rattle.ps_model.specs.declared.refusal.Refusal.TheVariants.{Refused}
use Rattle.ps_game.proofs.WholeGame.{told_by_names, told_by_rules, told_by_levels, told_by_wins, told_by_readings}
use Rattle.ps_game.proofs.WholeGame.{is_game}
use Rattle.ps_game.proofs.Refusals.{refused-finds, memory-finds}
use Rattle.ps_game.proofs.game.game_of_sections.Goals as goal

pub returns-in_err-names-clause-read : goal.returns-in_err-names-clause-read
returns-in_err-names-clause-read c =
    let lines : List Line = lines_of c.args.source.now in
    let inner : Refusal = c.in_err-names.field-0.0 in
    let told : (f : TheFault) → inner ≡ Refused f → first_fault (line_faults lines) ≡ Some f =
    λ f e. told_by_names lines f c.requires.fine (c.in_err-names.ensures.1.1 f e) in
    refused-finds c.from_residual.result inner (game_of_lines lines) (line_faults lines)
    c.from_residual.ensures.1 told

pub returns-in_err-rules-clause-read : goal.returns-in_err-rules-clause-read
returns-in_err-rules-clause-read c =
    let lines : List Line = lines_of c.args.source.now in
    let inner : Refusal = c.in_err-rules.field-0.0 in
    let told : (f : TheFault) → inner ≡ Refused f → first_fault (line_faults lines) ≡ Some f =
    λ f e. told_by_rules lines _ f (record {
      same = c.in_ok-names.ensures.0;
      headings = c.requires.fine;
      named =
          c.in_ok-names.ensures.1.0;
    }) (c.in_err-rules.ensures.1.1 f e) in
    refused-finds c.from_residual-in_err-rules.result inner (game_of_lines lines) (line_faults lines)
    c.from_residual-in_err-rules.ensures.1 told

pub returns-in_err-entries-clause-read : goal.returns-in_err-entries-clause-read
returns-in_err-entries-clause-read c =
    let lines : List Line = lines_of c.args.source.now in
    let inner : Refusal = c.in_err-entries.field-0.0 in
    let told : (f : TheFault) → inner ≡ Refused f → first_fault (line_faults lines) ≡ Some f =
    λ f e.
    told_by_levels lines _ f (record {
      same = c.in_ok-names.ensures.0;
      headings = c.requires.fine;
      named =
          c.in_ok-names.ensures.1.0;
    }) c.in_ok-rules.ensures.1.0 (
    c.in_err-entries.ensures.read.1.1 f e
    ) in
    refused-finds c.from_residual-in_err-entries.result inner (game_of_lines lines) (line_faults lines)
    c.from_residual-in_err-entries.ensures.1 told

pub returns-in_err-wins-clause-read : goal.returns-in_err-wins-clause-read
returns-in_err-wins-clause-read c =
    let lines : List Line = lines_of c.args.source.now in
    let inner : Refusal = c.in_err-wins.field-0.0 in
    let told : (f : TheFault) → inner ≡ Refused f → first_fault (line_faults lines) ≡ Some f =
    λ f e.
    told_by_wins lines _ f (
    record {
      named = record { same = c.in_ok-names.ensures.0; headings = c.requires.fine; named = c.in_ok-names.ensures.1.0 };
      ruled = c.in_ok-rules.ensures.1.0;
      levelled = c.in_ok-entries.ensures.read.1.0;
    }
    ) (c.in_err-wins.ensures.1.1 f e) in
    refused-finds c.from_residual-in_err-wins.result inner (game_of_lines lines) (line_faults lines)
    c.from_residual-in_err-wins.ensures.1 told

pub returns-in_err-check_readings-clause-read : goal.returns-in_err-check_readings-clause-read
returns-in_err-check_readings-clause-read c =
    let lines : List Line = lines_of c.args.source.now in
    let inner : Refusal = c.in_err-check_readings.field-0.0 in
    let told : (f : TheFault) → inner ≡ Refused f → first_fault (line_faults lines) ≡ Some f =
    λ f e.
    told_by_readings lines _ _ f (
    record {
      named = record { same = c.in_ok-names.ensures.0; headings = c.requires.fine; named = c.in_ok-names.ensures.1.0 };
      ruled = c.in_ok-rules.ensures.1.0;
      levelled = c.in_ok-entries.ensures.read.1.0;
    }
    ) c.in_ok-wins.ensures.1.0 c.in_ok-rules.ensures.0 (c.in_err-check_readings.ensures.refused f e) in
    refused-finds c.from_residual-in_err-check_readings.result inner (game_of_lines lines) (line_faults lines)
    c.from_residual-in_err-check_readings.ensures.1 told

pub returns-in_err-title-clause-read : goal.returns-in_err-title-clause-read
returns-in_err-title-clause-read c =
    let lines : List Line = lines_of c.args.source.now in
    memory-finds c.from_residual-in_err-title.result (game_of_lines lines) (line_faults lines)
    c.from_residual-in_err-title.ensures.1

pub returns-in_err-options-clause-read : goal.returns-in_err-options-clause-read
returns-in_err-options-clause-read c =
    let lines : List Line = lines_of c.args.source.now in
    memory-finds c.from_residual-in_err-options.result (game_of_lines lines) (line_faults lines)
    c.from_residual-in_err-options.ensures.1

pub returns-clause-read : goal.returns-clause-read
returns-clause-read c = (
  is_game (lines_of c.args.source.now) _ (
      record {
        named = record {
          same = c.in_ok-names.ensures.0;
          headings = c.requires.fine;
          named =
              c.in_ok-names.ensures.1.0;
        };
        ruled = c.in_ok-rules.ensures.1.0;
        levelled = c.in_ok-entries.ensures.read.1.0;
      }
      ) c.in_ok-wins.ensures.1.0 c.in_ok-rules.ensures.0 c.in_ok-check_readings.ensures.fine (
      rw c.requires.prelude.same c.in_ok-title.ensures
      ) (rw c.requires.prelude.same c.in_ok-options.ensures) c.in_ok-entries.ensures.read.0 c.in_ok-wins.ensures.0,
  tt,
)
