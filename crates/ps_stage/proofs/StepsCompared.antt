-- Steps that come to the same change.
use Rattle.std.proofs.Common.{◌≡◌, ◌∙◌, ℕ, Bool, List, subst}
use Rattle.std.specs.Prelude.{IfErr, IfOk, Result}
use Rattle.ps_model.specs.board.Grid.{Grid}
use Rattle.ps_model.specs.board.Turns.{Script}
use Rattle.ps_model.specs.session.Sessions.{Play, Step}
use Rattle.ps_board.specs.declared.board.Board.{Ghosts as Board}
use Rattle.ps_turn.specs.declared.rules.Rules.{Ghosts as Rules}
use Rattle.ps_turn.specs.declared.rules.TurnRules.{TurnRules}
use Rattle.ps_stage.specs.Changes.{ComesTo}
use Rattle.ps_stage.specs.Locations.{GoesOnBasis}
use Rattle.ps_stage.specs.Meanings.{meaning_of, same_late, same_plain, script_by}
use Rattle.ps_stage.specs.OwnBoards.{ChangeFits, IsForOthers}
use Rattle.ps_stage.specs.Standings.{SessionParts, Standing, basis_of, play_of}
use Rattle.ps_stage.specs.declared.locations.Change.{Change}
use Rattle.ps_stage.specs.declared.stops.Stop.{Stop}
use Rattle.ps_stage.proofs.KeyChanges.{stopped_as}
use Rattle.ps_stage.proofs.Results.{if_err, if_ok}
use Rattle.ps_stage.proofs.Scripts.{same_script}

-- what a step comes to another comes to that is the same, in the same game by rules that mean the same
pub comes_too : {B Words R : Type 0} (boards : Board B Words) (kind : Rules R B Words) (game then : SessionParts)
    (rules those : TurnRules R) (level : Standing) (step other : Script → Play → Step)
    (result : Result (Change Standing (List Bool)) Stop) (text : List ℕ) →
    then ≡ game → meaning_of kind those ≡ meaning_of kind rules →
    ((history : List Grid) → step (script_by boards kind game rules) (play_of history level)
    ≡ other (script_by boards kind then those) (play_of history level)) →
    ComesTo boards kind then those level other result text → ComesTo boards kind game rules level step result text
comes_too boards kind game then rules those level step other result text parts meaning same comes =
    let script : script_by boards kind then those ≡ script_by boards kind game rules =
    same_script boards.table_for game then (kind.meant rules.plain) (kind.meant rules.late) (kind.meant those.plain)
    (kind.meant those.late) parts (same_plain meaning) (same_late meaning) in
    record {
      came = if_ok result comes.came (λ change came history. same history ∙ came history);
      stopped = if_err result comes.stopped (λ stop stopped history.
          stopped_as (script_by boards kind game rules) (script_by boards kind then those) stop _ _ text script
          (same history) (stopped history));
      basis = subst (λ (parts : SessionParts). IfOk result (GoesOnBasis (basis_of boards.table_for parts.names))) parts
          comes.basis;
      fits = subst (λ (parts : SessionParts). IfOk result (ChangeFits parts level.entry)) parts comes.fits;
      elsewhere = subst (λ (parts : SessionParts). IfErr result (IsForOthers parts)) parts comes.elsewhere;
      touched = comes.touched;
    }
