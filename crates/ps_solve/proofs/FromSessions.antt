-- Searches from sessions.
use Rattle.std.proofs.Common.{◌≡◌, ◌∙◌, ◌==◌, ℕ, Bool, true, Option, Some, None, List, Result, Ok, Err}
use Rattle.std.proofs.Common.{refl, sym, ap, subst, arith}
use Rattle.std.specs.Prelude.{OnErr}
use Rattle.ps_turn.specs.States.{HaveSameSides, TurnParts}
use Rattle.std.proofs.lemmas.Bool.Decides.{nat_tests}
use Rattle.ps_model.specs.board.Grid.{Grid}
use Rattle.ps_model.specs.board.Turns.{Script}
use Rattle.ps_model.specs.session.Sessions as model
use Rattle.ps_model.specs.session.Sessions.{Play, Session}
use Rattle.ps_model.specs.session.Solving.{Spot, spot, spot_of}
use Rattle.ps_program.specs.declared.program.CompiledSection.{CompiledSection}
use Rattle.ps_rulebook.specs.PlayedGames.{meant_of}
use Rattle.ps_stage.specs.Standings.{SessionParts, script_for, turn_parts}
use Rattle.ps_stage.specs.StepsShown.{pending_shown, stands}
use Rattle.ps_stage.specs.declared.locations.Pending as staged
use Rattle.ps_trial.specs.Desks.{Basis}
use Rattle.ps_trial.specs.Scripts.{PlaysAs}
use Rattle.ps_solve.specs.Searches.{script_of}
use Rattle.ps_answers.specs.SolvedLevels.{IsSolved}
use Rattle.ps_answers.specs.declared.solved.Solved.{Solved}
use Rattle.ps_solve.specs.SolvedLevels.{IsIn, IsSolvedHere, IsSolvedIn, entry_in}

-- sessions ------------------------------------------------------------------------------------------------------------

own_place : (n : ℕ) → (n == n) ≡ true
own_place n = grind (arith, nat_tests)

-- what a message goes on with, where one waits
abbrev waits_staged : Option staged.Pending → Option model.Pending
waits_staged None = None
waits_staged (Some pending) = Some (pending_shown pending)

-- a level that is played is at its spot
pub stands_at_spot : (waits : Option staged.Pending) (play : Play) →
    spot play.entry (stands waits play) ≡ spot_of true play (waits_staged waits)
stands_at_spot None play = ap (λ (same : Bool). spot_of same play None) (own_place play.entry)
stands_at_spot (Some pending) play =
    ap (λ (same : Bool). spot_of same play (Some (pending_shown pending))) (own_place play.entry)

-- a level that is played is that of its entry
pub stands_in : (waits : Option staged.Pending) (play : Play) → IsIn (entry_in (stands waits play)) (stands waits play)
stands_in None play =
    let here : Spot = record { board = play.board; restart_board = play.restart_board; waits = None } in
    (here, stands_at_spot None play)
stands_in (Some pending) play =
    let here : Spot = record {
      board = play.board;
      restart_board = play.restart_board;
      waits = Some (pending_shown pending);
    } in
    (here, stands_at_spot (Some pending) play)

pub is_in : (session : Session) (waits : Option staged.Pending) (play : Play) → session ≡ stands waits play →
    IsIn (entry_in session) session
is_in session waits play is = subst (λ (s : Session). IsIn (entry_in s) s) (sym is) (stands_in waits play)

pub entry_stands : (waits : Option staged.Pending) (play : Play) → entry_in (stands waits play) ≡ play.entry
entry_stands None play = refl
entry_stands (Some pending) play = refl

pub entry_is : (session : Session) (waits : Option staged.Pending) (play : Play) → session ≡ stands waits play →
    entry_in session ≡ play.entry
entry_is session waits play is = ap entry_in is ∙ entry_stands waits play

-- the spot of a level that is played
pub spot_is : (session : Session) (waits : Option staged.Pending) (play : Play) (here : Option Spot) →
    session ≡ stands waits play → spot play.entry (stands waits play) ≡ here →
    spot (entry_in session) session ≡ here
spot_is session waits play here is at =
    ap (λ (entry : ℕ). spot entry session) (entry_is session waits play is)
    ∙ ap (spot play.entry) is
    ∙ at

-- scripts -------------------------------------------------------------------------------------------------------------

-- boards of rows keep the layers of their game
abbrev pub own_layers : List ℕ → Option (List ℕ)
own_layers layers = Some layers

-- a script that is played as a game is by sections is played as the turns of a search are
pub plays_parts : (script own : Script) (table_for : List ℕ → Option (List ℕ)) (game : SessionParts)
    (plain late own_plain own_late : List CompiledSection) → own_plain ≡ plain → own_late ≡ late →
    own ≡ script_of (record { table = table_for game.names.layers; parts = turn_parts game }) own_plain own_late →
    PlaysAs script (script_for table_for game (meant_of plain) (meant_of late)) →
    PlaysAs script own
plays_parts script own table_for game plain late own_plain own_late p l is plays =
    let basis : Basis = record { table = table_for game.names.layers; parts = turn_parts game } in
    let same : own ≡ script_of basis plain late =
    is ∙ ap (λ (s : List CompiledSection). script_of basis s own_late) p ∙ ap (script_of basis plain) l in
    subst (PlaysAs script) (sym same) (record {
      options = plays.options;
      names = plays.names;
      plain = plays.plain;
      late = plays.late;
      wins = plays.wins;
    })

-- a basis by its parts
pub basis_is : (basis : Basis) (table : Option (List ℕ)) (parts : TurnParts) → basis.table ≡ table →
    basis.parts ≡ parts → basis ≡ record { table = table; parts = parts }
basis_is basis table parts t p = rw (← t, ← p) refl

-- boards that show what others of the same sides do have the same sides
pub sides_of_alike : (board other shown also : Grid) → shown ≡ board → also ≡ other → board.width ≡ other.width →
    board.height ≡ other.height → board.layers ≡ other.layers → HaveSameSides also shown
sides_of_alike board other shown also e f width height layers = record {
  width = ap (λ (g : Grid). g.width) f ∙ sym width ∙ sym (ap (λ (g : Grid). g.width) e);
  height = ap (λ (g : Grid). g.height) f ∙ sym height ∙ sym (ap (λ (g : Grid). g.height) e);
  layers = ap (λ (g : Grid). g.layers) f ∙ sym layers ∙ sym (ap (λ (g : Grid). g.layers) e);
}

-- what holds anyway holds where there is an error
pub on_err : {A E P : Type 0} (result : Result A E) → P → OnErr result P
on_err (Ok value) holds = tt
on_err (Err error) holds = holds

-- the entry that is told is that of the session
pub here_in : (script : Script) (session : Session) (limit entry : ℕ) (solved : Solved) → entry ≡ entry_in session →
    IsSolvedIn script session limit (Some solved) →
    IsSolvedHere script session limit (Some (record { entry = entry; solved = solved }))
here_in script session limit entry solved e is =
    subst (λ (own : ℕ). IsIn own session × IsSolved script own session limit solved) (sym e) is
