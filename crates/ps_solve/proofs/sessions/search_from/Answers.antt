use Rattle.std.proofs.Common.{◌∙◌, Some, ap, refl, rules, sym}
use Rattle.ps_model.specs.session.Solving.{Spot}
use Rattle.ps_stage.specs.Standings.{play_of, turn_parts}
use Rattle.ps_stage.specs.Standings as stage
use Rattle.ps_trial.specs.Desks.{Basis}
use Rattle.ps_trial.specs.Told.{waits_shown}
use Rattle.ps_solve.specs.Searches.{script_of}
use Rattle.ps_solve.proofs.FromSessions.{basis_is, is_in, on_err, sides_of_alike, spot_is}
use Rattle.ps_solve.proofs.KeptKeys.{same_spot}
use Rattle.ps_solve.proofs.sessions.search_from.Goals as goal

pub returns-in-None-clause-nowhere : goal.returns-in-None-clause-nowhere
returns-in-None-clause-nowhere g c = λ same. c.in-None.ensures.nowhere refl

pub returns-then-not-is_alike-clause-there : goal.returns-then-not-is_alike-clause-there
returns-then-not-is_alike-clause-there g c = is_in _ _ _ c.in-Some.ensures.level.1

pub try_new-tried-requires-clause-sides : goal.try_new-tried-requires-clause-sides
try_new-tried-requires-clause-sides g c =
    sides_of_alike _ _ _ _ (c.board-2.ensures.grid ∙ sym c.board.ensures.grid)
    (c.restart_board-2.ensures.grid ∙ sym c.restart_board.ensures.grid) (search rules) (search rules) (search rules)

pub returns-in_default-clause-there : goal.returns-in_default-clause-there
returns-in_default-clause-there g c = is_in _ _ _ c.in-Some.ensures.level.1

pub returns-in_err-search-clause-there : goal.returns-in_err-search-clause-there
returns-in_err-search-clause-there g c = on_err c.from_residual.result (is_in _ _ _ c.in-Some.ensures.level.1)

pub returns-clause-script : goal.returns-clause-script
returns-clause-script g c =
    c.in_ok-search.ensures.script
    ∙ ap (λ (b : Basis). script_of b c.args.rules.plain c.args.rules.late)
    (basis_is c.in-Ok.trial.basis (Some c.args.session.now.game.names.layers) (turn_parts c.args.session.now.game)
    (c.in-Ok.ensures.table ∙ c.board-2.ensures.table ∙ ap (λ (b : stage.Basis). b.table) c.in-Some.ensures.table)
    (c.in-Ok.ensures.parts ∙ c.copied-turns.ensures ∙ c.turns.ensures ∙ ap turn_parts c.game-game.ensures))

pub returns-clause-start : goal.returns-clause-start
returns-clause-start g c =
    let level = c.in-Some.here.0.now in
    let play = play_of c.in-Some.ensures.level.0 level in
    let trial = c.in-Ok.trial in
    spot_is c.args.session.now.session c.in-Some.here.1 play _ c.in-Some.ensures.level.1
    (c.waits_of.ensures play
    ∙ ap (λ (s : Spot). Some s)
    (same_spot level.board trial.here.board level.restart_board trial.here.restart_board (waits_shown c.waits_of.result)
    (sym c.board-2.ensures.grid ∙ sym c.in-Ok.ensures.board)
    (sym c.restart_board-2.ensures.grid ∙ sym c.in-Ok.ensures.restart_board)
    ∙ sym c.in_ok-search.ensures.start))
