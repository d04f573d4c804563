use Rattle.std.proofs.Common.{◌∙◌}
use Rattle.ps_rows.specs.Packings.{packed_grid}
use Rattle.ps_trial.specs.Told.{waits_shown}
use Rattle.ps_solve.specs.SpotKeys.{restart_grid}
use Rattle.ps_solve.proofs.KeptKeys.{at_kept, kept_twice, restart_kept, same_spot}
use Rattle.ps_solve.proofs.spot_keys.SpotKeys.pack.Goals as goal

pub returns-in_err-board-clause-kept : goal.returns-in_err-board-clause-kept
returns-in_err-board-clause-kept g c =
    kept_twice c.args.self.now c.number_after.new.self c.pack_board.new.self c.number_after.ensures.kept
    c.pack_board.ensures.kept

pub returns-in_err-board-clause-at : goal.returns-in_err-board-clause-at
returns-in_err-board-clause-at g c =
    at_kept c.number_after.new.self c.pack_board.new.self c.pack_board.ensures.kept c.args.trial.now
    c.args.at.now.board.words c.args.at.now.restart c.pack_board.ensures.own c.number_after.ensures.at

pub returns-clause-known : goal.returns-clause-known
returns-clause-known g c =
    let at = c.number_after.ensures.at in
    let kept =
    restart_kept c.number_after.new.self c.pack_board.new.self c.pack_board.ensures.kept c.args.at.now.board.words
    c.args.trial.now.there.restart_board c.in_ok-restart.restart at.known.0 c.in_ok-restart.ensures.number in
    (c.in_ok-board.ensures.known, kept.0)

pub returns-clause-stands : goal.returns-clause-stands
returns-clause-stands g c =
    let at = c.number_after.ensures.at in
    let there = c.args.trial.now.there in
    let kept =
    restart_kept c.number_after.new.self c.pack_board.new.self c.pack_board.ensures.kept c.args.at.now.board.words
    there.restart_board c.in_ok-restart.restart at.known.0 c.in_ok-restart.ensures.number in
    same_spot (packed_grid c.pack_board.new.self.packed c.in_ok-board.board.words) there.board
    (restart_grid c.pack_board.new.self c.in_ok-restart.restart) there.restart_board (waits_shown c.args.waits)
    (c.in_ok-board.ensures.grid ∙ c.there.ensures.grid) kept.1

pub returns-clause-kept : goal.returns-clause-kept
returns-clause-kept g c =
    kept_twice c.args.self.now c.number_after.new.self c.pack_board.new.self c.number_after.ensures.kept
    c.pack_board.ensures.kept

pub returns-clause-at : goal.returns-clause-at
returns-clause-at g c =
    at_kept c.number_after.new.self c.pack_board.new.self c.pack_board.ensures.kept c.args.trial.now
    c.args.at.now.board.words c.args.at.now.restart c.pack_board.ensures.own c.number_after.ensures.at
