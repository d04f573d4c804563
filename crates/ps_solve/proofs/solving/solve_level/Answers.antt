use Rattle.std.proofs.Common.{◌≡◌, ◌≢◌, ℕ, Err, arith, subst}
use Rattle.ps_model.specs.board.Turns.{Script, script_at}
use Rattle.ps_model.specs.game.Games.{Game}
use Rattle.ps_model.specs.game.Outputs.{opening_step}
use Rattle.ps_model.specs.session.Sessions.{Session}
use Rattle.ps_answers.specs.SolvedLevels.{IsSolved}
use Rattle.ps_solve.specs.SolvedLevels.{IsIn}
use Rattle.ps_solve.specs.declared.solved.NotSearched.TheVariants.{NoLevel}
use Rattle.ps_solve.proofs.ReadLevels.{no_level_told}
use Rattle.ps_solve.proofs.SourceLevels.{nothing_at, other_level}
use Rattle.ps_solve.proofs.solving.solve_level.Goals as goal

-- the session in which a run begins at an entry
abbrev begun : Game → ℕ → Session
begun read entry = (opening_step (script_at read entry)).session

pub returns-then-here-entry-clause-solved : goal.returns-then-here-entry-clause-solved
returns-then-here-entry-clause-solved g c = λ text is.
    let differ : c.args.entry ≢ c.in-Ok.here.entry = omega (arith, c.if-here-entry.true) in
    other_level (script_at c.args.game.now c.args.entry) (begun c.args.game.now c.args.entry) c.args.limit c.args.entry
    c.in-Ok.here.entry differ (c.in-Ok.ensures text is).0

pub returns-then-here-entry-clause-no_level : goal.returns-then-here-entry-clause-no_level
returns-then-here-entry-clause-no_level g c = λ text is.
    no_level_told c.args.game.now c.args.entry c.args.limit (Err NoLevel)
    (returns-then-here-entry-clause-solved g c text is)

pub returns-else-here-entry-clause-solved : goal.returns-else-here-entry-clause-solved
returns-else-here-entry-clause-solved g c = λ text is.
    let script : Script = script_at c.args.game.now c.args.entry in
    let session : Session = begun c.args.game.now c.args.entry in
    let same : c.in-Ok.here.entry ≡ c.args.entry = omega (arith, c.if-here-entry.false) in
    subst (λ (n : ℕ). IsIn n session × IsSolved script n session c.args.limit c.in-Ok.here.solved) same
    (c.in-Ok.ensures text is)

pub returns-in-Err-clause-solved : goal.returns-in-Err-clause-solved
returns-in-Err-clause-solved g c = λ text is.
    nothing_at (script_at c.args.game.now c.args.entry) (begun c.args.game.now c.args.entry) c.args.limit c.args.entry
    c.in-Err.fault (c.in-Err.ensures text is)

pub returns-in-Err-clause-no_level : goal.returns-in-Err-clause-no_level
returns-in-Err-clause-no_level g c = λ text is.
    no_level_told c.args.game.now c.args.entry c.args.limit (Err c.in-Err.fault)
    (returns-in-Err-clause-solved g c text is)
