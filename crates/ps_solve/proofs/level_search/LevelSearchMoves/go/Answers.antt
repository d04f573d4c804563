use Rattle.std.proofs.Common.{◌∙◌, rules, subst, sym}
use Rattle.ps_solve.proofs.KeyRooms.{spot_key_room}
use Rattle.ps_solve.specs.Searches.{played_by}
use Rattle.ps_solve.specs.SpotKeys.{IsSpotKey, KeyTable}
use Rattle.ps_solve.proofs.Standing.{gone_to, keeps_same, same_steps}
use Rattle.ps_solve.proofs.level_search.LevelSearchMoves.go.Goals as goal

pub returns-clause-here : goal.returns-clause-here
returns-clause-here g c =
    gone_to c.args.self.now c.go_to.new.self c.args.key.now.board.words c.args.key.now.restart c.args.key.now.waits
    (c.go_to.ensures.keys ∙ c.restart_at.ensures.keys) c.go_to.ensures.at

pub returns-clause-next : goal.returns-clause-next
returns-clause-next g c =
    same_steps (played_by c.args.self.now) (played_by c.go_to.new.self)
    (c.go_to.ensures.script ∙ c.restart_at.ensures.script)

pub returns-clause-kept : goal.returns-clause-kept
returns-clause-kept g c = λ key known.
    keeps_same c.args.self.now.keys c.go_to.new.self.keys (c.go_to.ensures.keys ∙ c.restart_at.ensures.keys)
    key.board.words key.restart key.waits known

pub go_to-requires : goal.go_to-requires
go_to-requires g c = (
  search rules,
  (
    spot_key_room _ c.self.invariant.0,
    (
      subst (λ (keys : KeyTable). IsSpotKey keys c.args.key.now.board.words c.args.key.now.restart)
          (sym c.restart_at.ensures.keys) c.requires,
      c.restart_at.ensures.at,
    ),
  ),
)
