use Rattle.std.proofs.Common.{Option, subst, sym}
use Rattle.lizhakoven.specs.declared.statuses.Status.TheVariants.{Done}
use Rattle.lizhakoven.specs.GameCalls.{HasOpened, IsOpened}
use Rattle.lizhakoven.specs.OpenGames.{OpenGame}
use Rattle.lizhakoven.proofs.games.lzk_open.Goals as goal

pub returns-in-Ok : goal.returns-in-Ok
returns-in-Ok c =
    let is : IsOpened c.args.text.now c.args.game.now.value c.put.new.self.value c.opening_of.new.fault Done = (
      subst (λ (owned : Option OpenGame). HasOpened c.args.text.now owned) (sym c.put.ensures) c.in-Ok.ensures.0,
      c.in-Ok.ensures.1,
    ) in
    (Done, c.number.ensures, is)
