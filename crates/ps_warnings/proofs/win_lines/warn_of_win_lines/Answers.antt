use Rattle.std.proofs.Common.{◌≡◌, List, OnOk, ap, subst}
use Rattle.ps_model.specs.text.Lines.{lines_of}
use Rattle.ps_model.specs.game.Games.{Game}
use Rattle.ps_warnings.specs.declared.kinds.Warning.{Warning}
use Rattle.ps_warnings.proofs.WarningsMade.{wins_told}
use Rattle.ps_warnings.proofs.win_lines.warn_of_win_lines.Goals as goal

pub returns : goal.returns
returns c =
    subst (λ (more : List Warning). OnOk c.warn_of_unwon.result (c.warn_of_unwon.new.told.items ≡ more))
    (wins_told (lines_of c.args.source.now) _ c.args.game.now _ _ _ _ c.args.told.now.items
    c.warn_of_wins.new.told.items c.requires.wins.same
    (ap (λ (g : Game). g.names) c.game.view_is) c.in_ok-there.ensures c.deref.ensures.value c.requires.levels_header
    c.in_ok-warn_of_wins.ensures)
    c.warn_of_unwon.ensures
