use Rattle.std.proofs.Common.{◌≡◌, ◌-◌, subst, List}
use Rattle.std.specs.Global.{Vec}
use Rattle.std.specs.Result.{IfOk}
use Rattle.ps_model.specs.declared.faults.Fault.{Fault as TheFault}
use Rattle.ps_model.specs.names.Names.{Names}
use Rattle.ps_model.specs.text.LineNumbers.{lines_between}
use Rattle.ps_levels.specs.ToldLevels.{told_levels}
use Rattle.ps_levels.proofs.telling_levels.told_levels.Goals as goal

pub returns : goal.returns
returns c =
    let lines = lines_between c.args.source.now c.args.lines.start c.args.lines.end in
    subst (λ (names : Names). IfOk c.told_by.result (λ (told : Vec TheFault). told.items
    ≡ told_levels names (c.args.lines.start - 1) lines)) c.in_ok-glyphs.ensures c.told_by.ensures
