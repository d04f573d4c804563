use Rattle.std.proofs.Common.{◌-◌, subst}
use Rattle.std.specs.Prelude.{All}
use Rattle.std.specs.Global.{Vec}
use Rattle.std.specs.Result.{IfOk}
use Rattle.ps_model.specs.names.Names.{Names}
use Rattle.ps_model.specs.names.NameBounds.{AreBounded}
use Rattle.ps_model.specs.text.LineNumbers.{lines_between}
use Rattle.ps_model.specs.text.Reads.{ReadsAs}
use Rattle.ps_model.specs.session.LevelFaults.{level_faults}
use Rattle.ps_model.specs.session.LevelLines.{entries_read}
use Rattle.ps_levels.specs.declared.levels.Entry.{Entry}
use Rattle.ps_levels.specs.EntriesShown.{entries_shown}
use Rattle.ps_levels.specs.Sized.{IsSizedEntry}
use Rattle.ps_levels.proofs.levels.read_levels.Goals as goal

pub returns-clause-read : goal.returns-clause-read
returns-clause-read c =
    let lines = lines_between c.args.source.now c.args.lines.start c.args.lines.end in
    subst (λ (names : Names). ReadsAs (λ (entries : Vec Entry). entries_shown entries.items) c.read_entries.result
    (entries_read names lines) (level_faults names (c.args.lines.start - 1) lines)) c.in_ok-glyphs.ensures
    c.read_entries.ensures.read

pub returns-clause-sized : goal.returns-clause-sized
returns-clause-sized c =
    subst (λ (names : Names). AreBounded names → IfOk c.read_entries.result (λ (entries : Vec Entry).
    All (IsSizedEntry names) (entries_shown entries.items))) c.in_ok-glyphs.ensures c.read_entries.ensures.sized
