use Rattle.std.proofs.Common.{◌∙◌, ◌<◌, ℕ, suc, List, Some, length, take, refl, sym, ap, arith, subst}
use Rattle.std.specs.Prelude.{Option, filter}
use Rattle.ps_model.specs.board.Turns.{Script}
use Rattle.ps_model.specs.session.LevelLines.{Entry as Meant, LevelEntry}
use Rattle.ps_model.specs.session.Sessions.{after, is_level}
use Rattle.ps_model.specs.session.StartSteps.{entered}
use Rattle.ps_levels.specs.declared.levels.Entry.{Entry}
use Rattle.ps_levels.specs.EntriesShown.{entry_shown}
use Rattle.ps_stage.specs.Standings.{script_for}
use Rattle.ps_stage.proofs.EntriesFound.{entry_found, fits_at, playable_at}
use Rattle.ps_stage.proofs.Results.{if_ok}
use Rattle.ps_stage.specs.OwnBoards.{HasEntry}
use Rattle.ps_stage.proofs.stage.Stage.begin.Goals as goal

pub enter_level-requires-clause-playable : goal.enter_level-requires-clause-playable
enter_level-requires-clause-playable g c =
    let within : c.args.entry < length c.entries-entries.result.now = omega arith in
    playable_at c.args.self.now.game.names c.entries-entries.result.now c.args.self.now.game.entries c.args.entry _
    c.in-Level.level c.entries-entries.ensures.entries within c.index-entries-entry.is
    (ap entry_shown c.in-Level.is) c.entries-entries.ensures.playable

pub enter_level-requires-clause-fits : goal.enter_level-requires-clause-fits
enter_level-requires-clause-fits g c =
    let within : c.args.entry < length c.entries-entries.result.now = omega arith in
    fits_at _ c.entries-entries.result.now c.args.self.now.game.entries c.args.entry _ c.in-Level.level
    c.entries-entries.ensures.entries within c.index-entries-entry.is (ap entry_shown c.in-Level.is) c.requires

pub returns-in_ok-tell-in-Message-clause-came : goal.returns-in_ok-tell-in-Message-clause-came
returns-in_ok-tell-in-Message-clause-came g c =
    let script : Script =
    script_for g.B.Board.table_for c.args.self.now.game (g.R.Rules.meant c.args.rules.now.plain)
    (g.R.Rules.meant c.args.rules.now.late) in
    let within : c.args.entry < length c.entries-entries.result.now = omega arith in
    ap (λ (o : Option Meant). after c.args.self.now.text (entered script c.args.entry o))
    (entry_found c.entries-entries.result.now c.args.self.now.game.entries c.args.entry _
    c.entries-entries.ensures.entries within c.index-entries-entry.is)
    ∙ ap (λ (x : Entry). after c.args.self.now.text (entered script c.args.entry (Some (entry_shown x))))
    c.in-Message.is
    ∙ rw (c.in_ok-tell-in-Message.ensures.told, c.as_str.ensures, c.new-number.ensures) refl

pub returns-in-Level-clause-came : goal.returns-in-Level-clause-came
returns-in-Level-clause-came g c =
    if_ok c.enter_level.result c.enter_level.ensures.came (λ location comes.
    let script : Script =
    script_for g.B.Board.table_for c.args.self.now.game (g.R.Rules.meant c.args.rules.now.plain)
    (g.R.Rules.meant c.args.rules.now.late) in
    let within : c.args.entry < length c.entries-entries.result.now = omega arith in
    ap (λ (o : Option Meant). after c.args.self.now.text (entered script c.args.entry o))
    (entry_found c.entries-entries.result.now c.args.self.now.game.entries c.args.entry _
    c.entries-entries.ensures.entries within c.index-entries-entry.is)
    ∙ ap (λ (x : Entry). after c.args.self.now.text (entered script c.args.entry (Some (entry_shown x)))) c.in-Level.is
    ∙ ap (λ (n : ℕ). after c.args.self.now.text (entered script n (Some (LevelEntry c.in-Level.level))))
    (sym c.new-number.ensures)
    ∙ comes)

pub enter_level-requires-clause-number : goal.enter_level-requires-clause-number
enter_level-requires-clause-number g c =
    c.level_number-count.ensures
    ∙ ap (λ (entries : List Meant). length (filter is_level (take (suc c.new-number.result) entries)))
    c.entries-entries.ensures.entries

pub returns-in-Level-clause-entry : goal.returns-in-Level-clause-entry
returns-in-Level-clause-entry g c =
    if_ok c.enter_level.result c.enter_level.ensures.entry (λ location has.
    subst (λ (entry : ℕ). HasEntry entry location) c.new-number.ensures has)
