use Rattle.std.proofs.Common.{rules, ◌≡◌, ◌∙◌, ◌+◌, sym, ap, ◌∷◌, [], ◌++◌, length}
use Rattle.ps_model.specs.text.LineNumbers.{line_at, lines_between}
use Rattle.ps_model.specs.session.LevelLines.{LevelRows, entry_of_lines}
use Rattle.ps_model.specs.session.LevelFaults.{entry_faults}
use Rattle.ps_levels.specs.declared.levels.Entry.TheVariants.{Level}
use Rattle.ps_levels.specs.EntriesShown.{entry_shown, entries_shown, level_lines}
use Rattle.ps_levels.proofs.EntrySteps.{shown-more}
use Rattle.ps_levels.proofs.Refusals.{memory-reads-as}
use Rattle.ps_levels.proofs.SizedLevels.{shown-columns-more}
use Rattle.ps_levels.proofs.levels.add_level.Goals as goal

pub returns-clause-columns : goal.returns-clause-columns
returns-clause-columns c = λ all. shown-columns-more c.args.entries.now.items c.push.new.self.items _
    c.in_ok-push.ensures.items c.in_ok-level.ensures.column all

pub returns-in_err-push-clause-read : goal.returns-in_err-push-clause-read
returns-in_err-push-clause-read c =
    let lines = level_lines c.args.source.now c.args.lines.start c.args.lines.end in
    memory-reads-as (λ _. entries_shown c.push.new.self.items) c.from_residual-in_err-push.result
    (entries_shown c.args.entries.now.items ++ entry_of_lines c.args.names.now lines ∷ [])
    (entry_faults c.args.names.now (length c.args.entries.now.items) lines) c.from_residual-in_err-push.ensures.1

pub returns-clause-read : goal.returns-clause-read
returns-clause-read c =
    let text = c.args.source.now in
    let names = c.args.names.now in
    let start = c.args.lines.start in
    let same : level_lines text start c.args.lines.end ≡ LevelRows (line_at text start)
    (lines_between text (start + 1) c.in_ok-end.end) = ap (LevelRows (line_at text start)) c.in_ok-end.ensures.rows in
    let long : length c.args.entries.now.items ≡ c.len.result = search rules in (
      shown-more entry_shown c.args.entries.now.items c.push.new.self.items (Level c.in_ok-level.level)
          (entry_of_lines names (level_lines text start c.args.lines.end)) c.in_ok-push.ensures.items
          (c.in_ok-level.ensures.read.0 ∙ ap (entry_of_lines names) (sym same)),
      (
        ap (entry_faults names (length c.args.entries.now.items)) same
            ∙ ap (λ place. entry_faults names place (LevelRows (line_at text start)
            (lines_between text (start + 1) c.in_ok-end.end))) long
            ∙ c.in_ok-level.ensures.read.1.0,
        tt,
      ),
    )
