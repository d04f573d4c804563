use Rattle.std.proofs.Common.{rules, ◌≡◌, ◌∙◌, ◌-◌, ◌++◌, [], ap, sym, List, length, Some, true, false, subst, arith}
use Rattle.std.specs.List.{list_any}
use Rattle.std.proofs.lemmas.List.{append-nil}
use Rattle.ps_model.specs.declared.faults.Fault.{Fault as TheFault}
use Rattle.ps_model.specs.declared.faults.FaultKind.TheVariants.{NoLevel}
use Rattle.ps_model.specs.text.Lines.{Line}
use Rattle.ps_model.specs.text.LineNumbers.{lines_between}
use Rattle.ps_model.specs.session.LevelFaults.{entries_faults}
use Rattle.ps_model.specs.session.LevelLines.{entry_lines, entries_read}
use Rattle.ps_levels.specs.declared.levels.Entry as code
use Rattle.ps_levels.specs.EntriesShown.{entries_shown, is_level_entry}
use Rattle.ps_laws.proofs.common.LinesInOrder.{between-end}
use Rattle.std.specs.Prelude.{All}
use Rattle.ps_levels.specs.Sized.{HasColumn, IsSizedEntry}
use Rattle.ps_levels.proofs.SizedLevels.{sized-levels}
use Rattle.ps_levels.proofs.EntrySteps.{levels-fine, no-level}
use Rattle.ps_levels.proofs.levels.read_entries.Goals as goal

pub returns-then-not-has_level-clause-read : goal.returns-then-not-has_level-clause-read
returns-then-not-has_level-clause-read c = (
  tt,
  (
    tt,
    λ fault e.
        let text = c.args.source.now in
        let names = c.args.names.now in
        let lines : List Line = lines_between text c.args.lines.start c.args.lines.end in
        let gone : lines_between text c.loop-line.line c.args.lines.end ≡ [] =
        between-end text c.loop-line.line c.args.lines.end (omega arith) in
        let told : TheFault = record { kind = NoLevel; line = c.args.lines.start - 1 } in
        let same : told ≡ fault = cc in
        let fine : entries_faults names 0 (entry_lines lines) ≡ [] = sym c.loop-line.invariant.fine
        ∙ ap (λ (ls : List Line). entries_faults names (length c.loop-line.entries.items) (entry_lines ls)) gone in
        let shown : entries_shown c.loop-line.entries.items ≡ entries_read names lines =
        sym (append-nil (entries_shown c.loop-line.entries.items))
        ∙ ap (λ (ls : List Line). entries_shown c.loop-line.entries.items ++ entries_read names ls) (sym gone)
        ∙ c.loop-line.invariant.part in
        let none : c.has_level.result ≡ false = search rules in
        let level : list_any is_level_entry (entries_shown c.loop-line.entries.items) ≡ false =
        ap (λ (es : List code.Entry). list_any is_level_entry (entries_shown es)) (sym c.deref.ensures.value)
        ∙ sym c.has_level.ensures ∙ none in
        no-level names (c.args.lines.start - 1) lines (entries_shown c.loop-line.entries.items) fine shown level
        ∙ ap Some same,
  ),
)

pub returns-clause-read : goal.returns-clause-read
returns-clause-read c =
    let text = c.args.source.now in
    let names = c.args.names.now in
    let lines : List Line = lines_between text c.args.lines.start c.args.lines.end in
    let gone : lines_between text c.loop-line.line c.args.lines.end ≡ [] =
    between-end text c.loop-line.line c.args.lines.end (omega arith) in
    let fine : entries_faults names 0 (entry_lines lines) ≡ [] = sym c.loop-line.invariant.fine
    ∙ ap (λ (ls : List Line). entries_faults names (length c.loop-line.entries.items) (entry_lines ls)) gone in
    let shown : entries_shown c.loop-line.entries.items ≡ entries_read names lines =
    sym (append-nil (entries_shown c.loop-line.entries.items))
    ∙ ap (λ (ls : List Line). entries_shown c.loop-line.entries.items ++ entries_read names ls) (sym gone)
    ∙ c.loop-line.invariant.part in
    let some : c.has_level.result ≡ true = search rules in
    let level : list_any is_level_entry (entries_shown c.loop-line.entries.items) ≡ true =
    ap (λ (es : List code.Entry). list_any is_level_entry (entries_shown es)) (sym c.deref.ensures.value)
    ∙ sym c.has_level.ensures ∙ some in (
      shown,
      (
        levels-fine names (c.args.lines.start - 1) lines (entries_shown c.loop-line.entries.items) fine shown
            level,
        tt,
      ),
    )

pub returns-clause-sized : goal.returns-clause-sized
returns-clause-sized c = λ facts.
    let text = c.args.source.now in
    let names = c.args.names.now in
    let lines : List Line = lines_between text c.args.lines.start c.args.lines.end in
    let gone : lines_between text c.loop-line.line c.args.lines.end ≡ [] =
    between-end text c.loop-line.line c.args.lines.end (omega arith) in
    let fine : entries_faults names 0 (entry_lines lines) ≡ [] = sym c.loop-line.invariant.fine
    ∙ ap (λ (ls : List Line). entries_faults names (length c.loop-line.entries.items) (entry_lines ls)) gone in
    let shown : entries_shown c.loop-line.entries.items ≡ entries_read names lines =
    sym (append-nil (entries_shown c.loop-line.entries.items))
    ∙ ap (λ (ls : List Line). entries_shown c.loop-line.entries.items ++ entries_read names ls) (sym gone)
    ∙ c.loop-line.invariant.part in
    subst (All (IsSizedEntry names)) (sym shown)
    (sized-levels names lines facts fine (subst (All HasColumn) shown c.loop-line.invariant.columns))
