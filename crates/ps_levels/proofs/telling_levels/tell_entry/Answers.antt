use Rattle.std.proofs.Common.{rules, ◌≡◌, ◌∙◌, ◌+◌, ◌++◌, ◌||◌, ap, sym, refl, List, true, false}
use Rattle.std.specs.List.{list_any}
use Rattle.ps_model.specs.text.Lines.{is_blank_line}
use Rattle.ps_model.specs.text.LineNumbers.{line_at, lines_between}
use Rattle.ps_model.specs.session.LevelFaults.{are_level_lines}
use Rattle.ps_model.specs.session.LevelLines.{EntryLines, MessageLine, is_message, is_row, entry_lines}
use Rattle.std.specs.List.{take_while}
use Rattle.ps_levels.specs.EntriesShown.{level_lines}
use Rattle.ps_levels.specs.ToldLevels.{told_entries}
use Rattle.ps_levels.proofs.EntrySteps.{past-missing, past-message, past-blank, past-level}
use Rattle.ps_levels.proofs.ToldSteps.{entry-told, has-level}
use Rattle.ps_levels.proofs.telling_levels.tell_entry.Goals as goal

pub returns-then-not-is_there-clause-told : goal.returns-then-not-is_there-clause-told
returns-then-not-is_there-clause-told c =
    let text = c.args.source.now in
    let line = c.args.place.line in
    let there : (line_at text line).is_there ≡ false = search rules in
    let same : entry_lines (lines_between text line c.args.end) ≡ entry_lines (lines_between text (line + 1) c.args.end) =
    past-missing text line c.args.end c.requires.there.from_one c.requires.there.ordered c.requires.there.there there in
    ap (λ (es : List EntryLines). c.args.told.now.items ++ told_entries c.args.names.now c.args.place.above es) (sym same)

pub returns-then-not-is_there-clause-level : goal.returns-then-not-is_there-clause-level
returns-then-not-is_there-clause-level c =
    let text = c.args.source.now in
    let line = c.args.place.line in
    let there : (line_at text line).is_there ≡ false = search rules in
    let same : entry_lines (lines_between text line c.args.end) ≡ entry_lines (lines_between text (line + 1) c.args.end) =
    past-missing text line c.args.end c.requires.there.from_one c.requires.there.ordered c.requires.there.there there in
    ap (λ (es : List EntryLines). c.args.place.has_level || list_any are_level_lines es) (sym same)

pub returns-then-branch-clause-told : goal.returns-then-branch-clause-told
returns-then-branch-clause-told c =
    let text = c.args.source.now in
    let line = c.args.place.line in
    let all : List EntryLines = entry_lines (lines_between text line c.args.end) in
    let rest : List EntryLines = entry_lines (lines_between text (line + 1) c.args.end) in
    let there : (line_at text line).is_there ≡ true = search rules in
    let message : is_message (line_at text line) ≡ true = search rules in
    let split = past-message text line c.args.end c.requires.there.from_one c.requires.there.ordered
    c.requires.there.there there message in
    entry-told c.args.names.now c.args.place.above (c.args.place.above + 1) all rest (MessageLine (line_at text line))
    c.args.told.now.items c.tell_too_many.new.told.items split refl c.in_ok-tell_too_many.ensures

pub returns-then-branch-clause-level : goal.returns-then-branch-clause-level
returns-then-branch-clause-level c =
    let text = c.args.source.now in
    let line = c.args.place.line in
    let there : (line_at text line).is_there ≡ true = search rules in
    let message : is_message (line_at text line) ≡ true = search rules in
    let split = past-message text line c.args.end c.requires.there.from_one c.requires.there.ordered
    c.requires.there.there there message in
    ap (λ (es : List EntryLines). c.args.place.has_level || list_any are_level_lines es) (sym split)

pub returns-then-is_blank_line-clause-told : goal.returns-then-is_blank_line-clause-told
returns-then-is_blank_line-clause-told c =
    let text = c.args.source.now in
    let line = c.args.place.line in
    let there : (line_at text line).is_there ≡ true = search rules in
    let message : is_message (line_at text line) ≡ false = search rules in
    let blank : is_blank_line (line_at text line) ≡ true = search rules in
    let same = past-blank text line c.args.end c.requires.there.from_one c.requires.there.ordered
    c.requires.there.there there message blank in
    ap (λ (es : List EntryLines). c.args.told.now.items ++ told_entries c.args.names.now c.args.place.above es) (sym same)

pub returns-then-is_blank_line-clause-level : goal.returns-then-is_blank_line-clause-level
returns-then-is_blank_line-clause-level c =
    let text = c.args.source.now in
    let line = c.args.place.line in
    let there : (line_at text line).is_there ≡ true = search rules in
    let message : is_message (line_at text line) ≡ false = search rules in
    let blank : is_blank_line (line_at text line) ≡ true = search rules in
    let same = past-blank text line c.args.end c.requires.there.from_one c.requires.there.ordered
    c.requires.there.there there message blank in
    ap (λ (es : List EntryLines). c.args.place.has_level || list_any are_level_lines es) (sym same)

pub returns-clause-told : goal.returns-clause-told
returns-clause-told c =
    let text = c.args.source.now in
    let line = c.args.place.line in
    let all : List EntryLines = entry_lines (lines_between text line c.args.end) in
    let rest : List EntryLines = entry_lines (lines_between text c.in_ok-next.next c.args.end) in
    let there : (line_at text line).is_there ≡ true = search rules in
    let message : is_message (line_at text line) ≡ false = search rules in
    let blank : is_blank_line (line_at text line) ≡ false = search rules in
    let split = past-level text line c.in_ok-next.next c.args.end c.requires.there.from_one c.requires.there.ordered
    c.requires.there.there there message blank c.in_ok-next.ensures.rest in
    entry-told c.args.names.now c.args.place.above (c.args.place.above + 1) all rest (level_lines text line c.args.end)
    c.args.told.now.items c.tell_level.new.told.items split refl c.in_ok-next.ensures.told

pub returns-clause-level : goal.returns-clause-level
returns-clause-level c =
    let text = c.args.source.now in
    let line = c.args.place.line in
    let all : List EntryLines = entry_lines (lines_between text line c.args.end) in
    let rest : List EntryLines = entry_lines (lines_between text c.in_ok-next.next c.args.end) in
    let there : (line_at text line).is_there ≡ true = search rules in
    let message : is_message (line_at text line) ≡ false = search rules in
    let blank : is_blank_line (line_at text line) ≡ false = search rules in
    let split = past-level text line c.in_ok-next.next c.args.end c.requires.there.from_one c.requires.there.ordered
    c.requires.there.there there message blank c.in_ok-next.ensures.rest in
    has-level c.args.place.has_level all rest (line_at text line)
    (take_while is_row (lines_between text (line + 1) c.args.end)) split
