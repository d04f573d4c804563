use Rattle.std.proofs.Common.{rules, ◌≡◌, ◌+◌, ◌++◌, ap, sym, List, length, map, Some, true, false}
use Rattle.ps_model.specs.declared.faults.Fault.{Fault as TheFault}
use Rattle.ps_model.specs.text.Faults.{first_fault}
use Rattle.ps_model.specs.text.Lines.{is_blank_line}
use Rattle.ps_model.specs.text.LineNumbers.{line_at, lines_between}
use Rattle.ps_model.specs.session.LevelFaults.{entries_faults}
use Rattle.ps_model.specs.session.LevelLines.{EntryLines, MessageLine, is_message, entry_of_lines, entry_lines}
use Rattle.ps_model.specs.session.LevelLines.{entries_at}
use Rattle.ps_model.specs.declared.refusal.Refusal.{Refusal}
use Rattle.ps_model.specs.declared.refusal.Refusal.TheVariants.{Refused}
use Rattle.ps_levels.specs.EntriesShown.{entry_shown, entries_shown, level_lines}
use Rattle.ps_levels.proofs.EntrySteps.{past-missing, past-message, past-blank, first-of-level, past-level, entry-more}
use Rattle.ps_levels.proofs.EntrySteps.{entries-counted, fault-of-entry, fine-entry}
use Rattle.ps_levels.proofs.levels.add_entry.Goals as goal

pub returns-then-not-is_there-clause-part : goal.returns-then-not-is_there-clause-part
returns-then-not-is_there-clause-part c =
    let text = c.args.source.now in
    let names = c.args.names.now in
    let line = c.args.lines.start in
    let end = c.args.lines.end in
    let all : List EntryLines = entry_lines (lines_between text line end) in
    let rest : List EntryLines = entry_lines (lines_between text (line + 1) end) in
    let there : (line_at text line).is_there ≡ false = search rules in
    let same : all ≡ rest = past-missing text line end c.requires.from_one c.requires.ordered c.requires.there there in
    ap (λ (es : List EntryLines). entries_shown c.args.entries.now.items ++ map (entry_of_lines names) es) (sym same)

pub returns-then-not-is_there-clause-fine : goal.returns-then-not-is_there-clause-fine
returns-then-not-is_there-clause-fine c =
    let text = c.args.source.now in
    let names = c.args.names.now in
    let line = c.args.lines.start in
    let end = c.args.lines.end in
    let all : List EntryLines = entry_lines (lines_between text line end) in
    let rest : List EntryLines = entry_lines (lines_between text (line + 1) end) in
    let there : (line_at text line).is_there ≡ false = search rules in
    let same : all ≡ rest = past-missing text line end c.requires.from_one c.requires.ordered c.requires.there there in
    ap (entries_faults names (length c.args.entries.now.items)) (sym same)

pub returns-in_err-add_message-clause-refused : goal.returns-in_err-add_message-clause-refused
returns-in_err-add_message-clause-refused c =
    let text = c.args.source.now in
    let names = c.args.names.now in
    let line = c.args.lines.start in
    let end = c.args.lines.end in
    let all : List EntryLines = entry_lines (lines_between text line end) in
    let rest : List EntryLines = entry_lines (lines_between text (line + 1) end) in
    let there : (line_at text line).is_there ≡ true = search rules in
    let message : is_message (line_at text line) ≡ true = search rules in
    let split = past-message text line end c.requires.from_one c.requires.ordered c.requires.there there message in
    let fault : Refusal = c.in_err-add_message.field-0.0 in
    let told : (f : TheFault) → fault ≡ Refused f →
    first_fault (entries_faults names (length c.args.entries.now.items) all) ≡ Some f =
    λ f e. fault-of-entry names (length c.args.entries.now.items) all rest (MessageLine (line_at text line)) f split
    (c.in_err-add_message.ensures.read.1.1 f e) in
    search (rules, told)

pub returns-then-branch-clause-part : goal.returns-then-branch-clause-part
returns-then-branch-clause-part c =
    let text = c.args.source.now in
    let names = c.args.names.now in
    let line = c.args.lines.start in
    let end = c.args.lines.end in
    let all : List EntryLines = entry_lines (lines_between text line end) in
    let rest : List EntryLines = entry_lines (lines_between text (line + 1) end) in
    let there : (line_at text line).is_there ≡ true = search rules in
    let message : is_message (line_at text line) ≡ true = search rules in
    let split = past-message text line end c.requires.from_one c.requires.ordered c.requires.there there message in
    entry-more names (entries_shown c.args.entries.now.items) (entries_shown c.add_message.new.entries.items) all rest
    (MessageLine (line_at text line)) split c.in_ok-add_message.ensures.read.0

pub returns-then-branch-clause-fine : goal.returns-then-branch-clause-fine
returns-then-branch-clause-fine c =
    let text = c.args.source.now in
    let names = c.args.names.now in
    let line = c.args.lines.start in
    let end = c.args.lines.end in
    let all : List EntryLines = entry_lines (lines_between text line end) in
    let rest : List EntryLines = entry_lines (lines_between text (line + 1) end) in
    let there : (line_at text line).is_there ≡ true = search rules in
    let message : is_message (line_at text line) ≡ true = search rules in
    let split = past-message text line end c.requires.from_one c.requires.ordered c.requires.there there message in
    fine-entry names (length c.args.entries.now.items) (length c.add_message.new.entries.items) all rest
    (MessageLine (line_at text line)) split
    (entries-counted entry_shown c.args.entries.now.items c.add_message.new.entries.items
    (entry_of_lines names (MessageLine (line_at text line))) c.in_ok-add_message.ensures.read.0)
    c.in_ok-add_message.ensures.read.1.0

pub returns-then-is_blank_line-clause-part : goal.returns-then-is_blank_line-clause-part
returns-then-is_blank_line-clause-part c =
    let text = c.args.source.now in
    let names = c.args.names.now in
    let line = c.args.lines.start in
    let end = c.args.lines.end in
    let all : List EntryLines = entry_lines (lines_between text line end) in
    let rest : List EntryLines = entry_lines (lines_between text (line + 1) end) in
    let there : (line_at text line).is_there ≡ true = search rules in
    let message : is_message (line_at text line) ≡ false = search rules in
    let blank : is_blank_line (line_at text line) ≡ true = search rules in
    let same : all ≡ rest = past-blank text line end c.requires.from_one c.requires.ordered c.requires.there there
    message blank in
    ap (λ (es : List EntryLines). entries_shown c.args.entries.now.items ++ map (entry_of_lines names) es) (sym same)

pub returns-then-is_blank_line-clause-fine : goal.returns-then-is_blank_line-clause-fine
returns-then-is_blank_line-clause-fine c =
    let text = c.args.source.now in
    let names = c.args.names.now in
    let line = c.args.lines.start in
    let end = c.args.lines.end in
    let all : List EntryLines = entry_lines (lines_between text line end) in
    let rest : List EntryLines = entry_lines (lines_between text (line + 1) end) in
    let there : (line_at text line).is_there ≡ true = search rules in
    let message : is_message (line_at text line) ≡ false = search rules in
    let blank : is_blank_line (line_at text line) ≡ true = search rules in
    let same : all ≡ rest = past-blank text line end c.requires.from_one c.requires.ordered c.requires.there there
    message blank in
    ap (entries_faults names (length c.args.entries.now.items)) (sym same)

pub returns-in_err-next-clause-refused : goal.returns-in_err-next-clause-refused
returns-in_err-next-clause-refused c =
    let text = c.args.source.now in
    let names = c.args.names.now in
    let line = c.args.lines.start in
    let end = c.args.lines.end in
    let all : List EntryLines = entry_lines (lines_between text line end) in
    let there : (line_at text line).is_there ≡ true = search rules in
    let message : is_message (line_at text line) ≡ false = search rules in
    let blank : is_blank_line (line_at text line) ≡ false = search rules in
    let fault : Refusal = c.in_err-next.field-0.0 in
    let split = first-of-level text line end c.requires.from_one c.requires.ordered c.requires.there there message
    blank in
    let told : (f : TheFault) → fault ≡ Refused f →
    first_fault (entries_faults names (length c.args.entries.now.items) all) ≡ Some f =
    λ f e. fault-of-entry names (length c.args.entries.now.items) all
    (entries_at true (lines_between text (line + 1) end)) (level_lines text line end) f split
    (c.in_err-next.ensures.read.1.1 f e) in
    search (rules, told)

pub returns-clause-part : goal.returns-clause-part
returns-clause-part c =
    let text = c.args.source.now in
    let names = c.args.names.now in
    let line = c.args.lines.start in
    let end = c.args.lines.end in
    let all : List EntryLines = entry_lines (lines_between text line end) in
    let there : (line_at text line).is_there ≡ true = search rules in
    let message : is_message (line_at text line) ≡ false = search rules in
    let blank : is_blank_line (line_at text line) ≡ false = search rules in
    let rest : List EntryLines = entry_lines (lines_between text c.in_ok-next.next end) in
    let split = past-level text line c.in_ok-next.next end c.requires.from_one c.requires.ordered c.requires.there
    there message blank c.in_ok-next.ensures.rest in
    entry-more names (entries_shown c.args.entries.now.items) (entries_shown c.add_level.new.entries.items) all rest
    (level_lines text line end) split c.in_ok-next.ensures.read.0

pub returns-clause-fine : goal.returns-clause-fine
returns-clause-fine c =
    let text = c.args.source.now in
    let names = c.args.names.now in
    let line = c.args.lines.start in
    let end = c.args.lines.end in
    let all : List EntryLines = entry_lines (lines_between text line end) in
    let there : (line_at text line).is_there ≡ true = search rules in
    let message : is_message (line_at text line) ≡ false = search rules in
    let blank : is_blank_line (line_at text line) ≡ false = search rules in
    let rest : List EntryLines = entry_lines (lines_between text c.in_ok-next.next end) in
    let split = past-level text line c.in_ok-next.next end c.requires.from_one c.requires.ordered c.requires.there
    there message blank c.in_ok-next.ensures.rest in
    fine-entry names (length c.args.entries.now.items) (length c.add_level.new.entries.items) all rest
    (level_lines text line end) split
    (entries-counted entry_shown c.args.entries.now.items c.add_level.new.entries.items
    (entry_of_lines names (level_lines text line end)) c.in_ok-next.ensures.read.0) c.in_ok-next.ensures.read.1.0
