use Rattle.std.proofs.Common.{◌≡◌, ◌≢◌, ◌∙◌, ◌∷◌, [], ◌++◌, ap, length, Some, arith}
use Rattle.ps_model.specs.declared.faults.Fault.{Fault as TheFault}
use Rattle.ps_model.specs.declared.faults.FaultKind.TheVariants.{TooManyEntries}
use Rattle.ps_model.specs.declared.limits.TheConstants.{ENTRY_LIMIT}
use Rattle.ps_model.specs.text.LineNumbers.{line_at}
use Rattle.ps_laws.proofs.common.LinesInOrder.{line_at-number}
use Rattle.ps_model.specs.text.Lines.{taken_bytes}
use Rattle.ps_model.specs.session.LevelLines.{MessageEntry}
use Rattle.ps_model.specs.session.LevelFaults.{too_many}
use Rattle.ps_levels.specs.declared.levels.Entry.TheVariants.{Message}
use Rattle.ps_levels.specs.EntriesShown.{entry_shown, entries_shown}
use Rattle.ps_levels.proofs.Refusals.{memory-reads-as}
use Rattle.ps_levels.proofs.EntrySteps.{over-limit, under-limit, shown-more}
use Rattle.ps_levels.proofs.SizedLevels.{shown-columns-more}
use Rattle.ps_levels.proofs.levels.add_message.Goals as goal

pub returns-then-len-clause-read : goal.returns-then-len-clause-read
returns-then-len-clause-read c = (
  tt,
  (
    tt,
    λ fault e.
        let told : TheFault = record { kind = TooManyEntries; line = c.args.line } in
        let same : told ≡ fault = cc in
        let over : length c.args.entries.now.items ≡ ENTRY_LIMIT = omega arith in
        over-limit (length c.args.entries.now.items) c.args.line (line_at c.args.source.now c.args.line) over
        (line_at-number c.args.source.now c.args.line c.requires.0 c.requires.1) ∙ ap Some same,
  ),
)

pub returns-clause-columns : goal.returns-clause-columns
returns-clause-columns c = λ all. shown-columns-more c.args.entries.now.items c.push.new.self.items _
    c.in_ok-push.ensures.items tt all

pub returns-in_err-text-clause-read : goal.returns-in_err-text-clause-read
returns-in_err-text-clause-read c =
    let line = line_at c.args.source.now c.args.line in
    memory-reads-as (λ _. entries_shown c.args.entries.now.items) c.from_residual.result
    (entries_shown c.args.entries.now.items ++ MessageEntry (taken_bytes line) ∷ [])
    (too_many (length c.args.entries.now.items) line) c.from_residual.ensures.1

pub returns-in_err-push-clause-read : goal.returns-in_err-push-clause-read
returns-in_err-push-clause-read c =
    let line = line_at c.args.source.now c.args.line in
    memory-reads-as (λ _. entries_shown c.push.new.self.items) c.from_residual-in_err-push.result
    (entries_shown c.args.entries.now.items ++ MessageEntry (taken_bytes line) ∷ [])
    (too_many (length c.args.entries.now.items) line) c.from_residual-in_err-push.ensures.1

pub returns-clause-read : goal.returns-clause-read
returns-clause-read c =
    let line = line_at c.args.source.now c.args.line in
    let apart : length c.args.entries.now.items ≢ ENTRY_LIMIT = omega arith in (
      shown-more entry_shown c.args.entries.now.items c.push.new.self.items (Message c.in_ok-text.text)
          (MessageEntry (taken_bytes line)) c.in_ok-push.ensures.items
          (ap MessageEntry (c.in_ok-text.ensures ∙ c.message_text.ensures)),
      (under-limit (length c.args.entries.now.items) line apart, tt),
    )
