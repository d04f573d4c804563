use Rattle.std.proofs.Common.{rules, ◌≡◌, ◌∙◌, sym, ap, map, List, ℕ, Option, None, Some}
use Rattle.std.specs.Borrow.{Bor}
use Rattle.ps_laws.proofs.common.FirstFaults.{none-first}
use Rattle.ps_names.specs.declared.meaning.Meaning as code
use Rattle.ps_model.specs.declared.faults.Fault.{Fault as TheFault}
use Rattle.ps_model.specs.text.Faults.{first_fault}
use Rattle.ps_model.specs.session.LevelFaults.{character_meaning, row_faults}
use Rattle.ps_model.specs.session.LevelLines.{of_width}
use Rattle.ps_model.specs.text.LineNumbers.{line_at}
use Rattle.ps_model.specs.text.Lines.{Line}
use Rattle.ps_levels.specs.Cells.{meanings_shown, objects_of}
use Rattle.ps_laws.proofs.common.LinesInOrder.{line_at-number}
use Rattle.ps_levels.proofs.RowSteps.{faults-seen, cells-by-meanings}
use Rattle.ps_levels.proofs.rows.read_row.Goals as goal

pub returns-in-Some : goal.returns-in-Some
returns-in-Some c = (
  tt,
  (
    tt,
    λ fault e.
        let names = c.args.names.now in
        let row : Line = line_at c.args.source.now c.args.line in
        let found = c.in_ok-meanings.meanings.items in
        let told : TheFault = c.in-Some.fault in
        let same : told ≡ fault = cc in
        let of : meanings_shown found ≡ map (character_meaning names)
        (of_width c.args.width c.in_ok-characters.characters.items) = search rules in
        let seen = faults-seen names c.args.width c.args.place c.written-written.result c.args.line row
        c.in_ok-characters.characters.items found c.front.result.now c.in_ok-characters.ensures.value
        (line_at-number c.args.source.now c.args.line c.requires.0 c.requires.1) (search rules) of (search rules) in
        ap first_fault (sym seen) ∙ sym c.row_fault.ensures ∙ c.in-Some.is ∙ ap Some same,
  ),
)

pub returns : goal.returns
returns c =
    let names = c.args.names.now in
    let row : Line = line_at c.args.source.now c.args.line in
    let found = c.in_ok-meanings.meanings.items in
    let none : c.row_fault.result ≡ None = search rules in
    let of : meanings_shown found ≡ map (character_meaning names)
    (of_width c.args.width c.in_ok-characters.characters.items) = search rules in
    let seen = faults-seen names c.args.width c.args.place c.written-written.result c.args.line row
    c.in_ok-characters.characters.items found c.front.result.now c.in_ok-characters.ensures.value
    (line_at-number c.args.source.now c.args.line c.requires.0 c.requires.1) (search rules) of (search rules) in (
      c.in_ok-cells.ensures ∙ ap (λ (ms : List (Option (Bor code.Meaning))).
          map objects_of (meanings_shown ms)) c.deref-4.ensures.value
          ∙ ap (map objects_of) (of ∙ ap (λ (cs : List ℕ).
          map (character_meaning names) (of_width c.args.width cs)) c.in_ok-characters.ensures.value)
          ∙ cells-by-meanings names c.args.width row,
      (
        none-first (row_faults names c.args.width c.args.place row) (ap first_fault (sym seen) ∙ sym c.row_fault.ensures
            ∙ none),
        tt,
      ),
    )
