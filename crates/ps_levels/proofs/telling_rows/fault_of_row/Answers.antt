use Rattle.std.proofs.Common.{rules, ◌≡◌, ◌∙◌, map, take, sym, ap}
use Rattle.ps_model.specs.text.Faults.{first_fault}
use Rattle.ps_model.specs.text.LineNumbers.{line_at}
use Rattle.ps_model.specs.session.LevelFaults.{character_meaning}
use Rattle.ps_laws.proofs.common.LinesInOrder.{line_at-number}
use Rattle.ps_levels.specs.Cells.{meanings_shown}
use Rattle.ps_levels.proofs.ToldSteps.{faults-of-front}
use Rattle.ps_levels.proofs.telling_rows.fault_of_row.Goals as goal

pub returns : goal.returns
returns c =
    let names = c.args.names.now in
    let place = c.args.place in
    let found = c.in_ok-found.found.items in
    let of : meanings_shown found ≡ map (character_meaning names) c.in_ok-characters.characters.items = search rules in
    c.row_fault.ensures ∙ ap first_fault (faults-of-front names place.width place.above c.args.line
    (line_at c.args.source.now c.args.line) c.in_ok-characters.characters.items found c.front-seen.result.now
    c.in_ok-characters.ensures.value (line_at-number c.args.source.now c.args.line c.requires.0 c.requires.1) of
    (search rules))
