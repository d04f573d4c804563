use Rattle.std.proofs.Common.{rules, ◌≡◌, ◌∙◌, ◌+◌, ◌&&◌, sym, ap, refl, subst, arith, true, false, Bool, cond, Some}
use Rattle.std.proofs.Common.{Option}
use Rattle.std.specs.Prelude.{find, IfOk, option_and_then}
use Rattle.ps_model.specs.declared.rooms.RoomSize.{RoomSize}
use Rattle.ps_model.specs.text.LineNumbers.{line_at, lines_between}
use Rattle.ps_model.specs.text.Preludes.{asks_for_rooms, size_of_line, rooms_of}
use Rattle.ps_laws.proofs.common.LinesInOrder.{between-step}
use Rattle.ps_sections.proofs.LineSteps.{find_step}
use Rattle.ps_sections.proofs.prelude.rooms_of.Goals as goal

pub returns-then-branch : goal.returns-then-branch
returns-then-branch c =
    let text = c.args.source.now in
    let line = line_at text c.loop-line.line in
    let rest = lines_between text (c.loop-line.line + 1) c.args.lines.now.end in
    let told : line.is_there && asks_for_rooms line ≡ true = search rules in
    let found : find asks_for_rooms (lines_between text c.args.lines.now.start c.args.lines.now.end) ≡ Some line =
    sym c.loop-line.invariant ∙ ap (find asks_for_rooms)
    (between-step text c.loop-line.line (c.loop-line.line + 1) c.args.lines.now.end (omega arith) (omega arith)
    (omega arith) refl)
    ∙ find_step asks_for_rooms line rest line.is_there
    ∙ ap (λ (b : Bool). cond b (Some line) (find asks_for_rooms rest)) told in
    let same : size_of_line line ≡ rooms_of (lines_between text c.args.lines.now.start c.args.lines.now.end) =
    ap (option_and_then size_of_line) (sym found) in
    subst (λ (s : Option RoomSize). IfOk c.size_of_line.result (λ size. size ≡ s)) same c.size_of_line.ensures

pub loop-line-preserved : goal.loop-line-preserved
loop-line-preserved c =
    let text = c.args.source.now in
    let line = line_at text c.loop-line.line in
    let rest = lines_between text (c.loop-line.line + 1) c.args.lines.now.end in
    let told : line.is_there && asks_for_rooms line ≡ false = search rules in
    sym (ap (find asks_for_rooms) (between-step text c.loop-line.line (c.loop-line.line + 1) c.args.lines.now.end
    (omega arith) (omega arith) (omega arith) refl)
    ∙ find_step asks_for_rooms line rest line.is_there
    ∙ ap (λ (b : Bool). cond b (Some line) (find asks_for_rooms rest)) told) ∙ c.loop-line.invariant
