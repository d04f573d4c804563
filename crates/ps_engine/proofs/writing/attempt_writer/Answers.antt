use Rattle.std.proofs.Common.{◌≡◌, ◌≢◌, ◌∙◌, ℕ, [], true, false, Option, List, fold, ap, refl, rules}
use Rattle.std.specs.Prelude.{slice_index_or}
use Rattle.ps_model.specs.board.Grid.{Grid}
use Rattle.ps_model.specs.board.Attempts.{Result, Rewritten, applied, combinations_on}
use Rattle.ps_model.specs.rules.SourceRules.{Commands}
use Rattle.ps_program.specs.CommandsShown.{commands_shown}
use Rattle.ps_program.specs.Axes.{direction_of}
use Rattle.ps_program.specs.declared.rows.CompiledRow.{CompiledRow}
use Rattle.ps_engine.specs.Choosing.{rows_meaning}
use Rattle.ps_engine.specs.RulesInRoom.{rule_meaning}
use Rattle.ps_engine.proofs.Attempting.{attempt_none, attempt_written, unchanged}
use Rattle.ps_engine.proofs.WriterAttempts.{inside, none_here, some_here, written_here}
use Rattle.std.proofs.lemmas.List.{length-set}
use Rattle.ps_engine.specs.Workspaces.{fixed_by}
use Rattle.ps_engine.proofs.writing.attempt_writer.Goals as goal

pub returns-then-is_empty-clause-attempt : goal.returns-then-is_empty-clause-attempt
returns-then-is_empty-clause-attempt g c =
    let grid : Grid = g.B.Board.grid c.args.work.now.board.now in
    let table : Option (List ℕ) = g.B.Board.table c.args.work.now.board.now in
    let rule = c.args.rule.now in
    let row : CompiledRow = c.index-as_slice-0.result in
    let row_is : row ≡ slice_index_or rule.rows 0 row =
    c.index-as_slice-0.is ∙ ap (λ (rs : List CompiledRow). slice_index_or rs 0 row) c.as_slice.ensures in
    let empty : c.is_empty.result ≡ true = search rules in
    attempt_none (direction_of rule.axis) (rows_meaning table rule.rows) rule.rewrites
    (commands_shown rule.commands.value) grid c.args.work.now.queue.now
    (combinations_on grid (rule_meaning table rule))
    (none_here grid table rule c.args.writer row c.writing_cell-cell.result.now c.recall_shape.ensures.shape
    c.requires.writer row_is
    c.writing_cell-cell.ensures c.find_targets-rows.result c.find_targets-rows.new.self.starts.items
    c.find_targets-rows.ensures (c.is_empty.ensures.none empty))

pub write_targets-requires : goal.write_targets-requires
write_targets-requires g c =
    let grid : Grid = g.B.Board.grid c.args.work.now.board.now in
    let table : Option (List ℕ) = g.B.Board.table c.args.work.now.board.now in
    let rule = c.args.rule.now in
    let row : CompiledRow = c.index-as_slice-0.result in
    let row_is : row ≡ slice_index_or rule.rows 0 row =
    c.index-as_slice-0.is ∙ ap (λ (rs : List CompiledRow). slice_index_or rs 0 row) c.as_slice.ensures in
    inside grid table rule c.args.writer row c.writing_cell-cell.result.now c.recall_shape.ensures.shape
    c.requires.writer row_is
    c.writing_cell-cell.ensures c.find_targets-rows.result c.find_targets-rows.new.self.starts.items
    c.find_targets-rows.ensures

pub returns-clause-attempt : goal.returns-clause-attempt
returns-clause-attempt g c =
    let grid : Grid = g.B.Board.grid c.args.work.now.board.now in
    let table : Option (List ℕ) = g.B.Board.table c.args.work.now.board.now in
    let rule = c.args.rule.now in
    let row : CompiledRow = c.index-as_slice-0.result in
    let row_is : row ≡ slice_index_or rule.rows 0 row =
    c.index-as_slice-0.is ∙ ap (λ (rs : List CompiledRow). slice_index_or rs 0 row) c.as_slice.ensures in
    let filled : c.is_empty.result ≡ false = search rules in
    let after : Rewritten = record {
      grid = g.B.Board.grid c.write_targets.new.board;
      changed =
          c.write_targets.result;
    } in
    let all : List (List (List ℕ)) = combinations_on grid (rule_meaning table rule) in
    let made : after ≡ fold (applied (rows_meaning table rule.rows)) (unchanged grid) all =
    c.write_targets.ensures.rewritten
    ∙ written_here grid table rule c.args.writer row c.writing_cell-cell.result.now c.recall_shape.ensures.shape
    c.requires.writer row_is
    c.writing_cell-cell.ensures c.find_targets-rows.result c.find_targets-rows.new.self.starts.items
    c.find_targets-rows.ensures in
    let some : all ≢ [] =
    some_here grid table rule c.args.writer row c.writing_cell-cell.result.now c.recall_shape.ensures.shape
    c.requires.writer row_is
    c.writing_cell-cell.ensures c.find_targets-rows.result c.find_targets-rows.new.self.starts.items
    c.find_targets-rows.ensures
    (c.is_empty.ensures.some filled) in
    ap (λ (q : Commands). let r : Result = record {
      state = record { grid = after.grid; queue = q };
      changed =
          after.changed;
    } in r) c.enter.ensures
    ∙ attempt_written (direction_of rule.axis) (rows_meaning table rule.rows) rule.rewrites
    (commands_shown rule.commands.value) grid c.args.work.now.queue.now
    all after c.requires.rewrites some made

pub returns-then-is_empty-clause-fixed : goal.returns-then-is_empty-clause-fixed
returns-then-is_empty-clause-fixed g c =
    fixed_by refl (length-set c.args.work.now.scratch.now 0 c.find_targets-rows.new.self)

pub returns-clause-fixed : goal.returns-clause-fixed
returns-clause-fixed g c =
    fixed_by c.write_targets.ensures.fixed (length-set c.args.work.now.scratch.now 0 c.find_targets-rows.new.self)
