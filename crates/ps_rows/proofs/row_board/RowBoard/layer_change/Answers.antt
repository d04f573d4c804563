use Rattle.std.proofs.Common.{◌≡◌, ◌∙◌, ℕ, Option, Some, List, ap, subst, Bool, ap₂}
use Rattle.ps_model.specs.declared.compiled.LayerWrite.{LayerWrite}
use Rattle.ps_model.specs.declared.compiled.LayeredObject.{LayeredObject}
use Rattle.ps_model.specs.meaning.Compiled.{CellWrite}
use Rattle.ps_program.specs.ProgramShown.{write_shown}
use Rattle.ps_match.specs.InRoom.{own_write}
use Rattle.ps_rows.specs.RowChanges.{motions_change, moves_kept, objects_change}
use Rattle.ps_rows.specs.RowTests.{IsRowOf}
use Rattle.ps_rows.specs.Showing.{grid_shown}
use Rattle.ps_rows.specs.SlotsWritten.{one_goes}
use Rattle.ps_rows.proofs.LayerChanges.{layer_changed}
use Rattle.ps_board.specs.ColumnSets.{both_columns, columns_without}
use Rattle.ps_rows.proofs.row_board.RowBoard.layer_change.Goals as goal

pub returns : goal.returns
returns g c =
    let b = c.args.self.now in
    let table : List ℕ = b.members.table.items in
    let write : CellWrite = write_shown c.args.write.now in
    let columns : List Bool = c.args.columns in
    let gone : List Bool = c.gone_row.result in
    let own : c.own_write-own.result ≡ own_write (Some table) c.args.layer write.layers =
    c.own_write-own.ensures ∙ ap (λ (writes : List LayerWrite).
    own_write (Some table) c.args.layer writes) c.as_slice.ensures in
    let P : List LayeredObject → Type 0 = λ xs.
    IsRowOf (grid_shown table b.width b.planes.height b.layers b.planes.words.items) c.args.row gone
    (one_goes xs c.args.layer) in
    let freed : c.both-freed.result ≡ both_columns columns gone = c.both-freed.ensures in
    let kept : c.both-kept.result ≡ both_columns (columns_without columns (both_columns columns gone))
    c.kept_row.result =
    c.both-kept.ensures ∙ ap (λ (set : List Bool). both_columns set c.kept_row.result) (c.without.ensures
    ∙ ap (columns_without columns) freed) in
    let objects : c.layer_changes.result.0 ≡ objects_change (own_write (Some table) c.args.layer write.layers)
    columns (both_columns columns gone) =
    c.layer_changes.ensures.objects ∙ ap₂ (λ (o : Option LayerWrite) (f : List Bool).
    objects_change o columns f) own freed in
    let motions : c.layer_changes.result.1
    ≡ motions_change c.motions_from-first.result (own_write (Some table) c.args.layer write.layers) columns
    (both_columns columns gone)
    (both_columns (columns_without columns (both_columns columns gone)) c.kept_row.result) =
    c.layer_changes.ensures.motions ∙ ap₂ (λ (o : Option LayerWrite) (f : List Bool).
    motions_change c.motions_from-first.result o columns f c.both-kept.result) own freed
    ∙ ap (motions_change c.motions_from-first.result (own_write (Some table) c.args.layer write.layers) columns
    (both_columns columns gone)) kept in
    layer_changed table b.width b.planes.height b.layers b.planes.words.items c.args.layer c.args.row b.planes.some_row
    b.columns c.requires.row c.requires.layer write columns gone c.kept_row.result
    c.requires.within (subst P c.as_slice-2.ensures c.gone_row.ensures) (λ moves.
    c.kept_row.ensures (ap moves_kept own ∙ moves)) c.motions_from-first.result c.layer_changes.result.0
    c.layer_changes.result.1 c.motions_from-first.ensures.first objects motions
