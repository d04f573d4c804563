use Rattle.std.proofs.Common.{◌∙◌, List, Bool, [], length, refl, ap}
use Rattle.std.specs.Prelude.{slice_set}
use Rattle.std.proofs.lemmas.List.{get_or_read_under}
use Rattle.ps_board.specs.ColumnSets.{both_columns}
use Rattle.ps_rows.proofs.scanning_rows.keep_at.Goals as goal

pub returns : goal.returns
returns g c =
    let now : List (List Bool) = c.args.found.now in
    ap (slice_set now c.args.place)
    (c.both.ensures
    ∙ ap (λ (w : List Bool). both_columns w c.args.columns)
    (get_or_read_under now c.args.place (length now) c.index-found-place.result [] c.index-found-place.is c.requires
    refl))
