use Rattle.std.proofs.Common.{◌≡◌, ◌∙◌, List, ap, map}
use Rattle.ps_model.specs.game.Games.{Game}
use Rattle.ps_levels.specs.EntriesShown.{entries_shown}
use Rattle.ps_levels.specs.declared.levels.Entry.{Entry}
use Rattle.serde_json.specs.Data.{Data}
use Rattle.serde_json.specs.View.{view}
use Rattle.ps_report.specs.Objects.{levels_data}
use Rattle.ps_report.proofs.ObjectsMade.{game_made}
use Rattle.ps_report.proofs.objects.game_object.Goals as goal

pub returns : goal.returns
returns c =
    let read : Game = c.args.game.now in
    let levels : List Data = map view c.in_ok-levels.levels.items in
    let levels_are : levels ≡ levels_data read.entries =
    c.in_ok-levels.ensures ∙ ap (λ (entries : List Entry). levels_data (entries_shown entries)) c.deref.ensures.value
    ∙ ap (λ (game : Game). levels_data game.entries) c.game.view_is in
    game_made c.args.how c.args.name.now c.args.text.now read (view c.in_ok-counts.counts) _ _
    levels (view c.in_ok-told.told) c.in_ok-told.ensures (ap (map view) c.new.ensures.items) c.array_of.ensures
    c.in_ok-counts.ensures levels_are
