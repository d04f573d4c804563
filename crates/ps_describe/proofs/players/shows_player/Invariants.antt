use Rattle.std.proofs.Common.{◌≡◌, drop}
use Rattle.std.specs.List.{list_any}
use Rattle.ps_model.specs.names.Names.{is_among, members, players}
use Rattle.ps_names.specs.Shown.{meaning_shown}
use Rattle.ps_describe.proofs.players.shows_player.Given as goal

-- the objects passed by are no Player
abbrev pub invariant-loop-object : goal.invariant-loop-object
invariant-loop-object l = list_any (is_among (players l.names)) (drop l.object-index (members (meaning_shown l.glyph.meaning)))
    ≡ list_any (is_among (players l.names)) (members (meaning_shown l.glyph.meaning))
