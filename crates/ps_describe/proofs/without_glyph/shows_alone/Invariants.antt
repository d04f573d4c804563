use Rattle.std.proofs.Common.{◌≡◌, drop}
use Rattle.std.specs.List.{list_all}
use Rattle.ps_model.specs.names.Names.{members}
use Rattle.ps_names.specs.Shown.{meaning_shown}
use Rattle.ps_describe.specs.Descriptions.{is_that}
use Rattle.ps_describe.proofs.without_glyph.shows_alone.Given as goal

-- the objects passed by are that one
abbrev pub invariant-loop-member : goal.invariant-loop-member
invariant-loop-member l = list_all (is_that l.object) (drop l.member-index (members (meaning_shown l.glyph.meaning)))
    ≡ list_all (is_that l.object) (members (meaning_shown l.glyph.meaning))
