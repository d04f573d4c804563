use Rattle.std.proofs.Common.{◌<◌, ◌∙◌, length, None, ap, arith}
use Rattle.std.proofs.lemmas.List.{get_or_read}
use Rattle.ps_model.specs.names.Names.{Names}
use Rattle.ps_model.specs.session.LevelFaults.{character_meaning}
use Rattle.ps_levels.specs.Cells.{meaning_seen}
use Rattle.ps_levels.proofs.GlyphMeanings.{meaning-at}
use Rattle.ps_levels.proofs.glyph_names.GlyphNames.meaning.Goals as goal

pub returns-then-code-len : goal.returns-then-code-len
returns-then-code-len c =
    let own = c.self.inside in
    let below : c.args.character < length own.ascii.items = omega (arith, c.if-code-len.true, own.ascii.ok.0) in
    ap meaning_seen (get_or_read own.ascii.items c.args.character _ below c.index.ensures None)
    ∙ meaning-at own.names.now own.ascii.items c.args.character None own.found below
    ∙ ap (λ (names : Names). character_meaning names c.args.character) c.self.view_is
