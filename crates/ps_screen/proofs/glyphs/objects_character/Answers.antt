use Rattle.std.proofs.Common.{◌∙◌, sym, ap}
use Rattle.ps_screen.specs.Glyphs.{character_for}
use Rattle.ps_screen.proofs.Painting.{second_fits, third_tried}
use Rattle.ps_screen.proofs.glyphs.objects_character.Goals as goal

pub returns-in-Some-glyph_for : goal.returns-in-Some-glyph_for
returns-in-Some-glyph_for c =
    let second = c.glyph_for-2.ensures ∙ ap (character_for c.args.look.now.glyphs) (c.deref.ensures.value
    ∙ c.in_ok-gather_above.ensures) in
    second_fits _ _ _ c.in-Some-glyph_for.character (sym c.in_default.is ∙ c.glyph_for.ensures)
    (sym c.in-Some-glyph_for.is ∙ second)

pub returns : goal.returns
returns c =
    let second = c.glyph_for-2.ensures ∙ ap (character_for c.args.look.now.glyphs) (c.deref.ensures.value
    ∙ c.in_ok-gather_above.ensures) in
    let third = c.glyph_for-3.ensures ∙ ap (character_for c.args.look.now.glyphs) c.topmost.ensures in
    c.unwrap_or.ensures ∙ third_tried _ _ _ (sym c.in_default.is ∙ c.glyph_for.ensures) (sym c.in_default-glyph_for.is
    ∙ second) c.glyph_for-3.result third
