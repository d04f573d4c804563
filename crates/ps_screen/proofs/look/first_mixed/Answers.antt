use Rattle.std.proofs.Common.{◌≡◌, ◌∙◌, ◌<◌, [], ℕ, Bor, List, Vec, Global, ap, arith, get_or, length, map, sym}
use Rattle.std.proofs.lemmas.List.{get_or-map, length-map}
use Rattle.ps_names.specs.declared.glyphs.Glyph as written
use Rattle.ps_names.specs.GlyphsShown.{glyph_shown}
use Rattle.ps_model.specs.names.Names.{Glyph}
use Rattle.ps_screen.specs.Glyphs.{character_for, with_greatest}
use Rattle.ps_screen.specs.GreatestObjects.{greatest}
use Rattle.ps_screen.proofs.GreatestObjects.{greatest_enough}
use Rattle.ps_screen.proofs.look.first_mixed.Goals as goal

abbrev shown : Bor written.Glyph → Glyph
shown glyph = glyph_shown glyph.now

abbrev list_shown : Vec (Bor written.Glyph) Global → List Glyph
list_shown list = map shown list.items

pub returns-then-most-by_greatest : goal.returns-then-most-by_greatest
returns-then-most-by_greatest c =
    let lists : List (Vec (Bor written.Glyph) Global) = c.args.by_greatest.now in
    let mixed : List Glyph = map shown c.args.mixed.now in
    let most : ℕ = c.greatest-most.result in
    let low : most < length lists = c.if-most-by_greatest.true in
    let within : most < length (map list_shown lists) = rw (length-map lists list_shown) low in
    let own : Vec (Bor written.Glyph) Global = c.index-by_greatest-most.result in
    let are : map shown own.items ≡ with_greatest mixed most =
    ap list_shown c.index-by_greatest-most.is ∙ sym (get_or-map list_shown lists most own [] low)
    ∙ c.requires most within in
    c.first_glyph.ensures
    ∙ ap (λ xs. character_for (map shown xs) c.args.objects.now) c.as_slice.ensures.value
    ∙ ap (λ gs. character_for gs c.args.objects.now) (are ∙ ap (with_greatest mixed) c.greatest-most.ensures)
    ∙ greatest_enough mixed c.args.objects.now
