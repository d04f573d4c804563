use Rattle.std.proofs.Common.{◌≡◌, ◌∙◌, ◌<◌, ℕ, List, Option, None, false, ap, arith, get_or, length, map, sym}
use Rattle.std.specs.Prelude.{unwrap_or}
use Rattle.std.proofs.lemmas.List.{get_or_default}
use Rattle.ps_model.specs.board.Levels.{is_ground}
use Rattle.ps_model.specs.names.Names.{Names}
use Rattle.ps_names.specs.GlyphsShown.{glyph_shown}
use Rattle.ps_screen.proofs.StandingApart.{it_covers_apart}
use Rattle.ps_screen.proofs.look.Look.apart.Goals as goal

pub returns : goal.returns
returns c = λ below apart.
    let names : Names = c.args.self.now in
    let place : ℕ = c.args.object.0 in
    let single : List (Option ℕ) = c.self.inside.single.items in
    let low : place < length single = omega (arith, c.if-len-place.false, c.len.ensures) in
    let own : c.index.result.now ≡ get_or single place None =
    c.index.ensures ∙ get_or_default single place c.index.result.now None low in
    let above : is_ground names c.args.object ≡ false = sym c.is_ground.ensures ∙ c.if-is_ground.false in
    c.unwrap_or.ensures ∙ ap (λ o. unwrap_or o 63) own
    ∙ it_covers_apart names single (map (λ glyph. glyph_shown glyph.now) c.self.inside.mixed.items) c.args.object
    (rw c.self.view_is at c.self.invariant.1.0) low above below apart
