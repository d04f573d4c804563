use Rattle.std.proofs.Common.{◌≡◌, ◌∙◌, ◌+◌, ◌++◌, ◌∷◌, ◌<◌, [], ℕ, List, Option, Some, None, Bor}
use Rattle.std.proofs.Common.{length, map, take, get_or, sym, ap, ap₂, arith}
use Rattle.std.specs.Prelude.{slice_set}
use Rattle.std.specs.Option.{option_or}
use Rattle.std.proofs.lemmas.List.{get_or_default, length-set, map-append}
use Rattle.ps_model.specs.names.Names.{Glyph, members}
use Rattle.ps_names.specs.declared.glyphs.Glyph as written
use Rattle.ps_names.specs.GlyphsShown.{glyph_shown, glyphs_shown}
use Rattle.ps_screen.specs.Glyphs.{single_place}
use Rattle.ps_screen.proofs.LookedUp.{looked_mixed, looked_single, place_below, shown_more}
use Rattle.ps_screen.proofs.look.Look.new.Goals.{in-None+in_ok-push-in-None, in-Some}
use Rattle.ps_screen.proofs.look.Look.new.Goals as goal

pub loop-glyph-preserved : goal.loop-glyph-preserved
loop-glyph-preserved c =
    let items = c.glyphs-glyph-items.result.now in
    let i : ℕ = c.loop-glyph.glyph-index in
    let glyph : Glyph = glyph_shown c.glyph-item.result in
    let before : List Glyph = glyphs_shown (take i items) in
    let single : List (Option ℕ) = c.loop-glyph.single.items in
    let shown : List (Bor written.Glyph) → List Glyph = map (λ (g : Bor written.Glyph). glyph_shown g.now) in
    let was = c.loop-glyph.invariant in
    let more : glyphs_shown (take (i + 1) items) ≡ before ++ glyph ∷ [] =
    shown_more glyph_shown items i c.glyph-item.result (omega arith) c.glyph-item.is in
    let told : single_place (length single) (members glyph.meaning) ≡ c.single_place.result =
    ap₂ single_place was.long (sym c.members.ensures) ∙ sym c.single_place.ensures in
    elim c.match-single_place.branch [
      | in-Some w ↦
          let place : ℕ = w.in-Some.place in
          let is : single_place (length single) (members glyph.meaning) ≡ Some place = told ∙ w.in-Some.is in
          let low : place < length single = place_below (length single) (members glyph.meaning) place is in
          let here : Option ℕ = option_or (get_or single place None) (Some glyph.character) in
          let put : w.or.result ≡ here =
          w.or.ensures ∙ ap (λ (o : Option ℕ). option_or o (Some glyph.character))
          (w.index.ensures ∙ get_or_default single place w.index.result.now None low) in
          let made : c.match-single_place.single.items ≡ slice_set single place here =
          ap (λ s. s.items) w.single-is ∙ ap (slice_set single place) put in
          record {
            looked = rw (more, w.mixed-is)
                (looked_single before glyph single c.match-single_place.single.items (shown c.loop-glyph.mixed.items)
                place was.looked is made);
            long = ap length made ∙ length-set single place here ∙ was.long;
          }
      | in-None+in_ok-push-in-None w ↦
          let mixed : shown c.match-single_place.mixed.items ≡ shown c.loop-glyph.mixed.items ++ glyph ∷ [] =
          ap (λ m. shown m.items) w.mixed-is ∙ ap shown w.in_ok-push-in-None.ensures.items
          ∙ map-append (λ (g : Bor written.Glyph). glyph_shown g.now) c.loop-glyph.mixed.items _ in
          record {
            looked = rw (more, mixed, w.single-is)
                (looked_mixed before glyph single (shown c.loop-glyph.mixed.items) was.looked
                (told ∙ w.in-None.is));
            long = ap (λ s. length s.items) w.single-is ∙ was.long;
          }
    ]
