use Rattle.std.proofs.Common.{◌≡◌, ◌∙◌, ◌+◌, ◌++◌, ◌∷◌, [], ℕ, Bor, List, ap, append-nil, get_or, map, sym, take}
use Rattle.std.proofs.lemmas.List.{map-append}
use Rattle.ps_names.specs.declared.glyphs.Glyph as written
use Rattle.ps_names.specs.GlyphsShown.{glyph_shown}
use Rattle.ps_model.specs.names.Names.{Glyph}
use Rattle.ps_screen.specs.Glyphs.{with_greatest}
use Rattle.ps_screen.proofs.GreatestObjects.{most_of, one_kept, one_passed, with_greatest_more}
use Rattle.ps_screen.proofs.greatest.with_greatest.Goals.{then-mosts-index+in_ok-push, else-mosts-index}
use Rattle.ps_screen.proofs.greatest.with_greatest.Goals as goal

abbrev shown : Bor written.Glyph → Glyph
shown glyph = glyph_shown glyph.now

pub loop-index-preserved : goal.loop-index-preserved
loop-index-preserved c =
    let i : ℕ = c.loop-index.index in
    let glyphs : List (Bor written.Glyph) = c.args.glyphs.now in
    let item : Bor written.Glyph = c.index-glyphs-index.result in
    let number : ℕ = c.args.number in
    let before : List Glyph = with_greatest (map shown (take i glyphs)) number in
    let one : List Glyph = with_greatest (shown (get_or glyphs i item) ∷ []) number in
    let more : with_greatest (map shown (take (i + 1) glyphs)) number ≡ before ++ one =
    with_greatest_more shown glyphs number i item c.loop-index-test.true in
    let most = most_of shown glyphs c.args.mosts.now i item 0 c.requires c.loop-index-test.true in
    elim c.if-mosts-index.branch [
      | then-mosts-index+in_ok-push w ↦
          ap (λ f. map shown f.items) w.found-is ∙ ap (map shown) w.in_ok-push.ensures.items
          ∙ map-append shown c.loop-index.found.items (item ∷ [])
          ∙ ap (λ xs. xs ++ shown item ∷ []) c.loop-index.invariant
          ∙ ap (λ g. before ++ shown g ∷ []) c.index-glyphs-index.is
          ∙ ap (λ xs. before ++ xs)
          (sym (one_kept (shown (get_or glyphs i item)) number (sym most ∙ w.if-mosts-index.true)))
          ∙ sym more
      | else-mosts-index w ↦
          ap (λ f. map shown f.items) w.found-is ∙ c.loop-index.invariant ∙ sym (append-nil before)
          ∙ ap (λ xs. before ++ xs)
          (sym (one_passed (shown (get_or glyphs i item)) number (λ e. w.if-mosts-index.false (most ∙ e))))
          ∙ sym more
    ]
