use Rattle.std.proofs.Common.{◌≡◌, ◌∙◌, ◌++◌, ap, sym, arith, List, None, Option, [], drop}
use Rattle.std.specs.Prelude.{slice_get}
use Rattle.std.specs.List.{filter_map}
use Rattle.std.proofs.lemmas.List.{append-nil}
use Rattle.std.proofs.lemmas.Option.{slice_get_past}
use Rattle.ps_model.specs.names.Names.{Meaning}
use Rattle.ps_names.specs.Known.{Named}
use Rattle.ps_names.specs.GlyphsShown.{glyphs_shown}
use Rattle.ps_names.specs.MeaningSteps.{meanings_shown}
use Rattle.ps_names.specs.Tables.{glyph_named}
use Rattle.ps_names.proofs.tables.TableSteps.{zip-left}
use Rattle.ps_names.proofs.table.Table.glyphs.Goals as goal

pub returns : goal.returns
returns c =
    let known : List Named = c.self.inside.known in
    let none : slice_get known c.loop-place.place ≡ None = slice_get_past known c.loop-place.place (omega arith) in
    let end : drop c.loop-place.place c.args.self.now ≡ [] =
    ap (λ (t : List (Named × Option Meaning)). drop c.loop-place.place t) (sym c.self.view_is)
    ∙ zip-left known (meanings_shown c.self.inside.meanings.items) c.loop-place.place none in
    sym (append-nil (glyphs_shown c.loop-place.made.items))
    ∙ ap (λ (t : List (Named × Option Meaning)).
    glyphs_shown c.loop-place.made.items ++ filter_map glyph_named t) (sym end) ∙ c.loop-place.invariant
