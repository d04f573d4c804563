use Rattle.std.proofs.Common.{◌≡◌, ◌∙◌, ◌+◌, ◌++◌, ap, sym, arith, List, suc, Some, None, Option, drop}
use Rattle.std.specs.Prelude.{slice_get, slice_index_or, option_to_list, option_and_then}
use Rattle.std.specs.List.{zip, filter_map}
use Rattle.ps_model.specs.names.Names.{Meaning, Glyph}
use Rattle.ps_model.specs.names.NamesRead.{glyph_with}
use Rattle.ps_names.specs.declared.meaning.Meaning as code
use Rattle.ps_names.specs.Known.{Named}
use Rattle.ps_names.specs.MeaningSteps.{meanings_shown}
use Rattle.ps_names.specs.Tables.{known_name_shown, glyph_named}
use Rattle.ps_names.proofs.tables.TableSteps.{no-glyph, glyph-here}
use Rattle.ps_names.proofs.table.Table.glyph_at.Goals as goal

pub returns-in_default : goal.returns-in_default
returns-in_default c =
    let one : c.args.place + 1 ≡ suc c.args.place = omega arith in
    let none : slice_get c.self.inside.known c.args.place ≡ None = sym c.in_default.ensures in
    rw (← c.self.view_is, one) (no-glyph c.self.inside.known (meanings_shown c.self.inside.meanings.items) c.args.place
    none)

pub returns : goal.returns
returns c =
    let known : List Named = c.self.inside.known in
    let meanings : List (Option Meaning) = meanings_shown c.self.inside.meanings.items in
    let one : c.args.place + 1 ≡ suc c.args.place = omega arith in
    let there : slice_get known c.args.place ≡ Some (known_name_shown c.in-Some.known) = sym c.in-Some.ensures in
    let meaning = c.meaning_at.ensures ∙ ap (λ (ms : List (Option code.Meaning)).
    slice_index_or (meanings_shown ms) c.args.place None) c.deref.ensures.value in
    rw (← c.self.view_is, one) (
    glyph-here known meanings c.args.place (known_name_shown c.in-Some.known) there
    ∙ ap (λ (found : Option Glyph). option_to_list found ++ filter_map glyph_named
    (drop (suc c.args.place) (zip known meanings)))
    (sym (c.in_ok-glyph.ensures ∙ ap (option_and_then (glyph_with c.in-Some.known.character)) meaning))
    )
