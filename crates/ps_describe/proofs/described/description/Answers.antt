use Rattle.std.proofs.Common.{◌≡◌, ◌∙◌, List, ℕ, ap, map, rules}
use Rattle.std.specs.Prelude.{encode_utf8, string_bytes}
use Rattle.std.specs.List.{flat_map}
use Rattle.ps_model.specs.names.Names.{Names}
use Rattle.ps_model.specs.game.Games.{Game}
use Rattle.ps_facts.specs.Declarations.{Declared}
use Rattle.ps_facts.specs.NamesShown.{names_shown}
use Rattle.serde_json.specs.Data.{Data, string}
use Rattle.serde_json.specs.View.{view}
use Rattle.ps_describe.specs.Descriptions.{glyph_told, ignored_keys, level_count, name_told, objects_without_glyph}
use Rattle.ps_describe.specs.Descriptions.{player_characters}
use Rattle.ps_describe.proofs.Texts.{described_by}
use Rattle.ps_describe.proofs.described.description.Goals as goal

pub returns : goal.returns
returns c =
    let read : Game = c.args.game.now in
    let declared : List Declared = names_shown c.args.declared.now in
    let own = ap (λ (game : Game). game.names) c.game.view_is in
    let glyphs : List Data = map view c.in_ok-glyphs.glyphs.items in
    let ignored : List Data = map view c.in_ok-ignored_keys.ignored_keys.items in
    let players : List ℕ = string_bytes c.in_ok-player_glyphs.player_glyphs in
    let title : List ℕ = string_bytes c.in_ok-title.title in
    let unshown : List Data = map view c.in_ok-without_glyph.without_glyph.items in
    let glyphs_are : glyphs ≡ map (glyph_told read.names declared) read.names.glyphs =
    c.in_ok-glyphs.ensures ∙ ap (λ (names : Names). map (glyph_told names declared) names.glyphs) own in
    let ignored_are : ignored ≡ map string (ignored_keys read.options) = search rules in
    let levels_are : c.levels_among.result ≡ level_count read = search rules in
    let players_are : players ≡ flat_map encode_utf8 (player_characters read.names) =
    c.in_ok-player_glyphs.ensures ∙ ap (λ (names : Names). flat_map encode_utf8 (player_characters names)) own in
    let title_is : title ≡ read.title = search rules in
    let unshown_are : unshown ≡ map (name_told read.names declared) (objects_without_glyph read.names) =
    c.in_ok-without_glyph.ensures
    ∙ ap (λ (names : Names). map (name_told names declared) (objects_without_glyph names)) own in
    described_by read declared glyphs ignored c.levels_among.result players title unshown (view c.in_ok-told.told)
    c.in_ok-told.ensures glyphs_are ignored_are levels_are players_are title_is unshown_are
