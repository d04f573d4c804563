use Rattle.std.proofs.Common.{◌≡◌, ◌∙◌, sym, ap, List, ℕ, Option}
use Rattle.std.specs.Prelude.{encode_utf8}
use Rattle.std.specs.Char.{to_ascii_lowercase}
use Rattle.std.specs.Map.{lookup}
use Rattle.std.specs.Str.{bytes_eq}
use Rattle.std.proofs.lemmas.Str.Ascii.{lowercase-lowercase}
use Rattle.ps_model.specs.session.LevelFaults.{character_meaning}
use Rattle.ps_model.specs.text.Lines.{folded}
use Rattle.ps_model.specs.names.Names.{Names, Meaning, meaning_of}
use Rattle.ps_levels.proofs.Letters.{folded_character}
use Rattle.ps_levels.proofs.glyph_names.character_meaning.Goals as goal

-- the name that a character alone is
by_name : (names : Names) (character lower : ℕ) (name : List ℕ) (found : Option Meaning) →
    lower ≡ to_ascii_lowercase character → name ≡ encode_utf8 lower → found ≡ meaning_of names name →
    found ≡ character_meaning names character
by_name names character lower name found l n f =
    let lowered : to_ascii_lowercase lower ≡ lower = ap to_ascii_lowercase l ∙ lowercase-lowercase character ∙ sym l in
    let same : folded name ≡ encode_utf8 (to_ascii_lowercase character) = ap folded n ∙ folded_character lower lowered
    ∙ ap encode_utf8 l in
    f ∙ ap (λ (key : List ℕ). lookup (bytes_eq key) names.entries) same

pub returns : goal.returns
returns c = by_name c.args.names.now c.args.character c.to_ascii_lowercase.result c.encode_utf8-name.result.now _
    c.to_ascii_lowercase.ensures.value c.encode_utf8-name.ensures.value c.meaning.ensures.meaning
