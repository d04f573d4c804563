use Rattle.std.proofs.Common.{◌≡◌, ◌+◌, ◌-◌, ◌<◌, ◌∙◌, sym, ap, refl, arith, get_or, length, List, ℕ}
use Rattle.std.specs.Prelude.{encode_utf8}
use Rattle.std.proofs.lemmas.Option.{slice_get_read}
use Rattle.std.proofs.lemmas.Grind.{get_or_default_zero}
use Rattle.ps_facts.specs.Declarations.{Declared, is_one_of}
use Rattle.ps_facts.specs.NamesShown.{names_shown}
use Rattle.ps_causes.proofs.glyphs.unknown_glyph.Goals as goal

pub returns : goal.returns
returns c text line names same stands =
    let characters : List ℕ = c.args.characters.now in
    let at : ℕ = c.in_ok-at.at in
    let found : ℕ = c.index-characters-at.result in
    let less : at < length characters = c.in_ok-at.ensures.within in
    let place : at + 1 - 1 ≡ at = omega arith in
    let is : found ≡ get_or characters at 0 = c.index-characters-at.is ∙ get_or_default_zero characters at found less in
    record {
      stands = stands;
      counted = omega arith;
      place = rw (place, ← same) (slice_get_read characters (length characters) at found refl less
          c.index-characters-at.is);
      undeclared =
          ap (λ (names : List Declared). is_one_of names (encode_utf8 found)) (sym names)
          ∙ ap (λ (character : ℕ). is_one_of (names_shown c.args.names.now) (encode_utf8 character)) is
          ∙ c.in_ok-at.ensures.unknown;
      first = rw (place, ← same, ← names) c.in_ok-at.ensures.first;
    }
