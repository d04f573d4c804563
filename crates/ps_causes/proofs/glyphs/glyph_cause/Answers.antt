use Rattle.std.proofs.Common.{◌≡◌, ◌<◌, ◌∙◌, ap, rules, arith, length, All}
use Rattle.std.specs.Str.{chars}
use Rattle.ps_facts.specs.LineWords.{IsWordOf}
use Rattle.ps_facts.specs.Declarations.{declared}
use Rattle.ps_facts.specs.NamesShown.{names_shown}
use Rattle.ps_causes.proofs.SomeWords.{holds-of_first}
use Rattle.ps_causes.proofs.glyphs.glyph_cause.Goals as goal

pub returns-in-Some : goal.returns-in-Some
returns-in-Some c =
    let some : 0 < length c.in_ok-words.words.items = search (rules, arith) in
    let stands : IsWordOf c.args.source.now c.args.line c.index.result.now =
    holds-of_first (IsWordOf c.args.source.now c.args.line) c.in_ok-words.words.items c.index.result.now some
    c.index.ensures c.in_ok-words.ensures.each in
    let names : names_shown c.deref.result.now ≡ declared c.args.source.now =
    ap (λ items. names_shown items) c.deref.ensures.value ∙ c.in_ok-names.ensures in
    let characters : c.deref-2.result.now ≡ chars c.index.result.now.text.now =
    c.deref-2.ensures.value ∙ c.in_ok-characters.ensures ∙ ap chars c.text.ensures in
    c.in-Some.ensures c.args.source.now c.args.line names characters stands

pub returns : goal.returns
returns c =
    let all : All (IsWordOf c.args.text.now c.args.line) c.deref-3.result.now =
    rw (c.deref-3.ensures.value, ← c.requires.text) c.in_ok-words.ensures.each in
    rw c.requires.text (c.broken_cause.ensures c.args.line all)
