use Rattle.std.proofs.Common.{◌≡◌, ◌++◌, ◌∙◌, ap, refl, rules, true, map, append_assoc}
use Rattle.ps_model.specs.declared.texts.Section.TheVariants.{Objects}
use Rattle.ps_model.specs.names.ObjectLines.{is_sprite_row}
use Rattle.ps_model.specs.text.LineNumbers.{line_at}
use Rattle.ps_model.specs.text.Lines.{Line, is_blank_line, words_of_line}
use Rattle.ps_text.specs.WordViews.{text_of}
use Rattle.ps_laws.proofs.common.LinesInOrder.{line_at-number}
use Rattle.ps_facts.specs.NamesShown.{is_own, names_shown}
use Rattle.ps_facts.specs.Objects.{is_row, names_at, names_from, place_below}
use Rattle.ps_facts.proofs.names.over_object_line.Goals as goal

pub returns : goal.returns
returns c others =
    let line : Line = line_at c.args.source.now c.args.line in
    let own : is_own Objects line ≡ true = search rules in
    let texts : map text_of c.in_ok-words.words.items ≡ words_of_line line = c.in_ok-words.ensures.texts in
    let row : c.is_row-is_row.result ≡ is_sprite_row line =
    c.is_row-is_row.ensures ∙ ap (λ items. is_row (map text_of items)) c.deref.ensures.value ∙ ap is_row texts in
    let next : c.place_below.result ≡ place_below c.args.place (is_blank_line line) (is_sprite_row line) =
    rw (c.place_below.ensures, c.is_blank_line-is_blank.ensures, row) refl in
    let added : names_shown c.push_names_if.new.names.items ≡ names_shown c.args.names.now.items
    ++ names_at c.args.place line =
    rw (
      c.in_ok-push_names_if.ensures,
      c.names_object.ensures,
      c.is_blank_line-is_blank.ensures,
      row,
      c.deref-2.ensures.value,
      texts,
      line_at-number c.args.source.now c.args.line c.requires.0 c.requires.1,
    ) refl in
    rw (own, next, added) (append_assoc (names_shown c.args.names.now.items) (names_at c.args.place line)
    (names_from (place_below c.args.place (is_blank_line line) (is_sprite_row line)) others))
