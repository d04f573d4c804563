use Rattle.std.proofs.Common.{◌≡◌, ◌∙◌, ap, refl, rules, arith, false, get_or, List, ℕ}
use Rattle.std.proofs.lemmas.List.{map-append}
use Rattle.std.proofs.lemmas.List.Elements.{All-get_or}
use Rattle.ps_model.specs.text.LineNumbers.{line_at}
use Rattle.ps_model.specs.text.Lines.{is_blank_line}
use Rattle.ps_names.specs.LinesThere.{lines_at}
use Rattle.ps_model.specs.text.LineNumbers.{HasLine}
use Rattle.ps_names.specs.LinesShown.{objects_shown}
use Rattle.ps_model.specs.names.ObjectLines.{lines_below}
use Rattle.ps_names.proofs.common.Elements.{rest-of}
use Rattle.ps_laws.proofs.common.LinesInOrder.{line_at-number}
use Rattle.ps_names.proofs.written.ObjectSteps.{object-step}
use Rattle.ps_names.proofs.objects.over.Goals as goal

pub returns : goal.returns
returns c =
    let text : _ = c.args.source.now in
    let lines : _ = c.args.lines.now in
    let line : _ = get_or lines 0 0 in
    let is : HasLine text line = All-get_or (HasLine text) lines 0 0 c.requires.some c.requires.there in
    let blank : is_blank_line (line_at text line) ≡ false = search rules in
    object-step text lines 0 (objects_shown c.args.made.now.items) (objects_shown c.push.new.self.items) _ line
    c.args.above c.in_ok-below.below c.requires.some refl
    (omega arith) blank (line_at-number text line is.0 is.1) c.in_ok-words.ensures.texts (c.in_ok-below.ensures
    ∙ ap (λ (xs : List ℕ). lines_below (lines_at text xs)) (rest-of lines 1))
    (rw (c.in_ok-push.ensures.items, map-append) refl)
