use Rattle.std.proofs.Common.{◌≡◌, ◌∙◌, ◌+◌, ap, sym, rules, arith, List, [], true, false, suc, Some, None, Option}
use Rattle.std.proofs.Common.{drop}
use Rattle.std.specs.Prelude.{slice_get, slice_index_or}
use Rattle.std.specs.List.{zip}
use Rattle.std.specs.Map.{lookup}
use Rattle.ps_names.specs.declared.meaning.Meaning as code
use Rattle.std.specs.Str.{bytes_eq}
use Rattle.std.specs.Option.{option_or}
use Rattle.ps_model.specs.names.Names.{Meaning}
use Rattle.ps_model.specs.names.Meanings.{OfLine}
use Rattle.ps_model.specs.text.Lines.{folded}
use Rattle.ps_names.specs.Known.{Named}
use Rattle.ps_names.specs.MeaningSteps.{meanings_shown}
use Rattle.ps_names.specs.Tables.{known_name_shown, entries_with}
use Rattle.ps_names.proofs.tables.TableSteps.{table-end, zip-left, other-name, name-here}
use Rattle.ps_names.proofs.table.Table.meaning_if.Goals as goal

pub returns-in_default : goal.returns-in_default
returns-in_default c =
    let known : List Named = c.self.inside.known in
    let meanings : List (Option Meaning) = meanings_shown c.self.inside.meanings.items in
    let one : c.args.place + 1 ≡ suc c.args.place = omega arith in
    let none : slice_get known c.args.place ≡ None = sym c.in_default.ensures in
    rw (← c.self.view_is, one) (table-end (folded c.args.name.now) known meanings c.args.place
    (record { name = []; character = None; mention = OfLine 0 }) (zip-left known meanings c.args.place none))

pub returns-then-not-folds_to : goal.returns-then-not-folds_to
returns-then-not-folds_to c =
    let known : List Named = c.self.inside.known in
    let meanings : List (Option Meaning) = meanings_shown c.self.inside.meanings.items in
    let one : c.args.place + 1 ≡ suc c.args.place = omega arith in
    let there : slice_get known c.args.place ≡ Some (known_name_shown c.in-Some.known) = sym c.in-Some.ensures in
    let other : bytes_eq (folded c.args.name.now) c.in-Some.known.name.now ≡ false = search rules in
    rw (← c.self.view_is, one) (other-name (folded c.args.name.now) known meanings c.args.place
    (known_name_shown c.in-Some.known) there other)

pub returns : goal.returns
returns c =
    let known : List Named = c.self.inside.known in
    let meanings : List (Option Meaning) = meanings_shown c.self.inside.meanings.items in
    let one : c.args.place + 1 ≡ suc c.args.place = omega arith in
    let there : slice_get known c.args.place ≡ Some (known_name_shown c.in-Some.known) = sym c.in-Some.ensures in
    let same : bytes_eq (folded c.args.name.now) c.in-Some.known.name.now ≡ true = search rules in
    rw (← c.self.view_is, one) (
    name-here (folded c.args.name.now) known meanings c.args.place (known_name_shown c.in-Some.known) there same
    ∙ ap (λ (found : Option Meaning). option_or found
    (lookup (bytes_eq (folded c.args.name.now)) (entries_with (drop (suc c.args.place) (zip known meanings)))))
    (sym (c.meaning_at.ensures ∙ ap (λ (ms : List (Option code.Meaning)).
    slice_index_or (meanings_shown ms) c.args.place None) c.deref.ensures.value))
    )
