use Rattle.std.proofs.Common.{◌≡◌, ◌∙◌, ap, sym, arith, List, None, Option, [], drop}
use Rattle.std.specs.Prelude.{slice_get}
use Rattle.std.specs.Str.{bytes_eq}
use Rattle.std.specs.Map.{lookup}
use Rattle.std.proofs.lemmas.Option.{slice_get_past}
use Rattle.ps_model.specs.names.Names.{Meaning}
use Rattle.ps_model.specs.text.Lines.{folded}
use Rattle.ps_names.specs.Known.{Named}
use Rattle.ps_names.specs.MeaningSteps.{meanings_shown}
use Rattle.ps_names.specs.Tables.{entries_with}
use Rattle.ps_names.proofs.tables.TableSteps.{zip-left}
use Rattle.ps_names.proofs.table.Table.find.Goals as goal

pub returns : goal.returns
returns c =
    let known : List Named = c.self.inside.known in
    let none : slice_get known c.loop-place.place ≡ None = slice_get_past known c.loop-place.place (omega arith) in
    let end : drop c.loop-place.place c.args.self.now ≡ [] =
    ap (λ (t : List (Named × Option Meaning)). drop c.loop-place.place t) (sym c.self.view_is)
    ∙ zip-left known (meanings_shown c.self.inside.meanings.items) c.loop-place.place none in
    ap (λ (t : List (Named × Option Meaning)). lookup (bytes_eq (folded c.args.name.now)) (entries_with t)) (sym end)
    ∙ c.loop-place.invariant
