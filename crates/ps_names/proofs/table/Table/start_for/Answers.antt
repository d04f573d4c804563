use Rattle.std.proofs.Common.{◌≡◌, ◌∙◌, ap, rules, List, [], ℕ}
use Rattle.std.specs.Prelude.{slice_index_or}
use Rattle.std.specs.Str.{bytes_eq}
use Rattle.ps_model.specs.text.Lines.{folded}
use Rattle.ps_names.specs.Known.{keys}
use Rattle.ps_names.specs.MeaningSteps.{meanings_shown}
use Rattle.ps_names.proofs.tables.TableSteps.{names-before}
use Rattle.ps_names.proofs.table.Table.start_for.Goals as goal

pub returns : goal.returns
returns c =
    let low : folded c.args.name.now ≡ c.args.name.now = search rules in
    rw (← c.self.view_is) (names-before (folded c.args.name.now) c.self.inside.known
    (meanings_shown c.self.inside.meanings.items) c.place_or_len.result
    (λ k less. ap (λ (query : List ℕ). bytes_eq query (slice_index_or (keys c.self.inside.known) k [])) low
    ∙ c.place_or_len.ensures.before k less))
