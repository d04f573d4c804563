use Rattle.std.proofs.Common.{◌≡◌, ◌∙◌, None, suc, sym, ap, get_or, List}
use Rattle.ps_model.specs.names.Meanings.{LegendName, OfLine, meaning_behind}
use Rattle.ps_names.specs.Known.{mention_shown}
use Rattle.ps_names.specs.LegendNames.{legend_shown}
use Rattle.ps_names.specs.MeaningSteps.{behind_synonym}
use Rattle.ps_names.proofs.standing.MeaningLaws.{no-synonym}
use Rattle.ps_names.proofs.meanings.meaning_of_mention.Goals as goal

pub returns : goal.returns
returns c = λ most.
    let legend : List LegendName = legend_shown c.args.legend.now in
    let none : behind_synonym legend (OfLine c.in-Line.place) ≡ None = (rw c.in-Line.is at c.requires.none) in
    c.in_ok-meaning.ensures ∙ c.meaning_at.ensures ∙ ap (λ xs. get_or xs c.in-Line.place None) c.requires.joined
    ∙ no-synonym legend most c.in-Line.place none
    ∙ ap (λ m. meaning_behind legend (suc most) (mention_shown m)) (sym c.in-Line.is)
