-- The objects that may come to be in a game, as its parts are read.
use Rattle.std.proofs.Common.{◌≡◌, ◌∙◌, ◌++◌, ℕ, List, [], ap, ap₂, false, replicate}
use Rattle.ps_model.specs.names.Names.{Meaning, Names, object_count}
use Rattle.ps_model.specs.rules.SourceRules.{RuleLine}
use Rattle.ps_model.specs.session.LevelLines.{Entry}
use Rattle.ps_model.specs.game.Games.{Game}
use Rattle.ps_warnings.specs.Brought.{brought_by_rules, objects_there}
use Rattle.ps_warnings.specs.Marks.{marked}
use Rattle.ps_warnings.specs.ObjectWarnings.{used_objects}

pub there_are : (read : Game) (names : Names) (rules : List RuleLine) (entries : List Entry) (count : ℕ)
    (brought made none : List Meaning) → names ≡ read.names → rules ≡ read.rules → entries ≡ read.entries →
    count ≡ object_count names → none ≡ [] → made ≡ none ++ brought_by_rules rules → brought ≡ made →
    marked (replicate count false) (used_objects brought entries)
    ≡ objects_there read.names read.rules read.entries
there_are read names rules entries count brought made none n r e c z m b =
    let all : brought ≡ brought_by_rules read.rules =
    b ∙ m ∙ ap (λ (first : List Meaning). first ++ brought_by_rules rules) z ∙ ap brought_by_rules r in
    let many : count ≡ object_count read.names = c ∙ ap object_count n in
    ap₂ (λ (k : ℕ) (numbers : List ℕ). marked (replicate k false) numbers) many (ap₂ used_objects all e)
