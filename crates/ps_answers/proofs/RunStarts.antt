-- Where runs of a text's game can begin.
use Rattle.std.proofs.Common.{◌≡◌, ℕ, List, Option, Some, None}
use Rattle.ps_answers.specs.SolvedAfterKeys.{HasStart}
use Rattle.ps_answers.specs.SolvedTexts.{HasLevelOf}

-- at its start
pub begins_at_start : (text : List ℕ) (start : Option ℕ) → start ≡ None → HasStart text start
begins_at_start text start is = rw is tt

-- and at each level that it has
pub begins_at_level : (text : List ℕ) (start : Option ℕ) (level : ℕ) → start ≡ Some level → HasLevelOf text level →
    HasStart text start
begins_at_level text start level is has = rw is has
