-- Which lists of rules have equal rounds: those that are alike rule by rule, and those made of such lists; those whose
-- rules face down or right; and those without a rule that does nothing.
use Rattle.std.proofs.Common.{◌≡◌, Bool, true, false, ◌||◌, List, [], ◌∷◌, ◌++◌, map, refl, sym, ◌∙◌, ap, subst}
use Rattle.std.specs.Prelude.{All}
use Rattle.std.specs.List.{AllZip, flat_map}
use Rattle.ps_model.specs.names.Names.{Names}
use Rattle.ps_model.specs.board.GameGrids.{IsGridOf}
use Rattle.ps_model.specs.meaning.RuleMeanings.{RuleMeaning}
use Rattle.ps_model.specs.board.Attempts.{State, Result, attempt}
use Rattle.ps_model.specs.board.Programs.{after_change, round}
use Rattle.ps_laws.specs.EqualMeanings.{EqualResults}
use Rattle.ps_model.specs.meaning.TurnedRound.{forwards}
use Rattle.ps_laws.specs.KeptGrids.{Keeps}
use Rattle.ps_laws.specs.IdleRules.{IsIdle}
use Rattle.ps_laws.specs.AlikeRounds.{Alike}
use Rattle.ps_laws.proofs.grids.KeptRuns.{round-kept}
use Rattle.ps_laws.proofs.alike.TurnedPrograms.{round-forwards}
use Rattle.ps_laws.proofs.alike.AlikePrograms.{after_change-same}

-- equal results, and one of them a grid of the game
same_grid : (names : Names) (a b : Result) → a ≡ b → IsGridOf names b.state.grid → IsGridOf names a.state.grid
same_grid names a b e h = subst (λ (result : Result). IsGridOf names result.state.grid) (sym e) h

-- a list that keeps the grids of the game
pub alike-kept : (names : Names) (rules : List RuleMeaning) → All (Keeps names) rules → Alike names rules rules
alike-kept names rules all state shape = record { equal = refl; grid = round-kept names rules state all shape }

-- the other way, and through another list
pub alike-back : (names : Names) (a b : List RuleMeaning) → Alike names a b → Alike names b a
alike-back names a b h state shape =
    let one : EqualResults names (round a state) (round b state) = h state shape in
    record { equal = sym one.equal; grid = same_grid names (round b state) (round a state) (sym one.equal) one.grid }

pub alike-through : (names : Names) (a b c : List RuleMeaning) → Alike names a b → Alike names b c → Alike names a c
alike-through names a b c h k state shape =
    let one : EqualResults names (round a state) (round b state) = h state shape in
    let other : EqualResults names (round b state) (round c state) = k state shape in
    record { equal = one.equal ∙ other.equal; grid = one.grid }

-- a change in the first, or in the others
pub change_grouped : (a b : Bool) (result : Result) →
    after_change a (after_change b result) ≡ after_change (a || b) result
change_grouped true b result = refl
change_grouped false b result = refl

-- the round of a list after another
pub round-append : (front behind : List RuleMeaning) (state : State) →
    round (front ++ behind) state ≡ after_change (round front state).changed (round behind (round front state).state)
round-append [] behind state = refl
round-append (rule ∷ front) behind state =
    let first : Result = attempt rule state in
    let rest : Result = round front first.state in
    ap (after_change first.changed) (round-append front behind first.state)
    ∙ change_grouped first.changed rest.changed (round behind rest.state)

pub alike-append : (names : Names) (a b c d : List RuleMeaning) → Alike names a b → Alike names c d →
    Alike names (a ++ c) (b ++ d)
alike-append names a b c d h k state shape =
    let one : EqualResults names (round a state) (round b state) = h state shape in
    let both = after_change-same names (round a state) (round b state) one (round c) (round d)
    (k (round a state).state one.grid) in
    record {
      equal = round-append a c state ∙ both.equal ∙ sym (round-append b d state);
      grid = same_grid names (round (a ++ c) state)
          (after_change (round a state).changed (round c (round a state).state)) (round-append a c state) both.grid;
    }

pub alike-joined : (names : Names) (a b : List (List RuleMeaning)) → AllZip (Alike names) a b →
    Alike names (flat_map (λ rules. rules) a) (flat_map (λ rules. rules) b)
alike-joined names [] [] h state shape = record { equal = refl; grid = shape }
alike-joined names [] (y ∷ ys) h state shape = absurd h
alike-joined names (x ∷ xs) [] h state shape = absurd h
alike-joined names (x ∷ xs) (y ∷ ys) h state shape =
    alike-append names x y (flat_map (λ rules. rules) xs) (flat_map (λ rules. rules) ys) h.0
    (alike-joined names xs ys h.1) state shape

-- rules that face down or right
pub alike-forwards : (names : Names) (a b : List RuleMeaning) → Alike names a b → Alike names (map forwards a) b
alike-forwards names a b h state shape =
    let one : EqualResults names (round a state) (round b state) = h state shape in
    record {
      equal = round-forwards a state ∙ one.equal;
      grid =
          same_grid names (round (map forwards a) state) (round a state) (round-forwards a state) one.grid;
    }

-- a rule that does nothing
pub alike-idle : (names : Names) (rule : RuleMeaning) (a b : List RuleMeaning) → IsIdle names rule → Alike names a b →
    Alike names (rule ∷ a) b
alike-idle names rule a b idle h state shape =
    let one : EqualResults names (round a state) (round b state) = h state shape in
    let none : round (rule ∷ a) state ≡ round a state =
    ap (λ (first : Result). after_change first.changed (round a first.state)) (idle state shape) in
    record { equal = none ∙ one.equal; grid = same_grid names (round (rule ∷ a) state) (round a state) none one.grid }
