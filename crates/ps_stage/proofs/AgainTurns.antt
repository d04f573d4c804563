-- Again turns, one after the other.
use Rattle.std.proofs.Common.{◌≡◌, ◌∙◌, ℕ, suc, List, sym, ap}
use Rattle.std.specs.Prelude.{Option}
use Rattle.ps_model.specs.declared.limits.TheConstants.{AGAIN_LIMIT}
use Rattle.ps_model.specs.board.Programs.{Section}
use Rattle.ps_model.specs.board.Turns.{Script}
use Rattle.ps_model.specs.session.Sessions.{Play, Step, after}
use Rattle.ps_model.specs.session.StartSteps.{start_turns, all_start_turns}
use Rattle.ps_model.specs.session.KeySteps.{key_turns, all_key_turns}
use Rattle.ps_laws.proofs.sessions.SessionSteps.{key_turns-limited, start_turns-limited}
use Rattle.ps_stage.specs.Standings.{SessionParts, script_for}
use Rattle.ps_stage.proofs.Scripts.{same_script}

joined : (turns : Script → ℕ → Play → Step) (script other : Script) (start text : List ℕ) (most left next : ℕ)
    (play level : Play) (step : Script → (Play → Step) → Step) →
    other ≡ script → left ≡ suc next →
    after start (turns script most play) ≡ after text (turns script left level) →
    after text (turns other (suc next) level) ≡ step other (turns other next) →
    after start (turns script most play) ≡ step script (turns script next)
joined turns script other start text most left next play level step same count rest one =
    rest
    ∙ ap (λ (n : ℕ). after text (turns script n level)) count
    ∙ ap (λ (s : Script). after text (turns s (suc next) level)) (sym same)
    ∙ one
    ∙ ap (λ (s : Script). step s (turns s next)) same

-- one more again turn, where turns are those of a start or those of a key
pub one_more : (turns : Script → ℕ → Play → Step) (table_for : List ℕ →
    Option (List ℕ)) (first parts : SessionParts) (plain late those others : Option (List ℕ) → List Section)
    (start text : List ℕ) (most left next : ℕ) (play level : Play) (step : Script → (Play → Step) → Step) →
    parts ≡ first → those ≡ plain → others ≡ late → left ≡ suc next →
    after start (turns (script_for table_for first plain late) most play) ≡ after text
    (turns (script_for table_for first plain late) left level) →
    after text (turns (script_for table_for parts those others) (suc next) level) ≡ step
    (script_for table_for parts those others) (turns (script_for table_for parts those others) next) →
    after start (turns (script_for table_for first plain late) most play) ≡ step
    (script_for table_for first plain late) (turns (script_for table_for first plain late) next)
one_more turns table_for first parts plain late those others start text most left next play level step a b c count rest
    one =
    joined turns (script_for table_for first plain late) (script_for table_for parts those others) start text most left
    next play level step
    (same_script table_for first parts plain late those others a b c) count rest one

-- as many as there may be
pub all_starts : (script : Script) (play : Play) (most : ℕ) → most ≡ AGAIN_LIMIT →
    all_start_turns script play ≡ start_turns script most play
all_starts script play most e = start_turns-limited script play ∙ ap (λ (n : ℕ). start_turns script n play) (sym e)

pub all_keys : (script : Script) (play : Play) (most : ℕ) → most ≡ AGAIN_LIMIT →
    all_key_turns script play ≡ key_turns script most play
all_keys script play most e = key_turns-limited script play ∙ ap (λ (n : ℕ). key_turns script n play) (sym e)
