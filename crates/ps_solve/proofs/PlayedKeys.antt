-- Scripts with the same runs come to the same sessions by keys and then inputs.
use Rattle.std.proofs.Common.{◌≡◌, ◌∙◌, ℕ, ◌+◌, ◌<◌, List, [], ◌∷◌, ◌++◌, drop, get_or, length, map, refl, sym, ap}
use Rattle.std.proofs.lemmas.List.{at_drop_more}
use Rattle.ps_model.specs.declared.play.Input.{Input}
use Rattle.ps_model.specs.declared.play.Key.{Key}
use Rattle.ps_model.specs.declared.play.Key.TheVariants.{Move}
use Rattle.ps_model.specs.board.Turns.{Script}
use Rattle.ps_model.specs.game.Outputs.{opening_step}
use Rattle.ps_model.specs.session.KeySteps.{key_step}
use Rattle.ps_model.specs.session.Sessions.{Session}
use Rattle.ps_model.specs.session.Solving.{session_after_inputs}
use Rattle.ps_laws.specs.AlikeScripts.{SameRuns}
use Rattle.ps_laws.specs.Fronts.{session_after}
use Rattle.ps_laws.proofs.keys.Fronts.{session_after-append}
use Rattle.ps_run.proofs.PlayedKeys.{played, same_played}

-- one key more is played of those that are left
pub one_more_key :
    (script own : Script) (session next target : Session) (keys : List Key) (at : ℕ) (d : Key) → at < length keys →
    own ≡ script → next ≡ (key_step own session (get_or keys at d)).session →
    session_after script session (drop at keys) ≡ target → session_after script next (drop (at + 1) keys) ≡ target
one_more_key script own session next target keys at d within same stepped before =
    ap (λ (s : Session). session_after script s (drop (at + 1) keys))
    (stepped ∙ ap (λ (s : Script). (key_step s session (get_or keys at d)).session) same)
    ∙ sym (at_drop_more (session_after script session) keys at d within)
    ∙ before

-- inputs are keys
inputs_are : (script : Script) (session : Session) (inputs : List Input) →
    session_after_inputs script session inputs ≡ session_after script session (map Move inputs)
inputs_are script session [] = refl
inputs_are script session (input ∷ inputs) = inputs_are script (key_step script session (Move input)).session inputs

module _ (a b : Script) (runs : SameRuns a b) where
  pub same_inputs : (keys : List Key) (inputs : List Input) →
      session_after_inputs a (played a keys) inputs ≡ session_after_inputs b (played b keys) inputs
  same_inputs keys inputs =
      inputs_are a (played a keys) inputs
      ∙ sym (session_after-append a (opening_step a).session keys (map Move inputs))
      ∙ same_played a b runs (keys ++ map Move inputs)
      ∙ session_after-append b (opening_step b).session keys (map Move inputs)
      ∙ sym (inputs_are b (played b keys) inputs)
