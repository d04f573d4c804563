-- A key that is played to its end, where it may lead to a level for other boards.
use Rattle.std.proofs.Common.{◌≡◌, ◌∙◌, ℕ, ◌++◌, List, refl, sym, ap, subst, Ok, Err, Result}
use Rattle.std.specs.Prelude.{OnErr, OnOk, false}
use Rattle.std.specs.Result.{IsErr}
use Rattle.ps_model.specs.declared.play.Key.{Key}
use Rattle.ps_model.specs.board.Turns.{Script}
use Rattle.ps_model.specs.session.IgnoredKeys.{is_ignored}
use Rattle.ps_model.specs.session.KeySteps.{key_step}
use Rattle.ps_model.specs.session.StartSteps.{enter}
use Rattle.ps_program.specs.declared.program.CompiledSection.{CompiledSection}
use Rattle.ps_stage.specs.Standings.{SessionParts}
use Rattle.ps_stage.specs.declared.stops.Stop.{Stop}
use Rattle.ps_stage.specs.declared.stops.Stop.TheVariants.{Elsewhere}
use Rattle.ps_run.specs.GamesInPlay.{GameInPlay, HasBegun, IsKeyed, IsTurned, script_in, script_on}

-- it led nowhere else
pub turned_here : {A B E : Type 0} (old new : GameInPlay) (key : Key) (before now : List ℕ) (value : A) (other : B) →
    IsKeyed old new key before now (Ok value) →
    IsTurned {A = B} {E = E} old new key before now (Ok other)
turned_here old new key before now value other keyed =
    record { script = keyed.script; session = keyed.session; text = keyed.text; heeded = tt }

-- memory was wanting
pub turned_not : {A B E : Type 0} (old new : GameInPlay) (key : Key) (before now later : List ℕ) (stop : Stop)
    (fault : E) → IsKeyed {A = A} old new key before now (Err stop) →
    IsTurned {A = B} {E = E} old new key before later (Err fault)
turned_not old new key before now later stop fault keyed =
    record { script = keyed.script; session = tt; text = tt; heeded = keyed.heeded }

-- it led to an entry that begins there
pub turned_there : {A B E : Type 0} (old left new : GameInPlay) (key : Key) (before now later : List ℕ) (entry : ℕ)
    (other : B) (script : Script) →
    script ≡ script_in old → IsKeyed {A = A} old left key before now (Err (Elsewhere entry)) →
    HasBegun script entry new now later →
    IsTurned {A = B} {E = E} old new key before later (Ok other)
turned_there old left new key before now later entry other script same keyed begun = record {
  script = begun.plays ∙ same;
  session = begun.session ∙ ap (λ (s : Script). (enter s entry).session) same ∙ sym keyed.left.session;
  text = begun.text ∙ ap (λ (s : Script). now ++ (enter s entry).text) same ∙ sym keyed.left.text;
  heeded = tt;
}

-- what is so of a game in play is so of the same game, played by sections that make the same script
pub turned_in : {A E : Type 0} (game : SessionParts) (plain late : List CompiledSection) (old new : GameInPlay)
    (key : Key) (before now : List ℕ) (result : Result A E) →
    script_in old ≡ script_on game plain late → IsTurned old new key before now result →
    IsTurned (record { game = game; plain = plain; late = late; session = old.session })
    (record { game = game; plain = plain; late = late; session = new.session }) key before now result
turned_in game plain late old new key before now result own turned = record {
  script = refl;
  session = subst (λ (script : Script). OnOk result (new.session ≡ (key_step script old.session key).session)) own
      turned.session;
  text = subst (λ (script : Script). OnOk result (now ≡ before ++ (key_step script old.session key).text)) own
      turned.text;
  heeded = subst (λ (script : Script). OnErr result (is_ignored script.options old.session key ≡ false)) own
      turned.heeded;
}

-- the same game, seen through what it is made of
pub turned_as : {A E : Type 0} (lent own new : GameInPlay) (key : Key) (before now : List ℕ) (result : Result A E) →
    lent ≡ own → IsTurned lent new key before now result →
    IsTurned own new key before now result
turned_as lent own new key before now result same turned =
    subst (λ (old : GameInPlay). IsTurned old new key before now result) same turned

-- memory was wanting behind a key that led elsewhere
pub turned_failed : {A B E : Type 0} (old new : GameInPlay) (key : Key) (before now later : List ℕ) (stop : Stop)
    (result : Result B E) → IsErr result →
    IsKeyed {A = A} old new key before now (Err stop) → IsTurned old new key before later result
turned_failed old new key before now later stop (Ok value) failed keyed = absurd (cc failed)
turned_failed old new key before now later stop (Err fault) failed keyed =
    turned_not old new key before now later stop fault keyed
