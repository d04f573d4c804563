-- While the game goes on a run has something left to write: the text of a key that ends it, or that the keys have
-- ended.
use Rattle.std.proofs.Common.{◌≡◌, ℕ, ◌≤◌, Option, Some, None, List, [], ◌∷◌, ◌++◌, length, take, drop, refl, sym, ◌∙◌}
use Rattle.std.proofs.Common.{ap, arith, append_assoc}
use Rattle.std.proofs.lemmas.List.{length-append, take-append-drop}
use Rattle.ps_model.specs.declared.play.Ending.{Ending}
use Rattle.ps_model.specs.declared.play.Ending.TheVariants.{EndOfKeys}
use Rattle.ps_model.specs.declared.play.Key.{Key}
use Rattle.ps_model.specs.session.Keys.{keys_of}
use Rattle.ps_model.specs.session.HeldKeys.{held}
use Rattle.ps_model.specs.board.Turns.{Script}
use Rattle.ps_model.specs.session.Sessions.{Session, Step}
use Rattle.ps_model.specs.session.KeySteps.{key_step}
use Rattle.ps_model.specs.game.Outputs.{output, output_of_keys, opening_step, ending_of, texts_of_keys, front}
use Rattle.ps_model.specs.game.Headline.{IsCutOff, ending_behind}
use Rattle.ps_laws.proofs.keys.Endings.{IsOwn, of_enter, of_key_step}
use Rattle.ps_laws.proofs.keys.KeysInPieces.{keys_of-append}
use Rattle.ps_laws.proofs.runs.SaidEndings.{IsSaid, of_key_step as said_by_key}

-- keys in a session that goes on --------------------------------------------------------------------------------------

behind_key : (script : Script) (step : Step) (keys : List Key) (found : Option Ending) →
    ending_of step.session ≡ found → IsSaid step →
    ((own : Step) → own ≡ step → found ≡ None → 1 ≤ length (output_of_keys script step.session None keys).written) →
    1 ≤ length (step.text ++ (output_of_keys script step.session found keys).written)
behind_key script step keys None e said more =
    let some = more step refl refl in
    let sum = length-append step.text (output_of_keys script step.session None keys).written in omega (arith, some, sum)
behind_key script step keys (Some ending) e said more =
    let some = said ending e in
    let sum = length-append step.text [] in omega (arith, some, sum)

some_written : (script : Script) (session : Session) (keys : List Key) → ending_of session ≡ None →
    1 ≤ length (output_of_keys script session None keys).written
some_written script session [] e = omega arith
some_written script session (key ∷ keys) e =
    let step : Step = key_step script session key in
    behind_key script step keys (ending_of step.session) refl (said_by_key script session key e) (λ own same none.
    some_written script step.session keys none)

goes_on_writing : (script : Script) (session : Session) (found : Option Ending) (first second : List Key) →
    ending_of session ≡ found → IsOwn session →
    (output_of_keys script session found first).ending ≡ EndOfKeys →
    IsCutOff (texts_of_keys script session first) (output_of_keys script session found (first ++ second)).written
goes_on_writing script session (Some ending) first second e own ends = absurd (own (e ∙ ap Some ends))
goes_on_writing script session None [] second e own ends =
    record {
      rest = (output_of_keys script session None second).written;
      some =
          some_written script session second e;
      is = refl;
    }
goes_on_writing script session None (key ∷ first) second e own ends =
    let step : Step = key_step script session key in
    let cut = goes_on_writing script step.session (ending_of step.session) first second refl
    (of_key_step script session key own) ends in
    record {
      rest = cut.rest;
      some = cut.some;
      is = ap (λ (l : List ℕ). step.text ++ l) cut.is
          ∙ sym (append_assoc step.text (texts_of_keys script step.session first) cut.rest);
    }

-- runs ----------------------------------------------------------------------------------------------------------------

behind_start : (script : Script) (start : Step) (first second : List Key) → IsOwn start.session →
    (output_of_keys script start.session (ending_of start.session) first).ending ≡ EndOfKeys →
    IsCutOff (start.text ++ texts_of_keys script start.session first)
    (start.text ++ (output_of_keys script start.session (ending_of start.session) (first ++ second)).written)
behind_start script start first second own ends =
    let cut = goes_on_writing script start.session (ending_of start.session) first second refl own ends in
    record {
      rest = cut.rest;
      some = cut.some;
      is = ap (λ (l : List ℕ). start.text ++ l) cut.is
          ∙ sym (append_assoc start.text (texts_of_keys script start.session first) cut.rest);
    }

own_start : (script : Script) → IsOwn (opening_step script).session
unfolding opening_step
own_start script = of_enter script script.first_entry

-- the keys of some bytes and more are the first `count` of them, and others
keys_parted : (bytes more : List ℕ) (count : ℕ) →
    keys_of (bytes ++ more) ≡ take count (keys_of bytes) ++ (drop count (keys_of bytes) ++ keys_of (held bytes ++ more))
keys_parted bytes more count =
    keys_of-append bytes more
    ∙ ap (λ (l : List Key). l ++ keys_of (held bytes ++ more)) (sym (take-append-drop count (keys_of bytes)))
    ∙ append_assoc (take count (keys_of bytes)) (drop count (keys_of bytes)) (keys_of (held bytes ++ more))

cut_off_by : (script : Script) (start : Step) (text : List ℕ) (keys all : List Key) → keys ≡ all →
    IsCutOff text (start.text ++ (output_of_keys script start.session (ending_of start.session) keys).written) →
    IsCutOff text (start.text ++ (output_of_keys script start.session (ending_of start.session) all).written)
cut_off_by script start text keys all e cut = rw e at cut

-- if the game goes on after some keys, the front of them isn't yet the output
pub left_to_write : (script : Script) (bytes more : List ℕ) (count : ℕ) →
    ending_behind script bytes count ≡ EndOfKeys →
    IsCutOff (front script bytes count) (output script (bytes ++ more)).written
left_to_write script bytes more count ends =
    cut_off_by script (opening_step script) (front script bytes count) _ _ (sym (keys_parted bytes more count))
    (behind_start script (opening_step script) (take count (keys_of bytes))
    (drop count (keys_of bytes) ++ keys_of (held bytes ++ more)) (own_start script) ends)

some_opening : (script : Script) → 1 ≤ length (opening_step script).text
unfolding opening_step
some_opening script = omega arith

-- every output has the title at least
pub some_output : (script : Script) (bytes : List ℕ) → 1 ≤ length (output script bytes).written
some_output script bytes =
    let start : Step = opening_step script in
    let some = some_opening script in
    let sum = length-append start.text (output_of_keys script start.session (ending_of start.session)
    (keys_of bytes)).written in omega (arith, some, sum)
