-- Fronts of outputs.
use Rattle.std.proofs.Common.{◌≡◌, ℕ, ◌+◌, ◌-◌, ◌≤◌, Option, Some, None, List, [], ◌∷◌, ◌++◌, length, take, drop}
use Rattle.std.proofs.Common.{take-add, refl, sym, ◌∙◌, ap, arith, append_assoc}
use Rattle.std.proofs.lemmas.List.{append-nil, take-append-drop}
use Rattle.std.proofs.lemmas.Grind.{common_steps}
use Rattle.ps_model.specs.declared.play.Ending.{Ending}
use Rattle.ps_model.specs.declared.play.Ending.TheVariants.{EndOfKeys}
use Rattle.ps_model.specs.declared.play.Key.{Key}
use Rattle.ps_model.specs.session.Keys.{keys_of}
use Rattle.ps_model.specs.session.HeldKeys.{held}
use Rattle.ps_model.specs.board.Turns.{Script}
use Rattle.ps_model.specs.session.Sessions.{Session, Playing, Waiting, AtMessage, Ended, Step}
use Rattle.ps_model.specs.session.KeySteps.{key_step}
use Rattle.ps_model.specs.game.Outputs.{Output, after_text, output, output_of_keys, opening_step, ending_of}
use Rattle.ps_model.specs.game.Outputs.{end_of_keys_line, texts_of_keys, front}
use Rattle.ps_laws.specs.Fronts.{session_after, session_of, whole_front, FrontGrows, OutputOfEnded, OutputOfUnended}
use Rattle.ps_laws.specs.Fronts.{FrontOfOutput, EndStays, FrontInPieces, FrontOfMore, OutputOnceEnded}
use Rattle.ps_laws.proofs.keys.KeysInPieces.{keys_of-append}

-- keys in a row -------------------------------------------------------------------------------------------------------

-- the session after more keys, and their texts
pub session_after-append : (script : Script) (session : Session) (first second : List Key) →
    session_after script session (first ++ second) ≡ session_after script (session_after script session first) second
session_after-append script session [] second = refl
session_after-append script session (key ∷ keys) second =
    session_after-append script (key_step script session key).session keys second

pub texts_of_keys-append : (script : Script) (session : Session) (first second : List Key) →
    texts_of_keys script session (first ++ second) ≡ texts_of_keys script session first ++ texts_of_keys script
    (session_after script session first) second
texts_of_keys-append script session [] second = refl
texts_of_keys-append script session (key ∷ keys) second =
    ap (λ l. (key_step script session key).text ++ l)
    (texts_of_keys-append script (key_step script session key).session keys second)
    ∙ sym (append_assoc (key_step script session key).text
    (texts_of_keys script (key_step script session key).session keys)
    (texts_of_keys script (session_after script (key_step script session key).session keys) second))

-- keys after the end
pub end_stays : EndStays
end_stays script ending [] = (refl, refl)
end_stays script ending (key ∷ keys) = end_stays script ending keys

-- outputs -------------------------------------------------------------------------------------------------------------

-- an ended session is the end
ended : (session : Session) (ending : Ending) → ending_of session ≡ Some ending → session ≡ Ended ending
ended (Playing play) ending e = absurd (cc)
ended (Waiting play pending) ending e = absurd (cc)
ended (AtMessage entry) ending e = absurd (cc)
ended (Ended own) ending e = let same : own ≡ ending = cc in ap Ended same

-- what a run writes after its keys: nothing where it has ended, and else the line that says so
abbrev pub closing : Option Ending → Output
closing None = record { written = end_of_keys_line; ending = EndOfKeys }
closing (Some ending) = record { written = []; ending = ending }

-- what keys bring in a session: their texts, and what comes after them
of_keys : (script : Script) (session : Session) (found : Option Ending) (keys : List Key) → ending_of session ≡ found →
    output_of_keys script session found keys ≡ after_text (texts_of_keys script session keys)
    (closing (ending_of (session_after script session keys)))
of_keys script session (Some ending) keys e =
    let is_end : session ≡ Ended ending = ended session ending e in
    let stays = end_stays script ending keys in
    sym (ap (λ (s : Session). after_text (texts_of_keys script s keys)
    (closing (ending_of (session_after script s keys)))) is_end
    ∙ ap (λ (l : List ℕ). after_text l (closing (ending_of (session_after script (Ended ending) keys)))) stays.1
    ∙ ap (λ (s : Session). after_text [] (closing (ending_of s))) stays.0)
of_keys script session None [] e = sym (ap closing e)
of_keys script session None (key ∷ keys) e =
    let step : Step = key_step script session key in
    ap (after_text step.text) (of_keys script step.session (ending_of step.session) keys refl)
    ∙ ap (λ (l : List ℕ). let told : Output = record {
      written = l;
      ending =
          (closing (ending_of (session_after script step.session keys))).ending;
    } in told)
    (sym (append_assoc step.text (texts_of_keys script step.session keys)
    (closing (ending_of (session_after script step.session keys))).written))

take_all : {A : Type 0} (items : List A) → take (length items) items ≡ items
take_all items = grind (arith, common_steps)

-- after a start
from_start : (script : Script) (start : Step) (keys : List Key) →
    after_text start.text (output_of_keys script start.session (ending_of start.session) keys)
    ≡ after_text (start.text ++ texts_of_keys script start.session (take (length keys) keys))
    (closing (ending_of (session_after script start.session keys)))
from_start script start keys =
    ap (after_text start.text) (of_keys script start.session (ending_of start.session) keys refl)
    ∙ ap (λ (l : List ℕ). let told : Output = record {
      written = l;
      ending =
          (closing (ending_of (session_after script start.session keys))).ending;
    } in told)
    (sym (append_assoc start.text (texts_of_keys script start.session keys)
    (closing (ending_of (session_after script start.session keys))).written))
    ∙ ap (λ (l : List Key). after_text (start.text ++ texts_of_keys script start.session l)
    (closing (ending_of (session_after script start.session keys)))) (sym (take_all keys))

-- the output is the front of all keys, and what comes after it
pub output-is : (script : Script) (bytes : List ℕ) →
    output script bytes ≡ after_text (whole_front script bytes) (closing (ending_of (session_of script bytes)))
unfolding whole_front
output-is script bytes = from_start script (opening_step script) (keys_of bytes)

pub output_of_ended : OutputOfEnded
output_of_ended script bytes ending e =
    output-is script bytes
    ∙ ap (λ (found : Option Ending). after_text (whole_front script bytes) (closing found)) e
    ∙ ap (λ (l : List ℕ). let told : Output = record { written = l; ending = ending } in
    told) (append-nil (whole_front script bytes))

pub output_of_unended : OutputOfUnended
output_of_unended script bytes e = output-is script bytes
    ∙ ap (λ (found : Option Ending). after_text (whole_front script bytes) (closing found)) e

-- fronts --------------------------------------------------------------------------------------------------------------

-- the texts of some keys, and of those after them
pub front_then : (script : Script) (start : Step) (first second : List Key) →
    start.text ++ texts_of_keys script start.session (first ++ second)
    ≡ (start.text ++ texts_of_keys script start.session first) ++ texts_of_keys script
    (session_after script start.session first) second
front_then script start first second =
    ap (λ l. start.text ++ l) (texts_of_keys-append script start.session first second)
    ∙ sym (append_assoc start.text (texts_of_keys script start.session first)
    (texts_of_keys script (session_after script start.session first) second))

-- the first keys of many are those of few, and some more
take_more : {A : Type 0} (few many : ℕ) (items : List A) → few ≤ many →
    take many items ≡ take few items ++ take (many - few) (drop few items)
take_more few many items h = let sum : many ≡ few + (many - few) = omega (arith, h) in ap (λ (n : ℕ). take n items) sum
    ∙ take-add few (many - few) items

pub front_grows : FrontGrows
front_grows script bytes few many h = (
  texts_of_keys script (session_after script (opening_step script).session (take few (keys_of bytes)))
      (take (many - few) (drop few (keys_of bytes))),
  ap (λ (l : List Key). (opening_step script).text ++ texts_of_keys script (opening_step script).session l)
      (take_more few many (keys_of bytes) h)
      ∙ front_then script (opening_step script) (take few (keys_of bytes))
      (take (many - few) (drop few (keys_of bytes))),
)

-- the front of all keys, without a count
pub whole_front-is : (script : Script) (bytes : List ℕ) →
    whole_front script bytes ≡ (opening_step script).text ++ texts_of_keys script (opening_step script).session
    (keys_of bytes)
unfolding whole_front
whole_front-is script bytes = ap (λ (l : List Key).
    (opening_step script).text ++ texts_of_keys script (opening_step script).session l) (take_all (keys_of bytes))

pub front_of_output : FrontOfOutput
front_of_output script bytes count =
    let texts : List ℕ = texts_of_keys script (session_after script (opening_step script).session
    (take count (keys_of bytes))) (drop count (keys_of bytes)) in
    let close : List ℕ = (closing (ending_of (session_of script bytes))).written in (
      texts ++ close,
      ap (λ (told : Output). told.written) (output-is script bytes)
          ∙ ap (λ (l : List ℕ). l ++ close) (whole_front-is script bytes
          ∙ ap (λ (l : List Key). (opening_step script).text ++ texts_of_keys script (opening_step script).session l)
          (sym (take-append-drop count (keys_of bytes)))
          ∙ front_then script (opening_step script) (take count (keys_of bytes)) (drop count (keys_of bytes)))
          ∙ append_assoc (front script bytes count) texts close,
    )

-- pieces --------------------------------------------------------------------------------------------------------------

pub front_in_pieces : FrontInPieces
front_in_pieces script first second = (
  whole_front-is script (first ++ second)
      ∙ ap (λ (l : List Key). (opening_step script).text ++ texts_of_keys script (opening_step script).session l)
      (keys_of-append first second)
      ∙ front_then script (opening_step script) (keys_of first) (keys_of (held first ++ second))
      ∙ ap (λ (l : List ℕ). l ++ texts_of_keys script (session_of script first) (keys_of (held first ++ second)))
      (sym (whole_front-is script first)),
  ap (session_after script (opening_step script).session) (keys_of-append first second)
      ∙ session_after-append script (opening_step script).session (keys_of first) (keys_of (held first ++ second)),
)

pub front_of_more : FrontOfMore
front_of_more script first second =
    let texts : List ℕ = texts_of_keys script (session_of script first) (keys_of (held first ++ second)) in
    let close : List ℕ = (closing (ending_of (session_of script (first ++ second)))).written in (
      texts ++ close,
      ap (λ (told : Output). told.written) (output-is script (first ++ second))
          ∙ ap (λ (l : List ℕ). l ++ close) (front_in_pieces script first second).0
          ∙ append_assoc (whole_front script first) texts close,
    )

pub output_once_ended : OutputOnceEnded
output_once_ended script first second ending e =
    let keys : List Key = keys_of (held first ++ second) in
    let is_end : session_of script first ≡ Ended ending = ended (session_of script first) ending e in
    let pieces = front_in_pieces script first second in
    let stays = end_stays script ending keys in
    let behind : session_of script (first ++ second) ≡ Ended ending = pieces.1
    ∙ ap (λ (s : Session). session_after script s keys) is_end ∙ stays.0 in
    let text : whole_front script (first ++ second) ≡ whole_front script first =
    pieces.0 ∙ ap (λ (s : Session). whole_front script first ++ texts_of_keys script s keys) is_end
    ∙ ap (λ (l : List ℕ). whole_front script first ++ l) stays.1 ∙ append-nil (whole_front script first) in
    output_of_ended script (first ++ second) ending (ap ending_of behind)
    ∙ ap (λ (l : List ℕ). let told : Output = record { written = l; ending = ending } in told) text
