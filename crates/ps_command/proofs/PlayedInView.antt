-- What a terminal has of a game that was played in a view to an end.
use Rattle.std.proofs.Common.{◌≡◌, ◌∙◌, ℕ, Bool, true, false, true≢false, List, [], refl, sym, ap, subst}
use Rattle.std.specs.Prelude.{◌||◌, Option, Some, None, Result, Ok, Err, IfErr, OnOk, is_none}
use Rattle.ps_model.specs.declared.play.Ending.{Ending}
use Rattle.ps_model.specs.game.Tellings.{ReaderState, WriterState}
use Rattle.std.specs.Borrow.{Bor}
use Rattle.ps_devices.specs.Devices.{Grows}
use Rattle.ps_view.specs.declared.sizes.Size.{Size}
use Rattle.ps_view.specs.Beginnings.{Beginning}
use Rattle.ps_view.specs.Pieces.{Piece, output_of}
use Rattle.ps_view.specs.Shown.{IsShown}
use Rattle.ps_view.specs.Takers.{taker_of}
use Rattle.ps_view.specs.Views.{view_of}
use Rattle.ps_command.specs.ProgramRuns.{PlaysIn}
use Rattle.ps_command.specs.Told.{EndsBy, EndsRightly, IsReadText, RunsToEndFrom}
use Rattle.ps_command.specs.Viewings.{BeginsWith, EndsOn, EndsInView}
use Rattle.ps_command.specs.declared.command.Play.{Play}
use Rattle.ps_command.specs.declared.stops.Stop.{Stop}

-- of two that are both false the first is
pub first_false : (a b : Bool) → (a || b) ≡ false → a ≡ false
first_false false b e = refl
first_false true b e = absurd (true≢false e)

-- from what a player leaves of the view
pub ends_on : (given level : Option ℕ) (text : List ℕ) (begun : Beginning) (taker : WriterState) (after : Option (List ℕ))
    (keys left : ReaderState) (ending : Ending) (pieces : List Piece) (lost other : Bool) (calls empty_calls : ℕ) →
    given ≡ level →
    RunsToEndFrom level text keys left taker (taker_of pieces (lost || other) calls empty_calls) ending →
    (lost || other) ≡ false → (lost ≡ false → IsShown begun pieces after) →
    (begun.keeps_size ≡ true → lost ≡ false →
    Grows begun.before after (view_of begun.game begun.size (output_of pieces))) →
    EndsOn given text begun taker after
ends_on given level text begun taker after keys left ending pieces lost other calls empty_calls is right well shown whole =
    let At : Option ℕ → Type 0 = λ l. EndsOn l text begun taker after in
    let Right : Bool → Type 0 = λ x. RunsToEndFrom level text keys left taker (taker_of pieces x calls empty_calls) ending in
    subst At (sym is) (record {
      pieces = pieces;
      calls = calls;
      empty_calls = empty_calls;
      ended = record { ending = ending; keys = keys; left = left; rightly = subst Right well right };
      shown = shown (first_false lost other well);
      whole = λ keeps. whole keeps (first_false lost other well);
    })

-- what goes for a call's answer goes for what is made of it, if that is the same where the call succeeds
pub drawn_ok : (X : Type 0) (wants : Bool) (outcome result : Result (Unit {0}) Stop) (stop : Stop) →
    (wants ≡ true → result ≡ Err stop) → (wants ≡ false → result ≡ outcome) → OnOk outcome X → OnOk result X
drawn_ok X true outcome result stop short same is =
    let On : Result (Unit {0}) Stop → Type 0 = λ r. OnOk r X in subst On (sym (short refl)) tt
drawn_ok X false outcome result stop short same is =
    let On : Result (Unit {0}) Stop → Type 0 = λ r. OnOk r X in subst On (sym (same refl)) is

-- where a call succeeds, what it ensures comes to something else
pub on_ok : {X Y : Type 0} (answer : Result (Unit {0}) Stop) → (X → Y) → OnOk answer X → OnOk answer Y
on_ok (Ok value) goes is = goes is
on_ok (Err stop) goes is = tt

-- a view that had taken nothing, and began with what is known of the game
pub in_view : (answer : Result (Unit {0}) Stop) (level : Option ℕ) (text : List ℕ) (size : Size) (keeps_size : Bool)
    (before after : Option (List ℕ)) (begun : Beginning) (pieces : List Piece) (calls empty_calls : ℕ) →
    BeginsWith text size keeps_size before begun → pieces ≡ [] → calls ≡ 0 → empty_calls ≡ 0 →
    OnOk answer (EndsOn level text begun (taker_of pieces false calls empty_calls) after) →
    OnOk answer (EndsInView level text size keeps_size before after)
in_view answer level text size keeps_size before after begun pieces calls empty_calls begins none new empty is =
    let Pieces : List Piece → Type 0 = λ taken. EndsOn level text begun (taker_of taken false calls empty_calls) after in
    let Calls : ℕ → Type 0 = λ n. EndsOn level text begun (taker_of [] false n empty_calls) after in
    let Empty : ℕ → Type 0 = λ n. EndsOn level text begun (taker_of [] false 0 n) after in
    on_ok answer (λ ended. record {
      begun = begun;
      is = begins;
      ended = subst Empty empty (subst Calls new (subst Pieces none ended));
    }) is

-- the game that is asked for was played on the screen as it is
pub plays_here : (answer : Result (Unit {0}) Stop) (play : Play) (text : List ℕ) (had begun left : ReaderState)
    (before after : WriterState) → play.size ≡ None → IsReadText play.game.now had begun text →
    OnOk answer (EndsBy play.keys play.level text begun left before after) →
    OnOk answer (PlaysIn play.size play had left before after)
plays_here answer play text had begun left before after is read ended =
    let In : Option Size → Type 0 = λ size. OnOk answer (PlaysIn size play had left before after) in
    subst In (sym is) (on_ok answer (λ e. record { text = text; begun = begun; read = read; ended = e }) ended)

-- or in a view
pub plays_in : (answer : Result (Unit {0}) Stop) (play : Play) (text : List ℕ) (size : Size)
    (had begun left : ReaderState) (before after : WriterState) → play.size ≡ Some size →
    IsReadText play.game.now had begun text →
    OnOk answer (EndsInView play.level text size (is_none play.sizes) before.contents after.contents) →
    OnOk answer (PlaysIn play.size play had left before after)
plays_in answer play text size had begun left before after is read ended =
    let In : Option Size → Type 0 = λ asked. OnOk answer (PlaysIn asked play had left before after) in
    subst In (sym is) (on_ok answer (λ e. record { text = text; begun = begun; read = read; ended = e }) ended)

-- a text's game was played with the keys of a reader, where no file is named
pub ends_by_reader : (answer : Result (Unit {0}) Stop) (file : Option (Bor (List ℕ))) (level : Option ℕ) (text : List ℕ)
    (keys left : ReaderState) (before after : WriterState) → file ≡ None →
    OnOk answer ((ending : Ending) × RunsToEndFrom level text keys left before after ending) →
    OnOk answer (EndsBy file level text keys left before after)
ends_by_reader answer file level text keys left before after none ended =
    let By : Option (Bor (List ℕ)) → Type 0 = λ f. OnOk answer (EndsBy f level text keys left before after) in
    subst By (sym none) ended

-- or with those of a file
pub ends_by_file : (answer : Result (Unit {0}) Stop) (file : Option (Bor (List ℕ))) (name : Bor (List ℕ))
    (level : Option ℕ) (text : List ℕ) (keys left own gone : ReaderState) (before after : WriterState) →
    file ≡ Some name →
    OnOk answer ((ending : Ending) × RunsToEndFrom level text own gone before after ending) →
    OnOk answer (EndsBy file level text keys left before after)
ends_by_file answer file name level text keys left own gone before after is ended =
    let By : Option (Bor (List ℕ)) → Type 0 = λ f. OnOk answer (EndsBy f level text keys left before after) in
    subst By (sym is) (on_ok answer (λ e. record { ending = e.0; keys = own; left = gone; rightly = e.1 }) ended)

-- what stops a call goes for what is made of its answer, as want of memory does
pub drawn_stopped : (X : Stop → Type 0) (wants : Bool) (outcome result : Result (Unit {0}) Stop) (why : Stop) →
    (wants ≡ true → result ≡ Err why) → (wants ≡ false → result ≡ outcome) → X why → IfErr outcome X → IfErr result X
drawn_stopped X true outcome result why short same at is =
    let If : Result (Unit {0}) Stop → Type 0 = λ r. IfErr r X in subst If (sym (short refl)) at
drawn_stopped X false outcome result why short same at is =
    let If : Result (Unit {0}) Stop → Type 0 = λ r. IfErr r X in subst If (sym (same refl)) is
