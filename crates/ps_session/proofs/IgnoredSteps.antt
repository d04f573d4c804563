-- Keys that are ignored.
use Rattle.std.proofs.Common.{◌≡◌, ℕ, Bool, true, false, None, sym, refl}
use Rattle.std.proofs.lemmas.Bool.{true≢false}
use Rattle.ps_model.specs.declared.play.Input.TheVariants.{Up, Down, Left, Right, Action}
use Rattle.ps_model.specs.declared.play.Key.{Key}
use Rattle.ps_model.specs.declared.play.Key.TheVariants.{Move, Undo, Restart, Quit}
use Rattle.ps_model.specs.board.Turns.{Script}
use Rattle.ps_model.specs.session.Sessions.{Play, Pending, Playing, Waiting, AtMessage, Ended, Step, quietly}
use Rattle.ps_model.specs.session.Sessions.{with_board_in_history}
use Rattle.ps_model.specs.session.StartSteps.{restarted}
use Rattle.ps_model.specs.session.KeySteps.{input_taken, key_at_entry, key_at_level_message, key_in_level, undone}
use Rattle.ps_model.specs.session.KeySteps.{unless_ignored}
use Rattle.ps_model.specs.session.IgnoredKeys.{is_ignored_at_message, is_ignored_in_level}
use Rattle.ps_session.specs.IgnoredKeys.{IgnoredKeysDoNothing}

dropped : (ignored : Bool) (play : Play) (key : Play → Step) → ignored ≡ true →
    unless_ignored ignored play key ≡ quietly (Playing play)
dropped true play key e = refl
dropped false play key e = absurd (true≢false (sym e))

pub in_level : (script : Script) (play : Play) (key : Key) → is_ignored_in_level script.options key ≡ true →
    key_in_level script play key ≡ quietly (Playing play)
in_level script play (Move Up) e = absurd (true≢false (sym e))
in_level script play (Move Down) e = absurd (true≢false (sym e))
in_level script play (Move Left) e = absurd (true≢false (sym e))
in_level script play (Move Right) e = absurd (true≢false (sym e))
in_level script play (Move Action) e = dropped script.options.no_action play (λ here. input_taken script here Action) e
in_level script play Undo e = dropped script.options.no_undo play (λ here. undone script here) e
in_level script play Restart e = dropped script.options.no_restart play (λ here.
    restarted script (with_board_in_history here) None) e
in_level script play Quit e = absurd (true≢false (sym e))

at_level_message : (script : Script) (play : Play) (pending : Pending) (key : Key) → is_ignored_at_message key ≡ true →
    key_at_level_message script play pending key ≡ quietly (Waiting play pending)
at_level_message script play pending (Move Up) e = refl
at_level_message script play pending (Move Down) e = refl
at_level_message script play pending (Move Left) e = refl
at_level_message script play pending (Move Right) e = refl
at_level_message script play pending (Move Action) e = absurd (true≢false (sym e))
at_level_message script play pending Undo e = refl
at_level_message script play pending Restart e = refl
at_level_message script play pending Quit e = absurd (true≢false (sym e))

pub at_entry : (script : Script) (entry : ℕ) (key : Key) → is_ignored_at_message key ≡ true →
    key_at_entry script entry key ≡ quietly (AtMessage entry)
at_entry script entry (Move Up) e = refl
at_entry script entry (Move Down) e = refl
at_entry script entry (Move Left) e = refl
at_entry script entry (Move Right) e = refl
at_entry script entry (Move Action) e = absurd (true≢false (sym e))
at_entry script entry Undo e = refl
at_entry script entry Restart e = refl
at_entry script entry Quit e = absurd (true≢false (sym e))

-- wherever a player is
pub ignored_keys : IgnoredKeysDoNothing
ignored_keys script (Playing play) key e = in_level script play key e
ignored_keys script (Waiting play pending) key e = at_level_message script play pending key e
ignored_keys script (AtMessage entry) key e = at_entry script entry key e
ignored_keys script (Ended ending) key e = refl
