-- Keys that aren't ignored.
use Rattle.std.proofs.Common.{◌≡◌, ◌∙◌, Bool, true, false, None, refl, sym, ap}
use Rattle.std.proofs.lemmas.Bool.{true≢false}
use Rattle.ps_model.specs.declared.options.Options.{Options}
use Rattle.ps_model.specs.declared.play.Input.{Input}
use Rattle.ps_model.specs.declared.play.Input.TheVariants.{Up, Down, Left, Right, Action}
use Rattle.ps_model.specs.declared.play.Key.{Key}
use Rattle.ps_model.specs.declared.play.Key.TheVariants.{Move, Undo, Restart}
use Rattle.ps_model.specs.board.Turns.{Script}
use Rattle.ps_model.specs.session.Sessions.{Play, Step, with_board_in_history}
use Rattle.ps_model.specs.session.StartSteps.{restarted}
use Rattle.ps_model.specs.session.KeySteps.{input_taken, key_in_level, undone, unless_ignored}
use Rattle.ps_stage.specs.Standings.{SessionParts}
use Rattle.ps_model.specs.session.IgnoredKeys.{is_ignored_in_level}

heeded : (ignored : Bool) (play : Play) (key : Play → Step) → ignored ≡ false →
    unless_ignored ignored play key ≡ key play
heeded true play key e = absurd (true≢false e)
heeded false play key e = refl

-- a turn with an input
pub moved : (script : Script) (play : Play) (input : Input) → is_ignored_in_level script.options (Move input) ≡ false →
    key_in_level script play (Move input) ≡ input_taken script play input
moved script play Up e = refl
moved script play Down e = refl
moved script play Left e = refl
moved script play Right e = refl
moved script play Action e = heeded script.options.no_action play (λ here. input_taken script here Action) e

-- undo
pub undo_heeded : (script : Script) (play : Play) → script.options.no_undo ≡ false →
    key_in_level script play Undo ≡ undone script play
undo_heeded script play e = heeded script.options.no_undo play (λ here. undone script here) e

-- a restart
pub restart_heeded : (script : Script) (play : Play) → script.options.no_restart ≡ false →
    key_in_level script play Restart ≡ restarted script (with_board_in_history play) None
restart_heeded script play e = heeded script.options.no_restart play (λ here.
    restarted script (with_board_in_history here) None) e

-- whether the key is ignored, by what was told of it
pub told_ignored : (game found : SessionParts) (options : Options) (key : Key) (told value : Bool) → found ≡ game →
    options ≡ found.options → told ≡ is_ignored_in_level options key → told ≡ value →
    is_ignored_in_level game.options key ≡ value
told_ignored game found options key told value here there is same =
    ap (λ (parts : SessionParts). is_ignored_in_level parts.options key) (sym here)
    ∙ ap (λ (options : Options). is_ignored_in_level options key) (sym there) ∙ sym is ∙ same

-- each of these keys, where it isn't ignored
pub moved_by : (script : Script) (play : Play) (input : Input) (key : Key) → key ≡ Move input →
    is_ignored_in_level script.options key ≡ false → key_in_level script play key ≡ input_taken script play input
moved_by script play input key is heeded = ap (key_in_level script play) is
    ∙ moved script play input (ap (is_ignored_in_level script.options) (sym is) ∙ heeded)

pub undone_by : (script : Script) (play : Play) (key : Key) → key ≡ Undo →
    is_ignored_in_level script.options key ≡ false → key_in_level script play key ≡ undone script play
undone_by script play key is heeded = ap (key_in_level script play) is
    ∙ undo_heeded script play (ap (is_ignored_in_level script.options) (sym is) ∙ heeded)

pub restarted_by : (script : Script) (play : Play) (key : Key) → key ≡ Restart →
    is_ignored_in_level script.options key ≡ false →
    key_in_level script play key ≡ restarted script (with_board_in_history play) None
restarted_by script play key is heeded = ap (key_in_level script play) is
    ∙ restart_heeded script play (ap (is_ignored_in_level script.options) (sym is) ∙ heeded)
