-- A message that is dismissed.
use Rattle.std.proofs.Common.{◌≡◌, ◌≢◌, ℕ, suc, false, Bool, List, refl}
use Rattle.std.proofs.lemmas.Bool.{true≢false}
use Rattle.ps_model.specs.declared.play.Input.TheVariants.{Up, Down, Left, Right, Action}
use Rattle.ps_model.specs.declared.play.Key.{Key}
use Rattle.ps_model.specs.declared.play.Key.TheVariants.{Move, Undo, Restart, Quit}
use Rattle.ps_model.specs.board.Turns.{Script}
use Rattle.ps_model.specs.session.Sessions.{Play, Pending}
use Rattle.ps_model.specs.session.StartSteps.{enter}
use Rattle.ps_model.specs.session.KeySteps.{gone_on, key_at_entry, key_at_level_message}
use Rattle.ps_model.specs.session.IgnoredKeys.{is_ignored_at_message}
use Rattle.ps_model.specs.board.Grid.{Grid}
use Rattle.ps_stage.specs.Locations.{change_shown}
use Rattle.ps_stage.specs.Standings.{Standing}
use Rattle.ps_stage.specs.declared.locations.Change.{Change}
use Rattle.ps_stage.specs.declared.locations.Change.TheVariants.{Stays, Undoes, Goes}
use Rattle.ps_stage.specs.declared.locations.Location.TheVariants.{Playing, Waiting}
use Rattle.ps_stage.specs.declared.locations.Pending.{Pending as Waits}

-- a key that is neither ignored nor `q` dismisses it
pub dismissed : (script : Script) (play : Play) (pending : Pending) (key : Key) → is_ignored_at_message key ≡ false →
    key ≢ Quit →
    key_at_level_message script play pending key ≡ gone_on script play pending
dismissed script play pending (Move Up) e n = absurd (true≢false e)
dismissed script play pending (Move Down) e n = absurd (true≢false e)
dismissed script play pending (Move Left) e n = absurd (true≢false e)
dismissed script play pending (Move Right) e n = absurd (true≢false e)
dismissed script play pending (Move Action) e n = refl
dismissed script play pending Undo e n = absurd (true≢false e)
dismissed script play pending Restart e n = absurd (true≢false e)
dismissed script play pending Quit e n = absurd (n refl)

-- at a message entry the next one begins
pub entry_dismissed : (script : Script) (entry : ℕ) (key : Key) → is_ignored_at_message key ≡ false → key ≢ Quit →
    key_at_entry script entry key ≡ enter script (suc entry)
entry_dismissed script entry (Move Up) e n = absurd (true≢false e)
entry_dismissed script entry (Move Down) e n = absurd (true≢false e)
entry_dismissed script entry (Move Left) e n = absurd (true≢false e)
entry_dismissed script entry (Move Right) e n = absurd (true≢false e)
entry_dismissed script entry (Move Action) e n = refl
entry_dismissed script entry Undo e n = absurd (true≢false e)
entry_dismissed script entry Restart e n = absurd (true≢false e)
entry_dismissed script entry Quit e n = absurd (n refl)

-- a change from a level at its message is the change from that level
pub changed_at_message : (history : List Grid) (level : Standing) (pending : Waits)
    (change : Change Standing (List Bool)) →
    change_shown history (Waiting level pending) change ≡ change_shown history (Playing level) change
changed_at_message history level pending (Stays waits) = refl
changed_at_message history level pending (Undoes back) = refl
changed_at_message history level pending (Goes next history_change rows) = refl
