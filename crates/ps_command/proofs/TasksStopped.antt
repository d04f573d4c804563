-- What stops a task, by what stops a part of it.
use Rattle.std.proofs.Common.{◌≡◌, Bool, true, false, true≢false, ℕ, List, Option, Some, Err, refl, inl, inr, ap, subst}
use Rattle.std.specs.Prelude.{◌⊎◌, Result, IfErr}
use Rattle.ps_check.specs.declared.faults.CheckFault.{CheckFault}
use Rattle.ps_check.specs.declared.faults.CheckFault.TheVariants as check
use Rattle.ps_model.specs.game.Headline.{IsTrueOfText}
use Rattle.ps_model.specs.game.LevelRuns.{IsTrueOfLevel}
use Rattle.ps_devices.specs.Answers.{answer_of, level_answer_of}
use Rattle.ps_devices.specs.declared.players.LevelFault.{LevelFault}
use Rattle.ps_devices.specs.declared.players.LevelFault.TheVariants as lacking
use Rattle.ps_devices.specs.declared.players.RunFault.{RunFault}
use Rattle.ps_devices.specs.declared.players.RunFault.TheVariants as fault
use Rattle.ps_command.specs.Statuses.{stop_of_check, stop_of_level}
use Rattle.ps_command.specs.Stops.{IsRefusal, IsUnkeyed, IsUnplayed, IsUnread, IsUnwritten, LacksAsked, StopsCheck}
use Rattle.ps_command.specs.Stops.{StopsExplanation, StopsPlay, StopsReplay, StopsSearch, StopsSearchAfter}
use Rattle.ps_command.specs.Stops.{StopsShow, StopsTask}
use Rattle.ps_command.specs.declared.command.Asked.{Asked}
use Rattle.ps_command.specs.declared.command.Asked.TheVariants as asked
use Rattle.ps_command.specs.declared.stops.Stop.{Stop}
use Rattle.ps_command.specs.declared.stops.Stop.TheVariants as stop
use Rattle.clap.specs.declared.error.Error.{Error}

-- texts and keys that can't be read -----------------------------------------------------------------------------------

pub unread_check : (failed : Bool) (why : Stop) → IsUnread why → StopsCheck failed why
unread_check failed why unread = inl unread

pub unread_show : (why : Stop) → IsUnread why → StopsShow why
unread_show why unread = inl unread

pub unread_search : (why : Stop) → IsUnread why → StopsSearch why
unread_search why unread = inl unread

pub unread_after : (why : Stop) → IsUnread why → StopsSearchAfter why
unread_after why unread = inl (inl unread)

pub unkeyed_after : (why : Stop) → IsUnkeyed why → StopsSearchAfter why
unkeyed_after why unkeyed = inr (inl unkeyed)

pub search_after : (why : Stop) → StopsSearch why → StopsSearchAfter why
search_after why is = inl is

pub unread_replay : (failed : Bool) (why : Stop) → IsUnread why → StopsReplay failed why
unread_replay failed why unread = inl (inl unread)

pub unkeyed_replay : (failed : Bool) (why : Stop) → IsUnkeyed why → StopsReplay failed why
unkeyed_replay failed why unkeyed = inr unkeyed

pub check_replay : (failed : Bool) (why : Stop) → StopsCheck failed why → StopsReplay failed why
check_replay failed why is = inl is

pub unplayed_play : (level : Option ℕ) (why : Stop) → IsUnplayed why → StopsPlay level why
unplayed_play level why unplayed = inl unplayed

pub memory_play : (level : Option ℕ) → StopsPlay level (stop.Run fault.Memory)
memory_play level = inl (inl (inr refl))

-- an output that can't be read
pub output_unread : (why : Stop) → (why ≡ stop.Output) ⊎ (why ≡ stop.Run fault.Memory) → StopsShow why
output_unread why (inl is) = inr (inl is)
output_unread why (inr is) = inl (inr is)

pub unread_play : (level : Option ℕ) (why : Stop) → IsUnread why → StopsPlay level why
unread_play level why unread = inl (inl unread)

-- checks --------------------------------------------------------------------------------------------------------------

-- the fault of a check, which has failed the screen if it couldn't be written
pub check_stopped : (found : CheckFault) (why : Stop) (failed : Bool) → why ≡ stop_of_check found →
    (found ≡ check.Write → failed ≡ true) → StopsCheck failed why
check_stopped check.Memory why failed is told = inl (inr is)
check_stopped check.Write why failed is told = inr (inl (is, told refl))

-- a report within a search
pub check_search : (failed : Bool) (why : Stop) → StopsCheck failed why → StopsSearch why
check_search failed why (inl unread) = inl unread
check_search failed why (inr (inl (is, _))) = inr (inl is)
check_search failed why (inr (inr denied)) = inr (inr denied)

pub check_after : (failed : Bool) (why : Stop) → StopsCheck failed why → StopsSearchAfter why
check_after failed why is = inl (check_search failed why is)

-- plays ---------------------------------------------------------------------------------------------------------------

-- the fault of a run from the start
pub run_stopped : (level : Option ℕ) (text : List ℕ) (found : RunFault) → IsTrueOfText text (answer_of (Err found)) →
    StopsPlay level (stop.Run found)
run_stopped level text (fault.Refused refused) true_of = inr (inr (inl (record {
  text = text;
  found = refused;
  first = true_of;
  is = refl;
})))
run_stopped level text fault.Memory true_of = inl (inl (inr refl))
run_stopped level text fault.Read true_of = inl (inr refl)
run_stopped level text fault.Write true_of = inr (inl refl)

-- the fault of a run from a level
pub level_stopped : (given : Option ℕ) (text : List ℕ) (level : ℕ) (found : LevelFault) → given ≡ Some level →
    IsTrueOfLevel text level (level_answer_of (Err found)) → StopsPlay given (stop_of_level level found)
level_stopped given text level (lacking.NoSuchLevel levels) is true_of = inr (inr (inr (record {
  number = level;
  levels = levels;
  asked = is;
  is = refl;
})))
level_stopped given text level (lacking.Run (fault.Refused refused)) is true_of = inr (inr (inl (record {
  text = text;
  found = refused;
  first = true_of;
  is = refl;
})))
level_stopped given text level (lacking.Run fault.Memory) is true_of = inl (inl (inr refl))
level_stopped given text level (lacking.Run fault.Read) is true_of = inl (inr refl)
level_stopped given text level (lacking.Run fault.Write) is true_of = inr (inl refl)

-- no task is stopped by what is wrong with a command line -------------------------------------------------------------

abbrev is_line : Stop → Bool
is_line (stop.CommandLine _) = true
is_line _ = false

not_unread : (why : Stop) → IsUnread why → is_line why ≡ false
not_unread why (inl is) = ap is_line is
not_unread why (inr is) = ap is_line is

not_unkeyed : (why : Stop) → IsUnkeyed why → is_line why ≡ false
not_unkeyed why (inl is) = ap is_line is
not_unkeyed why (inr (inl is)) = ap is_line is
not_unkeyed why (inr (inr is)) = ap is_line is

not_check : (failed : Bool) (why : Stop) → StopsCheck failed why → is_line why ≡ false
not_check failed why (inl unread) = not_unread why unread
not_check failed why (inr (inl (is, _))) = ap is_line is
not_check failed why (inr (inr is)) = ap is_line is

not_replay : (failed : Bool) (why : Stop) → StopsReplay failed why → is_line why ≡ false
not_replay failed why (inl check) = not_check failed why check
not_replay failed why (inr unkeyed) = not_unkeyed why unkeyed

not_search : (why : Stop) → StopsSearch why → is_line why ≡ false
not_search why (inl unread) = not_unread why unread
not_search why (inr (inl is)) = ap is_line is
not_search why (inr (inr is)) = ap is_line is

not_after : (why : Stop) → StopsSearchAfter why → is_line why ≡ false
not_after why (inl search) = not_search why search
not_after why (inr (inl unkeyed)) = not_unkeyed why unkeyed
not_after why (inr (inr (inl is))) = ap is_line is
not_after why (inr (inr (inr lacking))) = ap is_line lacking.is

not_show : (why : Stop) → StopsShow why → is_line why ≡ false
not_show why (inl unread) = not_unread why unread
not_show why (inr (inl is)) = ap is_line is
not_show why (inr (inr is)) = ap is_line is

not_play : (level : Option ℕ) (why : Stop) → StopsPlay level why → is_line why ≡ false
not_play level why (inl (inl unread)) = not_unread why unread
not_play level why (inl (inr is)) = ap is_line is
not_play level why (inr (inl is)) = ap is_line is
not_play level why (inr (inr (inl refused))) = ap is_line refused.is
not_play level why (inr (inr (inr lacking))) = ap is_line lacking.is

not_explanation : (failed : Bool) (why : Stop) → StopsExplanation failed why → is_line why ≡ false
not_explanation failed why (inl is) = ap is_line is
not_explanation failed why (inr (inl is)) = ap is_line is
not_explanation failed why (inr (inr (is, _))) = ap is_line is

not_task : (task : Asked) (failed : Bool) (why : Stop) → StopsTask task failed why → is_line why ≡ false
not_task (asked.Play play) failed why stops = not_play play.level why stops
not_task (asked.Check _) failed why stops = not_check failed why stops
not_task (asked.CheckAll _) failed why stops = not_check failed why stops
not_task (asked.CheckWhy _) failed why stops = not_check failed why stops
not_task (asked.CheckAllWhy _) failed why stops = not_check failed why stops
not_task (asked.Report _ _) failed why stops = not_check failed why stops
not_task (asked.Reports _ _) failed why stops = not_check failed why stops
not_task (asked.Description _) failed why stops = not_check failed why stops
not_task (asked.Explanation _) failed why stops = not_explanation failed why stops
not_task (asked.Show _) failed why stops = not_show why stops
not_task (asked.Solve _) failed why stops = not_search why stops
not_task (asked.SolveAfter _) failed why stops = not_after why stops
not_task (asked.Replay _) failed why stops = not_replay failed why stops

-- so where one ended for such a reason, anything holds
pub line_apart : (X : Type 0) (task : Asked) (failed : Bool) (end : Result (Unit {0}) Stop) (error : Error) →
    IfErr end (StopsTask task failed) → end ≡ Err (stop.CommandLine error) → X
line_apart X task failed end error stops is =
    let If : Result (Unit {0}) Stop → Type 0 = λ e. IfErr e (StopsTask task failed) in
    let same : is_line (stop.CommandLine error) ≡ false =
    not_task task failed (stop.CommandLine error) (subst If is stops) in
    absurd (true≢false same)
