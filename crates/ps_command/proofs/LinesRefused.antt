-- Why command lines are refused, by why parts of them are.
use Rattle.std.proofs.Common.{◌≡◌, true, List, Option, Some, inl, inr, ap, sym, subst, ◌∙◌}
use Rattle.std.specs.Prelude.{◌⊎◌, codes, is_some}
use Rattle.std.specs.Borrow.{Bor}
use Rattle.clap.specs.Words.{Row, Text, all_of, first_of}
use Rattle.ps_command.specs.LinesAtFault.{IsFaultOfRows}
use Rattle.ps_command.specs.declared.stops.Stop.{Stop}
use Rattle.ps_command.specs.declared.stops.Stop.TheVariants as stop

-- a word after GAME is no number of a level
pub level_refused : (rows : List Row) (why : Stop) → why ≡ stop.NoLevel →
    is_some (all_of (codes "FURTHER") rows) ≡ true →
    IsFaultOfRows rows why
level_refused rows why is further = subst (IsFaultOfRows rows) (sym is) (inr further)

-- words don't fit together where a search begins after keys
pub misfit_refused : (rows : List Row) (game keys : Text) (why : Stop) → first_of (codes "GAME") rows ≡ Some game →
    first_of (codes "after") rows ≡ Some keys → (why ≡ stop.OneGame) ⊎ ((why ≡ stop.OneInput) × (game ≡ codes "-")) →
    IsFaultOfRows rows why
misfit_refused rows game keys why of after (inl is) =
    subst (IsFaultOfRows rows) (sym is) (ap is_some after)
misfit_refused rows game keys why of after (inr (is, input)) =
    subst (IsFaultOfRows rows) (sym is) (of ∙ ap Some input)
