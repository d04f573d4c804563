-- How far a board is behind the latest one of the history, from key to key.
use Rattle.std.proofs.Common.{◌≡◌, ◌∙◌, ℕ, ◌+◌, ◌-◌, ◌<◌, Bool, Option, Some, None, List, [], ◌∷◌, ◌++◌, length, drop}
use Rattle.std.proofs.Common.{refl, sym, ap, subst, arith}
use Rattle.std.specs.Prelude.{IfSome}
use Rattle.std.proofs.Math.Seq.{get_or-append_seam}
use Rattle.std.proofs.lemmas.List.{get_or-drop, length-drop}
use Rattle.std.proofs.lemmas.Option.{IfSome_then, none-some, slice_get-get_or}
use Rattle.std.proofs.Common.{get_or, length-append}
use Rattle.ps_model.specs.declared.limits.TheConstants.{HISTORY_LIMIT}
use Rattle.ps_model.specs.board.Grid.{Grid}
use Rattle.ps_model.specs.session.Sessions.{kept}
use Rattle.ps_board.specs.ColumnSets.{either_columns}
use Rattle.ps_board.specs.Histories.{BoardShown, latest_board}
use Rattle.ps_board.specs.Rows.{DifferOnlyOn}
use Rattle.ps_board.proofs.EmptySets.{in_neither}
use Rattle.ps_stage.specs.Standings.{Standing}
use Rattle.ps_stage.specs.Locations.{history_behind, history_behind_location, history_behind_no_board}
use Rattle.ps_stage.specs.Touched.{AreTouched, IsTouchedAt}
use Rattle.ps_session.specs.Behind.{behind_next, latest_of, IsBehind}
use Rattle.ps_session.specs.KeyAnswers.{GoesFromThere}
use Rattle.ps_stage.specs.declared.locations.HistoryChange.{HistoryChange}
use Rattle.ps_stage.specs.declared.locations.HistoryChange.TheVariants.{Keeps, Adds, Clears}
use Rattle.ps_stage.specs.declared.locations.Location.{Location}
use Rattle.ps_stage.specs.declared.locations.Location.TheVariants.{Playing, Waiting, AtMessage, Ended}
use Rattle.ps_session.specs.Histories.{grids_of}
use Rattle.ps_stage.specs.declared.locations.Change.TheVariants.{Goes}
use Rattle.ps_session.proofs.UndoneSteps.{latest_grid}

-- a location that has the board of another one is as far behind
pub behind_stood : (grids : List Grid) (location after : Location Standing) (rows : Option (List Bool)) →
    ((rows : List Bool) (before : Grid) → IsTouchedAt rows before location → IsTouchedAt rows before after) →
    IsBehind grids location rows → IsBehind grids after rows
behind_stood grids location after rows keeps behind =
    IfSome_then rows behind (λ known touched.
    IfSome_then (latest_of grids) touched (λ latest here. keeps known latest here))

-- the last of the grids that are kept is the one that has entered
last_of_drop : (n : ℕ) (grids : List Grid) (g : Grid) → 0 < n →
    latest_of (drop (length (grids ++ g ∷ []) - n) (grids ++ g ∷ [])) ≡ Some g
last_of_drop n grids g some =
    let all : List Grid = grids ++ g ∷ [] in
    let long : length all ≡ length grids + 1 = length-append grids (g ∷ []) in
    let count : ℕ = length all - n in
    let left : List Grid = drop count all in
    let rest : length left ≡ length all - count = length-drop count all in
    let within : length left - 1 < length left = omega (arith, long, rest, some) in
    let place : count + (length left - 1) ≡ length grids = omega (arith, long, rest, some) in
    slice_get-get_or left (length left - 1) g within
    ∙ ap Some (get_or-drop count all (length left - 1) g
    ∙ ap (λ (i : ℕ). get_or all i g) place
    ∙ get_or-append_seam grids g [] g)

last_kept : (grids : List Grid) (g : Grid) → latest_of (kept (grids ++ g ∷ [])) ≡ Some g
last_kept grids g = last_of_drop HISTORY_LIMIT grids g (omega arith)

-- what two changes have touched, one behind the other
touched_both : (rows others : List Bool) (first second third : Grid) → AreTouched rows first second →
    AreTouched others second third → AreTouched (either_columns rows others) first third
touched_both rows others first second third one two = record {
  low = one.low;
  sides = record {
    width = one.sides.width ∙ two.sides.width;
    height = one.sides.height ∙ two.sides.height;
    layers = one.sides.layers ∙ two.sides.layers;
  };
  only = λ row under out column across.
      let parts = in_neither rows others (either_columns rows others) row refl (omega (arith, under, one.low)) out in
      let here = one.only row under parts.0 column across in
      let there = two.only row (rw (← one.sides.height) under) parts.1 column (rw (← one.sides.width) across) in
      here ∙ rw one.sides.height there;
}

both_at : (rows others : List Bool) (first second : Grid) (location : Location Standing) →
    AreTouched rows first second → IsTouchedAt others second location →
    IsTouchedAt (either_columns rows others) first location
both_at rows others first second (Playing level) one two = touched_both rows others first second level.board one two
both_at rows others first second (Waiting level pending) one two =
    touched_both rows others first second level.board one two
both_at rows others first second (AtMessage entry) one two = tt
both_at rows others first second (Ended ending) one two = tt

-- behind a step from a board
behind_board : (grids : List Grid) (board : Grid) (next : Location Standing) (change : HistoryChange)
    (behind rows : Option (List Bool)) →
    IfSome behind (λ rows. IfSome (latest_of grids) (λ latest. AreTouched rows latest board)) →
    IfSome rows (λ rows. IsTouchedAt rows board next) → (after : List Grid) →
    ((change ≡ Keeps) → after ≡ grids) → ((change ≡ Adds) → after ≡ kept (grids ++ board ∷ [])) →
    IsBehind after next (behind_next behind change rows)
behind_board grids board next Keeps (Some known) (Some rows) behind comes after keeps adds =
    subst (λ (grids : List Grid). IsBehind grids next (Some (either_columns known rows))) (sym (keeps refl))
    (IfSome_then (latest_of grids) behind (λ latest touched. both_at known rows latest board next touched comes))
behind_board grids board next Keeps (Some known) None behind comes after keeps adds = tt
behind_board grids board next Keeps None rows behind comes after keeps adds = tt
behind_board grids board next Adds behind None holds comes after keeps adds = tt
behind_board grids board next Adds behind (Some rows) holds comes after keeps adds =
    subst (λ (latest : Option Grid). IfSome latest (λ latest. IsTouchedAt rows latest next))
    (sym (ap latest_of (adds refl) ∙ last_kept grids board)) comes
behind_board grids board next Clears behind rows holds comes after keeps adds = tt

-- behind one without rows that are told
behind_anew : (after : List Grid) (next : Location Standing) (change : HistoryChange)
    (behind rows : Option (List Bool)) → rows ≡ None → IsBehind after next (behind_next behind change rows)
behind_anew after next Keeps (Some known) None told = tt
behind_anew after next Keeps (Some known) (Some rows) told = absurd (none-some rows (sym told))
behind_anew after next Keeps None rows told = tt
behind_anew after next Adds behind None told = tt
behind_anew after next Adds behind (Some rows) told = absurd (none-some rows (sym told))
behind_anew after next Clears behind rows told = tt

-- behind the step to what comes next
pub behind_gone : (grids : List Grid) (location next : Location Standing) (change : HistoryChange)
    (behind rows : Option (List Bool)) → IsBehind grids location behind →
    GoesFromThere location (Goes next change rows) →
    IsBehind (history_behind_location change grids location) next (behind_next behind change rows)
behind_gone grids (Playing level) next change behind rows holds comes =
    behind_board grids level.board next change behind rows holds comes
    (history_behind change grids level.board) (λ is. rw is refl) (λ is. rw is refl)
behind_gone grids (Waiting level pending) next change behind rows holds comes =
    behind_board grids level.board next change behind rows holds comes
    (history_behind change grids level.board) (λ is. rw is refl) (λ is. rw is refl)
behind_gone grids (AtMessage entry) next change behind rows holds comes =
    behind_anew (history_behind_no_board change grids) next change behind rows comes
behind_gone grids (Ended ending) next change behind rows holds comes =
    behind_anew (history_behind_no_board change grids) next change behind rows comes

-- what is known of the latest grid is known of the latest board
pub behind_latest : (boards : List BoardShown) (board : Grid) (rows : Option (List Bool)) →
    IfSome rows (λ rows. IfSome (latest_of (grids_of boards)) (λ latest. AreTouched rows latest board)) →
    IfSome rows (λ rows. IfSome (latest_board boards) (λ latest. DifferOnlyOn rows latest.grid board))
behind_latest boards board rows behind =
    IfSome_then rows behind (λ known touched. by (latest_board boards) known refl touched) where
      by : (latest : Option BoardShown) (known : List Bool) → latest_board boards ≡ latest →
          IfSome (latest_of (grids_of boards)) (λ latest. AreTouched known latest board) →
          IfSome latest (λ latest. DifferOnlyOn known latest.grid board)
      by None known is touched = tt
      by (Some latest) known is touched =
          let here : AreTouched known latest.grid board =
          subst (λ (found : Option Grid). IfSome found (λ latest. AreTouched known latest board))
          (latest_grid boards latest is) touched in
          here.only
