-- The entry at a place, as the definitions see it.
use Rattle.std.proofs.Common.{◌≡◌, ◌∙◌, ℕ, ◌<◌, ◌≤◌, List, Option, Some, None, length, get_or, sym, ap, subst}
use Rattle.std.proofs.Common.{option_map, refl, arith}
use Rattle.std.specs.Prelude.{slice_get}
use Rattle.std.proofs.lemmas.List.{length-map}
use Rattle.std.proofs.lemmas.Option.{slice_get-map, slice_get-get_or}
use Rattle.ps_model.specs.names.Names.{Names}
use Rattle.ps_model.specs.board.Levels.{Level}
use Rattle.ps_model.specs.declared.limits.TheConstants.{SIDE_LIMIT}
use Rattle.ps_model.specs.session.LevelLines.{Entry as Meant, LevelEntry, MessageEntry}
use Rattle.ps_levels.specs.declared.levels.Entry.{Entry}
use Rattle.ps_levels.specs.EntriesShown.{entry_shown, entries_shown}
use Rattle.ps_levels.specs.Sized.{IsSizedEntry}
use Rattle.ps_laws.proofs.common.Everywhere.{All-slice_get}
use Rattle.ps_stage.specs.Sides.{longer_side, side_at, side_of_found}
use Rattle.ps_stage.specs.Playable.{IsPlayable, ArePlayable, LevelFits, EntryFits, EntriesFit}

pub entry_found : (es : List Entry) (entries : List Meant) (i : ℕ) (x : Entry) → entries_shown es ≡ entries →
    i < length es → x ≡ get_or es i x →
    slice_get entries i ≡ Some (entry_shown x)
entry_found es entries i x e within is =
    ap (λ (l : List Meant). slice_get l i) (sym e)
    ∙ slice_get-map entry_shown es i
    ∙ ap (option_map entry_shown) (slice_get-get_or es i x within)
    ∙ ap (λ (y : Entry). Some (entry_shown y)) (sym is)

-- the same by its number
entry_at : (es : List Entry) (entries : List Meant) (i : ℕ) (x : Entry) → entries_shown es ≡ entries → i < length es →
    x ≡ get_or es i x → i < length entries → get_or entries i (entry_shown x) ≡ entry_shown x
entry_at es entries i x e within is long =
    let found : slice_get entries i ≡ Some (entry_shown x) = entry_found es entries i x e within is in
    let there : slice_get entries i ≡ Some (get_or entries i (entry_shown x)) =
    slice_get-get_or entries i (entry_shown x) long in
    cc

pub playable_at : (names : Names) (es : List Entry) (entries : List Meant) (i : ℕ) (x : Entry) (level : Level) →
    entries_shown es ≡ entries → i < length es → x ≡ get_or es i x →
    entry_shown x ≡ LevelEntry level → ArePlayable names entries → IsPlayable names level
playable_at names es entries i x level e within is shows playable =
    let long : i < length entries = rw (← e, length-map) within in
    record {
      bounded = playable.bounded;
      some_object = playable.some_object;
      sized = subst (IsSizedEntry names) (entry_at es entries i x e within is long ∙ shows)
          (playable.sized i (entry_shown x) long);
    }

-- where the longer side of the entry at a place is within a limit, both sides of the level there are
pub fits_at : (side : ℕ) (es : List Entry) (entries : List Meant) (i : ℕ) (x : Entry) (level : Level) →
    entries_shown es ≡ entries → i < length es → x ≡ get_or es i x →
    entry_shown x ≡ LevelEntry level → side_at entries i ≤ side → LevelFits side level
fits_at side es entries i x level e within is shows low =
    let found : slice_get entries i ≡ Some (LevelEntry level) = entry_found es entries i x e within is
    ∙ ap Some shows in
    let longer : side_at entries i ≡ longer_side level = ap side_of_found found in
    record {
      columns = omega (arith, low, longer);
      rows = omega (arith, low, longer);
    }

-- where all entries fit, the one at each place does
found_fits : (side : ℕ) (entries : List Meant) (i : ℕ) (found : Option Meant) → slice_get entries i ≡ found →
    EntriesFit side entries → side_of_found found ≤ side
found_fits side entries i None e fit = omega arith
found_fits side entries i (Some (MessageEntry text)) e fit = omega arith
found_fits side entries i (Some (LevelEntry level)) e fit =
    let level_fits : LevelFits side level = All-slice_get (EntryFits side) entries i (LevelEntry level) fit e in
    omega (arith, level_fits.columns, level_fits.rows)

pub side_fits : (side : ℕ) (entries : List Meant) (i : ℕ) → EntriesFit side entries → side_at entries i ≤ side
side_fits side entries i fit = found_fits side entries i (slice_get entries i) refl fit

-- levels with sides of a board fit where it may have any of these
fits_any : (names : Names) (entry : Meant) → IsSizedEntry names entry → EntryFits SIDE_LIMIT entry
fits_any names (MessageEntry text) sized = sized
fits_any names (LevelEntry level) sized = record {
  columns = sized.columns;
  rows = sized.rows;
}

pub fit_any : (names : Names) (entries : List Meant) → ArePlayable names entries → EntriesFit SIDE_LIMIT entries
fit_any names entries playable i x long = fits_any names (get_or entries i x) (playable.sized i x long)
