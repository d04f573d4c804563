-- What holds of the levels of lines without faults.
use Rattle.std.proofs.Common.{◌≡◌, ℕ, suc, List, [], ◌∷◌, ◌++◌, length, map, sym, ap, ◌∙◌, subst, arith}
use Rattle.std.specs.Prelude.{All}
use Rattle.std.proofs.lemmas.List.{map-append}
use Rattle.std.proofs.lemmas.List.Elements.{All-cons, All-head, All-append, All-tail}
use Rattle.ps_model.specs.text.Lines.{Line}
use Rattle.ps_model.specs.names.Names.{Names}
use Rattle.ps_model.specs.names.NameBounds.{AreBounded}
use Rattle.ps_model.specs.session.LevelLines.{Entry, EntryLines, MessageLine, LevelRows, characters_of, entry_of_lines}
use Rattle.ps_model.specs.session.LevelLines.{entry_lines, entries_read}
use Rattle.ps_model.specs.session.LevelFaults.{entry_faults, entries_faults}
use Rattle.ps_laws.proofs.common.Lists.{none-before, none-behind}
use Rattle.ps_laws.proofs.texts.LevelLimits.{entry-within}
use Rattle.ps_laws.proofs.texts.LevelsOfNames.{cells-counted, entry_of-game}
use Rattle.ps_levels.specs.declared.levels.Entry as code
use Rattle.ps_levels.specs.EntriesShown.{entry_shown, entries_shown}
use Rattle.ps_levels.specs.Sized.{IsSizedEntry, HasColumn}

sized_entry : (names : Names) (place : ℕ) (entry : EntryLines) → AreBounded names →
    entry_faults names place entry ≡ [] → HasColumn (entry_of_lines names entry) →
    IsSizedEntry names (entry_of_lines names entry)
sized_entry names place (MessageLine line) facts e h = tt
sized_entry names place (LevelRows first below) facts e h = record {
  some_column = h;
  columns = (entry-within names place (LevelRows first below) e).columns;
  some_row = omega arith;
  rows = (entry-within names place (LevelRows first below) e).rows;
  cells = cells-counted names (length (characters_of first)) (first ∷ below);
  objects = λ some. (entry_of-game names facts some (LevelRows first below)).objects;
}

sized_entries : (names : Names) (place : ℕ) (entries : List EntryLines) → AreBounded names →
    entries_faults names place entries ≡ [] → All HasColumn (map (entry_of_lines names) entries) →
    All (IsSizedEntry names) (map (entry_of_lines names) entries)
sized_entries names place [] facts e h = λ i d l. absurd (omega arith)
sized_entries names place (entry ∷ entries) facts e h =
    All-cons (IsSizedEntry names) (entry_of_lines names entry) (map (entry_of_lines names) entries)
    (sized_entry names place entry facts (none-before (entry_faults names place entry)
    (entries_faults names (suc place) entries) e)
    (All-head HasColumn (entry_of_lines names entry) (map (entry_of_lines names) entries) h))
    (sized_entries names (suc place) entries facts
    (none-behind (entry_faults names place entry) (entries_faults names (suc place) entries) e)
    (All-tail HasColumn (entry_of_lines names entry) (map (entry_of_lines names) entries) h))

-- levels of lines without faults of their entries, that each have a column
pub sized-levels : (names : Names) (lines : List Line) → AreBounded names →
    entries_faults names 0 (entry_lines lines) ≡ [] → All HasColumn (entries_read names lines) →
    All (IsSizedEntry names) (entries_read names lines)
sized-levels names lines facts e h = sized_entries names 0 (entry_lines lines) facts e h

-- an entry more
columns-more : (before now : List Entry) (entry : Entry) → now ≡ before ++ entry ∷ [] → HasColumn entry →
    All HasColumn before → All HasColumn now
columns-more before now entry e h all = subst (All HasColumn) (sym e)
    (All-append HasColumn before (entry ∷ []) all (All-cons HasColumn entry [] h (λ i d l. absurd (omega arith))))

-- the same of the code's entries
pub shown-columns-more : (before now : List code.Entry) (entry : code.Entry) → now ≡ before ++ entry ∷ [] →
    HasColumn (entry_shown entry) → All HasColumn (entries_shown before) → All HasColumn (entries_shown now)
shown-columns-more before now entry e h all = columns-more (entries_shown before) (entries_shown now)
    (entry_shown entry) (ap entries_shown e ∙ map-append entry_shown before (entry ∷ [])) h all
