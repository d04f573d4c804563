-- How what is told beside the board changes.
use Rattle.std.specs.Prelude.{ℕ, List, []}
use Rattle.ps_view.specs.declared.heard_keys.HeardKeys.{HeardKeys}
use Rattle.ps_view.specs.Screens.{LinesBelow}

-- nothing is told yet but the keys that are heard
abbrev pub nothing_told : HeardKeys → LinesBelow
nothing_told heard = record { title = []; level = []; note = []; heard = heard; news = [] }

-- another title
abbrev pub titled : LinesBelow → List ℕ → LinesBelow
titled told title = record told { title = title }

-- another level, on which there is no note yet, and of which nothing is told
abbrev pub at_level : LinesBelow → List ℕ → LinesBelow
at_level told level = record told { level = level; note = []; news = [] }

-- another note on the level
abbrev pub noted : LinesBelow → List ℕ → LinesBelow
noted told note = record told { note = note }

-- something else that is told last
abbrev pub last_told : LinesBelow → List ℕ → LinesBelow
last_told told news = record told { news = news }
