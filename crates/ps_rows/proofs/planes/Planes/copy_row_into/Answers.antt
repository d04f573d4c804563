use Rattle.std.proofs.Common.{◌≡◌, ◌<◌, ◌≤◌, ◌+◌, ◌*◌, ◌∙◌, ℕ, Bool, List, sym, ap, ap₂, subst}
use Rattle.std.specs.Prelude.{slice_set}
use Rattle.std.proofs.lemmas.List.{set-get_or}
use Rattle.ps_board.specs.ColumnSets.{no_columns, set_columns, unlike_columns}
use Rattle.ps_rows.specs.Planes.{IsSet, row_of}
use Rattle.ps_rows.proofs.Sets.{same_by_unlike, same_set}
use Rattle.ps_rows.proofs.planes.Planes.copy_row_into.Goals as goal

pub row-requires : goal.row-requires
row-requires g c =
    let o = c.args.other.now in
    let R : ℕ → Type 0 = λ h. c.args.row < h in
    let E : ℕ → Type 0 = λ h. (c.args.plane + 1) * h ≤ o.words.len in
    record {
      row = subst R (sym c.requires.height) c.requires.row;
      plane = subst E (sym c.requires.height) c.requires.there;
    }

pub set_row-requires : goal.set_row-requires
set_row-requires g c =
    let p = c.args.self.now in
    let o = c.args.other.now in
    let R : ℕ → Type 0 = λ h. c.args.row < h in
    let E : ℕ → Type 0 = λ h. (c.args.plane + 1) * h ≤ o.words.len in
    let S : List Bool → Type 0 = λ set. IsSet set in
    record {
      row = subst R (sym c.requires.height) c.requires.row;
      plane = subst E (sym c.requires.height) c.requires.there;
      set = subst S (sym c.row-word.ensures) (p.sets (c.args.plane * p.height + c.args.row));
    }

pub returns-then-is_empty-clause-words : goal.returns-then-is_empty-clause-words
returns-then-is_empty-clause-words g c =
    let p = c.args.self.now in
    let o = c.args.other.now in
    let place : ℕ = c.args.plane * p.height + c.args.row in
    let mine : List Bool = row_of p.words.items place in
    let theirs : List Bool = row_of o.words.items place in
    let read : c.row.result ≡ theirs =
    c.row.ensures ∙ ap (λ (h : ℕ). row_of o.words.items (c.args.plane * h + c.args.row)) c.requires.height in
    let unlike : c.unlike.result ≡ unlike_columns theirs mine =
    c.unlike.ensures ∙ ap₂ unlike_columns read c.row-word.ensures in
    let same : theirs ≡ mine =
    same_set theirs mine (o.sets place) (p.sets place)
    (same_by_unlike theirs mine (ap set_columns (sym unlike) ∙ c.is_empty.ensures.none c.if-is_empty.true)) in
    sym (ap (slice_set o.words.items place) (sym same) ∙ set-get_or o.words.items place no_columns)

pub returns-clause-words : goal.returns-clause-words
returns-clause-words g c =
    let o = c.args.other.now in
    c.set_row.ensures.words
    ∙ ap₂ (λ (h : ℕ) (word : List Bool). slice_set o.words.items (c.args.plane * h + c.args.row) word)
    c.requires.height c.row-word.ensures
