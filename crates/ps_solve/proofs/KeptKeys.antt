-- Keys go on to stand for what they did.
use Rattle.std.proofs.Common.{◌≡◌, ◌∙◌, ℕ, ◌<◌, ◌≤◌, ◌++◌, ◌∷◌, [], ◌⊎◌, inl, inr, List, Option, Some, None}
use Rattle.std.proofs.Common.{length, map, refl, sym, ap, subst, arith, slice_get, slice_index_or, option_map}
use Rattle.std.proofs.lemmas.List.{get_or_append_left, length-append, length-map, map-append}
use Rattle.std.proofs.lemmas.List.Elements.{All-push}
use Rattle.std.proofs.lemmas.Option.{get_or_from_slice_get, slice_get-map, slice_get_within}
use Rattle.ps_model.specs.board.Grid.{Grid}
use Rattle.ps_model.specs.session.Sessions as model
use Rattle.ps_model.specs.session.Solving.{Spot}
use Rattle.ps_rows.specs.Packings.{IsKey, Packed, packed_grid}
use Rattle.ps_trial.specs.Desks.{TrialValue}
use Rattle.ps_trial.specs.SilentStarts.{Boards, spot_with}
use Rattle.ps_trial.specs.Told.{waits_shown}
use Rattle.ps_solve.specs.SpotKeys.{KeyTable, AreKeys, IsRestart, IsAt}
use Rattle.ps_solve.specs.SpotKeys.{KeepsBoards, KeepsKeys}

abbrev pub table_of : Packed → List (List ℕ) → KeyTable
table_of packed restarts = record { packed = packed; restarts = restarts }

abbrev pub boards_by : Grid → Grid → Boards
boards_by board restart_board = record { board = board; restart_board = restart_board }

-- equal boards make equal spots
pub same_spot : (board own restart_board own_restart : Grid) (waits : Option model.Pending) → board ≡ own →
    restart_board ≡ own_restart →
    spot_with (boards_by board restart_board) waits ≡ spot_with (boards_by own own_restart) waits
same_spot board own restart_board own_restart waits e f = rw (e, f) refl

-- where the keys of boards keep their meanings, those of spots do, and each restart goes on to have a key
pub keys_kept : (old new : Packed) (restarts : List (List ℕ)) → KeepsBoards old new → AreKeys old restarts →
    AreKeys new restarts
keys_kept old new restarts keeps keys number other below =
    (keeps (slice_index_or restarts number other) (keys number other below)).0

pub spots_kept : (old new : Packed) (restarts : List (List ℕ)) → KeepsBoards old new → AreKeys old restarts →
    KeepsKeys (table_of old restarts) (table_of new restarts)
spots_kept old new restarts keeps keys words restart waits known =
    let own = keeps words known.0 in
    let other : List ℕ = slice_index_or restarts restart [] in
    let back = keeps other (keys restart [] known.1) in (
      (own.0, known.1),
      same_spot (packed_grid new words) (packed_grid old words) (packed_grid new other) (packed_grid old other)
          (waits_shown waits) own.1 back.1,
    )

-- where there are more boards that restarts go back to, those that were there keep their numbers
pub more_restarts : (packed : Packed) (restarts more : List (List ℕ)) → length restarts ≤ length more →
    ((number : ℕ) → number < length restarts → slice_index_or more number [] ≡ slice_index_or restarts number []) →
    KeepsKeys (table_of packed restarts) (table_of packed more)
more_restarts packed restarts more longer same words restart waits known =
    let below : restart < length restarts = known.1 in
    let within : restart < length more = omega arith in (
      (known.0, within),
      same_spot (packed_grid packed words) (packed_grid packed words)
          (packed_grid packed (slice_index_or more restart []))
          (packed_grid packed (slice_index_or restarts restart []))
          (waits_shown waits) refl (ap (λ (own : List ℕ). packed_grid packed own) (same restart below)),
    )

module _ {Key : Type 0} (words : Key → List ℕ) (packed : Packed) where
  grown : (keys : List Key) (key : Key) → length (map words keys) ≤ length (map words keys ++ words key ∷ [])
  grown keys key = let e = length-append (map words keys) (words key ∷ []) in omega arith

  -- a key that is kept changes no number
  pub noted_kept : (keys more : List Key) (key : Key) → (more ≡ keys) ⊎ (more ≡ keys ++ key ∷ []) →
      KeepsKeys (table_of packed (map words keys)) (table_of packed (map words more))
  noted_kept keys more key (inl same) =
      subst (λ (own : List Key). KeepsKeys (table_of packed (map words keys)) (table_of packed (map words own)))
      (sym same) (λ own restart waits known. (known, refl))
  noted_kept keys more key (inr longer) =
      subst (λ (own : List Key). KeepsKeys (table_of packed (map words keys)) (table_of packed (map words own)))
      (sym longer) (subst (λ (own : List (List ℕ)). KeepsKeys (table_of packed (map words keys)) (table_of packed own))
      (sym (map-append words keys (key ∷ [])))
      (more_restarts packed (map words keys) (map words keys ++ words key ∷ []) (grown keys key)
      (λ number below. get_or_append_left (map words keys) (words key ∷ []) [] number below)))

  -- and each has a key then
  pub noted_keys : (keys more : List Key) (key : Key) → (more ≡ keys) ⊎ (more ≡ keys ++ key ∷ []) →
      AreKeys packed (map words keys) → IsKey packed (words key) → AreKeys packed (map words more)
  noted_keys keys more key (inl same) all known =
      subst (λ (own : List Key). AreKeys packed (map words own)) (sym same) all
  noted_keys keys more key (inr longer) all known =
      subst (λ (own : List Key). AreKeys packed (map words own)) (sym longer)
      (subst (AreKeys packed) (sym (map-append words keys (key ∷ [])))
      (All-push (IsKey packed) (map words keys) (words key) all known))

  -- the key at a place is one of the keys
  pub key_at : (keys : List Key) (number : ℕ) (key : Key) → slice_get keys number ≡ Some key →
      AreKeys packed (map words keys) → IsKey packed (words key)
  key_at keys number key at all =
      let here = slice_get_within keys number key at in
      let long = length-map keys words in
      let below : number < length (map words keys) = omega arith in
      let own : slice_index_or (map words keys) number [] ≡ words key =
      get_or_from_slice_get (map words keys) number (words key) []
      (slice_get-map words keys number ∙ ap (option_map words) at) in
      subst (IsKey packed) own (all number [] below)

  -- the number of a key that is there is that of the board for which it stands
  pub number_found : (keys : List Key) (key : Key) (number : ℕ) (found : Key) → slice_get keys number ≡ Some found →
      words key ≡ words found →
      IsRestart (table_of packed (map words keys)) (packed_grid packed (words key)) number
  number_found keys key number found at is =
      let here = slice_get_within keys number found at in
      let long = length-map keys words in
      let below : number < length (map words keys) = omega arith in
      let own : slice_index_or (map words keys) number [] ≡ words found =
      get_or_from_slice_get (map words keys) number (words found) []
      (slice_get-map words keys number ∙ ap (option_map words) at) in
      (below, ap (λ (ws : List ℕ). packed_grid packed ws) (own ∙ sym is))

module _ (old new : KeyTable) (keeps : KeepsKeys old new) where
  -- a trial goes on to be at the spot of its key
  pub at_kept : (trial : TrialValue) (words : List ℕ) (restart : ℕ) → new.packed.table ≡ old.packed.table →
      IsAt old trial words restart → IsAt new trial words restart
  at_kept trial words restart own at =
      let kept = keeps words restart None at.known in record {
        known = kept.0;
        own = at.own ∙ ap Some (sym own);
        board = at.board ∙ sym (ap (λ (s : Spot). s.board) kept.1);
        restart_board = at.restart_board ∙ sym (ap (λ (s : Spot). s.restart_board) kept.1);
      }

  -- the number of a board goes on to be one, where some board has a key
  pub restart_kept : (words : List ℕ) (board : Grid) (restart : ℕ) → IsKey old.packed words →
      IsRestart old board restart → IsRestart new board restart
  restart_kept words board restart known is =
      let kept = keeps words restart None (known, is.0) in
      (kept.0.1, ap (λ (s : Spot). s.restart_board) kept.1 ∙ is.1)

-- keys that keep their meanings twice
pub kept_twice : (old mid new : KeyTable) → KeepsKeys old mid → KeepsKeys mid new → KeepsKeys old new
kept_twice old mid new first second words restart waits known =
    let one = first words restart waits known in
    let two = second words restart waits one.0 in (two.0, two.1 ∙ one.1)
