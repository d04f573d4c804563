-- The boards of an undo history, behind steps to them.
use Rattle.std.proofs.Common.{◌≡◌, ◌∙◌, ℕ, zero, suc, ◌+◌, ◌-◌, ◌*◌, ◌<◌, ◌≤◌, Option, Some, None, List, [], ◌∷◌, ◌++◌}
use Rattle.std.proofs.Common.{All, Bool, length, map, take, drop, refl, sym, ap, ap₂, arith, subst}
use Rattle.std.specs.Prelude.{slice_get}
use Rattle.std.proofs.lemmas.List.{drop-append-le, drop-map, get_or_push, length-map, length_push, map-append}
use Rattle.std.proofs.lemmas.List.{take-append-le, take_all, take_more}
use Rattle.std.proofs.lemmas.List.Elements.{All-drop, All-nil, All-pop, All-push, All-same}
use Rattle.std.proofs.lemmas.Option.{get_or_from_slice_get, none-some, same_Some, slice_get-get_or, slice_get_within}
use Rattle.ps_board.specs.Histories.{BoardShown, boards_before, boards_kept, latest_board}
use Rattle.ps_model.specs.declared.limits.TheConstants.{HISTORY_LIMIT}
use Rattle.ps_rows.specs.RowHistories.{AreBehind, IsBoard, IsReady, Kept, LeadsBack, LeadsOn, Step, behind, boards_of}
use Rattle.ps_rows.specs.Showing.{AreMotionsShown, AreObjectsShown}
use Rattle.ps_rows.specs.RowHistories.{first_of, kept, oldest, ready_of, shown, stepped}
use Rattle.ps_rows.specs.declared.row_history.BoardStep.TheVariants.{Rows, Whole}

-- a list without its last item
take_front : {X : Type 0} (xs : List X) (x : X) → take (length (xs ++ x ∷ []) - 1) (xs ++ x ∷ []) ≡ xs
take_front xs x =
    let count : length (xs ++ x ∷ []) - 1 ≡ length xs = omega (arith, length_push xs x) in
    let long : length xs ≤ length xs = omega arith in
    ap (λ (n : ℕ). take n (xs ++ x ∷ [])) count ∙ take-append-le (length xs) xs (x ∷ []) long
    ∙ take_all (length xs) xs long

-- its last item
last_pushed : {X : Type 0} (xs : List X) (x : X) → slice_get (xs ++ x ∷ []) (length (xs ++ x ∷ []) - 1) ≡ Some x
last_pushed xs x =
    let within : length (xs ++ x ∷ []) - 1 < length (xs ++ x ∷ []) = omega (arith, length_push xs x) in
    let place : length xs ≡ length (xs ++ x ∷ []) - 1 = omega (arith, length_push xs x) in
    slice_get-get_or (xs ++ x ∷ []) (length (xs ++ x ∷ []) - 1) x within
    ∙ ap Some (get_or_push xs x x (length (xs ++ x ∷ []) - 1) place)

-- the last step of some, if there is one
pub all_but_last : {X : Type 0} (xs : List X) (x : X) → slice_get xs (length xs - 1) ≡ Some x →
    xs ≡ take (length xs - 1) xs ++ x ∷ []
all_but_last {X = X} xs x e =
    let some : length xs - 1 < length xs = slice_get_within xs (length xs - 1) x e in
    let last : length xs ≡ length xs - 1 + 1 = omega arith in
    let long : length xs ≤ length xs = omega arith in
    sym (take_all (length xs) xs long) ∙ ap (λ (n : ℕ). take n xs) last ∙ take_more xs (length xs - 1) x some
    ∙ ap (λ (y : X). take (length xs - 1) xs ++ y ∷ []) (get_or_from_slice_get xs (length xs - 1) x x e)

pub no_last : {X : Type 0} (xs : List X) → slice_get xs (length xs - 1) ≡ None → xs ≡ []
no_last [] e = refl
no_last (y ∷ ys) e =
    let some : length (y ∷ ys) - 1 < length (y ∷ ys) = omega arith in
    absurd (none-some _ (sym e ∙ slice_get-get_or (y ∷ ys) (length (y ∷ ys) - 1) y some))

module _ {B : Type 0} (keeps : B → Kept) where
  -- a step more, from a new latest board back to the one that was it
  pub oldest_push : (new old : Kept) (steps : List (Step B)) (back : Step B) → stepped new back keeps ≡ old →
      oldest new (steps ++ back ∷ []) keeps ≡ oldest old steps keeps
  unfolding oldest
  oldest_push new old [] back e = e
  oldest_push new old (step ∷ steps) back e = ap (λ (board : Kept).
      stepped board step keeps) (oldest_push new old steps back e)

  pub behind_push : (new old : Kept) (steps : List (Step B)) (back : Step B) → stepped new back keeps ≡ old →
      behind new (steps ++ back ∷ []) keeps ≡ behind old steps keeps ++ old ∷ []
  unfolding oldest behind
  behind_push new old [] back e = ap (λ (board : Kept). board ∷ []) e
  behind_push new old (step ∷ steps) back e =
      ap₂ (λ (board : Kept) (boards : List Kept).
      board ∷ boards) (oldest_push new old (step ∷ steps) back e) (behind_push new old steps back e)

  -- no board behind one
  nothing_behind : (board : Kept) → map shown (behind board [] keeps ++ board ∷ []) ≡ shown board ∷ []
  unfolding behind
  nothing_behind board = refl

  no_boards : (board : Kept) → All IsBoard (behind board [] keeps)
  unfolding behind
  no_boards board = All-nil IsBoard

  length-behind : (board : Kept) (steps : List (Step B)) → length (behind board steps keeps) ≡ length steps
  unfolding behind
  length-behind board [] = refl
  length-behind board (step ∷ steps) = ap (λ (n : ℕ). suc n) (length-behind board steps)

  behind_drop : (n : ℕ) (board : Kept) (steps : List (Step B)) →
      behind board (drop n steps) keeps ≡ drop n (behind board steps keeps)
  unfolding behind
  behind_drop zero board steps = refl
  behind_drop (suc n) board [] = refl
  behind_drop (suc n) board (step ∷ steps) = behind_drop n board steps

  -- the boards behind a latest one, in place of another one that they are behind with it
  behind_entered : (new old : Kept) (steps after : List (Step B)) (back : Step B) → stepped new back keeps ≡ old →
      after ≡ drop (length (steps ++ back ∷ []) - (HISTORY_LIMIT - 1)) (steps ++ back ∷ []) →
      behind new after keeps ≡ drop (length (steps ++ back ∷ []) - (HISTORY_LIMIT - 1))
      (behind old steps keeps ++ old ∷ [])
  behind_entered new old steps after back e is =
      let count : ℕ = length (steps ++ back ∷ []) - (HISTORY_LIMIT - 1) in
      ap (λ (ss : List (Step B)). behind new ss keeps) is
      ∙ behind_drop count new (steps ++ back ∷ []) ∙ ap (drop count) (behind_push new old steps back e)

  -- a board enters the history
  pub boards_entered : (latest next : B) (steps after : List (Step B)) (back : Step B) →
      stepped (keeps next) back keeps ≡ keeps latest →
      after ≡ drop (length (steps ++ back ∷ []) - (HISTORY_LIMIT - 1)) (steps ++ back ∷ []) →
      boards_of (Some next) after keeps ≡ boards_kept (boards_of (Some latest) steps keeps ++ shown (keeps next) ∷ [])
  boards_entered latest next steps after back e is =
      let count : ℕ = length (steps ++ back ∷ []) - (HISTORY_LIMIT - 1) in
      let before : List Kept = behind (keeps latest) steps keeps ++ keeps latest ∷ [] in
      let all : List Kept = before ++ keeps next ∷ [] in
      let long : length before ≡ length steps + 1 = length_push (behind (keeps latest) steps keeps) (keeps latest)
      ∙ ap (λ (n : ℕ). n + 1) (length-behind (keeps latest) steps) in
      let stepped_long : length (steps ++ back ∷ []) ≡ length steps + 1 = length_push steps back in
      let whole : length all ≡ length before + 1 = length_push before (keeps next) in
      let mapped : length (map shown all) ≡ length all = length-map all shown in
      let few : count ≤ length before = omega (arith, long, stepped_long) in
      let same : count ≡ length (map shown all) - HISTORY_LIMIT = omega (arith, long, stepped_long, whole, mapped) in
      ap (λ (boards : List Kept). map shown (boards ++ keeps next ∷ []))
      (behind_entered (keeps next) (keeps latest) steps after back e is)
      ∙ ap (map shown) (sym (drop-append-le count before (keeps next ∷ []) few))
      ∙ sym (drop-map shown count all)
      ∙ ap (λ (n : ℕ). drop n (map shown all)) same
      ∙ ap boards_kept (map-append shown before (keeps next ∷ []))

  pub are_entered : (latest next : B) (steps after : List (Step B)) (back : Step B) →
      stepped (keeps next) back keeps ≡ keeps latest →
      after ≡ drop (length (steps ++ back ∷ []) - (HISTORY_LIMIT - 1)) (steps ++ back ∷ []) →
      IsBoard (keeps latest) → All IsBoard (behind (keeps latest) steps keeps) →
      All IsBoard (behind (keeps next) after keeps)
  are_entered latest next steps after back e is board boards =
      All-same IsBoard (behind (keeps next) after keeps) _
      (behind_entered (keeps next) (keeps latest) steps after back e is)
      (All-drop IsBoard (length (steps ++ back ∷ []) - (HISTORY_LIMIT - 1))
      (behind (keeps latest) steps keeps ++ keeps latest ∷ [])
      (All-push IsBoard (behind (keeps latest) steps keeps) (keeps latest) boards board))

  -- the latest board leaves
  pub boards_gone : (latest next : B) (steps front : List (Step B)) (step : Step B) → steps ≡ front ++ step ∷ [] →
      keeps next ≡ stepped (keeps latest) step keeps →
      boards_of (Some next) front keeps ≡ boards_before (boards_of (Some latest) steps keeps)
  boards_gone latest next steps front step is e =
      let before : List Kept = behind (keeps next) front keeps ++ keeps next ∷ [] in
      let so : behind (keeps latest) steps keeps ≡ before =
      ap (λ (ss : List (Step B)). behind (keeps latest) ss keeps) is
      ∙ behind_push (keeps latest) (keeps next) front step (sym e) in
      sym (take_front (map shown before) (shown (keeps latest)))
      ∙ ap boards_before (sym (map-append shown before (keeps latest ∷ [])))
      ∙ ap (λ (boards : List Kept). boards_before (map shown (boards ++ keeps latest ∷ []))) (sym so)

  pub are_gone : (latest next : B) (steps front : List (Step B)) (step : Step B) → steps ≡ front ++ step ∷ [] →
      keeps next ≡ stepped (keeps latest) step keeps →
      All IsBoard (behind (keeps latest) steps keeps) → All IsBoard (behind (keeps next) front keeps)
  are_gone latest next steps front step is e boards =
      (All-pop IsBoard (behind (keeps latest) steps keeps) (behind (keeps next) front keeps) (Some (keeps next))
      (ap (λ (ss : List (Step B)). behind (keeps latest) ss keeps) is
      ∙ behind_push (keeps latest) (keeps next) front step (sym e)) boards).0

  -- the last step leads to a board
  pub last_leads : (latest : Kept) (steps front : List (Step B)) (step : Step B) → steps ≡ front ++ step ∷ [] →
      All IsBoard (behind latest steps keeps) → LeadsOn latest step
  last_leads latest steps front step is boards =
      leads_on latest step
      (All-pop IsBoard (behind latest steps keeps) (behind (stepped latest step keeps) front keeps)
      (Some (stepped latest step keeps))
      (ap (λ (ss : List (Step B)). behind latest ss keeps) is
      ∙ behind_push latest (stepped latest step keeps) front step refl) boards).1
    where
      leads_on : (board : Kept) (s : Step B) → IsBoard (stepped board s keeps) → LeadsOn board s
      leads_on board (Rows rows) is = is
      leads_on board (Whole other) is = tt

  -- where the latest board and the step that is ready are told --------------------------------------------------------

  pub ready_leads : (latest : Option B) (ready : Option (Step B)) (board : B) (step : Step B) → Some board ≡ latest →
      Some step ≡ ready → IsReady latest ready keeps →
      LeadsOn (keeps board) step × LeadsBack (keeps board) step
  ready_leads latest ready board step e f is =
      let P : Option B → Type 0 = λ o. IsReady o ready keeps in
      let Q : Option (Step B) → Type 0 = λ o. IsReady (Some board) o keeps in
      subst Q (sym f) (subst P (sym e) is)

  pub entered_boards : (latest : Option B) (ready : Option (Step B)) (board next : B) (step back : Step B)
      (steps after : List (Step B)) (capacity : ℕ) (entering : BoardShown) →
      Some board ≡ latest → Some step ≡ ready → keeps next ≡ stepped (keeps board) step keeps →
      (LeadsBack (keeps board) step → stepped (keeps next) back keeps ≡ keeps board) →
      capacity ≡ HISTORY_LIMIT - 1 → after ≡ drop (length (steps ++ back ∷ []) - capacity) (steps ++ back ∷ []) →
      IsReady latest ready keeps → ready_of latest ready keeps ≡ Some entering →
      boards_of (Some next) after keeps ≡ boards_kept (boards_of latest steps keeps ++ entering ∷ [])
  entered_boards latest ready board next step back steps after capacity entering e f forth turns room is leads enters =
      let both = ready_leads latest ready board step e f leads in
      let P : Option B → Type 0 = λ o. ready_of o ready keeps ≡ Some entering in
      let Q : Option (Step B) → Type 0 = λ o. ready_of (Some board) o keeps ≡ Some entering in
      let here : shown (keeps next) ≡ entering = ap shown forth
      ∙ same_Some _ _ (subst Q (sym f) (subst P (sym e) enters)) in
      boards_entered board next steps after back (turns both.1) (is
      ∙ ap (λ (n : ℕ). drop (length (steps ++ back ∷ []) - n) (steps ++ back ∷ [])) room)
      ∙ ap (λ (shows : BoardShown). boards_kept (boards_of (Some board) steps keeps ++ shows ∷ [])) here
      ∙ ap (λ (o : Option B). boards_kept (boards_of o steps keeps ++ entering ∷ [])) e

  pub entered_are : (latest : Option B) (ready : Option (Step B)) (board next : B) (step back : Step B)
      (steps after : List (Step B)) (capacity : ℕ) →
      Some board ≡ latest → Some step ≡ ready →
      (LeadsBack (keeps board) step → stepped (keeps next) back keeps ≡ keeps board) →
      capacity ≡ HISTORY_LIMIT - 1 → after ≡ drop (length (steps ++ back ∷ []) - capacity) (steps ++ back ∷ []) →
      IsReady latest ready keeps → IsBoard (keeps board) →
      AreBehind latest steps keeps → AreBehind (Some next) after keeps
  entered_are latest ready board next step back steps after capacity e f turns room is leads whole behinds =
      let both = ready_leads latest ready board step e f leads in
      let P : Option B → Type 0 = λ o. AreBehind o steps keeps in
      are_entered board next steps after back (turns both.1) (is
      ∙ ap (λ (n : ℕ). drop (length (steps ++ back ∷ []) - n) (steps ++ back ∷ [])) room) whole
      (subst P (sym e) behinds)

  -- the first board enters
  pub first_boards : (latest : Option B) (ready : Option (Step B)) (step : Step B) (steps : List (Step B))
      (entering : BoardShown) → None ≡ latest → Some step ≡ ready →
      AreBehind latest steps keeps → ready_of latest ready keeps ≡ Some entering →
      boards_of (first_of step) steps keeps ≡ boards_kept (boards_of latest steps keeps ++ entering ∷ [])
  first_boards latest ready step steps entering e f behinds enters =
      let P : Option B → Type 0 = λ o. ready_of o ready keeps ≡ Some entering in
      let Q : Option (Step B) → Type 0 = λ o. ready_of None o keeps ≡ Some entering in
      let R : Option B → Type 0 = λ o. AreBehind o steps keeps in
      first_entered step steps entering (subst R (sym e) behinds) (subst Q (sym f) (subst P (sym e) enters))
      ∙ ap (λ (o : Option B). boards_kept (boards_of o steps keeps ++ entering ∷ [])) e
    where
      first_entered : (step : Step B) (steps : List (Step B)) (entering : BoardShown) → steps ≡ [] →
          ready_of None (Some step) keeps ≡ Some entering →
          boards_of (first_of step) steps keeps ≡ boards_kept (boards_of None steps keeps ++ entering ∷ [])
      first_entered (Rows rows) steps entering none enters = absurd (none-some entering enters)
      first_entered (Whole board) steps entering none enters =
          ap (λ (ss : List (Step B)). boards_of (Some board) ss keeps) none ∙ nothing_behind (keeps board)
          ∙ ap (λ (shows : BoardShown). shows ∷ []) (same_Some _ _ enters)

  pub first_are : (latest : Option B) (step : Step B) (steps : List (Step B)) → None ≡ latest →
      AreBehind latest steps keeps → AreBehind (first_of step) steps keeps
  first_are latest step steps e behinds = let R : Option B → Type 0 = λ o. AreBehind o steps keeps in
      none_behind step steps (subst R (sym e) behinds)
    where
      none_behind : (step : Step B) (steps : List (Step B)) → steps ≡ [] → AreBehind (first_of step) steps keeps
      none_behind (Rows rows) steps none = none
      none_behind (Whole board) steps none = let S : List (Step B) → Type 0 = λ ss. AreBehind (Some board) ss keeps in
          subst S (sym none) (no_boards (keeps board))

  -- the latest board leaves
  pub gone_leads : (latest : Option B) (board : B) (step : Step B) (steps : List (Step B)) → Some board ≡ latest →
      Some step ≡ slice_get steps (length steps - 1) → AreBehind latest steps keeps →
      LeadsOn (keeps board) step
  gone_leads latest board step steps e last behinds =
      let P : Option B → Type 0 = λ o. AreBehind o steps keeps in
      last_leads (keeps board) steps (take (length steps - 1) steps) step (all_but_last steps step (sym last))
      (subst P (sym e) behinds)

  pub gone_boards : (latest : Option B) (board next : B) (step : Step B) (steps front : List (Step B)) →
      Some board ≡ latest → Some step ≡ slice_get steps (length steps - 1) →
      front ≡ take (length steps - 1) steps → keeps next ≡ stepped (keeps board) step keeps →
      boards_of (Some next) front keeps ≡ boards_before (boards_of latest steps keeps)
  gone_boards latest board next step steps front e last is forth =
      boards_gone board next steps front step (all_but_last steps step (sym last)
      ∙ ap (λ (ss : List (Step B)). ss ++ step ∷ []) (sym is)) forth
      ∙ ap (λ (o : Option B). boards_before (boards_of o steps keeps)) e

  pub gone_are : (latest : Option B) (board next : B) (step : Step B) (steps front : List (Step B)) →
      Some board ≡ latest → Some step ≡ slice_get steps (length steps - 1) →
      front ≡ take (length steps - 1) steps → keeps next ≡ stepped (keeps board) step keeps →
      AreBehind latest steps keeps → AreBehind (Some next) front keeps
  gone_are latest board next step steps front e last is forth behinds =
      let P : Option B → Type 0 = λ o. AreBehind o steps keeps in
      are_gone board next steps front step (all_but_last steps step (sym last)
      ∙ ap (λ (ss : List (Step B)). ss ++ step ∷ []) (sym is)) forth (subst P (sym e) behinds)

  -- the latest board
  pub latest_shown : (latest : Option B) (board : B) (steps : List (Step B)) → Some board ≡ latest →
      latest_board (boards_of latest steps keeps) ≡ Some (shown (keeps board))
  latest_shown latest board steps e =
      ap (λ (o : Option B). latest_board (boards_of o steps keeps)) (sym e)
      ∙ ap latest_board (map-append shown (behind (keeps board) steps keeps) (keeps board ∷ []))
      ∙ last_pushed (map shown (behind (keeps board) steps keeps)) (shown (keeps board))

  -- it was the only one
  pub gone_all : (latest : Option B) (board : B) (steps : List (Step B)) → Some board ≡ latest →
      None ≡ slice_get steps (length steps - 1) → [] ≡ boards_before (boards_of latest steps keeps)
  gone_all latest board steps e last =
      ap boards_before (sym (nothing_behind (keeps board)))
      ∙ ap (λ (ss : List (Step B)). boards_before (boards_of (Some board) ss keeps)) (sym (no_last steps (sym last)))
      ∙ ap (λ (o : Option B). boards_before (boards_of o steps keeps)) e

  -- there is none that could leave
  pub none_are : (latest after : Option B) (steps : List (Step B)) → after ≡ latest → AreBehind latest steps keeps →
      AreBehind after steps keeps
  none_are latest after steps same behinds = let P : Option B → Type 0 = λ o. AreBehind o steps keeps in
      subst P (sym same) behinds

  pub none_left : (latest after : Option B) (steps : List (Step B)) → after ≡ None → latest ≡ None →
      boards_of after steps keeps ≡ boards_before (boards_of latest steps keeps)
  none_left latest after steps gone none = rw (gone, none) refl

  pub gone_rest : (after : Option B) (steps front : List (Step B)) → after ≡ None →
      None ≡ slice_get steps (length steps - 1) → front ≡ take (length steps - 1) steps → AreBehind after front keeps
  gone_rest after steps front gone last is =
      let P : Option B → Type 0 = λ o. AreBehind o front keeps in
      subst P (sym gone)
      (is ∙ ap (λ (ss : List (Step B)). take (length ss - 1) ss) (no_last steps (sym last)))

-- what is read of a board whose rows became those of another one, of the same size for the same game
module _ (table table' : List ℕ) (width width' height height' layers layers' : ℕ) (now others : List (List Bool))
    (same : table' ≡ table) (wide : width' ≡ width) (high : height' ≡ height) (deep : layers' ≡ layers)
    (are : now ≡ others) where
  pub alike_shown : shown (kept table width height layers now) ≡ shown (kept table' width' height' layers' others)
  alike_shown = rw (same, wide, high, deep, are) refl

  pub alike_board : AreObjectsShown table' height' others (width' * height') →
      AreMotionsShown table' layers' height' others (width' * height') → IsBoard (kept table width height layers now)
  alike_board objects motions = record {
    objects = rw are (rw (same, wide, high) at objects);
    motions = rw are (rw (same, wide, high, deep) at motions);
  }

-- a board that keeps what another one does
pub kept_same : (table table' : List ℕ) (width width' height height' layers layers' : ℕ)
    (words words' : List (List Bool)) → table' ≡ table → width' ≡ width → height' ≡ height → layers' ≡ layers →
    words' ≡ words → kept table' width' height' layers' words' ≡ kept table width height layers words
kept_same table table' width width' height height' layers layers' words words' same wide high deep are =
    rw (same, wide, high, deep, are) refl
