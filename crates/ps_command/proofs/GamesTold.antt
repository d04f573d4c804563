-- Lines on texts that are told one behind the other.
use Rattle.std.proofs.Common.{◌≡◌, ◌∙◌, ℕ, ◌+◌, ◌-◌, ◌<◌, ◌++◌, ◌∷◌, inl, inr, List, [], Option, length}
use Rattle.std.proofs.Common.{Bool, Bor, zero, suc, map, take, true, get_or, refl, sym, ap, arith}
use Rattle.std.specs.List.{concat}
use Rattle.std.proofs.lemmas.Bool.{cases_lt}
use Rattle.std.proofs.lemmas.List.{append-nil, get_or_append_left, get_or-append_right, length-append}
use Rattle.std.proofs.lemmas.List.Folds.{concat-append}
use Rattle.ps_check.specs.Checks.{named_line}
use Rattle.ps_devices.specs.Devices.{Grows}
use Rattle.ps_devices.proofs.Pieces.{grows_twice}
use Rattle.ps_devices.proofs.Unmoved.{nothing_taken}
use Rattle.ps_command.specs.Details.{TellsOn}
use Rattle.ps_command.specs.Told.{AreLinesOnFile, IsLineOfGame, TellsInOrder, TellsOf, TellsOfFiles, TellsOfGames}
use Rattle.ps_report.specs.declared.details.Detail.{Detail}

-- none so far
pub told_none : (Belongs : List ℕ → List ℕ → Type 0) (before : Option (List ℕ)) → TellsInOrder Belongs [] before before
told_none Belongs before =
    record {
      lines = [];
      long = refl;
      each = λ k few. absurd (omega (arith, few));
      wrote = nothing_taken before;
    }

-- one more name
pub names_more : (paths : List (Bor (List ℕ))) (k : ℕ) (default : Bor (List ℕ)) → k < length paths →
    map (λ path. path.now) (take (k + 1) paths)
    ≡ map (λ path. path.now) (take k paths) ++ (get_or paths k default).now ∷ []
names_more [] k default few = absurd (omega (arith, few))
names_more (path ∷ paths) zero default few = refl
names_more (path ∷ paths) (suc k) default few =
    let next : suc k + 1 ≡ suc (k + 1) = omega arith in
    ap (λ (n : ℕ). map (λ each. each.now) (take n (path ∷ paths))) next
    ∙ ap (λ (names : List (List ℕ)). path.now ∷ names) (names_more paths k default (omega (arith, few)))

-- the last one
last : (lists : List (List ℕ)) (list : List ℕ) (k : ℕ) → length lists ≡ k → get_or (lists ++ list ∷ []) k [] ≡ list
last lists list k is =
    let first : k - k ≡ 0 = omega arith in
    get_or-append_right lists (list ∷ []) k k [] is (omega arith)
    ∙ ap (λ (i : ℕ). get_or (list ∷ []) i []) first

-- one more
pub told_more : (Belongs : List ℕ → List ℕ → Type 0) (names : List (List ℕ)) (name line : List ℕ)
    (before between after : Option (List ℕ)) → TellsInOrder Belongs names before between → Belongs name line →
    Grows between after line → TellsInOrder Belongs (names ++ name ∷ []) before after
told_more Belongs names name line before between after was belongs wrote =
    let long : length (was.lines ++ line ∷ []) ≡ length (names ++ name ∷ []) =
    length-append was.lines (line ∷ []) ∙ ap (λ (n : ℕ). n + 1) was.long ∙ sym (length-append names (name ∷ [])) in
    record {
      lines = was.lines ++ line ∷ [];
      long = long;
      each = λ k few. elim (cases_lt k (length names)) [
        | inl early ↦
            let there : k < length was.lines = omega (arith, early, was.long) in
            rw (
              get_or_append_left names (name ∷ []) [] k early,
              get_or_append_left was.lines (line ∷ []) [] k there,
            ) (was.each k early)
        | inr late ↦
            let all : length (names ++ name ∷ []) ≡ length names + 1 = length-append names (name ∷ []) in
            let at : k ≡ length names = omega (arith, late, few, all) in
            rw (
              at,
              last names name (length names) refl,
              last was.lines line (length names) was.long,
            )
            belongs
      ];
      wrote = grows_twice before between after (concat was.lines) line (concat (was.lines ++ line ∷ [])) was.wrote wrote
          (concat-append was.lines (line ∷ []) ∙ ap (λ (rest : List ℕ). concat was.lines ++ rest) (append-nil line));
    }

-- one more game
pub games_more : (names : List (List ℕ)) (detail : Detail) (name : List ℕ) (before between after : Option (List ℕ)) →
    TellsOfGames names before between → TellsOf detail name true between after →
    TellsOfGames (names ++ name ∷ []) before after
games_more names detail name before between after was told =
    told_more IsLineOfGame names name (named_line name told.text) before between after was
    (record { text = told.text; accepted = sym told.is; is = refl }) (told.alone refl)

-- one more text
pub files_more : (names : List (List ℕ)) (detail : Detail) (name : List ℕ) (accepted : Bool)
    (before between after : Option (List ℕ)) → TellsOfFiles detail names before between →
    TellsOf detail name accepted between after → TellsOfFiles detail (names ++ name ∷ []) before after
files_more names detail name accepted before between after was told =
    let here : TellsOn detail told.text (named_line name told.text) between after = told.wrote in
    told_more (AreLinesOnFile detail) names name (named_line name told.text ++ here.more) before between after was
    (inr (record { text = told.text; more = here.more; is = here.is; are = refl })) here.wrote

-- one more file that can't be read
pub files_unread : (names : List (List ℕ)) (detail : Detail) (name : List ℕ) (before between after : Option (List ℕ)) →
    TellsOfFiles detail names before between → after ≡ between → TellsOfFiles detail (names ++ name ∷ []) before after
files_unread names detail name before between after was same =
    rw same (told_more (AreLinesOnFile detail) names name [] before between between was (inl refl)
    (nothing_taken between))
