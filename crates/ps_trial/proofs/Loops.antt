-- Again turns, one after the other.
use Rattle.std.proofs.Common.{◌≡◌, ◌∙◌, ℕ, suc, Option, None, sym, ap}
use Rattle.ps_model.specs.declared.limits.TheConstants.{AGAIN_LIMIT}
use Rattle.ps_model.specs.board.Turns.{Script, Outcome, turn}
use Rattle.ps_model.specs.session.Solving.{Spot}
use Rattle.ps_trial.specs.SilentStarts.{Boards, start_turn_by, start_turns, all_start_turns}
use Rattle.ps_trial.specs.SilentKeys.{key_turn_by, key_turns, all_key_turns}

-- one more again turn, where turns are those of a start or those of a key
pub one_more : {Spots : Type 0} (turns : Script → ℕ → Boards → Spots) (script other : Script) (most left next : ℕ)
    (first boards : Boards) (shown : (Boards → Spots) → Spots) → other ≡ script → left ≡ suc next →
    turns script most first ≡ turns script left boards → turns other (suc next) boards ≡ shown (turns other next) →
    turns script most first ≡ shown (turns script next)
one_more turns script other most left next first boards shown same count rest one =
    rest
    ∙ ap (λ (n : ℕ). turns script n boards) count
    ∙ ap (λ (s : Script). turns s (suc next) boards) (sym same)
    ∙ one
    ∙ ap (λ (s : Script). shown (turns s next)) same

-- an again turn of a key goes by its outcome
pub key_by_outcome : (script other : Script) (left : ℕ) (boards : Boards) (outcome : Outcome) (came : Option Spot) →
    other ≡ script → outcome ≡ turn script None boards.board →
    key_turn_by other boards left (key_turns script left) outcome ≡ came → key_turns script (suc left) boards ≡ came
key_by_outcome script other left boards outcome came same ran comes =
    ap (key_turn_by script boards left (key_turns script left)) (sym ran)
    ∙ ap (λ (s : Script). key_turn_by s boards left (key_turns script left) outcome) (sym same)
    ∙ comes

-- so does one of a start
pub start_by_outcome : (script : Script) (left : ℕ) (boards : Boards) (outcome : Outcome) (came : Spot) →
    outcome ≡ turn script None boards.board → start_turn_by boards left (start_turns script left) outcome ≡ came →
    start_turns script (suc left) boards ≡ came
start_by_outcome script left boards outcome came ran comes =
    ap (start_turn_by boards left (start_turns script left)) (sym ran) ∙ comes

-- as many as there may be
pub all_starts : (script : Script) (boards : Boards) (most : ℕ) → most ≡ AGAIN_LIMIT →
    all_start_turns script boards ≡ start_turns script most boards
unfolding all_start_turns
all_starts script boards most e = ap (λ (n : ℕ). start_turns script n boards) (sym e)

pub all_keys : (script : Script) (boards : Boards) (most : ℕ) → most ≡ AGAIN_LIMIT →
    all_key_turns script boards ≡ key_turns script most boards
unfolding all_key_turns
all_keys script boards most e = ap (λ (n : ℕ). key_turns script n boards) (sym e)
