-- What comes of keys, a key further.
use Rattle.std.proofs.Common.{◌≡◌, ◌∙◌, ◌++◌, ◌+◌, ◌<◌, ℕ, zero, suc, List, [], ◌∷◌, length, take, get_or, refl, sym}
use Rattle.std.proofs.Common.{ap, arith}
use Rattle.std.proofs.lemmas.Grind.{common_steps}
use Rattle.ps_model.specs.declared.play.Key.{Key}
use Rattle.ps_model.specs.board.Turns.{Script}
use Rattle.ps_model.specs.session.KeySteps.{key_step}
use Rattle.ps_model.specs.session.Sessions.{Session}
use Rattle.ps_laws.specs.AlikeScripts.{SameRuns}
use Rattle.ps_laws.specs.Fronts.{session_after}
use Rattle.ps_laws.proofs.keys.Fronts.{session_after-append}
use Rattle.ps_records.specs.Courses.{Course, begun, course_by, course_of, followed, place_after, place_of}
use Rattle.ps_records.specs.declared.courses.Place.{Place}
use Rattle.ps_run.proofs.PlayedKeys.{same_played}

-- keys ----------------------------------------------------------------------------------------------------------------

taken_more : (keys : List Key) (k : ℕ) (d : Key) → k < length keys →
    take (k + 1) keys ≡ take k keys ++ get_or keys k d ∷ []
taken_more [] k d few = absurd (omega (arith, few))
taken_more (key ∷ keys) zero d few = refl
taken_more (key ∷ keys) (suc k) d few =
    let next : suc k + 1 ≡ suc (k + 1) = omega arith in
    ap (λ (n : ℕ). take n (key ∷ keys)) next
    ∙ ap (λ (others : List Key). key ∷ others) (taken_more keys k d (omega (arith, few)))

pub all_taken : (keys : List Key) (k : ℕ) → k ≡ length keys → take k keys ≡ keys
all_taken keys k all = grind (arith, common_steps)

-- the session after one more key
pub one_more : (script own : Script) (start now next : Session) (keys : List Key) (k : ℕ) (d : Key) → k < length keys →
    own ≡ script → now ≡ session_after script start (take k keys) →
    next ≡ (key_step own now (get_or keys k d)).session → next ≡ session_after script start (take (k + 1) keys)
one_more script own start now next keys k d within same was stepped =
    let key : Key = get_or keys k d in
    stepped
    ∙ ap (λ (s : Script). (key_step s now key).session) same
    ∙ ap (λ (s : Session). (key_step script s key).session) was
    ∙ sym (ap (session_after script start) (taken_more keys k d within)
    ∙ session_after-append script start (take k keys) (key ∷ []))

-- what has come of one more key
pub course_more : (script : Script) (start now next : Session) (keys : List Key) (k number : ℕ)
    (before after : Course) → number ≡ k + 1 → now ≡ session_after script start (take k keys) →
    next ≡ session_after script start (take (k + 1) keys) → before ≡ course_by (place_after script start keys) k →
    after ≡ followed before number (place_of now) (place_of next) →
    after ≡ course_by (place_after script start keys) (k + 1)
course_more script start now next keys k number before after n a b was followed_is =
    let places : ℕ → Place = place_after script start keys in
    let one : k + 1 ≡ suc k = omega arith in
    followed_is
    ∙ ap (λ (c : Course). followed c number (place_of now) (place_of next)) was
    ∙ ap (λ (s : Session). followed (course_by places k) number (place_of s) (place_of next)) a
    ∙ ap (λ (s : Session). followed (course_by places k) number (places k) (place_of s)) b
    ∙ ap (λ (m : ℕ). followed (course_by places k) m (places k) (places (k + 1))) n
    ∙ ap (λ (m : ℕ). followed (course_by places k) m (places k) (places m)) one
    ∙ sym (ap (course_by places) one)

-- scripts -------------------------------------------------------------------------------------------------------------

by_places : (f g : ℕ → Place) → ((k : ℕ) → f k ≡ g k) → (n : ℕ) → course_by f n ≡ course_by g n
by_places f g same zero = ap begun (same zero)
by_places f g same (suc n) =
    ap (λ (c : Course). followed c (suc n) (f n) (f (suc n))) (by_places f g same n)
    ∙ ap (λ (p : Place). followed (course_by g n) (suc n) p (f (suc n))) (same n)
    ∙ ap (λ (p : Place). followed (course_by g n) (suc n) (g n) p) (same (suc n))

-- scripts with the same runs come to the same
pub course_alike : (a b : Script) → SameRuns a b → (keys : List Key) → course_of a keys ≡ course_of b keys
course_alike a b runs keys =
    by_places _ _ (λ k. ap place_of (same_played a b runs (take k keys))) (length keys)
