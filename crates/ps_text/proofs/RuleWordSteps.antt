-- The words of a line of RULES from a place of it on, a byte further.
use Rattle.std.proofs.Common.{◌≡◌, ℕ, zero, suc, ◌+◌, ◌-◌, ◌<◌, ◌≤◌, ◌||◌, ◌&&◌, if◌then◌else◌, ◌==◌, Bool, true, false}
use Rattle.std.proofs.Common.{Option, Some, None, List, [], ◌∷◌, ◌++◌, length, drop, get_or, refl, ap, sym, ◌∙◌, arith}
use Rattle.std.proofs.Common.{add-one, drop-cons}
use Rattle.std.specs.Prelude.{is_some, nat_lt}
use Rattle.std.specs.List.{prefix_len}
use Rattle.std.proofs.lemmas.Bool.Decides.{nat_tests}
use Rattle.std.proofs.lemmas.Grind.{common_steps}
use Rattle.std.proofs.lemmas.List.{drop_all, drop-drop}
use Rattle.ps_model.specs.text.Words.{is_blank, run_to}
use Rattle.ps_model.specs.text.RuleWords.{rule_words_from, rule_words_in, words_behind_plus, own_length, begins_arrow}
use Rattle.ps_model.specs.text.RuleWords.{is_own_word, is_bracket_or_bar, is_sign}
use Rattle.ps_text.specs.WordRanges.{rule_words_behind}

-- no `->` at the last byte
pub no_arrow_at_end : (line : List ℕ) (at : ℕ) → at < length line → length line ≤ at + 1 →
    begins_arrow (drop at line) ≡ false
no_arrow_at_end line at l h =
    let gone : drop (suc at) line ≡ [] = drop_all (suc at) line (omega arith) in
    rw (drop-cons line at 0 l, gone) refl

-- the bytes that a word by itself is made of are read past
skipped : (n place : ℕ) (bytes : List ℕ) → rule_words_from n place None bytes ≡ rule_words_from 0 (place + n) None
    (drop n bytes)
skipped zero place bytes = let e : place ≡ place + 0 = omega arith in ap (λ (p : ℕ). rule_words_from 0 p None bytes) e
skipped (suc n) place [] = refl
skipped (suc n) place (byte ∷ bytes) = skipped n (suc place) bytes
    ∙ ap (λ (p : ℕ). rule_words_from 0 p None (drop n bytes)) (omega arith)

-- a word by itself, where a run may be open
own_split : (place byte : ℕ) (bytes : List ℕ) (open_run : Option ℕ) (own : ℕ) → is_blank byte ≡ false →
    own_length (is_some open_run) (byte ∷ bytes) ≡ own → nat_lt 0 own ≡ true →
    rule_words_from 0 place open_run (byte ∷ bytes) ≡ run_to open_run place ++ (place, place + own) ∷ rule_words_from
    (own - 1) (suc place) None bytes
own_split place byte bytes open_run own h o p =
    rw (rule_words_from, h, o, p) (ap (λ (n : ℕ).
    run_to open_run place ++ (place, place + n) ∷ rule_words_from (n - 1) (suc place) None bytes) o)

own_here : (own place : ℕ) (byte : ℕ) (bytes : List ℕ) → is_blank byte ≡ false →
    own_length false (byte ∷ bytes) ≡ suc own →
    rule_words_from 0 place None (byte ∷ bytes) ≡ (place, place + suc own) ∷ rule_words_from 0 (place + suc own) None
    (drop own bytes)
own_here own place byte bytes h o =
    let behind : rule_words_from own (suc place) None bytes ≡ rule_words_from 0 (place + suc own) None (drop own bytes)
    =
    skipped own (suc place) bytes ∙ ap (λ (p : ℕ). rule_words_from 0 p None (drop own bytes)) (omega arith) in
    let some : nat_lt 0 (suc own) ≡ true = grind (arith, nat_tests) in
    let less : suc own - 1 ≡ own = omega arith in
    own_split place byte bytes None (suc own) h o some
    ∙ rw less (ap (λ (ws : List (ℕ × ℕ)). (place, place + suc own) ∷ ws) behind)

-- a word by itself, and those after it
pub own_word : (line : List ℕ) (at own : ℕ) → at < length line → is_blank (get_or line at 0) ≡ false →
    own_length false (drop at line) ≡ own → 0 < own →
    rule_words_behind line at ≡ (at, at + own) ∷ rule_words_behind line (at + own)
own_word line at zero l h o p = absurd (omega arith)
own_word line at (suc own) l h o p =
    let bytes : List ℕ = drop (suc at) line in
    let here : own_length false (get_or line at 0 ∷ bytes) ≡ suc own =
    ap (own_length false) (sym (drop-cons line at 0 l)) ∙ o in
    let behind : drop own bytes ≡ drop (at + suc own) line = drop-drop own (suc at) line
    ∙ ap (λ (n : ℕ). drop n line) (omega arith) in
    rw (drop-cons line at 0 l) (own_here own at (get_or line at 0) bytes h here)
    ∙ ap (λ (bs : List ℕ). (at, at + suc own) ∷ rule_words_from 0 (at + suc own) None bs) behind

-- a run begins
pub rule_run_begins : (line : List ℕ) (at : ℕ) → at < length line → is_blank (get_or line at 0) ≡ false →
    own_length false (drop at line) ≡ 0 →
    rule_words_behind line at ≡ rule_words_from 0 (at + 1) (Some at) (drop (at + 1) line)
rule_run_begins line at l h o =
    let here : own_length false (get_or line at 0 ∷ drop (suc at) line) ≡ 0 =
    ap (own_length false) (sym (drop-cons line at 0 l)) ∙ o in
    rw (add-one, drop-cons line at 0 l, rule_words_from, h, here) refl

-- and goes on
pub rule_run_goes_on : (line : List ℕ) (start at : ℕ) → at < length line → is_blank (get_or line at 0) ≡ false →
    own_length true (drop at line) ≡ 0 →
    rule_words_from 0 at (Some start) (drop at line) ≡ rule_words_from 0 (at + 1) (Some start) (drop (at + 1) line)
rule_run_goes_on line start at l h o =
    let here : own_length true (get_or line at 0 ∷ drop (suc at) line) ≡ 0 =
    ap (own_length true) (sym (drop-cons line at 0 l)) ∙ o in
    rw (add-one, drop-cons line at 0 l, rule_words_from, h, here) refl

-- it ends at a blank
pub rule_run_ends_at_blank : (line : List ℕ) (start at : ℕ) → at < length line → is_blank (get_or line at 0) ≡ true →
    rule_words_from 0 at (Some start) (drop at line) ≡ (start, at) ∷ rule_words_behind line at
rule_run_ends_at_blank line start at l h = rw (drop-cons line at 0 l, rule_words_from, h) refl

-- what is a word by itself within a word is one also between words
mark_between : (byte : ℕ) → is_own_word true byte ≡ true → is_own_word false byte ≡ true
mark_between byte h = by_tests (is_bracket_or_bar byte) (is_sign byte) h
  where
    by_tests : (bracket sign : Bool) → (bracket || (sign && false)) ≡ true → (bracket || (sign && true)) ≡ true
    by_tests true sign h = refl
    by_tests false true h = refl
    by_tests false false h = h

own_between : (own byte : ℕ) (bytes : List ℕ) → own_length true (byte ∷ bytes) ≡ suc own →
    own_length false (byte ∷ bytes) ≡ suc own
own_between own byte bytes h = by_tests (begins_arrow (byte ∷ bytes)) (is_own_word true byte) (is_own_word false byte)
    (mark_between byte) h
  where
    by_tests : (arrow within between : Bool) → (within ≡ true → between ≡ true) →
        (if arrow then 2 else (if within then 1 else 0)) ≡ suc own →
        (if arrow then 2 else (if between then 1 else 0)) ≡ suc own
    by_tests true within between m h = h
    by_tests false true between m h = rw (m refl) h
    by_tests false false between m h = absurd (omega arith)

ends_at_own : (own start at byte : ℕ) (bytes : List ℕ) → is_blank byte ≡ false → own_length true (byte ∷ bytes) ≡ own →
    0 < own →
    rule_words_from 0 at (Some start) (byte ∷ bytes) ≡ (start, at) ∷ rule_words_from 0 at None (byte ∷ bytes)
ends_at_own zero start at byte bytes h o p = absurd (omega arith)
ends_at_own (suc own) start at byte bytes h o p =
    let some : nat_lt 0 (suc own) ≡ true = grind (arith, nat_tests) in
    own_split at byte bytes (Some start) (suc own) h o some
    ∙ ap (λ (ws : List (ℕ × ℕ)). (start, at) ∷ ws)
    (sym (own_split at byte bytes None (suc own) h (own_between own byte bytes o) some))

-- it ends at a word by itself
pub rule_run_ends_at_own : (line : List ℕ) (start at : ℕ) → at < length line → is_blank (get_or line at 0) ≡ false →
    0 < own_length true (drop at line) →
    rule_words_from 0 at (Some start) (drop at line) ≡ (start, at) ∷ rule_words_behind line at
rule_run_ends_at_own line start at l h p =
    let e : drop at line ≡ get_or line at 0 ∷ drop (suc at) line = drop-cons line at 0 l in
    rw e (ends_at_own (own_length true (drop at line)) start at (get_or line at 0) (drop (suc at) line) h
    (ap (own_length true) (sym e)) p)

-- or with the line
pub rule_run_ends_with_line : (line : List ℕ) (start : ℕ) →
    rule_words_from 0 (length line) (Some start) (drop (length line) line) ≡ (start, length line) ∷ rule_words_behind
    line (length line)
rule_run_ends_with_line line start = let e : drop (length line) line ≡ [] =
    drop_all (length line) line (omega arith) in rw e refl

-- no word at the end
pub no_rule_word : (line : List ℕ) → rule_words_behind line (length line) ≡ []
no_rule_word line = let e : drop (length line) line ≡ [] = drop_all (length line) line (omega arith) in rw e refl

past_byte : (place byte : ℕ) (bytes : List ℕ) (blank : Bool) → is_blank byte ≡ blank →
    rule_words_from 0 (suc place) None bytes ≡ rule_words_from 0 (suc place + prefix_len is_blank bytes) None
    (drop (prefix_len is_blank bytes) bytes) →
    rule_words_from 0 place None (byte ∷ bytes) ≡ rule_words_from 0 (place + prefix_len is_blank (byte ∷ bytes)) None
    (drop (prefix_len is_blank (byte ∷ bytes)) (byte ∷ bytes))
past_byte place byte bytes true h next =
    let one : prefix_len is_blank (byte ∷ bytes) ≡ suc (prefix_len is_blank bytes) = grind (arith, common_steps) in
    let here : rule_words_from 0 place None (byte ∷ bytes) ≡ rule_words_from 0 (suc place) None bytes =
    rw (rule_words_from, h) refl in
    let place_behind : suc place + prefix_len is_blank bytes ≡ place + suc (prefix_len is_blank bytes) = omega arith in
    rw one (here ∙ next ∙ ap (λ (p : ℕ). rule_words_from 0 p None (drop (prefix_len is_blank bytes) bytes))
    place_behind)
past_byte place byte bytes false h next =
    let none : prefix_len is_blank (byte ∷ bytes) ≡ 0 = grind (arith, common_steps) in
    let here : place ≡ place + 0 = omega arith in
    rw none (ap (λ (p : ℕ). rule_words_from 0 p None (byte ∷ bytes)) here)

past_blanks_of : (place : ℕ) (bytes : List ℕ) →
    rule_words_from 0 place None bytes ≡ rule_words_from 0 (place + prefix_len is_blank bytes) None
    (drop (prefix_len is_blank bytes) bytes)
past_blanks_of place [] = refl
past_blanks_of place (byte ∷ bytes) = past_byte place byte bytes _ refl (past_blanks_of (suc place) bytes)

-- blanks are read past
pub past_blanks : (line : List ℕ) (from start : ℕ) → start ≡ from + prefix_len is_blank (drop from line) →
    rule_words_behind line from ≡ rule_words_behind line start
past_blanks line from start e =
    let behind : drop (prefix_len is_blank (drop from line)) (drop from line) ≡ drop start line =
    grind (arith, common_steps) in
    past_blanks_of from (drop from line) ∙ ap (λ (bs : List ℕ).
    rule_words_from 0 (from + prefix_len is_blank (drop from line)) None bs) behind
    ∙ ap (λ (p : ℕ). rule_words_from 0 p None (drop start line)) (sym e)

-- the first word ------------------------------------------------------------------------------------------------------

starts_there : (line : List ℕ) (start : ℕ) → start ≡ 0 + prefix_len is_blank line →
    rule_words_in line ≡ words_behind_plus start (drop start line)
starts_there line start e = let same : prefix_len is_blank line ≡ start = omega arith in
    ap (λ (n : ℕ). words_behind_plus n (drop n line)) same

-- a line of blanks
pub first_none : (line : List ℕ) (start : ℕ) → start ≡ 0 + prefix_len is_blank line → start ≡ length line →
    rule_words_in line ≡ []
first_none line start e h =
    let gone : drop start line ≡ [] = drop_all start line (omega arith) in
    starts_there line start e ∙ ap (words_behind_plus start) gone

-- a line that begins with `+`
pub first_plus : (line : List ℕ) (start : ℕ) → start ≡ 0 + prefix_len is_blank line → start < length line →
    (get_or line start 0 == 43) ≡ true → rule_words_in line ≡ (start, start + 1) ∷ rule_words_behind line (start + 1)
first_plus line start e l h = starts_there line start e ∙ rw (add-one, drop-cons line start 0 l, h) refl

-- any other line
pub first_other : (line : List ℕ) (start : ℕ) → start ≡ 0 + prefix_len is_blank line → start < length line →
    (get_or line start 0 == 43) ≡ false → rule_words_in line ≡ rule_words_behind line start
first_other line start e l h = starts_there line start e ∙ rw (drop-cons line start 0 l, h) refl

-- marks are ASCII
pub mark_is_ascii : (within : Bool) (byte : ℕ) → is_own_word within byte ≡ true → byte < 128
mark_is_ascii true byte h = grind (arith, nat_tests)
mark_is_ascii false byte h = grind (arith, nat_tests)
