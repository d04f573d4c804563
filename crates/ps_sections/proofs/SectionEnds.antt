-- Where sections end, a line further.
use Rattle.std.proofs.Common.{◌≡◌, ℕ, suc, ◌+◌, ◌-◌, ◌<◌, ◌≤◌, ◌⊎◌, inl, inr, true, false, List, [], ◌∷◌, length}
use Rattle.std.proofs.Common.{get_or, refl, ap, ◌∙◌, arith}
use Rattle.std.specs.Prelude.{nat_lt}
use Rattle.std.specs.List.{prefix_len}
use Rattle.std.proofs.lemmas.Bool.Decides.{nat_tests}
use Rattle.std.proofs.lemmas.List.Sums.{prefix_len_passes, prefix_len_stops, prefix_len-le-length}
use Rattle.ps_model.specs.declared.texts.Section.{Section}
use Rattle.ps_model.specs.declared.texts.Section.TheVariants.{Prelude, Objects, Legend, Sounds, Layers, Rules, Wins}
use Rattle.ps_model.specs.declared.texts.Section.TheVariants.{Levels}
use Rattle.ps_model.specs.text.Lines.{Line, lines_of}
use Rattle.ps_model.specs.text.LineNumbers.{no_line, line_at}
use Rattle.ps_model.specs.text.Sections.{rank}
use Rattle.ps_sections.specs.SectionPlaces.{stands_above, boundary}

by_test : (a b : ℕ) → (nat_lt a b ≡ true) ⊎ (nat_lt a b ≡ false)
by_test a b = grind (arith, nat_tests)

true_more : (a b : ℕ) → nat_lt a b ≡ true → nat_lt a (suc b) ≡ true
true_more a b h = grind (arith, nat_tests)

-- a later section's lines begin no earlier
rises_by : (k : ℕ) (x : Line) (xs : List Line) →
    (nat_lt (rank x.section) k ≡ true) ⊎ (nat_lt (rank x.section) k ≡ false) →
    prefix_len (stands_above k) xs ≤ prefix_len (stands_above (suc k)) xs →
    prefix_len (stands_above k) (x ∷ xs) ≤ prefix_len (stands_above (suc k)) (x ∷ xs)
rises_by k x xs (inl low) ih = let more : nat_lt (rank x.section) (suc k) ≡ true = true_more (rank x.section) k low in
    rw (low, more) (omega (arith, ih))
rises_by k x xs (inr high) ih = rw high (omega arith)

rises : (k : ℕ) (lines : List Line) → prefix_len (stands_above k) lines ≤ prefix_len (stands_above (suc k)) lines
rises k [] = omega arith
rises k (x ∷ xs) = rises_by k x xs (by_test (rank x.section) k) (rises k xs)

pub boundary_rises : (text : List ℕ) (k next : ℕ) → next ≡ suc k → boundary text k ≤ boundary text next
boundary_rises text k next e = rw e (omega (arith, rises k (lines_of text)))

reached : (a b : ℕ) → a ≤ b → (a ≡ b) ⊎ (a < b)
reached a b h = grind arith

above_by : (lines : List Line) (i place : ℕ) →
    (i ≡ prefix_len (stands_above place) lines) ⊎ (i < prefix_len (stands_above place) lines) → i < length lines →
    nat_lt (rank (get_or lines i no_line).section) place ≡ true →
    i < prefix_len (stands_above place) lines
above_by lines i place (inr l) within h = l
above_by lines i place (inl e) within h =
    let fails : stands_above place (get_or lines (prefix_len (stands_above place) lines) no_line) ≡ false =
    prefix_len_stops (stands_above place) lines no_line (omega (arith, e)) in
    let fails_here : nat_lt (rank (get_or lines i no_line).section) place ≡ false =
    ap (λ (k : ℕ). stands_above place (get_or lines k no_line)) e ∙ fails in
    absurd (cc)

ends_by : (lines : List Line) (i place : ℕ) → (i ≡ prefix_len (stands_above place) lines) ⊎
    (i < prefix_len (stands_above place) lines) → nat_lt (rank (get_or lines i no_line).section) place ≡ false →
    i ≡ prefix_len (stands_above place) lines
ends_by lines i place (inl e) h = e
ends_by lines i place (inr l) h =
    let passes : nat_lt (rank (get_or lines i no_line).section) place ≡ true =
    prefix_len_passes (stands_above place) lines i no_line l in
    absurd (cc)

-- a line above goes on
pub still_above : (text : List ℕ) (line place : ℕ) → 1 ≤ line → line ≤ length (lines_of text) →
    line ≤ boundary text place → nat_lt (rank (line_at text line).section) place ≡ true → line + 1 ≤ boundary text place
still_above text line place one within low h =
    let i : ℕ = line - 1 in
    omega (
      arith,
      above_by (lines_of text) (line - 1) place
          (reached (line - 1) (prefix_len (stands_above place) (lines_of text)) (omega arith)) (omega arith) h,
    )

-- the first line that isn't above
pub here_ends : (text : List ℕ) (line place : ℕ) → 1 ≤ line → line ≤ boundary text place →
    nat_lt (rank (line_at text line).section) place ≡ false → line ≡ boundary text place
here_ends text line place one low h =
    omega (
      arith,
      ends_by (lines_of text) (line - 1) place
          (reached (line - 1) (prefix_len (stands_above place) (lines_of text)) (omega arith)) h,
    )

pub boundary_within : (text : List ℕ) (place : ℕ) → boundary text place ≤ length (lines_of text) + 1
boundary_within text place = omega (arith, prefix_len-le-length (stands_above place) (lines_of text))

before_end : (section : Section) → nat_lt (rank section) (suc (rank Levels)) ≡ true
before_end Prelude = refl
before_end Objects = refl
before_end Legend = refl
before_end Sounds = refl
before_end Layers = refl
before_end Rules = refl
before_end Wins = refl
before_end Levels = refl

all_before_end : (lines : List Line) → prefix_len (stands_above (suc (rank Levels))) lines ≡ length lines
all_before_end [] = refl
all_before_end (x ∷ xs) = rw (before_end x.section) (omega (arith, all_before_end xs))

-- the last section ends after the last line
pub boundary_end : (text : List ℕ) → boundary text (suc (rank Levels)) ≡ length (lines_of text) + 1
boundary_end text = omega (arith, all_before_end (lines_of text))
