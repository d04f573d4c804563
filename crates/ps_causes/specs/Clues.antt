-- What a section that isn't there may come from: a line written much like its header, a comment that nothing closes,
-- line ends without a line feed, zero bytes.
use Rattle.std.specs.Prelude.{◌≡◌, ◌≤◌, ◌+◌, ◌-◌, ℕ, ⊤, ◌==◌, nat_eq, Bool, false, true, ◌||◌, if◌then◌else◌, Some, List, []}
use Rattle.std.specs.Prelude.{◌∷◌, drop, slice_get}
use Rattle.std.specs.List.{list_all, list_any}
use Rattle.std.specs.Option.{is_none}
use Rattle.ps_model.specs.declared.texts.Section.{Section}
use Rattle.ps_model.specs.declared.texts.Section.TheVariants.{Prelude}
use Rattle.ps_model.specs.text.LineNumbers.{line_at, HasLine}
use Rattle.ps_model.specs.text.Lines.{Line, depth_behind, is_line_feed}
use Rattle.ps_model.specs.text.Sections.{is_of}
use Rattle.ps_model.specs.text.TextFaults.{line_of_place}
use Rattle.ps_causes.specs.declared.causes.Clue.{Clue}
use Rattle.ps_causes.specs.declared.causes.Clue.TheVariants.{Nothing, Empty, Like, Open, Returns, Zero}
use Rattle.ps_causes.specs.LikeHeaders.{header_word, IsLikeHeaderOf}

-- comments that are open so often before bytes are closed by none of them
abbrev pub never_closes : ℕ → List ℕ → Bool
never_closes depth [] = true
never_closes depth (byte ∷ bytes) =
    if nat_eq (depth_behind depth byte) 0 then false else never_closes (depth_behind depth byte) bytes

-- a line takes no text as it stands, or is one of the prelude, where such a text ends at a `(`
abbrev pub is_untaken : Line → Bool
is_untaken line = is_none line.taken || is_of Prelude line

-- a `(` of a line begins a comment, which nothing closes
pub record IsOpenAt (text : List ℕ) (line : ℕ) : Type 0 where
  pub there : HasLine text line
  pub place : ℕ
  pub own : line_of_place text place ≡ line
  pub opening : slice_get text place ≡ Some 40
  pub a_comment : is_untaken (line_at text line) ≡ true
  pub unclosed : never_closes 1 (drop (place + 1) text) ≡ true

-- the text has nothing but blanks and line ends
abbrev pub is_empty : List ℕ → Bool
is_empty text = list_all (λ byte. byte == 32 || (byte == 9 || (byte == 13 || byte == 10))) text

-- what is said about a section that isn't there
abbrev pub IsClue : List ℕ → Section → Clue → Type 0
IsClue text section Nothing = ⊤
IsClue text section Empty = is_empty text ≡ true
IsClue text section (Like line) = IsLikeHeaderOf text (header_word section) line
IsClue text section (Open line) = IsOpenAt text line
IsClue text section (Returns place) =
    (list_any is_line_feed text ≡ false) × ((1 ≤ place) × (slice_get text (place - 1) ≡ Some 13))
IsClue text section (Zero place) = (1 ≤ place) × (slice_get text (place - 1) ≡ Some 0)
