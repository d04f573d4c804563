-- The words of a line of RULES. Words are cut at blanks; `[`, `]`, `|` and `->` are words wherever they stand; `>`, `<`
-- and `^` are cut off at the start of a word, again and again; one `+` is cut off at the start of the line.
use Rattle.std.specs.Prelude.{ℕ, zero, suc, ◌+◌, ◌-◌, ◌==◌, nat_lt, Bool, true, false, ◌||◌, ◌&&◌, not, if◌then◌else◌}
use Rattle.std.specs.Prelude.{Option, Some, None, is_some, unwrap_or, List, [], ◌∷◌, ◌++◌, drop}
use Rattle.std.specs.List.{prefix_len}
use Rattle.ps_model.specs.declared.texts.Cut.{Cut}
use Rattle.ps_model.specs.declared.texts.Cut.TheVariants.{Blanks, Legend, Layers, Rule}
use Rattle.ps_model.specs.text.Words.{is_blank, run_to, words_in}

-- `[`, `]` and `|` stand by themselves
abbrev pub is_bracket_or_bar : ℕ → Bool
is_bracket_or_bar byte = byte == 91 || byte == 93 || byte == 124

-- `>`, `<` and `^` are cut off where they begin a word
abbrev pub is_sign : ℕ → Bool
is_sign byte = byte == 62 || byte == 60 || byte == 94

-- the bytes begin with `->`
abbrev pub begins_arrow : List ℕ → Bool
begins_arrow [] = false
begins_arrow (first ∷ []) = false
begins_arrow (first ∷ second ∷ others) = first == 45 && second == 62

-- a byte that is a word by itself, where a word is open before it or not
abbrev pub is_own_word : Bool → ℕ → Bool
is_own_word within byte = is_bracket_or_bar byte || (is_sign byte && not within)

-- how long a word is that stands by itself at the start of the bytes; 0 where none does
abbrev pub own_length : Bool → List ℕ → ℕ
own_length within [] = 0
own_length within (byte ∷ bytes) = if begins_arrow (byte ∷ bytes) then 2 else (if is_own_word within byte then 1 else 0)

-- the words of the bytes from a place on, each from its first place to the place after it. `within` bytes belong to the
-- word before, and a run may be open
abbrev pub rule_words_from : ℕ → ℕ → Option ℕ → List ℕ → List (ℕ × ℕ)
rule_words_from within place open_run [] = run_to open_run place
rule_words_from (suc within) place open_run (byte ∷ bytes) = rule_words_from within (suc place) None bytes
rule_words_from zero place open_run (byte ∷ bytes) = elim (is_blank byte) [
  | true ↦ run_to open_run place ++ rule_words_from 0 (suc place) None bytes
  | false ↦
      let own : ℕ = own_length (is_some open_run) (byte ∷ bytes) in
      elim (nat_lt 0 own) [
        | true ↦ run_to open_run place ++ (place, place + own) ∷ rule_words_from (own - 1) (suc place) None bytes
        | false ↦ rule_words_from 0 (suc place) (Some (unwrap_or open_run place)) bytes
      ]
]

-- the words after the blanks at a line's start, of which a `+` is cut off
abbrev pub words_behind_plus : ℕ → List ℕ → List (ℕ × ℕ)
words_behind_plus place [] = []
words_behind_plus place (byte ∷ bytes) =
    if byte == 43 then (place, suc place) ∷ rule_words_from 0 (suc place) None bytes else rule_words_from 0 place None
    (byte ∷ bytes)

-- the words of a line of RULES, by their places in it
abbrev pub rule_words_in : List ℕ → List (ℕ × ℕ)
rule_words_in bytes = let blanks : ℕ = prefix_len is_blank bytes in words_behind_plus blanks (drop blanks bytes)

-- the words of a line under any cut, by their places in it
abbrev pub words_under : Cut → List ℕ → List (ℕ × ℕ)
words_under Blanks bytes = words_in Blanks bytes
words_under Legend bytes = words_in Legend bytes
words_under Layers bytes = words_in Layers bytes
words_under Rule bytes = rule_words_in bytes
