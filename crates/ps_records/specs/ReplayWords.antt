-- How a replay is told in lines.
use Rattle.std.specs.Prelude.{ℕ, ◌+◌, suc, nat_eq, Bool, true, false, if◌then◌else◌, List, [], ◌∷◌, ◌++◌, codes}
use Rattle.std.specs.Prelude.{length}
use Rattle.std.specs.Fmt.{decimal}
use Rattle.ps_model.specs.declared.play.Ending.{Ending}
use Rattle.ps_model.specs.declared.play.Ending.TheVariants.{TheEnd, Quit, EndOfKeys}
use Rattle.ps_records.specs.declared.replays.Replay.{Replay}

-- what ends a word of which there is that number
abbrev pub plural_end : ℕ → List ℕ
plural_end number = if nat_eq number 1 then [] else codes "s"

-- how many of something there are, as `1 key` and `2 keys`
abbrev pub counted : ℕ → List ℕ → List ℕ
counted number word = decimal number ++ (codes " " ++ (word ++ plural_end number))

-- levels --------------------------------------------------------------------------------------------------------------

-- the line on the level of that number, which is won in a number of keys
abbrev pub level_line : List ℕ → ℕ → ℕ → List ℕ
level_line front level keys =
    front ++ (codes "level " ++ (decimal level ++ (codes " won in " ++ (counted keys (codes "key") ++ codes "\n"))))

-- the line on each of the levels that are won, from that number on
abbrev pub level_lines : List ℕ → ℕ → List ℕ → List ℕ
level_lines front level [] = []
level_lines front level (keys ∷ others) = level_line front level keys ++ level_lines front (suc level) others

-- ends ----------------------------------------------------------------------------------------------------------------

-- a game is won to its end, after which a number of keys comes
abbrev pub won_words : ℕ → List ℕ
won_words left = if nat_eq left 0 then codes "won" else codes "won, " ++ (counted left (codes "key") ++ codes " left")

-- where the player is when a number of levels is won: in the next one, or at a message
abbrev pub place_words : Bool → ℕ → List ℕ
place_words true won = codes "level " ++ decimal (won + 1)
place_words false won = codes "a message after " ++ counted won (codes "level")

-- a game isn't won
abbrev pub unwon_words : Replay → List ℕ → List ℕ
unwon_words replay end =
    codes "not won: " ++ (place_words replay.in_level (length replay.won.items) ++ (codes ", "
    ++ (counted replay.left (codes "key") ++ (codes " left" ++ end))))

-- how a run ends
abbrev pub words_on : Ending → Replay → List ℕ
words_on TheEnd replay = won_words replay.left
words_on Quit replay = unwon_words replay (codes " after q")
words_on EndOfKeys replay = unwon_words replay []

abbrev pub end_words : Replay → List ℕ
end_words replay = words_on replay.ending replay

-- the last line
abbrev pub end_line : List ℕ → Replay → List ℕ
end_line front replay = front ++ (end_words replay ++ codes "\n")

-- all lines
abbrev pub replay_lines : List ℕ → Replay → List ℕ
replay_lines front replay = level_lines front 1 replay.won.items ++ end_line front replay
