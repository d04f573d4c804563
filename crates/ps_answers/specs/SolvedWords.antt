-- How an answer about a level is told.
use Rattle.std.specs.Prelude.{ℕ, ◌+◌, ◌/◌, ◌%◌, ◌==◌, true, false, nat_lt, List, [], ◌∷◌, ◌++◌, codes, length, map}
use Rattle.std.specs.Fmt.{decimal}
use Rattle.ps_model.specs.declared.play.Input.{Input}
use Rattle.ps_model.specs.declared.play.Input.TheVariants.{Up, Down, Left, Right, Action}
use Rattle.ps_answers.specs.declared.solved.Solved.{Solved}
use Rattle.ps_answers.specs.declared.solved.Solved.TheVariants.{Won, Never, Unknown}
use Rattle.ps_answers.specs.declared.solved.Unsolved.{Unsolved}
use Rattle.ps_answers.specs.declared.solved.Unsolved.TheVariants as unsolved

-- numbers -------------------------------------------------------------------------------------------------------------

-- a digit's character
abbrev pub digit : ℕ → ℕ
digit number = 48 + number % 10

-- the last three digits of a number, after a comma
abbrev pub last_digits : ℕ → List ℕ
last_digits number = 44 ∷ digit (number / 100) ∷ digit (number / 10) ∷ digit number ∷ []

-- a number below 10 ^ 12 with a comma before each three digits, as 1,284
abbrev pub grouped : ℕ → List ℕ
grouped number =
    elim (nat_lt number 1000) [
      | true ↦ decimal number
      | false ↦ elim (nat_lt number 1000000) [
        | true ↦ decimal (number / 1000) ++ last_digits number
        | false ↦ elim (nat_lt number 1000000000) [
          | true ↦ decimal (number / 1000000) ++ (last_digits (number / 1000) ++ last_digits number)
          | false ↦ decimal (number / 1000000000) ++ (last_digits (number / 1000000)
              ++ (last_digits (number / 1000) ++ last_digits number))
        ]
      ]
    ]

-- how many of something there are, as `1 key` and `2 keys`
abbrev pub counted : ℕ → List ℕ → List ℕ
counted number word = grouped number ++ (codes " " ++ (word ++ elim (number == 1) [ true ↦ [] | false ↦ codes "s" ]))

-- answers -------------------------------------------------------------------------------------------------------------

-- the key of an input
abbrev pub letter : Input → ℕ
letter Up = 119
letter Left = 97
letter Down = 115
letter Right = 100
letter Action = 120

-- why it isn't known, where that isn't the limit
abbrev pub reason_words : Unsolved → List ℕ
reason_words unsolved.Limit = []
reason_words unsolved.Memory = codes ", out of memory"
reason_words unsolved.Stopped = codes ", stopped"
reason_words unsolved.Full = codes ", too many cells change"
reason_words unsolved.Boards = codes ", a board can't be kept"

-- an answer in words, as `won in 3 keys: dds`
abbrev pub won_words : List Input → List ℕ
won_words inputs = codes "won in " ++ (counted (length inputs) (codes "key") ++ (codes ": " ++ map letter inputs))

abbrev pub never_words : ℕ → List ℕ
never_words states = codes "can't be won (" ++ (counted states (codes "state") ++ codes ")")

abbrev pub unknown_words : ℕ → ℕ → Unsolved → List ℕ
unknown_words states depth why =
    codes "unknown: not in " ++ (counted depth (codes "key")
    ++ (codes " (" ++ (counted states (codes "state") ++ (reason_words why ++ codes ")"))))

abbrev pub solved_words : Solved → List ℕ
solved_words (Won inputs) = won_words inputs.items
solved_words (Never states) = never_words states
solved_words (Unknown states depth why) = unknown_words states depth why

-- the line on a level of that number
abbrev pub level_line : ℕ → Solved → List ℕ
level_line level solved = codes "level " ++ (decimal level ++ (codes ": " ++ (solved_words solved ++ codes "\n")))
