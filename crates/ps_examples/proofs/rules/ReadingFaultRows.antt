-- Rules with too many readings, or without a possible one, worked by hand.
use Rattle.std.proofs.Common.{◌≡◌, ℕ, List, [], ◌∷◌, ◌++◌, map, refl, Option, None}
use Rattle.std.specs.Prelude.{codes, replicate}
use Rattle.std.specs.List.{flat_map, filter_map}
use Rattle.ps_model.specs.declared.faults.Fault.{Fault}
use Rattle.ps_model.specs.declared.faults.FaultKind.TheVariants.{TooManyReadings, Impossible}
use Rattle.ps_model.specs.names.Names.{Names}
use Rattle.ps_model.specs.text.Faults.{first_fault}
use Rattle.ps_model.specs.meaning.Readings.{reading_count}
use Rattle.ps_model.specs.board.RulePrograms.{rule_in}
use Rattle.ps_model.specs.rules.RuleLines.{rules_read}
use Rattle.ps_model.specs.rules.ReadingFaults.{reading_faults}
use Rattle.ps_model.specs.game.HeldFaults.{hidden_in_readings}
use Rattle.ps_examples.proofs.rules.RuleTexts.{base_names, with_name, lines_below, fault_at, ac}

-- the fault that the readings of rules have
abbrev told : Names → List ℕ → Option Fault
told names rules = first_fault (reading_faults names (rules_read names (lines_below rules)))

-- how many readings each rule has
abbrev counts : Names → List ℕ → List ℕ
counts names rules = map (reading_count names) (filter_map rule_in (rules_read names (lines_below rules)))

-- a row of one cell and `more` cells, that asks for a command
abbrev row_of : ℕ → List ℕ → List ℕ
row_of more item = codes "right [ " ++ (item ++
    (flat_map (λ cell. cell) (replicate more (codes " | " ++ item)) ++ codes " ] -> cancel\n"))

-- counting: directions, words of several moves and fixed properties multiply; loose properties, words of one move and
-- `no` don't
numbers : counts (with_name (codes "ac") ac) (codes
    "[ > A | B ] -> cancel\n[ A ] -> cancel\nup down [ A ] -> cancel\nhorizontal [ > A ] -> cancel\n[ moving A ] -> [ moving A ]\n[ parallel A ] -> cancel\n[ AT ] [ AT ] -> cancel\n[ AC no AT ] -> [ > AC ]\n[ AC | ] -> [ | AC ]")
    ≡ 4 ∷ 1 ∷ 1 ∷ 2 ∷ 5 ∷ 8 ∷ 4 ∷ 4 ∷ 8 ∷ []
numbers = refl

-- 3,125 readings are few enough, four times as many aren't
many_moves : counts base_names (row_of 4 (codes "moving A")) ≡ 3125 ∷ []
many_moves = refl

many_moves_told : told base_names (row_of 4 (codes "moving A")) ≡ None
many_moves_told = refl

four_directions : told base_names (codes "[ moving A | moving A | moving A | moving A | moving A ] -> cancel") ≡
    fault_at 2 TooManyReadings
four_directions = refl

-- at the limit, and past it
at_limit : counts base_names (row_of 11 (codes "AT")) ≡ 4096 ∷ []
at_limit = refl

at_limit_told : told base_names (row_of 11 (codes "AT")) ≡ None
at_limit_told = refl

past_limit : told base_names (codes "[ A ] -> [ B ]\n" ++ row_of 12 (codes "AT")) ≡ fault_at 3 TooManyReadings
past_limit = refl

-- the sum of all readings: sixteen rules at the limit are within it, the next rule passes it
past_sum : told base_names (flat_map (λ rule. rule) (replicate 16 (row_of 11 (codes "AT"))) ++ codes
    "startloop\nendloop\n[ A ] -> [ B ]") ≡ fault_at 20 TooManyReadings
past_sum = refl

-- no reading is possible: two names of one layer in one cell of one side, even of one object; `no` aside
impossible : map (told (with_name (codes "ac") ac))
    (codes "[ Player Wall ] -> [ Player ]" ∷ codes "[ A ] -> [ A B ]" ∷ codes "[ AC A ] -> cancel" ∷ codes
    "late [ Target | ... | @ > Target ] -> [ | ... | ]" ∷ [])
    ≡ fault_at 2 Impossible ∷ fault_at 2 Impossible ∷ fault_at 2 Impossible ∷ fault_at 2 Impossible ∷ []
impossible = refl

possible : map (told (with_name (codes "ac") ac))
    (codes "[ Player no Wall ] -> [ Player ]" ∷ codes "[ AT A ] -> cancel" ∷ codes "[ AT | ] -> [ A | AT ]" ∷ codes
    "[ AC ] -> [ AC ]" ∷ codes "[ A ] [ B ] -> [ B ] [ A ]" ∷ [])
    ≡ None ∷ None ∷ None ∷ None ∷ None ∷ []
possible = refl

-- too many readings are told before impossible ones, and impossible ones by line
readings_first : told base_names (codes "[ Player Wall ] -> cancel\n" ++ row_of 12 (codes "AT")) ≡ fault_at 3
    TooManyReadings
readings_first = refl

second_impossible : told base_names (codes "[ A ] -> [ B ]\n[ Player Wall ] -> cancel\n[ A B ] -> cancel") ≡ fault_at 3
    Impossible
second_impossible = refl

-- but an impossible one has its fault by itself, also beside one with too many readings
impossible_too : hidden_in_readings base_names
    (filter_map rule_in (rules_read base_names
    (lines_below (codes "[ Player Wall ] -> cancel\n" ++ row_of 12 (codes "AT")))))
    ≡ record { kind = Impossible; line = 2 } ∷ []
impossible_too = refl
