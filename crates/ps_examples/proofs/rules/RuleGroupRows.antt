-- Late rules, groups, loops, words that are left out and too many rules, worked by hand.
use Rattle.std.proofs.Common.{◌≡◌, ℕ, List, [], ◌∷◌, refl, Option, None}
use Rattle.std.specs.Prelude.{codes}
use Rattle.ps_model.specs.declared.faults.Fault.{Fault}
use Rattle.ps_model.specs.declared.faults.FaultKind.TheVariants.{UnknownWord, LateMove, PlusAlone, PlusLate, Loop}
use Rattle.ps_model.specs.declared.faults.FaultKind.TheVariants.{Ellipsis, NotInProfile, TooManyRules, NothingRight}
use Rattle.ps_model.specs.text.Faults.{first_fault}
use Rattle.ps_model.specs.rules.RuleFaults.{nothing_above, faults_below}
use Rattle.ps_examples.proofs.rules.RuleTexts.{AllTold, base_names, lines_below, told, fault_at}

-- RU8 -----------------------------------------------------------------------------------------------------------------

-- a movement word in the brackets of a late rule; `stationary` is one
late_move : AllTold (fault_at 2 LateMove)
    (codes "late [ > A ] -> [ A ]" ∷ codes "late [ A ] -> [ right A ]" ∷ codes "up late [ stationary A ] -> [ A ]" ∷
    codes "late [ action A ] -> cancel" ∷ [])
late_move = refl

late_without_move : AllTold None (codes "late up [ A | B ] -> [ A | no B ]" ∷ codes "horizontal late [ A ] -> cancel" ∷
    [])
late_without_move = refl

-- RU9 -----------------------------------------------------------------------------------------------------------------

-- `+` with no rule above it, or with none below the last loop line; lines that aren't there and blank ones don't count
lone_plus : AllTold (fault_at 2 PlusAlone) (codes "+ [ A ] -> [ B ]" ∷ codes "(x) +[ A ] -> [ B ]" ∷ codes
    "+ late [ A ] -> [ B ]\n[ A ] -> [ B ]" ∷ [])
lone_plus = refl

lone_plus_in_loop : told (codes "[ A ] -> [ B ]\nstartloop\n+ [ A ] -> [ B ]\nendloop") ≡ fault_at 4 PlusAlone
lone_plus_in_loop = refl

lone_plus_behind_loop : told (codes "startloop\n[ A ] -> [ B ]\nendloop\n+ [ A ] -> [ B ]") ≡ fault_at 5 PlusAlone
lone_plus_behind_loop = refl

joined : AllTold None
    (codes "[ A ] -> [ B ]\n+ [ B ] -> [ A ]\n+[ A ] -> [ C ]" ∷ codes "[ A ] -> [ B ]\n\n(x) (y\n) + [ B ] -> [ A ]" ∷
    codes "late [ A ] -> [ B ]\n+ late [ B ] -> [ A ]"
    ∷ codes "startloop\n[ A ] -> [ B ]\n+ [ B ] -> [ A ]\nendloop" ∷ [])
joined = refl

-- RU10 ----------------------------------------------------------------------------------------------------------------

late_joined : AllTold (fault_at 3 PlusLate)
    (codes "[ A ] -> [ B ]\n+ late [ B ] -> [ A ]" ∷ codes "late [ A ] -> [ B ]\n+ [ B ] -> [ A ]" ∷ codes
    "[ A ] -> [ B ]\n+ late [ ... ] -> cancel" ∷ [])
late_joined = refl

-- RU11 ----------------------------------------------------------------------------------------------------------------

nested : told (codes "startloop\n[ A ] -> [ B ]\nStartLoop\nendloop\nendloop") ≡ fault_at 4 Loop
nested = refl

without_start : AllTold (fault_at 2 Loop) (codes "endloop" ∷ codes "endloop\nstartloop" ∷ [])
without_start = refl

ended_twice : told (codes "startloop\nendloop\nendloop") ≡ fault_at 4 Loop
ended_twice = refl

unclosed : AllTold (fault_at 2 Loop) (codes "startloop" ∷ codes "startloop\n[ A ] -> [ B ]" ∷ [])
unclosed = refl

-- a loop that is left open is told after the faults of single lines
unclosed_last : told (codes "startloop\n[ A ] ->") ≡ fault_at 3 NothingRight
unclosed_last = refl

second_unclosed : told (codes "startloop\nendloop\nstartloop") ≡ fault_at 4 Loop
second_unclosed = refl

-- RU13 ----------------------------------------------------------------------------------------------------------------

-- words that are left out are refused wherever they stand
left_out : AllTold (fault_at 2 NotInProfile)
    (codes "random [ A ] -> [ B ]" ∷ codes "[ A ] -> [ randomDir A ]" ∷ codes "[ no rigid A ] -> [ B ]" ∷ codes
    "[ A ] -> [ random B ]" ∷ codes "[ A ] -> cancel rigid"
    ∷ codes "[ A ] rigid -> [ B ]" ∷ codes "late rigid [ A ] -> [ B ]" ∷ codes "random startloop" ∷ [])
left_out = refl

-- for all other faults they are as if they weren't there
left_out_last : AllTold (fault_at 2 Ellipsis) (codes "random [ ... ] -> cancel" ∷ codes
    "[ A | ... rigid | random ... | C ] -> cancel" ∷ [])
left_out_last = refl

nothing_but_left_out : told (codes "[ A ] -> random") ≡ fault_at 2 NothingRight
nothing_but_left_out = refl

left_out_and_unknown : told (codes "[ random > ] -> [ A ]") ≡ fault_at 2 UnknownWord
left_out_and_unknown = refl

-- RU14 ----------------------------------------------------------------------------------------------------------------

-- what is said about lines below `count` rules
abbrev told_below : ℕ → List ℕ → Option Fault
told_below count rules = first_fault (faults_below base_names (record nothing_above { rules = count })
    (lines_below rules))

most_rules : told_below 1023 (codes "[ A ] -> [ B ]\nstartloop\nendloop") ≡ None
most_rules = refl

too_many_rules : told_below 1022 (codes "[ A ] -> [ B ]\n[ A ] -> [ B ]\nstartloop\n[ A ] -> [ B ]\nendloop") ≡
    fault_at 5 TooManyRules
too_many_rules = refl

-- it is told after the other faults of its line
too_many_last : told_below 1024 (codes "[] -> rigid win") ≡ fault_at 2 NotInProfile
too_many_last = refl
