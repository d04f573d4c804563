-- Texts that are refused, worked by hand.
use Rattle.std.proofs.Common.{◌≡◌, ℕ, List, [], ◌∷◌, ◌++◌, flat_map, refl, Some, None}
use Rattle.std.specs.Prelude.{codes}
use Rattle.std.specs.Str.{is_utf8, chars}
use Rattle.std.proofs.Math.Utf8.{encode}
use Rattle.std.specs.Str.Lossy.{utf8_valid_len}
use Rattle.ps_model.specs.declared.faults.FaultKind.TheVariants.{NotUtf8, RowsDiffer, NameTwice, NoAggregate}
use Rattle.ps_model.specs.declared.faults.Fault.{Fault}
use Rattle.ps_model.specs.text.TextFaults.{text_fault}
use Rattle.ps_model.specs.rules.RuleFaults.{rule_faults}
use Rattle.ps_model.specs.game.HeldFaults.{hidden_in_line}
use Rattle.ps_examples.proofs.rules.RuleTexts.{base_names, lines_below}

-- the first wrong byte tells the line
wrong_byte : text_fault (codes "ti\n" ++ 255 ∷ []) ≡ Some (record { kind = NotUtf8; line = 2 })
unfolding utf8_valid_len is_utf8 chars encode
wrong_byte = refl

-- a character that is cut off is wrong where it begins
cut_off : text_fault (codes "a\n\n" ++ 195 ∷ []) ≡ Some (record { kind = NotUtf8; line = 3 })
unfolding utf8_valid_len is_utf8 chars encode
cut_off = refl

fine : text_fault (codes "title" ++ 195 ∷ 169 ∷ []) ≡ None
unfolding utf8_valid_len is_utf8 chars encode
fine = refl

-- what hides after others --------------------------------------------------------------------------------------------

-- the faults of lines of RULES, and those that the list leaves out
abbrev listed : List ℕ → List Fault
listed rules = rule_faults base_names (lines_below rules)

abbrev left_out : List ℕ → List Fault
left_out rules = flat_map (hidden_in_line base_names) (lines_below rules)

-- the right has a row more, whose cell names Crate twice and has `no` before an aggregate: its rows differ, and that is
-- listed
rows_listed : listed (codes "[ Crate ] -> [ Crate ] [ Crate Crate no @ ]\n") ≡ record {
  kind = RowsDiffer;
  line =
      2;
} ∷ []
unfolding chars
rows_listed = refl

-- both others are faults of the rule too
rows_hide : left_out (codes "[ Crate ] -> [ Crate ] [ Crate Crate no @ ]\n") ≡ record {
  kind = NameTwice;
  line =
      2;
} ∷ record { kind = NoAggregate; line = 2 } ∷ []
unfolding chars
rows_hide = refl

-- where the rows are the same, nothing hides
same_rows_hide_nothing : left_out (codes "[ Crate ] -> [ Crate Crate no @ ]\n") ≡ []
unfolding chars
same_rows_hide_nothing = refl
