-- The words of lines of RULES and the trees that they give, worked by hand.
use Rattle.std.proofs.Common.{◌≡◌, ℕ, List, [], ◌∷◌, map, refl, Some, None, true, false}
use Rattle.std.specs.Prelude.{codes}
use Rattle.std.specs.List.{filter_map}
use Rattle.ps_model.specs.declared.pieces.Direction.TheVariants.{Up, Down, Left, Right}
use Rattle.ps_model.specs.declared.rules.MovementWord.TheVariants as word
use Rattle.ps_model.specs.rules.SourceRules.{Item, Is, No, CellPair, no_commands, SourceRule, Rule, LoopStart, LoopEnd}
use Rattle.ps_model.specs.rules.RuleSymbols.{Symbol, Open, Close, Bar, Arrow, Ellipsis, Plus, Late, Without, Moves}
use Rattle.ps_model.specs.rules.RuleSymbols.{Asks, Cancel, Message, Sound, StartsLoop, LeftOut, Called, Unknown}
use Rattle.ps_model.specs.rules.RuleSymbols.{tokens_of}
use Rattle.ps_model.specs.rules.RuleLines.{rules_read}
use Rattle.ps_model.specs.board.RulePrograms.{rule_in}
use Rattle.ps_examples.proofs.rules.RuleTexts.{base_names, with_name, lines_below, one, at, crate_on_target}

-- words ---------------------------------------------------------------------------------------------------------------

-- what the words of each line below RULES are
abbrev symbols : List ℕ → List (List Symbol)
symbols rules = map (λ line. map (λ token. token.symbol) (tokens_of (with_name (codes "+") (one 8)) line))
    (lines_below rules)

-- signs are cut off at the start of a word, again and again; brackets, bars and arrows wherever they stand
cut_off : symbols (codes ">>A<B]|a->^^v") ≡ (Moves word.Forwards ∷ Moves word.Forwards ∷ Unknown ∷ Close ∷ Bar ∷ Called
    (one 5) ∷ Arrow ∷ Moves word.TurnedLeft ∷ Moves word.TurnedLeft ∷ Moves word.TurnedRight ∷ []) ∷ []
cut_off = refl

-- one `+` at the start of a line, after blanks and comments, isn't a name; elsewhere it may be one
pluses : symbols (codes " (x) ++ [ + ]") ≡ (Plus ∷ Called (one 8) ∷ Open ∷ Called (one 8) ∷ Close ∷ []) ∷ []
pluses = refl

-- letters are folded
folded_letters : symbols (codes "LATE No VERTICAL StartLoop Sfx10 sfx11 Random ... ..") ≡
    (Late ∷ Without ∷ Moves word.Vertical ∷ StartsLoop ∷ Asks Sound ∷ Unknown ∷ LeftOut ∷ Ellipsis ∷ Unknown ∷ []) ∷ []
folded_letters = refl

-- after `message`, which stands after the arrow, the line has no words; on the left of the arrow it takes nothing
message_ends : symbols (codes "message A -> cancel message(A) -> B") ≡
    (Asks Message ∷ Called (one 5) ∷ Arrow ∷ Asks Cancel ∷ Asks Message ∷ []) ∷ []
message_ends = refl

-- trees ---------------------------------------------------------------------------------------------------------------

abbrev cell : List Item → List Item → CellPair
cell left right = record { left = left; right = right }

-- a rule without directions, `late`, `+` and commands
abbrev plain_rule : ℕ → List (List (List CellPair)) → SourceRule
plain_rule line rows = record {
  line = line;
  late = false;
  joined = false;
  directions = [];
  rows = rows;
  rewrites =
      true;
  commands = no_commands;
}

-- a push: the numbers of its items are the bytes at which their names begin
push : rules_read base_names (lines_below (codes "[ > Player | Crate ] -> [ > Player | > Crate ]"))
    ≡ Rule (plain_rule 2 (((cell (Is 10 (Some word.Forwards) (one 2) ∷ []) (Is 34 (Some word.Forwards) (one 2) ∷ [])
    ∷ cell (Is 19 None (one 3) ∷ []) (Is 45 (Some word.Forwards) (one 3) ∷ []) ∷ []) ∷ []) ∷ [])) ∷ []
push = refl

-- directions in their own order, a row in two parts, and commands alone on the right: the cells have nothing there
commands_alone : rules_read base_names (lines_below
    (codes "+ left down [ no AT @ | ... | v B ] -> cancel again sfx3 message Hi (there) "))
    ≡ Rule (record (plain_rule 2 (((cell (No at ∷ Is 26 None crate_on_target ∷ []) [] ∷ []) ∷
    (cell (Is 38 (Some word.TurnedRight) (one 6) ∷ []) [] ∷ []) ∷ []) ∷ [])) {
      joined = true;
      directions = Down ∷ Left ∷ [];
      rewrites = false;
      commands = record no_commands { cancel = true; again = true; message = Some (codes "Hi (there)") };
    }) ∷ []
commands_alone = refl

-- two rows, empty cells, and an ellipsis with cells on both sides of it
two_rows : rules_read base_names (lines_below (codes
    "late up late [] [A|...|B|] -> [ ] [ | ... | | A ] restart checkpoint win message"))
    ≡ Rule (record (plain_rule 2 (((cell [] [] ∷ []) ∷ []) ∷
    ((cell (Is 23 None (one 5) ∷ []) [] ∷ []) ∷
    (cell (Is 29 None (one 6) ∷ []) [] ∷ cell [] (Is 52 None (one 5) ∷ []) ∷ []) ∷ []) ∷ [])) {
      late = true;
      directions = Up ∷ [];
      commands = record no_commands { restart = true; checkpoint = true; win = true; message = Some [] };
    }) ∷ []
two_rows = refl

abbrev rules_in : List ℕ → List SourceRule
rules_in rules = filter_map rule_in (rules_read base_names (lines_below rules))

-- `horizontal`, `vertical` and `orthogonal` give several directions; all words together give theirs in one order
directions : map (λ line. line.directions) (rules_in
    (codes "[] -> win\nright [] -> win\nhorizontal [] -> win\nvertical [] -> win\northogonal [] -> win\nleft vertical left [] -> win"))
    ≡ [] ∷ (Right ∷ []) ∷ (Left ∷ Right ∷ []) ∷ (Up ∷ Down ∷ []) ∷ (Up ∷ Down ∷ Left ∷ Right ∷ []) ∷
    (Up ∷ Down ∷ Left ∷ []) ∷ []
directions = refl

-- the text of a message is what stands after its word, blanks at the ends left out; there may be none
messages : map (λ rule. rule.commands.message)
    (rules_in (codes "[] -> win message(a) b\n[] -> message\n[] -> [] MESSAGE  Two  blanks \t\r\n[] -> sfx0 win"))
    ≡ Some (codes "(a) b") ∷ Some [] ∷ Some (codes "Two  blanks") ∷ None ∷ []
messages = refl

-- lines in their order; blank ones and those that aren't there are read past, and one of no form gives nothing
lines : rules_read base_names (lines_below (codes "startloop\n\n(x)\n=\nEndLoop\nnonsense\n[] -> []\n")) ≡ LoopStart ∷
    LoopEnd ∷ Rule (plain_rule 8 (((cell [] [] ∷ []) ∷ []) ∷ [])) ∷ []
lines = refl
