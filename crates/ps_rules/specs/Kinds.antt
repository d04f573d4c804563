-- The kinds of words of the code as the tests of the definitions, and parts of a line's words.
use Rattle.std.specs.Prelude.{Bool, not, List, map}
use Rattle.std.specs.Borrow.{Bor}
use Rattle.ps_model.specs.rules.RuleSymbols.{Symbol, is_left_out}
use Rattle.ps_model.specs.rules.RuleSymbols as model
use Rattle.ps_model.specs.rules.RuleShape.{is_open, is_close, is_bar, is_arrow, is_ellipsis, is_late, is_plus}
use Rattle.ps_model.specs.rules.RuleShapeFaults.{is_cell_word, is_rule_word, is_command, is_movement}
use Rattle.ps_model.specs.rules.RuleTree.{gives}
use Rattle.ps_rules.specs.declared.symbols.Token.{Token}
use Rattle.ps_rules.specs.declared.kinds.Kind.{Kind}
use Rattle.ps_rules.specs.declared.kinds.Kind.TheVariants.{Open, Close, Bar, Arrow, Ellipsis, Late, Plus, LeftOut}
use Rattle.ps_rules.specs.declared.kinds.Kind.TheVariants.{OfCell, NotOfCell, NotOfRule, Command, NoCommand, Movement}
use Rattle.ps_rules.specs.declared.kinds.Kind.TheVariants.{Gives}
use Rattle.ps_rules.specs.SymbolsShown.{tokens_shown}

-- a word is of the kind
abbrev pub is_kind : Kind → Symbol → Bool
is_kind Open symbol = is_open symbol
is_kind Close symbol = is_close symbol
is_kind Bar symbol = is_bar symbol
is_kind Arrow symbol = is_arrow symbol
is_kind Ellipsis symbol = is_ellipsis symbol
is_kind Late symbol = is_late symbol
is_kind Plus symbol = is_plus symbol
is_kind LeftOut symbol = is_left_out symbol
is_kind OfCell symbol = is_cell_word symbol
is_kind NotOfCell symbol = not (is_cell_word symbol)
is_kind NotOfRule symbol = not (is_rule_word symbol)
is_kind Command symbol = is_command symbol
is_kind NoCommand symbol = not (is_command symbol)
is_kind Movement symbol = is_movement symbol
is_kind (Gives direction) symbol = gives direction symbol

-- parts of words
abbrev pub parts_shown : List (Bor (List Token)) → List (List model.Token)
parts_shown parts = map (λ part. tokens_shown part.now) parts
