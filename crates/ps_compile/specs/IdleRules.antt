-- Void rules: compiled rules that can do nothing, as the values of their cells' layers tell. A rule is void if some cell
-- has a layer of which no value fits; and if it asks nothing of the turn and in every cell the write leaves each fitting
-- value of each layer as it is.
use Rattle.std.specs.Prelude.{Bool, true, false, ◌&&◌, ◌||◌, not, is_some}
use Rattle.std.specs.List.{list_all, list_any}
use Rattle.ps_model.specs.names.Names.{Names}
use Rattle.ps_model.specs.rules.SourceRules.{Commands}
use Rattle.ps_model.specs.meaning.Compiled.{CompiledCell, CompiledRule}
use Rattle.ps_compile.specs.LayerValues.{some_below, some_value}

-- cells ---------------------------------------------------------------------------------------------------------------

-- a cell fits nothing: it has a layer of which no value fits
abbrev pub is_void_cell : Names → CompiledCell → Bool
is_void_cell names cell = some_below (λ layer. not (some_value names cell false layer)) names.layer_count

-- a cell leaves what it fits as it is: it has no layer of which a value fits and is changed
abbrev pub leaves_what_fits : Names → CompiledCell → Bool
leaves_what_fits names cell = not (some_below (some_value names cell true) names.layer_count)

-- rules ---------------------------------------------------------------------------------------------------------------

-- a rule asks something of the turn besides rewriting
abbrev pub asks : Commands → Bool
asks commands =
    commands.cancel || (commands.restart || (commands.again ||
    (commands.checkpoint || (commands.win || is_some commands.message))))

-- some cell of a rule fits nothing
abbrev pub has_void_cell : Names → CompiledRule → Bool
has_void_cell names rule = list_any (list_any (list_any (is_void_cell names))) rule.rows

-- all cells of a rule leave what they fit as it is
abbrev pub leaves_all : Names → CompiledRule → Bool
leaves_all names rule = list_all (list_all (list_all (leaves_what_fits names))) rule.rows

-- a rule is void
abbrev pub is_idle : Names → CompiledRule → Bool
is_idle names rule =
    has_void_cell names rule || (not (asks rule.commands) && (not rule.rewrites || leaves_all names rule))
