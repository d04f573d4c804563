use Rattle.std.proofs.Common.{◌≡◌, ◌++◌, length}
use Rattle.ps_view.specs.Views.{handed_on, view_behind}
use Rattle.ps_view.proofs.views.TerminalView.take.Given as goal

-- the lines passed by are taken
abbrev pub invariant-loop-line : goal.invariant-loop-line
invariant-loop-line l = record {
  view : view_behind l.self l.rest ≡ view_behind l.fn.self l.bytes;
  added : l.orders ++ handed_on l.self l.rest ≡ l.fn.orders ++ handed_on l.fn.self l.bytes;
}

abbrev pub decreases-loop-line : goal.decreases-loop-line
decreases-loop-line l = length l.rest
