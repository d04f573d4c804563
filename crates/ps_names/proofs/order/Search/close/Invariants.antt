use Rattle.ps_names.proofs.order.Search.close.Given as goal

abbrev pub decreases-loop-line : goal.decreases-loop-line
decreases-loop-line l = goal.left-loop-line l
