use Rattle.std.proofs.Common.{◌≡◌, ◌++◌, ◌-◌, drop, length}
use Rattle.ps_names.specs.Known.{mentions_shown}
use Rattle.ps_names.specs.LegendNames.{waiting, reached_shown}
use Rattle.ps_names.proofs.reach.Reach.wait_for.Given as goal

abbrev pub invariant-loop-behind : goal.invariant-loop-behind
invariant-loop-behind l =
    record {
      waits : waiting l.self ≡ mentions_shown (drop (length l.mentions - l.behind) l.mentions) ++ waiting
          l.initial.self;
      reached : reached_shown l.self ≡ reached_shown l.initial.self;
    }
