use Rattle.std.proofs.Common.{◌≡◌, ◌≤◌, drop, map}
use Rattle.ps_text.specs.WordViews.{text_of}
use Rattle.ps_causes.specs.Unbound.{alike_from, alike_on_left}
use Rattle.ps_causes.proofs.alike.alike_on_left.Given as goal

-- the words passed by are counted, and the others lie ahead
abbrev pub invariant-loop-other : goal.invariant-loop-other
invariant-loop-other l =
    record {
      told : alike_from l.names l.word l.count l.inside l.barred (map text_of (drop l.other-index l.words))
          ≡ alike_on_left l.names l.word (map text_of l.words);
      few : l.count ≤ l.other-index;
    }
