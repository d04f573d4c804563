-- Lines that begin or end no loop, one after the other.
use Rattle.std.proofs.Common.{◌≡◌, ℕ, ◌+◌, ◌<◌, ◌≤◌, Bool, true, false, Option, None, Some, List, ap, ◌∙◌, arith}
use Rattle.std.proofs.Common.{inl, inr}
use Rattle.std.proofs.Math.Nat.{eq-or-lt_of_le}
use Rattle.ps_model.specs.text.LineNumbers.{HasLine}
use Rattle.ps_causes.specs.Loops.{NoneBetween, IsLastAbove, is_loop_line}

-- no line passes the test, and neither does the next one
pub one-more : (test : ℕ → Bool) (from to next : ℕ) → next ≡ to + 1 → test to ≡ false → NoneBetween test from to →
    NoneBetween test from next
one-more test from to next one other none k low high =
    let most : k ≤ to = omega arith in
    elim (eq-or-lt_of_le most) [ inl same ↦ ap test same ∙ other | inr less ↦ none k low less ]

-- before the first line is none
pub none-yet : (test : ℕ → Bool) (from to : ℕ) → to ≤ from → NoneBetween test from to
none-yet test from to few k low high = absurd (omega arith)

-- above the first line is none
pub first-above : (text : List ℕ) → IsLastAbove text 1 None
first-above text = record {
  there = tt;
  above = tt;
  of_loop = tt;
  none_below = none-yet (is_loop_line text) 1 1 (omega arith);
}

-- a line that begins or ends a loop is the last above the next one
pub last-found : (text : List ℕ) (line next : ℕ) → HasLine text line → next ≡ line + 1 →
    is_loop_line text line ≡ true → IsLastAbove text next (Some line)
last-found text line next there one is = record {
  there = there;
  above = omega arith;
  of_loop = is;
  none_below = none-yet (is_loop_line text) (line + 1) next (omega arith);
}

-- another line changes nothing
pub last-kept : (text : List ℕ) (line next : ℕ) (last : Option ℕ) → next ≡ line + 1 → is_loop_line text line ≡ false →
    IsLastAbove text line last → IsLastAbove text next last
last-kept text line next None one other is = record {
  there = tt;
  above = tt;
  of_loop = tt;
  none_below = one-more (is_loop_line text) 1 line next one other is.none_below;
}
last-kept text line next (Some number) one other is =
    let less : number < line = is.above in record {
      there = is.there;
      above = omega arith;
      of_loop = is.of_loop;
      none_below = one-more (is_loop_line text) (number + 1) line next one other is.none_below;
    }
