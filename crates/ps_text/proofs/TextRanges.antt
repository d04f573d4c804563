-- Where a line can be cut at a text that is taken as it stands.
use Rattle.std.proofs.Common.{◌≡◌, ℕ, ◌+◌, ◌-◌, ◌<◌, ◌≤◌, List, length, get_or, subst, arith}
use Rattle.std.specs.Str.{IsUtf8, IsCharBoundary}
use Rattle.std.proofs.lemmas.Str.{IsCharBoundary-after_ascii}
use Rattle.ps_text.specs.declared.scan.ByteRange.{ByteRange}
use Rattle.ps_text.specs.PlainLines.{IsPlain}
use Rattle.ps_text.specs.TakenRanges.{IsTextStart, IsTextRange}

-- where it begins
cut_at_start : (line : List ℕ) (place : ℕ) → IsUtf8 line → IsTextStart line place → IsCharBoundary line place
cut_at_start line place u s =
    let behind : place - 1 + 1 ≡ place = omega (arith, s.some) in
    subst (λ (n : ℕ). IsCharBoundary line n) behind
    (IsCharBoundary-after_ascii line (place - 1) u (omega (arith, s.some, s.within)) s.ascii)

-- where it ends
cut_at_end : (line : List ℕ) (place byte : ℕ) → byte < 128 → place ≤ length line →
    (place < length line → get_or line place 0 ≡ byte) → IsCharBoundary line place
cut_at_end line place byte b l h = (l, λ within high. absurd (omega (arith, h within)))

-- a text begins in the line itself where it begins in the line without comments
raw_start : (raw plain : List ℕ) (place : ℕ) → IsPlain raw plain → IsTextStart plain place → IsTextStart raw place
raw_start raw plain place p s =
    let same : get_or plain (place - 1) 0 ≡ get_or raw (place - 1) 0 = p.shown (place - 1) s.solid in
    record {
      some = s.some;
      within = omega (arith, s.within, p.same);
      ascii = omega (arith, s.ascii, same);
      solid =
          rw (← same) s.solid;
    }

pub raw_region : (raw plain : List ℕ) (start end : ℕ) → IsUtf8 raw → IsPlain raw plain → IsTextStart plain start →
    start ≤ end → end ≤ length raw → (end < length raw → get_or raw end 0 ≡ 40) →
    IsTextRange raw (let range : ByteRange = record { start = start; end = end } in range)
raw_region raw plain start end u p s o l h = record {
  order = o;
  start =
      cut_at_start raw start u (raw_start raw plain start p s);
  end = cut_at_end raw end 40 (omega arith) l h;
}

pub plain_region : (raw plain : List ℕ) (start end : ℕ) → IsUtf8 plain → IsPlain raw plain → IsTextStart plain start →
    start ≤ end → end ≤ length raw → (end < length raw → get_or raw end 0 ≡ 40) →
    IsTextRange plain (let range : ByteRange = record { start = start; end = end } in range)
plain_region raw plain start end u p s o l h =
    record {
      order = o;
      start = cut_at_start plain start u s;
      end =
          cut_at_end plain end 32 (omega arith) (omega (arith, p.same)) (λ within.
          p.opening end (h (omega (arith, p.same))));
    }
