-- Spans that rise.
use Rattle.std.proofs.Common.{ℕ, ◌+◌, ◌<◌, ◌≤◌, Option, Some, None, List, [], ◌∷◌, ◌++◌, length, arith}
use Rattle.std.specs.Prelude.{IfSome}
use Rattle.ps_model.specs.declared.texts.Span.{Span}
use Rattle.ps_text.specs.declared.scan.ByteRange.{ByteRange}
use Rattle.ps_text.specs.WordRanges.{IsWordRange}
use Rattle.ps_text.specs.WordViews.{AreRisingSpans}

-- up to a later place
pub rising_higher : (low high top : ℕ) (spans : List Span) → high ≤ top → AreRisingSpans low high spans →
    AreRisingSpans low top spans
rising_higher low high top [] h r = omega (arith, r)
rising_higher low high top (span ∷ spans) h r = (r.0, r.1, rising_higher span.end high top spans h r.2)

-- with one more
pub rising_push : (low high : ℕ) (spans : List Span) (span : Span) → AreRisingSpans low high spans →
    high ≤ span.start → span.start < span.end → AreRisingSpans low span.end (spans ++ span ∷ [])
rising_push low high [] span r h l = (omega (arith, r), l, omega arith)
rising_push low high (first ∷ spans) span r h l = (r.0, r.1, rising_push first.end high spans span r.2 h l)

-- where the spans of a line end before the word found: at its start, or else with the line
abbrev pub rise_limit : ℕ → List ℕ → Option ByteRange → ℕ
rise_limit start line None = start + length line
rise_limit start line (Some range) = start + range.start

pub limit_behind : (start from : ℕ) (line : List ℕ) (found : Option ByteRange) → from ≤ length line →
    IfSome found (IsWordRange line from) → start + from ≤ rise_limit start line found
limit_behind start from line None l h = omega arith
limit_behind start from line (Some range) l h = omega (arith, h.behind)
