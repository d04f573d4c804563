-- A line with blanks for its comments, and a line with blanks for some of its bytes.
use Rattle.std.specs.Prelude.{ℕ, ◌≡◌, false, List, length, slice_index}
use Rattle.ps_model.specs.text.Words.{is_blank}

-- a line as long as it was, in which each byte that is no blank is the line's own, and no comment begins
pub record IsPlain (raw plain : List ℕ) : Type 0 where
  pub same : length plain ≡ length raw
  pub shown : (i : ℕ) → is_blank (slice_index plain i) ≡ false → slice_index plain i ≡ slice_index raw i
  pub opening : (i : ℕ) → slice_index raw i ≡ 40 → slice_index plain i ≡ 32

-- a line as long as it was, in which each byte that is no blank is the line's own
pub record IsVeiled (raw line : List ℕ) : Type 0 where
  pub same : length line ≡ length raw
  pub shown : (i : ℕ) → is_blank (slice_index line i) ≡ false → slice_index line i ≡ slice_index raw i
