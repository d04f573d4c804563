-- The lines from a place of a text on, a line further.
use Rattle.std.proofs.Common.{◌≡◌, ℕ, ◌+◌, ◌<◌, ◌≤◌, ◌⊎◌, inl, inr, true, false, List, [], ◌∷◌, ◌++◌, length, take}
use Rattle.std.proofs.Common.{drop, map, refl, sym, ◌∙◌, ap, arith, add-one}
use Rattle.std.specs.Prelude.{nat_eq}
use Rattle.std.specs.List.{slice_split, position_or_len, starts_with}
use Rattle.std.specs.Str.{IsUtf8, IsCharBoundary}
use Rattle.std.proofs.Math.Utf8.{encode}
use Rattle.std.proofs.lemmas.Bool.Decides.{Decides-eqb}
use Rattle.std.proofs.lemmas.Grind.{common_steps}
use Rattle.std.proofs.lemmas.List.{drop_all, drop-drop, map-append, append_assoc}
use Rattle.std.proofs.lemmas.List.Elements.{All-from_get_or}
use Rattle.std.proofs.lemmas.List.Splits.{slice_split_first, slice_split_none, length-slice_split}
use Rattle.std.proofs.lemmas.List.Sums.{fails_before_first, prefix_len-le-length}
use Rattle.std.proofs.lemmas.Slice.Eq.{starts_is}
use Rattle.std.proofs.lemmas.Str.{IsCharBoundary-past_char}
use Rattle.ps_model.specs.declared.texts.Section.TheVariants.{Prelude}
use Rattle.ps_model.specs.text.Lines.{Line, is_line_feed, mark_length, without_empty_end, as_lines, lines_from}
use Rattle.ps_model.specs.text.Lines.{lines_of}
use Rattle.ps_text.specs.declared.rows.Row.{Row}
use Rattle.ps_text.specs.declared.rows.LineStart.{LineStart}
use Rattle.ps_text.specs.Rows.{shown, raw_at, line_below, next_line_start, lines_behind}

-- where the first line feed stands
abbrev pub feed_place : List ℕ → ℕ
feed_place bytes = position_or_len is_line_feed bytes

-- a piece with others after it is a line
kept : (piece : List ℕ) (pieces : List (List ℕ)) → 0 < length pieces →
    without_empty_end (piece ∷ pieces) ≡ piece ∷ without_empty_end pieces
kept piece [] h = absurd (omega arith)
kept [] (next ∷ others) h = refl
kept (byte ∷ bytes) (next ∷ others) h = refl

kept_alone : (piece : List ℕ) → 0 < length piece → without_empty_end (piece ∷ []) ≡ piece ∷ []
kept_alone [] h = absurd (omega arith)
kept_alone (byte ∷ bytes) h = refl

-- bytes without a line feed are one piece
one_piece : (bytes : List ℕ) → feed_place bytes ≡ length bytes → slice_split is_line_feed bytes ≡ bytes ∷ []
one_piece bytes e = slice_split_none is_line_feed bytes
    (All-from_get_or (λ byte. is_line_feed byte ≡ false) bytes 0 (λ i l.
    fails_before_first is_line_feed bytes i 0 (omega arith)))

pieces_first : (bytes : List ℕ) → feed_place bytes < length bytes →
    slice_split is_line_feed bytes ≡ take (feed_place bytes) bytes ∷ slice_split is_line_feed
    (drop (feed_place bytes + 1) bytes)
pieces_first bytes l = slice_split_first is_line_feed bytes 0 l

some_pieces : (bytes : List ℕ) → 0 < length (slice_split is_line_feed bytes)
some_pieces bytes = omega (arith, length-slice_split is_line_feed bytes)

ends_or_not : (bytes : List ℕ) → (feed_place bytes < length bytes) ⊎ (feed_place bytes ≡ length bytes)
ends_or_not bytes = let h : feed_place bytes ≤ length bytes = prefix_len-le-length _ bytes in grind arith

take_whole : (bytes : List ℕ) (n : ℕ) → n ≡ length bytes → take n bytes ≡ bytes
take_whole bytes n e = grind (arith, common_steps)

-- the lines of what follows a line feed
behind_feed : (bytes : List ℕ) → 0 < length bytes →
    without_empty_end (slice_split is_line_feed bytes) ≡ take (feed_place bytes) bytes ∷ without_empty_end
    (slice_split is_line_feed (drop (feed_place bytes + 1) bytes))
behind_feed bytes h = elim (ends_or_not bytes) [
  | inl l ↦ ap without_empty_end (pieces_first bytes l)
      ∙ kept (take (feed_place bytes) bytes) (slice_split is_line_feed (drop (feed_place bytes + 1) bytes))
      (some_pieces (drop (feed_place bytes + 1) bytes))
  | inr e ↦
      let gone : drop (feed_place bytes + 1) bytes ≡ [] = drop_all _ bytes (omega arith) in
      rw (gone, take_whole bytes _ e, one_piece bytes e) (kept_alone bytes h)
]

-- the lines of a text
at_start : (bytes : List ℕ) → as_lines (slice_split is_line_feed bytes) ≡ take (feed_place bytes) bytes ∷
    without_empty_end (slice_split is_line_feed (drop (feed_place bytes + 1) bytes))
at_start bytes = elim (ends_or_not bytes) [
  | inl l ↦ ap as_lines (pieces_first bytes l)
  | inr e ↦
      let gone : drop (feed_place bytes + 1) bytes ≡ [] = drop_all _ bytes (omega arith) in
      rw (gone, take_whole bytes _ e, one_piece bytes e) refl
]

raw_behind : (text : List ℕ) (start : ℕ) → start ≤ length text →
    drop (feed_place (drop start text) + 1) (drop start text) ≡ drop (start + length (raw_at text start) + 1) text
raw_behind text start h =
    let low : feed_place (drop start text) ≤ length (drop start text) = prefix_len-le-length _ (drop start text) in
    let long : length (raw_at text start) ≡ feed_place (drop start text) = grind (arith, common_steps) in
    drop-drop (feed_place (drop start text) + 1) start text ∙ ap (λ (n : ℕ). drop n text) (omega (arith, long))

-- the line below, and those after it
from_pieces : (text : List ℕ) (above : LineStart) (pieces : List (List ℕ)) → above.start ≤ length text →
    pieces ≡ take (feed_place (drop above.start text)) (drop above.start text) ∷ without_empty_end
    (slice_split is_line_feed (drop (feed_place (drop above.start text) + 1) (drop above.start text))) →
    lines_from above.number above.start above.depth above.section pieces ≡ line_below above (raw_at text above.start) ∷
    lines_behind text (next_line_start above (raw_at text above.start))
from_pieces text above pieces h p = rw (p, raw_behind text above.start h, add-one above.number) refl

pub next_line : (text : List ℕ) (above : LineStart) → above.start < length text →
    lines_behind text above ≡ line_below above (raw_at text above.start) ∷ lines_behind text
    (next_line_start above (raw_at text above.start))
next_line text above l =
    let some : 0 < length (drop above.start text) = grind (arith, common_steps) in
    from_pieces text above _ (omega arith) (behind_feed (drop above.start text) some)

pub no_line_behind : (text : List ℕ) (above : LineStart) → length text ≤ above.start → lines_behind text above ≡ []
no_line_behind text above h = let gone : drop above.start text ≡ [] = drop_all above.start text h in rw gone refl

-- after a byte order mark the text may be cut
pub behind_mark : (text : List ℕ) → IsUtf8 text → starts_with nat_eq text (239 ∷ 187 ∷ 191 ∷ []) ≡ true →
    IsCharBoundary text 3
unfolding encode
behind_mark text u h =
    let split : text ≡ (239 ∷ 187 ∷ 191 ∷ []) ++ drop 3 text =
    (starts_is Decides-eqb text (239 ∷ 187 ∷ 191 ∷ []) true (sym h)).0 refl in
    IsCharBoundary-past_char text (drop 3 text) 0 65279 (omega arith) u split

-- the lines of a text
pub first_lines : (text : List ℕ) (first : LineStart) → first.number ≡ 1 → first.start ≡ mark_length text →
    first.depth ≡ 0 → first.section ≡ Prelude → first.start ≤ length text →
    lines_of text ≡ line_below first (raw_at text first.start) ∷ lines_behind text
    (next_line_start first (raw_at text first.start))
first_lines text first n s d sec h =
    let pieces = from_pieces text first _ h (at_start (drop first.start text)) in
    let same : lines_from first.number first.start first.depth first.section
    (as_lines (slice_split is_line_feed (drop first.start text))) ≡ lines_of text = rw (n, d, sec, s) refl in
    sym same ∙ pieces

-- a row more
pub row_more : (text : List ℕ) (rows : List Row) (row : Row) (above below : LineStart) (whole : List Line) →
    above.start < length text → shown text row ≡ line_below above (raw_at text above.start) →
    below ≡ next_line_start above (raw_at text above.start) →
    map (shown text) rows ++ lines_behind text above ≡ whole →
    map (shown text) (rows ++ row ∷ []) ++ lines_behind text below ≡ whole
row_more text rows row above below whole l s b told =
    let last : shown text row ∷ lines_behind text below ≡ lines_behind text above =
    rw (s, b) (sym (next_line text above l)) in
    ap (λ (lines : List Line). lines ++ lines_behind text below) (map-append (shown text) rows (row ∷ []))
    ∙ append_assoc (map (shown text) rows) (shown text row ∷ []) (lines_behind text below)
    ∙ ap (λ (lines : List Line). map (shown text) rows ++ lines) last ∙ told

-- the first row
pub one_row : (text : List ℕ) (row : Row) (first below : LineStart) → first.number ≡ 1 →
    first.start ≡ mark_length text → first.depth ≡ 0 → first.section ≡ Prelude → first.start ≤ length text →
    shown text row ≡ line_below first (raw_at text first.start) →
    below ≡ next_line_start first (raw_at text first.start) →
    map (shown text) (row ∷ []) ++ lines_behind text below ≡ lines_of text
one_row text row first below n p d sec h s b = rw (s, b) (sym (first_lines text first n p d sec h))
