-- Plain rows are rows of a frame, and rows of a frame with as many bytes as columns, and a line feed, are plain.
use Rattle.std.proofs.Common.{◌≡◌, ◌∙◌, ℕ, suc, zero, ◌+◌, ◌-◌, ◌*◌, ◌<◌, ◌≤◌, ◌&&◌, Bool, true, false, List, [], ◌∷◌}
use Rattle.std.proofs.Common.{◌++◌, length, length-take, get_or, take, drop, append_assoc, refl, sym, ap, ap₂, arith}
use Rattle.std.specs.Prelude.{encode_utf8, codes, nat_lt, replicate}
use Rattle.std.specs.List.{flat_map, range_with_len}
use Rattle.std.proofs.Math.Bool.{and-true}
use Rattle.std.proofs.lemmas.Bool.{and_parts, lt-ltb}
use Rattle.std.proofs.lemmas.Bool.Decides.{nat_tests}
use Rattle.std.proofs.lemmas.List.{get_or-drop, get_or-take, length-append, length-drop, length-replicate, take_all}
use Rattle.std.proofs.lemmas.Str.{length-encode, len_utf8_bounds}
use Rattle.ps_model.specs.board.Grid.{Grid}
use Rattle.ps_model.specs.names.Names.{Names}
use Rattle.ps_model.specs.session.Frames.{frame_row, shown_character}
use Rattle.ps_model.specs.board.Grid.{cell_at}
use Rattle.ps_model.specs.declared.limits.TheConstants.{SIDE_LIMIT}
use Rattle.ps_board.specs.ColumnSets.{both_columns, column_at, columns_below, set_columns}
use Rattle.ps_board.specs.Rows.{DifferOnlyIn, HaveSameRow}
use Rattle.ps_board.proofs.AllRows.{none_outside}
use Rattle.ps_board.proofs.ColumnLaws.{column_at-where, none_in}
use Rattle.ps_screen.specs.PlainRows.{AreDrawn, IsPlainRow, column_bytes}
use Rattle.ps_screen.proofs.KeptRows.{same_by_layer}

-- a character has a byte
some_byte : (c : ℕ) → 0 < length (encode_utf8 c)
some_byte c = let few = len_utf8_bounds c in omega (arith, length-encode c, few.0)

-- as many bytes as texts at least, where each text has one
at_least : (f : ℕ → List ℕ) (a n : ℕ) → ((k : ℕ) → 0 < length (f k)) → n ≤ length (flat_map f (range_with_len a n))
at_least f a zero some = omega arith
at_least f a (suc n) some =
    let more = at_least f (a + 1) n some in
    let one = some a in
    let long : length (f a ++ flat_map f (range_with_len (a + 1) n)) ≡ length (f a) + length
    (flat_map f (range_with_len (a + 1) n)) =
    length-append (f a) (flat_map f (range_with_len (a + 1) n)) in
    omega (arith, more, one, long)

-- a text of one byte at the head
one_of : (xs rest : List ℕ) → length xs ≡ 1 → xs ≡ get_or (xs ++ rest) 0 0 ∷ []
one_of [] rest e = absurd (omega arith)
one_of (x ∷ []) rest e = refl
one_of (x ∷ y ∷ xs) rest e = absurd (omega arith)

behind_one : (xs rest : List ℕ) (k : ℕ) → length xs ≡ 1 → get_or (xs ++ rest) (suc k) 0 ≡ get_or rest k 0
behind_one [] rest k e = absurd (omega arith)
behind_one (x ∷ []) rest k e = refl
behind_one (x ∷ y ∷ xs) rest k e = absurd (omega arith)

-- as many bytes as texts: one for each
one_here : (f : ℕ → List ℕ) (a n : ℕ) → ((k : ℕ) → 0 < length (f k)) →
    length (flat_map f (range_with_len a (suc n))) ≡ suc n →
    (length (f a) ≡ 1) × (length (flat_map f (range_with_len (a + 1) n)) ≡ n)
one_here f a n some long =
    let more : n ≤ length (flat_map f (range_with_len (a + 1) n)) = at_least f (a + 1) n some in
    let one : 0 < length (f a) = some a in
    let all : length (f a ++ flat_map f (range_with_len (a + 1) n)) ≡ length (f a) + length
    (flat_map f (range_with_len (a + 1) n)) =
    length-append (f a) (flat_map f (range_with_len (a + 1) n)) in
    (omega (arith, long, all, more, one), omega (arith, long, all, more, one))

one_each : (f : ℕ → List ℕ) (a n : ℕ) (behind : List ℕ) → ((k : ℕ) → 0 < length (f k)) →
    length (flat_map f (range_with_len a n)) ≡ n → (k : ℕ) → k < n →
    f (a + k) ≡ get_or (flat_map f (range_with_len a n) ++ behind) k 0 ∷ []
one_each f a zero behind some long k low = absurd (omega arith)
one_each f a (suc n) behind some long zero low =
    let here : a + 0 ≡ a = omega arith in
    ap f here ∙ one_of (f a) (flat_map f (range_with_len (a + 1) n) ++ behind) ((one_here f a n some long).0)
    ∙ ap (λ (xs : List ℕ). get_or xs 0 0 ∷ []) (sym (append_assoc (f a) (flat_map f (range_with_len (a + 1) n)) behind))
one_each f a (suc n) behind some long (suc k) low =
    let there : a + suc k ≡ a + 1 + k = omega arith in
    ap f there ∙ one_each f (a + 1) n behind some ((one_here f a n some long).1) k (omega arith)
    ∙ ap (λ (b : ℕ). b ∷ []) (sym (behind_one (f a) (flat_map f (range_with_len (a + 1) n) ++ behind) k
    ((one_here f a n some long).0)))
    ∙ ap (λ (xs : List ℕ). get_or xs (suc k) 0 ∷ [])
    (sym (append_assoc (f a) (flat_map f (range_with_len (a + 1) n)) behind))

-- and so the other way
from_each : (f : ℕ → List ℕ) (a n : ℕ) (text : List ℕ) → n ≤ length text →
    ((k : ℕ) → k < n → f (a + k) ≡ get_or text k 0 ∷ []) → flat_map f (range_with_len a n) ≡ take n text
from_each f a zero text long each = refl
from_each f a (suc n) [] long each = absurd (omega arith)
from_each f a (suc n) (b ∷ text) long each =
    let here : a + 0 ≡ a = omega arith in
    ap₂ (λ (xs ys : List ℕ). xs ++ ys) (ap f (sym here) ∙ each 0 (omega arith))
    (from_each f (a + 1) n text (omega (arith, long)) (λ k low. let there : a + 1 + k ≡ a + suc k = omega arith in
    ap f there ∙ each (suc k) (omega arith)))

-- the byte after a text, and a text without its last byte
pub at_end : (xs ys : List ℕ) (n : ℕ) → length xs ≡ n → get_or (xs ++ ys) n 0 ≡ get_or ys 0 0
at_end [] ys zero e = refl
at_end [] ys (suc n) e = absurd (omega arith)
at_end (x ∷ xs) ys zero e = absurd (omega arith)
at_end (x ∷ xs) ys (suc n) e = at_end xs ys n (omega (arith, e))

pub cut_last : (text : List ℕ) (n b : ℕ) → length text ≡ n + 1 → get_or text n 0 ≡ b → text ≡ take n text ++ b ∷ []
cut_last [] n b long e = absurd (omega arith)
cut_last (x ∷ []) zero b long e = ap (λ (y : ℕ). y ∷ []) e
cut_last (x ∷ y ∷ text) zero b long e = absurd (omega arith)
cut_last (x ∷ text) (suc n) b long e = ap (λ (t : List ℕ). x ∷ t) (cut_last text n b (omega (arith, long)) e)

pub plain_of : (names : Names) (g : Grid) (row : ℕ) (text : List ℕ) → text ≡ frame_row names g row →
    length text ≡ g.width + 1 → IsPlainRow names g row 0 text
plain_of names g row text is long =
    let rows : List ℕ = flat_map (column_bytes names g row) (range_with_len 0 g.width) in
    let all : length (rows ++ codes "\n") ≡ length rows + length (codes "\n") = length-append rows (codes "\n") in
    let few : length rows ≡ g.width = omega (arith, long, ap (λ (t : List ℕ). length t) is, all) in
    record {
      long = omega (arith, long);
      each = λ x low.
          let here : 0 + x ≡ x = omega arith in
          ap (column_bytes names g row) (sym here)
          ∙ one_each (column_bytes names g row) 0 g.width (codes "\n") (λ k.
          some_byte (shown_character names (cell_at g (k * g.height + row)))) few x low
          ∙ ap₂ (λ (t : List ℕ) (i : ℕ). get_or t i 0 ∷ []) (sym is) (sym here);
      end =
          let here : 0 + g.width ≡ g.width = omega arith in
          ap₂ (λ (t : List ℕ) (i : ℕ). get_or t i 0) is here ∙ at_end rows (codes "\n") g.width few;
    }

-- a byte of a part of a text
of_part : (start long : ℕ) (text : List ℕ) (k : ℕ) → k < long →
    get_or (take long (drop start text)) k 0 ≡ get_or text (start + k) 0
of_part start long text k low = get_or-take long (drop start text) k 0 low ∙ get_or-drop start text k 0

-- a plain row's part of a text is the row
pub plain_part : (names : Names) (g : Grid) (row start : ℕ) (text : List ℕ) → IsPlainRow names g row start text →
    take (g.width + 1) (drop start text) ≡ frame_row names g row
plain_part names g row start text plain =
    let part : List ℕ = take (g.width + 1) (drop start text) in
    let long : length part ≡ g.width + 1 = length-take (g.width + 1) (drop start text)
    ∙ (rw (length-drop start text) (omega (arith, plain.long))) in
    cut_last part g.width 10 long (of_part start (g.width + 1) text g.width (omega arith) ∙ plain.end)
    ∙ ap (λ (t : List ℕ). t ++ codes "\n")
    (sym (from_each (column_bytes names g row) 0 g.width part (omega (arith, long)) (λ k low.
    let here : 0 + k ≡ k = omega arith in
    ap (column_bytes names g row) here ∙ plain.each k low
    ∙ ap (λ (b : ℕ). b ∷ []) (sym (of_part start (g.width + 1) text k (omega (arith, low)))))))

-- and some of its columns are part of it
pub plain_columns : (names : Names) (g : Grid) (row start : ℕ) (text : List ℕ) (first count : ℕ) →
    first + count ≤ g.width → IsPlainRow names g row start text →
    take count (drop (start + first) text) ≡ flat_map (column_bytes names g row) (range_with_len first count)
plain_columns names g row start text first count within plain =
    let rest : List ℕ = drop (start + first) text in
    let long : length rest ≡ length text - (start + first) = length-drop (start + first) text in
    sym (from_each (column_bytes names g row) first count rest (omega (arith, long, plain.long, within))
    (λ k low.
    let place : start + (first + k) ≡ start + first + k = omega arith in
    plain.each (first + k) (omega (arith, low, within))
    ∙ ap (λ (i : ℕ). get_or text i 0 ∷ []) place
    ∙ ap (λ (b : ℕ). b ∷ []) (sym (get_or-drop (start + first) text k 0))))

-- so a text that is no more than a plain row is the row
pub of_plain : (names : Names) (g : Grid) (row : ℕ) (text : List ℕ) → length text ≡ g.width + 1 →
    IsPlainRow names g row 0 text → text ≡ frame_row names g row
of_plain names g row text long plain = sym (take_all (g.width + 1) text (omega (arith, long)))
    ∙ plain_part names g row 0 text plain

-- a plain row of one grid, but for the columns of another that may differ
pub drawn_but : (names : Names) (g h : Grid) (row : ℕ) (columns : List Bool) (start : ℕ) (text : List ℕ) →
    h.width ≡ g.width → h.height ≡ g.height → DifferOnlyIn columns g h row → IsPlainRow names h row start text →
    AreDrawn names g row columns start text
drawn_but names g h row columns start text wide high only plain =
    record {
      long = omega (arith, plain.long, wide);
      each = λ x under none.
          same_by_layer names g h (x * g.height + row) (x * g.height + row) (only x under none)
          ∙ ap (λ (n : ℕ). encode_utf8 (shown_character names (cell_at h (x * n + row)))) (sym high)
          ∙ plain.each x (rw wide under);
      end = ap (λ (n : ℕ). get_or text (start + n) 0) (sym wide) ∙ plain.end;
    }

-- a plain row of one grid is one of another that shows the same there
pub same_plain : (names : Names) (g h : Grid) (row start : ℕ) (text : List ℕ) → h.width ≡ g.width →
    h.height ≡ g.height → HaveSameRow g h row → IsPlainRow names h row start text →
    IsPlainRow names g row start text
same_plain names g h row start text wide high same plain =
    let drawn : AreDrawn names g row [] start text =
    drawn_but names g h row [] start text wide high (λ x under none. same x under) plain in
    record {
      long = drawn.long;
      each = λ x under. drawn.each x under refl;
      end = drawn.end;
    }

-- columns of the board's width alone
pub within_width : (columns : List Bool) (width x : ℕ) → x < SIDE_LIMIT →
    column_at (both_columns columns (columns_below width)) x ≡ true → x < width
within_width columns width x low has =
    let both = and_parts (column_at columns x) (column_at (columns_below width) x)
    (sym (column_at-where (λ y. column_at columns y && column_at (columns_below width) y) x low) ∙ has) in
    let under : nat_lt x width ≡ true = sym (column_at-where (λ y. nat_lt y width) x low) ∙ both.1 in
    grind (arith, nat_tests)

-- a column of both is one of the first
pub one_of_both : (columns others : List Bool) (x : ℕ) → x < SIDE_LIMIT →
    column_at (both_columns columns others) x ≡ true → column_at columns x ≡ true
one_of_both columns others x low has =
    (and_parts (column_at columns x) (column_at others x)
    (sym (column_at-where (λ y. column_at columns y && column_at others y) x low) ∙ has)).0

pub out_of_both : (columns : List Bool) (width x : ℕ) → x < SIDE_LIMIT → x < width →
    column_at (both_columns columns (columns_below width)) x ≡ false → column_at columns x ≡ false
out_of_both columns width x low under none =
    let below : column_at (columns_below width) x ≡ true = column_at-where (λ y. nat_lt y width) x low
    ∙ lt-ltb x width under in
    sym (and-true (column_at columns x))
    ∙ ap (λ (b : Bool). column_at columns x && b) (sym below)
    ∙ sym (column_at-where (λ y. column_at columns y && column_at (columns_below width) y) x low) ∙ none

-- the columns of the width alone, none of them drawn
pub within_below : (width x : ℕ) → x < SIDE_LIMIT → column_at (columns_below width) x ≡ true → x < width
within_below width x low has =
    let under : nat_lt x width ≡ true = sym (column_at-where (λ y. nat_lt y width) x low) ∙ has in
    grind (arith, nat_tests)

pub none_drawn : (names : Names) (g : Grid) (row : ℕ) (columns : List Bool) (start : ℕ) (text : List ℕ) →
    g.width ≤ SIDE_LIMIT → columns ≡ columns_below g.width →
    start + g.width < length text → get_or text (start + g.width) 0 ≡ 10 → AreDrawn names g row columns start text
none_drawn names g row columns start text narrow all long end =
    record {
      long = long;
      each = λ x under none. absurd (none_outside g.width columns narrow all x under none);
      end = end;
    }

-- where no column is left, the row is plain
pub all_drawn : (names : Names) (g : Grid) (row : ℕ) (columns : List Bool) (start : ℕ) (text : List ℕ) →
    g.width ≤ SIDE_LIMIT → set_columns columns ≡ [] →
    AreDrawn names g row columns start text → IsPlainRow names g row start text
all_drawn names g row columns start text narrow none drawn =
    record {
      long = drawn.long;
      each = λ x under. drawn.each x under (none_in columns x none (omega (arith, under, narrow)));
      end = drawn.end;
    }

-- a row of blanks ends with its line feed
pub blank_long : (width : ℕ) → length (replicate width 32 ++ codes "\n") ≡ width + 1
blank_long width = length-append (replicate width 32) (codes "\n") ∙ ap (λ (n : ℕ). n + 1) (length-replicate width 32)

pub blank_end : (width : ℕ) → get_or (replicate width 32 ++ codes "\n") width 0 ≡ 10
blank_end width = at_end (replicate width 32) (codes "\n") width (length-replicate width 32)

-- and none of its columns is drawn
pub blank_drawn : (names : Names) (g : Grid) (row : ℕ) (columns : List Bool) (text : List ℕ) → g.width ≤ SIDE_LIMIT →
    columns ≡ columns_below g.width →
    text ≡ replicate g.width 32 ++ codes "\n" → AreDrawn names g row columns 0 text
blank_drawn names g row columns text narrow all is =
    let long : length text ≡ g.width + 1 = ap (λ (t : List ℕ). length t) is ∙ blank_long g.width in
    let here : 0 + g.width ≡ g.width = omega arith in
    none_drawn names g row columns 0 text narrow all (omega (arith, long))
    (ap₂ (λ (t : List ℕ) (i : ℕ). get_or t i 0) is here ∙ blank_end g.width)
