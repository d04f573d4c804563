-- What is kept with frames, one row further.
use Rattle.std.proofs.Common.{◌≡◌, ◌≢◌, ◌∙◌, ℕ, ◌+◌, ◌<◌, ◌≤◌, Bool, true, false, Option, List, [], ◌∷◌, ◌++◌, length, get_or}
use Rattle.std.proofs.Common.{refl, sym, ap, arith}
use Rattle.std.specs.Global.{Global}
use Rattle.std.specs.Str.{bytes_eq}
use Rattle.std.specs.declared.rc.Rc.{Rc}
use Rattle.std.proofs.lemmas.List.{length-append, map-append}
use Rattle.std.proofs.lemmas.Slice.Eq.{bytes_eq-Decides}
use Rattle.std.proofs.lemmas.List.Elements.{All-append, All-cons, All-nil}
use Rattle.ps_view.specs.declared.corners.Cell.{Cell}
use Rattle.ps_view.specs.declared.frame_rows.FrameRow.{FrameRow}
use Rattle.ps_view.specs.Corners.{alike, row_in}
use Rattle.ps_view.specs.Frames.{AreKept, Frames, texts_of}
use Rattle.ps_view.specs.Players.{player_place}
use Rattle.ps_view.proofs.AlikeRows.{alike_bounded, alike_differs, alike_more, alike_past, alike_stays}
use Rattle.ps_view.proofs.FrameRows.{text_at, texts_count}

-- the texts of one row more
texts_more : (rows : List (Rc FrameRow Global)) (row : Rc FrameRow Global) →
    texts_of (rows ++ row ∷ []) ≡ texts_of rows ++ row.value.text ∷ []
texts_more rows row = map-append (λ (r : Rc FrameRow Global). r.value.text) rows (row ∷ [])

-- a row more of the frame that has begun
pub kept_more : (players : List ℕ) (last begun : List (Rc FrameRow Global)) (player : Option Cell) (width first next : ℕ)
    (row : Rc FrameRow Global) → AreKept players last player width begun first →
    row.value.player ≡ player_place players row.value.text →
    next ≡ alike bytes_eq (texts_of last) (texts_of begun ++ row.value.text ∷ []) →
    AreKept players last player width (begun ++ row ∷ []) next
kept_more players last begun player width first next row kept known is = record {
  last_rows = kept.last_rows;
  begun_rows =
      let such : Rc FrameRow Global → Type 0 = λ r. r.value.player ≡ player_place players r.value.text in
      All-append such begun (row ∷ []) kept.begun_rows (All-cons such row [] known (All-nil such));
  seen = kept.seen;
  wide = kept.wide;
  some = kept.some;
  same = is ∙ ap (alike bytes_eq (texts_of last)) (sym (texts_more begun row));
}

-- behind a row that differs
pub kept_stays : (frames : Frames) (last begun : List (Rc FrameRow Global)) (first : ℕ) (text : List ℕ) →
    texts_of last ≡ frames.last → texts_of begun ≡ frames.begun → first ≡ alike bytes_eq (texts_of last) (texts_of begun) →
    first < length begun → first ≡ alike bytes_eq frames.last (frames.begun ++ text ∷ [])
kept_stays frames last begun first text is_last is_begun is low =
    let count = texts_count begun in
    rw (← is_last, ← is_begun) (is ∙ sym (alike_stays bytes_eq (texts_of last) (texts_of begun) text (omega (arith, is, low, count))))

-- behind the last frame's end
pub kept_past : (frames : Frames) (last begun : List (Rc FrameRow Global)) (first : ℕ) (text : List ℕ) →
    texts_of last ≡ frames.last → texts_of begun ≡ frames.begun → first ≡ alike bytes_eq (texts_of last) (texts_of begun) →
    length begun ≤ first → length last ≤ first → first ≡ alike bytes_eq frames.last (frames.begun ++ text ∷ [])
kept_past frames last begun first text is_last is_begun is high end =
    let count = texts_count begun in
    let all = texts_count last in
    let most = alike_bounded bytes_eq (texts_of last) (texts_of begun) in
    rw (← is_last, ← is_begun)
    (is ∙ sym (alike_past bytes_eq (texts_of last) (texts_of begun) text (omega (arith, is, high, end, count, all, most))))

-- the row of the last frame at that place, and another
found_like : (last begun : List (Rc FrameRow Global)) (first : ℕ) (before : Rc FrameRow Global) (text : List ℕ)
    (same : Bool) → first ≡ length begun → first < length last → before ≡ get_or last first before →
    bytes_eq before.value.text text ≡ same →
    bytes_eq (get_or (texts_of last) (length (texts_of begun)) []) text ≡ same
found_like last begun first before text same place within is like =
    let at : length (texts_of begun) ≡ first = texts_count begun ∙ sym place in
    ap (λ (n : ℕ). bytes_eq (get_or (texts_of last) n []) text) at
    ∙ ap (λ (t : List ℕ). bytes_eq t text) (text_at last first before within is) ∙ like

pub kept_like : (frames : Frames) (last begun : List (Rc FrameRow Global)) (first : ℕ) (before : Rc FrameRow Global)
    (text : List ℕ) → texts_of last ≡ frames.last → texts_of begun ≡ frames.begun →
    first ≡ alike bytes_eq (texts_of last) (texts_of begun) → length begun ≤ first → first < length last →
    before ≡ get_or last first before → bytes_eq before.value.text text ≡ true →
    first + 1 ≡ alike bytes_eq frames.last (frames.begun ++ text ∷ [])
kept_like frames last begun first before text is_last is_begun is high within found like =
    let count = texts_count begun in
    let all = texts_count last in
    let most = alike_bounded bytes_eq (texts_of last) (texts_of begun) in
    let whole : first ≡ length begun = omega (arith, is, high, count, most) in
    let more = alike_more bytes_eq (texts_of last) (texts_of begun) text [] (omega (arith, is, whole, count))
    (omega (arith, whole, within, count, all)) (found_like last begun first before text true whole within found like) in
    rw (← is_last, ← is_begun) (omega (arith, whole, count, more))

pub kept_differs : (frames : Frames) (last begun : List (Rc FrameRow Global)) (first : ℕ) (before : Rc FrameRow Global)
    (text : List ℕ) → texts_of last ≡ frames.last → texts_of begun ≡ frames.begun →
    first ≡ alike bytes_eq (texts_of last) (texts_of begun) → length begun ≤ first → first < length last →
    before ≡ get_or last first before → bytes_eq before.value.text text ≡ false →
    first ≡ alike bytes_eq frames.last (frames.begun ++ text ∷ [])
kept_differs frames last begun first before text is_last is_begun is high within found like =
    let count = texts_count begun in
    let all = texts_count last in
    let most = alike_bounded bytes_eq (texts_of last) (texts_of begun) in
    let whole : first ≡ length begun = omega (arith, is, high, count, most) in
    let more = alike_differs bytes_eq (texts_of last) (texts_of begun) text [] (omega (arith, is, whole, count))
    (omega (arith, whole, within, count, all)) (found_like last begun first before text false whole within found like) in
    rw (← is_last, ← is_begun) (omega (arith, whole, count, more))

-- a row of the last frame once more
kept_row : (frames : Frames) (players : List ℕ) (last begun grown : List (Rc FrameRow Global)) (player : Option Cell)
    (width first next : ℕ) (row : Rc FrameRow Global) →
    (let kept : Frames = record { players = players; last = texts_of last; begun = texts_of begun } in kept) ≡ frames →
    AreKept players last player width begun first → row.value.player ≡ player_place frames.players row.value.text →
    grown ≡ begun ++ row ∷ [] → next ≡ alike bytes_eq (texts_of last) (texts_of begun ++ row.value.text ∷ []) →
    AreKept players last player width grown next
kept_row frames players last begun grown player width first next row is kept known more same =
    let own : row.value.player ≡ player_place players row.value.text =
    known ∙ ap (λ (f : Frames). player_place f.players row.value.text) (sym is) in
    rw more (kept_more players last begun player width first next row kept own same)

pub kept_same : (frames : Frames) (players : List ℕ) (last begun grown : List (Rc FrameRow Global)) (player : Option Cell)
    (width first next : ℕ) (row : Rc FrameRow Global) →
    (let kept : Frames = record { players = players; last = texts_of last; begun = texts_of begun } in kept) ≡ frames →
    AreKept players last player width begun first → length frames.begun < length frames.last →
    row.value.text ≡ row_in frames.last (length frames.begun) →
    row.value.player ≡ player_place frames.players row.value.text → grown ≡ begun ++ row ∷ [] →
    first ≡ length begun → next ≡ length grown → AreKept players last player width grown next
kept_same frames players last begun grown player width first next row is kept within found known more whole all =
    let begun_is : texts_of begun ≡ frames.begun = ap (λ (f : Frames). f.begun) is in
    let last_is : texts_of last ≡ frames.last = ap (λ (f : Frames). f.last) is in
    let count = texts_count begun in
    let low : length (texts_of begun) < length (texts_of last) = rw (begun_is, last_is) within in
    let like : bytes_eq (row_in (texts_of last) (length (texts_of begun))) row.value.text ≡ true =
    rw (begun_is, last_is, found) ((bytes_eq-Decides (row_in frames.last (length frames.begun)) (row_in frames.last (length frames.begun))).1 refl) in
    let here = alike_more bytes_eq (texts_of last) (texts_of begun) row.value.text []
    (sym kept.same ∙ whole ∙ sym count) low like in
    let longer : length grown ≡ length begun + 1 = rw more (length-append begun (row ∷ [])) in
    kept_row frames players last begun grown player width first next row is kept known more
    (omega (arith, all, longer, count, here))

pub kept_same_later : (frames : Frames) (players : List ℕ) (last begun grown : List (Rc FrameRow Global))
    (player : Option Cell) (width first : ℕ) (row : Rc FrameRow Global) →
    (let kept : Frames = record { players = players; last = texts_of last; begun = texts_of begun } in kept) ≡ frames →
    AreKept players last player width begun first → row.value.player ≡ player_place frames.players row.value.text →
    grown ≡ begun ++ row ∷ [] → first ≢ length begun → AreKept players last player width grown first
kept_same_later frames players last begun grown player width first row is kept known more other =
    let count = texts_count begun in
    let most = alike_bounded bytes_eq (texts_of last) (texts_of begun) in
    let same = kept.same in
    kept_row frames players last begun grown player width first first row is kept known more
    (same ∙ sym (alike_stays bytes_eq (texts_of last) (texts_of begun) row.value.text (omega (arith, same, other, count, most))))
