use Rattle.std.proofs.Common.{rules, ◌≡◌, ◌∙◌, ◌+◌, ◌<◌, ◌≤◌, ◌∷◌, [], ◌++◌, map, length, string_bytes, ap, arith, ℕ}
use Rattle.std.proofs.Common.{List}
use Rattle.std.specs.Prelude.{IfSome, slice_range}
use Rattle.std.proofs.lemmas.Grind.{common_steps}
use Rattle.std.proofs.lemmas.List.{map-append}
use Rattle.std.proofs.lemmas.List.Elements.{All-push}
use Rattle.ps_model.specs.text.Lines.{Line}
use Rattle.ps_model.specs.text.LineNumbers.{line_at}
use Rattle.ps_text.specs.WordRanges.{words_behind, words_found, IsWordRange}
use Rattle.ps_text.specs.PlainLines.{IsVeiled}
use Rattle.ps_text.specs.WordViews.{span_of, text_of, span_at, bytes_at, IsSliceOf, AreRisingSpans}
use Rattle.ps_text.proofs.NamedWords.{found_from_start}
use Rattle.ps_text.proofs.RisingSpans.{rise_limit, rising_higher, rising_push, limit_behind}
use Rattle.ps_text.proofs.Slices.{item_more, part_of_line}
use Rattle.ps_text.proofs.Veils.{solid_slice}
use Rattle.ps_text.proofs.WordSpans.{same_word_span}
use Rattle.ps_text.proofs.cutting.words.Goals as goal

pub loop-next-preserved : goal.loop-next-preserved
loop-next-preserved c =
    let source = c.args.source.now in
    let line = line_at source c.args.line in
    let row = c.row-row.result.now in
    let text = c.as_str-text.result.now in
    let range = c.in-Some.range in
    let word = c.word_at.result in
    let found_next = c.next_under-next.result in
    let start : row.start ≡ line.start = ap (λ (l : Line). l.start) c.row-row.ensures.line in
    let items : c.push.new.self.items ≡ c.loop-next.words.items ++ word ∷ [] = c.in_ok-push.ensures.items in
    let behind : words_behind c.args.cut text range.end ≡ words_found c.args.cut text found_next =
    rw c.as_bytes-in-Some.ensures.value at c.next_under-next.ensures.words in
    let next : IfSome found_next (IsWordRange text range.end) =
    rw c.as_bytes-in-Some.ensures.value at c.next_under-next.ensures.range in
    let found : words_found c.args.cut text c.loop-next.next ≡ (range.start, range.end) ∷ words_found c.args.cut text
    found_next =
    ap (words_found c.args.cut text) c.in-Some.is ∙ ap (λ (ws : List (ℕ × ℕ)). (range.start, range.end) ∷ ws) behind in
    let here : IsWordRange text 0 range = rw c.in-Some.is at c.loop-next.invariant.next in
    let rising : AreRisingSpans row.start (row.start + range.start) (map span_of c.loop-next.words.items) =
    rw c.in-Some.is at c.loop-next.invariant.rising in
    let shown : text ≡ string_bytes row.visible = c.as_str-text.ensures.value in
    let raw : List ℕ = slice_range source row.start (row.start + length (string_bytes row.visible)) in
    let veiled : IsVeiled raw text = rw shown c.row-row.ensures.row.whole.veiled in
    let span : span_of word ≡ span_at line (range.start, range.end) =
    same_word_span word line range.start range.end (c.word_at.ensures.line
    ∙ ap (λ (l : Line). l.number) c.row-row.ensures.line) (c.word_at.ensures.start
    ∙ ap (λ (n : ℕ). n + range.start) start) (c.word_at.ensures.end ∙ ap (λ (n : ℕ). n + range.end) start) in
    let within : row.start + range.end ≤ row.start + length (string_bytes row.visible) =
    omega (arith, here.end.0, ap length shown) in
    let slice : IsSliceOf source word =
    rw (c.word_at.ensures.start, c.word_at.ensures.end)
    (c.word_at.ensures.text ∙ solid_slice raw text range.start range.end veiled here.solid here.end.0
    ∙ part_of_line source row.start (row.start + length (string_bytes row.visible)) range.start range.end
    (omega (arith, here.holds)) within) in
    let some : 0 < length (text_of word) = rw c.word_at.ensures.text (let holds : range.start < range.end =
    here.holds in let inside : range.end ≤ length text = here.end.0 in grind (arith, common_steps)) in
    let pushed : AreRisingSpans row.start (rise_limit row.start text found_next)
    (map span_of c.loop-next.words.items ++ span_of word ∷ []) =
    rising_higher row.start word.span.end (rise_limit row.start text found_next) _
    (omega (arith, c.word_at.ensures.end, limit_behind row.start range.end text found_next here.end.0 next))
    (rising_push row.start (row.start + range.start) (map span_of c.loop-next.words.items) (span_of word) rising
    (omega (arith, c.word_at.ensures.start))
    (omega (arith, c.word_at.ensures.start, c.word_at.ensures.end, here.holds))) in
    record {
      texts = rw items (item_more text_of (bytes_at text) c.loop-next.words.items word
          (words_found c.args.cut text c.loop-next.next) _ (range.start, range.end) _ c.word_at.ensures.text found
          c.loop-next.invariant.texts);
      spans = rw items (item_more span_of (span_at line) c.loop-next.words.items word
          (words_found c.args.cut text c.loop-next.next) _ (range.start, range.end) _ span found
          c.loop-next.invariant.spans);
      hold = rw items (rw map-append (All-push (λ (t : List ℕ).
          0 < length t) (map text_of c.loop-next.words.items) (text_of word) c.loop-next.invariant.hold some));
      slices = rw items (All-push (IsSliceOf source) c.loop-next.words.items word c.loop-next.invariant.slices slice);
      rising = rw items (rw map-append pushed);
      next = found_from_start text range.end found_next next;
    }

pub returns-clause-rising : goal.returns-clause-rising
returns-clause-rising c =
    let source = c.args.source.now in
    let row = c.row-row.result.now in
    let start : row.start ≡ (line_at source c.args.line).start = ap (λ (l : Line). l.start) c.row-row.ensures.line in
    let rising : AreRisingSpans row.start (row.start + length c.as_str-text.result.now)
    (map span_of c.loop-next.words.items) = search rules in
    rw (← start) (rising_higher row.start _ (length source) _
    (omega (arith, c.row-row.ensures.row.end.0, ap length c.as_str-text.ensures.value)) rising)
