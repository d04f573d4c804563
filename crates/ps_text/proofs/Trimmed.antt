-- A region of a line without the blanks at its ends.
use Rattle.std.proofs.Common.{◌≡◌, ℕ, ◌+◌, ◌-◌, ◌≤◌, List, ◌++◌, length, take, drop, reverse, sym, ◌∙◌, ap, arith}
use Rattle.std.specs.Prelude.{slice_range}
use Rattle.std.specs.List.{prefix_len}
use Rattle.std.proofs.Math.Seq.{take-append_seam}
use Rattle.std.proofs.lemmas.Grind.{common_steps}
use Rattle.std.proofs.lemmas.List.{reverse-append, reverse-reverse, take-append-drop, take-take, drop-take, drop-drop}
use Rattle.ps_model.specs.text.Words.{is_blank}
use Rattle.ps_model.specs.text.Lines.{without_blank_end}
use Rattle.ps_text.specs.TakenRanges.{trimmed_of}

-- the bytes without the blanks at their end are the first of them
front_and_end : (bytes : List ℕ) (n : ℕ) → reverse (drop n (reverse bytes)) ++ reverse (take n (reverse bytes)) ≡ bytes
front_and_end bytes n = sym (reverse-append (take n (reverse bytes)) (drop n (reverse bytes)))
    ∙ ap reverse (take-append-drop n (reverse bytes)) ∙ reverse-reverse bytes

end_is_take : (bytes : List ℕ) → without_blank_end bytes ≡ take (length (without_blank_end bytes)) bytes
end_is_take bytes =
    let n : ℕ = prefix_len is_blank (reverse bytes) in
    sym (take-append_seam (without_blank_end bytes) (reverse (take n (reverse bytes))))
    ∙ ap (take (length (without_blank_end bytes))) (front_and_end bytes n)

end_shorter : (bytes : List ℕ) → length (without_blank_end bytes) ≤ length bytes
end_shorter bytes = let long = ap length (end_is_take bytes) in grind (arith, common_steps)

-- a region of a line's front
pub region_of_front : (raw : List ℕ) (from end : ℕ) → from ≤ end → drop from (take end raw) ≡ slice_range raw from end
region_of_front raw from end h =
    let size : end ≡ from + (end - from) = omega arith in
    ap (λ (n : ℕ). drop from (take n raw)) size ∙ drop-take from (end - from) raw

-- the trimmed region, by its place
pub trimmed_region : (raw : List ℕ) (from end start stop : ℕ) → from ≤ end → end ≤ length raw →
    start ≡ from + prefix_len is_blank (slice_range raw from end) → start ≤ end →
    stop ≡ start + length (without_blank_end (drop start (take end raw))) →
    slice_range raw start stop ≡ trimmed_of (slice_range raw from end)
trimmed_region raw from end start stop h l s m e =
    let k : ℕ = prefix_len is_blank (slice_range raw from end) in
    let behind : drop k (slice_range raw from end) ≡ drop start (take end raw) =
    ap (drop k) (sym (region_of_front raw from end h)) ∙ drop-drop k from (take end raw)
    ∙ ap (λ (n : ℕ). drop n (take end raw)) (sym s) in
    let part : drop start (take end raw) ≡ slice_range raw start end = region_of_front raw start end m in
    let size : stop - start ≡ length (without_blank_end (drop start (take end raw))) = omega arith in
    let short : length (without_blank_end (drop start (take end raw))) ≤ end - start =
    (let most : length (without_blank_end (drop start (take end raw))) ≤ length (drop start (take end raw)) =
    end_shorter (drop start (take end raw)) in
    let long : length (drop start (take end raw)) ≡ end - start = grind (arith, common_steps) in omega arith) in
    ap (λ (n : ℕ). take n (drop start raw)) size
    ∙ sym (take-take (length (without_blank_end (drop start (take end raw)))) (end - start) (drop start raw) short)
    ∙ ap (take (length (without_blank_end (drop start (take end raw))))) (sym part)
    ∙ sym (end_is_take (drop start (take end raw))) ∙ ap without_blank_end (sym behind)
