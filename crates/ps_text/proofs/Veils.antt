-- A line with blanks for some of its bytes.
use Rattle.std.proofs.Common.{◌≡◌, ℕ, zero, suc, ◌+◌, ◌-◌, ◌<◌, ◌≤◌, false, Option, Some, None, List, [], ◌∷◌, ◌++◌}
use Rattle.std.proofs.Common.{length, take, drop, replicate, get_or, refl, ap, ◌∙◌, subst, arith}
use Rattle.std.specs.Prelude.{IfSome, slice_range}
use Rattle.std.proofs.lemmas.Grind.{common_steps}
use Rattle.std.proofs.lemmas.List.{drop-drop, same_lists}
use Rattle.ps_model.specs.text.Words.{is_blank}
use Rattle.ps_text.specs.declared.scan.ByteRange.{ByteRange}
use Rattle.ps_text.specs.PlainLines.{IsPlain, IsVeiled}
use Rattle.ps_text.specs.WordRanges.{IsSolid}
use Rattle.ps_text.specs.TakenRanges.{IsTextRange, bytes_without}

-- a byte more, kept or not
veil_more : (byte shown : ℕ) (bytes line : List ℕ) → (is_blank shown ≡ false → shown ≡ byte) → IsVeiled bytes line →
    IsVeiled (byte ∷ bytes) (shown ∷ line)
veil_more byte shown bytes line h v = record { same = ap suc v.same; shown = λ i. at i }
  where
    at : (i : ℕ) → is_blank (get_or (shown ∷ line) i 0) ≡ false → get_or (shown ∷ line) i 0 ≡ get_or (byte ∷ bytes) i 0
    at zero b = h b
    at (suc i) b = v.shown i b

veil_nothing : (bytes : List ℕ) → IsVeiled bytes bytes
veil_nothing bytes = record { same = refl; shown = λ i b. refl }

veil_blanks : (n : ℕ) (bytes : List ℕ) → n ≤ length bytes → IsVeiled bytes (replicate n 32 ++ drop n bytes)
veil_blanks zero bytes l = veil_nothing bytes
veil_blanks (suc n) [] l = absurd (omega arith)
veil_blanks (suc n) (byte ∷ bytes) l = veil_more byte 32 bytes (replicate n 32 ++ drop n bytes) (λ b.
    absurd (cc b)) (veil_blanks n bytes (omega arith))

veil_behind : (a n : ℕ) (bytes : List ℕ) → a + n ≤ length bytes →
    IsVeiled bytes (take a bytes ++ (replicate n 32 ++ drop n (drop a bytes)))
veil_behind zero n bytes l = veil_blanks n bytes (omega arith)
veil_behind (suc a) n [] l = absurd (omega arith)
veil_behind (suc a) n (byte ∷ bytes) l = veil_more byte byte bytes
    (take a bytes ++ (replicate n 32 ++ drop n (drop a bytes))) (λ b. refl) (veil_behind a n bytes (omega arith))

veil_twice : (raw plain line : List ℕ) → IsPlain raw plain → IsVeiled plain line → IsVeiled raw line
veil_twice raw plain line p v = record {
  same = v.same ∙ p.same;
  shown = λ i b. v.shown i b
      ∙ p.shown i (rw (← v.shown i b) b);
}

-- a line without comments and without a region
pub veiled_line : (raw plain line : List ℕ) (region : Option ByteRange) → IsPlain raw plain →
    IfSome region (IsTextRange plain) → line ≡ bytes_without plain region → IsVeiled raw line
veiled_line raw plain line None p r e = rw e (record { same = p.same; shown = p.shown })
veiled_line raw plain line (Some region) p r e =
    let size : ℕ = region.end - region.start in
    let behind : drop size (drop region.start plain) ≡ drop region.end plain = drop-drop size region.start plain
    ∙ ap (λ (n : ℕ). drop n plain) (omega (arith, r.order)) in
    let within : region.start + size ≤ length plain = omega (arith, r.order, r.end.0) in
    rw e (subst (λ (bytes : List ℕ). IsVeiled raw (take region.start plain ++ (replicate size 32 ++ bytes))) behind
    (veil_twice raw plain _ p (veil_behind region.start size plain within)))

-- where no blank stands the line's bytes are those of the text
pub solid_slice : (raw line : List ℕ) (start end : ℕ) → IsVeiled raw line → IsSolid line start end →
    end ≤ length line → slice_range line start end ≡ slice_range raw start end
solid_slice raw line start end v s l =
    same_lists (slice_range line start end) (slice_range raw start end) (let same : length line ≡ length raw =
    v.same in grind (arith, common_steps))
    (λ k d h. byte_at k d h)
  where
    byte_at : (k d : ℕ) → k < length (slice_range line start end) →
        get_or (slice_range line start end) k d ≡ get_or (slice_range raw start end) k d
    byte_at k d h =
        let same : length line ≡ length raw = v.same in
        let inside : k < end - start = grind (arith, common_steps) in
        let here : get_or line (start + k) 0 ≡ get_or raw (start + k) 0 =
        v.shown (start + k) (s (start + k) (omega arith) (omega arith)) in
        grind (arith, common_steps)
