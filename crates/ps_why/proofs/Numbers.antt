-- A number at the right of six columns.
use Rattle.std.proofs.Common.{◌≡◌, ◌∙◌, ◌-◌, ◌^◌, ℕ, List, [], ◌++◌, length, false, refl, ap, arith}
use Rattle.std.proofs.lemmas.List.{append-nil}
use Rattle.std.proofs.lemmas.Str.{encode_ascii}
use Rattle.std.specs.Fmt.{char_count, format_spec, padded_integral}
use Rattle.std.specs.List.{repeat}
use Rattle.std.specs.Prelude.{codes, encode_utf8}

-- all of the fill stands before the digits
before : (room wanted : ℕ) (blank digits : List ℕ) → room ≡ wanted →
    (((repeat room blank ++ []) ++ []) ++ []) ++ (digits ++ repeat (room - room) blank) ≡ repeat wanted blank ++ digits
before room wanted blank digits same =
    let none : wanted - wanted ≡ 0 = omega arith in
    rw (
      same,
      none,
      append-nil (repeat wanted blank),
      append-nil (repeat wanted blank),
      append-nil (repeat wanted blank),
      append-nil digits,
    ) refl

pub in_six : (digits : List ℕ) →
    padded_integral (format_spec 32 3 0 6 (2 ^ 64 - 1)) false [] digits
    ≡ repeat (6 - length digits) (codes " ") ++ digits
unfolding padded_integral char_count
in_six digits =
    let room : ℕ = 6 - length digits in
    before (room - 0 - 0) room (encode_utf8 32) digits (omega arith)
    ∙ ap (λ (blank : List ℕ). repeat room blank ++ digits) (encode_ascii 32 (omega arith))
