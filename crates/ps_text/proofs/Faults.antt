-- When a text has no fault.
use Rattle.std.proofs.Common.{◌≡◌, ◌≤◌, List, ℕ, None, false, length, refl, arith}
use Rattle.std.specs.Prelude.{nat_lt}
use Rattle.std.specs.Str.{IsUtf8}
use Rattle.std.specs.Str.Lossy.{utf8_valid_len}
use Rattle.std.proofs.lemmas.Bool.Decides.{nat_tests}
use Rattle.std.proofs.lemmas.Str.{utf8_valid_len-IsUtf8}
use Rattle.ps_model.specs.declared.limits.TheConstants.{TEXT_LIMIT}
use Rattle.ps_model.specs.text.TextFaults.{text_fault, utf8_fault}

pub no_fault : (bytes : List ℕ) → length bytes ≤ TEXT_LIMIT → IsUtf8 bytes → text_fault bytes ≡ None
no_fault bytes l u =
    let e : utf8_valid_len bytes ≡ length bytes = utf8_valid_len-IsUtf8 bytes u in
    let short : nat_lt TEXT_LIMIT (length bytes) ≡ false = grind (arith, nat_tests) in
    let whole : nat_lt (utf8_valid_len bytes) (length bytes) ≡ false = grind (arith, nat_tests) in
    rw (text_fault, short, utf8_fault, whole) refl
