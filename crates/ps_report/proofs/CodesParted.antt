-- What stands before and after the first blank of a text.
use Rattle.std.proofs.Common.{◌≡◌, ◌∙◌, ℕ, ◌+◌, ◌==◌, List, [], length, take, drop, Option, Some, None, Bor, sym, ap, arith, lit<}
use Rattle.std.proofs.lemmas.List.{take_all, drop_all}
use Rattle.std.proofs.lemmas.Str.Pattern.{IsSplitOnceResult, split_once_first}
use Rattle.std.specs.List.{after_first, before_first}

module _ (text : List ℕ) (r : Option (Bor (List ℕ) × Bor (List ℕ))) (split : IsSplitOnceResult 32 text r) where
  pub parted : (x : Bor (List ℕ) × Bor (List ℕ)) → r ≡ Some x →
      (x.0.now ≡ before_first (λ byte. byte == 32) text) × (x.1.now ≡ after_first (λ byte. byte == 32) text)
  parted x is =
      let (inside, front, back) = rw is at (split_once_first 32 text r split (lit< tt)) in
      (front, back)

  pub whole : r ≡ None →
      (text ≡ before_first (λ byte. byte == 32) text) × ([] ≡ after_first (λ byte. byte == 32) text)
  whole is =
      let none = rw is at (split_once_first 32 text r split (lit< tt)) in (
        sym (ap (λ (n : ℕ). take n text) none ∙ take_all (length text) text (omega arith)),
        sym (ap (λ (n : ℕ). drop (n + 1) text) none ∙ drop_all (length text + 1) text (omega arith)),
      )
