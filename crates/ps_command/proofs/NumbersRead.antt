-- Numbers that words of a command line give, and the size that one gives.
use Rattle.std.proofs.Common.{◌≡◌, ℕ, ◌==◌, List, Option, Some, None, Bor, lit<}
use Rattle.std.specs.List.{after_first, before_first}
use Rattle.std.specs.Prelude.{IfSome, Ok, Result}
use Rattle.std.specs.Str.Parse.{ParsesUnsigned}
use Rattle.std.proofs.lemmas.Str.Pattern.{IsSplitOnceResult, split_once_first}
use Rattle.clap.specs.Words.{Text}
use Rattle.ps_view.specs.declared.sizes.Size.{Size}
use Rattle.ps_command.specs.Given.{IsNumber, IsSizeIn}

-- what std reads as a number is one
pub number_read : {E : Type 0} (k : ℕ) (word : Text) (r : Result ℕ E) (n : ℕ) → ParsesUnsigned k 10 word r → r ≡ Ok n →
    IsNumber word n
number_read k word r n parses is =
    let read = rw is at parses in
    (read.0.0, read.1)

-- what stands before the first x of a word, and after it
module _ (word : Text) (r : Option (Bor Text × Bor Text)) (split : IsSplitOnceResult 120 word r) where
  pub parted : (x : Bor Text × Bor Text) → r ≡ Some x →
      (x.0.now ≡ before_first (λ byte. byte == 120) word) × (x.1.now ≡ after_first (λ byte. byte == 120) word)
  parted x is =
      let (inside, front, back) = rw is at (split_once_first 120 word r split (lit< tt)) in
      (front, back)

-- a size of so many rows and columns, where these are what the word has before the x and after it
pub size_read : (word front back : Text) (rows columns : ℕ) (size : Option Size) →
    front ≡ before_first (λ byte. byte == 120) word → back ≡ after_first (λ byte. byte == 120) word →
    IsNumber front rows → IsNumber back columns → IfSome size (λ s. s.rows ≡ rows) →
    IfSome size (λ s. s.columns ≡ columns) → IfSome size (IsSizeIn word)
size_read word front back rows columns None before after r c sr sc = tt
size_read word front back rows columns (Some s) before after r c sr sc =
    (rw (← before, sr) r, rw (← after, sc) c)

-- what a size is read by
pub ruleset sizes_read = (number_read, parted, size_read)
