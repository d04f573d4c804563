-- A set of columns made column by column.
use Rattle.std.proofs.Common.{◌≡◌, ◌≢◌, ◌∙◌, ℕ, ◌+◌, ◌*◌, ◌<◌, ◌≤◌, ◌&&◌, Bool, true, false, None, List, length, refl}
use Rattle.std.proofs.Common.{sym, ap, arith}
use Rattle.std.specs.Prelude.{nat_eq, nat_lt, if◌then◌else◌, slice_get}
use Rattle.std.proofs.lemmas.Bool.Decides.{nat_tests}
use Rattle.std.proofs.lemmas.Option.{slice_get_past}
use Rattle.std.proofs.Math.Nat.{add-mul, mul-le-mul_right}
use Rattle.ps_model.specs.declared.limits.TheConstants.{SIDE_LIMIT}
use Rattle.ps_model.specs.board.Grid.{Grid}
use Rattle.ps_board.specs.ColumnSets.{columns_where, column_at, with_column, no_columns}
use Rattle.ps_board.proofs.ColumnLaws.{column_at-where, columns-agree}

-- what holds of the columns passed by
abbrev pub scanned : (ℕ → Bool) → ℕ → List Bool
scanned holds count = columns_where (λ x. nat_lt x count && holds x)

pub scanned-none : (holds : ℕ → Bool) → no_columns ≡ scanned holds 0
scanned-none holds = columns-agree (λ x. false) (λ x. nat_lt x 0 && holds x) (λ x low. let none : nat_lt x 0 ≡ false =
    grind (arith, nat_tests) in rw none refl)

lt_same : (x count : ℕ) (low : Bool) → nat_lt x count ≡ low → x ≢ count → nat_lt x (count + 1) ≡ low
lt_same x count true t other = grind (arith, nat_tests)
lt_same x count false t other = grind (arith, nat_tests)

one_more : (holds : ℕ → Bool) (count x : ℕ) (b same : Bool) → nat_eq x count ≡ same → b ≡ holds count → x < SIDE_LIMIT →
    (if same then b else column_at (scanned holds count) x) ≡ (nat_lt x (count + 1) && holds x)
one_more holds count x b true t e low =
    let is : x ≡ count = grind (arith, nat_tests) in
    let here : nat_lt x (count + 1) ≡ true = grind (arith, nat_tests) in
    rw here (e ∙ ap holds (sym is))
one_more holds count x b false t e low =
    let other : x ≢ count = grind (arith, nat_tests) in
    column_at-where (λ y. nat_lt y count && holds y) x low
    ∙ ap (λ (b : Bool). b && holds x) (sym (lt_same x count (nat_lt x count) refl other))

pub scanned-more : (holds : ℕ → Bool) (columns : List Bool) (count : ℕ) (b : Bool) → columns ≡ scanned holds count →
    b ≡ holds count →
    with_column columns count b ≡ scanned holds (count + 1)
scanned-more holds columns count b is e =
    rw is (columns-agree (λ x. if nat_eq x count then b else column_at (scanned holds count) x) (λ x.
    nat_lt x (count + 1) && holds x)
    (λ x low. one_more holds count x b (nat_eq x count) refl e low))

all_by : (holds : ℕ → Bool) (count x : ℕ) (passed : Bool) → nat_lt x count ≡ passed → (count ≤ x → holds x ≡ false) →
    (passed && holds x) ≡ holds x
all_by holds count x true t none = refl
all_by holds count x false t none = sym (none (grind (arith, nat_tests)))

pub scanned-all : (holds : ℕ → Bool) (count : ℕ) → ((x : ℕ) → count ≤ x → holds x ≡ false) →
    scanned holds count ≡ columns_where holds
scanned-all holds count none = columns-agree (λ x. nat_lt x count && holds x) holds (λ x low.
    all_by holds count x (nat_lt x count) refl (none x))

-- no cell beyond the last column
pub no_cell : (g : Grid) (row x : ℕ) → length g.cells ≡ g.width * g.height → g.width ≤ x →
    slice_get g.cells (x * g.height + row) ≡ None
no_cell g row x many far =
    let across : g.width * g.height ≤ x * g.height = mul-le-mul_right g.height far in
    let past : length g.cells ≤ x * g.height + row = omega (arith, many, across) in
    slice_get_past g.cells (x * g.height + row) past

-- a cell of a row
pub cell_below : (width height x row : ℕ) → x < width → row < height → x * height + row < width * height
cell_below width height x row across down =
    let next : (x + 1) * height ≤ width * height = mul-le-mul_right height (omega (arith, across)) in
    let split : (x + 1) * height ≡ x * height + 1 * height = add-mul x 1 height in
    omega (arith, next, split, down)
