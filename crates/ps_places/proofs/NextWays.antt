-- Ways of parts on a line: the first one of a kind that is told part by part, from a position on or behind another way.
use Rattle.std.proofs.Common.{◌≡◌, ◌∙◌, ℕ, ◌+◌, ◌≤◌, ◌&&◌, inl, inr, Bool, true, false, List, [], ◌∷◌, map, length}
use Rattle.std.proofs.Common.{get_or, refl, sym, ap, arith}
use Rattle.std.specs.Prelude.{All, nat_le}
use Rattle.std.specs.List.{flat_map}
use Rattle.std.proofs.lemmas.Bool.{cases_Bool}
use Rattle.std.proofs.lemmas.Bool.Decides.{nat_tests}
use Rattle.std.proofs.lemmas.Grind.{flat_map-append}
use Rattle.std.proofs.lemmas.List.Elements.{All-append, All-cons, All-map, All-nil}
use Rattle.ps_laws.proofs.common.Everywhere.{All-each}
use Rattle.ps_board.specs.ColumnSets.{set_columns}
use Rattle.ps_places.specs.Ways.{from_first, positions_from, ways_behind, ways_from}
use Rattle.ps_places.proofs.FirstOf.{first-append-none, first-append-some, first-filter-none, first-fits}
use Rattle.ps_places.proofs.FirstOf.{first-flat_map, first-later, first-map, first-rest-none}
use Rattle.ps_places.proofs.Positions.{EndsIn, positions-end}

-- a way is of the kind where its first position has a property and the others are of a kind
pub record IsMadeOf (kind : List ℕ → Bool) (here : ℕ → Bool) (others : List ℕ → Bool) : Type 0 where
  pub at : (p : ℕ) (way : List ℕ) → kind (p ∷ way) ≡ (here p && others way)

-- ways that begin at one position
with-others : (kind : List ℕ → Bool) (here : ℕ → Bool) (others : List ℕ → Bool) (p : ℕ) (ways : List (List ℕ)) →
    IsMadeOf kind here others → here p ≡ true →
    from_first kind (map (λ way. p ∷ way) ways) ≡ map (λ way. p ∷ way) (from_first others ways)
with-others kind here others p ways made fit =
    first-map (λ way. p ∷ way) kind others ways (λ k d low. made.at p (get_or ways k d)
    ∙ ap (λ (b : Bool). b && others (get_or ways k d)) fit)

none-here : (kind : List ℕ → Bool) (here : ℕ → Bool) (others : List ℕ → Bool) (p : ℕ) (ways : List (List ℕ)) →
    IsMadeOf kind here others → here p ≡ false →
    from_first kind (map (λ way. p ∷ way) ways) ≡ []
none-here kind here others p [] made fit = refl
none-here kind here others p (way ∷ ways) made fit =
    first-later kind (p ∷ way) (map (λ w. p ∷ w) ways) (made.at p way ∙ ap (λ (b : Bool). b && others way) fit)
    ∙ none-here kind here others p ways made fit

none-with : (kind : List ℕ → Bool) (here : ℕ → Bool) (others : List ℕ → Bool) (p : ℕ) (ways : List (List ℕ)) →
    IsMadeOf kind here others → from_first others ways ≡ [] →
    from_first kind (map (λ way. p ∷ way) ways) ≡ []
none-with kind here others p ways made none = elim (cases_Bool (here p)) [
  | inl fit ↦ with-others kind here others p ways made fit ∙ ap (map (λ way. p ∷ way)) none
  | inr out ↦ none-here kind here others p ways made out
]

-- the ways from a position on end in those from a later one on
pub ways-end : (sets : List (List Bool)) (sizes : List ℕ) (a b : ℕ) → a ≤ b →
    EndsIn (ways_from sets sizes a) (ways_from sets sizes b)
ways-end [] sizes a b low = record { before = []; whole = refl }
ways-end (set ∷ sets) [] a b low = record { before = []; whole = refl }
ways-end (set ∷ sets) (size ∷ sizes) a b low =
    let ends = positions-end set a b low in
    let at = λ (p : ℕ). map (λ way. p ∷ way) (ways_from sets sizes (p + size)) in
    record {
      before = flat_map at ends.before;
      whole = ap (flat_map at) ends.whole
          ∙ flat_map-append at ends.before (positions_from set b);
    }

none-later : (others : List ℕ → Bool) (sets : List (List Bool)) (sizes : List ℕ) (a b : ℕ) → a ≤ b →
    from_first others (ways_from sets sizes a) ≡ [] → from_first others (ways_from sets sizes b) ≡ []
none-later others sets sizes a b low none =
    let ends = ways-end sets sizes a b low in
    first-rest-none others ends.before (ways_from sets sizes b) (ap (from_first others) (sym ends.whole) ∙ none)

-- the first part at its least position
from_least : (kind : List ℕ → Bool) (here : ℕ → Bool) (others : List ℕ → Bool) (set : List Bool)
    (sets : List (List Bool)) (size : ℕ) (sizes : List ℕ) (from : ℕ) (ps : List ℕ) → IsMadeOf kind here others →
    from_first here (positions_from set from) ≡ ps →
    from_first kind (ways_from (set ∷ sets) (size ∷ sizes) from)
    ≡ from_first kind (flat_map (λ p. map (λ way. p ∷ way) (ways_from sets sizes (p + size))) ps)
from_least kind here others set sets size sizes from ps made least =
    let at = λ (p : ℕ). map (λ way. p ∷ way) (ways_from sets sizes (p + size)) in
    first-flat_map at kind here (positions_from set from) (λ p out. none-here kind here others p
    (ways_from sets sizes (p + size)) made out)
    ∙ ap (λ (qs : List ℕ). from_first kind (flat_map at qs)) least

pub first_way-no_position : (kind : List ℕ → Bool) (here : ℕ → Bool) (others : List ℕ → Bool) (set : List Bool)
    (sets : List (List Bool)) (size : ℕ) (sizes : List ℕ) (from : ℕ) → IsMadeOf kind here others →
    from_first here (positions_from set from) ≡ [] → from_first kind (ways_from (set ∷ sets) (size ∷ sizes) from) ≡ []
first_way-no_position kind here others set sets size sizes from made least = from_least kind here others set sets size
    sizes from [] made least

pub first_way-found : (kind : List ℕ → Bool) (here : ℕ → Bool) (others : List ℕ → Bool) (set : List Bool)
    (sets : List (List Bool)) (size : ℕ) (sizes : List ℕ) (from p : ℕ) (way : List ℕ) → IsMadeOf kind here others →
    from_first here (positions_from set from) ≡ p ∷ positions_from set (p + 1) →
    from_first others (ways_from sets sizes (p + size)) ≡ way ∷ ways_behind sets sizes way →
    from_first kind (ways_from (set ∷ sets) (size ∷ sizes) from)
    ≡ (p ∷ way) ∷ ways_behind (set ∷ sets) (size ∷ sizes) (p ∷ way)
first_way-found kind here others set sets size sizes from p way made least found =
    let fit = first-fits here (positions_from set from) p (positions_from set (p + 1)) least in
    from_least kind here others set sets size sizes from (p ∷ positions_from set (p + 1)) made least
    ∙ first-append-some kind (map (λ w. p ∷ w) (ways_from sets sizes (p + size)))
    (ways_from (set ∷ sets) (size ∷ sizes) (p + 1)) (p ∷ way) (map (λ w. p ∷ w) (ways_behind sets sizes way))
    (with-others kind here others p (ways_from sets sizes (p + size)) made fit ∙ ap (map (λ w. p ∷ w)) found)

pub first_way-none : (kind : List ℕ → Bool) (here : ℕ → Bool) (others : List ℕ → Bool) (set : List Bool)
    (sets : List (List Bool)) (size : ℕ) (sizes : List ℕ) (from p : ℕ) → IsMadeOf kind here others →
    from_first here (positions_from set from) ≡ p ∷ positions_from set (p + 1) →
    from_first others (ways_from sets sizes (p + size)) ≡ [] →
    from_first kind (ways_from (set ∷ sets) (size ∷ sizes) from) ≡ []
first_way-none kind here others set sets size sizes from p made least none =
    let at = λ (q : ℕ). map (λ way. q ∷ way) (ways_from sets sizes (q + size)) in
    from_least kind here others set sets size sizes from (p ∷ positions_from set (p + 1)) made least
    ∙ first-append-none kind (at p) (ways_from (set ∷ sets) (size ∷ sizes) (p + 1))
    (none-with kind here others p (ways_from sets sizes (p + size)) made none)
    ∙ first-filter-none at kind (λ q. nat_le (p + 1) q) (set_columns set) (λ q test.
    let far : p + 1 ≤ q = grind (arith, nat_tests, test) in
    none-with kind here others q (ways_from sets sizes (q + size)) made
    (none-later others sets sizes (p + size) (q + size) (omega (arith, far)) none))

-- behind a way: the other parts go on, or else the first part does
pub next_way-others : (kind : List ℕ → Bool) (here : ℕ → Bool) (others : List ℕ → Bool) (set : List Bool)
    (sets : List (List Bool)) (size : ℕ) (sizes : List ℕ) (p : ℕ) (way next : List ℕ) → IsMadeOf kind here others →
    here p ≡ true → from_first others (ways_behind sets sizes way) ≡ next ∷ ways_behind sets sizes next →
    from_first kind (ways_behind (set ∷ sets) (size ∷ sizes) (p ∷ way))
    ≡ (p ∷ next) ∷ ways_behind (set ∷ sets) (size ∷ sizes) (p ∷ next)
next_way-others kind here others set sets size sizes p way next made fit found =
    first-append-some kind (map (λ w. p ∷ w) (ways_behind sets sizes way))
    (ways_from (set ∷ sets) (size ∷ sizes) (p + 1)) (p ∷ next) (map (λ w. p ∷ w) (ways_behind sets sizes next))
    (with-others kind here others p (ways_behind sets sizes way) made fit ∙ ap (map (λ w. p ∷ w)) found)

pub next_way-none : (kind : List ℕ → Bool) (here : ℕ → Bool) (others : List ℕ → Bool) (set : List Bool)
    (sets : List (List Bool)) (size : ℕ) (sizes : List ℕ) (p : ℕ) (way : List ℕ) → IsMadeOf kind here others →
    from_first others (ways_behind sets sizes way) ≡ [] →
    from_first kind (ways_behind (set ∷ sets) (size ∷ sizes) (p ∷ way))
    ≡ from_first kind (ways_from (set ∷ sets) (size ∷ sizes) (p + 1))
next_way-none kind here others set sets size sizes p way made none =
    first-append-none kind (map (λ w. p ∷ w) (ways_behind sets sizes way))
    (ways_from (set ∷ sets) (size ∷ sizes) (p + 1)) (none-with kind here others p (ways_behind sets sizes way) made
    none)

pub next_way-unfit : (kind : List ℕ → Bool) (here : ℕ → Bool) (others : List ℕ → Bool) (set : List Bool)
    (sets : List (List Bool)) (size : ℕ) (sizes : List ℕ) (p : ℕ) (way : List ℕ) → IsMadeOf kind here others →
    here p ≡ false →
    from_first kind (ways_behind (set ∷ sets) (size ∷ sizes) (p ∷ way))
    ≡ from_first kind (ways_from (set ∷ sets) (size ∷ sizes) (p + 1))
next_way-unfit kind here others set sets size sizes p way made out =
    first-append-none kind (map (λ w. p ∷ w) (ways_behind sets sizes way))
    (ways_from (set ∷ sets) (size ∷ sizes) (p + 1)) (none-here kind here others p (ways_behind sets sizes way) made
    out)

-- each way has a position for each part -----------------------------------------------------------------------------

longer : (n m p : ℕ) (ways : List (List ℕ)) → m ≡ n + 1 → All (λ way. length way ≡ n) ways →
    All (λ way. length way ≡ m) (map (λ way. p ∷ way) ways)
longer n m p ways e all = All-map (λ way. length way ≡ m) (λ way. p ∷ way) ways
    (λ k d low. let same : length (get_or ways k d) ≡ n = all k d low in omega (arith, same, e))

pub ways_from-long : (sets : List (List Bool)) (sizes : List ℕ) (from : ℕ) → length sets ≡ length sizes →
    All (λ way. length way ≡ length sizes) (ways_from sets sizes from)
ways_from-long [] [] from e = All-cons (λ way. length way ≡ 0) [] [] refl (All-nil (λ way. length way ≡ 0))
ways_from-long [] (size ∷ sizes) from e = absurd (omega (arith, e))
ways_from-long (set ∷ sets) [] from e = All-nil (λ way. length way ≡ 0)
ways_from-long (set ∷ sets) (size ∷ sizes) from e =
    All-each (λ way. length way ≡ length (size ∷ sizes)) (λ p. map (λ way. p ∷ way)
    (ways_from sets sizes (p + size))) (positions_from set from)
    (λ p. longer (length sizes) (length (size ∷ sizes)) p (ways_from sets sizes (p + size)) (omega arith)
    (ways_from-long sets sizes (p + size) (omega (arith, e))))

pub ways_behind-long : (sets : List (List Bool)) (sizes way : List ℕ) → length sets ≡ length sizes →
    All (λ others. length others ≡ length sizes) (ways_behind sets sizes way)
ways_behind-long [] sizes way e = All-nil (λ others. length others ≡ length sizes)
ways_behind-long (set ∷ sets) [] way e = All-nil (λ others. length others ≡ 0)
ways_behind-long (set ∷ sets) (size ∷ sizes) [] e = All-nil (λ others. length others ≡ length (size ∷ sizes))
ways_behind-long (set ∷ sets) (size ∷ sizes) (p ∷ way) e =
    All-append (λ others. length others ≡ length (size ∷ sizes))
    (map (λ others. p ∷ others) (ways_behind sets sizes way)) (ways_from (set ∷ sets) (size ∷ sizes) (p + 1))
    (longer (length sizes) (length (size ∷ sizes)) p (ways_behind sets sizes way) (omega arith)
    (ways_behind-long sets sizes way (omega (arith, e))))
    (ways_from-long (set ∷ sets) (size ∷ sizes) (p + 1) e)
