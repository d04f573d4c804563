-- A chain of winners that ends in a bare cell has no more links than there are cells: no cell stands in it twice.
use Rattle.std.proofs.Common.{inl, inr, ◌≡◌, ℕ, zero, suc, ◌≤◌, ◌<◌, Bool, true, false, List, [], ◌∷◌, length, refl}
use Rattle.std.proofs.Common.{sym, ◌∙◌, ap, arith}
use Rattle.std.specs.Prelude.{◌⊎◌}
use Rattle.std.specs.List.{list_any, IsDistinct, AllByRecursion}
use Rattle.std.proofs.Math.Dec.{eqb}
use Rattle.std.proofs.lemmas.Bool.{eqb-true, or_parts, or_cases}
use Rattle.std.proofs.lemmas.Map.Steps.{length-le_from_distinct_below}
use Rattle.ps_model.specs.board.Grid.{Grid, cell_count}
use Rattle.ps_model.specs.board.Movement.{is_bare, slides_within}
use Rattle.ps_laws.specs.Sliding.{ChainsSlide}
use Rattle.ps_laws.proofs.common.Winners.{IsLink, link_of, slides_by, winner-contends, slides_within-more}

-- what no element equals, each differs from
apart_from_all : (cell : ℕ) (cells : List ℕ) → list_any (eqb cell) cells ≡ false →
    AllByRecursion (λ other. eqb cell other ≡ false) cells
apart_from_all cell [] e = tt
apart_from_all cell (other ∷ cells) e = let both = or_parts (eqb cell other) (list_any (eqb cell) cells) e in
    (both.0, apart_from_all cell cells both.1)

module _ (g : Grid) (layer : ℕ) where
  -- that number of links leads to a bare cell, and no smaller one does
  record IsExact (links cell : ℕ) : Type 0 where
    enough : slides_within g layer links cell ≡ true
    least : (few : ℕ) → few < links → slides_within g layer few cell ≡ false

  not_fewer : (few links cell : ℕ) (found : Bool) → few ≤ links → slides_within g layer links cell ≡ false →
      slides_within g layer few cell ≡ found → found ≡ false
  not_fewer few links cell true h none e = let clash : false ≡ true = sym none
      ∙ slides_within-more g layer few links cell h e in absurd (cc clash)
  not_fewer few links cell false h none e = refl

  -- a chain has a least number of links
  least_links : (links cell : ℕ) (shorter : Bool) → slides_within g layer (suc links) cell ≡ true →
      slides_within g layer links cell ≡ shorter →
      ((slides_within g layer links cell ≡ true) → (few : ℕ) × IsExact few cell) → (few : ℕ) × IsExact few cell
  least_links links cell true e s below = below s
  least_links links cell false e s below = (
    suc links,
    record {
      enough = e;
      least = λ few h. not_fewer few links cell (slides_within g layer few cell) (omega (arith, h))
          s refl;
    },
  )

  exact : (links cell : ℕ) → slides_within g layer links cell ≡ true → (few : ℕ) × IsExact few cell
  exact zero cell e = absurd (cc e)
  exact (suc links) cell e = least_links links cell (slides_within g layer links cell) e refl (exact links cell)

  -- the cells of a chain: as many as links, all on the board, and no two the same, since each has fewer links than that
  -- before
  record IsChain (links : ℕ) (cells : List ℕ) : Type 0 where
    long : length cells ≡ links
    apart : IsDistinct eqb cells
    each : (cell : ℕ) → list_any (eqb cell) cells ≡ true →
        (cell < cell_count g) × (slides_within g layer links cell ≡ true)

  not_among : (links cell : ℕ) (cells : List ℕ) (found : Bool) → slides_within g layer links cell ≡ false →
      IsChain links cells → list_any (eqb cell) cells ≡ found → found ≡ false
  not_among links cell cells true none chain e = let clash : false ≡ true = sym none ∙ (chain.each cell e).1 in
      absurd (cc clash)
  not_among links cell cells false none chain e = refl

  -- a cell before a chain
  lengthened : (links cell : ℕ) (cells : List ℕ) → cell < cell_count g → IsExact (suc links) cell →
      IsChain links cells → IsChain (suc links) (cell ∷ cells)
  unfolding IsDistinct
  lengthened links cell cells within ranks chain = record {
    long = ap suc chain.long;
    apart = (
      apart_from_all cell cells (not_among links cell cells (list_any (eqb cell) cells)
          (ranks.least links (omega arith)) chain refl),
      chain.apart,
    );
    each = λ other e. among other (or_cases (eqb other cell) (list_any (eqb other) cells) e);
  } where
    among : (other : ℕ) → (eqb other cell ≡ true) ⊎ (list_any (eqb other) cells ≡ true) →
        (other < cell_count g) × (slides_within g layer (suc links) other ≡ true)
    among other (inl same) = let is : other ≡ cell = eqb-true other cell same in rw is (within, ranks.enough)
    among other (inr later) = (
      (chain.each other later).0,
      slides_within-more g layer links (suc links) other (omega arith) (chain.each other later).1,
    )

  no_chain : IsChain 0 []
  unfolding IsDistinct
  no_chain = record { long = refl; apart = tt; each = λ cell e. absurd (cc e) }

  -- the chain of a cell
  chain_of : (links cell : ℕ) → IsExact links cell → (cells : List ℕ) × IsChain links cells
  chain_of zero cell ranks = ([], no_chain)
  chain_of (suc links) cell ranks =
      let link : IsLink g layer links cell = link_of g layer links cell ranks.enough in
      let within : cell < cell_count g = (winner-contends g layer link.to cell link.wins).1 in
      onwards links link within ranks link.leads (chain_of links) where
        -- the link leads to a bare cell: there is no other
        one_link : (links cell : ℕ) (link : IsLink g layer links cell) → IsExact (suc links) cell →
            is_bare g layer link.to ≡ true → (n : ℕ) → n ≡ links → n ≡ 0
        one_link links cell link ranks bare zero e = refl
        one_link links cell link ranks bare (suc n) e =
            let first : slides_within g layer 1 cell ≡ true =
            slides_by g layer 0 cell (record {
              to = link.to;
              aims = link.aims;
              wins = link.wins;
              leads =
                  inl bare;
            }) in
            let clash : false ≡ true = sym (ranks.least 1 (omega (arith, e))) ∙ first in absurd (cc clash)

        fewer_behind : (links cell : ℕ) (link : IsLink g layer links cell) → IsExact (suc links) cell →
            is_bare g layer link.to ≡ false → (few : ℕ) → few < links → (found : Bool) →
            slides_within g layer few link.to ≡ found → found ≡ false
        fewer_behind links cell link ranks held few h true e =
            let sooner : slides_within g layer (suc few) cell ≡ true =
            slides_by g layer few cell (record {
              to = link.to;
              aims = link.aims;
              wins = link.wins;
              leads =
                  inr (held, e);
            }) in
            let clash : false ≡ true = sym (ranks.least (suc few) (omega (arith, h))) ∙ sooner in absurd (cc clash)
        fewer_behind links cell link ranks held few h false e = refl

        onwards : (links : ℕ) (link : IsLink g layer links cell) → cell < cell_count g → IsExact (suc links) cell →
            (is_bare g layer link.to ≡ true) ⊎
            ((is_bare g layer link.to ≡ false) × (slides_within g layer links link.to ≡ true)) →
            ((to : ℕ) → IsExact links to → (cells : List ℕ) × IsChain links cells) →
            (cells : List ℕ) × IsChain (suc links) cells
        onwards zero link within ranks (inl bare) rest = (cell ∷ [], lengthened 0 cell [] within ranks no_chain)
        onwards (suc links) link within ranks (inl bare) rest = let none : suc links ≡ 0 =
            one_link (suc links) cell link ranks bare (suc links) refl in absurd (omega (arith, none))
        onwards links link within ranks (inr further) rest =
            let behind = rest link.to (record {
              enough = further.1;
              least = λ few h.
                  fewer_behind links cell link ranks further.0 few h (slides_within g layer few link.to) refl;
            }) in
            (cell ∷ behind.0, lengthened links cell behind.0 within ranks behind.1)

pub chains_slide : ChainsSlide
chains_slide g layer links cell e =
    let ranked = exact g layer links cell e in
    let chain = chain_of g layer ranked.0 cell ranked.1 in
    let few : length chain.0 ≤ cell_count g = length-le_from_distinct_below chain.0 (cell_count g) chain.1.apart
    (λ q among. (chain.1.each q among).0) in
    slides_within-more g layer ranked.0 (cell_count g) cell (omega (arith, few, chain.1.long)) ranked.1.enough
