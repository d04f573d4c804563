use Rattle.std.proofs.Common.{◌≡◌, ℕ, zero, suc, ◌+◌, ◌<◌, ◌≤◌, ◌⊎◌, inl, inr, Bool, true, false, List, [], ◌∷◌, ◌++◌, length, take, drop, Option, Some, None, slice_get, refl, sym, ap, ◌∙◌, arith, subst, length-append, below_more}
use Rattle.std.specs.Prelude.{nat_lt}
use Rattle.std.specs.List.{Contains}
use Rattle.std.specs.Option.{option_and_then}
use Rattle.std.proofs.lemmas.List.{take-append-drop, length-take, length-drop, append-nil}
use Rattle.std.proofs.lemmas.List.Elements.{All-nil, All-push, All-head, All-tail, All-take, All-drop}
use Rattle.std.proofs.lemmas.Option.{slice_get_within, slice_get-get_or, get_or_from_slice_get}
use Rattle.std.proofs.lemmas.Bool.Decides.{nat_tests}
use Rattle.ps_search.specs.declared.visited.Link.{Link}
use Rattle.ps_search.specs.Covers.{CoversAll, CoversWithin}
use Rattle.ps_search.specs.Leads.{led, AreGiven, WinsInFewest, NeverWins, NotWithin}
use Rattle.ps_search.specs.Ways.{way, IsBefore, AreOrdered}
use Rattle.ps_search.specs.Searched.{IsNumbered, IsSpelled, Searched}
use Rattle.ps_search.proofs.Leads.{led-push}
use Rattle.ps_search.proofs.Numbers.{there, there_kept, there_last, of_push, numbered_kept, numbered_is_place}
use Rattle.ps_search.proofs.Ways.{way-kept, way-last}

-- what holds of the first number
only_first : (P : ℕ → Type 0) → P 0 → (number : ℕ) → number < 1 → P number
only_first P h zero below = h
only_first P h (suc number) below = absurd (omega arith)

first_ordered : {Input : Type 0} (number : ℕ) (link : Link Input) → slice_get (record { parent = 0; input = None } ∷ []) number ≡ Some link → IsBefore link.parent number link.input
first_ordered {Input} zero link at =
    let only : Link Input = record { parent = 0; input = None } in
    let same : only ≡ link = cc in
    subst (λ (l : Link Input). IsBefore l.parent 0 l.input) same refl
first_ordered (suc number) link at = cc

-- with one more link, whose parent has a number
pushed_ordered : {Input : Type 0} (links : List (Link Input)) (last : Link Input) → AreOrdered links → IsBefore last.parent (length links) last.input → AreOrdered (links ++ last ∷ [])
pushed_ordered {Input} links last ordered before number link at = by (of_push links last link number at)
  where
    by : (slice_get links number ≡ Some link) ⊎ ((number ≡ length links) × (last ≡ link)) → IsBefore link.parent number link.input
    by (inl known) = ordered number link known
    by (inr new) = subst (λ (n : ℕ). IsBefore link.parent n link.input) (sym new.0) (subst (λ (l : Link Input). IsBefore l.parent (length links) l.input) new.1 before)

-- more than the depth, or not
deep : (depth size : ℕ) → (size ≤ depth) ⊎ (depth + 1 ≤ size)
deep depth size = by (nat_lt depth size) refl
  where
    by : (b : Bool) → nat_lt depth size ≡ b → (size ≤ depth) ⊎ (depth + 1 ≤ size)
    by true e = let h : depth < size = grind (arith, nat_tests) in inr (omega arith)
    by false e = let h : size ≤ depth = grind (arith, nat_tests) in inl h

module _ {Place Input : Type 0} (next : Place → Input → Option Place) (start : Place) (inputs : List Input) where
  no_keys : (keys : List Input) → length keys ≤ 0 → (number : ℕ) × (number < 1) × (led next start keys ≡ slice_get (start ∷ []) number)
  no_keys [] h = (0, omega arith, refl)
  no_keys (key ∷ keys) h = absurd (omega arith)

  first_spelled : IsSpelled next start inputs (start ∷ []) (record { parent = 0; input = None } ∷ []) 0
  first_spelled = record { given = All-nil (Contains inputs); leads = refl }

  -- a search begins with the start alone
  pub started : Searched next start inputs (start ∷ []) (record { parent = 0; input = None } ∷ []) 0 1 0
  started = record {
    long = refl;
    ordered = first_ordered;
    spelled = only_first (IsSpelled next start inputs (start ∷ []) (record { parent = 0; input = None } ∷ [])) first_spelled;
    shallow = only_first (λ number. length (way (record { parent = 0; input = None } ∷ []) number) ≤ 0) (omega arith);
    deeper = only_first (λ number. length (way (record { parent = 0; input = None } ∷ []) number) ≤ 1) (omega arith);
    covered = λ keys given short. no_keys keys short;
    closed = λ number place below. absurd (omega arith);
    within = omega arith;
  }

  module _ (places : List Place) (links : List (Link Input)) (at end depth : ℕ) (searched : Searched next start inputs places links at end depth) where
    -- no list of at most `depth` inputs leads past
    pub not_within : NotWithin next start inputs depth
    not_within keys given short past =
        let found = searched.covered keys given short in
        let h = searched.within in
        numbered_is_place places (led next start keys) (found.0, omega arith, found.2) past

    -- one more input at a place of the layer may lead past, and then no shorter list does
    pub won : (place : Place) (input : Input) → at < end → slice_get places at ≡ Some place → Contains inputs input → next place input ≡ None
        → WinsInFewest next start inputs (way links at ++ input ∷ [])
    won place input below is contained past =
        let h = searched.within in
        let spelled = searched.spelled at (omega arith) in
        let short : length (way links at) ≤ depth = searched.shallow at below in
        let size : length (way links at ++ input ∷ []) ≡ length (way links at) + 1 = length-append (way links at) (input ∷ []) in
        record {
          given = All-push (Contains inputs) (way links at) input spelled.given contained;
          wins = led-push next (way links at) input start place (spelled.leads ∙ is) ∙ past;
          fewest = λ others given wins. by others given wins (deep depth (length others)) size short;
        }
      where
        by : (others : List Input) → AreGiven next start inputs others → led next start others ≡ None → (length others ≤ depth) ⊎ (depth + 1 ≤ length others)
            → length (way links at ++ input ∷ []) ≡ length (way links at) + 1 → length (way links at) ≤ depth → length (way links at ++ input ∷ []) ≤ length others
        by others given wins (inl less) size short = absurd (not_within others given less wins)
        by others given wins (inr more) size short = omega arith

    -- a place is done when each input from it leads to a place with a number
    pub next_place : (place : Place) → slice_get places at ≡ Some place → ((input : Input) → Contains inputs input → IsNumbered places (next place input))
        → Searched next start inputs places links (at + 1) end depth
    next_place place is done = record {
      long = searched.long;
      ordered = searched.ordered;
      spelled = searched.spelled;
      shallow = searched.shallow;
      deeper = searched.deeper;
      covered = searched.covered;
      closed = λ number other below at_number.
          below_more (λ (n : ℕ). slice_get places n ≡ Some other → (input : Input) → Contains inputs input → IsNumbered places (next other input)) at
          (λ n less at_n. searched.closed n other less at_n)
          (λ at_n input contained. let same : place ≡ other = cc in subst (λ (p : Place). IsNumbered places (next p input)) same (done input contained))
          number below at_number;
      within = searched.within;
    }

    -- where each place of a layer is done, all that lists of one input more lead to is numbered
    covered_one_more : at ≡ end → (front rest : List Input) → length front ≤ depth → length rest ≤ 1 → AreGiven next start inputs front → AreGiven next start inputs rest
        → (number : ℕ) × (number < length places) × (led next start (front ++ rest) ≡ slice_get places number)
    covered_one_more done front [] short one given more =
        let found = searched.covered front given short in
        let h = searched.within in
        (found.0, omega arith, ap (led next start) (append-nil front) ∙ found.2)
    covered_one_more done front (input ∷ []) short one given more =
        let found = searched.covered front given short in
        let h = searched.within in
        let place : (x : Place) × (slice_get places found.0 ≡ Some x) = there places found.0 (omega arith) in
        let numbered = searched.closed found.0 place.0 (omega arith) place.1 input (All-head (Contains inputs) input [] more) in
        (numbered.0, numbered.1, led-push next front input start place.0 (found.2 ∙ place.1) ∙ numbered.2)
    covered_one_more done front (input ∷ other ∷ rest) short one given more = absurd (omega arith)

    pub next_layer : at ≡ end → Searched next start inputs places links at (length places) (depth + 1)
    next_layer done = record {
      long = searched.long;
      ordered = searched.ordered;
      spelled = searched.spelled;
      shallow = searched.deeper;
      deeper = λ number below. let h = searched.deeper number below in omega arith;
      covered = λ keys given short.
          subst (λ (k : List Input). (number : ℕ) × (number < length places) × (led next start k ≡ slice_get places number)) (take-append-drop depth keys)
          (covered_one_more done (take depth keys) (drop depth keys)
          (simp (length-take) (omega arith)) (simp (length-drop) (omega arith))
          (All-take (Contains inputs) depth keys given) (All-drop (Contains inputs) depth keys given));
      closed = searched.closed;
      within = omega arith;
    }

    -- where each place is done, all that lists lead to is numbered
    all_numbered : length places ≤ at → (keys : List Input) → AreGiven next start inputs keys → (number : ℕ) (place : Place) → slice_get places number ≡ Some place
        → IsNumbered places (led next place keys)
    all_numbered done [] given number place is = (number, slice_get_within places number place is, sym is)
    all_numbered done (input ∷ keys) given number place is =
        let below : number < length places = slice_get_within places number place is in
        let one = searched.closed number place (omega arith) is input (All-head (Contains inputs) input keys given) in
        let then : (x : Place) × (slice_get places one.0 ≡ Some x) = there places one.0 one.1 in
        subst (λ (o : Option Place). IsNumbered places (option_and_then (λ p. led next p keys) o)) (sym (one.2 ∙ then.1))
        (all_numbered done keys (All-tail (Contains inputs) input keys given) one.0 then.0 then.1)

    pub never : length places ≤ at → NeverWins next start inputs
    never done keys given past =
        let h = searched.within in
        let first = searched.covered [] (All-nil (Contains inputs)) (omega arith) in
        numbered_is_place places (led next start keys) (all_numbered done keys given first.0 start (sym first.2)) past

    -- what has a number is listed
    listed : (place : Place) (number : ℕ) → slice_get places number ≡ Some place → Contains places place
    listed place number is =
        (number, slice_get_within places number place is, get_or_from_slice_get places number place place is)

    -- the places that have a number cover the depth
    pub covers_within : (states : ℕ) → length places ≡ states → CoversWithin next start inputs depth states
    covers_within states many = record {
      places = places;
      many = many;
      each_led = λ number other below.
          let spelled = searched.spelled number below in
          (way links number, spelled.given, searched.deeper number below, spelled.leads ∙ slice_get-get_or places number other below);
      all_listed = λ place to.
          let found = searched.covered to.0 to.1 to.2 in
          listed place found.0 (sym found.2 ∙ to.3);
    }

    -- and all that there are, where each place is done
    pub covers_all : length places ≤ at → (states : ℕ) → length places ≡ states → CoversAll next start inputs states
    covers_all done states many = record {
      places = places;
      many = many;
      each_led = λ number other below.
          let spelled = searched.spelled number below in
          (way links number, spelled.given, spelled.leads ∙ slice_get-get_or places number other below);
      all_listed = λ place to.
          let h = searched.within in
          let first = searched.covered [] (All-nil (Contains inputs)) (omega arith) in
          let found = all_numbered done to.0 to.1 first.0 start (sym first.2) in
          listed place found.0 (sym found.2 ∙ to.2);
    }

  -- one more place is met from one of the layer, unless it has a number
  module _ (places : List Place) (links : List (Link Input)) (at end depth : ℕ) (searched : Searched next start inputs places links at end depth)
      (place then : Place) (input : Input) (below : at < end) (is : slice_get places at ≡ Some place) (contained : Contains inputs input) (leads : next place input ≡ Some then) where
    last_way : way (links ++ record { parent = at; input = Some input } ∷ []) (length places) ≡ way links at ++ input ∷ []
    last_way = ap (way (links ++ record { parent = at; input = Some input } ∷ [])) (sym searched.long) ∙ way-last links (record { parent = at; input = Some input })

    kept_way : (number : ℕ) → number < length places → way (links ++ record { parent = at; input = Some input } ∷ []) number ≡ way links number
    kept_way number h = let e = searched.long in way-kept links (record { parent = at; input = Some input }) number (omega arith)

    new_spelled : (number : ℕ) → number < length places + 1 → IsSpelled next start inputs (places ++ then ∷ []) (links ++ record { parent = at; input = Some input } ∷ []) number
    new_spelled = below_more (IsSpelled next start inputs (places ++ then ∷ []) (links ++ record { parent = at; input = Some input } ∷ [])) (length places)
        (λ number h. record {
          given = subst (AreGiven next start inputs) (sym (kept_way number h)) (searched.spelled number h).given;
          leads = ap (led next start) (kept_way number h) ∙ (searched.spelled number h).leads ∙ sym (there_kept places (then ∷ []) number h);
        })
        (let h = searched.within in
        let parent = searched.spelled at (omega arith) in
        record {
          given = subst (AreGiven next start inputs) (sym last_way) (All-push (Contains inputs) (way links at) input parent.given contained);
          leads = ap (led next start) last_way ∙ led-push next (way links at) input start place (parent.leads ∙ is) ∙ leads ∙ sym (there_last places then);
        })

    new_deeper : (number : ℕ) → number < length places + 1 → length (way (links ++ record { parent = at; input = Some input } ∷ []) number) ≤ depth + 1
    new_deeper = below_more (λ number. length (way (links ++ record { parent = at; input = Some input } ∷ []) number) ≤ depth + 1) (length places)
        (λ number h. subst (λ (w : List Input). length w ≤ depth + 1) (sym (kept_way number h)) (searched.deeper number h))
        (let short = searched.shallow at below in
        let size = length-append (way links at) (input ∷ []) in
        subst (λ (w : List Input). length w ≤ depth + 1) (sym last_way) (omega arith))

    pub one_more : Searched next start inputs (places ++ then ∷ []) (links ++ record { parent = at; input = Some input } ∷ []) at end depth
    one_more =
        let within = searched.within in
        let long = searched.long in
        let size : length (places ++ then ∷ []) ≡ length places + 1 = length-append places (then ∷ []) in
        record {
          long = length-append links (record { parent = at; input = Some input } ∷ []) ∙ ap (λ (n : ℕ). n + 1) long ∙ sym size;
          ordered = pushed_ordered links (record { parent = at; input = Some input }) searched.ordered (omega arith);
          spelled = λ number h. new_spelled number (omega arith);
          shallow = λ number h. subst (λ (w : List Input). length w ≤ depth) (sym (kept_way number (omega arith))) (searched.shallow number h);
          deeper = λ number h. new_deeper number (omega arith);
          covered = λ keys given short.
              let found = searched.covered keys given short in
              (found.0, found.1, found.2 ∙ sym (there_kept places (then ∷ []) found.0 (omega arith)));
          closed = λ number other less at_number given_input given.
              numbered_kept places (then ∷ []) (next other given_input)
              (searched.closed number other less (sym (there_kept places (then ∷ []) number (omega arith)) ∙ at_number) given_input given);
          within = omega arith;
        }
