use Rattle.std.proofs.Common.{◌≡◌, ℕ, ◌+◌, ◌<◌, ◌⊎◌, inl, inr, Bool, true, List, [], ◌∷◌, ◌++◌, length, Option, Some, None, map, slice_get, get_or, take, refl, sym, ap, ◌∙◌, arith, subst, length-append}
use Rattle.std.specs.List.{All, Contains}
use Rattle.std.proofs.lemmas.List.{map-append}
use Rattle.std.proofs.lemmas.List.Elements.{All-push, All-head, All-tail, All-weaker, All-more, All-contains}
use Rattle.std.specs.Option.{option_map}
use Rattle.std.proofs.lemmas.Option.{slice_get-map, slice_get_within, get_or_from_slice_get}
use Rattle.ps_search.specs.declared.visited.Link.{Link}
use Rattle.ps_search.specs.declared.moves.Step.{Step}
use Rattle.ps_search.specs.Steps.{IsStep}
use Rattle.ps_search.specs.Noted.{IsKnown, IsNoted}
use Rattle.ps_search.specs.Leads.{WinsInFewest}
use Rattle.ps_search.specs.Ways.{way}
use Rattle.ps_search.specs.Searched.{IsNumbered, Searched, Kept, UnderWork}
use Rattle.ps_search.proofs.Numbers.{there_kept, there_last, numbered_kept}
use Rattle.ps_search.proofs.Progress.{one_more, next_place, won}

-- keys that keep their meaning stand for the same places
pub same_places : {Key Place : Type 0} (is_key : Key → Type 0) (place new_place : Key → Place) → ((key : Key) → is_key key → new_place key ≡ place key)
    → (keys : List Key) → All is_key keys → map new_place keys ≡ map place keys
same_places is_key place new_place same [] known = refl
same_places is_key place new_place same (key ∷ keys) known =
    let first = same key (All-head is_key key keys known) in
    let rest = same_places is_key place new_place same keys (All-tail is_key key keys known) in cc

module _ {Place Input Key : Type 0} (next : Place → Input → Option Place) (start : Place) (inputs : List Input)
    (is_key new_is_key : Key → Type 0) (place new_place : Key → Place) (kept : (key : Key) → is_key key → new_is_key key × (new_place key ≡ place key)) where
  -- a call that keeps what keys mean keeps what is known of a search
  pub places_kept : (keys : List Key) → All is_key keys → map new_place keys ≡ map place keys
  places_kept keys known = same_places is_key place new_place (λ key is. (kept key is).1) keys known

  pub kept_on : (keys : List Key) (links : List (Link Input)) (at end depth : ℕ) → Kept next start inputs is_key place keys links at end depth → Kept next start inputs new_is_key new_place keys links at end depth
  kept_on keys links at end depth search = record {
    known = All-weaker is_key new_is_key (λ key is. (kept key is).0) keys search.known;
    searched = subst (λ (places : List Place). Searched next start inputs places links at end depth) (sym (places_kept keys search.known)) search.searched;
  }

  pub work_on : (here : Place) (keys : List Key) (links : List (Link Input)) (at end depth : ℕ) → UnderWork next start inputs is_key place here keys links at end depth → UnderWork next start inputs new_is_key new_place here keys links at end depth
  work_on here keys links at end depth work = record {
    kept = kept_on keys links at end depth work.kept;
    below = work.below;
    stands = ap (λ (places : List Place). slice_get places at) (places_kept keys work.kept.known) ∙ work.stands;
  }

  pub numbered_on : (keys : List Key) → All is_key keys → (led : Option Place) → IsNumbered (map place keys) led → IsNumbered (map new_place keys) led
  numbered_on keys known led numbered = subst (λ (places : List Place). IsNumbered places led) (sym (places_kept keys known)) numbered

-- a search that keeps the same keys with the same links is as far as it was
pub kept_same : {Place Input Key : Type 0} (next : Place → Input → Option Place) (start : Place) (inputs : List Input) (is_key : Key → Type 0) (place : Key → Place)
    (keys new_keys : List Key) (links new_links : List (Link Input)) (at end depth : ℕ) → new_keys ≡ keys → new_links ≡ links
    → Kept next start inputs is_key place keys links at end depth → Kept next start inputs is_key place new_keys new_links at end depth
kept_same {Place} {Input} {Key} next start inputs is_key place keys new_keys links new_links at end depth k l kept =
    subst (λ (own : List Key). Kept next start inputs is_key place own new_links at end depth) (sym k)
    (subst (λ (own : List (Link Input)). Kept next start inputs is_key place keys own at end depth) (sym l) kept)

-- what a step tells
pub told : {Place Key : Type 0} (is_key : Key → Type 0) (place : Key → Place) (here : Place) (led : Option Place) (step known : Step Key) → IsStep is_key place here led step → step ≡ known → IsStep is_key place here led known
told is_key place here led step known is same = subst (IsStep is_key place here led) same is

-- the place under work has a number
pub here_numbered : {Place : Type 0} (places : List Place) (at : ℕ) (here : Place) (led : Option Place) → slice_get places at ≡ Some here → led ≡ Some here → IsNumbered places led
here_numbered places at here led stands same = (at, slice_get_within places at here stands, same ∙ sym stands)

module _ {Place Input Key : Type 0} (next : Place → Input → Option Place) (start : Place) (inputs : List Input)
    (is_key : Key → Type 0) (place : Key → Place) (eq : Key → Key → Bool) (one_place : (one other : Key) → eq one other ≡ true → place one ≡ place other)
    (keys new_keys : List Key) (links new_links : List (Link Input)) (key : Key) (input : Input) (at end depth : ℕ) (here : Place)
    (noted : IsNoted eq keys links key (record { parent = at; input = Some input }) new_keys new_links) (is : is_key key)
    (contained : Contains inputs input) (leads : next here input ≡ Some (place key)) (work : UnderWork next start inputs is_key place here keys links at end depth) where
  known_numbered : IsKnown eq keys key → IsNumbered (map place keys) (Some (place key))
  known_numbered known =
      let at_map : slice_get (map place keys) known.0 ≡ Some (place known.1) = slice_get-map place keys known.0 ∙ ap (option_map place) known.2 in
      (known.0, slice_get_within (map place keys) known.0 (place known.1) at_map, ap Some (one_place key known.1 known.3) ∙ sym at_map)

  -- keeping the key that the input leads to goes on with the search
  pub record Noted : Type 0 where
    pub works : UnderWork next start inputs is_key place here new_keys new_links at end depth
    pub stay : (led : Option Place) → IsNumbered (map place keys) led → IsNumbered (map place new_keys) led
    pub leads_on : IsNumbered (map place new_keys) (next here input)

  pushed_places : new_keys ≡ keys ++ key ∷ [] → map place new_keys ≡ map place keys ++ place key ∷ []
  pushed_places e = ap (map place) e ∙ map-append place keys (key ∷ [])

  pub noted_on : Noted
  noted_on = by noted
    where
      by : ((new_keys ≡ keys) × (new_links ≡ links) × IsKnown eq keys key) ⊎ ((new_keys ≡ keys ++ key ∷ []) × (new_links ≡ links ++ record { parent = at; input = Some input } ∷ [])) → Noted
      by (inl same) = record {
        works = subst (λ (k : List Key). UnderWork next start inputs is_key place here k new_links at end depth) (sym same.0)
            (subst (λ (l : List (Link Input)). UnderWork next start inputs is_key place here keys l at end depth) (sym same.1) work);
        stay = λ led numbered. subst (λ (k : List Key). IsNumbered (map place k) led) (sym same.0) numbered;
        leads_on = subst (λ (k : List Key). IsNumbered (map place k) (next here input)) (sym same.0) (subst (IsNumbered (map place keys)) (sym leads) (known_numbered same.2));
      }
      by (inr more) = record {
        works = record {
          kept = record {
            known = subst (All is_key) (sym more.0) (All-push is_key keys key work.kept.known is);
            searched = subst (λ (p : List Place). Searched next start inputs p new_links at end depth) (sym (pushed_places more.0))
                (subst (λ (l : List (Link Input)). Searched next start inputs (map place keys ++ place key ∷ []) l at end depth) (sym more.1)
                (one_more next start inputs (map place keys) links at end depth work.kept.searched here (place key) input work.below work.stands contained leads));
          };
          below = work.below;
          stands = ap (λ (p : List Place). slice_get p at) (pushed_places more.0) ∙ there_kept (map place keys) (place key ∷ []) at (slice_get_within (map place keys) at here work.stands) ∙ work.stands;
        };
        stay = λ led numbered. subst (λ (p : List Place). IsNumbered p led) (sym (pushed_places more.0)) (numbered_kept (map place keys) (place key ∷ []) led numbered);
        leads_on = subst (λ (p : List Place). IsNumbered p (next here input)) (sym (pushed_places more.0))
            (length (map place keys), simp length-append (omega arith), leads ∙ sym (there_last (map place keys) (place key)));
      }

-- the place of a key is gone to
module _ {Place Input Key : Type 0} (next : Place → Input → Option Place) (start : Place) (inputs : List Input)
    (is_key new_is_key : Key → Type 0) (place new_place : Key → Place) (kept : (key : Key) → is_key key → new_is_key key × (new_place key ≡ place key)) where
  pub entered : (keys : List Key) (links : List (Link Input)) (at end depth : ℕ) (key : Key) (here : Place) → Kept next start inputs is_key place keys links at end depth → at < end
      → slice_get keys at ≡ Some key → here ≡ place key → UnderWork next start inputs new_is_key new_place here keys links at end depth
  entered keys links at end depth key here search below is gone =
      let same : get_or keys at key ≡ key = get_or_from_slice_get keys at key key is in
      let known : is_key key = subst is_key same (search.known at key (slice_get_within keys at key is)) in
      record {
        kept = kept_on next start inputs is_key new_is_key place new_place kept keys links at end depth search;
        below = below;
        stands = slice_get-map new_place keys at ∙ ap (option_map new_place) is ∙ ap Some ((kept key known).1 ∙ sym gone);
      }

-- what is said of a graph is said of one with the same steps and start
module _ {Place Input Key : Type 0} (inputs : List Input) (is_key : Key → Type 0) (place : Key → Place) (keys : List Key) (links : List (Link Input)) (at end depth : ℕ) where
  pub work_as : (next other_next : Place → Input → Option Place) (start other_start here other_here : Place) → next ≡ other_next → start ≡ other_start → here ≡ other_here
      → UnderWork next start inputs is_key place here keys links at end depth → UnderWork other_next other_start inputs is_key place other_here keys links at end depth
  work_as next other_next start other_start here other_here n s h work =
      subst (λ (o : Place). UnderWork other_next other_start inputs is_key place o keys links at end depth) h
      (subst (λ (o : Place). UnderWork other_next o inputs is_key place here keys links at end depth) s
      (subst (λ (o : Place → Input → Option Place). UnderWork o start inputs is_key place here keys links at end depth) n work))

  -- an input that leads past wins
  pub won_there : (next : Place → Input → Option Place) (start here : Place) (input : Input) → UnderWork next start inputs is_key place here keys links at end depth
      → Contains inputs input → next here input ≡ None → WinsInFewest next start inputs (way links at ++ input ∷ [])
  won_there next start here input work contained past =
      won next start inputs (map place keys) links at end depth work.kept.searched here input work.below work.stands contained past

  -- a place is done where each input was given
  pub done_there : (next : Place → Input → Option Place) (start here : Place) → UnderWork next start inputs is_key place here keys links at end depth
      → All (λ input. IsNumbered (map place keys) (next here input)) inputs → Kept next start inputs is_key place keys links (at + 1) end depth
  done_there next start here work tried = record {
    known = work.kept.known;
    searched = next_place next start inputs (map place keys) links at end depth work.kept.searched here work.stands
        (λ input contained. All-contains (λ x. IsNumbered (map place keys) (next here x)) inputs input tried contained);
  }

-- one more input was given
pub tried_more : {Place Input : Type 0} (next : Place → Input → Option Place) (places new_places : List Place) (here new_here : Place) (inputs : List Input) (number : ℕ) (input : Input)
    → here ≡ new_here → number < length inputs → input ≡ get_or inputs number input → ((led : Option Place) → IsNumbered places led → IsNumbered new_places led)
    → All (λ x. IsNumbered places (next here x)) (take number inputs) → IsNumbered new_places (next here input)
    → All (λ x. IsNumbered new_places (next new_here x)) (take (number + 1) inputs)
tried_more {Place} {Input} next places new_places here new_here inputs number input same below is stay tried new =
    subst (λ (h : Place). All (λ x. IsNumbered new_places (next h x)) (take (number + 1) inputs)) same
    (All-more (λ x. IsNumbered new_places (next here x)) inputs number input below
    (All-weaker (λ x. IsNumbered places (next here x)) (λ x. IsNumbered new_places (next here x)) (λ x. stay (next here x)) (take number inputs) tried)
    (subst (λ (x : Input). IsNumbered new_places (next here x)) is new))
