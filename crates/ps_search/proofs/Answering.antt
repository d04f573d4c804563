use Rattle.std.proofs.Common.{◌≡◌, ◌≢◌, ℕ, Bool, ◌+◌, ◌<◌, ◌≤◌, ◌⊎◌, inl, inr, List, [], ◌∷◌, ◌++◌, length, Option, Some, None, map, slice_get, refl, sym, ap, ◌∙◌, arith, subst}
use Rattle.std.specs.List.{All}
use Rattle.std.proofs.Math.Nat.{eq-or-lt_of_le}
use Rattle.std.proofs.lemmas.List.{length-map}
use Rattle.std.proofs.lemmas.List.Elements.{All-nil, All-cons}
use Rattle.ps_search.specs.declared.answers.Found.{Found}
use Rattle.ps_search.specs.declared.answers.Found.TheVariants.{Won, Never, Unknown}
use Rattle.ps_search.specs.declared.answers.Why.{Why}
use Rattle.ps_search.specs.declared.answers.Why.TheVariants.{Limit, Memory, Stopped, Moves}
use Rattle.ps_search.specs.declared.visited.Link.{Link}
use Rattle.ps_search.specs.Leads.{WinsInFewest, NeverWins, NotWithin}
use Rattle.ps_search.specs.Covers.{CoversAll, CoversWithin}
use Rattle.ps_search.specs.Answers.{IsAnswer, IsReason, IsWon}
use Rattle.ps_search.specs.Noted.{IsKnown, IsNoted}
use Rattle.ps_search.specs.Searched.{Searched, Kept, IsDone}
use Rattle.ps_search.proofs.Progress.{started, not_within, next_layer, never, covers_within, covers_all}

-- a number with a place below the end of a layer, which is the last one where nothing more has a number
pub before_end : (at end count : ℕ) → at ≤ end → (at ≡ end → at ≡ count) → at < count → at < end
before_end at end count order last below = by (eq-or-lt_of_le order)
  where
    by : (at ≡ end) ⊎ (at < end) → at < end
    by (inl same) = let all = last same in absurd (omega arith)
    by (inr less) = less

-- a search that can't begin knows that no list without an input leads past
pub not_begun : {Place Input Fault : Type 0} (next : Place → Input → Option Place) (start : Place) (inputs : List Input) (limit : ℕ) (why : Why Fault) → IsReason limit 0 why
    → IsAnswer next start inputs limit (Unknown 0 0 why)
not_begun next start inputs limit why reason = (not_at_once, omega arith, reason, inr (refl, refl))
  where
    not_at_once : NotWithin next start inputs 0
    not_at_once [] given short past = cc
    not_at_once (input ∷ list) given short past = absurd (omega arith)

module _ {Place Input Key : Type 0} (next : Place → Input → Option Place) (start : Place) (inputs : List Input) (is_key : Key → Type 0) (place : Key → Place) where
  -- a search begins when the key of the start is kept
  pub begun : (eq : Key → Key → Bool) (keys new_keys : List Key) (links new_links : List (Link Input)) (key : Key) → keys ≡ [] → links ≡ []
      → IsNoted eq keys links key (record { parent = 0; input = None }) new_keys new_links → is_key key → place key ≡ start → Kept next start inputs is_key place new_keys new_links 0 1 0
  begun eq keys new_keys links new_links key none no_links noted is stands = by noted
    where
      by : ((new_keys ≡ keys) × (new_links ≡ links) × IsKnown eq keys key) ⊎ ((new_keys ≡ keys ++ key ∷ []) × (new_links ≡ links ++ record { parent = 0; input = None } ∷ []))
          → Kept next start inputs is_key place new_keys new_links 0 1 0
      by (inl same) =
          let known = same.2 in
          let at : slice_get keys known.0 ≡ Some known.1 = known.2 in
          let none_there : slice_get {X = Key} [] known.0 ≡ Some known.1 = subst (λ (k : List Key). slice_get k known.0 ≡ Some known.1) none at in cc
      by (inr more) =
          let only : new_keys ≡ key ∷ [] = more.0 ∙ ap (λ (k : List Key). k ++ key ∷ []) none in
          let only_link : new_links ≡ record { parent = 0; input = None } ∷ [] = more.1 ∙ ap (λ (l : List (Link Input)). l ++ record { parent = 0; input = None } ∷ []) no_links in
          record {
            known = subst (All is_key) (sym only) (All-cons is_key key [] is (All-nil is_key));
            searched = subst (λ (k : List Key). Searched next start inputs (map place k) new_links 0 1 0) (sym only)
                (subst (λ (l : List (Link Input)). Searched next start inputs (place key ∷ []) l 0 1 0) (sym only_link)
                (subst (λ (p : Place). Searched next start inputs (p ∷ []) (record { parent = 0; input = None } ∷ []) 0 1 0) (sym stands) (started next start inputs)));
          }

  module _ (keys : List Key) (links : List (Link Input)) (at end depth : ℕ) (before : Kept next start inputs is_key place keys links at end depth) where
    -- what is known where a search stops
    pub stopped : NotWithin next start inputs depth
    stopped = not_within next start inputs (map place keys) links at end depth before.searched

    -- and where nothing is left
    pub ended : length keys ≤ at → NeverWins next start inputs
    ended h = never next start inputs (map place keys) links at end depth before.searched (let e = length-map keys place in omega arith)

    -- how many places are kept until then
    pub kept_within : (states : ℕ) → states ≡ length keys → CoversWithin next start inputs depth states
    kept_within states many = covers_within next start inputs (map place keys) links at end depth before.searched states (length-map keys place ∙ sym many)

    pub kept_whole : length keys ≤ at → (states : ℕ) → states ≡ length keys → CoversAll next start inputs states
    kept_whole h states many =
        covers_all next start inputs (map place keys) links at end depth before.searched (let e = length-map keys place in omega arith) states (length-map keys place ∙ sym many)

    -- the layer after the last place of one
    pub kept_next_layer : at ≡ end → Kept next start inputs is_key place keys links at (length keys) (depth + 1)
    kept_next_layer done = record {
      known = before.known;
      searched = subst (λ (n : ℕ). Searched next start inputs (map place keys) links at n (depth + 1)) (length-map keys place)
          (next_layer next start inputs (map place keys) links at end depth before.searched done);
    }

    pub record Moved (new_at new_end new_depth : ℕ) : Type 0 where
      pub kept : Kept next start inputs is_key place keys links new_at new_end new_depth
      pub order : new_at ≤ new_end
      pub last : new_at ≡ new_end → new_at ≡ length keys
      pub shallow : new_depth ≤ new_at

  -- the next place is of the same layer, or begins the next one
  pub moved : (keys : List Key) (links : List (Link Input)) (at end depth count new_at new_end new_depth : ℕ) (before : Kept next start inputs is_key place keys links (at + 1) end depth) → at < end → depth ≤ at
      → count ≡ length keys → new_at ≡ at + 1
      → ((at + 1 ≢ end) × (new_end ≡ end) × (new_depth ≡ depth)) ⊎ ((at + 1 ≡ end) × (new_end ≡ count) × (new_depth ≡ depth + 1))
      → Moved keys links (at + 1) end depth before new_at new_end new_depth
  moved keys links at end depth count new_at new_end new_depth before below shallow counted is (inl same) =
      let other = same.0 in
      let same_end = same.1 in
      let same_depth = same.2 in
      record {
        kept = subst (λ (d : ℕ). Kept next start inputs is_key place keys links new_at new_end d) (sym same_depth)
            (subst (λ (e : ℕ). Kept next start inputs is_key place keys links new_at e depth) (sym same_end)
            (subst (λ (a : ℕ). Kept next start inputs is_key place keys links a end depth) (sym is) before));
        order = omega arith;
        last = λ h. absurd (other (omega arith));
        shallow = omega arith;
      }
  moved keys links at end depth count new_at new_end new_depth before below shallow counted is (inr same) =
      let last = same.0 in
      let next_end = same.1 in
      let next_depth = same.2 in
      let longer = before.searched.within in
      let all = length-map keys place in
      record {
        kept = subst (λ (d : ℕ). Kept next start inputs is_key place keys links new_at new_end d) (sym next_depth)
            (subst (λ (e : ℕ). Kept next start inputs is_key place keys links new_at e (depth + 1)) (sym (next_end ∙ counted))
            (subst (λ (a : ℕ). Kept next start inputs is_key place keys links a (length keys) (depth + 1)) (sym is) (kept_next_layer keys links (at + 1) end depth before last)));
        order = omega arith;
        last = λ h. h ∙ next_end ∙ counted;
        shallow = omega arith;
      }

  -- the answer where an input leads past
  pub told : {Fault : Type 0} (limit : ℕ) (keys : List Input) (depth count : ℕ) (found : Found Input Fault) → IsWon keys depth count found → WinsInFewest next start inputs keys → NotWithin next start inputs depth
      → CoversWithin next start inputs depth count → count ≤ limit → IsAnswer next start inputs limit found
  told limit keys depth count (Won said) same wins short covers within = subst (WinsInFewest next start inputs) (sym same) wins
  told limit keys depth count (Never states) same wins short covers within = absurd same
  told limit keys depth count (Unknown states deep Memory) same wins short covers within =
      let e = same.0 in (
        subst (NotWithin next start inputs) (sym same.1) short,
        omega arith,
        tt,
        inl (subst (λ (d : ℕ). CoversWithin next start inputs d states) (sym same.1) (subst (CoversWithin next start inputs depth) (sym e) covers)),
      )
  told limit keys depth count (Unknown states deep Limit) same wins short covers within = absurd same
  told limit keys depth count (Unknown states deep Stopped) same wins short covers within = absurd same
  told limit keys depth count (Unknown states deep (Moves fault)) same wins short covers within = absurd same

-- what is said of a graph is said of one with the same steps and start
pub kept_as : {Place Input Key : Type 0} (inputs : List Input) (is_key : Key → Type 0) (place : Key → Place) (keys : List Key) (links : List (Link Input)) (at end depth : ℕ)
    (next other_next : Place → Input → Option Place) (start other_start : Place) → next ≡ other_next → start ≡ other_start
    → Kept next start inputs is_key place keys links at end depth → Kept other_next other_start inputs is_key place keys links at end depth
kept_as {Place} {Input} inputs is_key place keys links at end depth next other_next start other_start n s kept =
    subst (λ (o : Place). Kept other_next o inputs is_key place keys links at end depth) s
    (subst (λ (o : Place → Input → Option Place). Kept o start inputs is_key place keys links at end depth) n kept)

pub done_as : {Place Input Key : Type 0} (inputs : List Input) (is_key : Key → Type 0) (place : Key → Place) (keys : List Key) (links : List (Link Input)) (at end depth : ℕ)
    (next other_next : Place → Input → Option Place) (start other_start : Place) (found other : Option Input) → next ≡ other_next → start ≡ other_start → found ≡ other
    → IsDone next start inputs is_key place keys links at end depth found → IsDone other_next other_start inputs is_key place keys links at end depth other
done_as {Place} {Input} inputs is_key place keys links at end depth next other_next start other_start found other n s f done =
    subst (IsDone other_next other_start inputs is_key place keys links at end depth) f
    (subst (λ (o : Place). IsDone other_next o inputs is_key place keys links at end depth found) s
    (subst (λ (o : Place → Input → Option Place). IsDone o start inputs is_key place keys links at end depth found) n done))
