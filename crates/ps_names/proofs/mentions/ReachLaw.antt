-- What the code reaches is what the definitions list: the objects in their order, and the same legend lines.
use Rattle.std.proofs.Common.{◌≡◌, ◌≢◌, ℕ, zero, suc, ◌+◌, ◌<◌, ◌≤◌, Bool, true, false, List, [], ◌∷◌, ◌++◌, ◌||◌}
use Rattle.std.proofs.Common.{length, get_or, replicate, refl, sym, ap, ◌∙◌, arith}
use Rattle.std.specs.Prelude.{nat_eq, nat_lt, slice_set, filter_map}
use Rattle.std.specs.List.{list_any}
use Rattle.std.proofs.Math.Seq.{set_out}
use Rattle.std.proofs.lemmas.List.{get_or-set_same, get_or-set_other, length-set, length-replicate, get_or-replicate}
use Rattle.std.proofs.lemmas.List.{get_or_past, append-nil}
use Rattle.std.proofs.lemmas.List.Elements.{filter_map-append}
use Rattle.std.proofs.lemmas.List.Folds.{list_any-append}
use Rattle.std.proofs.lemmas.Option.{slice_get_past}
use Rattle.std.proofs.lemmas.Bool.Decides.{nat_tests}
use Rattle.ps_model.specs.declared.pieces.ObjectId.{ObjectId}
use Rattle.ps_model.specs.names.Names.{is_among, same_object}
use Rattle.ps_model.specs.names.Meanings.{LegendName, Mention, OfObject, OfLine, same_mention, mentions_of}
use Rattle.ps_model.specs.names.Meanings.{mentions_of_name, with_mentioned, object_of, all_mentioned, mention_count}
use Rattle.std.proofs.lemmas.List.{length-map}
use Rattle.std.proofs.Math.Bool.{or-false, or-true}
use Rattle.ps_names.specs.declared.legend_names.LegendName as code
use Rattle.ps_names.specs.declared.mention.Mention.{Mention as Waits}
use Rattle.ps_names.specs.Known.{mentions_shown}
use Rattle.ps_names.specs.LegendNames.{Reached, is_reached, with_reached, reached_from, legend_shown}

-- what was reached of a legend of `lines` lines is what is listed
record Tells (lines : ℕ) (listed : List Mention) (reached : Reached) : Type 0 where
  objects : reached.objects ≡ filter_map object_of listed
  long : length reached.lines ≡ lines
  marks : (place : ℕ) → place < lines → get_or reached.lines place false ≡ list_any (same_mention (OfLine place)) listed

pub any-more : (m : Mention) (listed : List Mention) (new : Mention) (same : Bool) → same_mention m new ≡ same →
    list_any (same_mention m) (listed ++ new ∷ []) ≡ (list_any (same_mention m) listed || same)
any-more m listed new same e = list_any-append (same_mention m) listed (new ∷ [])
    ∙ ap (λ b. list_any (same_mention m) listed || b) (ap (λ b. b || false) e ∙ or-false same)

object-listed : (object : ObjectId) (listed : List Mention) →
    is_among (filter_map object_of listed) object ≡ list_any (same_mention (OfObject object)) listed
object-listed object [] = refl
object-listed object (OfObject other ∷ listed) = ap (λ b. same_object object other || b) (object-listed object listed)
object-listed object (OfLine place ∷ listed) = object-listed object listed

-- an object more
with-object : (lines : ℕ) (listed : List Mention) (reached : Reached) (object : ObjectId) → Tells lines listed reached
    → Tells lines (listed ++ OfObject object ∷ []) (with_reached reached (OfObject object))
with-object lines listed reached object t =
    record {
      objects = rw (t.objects, filter_map-append) refl;
      long = t.long;
      marks = λ place less. t.marks place less
          ∙ sym (any-more (OfLine place) listed (OfObject object) false refl ∙ or-false _);
    }

marked-at : (lines : ℕ) (listed : List Mention) (reached : Reached) (new place : ℕ) (same : Bool) →
    nat_eq place new ≡ same → Tells lines listed reached → new < lines → place < lines
    → get_or (slice_set reached.lines new true) place false ≡ list_any (same_mention (OfLine place))
    (listed ++ OfLine new ∷ [])
marked-at lines listed reached new place true q t within less =
    let e : place ≡ new = grind (arith, nat_tests) in
    let long : new < length reached.lines = rw (t.long) within in
    ap (λ p. get_or (slice_set reached.lines new true) p false) e ∙ get_or-set_same reached.lines new true false long
    ∙ sym (any-more (OfLine place) listed (OfLine new) true q ∙ or-true _)
marked-at lines listed reached new place false q t within less =
    let n : place ≢ new = grind (arith, nat_tests) in
    get_or-set_other reached.lines new place true false n ∙ t.marks place less
    ∙ sym (any-more (OfLine place) listed (OfLine new) false q ∙ or-false _)

-- a line more
with-line : (lines : ℕ) (listed : List Mention) (reached : Reached) (new : ℕ) → Tells lines listed reached → new < lines
    → Tells lines (listed ++ OfLine new ∷ []) (with_reached reached (OfLine new))
with-line lines listed reached new t within =
    record {
      objects = t.objects ∙ sym (filter_map-append object_of listed (OfLine new ∷ [])
          ∙ append-nil (filter_map object_of listed));
      long = length-set reached.lines new true ∙ t.long;
      marks = λ place less. marked-at lines listed reached new place _ refl t within less;
    }

-- a place that no line has changes nothing
with-none : (lines : ℕ) (listed : List Mention) (reached : Reached) (new : ℕ) → Tells lines listed reached →
    lines ≤ new → with_reached reached (OfLine new) ≡ reached
with-none lines listed reached new t past = ap (λ (marks : List Bool). let r : Reached =
    record { objects = reached.objects; lines = marks } in r) (set_out reached.lines new true (rw (t.long) past))

other-place : (lines new place : ℕ) (same : Bool) → nat_eq place new ≡ same → place < lines → lines ≤ new → same ≡ false
other-place lines new place true q less past = let e : place ≡ new = grind (arith, nat_tests) in absurd (omega arith)
other-place lines new place false q less past = refl

listed-none : (lines : ℕ) (listed : List Mention) (reached : Reached) (new : ℕ) → Tells lines listed reached →
    lines ≤ new → Tells lines (listed ++ OfLine new ∷ []) reached
listed-none lines listed reached new t past =
    record {
      objects = t.objects ∙ sym (filter_map-append object_of listed (OfLine new ∷ [])
          ∙ append-nil (filter_map object_of listed));
      long = t.long;
      marks = λ place less. t.marks place less
          ∙ sym (any-more (OfLine place) listed (OfLine new) false (other-place lines new place _ refl less past)
          ∙ or-false _);
    }

module _ (legend : List LegendName) (steps : ℕ) (mention : Mention) (others : List Mention) where
  pub list-old : (listed : List Mention) → list_any (same_mention mention) listed ≡ true →
      with_mentioned legend (suc steps) listed (mention ∷ others) ≡ with_mentioned legend steps listed others
  list-old listed e = rw (with_mentioned, e) refl

  pub list-new : (listed : List Mention) → list_any (same_mention mention) listed ≡ false
      → with_mentioned legend (suc steps) listed (mention ∷ others) ≡ with_mentioned legend steps
      (listed ++ mention ∷ []) (mentions_of legend mention ++ others)
  list-new listed e = rw (with_mentioned, e) refl

  reach-old : (reached : Reached) → is_reached reached mention ≡ true →
      reached_from legend (suc steps) reached (mention ∷ others) ≡ reached_from legend steps reached others
  reach-old reached e = rw (reached_from, e) refl

  reach-new : (reached : Reached) → is_reached reached mention ≡ false
      → reached_from legend (suc steps) reached (mention ∷ others) ≡ reached_from legend steps
      (with_reached reached mention) (mentions_of legend mention ++ others)
  reach-new reached e = rw (reached_from, e) refl

-- what is listed and reached in `steps` steps, from any start
abbrev Goes : List LegendName → ℕ → ℕ → Type 0
Goes legend lines steps =
    (listed : List Mention) (reached : Reached) (waits : List Mention) → Tells lines listed reached →
    Tells lines (with_mentioned legend steps listed waits) (reached_from legend steps reached waits)

same-tells : (lines : ℕ) (listed listed' : List Mention) (reached reached' : Reached) → listed ≡ listed' →
    reached ≡ reached' → Tells lines listed' reached' → Tells lines listed reached
same-tells lines listed listed' reached reached' e f t = rw (e, f) t

module _ (legend : List LegendName) (lines steps : ℕ) (long : length legend ≡ lines) (goes : Goes legend lines steps)
    (listed : List Mention) (reached : Reached) (others : List Mention) (t : Tells lines listed reached) where
  -- the next mention is reached where it is listed
  both : (mention : Mention) (b : Bool) → list_any (same_mention mention) listed ≡ b → is_reached reached mention ≡ b →
      Tells lines (listed ++ mention ∷ []) (with_reached reached mention)
      → Tells lines (with_mentioned legend (suc steps) listed (mention ∷ others))
      (reached_from legend (suc steps) reached (mention ∷ others))
  both mention true e f more =
      same-tells lines _ _ _ _ (list-old legend steps mention others listed e)
      (reach-old legend steps mention others reached f) (goes listed reached others t)
  both mention false e f more =
      same-tells lines _ _ _ _ (list-new legend steps mention others listed e)
      (reach-new legend steps mention others reached f)
      (goes (listed ++ mention ∷ []) (with_reached reached mention) (mentions_of legend mention ++ others) more)

  nowhere : (new : ℕ) → lines ≤ new → is_reached reached (OfLine new) ≡ false
  nowhere new past = get_or_past reached.lines new false (rw (t.long) past)

  nothing : (new : ℕ) → lines ≤ new → mentions_of legend (OfLine new) ≡ []
  nothing new past = ap mentions_of_name (slice_get_past legend new (rw long past))

  reach-none : (new : ℕ) → lines ≤ new → reached_from legend (suc steps) reached (OfLine new ∷ others) ≡ reached_from
      legend steps reached others
  reach-none new past =
      reach-new legend steps (OfLine new) others reached (nowhere new past)
      ∙ ap (λ r. reached_from legend steps r (mentions_of legend (OfLine new) ++ others))
      (with-none lines listed reached new t past)
      ∙ ap (λ ms. reached_from legend steps reached (ms ++ others)) (nothing new past)

  none : (new : ℕ) (b : Bool) → list_any (same_mention (OfLine new)) listed ≡ b → lines ≤ new
      → Tells lines (with_mentioned legend (suc steps) listed (OfLine new ∷ others))
      (reached_from legend (suc steps) reached (OfLine new ∷ others))
  none new true e past =
      same-tells lines _ _ _ _ (list-old legend steps (OfLine new) others listed e) (reach-none new past)
      (goes listed reached others t)
  none new false e past =
      same-tells lines _ _ _ _ (list-new legend steps (OfLine new) others listed e
      ∙ ap (λ ms. with_mentioned legend steps (listed ++ OfLine new ∷ []) (ms ++ others)) (nothing new past))
      (reach-none new past)
      (goes (listed ++ OfLine new ∷ []) reached others (listed-none lines listed reached new t past))

  line : (new : ℕ) (b : Bool) → nat_lt new lines ≡ b
      → Tells lines (with_mentioned legend (suc steps) listed (OfLine new ∷ others))
      (reached_from legend (suc steps) reached (OfLine new ∷ others))
  line new true q =
      let within : new < lines = grind (arith, nat_tests) in
      both (OfLine new) _ refl (t.marks new within) (with-line lines listed reached new t within)
  line new false q = none new _ refl (grind (arith, nat_tests))

goes-on : (legend : List LegendName) (lines : ℕ) → length legend ≡ lines → (steps : ℕ) → Goes legend lines steps
goes-on legend lines long steps listed reached [] t = t
goes-on legend lines long zero listed reached (mention ∷ others) t = t
goes-on legend lines long (suc steps) listed reached (OfObject object ∷ others) t =
    both legend lines steps long (goes-on legend lines long steps) listed reached others t (OfObject object) _ refl
    (ap (λ (objects : List ObjectId). is_among objects object) t.objects
    ∙ object-listed object listed) (with-object lines listed reached object t)
goes-on legend lines long (suc steps) listed reached (OfLine new ∷ others) t =
    line legend lines steps long (goes-on legend lines long steps) listed reached others t new _ refl

-- nothing is listed, and nothing reached
at-start : (lines : ℕ) → Tells lines [] (record { objects = []; lines = replicate lines false })
at-start lines = record {
  objects = refl;
  long = length-replicate lines false;
  marks = λ place less.
      get_or-replicate lines place false false less;
}

abbrev pub all_reached : List LegendName → List Mention → Reached
all_reached legend mentions = reached_from legend (length mentions + mention_count legend)
    (record { objects = []; lines = replicate (length legend) false }) mentions

all-tell : (legend : List LegendName) (mentions : List Mention) →
    Tells (length legend) (all_mentioned legend mentions) (all_reached legend mentions)
all-tell legend mentions = goes-on legend (length legend) refl (length mentions + mention_count legend) []
    (record { objects = []; lines = replicate (length legend) false }) mentions (at-start (length legend))

-- the objects that are reached
pub objects-reached : (legend : List LegendName) (mentions : List Mention) →
    (all_reached legend mentions).objects ≡ filter_map object_of (all_mentioned legend mentions)
objects-reached legend mentions = let t = all-tell legend mentions in t.objects

-- the lines that are reached
pub line-reached : (legend : List LegendName) (mentions : List Mention) (place : ℕ) → place < length legend
    → get_or (all_reached legend mentions).lines place false ≡ list_any (same_mention (OfLine place))
    (all_mentioned legend mentions)
line-reached legend mentions place less = let t = all-tell legend mentions in t.marks place less

-- what the code reaches
pub reached-shown : (legend : List code.LegendName) (mentions : List Waits)
    → reached_from (legend_shown legend) (length mentions + mention_count (legend_shown legend))
    (record { objects = []; lines = replicate (length legend) false }) (mentions_shown mentions)
    ≡ all_reached (legend_shown legend) (mentions_shown mentions)
reached-shown legend mentions = rw (length-map, length-map) refl
