-- A legend without lines that stand for themselves: what a name speaks of is what the names that it mentions speak of,
-- merged.
use Rattle.std.proofs.Common.{◌≡◌, ◌∙◌, ℕ, zero, suc, ◌+◌, ◌<◌, ◌≤◌, Bool, true, false, cond, List, [], ◌∷◌, ◌++◌, ◌||◌}
use Rattle.std.proofs.Common.{length, drop, get_or, refl, sym, ap, arith}
use Rattle.std.specs.Prelude.{nat_eq, nat_lt, slice_get, filter_map, sum_by}
use Rattle.std.specs.List.{list_any}
use Rattle.std.proofs.lemmas.Grind.{flat_map-append}
use Rattle.std.proofs.lemmas.List.{append-nil, length-append, length-map, get_or_past}
use Rattle.std.proofs.lemmas.List.Sums.{sum_by-cons}
use Rattle.std.proofs.lemmas.List.Elements.{filter_map-append}
use Rattle.std.proofs.lemmas.Bool.Decides.{nat_tests}
use Rattle.ps_model.specs.declared.pieces.ObjectId.{ObjectId}
use Rattle.ps_model.specs.names.Names.{is_among, same_object}
use Rattle.ps_model.specs.names.Meanings.{LegendName, Mention, OfObject, OfLine, same_mention, mentions_of}
use Rattle.ps_model.specs.names.Meanings.{mentions_of_name, with_mentioned, object_of, objects_of, mention_count}
use Rattle.ps_names.specs.Flattened.{merged, spoken, all_spoken, spoken_by, room_from, IsFlatAt, IsFlat}
use Rattle.ps_names.specs.declared.legend_names.LegendName as code
use Rattle.ps_names.specs.LegendNames.{legend_shown}
use Rattle.std.proofs.lemmas.Option.{slice_get_past}
use Rattle.std.proofs.Math.Bool.{or-false, or-true}
use Rattle.std.proofs.lemmas.Bool.{and_parts}
use Rattle.ps_names.specs.declared.mention.Mention.{Mention as Waits}
use Rattle.ps_names.specs.Known.{mention_shown, mentions_shown}
use Rattle.ps_names.proofs.common.Elements.{element-first}
use Rattle.ps_names.specs.Levels.{level, is_below, are_below}
use Rattle.ps_names.proofs.mentions.LevelLaws.{raise-each, mentions-at}
use Rattle.ps_names.proofs.mentions.ReachLaw.{list-old, list-new, any-more}
use Rattle.ps_names.proofs.mentions.MergedLaws.{merged-old, merged-new, Within, among-left, among-right, among-cases}
use Rattle.ps_names.proofs.mentions.MergedLaws.{among-one, among-self, merged-within, absorbed, merged-append}
use Rattle.ps_names.proofs.mentions.MergedLaws.{merged-twice}

abbrev has : ℕ → List Mention → Bool
has place listed = list_any (same_mention (OfLine place)) listed

-- the steps are enough ------------------------------------------------------------------------------------------------

sum-same : (h' h : Bool) (len rest' rest : ℕ) → h' ≡ h → rest' ≡ rest → cond h' 0 len + rest' ≡ cond h 0 len + rest
sum-same h' h len rest' rest e f = rw (e, f) refl

sum-new : (h' h : Bool) (len rest' rest : ℕ) → h' ≡ true → h ≡ false → rest' ≡ rest →
    cond h' 0 len + rest' + len ≡ cond h 0 len + rest
sum-new true false len rest' rest e f g = omega arith
sum-new false h len rest' rest e f g = cc
sum-new true true len rest' rest e f g = cc

sum-other : (h' h : Bool) (len rest' rest more : ℕ) → h' ≡ h → rest' + more ≡ rest →
    cond h' 0 len + rest' + more ≡ cond h 0 len + rest
sum-other h' true len rest' rest more e f = rw e (omega arith)
sum-other h' false len rest' rest more e f = rw e (omega arith)

other-line : (listed : List Mention) (place new : ℕ) → nat_eq place new ≡ false →
    has place (listed ++ OfLine new ∷ []) ≡ has place listed
other-line listed place new q = any-more (OfLine place) listed (OfLine new) false q ∙ or-false _

pub room-object : (listed : List Mention) (object : ObjectId) (place : ℕ) (names : List LegendName) →
    room_from (listed ++ OfObject object ∷ []) place names ≡ room_from listed place names
room-object listed object place [] = refl
room-object listed object place (name ∷ names) =
    sum-same _ _ (length name.mentions) _ _ (any-more (OfLine place) listed (OfObject object) false refl
    ∙ or-false _) (room-object listed object (suc place) names)

room-behind : (listed : List Mention) (new place : ℕ) (names : List LegendName) → new < place →
    room_from (listed ++ OfLine new ∷ []) place names ≡ room_from listed place names
room-behind listed new place [] less = refl
room-behind listed new place (name ∷ names) less =
    let q : nat_eq place new ≡ false = grind (arith, nat_tests) in
    sum-same _ _ (length name.mentions) _ _ (other-line listed place new q)
    (room-behind listed new (suc place) names (omega arith))

pub room-line : (listed : List Mention) (new place k : ℕ) (names : List LegendName) → new ≡ place + k →
    has new listed ≡ false
    → room_from (listed ++ OfLine new ∷ []) place names + length (mentions_of_name (slice_get names k)) ≡ room_from
    listed place names
room-line listed new place k [] e none = refl
room-line listed new place zero (name ∷ names) e none =
    let same : place ≡ new = omega arith in
    let q : nat_eq place new ≡ true = grind (arith, nat_tests) in
    let there : has place (listed ++ OfLine new ∷ []) ≡ true = any-more (OfLine place) listed (OfLine new) true q
    ∙ or-true _ in
    sum-new _ _ (length name.mentions) _ _ there (ap (λ p. has p listed) same
    ∙ none) (room-behind listed new (suc place) names (omega arith))
room-line listed new place (suc k) (name ∷ names) e none =
    let q : nat_eq place new ≡ false = grind (arith, nat_tests) in
    sum-other _ _ (length name.mentions) _ _ _ (other-line listed place new q)
    (room-line listed new (suc place) k names (omega arith) none)

-- the first mentions, as far as they are of lines below the limit -----------------------------------------------------

abbrev lower : List ℕ → ℕ → List Mention → List Mention
lower levels limit [] = []
lower levels limit (mention ∷ others) = cond (is_below levels limit mention) (mention ∷ lower levels limit others) []

lower-append : (levels : List ℕ) (limit : ℕ) (mentions others : List Mention) →
    are_below levels limit mentions ≡ true → lower levels limit (mentions ++ others) ≡ mentions ++ lower levels limit
    others
lower-append levels limit [] others e = refl
lower-append levels limit (mention ∷ mentions) others e =
    ap (λ b. cond b (mention ∷ lower levels limit (mentions ++ others)) [])
    (and_parts (is_below levels limit mention) (are_below levels limit mentions) e).0
    ∙ ap (λ ms. mention ∷ ms) (lower-append levels limit mentions others
    (and_parts (is_below levels limit mention) (are_below levels limit mentions) e).1)

not-self : (n : ℕ) → nat_lt n n ≡ false
not-self n = grind (arith, nat_tests)

abbrev objs : List Mention → List ObjectId
objs listed = filter_map object_of listed

objs-line : (listed : List Mention) (new : ℕ) → objs (listed ++ OfLine new ∷ []) ≡ objs listed
objs-line listed new = filter_map-append object_of listed (OfLine new ∷ []) ∙ append-nil (objs listed)

objs-object : (listed : List Mention) (object : ObjectId) →
    objs (listed ++ OfObject object ∷ []) ≡ objs listed ++ object ∷ []
objs-object listed object = filter_map-append object_of listed (OfObject object ∷ [])

object-there : (object : ObjectId) (listed : List Mention) →
    is_among (objs listed) object ≡ list_any (same_mention (OfObject object)) listed
object-there object [] = refl
object-there object (OfObject other ∷ listed) = ap (λ b. same_object object other || b) (object-there object listed)
object-there object (OfLine place ∷ listed) = object-there object listed

module _ (legend : List LegendName) (levels : List ℕ) (by_line : ℕ → List ObjectId)
    (strict : (place : ℕ) → are_below levels (level levels place) (mentions_of legend (OfLine place)) ≡ true)
    (is : (place : ℕ) → by_line place ≡ merged [] (all_spoken by_line (mentions_of legend (OfLine place)))) where
  spoken-append : (first second : List Mention) →
      all_spoken by_line (first ++ second) ≡ all_spoken by_line first ++ all_spoken by_line second
  spoken-append first second = flat_map-append (spoken by_line) first second

  -- what a line that is listed speaks of is listed, or about to be
  abbrev Closed : List Mention → List Mention → Type 0
  Closed listed waits = (place : ℕ) → has place listed ≡ true →
      Within (by_line place) (objs listed ++ all_spoken by_line (lower levels (level levels place) waits))

  after-object : (listed listed' others : List Mention) (object : ObjectId) →
      Closed listed (OfObject object ∷ others) → ((place : ℕ) → has place listed' ≡ has place listed)
      → Within (objs listed) (objs listed') → is_among (objs listed') object ≡ true → Closed listed' others
  after-object listed listed' others object closed same grow there place h x e =
      let rest : List ObjectId = all_spoken by_line (lower levels (level levels place) others) in
      among-cases (objs listed) (object ∷ rest) x (is_among (objs listed' ++ rest) x ≡ true)
      (closed place (sym (same place) ∙ h) x e)
      (λ a. among-left (objs listed') rest x (grow x a))
      (λ b. among-cases (object ∷ []) rest x (is_among (objs listed' ++ rest) x ≡ true) b
      (λ s. among-left (objs listed') rest x (among-one object x (objs listed') s there))
      (λ r. among-right (objs listed') rest x r))

  -- a line that is listed, and whose turn comes again, speaks of nothing new
  line-in : (listed others : List Mention) (line : ℕ) → Closed listed (OfLine line ∷ others) → has line listed ≡ true →
      Within (by_line line) (objs listed)
  line-in listed others line closed h x e =
      let none : lower levels (level levels line) (OfLine line ∷ others) ≡ [] =
      ap (λ b. cond b (OfLine line ∷ lower levels (level levels line) others) []) (not-self (level levels line)) in
      let all : objs listed ++ all_spoken by_line (lower levels (level levels line) (OfLine line ∷ others)) ≡ objs
      listed =
      ap (λ ms. objs listed ++ all_spoken by_line ms) none ∙ append-nil (objs listed) in
      ap (λ os. is_among os x) (sym all) ∙ closed line h x e

  after-old : (listed others : List Mention) (line : ℕ) → Closed listed (OfLine line ∷ others) →
      has line listed ≡ true → Closed listed others
  after-old listed others line closed there place h x e = by (is_below levels (level levels place) (OfLine line)) refl
    where
      rest : List ObjectId
      rest = all_spoken by_line (lower levels (level levels place) others)

      by : (b : Bool) → is_below levels (level levels place) (OfLine line) ≡ b → is_among (objs listed ++ rest) x ≡ true
      by true q =
          let now : is_among (objs listed ++ (by_line line ++ rest)) x ≡ true =
          ap (λ b. is_among (objs listed ++ all_spoken by_line
          (cond b (OfLine line ∷ lower levels (level levels place) others) [])) x) (sym q) ∙ closed place h x e in
          among-cases (objs listed) (by_line line ++ rest) x (is_among (objs listed ++ rest) x ≡ true) now (λ a.
          among-left (objs listed) rest x a)
          (λ b. among-cases (by_line line) rest x (is_among (objs listed ++ rest) x ≡ true) b
          (λ s. among-left (objs listed) rest x (line-in listed others line closed there x s)) (λ r.
          among-right (objs listed) rest x r))
      by false q =
          let now : is_among (objs listed ++ []) x ≡ true =
          ap (λ b. is_among (objs listed ++ all_spoken by_line
          (cond b (OfLine line ∷ lower levels (level levels place) others) [])) x) (sym q) ∙ closed place h x e in
          among-left (objs listed) rest x (ap (λ os. is_among os x) (sym (append-nil (objs listed))) ∙ now)

  own-within : (line : ℕ) → Within (by_line line) (all_spoken by_line (mentions_of legend (OfLine line)))
  own-within line x e = merged-within [] (all_spoken by_line (mentions_of legend (OfLine line))) x
      (ap (λ os. is_among os x) (sym (is line)) ∙ e)

  -- a new line is followed by what it mentions
  after-new : (listed others : List Mention) (line : ℕ) → Closed listed (OfLine line ∷ others) → has line listed ≡ false
      → Closed (listed ++ OfLine line ∷ []) (mentions_of legend (OfLine line) ++ others)
  after-new listed others line closed absent place h x e =
      by (nat_eq place line) (is_below levels (level levels place) (OfLine line)) refl refl
    where
      limit : ℕ
      limit = level levels place

      own : List Mention
      own = mentions_of legend (OfLine line)

      rest : List ObjectId
      rest = all_spoken by_line (lower levels limit others)

      -- the goal where all that the line mentions is below the limit
      wide : are_below levels limit own ≡ true → is_among (objs listed ++ (all_spoken by_line own ++ rest)) x ≡ true
          → is_among (objs (listed ++ OfLine line ∷ []) ++ all_spoken by_line (lower levels limit (own ++ others))) x ≡
          true
      wide below now =
          ap (λ os. is_among (os ++ all_spoken by_line (lower levels limit (own ++ others))) x) (objs-line listed line)
          ∙ ap (λ ms. is_among (objs listed ++ all_spoken by_line ms) x) (lower-append levels limit own others below)
          ∙ ap (λ os. is_among (objs listed ++ os) x) (spoken-append own (lower levels limit others)) ∙ now

      before : nat_eq place line ≡ false → has place listed ≡ true
      before q = sym (other-line listed place line q) ∙ h

      by : (same below : Bool) → nat_eq place line ≡ same → is_below levels limit (OfLine line) ≡ below
          → is_among (objs (listed ++ OfLine line ∷ []) ++ all_spoken by_line (lower levels limit (own ++ others))) x ≡
          true
      by true b q r =
          let s : line ≡ place = grind (arith, nat_tests) in
          wide (ap (λ p. are_below levels (level levels p) own) (sym s) ∙ strict line)
          (among-right (objs listed) (all_spoken by_line own ++ rest) x
          (among-left (all_spoken by_line own) rest x (own-within line x (ap (λ p. is_among (by_line p) x) s ∙ e))))
      by false true q r =
          let less : level levels line ≤ limit = grind (arith, nat_tests) in
          let now : is_among (objs listed ++ (by_line line ++ rest)) x ≡ true =
          ap (λ b. is_among (objs listed ++ all_spoken by_line (cond b (OfLine line ∷ lower levels limit others) []))
          x) (sym r) ∙ closed place (before q) x e in
          wide (raise-each levels (level levels line) limit less own (strict line))
          (among-cases (objs listed) (by_line line ++ rest) x
          (is_among (objs listed ++ (all_spoken by_line own ++ rest)) x ≡ true) now
          (λ a. among-left (objs listed) (all_spoken by_line own ++ rest) x a)
          (λ b. among-right (objs listed) (all_spoken by_line own ++ rest) x
          (among-cases (by_line line) rest x (is_among (all_spoken by_line own ++ rest) x ≡ true) b
          (λ s. among-left (all_spoken by_line own) rest x (own-within line x s)) (λ t.
          among-right (all_spoken by_line own) rest x t))))
      by false false q r =
          let now : is_among (objs listed ++ []) x ≡ true =
          ap (λ b. is_among (objs listed ++ all_spoken by_line (cond b (OfLine line ∷ lower levels limit others) []))
          x) (sym r) ∙ closed place (before q) x e in
          among-left (objs (listed ++ OfLine line ∷ [])) (all_spoken by_line (lower levels limit (own ++ others))) x
          (ap (λ os. is_among os x) (objs-line listed line) ∙ ap (λ os. is_among os x) (sym (append-nil (objs listed)))
          ∙ now)

  -- what is listed in steps enough, by what the mentions that wait speak of
  flat : (steps : ℕ) (listed waits : List Mention) → room_from listed 0 legend + length waits ≤ steps →
      Closed listed waits
      → objs (with_mentioned legend steps listed waits) ≡ merged (objs listed) (all_spoken by_line waits)
  flat steps listed [] enough closed = refl
  flat zero listed (mention ∷ others) enough closed = absurd (omega arith)
  flat (suc steps) listed (OfObject object ∷ others) enough closed =
      by (list_any (same_mention (OfObject object)) listed) refl (flat steps listed others (omega arith))
      (flat steps (listed ++ OfObject object ∷ []) others (rw (room-object listed object 0 legend) (omega arith)))
    where
      rest : List ObjectId
      rest = all_spoken by_line others

      by : (b : Bool) → list_any (same_mention (OfObject object)) listed ≡ b
          → (Closed listed others → objs (with_mentioned legend steps listed others) ≡ merged (objs listed) rest)
          → (Closed (listed ++ OfObject object ∷ []) others →
          objs (with_mentioned legend steps (listed ++ OfObject object ∷ []) others) ≡ merged
          (objs (listed ++ OfObject object ∷ [])) rest)
          → objs (with_mentioned legend (suc steps) listed (OfObject object ∷ others)) ≡ merged (objs listed)
          (object ∷ rest)
      by true q old new =
          let there : is_among (objs listed) object ≡ true = object-there object listed ∙ q in
          ap objs (list-old legend steps (OfObject object) others listed q)
          ∙ old (after-object listed listed others object closed (λ place. refl) (λ x e. e) there)
          ∙ sym (merged-old (objs listed) object rest there)
      by false q old new =
          let absent : is_among (objs listed) object ≡ false = object-there object listed ∙ q in
          let added : objs (listed ++ OfObject object ∷ []) ≡ objs listed ++ object ∷ [] = objs-object listed object in
          ap objs (list-new legend steps (OfObject object) others listed q)
          ∙ new (after-object listed (listed ++ OfObject object ∷ []) others object closed (λ place.
          any-more (OfLine place) listed (OfObject object) false refl ∙ or-false _)
          (λ x e. ap (λ os. is_among os x) added ∙ among-left (objs listed) (object ∷ []) x e)
          (ap (λ os. is_among os object) added ∙ among-right (objs listed) (object ∷ []) object (among-self object)))
          ∙ ap (λ os. merged os rest) added ∙ sym (merged-new (objs listed) object rest absent)
  flat (suc steps) listed (OfLine line ∷ others) enough closed =
      by (has line listed) refl (flat steps listed others (omega arith))
      (flat steps (listed ++ OfLine line ∷ []) (mentions_of legend (OfLine line) ++ others))
    where
      rest : List ObjectId
      rest = all_spoken by_line others

      own : List Mention
      own = mentions_of legend (OfLine line)

      known : List ObjectId
      known = objs listed

      by : (b : Bool) → has line listed ≡ b
          → (Closed listed others → objs (with_mentioned legend steps listed others) ≡ merged known rest)
          → (room_from (listed ++ OfLine line ∷ []) 0 legend + length (own ++ others) ≤ steps →
          Closed (listed ++ OfLine line ∷ []) (own ++ others)
          → objs (with_mentioned legend steps (listed ++ OfLine line ∷ []) (own ++ others)) ≡ merged
          (objs (listed ++ OfLine line ∷ [])) (all_spoken by_line (own ++ others)))
          → objs (with_mentioned legend (suc steps) listed (OfLine line ∷ others)) ≡ merged known (by_line line ++ rest)
      by true q old new =
          ap objs (list-old legend steps (OfLine line) others listed q)
          ∙ old (after-old listed others line closed q)
          ∙ sym (merged-append known (by_line line) rest
          ∙ ap (λ os. merged os rest) (absorbed known (by_line line) (line-in listed others line closed q)))
      by false q old new =
          let room : room_from (listed ++ OfLine line ∷ []) 0 legend + length own ≡ room_from listed 0 legend =
          room-line listed line 0 line legend (omega arith) q in
          let long : length (own ++ others) ≡ length own + length others = length-append own others in
          let own-merged : merged known (by_line line) ≡ merged known (all_spoken by_line own) =
          ap (merged known) (is line) ∙ merged-twice known [] (all_spoken by_line own) in
          ap objs (list-new legend steps (OfLine line) others listed q)
          ∙ new (omega arith) (after-new listed others line closed q)
          ∙ ap (λ os. merged os (all_spoken by_line (own ++ others))) (objs-line listed line)
          ∙ ap (merged known) (spoken-append own others)
          ∙ merged-append known (all_spoken by_line own) rest
          ∙ ap (λ os. merged os rest) (sym own-merged)
          ∙ sym (merged-append known (by_line line) rest)

room-all : (place : ℕ) (names : List LegendName) →
    room_from [] place names ≡ sum_by (λ name. length name.mentions) names
room-all place [] = refl
room-all place (name ∷ names) = ap (λ n. length name.mentions + n) (room-all (suc place) names)
    ∙ sym (sum_by-cons (λ name. length name.mentions) name names)

-- what a name speaks of, where each line mentions only lines of lower levels, and speaks of what those speak of that it
-- mentions
pub objects-merged : (legend : List LegendName) (levels : List ℕ) (by_line : ℕ → List ObjectId)
    → ((place : ℕ) → are_below levels (level levels place) (mentions_of legend (OfLine place)) ≡ true)
    → ((place : ℕ) → by_line place ≡ merged [] (all_spoken by_line (mentions_of legend (OfLine place))))
    → (name : LegendName) → objects_of legend name ≡ merged [] (all_spoken by_line name.mentions)
objects-merged legend levels by_line strict is name =
    let room : room_from [] 0 legend ≡ mention_count legend = room-all 0 legend in
    flat legend levels by_line strict is (length name.mentions + mention_count legend) [] name.mentions (omega arith)
    (λ place h x e. cc)

-- one mention more
pub merge-step : (lists : List (List ObjectId)) (mentions : List Waits) (k : ℕ) (mention other : Waits)
    (objects added : List ObjectId) → k < length mentions → mention ≡ get_or mentions k other
    → added ≡ merged objects (spoken (spoken_by lists) (mention_shown mention))
    → merged added (all_spoken (spoken_by lists) (mentions_shown (drop (k + 1) mentions))) ≡ merged objects
    (all_spoken (spoken_by lists) (mentions_shown (drop k mentions)))
merge-step lists mentions k mention other objects added less m e =
    let rest : List ObjectId = all_spoken (spoken_by lists) (mentions_shown (drop (k + 1) mentions)) in
    ap (λ os. merged os rest) e ∙ sym (merged-append objects (spoken (spoken_by lists) (mention_shown mention)) rest)
    ∙ ap (λ ms. merged objects (all_spoken (spoken_by lists) (mentions_shown ms)))
    (sym (element-first mentions k (k + 1) mention other less (omega arith) m))

-- after the last line
pub flat-past : (legend : List code.LegendName) (levels : List ℕ) (lists : List (List ObjectId)) (k : ℕ) →
    length legend ≤ k → length lists ≡ length legend
    → ((place : ℕ) → place < k → IsFlatAt levels lists place (mentions_of (legend_shown legend) (OfLine place))) →
    IsFlat (legend_shown legend) levels lists
flat-past legend levels lists k all same before place = by (nat_lt place k) refl
  where
    by : (b : Bool) → nat_lt place k ≡ b → IsFlatAt levels lists place
        (mentions_of (legend_shown legend) (OfLine place))
    by true q = before place (grind (arith, nat_tests))
    by false q =
        let past : length legend ≤ place = grind (arith, nat_tests) in
        let none : mentions_of (legend_shown legend) (OfLine place) ≡ [] =
        ap mentions_of_name (slice_get_past (legend_shown legend) place (rw length-map past)) in
        let empty : spoken_by lists place ≡ [] = get_or_past lists place [] (rw same past) in
        rw none (record { strict = refl; merges = empty })

-- where it was looked at
pub flat-here : (legend : List code.LegendName) (levels : List ℕ) (lists : List (List ObjectId)) (k : ℕ)
    (x d : code.LegendName) → k < length legend → x ≡ get_or legend k d
    → IsFlatAt levels lists k (mentions_shown x.mentions.items) →
    IsFlatAt levels lists k (mentions_of (legend_shown legend) (OfLine k))
flat-here legend levels lists k x d less e flat =
    let m : mentions_of (legend_shown legend) (OfLine k) ≡ mentions_shown x.mentions.items =
    mentions-at legend k x d less e in rw m flat

-- the objects of a name
pub objects-flat : (legend : List LegendName) (levels : List ℕ) (lists : List (List ObjectId)) →
    IsFlat legend levels lists → (name : LegendName)
    → objects_of legend name ≡ merged [] (all_spoken (spoken_by lists) name.mentions)
objects-flat legend levels lists flat name =
    objects-merged legend levels (spoken_by lists) (λ place.
    let f : IsFlatAt levels lists place (mentions_of legend (OfLine place)) = flat place in f.strict)
    (λ place. let f : IsFlatAt levels lists place (mentions_of legend (OfLine place)) = flat place in f.merges) name
