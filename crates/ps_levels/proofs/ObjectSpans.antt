-- Spans of a list of objects, where objects are added.
use Rattle.std.proofs.Common.{◌≡◌, ◌+◌, ◌-◌, ◌<◌, ◌≤◌, inl, inr, List, [], ◌∷◌, ◌++◌, map, length, get_or, take, drop}
use Rattle.std.proofs.Common.{sym, ap, ◌∙◌, arith}
use Rattle.std.specs.Prelude.{All}
use Rattle.std.proofs.lemmas.Bool.{cases_lt}
use Rattle.std.proofs.lemmas.List.{length-append, length-drop, length-map, get_or-map, get_or_append_left, get_or_push}
use Rattle.std.proofs.lemmas.List.{map-append, drop-append-le, take-append-le, drop_at, take_all, same_lists}
use Rattle.ps_model.specs.declared.pieces.ObjectId.{ObjectId}
use Rattle.ps_levels.specs.declared.cells.ObjectSpan.{ObjectSpan}
use Rattle.ps_levels.specs.ObjectSpans.{IsWithin, objects_in}

abbrev no_span : ObjectSpan
no_span = record { start = 0; end = 0 }

-- the objects of a span stay
span-stays : (objects more : List ObjectId) (span : ObjectSpan) → IsWithin objects span →
    objects_in (objects ++ more) span ≡ objects_in objects span
span-stays objects more span within =
    let order : span.start ≤ span.end = within.order in
    let end : span.end ≤ length objects = within.end in
    let start : span.start ≤ length objects = omega arith in
    let enough : span.end - span.start ≤ length (drop span.start objects) = rw length-drop (omega arith) in
    ap (take (span.end - span.start)) (drop-append-le span.start objects more start)
    ∙ take-append-le (span.end - span.start) (drop span.start objects) more enough

spans-stay : (objects more : List ObjectId) (spans : List ObjectSpan) → All (IsWithin objects) spans →
    map (objects_in (objects ++ more)) spans ≡ map (objects_in objects) spans
spans-stay objects more spans within =
    same_lists _ _ (length-map spans (objects_in (objects ++ more)) ∙ sym (length-map spans (objects_in objects)))
    (λ k d below.
    let low : k < length spans = rw (← length-map spans (objects_in (objects ++ more))) below in
    get_or-map (objects_in (objects ++ more)) spans k no_span d low
    ∙ span-stays objects more (get_or spans k no_span) (within k no_span low)
    ∙ sym (get_or-map (objects_in objects) spans k no_span d low))

-- the span of what was added last
span-added : (objects more : List ObjectId) (span : ObjectSpan) → span.start ≡ length objects →
    span.end ≡ length (objects ++ more) → objects_in (objects ++ more) span ≡ more
span-added objects more span start end =
    let long : length (objects ++ more) ≡ length objects + length more = length-append objects more in
    let size : length more ≤ span.end - span.start = omega arith in
    ap (take (span.end - span.start)) (drop_at objects more span.start (sym start))
    ∙ take_all (span.end - span.start) more size

-- a span more
pub spans-more : (objects more added : List ObjectId) (spans longer : List ObjectSpan) (span : ObjectSpan) →
    All (IsWithin objects) spans → added ≡ objects ++ more → longer ≡ spans ++ span ∷ [] →
    span.start ≡ length objects → span.end ≡ length added →
    map (objects_in added) longer ≡ map (objects_in objects) spans ++ more ∷ []
spans-more objects more added spans longer span within a l start end =
    let last : span.end ≡ length (objects ++ more) = end ∙ ap length a in
    rw (a, l) (map-append (objects_in (objects ++ more)) spans (span ∷ [])
    ∙ ap (λ (cells : List (List ObjectId)). cells ++ objects_in (objects ++ more) span ∷ [])
    (spans-stay objects more spans within)
    ∙ ap (λ (cell : List ObjectId). map (objects_in objects) spans ++ cell ∷ [])
    (span-added objects more span start last))

-- and none reaches beyond the objects
pub within-longer : (objects added : List ObjectId) (spans : List ObjectSpan) → All (IsWithin objects) spans →
    length objects ≤ length added → All (IsWithin added) spans
within-longer objects added spans within long = λ k d below.
    let one : IsWithin objects (get_or spans k d) = within k d below in
    let end : (get_or spans k d).end ≤ length objects = one.end in
    record {
      order = one.order;
      end = omega arith;
    }

pub within-more : (added : List ObjectId) (spans longer : List ObjectSpan) (span : ObjectSpan) →
    All (IsWithin added) spans → longer ≡ spans ++ span ∷ [] → IsWithin added span → All (IsWithin added) longer
within-more added spans longer span within l last =
    rw l (λ k d below.
    let total : length (spans ++ span ∷ []) ≡ length spans + 1 = length-append spans (span ∷ []) in
    elim (cases_lt k (length spans)) [
      | inl old ↦ rw (get_or_append_left spans (span ∷ []) d k old) (within k d old)
      | inr new ↦ rw (get_or_push spans span d k (omega arith)) last
    ])
