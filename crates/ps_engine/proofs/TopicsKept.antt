-- A set of topics that has all of another one has all that the other one has.
use Rattle.std.proofs.Common.{◌≡◌, ◌∙◌, ℕ, ◌+◌, ◌<◌, Bool, List, [], length, ap, get_or, subst, arith, inl, inr}
use Rattle.std.specs.Prelude.{All}
use Rattle.std.proofs.lemmas.Bool.{cases_eq}
use Rattle.std.proofs.lemmas.List.{get_or_default}
use Rattle.ps_model.specs.declared.compiled.LayeredObject.{LayeredObject}
use Rattle.ps_model.specs.declared.compiled.MotionTest.{MotionTest}
use Rattle.ps_program.specs.declared.cells.CellMask.{CellMask}
use Rattle.ps_program.specs.declared.cells.CompiledCell.{CompiledCell}
use Rattle.ps_program.specs.declared.rows.CompiledRow.{CompiledRow}
use Rattle.ps_program.specs.declared.rules.CompiledRule.{CompiledRule}
use Rattle.ps_program.specs.declared.program.CompiledSection.{CompiledSection}
use Rattle.ps_program.specs.declared.program.CompiledSection.TheVariants.{Group, Loop}
use Rattle.ps_match.specs.Topics.{HasTopicsOf, motion_topic, object_topic}
use Rattle.ps_engine.specs.TopicsAsked.{HasMask, HasMotion, HasObject, HasPart, HasParts, HasRows}
use Rattle.ps_engine.proofs.EnoughScratch.{AllBefore}
use Rattle.ps_match.proofs.TopicSets.{motion_low, object_low}
use Rattle.ps_engine.proofs.Stirred.{each_of}

-- what each element has been given, and the next one
pub before_more : {X : Type 0} (P Q : X → Type 0) (xs : List X) (n m : ℕ) → ((x : X) → P x → Q x) →
    AllBefore P xs n → m ≡ n + 1 → ((d : X) → n < length xs → Q (get_or xs n d)) → AllBefore Q xs m
before_more P Q xs n m so before next here = λ i d low inside. elim (cases_eq i n) [
  | inl e ↦ rw e (here d (omega (arith, inside, e)))
  | inr apart ↦ so (get_or xs i d) (before i d (omega (arith, low, next, apart)) inside)
]

-- what is so of the element that a loop has come to is so of that of its place
pub item_told : {X : Type 0} (Q : X → Type 0) (xs : List X) (n : ℕ) (item : X) → item ≡ get_or xs n item → Q item →
    (d : X) → n < length xs → Q (get_or xs n d)
item_told Q xs n item is told d low = subst Q (is ∙ get_or_default xs n item d low) told

-- a group is told by its rules
abbrev rules_of : CompiledSection → List CompiledRule
rules_of (Group rules) = rules
rules_of (Loop groups) = []

pub same_Group : (rules others : List CompiledRule) → Group rules ≡ Group others → rules ≡ others
same_Group rules others same = ap rules_of same

module _ (topics more : List Bool) (kept : HasTopicsOf topics more) where
  pub object_kept : (object : LayeredObject) → HasObject topics object → HasObject more object
  object_kept object has = kept (object_topic (object.object).0) (object_low (object.object).0) has

  pub motion_kept : (test : MotionTest) → HasMotion topics test → HasMotion more test
  motion_kept test has = kept (motion_topic (test.layer).0) (motion_low (test.layer).0) has

  pub list_kept : (objects : List LayeredObject) → All (HasObject topics) objects → All (HasObject more) objects
  list_kept objects has = each_of (HasObject topics) (HasObject more) objects object_kept has

  pub lists_kept : (lists : List (List LayeredObject)) → All (All (HasObject topics)) lists →
      All (All (HasObject more)) lists
  lists_kept lists has = each_of (All (HasObject topics)) (All (HasObject more)) lists list_kept has

  pub mask_kept : (mask : CellMask) → HasMask topics mask → HasMask more mask
  mask_kept mask has = (
    list_kept mask.needed has.0,
    list_kept mask.barred has.1,
    lists_kept mask.one_of has.2,
    each_of (HasMotion topics) (HasMotion more) mask.motions motion_kept has.3,
  )

  pub part_kept : (part : List CompiledCell) → HasPart topics part → HasPart more part
  part_kept part has = each_of (λ cell. HasMask topics cell.mask) (λ cell. HasMask more cell.mask) part
      (λ cell. mask_kept cell.mask) has

  pub parts_kept : (parts : List (List CompiledCell)) → HasParts topics parts → HasParts more parts
  parts_kept parts has = each_of (HasPart topics) (HasPart more) parts part_kept has

  pub rows_kept : (rows : List CompiledRow) → HasRows topics rows → HasRows more rows
  rows_kept rows has = each_of (λ row. HasParts topics row.parts) (λ row. HasParts more row.parts) rows
      (λ row. parts_kept row.parts) has
