-- Sets of topics.
use Rattle.std.proofs.Common.{◌≡◌, ◌∙◌, ℕ, ◌<◌, Bool, true, false, List, refl, arith}
use Rattle.std.specs.Prelude.{if◌then◌else◌, nat_eq}
use Rattle.std.proofs.lemmas.Nat.{mod_below}
use Rattle.std.proofs.lemmas.Bool.Decides.{nat_tests}
use Rattle.ps_model.specs.declared.limits.TheConstants.{SIDE_LIMIT}
use Rattle.ps_model.specs.board.Grid.{Grid}
use Rattle.ps_board.specs.ColumnSets.{column_at, columns_below, with_column}
use Rattle.ps_board.proofs.AllRows.{none_outside}
use Rattle.ps_board.proofs.ColumnLaws.{column_at-where}
use Rattle.ps_match.specs.Topics.{DifferOnlyAbout, HasTopicsOf, motion_topic, object_topic}

-- each topic is one of those that there are
pub object_low : (object : ℕ) → object_topic object < SIDE_LIMIT
object_low object = omega (arith, mod_below object 192 (omega arith))

pub motion_low : (layer : ℕ) → motion_topic layer < SIDE_LIMIT
motion_low layer = omega (arith, mod_below layer 64 (omega arith))

-- a topic by which of two numbers are one
added_by : (topics : List Bool) (topic each : ℕ) (same : Bool) → nat_eq each topic ≡ same →
    column_at topics each ≡ true → (if nat_eq each topic then true else column_at topics each) ≡ true
added_by topics topic each true e on = rw e refl
added_by topics topic each false e on = rw e on

-- a set with one topic more has those of before, and that one
pub topic_kept : (topics : List Bool) (topic : ℕ) → HasTopicsOf topics (with_column topics topic true)
topic_kept topics topic each low on =
    column_at-where (λ x. if nat_eq x topic then true else column_at topics x) each low
    ∙ added_by topics topic each (nat_eq each topic) refl on

pub topic_added : (topics : List Bool) (topic : ℕ) → topic < SIDE_LIMIT →
    column_at (with_column topics topic true) topic ≡ true
topic_added topics topic low =
    column_at-where (λ x. if nat_eq x topic then true else column_at topics x) topic low
    ∙ own (nat_eq topic topic) refl
  where
    own : (same : Bool) → nat_eq topic topic ≡ same →
        (if nat_eq topic topic then true else column_at topics topic) ≡ true
    own true e = rw e refl
    own false e = absurd (grind (arith, nat_tests))

-- two grids may differ about all topics
pub all_differ : (g h : Grid) (topics : List Bool) → topics ≡ columns_below SIDE_LIMIT → DifferOnlyAbout topics g h
all_differ g h topics all = record {
  objects = λ object none. absurd (none_outside SIDE_LIMIT topics (omega arith) all (object_topic (object.object).0)
      (object_low (object.object).0) none);
  motions = λ test none. absurd (none_outside SIDE_LIMIT topics (omega arith) all (motion_topic (test.layer).0)
      (motion_low (test.layer).0) none);
}
