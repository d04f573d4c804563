-- What a run tells of a view, without its mark.
use Rattle.std.proofs.Common.{◌≡◌, ◌∙◌, ℕ, Bool, true, false, List, [], ◌∷◌, ◌++◌, refl, sym, ap, subst, append_assoc}
use Rattle.std.specs.Prelude.{Option, Some, None, Result, Ok, Err, OnOk}
use Rattle.ps_devices.specs.Answers.{answer_of, level_answer_of}
use Rattle.ps_devices.specs.Devices.{Grows}
use Rattle.ps_devices.specs.declared.players.LevelFault.{LevelFault}
use Rattle.ps_devices.specs.declared.players.RunFault.{RunFault}
use Rattle.ps_model.specs.declared.play.Ending.{Ending}
use Rattle.ps_model.specs.game.Tellings.{ReaderState, WriterState, Told, Tells}
use Rattle.ps_model.specs.game.Headline.{Answer, Ends, RunsRightly}
use Rattle.ps_model.specs.game.LevelRuns.{LevelAnswer, Plays, RunsRightlyFromLevel}
use Rattle.ps_view.specs.Beginnings.{Beginning, mark}
use Rattle.ps_view.specs.Pieces.{Piece, handed_on_pieces, output_of}
use Rattle.ps_view.specs.Takers.{taker_of}
use Rattle.ps_view.specs.Shown.{IsShown, IsShownInPart, are_unsized}
use Rattle.ps_view.specs.Views.{view_of}
use Rattle.ps_view.proofs.Marks.{mark_is_known}
use Rattle.ps_view.proofs.OneSize.{one_size_is_as_the_whole}
use Rattle.ps_view.proofs.PiecesTaken.{unsized_all}

-- what a view tells
abbrev pub marked : Beginning → List Piece → Bool → ℕ → ℕ → WriterState
marked begun pieces has_failed calls empty_calls = record {
  contents = Some (mark begun ++ output_of pieces);
  has_failed = has_failed;
  calls = calls;
  empty_calls = empty_calls;
  short_calls = 0;
}

-- the bytes of some that are told
told_bytes : Option (List ℕ) → List ℕ
told_bytes None = []
told_bytes (Some bytes) = bytes

-- what grows from the bytes of a view is those of one with the same beginning
pub same_beginning : (a b : Beginning) (p q : List Piece) (wrote : List ℕ) →
    Some (mark b ++ output_of q) ≡ Some ((mark a ++ output_of p) ++ wrote) → (b ≡ a) × (output_of q ≡ output_of p ++ wrote)
unfolding told_bytes
same_beginning a b p q wrote e =
    mark_is_known b a (output_of q) (output_of p ++ wrote) (ap told_bytes e ∙ append_assoc (mark a) (output_of p) wrote)

module _ (k l : ReaderState) (a b : Beginning) (p q : List Piece) (f g : Bool) (c d e h : ℕ) where
  pub begins_alike : (told : Told) → Tells k l (marked a p f c e) (marked b q g d h) told → b ≡ a
  begins_alike told t = (same_beginning a b p q told.wrote t.wrote).0

  pub retold : (told : Told) → f ≡ false → Tells k l (marked a p f c e) (marked b q g d h) told →
      Tells k l (taker_of p false c e) (taker_of q g d h) told
  retold told well t = record {
    reader_was_well = t.reader_was_well;
    reader_failed = t.reader_failed;
    read = t.read;
    left = t.left;
    last = t.last;
    calls = t.calls;
    empty_reads = t.empty_reads;
    same_room = t.same_room;
    writer_was_well = refl;
    writer_failed = t.writer_failed;
    wrote = ap Some (same_beginning a b p q told.wrote t.wrote).1;
    calls_of_writer = t.calls_of_writer;
    short_calls = t.short_calls;
    no_empty_write = t.no_empty_write;
    writes = t.writes;
    some_writes = t.some_writes;
  }

  pub right_unmarked : (text : List ℕ) (answer : Answer) → f ≡ false →
      RunsRightly text k l (marked a p f c e) (marked b q g d h) answer →
      RunsRightly text k l (taker_of p false c e) (taker_of q g d h) answer
  right_unmarked text answer well r = record { told = r.told; tells = retold r.told well r.tells; answers = r.answers }

  pub right_from_level_unmarked : (text : List ℕ) (level : ℕ) (answer : LevelAnswer) → f ≡ false →
      RunsRightlyFromLevel text level k l (marked a p f c e) (marked b q g d h) answer →
      RunsRightlyFromLevel text level k l (taker_of p false c e) (taker_of q g d h) answer
  right_from_level_unmarked text level answer well r =
      record { told = r.told; tells = retold r.told well r.tells; answers = r.answers }

-- a run that ended left its writer well
pub ends_well : (text : List ℕ) (k l : ReaderState) (before after : WriterState) (ending : Ending) →
    RunsRightly text k l before after (Ends ending) → after.has_failed ≡ false
ends_well text k l before after ending r = r.tells.writer_failed ∙ r.answers.2.writer_is_well

pub level_ends_well : (text : List ℕ) (level : ℕ) (k l : ReaderState) (before after : WriterState) (ending : Ending) →
    RunsRightlyFromLevel text level k l before after (Plays (Ends ending)) → after.has_failed ≡ false
level_ends_well text level k l before after ending r = r.tells.writer_failed ∙ r.answers.2.writer_is_well

-- what a run leaves of a view -----------------------------------------------------------------------------------------

pub ok_is_well : (text : List ℕ) (k l : ReaderState) (before after : WriterState) (answer : Result Ending RunFault) →
    RunsRightly text k l before after (answer_of answer) → OnOk answer (after.has_failed ≡ false)
ok_is_well text k l before after (Ok ending) r = ends_well text k l before after ending r
ok_is_well text k l before after (Err fault) r = tt

pub level_ok_is_well : (text : List ℕ) (level : ℕ) (k l : ReaderState) (before after : WriterState)
    (answer : Result Ending LevelFault) → RunsRightlyFromLevel text level k l before after (level_answer_of answer) →
    OnOk answer (after.has_failed ≡ false)
level_ok_is_well text level k l before after (Ok ending) r = level_ends_well text level k l before after ending r
level_ok_is_well text level k l before after (Err fault) r = tt

-- the same beginning has the same reference
pub same_name : (a b : Beginning) (m n : ℕ) → b ≡ a → m ≡ a.reference → n ≡ b.reference → n ≡ m
same_name a b m n same is then = then ∙ ap (λ (x : Beginning). x.reference) same ∙ sym is

-- what is shown, from the same beginning
pub shown_from : (a b : Beginning) (q : List Piece) (after : Option (List ℕ)) (failed : Bool) → b ≡ a →
    (failed ≡ false → IsShown b q after) → failed ≡ false → IsShown a q after
shown_from a b q after failed same shown well =
    let From : Beginning → Type 0 = λ x. IsShown x q after in subst From same (shown well)

pub in_part_from : (a b : Beginning) (q : List Piece) (after : Option (List ℕ)) → b ≡ a → IsShownInPart b q after →
    IsShownInPart a q after
in_part_from a b q after same is = let From : Beginning → Type 0 = λ x. IsShownInPart x q after in subst From same is

-- where no other size is told, it is the view of the whole output
whole_of : (a : Beginning) (q : List Piece) (after : Option (List ℕ)) → are_unsized q ≡ true → IsShown a q after →
    Grows a.before after (view_of a.game a.size (output_of q))
whole_of a q after none shown =
    let Grown : List ℕ → Type 0 = λ bytes. Grows a.before after bytes in
    subst Grown (one_size_is_as_the_whole a.game a.size q (unsized_all a.size q none)) shown

pub whole_from : (a b : Beginning) (q : List Piece) (after : Option (List ℕ)) (failed : Bool) → b ≡ a →
    (failed ≡ false → IsShown b q after) → (b.keeps_size ≡ true → are_unsized q ≡ true) → a.keeps_size ≡ true →
    failed ≡ false → Grows a.before after (view_of a.game a.size (output_of q))
whole_from a b q after failed same shown unsized keeps well =
    whole_of a q after (unsized (ap (λ (x : Beginning). x.keeps_size) same ∙ keeps))
    (shown_from a b q after failed same shown well)
