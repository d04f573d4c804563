-- What a view has taken and handed on, after one more piece.
use Rattle.std.proofs.Common.{◌≡◌, ◌∙◌, Bool, false, List, refl, sym, ap, rules}
use Rattle.std.specs.Prelude.{is_err}
use Rattle.ps_view.specs.Beginnings.{Beginning}
use Rattle.ps_view.proofs.PiecesTaken.{front_shown, has_failed, not_failed, on_no_error, piece_behind, piece_shown}
use Rattle.ps_view.proofs.PiecesTaken.{shown_in_part, still_well, unsized_then, writer_well}
use Rattle.ps_view.proofs.viewed.Viewed.take.Goals as goal

-- where the writer below fails
pub invariant_of-self-in-Break-branch-2 : goal.invariant_of-self-in-Break-branch-2
invariant_of-self-in-Break-branch-2 g c =
    let well = still_well _ _ _ _ _ _
    (ap (λ (w : g.row.W.Denot). (g.W.ByteWriter.state w).has_failed) c.in_ok-count_call.ensures.writer)
    c.in_ok-count_call.ensures.memory c.in_ok-count_call.ensures.well c.requires.well in
    let done : is_err c.orders_for.result ≡ false = search rules in
    record {
      empty = c.count_call.new.self.empty;
      same = c.count_call.new.self.same;
      silent = c.size_now-told.ensures.stays ∙ c.count_call.new.self.silent;
      one_size = c.count_call.new.self.one_size;
      goes_on = λ e. not_failed _ _ c.in_err-write_whole.ensures.told e;
      shown = λ e. has_failed _ c.in_err-write_whole.ensures.told e;
      in_part =
          front_shown c.count_call.new.self.past.begun c.count_call.new.self.past.pieces
          (g.W.ByteWriter.state c.count_call.new.self.writer.now).contents _ c.count_call.new.self.view
          c.size_now-told.result c.args.bytes.now c.bytes.result.now c.in_err-write_whole.ensures.front.0
          (c.count_call.new.self.goes_on well) (c.count_call.new.self.shown (writer_well _ _ well))
          (c.bytes.ensures ∙ on_no_error c.orders_for.result done c.orders_for.ensures.orders)
          c.in_err-write_whole.ensures.front.2;
    }

-- where it takes all
pub invariant_of-self-2-clause-same : goal.invariant_of-self-2-clause-same
invariant_of-self-2-clause-same g c =
    c.count_call.new.self.same ∙ sym (ap (λ (b : Beginning). b.reference) c.note.ensures.0)

pub invariant_of-self-2-clause-silent : goal.invariant_of-self-2-clause-silent
invariant_of-self-2-clause-silent g c = c.size_now-told.ensures.stays ∙ c.count_call.new.self.silent
    ∙ sym (ap (λ (b : Beginning). b.keeps_size) c.note.ensures.0)

pub invariant_of-self-2-clause-one_size : goal.invariant_of-self-2-clause-one_size
invariant_of-self-2-clause-one_size g c = λ keeps.
    let kept = sym (ap (λ (b : Beginning). b.keeps_size) c.note.ensures.0) ∙ keeps in
    unsized_then _ _ c.size_now-told.result c.args.bytes.now c.note.ensures.1 (c.count_call.new.self.one_size kept)
    (c.size_now-told.ensures.silent (c.count_call.new.self.silent ∙ kept))

pub invariant_of-self-2-clause-goes_on : goal.invariant_of-self-2-clause-goes_on
invariant_of-self-2-clause-goes_on g c = λ _.
    let well = still_well _ _ _ _ _ _
    (ap (λ (w : g.row.W.Denot). (g.W.ByteWriter.state w).has_failed) c.in_ok-count_call.ensures.writer)
    c.in_ok-count_call.ensures.memory c.in_ok-count_call.ensures.well c.requires.well in
    let done : is_err c.orders_for.result ≡ false = search rules in
    piece_behind c.count_call.new.self.past.begun c.note.new.self.begun c.count_call.new.self.past.pieces
    c.note.new.self.pieces c.count_call.new.self.view c.orders_for.new.view c.size_now-told.result c.args.bytes.now
    (c.count_call.new.self.goes_on well) (on_no_error c.orders_for.result done c.orders_for.ensures.view)
    c.note.ensures.0 c.note.ensures.1

pub invariant_of-self-2-clause-shown : goal.invariant_of-self-2-clause-shown
invariant_of-self-2-clause-shown g c = λ _.
    let well = still_well _ _ _ _ _ _
    (ap (λ (w : g.row.W.Denot). (g.W.ByteWriter.state w).has_failed) c.in_ok-count_call.ensures.writer)
    c.in_ok-count_call.ensures.memory c.in_ok-count_call.ensures.well c.requires.well in
    let done : is_err c.orders_for.result ≡ false = search rules in
    piece_shown c.count_call.new.self.past.begun c.note.new.self.begun c.count_call.new.self.past.pieces
    c.note.new.self.pieces (g.W.ByteWriter.state c.count_call.new.self.writer.now).contents _
    c.count_call.new.self.view c.size_now-told.result c.args.bytes.now c.bytes.result.now
    (c.count_call.new.self.goes_on well) (c.count_call.new.self.shown (writer_well _ _ well))
    (c.bytes.ensures ∙ on_no_error c.orders_for.result done c.orders_for.ensures.orders)
    c.in_ok-write_whole.ensures.taken c.note.ensures.0 c.note.ensures.1

pub invariant_of-self-2-clause-in_part : goal.invariant_of-self-2-clause-in_part
invariant_of-self-2-clause-in_part g c =
    let well = still_well _ _ _ _ _ _
    (ap (λ (w : g.row.W.Denot). (g.W.ByteWriter.state w).has_failed) c.in_ok-count_call.ensures.writer)
    c.in_ok-count_call.ensures.memory c.in_ok-count_call.ensures.well c.requires.well in
    let done : is_err c.orders_for.result ≡ false = search rules in
    shown_in_part _ _ _
    (piece_shown c.count_call.new.self.past.begun c.note.new.self.begun c.count_call.new.self.past.pieces
    c.note.new.self.pieces (g.W.ByteWriter.state c.count_call.new.self.writer.now).contents _
    c.count_call.new.self.view c.size_now-told.result c.args.bytes.now c.bytes.result.now
    (c.count_call.new.self.goes_on well) (c.count_call.new.self.shown (writer_well _ _ well))
    (c.bytes.ensures ∙ on_no_error c.orders_for.result done c.orders_for.ensures.orders)
    c.in_ok-write_whole.ensures.taken c.note.ensures.0 c.note.ensures.1)
