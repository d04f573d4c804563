use Rattle.std.proofs.Common.{◌∙◌, subst, sym}
use Rattle.ps_stage.specs.Locations.{IsOnBasis}
use Rattle.ps_stage.specs.Standings.{SessionParts, basis_of}
use Rattle.ps_session.proofs.HistoryBoards.{none_on_table}
use Rattle.ps_session.proofs.Starts.{started_session, started_text}
use Rattle.ps_stage.specs.Meanings.{same_late, same_plain}
use Rattle.ps_session.proofs.session.Session.start_at.Goals as goal

pub begin-requires : goal.begin-requires
begin-requires g c = record {
  empty = c.in_ok-stage.ensures.text;
  room = rw c.in_ok-stage.ensures.game c.requires.room;
}

pub invariant_of-result : goal.invariant_of-result
invariant_of-result g c = (
  subst (λ (game : SessionParts). IsOnBasis (basis_of g.B.Board.table_for game.names) c.in_ok-location.location)
      (sym c.in_ok-location.ensures.game) c.in_ok-location.ensures.basis,
  (
    none_on_table (g.B.Board.table_for c.begin.new.stage.game.names.layers)
        (g.H.History.boards c.in_ok-history.history) c.in_ok-history.ensures,
    tt,
  ),
)

pub returns : goal.returns
returns g c = record {
  game = c.in_ok-location.ensures.game ∙ c.in_ok-stage.ensures.game;
  session = started_session g.B.Board.table_for (g.R.Rules.meant c.args.rules.now.plain)
      (g.R.Rules.meant c.args.rules.now.late) c.in_ok-stage.stage.game c.args.game c.args.entry
      (g.H.History.boards c.in_ok-history.history) c.in_ok-location.location c.in_ok-stage.ensures.game
      c.in_ok-history.ensures c.in_ok-location.ensures.shown;
  written = started_text g.B.Board.table_for (g.R.Rules.meant c.args.rules.now.plain)
      (g.R.Rules.meant c.args.rules.now.late) c.in_ok-stage.stage.game c.args.game c.args.entry c.args.output.now
      c.begin.new.output c.in_ok-stage.ensures.game c.in_ok-location.ensures.written;
  kept = tt;
  plain = same_plain c.in_ok-location.ensures.meaning;
  late = same_late c.in_ok-location.ensures.meaning;
}
