use Rattle.std.proofs.Common.{◌≡◌, Some, Ok, ap, rules, subst, sym}
use Rattle.std.specs.Prelude.{IfSome}
use Rattle.ps_model.specs.session.Solving.{spot}
use Rattle.ps_stage.specs.Standings.{turn_parts}
use Rattle.ps_trial.specs.Desks.{Basis}
use Rattle.ps_trial.specs.Scripts.{PlaysAs}
use Rattle.ps_solve.specs.Searches.{SearchValue, played_by, script_of, start_of}
use Rattle.ps_solve.specs.SolvedLevels.{entry_in}
use Rattle.ps_solve.proofs.FromSessions.{own_layers, plays_parts}
use Rattle.ps_solve.proofs.widths.solve_with.Goals as goal

pub returns-in_default : goal.returns-in_default
returns-in_default g c = λ script plays. c.without_memory.ensures script c.args.limit

pub search_from-requires : goal.search_from-requires
search_from-requires g c = (search rules, c.requires)

pub solve-requires : goal.solve-requires
solve-requires g c = search rules

pub drop-search-requires : goal.drop-search-requires
drop-search-requires g c = search rules

pub returns-in-Ok-Some : goal.returns-in-Ok-Some
returns-in-Ok-Some g c = λ script plays.
    let session = c.args.session.now.session in
    let game = c.args.session.now.game in
    let search : SearchValue = c.in-Ok-Some.search in
    let basis : Basis = record { table = own_layers game.names.layers; parts = turn_parts game } in
    let at : spot (entry_in session) session ≡ Some (start_of search) =
    subst (λ o. IfSome o (λ (s : SearchValue). spot (entry_in session) session ≡ Some (start_of s)))
    c.in-Ok-Some.field-0-is c.in-Ok-Some.ensures.start in
    let same : played_by search ≡ script_of basis c.in-Ok.rules.plain c.in-Ok.rules.late =
    subst (λ o. IfSome o (λ (s : SearchValue). played_by s ≡ script_of basis c.in-Ok.rules.plain c.in-Ok.rules.late))
    c.in-Ok-Some.field-0-is c.in-Ok-Some.ensures.script in (
      (start_of search, at),
      c.solve.ensures.solved script (entry_in session) session
          (subst (λ (s : SearchValue). PlaysAs script (played_by s)) (sym c.new-search.ensures)
          (plays_parts script (played_by search) own_layers game c.args.sections.plain.now c.args.sections.late.now
          c.in-Ok.rules.plain c.in-Ok.rules.late c.in-Ok.ensures.plain c.in-Ok.ensures.late same plays))
          (subst (λ (s : SearchValue). spot (entry_in session) session ≡ Some (start_of s)) (sym c.new-search.ensures)
          at),
    )

pub returns-in-Ok-None : goal.returns-in-Ok-None
returns-in-Ok-None g c = λ script plays. c.in-Ok-None.ensures.nowhere (ap (λ o. Ok o) c.in-Ok-None.field-0-is)

pub returns-in-Err : goal.returns-in-Err
returns-in-Err g c = λ script plays.
    let session = c.args.session.now.session in
    let there = c.in-Err.ensures.there in
    (there, c.not_begun.ensures script (entry_in session) session c.args.limit there)
