-- Where a search stands, as it goes from spot to spot.
use Rattle.std.proofs.Common.{◌≡◌, ◌∙◌, ℕ, List, Option, Some, None, refl, sym, ap, subst, Result, Ok, Err}
use Rattle.std.specs.Prelude.{IfOk, OnOk}
use Rattle.ps_search.specs.Steps.{IsStep}
use Rattle.ps_search.specs.declared.moves.Step.{Step}
use Rattle.ps_board.specs.Histories.{BoardShown}
use Rattle.ps_model.specs.board.Grid.{Grid}
use Rattle.ps_model.specs.declared.play.Input.{Input}
use Rattle.ps_model.specs.board.Turns.{Script}
use Rattle.ps_model.specs.session.Solving.{Spot, next_spot}
use Rattle.ps_rows.specs.Packings.{Packed, packed_grid}
use Rattle.ps_trial.specs.Desks.{Basis, TrialValue}
use Rattle.ps_trial.specs.SilentStarts.{Boards}
use Rattle.ps_trial.specs.declared.told.Pending.{Pending}
use Rattle.ps_turn.specs.States.{HaveSameSides}
use Rattle.ps_turn.specs.declared.rules.TurnRules.{TurnRules}
use Rattle.ps_program.specs.declared.program.CompiledSection.{CompiledSection}
use Rattle.ps_solve.specs.Searches.{KeyParts, IsStanding, SearchValue, here_of, key_parts, played_by}
use Rattle.ps_solve.specs.Searches.{script_of, start_of}
use Rattle.ps_solve.specs.SpotKeys.{KeyTable, KeepsKeys, IsAt, IsSpotKey, restart_grid, spot_at}
use Rattle.ps_solve.proofs.KeptKeys.{at_kept}

-- boards of keys have the same sides
pub same_sides : (packed : Packed) (words own : List ℕ) (board here : Grid) → board ≡ packed_grid packed words →
    here ≡ packed_grid packed own → HaveSameSides board here
same_sides packed words own board here e f = record {
  width = ap (λ (g : Grid). g.width) e ∙ sym (ap (λ (g : Grid). g.width) f);
  height = ap (λ (g : Grid). g.height) e ∙ sym (ap (λ (g : Grid). g.height) f);
  layers = ap (λ (g : Grid). g.layers) e ∙ sym (ap (λ (g : Grid). g.layers) f);
}

-- a trial that is still at the same spot
pub at_same : (keys : KeyTable) (before now : TrialValue) (words : List ℕ) (restart : ℕ) → now.basis ≡ before.basis →
    now.here ≡ before.here → IsAt keys before words restart → IsAt keys now words restart
at_same keys before now words restart basis here at = record {
  known = at.known;
  own = ap (λ (b : Basis). b.table) basis ∙ at.own;
  board = ap (λ (h : Boards). h.board) here ∙ at.board;
  restart_board = ap (λ (h : Boards). h.restart_board) here ∙ at.restart_board;
}

module _ (keys : KeyTable) (board : BoardShown) (first here : KeyParts) where
  -- a search that is still there
  pub stands_still : (before now : TrialValue) → now.basis ≡ before.basis → now.here ≡ before.here →
      IsStanding keys before board first here → IsStanding keys now board first here
  stands_still before now basis same stands = record {
    at = at_same keys before now here.words here.restart basis same stands.at;
    start = stands.start;
    own_grid = stands.own_grid;
    own_table = stands.own_table;
  }

  -- where keys keep their meanings
  pub stands_on : (new : KeyTable) (trial : TrialValue) → KeepsKeys keys new → new.packed.table ≡ keys.packed.table →
      IsStanding keys trial board first here → IsStanding new trial board first here
  stands_on new trial keeps own stands = record {
    at = at_kept keys new keeps trial here.words here.restart own stands.at;
    start = (keeps first.words first.restart None stands.start).0;
    own_grid = stands.own_grid
        ∙ sym (ap (λ (s : Spot). s.board) (keeps here.words here.restart None stands.at.known).1);
    own_table = stands.own_table ∙ ap Some (sym own);
  }

  -- a search that has gone to the spot of another key
  pub stands_at : (before now : TrialValue) (own : BoardShown) (words : List ℕ) (restart : ℕ) (waits : Option Pending) →
      IsStanding keys before board first here → IsSpotKey keys words restart →
      now.basis ≡ before.basis → now.here.board ≡ own.grid → now.here.restart_board ≡ restart_grid keys restart →
      own.grid ≡ packed_grid keys.packed words → own.table ≡ board.table →
      IsStanding keys now own first (key_parts words restart waits)
  stands_at before now own words restart waits stands known basis shows restart_board is same = record {
    at = record {
      known = known;
      own = ap (λ (b : Basis). b.table) basis ∙ stands.at.own;
      board = shows ∙ is;
      restart_board = restart_board;
    };
    start = stands.start;
    own_grid = is;
    own_table = same ∙ stands.own_table;
  }

-- keys that are the same keep their meanings
pub keeps_same : (old new : KeyTable) → new ≡ old → KeepsKeys old new
keeps_same old new same = subst (KeepsKeys old) (sym same) (λ words restart waits known. (known, refl))

-- a search that goes by the same turns has the same steps
abbrev pub steps_of : Script → Spot → Input → Option Spot
steps_of script here input = next_spot script 0 here input

pub same_steps : (old new : Script) → new ≡ old → steps_of new ≡ steps_of old
same_steps old new same = ap steps_of same

-- a search that has gone to the spot of a key is there
pub gone_to : (old new : SearchValue) (words : List ℕ) (restart : ℕ) (waits : Option Pending) → new.keys ≡ old.keys →
    new.at ≡ key_parts words restart waits → here_of new ≡ spot_at old.keys words restart waits
gone_to old new words restart waits keys at =
    ap (λ (p : KeyParts). spot_at new.keys p.words p.restart p.waits) at
    ∙ ap (λ (k : KeyTable). spot_at k words restart waits) keys

-- a search begins where it began, where its keys keep their meanings
pub begins_same : (old : SearchValue) (keys : KeyTable) (start : KeyParts) → start ≡ old.start →
    KeepsKeys old.keys keys → IsSpotKey old.keys old.start.words old.start.restart →
    spot_at keys start.words start.restart start.waits ≡ start_of old
begins_same old keys start same keeps known =
    ap (λ (p : KeyParts). spot_at keys p.words p.restart p.waits) same
    ∙ (keeps old.start.words old.start.restart old.start.waits known).1

-- it is where it was
pub here_same : (old : SearchValue) (keys : KeyTable) (at : KeyParts) → at ≡ old.at → KeepsKeys old.keys keys →
    IsSpotKey old.keys old.at.words old.at.restart → spot_at keys at.words at.restart at.waits ≡ here_of old
here_same old keys at same keeps known =
    ap (λ (p : KeyParts). spot_at keys p.words p.restart p.waits) same
    ∙ (keeps old.at.words old.at.restart old.at.waits known).1

-- the script by which a search goes, where its trial and its rules are those of another
abbrev pub RowRules : Type 0
RowRules = TurnRules (List CompiledSection)

abbrev script_by : TrialValue → RowRules → Script
script_by trial rules = script_of trial.basis rules.plain rules.late

pub same_script : (trial own : TrialValue) (rules own_rules : RowRules) → trial ≡ own → rules ≡ own_rules →
    script_of trial.basis rules.plain rules.late ≡ script_of own.basis own_rules.plain own_rules.late
same_script trial own rules own_rules same alike =
    ap (λ (t : TrialValue). script_by t rules) same ∙ ap (script_by own) alike

-- a step from a spot of a script is one from where a search is
pub step_is : {Key : Type 0} (is_key : Key → Type 0) (place : Key → Spot) (search : SearchValue) (script : Script)
    (here : Spot) (input : Input) (step : Step Key) → played_by search ≡ script → here_of search ≡ here →
    IsStep is_key place here (next_spot script 0 here input) step →
    IsStep is_key place (here_of search) (next_spot (played_by search) 0 (here_of search) input) step
step_is is_key place search script here input step plays at is =
    subst (λ (s : Script). IsStep is_key place (here_of search) (next_spot s 0 (here_of search) input) step) (sym plays)
    (subst (λ (h : Spot). IsStep is_key place h (next_spot script 0 h input) step) (sym at) is)

-- what follows of a result
pub if_ok : {A E : Type 0} (P Q : A → Type 0) (result : Result A E) → ((value : A) → P value → Q value) →
    IfOk result P → IfOk result Q
if_ok P Q (Ok value) follows holds = follows value holds
if_ok P Q (Err error) follows holds = tt

-- what holds anyway holds where there is a result
pub on_ok : {A E P : Type 0} (result : Result A E) → P → OnOk result P
on_ok (Ok value) holds = holds
on_ok (Err error) holds = tt
