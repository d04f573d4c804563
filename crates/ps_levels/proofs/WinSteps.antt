-- A line of WINCONDITIONS.
use Rattle.std.proofs.Common.{◌≡◌, ℕ, Bool, true, false, List, [], ◌∷◌, ◌++◌, Option, None, Some, refl, sym, ap, ◌∙◌}
use Rattle.std.proofs.Common.{append_assoc, ◌&&◌}
use Rattle.std.specs.Prelude.{not}
use Rattle.std.proofs.lemmas.List.Elements.{filter_map-append}
use Rattle.ps_model.specs.declared.faults.Fault.{Fault}
use Rattle.ps_model.specs.declared.faults.FaultKind.{FaultKind}
use Rattle.ps_model.specs.declared.faults.FaultKind.TheVariants.{BadWin, UnknownWinName}
use Rattle.ps_model.specs.text.Faults.{first_fault, when}
use Rattle.ps_model.specs.text.Lines.{Line, is_blank_line}
use Rattle.ps_model.specs.names.Names.{Names}
use Rattle.ps_model.specs.board.Wins.{Win}
use Rattle.ps_levels.specs.WinsShown.{win_of_line}
use Rattle.ps_model.specs.board.WinLines.{WinText, win_text, win_read, win_faults_of, wins_read}

abbrev at_line : FaultKind → ℕ → Fault
at_line kind line = record { kind = kind; line = line }

pub bad-win : (names : Names) (line : Line) (number : ℕ) → line.number ≡ number → is_blank_line line ≡ false →
    win_text line ≡ None → first_fault (win_faults_of names line) ≡ Some (at_line BadWin number)
bad-win names line number n blank e = rw (blank, e, n) refl

-- a line of the form of a win condition isn't a bad one
of_form : (blank : Bool) (number : ℕ) (fault : Fault) →
    first_fault (when (not blank && false) BadWin number ++ fault ∷ []) ≡ Some fault
of_form true number fault = refl
of_form false number fault = refl

pub unknown-win-name : (names : Names) (line : Line) (number : ℕ) (text : WinText) → line.number ≡ number →
    win_text line ≡ Some text → win_read names text ≡ None →
    first_fault (win_faults_of names line) ≡ Some (at_line UnknownWinName number)
unknown-win-name names line number text n e lost =
    rw (e, lost, n) (of_form (is_blank_line line) number (at_line UnknownWinName number))

-- win conditions of the lines above, of a line, and of those below
pub wins-more : (names : Names) (before now : List Win) (all lines rest : List Line) → all ≡ lines ++ rest →
    now ≡ before ++ wins_read names lines → now ++ wins_read names rest ≡ before ++ wins_read names all
wins-more names before now all lines rest split e =
    let reads : Line → Option Win = λ line. win_of_line names line in
    ap (λ (ws : List Win). ws ++ wins_read names rest) e
    ∙ append_assoc before (wins_read names lines) (wins_read names rest)
    ∙ ap (λ (ws : List Win). before ++ ws) (sym (ap (wins_read names) split ∙ filter_map-append reads lines rest))
