-- One object, or one name of the legend more, of those that are looked at for the whole.
use Rattle.std.proofs.Common.{◌≡◌, ℕ, zero, suc, ◌<◌, Bool, true, false, List, [], ◌∷◌, length, drop, get_or, Option}
use Rattle.std.proofs.Common.{Some, refl, ◌∙◌, arith}
use Rattle.std.specs.Option.{is_none}
use Rattle.std.specs.Str.{bytes_eq}
use Rattle.ps_model.specs.declared.faults.FaultKind.{FaultKind}
use Rattle.ps_model.specs.text.Faults.{first_fault}
use Rattle.ps_model.specs.text.Lines.{folded}
use Rattle.ps_model.specs.names.Names.{Meaning}
use Rattle.ps_model.specs.names.ObjectLines.{ObjectText}
use Rattle.ps_model.specs.names.Meanings.{LegendName}
use Rattle.ps_model.specs.names.NameFaults.{shares_layer}
use Rattle.ps_laws.proofs.common.SameThings.{bytes_eq-sym}
use Rattle.ps_names.specs.Wholes.{no_layers, declares, lines_of_name, faults_of_lines, shared_layers}

-- the line of a name that is the one given
pub name-hit : (kind : FaultKind) (query : List ℕ) (name : LegendName) (legend : List LegendName) →
    bytes_eq (folded name.name) query ≡ true
    → first_fault (faults_of_lines true kind (lines_of_name (name ∷ legend) query)) ≡ Some
    (record { kind = kind; line = name.line })
name-hit kind query name legend e = let h : declares query name ≡ true = bytes_eq-sym query (folded name.name) ∙ e in
    rw h refl

pub name-miss : (kind : FaultKind) (query : List ℕ) (name : LegendName) (legend : List LegendName) →
    bytes_eq (folded name.name) query ≡ false
    → faults_of_lines true kind (lines_of_name (name ∷ legend) query) ≡ faults_of_lines true kind
    (lines_of_name legend query)
name-miss kind query name legend e = let h : declares query name ≡ false = bytes_eq-sym query (folded name.name) ∙ e in
    rw h refl

-- nothing bad is no fault
pub nothing-bad : (bad : Bool) (kind : FaultKind) (lines : List ℕ) → bad ≡ false → faults_of_lines bad kind lines ≡ []
nothing-bad true kind lines e = cc
nothing-bad false kind [] e = refl
nothing-bad false kind (line ∷ lines) e = nothing-bad false kind lines refl

pub no-layer-step : (objects : List ObjectText) (places : List (Option ℕ)) (k : ℕ) (d : Option ℕ) → k < length places →
    is_none (get_or places k d) ≡ false
    → no_layers (drop k objects) (drop k places) ≡ no_layers (drop (suc k) objects) (drop (suc k) places)
no-layer-step objects [] k d less e = absurd (omega arith)
no-layer-step [] (place ∷ places) zero d less e = refl
no-layer-step [] (place ∷ places) (suc k) d less e = refl
no-layer-step (object ∷ objects) (place ∷ places) zero d less e = rw e refl
no-layer-step (object ∷ objects) (place ∷ places) (suc k) d less e = no-layer-step objects places k d (omega arith) e

pub shared-step : (layers : List ℕ) (legend : List LegendName) (meanings : List (Option Meaning)) (k : ℕ)
    (n : LegendName) (m : Option Meaning) → k < length legend → k < length meanings
    → shares_layer layers (get_or legend k n).joiner (get_or meanings k m) ≡ false
    → shared_layers layers (drop k legend) (drop k meanings) ≡ shared_layers layers (drop (suc k) legend)
    (drop (suc k) meanings)
shared-step layers [] meanings k n m less less' e = absurd (omega arith)
shared-step layers (name ∷ legend) [] k n m less less' e = absurd (omega arith)
shared-step layers (name ∷ legend) (meaning ∷ meanings) zero n m less less' e = rw e refl
shared-step layers (name ∷ legend) (meaning ∷ meanings) (suc k) n m less less' e =
    shared-step layers legend meanings k n m (omega arith) (omega arith) e
