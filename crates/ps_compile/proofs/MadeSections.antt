-- Compiled sections in the making: what the pieces come to that lines are cut into.
use Rattle.std.proofs.Common.{◌≡◌, ℕ, ◌+◌, ◌<◌, List, [], ◌∷◌, ◌++◌, length, drop, map, get_or, flat_map, Bor}
use Rattle.std.proofs.Common.{refl, sym, ap, ◌∙◌, append_assoc}
use Rattle.std.specs.List.{slice_split}
use Rattle.std.proofs.lemmas.List.{map-append}
use Rattle.ps_model.specs.declared.rules.Part.{Part}
use Rattle.ps_model.specs.names.Names.{Names}
use Rattle.ps_model.specs.rules.SourceRules.{RuleLine}
use Rattle.ps_model.specs.board.RuleSections.{Group, Loop, section_by}
use Rattle.ps_model.specs.board.RulePrograms.{is_start, is_end, groups_in, outside_loops, inside_loop, of_pieces}
use Rattle.ps_model.specs.board.RulePrograms.{behind_start}
use Rattle.ps_model.specs.meaning.Compiled.{CompiledSection}
use Rattle.ps_laws.proofs.common.Stages.{map-flat_map}
use Rattle.ps_rules.specs.declared.tree.RuleLine.{RuleLine as TheLine}
use Rattle.ps_rules.specs.RulesShown.{lines_shown}
use Rattle.ps_program.specs.declared.program.CompiledSection.{CompiledSection as TheSection}
use Rattle.ps_program.specs.ProgramShown.{sections_shown}
use Rattle.ps_readings.proofs.Pieces.{list_more}
use Rattle.ps_compile.specs.PiecesShown.{pieces_shown}
use Rattle.ps_compile.specs.GroupsMade.{compiled_group}
use Rattle.ps_compile.specs.ProgramsMade.{compiled_sections, compact_groups, compact_outside, compact_behind}
use Rattle.ps_compile.specs.CompactPrograms.{compact_program}

groups-made : {A B : Type 0} (made : List A → List B) (groups : List (List A)) →
    map Group (map made groups) ≡ map (section_by made) (map Group groups)
groups-made made [] = refl
groups-made made (rules ∷ groups) = ap (λ sections. Group (made rules) ∷ sections) (groups-made made groups)

-- outside of loops each group is a section
pub outside-made : (names : Names) (part : Part) (lines : List RuleLine) →
    map Group (compact_groups names part lines) ≡ compact_outside names part lines
outside-made names part lines = groups-made (compiled_group names) (groups_in part lines)

-- the lines after the start of a loop, cut at the ends of loops
pub behind-made : (names : Names) (part : Part) (lines inside : List RuleLine) (others : List (List RuleLine)) →
    slice_split is_end lines ≡ inside ∷ others →
    compact_behind names part lines ≡ Loop (compact_groups names part inside) ∷ flat_map (compact_outside names part)
    others
behind-made names part lines inside others e =
    ap (λ pieces. compiled_sections names (of_pieces (inside_loop part) (outside_loops part) pieces)) e
    ∙ ap (λ rest. Loop (compact_groups names part inside) ∷ rest)
    (map-flat_map (section_by (compiled_group names)) (outside_loops part) others)

-- all lines, cut at the starts
pub program-made : (names : Names) (part : Part) (lines before : List RuleLine) (others : List (List RuleLine)) →
    slice_split is_start lines ≡ before ∷ others →
    compact_program names part lines ≡ compact_outside names part before ++ flat_map (compact_behind names part) others
program-made names part lines before others e =
    ap (λ pieces. compiled_sections names (of_pieces (outside_loops part) (behind_start part) pieces)) e
    ∙ map-append (section_by (compiled_group names)) (outside_loops part before) (flat_map (behind_start part) others)
    ∙ ap (λ rest. compact_outside names part before ++ rest)
    (map-flat_map (section_by (compiled_group names)) (behind_start part) others)

-- after the loop that these begin with, the others are still to come
pub behind-begun : {A : Type 0} (show : A → CompiledSection) (names : Names) (part : Part)
    (lines inside : List RuleLine) (others : List (List RuleLine)) (before begun : List A) (section : A) →
    begun ≡ before ++ section ∷ [] → show section ≡ Loop (compact_groups names part inside) →
    slice_split is_end lines ≡ inside ∷ others →
    map show begun ++ flat_map (compact_outside names part) others ≡ map show before ++ compact_behind names part lines
behind-begun show names part lines inside others before begun section e shows cut =
    let rest : List CompiledSection = flat_map (compact_outside names part) others in
    ap (λ sections. map show sections ++ rest) e
    ∙ ap (λ sections. sections ++ rest) (map-append show before (section ∷ []))
    ∙ append_assoc (map show before) (show section ∷ []) rest
    ∙ ap (λ shown. map show before ++ shown ∷ rest) shows
    ∙ ap (λ sections. map show before ++ sections) (sym (behind-made names part lines inside others cut))

-- the sections of one more piece of lines are made
pub sections-more : (f : List RuleLine → List CompiledSection) (made grown : List TheSection)
    (all : List CompiledSection) (piece : Bor (List TheLine)) (pieces : List (Bor (List TheLine))) (i : ℕ) →
    i < length pieces → piece ≡ get_or pieces i piece →
    sections_shown grown ≡ sections_shown made ++ f (lines_shown piece.now) →
    sections_shown made ++ flat_map f (pieces_shown (drop i pieces)) ≡ all →
    sections_shown grown ++ flat_map f (pieces_shown (drop (i + 1) pieces)) ≡ all
sections-more f made grown all piece pieces i less is e before =
    list_more (λ (l : List (Bor (List TheLine))). flat_map f (pieces_shown l)) (sections_shown made)
    (sections_shown grown) all (f (lines_shown piece.now)) piece piece pieces i refl less is e before
