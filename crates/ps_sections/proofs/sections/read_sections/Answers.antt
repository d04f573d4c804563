use Rattle.std.proofs.Common.{rules, ◌≡◌, ◌+◌, ◌∙◌, sym, ap, refl, arith, None, Some, ℕ}
use Rattle.std.specs.Prelude.{nat_lt}
use Rattle.ps_model.specs.declared.texts.Section.TheVariants.{Objects, Legend, Layers, Rules, Wins, Levels}
use Rattle.ps_model.specs.declared.faults.Fault.{Fault}
use Rattle.ps_model.specs.declared.faults.FaultKind.TheVariants.{NoSection}
use Rattle.ps_model.specs.text.Lines.{lines_of}
use Rattle.ps_model.specs.declared.refusal.Refusal.TheVariants.{Refused}
use Rattle.ps_sections.specs.Headings.{headings_told}
use Rattle.ps_sections.specs.SectionPlaces.{boundary}
use Rattle.ps_sections.proofs.SectionEnds.{boundary_rises, boundary_end}
use Rattle.ps_sections.proofs.SectionsTold.{line_refused, section_refused, headings_fine, first_there, last_there}
use Rattle.ps_sections.proofs.SectionsTold.{is_prelude, is_section, is_header_of}
use Rattle.ps_sections.proofs.sections.read_sections.Goals as goal

-- what was refused is the fault that is told
refused_inside : (here there : Fault) → Refused here ≡ Refused there → here ≡ there
refused_inside here there e = cc

pub boundary-legend-requires-clause-near : goal.boundary-legend-requires-clause-near
boundary-legend-requires-clause-near c = rw c.boundary-objects.ensures.boundary
    (boundary_rises c.args.source.now 1 2 refl)

pub boundary-sounds-requires-clause-near : goal.boundary-sounds-requires-clause-near
boundary-sounds-requires-clause-near c = rw c.boundary-legend.ensures.boundary
    (boundary_rises c.args.source.now 2 3 refl)

pub boundary-layers-requires-clause-near : goal.boundary-layers-requires-clause-near
boundary-layers-requires-clause-near c = rw c.boundary-sounds.ensures.boundary
    (boundary_rises c.args.source.now 3 4 refl)

pub boundary-rules-requires-clause-near : goal.boundary-rules-requires-clause-near
boundary-rules-requires-clause-near c = rw c.boundary-layers.ensures.boundary
    (boundary_rises c.args.source.now 4 5 refl)

pub boundary-wins-requires-clause-near : goal.boundary-wins-requires-clause-near
boundary-wins-requires-clause-near c = rw c.boundary-rules.ensures.boundary (boundary_rises c.args.source.now 5 6 refl)

pub boundary-levels-requires-clause-near : goal.boundary-levels-requires-clause-near
boundary-levels-requires-clause-near c = rw c.boundary-wins.ensures.boundary (boundary_rises c.args.source.now 6 7 refl)

pub returns-in-Some-clause-refused : goal.returns-in-Some-clause-refused
returns-in-Some-clause-refused c =
    let told : headings_told 0 (lines_of c.args.source.now) ≡ Some c.in-Some.fault = search rules in
    λ fault e. let same : c.in-Some.fault ≡ fault = cc in line_refused c.args.source.now c.in-Some.fault told
    ∙ ap Some same

pub returns-then-is_without_section-clause-refused : goal.returns-then-is_without_section-clause-refused
returns-then-is_without_section-clause-refused c =
    let text = c.args.source.now in
    let told : headings_told 0 (lines_of text) ≡ None = search rules in
    let ends : c.lines-last.result + 1 ≡ boundary text 8 = ap (λ (n : ℕ). n + 1) c.lines-last.ensures.lines
    ∙ sym (boundary_end text) in
    let missing = sym c.is_without_section.ensures ∙ c.if-is_without_section.true in
    let first = section_refused text c.boundary-objects.result c.boundary-legend.result c.boundary-layers.result
    c.boundary-rules.result c.boundary-levels.result (c.lines-last.result + 1) told
    (record {
      objects_begin = c.boundary-objects.ensures.boundary;
      objects_end = c.boundary-legend.ensures.boundary;
      layers_begin = c.boundary-layers.ensures.boundary;
      layers_end = c.boundary-rules.ensures.boundary;
      levels_begin = c.boundary-levels.ensures.boundary;
      levels_end = ends;
    }) missing in
    λ fault e. first ∙ ap (λ (n : ℕ). Some (record { kind = NoSection; line = n })) (sym c.lines-last.ensures.lines)
    ∙ ap Some (refused_inside (record { kind = NoSection; line = c.lines-last.result }) fault e)

pub returns-clause-told : goal.returns-clause-told
returns-clause-told c =
    let text = c.args.source.now in
    let told : headings_told 0 (lines_of text) ≡ None = search rules in
    let objects = c.boundary-objects.result in
    let legend = c.boundary-legend.result in
    let layers = c.boundary-layers.result in
    let rules = c.boundary-rules.result in
    let wins = c.boundary-wins.result in
    let levels = c.boundary-levels.result in
    let end : ℕ = c.lines-last.result + 1 in
    let ends : c.lines-last.result + 1 ≡ boundary text 8 = ap (λ (n : ℕ). n + 1) c.lines-last.ensures.lines
    ∙ sym (boundary_end text) in
    let there = sym c.is_without_section.ensures ∙ c.if-is_without_section.false in
    record {
      fine = headings_fine text objects legend layers rules levels end told
          (record {
            objects_begin = c.boundary-objects.ensures.boundary;
            objects_end = c.boundary-legend.ensures.boundary;
            layers_begin = c.boundary-layers.ensures.boundary;
            layers_end = c.boundary-rules.ensures.boundary;
            levels_begin = c.boundary-levels.ensures.boundary;
            levels_end = ends;
          }) there;
      prelude = is_prelude text objects told c.boundary-objects.ensures.boundary c.boundary-objects.ensures.within;
      objects = is_section text Objects objects legend c.below_header.result.start c.below_header.result.end
          (omega arith) told c.boundary-objects.ensures.boundary c.boundary-legend.ensures.boundary
          c.below_header.ensures.start c.below_header.ensures.end c.below_header.ensures.order
          c.below_header.ensures.behind c.boundary-legend.ensures.within;
      legend = is_section text Legend legend c.boundary-sounds.result c.below_header-2.result.start
          c.below_header-2.result.end (omega arith) told c.boundary-legend.ensures.boundary
          c.boundary-sounds.ensures.boundary c.below_header-2.ensures.start c.below_header-2.ensures.end
          c.below_header-2.ensures.order c.below_header-2.ensures.behind c.boundary-sounds.ensures.within;
      layers = is_section text Layers layers rules c.below_header-3.result.start c.below_header-3.result.end
          (omega arith) told c.boundary-layers.ensures.boundary c.boundary-rules.ensures.boundary
          c.below_header-3.ensures.start c.below_header-3.ensures.end c.below_header-3.ensures.order
          c.below_header-3.ensures.behind c.boundary-rules.ensures.within;
      rules = is_section text Rules rules wins c.below_header-4.result.start c.below_header-4.result.end (omega arith)
          told c.boundary-rules.ensures.boundary c.boundary-wins.ensures.boundary c.below_header-4.ensures.start
          c.below_header-4.ensures.end c.below_header-4.ensures.order c.below_header-4.ensures.behind
          c.boundary-wins.ensures.within;
      wins = is_section text Wins wins levels c.below_header-5.result.start c.below_header-5.result.end (omega arith)
          told c.boundary-wins.ensures.boundary c.boundary-levels.ensures.boundary c.below_header-5.ensures.start
          c.below_header-5.ensures.end c.below_header-5.ensures.order c.below_header-5.ensures.behind
          c.boundary-levels.ensures.within;
      levels = is_section text Levels levels end c.below_header-6.result.start c.below_header-6.result.end
          (omega arith) told c.boundary-levels.ensures.boundary ends c.below_header-6.ensures.start
          c.below_header-6.ensures.end c.below_header-6.ensures.order c.below_header-6.ensures.behind
          (omega (arith, c.lines-last.ensures.lines));
      objects_header = is_header_of text Objects objects legend c.below_header.result.start (omega arith) told
          c.boundary-objects.ensures.boundary c.boundary-legend.ensures.boundary c.below_header.ensures.start
          (first_there (nat_lt objects legend) (nat_lt layers rules) (nat_lt levels end) there);
      levels_header = is_header_of text Levels levels end c.below_header-6.result.start (omega arith) told
          c.boundary-levels.ensures.boundary ends c.below_header-6.ensures.start
          (last_there (nat_lt objects legend) (nat_lt layers rules) (nat_lt levels end) there);
    }
