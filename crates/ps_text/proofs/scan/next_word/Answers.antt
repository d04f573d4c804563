use Rattle.std.proofs.Common.{rules, ◌≡◌, ◌+◌, ◌<◌, true, length, get_or, refl, arith}
use Rattle.std.proofs.lemmas.Str.{IsCharBoundary-after_ascii}
use Rattle.ps_model.specs.text.Words.{stands_alone}
use Rattle.ps_text.proofs.WordSteps.{alone_is_ascii, no_parting_no_blank}
use Rattle.ps_text.proofs.Solid.{solid_one}
use Rattle.ps_text.proofs.scan.next_word.Goals as goal

pub returns-then-is_alone-clause-range : goal.returns-then-is_alone-clause-range
returns-then-is_alone-clause-range c =
    let alone : stands_alone c.args.cut (get_or c.args.line.now c.past_parting-start.result 0) ≡ true = search rules in
    let within : c.past_parting-start.result < length c.args.line.now =
    omega (arith, c.past_parting-start.ensures.cuttable.0) in
    record {
      behind = c.past_parting-start.ensures.behind;
      holds = omega arith;
      start = c.past_parting-start.ensures.cuttable;
      end = IsCharBoundary-after_ascii c.args.line.now c.past_parting-start.result c.requires.utf8 within
          (alone_is_ascii c.args.cut _ alone);
      solid = solid_one c.args.line.now c.past_parting-start.result (c.past_parting-start.result + 1)
          (no_parting_no_blank c.args.cut _ (c.past_parting-start.ensures.word within)) refl;
    }
