use Rattle.std.proofs.Common.{rules, ◌≡◌, ◌∙◌, ◌+◌, ◌<◌, true, length, drop, get_or, arith}
use Rattle.std.specs.List.{prefix_len}
use Rattle.std.proofs.lemmas.List.Sums.{prefix_len-drop_yes}
use Rattle.std.proofs.lemmas.Str.{IsCharBoundary-after_ascii}
use Rattle.ps_model.specs.text.Words.{parts_words}
use Rattle.ps_text.proofs.WordSteps.{past_parting_step, parting_is_ascii}
use Rattle.ps_text.proofs.scan.past_parting.Goals as goal

pub loop-at-preserved : goal.loop-at-preserved
loop-at-preserved c =
    let parting : parts_words c.args.cut (get_or c.args.line.now c.loop-at.at 0) ≡ true = search rules in
    let within : c.loop-at.at < length c.args.line.now = omega arith in
    let step : prefix_len (parts_words c.args.cut) (drop c.loop-at.at c.args.line.now) ≡ 1 + prefix_len
    (parts_words c.args.cut) (drop (c.loop-at.at + 1) c.args.line.now) =
    prefix_len-drop_yes (parts_words c.args.cut) c.args.line.now c.loop-at.at 0 within parting in
    record {
      place = omega (arith, step, c.loop-at.invariant.place);
      words = c.loop-at.invariant.words ∙ past_parting_step c.args.cut c.args.line.now c.loop-at.at within parting;
      cuttable = IsCharBoundary-after_ascii c.args.line.now c.loop-at.at c.requires.utf8 within
          (parting_is_ascii c.args.cut _ parting);
    }
