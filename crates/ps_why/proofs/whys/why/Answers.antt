use Rattle.std.proofs.Common.{◌≡◌, ◌∙◌, true, length, sym, ap, refl, arith}
use Rattle.std.proofs.lemmas.Bool.Decides.{nat_tests}
use Rattle.std.proofs.lemmas.Str.{chars-nil}
use Rattle.std.specs.Prelude.{nat_lt}
use Rattle.ps_model.specs.declared.limits.TheConstants.{TEXT_LIMIT}
use Rattle.ps_causes.specs.declared.causes.Cause.TheVariants.{Untold}
use Rattle.ps_why.specs.Shown.{shown_characters}
use Rattle.ps_why.proofs.whys.why.Goals as goal

pub returns-then-text-gt-TEXT_LIMIT : goal.returns-then-text-gt-TEXT_LIMIT
returns-then-text-gt-TEXT_LIMIT c =
    let long : nat_lt TEXT_LIMIT (length c.args.text.now) ≡ true = grind (arith, nat_tests) in
    record {
      cause = Untold;
      is_true = tt;
      are_lines = c.new.ensures.bytes ∙ rw long refl;
      is_column = refl;
      are_words = c.new-then-text-gt-TEXT_LIMIT.ensures.bytes ∙ sym (ap shown_characters chars-nil);
    }

pub told_by-requires-clause-cause : goal.told_by-requires-clause-cause
told_by-requires-clause-cause c = c.no_utf8_cause.ensures c.args.fault.line
