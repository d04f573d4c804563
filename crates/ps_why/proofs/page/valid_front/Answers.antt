use Rattle.std.proofs.Common.{◌∙◌, sym}
use Rattle.ps_why.proofs.Pages.{whole_front}
use Rattle.ps_why.proofs.page.valid_front.Goals as goal

pub returns-in-Ok : goal.returns-in-Ok
returns-in-Ok c = c.in-Ok.ensures.cases.0 ∙ sym (whole_front c.args.bytes.now c.in-Ok.ensures.cases.1)
