use Rattle.std.proofs.Common.{sym}
use Rattle.ps_report.proofs.CodesParted.{parted, whole}
use Rattle.ps_report.proofs.codes.parted.Goals as goal

pub returns-in-Some-clause-before : goal.returns-in-Some-clause-before
returns-in-Some-clause-before c =
    (parted c.args.words.now c.split_once.result c.split_once.ensures.cases _ c.in-Some.is).0

pub returns-in-Some-clause-after : goal.returns-in-Some-clause-after
returns-in-Some-clause-after c =
    (parted c.args.words.now c.split_once.result c.split_once.ensures.cases _ c.in-Some.is).1

pub returns-in-None-clause-before : goal.returns-in-None-clause-before
returns-in-None-clause-before c = (whole c.args.words.now c.split_once.result c.split_once.ensures.cases c.in-None.is).0

pub returns-in-None-clause-after : goal.returns-in-None-clause-after
returns-in-None-clause-after c = (whole c.args.words.now c.split_once.result c.split_once.ensures.cases c.in-None.is).1
