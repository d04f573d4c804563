use Rattle.ps_text.specs.TakenRanges.{IsTextStart}
use Rattle.ps_text.proofs.TextRanges.{raw_region, plain_region}
use Rattle.ps_text.proofs.regions.text_region.Goals as goal

pub returns-clause-raw : goal.returns-clause-raw
returns-clause-raw c =
    let starts : IsTextStart c.args.plain.now c.in-Some.start =
    rw c.as_bytes.ensures.value at c.in-Some.ensures.start in
    let ends = rw c.as_bytes-2.ensures.value at c.text_end-end.ensures.within in
    let opening = rw c.as_bytes-2.ensures.value at c.text_end-end.ensures.opening in
    raw_region c.args.raw.now c.args.plain.now c.in-Some.start c.text_end-end.result c.utf8.raw c.requires starts
    c.text_end-end.ensures.behind ends opening

pub returns-clause-plain : goal.returns-clause-plain
returns-clause-plain c =
    let starts : IsTextStart c.args.plain.now c.in-Some.start =
    rw c.as_bytes.ensures.value at c.in-Some.ensures.start in
    let ends = rw c.as_bytes-2.ensures.value at c.text_end-end.ensures.within in
    let opening = rw c.as_bytes-2.ensures.value at c.text_end-end.ensures.opening in
    plain_region c.args.raw.now c.args.plain.now c.in-Some.start c.text_end-end.result c.utf8.plain c.requires starts
    c.text_end-end.ensures.behind ends opening
