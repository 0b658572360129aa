use Rattle.std.proofs.Common.{subst, sym}
use Rattle.world_script.specs.Fault.{IsFirstBad}
use Rattle.world_script.proofs.Faults.{first_line_fault, regions_fault, table_fault, begin_fault, whole_header}
use Rattle.world_script.proofs.reading.header.read_header.Goals as goal

pub returns-in_default-clause-fault : goal.returns-in_default-clause-fault
returns-in_default-clause-fault c =
    (c.bad_line.ensures.kind, subst (IsFirstBad c.args.text.now) (sym c.bad_line.ensures.line) (first_line_fault _ c.in_default.ensures.none))

pub returns-in_default-read_regions-clause-fault : goal.returns-in_default-read_regions-clause-fault
returns-in_default-read_regions-clause-fault c =
    let bad = c.bad_line-in_default-read_regions.ensures in
    (bad.kind, subst (IsFirstBad c.args.text.now) (sym bad.line) (regions_fault _ _ c.in-Some.ensures.found c.in_default-read_regions.ensures.none))

pub returns-in_default-after_line-clause-fault : goal.returns-in_default-after_line-clause-fault
returns-in_default-after_line-clause-fault c =
    let bad = c.bad_line-in_default-after_line.ensures in
    (bad.kind, subst (IsFirstBad c.args.text.now) (sym bad.line) (table_fault _ _ _ _ c.in-Some.ensures.found c.in-Some-read_regions.ensures.found c.in_default-after_line.ensures.none))

pub returns-in_default-after_line-2-clause-fault : goal.returns-in_default-after_line-2-clause-fault
returns-in_default-after_line-2-clause-fault c =
    let bad = c.bad_line-in_default-after_line-2.ensures in
    (bad.kind, subst (IsFirstBad c.args.text.now) (sym bad.line) (begin_fault _ _ _ _ _ c.in-Some.ensures.found c.in-Some-read_regions.ensures.found c.in-Some-after_line.ensures.found c.in_default-after_line-2.ensures.none))

pub returns-clause-ok : goal.returns-clause-ok
returns-clause-ok c = whole_header _ _ _ _ _ _ c.in-Some.ensures.found c.in-Some-read_regions.ensures.found c.in-Some-after_line.ensures.found c.in-Some-after_line-2.ensures.found
