use Rattle.std.proofs.Common.{refl}
use Rattle.hk_report.specs.Reports.{IsReport}
use Rattle.hk_report.proofs.Stopping.{stops_none}
use Rattle.hk_report.proofs.Heads.{behind_head, report_from, one_reading}
use Rattle.hk_report.proofs.Places.{bad_place}
use Rattle.hk_report.proofs.reader.read_line.Goals as goal

-- what goes wrong in its head is no report line
pub returns-in-Err-clause-round_trip : goal.returns-in-Err-clause-round_trip
returns-in-Err-clause-round_trip c = λ head items report. absurd (stops_none IsReport _ _ c.in-Err.ensures.misfit (head, items, report))

pub returns-in-Err-clause-place : goal.returns-in-Err-clause-place
returns-in-Err-clause-place c = λ p same. bad_place _ _ p c.in-Err.ensures.misfit cc

-- the head and the list
pub returns-in-Ok-Some-clause-parts : goal.returns-in-Ok-Some-clause-parts
returns-in-Ok-Some-clause-parts c =
    let list = c.in-Ok-Some.ensures.found in
    report_from c.in-Ok.read.0 list.0 _ _ _ c.in-Ok.ensures.fits c.in-Ok.ensures.found list.1 list.2 (rw c.in-Ok-Some.field-0-is at list.3)

pub returns-in-Ok-Some-clause-round_trip : goal.returns-in-Ok-Some-clause-round_trip
returns-in-Ok-Some-clause-round_trip c = λ head items report.
    let list = c.in-Ok-Some.ensures.found in
    one_reading _ c.in-Ok.read.0 head _ items (report_from c.in-Ok.read.0 list.0 _ _ _ c.in-Ok.ensures.fits c.in-Ok.ensures.found list.1 list.2 (rw c.in-Ok-Some.field-0-is at list.3)) report

-- a report line, though memory was refused
pub returns-in-Ok-None-clause-memory : goal.returns-in-Ok-None-clause-memory
returns-in-Ok-None-clause-memory c = λ same.
    let list = c.in-Ok-None.ensures.found in
    (c.in-Ok.read.0, list.0, report_from c.in-Ok.read.0 list.0 list.0 _ _ c.in-Ok.ensures.fits c.in-Ok.ensures.found list.1 list.2 refl)

-- what goes wrong in its list is no report line
pub returns-in-Err-read_list-clause-round_trip : goal.returns-in-Err-read_list-clause-round_trip
returns-in-Err-read_list-clause-round_trip c = λ head items report.
    absurd (stops_none IsReport c.args.text.now _ (behind_head c.in-Ok.read.0 _ _ _ c.in-Ok.ensures.fits c.in-Ok.ensures.found c.in-Err-read_list.ensures.misfit) (head, items, report))

pub returns-in-Err-read_list-clause-place : goal.returns-in-Err-read_list-clause-place
returns-in-Err-read_list-clause-place c = λ p same.
    bad_place _ _ p (behind_head c.in-Ok.read.0 _ _ _ c.in-Ok.ensures.fits c.in-Ok.ensures.found c.in-Err-read_list.ensures.misfit) cc
