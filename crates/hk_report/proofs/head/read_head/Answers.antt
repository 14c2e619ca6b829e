use Rattle.hk_report.proofs.Stopping.{stopped}
use Rattle.hk_report.proofs.Heads.{in_station, behind_station, in_block, behind_block, in_segment, behind_segment, in_first, behind_first, in_version, behind_version, in_colon}
use Rattle.hk_report.proofs.head.read_head.Goals as goal

-- left in the station
pub returns-in_err-station-clause-misfit : goal.returns-in_err-station-clause-misfit
returns-in_err-station-clause-misfit c =
    stopped _ _ _ _ c.from_residual.ensures.1
    (in_station _ _ c.in_err-station.ensures.misfit)

-- left in the block
pub returns-in_err-block-clause-misfit : goal.returns-in_err-block-clause-misfit
returns-in_err-block-clause-misfit c =
    stopped _ _ _ _ c.from_residual-in_err-block.ensures.1
    (behind_station _ _ _ _ c.in_ok-station.ensures.number c.in_ok-station.ensures.found c.in_ok-station.ensures.cut
    (in_block _ _ c.in_err-block.ensures.misfit))

-- left in the segment
pub returns-in_err-segment-clause-misfit : goal.returns-in_err-segment-clause-misfit
returns-in_err-segment-clause-misfit c =
    stopped _ _ _ _ c.from_residual-in_err-segment.ensures.1
    (behind_station _ _ _ _ c.in_ok-station.ensures.number c.in_ok-station.ensures.found c.in_ok-station.ensures.cut
    (behind_block _ _ _ _ c.in_ok-block.ensures.number c.in_ok-block.ensures.found c.in_ok-block.ensures.cut
    (in_segment _ _ c.in_err-segment.ensures.misfit)))

-- left in the first word
pub returns-in_err-first-clause-misfit : goal.returns-in_err-first-clause-misfit
returns-in_err-first-clause-misfit c =
    stopped _ _ _ _ c.from_residual-in_err-first.ensures.1
    (behind_station _ _ _ _ c.in_ok-station.ensures.number c.in_ok-station.ensures.found c.in_ok-station.ensures.cut
    (behind_block _ _ _ _ c.in_ok-block.ensures.number c.in_ok-block.ensures.found c.in_ok-block.ensures.cut
    (behind_segment _ _ _ _ c.in_ok-segment.ensures.number c.in_ok-segment.ensures.found c.in_ok-segment.ensures.cut
    (in_first _ _ c.in_err-first.ensures.misfit))))

-- left in the version
pub returns-in_err-version-clause-misfit : goal.returns-in_err-version-clause-misfit
returns-in_err-version-clause-misfit c =
    stopped _ _ _ _ c.from_residual-in_err-version.ensures.1
    (behind_station _ _ _ _ c.in_ok-station.ensures.number c.in_ok-station.ensures.found c.in_ok-station.ensures.cut
    (behind_block _ _ _ _ c.in_ok-block.ensures.number c.in_ok-block.ensures.found c.in_ok-block.ensures.cut
    (behind_segment _ _ _ _ c.in_ok-segment.ensures.number c.in_ok-segment.ensures.found c.in_ok-segment.ensures.cut
    (behind_first _ _ _ _ c.in_ok-first.ensures.number c.in_ok-first.ensures.found c.in_ok-first.ensures.cut
    (in_version _ _ c.in_err-version.ensures.misfit)))))

-- left in the word behind the version
pub returns-in_err-rest-clause-misfit : goal.returns-in_err-rest-clause-misfit
returns-in_err-rest-clause-misfit c =
    stopped _ _ _ _ c.from_residual-in_err-rest.ensures.1
    (behind_station _ _ _ _ c.in_ok-station.ensures.number c.in_ok-station.ensures.found c.in_ok-station.ensures.cut
    (behind_block _ _ _ _ c.in_ok-block.ensures.number c.in_ok-block.ensures.found c.in_ok-block.ensures.cut
    (behind_segment _ _ _ _ c.in_ok-segment.ensures.number c.in_ok-segment.ensures.found c.in_ok-segment.ensures.cut
    (behind_first _ _ _ _ c.in_ok-first.ensures.number c.in_ok-first.ensures.found c.in_ok-first.ensures.cut
    (behind_version _ _ _ _ c.in_ok-version.ensures.number c.in_ok-version.ensures.found c.in_ok-version.ensures.cut
    (in_colon _ _ c.in_err-rest.ensures.misfit))))))
