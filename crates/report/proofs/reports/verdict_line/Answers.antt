use mir.Facts.{to_z-of_z}
use Rattle.report.proofs.reports.Steps.{refused_room, refused_written, refused_ends, claim_carried, proof_carried, accepted_room, accepted_written, accepted_ends}
use Rattle.report.proofs.reports.verdict_line.Goals as goal

pub refused_line-requires : goal.refused_line-requires
refused_line-requires c = search refused_room

pub returns-in_default : goal.returns-in_default
returns-in_default c = (search refused_written, search refused_ends)

pub scale-requires : goal.scale-requires
scale-requires c = search proof_carried

pub floor-requires : goal.floor-requires
floor-requires c = search claim_carried

pub accepted_line-requires : goal.accepted_line-requires
accepted_line-requires c = search (accepted_room, to_z-of_z)

pub returns : goal.returns
returns c = (search (accepted_written, to_z-of_z), search (accepted_ends, to_z-of_z))
