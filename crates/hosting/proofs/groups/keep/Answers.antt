use Rattle.std.proofs.Common.{refl}
use Rattle.hosting.proofs.Grouped.{kept_as, lost_as}
use Rattle.hosting.proofs.groups.keep.Goals as goal

pub returns-in-Ok-write_bytes : goal.returns-in-Ok-write_bytes
returns-in-Ok-write_bytes g c = (kept_as _ _ c.in-Ok.ensures.ok c.in-Ok.ensures.taken, c.in-Ok-write_bytes.ensures.all)

pub returns-in-Err-write_bytes : goal.returns-in-Err-write_bytes
returns-in-Err-write_bytes g c = (kept_as _ _ c.in-Ok.ensures.ok c.in-Ok.ensures.taken, c.in-Err-write_bytes.ensures.front)

pub returns-in-Err : goal.returns-in-Err
returns-in-Err g c = (lost_as _ _ _ c.in-Err.ensures.refused c.in-Err.ensures.taken, refl)
