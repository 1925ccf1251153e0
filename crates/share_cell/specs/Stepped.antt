-- What one step makes of a copy.
use Rattle.cache_core.specs.Changes.{applied}
use Rattle.share_cell.specs.declared.side.Side.{Side}
use Rattle.share_cell.specs.declared.side.SideStep.{SideStep}

-- a copy after one step
abbrev pub stepped : Side → SideStep → Side
stepped s t = record { cache = applied s.cache t.op; place = t.place }
