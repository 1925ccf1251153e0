-- The changes that wait, together with the rights that hold them up.
use Rattle.std.specs.Prelude.{List}
use Rattle.rights_core.specs.declared.cache_rights.CacheRight.{CacheRight}
use Rattle.gate_core.specs.Gate.{GateState}

pub record QueueState (T : Type 0) : Type 0 where
  pub rights : List CacheRight
  pub gate : GateState T
