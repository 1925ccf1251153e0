use Rattle.share_cell.proofs.Turning.{sees}
use Rattle.share_cell.proofs.viewer.ReaderPlace.ask.Goals as goal

pub enter_as-requires : goal.enter_as-requires
enter_as-requires g c x = sees _ _ x
