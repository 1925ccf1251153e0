use Rattle.codec.proofs.FormLaws.{written_begins, other_version}
use Rattle.hosting.specs.Frames.{frame}
use Rattle.hosting.specs.Told.{told}
use Rattle.hosting.proofs.laws.frames_are_of_format.Goals as goal

pub returns : goal.returns
returns c = (
  λ sent bytes e. written_begins frame sent bytes e,
  λ given bytes e. written_begins told given bytes e,
  λ first rest other short. (other_version frame first rest other short, other_version told first rest other short),
)
