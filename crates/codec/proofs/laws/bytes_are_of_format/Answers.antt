use Rattle.codec.proofs.OutLaws.{written_out_begins}
use Rattle.codec.proofs.FormLaws.{written_begins, other_version}
use Rattle.codec.specs.Requests.{request}
use Rattle.codec.specs.Outs.{out_message}
use Rattle.codec.proofs.laws.bytes_are_of_format.Goals as goal

pub returns : goal.returns
returns c = (
  λ message bytes e. written_begins request message bytes e,
  λ message bytes e. written_out_begins message bytes e,
  λ first rest other short. (other_version request first rest other short, other_version out_message first rest other short),
)
