use Rattle.std.proofs.Common.{rules}
use Rattle.collections.proofs.secrets.Secret.as_bytes.Goals as goal

pub returns-clause-bytes : goal.returns-clause-bytes
returns-clause-bytes c = search rules
