use Rattle.master_parts.proofs.Parted.{client_between}
use Rattle.master_parts.proofs.open_handles.Handles.forget_client.Goals as goal

pub forget_between-requires-clause-inside : goal.forget_between-requires-clause-inside
forget_between-requires-clause-inside c =
    client_between c.args.client c.in-Some.next c.in-Some-Some.first c.in-Some-Some.end c.args.self.now c.requires c.in-Some.ensures.1 c.in-Some-Some.ensures c.in-Some-Some.ensures'
