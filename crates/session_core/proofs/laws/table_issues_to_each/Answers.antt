use Rattle.session_core.proofs.IssuedBy.{issued_to_each, clients_stay_issued, lease_stays_issued}
use Rattle.session_core.proofs.laws.table_issues_to_each.Goals as goal

pub returns : goal.returns
returns g c = record {
  each = λ s asked client order. issued_to_each s asked client order;
  clients = λ s asked. clients_stay_issued s asked;
  lease = λ s asked. lease_stays_issued s asked;
}
