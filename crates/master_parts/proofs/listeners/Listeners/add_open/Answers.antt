use Rattle.master_parts.proofs.Seats.{all_seats}
use Rattle.master_parts.proofs.listeners.Listeners.add_open.Goals as goal

pub returns-clause-own : goal.returns-clause-own
returns-clause-own c =
    all_seats c.add_if-3.result c.args.handle.now c.get-instance.result c.args.key.now c.add_if.new.self c.add_if-2.new.self c.add_if-3.new.self c.get-instance.ensures.value c.in_ok-add_if.ensures.own c.add_if-2.ensures.kept c.in_ok-add_if-2.ensures.own c.add_if-3.ensures.kept c.add_if-3.ensures.own
