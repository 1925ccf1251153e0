use Rattle.std.proofs.Common.{◌≡◌, ◌+◌, ◌<◌, ◌≤◌, ◌^◌, ◌++◌, length}
use Rattle.std.specs.VecDeque.Iter.{deque_iter_rest}
use Rattle.event_core.specs.Queue.{unacked, numbered_from}
use Rattle.event_core.proofs.queues.EventQueue.unacked.Given as goal

abbrev pub invariant-loop-event : goal.invariant-loop-event
invariant-loop-event l = record {
  told : l.events ++ numbered_from (l.number + 1) (deque_iter_rest l.event-iterator) ≡ unacked l.self;
  bound : length l.events + length (deque_iter_rest l.event-iterator) ≤ 256;
  fits : l.number + length (deque_iter_rest l.event-iterator) < 2 ^ 63;
}
