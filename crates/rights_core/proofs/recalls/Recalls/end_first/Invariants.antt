use Rattle.std.proofs.Common.{◌≡◌, ◌-◌, take, drop}
use Rattle.std.specs.VecDeque.{deque_capacity}
use Rattle.rights_core.specs.Holds.{without_all}
use Rattle.rights_core.proofs.recalls.Recalls.end_first.Given as goal

abbrev pub invariant-loop : goal.invariant-loop
invariant-loop l = record {
  rights : without_all l.rights (take (l.count - l.counter) l.self.numbers.items) ≡ without_all l.fn.rights (take l.count l.fn.self.numbers.items);
  numbers : drop (l.count - l.counter) l.self.numbers.items ≡ drop l.count l.fn.self.numbers.items;
  capacity : deque_capacity l.self.numbers ≡ deque_capacity l.fn.self.numbers;
  ended : l.self.ended ≡ l.fn.self.ended;
}
