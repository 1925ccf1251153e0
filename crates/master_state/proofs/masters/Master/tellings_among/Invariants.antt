use Rattle.std.proofs.Common.{◌≡◌, ◌++◌}
use Rattle.std.specs.List.{filter_map}
use Rattle.master_state.proofs.ToldHandles.{told_by}
use Rattle.master_state.proofs.masters.Master.tellings_among.Given as goal

abbrev pub invariant-loop-key : goal.invariant-loop-key
invariant-loop-key l = l.tellings ++ filter_map (told_by l.self l.note l.notices) l.key-iterator ≡ filter_map (told_by l.self l.note l.notices) l.keys
