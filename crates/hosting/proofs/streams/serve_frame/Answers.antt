use Rattle.hosting.proofs.Served.{found_turn, stopped_turn}
use Rattle.hosting.proofs.streams.serve_frame.Goals as goal

pub returns-in-Ok : goal.returns-in-Ok
returns-in-Ok g c = found_turn c.in-Ok.found _ _ _ _ _ _ _ _ c.in-Ok.ensures.found c.serve_found.ensures

pub returns-in-Err : goal.returns-in-Err
returns-in-Err g c = stopped_turn _ _ _ _ _ _ c.in-Err.ensures.only
