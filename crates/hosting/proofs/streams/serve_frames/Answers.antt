use Rattle.hosting.proofs.Served.{served_none, served_on, ends_at, stops_at, ends_late}
use Rattle.hosting.proofs.streams.serve_frames.Goals as goal

pub loop-turn-init : goal.loop-turn-init
loop-turn-init g c = served_none _ _ _ _

pub loop-turn-preserved : goal.loop-turn-preserved
loop-turn-preserved g c = served_on _ _ _ _ _ _ _ _ _ _ _ c.in-On.is c.loop-turn.invariant c.serve_frame-next.ensures

pub returns-in-Over : goal.returns-in-Over
returns-in-Over g c = ends_at _ _ _ _ _ _ _ _ _ _ _ c.in-Over.is c.loop-turn.invariant c.serve_frame-next.ensures

pub returns-in-Stopped : goal.returns-in-Stopped
returns-in-Stopped g c = stops_at _ c.in-Stopped.stop _ _ _ _ _ _ _ _ _ _ c.in-Stopped.is c.loop-turn.invariant c.serve_frame-next.ensures

pub returns : goal.returns
returns g c = ends_late _ _ _ _ _ _ _ c.loop-turn.invariant
