use Rattle.hosting.proofs.Passages.{frame_found, fits_of}
use Rattle.hosting.proofs.inputs.next_frame.Goals as goal

pub frame_in-requires : goal.frame_in-requires
frame_in-requires g c = fits_of c.in_ok-found.found c.in-Some.block _ _ _ c.in-Some.is c.in_ok-found.ensures.found

pub returns-in-Some-clause-found : goal.returns-in-Some-clause-found
returns-in-Some-clause-found g c = frame_found c.in_ok-found.found c.in-Some.block _ _ _ _ c.in-Some.is c.in_ok-found.ensures.found c.frame_in.ensures
