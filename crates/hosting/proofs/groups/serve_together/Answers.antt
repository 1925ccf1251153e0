use Rattle.hosting.proofs.Gathering.{together_nothing, together_found, together_lost}
use Rattle.hosting.proofs.groups.serve_together.Goals as goal

pub returns-in-Nothing : goal.returns-in-Nothing
returns-in-Nothing g c = together_nothing _ _ _ _ _ _ _ _ _ _ _ _ _ _ c.in-Nothing.is c.new-told.ensures.items c.as_slice.ensures.value c.requires.none c.requires.settled c.gather-group.ensures c.keep.ensures

pub returns-in-Found : goal.returns-in-Found
returns-in-Found g c =
    together_found _ _ _ _ _ _ _ _ _ _ _ _ _ _ _ _ _ _ c.in-Found.is c.new-told.ensures.items c.as_slice-in-Found.ensures.value c.requires.none c.requires.settled c.gather-group.ensures c.keep-seat.ensures c.serve_behind.ensures

pub returns : goal.returns
returns g c = together_lost _ _ _ _ _ _ _ _ _ _ _ _ c.in-Lost.is c.requires.none c.gather-group.ensures c.lose.ensures
