use Rattle.scripts.proofs.steps.content_of.Goals as goal

pub returns-in-None : goal.returns-in-None
returns-in-None c = λ bytes h. let none = rw c.in-None.is at c.in_ok-content.ensures in none bytes h.1 h.0
