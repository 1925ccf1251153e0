use Rattle.master_parts.proofs.walks.lose_node.Goals as goal

pub returns-in-Some-clause-leads : goal.returns-in-Some-clause-leads
returns-in-Some-clause-leads c = λ i q apart h. c.note_node.ensures.leads i q (c.lose.ensures.leads i q h)

pub returns-in-None-clause-leads : goal.returns-in-None-clause-leads
returns-in-None-clause-leads c = λ i q apart h. c.forget_node.ensures.leads i q apart (c.lose.ensures.leads i q h)
