use Rattle.master_parts.proofs.candidates.Candidates.forget.Goals as goal

pub returns-then-leads_to-clause-leads : goal.returns-then-leads_to-clause-leads
returns-then-leads_to-clause-leads c = λ i q apart h. c.unplace.ensures.leads i q apart (c.pass.ensures.leads i q h)

pub returns-else-leads_to-clause-leads : goal.returns-else-leads_to-clause-leads
returns-else-leads_to-clause-leads c = λ i q apart h. c.pass.ensures.leads i q h
