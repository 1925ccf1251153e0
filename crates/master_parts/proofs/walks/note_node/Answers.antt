use Rattle.master_parts.proofs.walks.note_node.Goals as goal

pub returns-then-is_ephemeral-clause-found : goal.returns-then-is_ephemeral-clause-found
returns-then-is_ephemeral-clause-found c = λ short. c.add.ensures.leads c.args.node.now.instance c.args.name.now c.place.ensures.own

pub returns-then-is_ephemeral-clause-leads : goal.returns-then-is_ephemeral-clause-leads
returns-then-is_ephemeral-clause-leads c = λ i q h. c.add.ensures.leads i q (c.place.ensures.leads i q h)
