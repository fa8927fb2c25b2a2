use Rattle.solve_top.proofs.drill.drilled_pool.Goals as goal

pub returns-in-Ok-clause-refused : goal.returns-in-Ok-clause-refused
returns-in-Ok-clause-refused g c = c.given_up.ensures c.args.seed
