use Rattle.cert_tree.proofs.Finishing.{merged_valid, merged_true, infeasibility_exact}
use Rattle.cert_tree.proofs.laws.finished_searches_are_certified.Goals as goal

pub returns-clause-valid : goal.returns-clause-valid
returns-clause-valid c = merged_valid c.args.problem.now c.limits_hold.ensures

pub returns-clause-answered : goal.returns-clause-answered
returns-clause-answered c = merged_true c.args.problem.now c.limits_hold.ensures

pub returns-clause-exact : goal.returns-clause-exact
returns-clause-exact c = infeasibility_exact c.args.problem.now c.limits_hold.ensures
