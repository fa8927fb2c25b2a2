use Rattle.std.specs.Prelude.{Some, option_map}
use Rattle.std.proofs.Common.{◌∙◌, ap, sym}
use Rattle.solve_top.specs.Requests.{requested, without_paths}
use Rattle.solve_top.proofs.request.request_of.Goals as goal

pub returns-in-Ok-clause-asked : goal.returns-in-Ok-clause-asked
unfolding requested
returns-in-Ok-clause-asked c = ap (option_map without_paths) c.in-Ok.ensures.command ∙ ap Some (sym c.without_paths.ensures.request)
