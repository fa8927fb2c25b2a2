use Rattle.std.proofs.Common.{◌∙◌}
use Rattle.integer_tableau.proofs.StartKept.{new_starts_kept}
use Rattle.integer_tableau.proofs.dictionary.Dictionaries.at_start.Goals as goal

pub returns-clause-kept : goal.returns-clause-kept
returns-clause-kept c = λ ps weight bounds many ready.
    let made = c.push_start.ensures in
    let none = c.new-dictionaries.ensures in
    new_starts_kept ps weight c.args.costs.now bounds ready c.push_start.new.self (made.start ps many) (made.exits ∙ none.exits) (made.edges ∙ none.edges)
