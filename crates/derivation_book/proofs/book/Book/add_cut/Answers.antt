use Rattle.std.proofs.Common.{◌∙◌, ap, sym, subst}
use Rattle.std.specs.Prelude.{◌++◌, ◌∷◌, [], All}
use Rattle.std.proofs.lemmas.List.Elements.{All-push}
use Rattle.problem.specs.Rising.{AreRising}
use Rattle.derivation_book.specs.declared.cut.Cut.{Cut}
use Rattle.derivation_book.specs.Contents.{Contents}
use Rattle.derivation_book.specs.Cuts.{AreCutsOf}
use Rattle.derivation_book.specs.Lemmas.Rounded.{rounded_rises, one_more}
use Rattle.derivation_book.proofs.book.Book.add_cut.Goals as goal

pub invariant_of-self : goal.invariant_of-self
invariant_of-self c =
    let P : Cut → Type 0 = λ d. AreRising d.row.terms in
    subst (All P) (sym c.in-Ok.ensures.items)
    (All-push P c.self.inside.cuts.items (record { row = c.args.row; mult = c.args.mult }) c.self.invariant
    (rounded_rises c.args._problem.now c.args.self.now.cuts c.args.mult c.args.row c.requires.rounded))

pub returns-clause-cuts_of_problem : goal.returns-clause-cuts_of_problem
returns-clause-cuts_of_problem c =
    λ h. subst (AreCutsOf c.args._problem.now)
    (sym (c.in-Ok.ensures.items ∙ ap (λ (b : Contents). b.cuts ++ record { row = c.args.row; mult = c.args.mult } ∷ []) c.self.view_is))
    (one_more c.args._problem.now [] c.args.self.now.cuts (record { row = c.args.row; mult = c.args.mult }) h c.requires.rounded)
