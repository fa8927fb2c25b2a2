use Rattle.std.proofs.Common.{◌≡◌, ◌<◌, ◌+◌, ◌∙◌, ◌⊎◌, ◌++◌, ◌∷◌, [], arith, length, map, get_or, set, ap, refl, sym, subst}
use Rattle.std.specs.Prelude.{slice_range}
use Rattle.integer_tableau.proofs.ExitViews.{changed_in_lists, changed_is, kept_inside, own_is, own_there, view_inside}
use Rattle.integer_tableau.proofs.ExitsKept.{changed, exit_begun, exit_pushed, exits_stay, same_dictionaries}
use Rattle.integer_tableau.specs.Kept.{AreKept, KeptDictionaries, KeptDictionary, dictionary_in, exits_of, kept_at}
use Rattle.integer_tableau.specs.declared.exits.Exit.{Exit}
use Rattle.integer_tableau.specs.declared.position.Position.TheVariants.{InBasis}
use Rattle.integer_tableau.proofs.dictionary.Dictionaries.push_exit.Goals as goal
use Rattle.integer_tableau.proofs.dictionary.Dictionaries.push_exit.Goals.{After-branch-first, In_ok-push}

-- before and after the exits of its dictionary are moved
module _ (c : After-branch-first) where
  abbrev old : KeptDictionaries
  old = view_inside c.self.inside

  there : c.args.place < length old.all
  there = subst (λ (k : KeptDictionaries). c.args.place < length k.all) (sym c.self.view_is) c.requires.there

  inside_there : c.args.place < length c.self.inside.all.items
  inside_there = own_there c.self.inside c.args.self.now c.self.view_is c.args.place c.requires.there

  own : kept_at old.all c.args.place ≡ kept_inside c.self.inside c.index-own.result.now
  own = own_is c.self.inside old refl c.args.place there c.index-own.result.now c.index-own.ensures

  put : (c.move_to_end.new.list.items ≡ old.exits) ⊎ (c.move_to_end.new.list.items ≡ old.exits ++ exits_of old.exits (kept_at old.all c.args.place))
  put = subst (λ d. (c.move_to_end.new.list.items ≡ old.exits) ⊎ (c.move_to_end.new.list.items ≡ old.exits ++ exits_of old.exits d)) (sym own) c.move_to_end.ensures.pushed

pub index-own-requires : goal.index-own-requires
index-own-requires c = omega (arith, own_there c.self.inside c.args.self.now c.self.view_is c.args.place c.requires.there, c.self.inside.all.ok.0)

pub move_to_end-requires-clause-clones : goal.move_to_end-requires-clause-clones
move_to_end-requires-clause-clones c = λ x y e. e

pub invariant_of-self : goal.invariant_of-self
invariant_of-self c = c.self.invariant

pub returns-in_err-first-clause-same : goal.returns-in_err-first-clause-same
returns-in_err-first-clause-same c = ap (λ (k : KeptDictionaries). map dictionary_in k.all) c.self.view_is

pub invariant_of-self-in_err-push : goal.invariant_of-self-in_err-push
invariant_of-self-in_err-push c = c.self.invariant

pub returns-in_err-push-clause-same : goal.returns-in_err-push-clause-same
returns-in_err-push-clause-same c = ap (λ (k : KeptDictionaries). map dictionary_in k.all) c.self.view_is

pub index_mut-requires : goal.index_mut-requires
index_mut-requires c = omega (arith, own_there c.self.inside c.args.self.now c.self.view_is c.args.place c.requires.there, c.self.inside.all.ok.0)

pub returns-in_err-first-clause-kept : goal.returns-in_err-first-clause-kept
returns-in_err-first-clause-kept c = λ ps weight costs h.
    let b = (goal.at.returns-in_err-first-clause-kept c).After-branch-first in
    exits_stay ps weight costs (old b) (subst (AreKept ps weight costs) (sym c.self.view_is) h) c.args.place c.move_to_end.new.list.items (put b)

pub returns-in_err-push-clause-kept : goal.returns-in_err-push-clause-kept
returns-in_err-push-clause-kept c = λ ps weight costs h.
    let b = (goal.at.returns-in_err-push-clause-kept c).After-branch-first in
    subst (λ xs. AreKept ps weight costs (record (old b) { exits = xs })) (sym c.in_err-push.ensures.items)
    (exits_stay ps weight costs (old b) (subst (AreKept ps weight costs) (sym c.self.view_is) h) c.args.place c.move_to_end.new.list.items (put b))

pub invariant_of-self-2 : goal.invariant_of-self-2
invariant_of-self-2 c =
    let b = (goal.at.invariant_of-self-2 c).After-branch-first in
    changed_in_lists c.self.inside c.args.place c.in_ok-first.first (c.index-own.result.now.exits + 1) c.index-own.result.now (inside_there b) c.index-own.ensures c.self.invariant

pub returns-clause-same : goal.returns-clause-same
returns-clause-same c =
    let b = (goal.at.returns-clause-same c).After-branch-first in
    ap (map dictionary_in) (changed_is c.self.inside c.args.place c.in_ok-first.first (c.index-own.result.now.exits + 1) c.index-own.result.now (inside_there b) c.index-own.ensures)
    ∙ same_dictionaries (old b).all c.args.place c.in_ok-first.first (c.index-own.result.now.exits + 1) (there b) ∙ ap (λ (k : KeptDictionaries). map dictionary_in k.all) c.self.view_is

pub returns-clause-kept : goal.returns-clause-kept
returns-clause-kept c = λ ps weight costs h.
    let b = (goal.at.returns-clause-kept c).After-branch-first in
    let a = c.args in
    let d : KeptDictionary = kept_at (old b).all a.place in
    let x : Exit = record { from = a.place; variable = a.variable; first = 0; count = 0 } in
    let is = exit_begun ps (old b).edges d x (subst (λ (k : KeptDictionaries). a.variable < length (kept_at k.all a.place).positions) (sym c.self.view_is) c.requires.variable_there)
    (subst (λ (k : KeptDictionaries). get_or (kept_at k.all a.place).positions a.variable InBasis ≡ InBasis) (sym c.self.view_is) c.requires.basic) refl refl in
    let count : d.exits ≡ c.index-own.result.now.exits = ap (λ (d : KeptDictionary). d.exits) (own b) in
    let after = exit_pushed ps weight costs (old b) a.place c.in_ok-first.first c.move_to_end.new.list.items x (subst (AreKept ps weight costs) (sym c.self.view_is) h) (there b) (put b)
    (ap (λ n. c.in_ok-first.first + n) count ∙ c.in_ok-first.ensures.begin)
    (subst (λ (d : KeptDictionary). slice_range c.move_to_end.new.list.items c.in_ok-first.first (c.in_ok-first.first + d.exits) ≡ exits_of (old b).exits d) (sym (own b)) c.in_ok-first.ensures.same) refl is in
    let now = changed_is c.self.inside a.place c.in_ok-first.first (c.index-own.result.now.exits + 1) c.index-own.result.now (inside_there b) c.index-own.ensures
    ∙ ap (λ n. changed (old b).all a.place c.in_ok-first.first (n + 1)) (sym count) in
    subst (λ xs. AreKept ps weight costs (record (old b) {
      all = map (kept_inside c.self.inside) (set c.self.inside.all.items a.place (record c.index-own.result.now { first_exit = c.in_ok-first.first; exits = c.index-own.result.now.exits + 1 }));
      exits = xs;
    })) (sym c.in_ok-push.ensures.items) (subst (λ ds. AreKept ps weight costs (record (old b) { all = ds; exits = c.move_to_end.new.list.items ++ x ∷ [] })) (sym now) after)
