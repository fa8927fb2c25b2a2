-- What contracts see of dictionaries, by the lists that they share.
use Rattle.std.proofs.Common.{◌≡◌, ℕ, ◌<◌, arith, refl, ap, sym, subst, ◌∙◌, length, get_or, set, map, All}
use Rattle.std.proofs.lemmas.List.{get_or_default, length-map, map-set}
use Rattle.std.proofs.lemmas.List.Elements.{All-set}
use Rattle.integer_tableau.proofs.ExitsKept.{changed, noted}
use Rattle.integer_tableau.proofs.KeptViews.{kept_is}
use Rattle.integer_tableau.specs.Kept.{IsInLists, KeptDictionaries, KeptDictionary, exit_at, kept_at, kept_in}
use Rattle.integer_tableau.specs.declared.dictionary.Dictionaries.TheInside.{Inside}
use Rattle.integer_tableau.specs.declared.dictionary.Dictionary.{Dictionary}
use Rattle.integer_tableau.specs.declared.exits.Exit.{Exit}

abbrev pub kept_inside : Inside → Dictionary → KeptDictionary
kept_inside i d = kept_in i.variables i.width i.numerators.items i.basic_columns.items i.nonbasic.items d

abbrev pub view_inside : Inside → KeptDictionaries
view_inside i = record { variables = i.variables; width = i.width; all = map (kept_inside i) i.all.items; exits = i.exits.items; edges = i.edges.items }

module _ (i : Inside) (k : KeptDictionaries) (is : view_inside i ≡ k) (p : ℕ) (l : p < length k.all) where
  pub own_there : p < length i.all.items
  own_there = let m : p < length (map (kept_inside i) i.all.items) = subst (λ (k : KeptDictionaries). p < length k.all) (sym is) l in omega (arith, m, length-map i.all.items (kept_inside i))

  pub own_is : (d : Dictionary) → d ≡ get_or i.all.items p d → kept_at k.all p ≡ kept_inside i d
  own_is d at = ap (λ (k : KeptDictionaries). kept_at k.all p) (sym is) ∙ kept_is i.variables i.width i.numerators.items i.basic_columns.items i.nonbasic.items i.all.items p d own_there at

-- an exit that is there
pub exit_is : (i : Inside) (k : KeptDictionaries) (e : ℕ) (x : Exit) → view_inside i ≡ k → e < length k.exits → x ≡ get_or i.exits.items e x → x ≡ exit_at k.exits e
exit_is i k e x is l at =
    let m : e < length i.exits.items = subst (λ (k : KeptDictionaries). e < length k.exits) (sym is) l in
    at ∙ get_or_default i.exits.items e x _ m ∙ ap (λ (k : KeptDictionaries). exit_at k.exits e) is

-- where something else is noted of one
pub changed_is : (i : Inside) (p first count : ℕ) (d : Dictionary) → p < length i.all.items → d ≡ get_or i.all.items p d
    → map (kept_inside i) (set i.all.items p (record d { first_exit = first; exits = count })) ≡ changed (view_inside i).all p first count
changed_is i p first count d l at =
    let there : p < length (map (kept_inside i) i.all.items) = omega (arith, l, length-map i.all.items (kept_inside i)) in
    map-set (kept_inside i) i.all.items p (record d { first_exit = first; exits = count })
    ∙ ap (λ e. set (map (kept_inside i) i.all.items) p (noted e first count)) (sym (own_is i (view_inside i) refl p there d at))

pub changed_in_lists : (i : Inside) (p first count : ℕ) (d : Dictionary) → p < length i.all.items → d ≡ get_or i.all.items p d → All (IsInLists i.width i.numerators.items i.basic_columns.items i.nonbasic.items) i.all.items
    → All (IsInLists i.width i.numerators.items i.basic_columns.items i.nonbasic.items) (set i.all.items p (record d { first_exit = first; exits = count }))
changed_in_lists i p first count d l at h =
    let o : IsInLists i.width i.numerators.items i.basic_columns.items i.nonbasic.items d = subst (IsInLists i.width i.numerators.items i.basic_columns.items i.nonbasic.items) (sym at) (h p d l) in
    All-set (IsInLists i.width i.numerators.items i.basic_columns.items i.nonbasic.items) i.all.items p (record d { first_exit = first; exits = count })
    record { numerators_there = o.numerators_there; basic_there = o.basic_there; nonbasic_there = o.nonbasic_there; within = o.within } h
