-- The laws of groups: what is read is spelled so, and what is spelled so is read.
use Rattle.std.proofs.Common.{◌≡◌, ℕ, ◌<◌, ◌≤◌, Bool, true, false, cond, eqb, List, [], ◌∷◌, ◌++◌, length, get_or, Result, Ok, Err, refl, sym, ap, subst, ◌∙◌, inl, inr, arith}
use Rattle.std.specs.Prelude.{IfOk, OnOk, All}
use Rattle.std.specs.Global.{Vec}
use Rattle.std.specs.declared.alloc.AllocError.{AllocError}
use Rattle.std.specs.List.{flat_map, AllByRecursion}
use Rattle.std.proofs.lemmas.Bool.{eqb-true, ltb-true, leb-true, lt-ltb, le-leb, and_parts, and_from, cases_Bool}
use Rattle.std.proofs.lemmas.Bool.Decides.{eqb_tells}
use Rattle.std.proofs.lemmas.List.{append-nil, nil_from_length}
use Rattle.std.proofs.lemmas.List.Elements.{All-from_recursion, All-weaker, recursion_from_All}
use Rattle.node_events.specs.declared.event.Event.{Event}
use Rattle.node_events.specs.declared.event.Event.TheVariants.{Claim, Release, Cut, Offer, Split, Close}
use Rattle.event_codec.specs.declared.enc.Enc.{Enc}
use Rattle.event_codec.specs.declared.fault.CodecFault.TheVariants.{BadValue, Long}
use Rattle.event_codec.specs.declared.fault.CodecError.{CodecError}
use Rattle.event_codec.specs.Places.{Place, beginning}
use Rattle.event_codec.specs.ReadResults.{◌>>=◌, test, GivesList}
use Rattle.event_codec.specs.Codes.{code, IsCodable}
use Rattle.event_codec.specs.Types.{IsEvent}
use Rattle.event_codec.specs.Reading.{byte_at, elements_at, event_at}
use Rattle.event_codec.specs.Groups.{most_group_events, IsGroup, several_code, group_code, is_several, begins_several, several_at, single_at, group_at, group_of}
use Rattle.event_codec.specs.Upgrades.{upgrade_code}
use Rattle.event_codec.proofs.Binds.{bind_ok, test_ok, ok_is, ok_then}
use Rattle.event_codec.proofs.Numbers.{IsBytes}
use Rattle.event_codec.proofs.Fields.{Takes, Takes-then, IsField, at_place, byte_field}
use Rattle.event_codec.proofs.Lists.{elements_take, elements_again}
use Rattle.event_codec.proofs.Events.{IsWholeEvent, event_takes, event_again}

-- what stands at the front of several events
tag_is : (bytes rest : List ℕ) (tag : ℕ) → bytes ≡ (tag ∷ []) ++ rest → begins_several bytes ≡ true → tag ≡ 6
tag_is bytes rest tag parts begins = eqb-true _ _ (subst (λ (b : List ℕ). begins_several b ≡ true) parts begins)

module _ (enc : Enc) where
  event_field : IsField (event_at enc) (code enc) (IsWholeEvent enc)
  event_field = record { takes = event_takes enc; again = event_again enc }

  -- ---- what is read is a group

  group_from : (events : List Event) → 0 < length events → length events ≤ most_group_events → AllByRecursion (IsWholeEvent enc) events → IsGroup enc events
  group_from events some few whole =
      let all = All-from_recursion (IsWholeEvent enc) events whole in
      record { some = some; few = few; codable = All-weaker (IsWholeEvent enc) (IsCodable enc) (λ e is. is.0) events all; typed = All-weaker (IsWholeEvent enc) IsEvent (λ e is. is.1) events all }

  whole_events : (events : List Event) → IsGroup enc events → AllByRecursion (IsWholeEvent enc) events
  whole_events events is = recursion_from_All (IsWholeEvent enc) events (λ k d lt. (is.codable k d lt, is.typed k d lt))

  code_of_one : (e : Event) → flat_map (code enc) (e ∷ []) ≡ code enc e
  code_of_one e = append-nil (code enc e)

  -- a group of several is spelled with its tag
  several_spelled : (events : List Event) → 1 < length events → group_code enc events ≡ several_code enc events
  unfolding group_code
  several_spelled events lt = elim (eqb_tells (length events) 1) [
    | inl t ↦ absurd (omega (arith, lt, t.1))
    | inr t ↦ ap (λ (b : Bool). cond b (flat_map (code enc) events) (several_code enc events)) t.0
  ]

  single_takes : (p q : Place) (events : List Event) → IsBytes p.rest → single_at enc p ≡ Ok (events, q) → Takes p.rest (group_code enc events) q.rest × IsGroup enc events
  unfolding single_at group_code
  single_takes p q events fits h =
      let a = bind_ok (event_at enc p) (λ (e : Event × Place). Ok (e.0 ∷ [], e.1)) (events, q) h in
      let t = event_takes enc p a.0.1 a.0.0 fits a.1 in
      let taken : Takes p.rest (flat_map (code enc) (a.0.0 ∷ [])) a.0.1.rest = subst (λ (x : List ℕ). Takes p.rest x a.0.1.rest) (sym (code_of_one a.0.0)) t.0 in
      ok_then (λ (x : List Event × Place). Takes p.rest (group_code enc x.0) x.1.rest × IsGroup enc x.0) (a.0.0 ∷ [], a.0.1) (events, q) a.2
      (taken, group_from (a.0.0 ∷ []) (omega arith) (omega arith) (t.1, tt))

  several_take : (p q : Place) (events : List Event) → IsBytes p.rest → begins_several p.rest ≡ true → several_at enc p ≡ Ok (events, q) → Takes p.rest (group_code enc events) q.rest × IsGroup enc events
  unfolding several_at
  several_take p q events fits begins h =
      let a = bind_ok (byte_at p) (λ (tag : ℕ × Place). byte_at tag.1 >>= λ count. test (is_several count.0) (BadValue tag.1.at) >>= λ u. elements_at (event_at enc) count.0 count.1) (events, q) h in
      let b = bind_ok (byte_at a.0.1) (λ (count : ℕ × Place). test (is_several count.0) (BadValue a.0.1.at) >>= λ u. elements_at (event_at enc) count.0 count.1) (events, q) a.2 in
      let g = test_ok (is_several b.0.0) (BadValue a.0.1.at) (elements_at (event_at enc) b.0.0 b.0.1) (events, q) b.2 in
      let tag = (byte_field.takes p a.0.1 a.0.0 fits a.1).0 in
      let count = (byte_field.takes a.0.1 b.0.1 b.0.0 tag.rest_fits b.1).0 in
      let all = elements_take (event_at enc) (code enc) (IsWholeEvent enc) event_field b.0.0 b.0.1 q events count.rest_fits g.1 in
      let limits = and_parts _ _ g.0 in
      let many : 1 < length events = subst (λ (n : ℕ). 1 < n) (sym all.1) (ltb-true _ _ limits.0) in
      let few : length events ≤ most_group_events = subst (λ (n : ℕ). n ≤ most_group_events) (sym all.1) (leb-true _ _ limits.1) in
      let front = Takes-then p.rest (a.0.0 ∷ []) a.0.1.rest (b.0.0 ∷ []) b.0.1.rest tag count in
      let both = Takes-then p.rest (a.0.0 ∷ b.0.0 ∷ []) b.0.1.rest (flat_map (code enc) events) q.rest front all.0 in
      let numbered : Takes p.rest (6 ∷ b.0.0 ∷ flat_map (code enc) events) q.rest = subst (λ (n : ℕ). Takes p.rest (n ∷ b.0.0 ∷ flat_map (code enc) events) q.rest) (tag_is p.rest a.0.1.rest a.0.0 tag.parts begins) both in
      let counted : Takes p.rest (several_code enc events) q.rest = subst (λ (n : ℕ). Takes p.rest (6 ∷ n ∷ flat_map (code enc) events) q.rest) (sym all.1) numbered in
      (subst (λ (x : List ℕ). Takes p.rest x q.rest) (sym (several_spelled events many)) counted, group_from events (omega (arith, many)) few all.2)

  group_takes : (p q : Place) (events : List Event) → IsBytes p.rest → group_at enc p ≡ Ok (events, q) → Takes p.rest (group_code enc events) q.rest × IsGroup enc events
  unfolding group_at
  group_takes p q events fits h = elim (cases_Bool (begins_several p.rest)) [
    | inl begins ↦ several_take p q events fits begins (subst (λ (b : Bool). cond b (several_at enc p) (single_at enc p) ≡ Ok (events, q)) begins h)
    | inr other ↦ single_takes p q events fits (subst (λ (b : Bool). cond b (several_at enc p) (single_at enc p) ≡ Ok (events, q)) other h)
  ]

  -- ---- what is spelled so is read

  -- no event has the tag of several
  event_begins : (e : Event) (rest : List ℕ) → IsWholeEvent enc e → begins_several (code enc e ++ rest) ≡ false
  unfolding code
  event_begins (Claim node) rest is = absurd is.0
  event_begins (Release node) rest is = absurd is.0
  event_begins (Cut mult) rest is = refl
  event_begins (Offer point) rest is = refl
  event_begins (Split node column bound reason) rest is = refl
  event_begins (Close node proof) rest is = refl

  single_again : (e : Event) → IsWholeEvent enc e → (to : ℕ) × (group_at enc (beginning (code enc e)) ≡ Ok (e ∷ [], at_place to []))
  unfolding group_at single_at
  single_again e is =
      let t = event_again enc e 0 [] is in
      let begins : begins_several (code enc e ++ []) ≡ false = event_begins e [] is in
      let read : group_at enc (beginning (code enc e ++ [])) ≡ Ok (e ∷ [], at_place t.0 []) = rw (begins, t.1) refl in
      (t.0, ap (λ (x : List ℕ). group_at enc (beginning x)) (sym (append-nil (code enc e))) ∙ read)

  several_again : (events : List Event) → IsGroup enc events → 1 < length events → (to : ℕ) × (group_at enc (beginning (several_code enc events)) ≡ Ok (events, at_place to []))
  unfolding group_at several_at
  several_again events is many =
      let n = length events in
      let codes = flat_map (code enc) events in
      let tag = byte_field.again 6 0 (n ∷ codes) tt in
      let count = byte_field.again n tag.0 codes tt in
      let all = elements_again (event_at enc) (code enc) (IsWholeEvent enc) event_field events count.0 [] (whole_events events is) in
      let limits : is_several n ≡ true = and_from _ _ (lt-ltb _ _ many) (le-leb _ _ is.few) in
      let bytes : codes ≡ codes ++ [] = sym (append-nil codes) in
      let read : elements_at (event_at enc) n (at_place count.0 codes) ≡ Ok (events, at_place all.0 []) = ap (λ (x : List ℕ). elements_at (event_at enc) n (at_place count.0 x)) bytes ∙ all.1 in
      (all.0, rw (tag.1, count.1, limits) read)

  one_spelled : (e : Event) → group_code enc (e ∷ []) ≡ code enc e
  unfolding group_code
  one_spelled e = code_of_one e

  group_again : (events : List Event) → IsGroup enc events → (to : ℕ) × (group_at enc (beginning (group_code enc events)) ≡ Ok (events, at_place to []))
  group_again [] is = absurd (omega (arith, is.some))
  group_again (e ∷ []) is =
      let t = single_again e (whole_events (e ∷ []) is).0 in
      (t.0, ap (λ (x : List ℕ). group_at enc (beginning x)) (one_spelled e) ∙ t.1)
  group_again (e ∷ f ∷ events) is =
      let many : 1 < length (e ∷ f ∷ events) = omega arith in
      let t = several_again (e ∷ f ∷ events) is many in
      (t.0, ap (λ (x : List ℕ). group_at enc (beginning x)) (several_spelled (e ∷ f ∷ events) many) ∙ t.1)

  -- ---- all of the bytes

  pub whole_group_takes : (bytes : List ℕ) (events : List Event) → IsBytes bytes → group_of enc bytes ≡ Ok events → IsGroup enc events × (bytes ≡ group_code enc events)
  unfolding group_of
  whole_group_takes bytes events fits h =
      let a = bind_ok (group_at enc (beginning bytes)) (λ (x : List Event × Place). test (eqb (length x.1.rest) 0) (Long x.1.at) >>= λ u. Ok x.0) events h in
      let g = test_ok (eqb (length a.0.1.rest) 0) (Long a.0.1.at) (Ok a.0.0) events a.2 in
      let t = group_takes (beginning bytes) a.0.1 a.0.0 fits a.1 in
      let nothing : a.0.1.rest ≡ [] = nil_from_length a.0.1.rest (eqb-true _ _ g.0) in
      let whole : bytes ≡ group_code enc a.0.0 = t.0.parts ∙ ap (λ (r : List ℕ). group_code enc a.0.0 ++ r) nothing ∙ append-nil (group_code enc a.0.0) in
      subst (λ (x : List Event). IsGroup enc x × (bytes ≡ group_code enc x)) (ok_is a.0.0 events g.1) (t.1, whole)

  pub whole_group_again : (events : List Event) → IsGroup enc events → group_of enc (group_code enc events) ≡ Ok events
  unfolding group_of
  whole_group_again events is = let t = group_again events is in rw t.1 refl

  pub group_is_found : (bytes : List ℕ) (r : Result (Vec Event) CodecError) → IsBytes bytes → GivesList r (group_of enc bytes) → IfOk r (λ v. IsGroup enc v.items × (bytes ≡ group_code enc v.items))
  group_is_found bytes (Ok v) fits given = whole_group_takes bytes v.items fits given
  group_is_found bytes (Err e) fits given = tt

  pub groups_apart : (a b : List Event) → IsGroup enc a → IsGroup enc b → group_code enc a ≡ group_code enc b → a ≡ b
  groups_apart a b is is' e = ok_is a b (sym (whole_group_again a is) ∙ ap (group_of enc) e ∙ whole_group_again b is')

  -- a payload that spells events reads back as them
  pub group_reads_back : (events : List Event) (r : Result (Vec ℕ) AllocError) → 0 < length events → length events ≤ most_group_events → All (IsCodable enc) events
      → IfOk r (λ v. v.items ≡ group_code enc events) → OnOk r (All IsEvent events) → IfOk r (λ v. group_of enc v.items ≡ Ok events)
  group_reads_back events (Ok v) some few codable spelled typed = ap (group_of enc) spelled ∙ whole_group_again events (record { some = some; few = few; codable = codable; typed = typed })
  group_reads_back events (Err e) some few codable spelled typed = tt

  -- ---- the record of the upgrade

  -- no event has its tag
  tag_below : (e : Event) → IsCodable enc e → get_or (code enc e) 0 0 ≤ 6
  unfolding code
  tag_below (Claim node) is = absurd is
  tag_below (Release node) is = absurd is
  tag_below (Cut mult) is = omega arith
  tag_below (Offer point) is = omega arith
  tag_below (Split node column bound reason) is = omega arith
  tag_below (Close node proof) is = omega arith

  pub upgrade_is_none : (events : List Event) → IsGroup enc events → group_code enc events ≡ upgrade_code → ⊥
  upgrade_is_none [] is e = absurd (omega (arith, is.some))
  upgrade_is_none (a ∷ []) is e =
      let tag = subst (λ (l : List ℕ). get_or l 0 0 ≤ 6) (sym (one_spelled a) ∙ e) (tag_below a (whole_events (a ∷ []) is).0.0) in
      absurd (omega (arith, tag))
  upgrade_is_none (a ∷ b ∷ events) is e =
      let tag = ap (λ (l : List ℕ). get_or l 0 0) (sym (several_spelled (a ∷ b ∷ events) (omega arith)) ∙ e) in
      absurd (omega (arith, tag))
