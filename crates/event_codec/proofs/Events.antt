-- The laws of events: what is read is spelled so, and what is spelled so is read.
use Rattle.std.proofs.Common.{◌≡◌, ℕ, Bool, true, cond, eqb, List, [], ◌∷◌, ◌++◌, length, Result, Ok, Err, refl, sym, ap, subst, ◌∙◌, append_assoc, inl, inr}
use Rattle.std.specs.Prelude.{ℤ, IfOk}
use Rattle.std.specs.Int.{w64}
use Rattle.std.specs.Int.RustNames.{FitsSigned}
use Rattle.std.proofs.lemmas.Bool.{eqb-true}
use Rattle.std.proofs.lemmas.List.{append-nil, nil_from_length}
use Rattle.problem.specs.Linear.{Multipliers, Point}
use Rattle.node_events.specs.declared.event.Event.{Event}
use Rattle.node_events.specs.declared.event.Event.TheVariants.{Claim, Release, Cut, Offer, Split, Close}
use Rattle.node_events.specs.declared.reason.Reason.{Reason}
use Rattle.node_events.specs.declared.proof.Proof.{Proof}
use Rattle.event_codec.specs.declared.enc.Enc.{Enc}
use Rattle.event_codec.specs.declared.fault.CodecFault.TheVariants.{BadTag, Long}
use Rattle.event_codec.specs.declared.fault.CodecError.{CodecError}
use Rattle.event_codec.specs.Places.{Place, beginning}
use Rattle.event_codec.specs.ReadResults.{◌>>=◌, test, Gives}
use Rattle.event_codec.specs.Codes.{u32_code, i64_code, list_code, mult_code, reason_code, proof_code, code, IsShort, IsCodable}
use Rattle.event_codec.specs.Types.{FitsU32, IsMult, IsPoint, IsEvent}
use Rattle.event_codec.specs.Reading.{byte_at, u32_at, i64_at, point_at, mult_at, reason_at, proof_at, cut_at, offer_at, split_at, close_at, event_at, event_of}
use Rattle.event_codec.proofs.Binds.{bind_ok, test_ok, ok_is, ok_then}
use Rattle.event_codec.proofs.Numbers.{IsBytes}
use Rattle.event_codec.proofs.Fields.{Takes, Takes-then, at_place, byte_field, u32_field, i64_field}
use Rattle.event_codec.proofs.Lists.{point_field, mult_field}
use Rattle.event_codec.proofs.Parts.{IsWholeReason, IsWholeProof, reason_field, proof_field}
use Rattle.event_codec.proofs.Combined.{TakesBehind, with_tag, made_takes, made_again, both_take, both_again, tag_cases, at_tag}

abbrev AreShortMult : Multipliers → Type 0
AreShortMult ms = IsShort ms × IsMult ms

abbrev IsShortPoint : Point → Type 0
IsShortPoint z = IsShort z × IsPoint z

-- ---- all of the bytes

guard_ended : (b : Bool) (e : Event) (y : Event) (place : ℕ) → (test b (Long place) >>= λ u. Ok e) ≡ Ok y → (b ≡ true) × (e ≡ y)
guard_ended b e y place h = let t = test_ok b (Long place) (Ok e) y h in (t.0, ok_is e y t.1)

module _ (enc : Enc) where
  abbrev pub IsWholeEvent : Event → Type 0
  IsWholeEvent e = IsCodable enc e × IsEvent e

  -- ---- what is read is spelled so

  cut_takes : (p q : Place) (y : Event) → IsBytes p.rest → cut_at enc p ≡ Ok (y, q) → TakesBehind 2 (code enc) IsWholeEvent p q y
  unfolding cut_at code
  cut_takes p q y fits e = made_takes (mult_at enc) (mult_code enc) AreShortMult (mult_field enc) Cut 2 (code enc) IsWholeEvent (λ a. refl) (λ a is. is) p q y fits e

  offer_takes : (p q : Place) (y : Event) → IsBytes p.rest → offer_at enc p ≡ Ok (y, q) → TakesBehind 3 (code enc) IsWholeEvent p q y
  unfolding offer_at code
  offer_takes p q y fits e = made_takes (point_at enc) (list_code enc (i64_code enc)) IsShortPoint (point_field enc) Offer 3 (code enc) IsWholeEvent (λ a. refl) (λ a is. is) p q y fits e

  split_takes : (p q : Place) (y : Event) → IsBytes p.rest → split_at enc p ≡ Ok (y, q) → TakesBehind 4 (code enc) IsWholeEvent p q y
  unfolding split_at code
  split_takes p q y fits e =
      let a = bind_ok (u32_at enc p) (λ (node : ℕ × Place). u32_at enc node.1 >>= λ column. i64_at enc column.1 >>= λ bound. reason_at enc bound.1 >>= λ reason. Ok (Split node.0 column.0 bound.0 reason.0, reason.1)) (y, q) e in
      let b = bind_ok (u32_at enc a.0.1) (λ (column : ℕ × Place). i64_at enc column.1 >>= λ bound. reason_at enc bound.1 >>= λ reason. Ok (Split a.0.0 column.0 bound.0 reason.0, reason.1)) (y, q) a.2 in
      let c = bind_ok (i64_at enc b.0.1) (λ (bound : ℤ × Place). reason_at enc bound.1 >>= λ reason. Ok (Split a.0.0 b.0.0 bound.0 reason.0, reason.1)) (y, q) b.2 in
      let d = bind_ok (reason_at enc c.0.1) (λ (reason : Reason × Place). Ok (Split a.0.0 b.0.0 c.0.0 reason.0, reason.1)) (y, q) c.2 in
      let t0 = (u32_field enc).takes p a.0.1 a.0.0 fits a.1 in
      let t1 = (u32_field enc).takes a.0.1 b.0.1 b.0.0 t0.0.rest_fits b.1 in
      let t2 = (i64_field enc).takes b.0.1 c.0.1 c.0.0 t1.0.rest_fits c.1 in
      let t3 = (reason_field enc).takes c.0.1 d.0.1 d.0.0 t2.0.rest_fits d.1 in
      let e01 = Takes-then p.rest (u32_code enc a.0.0) a.0.1.rest (u32_code enc b.0.0) b.0.1.rest t0.0 t1.0 in
      let e02 = Takes-then p.rest (u32_code enc a.0.0 ++ u32_code enc b.0.0) b.0.1.rest (i64_code enc c.0.0) c.0.1.rest e01 t2.0 in
      let e03 = Takes-then p.rest (u32_code enc a.0.0 ++ u32_code enc b.0.0 ++ i64_code enc c.0.0) c.0.1.rest (reason_code enc d.0.0) d.0.1.rest e02 t3.0 in
      let taken = with_tag 4 p.rest (u32_code enc a.0.0 ++ u32_code enc b.0.0 ++ i64_code enc c.0.0 ++ reason_code enc d.0.0) d.0.1.rest e03 in
      ok_then (λ (x : Event × Place). Takes (4 ∷ p.rest) (code enc x.0) x.1.rest × IsWholeEvent x.0) (Split a.0.0 b.0.0 c.0.0 d.0.0, d.0.1) (y, q) d.2 (taken, (t3.1.0, (t0.1, t1.1, t2.1, t3.1.1)))

  close_takes : (p q : Place) (y : Event) → IsBytes p.rest → close_at enc p ≡ Ok (y, q) → TakesBehind 5 (code enc) IsWholeEvent p q y
  unfolding close_at code
  close_takes p q y fits e = both_take (u32_at enc) (u32_code enc) FitsU32 (u32_field enc) (proof_at enc) (proof_code enc) IsWholeProof (proof_field enc) Close 5 (code enc) IsWholeEvent (λ a b. refl) (λ a b is is'. (is'.0, (is, is'.1))) p q y fits e

  pub event_takes : (p q : Place) (y : Event) → IsBytes p.rest → event_at enc p ≡ Ok (y, q) → Takes p.rest (code enc y) q.rest × IsWholeEvent y
  unfolding event_at
  event_takes p q y fits e =
      let b = bind_ok (byte_at p) (λ (tag : ℕ × Place). cond (eqb tag.0 2) (cut_at enc tag.1) (cond (eqb tag.0 3) (offer_at enc tag.1) (cond (eqb tag.0 4) (split_at enc tag.1) (cond (eqb tag.0 5) (close_at enc tag.1) (Err (BadTag p.at)))))) (y, q) e in
      let n = b.0.0 in
      let p' = b.0.1 in
      let t = (byte_field.takes p p' n fits b.1).0 in
      elim (tag_cases n 2 (cut_at enc p') (cond (eqb n 3) (offer_at enc p') (cond (eqb n 4) (split_at enc p') (cond (eqb n 5) (close_at enc p') (Err (BadTag p.at))))) (y, q) b.2) [
        | inl h ↦ at_tag (code enc) IsWholeEvent p p' q n 2 y t h.0 (cut_takes p' q y t.rest_fits h.1)
        | inr h ↦ elim (tag_cases n 3 (offer_at enc p') (cond (eqb n 4) (split_at enc p') (cond (eqb n 5) (close_at enc p') (Err (BadTag p.at)))) (y, q) h) [
          | inl h ↦ at_tag (code enc) IsWholeEvent p p' q n 3 y t h.0 (offer_takes p' q y t.rest_fits h.1)
          | inr h ↦ elim (tag_cases n 4 (split_at enc p') (cond (eqb n 5) (close_at enc p') (Err (BadTag p.at))) (y, q) h) [
            | inl h ↦ at_tag (code enc) IsWholeEvent p p' q n 4 y t h.0 (split_takes p' q y t.rest_fits h.1)
            | inr h ↦ elim (tag_cases n 5 (close_at enc p') (Err (BadTag p.at)) (y, q) h) [
              | inl h ↦ at_tag (code enc) IsWholeEvent p p' q n 5 y t h.0 (close_takes p' q y t.rest_fits h.1)
              | inr h ↦ absurd cc
            ]
          ]
        ]
      ]

  -- ---- what is spelled so is read

  cut_again : (ms : Multipliers) (place : ℕ) (rest : List ℕ) → AreShortMult ms → (to : ℕ) × (cut_at enc (at_place place (mult_code enc ms ++ rest)) ≡ Ok (Cut ms, at_place to rest))
  unfolding cut_at
  cut_again ms place rest is = made_again (mult_at enc) (mult_code enc) AreShortMult (mult_field enc) Cut ms place rest is

  offer_again : (z : Point) (place : ℕ) (rest : List ℕ) → IsShortPoint z → (to : ℕ) × (offer_at enc (at_place place (list_code enc (i64_code enc) z ++ rest)) ≡ Ok (Offer z, at_place to rest))
  unfolding offer_at
  offer_again z place rest is = made_again (point_at enc) (list_code enc (i64_code enc)) IsShortPoint (point_field enc) Offer z place rest is

  split_again : (node column : ℕ) (bound : ℤ) (reason : Reason) (place : ℕ) (rest : List ℕ) → FitsU32 node → FitsU32 column → FitsSigned w64 bound → IsWholeReason reason
      → (to : ℕ) × (split_at enc (at_place place ((u32_code enc node ++ u32_code enc column ++ i64_code enc bound ++ reason_code enc reason) ++ rest)) ≡ Ok (Split node column bound reason, at_place to rest))
  unfolding split_at
  split_again node column bound reason place rest is0 is1 is2 is3 =
      let a = u32_code enc node in
      let b = u32_code enc column in
      let c = i64_code enc bound in
      let d = reason_code enc reason in
      let regrouped : (a ++ b ++ c ++ d) ++ rest ≡ a ++ (b ++ (c ++ (d ++ rest))) = simp append_assoc in
      let t0 = (u32_field enc).again node place (b ++ (c ++ (d ++ rest))) is0 in
      let t1 = (u32_field enc).again column t0.0 (c ++ (d ++ rest)) is1 in
      let t2 = (i64_field enc).again bound t1.0 (d ++ rest) is2 in
      let t3 = (reason_field enc).again reason t2.0 rest is3 in
      (t3.0, rw (regrouped, t0.1, t1.1, t2.1, t3.1) refl)

  close_again : (node : ℕ) (proof : Proof) (place : ℕ) (rest : List ℕ) → FitsU32 node → IsWholeProof proof → (to : ℕ) × (close_at enc (at_place place ((u32_code enc node ++ proof_code enc proof) ++ rest)) ≡ Ok (Close node proof, at_place to rest))
  unfolding close_at
  close_again node proof place rest is is' = both_again (u32_at enc) (u32_code enc) FitsU32 (u32_field enc) (proof_at enc) (proof_code enc) IsWholeProof (proof_field enc) Close node proof place rest is is'

  pub event_again : (e : Event) (place : ℕ) (rest : List ℕ) → IsWholeEvent e → (to : ℕ) × (event_at enc (at_place place (code enc e ++ rest)) ≡ Ok (e, at_place to rest))
  unfolding event_at code
  event_again (Claim node) place rest is = absurd is.0
  event_again (Release node) place rest is = absurd is.0
  event_again (Cut mult) place rest is =
      let b = byte_field.again 2 place (mult_code enc mult ++ rest) tt in
      let v = cut_again mult b.0 rest is in
      (v.0, rw b.1 v.1)
  event_again (Offer point) place rest is =
      let b = byte_field.again 3 place (list_code enc (i64_code enc) point ++ rest) tt in
      let v = offer_again point b.0 rest is in
      (v.0, rw b.1 v.1)
  event_again (Split node column bound reason) place rest is =
      let b = byte_field.again 4 place ((u32_code enc node ++ u32_code enc column ++ i64_code enc bound ++ reason_code enc reason) ++ rest) tt in
      let v = split_again node column bound reason b.0 rest is.1.0 is.1.1 is.1.2 (is.0, is.1.3) in
      (v.0, rw b.1 v.1)
  event_again (Close node proof) place rest is =
      let b = byte_field.again 5 place ((u32_code enc node ++ proof_code enc proof) ++ rest) tt in
      let v = close_again node proof b.0 rest is.1.0 (is.0, is.1.1) in
      (v.0, rw b.1 v.1)

  pub whole_takes : (bytes : List ℕ) (e : Event) → IsBytes bytes → event_of enc bytes ≡ Ok e → IsCodable enc e × IsEvent e × (bytes ≡ code enc e)
  unfolding event_of
  whole_takes bytes e fits h =
      let a = bind_ok (event_at enc (beginning bytes)) (λ (x : Event × Place). test (eqb (length x.1.rest) 0) (Long x.1.at) >>= λ u. Ok x.0) e h in
      let g = guard_ended (eqb (length a.0.1.rest) 0) a.0.0 e a.0.1.at a.2 in
      let t = event_takes (beginning bytes) a.0.1 a.0.0 fits a.1 in
      let nothing : a.0.1.rest ≡ [] = nil_from_length a.0.1.rest (eqb-true _ _ g.0) in
      let whole : bytes ≡ code enc a.0.0 = t.0.parts ∙ ap (λ (r : List ℕ). code enc a.0.0 ++ r) nothing ∙ append-nil (code enc a.0.0) in
      subst (λ (x : Event). IsCodable enc x × IsEvent x × (bytes ≡ code enc x)) g.1 (t.1.0, t.1.1, whole)

  pub whole_again : (e : Event) → IsCodable enc e → IsEvent e → event_of enc (code enc e) ≡ Ok e
  unfolding event_of
  whole_again e is is' =
      let t = event_again e 0 [] (is, is') in
      let read : event_at enc (beginning (code enc e)) ≡ Ok (e, at_place t.0 []) = ap (λ (x : List ℕ). event_at enc (beginning x)) (sym (append-nil (code enc e))) ∙ t.1 in
      rw read refl

  pub is_found : (bytes : List ℕ) (r : Result Event CodecError) → IsBytes bytes → Gives r (event_of enc bytes) → IfOk r (λ e. IsCodable enc e × IsEvent e × (bytes ≡ code enc e))
  is_found bytes (Ok e) fits given = whole_takes bytes e fits given
  is_found bytes (Err e) fits given = tt

  -- where bytes begin with two codes, the events and what stands behind are one
  pub no_prefix : (a b : Event) (x y : List ℕ) → IsCodable enc a → IsCodable enc b → IsEvent a → IsEvent b → code enc a ++ x ≡ code enc b ++ y → (a ≡ b) × (x ≡ y)
  no_prefix a b x y is is' typed typed' e =
      let t = event_again a 0 x (is, typed) in
      let u = event_again b 0 y (is', typed') in
      let same = ok_is (a, at_place t.0 x) (b, at_place u.0 y) (sym t.1 ∙ ap (λ (z : List ℕ). event_at enc (at_place 0 z)) e ∙ u.1) in
      (ap (λ (z : Event × Place). z.0) same, ap (λ (z : Event × Place). z.1.rest) same)

  pub told_apart : (a b : Event) → IsCodable enc a → IsCodable enc b → IsEvent a → IsEvent b → code enc a ≡ code enc b → a ≡ b
  told_apart a b is is' typed typed' e = (no_prefix a b [] [] is is' typed typed' (ap (λ (z : List ℕ). z ++ []) e)).0
