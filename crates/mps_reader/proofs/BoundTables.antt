-- Lemmas: the table of bounds after the lines before.
use Rattle.std.specs.Prelude.{◌≡◌, ℕ, Bool, true, false, cond, List, ◌∷◌, Some, None, length, ◌≢◌, []}
use Rattle.std.specs.Str.{bytes_eq}
use Rattle.std.proofs.Common.{refl, sym, ap, ◌∙◌}
use denote.Ref.{Bor}
use Rattle.indexmap.specs.IndexMap.{insert_entry}
use Rattle.mps_reader.specs.Lemmas.Named.{same_text, bytes_flip}
use Rattle.mps_reader.specs.Sections.{bound_with_value, bound_without_value}
use Rattle.mps_reader.specs.Tables.{table, texts}
use Rattle.mps_reader.specs.Words.{value_under}
use Rattle.mps_reader.specs.declared.kinds.BoundType.{BoundType}

-- other counts of fields are no line
pub bound_with_value_none : (type : BoundType) (fields : List (Bor (List ℕ))) → length fields ≢ 2 → length fields ≢ 3 → bound_with_value type (texts fields) ≡ None
bound_with_value_none type [] h k = refl
bound_with_value_none type (a ∷ []) h k = refl
bound_with_value_none type (a ∷ b ∷ []) h k = absurd (h refl)
bound_with_value_none type (a ∷ b ∷ c ∷ []) h k = absurd (k refl)
bound_with_value_none type (a ∷ b ∷ c ∷ d ∷ fields) h k = refl

pub bound_without_value_none : (type : BoundType) (fields : List (Bor (List ℕ))) → length fields ≢ 1 → length fields ≢ 2 → length fields ≢ 3 → bound_without_value type (texts fields) ≡ None
bound_without_value_none type [] h k l = refl
bound_without_value_none type (a ∷ []) h k l = absurd (h refl)
bound_without_value_none type (a ∷ b ∷ []) h k l = absurd (k refl)
bound_without_value_none type (a ∷ b ∷ c ∷ []) h k l = absurd (l refl)
bound_without_value_none type (a ∷ b ∷ c ∷ d ∷ fields) h k l = refl

abbrev pub same_name : Bor (List ℕ) → Bor (List ℕ) → Bool
same_name a b = bytes_eq a.now b.now

pub value_under_insert : {V : Type 0} (es : List (Bor (List ℕ) × V)) (k : Bor (List ℕ)) (v : V) (name : List ℕ)
    → value_under (table (insert_entry same_name es k v)) name ≡ cond (bytes_eq k.now name) (Some v) (value_under (table es) name)
value_under_insert [] k v name = ap (λ (b : Bool). cond b (Some v) None) (bytes_flip name k.now)
value_under_insert (e ∷ es) k v name = by (bytes_eq k.now e.0.now) (bytes_eq k.now name) (bytes_eq name e.0.now) refl refl refl (value_under_insert es k v name)
  where
    by : (own same here : Bool) → bytes_eq k.now e.0.now ≡ own → bytes_eq k.now name ≡ same → bytes_eq name e.0.now ≡ here
        → value_under (table (insert_entry same_name es k v)) name ≡ cond (bytes_eq k.now name) (Some v) (value_under (table es) name)
        → value_under (table (cond own ((e.0, v) ∷ es) (e ∷ insert_entry same_name es k v))) name ≡ cond same (Some v) (cond here (Some e.1) (value_under (table es) name))
    by true same here o s h rest =
        let k_is : k.now ≡ e.0.now = same_text k.now e.0.now o in
        ap (λ (b : Bool). cond b (Some v) (value_under (table es) name)) (ap (λ w. bytes_eq name w) (sym k_is) ∙ bytes_flip name k.now ∙ s)
        ∙ own_by same here (sym s ∙ bytes_flip k.now name ∙ ap (λ w. bytes_eq name w) k_is ∙ h)
      where
        own_by : (same here : Bool) → same ≡ here → cond same (Some v) (value_under (table es) name) ≡ cond same (Some v) (cond here (Some e.1) (value_under (table es) name))
        own_by true here q = refl
        own_by false true q = cc
        own_by false false q = refl
    by false true true o s h rest = absurd (apart (sym o ∙ (ap (λ w. bytes_eq k.now w) (sym (same_text name e.0.now h)) ∙ s)))
      where
        apart : false ≡ true → ⊥
        apart q = cc
    by false true false o s h rest = ap (λ (b : Bool). cond b (Some e.1) (value_under (table (insert_entry same_name es k v)) name)) h ∙ rest ∙ ap (λ (b : Bool). cond b (Some v) (value_under (table es) name)) s
    by false false here o s h rest = ap (λ (b : Bool). cond b (Some e.1) (value_under (table (insert_entry same_name es k v)) name)) h
        ∙ ap (λ t. cond here (Some e.1) t) (rest ∙ ap (λ (b : Bool). cond b (Some v) (value_under (table es) name)) s)
