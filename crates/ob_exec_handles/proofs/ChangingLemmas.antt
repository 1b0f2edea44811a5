-- An object that is marked.
use Rattle.std.proofs.Common.{◌≡◌, ℕ, zero, suc, ◌<◌, Bool, true, false, List, [], ◌∷◌, ◌++◌, length, map, set, Option, Some, None, refl, sym, ap, subst, ◌∙◌, true≢false, arith}
use Rattle.std.specs.Prelude.{nat_lt, slice_get, slice_set, option_map, if◌then◌else◌}
use Rattle.std.specs.Option.{option_map_or}
use Rattle.std.proofs.lemmas.List.{map-set}
use Rattle.std.proofs.lemmas.List.Elements.{All-from_recursion}
use Rattle.std.proofs.lemmas.Option.{slice_get-map, slice_get_within}
use Rattle.ob_base.specs.declared.id.ObjectId.{ObjectId}
use Rattle.ob_heap_spec.specs.Objects.{Object as PlainObject}
use Rattle.ob_heap_spec.specs.Contents.{object_at}
use Rattle.ob_heap.specs.declared.object.Object.{Object}
use Rattle.ob_heap.specs.Plain.{object_of}
use Rattle.ob_exec_handles.specs.Marking.{has_mark, marked, is_marked, with_mark}
use Rattle.ob_exec_handles.specs.Parts.{ObjectsLead}
use Rattle.ob_exec_handles.specs.declared.marking.Mark.{Mark}
use Rattle.ob_exec_handles.specs.declared.marking.Mark.TheVariants.{Shared, Disowned}
use Rattle.ob_exec_handles.proofs.PartsLemmas.{no_objects}

-- the objects with a mark, by the object of the number
abbrev mark_by : Mark → ℕ → List PlainObject → Option PlainObject → List PlainObject
mark_by mark n os r =
    if option_map_or (has_mark mark) r true then os else option_map_or (λ o. slice_set os n (marked mark o)) r os

looked : (base : List Object) (n : ℕ) (r : Option Object) → slice_get base n ≡ r → object_at (map object_of base) n ≡ option_map object_of r
looked base n r at = slice_get-map object_of base n ∙ ap (option_map object_of) at

pub mark_missing : (mark : Mark) (n : ℕ) (base : List Object) (changes : List (ObjectId × Object)) → slice_get base n ≡ None → changes ≡ []
    → ObjectsLead base changes (with_mark mark n (map object_of base))
mark_missing mark n base changes at none =
    subst (λ cs. ObjectsLead base cs (with_mark mark n (map object_of base))) (sym none)
    (subst (ObjectsLead base []) (sym (ap (mark_by mark n (map object_of base)) (looked base n None at))) (no_objects base))

pub mark_kept : (mark : Mark) (n : ℕ) (base : List Object) (o : Object) (changes : List (ObjectId × Object)) → slice_get base n ≡ Some o
    → has_mark mark (object_of o) ≡ true → changes ≡ [] → ObjectsLead base changes (with_mark mark n (map object_of base))
mark_kept mark n base o changes at has none =
    subst (λ cs. ObjectsLead base cs (with_mark mark n (map object_of base))) (sym none)
    (subst (ObjectsLead base []) (sym (ap (mark_by mark n (map object_of base)) (looked base n (Some o) at)
    ∙ ap (λ b. if b then map object_of base else slice_set (map object_of base) n (marked mark (object_of o))) has)) (no_objects base))

mark_there : (mark : Mark) (o : PlainObject) → has_mark mark (marked mark o) ≡ true
mark_there Shared o = refl
mark_there Disowned o = refl

is_lower : (m n : ℕ) → m < n → nat_lt m n ≡ true
is_lower m n h = grind arith

set_leads : (mark : Mark) (id : ObjectId) (base : List Object) (o y : Object) → slice_get base id.0 ≡ Some o → has_mark mark (object_of o) ≡ false
    → object_of y ≡ marked mark (object_of o) → ObjectsLead base ((id, y) ∷ []) (with_mark mark id.0 (map object_of base))
set_leads mark id base o y at has is =
    let l : id.0 < length base = slice_get_within base id.0 o at in
    let to : with_mark mark id.0 (map object_of base) ≡ set (map object_of base) id.0 (marked mark (object_of o)) =
    ap (mark_by mark id.0 (map object_of base)) (looked base id.0 (Some o) at)
    ∙ ap (λ b. if b then map object_of base else slice_set (map object_of base) id.0 (marked mark (object_of o))) has in
    record {
      order = (tt, tt);
      next = (omega arith, tt);
      is = ap (λ b. map object_of (if b then set base id.0 y else base ++ y ∷ [])) (is_lower id.0 (length base) l)
          ∙ map-set object_of base id.0 y ∙ ap (set (map object_of base) id.0) is ∙ sym to;
      others = All-from_recursion (λ (e : ObjectId × Object). ¬ (object_at (map object_of base) e.0.0 ≡ Some (object_of e.1))) ((id, y) ∷ []) (other, tt);
    }
  where
    other : ¬ (object_at (map object_of base) id.0 ≡ Some (object_of y))
    other e =
        let both : ◌≡◌ {A = Option PlainObject} (Some (object_of o)) (Some (object_of y)) = sym (looked base id.0 (Some o) at) ∙ e in
        let same : object_of o ≡ object_of y = cc in
        true≢false (sym (ap (has_mark mark) is ∙ mark_there mark (object_of o)) ∙ ap (has_mark mark) (sym same) ∙ has)

pub mark_set : (mark : Mark) (id : ObjectId) (base : List Object) (o y : Object) (changes : List (ObjectId × Object)) → slice_get base id.0 ≡ Some o
    → has_mark mark (object_of o) ≡ false → object_of y ≡ marked mark (object_of o) → changes ≡ (id, y) ∷ []
    → ObjectsLead base changes (with_mark mark id.0 (map object_of base))
mark_set mark id base o y changes at has is one =
    subst (λ cs. ObjectsLead base cs (with_mark mark id.0 (map object_of base))) (sym one) (set_leads mark id base o y at has is)

-- a mark that is there isn't set again
after_mark : (mark : Mark) (n : ℕ) (os : List PlainObject) → is_marked mark n (with_mark mark n os) ≡ true
after_mark mark n os = by (object_at os n) refl
  where
    there : (xs : List PlainObject) (m : ℕ) (o p : PlainObject) → slice_get xs m ≡ Some o → slice_get (set xs m p) m ≡ Some p
    there [] m o p e = absurd cc
    there (x ∷ xs) zero o p e = refl
    there (x ∷ xs) (suc m) o p e = there xs m o p e

    set_there : (b : Bool) (o : PlainObject) → object_at os n ≡ Some o → has_mark mark o ≡ b
        → is_marked mark n (if b then os else slice_set os n (marked mark o)) ≡ true
    set_there true o at has = ap (λ r. option_map_or (has_mark mark) r true) at ∙ has
    set_there false o at has = ap (λ r. option_map_or (has_mark mark) r true) (there os n o (marked mark o) at) ∙ mark_there mark o

    by : (r : Option PlainObject) → object_at os n ≡ r → is_marked mark n (with_mark mark n os) ≡ true
    by None at = ap (λ r. is_marked mark n (mark_by mark n os r)) at ∙ ap (λ r. option_map_or (has_mark mark) r true) at
    by (Some o) at = ap (λ r. is_marked mark n (mark_by mark n os r)) at ∙ set_there (has_mark mark o) o at refl

pub mark_again : (mark : Mark) (n : ℕ) (os : List PlainObject) → with_mark mark n (with_mark mark n os) ≡ with_mark mark n os
mark_again mark n os =
    ap (λ b. if b then with_mark mark n os else option_map_or (λ o. slice_set (with_mark mark n os) n (marked mark o)) (object_at (with_mark mark n os) n) (with_mark mark n os))
    (after_mark mark n os)
