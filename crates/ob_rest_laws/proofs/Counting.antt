-- The owning places of an object are fields and handles.
use Rattle.std.proofs.Common.{◌≡◌, ℕ, suc, ◌+◌, Bool, true, false, List, [], ◌∷◌, map, length, refl, ap}
use Rattle.std.specs.Prelude.{filter, cond, ◌&&◌, nat_eq}
use Rattle.std.proofs.lemmas.List.Elements.{filter-append}
use Rattle.std.proofs.lemmas.List.{length-append}
use Rattle.ob_table.specs.Tables.{ClassTable}
use Rattle.ob_heap_spec.specs.Contents.{Content}
use Rattle.ob_rest_spec.specs.Modes.{is_owned}
use Rattle.ob_rest_spec.specs.References.{field_references}
use Rattle.ob_rest_spec.specs.Incoming.{incoming_by_field, incoming_by_handle, fields_onto, handles_onto, owners}
use Rattle.ob_rest_laws.specs.Laws.{field_owners, handle_owners}

-- one item of a list that is filtered, mapped and filtered again
counting_one : {X Y : Type 0} (f : X → Y) (p : Y → Bool) (x : X) (ys : List Y) (zs : List X)
    → length (filter p ys) ≡ length zs → (b c : Bool) → p (f x) ≡ c
    → length (filter p (cond b (f x ∷ ys) ys)) ≡ length (cond (b && c) (x ∷ zs) zs)
counting_one f p x ys zs same true true is = rw is (ap suc same)
counting_one f p x ys zs same true false is = rw is same
counting_one f p x ys zs same false c is = same

-- a list under a condition, mapped
mapping_one : {X Y : Type 0} (f : X → Y) (x : X) (xs : List X) (b : Bool)
    → map f (cond b (x ∷ xs) xs) ≡ cond b (f x ∷ map f xs) (map f xs)
mapping_one f x xs true = refl
mapping_one f x xs false = refl

-- how many pass the second test after the first
counting : {X Y : Type 0} (q : X → Bool) (f : X → Y) (p : Y → Bool) (xs : List X)
    → length (filter p (map f (filter q xs))) ≡ length (filter (λ x. q x && p (f x)) xs)
counting q f p [] = refl
counting q f p (x ∷ xs) =
    rw (mapping_one f x (filter q xs) (q x))
    (counting_one f p x (map f (filter q xs)) (filter (λ y. q y && p (f y)) xs) (counting q f p xs)
    (q x) (p (f x)) refl)

pub owners_add_up : (table : ClassTable) (content : Content) (n : ℕ)
    → owners table content n ≡ field_owners table content.objects n + handle_owners content.handles n
owners_add_up table content n =
    let fields = map incoming_by_field (fields_onto table content.objects n) in
    let handles = map incoming_by_handle (handles_onto content.handles n) in
    let apart = filter-append (λ r. is_owned r.mode) fields handles in
    let lengths = length-append (filter (λ r. is_owned r.mode) fields) (filter (λ r. is_owned r.mode) handles) in
    let by_fields = counting (λ r. nat_eq r.object n) incoming_by_field (λ r. is_owned r.mode)
    (field_references table content.objects) in
    let by_handles = counting (λ h. nat_eq h.1.object n) incoming_by_handle (λ r. is_owned r.mode) content.handles in
    rw (apart, lengths, by_fields, by_handles) refl
