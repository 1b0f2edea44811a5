-- The change that renames each object, and the store with it.
use Rattle.std.proofs.Common.{◌≡◌, ◌∙◌, ℕ, suc, ◌+◌, ◌<◌, ◌≤◌, Bool, true, List, [], ◌∷◌, ◌++◌, length, map, drop, get_or, Option, Some, None, refl, sym, ap, ap₂, append_assoc, append-nil, arith, subst, AllPairs, Less, lt-ltb}
use Rattle.std.proofs.Math.Path.{fun_ext}
use Rattle.std.specs.Prelude.{nat_lt, slice_get, slice_set, option_map, if◌then◌else◌}
use Rattle.std.specs.Option.{option_and_then}
use Rattle.std.proofs.lemmas.List.{drop_more, drop_all, length-append}
use Rattle.std.proofs.lemmas.Option.{slice_get-map}
use Rattle.ob_base.specs.declared.id.ContractId.{ContractId}
use Rattle.ob_base.specs.declared.id.ObjectId.{ObjectId}
use Rattle.ob_base.specs.declared.name.Label.{Label}
use Rattle.ob_table.specs.Tables.{ClassTable, contract_named}
use Rattle.ob_heap.specs.Ascending.{IsBelowAll, IsAscending}
use Rattle.ob_heap.specs.Contents.{Stored, content_of, named_of}
use Rattle.ob_heap.specs.Deltas.{AreNext, label_order, with_handles}
use Rattle.ob_heap.specs.Differences.{numbered_from, with_objects}
use Rattle.ob_heap.specs.Plain.{object_of}
use Rattle.ob_heap.specs.declared.delta.Delta.{Delta}
use Rattle.ob_heap.specs.declared.object.Handle.{Handle}
use Rattle.ob_heap.specs.declared.object.Object.{Object}
use Rattle.ob_heap_spec.specs.Contents.{Content}
use Rattle.ob_code.specs.declared.image.ContractCode.{ContractCode}
use Rattle.ob_code.specs.declared.image.Image.{Image}
use Rattle.ob_code_table.specs.ImageTables.{contract_of_code, table_of_image}
use Rattle.ob_upgrade_spec.specs.Upgraded.{or_else, namesake, upgraded_object}
use Rattle.ob_upgrade.specs.Renaming.{named_ids, renamed, renamed_object, moved_object, IsUpgrade}

-- The objects, one after another.

pub renamed_turn : (ids : List (Option ContractId)) (done : List (ObjectId × Object)) (os : List Object) (n : ℕ) (o : Object) (id : ObjectId) → n < length os
    → o ≡ get_or os n o → id ≡ record { 0 = n }
    → (done ++ (id, renamed_object ids o) ∷ []) ++ numbered_from (n + 1) (map (renamed_object ids) (drop (n + 1) os))
    ≡ done ++ numbered_from n (map (renamed_object ids) (drop n os))
renamed_turn ids done os n o id low is at =
    append_assoc done ((id, renamed_object ids o) ∷ []) (numbered_from (n + 1) (map (renamed_object ids) (drop (n + 1) os)))
    ∙ ap (λ (rest : List (ObjectId × Object)). done ++ rest)
    (ap (λ (i : ObjectId). (i, renamed_object ids o) ∷ numbered_from (n + 1) (map (renamed_object ids) (drop (n + 1) os))) at
    ∙ ap (λ k. (let i : ObjectId = record { 0 = n } in i, renamed_object ids o) ∷ numbered_from k (map (renamed_object ids) (drop (n + 1) os))) (omega arith)
    ∙ sym (ap (λ (rest : List Object). numbered_from n (map (renamed_object ids) rest)) (drop_more os n o low ∙ ap (λ z. z ∷ drop (n + 1) os) (sym is))))

pub renamed_end : (ids : List (Option ContractId)) (done : List (ObjectId × Object)) (os : List Object) (n : ℕ) → length os ≤ n
    → done ++ numbered_from n (map (renamed_object ids) (drop n os)) ≡ done
renamed_end ids done os n past =
    ap (λ (rest : List Object). done ++ numbered_from n (map (renamed_object ids) rest)) (drop_all n os past) ∙ append-nil done

pub ruleset renaming = (renamed_turn, renamed_end)

-- The numbers that they get.

names_alike : (new : ClassTable) (r : Option ContractCode)
    → option_and_then (λ id. id) (option_map (λ c. contract_named new.contracts c.name) r)
    ≡ option_and_then (λ c. contract_named new.contracts c.name) (option_map contract_of_code r)
names_alike new None = refl
names_alike new (Some c) = refl

renamed_alike : (old : Image) (new : ClassTable) (id : ContractId) → renamed (named_ids new old.contracts) id ≡ namesake (table_of_image old) new id
renamed_alike old new id =
    ap (λ (r : Option ContractId). or_else r id)
    (ap (option_and_then (λ id. id)) (slice_get-map (λ c. contract_named new.contracts c.name) old.contracts id.0)
    ∙ names_alike new (slice_get old.contracts id.0)
    ∙ sym (ap (option_and_then (λ c. contract_named new.contracts c.name)) (slice_get-map contract_of_code old.contracts id.0)))

object_alike : (old : Image) (new : ClassTable) (o : Object) → renamed_object (named_ids new old.contracts) o ≡ moved_object (table_of_image old) new o
object_alike old new o = ap (λ (id : ContractId). record o { contract = id }) (renamed_alike old new o.contract)

-- What the store is with the change.

set_there : (done rest : List Object) (x y : Object) → slice_set (done ++ x ∷ rest) (length done) y ≡ done ++ y ∷ rest
set_there [] rest x y = refl
set_there (d ∷ done) rest x y = ap (λ zs. d ∷ zs) (set_there done rest x y)

module _ (f : Object → Object) where
  with_all : (done rest : List Object) (n : ℕ) → n ≡ length done → with_objects (done ++ rest) (numbered_from n (map f rest)) ≡ done ++ map f rest
  with_all done [] n at = refl
  with_all done (o ∷ rest) n at =
      ap (λ (os : List Object). with_objects os (numbered_from (suc n) (map f rest))) (step done o rest n at)
      ∙ with_all (done ++ f o ∷ []) rest (suc n) (omega (arith, at, length-append done (f o ∷ [])))
      ∙ append_assoc done (f o ∷ []) (map f rest)
    where
      place : (done : List Object) (o : Object) (rest : List Object) (n : ℕ) → n ≡ length done → nat_lt n (length (done ++ o ∷ rest)) ≡ true
      place done o rest n at = lt-ltb n (length (done ++ o ∷ rest)) (omega (arith, at, length-append done (o ∷ rest)))

      step : (done : List Object) (o : Object) (rest : List Object) (n : ℕ) → n ≡ length done
          → (if nat_lt n (length (done ++ o ∷ rest)) then slice_set (done ++ o ∷ rest) n (f o) else (done ++ o ∷ rest) ++ f o ∷ [])
          ≡ (done ++ f o ∷ []) ++ rest
      step done o rest n at =
          ap (λ (b : Bool). if b then slice_set (done ++ o ∷ rest) n (f o) else (done ++ o ∷ rest) ++ f o ∷ []) (place done o rest n at)
          ∙ ap (λ k. slice_set (done ++ o ∷ rest) k (f o)) at
          ∙ set_there done rest o (f o)
          ∙ sym (append_assoc done (f o ∷ []) rest)

  below_all : (n k : ℕ) (os : List Object) → n < k → IsBelowAll (λ (e : ObjectId × Object). e.0.0) n (numbered_from k (map f os))
  below_all n k [] low = tt
  below_all n k (o ∷ os) low = (low, below_all n (suc k) os (omega (arith, low)))

  ascending : (n : ℕ) (os : List Object) → IsAscending (λ (e : ObjectId × Object). e.0.0) (numbered_from n (map f os))
  ascending n [] = tt
  ascending n (o ∷ os) = (below_all n (suc n) os (omega arith), ascending (suc n) os)

  all_next : (count n : ℕ) (os : List Object) → n + length os ≤ count → AreNext count (numbered_from n (map f os))
  all_next count n [] low = tt
  all_next count n (o ∷ os) low =
      (omega (arith, low), ap_next (lt-ltb n count (omega (arith, low))) (all_next count (suc n) os (omega (arith, low))))
    where
      ap_next : {b : Bool} → b ≡ true → AreNext count (numbered_from (suc n) (map f os))
          → AreNext (if b then count else suc count) (numbered_from (suc n) (map f os))
      ap_next e are = subst (λ (b : Bool). AreNext (if b then count else suc count) (numbered_from (suc n) (map f os))) (sym e) are

plain_alike : (old new : ClassTable) (os : List Object) → map object_of (map (moved_object old new) os) ≡ map (upgraded_object old new) (map object_of os)
plain_alike old new [] = refl
plain_alike old new (o ∷ os) = ap (λ zs. object_of (moved_object old new o) ∷ zs) (plain_alike old new os)

pub is_upgrade : (old : Image) (new : ClassTable) (c : Stored) (d : Delta)
    → d.objects ≡ numbered_from 0 (map (renamed_object (named_ids new old.contracts)) c.objects) → d.handles ≡ []
    → IsUpgrade (table_of_image old) new c d
is_upgrade old new c d objects handles =
    let moves = moved_object (table_of_image old) new in
    let said : d.objects ≡ numbered_from 0 (map moves c.objects) =
    objects ∙ ap (λ (f : Object → Object). numbered_from 0 (map f c.objects)) (fun_ext (object_alike old new)) in
    record {
      objects = said;
      handles = handles;
      is_delta = record {
        objects = subst (IsAscending (λ (e : ObjectId × Object). e.0.0)) (sym said) (ascending moves 0 c.objects);
        next = subst (AreNext (length c.objects)) (sym said) (all_next moves (length c.objects) 0 c.objects (omega arith));
        handles = subst (AllPairs (λ (a b : (Label × Label) × Option Handle). label_order a.0 b.0 ≡ Less)) (sym handles)
            (λ i j e low inside. absurd (omega (arith, inside)));
      };
      holds =
          ap₂ (λ (os : List Object) (hs : List ((Label × Label) × Handle)). content_of (record c { objects = os; handles = hs }))
          (ap (with_objects c.objects) said ∙ with_all moves [] c.objects 0 refl) (ap (with_handles c.handles) handles)
          ∙ ap (λ os. let made : Content = record { objects = os; handles = map named_of c.handles } in made)
          (plain_alike (table_of_image old) new c.objects);
    }
