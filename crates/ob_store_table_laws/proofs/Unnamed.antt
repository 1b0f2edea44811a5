-- Objects, payloads and changes by a class table without names are those by the class table.
use Rattle.std.proofs.Common.{◌≡◌, ◌∙◌, ℕ, suc, Bool, false, List, [], ◌∷◌, ◌++◌, length, Option, Some, None, refl, sym, ap, subst}
use Rattle.std.proofs.Math.Path.{fun_ext}
use Rattle.std.specs.Prelude.{nat_lt, not, map, filter, fold, slice_set, bytes_eq, option_map, IsSomeAnd, if◌then◌else◌}
use Rattle.std.specs.Option.{option_map_or}
use Rattle.ob_base.specs.declared.id.ContractId.{ContractId}
use Rattle.ob_base.specs.declared.id.StateId.{StateId}
use Rattle.ob_table.specs.Tables.{ClassTable, contract_at}
use Rattle.ob_table.specs.declared.contract.Contract.{Contract}
use Rattle.ob_format_spec.specs.Formats.{Format}
use Rattle.ob_format_spec.specs.Combinators.{and_then, ◌⨟◌, of_parts, times, counted}
use Rattle.ob_heap_spec.specs.Values.{Value, Numbered, nothing}
use Rattle.ob_heap_spec.specs.Objects.{Object, is_available}
use Rattle.ob_heap_spec.specs.Contents.{Content, IsStateOf, IsObjectOf, IsObject, object_at}
use Rattle.ob_emit_laws.specs.Names.{contract_without_names, without_names}
use Rattle.ob_emit_laws.proofs.Unnamed.{said_alike, contract_unnamed}
use Rattle.ob_store_spec.specs.Payloads.{StoredObject, Changes, value, available_count, object_head, object, handle, payload}
use Rattle.ob_store_spec.specs.Changes.{fields_from, object_of, with_object, with_change, with_changes}
use Rattle.ob_store_spec.specs.Between.{values_from, stored_object, stored_from, is_stored_so, changed_handles, changes_between, all_of}

module _ (table : ClassTable) where
  -- what is said of a contract that has other names at most
  pub said_of : {A : Type 0} (says : Contract → A) (other : A) → ((c : Contract) → says (contract_without_names c) ≡ says c) → (id : ContractId)
      → option_map_or says (contract_at (without_names table) id) other ≡ option_map_or says (contract_at table id) other
  said_of says other same id =
      ap (λ r. option_map_or says r other) (contract_unnamed table id) ∙ said_alike contract_without_names says says other same (contract_at table id)

  -- Objects, as payloads have them.

  stored_unnamed : stored_object (without_names table) ≡ stored_object table
  stored_unnamed = fun_ext (λ n. fun_ext (λ o.
      ap (λ (vs : List Value). record { number = n; contract = o.contract; state = o.state; marks = (o.shared, o.disowned); values = vs })
      (said_of (λ c. values_from 0 c.fields o.state o.fields) [] (λ c. refl) o.contract)))

  pub made_unnamed : object_of (without_names table) ≡ object_of table
  made_unnamed = fun_ext (λ o.
      ap (λ (fields : Numbered Value). record { contract = o.contract; state = o.state; fields = fields; shared = o.marks.0; disowned = o.marks.1 })
      (said_of (λ c. fields_from 0 c.fields o.state o.values) nothing (λ c. refl) o.contract))

  count_unnamed : available_count (without_names table) ≡ available_count table
  count_unnamed = fun_ext (λ id. fun_ext (λ s. said_of (λ c. length (filter (is_available s) c.fields)) 0 (λ c. refl) id))

  object_unnamed : object (without_names table) ≡ object table
  unfolding object
  object_unnamed =
      ap (λ (count : ContractId → Option StateId → ℕ). of_parts
      (λ p. let made : StoredObject = record { number = p.0.0; contract = p.0.1.0; state = p.0.1.1.0; marks = p.0.1.1.1; values = p.1 } in made)
      (λ o. ((o.number, (o.contract, (o.state, o.marks))), o.values)) (and_then object_head (λ h. times value (count h.1.0 h.1.1.0)))) count_unnamed

  pub payload_unnamed : payload (without_names table) ≡ payload table
  unfolding payload
  payload_unnamed =
      ap (λ (f : Format StoredObject). of_parts (λ p. let made : Changes = record { objects = p.0; handles = p.1 } in made)
      (λ c. (c.objects, c.handles)) (counted f ⨟ counted handle))
      object_unnamed

  -- What differs.

  from_unnamed : (n : ℕ) (os : List Object) → stored_from (without_names table) n os ≡ stored_from table n os
  from_unnamed n [] = refl
  from_unnamed n (o ∷ os) =
      ap (λ (g : ℕ → Object → StoredObject). g n o ∷ stored_from (without_names table) (suc n) os) stored_unnamed
      ∙ ap (λ rest. stored_object table n o ∷ rest) (from_unnamed (suc n) os)

  so_unnamed : (objects : List Object) → is_stored_so (without_names table) objects ≡ is_stored_so table objects
  so_unnamed objects = fun_ext (λ o.
      ap (λ (f : Format StoredObject). option_map_or (λ x. bytes_eq (f.bytes (stored_object (without_names table) o.number x)) (f.bytes o))
      (object_at objects o.number) false) object_unnamed
      ∙ ap (λ (g : ℕ → Object → StoredObject). option_map_or (λ x. bytes_eq ((object table).bytes (g o.number x)) ((object table).bytes o))
      (object_at objects o.number) false) stored_unnamed)

  pub differences_unnamed : (before after : Content) → changes_between (without_names table) before after ≡ changes_between table before after
  differences_unnamed before after =
      ap (λ os. record { objects = os; handles = changed_handles before after })
      (ap (λ (so : StoredObject → Bool). filter (λ o. not (so o)) (stored_from (without_names table) 0 after.objects)) (so_unnamed before.objects)
      ∙ ap (filter (λ o. not (is_stored_so table before.objects o))) (from_unnamed 0 after.objects))

  pub all_unnamed : (content : Content) → all_of (without_names table) content ≡ all_of table content
  all_unnamed content =
      ap (λ (os : List StoredObject). record { objects = os; handles = map (λ h. (h.0, Some h.1)) content.handles }) (from_unnamed 0 content.objects)

  -- What changes make.

  with_unnamed : with_object (without_names table) ≡ with_object table
  with_unnamed =
      ap (λ (made : StoredObject → Object). λ os o. if nat_lt o.number (length os) then slice_set os o.number (made o) else os ++ made o ∷ []) made_unnamed

  pub changes_unnamed : (content : Content) (changes : Changes) → with_changes (without_names table) content changes ≡ with_changes table content changes
  changes_unnamed content changes =
      ap (λ (g : List Object → StoredObject → List Object). record {
        objects = fold g content.objects changes.objects;
        handles = fold with_change content.handles changes.handles;
      }) with_unnamed

  -- Objects of the class table.

  state_named : (c : Contract) (s : Option StateId) → IsStateOf (contract_without_names c) s → IsStateOf c s
  state_named c None is = is
  state_named c (Some s) is = is

  state_unnamed : (c : Contract) (s : Option StateId) → IsStateOf c s → IsStateOf (contract_without_names c) s
  state_unnamed c None is = is
  state_unnamed c (Some s) is = is

  pub object_is_named : (objects : List Object) (o : Object) → IsObject (without_names table) objects o → IsObject table objects o
  object_is_named objects o is =
      by (contract_at table o.contract) (subst (λ r. IsSomeAnd r (λ c. IsObjectOf objects c o)) (contract_unnamed table o.contract) is)
    where
      by : (r : Option Contract) → IsSomeAnd (option_map contract_without_names r) (λ c. IsObjectOf objects c o) → IsSomeAnd r (λ c. IsObjectOf objects c o)
      by None is = is
      by (Some c) is = record { contract = is.contract; state = state_named c o.state is.state; fields = is.fields; values = is.values }

  pub object_is_unnamed : (objects : List Object) (o : Object) → IsObject table objects o → IsObject (without_names table) objects o
  object_is_unnamed objects o is =
      subst (λ r. IsSomeAnd r (λ c. IsObjectOf objects c o)) (sym (contract_unnamed table o.contract)) (by (contract_at table o.contract) is)
    where
      by : (r : Option Contract) → IsSomeAnd r (λ c. IsObjectOf objects c o) → IsSomeAnd (option_map contract_without_names r) (λ c. IsObjectOf objects c o)
      by None is = is
      by (Some c) is = record { contract = is.contract; state = state_unnamed c o.state is.state; fields = is.fields; values = is.values }
