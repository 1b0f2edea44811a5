-- Objects fail in the same ways by a class table without names.
use Rattle.std.proofs.Common.{◌≡◌, ◌∙◌, ℕ, Bool, false, List, [], ◌∷◌, ◌++◌, Some, refl, sym, ap}
use Rattle.std.proofs.Math.Path.{fun_ext}
use Rattle.std.specs.Prelude.{not, ◌&&◌, ◌||◌, ◌==◌, nat_eq, nat_lt, map, filter, filter_map, flat_map, find, length}
use Rattle.std.specs.List.{list_any, enumerate_from, range_with_len}
use Rattle.std.specs.Option.{option_map_or}
use Rattle.ob_base.specs.declared.permission.Mode.{Mode}
use Rattle.ob_base.specs.declared.permission.Mode.TheVariants.{Owned, Shared, Unowned}
use Rattle.ob_perm.specs.Masks.{states_of, held}
use Rattle.ob_perm.specs.Permissions.{owns}
use Rattle.ob_perm.specs.States.{States}
use Rattle.ob_table.specs.Tables.{ClassTable}
use Rattle.ob_table.specs.declared.seen.Kind.TheVariants.{Reference}
use Rattle.ob_heap_spec.specs.Objects.{Object, is_in_states}
use Rattle.ob_heap_spec.specs.Contents.{Content, object_at}
use Rattle.ob_rest_spec.specs.AtRest.{first_failing_object}
use Rattle.ob_rest_spec.specs.Failing.{is_marked, is_asset, is_outside_declaration, refers_as_declared, FailingWay, many_owners, owned_and_marked, lost_asset, shared_unmarked, outside_states, other_contract, every_way, fails_by, failing_ways}
use Rattle.ob_rest_spec.specs.Incoming.{incoming_by_field, incoming_by_handle, handles_onto, incoming_references, fields_onto, owners}
use Rattle.ob_rest_spec.specs.Modes.{is_owned, is_shared}
use Rattle.ob_rest_spec.specs.References.{FieldReference, reference_of, available_value, references_of}
use Rattle.ob_emit_laws.specs.Names.{without_names}
use Rattle.ob_emit_laws.proofs.Unnamed.{serves_unnamed, held_unnamed}
use Rattle.ob_store_table_laws.proofs.Unnamed.{said_of}

module _ (table : ClassTable) where
  -- the references in the fields of each object
  abbrev References : Type 0
  References = ℕ → Object → List FieldReference

  references_unnamed : references_of (without_names table) ≡ references_of table
  references_unnamed = fun_ext (λ n. fun_ext (λ o.
      said_of table (λ c. filter_map (λ f. reference_of n f.0 f.1.of (available_value c o f.0)) (enumerate_from 0 c.fields)) [] (λ c. refl) o.contract))

  onto_unnamed : (objects : List Object) (n : ℕ) → fields_onto (without_names table) objects n ≡ fields_onto table objects n
  onto_unnamed objects n = ap (λ (refs : References). filter (λ r. nat_eq r.object n) (flat_map (λ o. refs o.0 o.1) (enumerate_from 0 objects))) references_unnamed

  incoming_unnamed : (content : Content) (n : ℕ) → incoming_references (without_names table) content n ≡ incoming_references table content n
  incoming_unnamed content n =
      ap (λ fields. map incoming_by_field fields ++ map incoming_by_handle (handles_onto content.handles n)) (onto_unnamed content.objects n)

  owners_unnamed : (content : Content) (n : ℕ) → owners (without_names table) content n ≡ owners table content n
  owners_unnamed content n = ap (λ rs. length (filter (λ r. is_owned r.mode) rs)) (incoming_unnamed content n)

  -- a field that owns an object declares its state where the object alone is held within what it declares
  outside_by : (m : Mode) (states : States) (b : Bool) → (is_owned m && not b) ≡ not (not (owns (held m states)) || b)
  outside_by Owned states b = refl
  outside_by Shared states b = refl
  outside_by Unowned states b = refl

  outside_unnamed : (o : Object) → is_outside_declaration (without_names table) o ≡ is_outside_declaration table o
  outside_unnamed o = fun_ext (λ r.
      outside_by r.perm.mode (states_of r.perm.states) (is_in_states (without_names table) r.contract r.perm o)
      ∙ ap not (held_unnamed table (o ∷ []) r.contract r.perm (Some 0))
      ∙ sym (outside_by r.perm.mode (states_of r.perm.states) (is_in_states table r.contract r.perm o)))

  refers_unnamed : (objects : List Object) → refers_as_declared (without_names table) objects ≡ refers_as_declared table objects
  refers_unnamed objects = fun_ext (λ r.
      ap (λ (serves : Object → Bool). option_map_or serves (object_at objects r.object) false)
      (fun_ext (λ o. serves_unnamed table (Reference r.contract) (Reference o.contract))))

  fails_unnamed : (content : Content) (n : ℕ) (o : Object) (way : FailingWay) → fails_by way (without_names table) content n o ≡ fails_by way table content n o
  fails_unnamed content n o many_owners = ap (nat_lt 1) (owners_unnamed content n)
  fails_unnamed content n o owned_and_marked = ap (λ m. not (m == 0) && is_marked o) (owners_unnamed content n)
  fails_unnamed content n o lost_asset =
      ap (λ asset. asset && not (is_marked o) && (owners (without_names table) content n == 0)) (said_of table (λ c. c.asset) false (λ c. refl) o.contract)
      ∙ ap (λ m. is_asset table o && not (is_marked o) && (m == 0)) (owners_unnamed content n)
  fails_unnamed content n o shared_unmarked = ap (λ rs. not o.shared && list_any (λ r. is_shared r.mode) rs) (incoming_unnamed content n)
  fails_unnamed content n o outside_states =
      ap (λ (outside : FieldReference → Bool). list_any outside (fields_onto (without_names table) content.objects n)) (outside_unnamed o)
      ∙ ap (list_any (is_outside_declaration table o)) (onto_unnamed content.objects n)
  fails_unnamed content n o other_contract =
      ap (λ (refers : FieldReference → Bool). list_any (λ r. not (refers r)) (references_of (without_names table) n o)) (refers_unnamed content.objects)
      ∙ ap (λ (refs : References). list_any (λ r. not (refers_as_declared table content.objects r)) (refs n o)) references_unnamed

  pub failing_unnamed : (content : Content) → failing_ways (without_names table) content ≡ failing_ways table content
  failing_unnamed content = fun_ext (λ n.
      ap (λ (g : Object → FailingWay → Bool). option_map_or (λ o. filter (g o) every_way) (object_at content.objects n) [])
      (fun_ext (λ o. fun_ext (fails_unnamed content n o))))

  pub first_unnamed : (content : Content) → first_failing_object (without_names table) content ≡ first_failing_object table content
  first_unnamed content =
      ap (λ (ways : ℕ → List FailingWay). find (λ n. nat_lt 0 (length (ways n))) (range_with_len 0 (length content.objects))) (failing_unnamed content)
