-- An object of an upgraded store fails in the ways in which it failed.
use Rattle.std.proofs.Common.{◌≡◌, ◌∙◌, ℕ, Bool, true, false, true≢false, List, [], ◌++◌, map, Option, Some, None, refl, sym, ap, ap₂}
use Rattle.std.proofs.Math.Path.{fun_ext}
use Rattle.std.proofs.lemmas.Option.{slice_get-map}
use Rattle.std.specs.Prelude.{not, ◌&&◌, ◌||◌, ◌==◌, nat_eq, nat_lt, filter, length, option_map, slice_get, if◌then◌else◌}
use Rattle.std.specs.List.{list_any}
use Rattle.std.specs.Option.{option_map_or}
use Rattle.ob_base.specs.declared.id.ContractId.{ContractId}
use Rattle.ob_base.specs.declared.id.StateId.{StateId}
use Rattle.ob_perm.specs.Masks.{states_of}
use Rattle.ob_perm.specs.Naming.{seen}
use Rattle.ob_table.specs.Tables.{ClassTable, contract_at}
use Rattle.ob_table.specs.declared.contract.Contract.{Contract}
use Rattle.ob_table.specs.declared.seen.Kind.TheVariants.{Reference}
use Rattle.ob_table_spec.specs.Names.{number_of}
use Rattle.ob_table_spec.specs.WellFormed.{is_implemented, serves_as}
use Rattle.ob_heap_spec.specs.Objects.{Object, state_number, seen_between, seen_state}
use Rattle.ob_heap_spec.specs.Contents.{Content, object_at}
use Rattle.ob_rest_spec.specs.Modes.{is_owned, is_shared}
use Rattle.ob_rest_spec.specs.References.{FieldReference, references_of, field_references}
use Rattle.ob_rest_spec.specs.Incoming.{IncomingReference, incoming_by_handle, handles_onto, incoming_references, fields_onto, owners}
use Rattle.ob_rest_spec.specs.Failing.{is_marked, is_asset, is_outside_declaration, refers_as_declared, FailingWay, many_owners, owned_and_marked, lost_asset, shared_unmarked, outside_states, other_contract, every_way, fails_by, failing_ways}
use Rattle.ob_upgrade_spec.specs.Matching.{is_same_interface, Match}
use Rattle.ob_upgrade_spec.specs.Upgraded.{namesake, upgraded_object, upgraded}
use Rattle.ob_upgrade_laws.specs.Laws.{NamesOnce}
use Rattle.ob_upgrade_laws.proofs.Kept.{kept, Known, namesake_is, namesakes_differ}
use Rattle.ob_upgrade_laws.proofs.Referring.{IsKnown, AreKnown, renamed, Renames, object_refers, objects_refer, onto_alike, incoming_alike, any_alike}

module _ (old new : ClassTable) (match : Match old new) (once_old : NamesOnce old) (once_new : NamesOnce new) where
  abbrev known : ContractId → Type 0
  known = Known old new match once_old once_new

  abbrev is_known : Object → Type 0
  is_known = IsKnown old new match once_old once_new

  abbrev are_known : List Object → Type 0
  are_known = AreKnown old new match once_old once_new

  abbrev becomes : Object → Object
  becomes = upgraded_object old new

  -- States.

  -- the states of a contract, as one that has these sees them
  abbrev seen_by_names : List (List ℕ) → List (List ℕ) → ℕ → ℕ
  seen_by_names declared own s = seen (map (λ state. option_map (λ n. let made : StateId = record { 0 = n } in made) (number_of state declared)) own) s

  between_alike : (a b : ContractId) → known a → known b → (s : ℕ)
      → seen_between (contract_at new (namesake old new a)) (contract_at new (namesake old new b)) s
      ≡ seen_between (contract_at old a) (contract_at old b) s
  between_alike a b is_a is_b s =
      let k = kept old new match a is_a.0 is_a.1 in
      let l = kept old new match b is_b.0 is_b.1 in
      ap₂ (λ (x y : Option Contract). seen_between x y s) k.there l.there
      ∙ ap₂ (λ (x y : List (List ℕ)). seen_by_names x y s) (sym k.alike.states) (sym l.alike.states)
      ∙ sym (ap₂ (λ (x y : Option Contract). seen_between x y s) is_a.1 is_b.1)

  seen_alike : (a : ContractId) (o : Object) → known a → is_known o
      → seen_state new (namesake old new a) (becomes o) ≡ seen_state old a o
  seen_alike a o is_a is_o =
      ap (λ (b : Bool). if b then state_number o.state
      else seen_between (contract_at new (namesake old new a)) (contract_at new (namesake old new o.contract)) (state_number o.state))
      (namesakes_differ old new match once_old once_new a o.contract is_a is_o)
      ∙ ap (λ (z : ℕ). if a.0 == o.contract.0 then state_number o.state else z)
      (between_alike a o.contract is_a is_o (state_number o.state))

  outside_alike : (o : Object) → is_known o → (r : FieldReference) → known r.contract
      → is_outside_declaration new (becomes o) (renamed old new match once_old once_new r) ≡ is_outside_declaration old o r
  outside_alike o is_o r is_r =
      ap (λ (s : ℕ). is_owned r.perm.mode && not (states_of r.perm.states s)) (seen_alike r.contract o is_r is_o)

  -- Contracts.

  implements_alike : (a : ContractId) → known a → (p q : Option ContractId) → is_same_interface old new p q ≡ true
      → option_map_or (λ k. nat_eq (namesake old new a).0 k.0) q false ≡ option_map_or (λ k. nat_eq a.0 k.0) p false
  implements_alike a is_a None None h = refl
  implements_alike a is_a None (Some j) h = absurd (true≢false (sym h))
  implements_alike a is_a (Some i) None h = absurd (true≢false (sym h))
  implements_alike a is_a (Some i) (Some j) h =
      let named = namesake_is old new match once_old once_new i j h in
      ap (λ (k : ContractId). nat_eq (namesake old new a).0 k.0) named.1
      ∙ namesakes_differ old new match once_old once_new a i is_a named.0

  implemented_alike : (c i : ContractId) → known c → known i
      → is_implemented new (namesake old new c) (namesake old new i) ≡ is_implemented old c i
  implemented_alike c i is_c is_i =
      let k = kept old new match c is_c.0 is_c.1 in
      ap (λ (r : Option Contract). option_map_or (λ found. option_map_or (λ (k : ContractId). nat_eq (namesake old new i).0 k.0) found.implements false) r false) k.there
      ∙ implements_alike i is_i is_c.0.implements k.contract.implements k.alike.implements
      ∙ sym (ap (λ (r : Option Contract). option_map_or (λ found. option_map_or (λ (k : ContractId). nat_eq i.0 k.0) found.implements false) r false) is_c.1)

  serves_alike : (i c : ContractId) → known i → known c
      → serves_as new (Reference (namesake old new i)) (Reference (namesake old new c)) ≡ serves_as old (Reference i) (Reference c)
  serves_alike i c is_i is_c =
      ap₂ (λ (x y : Bool). x || y) (namesakes_differ old new match once_old once_new i c is_i is_c) (implemented_alike c i is_c is_i)

  refers_by : (i : ContractId) → known i → (q : Option Object) → ((o : Object) → q ≡ Some o → is_known o)
      → option_map_or (λ (o : Object). serves_as new (Reference (namesake old new i)) (Reference o.contract)) (option_map becomes q) false
      ≡ option_map_or (λ (o : Object). serves_as old (Reference i) (Reference o.contract)) q false
  refers_by i is_i None are = refl
  refers_by i is_i (Some o) are = serves_alike i o.contract is_i (are o refl)

  refers_alike : (os : List Object) → are_known os → (r : FieldReference) → known r.contract
      → refers_as_declared new (map becomes os) (renamed old new match once_old once_new r) ≡ refers_as_declared old os r
  refers_alike os are r is_r =
      ap (λ (q : Option Object). option_map_or (λ (o : Object). serves_as new (Reference (namesake old new r.contract)) (Reference o.contract)) q false)
      (slice_get-map becomes os r.object)
      ∙ refers_by r.contract is_r (slice_get os r.object) (are r.object)

  asset_alike : (o : Object) → is_known o → is_asset new (becomes o) ≡ is_asset old o
  asset_alike o is =
      let k = kept old new match o.contract is.0 is.1 in
      ap (λ (r : Option Contract). option_map_or (λ c. c.asset) r false) k.there ∙ sym k.alike.asset
      ∙ sym (ap (λ (r : Option Contract). option_map_or (λ c. c.asset) r false) is.1)

  -- The ways.

  module _ (content : Content) (are : are_known content.objects) where
    onto_renamed : (n : ℕ) → Renames old new match once_old once_new (fields_onto old content.objects n) (fields_onto new (map becomes content.objects) n)
    onto_renamed n =
        onto_alike old new match once_old once_new n (field_references old content.objects) (field_references new (map becomes content.objects))
        (objects_refer old new match once_old once_new 0 content.objects are)

    incoming_same : (n : ℕ) → incoming_references new (upgraded old new content) n ≡ incoming_references old content n
    incoming_same n =
        ap (λ (fields : List IncomingReference). fields ++ map incoming_by_handle (handles_onto content.handles n))
        (incoming_alike old new match once_old once_new (fields_onto old content.objects n) (fields_onto new (map becomes content.objects) n) (onto_renamed n))

    owners_same : (n : ℕ) → owners new (upgraded old new content) n ≡ owners old content n
    owners_same n = ap (λ (rs : List IncomingReference). length (filter (λ r. is_owned r.mode) rs)) (incoming_same n)

    fails_alike : (n : ℕ) (o : Object) → is_known o → (way : FailingWay)
        → fails_by way new (upgraded old new content) n (becomes o) ≡ fails_by way old content n o
    fails_alike n o is many_owners = ap (nat_lt 1) (owners_same n)
    fails_alike n o is owned_and_marked = ap (λ (m : ℕ). not (m == 0) && is_marked o) (owners_same n)
    fails_alike n o is lost_asset =
        ap₂ (λ (asset : Bool) (m : ℕ). asset && not (is_marked o) && (m == 0)) (asset_alike o is) (owners_same n)
    fails_alike n o is shared_unmarked =
        ap (λ (rs : List IncomingReference). not o.shared && list_any (λ r. is_shared r.mode) rs) (incoming_same n)
    fails_alike n o is outside_states =
        any_alike old new match once_old once_new (is_outside_declaration old o) (is_outside_declaration new (becomes o)) (outside_alike o is)
        (fields_onto old content.objects n) (fields_onto new (map becomes content.objects) n) (onto_renamed n)
    fails_alike n o is other_contract =
        any_alike old new match once_old once_new (λ r. not (refers_as_declared old content.objects r))
        (λ r. not (refers_as_declared new (map becomes content.objects) r)) (λ r is_r. ap not (refers_alike content.objects are r is_r))
        (references_of old n o) (references_of new n (becomes o)) (object_refers old new match once_old once_new n o is)

    failing_by : (n : ℕ) (q : Option Object) → ((o : Object) → q ≡ Some o → is_known o)
        → option_map_or (λ o. filter (λ way. fails_by way new (upgraded old new content) n o) every_way) (option_map becomes q) []
        ≡ option_map_or (λ o. filter (λ way. fails_by way old content n o) every_way) q []
    failing_by n None each = refl
    failing_by n (Some o) each = ap (λ (p : FailingWay → Bool). filter p every_way) (fun_ext (λ way. fails_alike n o (each o refl) way))

    pub failing_alike : (n : ℕ) → failing_ways new (upgraded old new content) n ≡ failing_ways old content n
    failing_alike n =
        ap (λ (q : Option Object). option_map_or (λ o. filter (λ way. fails_by way new (upgraded old new content) n o) every_way) q [])
        (slice_get-map becomes content.objects n)
        ∙ failing_by n (object_at content.objects n) (are n)
