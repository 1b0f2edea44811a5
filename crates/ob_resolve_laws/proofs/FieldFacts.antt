-- The fields of a program without faults.
use Rattle.std.proofs.Common.{◌≡◌, ◌≢◌, ℕ, zero, suc, ◌+◌, ◌-◌, ◌^◌, ◌<◌, ◌≤◌, Bool, true, false, List, [], ◌∷◌, map, length, None, refl, sym, ap, subst, arith, ◌∙◌, cond, inl, inr}
use Rattle.std.specs.Prelude.{◌||◌, ◌&&◌, not, slice_get, IsTrue, IsSomeAnd}
use Rattle.std.specs.Option.{option_map_or}
use Rattle.std.specs.List.{flat_map}
use Rattle.std.proofs.lemmas.List.Elements.{recursion_from_All}
use Rattle.ob_base.specs.Names.{is_name}
use Rattle.ob_base.specs.declared.fault.Span.{Span}
use Rattle.ob_base.specs.declared.permission.Mode.TheVariants.{Owned}
use Rattle.ob_tree.specs.Names.{Named, ref_with, TypeExpr, int_type, bool_type, text_type, ref_type}
use Rattle.ob_tree.specs.Members.{Member, state_member, field_member, constructor_member, transaction_member, Contract}
use Rattle.ob_tree.specs.declared.name.NamePart.{NamePart}
use Rattle.ob_tree.specs.declared.name.PermNode.{PermNode}
use Rattle.ob_perm.specs.States.{States, states_max}
use Rattle.ob_perm.specs.Masks.{mask_below, mask_of, perm_of}
use Rattle.ob_table_spec.specs.Names.{Name, same, is_among}
use Rattle.ob_resolve_spec.specs.Declarations.{Program, states_of_member, states_of, state_names, FieldDeclaration, field_inside, field_at_top, availability, fields_of_member, fields_of}
use Rattle.ob_resolve_spec.specs.Permissions.{WrittenPermission, as_shared, as_unowned, as_owner, as_owner_in, written_permission, known_permission, is_owning}
use Rattle.ob_resolve_spec.specs.Visible.{visible_in}
use Rattle.ob_resolve_spec.specs.Sites.{names_state, is_inside_state, holds_object}
use Rattle.ob_resolve_spec.specs.TypeSites.{type_sites}
use Rattle.ob_resolve_spec.specs.MemberSites.{holder_sites, field_sites, member_sites}
use Rattle.ob_resolve_spec.specs.Numbers.{numbers_of_states, permission_on, perm_on, contract_id}
use Rattle.ob_resolve_spec.specs.TableOf.{resolved_type, available_in, field_in_table, contract_in_table, table_of, reference_of}
use Rattle.ob_table_spec.specs.Conditions.{IsAvailability, OwnsNoAsset, IsField}
use Rattle.ob_resolve_spec.specs.Shape.{HasMemberShape}
use Rattle.ob_resolve_laws.proofs.Each.{Each, each_left, each_right, each_of_map, each_map, each_of_flat_map, each_flat_map, each_of_both, each_weaker}
use Rattle.ob_resolve_laws.proofs.Clean.{Clean}
use Rattle.ob_resolve_laws.proofs.NameFacts.{same-refl}
use Rattle.ob_resolve_laws.proofs.LookUps.{among_number, number_at, slice_get_bound}
use Rattle.ob_resolve_laws.proofs.PermFacts.{mask_below_bound}
use Rattle.ob_resolve_laws.proofs.TypeFacts.{true_from_not, Known, ref_known, type_is_kind, some_and, in_table}

-- each name is among its own list
among_more : (name x : Name) (xs : List Name) → is_among name xs ≡ true → is_among name (x ∷ xs) ≡ true
among_more name x xs h = at (same name x)
  where
    at : (b : Bool) → (b || is_among name xs) ≡ true
    at true = refl
    at false = h

pub self_among : (xs : List Name) → Each (λ x. is_among x xs ≡ true) xs
self_among [] = tt
self_among (x ∷ xs) = (
  ap (λ b. b || is_among x xs) (same-refl x),
  each_weaker (λ y. is_among y xs ≡ true) (λ y. is_among y (x ∷ xs) ≡ true) (λ y h. among_more y x xs h) xs
      (self_among xs),
)

-- the states that a member names are among the contract's
pub states_of_members : (own : Contract) → Each
    (λ m. Each (λ (s : NamePart). is_among s.name (state_names own) ≡ true) (states_of_member m)) own.members
states_of_members own =
    each_of_flat_map (λ (s : NamePart). is_among s.name (state_names own) ≡ true) states_of_member own.members
    (each_of_map (λ x. is_among x (state_names own) ≡ true) (λ (s : NamePart). s.name) (states_of own)
    (self_among (state_names own)))

-- Sets of states of a contract.

mask_cut : (k d : ℕ) (a : States) → ((i : ℕ) → k ≤ i → a i ≡ false) → mask_below (k + d) a ≡ mask_below k a
mask_cut k zero a h = ap (λ n. mask_below n a) (omega arith)
mask_cut k (suc d) a h =
    let e : k + suc d ≡ suc (k + d) = omega arith in
    let f = h (k + d) (omega arith) in
    let r = mask_cut k d a h in
    rw (e, f) (omega (arith, r))

mask_positive : (n : ℕ) (a : States) (i : ℕ) → i < n → a i ≡ true → 0 < mask_below n a
mask_positive zero a i l h = absurd (omega arith)
mask_positive (suc n) a i l h = at (a n) refl (λ k. mask_positive n a i k h)
  where
    at : (b : Bool) → a n ≡ b → (i < n → 0 < mask_below n a) → 0 < mask_below n a + cond b (2 ^ n) 0
    at true e r = omega (arith, mask_below_bound n a)
    at false e r =
        let other : i ≢ n = λ (x : i ≡ n). let y : a n ≡ true = ap a (sym x) ∙ h in absurd (cc) in
        let s = r (omega (arith, other)) in omega (arith, s)

beyond : (states names : List Name) (i : ℕ) → length states ≤ i → numbers_of_states states names i ≡ false
beyond [] names i h = refl
beyond (s ∷ states) names zero h = absurd (omega arith)
beyond (s ∷ states) names (suc i) h = beyond states names i (omega arith)

-- the states of these names are some of the contract's
pub available_names : (states names : List Name) (first : Name) → length states ≤ 32 → is_among first states ≡ true
    → is_among first names ≡ true → IsAvailability (length states) (mask_of (numbers_of_states states names))
unfolding states_max
available_names states names first few here named =
    let n = among_number first states here in
    let at = number_at first states n.0 n.1 in
    let bound = slice_get_bound states n.0 first at in
    let bit : numbers_of_states states names n.0 ≡ true =
    ap (λ o. option_map_or (λ state. is_among state names) o false) at ∙ named in
    let d = 34 - length states in
    let e : 34 ≡ length states + d = omega arith in
    let cut = ap (λ n. mask_below n (numbers_of_states states names)) e
    ∙ mask_cut (length states) d (numbers_of_states states names) (beyond states names) in
    inr (
      mask_positive 34 (numbers_of_states states names) n.0 (omega arith) bit,
      subst (λ x. x < 2 ^ length states) (sym cut)
          (mask_below_bound (length states) (numbers_of_states states names)),
    )

-- fields that say no states are there always, and others in the states that they say
always_or : (own : Contract) (available : List NamePart) → length (state_names own) ≤ 32
    → Each (λ (s : NamePart). is_among s.name (state_names own) ≡ true) available
    → IsAvailability (length (state_names own)) (available_in (state_names own) (availability available))
always_or own [] few h = inl refl
always_or own (s ∷ states) few h =
    available_names (state_names own) (map (λ s. s.name) (s ∷ states)) s.name few h.0
    (ap (λ b. b || is_among s.name (map (λ s. s.name) states)) (same-refl s.name))

named_states : (own : Contract) (states : List NamePart) → Each Clean (map (names_state own) states)
    → Each (λ (s : NamePart). is_among s.name (state_names own) ≡ true) states
named_states own states h =
    each_weaker _ _ (λ s c. true_from_not (is_among s.name (state_names own)) c.no_state) states
    (each_of_map Clean (names_state own) states h)

-- what an owner holds
owner_of : (asset of : Bool) (owning : Bool) → (not asset && of && owning) ≡ false → asset ≡ false → owning ≡ true
    → of ≡ false
owner_of true of owning h a o = absurd cc
owner_of false true true h a o = absurd cc
owner_of false true false h a o = absurd cc
owner_of false false owning h a o = refl

owned_is_owning : (c : Contract) (p : WrittenPermission) → (perm_of (permission_on c p)).mode ≡ Owned
    → is_owning p ≡ true
owned_is_owning c as_shared e = absurd cc
owned_is_owning c as_unowned e = absurd cc
owned_is_owning c as_owner e = refl
owned_is_owning c (as_owner_in names) e = refl

holder_is : (program : Program) (own : Contract) (of : Named) (perm : PermNode) (span : Span) → Known program of perm
    → Each Clean (holder_sites program own (ref_type (ref_with of perm)) span)
    → OwnsNoAsset (table_of program) (contract_in_table program own) (reference_of program of perm)
holder_is program own of perm span k h =
    let inner = subst (λ o. Each Clean (option_map_or
    (λ c. option_map_or (λ p. holds_object own c p span ∷ []) (known_permission c perm) []) o [])) k.by_name h in
    let site : Each Clean (holds_object own k.contract (written_permission perm) span ∷ []) = rw k.is_of at inner in
    λ asset mode.
    let m : (perm_of (permission_on k.contract (written_permission perm))).mode ≡ Owned =
    subst (λ o. (perm_on o perm).mode ≡ Owned) k.by_name mode in
    let of_asset = owner_of own.asset k.contract.asset (is_owning (written_permission perm)) site.0.non_asset_owner
    asset (owned_is_owning k.contract (written_permission perm) m) in
    subst (λ o. IsSomeAnd (slice_get (map (contract_in_table program) program) (contract_id o).0)
    (λ d. d.asset ≡ false)) (sym k.named)
    (some_and _ (contract_in_table program k.contract) _ (in_table program k.number k.contract k.at) of_asset)

holder_of_type : (program : Program) (own : Contract) (t : TypeExpr) (span : Span)
    → Each Clean (type_sites (visible_in program own) t) → Each Clean (holder_sites program own t span)
    → OwnsNoAsset (table_of program) (contract_in_table program own) (resolved_type program t)
holder_of_type program own (int_type s) span a h = tt
holder_of_type program own (bool_type s) span a h = tt
holder_of_type program own (text_type s) span a h = tt
holder_of_type program own (ref_type (ref_with of perm)) span a h =
    holder_is program own of perm span (ref_known (visible_in program own) of perm None a).0 h

-- a field of the table
field_is : (program : Program) (own : Contract) (f : FieldDeclaration) → IsTrue (is_name f.field.name.name)
    → Each Clean (field_sites program own f.field)
    → IsAvailability (length (state_names own)) (available_in (state_names own) f.available)
    → IsField (table_of program) (contract_in_table program own) (field_in_table program own f)
field_is program own f name h available = record {
  name = name;
  kind = type_is_kind (visible_in program own) f.field.of
      (each_left Clean (type_sites (visible_in program own) f.field.of) _ h);
  available = available;
  owner = holder_of_type program own f.field.of f.field.name.span
      (each_left Clean (type_sites (visible_in program own) f.field.of) _ h)
      (each_right Clean (type_sites (visible_in program own) f.field.of)
      (holder_sites program own f.field.of f.field.name.span) h);
}

fields_of_member_are : (program : Program) (own : Contract) (m : Member) → length (state_names own) ≤ 32
    → Each (λ (s : NamePart). is_among s.name (state_names own) ≡ true) (states_of_member m)
    → HasMemberShape own.interface m → Each Clean (member_sites program own m)
    → Each (λ f. IsField (table_of program) (contract_in_table program own) (field_in_table program own f))
    (fields_of_member m)
fields_of_member_are program own (state_member name fields span) few states shape h =
    each_map _ (field_inside name.name) fields
    (each_of_both (λ f. IsTrue (is_name f.name.name))
    (λ f. Each Clean (is_inside_state f.available f.name.span ∷ field_sites program own f)) _
    (λ f n c. field_is program own (field_inside name.name f) n c.1
    (available_names (state_names own) (name.name ∷ []) name.name few states.0
    (ap (λ b. b || false) (same-refl name.name))))
    fields (recursion_from_All _ fields shape.1)
    (each_of_flat_map Clean (λ f. is_inside_state f.available f.name.span ∷ field_sites program own f)
    fields h))
fields_of_member_are program own (field_member field) few states shape h = (
  field_is program own (field_at_top field) shape.0
      (each_right Clean (map (names_state own) field.available) (field_sites program own field) h)
      (always_or own field.available few (named_states own field.available
      (each_left Clean (map (names_state own) field.available) _ h))),
  tt,
)
fields_of_member_are program own (constructor_member of perm params body span) few states shape h = tt
fields_of_member_are program own (transaction_member private listed name params result body span) few states shape h =
    tt

-- the fields of a contract
pub fields_are : (program : Program) (own : Contract) → length (state_names own) ≤ 32
    → Each (HasMemberShape own.interface) own.members → Each Clean (flat_map (member_sites program own) own.members)
    → Each (IsField (table_of program) (contract_in_table program own))
    (map (field_in_table program own) (fields_of own))
fields_are program own few shape h =
    each_map _ (field_in_table program own) (fields_of own)
    (each_flat_map _ fields_of_member own.members
    (each_of_both (λ m. HasMemberShape own.interface m
    × Each (λ (s : NamePart). is_among s.name (state_names own) ≡ true) (states_of_member m)) (λ m. Each
    Clean (member_sites program own m)) _
    (λ m a c. fields_of_member_are program own m few a.1 a.0 c)
    own.members (each_of_both _ _ _ (λ m a b. (a, b)) own.members shape (states_of_members own))
    (each_of_flat_map Clean (member_sites program own) own.members h)))

field_types_of_member : (program : Program) (own : Contract) (m : Member) → Each Clean (member_sites program own m)
    → Each (λ f. Each Clean (type_sites (visible_in program own) f.field.of)) (fields_of_member m)
field_types_of_member program own (state_member name fields span) h =
    each_map _ (field_inside name.name) fields
    (each_weaker _ _ (λ f c. each_left Clean (type_sites (visible_in program own) f.of)
    (holder_sites program own f.of f.name.span) c.1) fields
    (each_of_flat_map Clean (λ f. is_inside_state f.available f.name.span ∷ field_sites program own f) fields
    h))
field_types_of_member program own (field_member field) h = (
  each_left Clean (type_sites (visible_in program own) field.of) (holder_sites program own field.of field.name.span)
      (each_right Clean (map (names_state own) field.available) (field_sites program own field) h),
  tt,
)
field_types_of_member program own (constructor_member of perm params body span) h = tt
field_types_of_member program own (transaction_member private listed name params result body span) h = tt

-- the types of a contract's fields
pub field_types : (program : Program) (own : Contract) → Each Clean (flat_map (member_sites program own) own.members)
    → Each (λ f. Each Clean (type_sites (visible_in program own) f.field.of)) (fields_of own)
field_types program own h =
    each_flat_map _ fields_of_member own.members
    (each_weaker _ _ (field_types_of_member program own) own.members
    (each_of_flat_map Clean (member_sites program own) own.members h))
