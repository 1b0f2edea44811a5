-- The references of an upgraded store are those of the store, each declared with the namesake of its contract.
use Rattle.std.proofs.Common.{◌≡◌, ◌∙◌, ℕ, zero, suc, ◌+◌, Bool, true, false, true≢false, List, [], ◌∷◌, ◌++◌, map, Option, Some, None, refl, sym, ap, ap₂, subst₂}
use Rattle.std.proofs.Math.Path.{fun_ext}
use Rattle.std.proofs.lemmas.Bool.{and_parts}
use Rattle.std.proofs.lemmas.Bool.Decides.{Decides-eqb}
use Rattle.std.specs.Prelude.{cond, ◌&&◌, ◌||◌, nat_eq, slice_get, filter, filter_map, flat_map, ⊤, if◌then◌else◌}
use Rattle.std.specs.Cmp.Lexicographic.{pointwise}
use Rattle.std.specs.List.{cons_option, list_any, enumerate_from}
use Rattle.std.specs.Option.{option_map_or}
use Rattle.ob_base.specs.declared.id.ContractId.{ContractId}
use Rattle.ob_base.specs.declared.id.StateId.{StateId}
use Rattle.ob_table.specs.Tables.{ClassTable, contract_at}
use Rattle.ob_table.specs.declared.contract.Contract.{Contract}
use Rattle.ob_table.specs.declared.contract.Field.{Field}
use Rattle.ob_table.specs.declared.contract.ResolvedType.{ResolvedType}
use Rattle.ob_table.specs.declared.contract.ResolvedType.TheVariants.{Int, Bool as BoolKind, Text, Reference}
use Rattle.ob_table_spec.specs.Names.{same}
use Rattle.ob_heap_spec.specs.Values.{Value, int_value, bool_value, text_value, reference}
use Rattle.ob_heap_spec.specs.Objects.{Object, state_number, is_available}
use Rattle.ob_perm.specs.Masks.{states_of}
use Rattle.ob_rest_spec.specs.References.{FieldReference, reference_of, available_value, references_of}
use Rattle.ob_rest_spec.specs.Incoming.{IncomingReference, incoming_by_field}
use Rattle.ob_upgrade_spec.specs.Matching.{have_one_name, is_same_perm, is_same_type, is_same_field, Match}
use Rattle.ob_upgrade_spec.specs.Upgraded.{namesake, upgraded_object}
use Rattle.ob_upgrade_laws.specs.Laws.{NamesOnce}
use Rattle.ob_upgrade_laws.proofs.Kept.{perm_is, kept, Known, namesake_is}

-- The parts of two fields that are the same.
pub field_parts : (old new : ClassTable) (f g : Field) → is_same_field old new f g ≡ true → (is_same_type old new f.of g.of ≡ true) × (f.available ≡ g.available)
field_parts old new f g h =
    let both = and_parts (same f.name g.name && is_same_type old new f.of g.of) (nat_eq f.available g.available) h in
    ((and_parts (same f.name g.name) (is_same_type old new f.of g.of) both.0).1, (Decides-eqb f.available g.available).0 both.1)

module _ (old new : ClassTable) (match : Match old new) (once_old : NamesOnce old) (once_new : NamesOnce new) where
  abbrev known : ContractId → Type 0
  known = Known old new match once_old once_new

  -- an object of a contract of the old program
  abbrev pub IsKnown : Object → Type 0
  IsKnown o = known o.contract

  -- a reference as the new program declares it
  abbrev pub renamed : FieldReference → FieldReference
  renamed r = record r { contract = namesake old new r.contract }

  -- a reference is what another becomes
  pub record IsRenamed (r s : FieldReference) : Type 0 where
    pub declared : known r.contract
    pub is : s ≡ renamed r

  -- references are what others become, one after another
  abbrev pub Renames : List FieldReference → List FieldReference → Type 0
  Renames [] [] = ⊤
  Renames (r ∷ rs) (s ∷ ss) = IsRenamed r s × Renames rs ss
  Renames rs ss = ⊥

  -- the same where there may be none
  abbrev RenamesOne : Option FieldReference → Option FieldReference → Type 0
  RenamesOne None None = ⊤
  RenamesOne (Some r) (Some s) = IsRenamed r s
  RenamesOne r s = ⊥

  -- Fields.

  pub available_alike : (fs gs : List Field) → pointwise (is_same_field old new) fs gs ≡ true → (state : Option StateId) (k : ℕ)
      → option_map_or (is_available state) (slice_get gs k) false ≡ option_map_or (is_available state) (slice_get fs k) false
  available_alike [] [] h state k = refl
  available_alike [] (g ∷ gs) h state k = absurd (true≢false (sym h))
  available_alike (f ∷ fs) [] h state k = absurd (true≢false (sym h))
  available_alike (f ∷ fs) (g ∷ gs) h state zero =
      ap (λ n. states_of n (state_number state))
      (sym (field_parts old new f g (and_parts (is_same_field old new f g) (pointwise (is_same_field old new) fs gs) h).0).1)
  available_alike (f ∷ fs) (g ∷ gs) h state (suc k) =
      available_alike fs gs (and_parts (is_same_field old new f g) (pointwise (is_same_field old new) fs gs) h).1 state k

  reference_alike : (n k : ℕ) (t u : ResolvedType) → is_same_type old new t u ≡ true → (v : Option Value)
      → RenamesOne (reference_of n k t v) (reference_of n k u v)
  reference_alike n k Int Int h v = tt
  reference_alike n k Int BoolKind h v = absurd (true≢false (sym h))
  reference_alike n k Int Text h v = absurd (true≢false (sym h))
  reference_alike n k Int (Reference b q) h v = absurd (true≢false (sym h))
  reference_alike n k BoolKind Int h v = absurd (true≢false (sym h))
  reference_alike n k BoolKind BoolKind h v = tt
  reference_alike n k BoolKind Text h v = absurd (true≢false (sym h))
  reference_alike n k BoolKind (Reference b q) h v = absurd (true≢false (sym h))
  reference_alike n k Text Int h v = absurd (true≢false (sym h))
  reference_alike n k Text BoolKind h v = absurd (true≢false (sym h))
  reference_alike n k Text Text h v = tt
  reference_alike n k Text (Reference b q) h v = absurd (true≢false (sym h))
  reference_alike n k (Reference a p) Int h v = absurd (true≢false (sym h))
  reference_alike n k (Reference a p) BoolKind h v = absurd (true≢false (sym h))
  reference_alike n k (Reference a p) Text h v = absurd (true≢false (sym h))
  reference_alike n k (Reference a p) (Reference b q) h None = tt
  reference_alike n k (Reference a p) (Reference b q) h (Some (int_value z)) = tt
  reference_alike n k (Reference a p) (Reference b q) h (Some (bool_value z)) = tt
  reference_alike n k (Reference a p) (Reference b q) h (Some (text_value z)) = tt
  reference_alike n k (Reference a p) (Reference b q) h (Some (reference o)) =
      let parts = and_parts (have_one_name (contract_at old a) (contract_at new b)) (is_same_perm p q) h in
      let named = namesake_is old new match once_old once_new a b parts.0 in
      let perm = perm_is p q parts.1 in
      record { declared = named.0; is = (λ i. record { holder = n; field = k; contract = named.1 i; perm = sym perm i; object = o }) }

  cons_alike : (r s : Option FieldReference) (rs ss : List FieldReference) → RenamesOne r s → Renames rs ss
      → Renames (cons_option r rs) (cons_option s ss)
  cons_alike None None rs ss one all = all
  cons_alike None (Some s) rs ss one all = absurd one
  cons_alike (Some r) None rs ss one all = absurd one
  cons_alike (Some r) (Some s) rs ss one all = (one, all)

  fields_refer : (n k : ℕ) (v : ℕ → Option Value) (fs gs : List Field) → pointwise (is_same_field old new) fs gs ≡ true
      → Renames (filter_map (λ f. reference_of n f.0 f.1.of (v f.0)) (enumerate_from k fs))
      (filter_map (λ f. reference_of n f.0 f.1.of (v f.0)) (enumerate_from k gs))
  fields_refer n k v [] [] h = tt
  fields_refer n k v [] (g ∷ gs) h = absurd (true≢false (sym h))
  fields_refer n k v (f ∷ fs) [] h = absurd (true≢false (sym h))
  fields_refer n k v (f ∷ fs) (g ∷ gs) h =
      let parts = and_parts (is_same_field old new f g) (pointwise (is_same_field old new) fs gs) h in
      cons_alike (reference_of n k f.of (v k)) (reference_of n k g.of (v k))
      (filter_map (λ f. reference_of n f.0 f.1.of (v f.0)) (enumerate_from (k + 1) fs))
      (filter_map (λ f. reference_of n f.0 f.1.of (v f.0)) (enumerate_from (k + 1) gs))
      (reference_alike n k f.of g.of (field_parts old new f g parts.0).0 (v k))
      (fields_refer n (k + 1) v fs gs parts.1)

  -- Objects.

  -- the references in the fields of an object of a contract
  abbrev refers : ℕ → (ℕ → Option Value) → Contract → List FieldReference
  refers n v c = filter_map (λ f. reference_of n f.0 f.1.of (v f.0)) (enumerate_from 0 c.fields)

  pub object_refers : (n : ℕ) (o : Object) → IsKnown o → Renames (references_of old n o) (references_of new n (upgraded_object old new o))
  object_refers n o is =
      let k = kept old new match o.contract is.0 is.1 in
      let values : available_value k.contract (upgraded_object old new o) ≡ available_value is.0 o =
      fun_ext (λ j. ap (λ (b : Bool). if b then o.fields j else None) (available_alike is.0.fields k.contract.fields k.alike.fields o.state j)) in
      subst₂ Renames
      (sym (ap (λ (r : Option Contract). option_map_or (λ c. refers n (available_value c o) c) r []) is.1))
      (sym (ap (λ (r : Option Contract). option_map_or (λ c. refers n (available_value c (upgraded_object old new o)) c) r []) k.there
      ∙ ap (λ (v : ℕ → Option Value). refers n v k.contract) values))
      (fields_refer n 0 (available_value is.0 o) is.0.fields k.contract.fields k.alike.fields)

  append_alike : (rs ss qs ts : List FieldReference) → Renames rs ss → Renames qs ts → Renames (rs ++ qs) (ss ++ ts)
  append_alike [] [] qs ts all more = more
  append_alike [] (s ∷ ss) qs ts all more = absurd all
  append_alike (r ∷ rs) [] qs ts all more = absurd all
  append_alike (r ∷ rs) (s ∷ ss) qs ts all more = (all.0, append_alike rs ss qs ts all.1 more)

  -- each object is of a contract of the old program
  abbrev pub AreKnown : List Object → Type 0
  AreKnown os = (k : ℕ) (o : Object) → slice_get os k ≡ Some o → IsKnown o

  pub objects_refer : (n : ℕ) (os : List Object) → AreKnown os
      → Renames (flat_map (λ o. references_of old o.0 o.1) (enumerate_from n os))
      (flat_map (λ o. references_of new o.0 o.1) (enumerate_from n (map (upgraded_object old new) os)))
  objects_refer n [] are = tt
  objects_refer n (o ∷ os) are =
      append_alike (references_of old n o) (references_of new n (upgraded_object old new o))
      (flat_map (λ o. references_of old o.0 o.1) (enumerate_from (n + 1) os))
      (flat_map (λ o. references_of new o.0 o.1) (enumerate_from (n + 1) (map (upgraded_object old new) os)))
      (object_refers n o (are 0 o refl)) (objects_refer (n + 1) os (λ k o at. are (suc k) o at))

  -- What is asked of references.

  kept_alike : (r s : FieldReference) (rs ss : List FieldReference) (b c : Bool) → b ≡ c → IsRenamed r s → Renames rs ss
      → Renames (cond b (r ∷ rs) rs) (cond c (s ∷ ss) ss)
  kept_alike r s rs ss true true e one all = (one, all)
  kept_alike r s rs ss true false e one all = absurd (true≢false e)
  kept_alike r s rs ss false true e one all = absurd (true≢false (sym e))
  kept_alike r s rs ss false false e one all = all

  pub onto_alike : (n : ℕ) (rs ss : List FieldReference) → Renames rs ss
      → Renames (filter (λ r. nat_eq r.object n) rs) (filter (λ r. nat_eq r.object n) ss)
  onto_alike n [] [] all = tt
  onto_alike n [] (s ∷ ss) all = absurd all
  onto_alike n (r ∷ rs) [] all = absurd all
  onto_alike n (r ∷ rs) (s ∷ ss) all =
      kept_alike r s (filter (λ r. nat_eq r.object n) rs) (filter (λ r. nat_eq r.object n) ss) (nat_eq r.object n) (nat_eq s.object n)
      (ap (λ (t : FieldReference). nat_eq t.object n) (sym all.0.is)) all.0 (onto_alike n rs ss all.1)

  pub incoming_alike : (rs ss : List FieldReference) → Renames rs ss → map incoming_by_field ss ≡ map incoming_by_field rs
  incoming_alike [] [] all = refl
  incoming_alike [] (s ∷ ss) all = absurd all
  incoming_alike (r ∷ rs) [] all = absurd all
  incoming_alike (r ∷ rs) (s ∷ ss) all =
      ap₂ (λ (x : IncomingReference) (xs : List IncomingReference). x ∷ xs) (ap incoming_by_field all.0.is) (incoming_alike rs ss all.1)

  pub any_alike : (f g : FieldReference → Bool) → ((r : FieldReference) → known r.contract → g (renamed r) ≡ f r)
      → (rs ss : List FieldReference) → Renames rs ss → list_any g ss ≡ list_any f rs
  any_alike f g same [] [] all = refl
  any_alike f g same [] (s ∷ ss) all = absurd all
  any_alike f g same (r ∷ rs) [] all = absurd all
  any_alike f g same (r ∷ rs) (s ∷ ss) all =
      ap₂ (λ (x y : Bool). x || y) (ap g all.0.is ∙ same r all.0.declared) (any_alike f g same rs ss all.1)
