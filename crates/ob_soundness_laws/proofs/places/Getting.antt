-- What a place gets of another one: it stands, and what is known of it is so.
use Rattle.std.proofs.Common.{◌≡◌, ◌≢◌, ℕ, ◌<◌, true, List, length, Some, refl, sym, ap, subst, ◌∙◌, ◌⊎◌, inl, inr, ⊎_elim}
use Rattle.std.proofs.lemmas.Bool.{both_ways}
use Rattle.ob_base.specs.declared.id.ContractId.{ContractId}
use Rattle.ob_perm.specs.States.{States, states_max}
use Rattle.ob_perm.specs.Permissions.{Permission, owned, shared, unowned, owns, is_shared, fits}
use Rattle.ob_perm.specs.Naming.{seen, for_interface}
use Rattle.ob_table.specs.Tables.{ClassTable, contract_at}
use Rattle.ob_table.specs.declared.contract.Contract.{Contract}
use Rattle.ob_table.specs.declared.contract.ResolvedType.{ResolvedType}
use Rattle.ob_table.specs.declared.contract.ResolvedType.TheVariants.{Int as IntType, Bool as BoolType, Text as TextType, Reference as TypedReference}
use Rattle.ob_table.specs.declared.seen.Kind.{Kind}
use Rattle.ob_table.specs.declared.seen.Kind.TheVariants.{Reference}
use Rattle.ob_table_spec.specs.Conditions.{IsClassTable, naming}
use Rattle.ob_table_spec.specs.WellFormed.{kind_of_resolved, is_implemented, serves_as}
use Rattle.ob_heap_spec.specs.Values.{Value, int_value, bool_value, text_value, reference}
use Rattle.ob_heap_spec.specs.Objects.{Object, state_number, seen_state}
use Rattle.ob_silica_places.specs.Converting.{converted, gotten}
use Rattle.ob_silica_places.specs.Known.{permission_of_type}
use Rattle.ob_silica_steps.specs.Cells.{Cell, cell}
use Rattle.ob_silica_steps.specs.Configurations.{Notes}
use Rattle.ob_places_laws.specs.Serving.{AllowsState, AreAmong}
use Rattle.ob_places_laws.proofs.Permissions.{fits_owner, shared_is, owner_is}
use Rattle.ob_places_laws.proofs.Tables.{contract_is}
use Rattle.ob_places_laws.proofs.Interfaces.{implemented_is, interface_is, implements_once, seen_low}
use Rattle.ob_places_laws.proofs.Conversions.{serves_is, serves_onward, converted_same, converted_owns, converted_shares, converted_up, naming_in}
use Rattle.ob_places_laws.proofs.SeenStates.{seen_itself, seen_by_interface, up_allows}
use Rattle.ob_coherent_spec.specs.Counting.{nth_object}
use Rattle.ob_coherent_spec.specs.Standing.{IsOfKind, RefersToShared, is_in, RefersToIn, Stands, IsObjectInRun}
use Rattle.ob_soundness_laws.proofs.places.Standing.{reference_is, refers_is}
use Rattle.ob_soundness_laws.proofs.places.Finding.{number_low}

-- the state of each object has one of the numbers of states
abbrev pub AreLow : List Object → Type 0
AreLow os = (n : ℕ) → n < length os → state_number (nth_object os n).state < states_max

pub objects_low : (table : ClassTable) → IsClassTable table → (notes : Notes) (os : List Object)
    → ((n : ℕ) → n < length os → IsObjectInRun table notes n (nth_object os n)) → AreLow os
objects_low table made notes os runs n lt =
    let r = runs n lt in
    number_low table r.own (nth_object os n).state
    (contract_is table made (nth_object os n).contract r.own r.contract) r.state

module _ (table : ClassTable) (made : IsClassTable table) where
  -- A value serves where its kind does.
  pub kind_up : (os : List Object) (k l : Kind) (v : Value) → serves_as table l k ≡ true → IsOfKind table os k v
      → IsOfKind table os l v
  kind_up os k l v s i = ⊎_elim
      (λ e. subst (λ m. IsOfKind table os m v) (sym e) i)
      (λ u. let r = refers_is table os u.1 v (subst (λ m. IsOfKind table os m v) u.3 i) in
      subst (λ m. IsOfKind table os m v) (sym u.2) (subst (IsOfKind table os (Reference u.0)) (sym r.1)
      (up u.0 u.1 r.0 (subst (IsOfKind table os (Reference u.1)) r.1 (subst (λ m. IsOfKind table os m v) u.3 i))
      (subst (λ m. serves_as table m (Reference u.1) ≡ true) u.2 (subst (λ m. serves_as table l m ≡ true) u.3 s)))))
      (serves_is table l k s)
    where
      up : (i c : ContractId) (n : ℕ) → IsOfKind table os (Reference c) (reference n)
          → serves_as table (Reference i) (Reference c) ≡ true → IsOfKind table os (Reference i) (reference n)
      up i c n h s = (
        h.0,
        serves_onward table made (Reference i) (Reference c)
            (Reference (nth_object os n).contract) s h.1,
      )

  -- an object that is of a contract which implements an interface is of that contract itself
  own_contract_is : (o : Object) (c i : ContractId) → is_implemented table c i ≡ true
      → serves_as table (Reference c) (Reference o.contract) ≡ true → c ≡ o.contract
  own_contract_is o c i e s = ⊎_elim
      (λ x. contract_same x)
      (λ u. absurd (both_ways _ (implements_once table made u.1 u.0 i u.4)
      (subst (λ d. is_implemented table d i ≡ true) (contract_same u.2) e)))
      (serves_is table (Reference c) (Reference o.contract) s)
    where
      contract_same : {a b : ContractId} → Reference a ≡ Reference b → a ≡ b
      contract_same e = cc

  -- what an interface sees of it
  seen_up : (o : Object) (i : ContractId) (e : is_implemented table o.contract i ≡ true)
      → (own : Contract) × (interface : Contract) × (contract_at table o.contract ≡ Some own)
      × (contract_at table i ≡ Some interface)
      × (seen_state table i o ≡ seen (naming interface own) (state_number o.state))
  seen_up o i e =
      let own = implemented_is table o.contract i e in
      let face = interface_is table made o.contract i own.0 own.1 e in
      (own.0, face.0, own.1, face.1, seen_by_interface table made i face.0 own.0 o face.1 own.1 e)

  -- each kind that serves sees it in a state with a number
  pub seen_small : (o : Object) (id : ContractId) → serves_as table (Reference id) (Reference o.contract) ≡ true
      → state_number o.state < states_max → seen_state table id o < states_max
  seen_small o id s low = ⊎_elim
      (λ e. subst (λ c. seen_state table c o < states_max) (sym (contract_same e))
      (subst (λ n. n < states_max) (sym (seen_itself table o)) low))
      (λ u. let up = seen_up o id
      (subst (λ d. is_implemented table d id ≡ true) (sym (contract_same u.3))
      (subst (λ d. is_implemented table u.1 d ≡ true) (sym (contract_same u.2)) u.4)) in
      subst (λ n. n < states_max) (sym up.4)
      (seen_low (naming up.1 up.0) (naming_in table made id o.contract up.1 up.0 up.3 up.2) (state_number o.state)))
      (serves_is table (Reference id) (Reference o.contract) s)
    where
      contract_same : {a b : ContractId} → Reference a ≡ Reference b → a ≡ b
      contract_same e = cc

  -- An object that is in the states of a permission is in those of the same permission said for a kind that serves.
  pub converted_in : (o : Object) (c : ContractId) (l : Kind) (a b : States) → serves_as table l (Reference c) ≡ true
      → serves_as table (Reference c) (Reference o.contract) ≡ true
      → state_number o.state < states_max → a (seen_state table c o) ≡ true
      → converted table (Reference c) l (owned a) ≡ owned b → is_in table l b o ≡ true
  converted_in o c l a b s t low h e = ⊎_elim
      (λ same. subst (λ m. is_in table m b o ≡ true) (sym same) (subst (λ (x : States). x (seen_state table c o) ≡ true)
      (states_same (sym (converted_same table (Reference c) (owned a))
      ∙ ap (λ m. converted table (Reference c) m (owned a)) (sym same) ∙ e)) h))
      (λ u. subst (λ m. is_in table m b o ≡ true) (sym u.2)
      (above u.0 (subst (λ d. is_implemented table d u.0 ≡ true) (sym (contract_same u.3)) u.4)
      (subst (λ m. converted table (Reference c) m (owned a) ≡ owned b) u.2 e)))
      (serves_is table l (Reference c) s)
    where
      contract_same : {a b : ContractId} → Reference a ≡ Reference b → a ≡ b
      contract_same e = cc

      states_same : {a b : States} → owned a ≡ owned b → a ≡ b
      states_same e = cc

      owned_allows : (p : Permission) (n : ℕ) → p ≡ owned b → AllowsState p n → b n ≡ true
      owned_allows p n e h = subst (λ q. AllowsState q n) e h

      itself : (i : ContractId) → c ≡ o.contract → is_implemented table o.contract i ≡ true
          → converted table (Reference o.contract) (Reference i) (owned a) ≡ owned b → b (seen_state table i o) ≡ true
      itself i is e' d =
          let up = seen_up o i e' in
          ap b up.4 ∙ owned_allows (for_interface (naming up.1 up.0) (owned a))
          (seen (naming up.1 up.0) (state_number o.state))
          (sym (converted_up table made o.contract i up.0 up.1 (owned a) up.2 up.3 e') ∙ d)
          (up_allows (naming up.1 up.0) (owned a) (state_number o.state) low
          (ap a (sym (seen_itself table o) ∙ ap (λ d. seen_state table d o) (sym is)) ∙ h))

      above : (i : ContractId) → is_implemented table c i ≡ true
          → converted table (Reference c) (Reference i) (owned a) ≡ owned b → is_in table (Reference i) b o ≡ true
      above i e' d =
          let is = own_contract_is o c i e' t in
          itself i is (subst (λ x. is_implemented table x i ≡ true) is e')
          (subst (λ x. converted table (Reference x) (Reference i) (owned a) ≡ owned b) is d)

  -- the same of a value
  pub converted_refers : (os : List Object) (k l : Kind) (v : Value) (a b : States) → AreLow os
      → serves_as table l k ≡ true → IsOfKind table os k v
      → RefersToIn table os k a v → converted table k l (owned a) ≡ owned b → RefersToIn table os l b v
  converted_refers os k l (reference n) a b low s i h e =
      let r = reference_is table os k n i in
      converted_in (nth_object os n) r.0 l a b (subst (λ m. serves_as table l m ≡ true) r.1 s) r.3 (low n r.2)
      (subst (λ m. is_in table m a (nth_object os n) ≡ true) r.1 h)
      (subst (λ m. converted table m l (owned a) ≡ owned b) r.1 e)
  converted_refers os k l (int_value z) a b low s i h e = absurd h
  converted_refers os k l (bool_value z) a b low s i h e = absurd h
  converted_refers os k l (text_value z) a b low s i h e = absurd h

  counts_so : (v q r : Permission) → ((v ≡ q) ⊎ (v ≡ unowned)) → v ≡ r → r ≢ unowned → q ≡ r
  counts_so v q r (inl e) is ne = sym e ∙ is
  counts_so v q r (inr e) is ne = absurd (ne (sym is ∙ e))

  shared_said : (p : Permission) → p ≡ shared → p ≢ unowned
  shared_said p e z = let t : shared ≡ unowned = sym e ∙ z in cc

  -- of an owner's permission that counts: the value refers to an object in its states, as the other kind sees it
  pub counted_in : (os : List Object) (x : Cell) (v : Permission) (l : Kind) (b : States) → AreLow os
      → serves_as table l x.note.kind ≡ true
      → ((v ≡ x.note.permission) ⊎ (v ≡ unowned)) → Stands table os x → converted table x.note.kind l v ≡ owned b
      → RefersToIn table os l b x.value
  counted_in os x v l b low s i a e =
      let o = owner_is v (sym (converted_owns table x.note.kind l v) ∙ ap owns e) in
      converted_refers os x.note.kind l x.value o.0 b low s a.kind
      (a.states o.0 (counts_so v x.note.permission (owned o.0) i o.1 (λ z. let t : owned o.0 ≡ unowned = z in cc)))
      (ap (converted table x.note.kind l) (sym o.1) ∙ e)

  pub counted_shared : (os : List Object) (x : Cell) (v : Permission) (l : Kind)
      → ((v ≡ x.note.permission) ⊎ (v ≡ unowned)) → Stands table os x
      → converted table x.note.kind l v ≡ shared → RefersToShared os x.value
  counted_shared os x v l i a e = a.marked
      (counts_so v x.note.permission shared i
      (shared_is v (sym (converted_shares table x.note.kind l v) ∙ ap is_shared e))
      (λ z. let t : shared ≡ unowned = z in cc))

  -- What a slot gets.
  pub got_stands : (os : List Object) (x : Cell) (v : Permission) (l : Kind) → AreLow os
      → serves_as table l x.note.kind ≡ true → ((v ≡ x.note.permission) ⊎ (v ≡ unowned))
      → Stands table os x → Stands table os (cell x.value l (converted table x.note.kind l v))
  got_stands os x v l low s i a = record {
    kind = kind_up os x.note.kind l x.value s a.kind;
    marked = λ e. counted_shared os x v l i a e;
    states = λ b e. counted_in os x v l b low s i a e;
  }

  -- What a place of a type gets: where the type is declared Shared, the object is marked.
  pub gotten_stands : (os : List Object) (x : Cell) (v w : Permission) (l : Kind) → AreLow os
      → serves_as table l x.note.kind ≡ true → ((v ≡ x.note.permission) ⊎ (v ≡ unowned))
      → (w ≡ shared → RefersToShared os x.value) → Stands table os x
      → Stands table os (cell x.value l (gotten w (converted table x.note.kind l v)))
  gotten_stands os x v (owned c) l low s i m a = got_stands os x v l low s i a
  gotten_stands os x v shared l low s i m a = record {
    kind = kind_up os x.note.kind l x.value s a.kind;
    marked = λ e. m refl;
    states = λ b e. absurd (let t : shared ≡ owned b = e in cc);
  }
  gotten_stands os x v unowned l low s i m a = record {
    kind = kind_up os x.note.kind l x.value s a.kind;
    marked = λ e. absurd (let t : unowned ≡ shared = e in cc);
    states = λ b e. absurd (let t : unowned ≡ owned b = e in cc);
  }

  -- What a parameter gets that wants this permission: it's served.
  pub bound_stands : (os : List Object) (x : Cell) (v w : Permission) (l : Kind) → AreLow os
      → serves_as table l x.note.kind ≡ true → ((v ≡ x.note.permission) ⊎ (v ≡ unowned))
      → (w ≡ shared → RefersToShared os x.value) → fits (converted table x.note.kind l v) w ≡ true → Stands table os x
      → Stands table os (cell x.value l w)
  bound_stands os x v w l low s i m fit a = record {
    kind = kind_up os x.note.kind l x.value s a.kind;
    marked = m;
    states = λ b e. wanted b (ap (fits (converted table x.note.kind l v)) (sym e) ∙ fit);
  }
    where
      among_refers : (k : Kind) (value : Value) (a b : States) → IsOfKind table os k value → AreAmong a b
          → RefersToIn table os k a value → RefersToIn table os k b value
      among_refers k (reference n) a b i among h =
          let r = reference_is table os k n i in
          subst (λ m. is_in table m b (nth_object os n) ≡ true) (sym r.1)
          (among (seen_state table r.0 (nth_object os n)) (seen_small (nth_object os n) r.0 r.3 (low n r.2))
          (subst (λ m. is_in table m a (nth_object os n) ≡ true) r.1 h))
      among_refers k (int_value z) a b i among h = h
      among_refers k (bool_value z) a b i among h = h
      among_refers k (text_value z) a b i among h = h

      wanted : (b : States) → fits (converted table x.note.kind l v) (owned b) ≡ true → RefersToIn table os l b x.value
      wanted b f =
          let o = fits_owner (converted table x.note.kind l v) b f in
          among_refers l x.value o.0 b (kind_up os x.note.kind l x.value s a.kind) o.2
          (counted_in os x v l o.0 low s i a o.1)

  -- a value that is given where Shared is wanted is a reference
  pub given_refers : (os : List Object) (x : Cell) (of : ResolvedType)
      → serves_as table (kind_of_resolved of) x.note.kind ≡ true → IsOfKind table os x.note.kind x.value
      → permission_of_type of ≡ shared → (n : ℕ) × (x.value ≡ reference n)
  given_refers os x (TypedReference id p) s i e = refers_is table os id x.value
      (kind_up os x.note.kind (Reference id) x.value s i)
  given_refers os x IntType s i e = absurd (let t : unowned ≡ shared = e in cc)
  given_refers os x BoolType s i e = absurd (let t : unowned ≡ shared = e in cc)
  given_refers os x TextType s i e = absurd (let t : unowned ≡ shared = e in cc)
