-- What is so of a frame whose body begins: of its slots and parameters, and what its first context says.
use Rattle.std.proofs.Common.{◌≡◌, ◌≢◌, ℕ, zero, suc, ◌+◌, ◌<◌, ◌≤◌, true, false, List, [], ◌∷◌, map, length, Option, Some, None, refl, sym, ap, subst, ◌∙◌, arith, ⊎_elim, add-one}
use Rattle.std.specs.Prelude.{nat_eq, slice_get, unwrap_or}
use Rattle.std.proofs.lemmas.Bool.{ne_eqb}
use Rattle.std.proofs.lemmas.Bool.Decides.{eqb_tells}
use Rattle.std.proofs.lemmas.Option.{same_Some}
use Rattle.ob_base.specs.Limits.{most_slots}
use Rattle.ob_perm.specs.Permissions.{Permission, owns}
use Rattle.ob_table.specs.Tables.{ClassTable, contract_at, signature_at}
use Rattle.ob_table.specs.declared.contract.Contract.{Contract}
use Rattle.ob_table.specs.declared.contract.Param.{Param}
use Rattle.ob_table.specs.declared.contract.ResolvedType.{ResolvedType}
use Rattle.ob_table.specs.declared.contract.Signature.{Signature}
use Rattle.ob_table.specs.declared.seen.Kind.TheVariants.{Reference}
use Rattle.ob_table_spec.specs.WellFormed.{kind_of_resolved}
use Rattle.ob_heap_spec.specs.Values.{reference}
use Rattle.ob_heap_spec.specs.Objects.{Object, state_number}
use Rattle.ob_silica_places.specs.Known.{known, permission_of_type}
use Rattle.ob_silica_places.specs.Places.{slot}
use Rattle.ob_silica_places.specs.Parameters.{Parameter, parameter_of, parameters, this_parameter, all_parameters}
use Rattle.ob_silica_steps.specs.Cells.{Cell, cell, object_in, permission_in}
use Rattle.ob_silica_steps.specs.Configurations.{SlotCells, SilicaFrame, by_this, by_new}
use Rattle.ob_silica_steps.specs.Binding.{bound_cell}
use Rattle.ob_silica_steps.specs.Here.{Here, self_of}
use Rattle.ob_silica_formed.specs.Holdings.{held, params_held, held_at_start}
use Rattle.ob_flow_spec.specs.Contexts.{BodyFrame, constructs, available, known_as, params_known, this_known, field_known, beginning}
use Rattle.ob_flow_spec.specs.Joining.{same_mode}
use Rattle.ob_places_laws.proofs.Permissions.{same_mode_itself}
use Rattle.ob_places_laws.proofs.Serves.{allows_itself}
use Rattle.ob_coherent_spec.specs.Counting.{nth_object}
use Rattle.ob_coherent_spec.specs.Standing.{AllStand, Stands}
use Rattle.ob_coherent_spec.specs.Saying.{SaysOf, Says, own_object, own_cell, every}
use Rattle.ob_coherent_spec.specs.Remaining.{HoldsSo, AreHeld}
use Rattle.ob_coherent_spec.specs.Waiting.{IsFrame}
use Rattle.ob_soundness_laws.proofs.counting.Cells.{counted_cell}
use Rattle.ob_soundness_laws.specs.calls.Bound.{IsBoundTo, AreBound}
use Rattle.ob_soundness_laws.specs.calls.Entered.{BeginsOn}

not_first : (k : ℕ) → nat_eq (suc k) 0 ≡ false
not_first k = ne_eqb (suc k) 0 (λ e. omega arith)

-- Lists of bound slots.

-- the slot of a parameter is bound
pub bound_at : (table : ClassTable) (objects : List Object) (slots : SlotCells) (k : ℕ) (ps : List Parameter)
    → AreBound table objects slots k ps → (j : ℕ) (p : Parameter) → slice_get ps j ≡ Some p
    → IsBoundTo table objects p.of (slots (k + j))
bound_at table objects slots k [] b j p e = absurd (cc)
bound_at table objects slots k (q ∷ ps) b zero p e =
    let same : q ≡ p = same_Some q p e in
    subst (λ m. IsBoundTo table objects p.of (slots m)) (let z : k ≡ k + 0 = omega arith in z)
    (subst (λ (r : Parameter). IsBoundTo table objects r.of (slots k)) same b.0)
bound_at table objects slots k (q ∷ ps) b (suc j) p e =
    subst (λ m. IsBoundTo table objects p.of (slots m)) (let z : suc k + j ≡ k + suc j = omega arith in z)
    (bound_at table objects slots (suc k) ps b.1 j p e)

-- a slot that is bound is said of as it's declared
bound_says : (table : ClassTable) (objects : List Object) (N : ℕ → Type 0) (of : ResolvedType) (x : Option Cell)
    → IsBoundTo table objects of x → SaysOf N (Some (known_as of)) x
bound_says table objects N of x b = subst (SaysOf N (Some (known_as of))) (sym b.set) (record {
  known = (refl, allows_itself (permission_of_type of));
  owner = λ n must some. (counted_cell owns n (bound_cell of b.value) some).0;
})

none_says : (N : ℕ → Type 0) (x : Option Cell) → x ≡ None → SaysOf N None x
none_says N x e = subst (SaysOf N None) (sym e) (record { known = tt; owner = λ n must some. absurd (omega arith) })

params_say : (table : ClassTable) (objects : List Object) (N : ℕ → Type 0) (slots : SlotCells) (n : ℕ) (ps : List Param)
    → AreBound table objects slots n (map parameter_of ps) → ((k : ℕ) → n + length ps ≤ k → slots k ≡ None)
    → (k : ℕ) → n ≤ k → SaysOf N (params_known n ps k) (slots k)
params_say table objects N slots n [] b unset k le = none_says N (slots k) (unset k (omega arith))
params_say table objects N slots n (p ∷ ps) b unset k le = ⊎_elim
    (λ same. rw same.0 (subst (λ m. SaysOf N (Some (known_as p.of)) (slots m)) (sym same.1)
    (bound_says table objects N p.of (slots n) b.0)))
    (λ other. rw other.0 (params_say table objects N slots (n + 1) ps
    (subst (λ m. AreBound table objects slots m (map parameter_of ps)) (sym (add-one n)) b.1)
    (λ j low. unset j (omega arith)) k (let ne : k ≢ n = other.1 in omega arith)))
    (eqb_tells k n)

-- what a slot holds that is bound
bound_holds : (table : ClassTable) (objects : List Object) (of : ResolvedType) (x : Option Cell) (y : Cell)
    → IsBoundTo table objects of x → x ≡ Some y → HoldsSo (held (Some (kind_of_resolved of))) y
bound_holds table objects of x y b e =
    let same : bound_cell of b.value ≡ y = same_Some (bound_cell of b.value) y (sym b.set ∙ e) in
    subst (HoldsSo (held (Some (kind_of_resolved of)))) same
    (record { kind = λ kind i. same_Some (kind_of_resolved of) kind i; refers = λ i. i })

params_hold : (table : ClassTable) (objects : List Object) (slots : SlotCells) (n : ℕ) (ps : List Param)
    → AreBound table objects slots n (map parameter_of ps) → ((k : ℕ) → n + length ps ≤ k → slots k ≡ None)
    → (k : ℕ) (y : Cell) → n ≤ k → slots k ≡ Some y → HoldsSo (params_held n ps k) y
params_hold table objects slots n [] b unset k y le e = absurd (let z = unset k (omega arith) in cc)
params_hold table objects slots n (p ∷ ps) b unset k y le e = ⊎_elim
    (λ same. rw same.0 (bound_holds table objects p.of (slots n) y b.0 (ap slots (sym same.1) ∙ e)))
    (λ other. rw other.0 (params_hold table objects slots (n + 1) ps
    (subst (λ m. AreBound table objects slots m (map parameter_of ps)) (sym (add-one n)) b.1)
    (λ j low. unset j (omega arith)) k y (let ne : k ≢ n = other.1 in omega arith) e))
    (eqb_tells k n)

-- A frame that begins.

module _ (table : ClassTable) (objects : List Object) (f : SilicaFrame) (s : Signature) (q : Permission) (n : ℕ)
    (begins : BeginsOn table objects f s q n) where
  pub begins_self : self_of f.slots ≡ n
  begins_self = ap (λ x. unwrap_or (object_in x) 0) begins.this

  pub begins_there : n < length objects
  begins_there = begins.stands.kind.0

  begins_unset : (k : ℕ) → 1 + length s.params ≤ k → f.slots k ≡ None
  begins_unset k low = begins.unset k (omega arith)

  -- slot 0 and the slots of parameters stand
  pub begins_stand : AllStand table objects f.slots
  begins_stand zero x e = subst (Stands table objects) (same_Some _ x (sym begins.this ∙ e)) begins.stands
  begins_stand (suc k) x e = stand_from 1 s.params begins.bound begins_unset (suc k) (omega arith) x e
    where
      stand_from : (m : ℕ) (ps : List Param) → AreBound table objects f.slots m (map parameter_of ps)
          → ((k : ℕ) → m + length ps ≤ k → f.slots k ≡ None) → (k : ℕ) → m ≤ k → (x : Cell) → f.slots k ≡ Some x
          → Stands table objects x
      stand_from m [] b unset k le x e = absurd (let z = unset k (omega arith) in cc)
      stand_from m (p ∷ ps) b unset k le x e = ⊎_elim
          (λ same. subst (Stands table objects) (same_Some (bound_cell p.of b.0.value) x
          (sym b.0.set ∙ ap f.slots (sym same.1) ∙ e)) b.0.stands)
          (λ other. stand_from (suc m) ps b.1 (λ j low. unset j (omega arith)) k
          (let ne : k ≢ m = other.1 in omega arith) x e)
          (eqb_tells k m)

  -- the slots hold what is held where a body begins
  pub begins_held : AreHeld (held_at_start f.contract s.params) f.slots every
  begins_held zero x free e = subst (HoldsSo (held (Some (Reference f.contract)))) (same_Some _ x (sym begins.this ∙ e))
      (record { kind = λ kind i. same_Some (Reference f.contract) kind i; refers = λ i. refl })
  begins_held (suc k) x free e = rw (not_first k)
      (params_hold table objects f.slots 1 s.params begins.bound begins_unset (suc k) x (omega arith) e)

  -- the frame is one of its body
  pub begins_frame : (own : Contract) (m : ℕ) → contract_at table f.contract ≡ Some own → own.interface ≡ false
      → signature_at own f.tx ≡ Some s → m ≤ most_slots → length s.params < m
      → (nth_object objects n).contract ≡ f.contract
      → (nat_eq f.tx.0 0 ≡ true → f.how ≡ by_new) → (f.how ≡ by_new → nat_eq f.tx.0 0 ≡ true)
      → (f.how ≢ by_this → s.listed ≡ [])
      → IsFrame table objects f (record { own = own; signature = s; slots = m })
  begins_frame own m ec class es few params contract constructor constructs listed = record {
    own = ec;
    class = class;
    signature = es;
    few = few;
    params = params;
    this = cell (reference n) (Reference f.contract) q;
    set = begins.this;
    refers = ap reference (sym begins_self);
    kind = refl;
    there = subst (λ m. m < length objects) (sym begins_self) begins_there;
    contract = ap (λ m. (nth_object objects m).contract) begins_self ∙ contract;
    constructor = constructor;
    constructs = constructs;
    listed = listed;
    arguments = argument;
    unset = λ k le. begins.unset k (omega arith);
  }
    where
      argument : (k : ℕ) (p : Parameter) → slice_get (all_parameters f.contract s) k ≡ Some p
          → (x : Cell) × (f.slots k ≡ Some x) × (x.note.kind ≡ kind_of_resolved p.of)
      argument zero p e = (
        cell (reference n) (Reference f.contract) q,
        begins.this,
        ap (λ (r : Parameter). kind_of_resolved r.of) (same_Some (this_parameter f.contract s) p e),
      )
      argument (suc k) p e =
          let b = bound_at table objects f.slots 1 (parameters s) begins.bound k p e in
          (bound_cell p.of b.value, ap f.slots (let z : suc k ≡ 1 + k = omega arith in z) ∙ b.set, refl)

  -- what the first context says, where it says of the fields what is so
  pub begins_says : (N : ℕ → Type 0) (h : Here) (b : BodyFrame) → h.slots ≡ f.slots → b.here ≡ f.contract
      → b.signature ≡ s → (this_known b).permission ≡ q
      → ((k : ℕ) → available b k (state_number (own_object h).state) ≡ true → SaysOf N (field_known b k) (own_cell h k))
      → Says b N (beginning b) h every
  begins_says N h b slots here signature permission fields = record {
    slots = λ k free. subst (λ (t : SlotCells). SaysOf N (beginning b (slot k)) (t k)) (sym slots) (slot_says k);
    fields = λ k there free. fields k there;
    mode = λ free. subst (λ (t : SlotCells). same_mode (this_known b).permission (permission_in (t 0)) ≡ true)
        (sym slots)
        (subst (λ y. same_mode (this_known b).permission (permission_in y) ≡ true) (sym begins.this)
        (subst (λ p. same_mode p q ≡ true) (sym permission) (same_mode_itself q)));
  }
    where
      this_is : this_known b ≡ known (Reference f.contract) q
      this_is = ap (λ c. known (Reference c) (this_known b).permission) here
          ∙ ap (known (Reference f.contract)) permission

      slot_says : (k : ℕ) → SaysOf N (beginning b (slot k)) (f.slots k)
      slot_says zero = subst (λ y. SaysOf N (Some y) (f.slots 0)) (sym this_is)
          (subst (SaysOf N (Some (known (Reference f.contract) q))) (sym begins.this) (record {
            known = (refl, allows_itself q);
            owner = λ m must some. (counted_cell owns m (cell (reference n) (Reference f.contract) q) some).0;
          }))
      slot_says (suc k) = rw (not_first k)
          (subst (λ (r : Signature). SaysOf N (params_known 1 r.params (suc k)) (f.slots (suc k))) (sym signature)
          (params_say table objects N f.slots 1 s.params begins.bound begins_unset (suc k) (omega arith)))
