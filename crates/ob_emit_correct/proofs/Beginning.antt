-- Where a body begins: what its slots hold, in terms and in code, and where its code stands.
use Rattle.std.proofs.Common.{◌≡◌, ◌≢◌, ℕ, zero, suc, ◌+◌, ◌-◌, ◌<◌, ◌≤◌, max, Bool, true, inl, inr, ◌⊎◌, ⊎_elim, cond, eqb-true, List, [], ◌∷◌, ◌++◌, map, length, Option, Some, None, refl, sym, ap, ◌∙◌, subst, arith, length-append, append_assoc, eq-eqb}
use Rattle.std.specs.Prelude.{nat_eq, find, unwrap_or, slice_get, replicate, IsSomeAnd, if◌then◌else◌}
use Rattle.std.specs.Option.{option_flatten}
use Rattle.std.proofs.lemmas.Bool.{cases_Bool, and_parts, ne_eqb}
use Rattle.std.proofs.lemmas.List.{length-map, length-replicate}
use Rattle.std.proofs.lemmas.Option.{slice_get_within}
use Rattle.ob_base.specs.declared.id.ContractId.{ContractId}
use Rattle.ob_base.specs.declared.id.TxId.{TxId}
use Rattle.ob_table.specs.Tables.{contract_at, signature_at}
use Rattle.ob_table.specs.declared.contract.Param.{Param}
use Rattle.ob_table.specs.declared.seen.Kind.TheVariants.{Reference}
use Rattle.ob_table_spec.specs.WellFormed.{StaticFrame, frame_of, kind_of_resolved}
use Rattle.ob_heap_spec.specs.Values.{Value, reference, referred}
use Rattle.ob_silica.specs.Slots.{slots_of_terms}
use Rattle.ob_silica.specs.Terms.{SilicaForm, test_form, if_form, loop_form, SilicaTerms, no_terms, and_term, SilicaBody}
use Rattle.ob_silica_formed.specs.Holdings.{Holdings, held, params_held, held_at_start, after_form, after_terms, EachWithin, Each}
use Rattle.ob_silica_formed.specs.Points.{NamesWhatIsThere, HasKinds, TakesResult, LeavesParams, LosesNoReference, NamesBody, ReturnsResult, TakesTurns}
use Rattle.ob_silica_formed.specs.WellFormedTerms.{AreWellFormed}
use Rattle.ob_silica_places.specs.Known.{at}
use Rattle.ob_silica_places.specs.Parameters.{Parameter, parameter_of}
use Rattle.ob_silica_steps.specs.Binding.{bound_cell}
use Rattle.ob_silica_steps.specs.Cells.{Cell, object_in}
use Rattle.ob_silica_steps.specs.Configurations.{SilicaProgram, is_terms_of, SlotCells}
use Rattle.ob_silica_steps.specs.Here.{self_of}
use Rattle.ob_coherent_spec.specs.Remaining.{IsCheckedBody, IsWellFormedForm, IsCheckedProgram}
use Rattle.ob_places_laws.proofs.Interfaces.{contract_number}
use Rattle.ob_places_laws.proofs.Tables.{each_at, there_so}
use Rattle.ob_code.specs.declared.instruction.Instruction.{Instruction}
use Rattle.ob_machine_steps.specs.Slots.{Slots, value_at, first_slots}
use Rattle.ob_emit_correct.proofs.Placing.{HasAt, Around, outermost, Stands, KindsHold}
use Rattle.ob_emit_correct.proofs.Matching.{HasBody, frame_in, code_in, slots_in, SameSlots}
use Rattle.ob_lower_correct.proofs.Binding.{bound_slots}
use Rattle.ob_lower_correct.proofs.Changes.{same_or}
use Rattle.ob_lower_correct.proofs.Standing.{at_same, at_other, none_some, some_same}

-- The terms of a body.

mutual
  each_formed : (f : StaticFrame) (h : Holdings) (terms : SilicaTerms) → Each NamesWhatIsThere f h terms → Each HasKinds f h terms
      → Each TakesResult f h terms → Each LeavesParams f h terms → Each LosesNoReference f h terms → Each NamesBody f h terms
      → Each ReturnsResult f h terms → Each TakesTurns f h terms → Each IsWellFormedForm f h terms
  each_formed f h no_terms n k t p l b r u = tt
  each_formed f h (and_term form span rest) n k t p l b r u = (
    record { numbers = n.0; kinds = k.0; results = t.0; params = p.0; references = l.0; bodies = b.0; returns = r.0; turns = u.0 },
    within_formed f h form n.1 k.1 t.1 p.1 l.1 b.1 r.1 u.1,
    each_formed f (after_form f form h) rest n.2 k.2 t.2 p.2 l.2 b.2 r.2 u.2,
  )

  within_formed : (f : StaticFrame) (h : Holdings) (form : SilicaForm) → EachWithin NamesWhatIsThere f h form
      → EachWithin HasKinds f h form
      → EachWithin TakesResult f h form → EachWithin LeavesParams f h form → EachWithin LosesNoReference f h form
      → EachWithin NamesBody f h form → EachWithin ReturnsResult f h form → EachWithin TakesTurns f h form
      → EachWithin IsWellFormedForm f h form
  within_formed f h (test_form place state branch other join) n k t p l b r u =
      (each_formed f h branch n.0 k.0 t.0 p.0 l.0 b.0 r.0 u.0, each_formed f h other n.1 k.1 t.1 p.1 l.1 b.1 r.1 u.1)
  within_formed f h (if_form a branch other join) n k t p l b r u =
      (each_formed f h branch n.0 k.0 t.0 p.0 l.0 b.0 r.0 u.0, each_formed f h other n.1 k.1 t.1 p.1 l.1 b.1 r.1 u.1)
  within_formed f h (loop_form first a body end) n k t p l b r u =
      (each_formed f _ first n.0 k.0 t.0 p.0 l.0 b.0 r.0 u.0, each_formed f _ body n.1 k.1 t.1 p.1 l.1 b.1 r.1 u.1)
  within_formed f h form n k t p l b r u = tt

-- what is found is one of these, and passes
found_passes : (p : SilicaBody → Bool) (bodies : List SilicaBody) (body : SilicaBody) → find p bodies ≡ Some body
    → (n : ℕ) × (slice_get bodies n ≡ Some body) × (p body ≡ true)
found_passes p [] body e = absurd (none_some e)
found_passes p (x ∷ bodies) body e = ⊎_elim
    (λ yes.
    let same : x ≡ body = some_same x body (sym (ap (λ b. cond b (Some x) (find p bodies)) yes) ∙ e) in
    (0, ap Some same, ap p (sym same) ∙ yes))
    (λ no. let r = found_passes p bodies body (sym (ap (λ b. cond b (Some x) (find p bodies)) no) ∙ e) in (suc r.0, r.1, r.2))
    (cases_Bool (p x))

same_tx : (a b : TxId) → a.0 ≡ b.0 → a ≡ b
same_tx a b e = ap (λ n. record { 0 = n }) e

-- a whole list stands behind what comes before it
has_all : (is before : List Instruction) → HasAt (before ++ is) (length before) is
has_all [] before = tt
has_all (i ∷ is) before = (
  there before,
  subst (λ n. HasAt (before ++ i ∷ is) n is) (length-append before (i ∷ []) ∙
      (let e : length before + 1 ≡ length before + 1 = refl in e))
      (subst (λ l. HasAt l (length (before ++ i ∷ [])) is) (append_assoc before (i ∷ []) is) (has_all is (before ++ i ∷ []))),
)
  where
    there : (xs : List Instruction) → slice_get (xs ++ i ∷ is) (length xs) ≡ Some i
    there [] = refl
    there (x ∷ xs) = there xs

module _ (program : SilicaProgram) (checked : IsCheckedProgram program) (id : ContractId) (tx : TxId)
    (b : HasBody program id tx) where
  -- the body of a constructor or transaction is well-formed
  pub body_formed : AreWellFormed (frame_of program.table id b.own b.signature) (held_at_start id b.signature.params) b.body
  body_formed =
      let found = found_passes (is_terms_of id tx) program.bodies b.body b.found in
      let numbers = and_parts (nat_eq b.body.contract.0 id.0) (nat_eq b.body.tx.0 tx.0) found.2 in
      let contract_is : b.body.contract ≡ id = contract_number b.body.contract id (eqb-true b.body.contract.0 id.0 numbers.0) in
      let tx_is : b.body.tx ≡ tx = same_tx b.body.tx tx (eqb-true b.body.tx.0 tx.0 numbers.1) in
      let is : IsCheckedBody program.table b.body = each_at (IsCheckedBody program.table) program.bodies found.0 b.body
      checked.bodies found.1 in
      subst (λ (i : ContractId). AreWellFormed (frame_of program.table i b.own b.signature)
      (held_at_start i b.signature.params) b.body) contract_is
      (there_so (signature_at b.own b.body.tx)
      (λ s. AreWellFormed (frame_of program.table b.body.contract b.own s)
      (held_at_start b.body.contract s.params) b.body) b.signature
      (ap (signature_at b.own) tx_is ∙ b.is_signature)
      (there_so (contract_at program.table b.body.contract) (λ own. IsSomeAnd (signature_at own b.body.tx)
      (λ s. AreWellFormed (frame_of program.table b.body.contract own s) (held_at_start b.body.contract s.params) b.body)) b.own
      (ap (contract_at program.table) contract_is ∙ b.is_own) is.well_formed))

  -- `this`, the parameters and what the terms name have slots
  pub body_slots : (length b.signature.params < b.body.slots) × (slots_of_terms b.body.terms ≤ b.body.slots)
  body_slots =
      let few = body_formed.numbers.slots in
      (first (slots_of_terms b.body.terms) few, second (length b.signature.params + 1) few)
    where
      first : (m : ℕ) → max (length b.signature.params + 1) m ≤ b.body.slots → length b.signature.params < b.body.slots
      first m few = omega (arith, few)

      second : (m : ℕ) → max m (slots_of_terms b.body.terms) ≤ b.body.slots → slots_of_terms b.body.terms ≤ b.body.slots
      second m few = omega (arith, few)

  -- its code stands from the first place on, and nothing is around it
  pub body_stands : Stands (frame_in program id tx b) (slots_in program id tx b) (code_in program id tx b) 0
      (held_at_start id b.signature.params) b.body.terms [] []
  body_stands = record {
    placed = has_all (code_in program id tx b) [];
    emitted = record {
      forms = each_formed (frame_of program.table id b.own b.signature) (held_at_start id b.signature.params) b.body.terms
          body_formed.numbers.forms body_formed.kinds body_formed.results body_formed.params body_formed.references
          body_formed.bodies
          body_formed.returns body_formed.turns;
      slots = body_slots.1;
      scratch = omega arith;
      follows = body_formed.reached;
    };
    around = subst (λ e. Around (frame_in program id tx b) (slots_in program id tx b) (code_in program id tx b)
        (0 + length (code_in program id tx b)) e (after_terms (frame_in program id tx b).static b.body.terms
        (held_at_start id b.signature.params)) [] [])
        (sym body_formed.ends) outermost;
  }

-- Slots.

-- what a cell of a parameter holds
pub record HasArgument (ps : List Parameter) (vs : List Value) (k : ℕ) (c : Cell) : Type 0 where
  pub parameter : Parameter
  pub is_parameter : slice_get ps k ≡ Some parameter
  pub kind : c.note.kind ≡ kind_of_resolved parameter.of
  pub value : slice_get vs k ≡ Some c.value

-- a body begins with its object in slot 0, and the arguments in the slots after it
pub record BeginsWith (slots : SlotCells) (id : ContractId) (this : ℕ) (ps : List Parameter) (vs : List Value) : Type 0 where
  pub self : self_of slots ≡ this
  pub first : (c : Cell) → slots 0 ≡ Some c → (c.value ≡ reference this) × (c.note.kind ≡ Reference id)
  pub rest : (k : ℕ) (c : Cell) → slots (suc k) ≡ Some c → HasArgument ps vs k c

bound_from : (ps : List Parameter) (vs : List Value) (slots : SlotCells) (k n : ℕ) (c : Cell) → bound_slots slots k ps vs n
    ≡ Some c
    → (slots n ≡ Some c) ⊎ ((j : ℕ) × (n ≡ k + j) × HasArgument ps vs j c)
bound_from [] vs slots k n c e = inl e
bound_from (p ∷ ps) [] slots k n c e = inl e
bound_from (p ∷ ps) (v ∷ vs) slots k n c e = later (bound_from ps vs (at slots k (Some (bound_cell p.of v))) (suc k) n c e)
  where
    here : (n ≡ k) ⊎ (n ≢ k) → at slots k (Some (bound_cell p.of v)) n ≡ Some c
        → (slots n ≡ Some c) ⊎ ((j : ℕ) × (n ≡ k + j) × HasArgument (p ∷ ps) (v ∷ vs) j c)
    here (inl same) e =
        let is : bound_cell p.of v ≡ c =
        some_same (bound_cell p.of v) c (sym (ap (at slots k (Some (bound_cell p.of v))) same ∙ at_same slots k
        (Some (bound_cell p.of v))) ∙ e) in
        inr (
          0,
          omega (arith, same),
          record {
            parameter = p;
            is_parameter = refl;
            kind = ap (λ (x : Cell). x.note.kind) (sym is);
            value = ap (λ (x : Cell). Some x.value) is;
          },
        )
    here (inr other) e = inl (sym (at_other slots k (Some (bound_cell p.of v)) n other) ∙ e)

    later : (at slots k (Some (bound_cell p.of v)) n ≡ Some c) ⊎ ((j : ℕ) × (n ≡ suc k + j) × HasArgument ps vs j c)
        → (slots n ≡ Some c) ⊎ ((j : ℕ) × (n ≡ k + j) × HasArgument (p ∷ ps) (v ∷ vs) j c)
    later (inl h) = here (same_or n k) h
    later (inr h) = inr (
      suc h.0,
      let e = h.1 in omega (arith, e),
      record {
        parameter = h.2.parameter;
        is_parameter = h.2.is_parameter;
        kind = h.2.kind;
        value = h.2.value;
      },
    )

-- slots that hold a reference to the object, and what was bound to parameters from 1 on
pub begins_with : (slots start : SlotCells) (id : ContractId) (this : ℕ) (ps : List Parameter) (vs : List Value) (x : Cell)
    → slots 0 ≡ Some x
    → x.value ≡ reference this → x.note.kind ≡ Reference id → ((k : ℕ) → slots (suc k) ≡ bound_slots start 1 ps vs (suc k))
    → ((k : ℕ) → start (suc k) ≡ None) → BeginsWith slots id this ps vs
begins_with slots start id this ps vs x e value kind bound unset = record {
  self = ap (λ o. unwrap_or (object_in o) 0) e ∙ ap (λ v. unwrap_or (referred v) 0) value;
  first = λ c h.
      let same : x ≡ c = some_same x c (sym e ∙ h) in
      (ap (λ (y : Cell). y.value) (sym same) ∙ value, ap (λ (y : Cell). y.note.kind) (sym same) ∙ kind);
  rest = λ k c h. by k c (bound_from ps vs start 1 (suc k) c (sym (bound k) ∙ h));
}
  where
    by : (k : ℕ) (c : Cell) → (start (suc k) ≡ Some c) ⊎ ((j : ℕ) × (suc k ≡ 1 + j) × HasArgument ps vs j c)
        → HasArgument ps vs k c
    by k c (inl h) = absurd (none_some (sym (unset k) ∙ h))
    by k c (inr h) = subst (λ j. HasArgument ps vs j c) (let e = h.1 in let g : h.0 ≡ k = omega (arith, e) in g) h.2

set_there : (vs : List Value) (more : Slots) (k : ℕ) (v : Value) → slice_get vs k ≡ Some v
    → slice_get (map (λ (v : Value). Some v) vs ++ more) k ≡ Some (Some v)
set_there [] more k v e = absurd (none_some e)
set_there (u ∷ vs) more zero v e = ap (λ x. Some x) e
set_there (u ∷ vs) more (suc k) v e = set_there vs more k v e

first_length : (count this : ℕ) (vs : List Value) → length vs < count → length (first_slots count this vs) ≡ count
first_length count this vs few =
    let set : Slots = Some (reference this) ∷ map (λ v. Some v) vs in
    let whole = length-append set (replicate (count - length set) None) in
    let unset = length-replicate {A = Option Value} (count - length set) None in
    let args : length set ≡ suc (length vs) = ap suc (length-map vs (λ (v : Value). Some v)) in
    omega (arith, whole, unset, args, few)

-- the slots with which code begins are those with which terms begin
pub first_same : (slots : SlotCells) (id : ContractId) (this scratch count : ℕ) (ps : List Parameter) (vs : List Value)
    → BeginsWith slots id this ps vs
    → length vs < scratch → scratch ≤ count → SameSlots scratch count slots (first_slots count this vs)
first_same slots id this scratch count ps vs begins few enough = record {
  many = first_length count this vs (omega (arith, few, enough));
  within = within;
  same = same;
}
  where
    within : (k : ℕ) (c : Cell) → slots k ≡ Some c → k < scratch
    within zero c e = omega (arith, few)
    within (suc k) c e = let low = slice_get_within vs k c.value (begins.rest k c e).value in omega (arith, few, low)

    same : (k : ℕ) (c : Cell) → slots k ≡ Some c → value_at (first_slots count this vs) k ≡ Some c.value
    same zero c e = ap Some (sym (begins.first c e).0)
    same (suc k) c e =
        ap option_flatten (set_there vs (replicate (count - length
        (Some (reference this) ∷ map (λ (v : Value). Some v) vs)) None) k c.value
        (begins.rest k c e).value)

-- Kinds.

held_parameter : (ps : List Param) (n k : ℕ) (q : Parameter) → slice_get (map parameter_of ps) k ≡ Some q
    → (params_held n ps (n + k)).kind ≡ Some (kind_of_resolved q.of)
held_parameter [] n k q e = absurd (none_some e)
held_parameter (p ∷ ps) n zero q e =
    ap (λ (b : Bool). (if b then held (Some (kind_of_resolved p.of)) else params_held (n + 1) ps (n + 0)).kind)
    (eq-eqb (n + 0) n (omega arith))
    ∙ ap (λ (x : Parameter). Some (kind_of_resolved x.of)) (some_same (parameter_of p) q e)
held_parameter (p ∷ ps) n (suc k) q e =
    ap (λ (b : Bool). (if b then held (Some (kind_of_resolved p.of)) else params_held (n + 1) ps (n + suc k)).kind)
    (ne_eqb (n + suc k) n (λ h. omega (arith, h)))
    ∙ ap (λ i. (params_held (n + 1) ps i).kind) (let e : n + suc k ≡ n + 1 + k = omega arith in e)
    ∙ held_parameter ps (n + 1) k q e

-- the kinds that are known where a body begins are those of its slots
pub start_kinds : (slots : SlotCells) (id : ContractId) (this : ℕ) (params : List Param) (vs : List Value)
    → BeginsWith slots id this (map parameter_of params) vs → KindsHold (held_at_start id params) slots
start_kinds slots id this params vs begins zero x c known e = (begins.first c e).1 ∙ some_same (Reference id) x known
start_kinds slots id this params vs begins (suc k) x c known e =
    let h = begins.rest k c e in
    h.kind ∙ some_same (kind_of_resolved h.parameter.of) x
    (sym (held_parameter params 1 k h.parameter h.is_parameter) ∙ ap (λ i. (params_held 1 params i).kind)
    (let e : 1 + k ≡ suc k = omega arith in e)
    ∙ sym (ap (λ (b : Bool). (if b then held (Some (Reference id)) else params_held 1 params (suc k)).kind)
    (ne_eqb (suc k) 0 (λ h. omega (arith, h))))
    ∙ known)
