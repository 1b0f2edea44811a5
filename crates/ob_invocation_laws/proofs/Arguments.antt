-- Each use of a handle that is an argument is that of a parameter, which has a reference to its object.
use Rattle.std.proofs.Common.{◌≡◌, ◌∙◌, ℕ, zero, suc, Bool, true, false, List, [], ◌∷◌, Option, Some, None, refl, sym, ap, length, arith}
use Rattle.std.specs.Prelude.{not, ◌||◌, zip, slice_get, filter_map, option_map}
use Rattle.std.specs.Option.{option_map_or}
use Rattle.std.specs.List.{list_any, cons_option}
use Rattle.ob_base.specs.declared.permission.Perm.{Perm}
use Rattle.ob_base.specs.declared.id.ContractId.{ContractId}
use Rattle.ob_table.specs.Tables.{ClassTable}
use Rattle.ob_table.specs.declared.contract.Param.{Param}
use Rattle.ob_table.specs.declared.contract.ResolvedType.{ResolvedType}
use Rattle.ob_table.specs.declared.contract.ResolvedType.TheVariants.{Int, Bool as BoolKind, Text, Reference}
use Rattle.ob_heap_spec.specs.Values.{Value, reference}
use Rattle.ob_heap_spec.specs.Contents.{HandleName, Handle, Content}
use Rattle.ob_heap_spec.specs.Handles.{handle_at}
use Rattle.ob_invocation_spec.specs.Requests.{Argument, int_argument, bool_argument, text_argument, handle_argument, other_argument}
use Rattle.ob_invocation_spec.specs.Handles.{handle_name}
use Rattle.ob_invocation_spec.specs.Entries.{HandleUse, value_of, used_for, use_of_argument}
use Rattle.ob_invocation_spec.specs.Refusals.{is_of_type, is_argument_for}
use Rattle.ob_invocation_laws.proofs.Entered.{bound, some_one}

-- the values of arguments, and the uses of those that are handles
abbrev pub values_in : Content → List ℕ → List Argument → List Value
values_in content who args = filter_map (value_of content who) args

abbrev pub uses_in : Content → List ℕ → List Param → List Argument → List HandleUse
uses_in content who params args =
    filter_map (λ pair. use_of_argument content who pair.0 pair.1) (zip params args)

-- each argument is of its parameter's type
abbrev pub AreOfTypes : ClassTable → Content → List ℕ → List Param → List Argument → Type 0
AreOfTypes table content who params args =
    list_any (λ pair. not (is_argument_for table content who pair.0 pair.1)) (zip params args) ≡ false

-- a use is of the handle, for the type and with the exit that are declared
used_as : (of : ResolvedType) (exit : Perm) (name : HandleName) (h : Handle) (u : HandleUse)
    → used_for of exit name h ≡ Some u → (of ≡ Reference u.contract u.entry) × (u.exit ≡ exit) × (u.handle ≡ h)
used_as (Reference c p) exit name h u is =
    let same = some_one (record { name = name; handle = h; contract = c; entry = p; exit = exit }) u is in
    rw same (refl, refl, refl)
used_as Int exit name h u is = absurd cc
used_as BoolKind exit name h u is = absurd cc
used_as Text exit name h u is = absurd cc

-- a use of a handle as an argument is for its parameter, whose value refers to its object
use_fits : (content : Content) (who : List ℕ) (p : Param) (arg : Argument) (u : HandleUse)
    → use_of_argument content who p arg ≡ Some u
    → (value_of content who arg ≡ Some (reference u.handle.object)) × (p.of ≡ Reference u.contract u.entry)
    × (u.exit ≡ p.exit)
use_fits content who p (int_argument z) u is = absurd cc
use_fits content who p (bool_argument b) u is = absurd cc
use_fits content who p (text_argument bytes) u is = absurd cc
use_fits content who p (handle_argument name) u is =
    let h = bound (handle_at content (handle_name who name)) (used_for p.of p.exit (handle_name who name)) u is in
    let same = used_as p.of p.exit (handle_name who name) h.0 u h.2 in (
      ap (option_map (λ (x : Handle). reference x.object)) (h.1 ∙ ap Some (sym same.2)),
      same.0,
      same.1,
    )
use_fits content who p other_argument u is = absurd cc

none_of_both : (a b : Bool) → (not a || b) ≡ false → (a ≡ true) × (b ≡ false)
none_of_both true b is = (refl, is)
none_of_both false b is = absurd cc

-- an argument of a type has a value
has_value : (table : ClassTable) (content : Content) (who : List ℕ) (p : Param) (arg : Argument)
    → is_argument_for table content who p arg ≡ true → (v : Value) × (value_of content who arg ≡ Some v)
has_value table content who p arg is = go (value_of content who arg) refl is
  where
    go : (v : Option Value) → value_of content who arg ≡ v
        → option_map_or (is_of_type table content.objects p.of) v false ≡ true
        → (v : Value) × (value_of content who arg ≡ Some v)
    go None same of = absurd cc
    go (Some v) same of = (v, same)

-- the parameter that a use is for, and its value
abbrev pub IsForParameter : Content → List ℕ → List Param → List Argument → HandleUse → Type 0
IsForParameter content who params args u =
    (k : ℕ) × (p : Param) × (slice_get params k ≡ Some p)
    × (slice_get (values_in content who args) k ≡ Some (reference u.handle.object))
    × (p.of ≡ Reference u.contract u.entry) × (u.exit ≡ p.exit)

pub parameter_of_use : (table : ClassTable) (content : Content) (who : List ℕ) (params : List Param)
    (args : List Argument) → AreOfTypes table content who params args → (j : ℕ) (u : HandleUse)
    → slice_get (uses_in content who params args) j ≡ Some u → IsForParameter content who params args u
parameter_of_use table content who [] args are j u there = absurd cc
parameter_of_use table content who (p ∷ params) [] are j u there = absurd cc
parameter_of_use table content who (p ∷ params) (arg ∷ args) are j u there =
    let parts = none_of_both (is_argument_for table content who p arg)
    (list_any (λ pair. not (is_argument_for table content who pair.0 pair.1)) (zip params args)) are in
    let value = has_value table content who p arg parts.0 in
    by_use value.0 value.1 (use_of_argument content who p arg) refl j there
    (λ i e. parameter_of_use table content who params args parts.1 i u e)
  where
    later : (v : Value) → value_of content who arg ≡ Some v → IsForParameter content who params args u
        → IsForParameter content who (p ∷ params) (arg ∷ args) u
    later v value l = (suc l.0, l.1, l.2, rw value l.3, l.4, l.5)

    first : (w : HandleUse) → use_of_argument content who p arg ≡ Some w → w ≡ u
        → IsForParameter content who (p ∷ params) (arg ∷ args) u
    first w is same =
        let fits = use_fits content who p arg u (is ∙ ap Some same) in
        (0, p, refl, rw fits.0 refl, fits.1, fits.2)

    by_use : (v : Value) → value_of content who arg ≡ Some v → (w : Option HandleUse)
        → use_of_argument content who p arg ≡ w → (j : ℕ)
        → slice_get (cons_option w (uses_in content who params args)) j ≡ Some u
        → ((i : ℕ) → slice_get (uses_in content who params args) i ≡ Some u
        → IsForParameter content who params args u)
        → IsForParameter content who (p ∷ params) (arg ∷ args) u
    by_use v value None is j there rest = later v value (rest j there)
    by_use v value (Some w) is zero there rest = first w is (some_one u w (sym there))
    by_use v value (Some w) is (suc i) there rest = later v value (rest i there)

-- Each parameter that is given an object has a use of its handle.

-- an argument for a parameter of a contract is the name of a handle
handle_for : (table : ClassTable) (content : Content) (who : List ℕ) (p : Param) (c : ContractId) (entry : Perm)
    (arg : Argument) → p.of ≡ Reference c entry → is_argument_for table content who p arg ≡ true
    → (u : HandleUse) × (use_of_argument content who p arg ≡ Some u)
handle_for table content who p c entry (int_argument z) of is = absurd (let not = rw of at is in cc)
handle_for table content who p c entry (bool_argument b) of is = absurd (let not = rw of at is in cc)
handle_for table content who p c entry (text_argument bytes) of is = absurd (let not = rw of at is in cc)
handle_for table content who p c entry other_argument of is = absurd cc
handle_for table content who p c entry (handle_argument name) of is =
    go (handle_at content (handle_name who name)) refl is
  where
    go : (h : Option Handle) → handle_at content (handle_name who name) ≡ h
        → option_map_or (is_of_type table content.objects p.of) (option_map (λ (x : Handle). reference x.object) h)
        false ≡ true
        → (u : HandleUse) × (use_of_argument content who p (handle_argument name) ≡ Some u)
    go None there is = absurd cc
    go (Some h) there is = (
      record { name = handle_name who name; handle = h; contract = c; entry = entry; exit = p.exit },
      rw (there, of) refl,
    )

-- the use of a parameter's argument
abbrev pub HasUse : Content → List ℕ → List Param → List Argument → ℕ → Param → Type 0
HasUse content who params args k p =
    (j : ℕ) × (u : HandleUse) × (slice_get (uses_in content who params args) j ≡ Some u)
    × (slice_get (values_in content who args) k ≡ Some (reference u.handle.object))
    × (p.of ≡ Reference u.contract u.entry) × (u.exit ≡ p.exit)

pub use_of_parameter : (table : ClassTable) (content : Content) (who : List ℕ) (params : List Param)
    (args : List Argument) → AreOfTypes table content who params args → length args ≡ length params → (k : ℕ)
    (p : Param) (c : ContractId) (entry : Perm) → slice_get params k ≡ Some p → p.of ≡ Reference c entry
    → HasUse content who params args k p
use_of_parameter table content who [] args are same k p c entry there of = absurd cc
use_of_parameter table content who (q ∷ params) [] are same k p c entry there of = absurd (omega (arith, same))
use_of_parameter table content who (q ∷ params) (arg ∷ args) are same zero p c entry there of =
    let parts = none_of_both (is_argument_for table content who q arg)
    (list_any (λ pair. not (is_argument_for table content who pair.0 pair.1)) (zip params args)) are in
    let one : q ≡ p = some_one p q (sym there) in
    let its = handle_for table content who q c entry arg (ap (λ (x : Param). x.of) one ∙ of) parts.0 in
    let fits = use_fits content who q arg its.0 its.1 in (
      0,
      its.0,
      ap (λ w. slice_get (cons_option w (uses_in content who params args)) 0) its.1,
      ap (λ w. slice_get (cons_option w (values_in content who args)) 0) fits.0,
      ap (λ (x : Param). x.of) (sym one) ∙ fits.1,
      fits.2 ∙ ap (λ (x : Param). x.exit) one,
    )
use_of_parameter table content who (q ∷ params) (arg ∷ args) are same (suc k) p c entry there of =
    let parts = none_of_both (is_argument_for table content who q arg)
    (list_any (λ pair. not (is_argument_for table content who pair.0 pair.1)) (zip params args)) are in
    let value = has_value table content who q arg parts.0 in
    let rest = use_of_parameter table content who params args parts.1 (omega (arith, same)) k p c entry there of in
    let at : (j : ℕ) × (slice_get (uses_in content who (q ∷ params) (arg ∷ args)) j ≡ Some rest.1) =
    by_use (use_of_argument content who q arg) rest.0 rest.1 rest.2 in (
      at.0,
      rest.1,
      at.1,
      ap (λ w. slice_get (cons_option w (values_in content who args)) (suc k)) value.1 ∙ rest.3,
      rest.4,
      rest.5,
    )
  where
    by_use : (w : Option HandleUse) (j : ℕ) (u : HandleUse) → slice_get (uses_in content who params args) j ≡ Some u
        → (i : ℕ) × (slice_get (cons_option w (uses_in content who params args)) i ≡ Some u)
    by_use None j u there = (j, there)
    by_use (Some w) j u there = (suc j, there)
