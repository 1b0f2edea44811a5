-- The values of available fields.
use Rattle.std.proofs.Common.{◌≡◌, ℕ, Bool, true, false, List, [], ◌∷◌, Option, Some, None, refl, sym, ap, subst, ◌∙◌}
use Rattle.std.specs.Prelude.{nat_eq, slice_get, option_map, IfSome, if◌then◌else◌}
use Rattle.std.specs.Option.{option_map_or}
use Rattle.std.proofs.lemmas.Bool.Decides.{Decides-eqb}
use Rattle.std.proofs.lemmas.Option.{slice_get-map}
use Rattle.ob_base.specs.declared.id.FieldId.{FieldId}
use Rattle.ob_code.specs.declared.image.ContractCode.{ContractCode}
use Rattle.ob_code.specs.declared.image.FieldCode.{FieldCode}
use Rattle.ob_table.specs.declared.contract.Field.{Field}
use Rattle.ob_heap.specs.declared.object.Object.{Object}
use Rattle.ob_heap.specs.declared.value.Value.{Value}
use Rattle.ob_heap.specs.Fields.{value_at}
use Rattle.ob_heap.specs.Plain.{object_of, value_of, fields_of}
use Rattle.ob_heap_spec.specs.Objects.{is_available}
use Rattle.ob_code_table.specs.Images.{is_available_in}
use Rattle.ob_code_table.specs.ImageTables.{contract_of_code, field_of_code}
use Rattle.ob_rest_spec.specs.References.{available_value}
use Rattle.ob_owners.specs.Entries.{entry_at}

entry_number : (k : ℕ) (es : List (FieldId × Value)) → IfSome (entry_at k es) (λ e. e.0.0 ≡ k)
entry_number k [] = tt
entry_number k (e ∷ es) = by (nat_eq e.0.0 k) refl (entry_number k es)
  where
    by : (b : Bool) → nat_eq e.0.0 k ≡ b → IfSome (entry_at k es) (λ e. e.0.0 ≡ k) → IfSome (if b then Some e else entry_at k es) (λ e. e.0.0 ≡ k)
    by true is rest = (Decides-eqb e.0.0 k).0 is
    by false is rest = rest

entry_value : (k : ℕ) (es : List (FieldId × Value)) → option_map (λ (e : FieldId × Value). value_of e.1) (entry_at k es) ≡ fields_of es k
entry_value k [] = refl
entry_value k (e ∷ es) = by (nat_eq e.0.0 k) (entry_value k es)
  where
    by : (b : Bool) → option_map (λ (e : FieldId × Value). value_of e.1) (entry_at k es) ≡ fields_of es k
        → option_map (λ (e : FieldId × Value). value_of e.1) (if b then Some e else entry_at k es)
        ≡ option_map value_of (if b then Some e.1 else value_at (record { 0 = k }) es)
    by true rest = refl
    by false rest = rest

-- the value of a field, by what the image says of it
value_by : (c : ContractCode) (o : Object) (k : ℕ) → available_value (contract_of_code c) (object_of o) k
    ≡ (if option_map_or (is_available o.state) (option_map field_of_code (slice_get c.fields k)) false then fields_of o.fields k else None)
value_by c o k = ap (λ (r : Option Field). if option_map_or (is_available o.state) r false then fields_of o.fields k else None) (slice_get-map field_of_code c.fields k)

-- the entry of a field, by whether it is available
abbrev entry_if : Bool → ℕ → List (FieldId × Value) → Option (FieldId × Value)
entry_if b k es = if b then entry_at k es else None

entry_if_value : (b : Bool) (k : ℕ) (es : List (FieldId × Value))
    → option_map (λ (e : FieldId × Value). value_of e.1) (entry_if b k es) ≡ (if b then fields_of es k else None)
entry_if_value true k es = entry_value k es
entry_if_value false k es = refl

entry_if_number : (b : Bool) (k : ℕ) (es : List (FieldId × Value)) → IfSome (entry_if b k es) (λ e. e.0.0 ≡ k)
entry_if_number true k es = entry_number k es
entry_if_number false k es = tt

pub value_there : (c : ContractCode) (o : Object) (k : ℕ) (f : FieldCode) (r : Option (FieldId × Value)) → slice_get c.fields k ≡ Some f
    → r ≡ (if is_available_in o.state f then entry_at k o.fields else None)
    → option_map (λ (e : FieldId × Value). value_of e.1) r ≡ available_value (contract_of_code c) (object_of o) k
value_there c o k f r at is =
    ap (option_map (λ (e : FieldId × Value). value_of e.1)) is ∙ entry_if_value (is_available_in o.state f) k o.fields
    ∙ sym (ap (λ (g : Option FieldCode). if option_map_or (is_available o.state) (option_map field_of_code g) false then fields_of o.fields k else None) at)
    ∙ sym (value_by c o k)

pub number_there : (o : Object) (k : ℕ) (f : FieldCode) (r : Option (FieldId × Value)) → r ≡ (if is_available_in o.state f then entry_at k o.fields else None)
    → IfSome r (λ e. e.0.0 ≡ k)
number_there o k f r is = subst (λ x. IfSome x (λ e. e.0.0 ≡ k)) (sym is) (entry_if_number (is_available_in o.state f) k o.fields)

pub value_missing : (c : ContractCode) (o : Object) (k : ℕ) → slice_get c.fields k ≡ None → None ≡ available_value (contract_of_code c) (object_of o) k
value_missing c o k at =
    sym (ap (λ (g : Option FieldCode). if option_map_or (is_available o.state) (option_map field_of_code g) false then fields_of o.fields k else None) at)
    ∙ sym (value_by c o k)
