-- What a class table says without the names of parameters, listed fields and bodies is what it says with them.
use Rattle.std.proofs.Common.{◌≡◌, ℕ, ◌+◌, Bool, true, false, not, cond, List, [], ◌∷◌, map, length, Option, Some, None, refl, ap, ◌∙◌}
use Rattle.std.proofs.Math.Path.{fun_ext}
use Rattle.std.proofs.lemmas.List.{length-map}
use Rattle.std.proofs.lemmas.Option.{slice_get-map}
use Rattle.std.specs.Prelude.{◌==◌, ◌||◌, nat_eq, nat_lt, position, slice_get, bytes_eq, option_map, if◌then◌else◌}
use Rattle.std.specs.List.{position_or_len}
use Rattle.std.specs.Option.{option_map_or, option_and_then}
use Rattle.ob_base.specs.Optional.{◌>>=◌}
use Rattle.ob_base.specs.declared.id.ContractId.{ContractId}
use Rattle.ob_base.specs.declared.id.TxId.{TxId}
use Rattle.ob_base.specs.declared.permission.Perm.{Perm}
use Rattle.ob_perm.specs.Masks.{permission_of, states_of}
use Rattle.ob_perm.specs.Permissions.{owns}
use Rattle.ob_table.specs.Tables.{ClassTable, contract_at, contract_id, contract_named, signature_at}
use Rattle.ob_table.specs.declared.contract.Contract.{Contract}
use Rattle.ob_table.specs.declared.contract.Signature.{Signature}
use Rattle.ob_table.specs.declared.seen.Kind.{Kind}
use Rattle.ob_table.specs.declared.seen.Kind.TheVariants.{Int, Bool as BoolKind, Text, Reference}
use Rattle.ob_table_spec.specs.WellFormed.{is_implemented, serves_as, constructor_at}
use Rattle.ob_heap_spec.specs.Contents.{object_at}
use Rattle.ob_heap_spec.specs.Dispatch.{transaction_named}
use Rattle.ob_heap_spec.specs.GoingWrong.{is_held_within}
use Rattle.ob_heap_spec.specs.Objects.{Object, state_number, seen_between, seen_state, is_in_states}
use Rattle.ob_emit_laws.specs.Names.{signature_without_names, contract_without_names, without_names}

-- Lists and values that may be missing.

-- what is said of a thing, if there is one, is said of what is made of it
pub said_alike : {A B C : Type 0} (made : A → B) (g : B → C) (f : A → C) (d : C) → ((x : A) → g (made x) ≡ f x) → (o : Option A)
    → option_map_or g (option_map made o) d ≡ option_map_or f o d
said_alike made g f d same None = refl
said_alike made g f d same (Some x) = same x

-- what follows a thing, if there is one, follows what is made of it
pub follows_alike : {A B C D : Type 0} (made : A → B) (after : C → D) (g : B → Option D) (f : A → Option C)
    → ((x : A) → g (made x) ≡ option_map after (f x)) → (o : Option A) → (option_map made o >>= g) ≡ option_map after (o >>= f)
follows_alike made after g f same None = refl
follows_alike made after g f same (Some x) = same x

-- the same where the thing is the same
pub then_alike : {A C D : Type 0} (after : C → D) (g : A → Option D) (f : A → Option C)
    → ((x : A) → g x ≡ option_map after (f x)) → (o : Option A)
    → (o >>= g) ≡ option_map after (o >>= f)
then_alike after g f same None = refl
then_alike after g f same (Some x) = same x

-- the same where nothing is made of what follows
pub leads_alike : {A B C : Type 0} (made : A → B) (g : B → Option C) (f : A → Option C) → ((x : A) → g (made x) ≡ f x)
    → (o : Option A)
    → (option_map made o >>= g) ≡ (o >>= f)
leads_alike made g f same None = refl
leads_alike made g f same (Some x) = same x

place-map : {A B : Type 0} (made : A → B) (p : B → Bool) (xs : List A)
    → position_or_len p (map made xs) ≡ position_or_len (λ x. p (made x)) xs
place-map made p [] = refl
place-map made p (x ∷ xs) = ap (λ n. cond (not (p (made x))) (1 + n) 0) (place-map made p xs)

position-map : {A B : Type 0} (made : A → B) (p : B → Bool) (xs : List A)
    → position p (map made xs) ≡ position (λ x. p (made x)) xs
position-map made p xs =
    ap (λ n. cond (nat_lt n (length (map made xs))) (Some n) None) (place-map made p xs)
    ∙ ap (λ m. cond (nat_lt (position_or_len (λ x. p (made x)) xs) m) (Some (position_or_len (λ x. p (made x)) xs)) None)
    (length-map xs made)

-- Contracts, constructors and transactions.

pub contract_unnamed : (table : ClassTable) (id : ContractId)
    → contract_at (without_names table) id ≡ option_map contract_without_names (contract_at table id)
contract_unnamed table id = slice_get-map contract_without_names table.contracts id.0

pub named_unnamed : (table : ClassTable) (name : List ℕ)
    → contract_named (without_names table).contracts name ≡ contract_named table.contracts name
named_unnamed table name =
    ap (option_map contract_id) (position-map contract_without_names (λ (c : Contract). bytes_eq name c.name) table.contracts)

pub signature_unnamed : (own : Contract) (tx : TxId)
    → signature_at (contract_without_names own) tx ≡ option_map signature_without_names (signature_at own tx)
signature_unnamed own tx = slice_get-map signature_without_names own.transactions tx.0

pub transaction_unnamed : (own : Contract) (name : List ℕ)
    → transaction_named (contract_without_names own) name ≡ transaction_named own name
transaction_unnamed own name =
    ap (option_map (λ n. let made : TxId = record { 0 = n } in made))
    (position-map signature_without_names (λ (s : Signature). bytes_eq name s.name) own.transactions)

first_unnamed : (interface : Bool) (ss : List Signature)
    → (if interface then None else slice_get (map signature_without_names ss) 0)
    ≡ option_map signature_without_names (if interface then None else slice_get ss 0)
first_unnamed true ss = refl
first_unnamed false [] = refl
first_unnamed false (s ∷ ss) = refl

constructor_in : (o : Option Contract) → option_and_then
    (λ (c : Contract). if c.interface then None else slice_get c.transactions 0) (option_map contract_without_names o)
    ≡ option_map signature_without_names (option_and_then
    (λ (c : Contract). if c.interface then None else slice_get c.transactions 0) o)
constructor_in None = refl
constructor_in (Some c) = first_unnamed c.interface c.transactions

pub constructor_unnamed : (table : ClassTable) (id : ContractId)
    → constructor_at (without_names table) id ≡ option_map signature_without_names (constructor_at table id)
constructor_unnamed table id =
    ap (option_and_then (λ (c : Contract). if c.interface then None else slice_get c.transactions 0)) (contract_unnamed table id)
    ∙ constructor_in (contract_at table id)

-- Kinds.

implemented_unnamed : (table : ClassTable) (c i : ContractId)
    → is_implemented (without_names table) c i ≡ is_implemented table c i
implemented_unnamed table c i =
    let says = λ (found : Contract). option_map_or (λ (k : ContractId). nat_eq i.0 k.0) found.implements false in
    ap (λ o. option_map_or says o false) (contract_unnamed table c)
    ∙ said_alike contract_without_names says says false (λ found. refl) (contract_at table c)

pub serves_unnamed : (table : ClassTable) (wanted has : Kind)
    → serves_as (without_names table) wanted has ≡ serves_as table wanted has
serves_unnamed table Int has = plain has
  where
    plain : (has : Kind) → serves_as (without_names table) Int has ≡ serves_as table Int has
    plain Int = refl
    plain BoolKind = refl
    plain Text = refl
    plain (Reference c) = refl
serves_unnamed table BoolKind has = plain has
  where
    plain : (has : Kind) → serves_as (without_names table) BoolKind has ≡ serves_as table BoolKind has
    plain Int = refl
    plain BoolKind = refl
    plain Text = refl
    plain (Reference c) = refl
serves_unnamed table Text has = plain has
  where
    plain : (has : Kind) → serves_as (without_names table) Text has ≡ serves_as table Text has
    plain Int = refl
    plain BoolKind = refl
    plain Text = refl
    plain (Reference c) = refl
serves_unnamed table (Reference i) (Reference c) = ap (λ b. nat_eq i.0 c.0 || b) (implemented_unnamed table c i)
serves_unnamed table (Reference i) Int = refl
serves_unnamed table (Reference i) BoolKind = refl
serves_unnamed table (Reference i) Text = refl

-- States.

between_unnamed : (declared own : Option Contract) (s : ℕ)
    → seen_between (option_map contract_without_names declared) (option_map contract_without_names own) s
    ≡ seen_between declared own s
between_unnamed None None s = refl
between_unnamed None (Some own) s = refl
between_unnamed (Some declared) None s = refl
between_unnamed (Some declared) (Some own) s = refl

seen_unnamed : (table : ClassTable) (declared : ContractId) (o : Object)
    → seen_state (without_names table) declared o ≡ seen_state table declared o
seen_unnamed table declared o =
    ap (λ z. if declared.0 == o.contract.0 then state_number o.state else z)
    (ap (λ c. seen_between c (contract_at (without_names table) o.contract) (state_number o.state))
    (contract_unnamed table declared)
    ∙ ap (λ c. seen_between (option_map contract_without_names (contract_at table declared)) c (state_number o.state))
    (contract_unnamed table o.contract)
    ∙ between_unnamed (contract_at table declared) (contract_at table o.contract) (state_number o.state))

in_states_unnamed : (table : ClassTable) (declared : ContractId) (p : Perm) (o : Object)
    → is_in_states (without_names table) declared p o ≡ is_in_states table declared p o
in_states_unnamed table declared p o = ap (states_of p.states) (seen_unnamed table declared o)

pub held_unnamed : (table : ClassTable) (objects : List Object) (contract : ContractId) (p : Perm) (n : Option ℕ)
    → is_held_within (without_names table) objects contract p n ≡ is_held_within table objects contract p n
held_unnamed table objects contract p n =
    ap (λ says. not (owns (permission_of p)) || option_map_or says (option_and_then (object_at objects) n) false)
    (fun_ext (in_states_unnamed table contract p))
