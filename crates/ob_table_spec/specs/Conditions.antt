-- The conditions of a class table, said of the table alone (Coblenz et al., TOPLAS 42(3), 2020; the limits and numbers are
-- this project's own).
use Rattle.std.specs.Prelude.{◌≡◌, ◌≢◌, ℕ, ◌^◌, ◌<◌, ◌≤◌, ◌⊎◌, true, false, List, [], length, map, drop, Some, None, option_map, slice_get, IsTrue, IsSomeAnd, IfSome, All, AllPairs, Contains, count_by, MatchBool, ⊤, if◌then◌else◌}
use Rattle.ob_base.specs.Limits.{most_contracts, most_states, most_fields, most_transactions, most_params}
use Rattle.ob_base.specs.Names.{is_name, is_text}
use Rattle.ob_base.specs.declared.id.FieldId.{FieldId}
use Rattle.ob_base.specs.declared.permission.Mode.TheVariants.{Owned, Unowned}
use Rattle.ob_base.specs.declared.permission.Perm.{Perm}
use Rattle.ob_perm.specs.States.{States, subset, all_states, interface_states, anywhere}
use Rattle.ob_perm.specs.Permissions.{unowned}
use Rattle.ob_perm.specs.Masks.{states_of, permission_of, IsCanonical, mask_of, perm_of}
use Rattle.ob_perm.specs.Naming.{Names, for_contract}
use Rattle.ob_table.specs.Tables.{ClassTable, contract_at, field_at}
use Rattle.ob_table.specs.declared.contract.ResolvedType.{ResolvedType}
use Rattle.ob_table.specs.declared.contract.ResolvedType.TheVariants.{Int, Bool as BoolKind, Text, Reference}
use Rattle.ob_table.specs.declared.contract.Field.{Field}
use Rattle.ob_table.specs.declared.contract.Param.{Param}
use Rattle.ob_table.specs.declared.contract.Listed.{Listed}
use Rattle.ob_table.specs.declared.contract.Signature.{Signature}
use Rattle.ob_table.specs.declared.contract.Contract.{Contract}
use Rattle.ob_table_spec.specs.Names.{Name, number_of}

-- no two of these names are the same
abbrev pub AreDistinct : List Name → Type 0
AreDistinct names = AllPairs (λ a b. a ≢ b) names

-- Permissions and types.

-- the states of an owner that knows no more: all of a contract's, or no state if it has none; of an interface any other too
abbrev pub states_of_owner : Contract → States
states_of_owner c = if c.interface then interface_states (length c.states) else all_states (length c.states)

-- a permission on a contract: an owner's names no other states than those in which an object of the contract may be, and any other
-- names none
pub record IsPermOn (c : Contract) (p : Perm) : Type 0 where
  pub canonical : IsCanonical p
  pub low : p.states < 2 ^ 34
  pub inside : IsTrue (subset (states_of p.states) (states_of_owner c))

-- a type: a reference is to a contract of the table
abbrev pub IsType : ClassTable → ResolvedType → Type 0
IsType table Int = ⊤
IsType table BoolKind = ⊤
IsType table Text = ⊤
IsType table (Reference id p) = IsSomeAnd (contract_at table id) (λ c. IsPermOn c p)

-- at the end a reference that doesn't own its object is held as at the start
abbrev pub MayLeave : Perm → Perm → Type 0
MayLeave entry exit = entry.mode ≢ Owned → exit.mode ≡ entry.mode

-- the permission at the end of a parameter of this type; of a value, Unowned
abbrev pub IsExitOf : ClassTable → ResolvedType → Perm → Type 0
IsExitOf table (Reference id p) exit = IsSomeAnd (contract_at table id) (λ c. IsPermOn c exit) × MayLeave p exit
IsExitOf table kind exit = exit ≡ perm_of unowned

-- Fields.

-- where a field is there: in each state and in no state, or in one or more of its contract's states alone
abbrev pub IsAvailability : ℕ → ℕ → Type 0
IsAvailability states available = (available ≡ mask_of anywhere) ⊎ ((0 < available) × (available < 2 ^ states))

-- what a contract that is no asset owns is no asset
abbrev pub OwnsNoAsset : ClassTable → Contract → ResolvedType → Type 0
OwnsNoAsset table c (Reference id p) =
    c.asset ≡ false → p.mode ≡ Owned → IsSomeAnd (contract_at table id) (λ d. d.asset ≡ false)
OwnsNoAsset table c kind = ⊤

-- a field: its name, its type, the states in which it is there, and that it owns no asset unless its contract is one
pub record IsField (table : ClassTable) (c : Contract) (f : Field) : Type 0 where
  pub name : IsTrue (is_name f.name)
  pub kind : IsType table f.of
  pub available : IsAvailability (length c.states) f.available
  pub owner : OwnsNoAsset table c f.of

-- Signatures.

-- a parameter: its type, and the permission at the end
pub record IsParam (table : ClassTable) (p : Param) : Type 0 where
  pub kind : IsType table p.of
  pub exit : IsExitOf table p.of p.exit

-- the permissions with which a field of this type is listed: it is a reference
abbrev pub IsListedAs : ClassTable → Perm → Perm → ResolvedType → Type 0
IsListedAs table entry exit (Reference id p) =
    IsSomeAnd (contract_at table id) (λ c. IsPermOn c entry × IsPermOn c exit)
IsListedAs table entry exit kind = ⊥

-- a listed field: one of the contract that is a reference, with permissions that may follow one another
pub record IsListed (table : ClassTable) (c : Contract) (l : Listed) : Type 0 where
  pub field : IsSomeAnd (field_at c l.field) (λ f. IsListedAs table l.entry l.exit f.of)
  pub exit_may_follow : MayLeave l.entry l.exit

-- what constructors and transactions have in common
pub record IsSignature (table : ClassTable) (c : Contract) (s : Signature) : Type 0 where
  pub few : length s.params ≤ most_params
  pub params : All (IsParam table) s.params
  pub result : IfSome s.result (IsType table)
  pub entry : IsPermOn c s.entry
  pub exit : IsPermOn c s.exit

-- a constructor: it has no name, no result and no list, isn't private, and doesn't give Unowned
pub record IsConstructor (table : ClassTable) (c : Contract) (s : Signature) : Type 0 where
  pub signature : IsSignature table c s
  pub name : s.name ≡ []
  pub public : s.private ≡ false
  pub result : s.result ≡ None
  pub listed : s.listed ≡ []
  pub exit_not_unowned : s.exit.mode ≢ Unowned

-- fields are listed where it is private, each once
pub record IsTransaction (table : ClassTable) (c : Contract) (s : Signature) : Type 0 where
  pub signature : IsSignature table c s
  pub name : IsTrue (is_name s.name)
  pub exit_may_follow : MayLeave s.entry s.exit
  pub listed : All (IsListed table c) s.listed
  pub distinct : AllPairs (λ (a b : FieldId). a.0 ≢ b.0) (map (λ l. l.field) s.listed)
  pub private : s.private ≡ false → s.listed ≡ []

-- the transactions without the constructor
abbrev pub transactions_in : Contract → List Signature
transactions_in c = if c.interface then c.transactions else drop 1 c.transactions

-- the constructor stands first; an interface has none
abbrev pub HasConstructor : ClassTable → Contract → Type 0
HasConstructor table c =
    MatchBool c.interface (c.constructor ≡ None)
    ((c.constructor ≡ Some (record { 0 = 0 })) × IsSomeAnd (slice_get c.transactions 0) (IsConstructor table c))

-- Interfaces.

-- for each state of a contract, the number of the interface's state of that name
abbrev pub naming : Contract → Contract → Names
naming interface c = map (λ state. option_map (λ n. record { 0 = n }) (number_of state interface.states)) c.states

-- the permission of `this` in a contract is the one that its interface asks for, said of the contract's own states
abbrev pub IsSaidAs : Contract → Contract → Perm → Perm → Type 0
IsSaidAs interface c asked p = p ≡ perm_of (for_contract (naming interface c) (permission_of asked))

-- what a parameter asks of an argument, without its name
abbrev pub asked_of : Param → ResolvedType × Perm
asked_of p = (p.of, p.exit)

-- a contract's transaction is as its interface asks
pub record AnswersInterface (interface c : Contract) (asked s : Signature) : Type 0 where
  pub name : s.name ≡ asked.name
  pub public : s.private ≡ false
  pub params : map asked_of s.params ≡ map asked_of asked.params
  pub result : s.result ≡ asked.result
  pub entry : IsSaidAs interface c asked.entry s.entry
  pub exit : IsSaidAs interface c asked.exit s.exit

-- a contract has what its interface asks
pub record MeetsInterface (interface c : Contract) : Type 0 where
  pub asset : c.asset ≡ true → interface.asset ≡ true
  pub states : All (Contains c.states) interface.states
  pub transactions : All (λ asked. (s : Signature) × Contains (transactions_in c) s × AnswersInterface interface c asked s)
      interface.transactions

-- Contracts and tables.

-- a contract implements an interface alone, and has what it asks
abbrev pub Implements : ClassTable → Contract → Type 0
Implements table c =
    IfSome c.implements
    (λ id. IsSomeAnd (contract_at table id) (λ interface. (interface.interface ≡ true) × MeetsInterface interface c))

-- a contract or an interface of the table
pub record IsContract (table : ClassTable) (c : Contract) : Type 0 where
  pub name : IsTrue (is_text c.name)
  pub few_states : length c.states ≤ most_states
  pub state_names : All (λ state. IsTrue (is_name state)) c.states
  pub distinct_states : AreDistinct c.states
  pub few_fields : length c.fields ≤ most_fields
  pub fields : All (IsField table c) c.fields
  pub distinct_fields : AreDistinct (map (λ f. f.name) c.fields)
  pub few_transactions : length (transactions_in c) ≤ most_transactions
  pub transactions : All (IsTransaction table c) (transactions_in c)
  pub distinct_transactions : AreDistinct (map (λ s. s.name) (transactions_in c))
  pub constructor : HasConstructor table c
  pub interface : c.interface ≡ true → (c.main ≡ false) × (c.implements ≡ None)
  pub implements : Implements table c

-- a class table as the later stages need it
pub record IsClassTable (table : ClassTable) : Type 0 where
  pub few : length table.contracts ≤ most_contracts
  pub distinct : AreDistinct (map (λ c. c.name) table.contracts)
  pub contracts : All (IsContract table) table.contracts
  pub one_main : count_by (λ c. c.main) table.contracts ≤ 1
