-- Bodies that are well-formed, said of a class table and bodies alone (Coblenz et al., TOPLAS 42(3), 2020, where these are
-- premises of the rules; the rest is this project's own).
use Rattle.std.specs.Prelude.{◌≡◌, ◌≢◌, ℕ, ◌+◌, ◌<◌, Bool, true, false, not, ◌&&◌, ◌||◌, nat_eq, List, [], ◌∷◌, ◌++◌, map, length, Option, Some, None, option_map, option_and_then, slice_get, IsTrue, IsSome, IsSomeAnd, IfSome, slice_index_or, ⊤, if◌then◌else◌}
use Rattle.std.specs.Option.{option_map_or}
use Rattle.std.specs.List.{range_with_len}
use Rattle.ob_base.specs.Names.{is_text}
use Rattle.ob_base.specs.Numbers.{is_int}
use Rattle.ob_base.specs.declared.id.ContractId.{ContractId}
use Rattle.ob_table.specs.Expressions.{Expression, resolved_number, resolved_text, resolved_bool, resolved_seen, resolved_unary, resolved_binary, resolved_logical, resolved_call, resolved_new, Arguments, no_arguments, and_argument}
use Rattle.ob_table.specs.Statements.{GivenField, Statement, resolved_declare, resolved_assign, resolved_stage, resolved_change, resolved_discard, resolved_test, resolved_if, resolved_while, resolved_return, resolved_revert, resolved_disown, resolved_assert, Block, resolved_block, Otherwise, no_otherwise, otherwise_block, Statements, no_statements, and_statement, ResolvedBody}
use Rattle.ob_table.specs.Tables.{ClassTable, contract_at, field_at, signature_at, signature_of}
use Rattle.ob_table.specs.declared.operator.UnaryOperator.{UnaryOperator}
use Rattle.ob_table.specs.declared.operator.UnaryOperator.TheVariants.{Not, Negate}
use Rattle.ob_table.specs.declared.operator.BinaryOperator.{BinaryOperator}
use Rattle.ob_table.specs.declared.operator.BinaryOperator.TheVariants.{Add, Sub, Mul, Div, Rem, Equal, NotEqual}
use Rattle.ob_table.specs.declared.seen.Seen.{Seen}
use Rattle.ob_table.specs.declared.seen.Seen.TheVariants.{This, Local, Field as FieldSeen}
use Rattle.ob_table.specs.declared.seen.SeenAt.{SeenAt}
use Rattle.ob_table.specs.declared.seen.Kind.{Kind}
use Rattle.ob_table.specs.declared.seen.Kind.TheVariants.{Int, Bool as BoolKind, Text, Reference}
use Rattle.ob_table.specs.declared.contract.ResolvedType.{ResolvedType}
use Rattle.ob_table.specs.declared.contract.ResolvedType.TheVariants as typed
use Rattle.ob_table.specs.declared.contract.Param.{Param}
use Rattle.ob_table.specs.declared.contract.Signature.{Signature}
use Rattle.ob_table.specs.declared.contract.Contract.{Contract}
use Rattle.ob_table_spec.specs.Conditions.{IsPermOn}

-- Kinds, which are types without permissions.

-- the kind of a type of the table
abbrev pub kind_of_resolved : ResolvedType → Kind
kind_of_resolved typed.Int = Int
kind_of_resolved typed.Bool = BoolKind
kind_of_resolved typed.Text = Text
kind_of_resolved (typed.Reference id perm) = Reference id

-- whether the contract of the first number implements the interface of the second
abbrev pub is_implemented : ClassTable → ContractId → ContractId → Bool
is_implemented table c i =
    option_map_or (λ found. option_map_or (λ (k : ContractId). nat_eq i.0 k.0) found.implements false)
    (contract_at table c) false

-- whether a value of the second kind may stand where one of the first is needed
abbrev pub serves_as : ClassTable → Kind → Kind → Bool
serves_as table Int Int = true
serves_as table BoolKind BoolKind = true
serves_as table Text Text = true
serves_as table (Reference i) (Reference c) = nat_eq i.0 c.0 || is_implemented table c i
serves_as table wanted has = false

-- what stands around a body: the table, the contract and its number, the number of parameters, and the result
pub record StaticFrame : Type 0 where
  pub table : ClassTable
  pub here : ContractId
  pub own : Contract
  pub params : ℕ
  pub result : Option Kind

-- the variables that are visible, by number
abbrev pub LocalKinds : Type 0
LocalKinds = List (ℕ × Kind)

-- the kind of the variable of this number, if it is visible
abbrev pub local_kind : LocalKinds → ℕ → Option Kind
local_kind [] n = None
local_kind (l ∷ ls) n = if nat_eq n l.0 then Some l.1 else local_kind ls n

-- what a name denotes: a variable that is visible, a field that there is, or `this`
abbrev pub kind_of_seen : StaticFrame → LocalKinds → Seen → Option Kind
kind_of_seen f ls This = Some (Reference f.here)
kind_of_seen f ls (Local n) = local_kind ls n
kind_of_seen f ls (FieldSeen id) = option_map (λ field. kind_of_resolved field.of) (field_at f.own id)

-- Expressions.

-- what an operator with one operand needs and gives
abbrev pub kind_of_unary : UnaryOperator → Kind
kind_of_unary Not = BoolKind
kind_of_unary Negate = Int

-- what an operator with two operands gives
abbrev pub kind_of_binary : BinaryOperator → Kind
kind_of_binary Add = Int
kind_of_binary Sub = Int
kind_of_binary Mul = Int
kind_of_binary Div = Int
kind_of_binary Rem = Int
kind_of_binary operator = BoolKind

-- the kind of an expression's value; a call of a transaction without a result has none
abbrev pub kind_of_expression : StaticFrame → LocalKinds → Expression → Option Kind
kind_of_expression f ls (resolved_number value span) = Some Int
kind_of_expression f ls (resolved_text value span) = Some Text
kind_of_expression f ls (resolved_bool value span) = Some BoolKind
kind_of_expression f ls (resolved_seen seen span) = kind_of_seen f ls seen.of
kind_of_expression f ls (resolved_unary operator sign operand span) = Some (kind_of_unary operator)
kind_of_expression f ls (resolved_binary operator sign left right span) = Some (kind_of_binary operator)
kind_of_expression f ls (resolved_logical operator sign left right span) = Some BoolKind
kind_of_expression f ls (resolved_call receiver contract tx name args span) =
    option_and_then (λ s. option_map kind_of_resolved s.result) (signature_of f.table contract tx)
kind_of_expression f ls (resolved_new contract args span) = Some (Reference contract)

-- an expression's value may stand where one of this kind is needed
abbrev pub ServesAs : StaticFrame → LocalKinds → Kind → Expression → Type 0
ServesAs f ls wanted e = IsSomeAnd (kind_of_expression f ls e) (λ has. IsTrue (serves_as f.table wanted has))

-- whether it is the kind of a reference
abbrev pub is_reference : Kind → Bool
is_reference (Reference id) = true
is_reference kind = false

-- the operands have the kinds that the operator needs: `==` and `!=` compare two values of one kind that is no reference
abbrev pub HasOperands : StaticFrame → LocalKinds → BinaryOperator → Expression → Expression → Type 0
HasOperands f ls Equal left right =
    IsSomeAnd (kind_of_expression f ls left) (λ kind. (is_reference kind ≡ false) × ServesAs f ls kind right)
HasOperands f ls NotEqual left right =
    IsSomeAnd (kind_of_expression f ls left) (λ kind. (is_reference kind ≡ false) × ServesAs f ls kind right)
HasOperands f ls operator left right = ServesAs f ls Int left × ServesAs f ls Int right

-- each argument may stand at its parameter, and there are as many
abbrev pub PassTo : StaticFrame → LocalKinds → List Param → Arguments → Type 0
PassTo f ls [] no_arguments = ⊤
PassTo f ls (p ∷ ps) (and_argument e es) = ServesAs f ls (kind_of_resolved p.of) e × PassTo f ls ps es
PassTo f ls ps es = ⊥

-- a transaction, and no constructor, that isn't private where there is a receiver
abbrev pub IsCalled : StaticFrame → LocalKinds → Option SeenAt → ContractId → Signature → Type 0
IsCalled f ls None contract s = contract ≡ f.here
IsCalled f ls (Some seen) contract s = (kind_of_seen f ls seen.of ≡ Some (Reference contract)) × (s.private ≡ false)

-- the constructor of a contract that isn't an interface
abbrev pub constructor_at : ClassTable → ContractId → Option Signature
constructor_at table id =
    option_and_then (λ c. if c.interface then None else slice_get c.transactions 0) (contract_at table id)

-- whether a number is that of a constructor
abbrev pub is_constructor : ClassTable → ContractId → ℕ → Bool
is_constructor table id tx = option_map_or (λ c. not c.interface && nat_eq tx 0) (contract_at table id) false

abbrev mutual
  -- an expression is well-formed: a number is one of 64 bits and a text has at most 1,024 bytes, each name
  -- denotes something, and each operand has the kind that its place needs
  pub IsWellFormedExpression : StaticFrame → LocalKinds → Expression → Type 0
  IsWellFormedExpression f ls (resolved_number value span) = IsTrue (is_int value)
  IsWellFormedExpression f ls (resolved_text value span) = IsTrue (is_text value)
  IsWellFormedExpression f ls (resolved_bool value span) = ⊤
  IsWellFormedExpression f ls (resolved_seen seen span) = IsSome (kind_of_seen f ls seen.of)
  IsWellFormedExpression f ls (resolved_unary operator sign operand span) =
      IsWellFormedExpression f ls operand × ServesAs f ls (kind_of_unary operator) operand
  IsWellFormedExpression f ls (resolved_binary operator sign left right span) =
      IsWellFormedExpression f ls left × IsWellFormedExpression f ls right × HasOperands f ls operator left right
  IsWellFormedExpression f ls (resolved_logical operator sign left right span) =
      IsWellFormedExpression f ls left × IsWellFormedExpression f ls right × ServesAs f ls BoolKind left × ServesAs f ls BoolKind right
  IsWellFormedExpression f ls (resolved_call receiver contract tx name args span) =
      AreWellFormedArguments f ls args × (is_constructor f.table contract tx.0 ≡ false)
      × IsSomeAnd (signature_of f.table contract tx) (λ s. IsCalled f ls receiver contract s × PassTo f ls s.params args)
  IsWellFormedExpression f ls (resolved_new contract args span) =
      AreWellFormedArguments f ls args × IsSomeAnd (constructor_at f.table contract) (λ s. PassTo f ls s.params args)

  -- arguments, each of which is well-formed
  pub AreWellFormedArguments : StaticFrame → LocalKinds → Arguments → Type 0
  AreWellFormedArguments f ls no_arguments = ⊤
  AreWellFormedArguments f ls (and_argument e es) = IsWellFormedExpression f ls e × AreWellFormedArguments f ls es

-- an expression that is well-formed, and may stand where one of this kind is needed
abbrev pub IsValue : StaticFrame → LocalKinds → Kind → Expression → Type 0
IsValue f ls wanted e = IsWellFormedExpression f ls e × ServesAs f ls wanted e

-- Ends.

abbrev mutual
  -- whether nothing is reached after a statement
  pub ends_there : Statement → Bool
  ends_there (resolved_return value span) = true
  ends_there (resolved_revert text span) = true
  ends_there (resolved_test subject state branch other span) = block_ends_there branch && other_ends_there other
  ends_there (resolved_if condition branch other span) = block_ends_there branch && other_ends_there other
  ends_there (resolved_while condition body span) = false
  ends_there (resolved_declare local name of value span) = false
  ends_there (resolved_assign target value span) = false
  ends_there (resolved_stage state given span) = false
  ends_there (resolved_change state given span) = false
  ends_there (resolved_discard value span) = false
  ends_there (resolved_disown subject span) = false
  ends_there (resolved_assert subject perm span) = false

  -- whether nothing is reached after a block
  pub block_ends_there : Block → Bool
  block_ends_there (resolved_block statements end) = one_ends_there statements

  -- whether nothing is reached after what is after `else`, if there is any
  pub other_ends_there : Otherwise → Bool
  other_ends_there no_otherwise = false
  other_ends_there (otherwise_block block) = block_ends_there block

  -- whether nothing is reached after one of the statements
  pub one_ends_there : Statements → Bool
  one_ends_there no_statements = false
  one_ends_there (and_statement x xs) = ends_there x || one_ends_there xs

-- Statements.

-- what may be assigned: a local, which is no parameter, or a field
abbrev pub IsTarget : StaticFrame → Seen → Type 0
IsTarget f This = ⊥
IsTarget f (Local n) = f.params < n
IsTarget f (FieldSeen id) = ⊤

-- a field of the contract, which isn't given yet, and a value for it
abbrev pub IsGiven : StaticFrame → LocalKinds → List ℕ → GivenField → Type 0
IsGiven f ls row given =
    ((k : ℕ) (d : ℕ) → k < length row → slice_index_or row k d ≢ given.field.0)
    × IsSomeAnd (field_at f.own given.field) (λ field. IsValue f ls (kind_of_resolved field.of) given.value)

-- fields that are given one after another
abbrev pub AreGiven : StaticFrame → LocalKinds → List ℕ → List GivenField → Type 0
AreGiven f ls row [] = ⊤
AreGiven f ls row (g ∷ gs) = IsGiven f ls row g × AreGiven f ls (row ++ g.field.0 ∷ []) gs

-- the kind of a local: a reference is to a contract of the table
abbrev pub IsLocalKind : ClassTable → Kind → Type 0
IsLocalKind table (Reference id) = IsSome (contract_at table id)
IsLocalKind table kind = ⊤

-- a reference to a contract of which this holds
abbrev pub RefersTo : ClassTable → (Contract → Type 0) → Kind → Type 0
RefersTo table P (Reference id) = IsSomeAnd (contract_at table id) P
RefersTo table P kind = ⊥

-- a name or `this` refers to a contract of which this holds
abbrev pub Refers : StaticFrame → LocalKinds → Seen → (Contract → Type 0) → Type 0
Refers f ls seen P = IsSomeAnd (kind_of_seen f ls seen) (RefersTo f.table P)

-- a body with a result returns a value of its kind, and one without returns none
abbrev pub IsReturned : StaticFrame → LocalKinds → Option Kind → Option Expression → Type 0
IsReturned f ls None None = ⊤
IsReturned f ls (Some kind) (Some e) = IsValue f ls kind e
IsReturned f ls result value = ⊥

-- the fields of the row of staged statements after a statement
abbrev pub rest_of_row : List ℕ → Statement → List ℕ
rest_of_row row (resolved_stage state given span) = row ++ given.field.0 ∷ []
rest_of_row row x = []

-- the variables that are visible after a statement
abbrev pub locals_after : LocalKinds → Statement → LocalKinds
locals_after ls (resolved_declare local name of value span) = ls ++ (local, of) ∷ []
locals_after ls x = ls

abbrev mutual
  -- a statement is well-formed, after a row of staged ones for these fields
  pub IsStatement : StaticFrame → LocalKinds → List ℕ → Statement → Type 0
  IsStatement f ls row (resolved_declare local name of value span) =
      IsLocalKind f.table of × (f.params < local) × (local_kind ls local ≡ None) × IsValue f ls of value
  IsStatement f ls row (resolved_assign target value span) =
      IsTarget f target.of × IsSomeAnd (kind_of_seen f ls target.of) (λ kind. IsValue f ls kind value)
  IsStatement f ls row (resolved_stage state given span) = (state.0 < length f.own.states) × IsGiven f ls row given
  IsStatement f ls row (resolved_change state given span) = (state.0 < length f.own.states) × AreGiven f ls row given
  IsStatement f ls row (resolved_discard value span) = IsWellFormedExpression f ls value
  IsStatement f ls row (resolved_test subject state branch other span) =
      Refers f ls subject.of (λ c. state.0 < length c.states) × IsBlock f ls branch × IsOtherwise f ls other
  IsStatement f ls row (resolved_if condition branch other span) =
      IsValue f ls BoolKind condition × IsBlock f ls branch × IsOtherwise f ls other
  IsStatement f ls row (resolved_while condition body span) = IsValue f ls BoolKind condition × IsBlock f ls body
  IsStatement f ls row (resolved_return value span) = IsReturned f ls f.result value
  IsStatement f ls row (resolved_revert text span) = IfSome text (IsValue f ls Text)
  IsStatement f ls row (resolved_disown subject span) = Refers f ls subject.of (λ c. ⊤)
  IsStatement f ls row (resolved_assert subject perm span) = Refers f ls subject.of (λ c. IsPermOn c perm)

  -- a block whose statements are well-formed
  pub IsBlock : StaticFrame → LocalKinds → Block → Type 0
  IsBlock f ls (resolved_block statements end) = AreStatements f ls [] statements

  -- nothing after `else`, or such a block
  pub IsOtherwise : StaticFrame → LocalKinds → Otherwise → Type 0
  IsOtherwise f ls no_otherwise = ⊤
  IsOtherwise f ls (otherwise_block block) = IsBlock f ls block

  -- statements after a row of staged ones for these fields; nothing stands after one that ends
  pub AreStatements : StaticFrame → LocalKinds → List ℕ → Statements → Type 0
  AreStatements f ls row no_statements = ⊤
  AreStatements f ls row (and_statement x xs) =
      IsStatement f ls row x × (ends_there x ≡ true → xs ≡ no_statements)
      × AreStatements f (locals_after ls x) (rest_of_row row x) xs

-- Bodies.

-- parameters are numbered from 1
abbrev pub params_from : ℕ → List Param → LocalKinds
params_from n [] = []
params_from n (p ∷ ps) = (n, kind_of_resolved p.of) ∷ params_from (n + 1) ps

-- the frame of a body with this signature
abbrev pub frame_of : ClassTable → ContractId → Contract → Signature → StaticFrame
frame_of table here own s = record {
  table = table;
  here = here;
  own = own;
  params = length s.params;
  result =
      option_map kind_of_resolved s.result;
}

-- the body of a constructor or transaction: its statements are well-formed, and where there is a result its end isn't reached
pub record IsBodyOf (table : ClassTable) (body : ResolvedBody) (own : Contract) (s : Signature) : Type 0 where
  pub contract : own.interface ≡ false
  pub statements : AreStatements (frame_of table body.contract own s) (params_from 1 s.params) [] body.statements
  pub returns : IsSome s.result → one_ends_there body.statements ≡ true

-- a body is that of a constructor or transaction of a contract of the table, and is well-formed
abbrev pub IsWellFormed : ClassTable → ResolvedBody → Type 0
IsWellFormed table body =
    IsSomeAnd (contract_at table body.contract)
    (λ own. IsSomeAnd (signature_at own body.tx) (λ s. IsBodyOf table body own s))

-- the contract and the number of a body
abbrev pub place_of_body : ResolvedBody → ℕ × ℕ
place_of_body body = (body.contract.0, body.tx.0)

-- the constructor and the transactions of the contracts from this number on; an interface's have no bodies
abbrev pub places_from : ℕ → List Contract → List (ℕ × ℕ)
places_from n [] = []
places_from n (c ∷ cs) =
    (if c.interface then [] else map (λ tx. (n, tx)) (range_with_len 0 (length c.transactions)))
    ++ places_from (n + 1) cs

-- there is one body for each constructor and transaction, in the order of contracts and then of numbers
abbrev pub HasBodies : ClassTable → Type 0
HasBodies table = map place_of_body table.bodies ≡ places_from 0 table.contracts
