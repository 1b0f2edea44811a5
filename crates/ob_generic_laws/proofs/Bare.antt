-- The tree of the instances has no type parameter and no type argument.
use Rattle.std.proofs.Common.{◌≡◌, Bool, true, false, List, [], ◌∷◌, ◌++◌, Option, Some, None, if◌then◌else◌, is_some, option_map, map, refl}
use Rattle.std.specs.List.{flat_map}
use Rattle.std.specs.Option.{option_map_or}
use Rattle.std.proofs.lemmas.List.Elements.{All-from_recursion}
use Rattle.ob_tree.specs.Names.{Named, Ref, ref_with, TypeExpr, int_type, bool_type, text_type, ref_type}
use Rattle.ob_tree.specs.Exprs.{Expr, number_expr, text_expr, bool_expr, name_expr, this_expr, unary_expr, binary_expr, call_expr, new_expr, Call, call_with, Exprs, no_exprs, and_expr}
use Rattle.ob_tree.specs.Stmts.{Local, int_local, bool_local, text_local, named_local, GivenExpr, Stmt, declare_stmt, assign_stmt, stage_stmt, change_stmt, call_stmt, test_stmt, if_stmt, while_stmt, return_stmt, revert_stmt, disown_stmt, assert_stmt, Block, block_with, Else, no_else, else_with, Stmts, no_stmts, and_stmt}
use Rattle.ob_tree.specs.Members.{Field, Formal, Listed, Member, state_member, field_member, constructor_member, transaction_member, Contract}
use Rattle.ob_resolve_spec.specs.Declarations.{Program, declared_contract}
use Rattle.ob_resolve_spec.specs.Generics.{argument_of, argument_in_ref, argument_in_type, argument_in_local, arguments_in_expr, arguments_in_call, arguments_in_exprs, arguments_in_stmt, arguments_in_block, arguments_in_else, arguments_in_stmts, arguments_in_member, arguments_in_contract, HasNoGenerics}
use Rattle.ob_generic_spec.specs.Substitution.{Own}
use Rattle.ob_generic_spec.specs.Uses.{role_of_param}
use Rattle.ob_generic_spec.specs.Instances.{own_of, instances_of}
use Rattle.ob_generic_spec.specs.InstanceTypes.{named_in, ref_in, type_in, local_in}
use Rattle.ob_generic_spec.specs.InstanceBodies.{expr_in, call_in, exprs_in, given_in, stmt_in, block_in, else_in, stmts_in}
use Rattle.ob_generic_spec.specs.InstanceTrees.{field_in, formal_in, listed_in, member_in, contract_in, plain_contracts, instance_contracts, instance_tree}
use Rattle.ob_generic_spec.specs.declared.instance.Instance.{Instance}
use Rattle.ob_generic_spec.specs.declared.role.Role.{Role}
use Rattle.ob_generic_spec.specs.declared.role.Role.TheVariants.{Anywhere}
use Rattle.ob_resolve_laws.proofs.Each.{Each, each_both, each_weaker, each_flat_map}
use Rattle.ob_generic_laws.proofs.Lists.{none_of_both, none_of_all, none_of_map, each_anyway}

-- Types.

ref_bare : (own : Option Own) (role : Role) (r : Ref) → argument_in_ref (ref_in own role r) ≡ []
ref_bare own role (ref_with of perm) = refl

type_bare : (own : Option Own) (role : Role) (t : TypeExpr) → argument_in_type (type_in own role t) ≡ []
type_bare own role (int_type span) = refl
type_bare own role (bool_type span) = refl
type_bare own role (text_type span) = refl
type_bare own role (ref_type of) = ref_bare own role of

local_bare : (own : Option Own) (l : Local) → argument_in_local (local_in own l) ≡ []
local_bare own (int_local span) = refl
local_bare own (bool_local span) = refl
local_bare own (text_local span) = refl
local_bare own (named_local of) = refl

-- Expressions and statements.

mutual
  expr_bare : (own : Option Own) (e : Expr) → arguments_in_expr (expr_in own e) ≡ []
  expr_bare own (number_expr value span) = refl
  expr_bare own (text_expr value span) = refl
  expr_bare own (bool_expr value span) = refl
  expr_bare own (name_expr name span) = refl
  expr_bare own (this_expr token span) = refl
  expr_bare own (unary_expr operator sign operand span) = expr_bare own operand
  expr_bare own (binary_expr operator sign left right span) =
      none_of_both (arguments_in_expr (expr_in own left)) (arguments_in_expr (expr_in own right)) (expr_bare own left)
      (expr_bare own right)
  expr_bare own (call_expr call span) = call_bare own call
  expr_bare own (new_expr of args span) = exprs_bare own args

  call_bare : (own : Option Own) (c : Call) → arguments_in_call (call_in own c) ≡ []
  call_bare own (call_with receiver name args) = exprs_bare own args

  exprs_bare : (own : Option Own) (es : Exprs) → arguments_in_exprs (exprs_in own es) ≡ []
  exprs_bare own no_exprs = refl
  exprs_bare own (and_expr e es) =
      none_of_both (arguments_in_expr (expr_in own e)) (arguments_in_exprs (exprs_in own es)) (expr_bare own e)
      (exprs_bare own es)

maybe_bare : (own : Option Own) (o : Option Expr) → option_map_or arguments_in_expr (option_map (expr_in own) o) [] ≡ []
maybe_bare own None = refl
maybe_bare own (Some e) = expr_bare own e

given_bare : (own : Option Own) (g : GivenExpr) → arguments_in_expr (given_in own g).value ≡ []
given_bare own g = expr_bare own g.value

mutual
  stmt_bare : (own : Option Own) (x : Stmt) → arguments_in_stmt (stmt_in own x) ≡ []
  stmt_bare own (declare_stmt of name value span) =
      none_of_both (argument_in_local (local_in own of)) (arguments_in_expr (expr_in own value)) (local_bare own of)
      (expr_bare own value)
  stmt_bare own (assign_stmt name value span) = expr_bare own value
  stmt_bare own (stage_stmt state field value span) = expr_bare own value
  stmt_bare own (change_stmt state given span) =
      none_of_map (λ (g : GivenExpr). arguments_in_expr g.value) (given_in own) (given_bare own) given
  stmt_bare own (call_stmt value span) = expr_bare own value
  stmt_bare own (test_stmt subject state branch otherwise span) =
      none_of_both (arguments_in_block (block_in own branch)) (arguments_in_else (else_in own otherwise))
      (block_bare own branch) (else_bare own otherwise)
  stmt_bare own (if_stmt condition branch otherwise span) =
      none_of_both (arguments_in_expr (expr_in own condition) ++ arguments_in_block (block_in own branch))
      (arguments_in_else (else_in own otherwise))
      (none_of_both (arguments_in_expr (expr_in own condition)) (arguments_in_block (block_in own branch))
      (expr_bare own condition) (block_bare own branch))
      (else_bare own otherwise)
  stmt_bare own (while_stmt condition body span) =
      none_of_both (arguments_in_expr (expr_in own condition)) (arguments_in_block (block_in own body))
      (expr_bare own condition) (block_bare own body)
  stmt_bare own (return_stmt value span) = maybe_bare own value
  stmt_bare own (revert_stmt text span) = maybe_bare own text
  stmt_bare own (disown_stmt name span) = refl
  stmt_bare own (assert_stmt subject perm span) = refl

  block_bare : (own : Option Own) (b : Block) → arguments_in_block (block_in own b) ≡ []
  block_bare own (block_with statements end) = stmts_bare own statements

  else_bare : (own : Option Own) (e : Else) → arguments_in_else (else_in own e) ≡ []
  else_bare own no_else = refl
  else_bare own (else_with block) = block_bare own block

  stmts_bare : (own : Option Own) (xs : Stmts) → arguments_in_stmts (stmts_in own xs) ≡ []
  stmts_bare own no_stmts = refl
  stmts_bare own (and_stmt x xs) =
      none_of_both (arguments_in_stmt (stmt_in own x)) (arguments_in_stmts (stmts_in own xs)) (stmt_bare own x)
      (stmts_bare own xs)

-- Members.

fields_bare : (own : Option Own) (fields : List Field)
    → flat_map (λ f. argument_in_type f.of) (map (field_in own) fields) ≡ []
fields_bare own = none_of_map (λ (f : Field). argument_in_type f.of) (field_in own) (λ f. type_bare own Anywhere f.of)

formals_bare : (own : Option Own) (params : List Formal)
    → flat_map (λ p. argument_in_type p.of) (map (formal_in own) params) ≡ []
formals_bare own =
    none_of_map (λ (p : Formal). argument_in_type p.of) (formal_in own) (λ p. type_bare own (role_of_param p.name) p.of)

listed_bare : (own : Option Own) (listed : List Listed)
    → flat_map (λ l. argument_in_ref l.of) (map (listed_in own) listed) ≡ []
listed_bare own = none_of_map (λ (l : Listed). argument_in_ref l.of) (listed_in own) (λ l. ref_bare own Anywhere l.of)

result_bare : (own : Option Own) (o : Option TypeExpr)
    → option_map_or argument_in_type (option_map (type_in own Anywhere) o) [] ≡ []
result_bare own None = refl
result_bare own (Some t) = type_bare own Anywhere t

body_bare : (own : Option Own) (o : Option Block) → option_map_or arguments_in_block (option_map (block_in own) o) [] ≡ []
body_bare own None = refl
body_bare own (Some b) = block_bare own b

member_bare : (own : Option Own) (m : Member) → arguments_in_member (member_in own m) ≡ []
member_bare own (state_member name fields span) = fields_bare own fields
member_bare own (field_member field) = type_bare own Anywhere field.of
member_bare own (constructor_member of perm params body span) = none_of_both _ _ (formals_bare own params) (block_bare own body)
member_bare own (transaction_member private listed name params result body span) =
    none_of_both _ _
    (none_of_both _ _ (none_of_both _ _ (listed_bare own listed) (formals_bare own params)) (result_bare own result))
    (body_bare own body)

-- Contracts.

pub record IsBare (c : Contract) : Type 0 where
  pub no_parameter : c.param ≡ None
  pub no_argument : arguments_in_contract c ≡ []

implements_bare : (own : Option Own) (o : Option Named)
    → option_map_or argument_of (option_map (named_in own Anywhere) o) [] ≡ []
implements_bare own None = refl
implements_bare own (Some n) = refl

contract_bare : (own : Option Own) (c : Contract) → IsBare (contract_in own c)
contract_bare own c = record {
  no_parameter = refl;
  no_argument = none_of_both _ _ (implements_bare own c.implements)
      (none_of_map arguments_in_member (member_in own) (member_bare own) c.members);
}

plain_bare : (c : Contract) → Each IsBare (plain_contracts c)
plain_bare c = by (is_some c.param)
  where
    by : (generic : Bool) → Each IsBare (if generic then [] else contract_in None c ∷ [])
    by true = tt
    by false = (contract_bare None c, tt)

instance_bare : (program : Program) (x : Instance) → Each IsBare (instance_contracts program x)
instance_bare program x = by (declared_contract program x.contract)
  where
    by : (o : Option Contract) → Each IsBare (option_map_or (λ c. contract_in (own_of c x) c ∷ []) o [])
    by None = tt
    by (Some c) = (contract_bare (own_of c x) c, tt)

all_bare : (program : Program) → Each IsBare (instance_tree program)
all_bare program =
    let xs = instances_of program in
    each_both IsBare (flat_map plain_contracts program) (flat_map (instance_contracts program) xs)
    (each_flat_map IsBare plain_contracts program (each_anyway (λ c. Each IsBare (plain_contracts c)) plain_bare program))
    (each_flat_map IsBare (instance_contracts program) xs
    (each_anyway (λ x. Each IsBare (instance_contracts program x)) (instance_bare program) xs))

pub bare_tree : (program : Program) → HasNoGenerics (instance_tree program)
bare_tree program = record {
  no_parameter = All-from_recursion (λ (c : Contract). c.param ≡ None) (instance_tree program)
      (each_weaker IsBare (λ (c : Contract). c.param ≡ None) (λ c h. h.no_parameter) (instance_tree program) (all_bare program));
  no_argument = none_of_all arguments_in_contract (instance_tree program)
      (each_weaker IsBare (λ c. arguments_in_contract c ≡ []) (λ c h. h.no_argument) (instance_tree program) (all_bare program));
}
