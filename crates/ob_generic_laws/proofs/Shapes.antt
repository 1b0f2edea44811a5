-- The tree of the instances has the shape of the program's tree: no member's name, no number, no string and no operator
-- changes, and the name of an instance is a text.
use Rattle.std.proofs.Common.{◌≡◌, ℕ, Bool, true, false, ◌&&◌, nat_le, List, [], ◌∷◌, Option, Some, None, IsTrue, IsSome, IfSome, is_some, if◌then◌else◌, map, option_map, refl, ap}
use Rattle.std.specs.List.{flat_map}
use Rattle.std.specs.Option.{option_map_or}
use Rattle.std.proofs.lemmas.List.Elements.{All-map, All-weaker, All-from_recursion, recursion_from_All}
use Rattle.std.proofs.lemmas.Str.{IsUtf8-nil, is_utf8-from_IsUtf8}
use Rattle.ob_base.specs.Names.{is_name, is_text}
use Rattle.ob_base.specs.Limits.{longest_string}
use Rattle.ob_tree.specs.Exprs.{Expr, number_expr, text_expr, bool_expr, name_expr, this_expr, unary_expr, binary_expr, call_expr, new_expr, Call, call_with, Exprs, no_exprs, and_expr}
use Rattle.ob_tree.specs.Stmts.{GivenExpr, Stmt, declare_stmt, assign_stmt, stage_stmt, change_stmt, call_stmt, test_stmt, if_stmt, while_stmt, return_stmt, revert_stmt, disown_stmt, assert_stmt, Block, block_with, Else, no_else, else_with, Stmts, no_stmts, and_stmt}
use Rattle.ob_tree.specs.Members.{Field, Listed, Member, state_member, field_member, constructor_member, transaction_member, Contract}
use Rattle.ob_tree.specs.declared.name.NamePart.{NamePart}
use Rattle.ob_resolve_spec.specs.Declarations.{Program, declared_contract}
use Rattle.ob_resolve_spec.specs.Shape.{HasExprShape, HasCallShape, HaveExprShapes, HaveGivenShapes, HasShapeIf, HasStmtShape, HasBlockShape, HasElseShape, HaveStmtShapes, HasTransactionShape, HasMemberShape, HasContractShape, HasShape}
use Rattle.ob_generic_spec.specs.Substitution.{Own}
use Rattle.ob_generic_spec.specs.Instances.{own_of, instances_of}
use Rattle.ob_generic_spec.specs.InstanceTypes.{text_of, own_name, named_in}
use Rattle.ob_generic_spec.specs.InstanceBodies.{expr_in, call_in, exprs_in, given_in, stmt_in, block_in, else_in, stmts_in}
use Rattle.ob_generic_spec.specs.InstanceTrees.{field_in, listed_in, member_in, contract_in, plain_contracts, instance_contracts, instance_tree}
use Rattle.ob_generic_spec.specs.declared.instance.Instance.{Instance}
use Rattle.ob_generic_spec.specs.declared.role.Role.TheVariants.{Anywhere}
use Rattle.ob_resolve_laws.proofs.Each.{Each, each_both, each_weaker, each_flat_map}
use Rattle.ob_generic_laws.proofs.Lists.{each_anyway, each_found}

-- Expressions and statements.

mutual
  expr_shape : (own : Option Own) (e : Expr) → HasExprShape e → HasExprShape (expr_in own e)
  expr_shape own (number_expr value span) h = h
  expr_shape own (text_expr value span) h = h
  expr_shape own (bool_expr value span) h = h
  expr_shape own (name_expr name span) h = h
  expr_shape own (this_expr token span) h = h
  expr_shape own (unary_expr operator sign operand span) h = (expr_shape own operand h.0, h.1)
  expr_shape own (binary_expr operator sign left right span) h = (expr_shape own left h.0, expr_shape own right h.1, h.2)
  expr_shape own (call_expr call span) h = call_shape own call h
  expr_shape own (new_expr of args span) h = exprs_shape own args h

  call_shape : (own : Option Own) (c : Call) → HasCallShape c → HasCallShape (call_in own c)
  call_shape own (call_with receiver name args) h = exprs_shape own args h

  exprs_shape : (own : Option Own) (es : Exprs) → HaveExprShapes es → HaveExprShapes (exprs_in own es)
  exprs_shape own no_exprs h = h
  exprs_shape own (and_expr e es) h = (expr_shape own e h.0, exprs_shape own es h.1)

given_shape : (own : Option Own) (gs : List GivenExpr) → HaveGivenShapes gs → HaveGivenShapes (map (given_in own) gs)
given_shape own [] h = h
given_shape own (g ∷ gs) h = (expr_shape own g.value h.0, given_shape own gs h.1)

maybe_shape : (own : Option Own) (o : Option Expr) → HasShapeIf o → HasShapeIf (option_map (expr_in own) o)
maybe_shape own None h = h
maybe_shape own (Some e) h = expr_shape own e h

mutual
  stmt_shape : (own : Option Own) (x : Stmt) → HasStmtShape x → HasStmtShape (stmt_in own x)
  stmt_shape own (declare_stmt of name value span) h = expr_shape own value h
  stmt_shape own (assign_stmt name value span) h = expr_shape own value h
  stmt_shape own (stage_stmt state field value span) h = expr_shape own value h
  stmt_shape own (change_stmt state given span) h = given_shape own given h
  stmt_shape own (call_stmt value span) h = expr_shape own value h
  stmt_shape own (test_stmt subject state branch otherwise span) h =
      (block_shape own branch h.0, else_shape own otherwise h.1)
  stmt_shape own (if_stmt condition branch otherwise span) h =
      (expr_shape own condition h.0, block_shape own branch h.1, else_shape own otherwise h.2)
  stmt_shape own (while_stmt condition body span) h = (expr_shape own condition h.0, block_shape own body h.1)
  stmt_shape own (return_stmt value span) h = maybe_shape own value h
  stmt_shape own (revert_stmt text span) h = maybe_shape own text h
  stmt_shape own (disown_stmt name span) h = h
  stmt_shape own (assert_stmt subject perm span) h = h

  block_shape : (own : Option Own) (b : Block) → HasBlockShape b → HasBlockShape (block_in own b)
  block_shape own (block_with statements end) h = stmts_shape own statements h

  else_shape : (own : Option Own) (e : Else) → HasElseShape e → HasElseShape (else_in own e)
  else_shape own no_else h = h
  else_shape own (else_with block) h = block_shape own block h

  stmts_shape : (own : Option Own) (xs : Stmts) → HaveStmtShapes xs → HaveStmtShapes (stmts_in own xs)
  stmts_shape own no_stmts h = h
  stmts_shape own (and_stmt x xs) h = (stmt_shape own x h.0, stmts_shape own xs h.1)

-- Members.

has_body : (own : Option Own) (o : Option Block) → IsSome o → IsSome (option_map (block_in own) o)
has_body own None h = h
has_body own (Some b) h = refl

body_shape : (own : Option Own) (o : Option Block) → IfSome o HasBlockShape → IfSome (option_map (block_in own) o) HasBlockShape
body_shape own None h = h
body_shape own (Some b) h = block_shape own b h

transaction_shape : (own : Option Own) (interface private : Bool) (listed : List Listed) (name : NamePart)
    (body : Option Block) → HasTransactionShape interface private listed name body
    → HasTransactionShape interface private (map (listed_in own) listed) name (option_map (block_in own) body)
transaction_shape own interface private listed name body h = record {
  name_form = h.name_form;
  lists = λ e. ap (map (listed_in own)) (h.lists e);
  head = λ e. ((h.head e).0, ap (option_map (block_in own)) (h.head e).1);
  whole = λ e. has_body own body (h.whole e);
  operators = body_shape own body h.operators;
}

-- the name of a field is one
abbrev IsNamed : Field → Type 0
IsNamed f = IsTrue (is_name f.name.name)

member_shape : (own : Option Own) (interface : Bool) (m : Member) → HasMemberShape interface m
    → HasMemberShape interface (member_in own m)
member_shape own interface (state_member name fields span) h =
    (h.0, All-map IsNamed (field_in own) fields h.1, λ e. ap (map (field_in own)) (h.2 e))
member_shape own interface (field_member field) h = h
member_shape own interface (constructor_member of perm params body span) h = (h.0, block_shape own body h.1)
member_shape own interface (transaction_member private listed name params result body span) h =
    transaction_shape own interface private listed name body h

-- Contracts.

empty_is_text : is_text [] ≡ true
empty_is_text = ap (λ b. nat_le 0 longest_string && b) (is_utf8-from_IsUtf8 [] IsUtf8-nil)

pub text_is : (bytes : List ℕ) → IsTrue (is_text (text_of bytes))
text_is bytes = by (is_text bytes) refl
  where
    by : (b : Bool) → is_text bytes ≡ b → IsTrue (is_text (if b then bytes else []))
    by true e = e
    by false e = empty_is_text

name_shape : (own : Option Own) (c : Contract) → HasContractShape c → IsTrue (is_text (own_name own c.name))
name_shape None c h = h.name_form
name_shape (Some o) c h = text_is o.instance.name

contract_shape : (own : Option Own) (c : Contract) → HasContractShape c → HasContractShape (contract_in own c)
contract_shape own c h = record {
  name_form = name_shape own c h;
  members = All-map (HasMemberShape c.interface) (member_in own) c.members
      (All-weaker (HasMemberShape c.interface) (λ m. HasMemberShape c.interface (member_in own m))
      (member_shape own c.interface) c.members h.members);
  interface = λ e. ((h.interface e).0, ap (option_map (named_in own Anywhere)) (h.interface e).1);
}

plain_shape : (c : Contract) → HasContractShape c → Each HasContractShape (plain_contracts c)
plain_shape c h = by (is_some c.param)
  where
    by : (generic : Bool) → Each HasContractShape (if generic then [] else contract_in None c ∷ [])
    by true = tt
    by false = (contract_shape None c h, tt)

instance_shape : (program : Program) → Each HasContractShape program → (x : Instance)
    → Each HasContractShape (instance_contracts program x)
instance_shape program h x =
    by (declared_contract program x.contract) (each_found HasContractShape program x.contract h)
  where
    by : (o : Option Contract) → IfSome o HasContractShape
        → Each HasContractShape (option_map_or (λ c. contract_in (own_of c x) c ∷ []) o [])
    by None k = tt
    by (Some c) k = (contract_shape (own_of c x) c k, tt)

each_shape : (program : Program) → Each HasContractShape program → Each HasContractShape (instance_tree program)
each_shape program h =
    let xs = instances_of program in
    each_both HasContractShape (flat_map plain_contracts program) (flat_map (instance_contracts program) xs)
    (each_flat_map HasContractShape plain_contracts program
    (each_weaker HasContractShape (λ c. Each HasContractShape (plain_contracts c)) plain_shape program h))
    (each_flat_map HasContractShape (instance_contracts program) xs
    (each_anyway (λ x. Each HasContractShape (instance_contracts program x)) (instance_shape program h) xs))

pub tree_shape : (program : Program) → HasShape program → HasShape (instance_tree program)
tree_shape program h =
    All-from_recursion HasContractShape (instance_tree program)
    (each_shape program (recursion_from_All HasContractShape program h))
