-- A program without type parameters and type arguments has no instances, and its tree is that of its instances.
use Rattle.std.proofs.Common.{◌≡◌, ℕ, zero, suc, List, [], ◌∷◌, ◌++◌, Option, Some, None, if◌then◌else◌, is_some, map, option_map, take, refl, sym, ap, ap₂, ◌∙◌, append-nil}
use Rattle.std.specs.List.{flat_map}
use Rattle.std.specs.Option.{option_map_or}
use Rattle.std.proofs.lemmas.List.{map-append}
use Rattle.std.proofs.lemmas.List.Elements.{recursion_from_All}
use Rattle.ob_base.specs.Limits.{most_instances}
use Rattle.ob_tree.specs.Names.{Named, bare_name, name_with, Ref, ref_with, TypeExpr, int_type, bool_type, text_type, ref_type}
use Rattle.ob_tree.specs.Exprs.{Expr, number_expr, text_expr, bool_expr, name_expr, this_expr, unary_expr, binary_expr, call_expr, new_expr, Call, call_with, Exprs, no_exprs, and_expr}
use Rattle.ob_tree.specs.Stmts.{Local, int_local, bool_local, text_local, named_local, GivenExpr, Stmt, declare_stmt, assign_stmt, stage_stmt, change_stmt, call_stmt, test_stmt, if_stmt, while_stmt, return_stmt, revert_stmt, disown_stmt, assert_stmt, Block, block_with, Else, no_else, else_with, Stmts, no_stmts, and_stmt}
use Rattle.ob_tree.specs.Members.{Field, Formal, Listed, Member, state_member, field_member, constructor_member, transaction_member, Contract}
use Rattle.ob_tree.specs.declared.name.PermNode.{PermNode}
use Rattle.ob_tree.specs.declared.contract.ParamNode.{ParamNode}
use Rattle.ob_resolve_spec.specs.Declarations.{Program}
use Rattle.ob_resolve_spec.specs.Generics.{argument_of, argument_in_ref, argument_in_type, argument_in_local, arguments_in_expr, arguments_in_call, arguments_in_exprs, arguments_in_stmt, arguments_in_block, arguments_in_else, arguments_in_stmts, arguments_in_member, arguments_in_contract, HasNoGenerics}
use Rattle.ob_generic_spec.specs.Heads.{heads_of}
use Rattle.ob_generic_spec.specs.Substitution.{perm_in}
use Rattle.ob_generic_spec.specs.Uses.{role_of_param, uses_in_contract}
use Rattle.ob_generic_spec.specs.Instances.{visits_at, visit_at, around_plain, plain_visits, after_visits, visits, needed_by, round, rounds, instances_of}
use Rattle.ob_generic_spec.specs.InstanceTypes.{named_in, ref_in, type_in, local_in}
use Rattle.ob_generic_spec.specs.InstanceBodies.{expr_in, call_in, exprs_in, given_in, stmt_in, block_in, else_in, stmts_in}
use Rattle.ob_generic_spec.specs.InstanceTrees.{field_in, formal_in, listed_in, member_in, contract_in, plain_contracts, instance_contracts, instance_tree}
use Rattle.ob_generic_spec.specs.declared.head.Head.{Head}
use Rattle.ob_generic_spec.specs.declared.role.Role.{Role}
use Rattle.ob_generic_spec.specs.declared.role.Role.TheVariants.{Anywhere, OfOwn}
use Rattle.ob_resolve_laws.proofs.Each.{Each, each_of_both}
use Rattle.ob_generic_laws.proofs.Lists.{no_front, no_back, none_of_each, map_same}
use Rattle.ob_generic_laws.proofs.Bare.{IsBare}
use Rattle.ob_generic_laws.proofs.MetTypes.{argument_in_field, argument_in_formal, argument_in_listed, nothing_needed, bare_visits}

-- Types.

named_same : (role : Role) (n : Named) → argument_of n ≡ [] → named_in None role n ≡ n
named_same role (bare_name name span) e = refl
named_same role (name_with name argument span) e = absurd (cc e)

ref_same : (role : Role) (r : Ref) → argument_in_ref r ≡ [] → ref_in None role r ≡ r
ref_same role (ref_with of perm) e = ap (λ n. ref_with n perm) (named_same role of e)

type_same : (role : Role) (t : TypeExpr) → argument_in_type t ≡ [] → type_in None role t ≡ t
type_same role (int_type span) e = refl
type_same role (bool_type span) e = refl
type_same role (text_type span) e = refl
type_same role (ref_type of) e = ap ref_type (ref_same role of e)

local_same : (l : Local) → argument_in_local l ≡ [] → local_in None l ≡ l
local_same (int_local span) e = refl
local_same (bool_local span) e = refl
local_same (text_local span) e = refl
local_same (named_local of) e = ap named_local (named_same Anywhere of e)

exit_same : (o : Option PermNode) → option_map (perm_in None) o ≡ o
exit_same None = refl
exit_same (Some perm) = refl

-- Expressions and statements.

mutual
  expr_same : (e : Expr) → arguments_in_expr e ≡ [] → expr_in None e ≡ e
  expr_same (number_expr value span) k = refl
  expr_same (text_expr value span) k = refl
  expr_same (bool_expr value span) k = refl
  expr_same (name_expr name span) k = refl
  expr_same (this_expr token span) k = refl
  expr_same (unary_expr operator sign operand span) k = ap (λ o. unary_expr operator sign o span) (expr_same operand k)
  expr_same (binary_expr operator sign left right span) k =
      ap₂ (λ l r. binary_expr operator sign l r span)
      (expr_same left (no_front (arguments_in_expr left) (arguments_in_expr right) k))
      (expr_same right (no_back (arguments_in_expr left) (arguments_in_expr right) k))
  expr_same (call_expr call span) k = ap (λ c. call_expr c span) (call_same call k)
  expr_same (new_expr of args span) k =
      ap₂ (λ n es. new_expr n es span) (named_same Anywhere of (no_front (argument_of of) (arguments_in_exprs args) k))
      (exprs_same args (no_back (argument_of of) (arguments_in_exprs args) k))

  call_same : (c : Call) → arguments_in_call c ≡ [] → call_in None c ≡ c
  call_same (call_with receiver name args) k = ap (call_with receiver name) (exprs_same args k)

  exprs_same : (es : Exprs) → arguments_in_exprs es ≡ [] → exprs_in None es ≡ es
  exprs_same no_exprs k = refl
  exprs_same (and_expr e es) k =
      ap₂ and_expr (expr_same e (no_front (arguments_in_expr e) (arguments_in_exprs es) k))
      (exprs_same es (no_back (arguments_in_expr e) (arguments_in_exprs es) k))

maybe_same : (o : Option Expr) → option_map_or arguments_in_expr o [] ≡ [] → option_map (expr_in None) o ≡ o
maybe_same None k = refl
maybe_same (Some e) k = ap Some (expr_same e k)

abbrev IsBareGiven : GivenExpr → Type 0
IsBareGiven g = arguments_in_expr g.value ≡ []

abbrev given_with : GivenExpr → Expr → GivenExpr
given_with g value = record { field = g.field; value = value }

given_same : (g : GivenExpr) → IsBareGiven g → given_in None g ≡ g
given_same g k = ap (given_with g) (expr_same g.value k)

mutual
  stmt_same : (x : Stmt) → arguments_in_stmt x ≡ [] → stmt_in None x ≡ x
  stmt_same (declare_stmt of name value span) k =
      ap₂ (λ l e. declare_stmt l name e span)
      (local_same of (no_front (argument_in_local of) (arguments_in_expr value) k))
      (expr_same value (no_back (argument_in_local of) (arguments_in_expr value) k))
  stmt_same (assign_stmt name value span) k = ap (λ e. assign_stmt name e span) (expr_same value k)
  stmt_same (stage_stmt state field value span) k = ap (λ e. stage_stmt state field e span) (expr_same value k)
  stmt_same (change_stmt state given span) k =
      ap (λ gs. change_stmt state gs span)
      (map_same IsBareGiven (given_in None) given_same given (none_of_each (λ (g : GivenExpr). arguments_in_expr g.value) given k))
  stmt_same (call_stmt value span) k = ap (λ e. call_stmt e span) (expr_same value k)
  stmt_same (test_stmt subject state branch otherwise span) k =
      ap₂ (λ b e. test_stmt subject state b e span)
      (block_same branch (no_front (arguments_in_block branch) (arguments_in_else otherwise) k))
      (else_same otherwise (no_back (arguments_in_block branch) (arguments_in_else otherwise) k))
  stmt_same (if_stmt condition branch otherwise span) k =
      let front = arguments_in_expr condition ++ arguments_in_block branch in
      let first = no_front front (arguments_in_else otherwise) k in
      ap₂ (λ c b. if_stmt c b (else_in None otherwise) span)
      (expr_same condition (no_front (arguments_in_expr condition) (arguments_in_block branch) first))
      (block_same branch (no_back (arguments_in_expr condition) (arguments_in_block branch) first))
      ∙ ap (λ e. if_stmt condition branch e span) (else_same otherwise (no_back front (arguments_in_else otherwise) k))
  stmt_same (while_stmt condition body span) k =
      ap₂ (λ c b. while_stmt c b span)
      (expr_same condition (no_front (arguments_in_expr condition) (arguments_in_block body) k))
      (block_same body (no_back (arguments_in_expr condition) (arguments_in_block body) k))
  stmt_same (return_stmt value span) k = ap (λ o. return_stmt o span) (maybe_same value k)
  stmt_same (revert_stmt text span) k = ap (λ o. revert_stmt o span) (maybe_same text k)
  stmt_same (disown_stmt name span) k = refl
  stmt_same (assert_stmt subject perm span) k = refl

  block_same : (b : Block) → arguments_in_block b ≡ [] → block_in None b ≡ b
  block_same (block_with statements end) k = ap (λ xs. block_with xs end) (stmts_same statements k)

  else_same : (e : Else) → arguments_in_else e ≡ [] → else_in None e ≡ e
  else_same no_else k = refl
  else_same (else_with block) k = ap else_with (block_same block k)

  stmts_same : (xs : Stmts) → arguments_in_stmts xs ≡ [] → stmts_in None xs ≡ xs
  stmts_same no_stmts k = refl
  stmts_same (and_stmt x xs) k =
      ap₂ and_stmt (stmt_same x (no_front (arguments_in_stmt x) (arguments_in_stmts xs) k))
      (stmts_same xs (no_back (arguments_in_stmt x) (arguments_in_stmts xs) k))

-- Members.

abbrev field_with : Field → TypeExpr → Field
field_with f of = record { of = of; name = f.name; available = f.available }

abbrev formal_with : Formal → TypeExpr → Option PermNode → Formal
formal_with p of exit = record { of = of; exit = exit; name = p.name }

abbrev listed_with : Listed → Ref → Option PermNode → Listed
listed_with l of exit = record { of = of; exit = exit; name = l.name }

field_same : (f : Field) → argument_in_field f ≡ [] → field_in None f ≡ f
field_same f k = ap (field_with f) (type_same Anywhere f.of k)

formal_same : (p : Formal) → argument_in_formal p ≡ [] → formal_in None p ≡ p
formal_same p k = ap₂ (formal_with p) (type_same (role_of_param p.name) p.of k) (exit_same p.exit)

listed_same : (l : Listed) → argument_in_listed l ≡ [] → listed_in None l ≡ l
listed_same l k = ap₂ (listed_with l) (ref_same Anywhere l.of k) (exit_same l.exit)

fields_same : (fields : List Field) → flat_map argument_in_field fields ≡ [] → map (field_in None) fields ≡ fields
fields_same fields k =
    map_same (λ f. argument_in_field f ≡ []) (field_in None) field_same fields (none_of_each argument_in_field fields k)

formals_same : (params : List Formal) → flat_map argument_in_formal params ≡ [] → map (formal_in None) params ≡ params
formals_same params k =
    map_same (λ p. argument_in_formal p ≡ []) (formal_in None) formal_same params (none_of_each argument_in_formal params k)

all_listed_same : (listed : List Listed) → flat_map argument_in_listed listed ≡ [] → map (listed_in None) listed ≡ listed
all_listed_same listed k =
    map_same (λ l. argument_in_listed l ≡ []) (listed_in None) listed_same listed (none_of_each argument_in_listed listed k)

result_same : (o : Option TypeExpr) → option_map_or argument_in_type o [] ≡ [] → option_map (type_in None Anywhere) o ≡ o
result_same None k = refl
result_same (Some t) k = ap Some (type_same Anywhere t k)

body_same : (o : Option Block) → option_map_or arguments_in_block o [] ≡ [] → option_map (block_in None) o ≡ o
body_same None k = refl
body_same (Some b) k = ap Some (block_same b k)

member_same : (m : Member) → arguments_in_member m ≡ [] → member_in None m ≡ m
member_same (state_member name fields span) k = ap (λ fs. state_member name fs span) (fields_same fields k)
member_same (field_member field) k = ap field_member (field_same field k)
member_same (constructor_member of perm params body span) k =
    let of_params = flat_map argument_in_formal params in
    let first = no_front (argument_of of ++ of_params) (arguments_in_block body) k in
    ap₂ (λ n ps. constructor_member n perm ps (block_in None body) span)
    (named_same OfOwn of (no_front (argument_of of) of_params first))
    (formals_same params (no_back (argument_of of) of_params first))
    ∙ ap (λ b. constructor_member of perm params b span)
    (block_same body (no_back (argument_of of ++ of_params) (arguments_in_block body) k))
member_same (transaction_member private listed name params result body span) k =
    let of_listed = flat_map argument_in_listed listed in
    let of_params = flat_map argument_in_formal params in
    let of_result = option_map_or argument_in_type result [] in
    let of_body = option_map_or arguments_in_block body [] in
    let most = no_front (of_listed ++ of_params ++ of_result) of_body k in
    let first = no_front (of_listed ++ of_params) of_result most in
    ap₂ (λ ls ps. transaction_member private ls name ps (option_map (type_in None Anywhere) result)
    (option_map (block_in None) body) span)
    (all_listed_same listed (no_front of_listed of_params first))
    (formals_same params (no_back of_listed of_params first))
    ∙ ap₂ (λ r b. transaction_member private listed name params r b span)
    (result_same result (no_back (of_listed ++ of_params) of_result most))
    (body_same body (no_back (of_listed ++ of_params ++ of_result) of_body k))

-- Contracts.

implements_same : (o : Option Named) → option_map_or argument_of o [] ≡ [] → option_map (named_in None Anywhere) o ≡ o
implements_same None k = refl
implements_same (Some n) k = ap Some (named_same Anywhere n k)

abbrev contract_with : Contract → Option Named → List Member → Contract
contract_with c implements members =
    record c { param = None; implements = implements; members = members }

abbrev param_with : Contract → Option ParamNode → Contract
param_with c param = record c { param = param }

contract_same : (c : Contract) → IsBare c → contract_in None c ≡ c
contract_same c h =
    let of_implements = option_map_or argument_of c.implements [] in
    let of_members = flat_map arguments_in_member c.members in
    ap₂ (contract_with c) (implements_same c.implements (no_front of_implements of_members h.no_argument))
    (map_same (λ m. arguments_in_member m ≡ []) (member_in None) member_same c.members
    (none_of_each arguments_in_member c.members (no_back of_implements of_members h.no_argument)))
    ∙ ap (param_with c) (sym h.no_parameter)

plain_same : (c : Contract) → IsBare c → plain_contracts c ≡ c ∷ []
plain_same c h =
    ap (λ p. if is_some p then [] else contract_in None c ∷ []) h.no_parameter ∙ ap (λ d. d ∷ []) (contract_same c h)

plains_same : (program : Program) → Each IsBare program → flat_map plain_contracts program ≡ program
plains_same [] h = refl
plains_same (c ∷ cs) h =
    ap (λ l. l ++ flat_map plain_contracts cs) (plain_same c h.0) ∙ ap (λ l. c ∷ l) (plains_same cs h.1)

-- The instances.

pub bare_contracts : (program : Program) → HasNoGenerics program → Each IsBare program
bare_contracts program h =
    each_of_both (λ (c : Contract). c.param ≡ None) (λ c. arguments_in_contract c ≡ []) IsBare
    (λ c p a. record { no_parameter = p; no_argument = a }) program
    (recursion_from_All (λ (c : Contract). c.param ≡ None) program h.no_parameter)
    (none_of_each arguments_in_contract program h.no_argument)

plain_visits_are : (heads : List Head) (program : Program) → Each IsBare program
    → flat_map (plain_visits heads) program ≡ visits_at (around_plain heads) (flat_map uses_in_contract program)
plain_visits_are heads [] h = refl
plain_visits_are heads (c ∷ cs) h =
    let a = around_plain heads in
    ap (λ p. (if is_some p then [] else visits_at a (uses_in_contract c)) ++ flat_map (plain_visits heads) cs) h.0.no_parameter
    ∙ ap (λ l. visits_at a (uses_in_contract c) ++ l) (plain_visits_are heads cs h.1)
    ∙ sym (map-append (visit_at a) (uses_in_contract c) (flat_map uses_in_contract cs))

pub visits_are : (program : Program) → Each IsBare program
    → visits program [] ≡ visits_at (around_plain (heads_of program)) (flat_map uses_in_contract program)
visits_are program h =
    append-nil (flat_map (plain_visits (heads_of program)) program) ∙ plain_visits_are (heads_of program) program h

none_needed : (program : Program) → Each IsBare program → needed_by program [] ≡ []
none_needed program h =
    ap (after_visits []) (visits_are program h)
    ∙ nothing_needed (heads_of program) [] (flat_map uses_in_contract program) (bare_visits program h)

none_after : (program : Program) → Each IsBare program → (n : ℕ) → rounds program n ≡ []
none_after program h zero = refl
none_after program h (suc n) = ap (round program) (none_after program h n) ∙ ap (take most_instances) (none_needed program h)

pub no_instances : (program : Program) → Each IsBare program → instances_of program ≡ []
unfolding instances_of
no_instances program h = none_after program h most_instances

pub same_tree : (program : Program) → HasNoGenerics program → instance_tree program ≡ program
same_tree program h =
    let bare = bare_contracts program h in
    ap (λ xs. flat_map plain_contracts program ++ flat_map (instance_contracts program) xs) (no_instances program bare)
    ∙ append-nil (flat_map plain_contracts program) ∙ plains_same program bare
