-- The types that are met in a program without type parameters and type arguments: none has an argument, none stands in one,
-- and none needs an instance.
use Rattle.std.proofs.Common.{◌≡◌, false, List, [], ◌∷◌, ◌++◌, Option, Some, None, refl}
use Rattle.std.specs.List.{flat_map}
use Rattle.std.specs.Option.{option_map_or}
use Rattle.ob_tree.specs.Names.{Named, bare_name, name_with, Ref, ref_with, TypeExpr, int_type, bool_type, text_type, ref_type}
use Rattle.ob_tree.specs.Exprs.{Expr, number_expr, text_expr, bool_expr, name_expr, this_expr, unary_expr, binary_expr, call_expr, new_expr, Call, call_with, Exprs, no_exprs, and_expr}
use Rattle.ob_tree.specs.Stmts.{Local, int_local, bool_local, text_local, named_local, GivenExpr, Stmt, declare_stmt, assign_stmt, stage_stmt, change_stmt, call_stmt, test_stmt, if_stmt, while_stmt, return_stmt, revert_stmt, disown_stmt, assert_stmt, Block, block_with, Else, no_else, else_with, Stmts, no_stmts, and_stmt}
use Rattle.ob_tree.specs.Members.{Field, Formal, Listed, Member, state_member, field_member, constructor_member, transaction_member, Contract}
use Rattle.ob_tree.specs.declared.name.Subject.{Subject}
use Rattle.ob_tree.specs.declared.name.Subject.TheVariants.{This, Name as NameSubject}
use Rattle.ob_resolve_spec.specs.Declarations.{Program}
use Rattle.ob_resolve_spec.specs.Generics.{argument_of, argument_in_ref, argument_in_type, argument_in_local, arguments_in_expr, arguments_in_call, arguments_in_exprs, arguments_in_stmt, arguments_in_block, arguments_in_else, arguments_in_stmts, arguments_in_member}
use Rattle.ob_generic_spec.specs.Uses.{Use, used, types_in_ref, types_in_type, types_in_local, types_in_expr, types_in_call, types_in_exprs, types_in_given, types_in_stmt, types_in_block, types_in_else, types_in_stmts, types_in_field, role_of_param, types_in_formal, types_in_listed, types_in_member, types_in_contract, uses_of, uses_in_contract}
use Rattle.ob_generic_spec.specs.Instances.{visits_at, around_plain, after_visits}
use Rattle.ob_generic_spec.specs.TypeFaults.{is_in_argument}
use Rattle.ob_generic_spec.specs.declared.head.Head.{Head}
use Rattle.ob_generic_spec.specs.declared.instance.Instance.{Instance}
use Rattle.ob_generic_spec.specs.declared.role.Role.{Role}
use Rattle.ob_generic_spec.specs.declared.role.Role.TheVariants.{Anywhere, OfOwn}
use Rattle.ob_resolve_laws.proofs.Each.{Each, each_both, each_weaker, each_flat_map}
use Rattle.ob_generic_laws.proofs.Lists.{no_front, no_back, none_of_each}
use Rattle.ob_generic_laws.proofs.Bare.{IsBare}

-- a type without an argument, and not in one
abbrev pub IsBareUse : Use → Type 0
IsBareUse (used role (bare_name name span)) = is_in_argument role ≡ false
IsBareUse (used role (name_with name argument span)) = ⊥

abbrev pub AreBareUses : List Use → Type 0
AreBareUses = Each IsBareUse

-- of each element, and so of all
all_met : {A B : Type 0} (arguments : A → List B) (types : A → List Use)
    → ((x : A) → arguments x ≡ [] → AreBareUses (types x)) → (xs : List A) → flat_map arguments xs ≡ []
    → AreBareUses (flat_map types xs)
all_met arguments types met xs k =
    each_flat_map IsBareUse types xs
    (each_weaker (λ x. arguments x ≡ []) (λ x. AreBareUses (types x)) met xs (none_of_each arguments xs k))

-- Types.

named_met : (role : Role) → is_in_argument role ≡ false → (n : Named) → argument_of n ≡ []
    → IsBareUse (used role n)
named_met role e (bare_name name span) k = e
named_met role e (name_with name argument span) k = absurd (cc k)

ref_met : (role : Role) → is_in_argument role ≡ false → (r : Ref) → argument_in_ref r ≡ []
    → AreBareUses (types_in_ref role r)
ref_met role e (ref_with of perm) k = (named_met role e of k, tt)

type_met : (role : Role) → is_in_argument role ≡ false → (t : TypeExpr) → argument_in_type t ≡ []
    → AreBareUses (types_in_type role t)
type_met role e (int_type span) k = tt
type_met role e (bool_type span) k = tt
type_met role e (text_type span) k = tt
type_met role e (ref_type of) k = ref_met role e of k

local_met : (l : Local) → argument_in_local l ≡ [] → AreBareUses (types_in_local l)
local_met (int_local span) k = tt
local_met (bool_local span) k = tt
local_met (text_local span) k = tt
local_met (named_local of) k = (named_met Anywhere refl of k, tt)

-- Expressions and statements.

mutual
  expr_met : (e : Expr) → arguments_in_expr e ≡ [] → AreBareUses (types_in_expr e)
  expr_met (number_expr value span) k = tt
  expr_met (text_expr value span) k = tt
  expr_met (bool_expr value span) k = tt
  expr_met (name_expr name span) k = tt
  expr_met (this_expr token span) k = tt
  expr_met (unary_expr operator sign operand span) k = expr_met operand k
  expr_met (binary_expr operator sign left right span) k =
      each_both IsBareUse (types_in_expr left) (types_in_expr right)
      (expr_met left (no_front (arguments_in_expr left) (arguments_in_expr right) k))
      (expr_met right (no_back (arguments_in_expr left) (arguments_in_expr right) k))
  expr_met (call_expr call span) k = call_met call k
  expr_met (new_expr of args span) k = (
    named_met Anywhere refl of (no_front (argument_of of) (arguments_in_exprs args) k),
    exprs_met args (no_back (argument_of of) (arguments_in_exprs args) k),
  )

  call_met : (c : Call) → arguments_in_call c ≡ [] → AreBareUses (types_in_call c)
  call_met (call_with receiver name args) k = exprs_met args k

  exprs_met : (es : Exprs) → arguments_in_exprs es ≡ [] → AreBareUses (types_in_exprs es)
  exprs_met no_exprs k = tt
  exprs_met (and_expr e es) k =
      each_both IsBareUse (types_in_expr e) (types_in_exprs es)
      (expr_met e (no_front (arguments_in_expr e) (arguments_in_exprs es) k))
      (exprs_met es (no_back (arguments_in_expr e) (arguments_in_exprs es) k))

maybe_met : (o : Option Expr) → option_map_or arguments_in_expr o [] ≡ [] → AreBareUses (option_map_or types_in_expr o [])
maybe_met None k = tt
maybe_met (Some e) k = expr_met e k

given_met : (g : GivenExpr) → arguments_in_expr g.value ≡ [] → AreBareUses (types_in_given g)
given_met g k = expr_met g.value k

mutual
  stmt_met : (x : Stmt) → arguments_in_stmt x ≡ [] → AreBareUses (types_in_stmt x)
  stmt_met (declare_stmt of name value span) k =
      each_both IsBareUse (types_in_local of) (types_in_expr value)
      (local_met of (no_front (argument_in_local of) (arguments_in_expr value) k))
      (expr_met value (no_back (argument_in_local of) (arguments_in_expr value) k))
  stmt_met (assign_stmt name value span) k = expr_met value k
  stmt_met (stage_stmt state field value span) k = expr_met value k
  stmt_met (change_stmt state given span) k =
      all_met (λ (g : GivenExpr). arguments_in_expr g.value) types_in_given given_met given k
  stmt_met (call_stmt value span) k = expr_met value k
  stmt_met (test_stmt subject state branch otherwise span) k =
      each_both IsBareUse (types_in_block branch) (types_in_else otherwise)
      (block_met branch (no_front (arguments_in_block branch) (arguments_in_else otherwise) k))
      (else_met otherwise (no_back (arguments_in_block branch) (arguments_in_else otherwise) k))
  stmt_met (if_stmt condition branch otherwise span) k =
      let front = arguments_in_expr condition ++ arguments_in_block branch in
      let first = no_front front (arguments_in_else otherwise) k in
      each_both IsBareUse (types_in_expr condition ++ types_in_block branch) (types_in_else otherwise)
      (each_both IsBareUse (types_in_expr condition) (types_in_block branch)
      (expr_met condition (no_front (arguments_in_expr condition) (arguments_in_block branch) first))
      (block_met branch (no_back (arguments_in_expr condition) (arguments_in_block branch) first)))
      (else_met otherwise (no_back front (arguments_in_else otherwise) k))
  stmt_met (while_stmt condition body span) k =
      each_both IsBareUse (types_in_expr condition) (types_in_block body)
      (expr_met condition (no_front (arguments_in_expr condition) (arguments_in_block body) k))
      (block_met body (no_back (arguments_in_expr condition) (arguments_in_block body) k))
  stmt_met (return_stmt value span) k = maybe_met value k
  stmt_met (revert_stmt text span) k = maybe_met text k
  stmt_met (disown_stmt name span) k = tt
  stmt_met (assert_stmt subject perm span) k = tt

  block_met : (b : Block) → arguments_in_block b ≡ [] → AreBareUses (types_in_block b)
  block_met (block_with statements end) k = stmts_met statements k

  else_met : (e : Else) → arguments_in_else e ≡ [] → AreBareUses (types_in_else e)
  else_met no_else k = tt
  else_met (else_with block) k = block_met block k

  stmts_met : (xs : Stmts) → arguments_in_stmts xs ≡ [] → AreBareUses (types_in_stmts xs)
  stmts_met no_stmts k = tt
  stmts_met (and_stmt x xs) k =
      each_both IsBareUse (types_in_stmt x) (types_in_stmts xs)
      (stmt_met x (no_front (arguments_in_stmt x) (arguments_in_stmts xs) k))
      (stmts_met xs (no_back (arguments_in_stmt x) (arguments_in_stmts xs) k))

-- Members.

abbrev pub argument_in_field : Field → List Ref
argument_in_field f = argument_in_type f.of

abbrev pub argument_in_formal : Formal → List Ref
argument_in_formal p = argument_in_type p.of

abbrev pub argument_in_listed : Listed → List Ref
argument_in_listed l = argument_in_ref l.of

field_met : (f : Field) → argument_in_field f ≡ [] → AreBareUses (types_in_field f)
field_met f k = type_met Anywhere refl f.of k

param_role : (s : Subject) → is_in_argument (role_of_param s) ≡ false
param_role (This span) = refl
param_role (NameSubject name) = refl

formal_met : (p : Formal) → argument_in_formal p ≡ [] → AreBareUses (types_in_formal p)
formal_met p k = type_met (role_of_param p.name) (param_role p.name) p.of k

listed_met : (l : Listed) → argument_in_listed l ≡ [] → AreBareUses (types_in_listed l)
listed_met l k = ref_met Anywhere refl l.of k

result_met : (o : Option TypeExpr) → option_map_or argument_in_type o [] ≡ []
    → AreBareUses (option_map_or (types_in_type Anywhere) o [])
result_met None k = tt
result_met (Some t) k = type_met Anywhere refl t k

body_met : (o : Option Block) → option_map_or arguments_in_block o [] ≡ [] → AreBareUses (option_map_or types_in_block o [])
body_met None k = tt
body_met (Some b) k = block_met b k

member_met : (m : Member) → arguments_in_member m ≡ [] → AreBareUses (types_in_member m)
member_met (state_member name fields span) k = all_met argument_in_field types_in_field field_met fields k
member_met (field_member field) k = field_met field k
member_met (constructor_member of perm params body span) k =
    let of_params = flat_map argument_in_formal params in
    let first = no_front (argument_of of ++ of_params) (arguments_in_block body) k in (
      named_met OfOwn refl of (no_front (argument_of of) of_params first),
      each_both IsBareUse (flat_map types_in_formal params) (types_in_block body)
          (all_met argument_in_formal types_in_formal formal_met params (no_back (argument_of of) of_params first))
          (block_met body (no_back (argument_of of ++ of_params) (arguments_in_block body) k)),
    )
member_met (transaction_member private listed name params result body span) k =
    let of_listed = flat_map argument_in_listed listed in
    let of_params = flat_map argument_in_formal params in
    let of_result = option_map_or argument_in_type result [] in
    let of_body = option_map_or arguments_in_block body [] in
    let most = no_front (of_listed ++ of_params ++ of_result) of_body k in
    let first = no_front (of_listed ++ of_params) of_result most in
    let in_listed = flat_map types_in_listed listed in
    let in_params = flat_map types_in_formal params in
    let in_result = option_map_or (types_in_type Anywhere) result [] in
    let in_body = option_map_or types_in_block body [] in
    each_both IsBareUse (in_listed ++ in_params ++ in_result) in_body
    (each_both IsBareUse (in_listed ++ in_params) in_result
    (each_both IsBareUse in_listed in_params
    (all_met argument_in_listed types_in_listed listed_met listed (no_front of_listed of_params first))
    (all_met argument_in_formal types_in_formal formal_met params (no_back of_listed of_params first)))
    (result_met result (no_back (of_listed ++ of_params) of_result most)))
    (body_met body (no_back (of_listed ++ of_params ++ of_result) of_body k))

-- Contracts.

implements_met : (o : Option Named) → option_map_or argument_of o [] ≡ []
    → AreBareUses (option_map_or (λ of. used Anywhere of ∷ []) o [])
implements_met None k = tt
implements_met (Some n) k = (named_met Anywhere refl n k, tt)

types_met : (c : Contract) → IsBare c → AreBareUses (types_in_contract c)
types_met c h =
    let of_implements = option_map_or argument_of c.implements [] in
    let of_members = flat_map arguments_in_member c.members in
    each_both IsBareUse (option_map_or (λ of. used Anywhere of ∷ []) c.implements []) (flat_map types_in_member c.members)
    (implements_met c.implements (no_front of_implements of_members h.no_argument))
    (all_met arguments_in_member types_in_member member_met c.members (no_back of_implements of_members h.no_argument))

-- a type without an argument is all that it uses
bare_uses : (u : Use) → IsBareUse u → AreBareUses (uses_of u)
bare_uses (used role (bare_name name span)) h = (h, tt)
bare_uses (used role (name_with name argument span)) h = absurd h

contract_met : (c : Contract) → IsBare c → AreBareUses (uses_in_contract c)
contract_met c h =
    each_flat_map IsBareUse uses_of (types_in_contract c)
    (each_weaker IsBareUse (λ u. AreBareUses (uses_of u)) bare_uses (types_in_contract c) (types_met c h))

pub bare_visits : (program : Program) → Each IsBare program → AreBareUses (flat_map uses_in_contract program)
bare_visits program h =
    each_flat_map IsBareUse uses_in_contract program
    (each_weaker IsBare (λ c. AreBareUses (uses_in_contract c)) contract_met program h)

pub nothing_needed : (heads : List Head) (known : List Instance) (us : List Use) → AreBareUses us
    → after_visits known (visits_at (around_plain heads) us) ≡ known
nothing_needed heads known [] h = refl
nothing_needed heads known (used role (bare_name name span) ∷ us) h = nothing_needed heads known us h.1
nothing_needed heads known (used role (name_with name argument span) ∷ us) h = absurd h.0
