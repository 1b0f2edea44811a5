-- A tree without its places: two trees that differ in places alone are the same here.
use Rattle.std.specs.Prelude.{List, map, option_map}
use Rattle.ob_base.specs.declared.fault.Span.{Span}
use Rattle.ob_base.specs.declared.permission.Mode.{Mode}
use Rattle.ob_tree.specs.Names.{Named, bare_name, name_with, Ref, ref_with, TypeExpr, int_type, bool_type, text_type, ref_type}
use Rattle.ob_tree.specs.Exprs.{Expr, number_expr, text_expr, bool_expr, name_expr, this_expr, unary_expr, binary_expr, call_expr, new_expr, Call, call_with, Exprs, no_exprs, and_expr}
use Rattle.ob_tree.specs.Stmts.{Local, int_local, bool_local, text_local, named_local, GivenExpr, Stmt, declare_stmt, assign_stmt, stage_stmt, change_stmt, call_stmt, test_stmt, if_stmt, while_stmt, return_stmt, revert_stmt, disown_stmt, assert_stmt, Block, block_with, Else, no_else, else_with, Stmts, no_stmts, and_stmt}
use Rattle.ob_tree.specs.Members.{Field, Formal, Listed, Member, state_member, field_member, constructor_member, transaction_member, Contract}
use Rattle.ob_tree.specs.declared.name.NamePart.{NamePart}
use Rattle.ob_tree.specs.declared.name.PermNode.{PermNode}
use Rattle.ob_tree.specs.declared.name.PermNode.TheVariants as perm'
use Rattle.ob_tree.specs.declared.name.Subject.{Subject}
use Rattle.ob_tree.specs.declared.name.Subject.TheVariants as subject'
use Rattle.ob_tree.specs.declared.contract.ParamNode.{ParamNode}

-- the place that each part has here
abbrev pub nowhere : Span
nowhere = record { start = 0; end = 0; line = 0; column = 0 }

-- ---- names

abbrev pub unplaced_name : NamePart → NamePart
unplaced_name part = record { name = part.name; span = nowhere }

abbrev pub unplaced_subject : Subject → Subject
unplaced_subject (subject'.This span) = subject'.This nowhere
unplaced_subject (subject'.Name part) = subject'.Name (unplaced_name part)

abbrev pub unplaced_perm : PermNode → PermNode
unplaced_perm (perm'.Mode m span) = perm'.Mode m nowhere
unplaced_perm (perm'.States states) = perm'.States (map unplaced_name states)

abbrev mutual
  pub unplaced_named : Named → Named
  unplaced_named (bare_name name span) = bare_name name nowhere
  unplaced_named (name_with name argument span) = name_with name (unplaced_ref argument) nowhere

  pub unplaced_ref : Ref → Ref
  unplaced_ref (ref_with of perm) = ref_with (unplaced_named of) (unplaced_perm perm)

abbrev pub unplaced_type : TypeExpr → TypeExpr
unplaced_type (int_type span) = int_type nowhere
unplaced_type (bool_type span) = bool_type nowhere
unplaced_type (text_type span) = text_type nowhere
unplaced_type (ref_type of) = ref_type (unplaced_ref of)

-- ---- expressions

abbrev mutual
  pub unplaced_expr : Expr → Expr
  unplaced_expr (number_expr value span) = number_expr value nowhere
  unplaced_expr (text_expr value span) = text_expr value nowhere
  unplaced_expr (bool_expr value span) = bool_expr value nowhere
  unplaced_expr (name_expr part span) = name_expr (unplaced_name part) nowhere
  unplaced_expr (this_expr place span) = this_expr nowhere nowhere
  unplaced_expr (unary_expr o place operand span) = unary_expr o nowhere (unplaced_expr operand) nowhere
  unplaced_expr (binary_expr o place left right span) = binary_expr o nowhere (unplaced_expr left) (unplaced_expr right) nowhere
  unplaced_expr (call_expr call span) = call_expr (unplaced_call call) nowhere
  unplaced_expr (new_expr of args span) = new_expr (unplaced_named of) (unplaced_exprs args) nowhere

  pub unplaced_call : Call → Call
  unplaced_call (call_with receiver part args) = call_with (option_map unplaced_subject receiver) (unplaced_name part) (unplaced_exprs args)

  pub unplaced_exprs : Exprs → Exprs
  unplaced_exprs no_exprs = no_exprs
  unplaced_exprs (and_expr e es) = and_expr (unplaced_expr e) (unplaced_exprs es)

-- ---- statements

abbrev pub unplaced_local : Local → Local
unplaced_local (int_local span) = int_local nowhere
unplaced_local (bool_local span) = bool_local nowhere
unplaced_local (text_local span) = text_local nowhere
unplaced_local (named_local of) = named_local (unplaced_named of)

abbrev pub unplaced_given : GivenExpr → GivenExpr
unplaced_given g = record { field = unplaced_name g.field; value = unplaced_expr g.value }

abbrev mutual
  pub unplaced_stmt : Stmt → Stmt
  unplaced_stmt (declare_stmt of part value span) = declare_stmt (unplaced_local of) (unplaced_name part) (unplaced_expr value) nowhere
  unplaced_stmt (assign_stmt part value span) = assign_stmt (unplaced_name part) (unplaced_expr value) nowhere
  unplaced_stmt (stage_stmt state field value span) = stage_stmt (unplaced_name state) (unplaced_name field) (unplaced_expr value) nowhere
  unplaced_stmt (change_stmt state given span) = change_stmt (unplaced_name state) (map unplaced_given given) nowhere
  unplaced_stmt (call_stmt value span) = call_stmt (unplaced_expr value) nowhere
  unplaced_stmt (test_stmt of state then otherwise span) = test_stmt (unplaced_subject of) (unplaced_name state) (unplaced_block then) (unplaced_else otherwise) nowhere
  unplaced_stmt (if_stmt condition then otherwise span) = if_stmt (unplaced_expr condition) (unplaced_block then) (unplaced_else otherwise) nowhere
  unplaced_stmt (while_stmt condition body span) = while_stmt (unplaced_expr condition) (unplaced_block body) nowhere
  unplaced_stmt (return_stmt value span) = return_stmt (option_map unplaced_expr value) nowhere
  unplaced_stmt (revert_stmt text span) = revert_stmt (option_map unplaced_expr text) nowhere
  unplaced_stmt (disown_stmt part span) = disown_stmt (unplaced_name part) nowhere
  unplaced_stmt (assert_stmt of perm span) = assert_stmt (unplaced_subject of) (unplaced_perm perm) nowhere

  pub unplaced_block : Block → Block
  unplaced_block (block_with body end) = block_with (unplaced_stmts body) nowhere

  pub unplaced_else : Else → Else
  unplaced_else no_else = no_else
  unplaced_else (else_with block) = else_with (unplaced_block block)

  pub unplaced_stmts : Stmts → Stmts
  unplaced_stmts no_stmts = no_stmts
  unplaced_stmts (and_stmt s ss) = and_stmt (unplaced_stmt s) (unplaced_stmts ss)

-- ---- members and contracts

abbrev pub unplaced_field : Field → Field
unplaced_field f = record { of = unplaced_type f.of; name = unplaced_name f.name; available = map unplaced_name f.available }

abbrev pub unplaced_formal : Formal → Formal
unplaced_formal f = record { of = unplaced_type f.of; exit = option_map unplaced_perm f.exit; name = unplaced_subject f.name }

abbrev pub unplaced_listed : Listed → Listed
unplaced_listed l = record { of = unplaced_ref l.of; exit = option_map unplaced_perm l.exit; name = unplaced_name l.name }

abbrev pub unplaced_member : Member → Member
unplaced_member (state_member part fields span) = state_member (unplaced_name part) (map unplaced_field fields) nowhere
unplaced_member (field_member f) = field_member (unplaced_field f)
unplaced_member (constructor_member of perm params body span) = constructor_member (unplaced_named of) (unplaced_perm perm) (map unplaced_formal params) (unplaced_block body) nowhere
unplaced_member (transaction_member private lists part params result body span) =
    transaction_member private (map unplaced_listed lists) (unplaced_name part) (map unplaced_formal params) (option_map unplaced_type result) (option_map unplaced_block body) nowhere

abbrev pub unplaced_bound : NamePart × Mode → NamePart × Mode
unplaced_bound bound = (unplaced_name bound.0, bound.1)

abbrev pub unplaced_param : ParamNode → ParamNode
unplaced_param p = record { asset = p.asset; name = unplaced_name p.name; perm = unplaced_name p.perm; bound = option_map unplaced_bound p.bound; span = nowhere }

abbrev pub unplaced_contract : Contract → Contract
unplaced_contract c = record {
  main = c.main;
  asset = c.asset;
  interface = c.interface;
  name = c.name;
  param = option_map unplaced_param c.param;
  implements = option_map unplaced_named c.implements;
  members = map unplaced_member c.members;
  span = nowhere;
  end = nowhere;
}

-- a tree without its places
abbrev pub unplaced : List Contract → List Contract
unplaced tree = map unplaced_contract tree
