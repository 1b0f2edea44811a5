-- A loop's turn, in each list of parts with types.
use Rattle.std.proofs.Common.{◌≡◌, ℕ, ◌<◌, ◌+◌, List, ◌++◌, Option, map, length, drop, get_or, ap, sym, ◌∙◌}
use Rattle.std.specs.List.{flat_map}
use Rattle.ob_tree.specs.ExprsView.{expr_of, exprs_of}
use Rattle.ob_base.specs.declared.fault.Span.{Span}
use Rattle.ob_tree.specs.StmtsView.{given_of, stmt_of, stmts_of, block_of, else_of, stmt_of-If}
use Rattle.ob_tree.specs.MembersView.{field_of, formal_of, listed_of, member_of}
use Rattle.ob_tree.specs.declared.expr.Expr.{Expr}
use Rattle.ob_tree.specs.declared.stmt.Block.{Block}
use Rattle.ob_tree.specs.declared.stmt.GivenNode.{GivenNode}
use Rattle.ob_tree.specs.declared.stmt.Stmt.{Stmt, If}
use Rattle.ob_tree.specs.declared.member.FieldNode.{FieldNode}
use Rattle.ob_tree.specs.declared.member.FormalNode.{FormalNode}
use Rattle.ob_tree.specs.declared.member.ListedNode.{ListedNode}
use Rattle.ob_tree.specs.declared.member.Member.{Member}
use Rattle.ob_generic_spec.specs.Arguments.{Around}
use Rattle.ob_generic_spec.specs.Uses.{Use, types_in_expr, types_in_exprs, types_in_given, types_in_stmt, types_in_block, types_in_else, types_in_stmts, types_in_field, types_in_formal, types_in_listed, types_in_member}
use Rattle.ob_generic_walk.specs.Seen.{met}
use Rattle.ob_generic_walk.specs.declared.found.Found.{Found}
use Rattle.ob_generic_walk.proofs.Turns.{turn}
use Rattle.ob_generic_walk.proofs.SeenLemmas.{met-append}

-- the types of the part at a place, and then of those after it
after_part : {X : Type 0} (of : List X → List Use) (a : Around) (f : Found) (xs : List X) (i : ℕ) (us : List Use)
    → of (drop i xs) ≡ us ++ of (drop (i + 1) xs) → met a (met a f us) (of (drop (i + 1) xs)) ≡ met a f (of (drop i xs))
after_part of a f xs i us e = sym (ap (met a f) e ∙ met-append a f us (of (drop (i + 1) xs)))

flat_turn : {X Y : Type 0} (g : Y → List Use) (h : X → Y) (a : Around) (f : Found) (xs : List X) (i : ℕ) (x : X)
    → i < length xs → x ≡ get_or xs i x
    → met a (met a f (g (h x))) (flat_map g (map h (drop (i + 1) xs))) ≡ met a f (flat_map g (map h (drop i xs)))
flat_turn {X} g h a f xs i x lt is =
    after_part (λ (ys : List X). flat_map g (map h ys)) a f xs i (g (h x)) (ap (λ ys. flat_map g (map h ys)) (turn xs i x lt is))

pub args_turn : (a : Around) (f : Found) (xs : List Expr) (i : ℕ) (x : Expr) → i < length xs → x ≡ get_or xs i x
    → met a (met a f (types_in_expr (expr_of x))) (types_in_exprs (exprs_of (drop (i + 1) xs)))
    ≡ met a f (types_in_exprs (exprs_of (drop i xs)))
args_turn a f xs i x lt is =
    after_part (λ ys. types_in_exprs (exprs_of ys)) a f xs i (types_in_expr (expr_of x))
    (ap (λ ys. types_in_exprs (exprs_of ys)) (turn xs i x lt is))

pub stmts_turn : (a : Around) (f : Found) (xs : List Stmt) (i : ℕ) (x : Stmt) → i < length xs → x ≡ get_or xs i x
    → met a (met a f (types_in_stmt (stmt_of x))) (types_in_stmts (stmts_of (drop (i + 1) xs)))
    ≡ met a f (types_in_stmts (stmts_of (drop i xs)))
stmts_turn a f xs i x lt is =
    after_part (λ ys. types_in_stmts (stmts_of ys)) a f xs i (types_in_stmt (stmt_of x))
    (ap (λ ys. types_in_stmts (stmts_of ys)) (turn xs i x lt is))

pub givens_turn : (a : Around) (f : Found) (xs : List GivenNode) (i : ℕ) (x : GivenNode) → i < length xs → x ≡ get_or xs i x
    → met a (met a f (types_in_expr (expr_of x.value))) (flat_map types_in_given (map given_of (drop (i + 1) xs)))
    ≡ met a f (flat_map types_in_given (map given_of (drop i xs)))
givens_turn = flat_turn types_in_given given_of

pub fields_turn : (a : Around) (f : Found) (xs : List FieldNode) (i : ℕ) (x : FieldNode) → i < length xs → x ≡ get_or xs i x
    → met a (met a f (types_in_field (field_of x))) (flat_map types_in_field (map field_of (drop (i + 1) xs)))
    ≡ met a f (flat_map types_in_field (map field_of (drop i xs)))
fields_turn = flat_turn types_in_field field_of

pub formals_turn : (a : Around) (f : Found) (xs : List FormalNode) (i : ℕ) (x : FormalNode) → i < length xs
    → x ≡ get_or xs i x
    → met a (met a f (types_in_formal (formal_of x))) (flat_map types_in_formal (map formal_of (drop (i + 1) xs)))
    ≡ met a f (flat_map types_in_formal (map formal_of (drop i xs)))
formals_turn = flat_turn types_in_formal formal_of

pub listed_turn : (a : Around) (f : Found) (xs : List ListedNode) (i : ℕ) (x : ListedNode) → i < length xs
    → x ≡ get_or xs i x
    → met a (met a f (types_in_listed (listed_of x))) (flat_map types_in_listed (map listed_of (drop (i + 1) xs)))
    ≡ met a f (flat_map types_in_listed (map listed_of (drop i xs)))
listed_turn = flat_turn types_in_listed listed_of

pub members_turn : (a : Around) (f : Found) (xs : List Member) (i : ℕ) (x : Member) → i < length xs → x ≡ get_or xs i x
    → met a (met a f (types_in_member (member_of x))) (flat_map types_in_member (map member_of (drop (i + 1) xs)))
    ≡ met a f (flat_map types_in_member (map member_of (drop i xs)))
members_turn = flat_turn types_in_member member_of

-- types of three and of four parts

pub met_three : (a : Around) (f : Found) (us vs ws : List Use)
    → met a (met a (met a f us) vs) ws ≡ met a f (us ++ vs ++ ws)
met_three a f us vs ws =
    sym (met-append a f (us ++ vs) ws ∙ ap (λ g. met a g ws) (met-append a f us vs))

pub met_four : (a : Around) (f : Found) (us vs ws xs : List Use)
    → met a (met a (met a (met a f us) vs) ws) xs ≡ met a f (us ++ vs ++ ws ++ xs)
met_four a f us vs ws xs =
    ap (λ g. met a g xs) (met_three a f us vs ws) ∙ sym (met-append a f (us ++ vs ++ ws) xs)

-- the types of an `if`
pub if_met : (a : Around) (f : Found) (statement : Stmt) (condition : Expr) (then : Block) (otherwise : Option Block)
    (span : Span) → statement ≡ If condition then otherwise span
    → met a (met a (met a f (types_in_expr (expr_of condition))) (types_in_block (block_of then)))
    (types_in_else (else_of otherwise))
    ≡ met a f (types_in_stmt (stmt_of statement))
if_met a f statement condition then otherwise span is =
    met_three a f (types_in_expr (expr_of condition)) (types_in_block (block_of then)) (types_in_else (else_of otherwise))
    ∙ sym (ap (λ s. met a f (types_in_stmt s)) (ap stmt_of is ∙ stmt_of-If condition then otherwise span))

pub ruleset turns = (met-append, args_turn, stmts_turn, givens_turn, fields_turn, formals_turn, listed_turn, members_turn)
