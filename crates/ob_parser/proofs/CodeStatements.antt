-- That the loops' rows of statements have tokens, and what statements answer that end with another row.
use Rattle.std.proofs.Common.{ℕ, ◌<◌, refl}
use Rattle.ob_lexer.specs.declared.token.Sign.TheVariants.{Arrow, Comma, Semicolon}
use Rattle.ob_parser_spec.specs.StmtRows.{given, stmt}
use Rattle.ob_parser_spec.specs.Symbols.{a_name, number}
use Rattle.ob_parser_spec.specs.NameReaders.{on, read_item}
use Rattle.ob_parser_spec.specs.StmtReaders.{read_given, stmt_first, read_stmt}
use Rattle.ob_parser_spec.specs.AllReaders.{all_refs, all_counted, all_exprs, all_branches, all_loops}
use Rattle.ob_parser_spec.proofs.Lists.{after_sign, item_laws}
use Rattle.ob_parser_spec.proofs.DepthLaws.{after_expr}
use Rattle.ob_parser_spec.proofs.GivenLaws.{given_laws}
use Rattle.ob_parser_spec.proofs.BlockLaws.{all_refs_laws, all_counted_laws, all_exprs_laws, all_after_laws, after_stmt, stmt_laws}
use Rattle.ob_parser_expressions.proofs.Loops.{Consumes, consumes}
use Rattle.std.proofs.Common.{◌≡◌, List, [], ◌∷◌, Result}
use Rattle.std.specs.Borrow.{Bor}
use Rattle.ob_base.specs.declared.fault.Span.{Span}
use Rattle.ob_lexer.specs.declared.token.Token.{Token}
use Rattle.ob_tree.specs.Stmts.{Local, declare_stmt, change_stmt}
use Rattle.ob_tree.specs.Exprs.{Expr}
use Rattle.ob_tree.specs.StmtsView.{stmt_of}
use Rattle.ob_tree.specs.declared.stmt.Stmt.{Stmt as StmtNode}
use Rattle.ob_tree.specs.declared.name.NamePart.{NamePart}
use Rattle.ob_parser_spec.specs.Readers.{Read, done, stop, deep, Reader, ◌>>=◌, name_if, span_between, read_token, read_both}
use Rattle.ob_parser_spec.specs.StmtReaders.{read_sign, declare_of, read_assigned, read_declare, read_all_given, change_of, read_change}
use Rattle.ob_parser_expressions.specs.Answering.{Answers}
use Rattle.ob_parser_expressions.specs.declared.halt.Halt.{Halt}

pub given_consumes : (room : ℕ) → room < 256 → Consumes (read_item Comma (read_given (all_exprs room)))
given_consumes room less =
    consumes room (after_sign Comma given) (read_item Comma (read_given (all_exprs room))) (on Comma) after_expr
    (item_laws Comma room given (read_given (all_exprs room)) (number a_name ∷ []) after_expr (given_laws room (all_exprs room) (all_exprs_laws room less)) refl)

pub stmt_consumes : (room : ℕ) → room < 256 → Consumes (read_stmt all_refs all_counted all_branches all_loops room)
stmt_consumes room less =
    consumes room stmt (read_stmt all_refs all_counted all_branches all_loops room) stmt_first after_stmt
    (stmt_laws 256 all_refs all_counted all_refs_laws all_counted_laws room all_branches all_loops less (all_after_laws room less))

-- ---- declarations

module _ {A B D : Type 0} (ts : List Token) (x : B) (make : (B × A) × Span → D) where
  -- a row after what has been read, with the place of both
  placed_after : (r : Read A) → (((r >>= (λ y rest. done (x, y) rest)) >>= (λ z rest. done (z, span_between ts rest) rest)) >>= (λ z rest. done (make z) rest)) ≡ (r >>= (λ y rest. done (make ((x, y), span_between ts rest)) rest))
  placed_after (done y rest) = refl
  placed_after (stop rest) = refl
  placed_after (deep rest) = refl

-- a declaration, of what stands after its type
pub declared_answer : (local : Reader Local) (expr : Reader Expr) (r : Result (StmtNode × Bor (List Token)) Halt) (ts mid : List Token) (of : Local) → local ts ≡ done of mid → Answers stmt_of r (read_both (read_token name_if) (read_assigned expr) mid >>= (λ parts left. done (declare_stmt of parts.0 parts.1 (span_between ts left)) left)) → Answers stmt_of r (read_declare local expr ts)
declared_answer local expr r ts mid of begins is = rw begins (rw (placed_after ts of declare_of (read_both (read_token name_if) (read_assigned expr) mid)) is)

-- ---- changes of state

module _ {A B C D : Type 0} (ts : List Token) (x : C) (y : B) (make : (C × (B × A)) × Span → D) where
  -- a row after two others, with the place of all
  placed_third : (r : Read A) → ((((r >>= (λ z rest. done (y, z) rest)) >>= (λ z rest. done (x, z) rest)) >>= (λ z rest. done (z, span_between ts rest) rest)) >>= (λ z rest. done (make z) rest)) ≡ (r >>= (λ z rest. done (make ((x, (y, z)), span_between ts rest)) rest))
  placed_third (done z rest) = refl
  placed_third (stop rest) = refl
  placed_third (deep rest) = refl

-- a change, of what stands after its state
pub changed_answer : (expr : Reader Expr) (r : Result (StmtNode × Bor (List Token)) Halt) (ts mid after : List Token) (arrow : Span) (state : NamePart) → read_sign Arrow ts ≡ done arrow mid → read_token name_if mid ≡ done state after → Answers stmt_of r (read_both (read_all_given expr) (read_sign Semicolon) after >>= (λ parts left. done (change_stmt state parts.0 (span_between ts left)) left)) → Answers stmt_of r (read_change expr ts)
changed_answer expr r ts mid after arrow state begins named is = rw (begins, named) (rw (placed_third ts arrow state change_of (read_both (read_all_given expr) (read_sign Semicolon) after)) is)
