-- What ends a block ends it with numbers too.
use Rattle.std.proofs.Common.{◌≡◌, Bool, refl, ap, ◌∙◌}
use Rattle.std.specs.Prelude.{◌&&◌, ◌||◌}
use Rattle.ob_tree.specs.Stmts.{Stmt, declare_stmt, assign_stmt, stage_stmt, change_stmt, call_stmt, test_stmt, if_stmt, while_stmt, return_stmt, revert_stmt, disown_stmt, assert_stmt, Block, block_with, Else, no_else, else_with, Stmts, no_stmts, and_stmt}
use Rattle.ob_resolve_spec.specs.Scopes.{AroundBody, Scope, locals_in_block, past, after_stmt}
use Rattle.ob_resolve_spec.specs.Reached.{ends, block_ends, else_ends, one_ends}
use Rattle.ob_resolve_spec.specs.Bodies.{resolved_stmt, block_resolved, else_resolved, resolved_stmts}
use Rattle.ob_table_spec.specs.WellFormed.{ends_there, block_ends_there, other_ends_there, one_ends_there}

both_same : {a b c d : Bool} → a ≡ c → b ≡ d → (a && b) ≡ (c && d)
both_same {a} {b} {c} {d} e f = ap (λ x. x && b) e ∙ ap (λ x. c && x) f

either_same : {a b c d : Bool} → a ≡ c → b ≡ d → (a || b) ≡ (c || d)
either_same {a} {b} {c} {d} e f = ap (λ x. x || b) e ∙ ap (λ x. c || x) f

mutual
  pub ends_same : (a : AroundBody) (s : Scope) (x : Stmt) → ends_there (resolved_stmt a s x) ≡ ends x
  ends_same a s (return_stmt value span) = refl
  ends_same a s (revert_stmt text span) = refl
  ends_same a s (test_stmt subject state branch otherwise span) =
      both_same (block_ends_same a s branch) (else_ends_same a (past s (locals_in_block branch)) otherwise)
  ends_same a s (if_stmt condition branch otherwise span) =
      both_same (block_ends_same a s branch) (else_ends_same a (past s (locals_in_block branch)) otherwise)
  ends_same a s (while_stmt condition body span) = refl
  ends_same a s (declare_stmt of name value span) = refl
  ends_same a s (assign_stmt name value span) = refl
  ends_same a s (stage_stmt state field value span) = refl
  ends_same a s (change_stmt state given span) = refl
  ends_same a s (call_stmt value span) = refl
  ends_same a s (disown_stmt name span) = refl
  ends_same a s (assert_stmt subject perm span) = refl

  block_ends_same : (a : AroundBody) (s : Scope) (b : Block) → block_ends_there (block_resolved a s b) ≡ block_ends b
  block_ends_same a s (block_with statements end) = one_ends_same a s statements

  else_ends_same : (a : AroundBody) (s : Scope) (e : Else) → other_ends_there (else_resolved a s e) ≡ else_ends e
  else_ends_same a s no_else = refl
  else_ends_same a s (else_with block) = block_ends_same a s block

  pub one_ends_same : (a : AroundBody) (s : Scope) (xs : Stmts) → one_ends_there (resolved_stmts a s xs) ≡ one_ends xs
  one_ends_same a s no_stmts = refl
  one_ends_same a s (and_stmt x xs) = either_same (ends_same a s x) (one_ends_same a (after_stmt a s x) xs)
