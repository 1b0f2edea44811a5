-- No part of a body is lost on the way to plain data.
use Rattle.std.proofs.Common.{◌≡◌, List, [], ◌∷◌, Some, None, map, ap, sym, ◌∙◌, refl, subst}
use Rattle.ob_table.specs.ExpressionsView.{expression_of}
use Rattle.ob_table.specs.ExpressionsBack.{expression_back}
use Rattle.ob_table.specs.StatementsView.{given_field_of, statement_of, resolved_block_of, statements_of, resolved_body_of, statement_of-Declare, statement_of-Assign, statement_of-Stage, statement_of-Change, statement_of-Call, statement_of-Test, statement_of-If, statement_of-While, statement_of-Return, statement_of-Revert, statement_of-Disown, statement_of-Assert, resolved_block_of-fields}
use Rattle.ob_table.specs.StatementsBack.{given_field_back, statement_back, block_back, statements_back, body_back, option_there, list_there}
use Rattle.ob_table.proofs.ExpressionsLost.{expression_back-of}
use Rattle.ob_table.specs.declared.body.Body.{Body}
use Rattle.ob_table.specs.declared.stmt.ResolvedGiven.{ResolvedGiven}
use Rattle.ob_table.specs.declared.stmt.ResolvedBlock.{ResolvedBlock, ResolvedBlock-F, map-ResolvedBlock, roll-ResolvedBlock}
use Rattle.ob_table.specs.declared.stmt.ResolvedStmt as made
use Rattle.ob_table.specs.declared.stmt.ResolvedStmt.TheOpen as open'
use Rattle.ob_table.specs.declared.stmt.ResolvedStmt.TheVariants.{rolls-Declare, rolls-Assign, rolls-Stage, rolls-Change, rolls-Call, rolls-Test, rolls-If, rolls-While, rolls-Return, rolls-Revert, rolls-Disown, rolls-Assert}

given_field_back-of : (node : ResolvedGiven) → given_field_back (given_field_of node) ≡ node
given_field_back-of node = ap (λ value. record { field = node.field; span = node.span; value = value }) (expression_back-of node.value)

abbrev IsBack : made.ResolvedStmt → Type 0
IsBack node = statement_back (statement_of node) ≡ node

abbrev IsBlockBack : ResolvedBlock → Type 0
IsBlockBack node = block_back (resolved_block_of node) ≡ node

all_back : {A : Type 0} (f : A → made.ResolvedStmt) → ((a : A) → IsBack (f a)) → (nodes : List A) → statements_back (statements_of (map f nodes)) ≡ map f nodes
all_back f back [] = refl
all_back f back (a ∷ nodes) = ap (λ s. s ∷ statements_back (statements_of (map f nodes))) (back a) ∙ ap (λ ss. f a ∷ ss) (all_back f back nodes)

step : {A B : Type 0} (node : made.ResolvedStmt-F A B) (f : A → made.ResolvedStmt) (g : B → ResolvedBlock) → ((b : B) → IsBlockBack (g b)) → IsBack (made.roll-ResolvedStmt (made.map-ResolvedStmt A B made.ResolvedStmt ResolvedBlock f g node))
step (open'.Declare local name of value span) f g blocks =
    subst IsBack (sym (rolls-Declare local name of value span)) (ap statement_back (statement_of-Declare local name of value span) ∙ ap (λ e. made.Declare local name of e span) (expression_back-of value))
step (open'.Assign target value span) f g blocks =
    subst IsBack (sym (rolls-Assign target value span)) (ap statement_back (statement_of-Assign target value span) ∙ ap (λ e. made.Assign target e span) (expression_back-of value))
step (open'.Stage state given span) f g blocks =
    subst IsBack (sym (rolls-Stage state given span)) (ap statement_back (statement_of-Stage state given span) ∙ ap (λ x. made.Stage state x span) (given_field_back-of given))
step (open'.Change state given span) f g blocks =
    subst IsBack (sym (rolls-Change state given span)) (ap statement_back (statement_of-Change state given span) ∙ ap (λ xs. made.Change state xs span) (list_there given_field_of given_field_back given_field_back-of given))
step (open'.Call value span) f g blocks =
    subst IsBack (sym (rolls-Call value span)) (ap statement_back (statement_of-Call value span) ∙ ap (λ e. made.Call e span) (expression_back-of value))
step (open'.Test subject state then None span) f g blocks =
    subst IsBack (sym (rolls-Test subject state (g then) None span))
    (ap statement_back (statement_of-Test subject state (g then) None span) ∙ ap (λ b. made.Test subject state b None span) (blocks then))
step (open'.Test subject state then (Some block) span) f g blocks =
    subst IsBack (sym (rolls-Test subject state (g then) (Some (g block)) span))
    (ap statement_back (statement_of-Test subject state (g then) (Some (g block)) span) ∙ ap (λ b. made.Test subject state b (Some (block_back (resolved_block_of (g block)))) span) (blocks then) ∙ ap (λ b. made.Test subject state (g then) (Some b) span) (blocks block))
step (open'.If condition then None span) f g blocks =
    subst IsBack (sym (rolls-If condition (g then) None span))
    (ap statement_back (statement_of-If condition (g then) None span) ∙ ap (λ e. made.If e (block_back (resolved_block_of (g then))) None span) (expression_back-of condition) ∙ ap (λ b. made.If condition b None span) (blocks then))
step (open'.If condition then (Some block) span) f g blocks =
    subst IsBack (sym (rolls-If condition (g then) (Some (g block)) span))
    (ap statement_back (statement_of-If condition (g then) (Some (g block)) span) ∙ ap (λ e. made.If e (block_back (resolved_block_of (g then))) (Some (block_back (resolved_block_of (g block)))) span) (expression_back-of condition) ∙ ap (λ b. made.If condition b (Some (block_back (resolved_block_of (g block)))) span) (blocks then) ∙ ap (λ b. made.If condition (g then) (Some b) span) (blocks block))
step (open'.While condition body span) f g blocks =
    subst IsBack (sym (rolls-While condition (g body) span))
    (ap statement_back (statement_of-While condition (g body) span) ∙ ap (λ e. made.While e (block_back (resolved_block_of (g body))) span) (expression_back-of condition) ∙ ap (λ b. made.While condition b span) (blocks body))
step (open'.Return value span) f g blocks =
    subst IsBack (sym (rolls-Return value span)) (ap statement_back (statement_of-Return value span) ∙ ap (λ e. made.Return e span) (option_there expression_of expression_back expression_back-of value))
step (open'.Revert text span) f g blocks =
    subst IsBack (sym (rolls-Revert text span)) (ap statement_back (statement_of-Revert text span) ∙ ap (λ e. made.Revert e span) (option_there expression_of expression_back expression_back-of text))
step (open'.Disown subject span) f g blocks = subst IsBack (sym (rolls-Disown subject span)) (ap statement_back (statement_of-Disown subject span))
step (open'.Assert subject perm span) f g blocks = subst IsBack (sym (rolls-Assert subject perm span)) (ap statement_back (statement_of-Assert subject perm span))

block_step : {A B : Type 0} (node : ResolvedBlock-F A B) (f : A → made.ResolvedStmt) (g : B → ResolvedBlock) → ((a : A) → IsBack (f a)) → IsBlockBack (roll-ResolvedBlock (map-ResolvedBlock A B made.ResolvedStmt ResolvedBlock f g node))
block_step node f g back =
    ap block_back (resolved_block_of-fields (record { statements = map f node.statements; end = node.end }))
    ∙ ap (λ statements. record { statements = statements; end = node.end }) (all_back f back node.statements)

statement_back-of : (node : made.ResolvedStmt) → IsBack node
statement_back-of = made.ind-ResolvedStmt IsBack IsBlockBack
    (λ x y is. subst (λ z. IsBack (made.roll-ResolvedStmt z)) is (step y (λ e. e.0) (λ e. e.0) (λ e. e.1)))
    (λ x y is. subst (λ z. IsBlockBack (roll-ResolvedBlock z)) is (block_step y (λ e. e.0) (λ e. e.0) (λ e. e.1)))

statements_back-of : (nodes : List made.ResolvedStmt) → statements_back (statements_of nodes) ≡ nodes
statements_back-of [] = refl
statements_back-of (s ∷ ss) = ap (λ x. x ∷ statements_back (statements_of ss)) (statement_back-of s) ∙ ap (λ xs. s ∷ xs) (statements_back-of ss)

body_back-of : (body : Body) → body_back (resolved_body_of body) ≡ body
body_back-of body = ap (λ statements. record { contract = body.contract; tx = body.tx; statements = statements; end = body.end }) (statements_back-of body.statements)

pub resolved_body_of-injective : (a b : Body) → resolved_body_of a ≡ resolved_body_of b → a ≡ b
resolved_body_of-injective a b same = sym (body_back-of a) ∙ ap body_back same ∙ body_back-of b
