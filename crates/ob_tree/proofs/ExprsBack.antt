-- From plain data back to the expressions of a tree.
use Rattle.std.proofs.Common.{◌≡◌, List, [], ◌∷◌, map, ap, sym, ◌∙◌, refl, subst}
use Rattle.ob_tree.specs.Exprs.{Expr, number_expr, text_expr, bool_expr, name_expr, this_expr, unary_expr, binary_expr, call_expr, new_expr, Call, call_with, Exprs, no_exprs, and_expr}
use Rattle.ob_tree.specs.ExprsView.{expr_of, call_of, exprs_of, expr_of-Number, expr_of-Text, expr_of-Bool, expr_of-Name, expr_of-This, expr_of-Unary, expr_of-Binary, expr_of-Call, expr_of-New, call_of-fields}
use Rattle.ob_tree.proofs.NamesBack.{named_back, named_back-of}
use Rattle.ob_tree.specs.declared.expr.CallNode.{CallNode, CallNode-F, map-CallNode, roll-CallNode}
use Rattle.ob_tree.specs.declared.expr.Expr as made
use Rattle.ob_tree.specs.declared.expr.Expr.TheOpen as open'
use Rattle.ob_tree.specs.declared.expr.Expr.TheVariants.{rolls-Number, rolls-Text, rolls-Bool, rolls-Name, rolls-This, rolls-Unary, rolls-Binary, rolls-Call, rolls-New}

abbrev mutual
  pub expr_back : Expr → made.Expr
  expr_back (number_expr value span) = made.Number value span
  expr_back (text_expr value span) = made.Text value span
  expr_back (bool_expr value span) = made.Bool value span
  expr_back (name_expr name span) = made.Name name span
  expr_back (this_expr token span) = made.This token span
  expr_back (unary_expr operator sign operand span) = made.Unary operator sign (expr_back operand) span
  expr_back (binary_expr operator sign left right span) = made.Binary operator sign (expr_back left) (expr_back right) span
  expr_back (call_expr call span) = made.Call (call_back call) span
  expr_back (new_expr of args span) = made.New (named_back of) (exprs_back args) span

  pub call_back : Call → CallNode
  call_back (call_with receiver name args) = record { receiver = receiver; name = name; args = exprs_back args }

  pub exprs_back : Exprs → List made.Expr
  exprs_back no_exprs = []
  exprs_back (and_expr e es) = expr_back e ∷ exprs_back es

abbrev IsExprBack : made.Expr → Type 0
IsExprBack node = expr_back (expr_of node) ≡ node

abbrev IsCallBack : CallNode → Type 0
IsCallBack node = call_back (call_of node) ≡ node

all_back : {A : Type 0} (f : A → made.Expr) → ((a : A) → IsExprBack (f a)) → (nodes : List A) → exprs_back (exprs_of (map f nodes)) ≡ map f nodes
all_back f back [] = refl
all_back f back (a ∷ nodes) = ap (λ e. e ∷ exprs_back (exprs_of (map f nodes))) (back a) ∙ ap (λ es. f a ∷ es) (all_back f back nodes)

expr_step : {A B : Type 0} (node : made.Expr-F A B) (f : A → made.Expr) (g : B → CallNode) → ((a : A) → IsExprBack (f a)) → ((b : B) → IsCallBack (g b)) → IsExprBack (made.roll-Expr (made.map-Expr A B made.Expr CallNode f g node))
expr_step (open'.Number value span) f g back calls = subst IsExprBack (sym (rolls-Number value span)) (ap expr_back (expr_of-Number value span))
expr_step (open'.Text value span) f g back calls = subst IsExprBack (sym (rolls-Text value span)) (ap expr_back (expr_of-Text value span))
expr_step (open'.Bool value span) f g back calls = subst IsExprBack (sym (rolls-Bool value span)) (ap expr_back (expr_of-Bool value span))
expr_step (open'.Name name span) f g back calls = subst IsExprBack (sym (rolls-Name name span)) (ap expr_back (expr_of-Name name span))
expr_step (open'.This token span) f g back calls = subst IsExprBack (sym (rolls-This token span)) (ap expr_back (expr_of-This token span))
expr_step (open'.Unary operator sign operand span) f g back calls =
    subst IsExprBack (sym (rolls-Unary operator sign (f operand) span))
    (ap expr_back (expr_of-Unary operator sign (f operand) span) ∙ ap (λ e. made.Unary operator sign e span) (back operand))
expr_step (open'.Binary operator sign left right span) f g back calls =
    subst IsExprBack (sym (rolls-Binary operator sign (f left) (f right) span))
    (ap expr_back (expr_of-Binary operator sign (f left) (f right) span) ∙ ap (λ e. made.Binary operator sign e (expr_back (expr_of (f right))) span) (back left) ∙ ap (λ e. made.Binary operator sign (f left) e span) (back right))
expr_step (open'.Call call span) f g back calls =
    subst IsExprBack (sym (rolls-Call (g call) span)) (ap expr_back (expr_of-Call (g call) span) ∙ ap (λ c. made.Call c span) (calls call))
expr_step (open'.New of args span) f g back calls =
    subst IsExprBack (sym (rolls-New of (map f args) span))
    (ap expr_back (expr_of-New of (map f args) span) ∙ ap (λ n. made.New n (exprs_back (exprs_of (map f args))) span) (named_back-of of) ∙ ap (λ es. made.New of es span) (all_back f back args))

call_step : {A B : Type 0} (node : CallNode-F A B) (f : A → made.Expr) (g : B → CallNode) → ((a : A) → IsExprBack (f a)) → IsCallBack (roll-CallNode (map-CallNode A B made.Expr CallNode f g node))
call_step node f g back =
    ap call_back (call_of-fields (record { receiver = node.receiver; name = node.name; args = map f node.args }))
    ∙ ap (λ args. record { receiver = node.receiver; name = node.name; args = args }) (all_back f back node.args)

pub expr_back-of : (node : made.Expr) → IsExprBack node
expr_back-of = made.ind-Expr IsExprBack IsCallBack
    (λ x y is. subst (λ z. IsExprBack (made.roll-Expr z)) is (expr_step y (λ e. e.0) (λ e. e.0) (λ e. e.1) (λ e. e.1)))
    (λ x y is. subst (λ z. IsCallBack (roll-CallNode z)) is (call_step y (λ e. e.0) (λ e. e.0) (λ e. e.1)))

pub exprs_back-of : (nodes : List made.Expr) → exprs_back (exprs_of nodes) ≡ nodes
exprs_back-of [] = refl
exprs_back-of (e ∷ es) = ap (λ x. x ∷ exprs_back (exprs_of es)) (expr_back-of e) ∙ ap (λ xs. e ∷ xs) (exprs_back-of es)
