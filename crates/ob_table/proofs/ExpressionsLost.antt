-- No part of an expression is lost on the way to plain data.
use Rattle.std.proofs.Common.{◌≡◌, List, [], ◌∷◌, map, ap, sym, ◌∙◌, refl, subst}
use Rattle.ob_base.specs.declared.fault.Span.{Span}
use Rattle.ob_table.specs.ExpressionsView.{expression_of, call_at_span, arguments_of, expression_of-Number, expression_of-Text, expression_of-Bool, expression_of-Seen, expression_of-Unary, expression_of-Binary, expression_of-Logical, expression_of-Call, expression_of-New, called-fields}
use Rattle.ob_table.specs.ExpressionsBack.{expression_back, arguments_back}
use Rattle.ob_table.specs.declared.expr.ResolvedCall.{ResolvedCall, ResolvedCall-F, map-ResolvedCall, roll-ResolvedCall}
use Rattle.ob_table.specs.declared.expr.ResolvedExpr as made
use Rattle.ob_table.specs.declared.expr.ResolvedExpr.TheOpen as open'
use Rattle.ob_table.specs.declared.expr.ResolvedExpr.TheVariants.{rolls-Number, rolls-Text, rolls-Bool, rolls-Seen, rolls-Unary, rolls-Binary, rolls-Logical, rolls-Call, rolls-New}

abbrev IsBack : made.ResolvedExpr → Type 0
IsBack node = expression_back (expression_of node) ≡ node

-- the same of a call, at each place
abbrev IsCallBack : ResolvedCall → Type 0
IsCallBack call = (span : Span) → expression_back (call_at_span call span) ≡ made.Call call span

all_back : {A : Type 0} (f : A → made.ResolvedExpr) → ((a : A) → IsBack (f a)) → (nodes : List A) → arguments_back (arguments_of (map f nodes)) ≡ map f nodes
all_back f back [] = refl
all_back f back (a ∷ nodes) = ap (λ e. e ∷ arguments_back (arguments_of (map f nodes))) (back a) ∙ ap (λ es. f a ∷ es) (all_back f back nodes)

step : {A B : Type 0} (node : made.ResolvedExpr-F A B) (f : A → made.ResolvedExpr) (g : B → ResolvedCall) → ((a : A) → IsBack (f a)) → ((b : B) → IsCallBack (g b)) → IsBack (made.roll-ResolvedExpr (made.map-ResolvedExpr A B made.ResolvedExpr ResolvedCall f g node))
step (open'.Number value span) f g back calls = subst IsBack (sym (rolls-Number value span)) (ap expression_back (expression_of-Number value span))
step (open'.Text value span) f g back calls = subst IsBack (sym (rolls-Text value span)) (ap expression_back (expression_of-Text value span))
step (open'.Bool value span) f g back calls = subst IsBack (sym (rolls-Bool value span)) (ap expression_back (expression_of-Bool value span))
step (open'.Seen seen span) f g back calls = subst IsBack (sym (rolls-Seen seen span)) (ap expression_back (expression_of-Seen seen span))
step (open'.Unary operator sign operand span) f g back calls =
    subst IsBack (sym (rolls-Unary operator sign (f operand) span))
    (ap expression_back (expression_of-Unary operator sign (f operand) span) ∙ ap (λ e. made.Unary operator sign e span) (back operand))
step (open'.Binary operator sign left right span) f g back calls =
    subst IsBack (sym (rolls-Binary operator sign (f left) (f right) span))
    (ap expression_back (expression_of-Binary operator sign (f left) (f right) span) ∙ ap (λ e. made.Binary operator sign e (expression_back (expression_of (f right))) span) (back left) ∙ ap (λ e. made.Binary operator sign (f left) e span) (back right))
step (open'.Logical operator sign left right span) f g back calls =
    subst IsBack (sym (rolls-Logical operator sign (f left) (f right) span))
    (ap expression_back (expression_of-Logical operator sign (f left) (f right) span) ∙ ap (λ e. made.Logical operator sign e (expression_back (expression_of (f right))) span) (back left) ∙ ap (λ e. made.Logical operator sign (f left) e span) (back right))
step (open'.Call call span) f g back calls =
    subst IsBack (sym (rolls-Call (g call) span)) (ap expression_back (expression_of-Call (g call) span) ∙ calls call span)
step (open'.New contract args span) f g back calls =
    subst IsBack (sym (rolls-New contract (map f args) span))
    (ap expression_back (expression_of-New contract (map f args) span) ∙ ap (λ es. made.New contract es span) (all_back f back args))

call_step : {A B : Type 0} (node : ResolvedCall-F A B) (f : A → made.ResolvedExpr) (g : B → ResolvedCall) → ((a : A) → IsBack (f a)) → IsCallBack (roll-ResolvedCall (map-ResolvedCall A B made.ResolvedExpr ResolvedCall f g node))
call_step node f g back span =
    ap expression_back (called-fields (record { receiver = node.receiver; contract = node.contract; tx = node.tx; name = node.name; args = map f node.args }) span)
    ∙ ap (λ args. made.Call (record { receiver = node.receiver; contract = node.contract; tx = node.tx; name = node.name; args = args }) span) (all_back f back node.args)

pub expression_back-of : (node : made.ResolvedExpr) → expression_back (expression_of node) ≡ node
expression_back-of = made.ind-ResolvedExpr IsBack IsCallBack
    (λ x y is. subst (λ z. IsBack (made.roll-ResolvedExpr z)) is (step y (λ e. e.0) (λ e. e.0) (λ e. e.1) (λ e. e.1)))
    (λ x y is. subst (λ z. IsCallBack (roll-ResolvedCall z)) is (call_step y (λ e. e.0) (λ e. e.0) (λ e. e.1)))
