-- Sites of expressions and statements that are noted one after another.
use Rattle.std.proofs.Common.{◌≡◌, ℕ, List, [], ◌∷◌, length, get_or, drop, ◌<◌, ◌+◌, ◌≤◌, min, ◌⊎◌, inl, inr, Option, Some, None, suc, refl, ap, sym, ◌∙◌, add-one, drop-cons, arith, option_map}
use Rattle.std.specs.Option.{option_map_or}
use Rattle.std.proofs.lemmas.List.{length-map, drop_all}
use Rattle.ob_base.specs.declared.fault.ProgramFault.{ProgramFault}
use Rattle.ob_base.specs.declared.fault.Span.{Span}
use Rattle.ob_tree.specs.Exprs.{Exprs, no_exprs, and_expr}
use Rattle.ob_tree.specs.ExprsView.{expr_of, exprs_of}
use Rattle.ob_tree.specs.declared.expr.Expr.{Expr}
use Rattle.ob_tree.specs.Members.{Formal}
use Rattle.ob_resolve_spec.specs.Declarations.{Transaction, Constructor, params_of}
use Rattle.ob_resolve_spec.specs.declared.kind.InferredKind.{InferredKind}
use Rattle.ob_resolve_spec.specs.Kinds.{kind_of_type, kinds_of_params}
use Rattle.ob_resolve_spec.specs.Scopes.{AroundBody, Scope}
use Rattle.ob_resolve_spec.specs.Sites.{Site, passes_arguments}
use Rattle.ob_resolve_spec.specs.ExpressionSites.{count_args, needed_args, passing_sites, expr_sites, args_sites}
use Rattle.ob_resolve_scope.specs.Members.{heading_of}
use Rattle.ob_resolve_sites.specs.Noted.{noted, noted-append}
use Rattle.ob_resolve_scope.specs.declared.members.Heading.{Heading}
use Rattle.ob_resolve_sites.proofs.NamingLemmas.{naming}

pub count_args-exprs_of : (es : List Expr) → count_args (exprs_of es) ≡ length es
count_args-exprs_of [] = refl
count_args-exprs_of (e ∷ es) = grind (arith, count_args-exprs_of es)

-- a loop's turn: the expressions from a place on are the one there, and those after it
pub exprs_of-drop : (es : List Expr) (i : ℕ) (e : Expr) → i < length es → e ≡ get_or es i e
    → exprs_of (drop i es) ≡ and_expr (expr_of e) (exprs_of (drop (i + 1) es))
exprs_of-drop es i e h is =
    rw (add-one, drop-cons es i e) (ap (λ x. and_expr (expr_of x) (exprs_of (drop (suc i) es))) (sym is))

pub args_turn : (a : AroundBody) (s : Scope) (l : Option ProgramFault) (es : List Expr) (i : ℕ) (e : Expr) → i < length es
    → e ≡ get_or es i e
    → noted (noted l (expr_sites a s (expr_of e))) (args_sites a s (exprs_of (drop (i + 1) es)))
    ≡ noted l (args_sites a s (exprs_of (drop i es)))
args_turn a s l es i e h is =
    sym (noted-append l (expr_sites a s (expr_of e)) (args_sites a s (exprs_of (drop (i + 1) es))))
    ∙ ap (λ x. noted l (args_sites a s x)) (sym (exprs_of-drop es i e h is))

no_args : (a : AroundBody) (s : Scope) (l : Option ProgramFault) (ks : List InferredKind)
    → noted l (needed_args a s ks no_exprs) ≡ l
no_args a s l [] = refl
no_args a s l (k ∷ ks) = refl

least_of : (m n k : ℕ) → k ≡ min m n → (m ≤ k) ⊎ (n ≤ k)
least_of m n k e = grind (arith, e)

-- after as many arguments as there are parameters, or the reverse
pub needed_end : (a : AroundBody) (s : Scope) (l : Option ProgramFault) (ks : List InferredKind) (es : List Expr) (n : ℕ)
    → n ≡ min (length ks) (length es) → noted l (needed_args a s (drop n ks) (exprs_of (drop n es))) ≡ l
needed_end a s l ks es n e = by (least_of (length ks) (length es) n e)
  where
    by : (length ks ≤ n) ⊎ (length es ≤ n) → noted l (needed_args a s (drop n ks) (exprs_of (drop n es))) ≡ l
    by (inl h) = rw (drop_all n ks h) refl
    by (inr h) = rw (drop_all n es h) (no_args a s l (drop n ks))

-- the arguments at parameters of these kinds
abbrev passed_sites : AroundBody → Scope → Span → List InferredKind → Exprs → List Site
passed_sites a s span kinds es = passes_arguments (count_args es) (length kinds) span ∷ needed_args a s kinds es

passes_params : (a : AroundBody) (s : Scope) (l : Option ProgramFault) (span : Span) (params : List Formal) (es : Exprs)
    → noted l (passed_sites a s span (kinds_of_params a.program params) es)
    ≡ noted l (passing_sites a s span (Some params) es)
passes_params a s l span params es =
    ap (λ n. noted l (passes_arguments (count_args es) n span ∷ needed_args a s (kinds_of_params a.program params) es))
    (length-map (params_of params) (λ p. kind_of_type a.program p.of))

-- the arguments of a call, by the kinds of the parameters
pub passing_called : (a : AroundBody) (s : Scope) (l : Option ProgramFault) (span : Span) (o : Option Transaction)
    (h : Option Heading) (es : Exprs) → h ≡ option_map (heading_of a.program) o
    → noted l (option_map_or (λ (h : Heading). passed_sites a s span h.params es) h [])
    ≡ noted l (passing_sites a s span (option_map (λ t. t.params) o) es)
passing_called a s l span None h es e = rw e refl
passing_called a s l span (Some t) h es e = rw e (passes_params a s l span t.params es)

-- the same of `new`
pub passing_constructed : (a : AroundBody) (s : Scope) (l : Option ProgramFault) (span : Span) (o : Option Constructor)
    (h : Option (List InferredKind)) (es : Exprs) → h ≡ option_map (λ m. kinds_of_params a.program m.params) o
    → noted l (option_map_or (λ kinds. passed_sites a s span kinds es) h [])
    ≡ noted l (passing_sites a s span (option_map (λ m. m.params) o) es)
passing_constructed a s l span None h es e = rw e refl
passing_constructed a s l span (Some m) h es e = rw e (passes_params a s l span m.params es)

pub ruleset walks = (naming, count_args-exprs_of, args_turn, passing_called, passing_constructed)
