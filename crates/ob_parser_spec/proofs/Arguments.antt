-- The laws of arguments.
use Rattle.std.proofs.Common.{ℕ, ◌≡◌, ◌-◌, ◌≤◌, true, false, List, [], ◌∷◌, ◌++◌, Option, Some, None, refl, ap}
use Rattle.ob_lexer.specs.declared.token.Sign.TheVariants as sign'
use Rattle.ob_tree.specs.Exprs.{Expr, Exprs, no_exprs, and_expr, exprs}
use Rattle.ob_parser_spec.specs.Rows.{Loaded, maybe, each, parted}
use Rattle.ob_parser_spec.specs.ExprRows.{arguments, more_arguments, expr}
use Rattle.ob_parser_spec.specs.Readers.{Reader, read_as}
use Rattle.ob_parser_spec.specs.NameReaders.{on}
use Rattle.ob_parser_spec.specs.Chains.{Counted}
use Rattle.ob_parser_spec.specs.Primaries.{expr_first, uncounted, arguments_of, read_arguments, read_applied}
use Rattle.ob_parser_spec.proofs.Laws.{SpellsAsWell, Sample, Laws, disjoint}
use Rattle.ob_parser_spec.proofs.Mapped.{Makes}
use Rattle.ob_parser_spec.proofs.TokenRows.{grouped, ungrouped}
use Rattle.ob_parser_spec.proofs.RowLaws.{option_laws, made, makes_laws}
use Rattle.ob_parser_spec.proofs.Lists.{in_signs, counted_laws, after_sign, parted_laws}
use Rattle.ob_parser_spec.proofs.Chains.{at_level}

-- ---- an expression, without the count of its operators

expr_makes : Makes uncounted (at_level 1) expr
expr_makes = record { to = λ c read is. (c.1, is); from = λ e read is. ((e, is.0), refl, is.1) }

pub expr_laws : (room : ℕ) (inner : Reader Counted) (first more : List ℕ) → Laws room (at_level 1) inner first more false → Laws room expr (read_as uncounted inner) first more false
expr_laws room inner first more a = makes_laws expr_makes a

-- ---- arguments

more_to : (es : List Expr) (read : List Loaded) → each (after_sign sign'.Comma expr) es read → more_arguments (exprs es) read
more_to [] read is = is
more_to (e ∷ es) read is = let g = grouped is in (g.0, g.1, g.2, g.3, (g.4.0, g.4.1, g.4.2, g.4.3, more_to es g.4.1 g.4.4))

args_to : (o : Option (List Expr)) (read : List Loaded) → maybe (parted sign'.Comma expr) o read → arguments (arguments_of o) read
args_to None read is = is
args_to (Some []) read is = elim is [ ]
args_to (Some (e ∷ es)) read is = (is.0, is.1, is.2, is.3, more_to es is.1 is.4)

-- the expressions in their order, as a list
abbrev list_of : Exprs → List Expr
list_of no_exprs = []
list_of (and_expr e es) = e ∷ list_of es

listed : (es : Exprs) → es ≡ exprs (list_of es)
listed no_exprs = refl
listed (and_expr e es) = ap (and_expr e) (listed es)

more_from : (es : Exprs) (read : List Loaded) → more_arguments es read → each (after_sign sign'.Comma expr) (list_of es) read
more_from no_exprs read is = is
more_from (and_expr e es) read is = let g = ungrouped is in (g.0, g.1, g.2, g.3, more_from es g.1 g.4)

args_from : SpellsAsWell arguments (made arguments_of (maybe (parted sign'.Comma expr)))
args_from no_exprs read is = (None, refl, is)
args_from (and_expr e es) read is = (Some (e ∷ list_of es), ap (and_expr e) (listed es), (is.0, is.1, is.2, is.3, more_from es is.1 is.4))

args_makes : Makes arguments_of (maybe (parted sign'.Comma expr)) arguments
args_makes = record { to = args_to; from = args_from }

module _ (room : ℕ) (inner : Reader Counted) (more : List ℕ) (a : Laws room (at_level 1) inner expr_first more false) (apart : disjoint (on sign'.Comma) more ≡ true) where
  pub args_laws : Laws room arguments (read_arguments inner) expr_first ((more ++ on sign'.Comma) ++ expr_first) true
  args_laws = makes_laws args_makes (option_laws (parted_laws sign'.Comma room expr (read_as uncounted inner) expr_first more (makes_laws expr_makes a) apart))

arguments_sample : Sample arguments
arguments_sample = record { value = no_exprs; read = []; spelled = refl }

module _ (room : ℕ) (inner : ℕ → Reader Counted) (more : List ℕ) (a : 1 ≤ room → Laws (room - 1) (at_level 1) (inner (room - 1)) expr_first more false)
    (apart : disjoint (on sign'.Comma) more ≡ true) (closes : disjoint (on sign'.CloseParen) ((more ++ on sign'.Comma) ++ expr_first) ≡ true) where
  pub applied_laws : Laws room (in_signs sign'.OpenParen arguments sign'.CloseParen) (read_applied inner room) (on sign'.OpenParen) [] false
  applied_laws =
      counted_laws sign'.OpenParen sign'.CloseParen room arguments (λ r. read_arguments (inner r)) expr_first ((more ++ on sign'.Comma) ++ expr_first) true
      arguments_sample (λ some. args_laws (room - 1) (inner (room - 1)) more (a some) apart) closes
