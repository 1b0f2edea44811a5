-- To which terms statements may be lowered (this project's own). Each statement takes a unit of fuel first, and drops
-- its temporaries at its end. A `while` is one loop, each turn of which takes a unit.
use Rattle.std.specs.Prelude.{◌≡◌, ℕ, List, [], ◌∷◌, ◌++◌, Option, Some, None, if◌then◌else◌}
use Rattle.ob_base.specs.declared.fault.Span.{Span}
use Rattle.ob_table.specs.Expressions.{Expression}
use Rattle.ob_table.specs.Statements.{Statement, resolved_declare, resolved_assign, resolved_stage, resolved_change, resolved_discard, resolved_test, resolved_if, resolved_while, resolved_return, resolved_revert, resolved_disown, resolved_assert, Block, resolved_block, Otherwise, no_otherwise, otherwise_block, Statements, no_statements, and_statement}
use Rattle.ob_table.specs.declared.seen.Kind.{Kind}
use Rattle.ob_table.specs.declared.seen.SeenAt.{SeenAt}
use Rattle.ob_table_spec.specs.WellFormed.{StaticFrame, kind_of_seen, one_ends_there}
use Rattle.ob_silica.specs.Terms.{SilicaForm, const_form, change_form, test_form, if_form, loop_form, assert_form, disown_form, return_form, revert_form, SilicaTerms, no_terms, and_term, one_term, then_terms}
use Rattle.ob_silica.specs.declared.place.Constant.TheVariants.{Text as TextConstant}
use Rattle.ob_silica.specs.declared.place.Operand.{Operand}
use Rattle.ob_silica.specs.declared.place.Place.{Place}
use Rattle.ob_lower_spec.specs.Forms.{locals_of, place_seen, AroundExpression, operand, slot_operand, drops, set_slot, set_place, refused_at, block_end, join_of}
use Rattle.ob_lower_spec.specs.Points.{IsFree, drops_of, Temporary, span_of_terms, given_before, made_before, Point, passed, declares, used_at, inside, around}
use Rattle.ob_lower_spec.specs.ExpressionTerms.{Lowered, LoweredCall, kind_around, LowersExpression, LowersDiscarded}
use Rattle.ob_lower_spec.specs.GivenTerms.{with_unit, LoweredGiven, LowersGiven, LowersStage}

-- these terms, then the form, then its temporaries end
abbrev pub ended_by : Span → SilicaTerms → SilicaForm → List Temporary → SilicaTerms
ended_by span terms form made = then_terms terms (and_term form span (drops_of made span))

-- a name as an operand
abbrev pub IsNamed : AroundExpression → SeenAt → Operand → Type 0
IsNamed a seen o = (place : Place) × (place_seen a.variables seen.of ≡ Some place) × (o ≡ operand place seen.span)

-- a `return` with a value or with none
abbrev pub LowersReturn : AroundExpression → List ℕ → Option Expression → SilicaTerms → Type 0
LowersReturn a used None ts = ts ≡ one_term (return_form None) a.span
LowersReturn a used (Some e) ts =
    (x : Lowered) × LowersExpression a used e x
    × (ts ≡ then_terms x.terms (one_term (return_form (Some x.operand)) a.span))

-- a `revert`; without a text it has an empty one
abbrev pub LowersRevert : AroundExpression → List ℕ → Option Expression → SilicaTerms → Type 0
LowersRevert a used None ts =
    (k : ℕ) × IsFree k used
    × (ts ≡ and_term (const_form k (TextConstant [])) a.span (one_term (revert_form (slot_operand k a.span)) a.span))
LowersRevert a used (Some e) ts =
    (x : Lowered) × LowersExpression a used e x × (ts ≡ then_terms x.terms (one_term (revert_form x.operand) a.span))

-- the slots of a block's own variables are dropped where its end is reached, the last declared first
abbrev pub closing : Statements → List ℕ → Span → SilicaTerms
closing statements declared end = if one_ends_there statements then no_terms else drops declared end

-- what a turn of a `while` begins with: a unit, and the condition, whose temporaries end before it is used
abbrev pub turn_of : Span → Lowered → SilicaTerms
turn_of span condition = with_unit span (then_terms condition.terms (drops_of condition.made span))

abbrev mutual
  -- a statement with the statements after it: its terms, and the point after it
  pub LowersStatement : StaticFrame → Point → Statement → Statements → SilicaTerms → Point → Type 0
  LowersStatement f p (resolved_declare local name of value span) rest ts q =
      (k : ℕ) × IsFree k p.used
      × (x : Lowered) × LowersExpression (around f p span) (k ∷ p.used) value x
      × (ts ≡ with_unit span (ended_by span x.terms (set_slot of k x.operand) x.made))
      × (q ≡ declares p (record { local = local; kind = of; slot = k }))
  LowersStatement f p (resolved_assign target value span) rest ts q =
      (x : Lowered) × LowersExpression (around f p span) p.used value x
      × (kind : Kind) × (kind_of_seen f (locals_of p.variables) target.of ≡ Some kind)
      × (place : Place) × (place_seen p.variables target.of ≡ Some place)
      × (ts ≡ with_unit span (ended_by span x.terms (set_place kind place x.operand) x.made)) × (q ≡ passed p)
  LowersStatement f p (resolved_stage state given span) rest ts q =
      LowersStage f p p.row (refused_at state span rest) given span ts q
  LowersStatement f p (resolved_change state given span) rest ts q =
      (x : LoweredGiven) × LowersGiven (around f p (span_of_terms p.row span)) (used_at p) given x
      × (ts ≡ with_unit (span_of_terms p.row span) (ended_by (span_of_terms p.row span) x.terms
      (change_form state (given_before p.row ++ x.given)) (made_before p.row ++ x.made)))
      × (q ≡ passed p)
  LowersStatement f p (resolved_discard value span) rest ts q =
      (x : LoweredCall) × LowersDiscarded (around f p span) p.used (kind_around (around f p span) value) value x
      × (ts ≡ with_unit span (then_terms x.terms (drops_of x.made span))) × (q ≡ passed p)
  LowersStatement f p (resolved_test subject state branch other span) rest ts q =
      (o : Operand) × IsNamed (around f p span) subject o
      × (x : SilicaTerms) × LowersBlock f p branch x
      × (y : SilicaTerms) × LowersOtherwise f p other y
      × (ts ≡ with_unit span (one_term (test_form o state x y (join_of branch other)) span)) × (q ≡ passed p)
  LowersStatement f p (resolved_if condition branch other span) rest ts q =
      (c : Lowered) × LowersExpression (around f p span) p.used condition c
      × (x : SilicaTerms) × LowersBlock f p branch x
      × (y : SilicaTerms) × LowersOtherwise f p other y
      × (ts ≡ with_unit span (then_terms c.terms (then_terms (drops_of c.made span)
      (one_term (if_form c.operand x y (join_of branch other)) span))))
      × (q ≡ passed p)
  LowersStatement f p (resolved_while condition body span) rest ts q =
      (c : Lowered) × LowersExpression (around f p span) p.used condition c
      × (x : SilicaTerms) × LowersBlock f p body x
      × (ts ≡ one_term (loop_form (turn_of span c) c.operand x (block_end body)) (block_end body))
      × (q ≡ passed p)
  LowersStatement f p (resolved_return value span) rest ts q =
      (x : SilicaTerms) × LowersReturn (around f p span) p.used value x × (ts ≡ with_unit span x) × (q ≡ passed p)
  LowersStatement f p (resolved_revert text span) rest ts q =
      (x : SilicaTerms) × LowersRevert (around f p span) p.used text x × (ts ≡ with_unit span x) × (q ≡ passed p)
  LowersStatement f p (resolved_disown subject span) rest ts q =
      (o : Operand) × IsNamed (around f p span) subject o
      × (ts ≡ with_unit span (one_term (disown_form o) span)) × (q ≡ passed p)
  LowersStatement f p (resolved_assert subject perm span) rest ts q =
      (o : Operand) × IsNamed (around f p span) subject o
      × (ts ≡ with_unit span (one_term (assert_form o perm) span)) × (q ≡ passed p)

  -- statements: their terms, and the slots of the variables that they declare in this block, the last one first
  pub LowersStatements : StaticFrame → Point → Statements → SilicaTerms → List ℕ → Type 0
  LowersStatements f p no_statements ts declared = (ts ≡ no_terms) × (declared ≡ p.declared)
  LowersStatements f p (and_statement s rest) ts declared =
      (x : SilicaTerms) × (q : Point) × LowersStatement f p s rest x q
      × (y : SilicaTerms) × LowersStatements f q rest y declared
      × (ts ≡ then_terms x y)

  -- a block of its own
  pub LowersBlock : StaticFrame → Point → Block → SilicaTerms → Type 0
  LowersBlock f p (resolved_block statements end) ts =
      (x : SilicaTerms) × (declared : List ℕ) × LowersStatements f (inside p) statements x declared
      × (ts ≡ then_terms x (closing statements declared end))

  -- the block after `else`; where there is none, there are no terms
  pub LowersOtherwise : StaticFrame → Point → Otherwise → SilicaTerms → Type 0
  LowersOtherwise f p no_otherwise ts = ts ≡ no_terms
  LowersOtherwise f p (otherwise_block block) ts = LowersBlock f p block ts
