-- How expressions are read, a part at a time.
use Rattle.std.proofs.Common.{ℕ, ◌≡◌, ◌+◌, ◌-◌, ◌<◌, ◌≤◌, nat_le, Bool, true, false, cond, List, [], ◌∷◌, length, map, Result, Ok, Err, Option, Some, None, inl, inr, refl, sym, ap, ◌∙◌, arith}
use Rattle.std.proofs.lemmas.Bool.{cases_Bool, leb-true, leb-false}
use Rattle.std.specs.Borrow.{Bor}
use Rattle.ob_base.specs.declared.fault.Span.{Span}
use Rattle.ob_base.specs.declared.operator.Operator.{Operator}
use Rattle.ob_lexer.specs.declared.token.Token.{Token}
use Rattle.ob_lexer.specs.declared.token.Sign.TheVariants.{OpenParen, CloseParen, Comma}
use Rattle.ob_tree.specs.Exprs.{Expr, binary_expr, span_of_expr}
use Rattle.ob_tree.specs.ExprsView.{expr_of, exprs_of}
use Rattle.ob_tree.specs.declared.expr.Expr as made
use Rattle.ob_parser_spec.specs.Rows.{joined}
use Rattle.ob_parser_spec.specs.ExprRows.{expr}
use Rattle.ob_parser_spec.specs.Readers.{Read, done, stop, deep, Reader, ◌>>=◌, begin_with, and_after, open_if, read_opened, read_maybe, read_many_from, span_between}
use Rattle.ob_parser_spec.specs.NameReaders.{on, read_item, read_parted, read_counted}
use Rattle.ob_parser_spec.specs.Operators.{operator_if, signs_of_level}
use Rattle.ob_parser_spec.specs.Chains.{Counted, Step, count_after, with_step, with_steps, steps_of, maybe_of, read_step, read_chain, read_single}
use Rattle.ob_parser_spec.specs.ExprReaders.{unary_if, unary_signs, negated}
use Rattle.ob_parser_spec.specs.Primaries.{expr_first, grouped, read_group, arguments_of, read_arguments, read_primary}
use Rattle.ob_parser_spec.specs.AllReaders.{all_refs, all_unary, all_counted, all_exprs}
use Rattle.ob_parser_expressions.specs.declared.levels.Level.{Level}
use Rattle.ob_parser_expressions.specs.declared.levels.Level.TheVariants.{Or, And, Equality, Relation, Sum, Product}
use Rattle.ob_parser_expressions.specs.declared.halt.Halt.{Halt}
use Rattle.ob_parser_expressions.specs.declared.halt.Halt.TheVariants as halt
use Rattle.ob_parser_expressions.specs.Levels.{number_of_level, repeats, read_row, read_operand, read_further}
use Rattle.ob_parser_expressions.specs.Answering.{Halts, Answers, prefixed}
use Rattle.ob_parser_spec.proofs.Laws.{Laws, Case, is_done, is_stop, is_deep, case_of}
use Rattle.ob_parser_spec.proofs.Lists.{after_sign, item_laws}
use Rattle.ob_parser_spec.proofs.Chains.{at_level}
use Rattle.ob_parser_spec.proofs.ExprLaws.{after_operand, row_1, row_2, row_3, row_4, row_5, row_6}
use Rattle.ob_parser_spec.proofs.DepthLaws.{unary_all, after_expr}
use Rattle.ob_parser_spec.proofs.Arguments.{expr_laws}
use Rattle.ob_parser_spec.proofs.Deeper.{unary_step}
use Rattle.ob_parser_expressions.proofs.Halts.{halts_bind}
use Rattle.ob_parser_expressions.proofs.Loops.{Consumes, consumes, one_more_from, none_from, halts_from}

-- ---- operands have tokens

unary_laws : (r : ℕ) → r < 256 → Laws r (at_level 7) (all_unary r) expr_first after_operand false
unfolding all_unary
unary_laws r less = unary_all 256 r less

module _ (room : ℕ) (less : room < 256) where
  below : (r : ℕ) → r ≤ room → Laws r (at_level 7) (all_unary r) expr_first after_operand false
  below r few = unary_laws r (omega (arith, few, less))

  operand_consumes : (level : Level) → Consumes (read_operand level room)
  operand_consumes Or = consumes room (at_level 2) _ expr_first _ (row_2 expr_first all_unary room below room (omega arith))
  operand_consumes And = consumes room (at_level 3) _ expr_first _ (row_3 expr_first all_unary room below room (omega arith))
  operand_consumes Equality = consumes room (at_level 4) _ expr_first _ (row_4 expr_first all_unary room below room (omega arith))
  operand_consumes Relation = consumes room (at_level 5) _ expr_first _ (row_5 expr_first all_unary room below room (omega arith))
  operand_consumes Sum = consumes room (at_level 6) _ expr_first _ (row_6 expr_first all_unary room below room (omega arith))
  operand_consumes Product = consumes room (at_level 7) _ expr_first _ (below room (omega arith))

module _ {A B : Type 0} (more room : ℕ) (p : ℕ → Reader B) where
  fewer_after : (x : A) (t : Token) (ts : List Token) (y : A × B) (rest : List Token) → Consumes (p (room - more)) → Case (p (room - more) ts) → (p (room - more) ts >>= (λ z left. done (x, z) left)) ≡ done y rest → length rest < length (t ∷ ts)
  fewer_after x t ts y rest c (is_stop left e) is = absurd (let wrong : stop left ≡ done y rest = ap (λ r. r >>= (λ z l. done (x, z) l)) (sym e) ∙ is in cc)
  fewer_after x t ts y rest c (is_deep left e) is = absurd (let wrong : deep left ≡ done y rest = ap (λ r. r >>= (λ z l. done (x, z) l)) (sym e) ∙ is in cc)
  fewer_after x t ts y rest c (is_done z mid e) is =
      let same : done (x, z) mid ≡ done y rest = ap (λ r. r >>= (λ z l. done (x, z) l)) (sym e) ∙ is in
      let left : mid ≡ rest = cc in
      let fewer : length mid < length ts = c.fewer ts z mid e in
      rw (← left) (omega (arith, fewer))

  fewer_in : (o : Option A) (t : Token) (ts : List Token) (y : A × B) (rest : List Token) → Consumes (p (room - more)) → open_if o more room p t ts ≡ done y rest → length rest < length (t ∷ ts)
  fewer_in None t ts y rest c is = absurd cc
  fewer_in (Some x) t ts y rest c is = elim (cases_Bool (nat_le more room)) [
    | inl does ↦ fewer_after x t ts y rest c (case_of (p (room - more) ts)) (rw does at is)
    | inr fails ↦ absurd (let wrong : deep (t ∷ ts) ≡ done y rest = rw fails at is in cc)
  ]

  fewer_opened : (f : Token → Option A) (ts : List Token) (y : A × B) (rest : List Token) → Consumes (p (room - more)) → read_opened f more room p ts ≡ done y rest → length rest < length ts
  fewer_opened f [] y rest c is = absurd cc
  fewer_opened f (t ∷ ts) y rest c is = fewer_in (f t) t ts y rest c is

step_consumes : (level : Level) (room : ℕ) → room < 256 → (n : ℕ) → Consumes (read_step (operator_if (number_of_level level)) (read_operand level) room n)
step_consumes level room less n = record {
  fewer = λ ts y rest is. fewer_opened (n + 1) room (read_operand level) (operator_if (number_of_level level)) ts y rest (operand_consumes (room - (n + 1)) (omega (arith, less)) level) is;
}

-- how many tokens are left after an operator and its operand
pub fewer_left : (level : Level) (room : ℕ) → room < 256 → (ts rest : List Token) (x : Step) → read_opened (operator_if (number_of_level level)) 1 room (read_operand level) ts ≡ done x rest → length rest < length ts
fewer_left level room less ts rest x is = fewer_opened 1 room (read_operand level) (operator_if (number_of_level level)) ts x rest (operand_consumes (room - 1) (omega (arith, less)) level) is

pub fewer_extended : (level : Level) (room : ℕ) → room < 256 → (ts rest : List Token) (c : Counted) (left : Expr) → Case (read_opened (operator_if (number_of_level level)) 1 room (read_operand level) ts) → (read_opened (operator_if (number_of_level level)) 1 room (read_operand level) ts >>= (λ x after. done (with_step (left, 0) x) after)) ≡ done c rest → length rest < length ts
fewer_extended level room less ts rest c left (is_done x mid e) is =
    let both : done (with_step (left, 0) x) mid ≡ done c rest = ap (λ r. r >>= (λ y after. done (with_step (left, 0) y) after)) (sym e) ∙ is in
    let same : mid ≡ rest = cc in
    rw (← same) (fewer_left level room less ts mid x e)
fewer_extended level room less ts rest c left (is_stop mid e) is = absurd (let wrong : stop mid ≡ done c rest = ap (λ r. r >>= (λ y after. done (with_step (left, 0) y) after)) (sym e) ∙ is in cc)
fewer_extended level room less ts rest c left (is_deep mid e) is = absurd (let wrong : deep mid ≡ done c rest = ap (λ r. r >>= (λ y after. done (with_step (left, 0) y) after)) (sym e) ∙ is in cc)

-- an argument after a comma
argument_laws : (room : ℕ) → room < 256 → Laws room expr (all_exprs room) expr_first after_expr false
argument_laws room less = expr_laws room (all_counted room) expr_first after_expr (row_1 expr_first all_unary room (below room less) room (omega arith))

pub expr_item : (room : ℕ) → room < 256 → Consumes (read_item Comma (all_exprs room))
expr_item room less = consumes room (after_sign Comma expr) (read_item Comma (all_exprs room)) (on Comma) after_expr (item_laws Comma room expr (all_exprs room) expr_first after_expr (argument_laws room less) refl)

-- ---- an operator after others, in the room that they leave

tests_same : (n room : ℕ) (b c : Bool) → nat_le (n + 1) room ≡ b → nat_le 1 (room - n) ≡ c → b ≡ c
tests_same n room true true e f = refl
tests_same n room false false e f = refl
tests_same n room true false e f = absurd (omega (arith, leb-true (n + 1) room e, leb-false 1 (room - n) f))
tests_same n room false true e f = absurd (omega (arith, leb-false (n + 1) room e, leb-true 1 (room - n) f))

less_room : (room n : ℕ) → room - (n + 1) ≡ room - n - 1
less_room room n = omega arith

module _ (next : ℕ → Reader Counted) (room n : ℕ) where
  abbrev open_with : Bool → ℕ → Operator × Span → Token → List Token → Read Step
  open_with b left x t ts = cond b (next left ts >>= (λ y rest. done (x, y) rest)) (deep (t ∷ ts))

  step_in : (o : Option (Operator × Span)) (t : Token) (ts : List Token) → open_if o (n + 1) room next t ts ≡ open_if o 1 (room - n) next t ts
  step_in None t ts = refl
  step_in (Some x) t ts =
      ap (λ b. open_with b (room - (n + 1)) x t ts) (tests_same n room (nat_le (n + 1) room) (nat_le 1 (room - n)) refl refl)
      ∙ ap (λ left. open_with (nat_le 1 (room - n)) left x t ts) (less_room room n)

  step_is : (operator : Token → Option (Operator × Span)) (ts : List Token) → read_step operator next room n ts ≡ read_opened operator 1 (room - n) next ts
  step_is operator [] = refl
  step_is operator (t ∷ ts) = step_in (operator t) t ts

-- ---- a row of operators

put_after : (c : Counted) (r : Read (List Step)) → ((r >>= (λ y rest. done (c, y) rest)) >>= (λ x rest. done (steps_of x) rest)) ≡ (r >>= (λ x rest. done (with_steps c x) rest))
put_after c (done x rest) = refl
put_after c (stop rest) = refl
put_after c (deep rest) = refl

put_step : (c : Counted) (x : Step) (r : Read (List Step)) → (prefixed (x ∷ []) r >>= (λ y rest. done (with_steps c y) rest)) ≡ (r >>= (λ y rest. done (with_steps (with_step c x) y) rest))
put_step c x (done ys rest) = refl
put_step c x (stop rest) = refl
put_step c x (deep rest) = refl

module _ (level : Level) (room : ℕ) where
  abbrev kinds : List ℕ
  kinds = signs_of_level (number_of_level level)

  abbrev operator : Token → Option (Operator × Span)
  operator = operator_if (number_of_level level)

  abbrev step : ℕ → Reader Step
  step = read_step operator (read_operand level) room

  -- a row that repeats, from its first operand on
  pub row_begins : (ts mid : List Token) (c : Counted) → read_operand level room ts ≡ done c mid → read_chain kinds operator (read_operand level) room ts ≡ read_further level room c mid
  row_begins ts mid c e =
      ap (λ r. (r >>= and_after (λ d. read_many_from kinds step count_after d.1)) >>= (λ x rest. done (steps_of x) rest)) e
      ∙ put_after c (read_many_from kinds step count_after c.1 mid)

  pub row_goes_on : room < 256 → (before new : Expr) (n k : ℕ) (ts rest : List Token) (o : Operator) (s : Span) (right : Expr) (m : ℕ) (whole : Read Counted) → whole ≡ read_further level room (before, n) ts → begin_with kinds ts ≡ true → read_opened operator 1 (room - n) (read_operand level) ts ≡ done ((o, s), (right, m)) rest → new ≡ binary_expr o s before right (joined (span_of_expr before) (span_of_expr right)) → k ≡ n + (1 + m) → whole ≡ read_further level room (new, k) rest
  row_goes_on less before new n k ts rest o s right m whole same does e made count =
      let x : Step = ((o, s), (right, m)) in
      let is : step n ts ≡ done x rest = step_is (read_operand level) room n operator ts ∙ e in
      let more : k ≡ n + 1 + m = omega (arith, count) in
      same
      ∙ ap (λ r. r >>= (λ y left. done (with_steps (before, n) y) left)) (one_more_from kinds step count_after (step_consumes level room less) n ts x rest does is)
      ∙ put_step (before, n) x (read_many_from kinds step count_after (n + 1 + m) rest)
      ∙ ap (λ b. read_further level room (b, n + 1 + m) rest) (sym made)
      ∙ ap (λ j. read_further level room (new, j) rest) (sym more)

  -- an operation after its left operand
  abbrev extended : Expr → Read Step → Read Counted
  extended left r = r >>= (λ x rest. done (with_step (left, 0) x) rest)

  pub row_extended : room < 256 → (before new : Expr) (n k m : ℕ) (ts rest : List Token) (whole : Read Counted) → whole ≡ read_further level room (before, n) ts → begin_with kinds ts ≡ true → Case (read_opened operator 1 (room - n) (read_operand level) ts) → extended before (read_opened operator 1 (room - n) (read_operand level) ts) ≡ done (new, m) rest → k ≡ n + m → whole ≡ read_further level room (new, k) rest
  row_extended less before new n k m ts rest whole same does (is_done x mid e) is count =
      let both : done (with_step (before, 0) x) mid ≡ done (new, m) rest = ap (extended before) (sym e) ∙ is in
      let made : with_step (before, 0) x ≡ (new, m) = cc in
      let left : mid ≡ rest = cc in
      let many : 0 + 1 + x.1.1 ≡ m = ap (λ p. p.1) made in
      rw (← left) (row_goes_on less before new n k ts mid x.0.0 x.0.1 x.1.0 x.1.1 whole same does e (sym (ap (λ p. p.0) made)) (omega (arith, count, many)))
  row_extended less before new n k m ts rest whole same does (is_stop left e) is count = absurd (let wrong : stop left ≡ done (new, m) rest = ap (extended before) (sym e) ∙ is in cc)
  row_extended less before new n k m ts rest whole same does (is_deep left e) is count = absurd (let wrong : deep left ≡ done (new, m) rest = ap (extended before) (sym e) ∙ is in cc)

  -- and where no operator follows
  pub row_ends : (c : Counted) (ts : List Token) (whole : Read Counted) → whole ≡ read_further level room c ts → begin_with kinds ts ≡ false → whole ≡ done c ts
  row_ends c ts whole same fails = same ∙ ap (λ r. r >>= (λ y left. done (with_steps c y) left)) (none_from kinds step count_after c.1 ts fails)

  pub row_halts : (e : Halt) (c : Counted) (ts : List Token) (whole : Read Counted) → whole ≡ read_further level room c ts → begin_with kinds ts ≡ true → Halts e (read_opened operator 1 (room - c.1) (read_operand level) ts) → Halts e whole
  row_halts e c ts whole same does is =
      rw same (halts_bind e (read_many_from kinds step count_after c.1 ts) (λ y left. done (with_steps c y) left)
      (halts_from kinds step count_after c.1 ts e does (rw (step_is (read_operand level) room c.1 operator ts) is)))

  -- a row that doesn't repeat
  abbrev choose : Bool → Counted → List Token → Read (Option Step)
  choose b c mid = cond b (step c.1 mid >>= (λ x rest. done (Some x) rest)) (done None mid)

  abbrev put : Counted → Read (Option Step) → Read Counted
  put c r = (r >>= (λ y rest. done (c, y) rest)) >>= (λ x rest. done (maybe_of x) rest)

  single_begins : (ts mid : List Token) (c : Counted) (b : Bool) → read_operand level room ts ≡ done c mid → begin_with kinds mid ≡ b → read_single kinds operator (read_operand level) room ts ≡ put c (choose b c mid)
  single_begins ts mid c b e begins =
      ap (λ r. (r >>= and_after (λ d. read_maybe kinds (step d.1))) >>= (λ x rest. done (maybe_of x) rest)) e
      ∙ ap (λ v. put c (choose v c mid)) begins

  pub single_ends : (ts mid : List Token) (c : Counted) → read_operand level room ts ≡ done c mid → begin_with kinds mid ≡ false → read_single kinds operator (read_operand level) room ts ≡ done c mid
  single_ends ts mid c begins fails = single_begins ts mid c false begins fails

  pub single_goes_on : (left new : Expr) (n k : ℕ) (ts mid rest : List Token) (o : Operator) (s : Span) (right : Expr) (m : ℕ) → read_operand level room ts ≡ done (left, n) mid → begin_with kinds mid ≡ true → read_opened operator 1 (room - n) (read_operand level) mid ≡ done ((o, s), (right, m)) rest → new ≡ binary_expr o s left right (joined (span_of_expr left) (span_of_expr right)) → k ≡ n + 1 + m → read_single kinds operator (read_operand level) room ts ≡ done (new, k) rest
  single_goes_on left new n k ts mid rest o s right m begins does e made count =
      let x : Step = ((o, s), (right, m)) in
      let is : step n mid ≡ done x rest = step_is (read_operand level) room n operator mid ∙ e in
      single_begins ts mid (left, n) true begins does
      ∙ ap (λ r. put (left, n) (r >>= (λ y after. done (Some y) after))) is
      ∙ ap (λ b. done (b, n + 1 + m) rest) (sym made)
      ∙ ap (λ j. done (new, j) rest) (sym count)

  pub single_extended : (before new : Expr) (n k m : ℕ) (ts mid rest : List Token) → read_operand level room ts ≡ done (before, n) mid → begin_with kinds mid ≡ true → Case (read_opened operator 1 (room - n) (read_operand level) mid) → extended before (read_opened operator 1 (room - n) (read_operand level) mid) ≡ done (new, m) rest → k ≡ n + m → read_single kinds operator (read_operand level) room ts ≡ done (new, k) rest
  single_extended before new n k m ts mid rest begins does (is_done x after e) is count =
      let both : done (with_step (before, 0) x) after ≡ done (new, m) rest = ap (extended before) (sym e) ∙ is in
      let made : with_step (before, 0) x ≡ (new, m) = cc in
      let left : after ≡ rest = cc in
      let many : 0 + 1 + x.1.1 ≡ m = ap (λ p. p.1) made in
      rw (← left) (single_goes_on before new n k ts mid after x.0.0 x.0.1 x.1.0 x.1.1 begins does e (sym (ap (λ p. p.0) made)) (omega (arith, count, many)))
  single_extended before new n k m ts mid rest begins does (is_stop left e) is count = absurd (let wrong : stop left ≡ done (new, m) rest = ap (extended before) (sym e) ∙ is in cc)
  single_extended before new n k m ts mid rest begins does (is_deep left e) is count = absurd (let wrong : deep left ≡ done (new, m) rest = ap (extended before) (sym e) ∙ is in cc)

  pub single_halts : (e : Halt) (ts mid : List Token) (c : Counted) → read_operand level room ts ≡ done c mid → begin_with kinds mid ≡ true → Halts e (read_opened operator 1 (room - c.1) (read_operand level) mid) → Halts e (read_single kinds operator (read_operand level) room ts)
  single_halts e ts mid c begins does is =
      rw (single_begins ts mid c true begins does)
      (halts_bind e (choose true c mid >>= (λ y rest. done (c, y) rest)) (λ x rest. done (maybe_of x) rest)
      (halts_bind e (choose true c mid) (λ y rest. done (c, y) rest)
      (halts_bind e (step c.1 mid) (λ x rest. done (Some x) rest) (rw (step_is (read_operand level) room c.1 operator mid) is))))

-- which rows repeat
pub row_is_chain : (level : Level) (room : ℕ) (ts : List Token) → repeats level ≡ true → read_row level room ts ≡ read_chain (signs_of_level (number_of_level level)) (operator_if (number_of_level level)) (read_operand level) room ts
row_is_chain Or room ts is = refl
row_is_chain And room ts is = refl
row_is_chain Equality room ts is = absurd cc
row_is_chain Relation room ts is = absurd cc
row_is_chain Sum room ts is = refl
row_is_chain Product room ts is = refl

-- and which don't
pub row_is_single : (level : Level) (room : ℕ) (ts : List Token) → repeats level ≡ false → read_row level room ts ≡ read_single (signs_of_level (number_of_level level)) (operator_if (number_of_level level)) (read_operand level) room ts
row_is_single Or room ts is = absurd cc
row_is_single And room ts is = absurd cc
row_is_single Equality room ts is = refl
row_is_single Relation room ts is = refl
row_is_single Sum room ts is = absurd cc
row_is_single Product room ts is = absurd cc

-- ---- operands

module _ (room : ℕ) (less : room < 256) (ts : List Token) where
  abbrev negation : Reader ((Operator × Span) × Counted)
  negation = read_opened unary_if 1 room all_unary

  abbrev with_span : Read ((Operator × Span) × Counted) → Read (((Operator × Span) × Counted) × Span)
  with_span r = r >>= (λ x rest. done (x, span_between ts rest) rest)

  abbrev one_or_other : Bool → Read Counted
  one_or_other b = cond b (with_span (negation ts) >>= (λ x rest. done (negated x) rest)) (read_primary all_refs all_counted room ts)

  operand_is : (b : Bool) → begin_with unary_signs ts ≡ b → all_unary room ts ≡ one_or_other b
  operand_is b begins = unary_step room less ts ∙ ap one_or_other begins

  pub negation_halts : (e : Halt) → begin_with unary_signs ts ≡ true → Halts e (negation ts) → Halts e (all_unary room ts)
  negation_halts e does is =
      rw (operand_is true does)
      (halts_bind e (with_span (negation ts)) (λ x rest. done (negated x) rest)
      (halts_bind e (negation ts) (λ x rest. done (x, span_between ts rest) rest) is))

  pub negation_done : begin_with unary_signs ts ≡ true → (x : (Operator × Span) × Counted) (rest : List Token) → negation ts ≡ done x rest → all_unary room ts ≡ done (negated (x, span_between ts rest)) rest
  negation_done does x rest is = operand_is true does ∙ ap (λ r. with_span r >>= (λ y left. done (negated y) left)) is

  pub primary_is : begin_with unary_signs ts ≡ false → all_unary room ts ≡ read_primary all_refs all_counted room ts
  primary_is fails = operand_is false fails

-- ---- arguments

pub arguments_are : (room : ℕ) (ts : List Token) (result : Result (List made.Expr × Bor (List Token)) Halt) → begin_with expr_first ts ≡ true → Answers (map expr_of) result (read_parted Comma (all_exprs room) ts) → Answers exprs_of result (read_arguments (all_counted room) ts)
arguments_are room ts (Ok x) does is =
    ap (λ b. cond b (read_parted Comma (all_exprs room) ts >>= (λ y rest. done (Some y) rest)) (done None ts) >>= (λ y rest. done (arguments_of y) rest)) does
    ∙ ap (λ r. (r >>= (λ y rest. done (Some y) rest)) >>= (λ y rest. done (arguments_of y) rest)) is
arguments_are room ts (Err e) does is =
    rw does
    (halts_bind e (read_parted Comma (all_exprs room) ts >>= (λ y rest. done (Some y) rest)) (λ y rest. done (arguments_of y) rest)
    (halts_bind e (read_parted Comma (all_exprs room) ts) (λ y rest. done (Some y) rest) is))

-- ---- parentheses

module _ (room : ℕ) (ts : List Token) where
  abbrev between : Read Counted
  between = read_counted OpenParen room all_counted CloseParen ts

  pub group_halts : (e : Halt) → Halts e between → Halts e (read_group all_counted room ts)
  group_halts e is =
      halts_bind e (between >>= (λ x rest. done (x, span_between ts rest) rest)) (λ x rest. done (grouped x) rest)
      (halts_bind e between (λ x rest. done (x, span_between ts rest) rest) is)

  pub group_done : (c : Counted) (rest : List Token) → between ≡ done c rest → read_group all_counted room ts ≡ done (grouped (c, span_between ts rest)) rest
  group_done c rest is = ap (λ r. (r >>= (λ x left. done (x, span_between ts left) left)) >>= (λ x left. done (grouped x) left)) is

-- an operation after its left operand
pub extended_is : (r : Read Step) (left new : Expr) (o : Operator) (s : Span) (right : Expr) (m : ℕ) (rest : List Token) → r ≡ done ((o, s), (right, m)) rest → new ≡ binary_expr o s left right (joined (span_of_expr left) (span_of_expr right)) → (r >>= (λ x after. done (with_step (left, 0) x) after)) ≡ done (new, 1 + m) rest
extended_is r left new o s right m rest is made =
    let many : 0 + 1 + m ≡ 1 + m = omega arith in
    ap (λ q. q >>= (λ x after. done (with_step (left, 0) x) after)) is
    ∙ ap (λ b. done (b, 0 + 1 + m) rest) (sym made)
    ∙ ap (λ j. done (new, j) rest) many

-- something made of what isn't read
pub halts_back : {A B : Type 0} (e : Halt) (r : Read A) (f : A → B) → Halts e (r >>= (λ x rest. done (f x) rest)) → Halts e r
halts_back (halt.Expected left) (stop rest) f is = is
halts_back (halt.Expected left) (done x rest) f is = absurd cc
halts_back (halt.Expected left) (deep rest) f is = absurd cc
halts_back (halt.TooDeep left) (deep rest) f is = is
halts_back (halt.TooDeep left) (done x rest) f is = absurd cc
halts_back (halt.TooDeep left) (stop rest) f is = absurd cc
halts_back halt.Memory r f is = tt
