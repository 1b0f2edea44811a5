-- The laws of operands with operators of one level between them.
use Rattle.std.proofs.Common.{ℕ, suc, ◌≡◌, ◌+◌, ◌-◌, ◌≤◌, ◌<◌, nat_le, true, false, List, [], ◌∷◌, ◌++◌, map, Option, Some, None, IsTrue, inl, inr, refl, sym, ap, subst, ◌∙◌, arith, append_assoc, append-nil}
use Rattle.std.proofs.lemmas.Bool.{cases_Bool, eqb-true, leb-true, leb-false, le-leb}
use Rattle.std.proofs.lemmas.List.{map-append}
use Rattle.ob_base.specs.declared.fault.Span.{Span}
use Rattle.ob_base.specs.declared.operator.Operator.{Operator}
use Rattle.ob_lexer.specs.declared.token.Token.{Token}
use Rattle.ob_lexer.specs.declared.token.TokenKind.TheVariants as kind
use Rattle.ob_tree.specs.Exprs.{Expr, unary_expr, binary_expr, span_of_expr}
use Rattle.ob_tree.specs.Operators.{sign_of_operator, level_of, left_span, level}
use Rattle.ob_parser_spec.specs.Rows.{Row, Loaded, Covers, ◌⨟◌, maybe, joined, token_at, raise, raised}
use Rattle.ob_parser_spec.specs.ExprRows.{spelled, placed}
use Rattle.ob_parser_spec.specs.Readers.{Reader, read_maybe, read_many_from}
use Rattle.ob_parser_spec.specs.Chains.{Counted, Step, count_after, with_step, with_steps, with_maybe, read_step, steps_of, maybe_of, read_chain, read_single}
use Rattle.ob_parser_spec.proofs.Laws.{Laws, disjoint, ends-again}
use Rattle.ob_parser_spec.proofs.One.{token_of, free, Takes}
use Rattle.ob_parser_spec.proofs.Both.{then, then_laws}
use Rattle.ob_parser_spec.proofs.Mapped.{Makes}
use Rattle.ob_parser_spec.proofs.Opened.{loaded_at, opened, opened_laws}
use Rattle.ob_parser_spec.proofs.Spanned.{covered}
use Rattle.ob_parser_spec.proofs.RowLaws.{option_laws, makes_laws, ends_laws}
use Rattle.ob_parser_spec.proofs.Each.{each_from, many_from_laws}

-- an expression where one of this level or of a tighter one stands
abbrev pub at_level : ℕ → Counted → Row
at_level row c = placed row c.0 (spelled c.0) c.1

-- which tokens are an operator of this level
pub record Operates (row : ℕ) (operator : Token → Option (Operator × Span)) : Type 0 where
  pub is : (t : Token) (o : Operator) (span : Span) → operator t ≡ Some (o, span) → (t ≡ token_of (kind.Sign (sign_of_operator o)) span) × (level_of o ≡ row)
  pub of : (o : Operator) (span : Span) → level_of o ≡ row → operator (token_of (kind.Sign (sign_of_operator o)) span) ≡ Some (o, span)

-- ---- places of rows put together

pub raises : (n : ℕ) (span : Span) (read : List Loaded) → Covers span read → Covers span (map (raise n) read)
raises n span read c = record {
  first = raise n c.first;
  others = map (raise n) c.others;
  begins = ap (map (raise n)) c.begins;
  before = map (raise n) c.before;
  last = raise n c.last;
  ends = ap (map (raise n)) c.ends ∙ map-append (raise n) c.before (c.last ∷ []);
  whole = c.whole;
}

one_span : (a b : Span) (read : List Loaded) → Covers a read → Covers b read → a ≡ b
one_span a b read p q = covered a read p ∙ sym (covered b read q)

-- a token between what has places
around_token : (a b : Span) (one other : List Loaded) (t : Loaded) → Covers a one → Covers b other → Covers (joined a b) (one ++ (t ∷ other))
around_token a b one other t p q = record {
  first = p.first;
  others = p.others ++ (t ∷ other);
  begins = ap (λ l. l ++ (t ∷ other)) p.begins;
  before = one ++ (t ∷ q.before);
  last = q.last;
  ends = ap (λ l. one ++ (t ∷ l)) q.ends ∙ sym (append_assoc one (t ∷ q.before) (q.last ∷ []));
  whole = ap (λ s. joined s b) p.whole ∙ ap (λ s. joined p.first.token.span s) q.whole;
}

-- ---- rows of one operator and its operands

row_up : (row n : ℕ) → IsTrue (nat_le (suc row) n) → IsTrue (nat_le row n)
row_up row n is = let more : suc row ≤ n = leb-true (suc row) n is in le-leb row n (omega (arith, more))

-- what stands where one of the next level does stands where one of this level does
pub lower : (row : ℕ) (c : Counted) (read : List Loaded) → at_level (suc row) c read → at_level row c read
lower row c read (cov, inl is) = (cov, inl (row_up row (level c.0) is.0, is.1))
lower row c read (cov, inr is) = (cov, inr is)

module _ (row : ℕ) (operator : Token → Option (Operator × Span)) (operates : Operates row operator) (few : row ≤ 6) where
  abbrev step : ℕ → Step → Row
  step n = opened operator (n + 1) (at_level (suc row))

  self : nat_le row row ≡ true
  self = le-leb row row (omega arith)

  six : nat_le row 6 ≡ true
  six = le-leb row 6 few

  -- one more operand after an expression
  stepped : (left : ℕ) (c : Counted) (x : Step) (front back : List Loaded) → left_span x.0.0 ≡ left → at_level left c front → step c.1 x back → at_level row (with_step c x) (front ++ back)
  stepped left c x front back same is is' =
      let t = is'.3.0 in
      let op = operates.is t x.0.0 x.0.1 is'.3.1 in
      let low = is'.4.0 in
      let begun : is'.0 ≡ loaded_at (c.1 + 1) t ∷ [] = is'.3.2 in
      let under : back ≡ loaded_at (c.1 + 1) t ∷ map (raise (c.1 + 1)) low = is'.2 ∙ ap (λ f. f ++ is'.1) begun ∙ ap (λ b. loaded_at (c.1 + 1) t ∷ b) is'.4.1 in
      let none : c.1 + 1 ≡ c.1 + 1 + 0 = omega arith in
      let raised' : back ≡ map (raise (c.1 + 1)) (free t ∷ low) = under ∙ ap (λ k. loaded_at k t ∷ map (raise (c.1 + 1)) low) none in
      let after = raises (c.1 + 1) (span_of_expr x.1.0) low is'.4.2.0 in
      let cov : Covers (joined (span_of_expr c.0) (span_of_expr x.1.0)) (front ++ back) =
      rw under (around_token (span_of_expr c.0) (span_of_expr x.1.0) front (map (raise (c.1 + 1)) low) (loaded_at (c.1 + 1) t) is.0 after) in
      let right : placed (suc (level_of x.0.0)) x.1.0 (spelled x.1.0) x.1.1 low = rw op.1 is'.4.2 in
      let sign : token_at (kind.Sign (sign_of_operator x.0.0)) x.0.1 (free t ∷ []) = ap (λ u. free u ∷ []) op.0 in
      let first : placed (left_span x.0.0) c.0 (spelled c.0) c.1 front = rw same is in
      (cov, inl (rw op.1 self, (rw op.1 six, (c.1, x.1.1, refl, (front, back, refl, first, (free t ∷ low, raised', (free t ∷ [], low, refl, sign, right)))))))

  -- ---- any number of operators, from left to right

  abbrev steps : ℕ → List Step → Row
  steps = each_from step count_after

  chained : ((o : Operator) → level_of o ≡ row → left_span o ≡ row) → (c : Counted) (xs : List Step) (front back : List Loaded) → at_level row c front → steps c.1 xs back →
      at_level row (with_steps c xs) (front ++ back)
  chained assoc c [] front back is none = rw none (rw (append-nil front) is)
  chained assoc c (x ∷ xs) front back is more =
      let op = operates.is more.3.3.0 x.0.0 x.0.1 more.3.3.1 in
      let one = stepped row c x front more.0 (assoc x.0.0 op.1) is more.3 in
      let parts : front ++ back ≡ (front ++ more.0) ++ more.1 = ap (λ b. front ++ b) more.2 ∙ sym (append_assoc front more.0 more.1) in
      rw parts (chained assoc (with_step c x) xs (front ++ more.0) more.1 one more.4)

  -- steps, and one more after them
  steps_snoc : (c : Counted) (xs : List Step) (x : Step) (one other : List Loaded) → steps c.1 xs one → step (with_steps c xs).1 x other → steps c.1 (xs ++ x ∷ []) (one ++ other)
  steps_snoc c [] x one other none is = (other, [], ap (λ l. l ++ other) none ∙ sym (append-nil other), is, refl)
  steps_snoc c (y ∷ ys) x one other more is =
      (more.0, more.1 ++ other, ap (λ l. l ++ other) more.2 ∙ append_assoc more.0 more.1 other, more.3, steps_snoc (with_step c y) ys x more.1 other more.4 is)

  with_snoc : (c : Counted) (xs : List Step) (x : Step) → with_steps c (xs ++ x ∷ []) ≡ with_step (with_steps c xs) x
  with_snoc c [] x = refl
  with_snoc c (y ∷ ys) x = with_snoc (with_step c y) ys x

  -- an expression taken apart into its first operand and the steps after it
  record Apart (c : Counted) (read : List Loaded) : Type 0 where
    first : Counted
    others : List Step
    is : c ≡ with_steps first others
    front : List Loaded
    back : List Loaded
    parts : read ≡ front ++ back
    operand : at_level (suc row) first front
    after : steps first.1 others back

  alone : (c : Counted) (read : List Loaded) → at_level (suc row) c read → Apart c read
  alone c read is = record { first = c; others = []; is = refl; front = read; back = []; parts = sym (append-nil read); operand = is; after = refl }

  up_to : (n : ℕ) → 7 ≤ n → IsTrue (nat_le (suc row) n)
  up_to n many = le-leb (suc row) n (omega (arith, few, many))

  high : (e : Expr) (n : ℕ) (read : List Loaded) → 7 ≤ level e → at_level row (e, n) read → Apart (e, n) read
  high e n read many (cov, inl is) = alone (e, n) read (cov, inl (up_to (level e) many, is.1))
  high e n read many (cov, inr is) = alone (e, n) read (cov, inr is)

  -- the operator and its right operand, as a step
  step_of : (o : Operator) (place : Span) (right : Expr) (before after : ℕ) (back : List Loaded) → level_of o ≡ row →
      raised (before + 1) (token_at (kind.Sign (sign_of_operator o)) place ⨟ placed (suc (level_of o)) right (spelled right) after) back → step before ((o, place), (right, after)) back
  step_of o place right before after back same is =
      let t : Token = token_of (kind.Sign (sign_of_operator o)) place in
      let low = is.2.1 in
      let none : before + 1 + 0 ≡ before + 1 = omega arith in
      let all : back ≡ loaded_at (before + 1) t ∷ map (raise (before + 1)) low =
      is.1 ∙ ap (map (raise (before + 1))) (is.2.2 ∙ ap (λ f. f ++ low) is.2.3) ∙ ap (λ k. loaded_at k t ∷ map (raise (before + 1)) low) none in
      let operand : at_level (suc row) (right, after) low = rw (← same) is.2.4 in
      (loaded_at (before + 1) t ∷ [], map (raise (before + 1)) low, all, (t, operates.of o place same, refl), (low, refl, operand))

  -- the place of an expression with a step
  span_with : (o : Operator) (place : Span) (left right : Expr) (before after : ℕ) (front back : List Loaded) → Covers (span_of_expr left) front →
      step before ((o, place), (right, after)) back → Covers (joined (span_of_expr left) (span_of_expr right)) (front ++ back)
  span_with o place left right before after front back cov is =
      let t = is.3.0 in
      let low = is.4.0 in
      let under : back ≡ loaded_at (before + 1) t ∷ map (raise (before + 1)) low = is.2 ∙ ap (λ f. f ++ is.1) is.3.2 ∙ ap (λ b. loaded_at (before + 1) t ∷ b) is.4.1 in
      rw under (around_token (span_of_expr left) (span_of_expr right) front (map (raise (before + 1)) low) (loaded_at (before + 1) t) cov (raises (before + 1) (span_of_expr right) low is.4.2.0))

  more_apart : (o : Operator) (place : Span) (left right : Expr) (span : Span) (before after n : ℕ) (read front back : List Loaded) → n ≡ before + 1 + after → read ≡ front ++ back →
      Covers span read → Covers (span_of_expr left) front → Apart (left, before) front → step before ((o, place), (right, after)) back →
      Apart (binary_expr o place left right span, n) read
  more_apart o place left right span before after n read front back count parts cov left_cov a is =
      let x : Step = ((o, place), (right, after)) in
      let joint : Covers (joined (span_of_expr left) (span_of_expr right)) read = rw parts (span_with o place left right before after front back left_cov is) in
      let same : span ≡ joined (span_of_expr left) (span_of_expr right) = one_span span (joined (span_of_expr left) (span_of_expr right)) read cov joint in
      let made : (binary_expr o place left right span, n) ≡ with_step (left, before) x =
      ap (λ s. (binary_expr o place left right s, n)) same ∙ ap (λ k. (binary_expr o place left right (joined (span_of_expr left) (span_of_expr right)), k)) count in
      record {
        first = a.first;
        others = a.others ++ x ∷ [];
        is = made ∙ ap (λ c. with_step c x) a.is ∙ sym (with_snoc a.first a.others x);
        front = a.front;
        back = a.back ++ back;
        parts = parts ∙ ap (λ f. f ++ back) a.parts ∙ append_assoc a.front a.back back;
        operand = a.operand;
        after = steps_snoc a.first a.others x a.back back a.after (subst (λ (c : Counted). step c.1 x back) a.is is);
      }

  apart : ((o : Operator) → level_of o ≡ row → left_span o ≡ row) → (e : Expr) (n : ℕ) (read : List Loaded) → at_level row (e, n) read → Apart (e, n) read
  apart assoc (unary_expr o place operand span) n read (cov, inr is) = alone (unary_expr o place operand span, n) read (cov, inr is)
  apart assoc (unary_expr o place operand span) n read (cov, inl is) =
      let seven : level_of o ≡ 7 = eqb-true (level_of o) 7 is.1.0 in
      alone (unary_expr o place operand span, n) read (cov, inl (up_to (level_of o) (omega (arith, seven)), is.1))
  apart assoc (binary_expr o place left right span) n read (cov, inr is) = alone (binary_expr o place left right span, n) read (cov, inr is)
  apart assoc (binary_expr o place left right span) n read (cov, inl is) = elim (cases_Bool (nat_le (suc row) (level_of o))) [
    | inl up ↦ alone (binary_expr o place left right span, n) read (cov, inl (up, is.1))
    | inr isnt ↦
        let low : row ≤ level_of o = leb-true row (level_of o) is.0 in
        let below : level_of o < suc row = leb-false (suc row) (level_of o) isnt in
        let same : level_of o ≡ row = omega (arith, low, below) in
        let op = is.1.1 in
        let front = op.3.0 in
        let first : at_level row (left, op.0) front = rw (← assoc o same) op.3.3 in
        more_apart o place left right span op.0 op.1 n read front op.3.1 op.2 op.3.2 cov first.0 (apart assoc left op.0 front first) (step_of o place right op.0 op.1 op.3.1 same op.3.4)
  ]
  apart assoc e n read is = high e n read (omega arith) is

  -- ---- one operator at most

  maybe_stepped : ((o : Operator) → level_of o ≡ row → left_span o ≡ suc row) → (c : Counted) (x : Option Step) (front back : List Loaded) → at_level (suc row) c front →
      maybe (step c.1) x back → at_level row (with_maybe c x) (front ++ back)
  maybe_stepped single c None front back is none = rw none (rw (append-nil front) (lower row c front is))
  maybe_stepped single c (Some x) front back is more = stepped (suc row) c x front back (single x.0.0 (operates.is more.3.0 x.0.0 x.0.1 more.3.1).1) is more

  -- an expression taken apart into its operands
  record Split (c : Counted) (read : List Loaded) : Type 0 where
    first : Counted
    other : Option Step
    is : c ≡ with_maybe first other
    front : List Loaded
    back : List Loaded
    parts : read ≡ front ++ back
    operand : at_level (suc row) first front
    after : maybe (step first.1) other back

  whole : (c : Counted) (read : List Loaded) → at_level (suc row) c read → Split c read
  whole c read is = record { first = c; other = None; is = refl; front = read; back = []; parts = sym (append-nil read); operand = is; after = refl }

  high_whole : (e : Expr) (n : ℕ) (read : List Loaded) → 7 ≤ level e → at_level row (e, n) read → Split (e, n) read
  high_whole e n read many (cov, inl is) = whole (e, n) read (cov, inl (up_to (level e) many, is.1))
  high_whole e n read many (cov, inr is) = whole (e, n) read (cov, inr is)

  more_split : (o : Operator) (place : Span) (left right : Expr) (span : Span) (before after n : ℕ) (read front back : List Loaded) → n ≡ before + 1 + after → read ≡ front ++ back →
      Covers span read → at_level (suc row) (left, before) front → step before ((o, place), (right, after)) back → Split (binary_expr o place left right span, n) read
  more_split o place left right span before after n read front back count parts cov is next =
      let joint : Covers (joined (span_of_expr left) (span_of_expr right)) read = rw parts (span_with o place left right before after front back is.0 next) in
      let same : span ≡ joined (span_of_expr left) (span_of_expr right) = one_span span (joined (span_of_expr left) (span_of_expr right)) read cov joint in
      record {
        first = (left, before);
        other = Some ((o, place), (right, after));
        is = ap (λ s. (binary_expr o place left right s, n)) same ∙ ap (λ k. (binary_expr o place left right (joined (span_of_expr left) (span_of_expr right)), k)) count;
        front = front;
        back = back;
        parts = parts;
        operand = is;
        after = next;
      }

  split : ((o : Operator) → level_of o ≡ row → left_span o ≡ suc row) → (e : Expr) (n : ℕ) (read : List Loaded) → at_level row (e, n) read → Split (e, n) read
  split single (unary_expr o place operand span) n read (cov, inr is) = whole (unary_expr o place operand span, n) read (cov, inr is)
  split single (unary_expr o place operand span) n read (cov, inl is) =
      let seven : level_of o ≡ 7 = eqb-true (level_of o) 7 is.1.0 in
      whole (unary_expr o place operand span, n) read (cov, inl (up_to (level_of o) (omega (arith, seven)), is.1))
  split single (binary_expr o place left right span) n read (cov, inr is) = whole (binary_expr o place left right span, n) read (cov, inr is)
  split single (binary_expr o place left right span) n read (cov, inl is) = elim (cases_Bool (nat_le (suc row) (level_of o))) [
    | inl up ↦ whole (binary_expr o place left right span, n) read (cov, inl (up, is.1))
    | inr isnt ↦
        let low : row ≤ level_of o = leb-true row (level_of o) is.0 in
        let below : level_of o < suc row = leb-false (suc row) (level_of o) isnt in
        let same : level_of o ≡ row = omega (arith, low, below) in
        let op = is.1.1 in
        let first : at_level (suc row) (left, op.0) op.3.0 = rw (← single o same) op.3.3 in
        more_split o place left right span op.0 op.1 n read op.3.0 op.3.1 op.2 op.3.2 cov first (step_of o place right op.0 op.1 op.3.1 same op.3.4)
  ]
  split single e n read is = high_whole e n read (omega arith) is

  -- ---- the laws

  module _ (kinds first more : List ℕ) (takes : Takes operator kinds) (apart' : disjoint kinds more ≡ true) (room : ℕ) (next : ℕ → Reader Counted)
      (a : (r : ℕ) → r ≤ room → Laws r (at_level (suc row)) (next r) first more false) where
    operand_laws : Laws room (at_level (suc row)) (next room) first more false
    operand_laws = a room (omega arith)

    step_laws : (n : ℕ) → Laws room (step n) (read_step operator next room n) kinds more false
    step_laws n = opened_laws operator (n + 1) room (at_level (suc row)) next kinds first more false takes operand_laws.sample (λ some. a (room - (n + 1)) (omega arith))

    module _ (assoc : (o : Operator) → level_of o ≡ row → left_span o ≡ row) where
      steps_makes : Makes steps_of (then (at_level (suc row)) (λ c. steps c.1)) (at_level row)
      steps_makes = record {
        to = λ parts read is. rw is.2 (chained assoc parts.0 parts.1 is.0 is.1 (lower row parts.0 is.0 is.3) is.4);
        from = λ c read is. let p = apart assoc c.0 c.1 read is in ((p.first, p.others), p.is, (p.front, p.back, p.parts, p.operand, p.after));
      }

      pub chain_laws : Laws room (at_level row) (read_chain kinds operator next room) first (more ++ kinds) false
      chain_laws =
          let read_steps : Counted → Reader (List Step) = λ c. read_many_from kinds (read_step operator next room) count_after c.1 in
          let many : (c : Counted) → Laws room (steps c.1) (read_steps c) kinds (more ++ kinds) true =
          λ c. many_from_laws room step (read_step operator next room) count_after kinds more step_laws apart' refl refl c.1 in
          let pair = then_laws room (at_level (suc row)) (λ c. steps c.1) (next room) read_steps first more kinds (more ++ kinds) false true operand_laws many apart' in
          ends_laws (ends-again more kinds) (makes_laws steps_makes pair)

    module _ (single : (o : Operator) → level_of o ≡ row → left_span o ≡ suc row) where
      maybe_makes : Makes maybe_of (then (at_level (suc row)) (λ c. maybe (step c.1))) (at_level row)
      maybe_makes = record {
        to = λ parts read is. rw is.2 (maybe_stepped single parts.0 parts.1 is.0 is.1 is.3 is.4);
        from = λ c read is. let p = split single c.0 c.1 read is in ((p.first, p.other), p.is, (p.front, p.back, p.parts, p.operand, p.after));
      }

      pub single_laws : Laws room (at_level row) (read_single kinds operator next room) first (more ++ kinds) false
      single_laws =
          let read_one : Counted → Reader (Option Step) = λ c. read_maybe kinds (read_step operator next room c.1) in
          let one : (c : Counted) → Laws room (maybe (step c.1)) (read_one c) kinds (more ++ kinds) true = λ c. option_laws (step_laws c.1) in
          let pair = then_laws room (at_level (suc row)) (λ c. maybe (step c.1)) (next room) read_one first more kinds (more ++ kinds) false true operand_laws one apart' in
          ends_laws (ends-again more kinds) (makes_laws maybe_makes pair)
