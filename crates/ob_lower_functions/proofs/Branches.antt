-- What statements with blocks and what blocks come to, once it is known what their parts come to.
use Rattle.std.proofs.Common.{◌≡◌, ℕ, ◌≤◌, Bool, true, false, List, [], ◌++◌, Result, refl, sym, ap, ◌∙◌, subst, append_assoc}
use Rattle.std.specs.Prelude.{if◌then◌else◌}
use Rattle.ob_base.specs.Limits.{most_slots}
use Rattle.ob_base.specs.declared.fault.Span.{Span}
use Rattle.ob_base.specs.declared.id.StateId.{StateId}
use Rattle.ob_table.specs.Expressions.{Expression}
use Rattle.ob_table.specs.Statements.{Statements, and_statement, Statement, resolved_test, resolved_if, resolved_while, Block, resolved_block, Otherwise}
use Rattle.ob_table.specs.declared.seen.SeenAt.{SeenAt}
use Rattle.ob_table_spec.specs.WellFormed.{StaticFrame, one_ends_there}
use Rattle.ob_silica.specs.Terms.{unit_form, test_form, if_form, loop_form, SilicaTerms, no_terms, one_term, then_terms}
use Rattle.ob_silica.specs.Slots.{slots_of_terms, slots_of_operand}
use Rattle.ob_silica.specs.declared.place.Operand.{Operand}
use Rattle.ob_lower_spec.specs.Forms.{drops, locals_of, block_end, join_of}
use Rattle.ob_lower_spec.specs.Points.{references, drops_of, StagedRow, no_row, Point, inside}
use Rattle.ob_lower_spec.specs.GivenTerms.{with_unit}
use Rattle.ob_lower_spec.specs.StatementTerms.{LowersStatements, LowersBlock, LowersOtherwise, turn_of}
use Rattle.ob_lower_spec.specs.SlotNeeds.{needs, needs_of_block, needs_of_otherwise, needs_of_statement, needs_of_statements, Staged, visible_after, in_use_after, staged_after}
use Rattle.ob_lower_functions.specs.Progress.{Stop, ◌>>=◌, slots_from, Progress, with_term}
use Rattle.ob_lower_functions.specs.ExpressionCode.{value_code}
use Rattle.ob_lower_functions.specs.StatementCode.{BlockPosition, settled, around_at, begun, slots_between, closed, condition_code, named_code, past_statement}
use Rattle.ob_lower_functions.proofs.Terms.{three_most, then_none, then_on, slots_then, slots_one, slots_drops, EachBelow, between_below}
use Rattle.ob_lower_functions.proofs.Outcomes.{Comes, comes_bind, comes_then, comes_same, comes_also}
use Rattle.ob_lower_functions.proofs.Settling.{Stands, point, Done, straight_done, drops_is, unit_few}
use Rattle.ob_lower_functions.proofs.Assigning.{Seen, named_comes, Value, value_at, value_is, value_few}

-- what statements come to
pub record Ended (f : StaticFrame) (start : ℕ) (p : Point) (ss : Statements) (out : SilicaTerms) (x : BlockPosition × SilicaTerms) : Type 0 where
  pub ts : SilicaTerms
  pub own : List ℕ
  pub lowers : LowersStatements f p ss ts own
  pub is : x.1 ≡ then_terms out ts
  pub few : slots_of_terms ts ≤ most_slots
  pub top : x.0.slots ≤ most_slots
  pub declares : own ≡ slots_between start x.0.slots

-- what a block comes to
pub record Blocked (f : StaticFrame) (p : Point) (block : Block) (ts : SilicaTerms) : Type 0 where
  pub lowers : LowersBlock f p block ts
  pub few : slots_of_terms ts ≤ most_slots

-- what the block after `else` comes to
pub record Elsewhere (f : StaticFrame) (p : Point) (other : Otherwise) (ts : SilicaTerms) : Type 0 where
  pub lowers : LowersOtherwise f p other ts
  pub few : slots_of_terms ts ≤ most_slots

-- Blocks.

closed_is : (b : Bool) (o ts : SilicaTerms) (l own : List ℕ) (end : Span) → o ≡ ts → own ≡ l
    → (if b then o else then_terms o (drops l end)) ≡ then_terms ts (if b then no_terms else drops own end)
closed_is true o ts l own end e g = e ∙ sym (then_none ts)
closed_is false o ts l own end e g = ap (λ t. then_terms t (drops l end)) e ∙ ap (λ d. then_terms ts (drops d end)) (sym g)

closed_few : (b : Bool) (o : SilicaTerms) (l : List ℕ) (end : Span) → slots_of_terms o ≤ most_slots → EachBelow most_slots l
    → slots_of_terms (if b then o else then_terms o (drops l end)) ≤ most_slots
closed_few true o l end le each = le
closed_few false o l end le each = slots_then o (drops l end) most_slots le (slots_drops l end most_slots each)

pub block_ends : (f : StaticFrame) (q : BlockPosition) (used : List ℕ) (p : Point) (ss : Statements) (end : Span) (x : BlockPosition × SilicaTerms)
    → inside p ≡ point (settled q) used [] no_row → Ended f q.slots (point (settled q) used [] no_row) ss no_terms x
    → Blocked f p (resolved_block ss end) (closed ss q.slots x.0.slots end x.1)
block_ends f q used p ss end x e d = record {
  lowers = (
    d.ts,
    d.own,
    subst (λ i. LowersStatements f i ss d.ts d.own) (sym e) d.lowers,
    closed_is (one_ends_there ss) x.1 d.ts (slots_between q.slots x.0.slots) d.own end d.is d.declares,
  );
  few = closed_few (one_ends_there ss) x.1 (slots_between q.slots x.0.slots) end (subst (λ t. slots_of_terms t ≤ most_slots) (sym d.is) d.few)
      (between_below q.slots x.0.slots most_slots d.top);
}

-- Statements.

and_ended : (f : StaticFrame) (start : ℕ) (q : BlockPosition) (used own : List ℕ) (row : StagedRow) (staged : Staged) (s : Statement) (rest : Statements) (out : SilicaTerms)
    (x y : BlockPosition × SilicaTerms) (d : Done f start q used own row staged s rest out x) → Ended f start (point x.0 d.used d.own d.row) rest x.1 y
    → Ended f start (point q used own row) (and_statement s rest) out y
and_ended f start q used own row staged s rest out x y d w = record {
  ts = then_terms d.ts w.ts;
  own = w.own;
  lowers = (d.ts, point x.0 d.used d.own d.row, d.lowers, w.ts, w.lowers, refl);
  is = w.is ∙ ap (λ t. then_terms t w.ts) d.is ∙ then_on out d.ts w.ts;
  few = slots_then d.ts w.ts most_slots d.few w.few;
  top = w.top;
  declares = w.declares;
}

pub statements_end : (f : StaticFrame) (start : ℕ) (q : BlockPosition) (used own : List ℕ) (row : StagedRow) (staged : Staged) (s : Statement) (rest : Statements) (out : SilicaTerms)
    (rs : Result (BlockPosition × SilicaTerms) Stop) (rr : BlockPosition → SilicaTerms → Result (BlockPosition × SilicaTerms) Stop)
    → Comes (needs_of_statement f (locals_of q.variables) q.slots staged s rest) (Done f start q used own row staged s rest out) rs
    → ((r : BlockPosition) (now mine : List ℕ) (line : StagedRow) (waits : Staged) (o : SilicaTerms) → Stands start r now mine line waits
    → Comes (needs_of_statements f (locals_of r.variables) r.slots waits rest) (Ended f start (point r now mine line) rest o) (rr r o))
    → Comes (needs_of_statements f (locals_of q.variables) q.slots staged (and_statement s rest)) (Ended f start (point q used own row) (and_statement s rest) out)
    (rs >>= (λ x. rr x.0 x.1))
statements_end f start q used own row staged s rest out rs rr cs cr =
    let ls = locals_of q.variables in
    let after = staged_after f ls staged s rest in
    let later = needs_of_statements f (visible_after ls s) (in_use_after q.slots s) after rest in
    comes_bind (needs_of_statement f ls q.slots staged s rest) later (Done f start q used own row staged s rest out) (Ended f start (point q used own row) (and_statement s rest) out)
    rs (λ x. rr x.0 x.1) cs
    (λ x d. comes_also later (Ended f start (point x.0 d.used d.own d.row) rest x.1) (Ended f start (point q used own row) (and_statement s rest) out) (rr x.0 x.1)
    (comes_same (needs_of_statements f (locals_of x.0.variables) x.0.slots after rest) later (Ended f start (point x.0 d.used d.own d.row) rest x.1) (rr x.0 x.1)
    (ap (λ l. needs_of_statements f l x.0.slots after rest) d.names ∙ ap (λ n. needs_of_statements f (visible_after ls s) n after rest) d.count)
    (cr x.0 d.used d.own d.row after x.1 d.stands))
    (λ y w. and_ended f start q used own row staged s rest out x y d w))

-- Branches.

module _ (f : StaticFrame) (start : ℕ) (q : BlockPosition) (used own : List ℕ) (row : StagedRow) (staged : Staged) (rest : Statements) (out : SilicaTerms)
    (st : Stands start q used own row staged) where
  pub test_comes : (subject : SeenAt) (state : StateId) (branch : Block) (other : Otherwise) (span : Span) (rb ro : Result SilicaTerms Stop)
      → Comes (needs_of_block f (locals_of q.variables) q.slots branch) (Blocked f (point q used own row) branch) rb
      → Comes (needs_of_otherwise f (locals_of q.variables) q.slots other) (Elsewhere f (point q used own row) other) ro
      → Comes (needs_of_block f (locals_of q.variables) q.slots branch ++ needs_of_otherwise f (locals_of q.variables) q.slots other)
      (Done f start q used own row staged (resolved_test subject state branch other span) rest out)
      (named_code q subject >>= (λ o. rb >>= (λ x. ro >>= (λ y. past_statement q (with_term (with_term out unit_form span) (test_form o state x y (join_of branch other)) span)))))
  test_comes subject state branch other span rb ro cb co =
      let whole = resolved_test subject state branch other span in
      let nb = needs_of_block f (locals_of q.variables) q.slots branch in
      let no = needs_of_otherwise f (locals_of q.variables) q.slots other in
      comes_bind [] (nb ++ no) (Seen q subject) (Done f start q used own row staged whole rest out) (named_code q subject) _ (named_comes q subject st.below)
      (λ o n. comes_bind nb no (Blocked f (point q used own row) branch) (Done f start q used own row staged whole rest out) rb _ cb
      (λ x b. comes_then no (Elsewhere f (point q used own row) other) (Done f start q used own row staged whole rest out) ro _ co
      (λ y e. let form = test_form o state x y (join_of branch other) in (
        refl,
        straight_done f start q used own row staged whole rest out (with_term (with_term out unit_form span) form span) st refl refl refl (record {
          ts = with_unit span (one_term form span);
          lowers = (o, (n.place, n.found, n.is), x, b.lowers, y, e.lowers, refl, refl);
          is = then_on out (one_term unit_form span) (one_term form span);
          few = unit_few span (one_term form span) (slots_one form span most_slots (three_most (slots_of_operand o) (slots_of_terms x) (slots_of_terms y) most_slots n.few b.few e.few));
        }),
      ))))

  -- what a condition comes to, with its temporaries at their end
  pub record Conditioned (condition : Expression) (span : Span) (c : SilicaTerms × Operand) : Type 0 where
    pub x : Progress × Operand
    pub value : Value f start q used own row staged rest out st condition span x
    pub is : c ≡ (then_terms x.0.terms (drops x.0.slots.references span), x.1)

  condition_comes : (condition : Expression) (span : Span)
      → Comes (needs f (locals_of q.variables) q.slots condition) (Conditioned condition span) (condition_code f condition span q out)
  condition_comes condition span =
      comes_then (needs f (locals_of q.variables) q.slots condition) (Value f start q used own row staged rest out st condition span) (Conditioned condition span)
      (value_code (around_at f q span) condition (begun (slots_from q.slots) span out)) _ (value_at f start q used own row staged rest out st condition span)
      (λ x v. (refl, record { x = x; value = v; is = refl }))

  if_done : (condition : Expression) (branch : Block) (other : Otherwise) (span : Span) (x : Progress × Operand) (t u : SilicaTerms)
      → Value f start q used own row staged rest out st condition span x
      → Blocked f (point q used own row) branch t → Elsewhere f (point q used own row) other u
      → Done f start q used own row staged (resolved_if condition branch other span) rest out
      (settled q, with_term (then_terms x.0.terms (drops x.0.slots.references span)) (if_form x.1 t u (join_of branch other)) span)
  if_done condition branch other span x t u v b e =
      let form = if_form v.l.operand t u (join_of branch other) in
      let after_it = then_terms (drops_of v.l.made span) (one_term form span) in
      straight_done f start q used own row staged (resolved_if condition branch other span) rest out _ st refl refl refl (record {
        ts = with_unit span (then_terms v.l.terms after_it);
        lowers = (v.l, v.lowers, t, b.lowers, u, e.lowers, refl, refl);
        is = ap (λ o. with_term (then_terms x.0.terms (drops x.0.slots.references span)) (if_form o t u (join_of branch other)) span) v.is
            ∙ ap (λ o. with_term o form span) (drops_is out (with_unit span v.l.terms) x.0.terms x.0.slots.references v.l.made span
            (value_is f start q used own row staged rest out st condition span x v) v.grown.listed)
            ∙ then_on out (with_unit span (then_terms v.l.terms (drops_of v.l.made span))) (one_term form span)
            ∙ ap (λ o. then_terms out (with_unit span o)) (then_on v.l.terms (drops_of v.l.made span) (one_term form span));
        few = unit_few span (then_terms v.l.terms after_it) (slots_then v.l.terms after_it most_slots v.grown.few
            (slots_then (drops_of v.l.made span) (one_term form span) most_slots (slots_drops (references v.l.made) span most_slots v.grown.dropped)
            (slots_one form span most_slots (three_most (slots_of_operand v.l.operand) (slots_of_terms t) (slots_of_terms u) most_slots
            (value_few f start q used own row staged rest out st condition span x v) b.few e.few))));
      })

  pub if_comes : (condition : Expression) (branch : Block) (other : Otherwise) (span : Span) (rb ro : Result SilicaTerms Stop)
      → Comes (needs_of_block f (locals_of q.variables) q.slots branch) (Blocked f (point q used own row) branch) rb
      → Comes (needs_of_otherwise f (locals_of q.variables) q.slots other) (Elsewhere f (point q used own row) other) ro
      → Comes (needs f (locals_of q.variables) q.slots condition ++ needs_of_block f (locals_of q.variables) q.slots branch ++ needs_of_otherwise f (locals_of q.variables) q.slots other)
      (Done f start q used own row staged (resolved_if condition branch other span) rest out)
      (condition_code f condition span q out >>= (λ c. rb >>= (λ x. ro >>= (λ y. past_statement q (with_term c.0 (if_form c.1 x y (join_of branch other)) span)))))
  if_comes condition branch other span rb ro cb co =
      let whole = resolved_if condition branch other span in
      let nc = needs f (locals_of q.variables) q.slots condition in
      let nb = needs_of_block f (locals_of q.variables) q.slots branch in
      let no = needs_of_otherwise f (locals_of q.variables) q.slots other in
      comes_same (nc ++ (nb ++ no)) (nc ++ nb ++ no) (Done f start q used own row staged whole rest out)
      (condition_code f condition span q out >>= (λ c. rb >>= (λ x. ro >>= (λ y. past_statement q (with_term c.0 (if_form c.1 x y (join_of branch other)) span)))))
      (sym (append_assoc nc nb no))
      (comes_bind nc (nb ++ no) (Conditioned condition span) (Done f start q used own row staged whole rest out) (condition_code f condition span q out) _ (condition_comes condition span)
      (λ c d. comes_bind nb no (Blocked f (point q used own row) branch) (Done f start q used own row staged whole rest out) rb _ cb
      (λ x b. comes_then no (Elsewhere f (point q used own row) other) (Done f start q used own row staged whole rest out) ro _ co
      (λ y e. (
        refl,
        subst (λ c. Done f start q used own row staged whole rest out (settled q, with_term c.0 (if_form c.1 x y (join_of branch other)) span)) (sym d.is)
            (if_done condition branch other span d.x x y d.value b e),
      )))))

-- Loops: a turn begins with terms of its own.

module _ (f : StaticFrame) (start : ℕ) (q : BlockPosition) (used own : List ℕ) (row : StagedRow) (staged : Staged) (rest : Statements) (out : SilicaTerms)
    (st : Stands start q used own row staged) where
  while_done : (condition : Expression) (body : Block) (span : Span) (x : Progress × Operand) (t : SilicaTerms)
      → Value f start q used own row staged rest no_terms st condition span x → Blocked f (point q used own row) body t
      → Done f start q used own row staged (resolved_while condition body span) rest out
      (settled q, with_term out (loop_form (then_terms x.0.terms (drops x.0.slots.references span)) x.1 t (block_end body)) (block_end body))
  while_done condition body span x t v b =
      let end = block_end body in
      let first = turn_of span v.l in
      let form = loop_form first v.l.operand t end in
      straight_done f start q used own row staged (resolved_while condition body span) rest out _ st refl refl refl (record {
        ts = one_term form end;
        lowers = (v.l, v.lowers, t, b.lowers, refl, refl);
        is = ap (λ o. with_term out (loop_form (then_terms x.0.terms (drops x.0.slots.references span)) o t end) end) v.is
            ∙ ap (λ ts. with_term out (loop_form ts v.l.operand t end) end)
            (drops_is no_terms (with_unit span v.l.terms) x.0.terms x.0.slots.references v.l.made span
            (value_is f start q used own row staged rest no_terms st condition span x v) v.grown.listed);
        few = slots_one form end most_slots (three_most (slots_of_terms first) (slots_of_operand v.l.operand) (slots_of_terms t) most_slots
            (unit_few span (then_terms v.l.terms (drops_of v.l.made span)) (slots_then v.l.terms (drops_of v.l.made span) most_slots v.grown.few
            (slots_drops (references v.l.made) span most_slots v.grown.dropped)))
            (value_few f start q used own row staged rest no_terms st condition span x v) b.few);
      })

  pub while_comes : (condition : Expression) (body : Block) (span : Span) (rb : Result SilicaTerms Stop)
      → Comes (needs_of_block f (locals_of q.variables) q.slots body) (Blocked f (point q used own row) body) rb
      → Comes (needs f (locals_of q.variables) q.slots condition ++ needs_of_block f (locals_of q.variables) q.slots body)
      (Done f start q used own row staged (resolved_while condition body span) rest out)
      (condition_code f condition span q no_terms >>= (λ c. rb >>= (λ x. past_statement q (with_term out (loop_form c.0 c.1 x (block_end body)) (block_end body)))))
  while_comes condition body span rb cb =
      let whole = resolved_while condition body span in
      let nc = needs f (locals_of q.variables) q.slots condition in
      let nb = needs_of_block f (locals_of q.variables) q.slots body in
      comes_bind nc nb (Conditioned f start q used own row staged rest no_terms st condition span) (Done f start q used own row staged whole rest out)
      (condition_code f condition span q no_terms) _ (condition_comes f start q used own row staged rest no_terms st condition span)
      (λ c d. comes_then nb (Blocked f (point q used own row) body) (Done f start q used own row staged whole rest out) rb _ cb
      (λ x b. (
        refl,
        subst (λ c. Done f start q used own row staged whole rest out (settled q, with_term out (loop_form c.0 c.1 x (block_end body)) (block_end body))) (sym d.is)
            (while_done condition body span d.x x d.value b),
      )))
