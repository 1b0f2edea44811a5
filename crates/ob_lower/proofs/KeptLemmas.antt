-- Statements only add variables, so that those of a block are gone once the first ones alone are kept.
use Rattle.std.proofs.Common.{◌≡◌, ℕ, ◌-◌, List, [], ◌∷◌, ◌++◌, length, drop, refl, ap, sym, ◌∙◌, subst, arith, append_assoc, length-append}
use Rattle.std.specs.Prelude.{Option, Some, None, Result, Ok, Err, ⊤}
use Rattle.ob_base.specs.declared.fault.Span.{Span}
use Rattle.ob_table.specs.Statements.{GivenField, Statement, resolved_declare, resolved_assign, resolved_stage, resolved_change, resolved_discard, resolved_test, resolved_if, resolved_while, resolved_return, resolved_revert, resolved_disown, resolved_assert, Statements, no_statements, and_statement}
use Rattle.ob_table_spec.specs.WellFormed.{StaticFrame}
use Rattle.ob_silica.specs.Terms.{SilicaTerms, no_terms, unit_form, test_form, if_form, loop_form}
use Rattle.ob_lower_spec.specs.Forms.{set_slot, block_end, join_of, SlotVariable, refused_at}
use Rattle.ob_lower_functions.specs.ExpressionCode.{value_code}
use Rattle.ob_silica.specs.declared.place.Given.{Given}
use Rattle.ob_lower_functions.specs.Progress.{Stop, ◌>>=◌, Slots, slots_from, next_slot, with_term, ended}
use Rattle.ob_lower_functions.specs.StatementCode.{Waiting, none_waits, row_waits, refused_waits, BlockPosition, settled, declared, around_at, begun, named_code, condition_code, block_code, otherwise_code, row_code, first_code, stage_code, statement_code, statements_code}

-- these variables with others before them
pub record Kept (before after : List SlotVariable) : Type 0 where
  pub own : List SlotVariable
  pub is : after ≡ own ++ before

abbrev pub KeptIn : List SlotVariable → Result (BlockPosition × SilicaTerms) Stop → Type 0
KeptIn before (Ok x) = Kept before x.0.variables
KeptIn before (Err e) = ⊤

-- where statements are lowered, the variables are kept
pub record Keeps (before : List SlotVariable) (r : Result (BlockPosition × SilicaTerms) Stop) : Type 0 where
  pub kept : KeptIn before r

same : (q : BlockPosition) (out : SilicaTerms) (before : List SlotVariable) → q.variables ≡ before → Keeps before (Ok (q, out))
same q out before e = record { kept = record { own = []; is = e } }

pub through : {A : Type 0} (before : List SlotVariable) (r : Result A Stop) (f : A → Result (BlockPosition × SilicaTerms) Stop)
    → ((x : A) → Keeps before (f x)) → Keeps before (r >>= f)
through before (Ok x) f keeps = keeps x
through before (Err e) f keeps = record { kept = tt }

further : (a b : List SlotVariable) (r : Result (BlockPosition × SilicaTerms) Stop) → Kept a b → Keeps b r → Keeps a r
further a b (Ok x) first then = record {
  kept = record {
    own = then.kept.own ++ first.own;
    is = then.kept.is ∙ ap (λ l. then.kept.own ++ l) first.is ∙ sym (append_assoc then.kept.own first.own a);
  };
}
further a b (Err e) first then = record { kept = tt }

after : (before : List SlotVariable) (r : Result (BlockPosition × SilicaTerms) Stop) (f : BlockPosition × SilicaTerms → Result (BlockPosition × SilicaTerms) Stop)
    → Keeps before r → ((x : BlockPosition × SilicaTerms) → Keeps x.0.variables (f x)) → Keeps before (r >>= f)
after before (Ok x) f first then = further before x.0.variables (f x) first.kept (then x)
after before (Err e) f first then = record { kept = tt }

added : (q : BlockPosition) (v : SlotVariable) (out : SilicaTerms) → Keeps q.variables (Ok (declared q v, out))
added q v out = record { kept = record { own = v ∷ []; is = refl } }

row_keeps : (f : StaticFrame) (at : Span) (before : List Given) (slots : Slots) (given : GivenField) (q : BlockPosition) (out : SilicaTerms)
    → Keeps q.variables (row_code f at before slots given q out)
row_keeps f at before slots given q out =
    through q.variables (value_code (around_at f q at) given.value (begun slots at out)) _ (λ x. same _ _ q.variables refl)

first_keeps : (f : StaticFrame) (refused : Option Span) (given : GivenField) (span : Span) (q : BlockPosition) (out : SilicaTerms)
    → Keeps q.variables (first_code f refused given span q out)
first_keeps f (Some at) given span q out = same _ _ q.variables refl
first_keeps f None given span q out = row_keeps f span [] _ given q out

stage_keeps : (f : StaticFrame) (w : Waiting) (refused : Option Span) (given : GivenField) (span : Span) (q : BlockPosition) (out : SilicaTerms)
    → Keeps q.variables (stage_code f w refused given span q out)
stage_keeps f none_waits refused given span q out = first_keeps f refused given span q out
stage_keeps f (row_waits at before slots) refused given span q out = row_keeps f at before slots given q out
stage_keeps f refused_waits refused given span q out = same _ _ q.variables refl

statement_keeps : (f : StaticFrame) (s : Statement) (rest : Statements) (q : BlockPosition) (out : SilicaTerms)
    → Keeps q.variables (statement_code f s rest q out)
statement_keeps f (resolved_declare local name of value span) rest q out =
    through q.variables (next_slot name (slots_from q.slots)) _ (λ s. through q.variables
    (value_code (around_at f q span) value (begun s.0 span out)) _ (λ x.
    added q (record { local = local; kind = of; slot = s.1 }) (ended span (set_slot of s.1 x.1) x.0)))
statement_keeps f (resolved_assign target value span) rest q out = through q.variables _ _ (λ x. same _ _ q.variables refl)
statement_keeps f (resolved_stage state given span) rest q out =
    stage_keeps f q.waiting (refused_at state span rest) given span q out
statement_keeps f (resolved_change state given span) rest q out = through q.variables _ _ (λ x. same _ _ q.variables refl)
statement_keeps f (resolved_discard value span) rest q out = through q.variables _ _ (λ x. same _ _ q.variables refl)
statement_keeps f (resolved_test subject state branch other span) rest q out =
    through q.variables (named_code q subject) _ (λ o. through q.variables (block_code f branch (settled q)) _ (λ x.
    through q.variables (otherwise_code f other (settled q)) _ (λ y. same (settled q)
    (with_term (with_term out unit_form span) (test_form o state x y (join_of branch other)) span) q.variables refl)))
statement_keeps f (resolved_if condition branch other span) rest q out =
    through q.variables (condition_code f condition span q out) _ (λ c. through q.variables
    (block_code f branch (settled q)) _ (λ x. through q.variables (otherwise_code f other (settled q)) _ (λ y.
    same (settled q) (with_term c.0 (if_form c.1 x y (join_of branch other)) span) q.variables refl)))
statement_keeps f (resolved_while condition body span) rest q out =
    through q.variables (condition_code f condition span q no_terms) _ (λ c. through q.variables
    (block_code f body (settled q)) _ (λ x.
    same (settled q) (with_term out (loop_form c.0 c.1 x (block_end body)) (block_end body)) q.variables refl))
statement_keeps f (resolved_return value span) rest q out = through q.variables _ _ (λ x. same _ _ q.variables refl)
statement_keeps f (resolved_revert text span) rest q out = through q.variables _ _ (λ x. same _ _ q.variables refl)
statement_keeps f (resolved_disown subject span) rest q out = through q.variables _ _ (λ o. same _ _ q.variables refl)
statement_keeps f (resolved_assert subject perm span) rest q out = through q.variables _ _ (λ o. same _ _ q.variables refl)

statements_keep : (f : StaticFrame) (ss : Statements) (q : BlockPosition) (out : SilicaTerms)
    → Keeps q.variables (statements_code f ss q out)
statements_keep f no_statements q out = same q out q.variables refl
statements_keep f (and_statement s rest) q out =
    after q.variables _ _ (statement_keeps f s rest q out) (λ x. statements_keep f rest x.0 x.1)

drop-own : (own before : List SlotVariable) → drop (length own) (own ++ before) ≡ before
drop-own [] before = refl
drop-own (v ∷ own) before = drop-own own before

first_ones : (before after : List SlotVariable) → Kept before after → drop (length after - length before) after ≡ before
first_ones before after kept =
    let count : length after - length before ≡ length kept.own =
    omega (arith, ap length kept.is, length-append kept.own before) in
    ap (λ n. drop n after) count ∙ ap (drop (length kept.own)) kept.is ∙ drop-own kept.own before

-- after statements the first variables are those before them
pub variables_kept : (f : StaticFrame) (ss : Statements) (q after : BlockPosition) (out terms : SilicaTerms)
    → statements_code f ss q out ≡ Ok (after, terms)
    → drop (length after.variables - length q.variables) after.variables ≡ q.variables
variables_kept f ss q after out terms is =
    first_ones q.variables after.variables (subst (Keeps q.variables) is (statements_keep f ss q out)).kept

-- where the first variables alone are kept after a block's statements, the position is that before the block
pub left : (f : StaticFrame) (ss : Statements) (p q after new : BlockPosition) (n k : ℕ) (out terms : SilicaTerms)
    → q ≡ settled p → n ≡ length p.variables → k ≡ p.slots → statements_code f ss q out ≡ Ok (after, terms)
    → new ≡ record { variables = drop (length after.variables - n) after.variables; slots = k; waiting = none_waits }
    → new ≡ settled p
left f ss p q after new n k out terms begins visible slots code is =
    let at : List SlotVariable → ℕ → BlockPosition = λ vs m. record { variables = vs; slots = m; waiting = none_waits } in
    is
    ∙ ap (λ m. at (drop (length after.variables - m) after.variables) k) (visible ∙ sym (ap (λ x. length x.variables) begins))
    ∙ ap (λ vs. at vs k) (variables_kept f ss q after out terms code ∙ ap (λ x. x.variables) begins)
    ∙ ap (λ m. at p.variables m) slots
