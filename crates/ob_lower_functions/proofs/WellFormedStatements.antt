-- Lowering goes on at well-formed statements and blocks.
use Rattle.std.proofs.Common.{◌≡◌, ℕ, List, [], ◌∷◌, ◌++◌, Option, Some, None, IsSome, IsSomeAnd, IfSome, Result}
use Rattle.std.specs.Prelude.{⊤}
use Rattle.ob_base.specs.declared.fault.Span.{Span}
use Rattle.ob_base.specs.declared.id.StateId.{StateId}
use Rattle.ob_table.specs.Expressions.{Expression}
use Rattle.ob_table.specs.Statements.{GivenField, Statement, resolved_declare, resolved_assign, resolved_stage, resolved_change, resolved_discard, resolved_test, resolved_if, resolved_while, resolved_return, resolved_revert, resolved_disown, resolved_assert, Block, resolved_block, Otherwise, no_otherwise, otherwise_block, Statements, no_statements, and_statement}
use Rattle.ob_table.specs.Tables.{field_at}
use Rattle.ob_table.specs.declared.contract.Contract.{Contract}
use Rattle.ob_table.specs.declared.contract.Field.{Field}
use Rattle.ob_table.specs.declared.seen.Kind.{Kind}
use Rattle.ob_table.specs.declared.seen.Kind.TheVariants.{Bool as BoolKind, Text}
use Rattle.ob_table.specs.declared.seen.SeenAt.{SeenAt}
use Rattle.ob_table_spec.specs.WellFormed as made
use Rattle.ob_table_spec.specs.WellFormed.{StaticFrame, LocalKinds, kind_of_seen, kind_of_expression, kind_of_resolved, serves_as, IsWellFormedExpression, IsValue, IsGiven, AreGiven, IsReturned, Refers, RefersTo, IsStatement, AreStatements, IsBlock, IsOtherwise, rest_of_row}
use Rattle.ob_silica.specs.Terms.{SilicaTerms, no_terms}
use Rattle.ob_silica.specs.declared.place.Given.{Given}
use Rattle.ob_lower_spec.specs.Forms.{locals_of, place_seen, refused_at, given_from}
use Rattle.ob_lower_functions.specs.Progress.{Stop, ◌>>=◌, found, Slots, slots_from, next_slot, Progress}
use Rattle.ob_lower_functions.specs.ExpressionCode.{expression_code, value_code}
use Rattle.ob_lower_functions.specs.StatementCode.{Waiting, none_waits, row_waits, refused_waits, BlockPosition, settled, around_at, begun, declare_code, assign_code, row_code, first_code, stage_code, given_code, change_after, change_code, discard_code, condition_code, return_code, revert_code, named_code, past_statement, statement_code, statements_code, block_code, otherwise_code}
use Rattle.ob_lower_functions.proofs.Naming.{Keeps, keeps_bind, keeps_next, HasOne, some_and, Names, keeps_place, keeps_kind, names_more}
use Rattle.ob_lower_functions.proofs.WellFormedExpressions.{expression_keeps, value_keeps}

module _ (f : StaticFrame) (ls : LocalKinds) (q : BlockPosition) (names : Names ls q.variables) where
  -- Values.

  -- an expression that may stand where a value of a kind is needed
  valued_at : (kind : Kind) (e : Expression) (span : Span) (p : Progress) → IsValue f ls kind e → Keeps (λ x. ⊤) (value_code (around_at f q span) e p)
  valued_at kind e span p is = value_keeps (around_at f q span) ls names e p is.0 (some_and (kind_of_expression f ls e) _ is.1)

  -- the same of a kind that a name has
  known_at : (o : Option Kind) (e : Expression) (span : Span) (p : Progress) → IsSomeAnd o (λ kind. IsValue f ls kind e)
      → Keeps (λ x. ⊤) (value_code (around_at f q span) e p)
  known_at None e span p is = absurd is
  known_at (Some kind) e span p is = valued_at kind e span p is

  name_keeps : (seen : SeenAt) → IsSome (kind_of_seen f ls seen.of) → Keeps (λ o. ⊤) (named_code q seen)
  name_keeps seen is = keeps_bind (λ x. ⊤) (λ o. ⊤) (found (place_seen q.variables seen.of)) _ (keeps_place f ls q.variables seen.of names is) (λ place t. tt)

  pub named_keeps : (seen : SeenAt) (P : Contract → Type 0) → Refers f ls seen.of P → Keeps (λ o. ⊤) (named_code q seen)
  named_keeps seen P is = name_keeps seen (some_and (kind_of_seen f ls seen.of) _ is)

  -- Statements without blocks.

  -- the same names are visible after a statement that declares nothing
  abbrev Same : BlockPosition × SilicaTerms → Type 0
  Same x = Names ls x.0.variables

  pub settles : (r : Result SilicaTerms Stop) → Keeps (λ o. ⊤) r → Keeps Same (r >>= past_statement q)
  settles r k = keeps_bind (λ o. ⊤) Same r (past_statement q) k (λ o t. names)

  pub assign_keeps : (target : SeenAt) (e : Expression) (span : Span) (out : SilicaTerms)
      → IsSomeAnd (kind_of_seen f ls target.of) (λ kind. IsValue f ls kind e) → Keeps (λ o. ⊤) (assign_code f target e span q out)
  assign_keeps target e span out is =
      let there = some_and (kind_of_seen f ls target.of) _ is in
      keeps_bind (λ x. ⊤) (λ o. ⊤) (value_code (around_at f q span) e (begun (slots_from q.slots) span out)) _
      (known_at (kind_of_seen f ls target.of) e span (begun (slots_from q.slots) span out) is)
      (λ x t. keeps_bind (λ x. ⊤) (λ o. ⊤) (found (kind_of_seen f (locals_of q.variables) target.of)) _ (keeps_kind f ls q.variables target.of names there)
      (λ kind t. keeps_bind (λ x. ⊤) (λ o. ⊤) (found (place_seen q.variables target.of)) _ (keeps_place f ls q.variables target.of names there) (λ place t. tt)))

  pub given_at : (line : List ℕ) (g : GivenField) (span : Span) (p : Progress) → IsGiven f ls line g → Keeps (λ x. ⊤) (value_code (around_at f q span) g.value p)
  given_at line g span p is = by (field_at f.own g.field) is.1
    where
      by : (o : Option Field) → IsSomeAnd o (λ field. IsValue f ls (kind_of_resolved field.of) g.value) → Keeps (λ x. ⊤) (value_code (around_at f q span) g.value p)
      by None h = absurd h
      by (Some field) h = valued_at (kind_of_resolved field.of) g.value span p h

  row_keeps : (line : List ℕ) (first : Span) (before : List Given) (slots : Slots) (g : GivenField) (out : SilicaTerms) → IsGiven f ls line g
      → Keeps Same (row_code f first before slots g q out)
  row_keeps line first before slots g out is =
      keeps_bind (λ x. ⊤) Same (value_code (around_at f q first) g.value (begun slots first out)) _ (given_at line g first (begun slots first out) is) (λ x t. names)

  first_keeps : (line : List ℕ) (refused : Option Span) (g : GivenField) (span : Span) (out : SilicaTerms) → IsGiven f ls line g → Keeps Same (first_code f refused g span q out)
  first_keeps line None g span out is = row_keeps line span [] (slots_from q.slots) g out is
  first_keeps line (Some at) g span out is = names

  pub stage_keeps : (line : List ℕ) (waiting : Waiting) (refused : Option Span) (g : GivenField) (span : Span) (out : SilicaTerms) → IsGiven f ls line g
      → Keeps Same (stage_code f waiting refused g span q out)
  stage_keeps line none_waits refused g span out is = first_keeps line refused g span out is
  stage_keeps line (row_waits first before slots) refused g span out is = row_keeps line first before slots g out is
  stage_keeps line refused_waits refused g span out is = names

  fields_keep : (gs : List GivenField) (line : List ℕ) (span : Span) (before : List Given) (p : Progress) → AreGiven f ls line gs
      → Keeps (λ x. ⊤) (given_code (around_at f q span) gs before p)
  fields_keep [] line span before p are = tt
  fields_keep (g ∷ gs) line span before p are =
      keeps_bind (λ x. ⊤) (λ x. ⊤) (value_code (around_at f q span) g.value p) _ (given_at line g span p are.0)
      (λ x t. fields_keep gs (line ++ g.field.0 ∷ []) span (before ++ given_from g x.1 ∷ []) x.0 are.1)

  after_keeps : (line : List ℕ) (first : Span) (before : List Given) (slots : Slots) (state : StateId) (gs : List GivenField) (out : SilicaTerms) → AreGiven f ls line gs
      → Keeps (λ o. ⊤) (change_after f first before slots state gs q out)
  after_keeps line first before slots state gs out are =
      keeps_bind (λ x. ⊤) (λ o. ⊤) (given_code (around_at f q first) gs before (begun slots first out)) _ (fields_keep gs line first before (begun slots first out) are) (λ x t. tt)

  pub change_keeps : (line : List ℕ) (waiting : Waiting) (state : StateId) (gs : List GivenField) (span : Span) (out : SilicaTerms) → AreGiven f ls line gs
      → Keeps (λ o. ⊤) (change_code f waiting state gs span q out)
  change_keeps line none_waits state gs span out are = after_keeps line span [] (slots_from q.slots) state gs out are
  change_keeps line (row_waits first before slots) state gs span out are = after_keeps line first before slots state gs out are
  change_keeps line refused_waits state gs span out are = after_keeps line span [] (slots_from q.slots) state gs out are

  pub discard_keeps : (e : Expression) (span : Span) (out : SilicaTerms) → IsWellFormedExpression f ls e → Keeps (λ o. ⊤) (discard_code f e span q out)
  discard_keeps e span out is =
      keeps_bind (HasOne f ls e) (λ o. ⊤) (expression_code (around_at f q span) e (begun (slots_from q.slots) span out)) _
      (expression_keeps (around_at f q span) ls names e (begun (slots_from q.slots) span out) is) (λ x t. tt)

  pub condition_keeps : (kind : Kind) (e : Expression) (span : Span) (out : SilicaTerms) → IsValue f ls kind e → Keeps (λ c. ⊤) (condition_code f e span q out)
  condition_keeps kind e span out is =
      keeps_bind (λ x. ⊤) (λ c. ⊤) (value_code (around_at f q span) e (begun (slots_from q.slots) span out)) _
      (valued_at kind e span (begun (slots_from q.slots) span out) is) (λ x t. tt)

  pub return_keeps : (result : Option Kind) (e : Option Expression) (span : Span) (out : SilicaTerms) → IsReturned f ls result e → Keeps (λ o. ⊤) (return_code f e span q out)
  return_keeps result None span out is = tt
  return_keeps None (Some e) span out is = absurd is
  return_keeps (Some kind) (Some e) span out is =
      keeps_bind (λ x. ⊤) (λ o. ⊤) (value_code (around_at f q span) e (begun (slots_from q.slots) span out)) _
      (valued_at kind e span (begun (slots_from q.slots) span out) is) (λ x t. tt)

  pub revert_keeps : (kind : Kind) (e : Option Expression) (span : Span) (out : SilicaTerms) → IfSome e (IsValue f ls kind) → Keeps (λ o. ⊤) (revert_code f e span q out)
  revert_keeps kind None span out is = keeps_bind (λ s. ⊤) (λ o. ⊤) (next_slot span (slots_from q.slots)) _ (keeps_next span (slots_from q.slots)) (λ s t. tt)
  revert_keeps kind (Some e) span out is =
      keeps_bind (λ x. ⊤) (λ o. ⊤) (value_code (around_at f q span) e (begun (slots_from q.slots) span out)) _
      (valued_at kind e span (begun (slots_from q.slots) span out) is) (λ x t. tt)

  pub declare_keeps : (local : ℕ) (name : Span) (of : Kind) (e : Expression) (span : Span) (out : SilicaTerms)
      → made.local_kind ls local ≡ None → IsValue f ls of e
      → Keeps (λ x. Names (ls ++ (local, of) ∷ []) x.0.variables) (declare_code f local name of e span q out)
  declare_keeps local name of e span out free is =
      keeps_bind (λ s. ⊤) (λ x. Names (ls ++ (local, of) ∷ []) x.0.variables) (next_slot name (slots_from q.slots)) _ (keeps_next name (slots_from q.slots))
      (λ s t. keeps_bind (λ x. ⊤) (λ x. Names (ls ++ (local, of) ∷ []) x.0.variables) (value_code (around_at f q span) e (begun s.0 span out)) _
      (valued_at of e span (begun s.0 span out) is)
      (λ x t. names_more ls q.variables (record { local = local; kind = of; slot = s.1 }) names free))

module _ (f : StaticFrame) where
  mutual
    pub statement_keeps : (s : Statement) (rest : Statements) (ls : LocalKinds) (line : List ℕ) (q : BlockPosition) (out : SilicaTerms) → Names ls q.variables → IsStatement f ls line s
        → Keeps (λ x. Names (made.locals_after ls s) x.0.variables) (statement_code f s rest q out)
    statement_keeps (resolved_declare local name of e span) rest ls line q out names is = declare_keeps f ls q names local name of e span out is.2 is.3
    statement_keeps (resolved_assign target e span) rest ls line q out names is = settles f ls q names _ (assign_keeps f ls q names target e span out is.1)
    statement_keeps (resolved_stage state g span) rest ls line q out names is = stage_keeps f ls q names line q.waiting (refused_at state span rest) g span out is.1
    statement_keeps (resolved_change state gs span) rest ls line q out names is = settles f ls q names _ (change_keeps f ls q names line q.waiting state gs span out is.1)
    statement_keeps (resolved_discard e span) rest ls line q out names is = settles f ls q names _ (discard_keeps f ls q names e span out is)
    statement_keeps (resolved_test subject state branch other span) rest ls line q out names is =
        keeps_bind (λ o. ⊤) (λ x. Names ls x.0.variables) (named_code q subject) _ (named_keeps f ls q names subject _ is.0)
        (λ o t. keeps_bind (λ b. ⊤) (λ x. Names ls x.0.variables) (block_code f branch (settled q)) _ (block_keeps branch ls (settled q) names is.1)
        (λ b t. keeps_bind (λ b. ⊤) (λ x. Names ls x.0.variables) (otherwise_code f other (settled q)) _ (otherwise_keeps other ls (settled q) names is.2) (λ b t. names)))
    statement_keeps (resolved_if condition branch other span) rest ls line q out names is =
        keeps_bind (λ o. ⊤) (λ x. Names ls x.0.variables) (condition_code f condition span q out) _ (condition_keeps f ls q names BoolKind condition span out is.0)
        (λ o t. keeps_bind (λ b. ⊤) (λ x. Names ls x.0.variables) (block_code f branch (settled q)) _ (block_keeps branch ls (settled q) names is.1)
        (λ b t. keeps_bind (λ b. ⊤) (λ x. Names ls x.0.variables) (otherwise_code f other (settled q)) _ (otherwise_keeps other ls (settled q) names is.2) (λ b t. names)))
    statement_keeps (resolved_while condition body span) rest ls line q out names is =
        keeps_bind (λ o. ⊤) (λ x. Names ls x.0.variables) (condition_code f condition span q no_terms) _ (condition_keeps f ls q names BoolKind condition span no_terms is.0)
        (λ o t. keeps_bind (λ b. ⊤) (λ x. Names ls x.0.variables) (block_code f body (settled q)) _ (block_keeps body ls (settled q) names is.1) (λ b t. names))
    statement_keeps (resolved_return e span) rest ls line q out names is = settles f ls q names _ (return_keeps f ls q names f.result e span out is)
    statement_keeps (resolved_revert e span) rest ls line q out names is = settles f ls q names _ (revert_keeps f ls q names Text e span out is)
    statement_keeps (resolved_disown subject span) rest ls line q out names is =
        keeps_bind (λ o. ⊤) (λ x. Names ls x.0.variables) (named_code q subject) _ (named_keeps f ls q names subject _ is) (λ o t. names)
    statement_keeps (resolved_assert subject perm span) rest ls line q out names is =
        keeps_bind (λ o. ⊤) (λ x. Names ls x.0.variables) (named_code q subject) _ (named_keeps f ls q names subject _ is) (λ o t. names)

    pub statements_keep : (ss : Statements) (ls : LocalKinds) (line : List ℕ) (q : BlockPosition) (out : SilicaTerms) → Names ls q.variables → AreStatements f ls line ss
        → Keeps (λ x. ⊤) (statements_code f ss q out)
    statements_keep no_statements ls line q out names are = tt
    statements_keep (and_statement s rest) ls line q out names are =
        keeps_bind (λ x. Names (made.locals_after ls s) x.0.variables) (λ x. ⊤) (statement_code f s rest q out) _ (statement_keeps s rest ls line q out names are.0)
        (λ x next. statements_keep rest (made.locals_after ls s) (rest_of_row line s) x.0 x.1 next are.2)

    pub block_keeps : (block : Block) (ls : LocalKinds) (q : BlockPosition) → Names ls q.variables → IsBlock f ls block → Keeps (λ ts. ⊤) (block_code f block q)
    block_keeps (resolved_block ss end) ls q names is =
        keeps_bind (λ x. ⊤) (λ ts. ⊤) (statements_code f ss (settled q) no_terms) _ (statements_keep ss ls [] (settled q) no_terms names is) (λ x t. tt)

    pub otherwise_keeps : (other : Otherwise) (ls : LocalKinds) (q : BlockPosition) → Names ls q.variables → IsOtherwise f ls other → Keeps (λ ts. ⊤) (otherwise_code f other q)
    otherwise_keeps no_otherwise ls q names is = tt
    otherwise_keeps (otherwise_block block) ls q names is = block_keeps block ls q names is
