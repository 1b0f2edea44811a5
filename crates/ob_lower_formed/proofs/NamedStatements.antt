-- The terms of statements name states of contracts of the table.
use native.Mathlib.Omega.{arith}
use Rattle.std.proofs.Common.{◌≡◌, ℕ, ◌<◌, ◌≤◌, List, [], length, Bool, true, false, Option, Some, None, refl, sym, subst}
use Rattle.std.specs.Prelude.{IsSomeAnd, if◌then◌else◌}
use Rattle.ob_base.specs.Limits.{most_states}
use Rattle.ob_base.specs.declared.fault.Span.{Span}
use Rattle.ob_base.specs.declared.id.ContractId.{ContractId}
use Rattle.ob_base.specs.declared.id.StateId.{StateId}
use Rattle.ob_table.specs.Expressions.{Expression}
use Rattle.ob_table.specs.Statements.{GivenField, Statement, resolved_declare, resolved_assign, resolved_stage, resolved_change, resolved_discard, resolved_test, resolved_if, resolved_while, resolved_return, resolved_revert, resolved_disown, resolved_assert, Block, resolved_block, Otherwise, no_otherwise, otherwise_block, Statements, no_statements, and_statement}
use Rattle.ob_table.specs.Tables.{contract_at}
use Rattle.ob_table.specs.declared.contract.Contract.{Contract}
use Rattle.ob_table.specs.declared.seen.Kind.{Kind}
use Rattle.ob_table.specs.declared.seen.Kind.TheVariants.{Int, Bool as BoolKind, Text, Reference}
use Rattle.ob_table_spec.specs.WellFormed.{StaticFrame, LocalKinds, RefersTo, kind_of_seen, one_ends_there, IsStatement, IsBlock, IsOtherwise, AreStatements}
use Rattle.ob_silica.specs.Terms.{if_form, SilicaTerms, no_terms, one_term, then_terms}
use Rattle.ob_silica.specs.declared.place.Operand.{Operand}
use Rattle.ob_silica.specs.declared.place.Place.{Place}
use Rattle.ob_silica.specs.declared.place.Place.TheVariants.{This, Slot, Field}
use Rattle.ob_flow_spec.specs.Numbered.{NamesStates, AllNameStates}
use Rattle.ob_lower_spec.specs.Forms.{AroundExpression, refused_at, drops, set_slot, set_place, join_of}
use Rattle.ob_lower_spec.specs.Points.{references, StagedRow, no_row, staged_row, refused_row, Point, drops_of}
use Rattle.ob_lower_spec.specs.GivenTerms.{LowersFirstStage, LowersStage}
use Rattle.ob_lower_spec.specs.StatementTerms.{LowersReturn, LowersRevert, closing, LowersStatement, LowersStatements, LowersBlock, LowersOtherwise}
use Rattle.ob_lower_formed.proofs.NamedTerms.{both, dropped, of_expression, of_discarded, of_given}

-- each contract of the table that a body is in has few states
pub record Few (f : StaticFrame) : Type 0 where
  pub here : length f.own.states ≤ most_states
  pub each : (id : ContractId) (c : Contract) → contract_at f.table id ≡ Some c → length c.states ≤ most_states

sets_slot : (kind : Kind) (k : ℕ) (o : Operand) → NamesStates (set_slot kind k o)
sets_slot Int k o = tt
sets_slot BoolKind k o = tt
sets_slot Text k o = tt
sets_slot (Reference c) k o = tt

sets_place : (kind : Kind) (place : Place) (o : Operand) → NamesStates (set_place kind place o)
sets_place kind (Slot k) o = sets_slot kind k o
sets_place (Reference c) (Field f) o = tt
sets_place Int (Field f) o = tt
sets_place BoolKind (Field f) o = tt
sets_place Text (Field f) o = tt
sets_place (Reference c) This o = tt
sets_place Int This o = tt
sets_place BoolKind This o = tt
sets_place Text This o = tt

below : (n m k : ℕ) → n < m → m ≤ k → n < k
below n m k a b = omega (arith, a, b)

-- the state of a test is one of the subject's contract
of_subject : (f : StaticFrame) (few : Few f) (s : StateId) (kind : Kind) → RefersTo f.table (λ c. s.0 < length c.states) kind → s.0 < most_states
of_subject f few s (Reference id) is = by_contract (contract_at f.table id) refl is
  where
    by_contract : (o : Option Contract) → contract_at f.table id ≡ o → IsSomeAnd o (λ c. s.0 < length c.states) → s.0 < most_states
    by_contract (Some c) e is = below s.0 (length c.states) most_states is (few.each id c e)
    by_contract None e is = absurd is
of_subject f few s Int is = absurd is
of_subject f few s BoolKind is = absurd is
of_subject f few s Text is = absurd is

of_tested : (f : StaticFrame) (few : Few f) (s : StateId) (kind : Option Kind) → IsSomeAnd kind (RefersTo f.table (λ c. s.0 < length c.states)) → s.0 < most_states
of_tested f few s (Some kind) is = of_subject f few s kind is
of_tested f few s None is = absurd is

of_return : (a : AroundExpression) (used : List ℕ) (value : Option Expression) (ts : SilicaTerms) → LowersReturn a used value ts → AllNameStates ts
of_return a used None ts e = subst AllNameStates (sym e) (tt, tt)
of_return a used (Some e) ts is = subst AllNameStates (sym is.2) (both is.0.terms _ (of_expression a used e is.0 is.1) (tt, tt))

of_revert : (a : AroundExpression) (used : List ℕ) (value : Option Expression) (ts : SilicaTerms) → LowersRevert a used value ts → AllNameStates ts
of_revert a used None ts is = subst AllNameStates (sym is.2) (tt, (tt, tt))
of_revert a used (Some e) ts is = subst AllNameStates (sym is.2) (both is.0.terms _ (of_expression a used e is.0 is.1) (tt, tt))

of_first : (f : StaticFrame) (p : Point) (refused : Option Span) (given : GivenField) (span : Span) (ts : SilicaTerms) (q : Point) → LowersFirstStage f p refused given span ts q → AllNameStates ts
of_first f p (Some at) given span ts q is = subst AllNameStates (sym is.0) (tt, tt)
of_first f p None given span ts q is = subst AllNameStates (sym is.2) (tt, of_expression _ _ given.value is.0 is.1)

of_stage : (f : StaticFrame) (p : Point) (row : StagedRow) (refused : Option Span) (given : GivenField) (span : Span) (ts : SilicaTerms) (q : Point) → LowersStage f p row refused given span ts q → AllNameStates ts
of_stage f p no_row refused given span ts q is = of_first f p refused given span ts q is
of_stage f p refused_row refused given span ts q is = subst AllNameStates (sym is.0) tt
of_stage f p (staged_row first givens made) refused given span ts q is = subst AllNameStates (sym is.2) (tt, of_expression _ _ given.value is.0 is.1)

of_end : (statements : Statements) (declared : List ℕ) (end : Span) → AllNameStates (closing statements declared end)
of_end statements declared end = by_end (one_ends_there statements)
  where
    by_end : (b : Bool) → AllNameStates (if b then no_terms else drops declared end)
    by_end true = tt
    by_end false = dropped declared end

mutual
  pub of_statement : (f : StaticFrame) (few : Few f) (ls : LocalKinds) (row : List ℕ) (s : Statement) → IsStatement f ls row s
      → (p : Point) (rest : Statements) (ts : SilicaTerms) (q : Point) → LowersStatement f p s rest ts q → AllNameStates ts
  of_statement f few ls row (resolved_declare local name of value span) made p rest ts q is =
      subst AllNameStates (sym is.4) (tt, both is.2.terms _ (of_expression _ _ value is.2 is.3) (sets_slot of is.0 is.2.operand, dropped (references is.2.made) span))
  of_statement f few ls row (resolved_assign target value span) made p rest ts q is =
      subst AllNameStates (sym is.6) (tt, both is.0.terms _ (of_expression _ _ value is.0 is.1) (sets_place is.2 is.4 is.0.operand, dropped (references is.0.made) span))
  of_statement f few ls row (resolved_stage state given span) made p rest ts q is = of_stage f p p.row (refused_at state span rest) given span ts q is
  of_statement f few ls row (resolved_change state given span) made p rest ts q is =
      subst AllNameStates (sym is.2) (tt, both is.0.terms _ (of_given _ _ given is.0 is.1) (below state.0 (length f.own.states) most_states made.0 few.here, dropped _ _))
  of_statement f few ls row (resolved_discard value span) made p rest ts q is =
      subst AllNameStates (sym is.2) (tt, both is.0.terms _ (of_discarded _ _ _ value is.0 is.1) (dropped _ _))
  of_statement f few ls row (resolved_test subject state branch other span) made p rest ts q is =
      subst AllNameStates (sym is.6)
      (tt, ((of_tested f few state (kind_of_seen f ls subject.of) made.0, of_block f few ls branch made.1 p is.2 is.3, of_otherwise f few ls other made.2 p is.4 is.5), tt))
  of_statement f few ls row (resolved_if condition branch other span) made p rest ts q is =
      subst AllNameStates (sym is.6) (
        tt,
        both is.0.terms (then_terms (drops_of is.0.made span) (one_term (if_form is.0.operand is.2 is.4 (join_of branch other)) span)) (of_expression _ _ condition is.0 is.1)
            (both (drops_of is.0.made span) (one_term (if_form is.0.operand is.2 is.4 (join_of branch other)) span) (dropped (references is.0.made) span)
            ((of_block f few ls branch made.1 p is.2 is.3, of_otherwise f few ls other made.2 p is.4 is.5), tt)),
      )
  of_statement f few ls row (resolved_while condition body span) made p rest ts q is =
      subst AllNameStates (sym is.4)
      (((tt, both is.0.terms (drops_of is.0.made span) (of_expression _ _ condition is.0 is.1) (dropped (references is.0.made) span)), of_block f few ls body made.1 p is.2 is.3), tt)
  of_statement f few ls row (resolved_return value span) made p rest ts q is = subst AllNameStates (sym is.2) (tt, of_return _ _ value is.0 is.1)
  of_statement f few ls row (resolved_revert text span) made p rest ts q is = subst AllNameStates (sym is.2) (tt, of_revert _ _ text is.0 is.1)
  of_statement f few ls row (resolved_disown subject span) made p rest ts q is = subst AllNameStates (sym is.2) (tt, (tt, tt))
  of_statement f few ls row (resolved_assert subject perm span) made p rest ts q is = subst AllNameStates (sym is.2) (tt, (tt, tt))

  of_statements : (f : StaticFrame) (few : Few f) (ls : LocalKinds) (row : List ℕ) (ss : Statements) → AreStatements f ls row ss
      → (p : Point) (ts : SilicaTerms) (declared : List ℕ) → LowersStatements f p ss ts declared → AllNameStates ts
  of_statements f few ls row no_statements made p ts declared is = subst AllNameStates (sym is.0) tt
  of_statements f few ls row (and_statement s rest) made p ts declared is =
      subst AllNameStates (sym is.5)
      (both is.0 is.3 (of_statement f few ls row s made.0 p rest is.0 is.1 is.2) (of_statements f few _ _ rest made.2 is.1 is.3 declared is.4))

  pub of_block : (f : StaticFrame) (few : Few f) (ls : LocalKinds) (block : Block) → IsBlock f ls block
      → (p : Point) (ts : SilicaTerms) → LowersBlock f p block ts → AllNameStates ts
  of_block f few ls (resolved_block statements end) made p ts is =
      subst AllNameStates (sym is.3) (both is.0 _ (of_statements f few ls [] statements made _ is.0 is.1 is.2) (of_end statements is.1 end))

  of_otherwise : (f : StaticFrame) (few : Few f) (ls : LocalKinds) (other : Otherwise) → IsOtherwise f ls other
      → (p : Point) (ts : SilicaTerms) → LowersOtherwise f p other ts → AllNameStates ts
  of_otherwise f few ls no_otherwise made p ts e = subst AllNameStates (sym e) tt
  of_otherwise f few ls (otherwise_block block) made p ts is = of_block f few ls block made p ts is
