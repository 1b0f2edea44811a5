-- What statements and blocks come to.
use Rattle.std.proofs.Common.{◌≡◌, ℕ, ◌≤◌, List, [], refl, sym, arith}
use Rattle.ob_base.specs.Limits.{most_slots}
use Rattle.ob_table.specs.Statements.{Statement, resolved_declare, resolved_assign, resolved_stage, resolved_change, resolved_discard, resolved_test, resolved_if, resolved_while, resolved_return, resolved_revert, resolved_disown, resolved_assert, Block, resolved_block, Otherwise, no_otherwise, otherwise_block, Statements, no_statements, and_statement}
use Rattle.ob_table_spec.specs.WellFormed.{StaticFrame}
use Rattle.ob_silica.specs.Terms.{SilicaTerms, no_terms}
use Rattle.ob_lower_spec.specs.Forms.{locals_of}
use Rattle.ob_lower_spec.specs.Points.{StagedRow, no_row, Point, inside}
use Rattle.ob_lower_spec.specs.SlotNeeds.{needs_of_block, needs_of_otherwise, needs_of_statement, needs_of_statements, Staged, none_staged}
use Rattle.ob_lower_functions.specs.StatementCode.{BlockPosition, settled, statement_code, statements_code, block_code, otherwise_code}
use Rattle.ob_lower_functions.proofs.Places.{Above, AllBelow}
use Rattle.ob_lower_functions.proofs.Terms.{then_none, between_none}
use Rattle.ob_lower_functions.proofs.Outcomes.{Comes, comes_then, comes_also}
use Rattle.ob_lower_functions.proofs.Settling.{Stands, waits_none, point, Done}
use Rattle.ob_lower_functions.proofs.Assigning.{assign_comes, disown_comes, assert_comes}
use Rattle.ob_lower_functions.proofs.Declaring.{declare_comes, discard_comes, return_comes, revert_comes}
use Rattle.ob_lower_functions.proofs.Staging.{change_comes, stage_done}
use Rattle.ob_lower_functions.proofs.Branches.{Ended, Blocked, Elsewhere, block_ends, statements_end, test_comes, if_comes, while_comes}

-- slots of a position
pub record Room (q : BlockPosition) (used : List ℕ) : Type 0 where
  pub below : AllBelow most_slots q.variables
  pub above : Above q.slots used
  pub top : q.slots ≤ most_slots

room_of : (start : ℕ) (q : BlockPosition) (used own : List ℕ) (row : StagedRow) (staged : Staged) → Stands start q used own row staged → Room (settled q) used
room_of start q used own row staged st = record { below = st.below; above = st.above; top = st.top }

begins : (q : BlockPosition) (used : List ℕ) → Room q used → Stands q.slots (settled q) used [] no_row none_staged
begins q used r = record {
  below = r.below;
  above = r.above;
  top = r.top;
  low = omega arith;
  declares = sym (between_none q.slots);
  waits = waits_none;
}

none_ended : (f : StaticFrame) (start : ℕ) (q : BlockPosition) (used own : List ℕ) (row : StagedRow) (staged : Staged) (out : SilicaTerms) → Stands start q used own row staged
    → Ended f start (point q used own row) no_statements out (q, out)
none_ended f start q used own row staged out st = record {
  ts = no_terms;
  own = own;
  lowers = (refl, refl);
  is = sym (then_none out);
  few = omega arith;
  top = st.top;
  declares = st.declares;
}

module _ (f : StaticFrame) where
  mutual
    pub statement_comes : (s : Statement) (rest : Statements) (start : ℕ) (q : BlockPosition) (used own : List ℕ) (row : StagedRow) (staged : Staged) (out : SilicaTerms)
        → Stands start q used own row staged
        → Comes (needs_of_statement f (locals_of q.variables) q.slots staged s rest) (Done f start q used own row staged s rest out) (statement_code f s rest q out)
    statement_comes (resolved_declare local name of e span) rest start q used own row staged out st =
        declare_comes f start q used own row staged rest out st local name of e span
    statement_comes (resolved_assign target e span) rest start q used own row staged out st = assign_comes f start q used own row staged rest out st target e span
    statement_comes (resolved_stage state g span) rest start q used own row staged out st = stage_done f start q used own rest out row staged state g span st
    statement_comes (resolved_change state gs span) rest start q used own row staged out st = change_comes f start q used own rest out row staged state gs span st
    statement_comes (resolved_discard e span) rest start q used own row staged out st = discard_comes f start q used own row staged rest out st e span
    statement_comes (resolved_test subject state branch other span) rest start q used own row staged out st =
        test_comes f start q used own row staged rest out st subject state branch other span (block_code f branch (settled q)) (otherwise_code f other (settled q))
        (block_comes branch (settled q) used (point q used own row) refl (room_of start q used own row staged st))
        (otherwise_comes other (settled q) used (point q used own row) refl (room_of start q used own row staged st))
    statement_comes (resolved_if condition branch other span) rest start q used own row staged out st =
        if_comes f start q used own row staged rest out st condition branch other span (block_code f branch (settled q)) (otherwise_code f other (settled q))
        (block_comes branch (settled q) used (point q used own row) refl (room_of start q used own row staged st))
        (otherwise_comes other (settled q) used (point q used own row) refl (room_of start q used own row staged st))
    statement_comes (resolved_while condition body span) rest start q used own row staged out st =
        while_comes f start q used own row staged rest out st condition body span (block_code f body (settled q))
        (block_comes body (settled q) used (point q used own row) refl (room_of start q used own row staged st))
    statement_comes (resolved_return e span) rest start q used own row staged out st = return_comes f start q used own row staged rest out st e span
    statement_comes (resolved_revert e span) rest start q used own row staged out st = revert_comes f start q used own row staged rest out st e span
    statement_comes (resolved_disown subject span) rest start q used own row staged out st = disown_comes f start q used own row staged rest out st subject span
    statement_comes (resolved_assert subject perm span) rest start q used own row staged out st = assert_comes f start q used own row staged rest out st subject perm span

    pub statements_come : (ss : Statements) (start : ℕ) (q : BlockPosition) (used own : List ℕ) (row : StagedRow) (staged : Staged) (out : SilicaTerms) → Stands start q used own row staged
        → Comes (needs_of_statements f (locals_of q.variables) q.slots staged ss) (Ended f start (point q used own row) ss out) (statements_code f ss q out)
    statements_come no_statements start q used own row staged out st = (refl, none_ended f start q used own row staged out st)
    statements_come (and_statement s rest) start q used own row staged out st =
        statements_end f start q used own row staged s rest out (statement_code f s rest q out) (λ r o. statements_code f rest r o)
        (statement_comes s rest start q used own row staged out st)
        (λ r now mine line waits o next. statements_come rest start r now mine line waits o next)

    pub block_comes : (block : Block) (q : BlockPosition) (used : List ℕ) (p : Point) → inside p ≡ point (settled q) used [] no_row → Room q used
        → Comes (needs_of_block f (locals_of q.variables) q.slots block) (Blocked f p block) (block_code f block q)
    block_comes (resolved_block ss end) q used p e r =
        comes_then (needs_of_statements f (locals_of q.variables) q.slots none_staged ss) (Ended f q.slots (point (settled q) used [] no_row) ss no_terms) (Blocked f p (resolved_block ss end))
        (statements_code f ss (settled q) no_terms) _ (statements_come ss q.slots (settled q) used [] no_row none_staged no_terms (begins q used r))
        (λ x d. (refl, block_ends f q used p ss end x e d))

    pub otherwise_comes : (other : Otherwise) (q : BlockPosition) (used : List ℕ) (p : Point) → inside p ≡ point (settled q) used [] no_row → Room q used
        → Comes (needs_of_otherwise f (locals_of q.variables) q.slots other) (Elsewhere f p other) (otherwise_code f other q)
    otherwise_comes no_otherwise q used p e r = (refl, record { lowers = refl; few = omega arith })
    otherwise_comes (otherwise_block block) q used p e r =
        comes_also (needs_of_block f (locals_of q.variables) q.slots block) (Blocked f p block) (Elsewhere f p (otherwise_block block)) (block_code f block q)
        (block_comes block q used p e r) (λ ts b. record { lowers = b.lowers; few = b.few })
