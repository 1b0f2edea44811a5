-- Statements, by the calls in them.
use Rattle.std.proofs.Common.{ℕ, zero, suc, ◌<◌, true, false, ◌&&◌, List, [], ◌∷◌, ◌++◌, Option, Some, None, refl}
use Rattle.std.specs.List.{list_all}
use Rattle.ob_base.specs.declared.id.ContractId.{ContractId}
use Rattle.ob_base.specs.declared.id.StateId.{StateId}
use Rattle.ob_table.specs.Expressions.{Expression}
use Rattle.ob_table.specs.Statements.{GivenField, Statement, resolved_declare, resolved_assign, resolved_stage, resolved_change, resolved_discard, resolved_test, resolved_if, resolved_while, resolved_return, resolved_revert, resolved_disown, resolved_assert, Block, resolved_block, Otherwise, no_otherwise, otherwise_block, Statements, no_statements, and_statement}
use Rattle.ob_table.specs.declared.seen.Seen.{Seen}
use Rattle.ob_table.specs.declared.seen.Seen.TheVariants.{This, Local, Field as FieldSeen}
use Rattle.ob_heap_spec.specs.Values.{Value, int_value, bool_value, text_value, reference}
use Rattle.ob_heap_spec.specs.Objects.{has_all_values}
use Rattle.ob_heap_spec.specs.Worlds.{World, by_revert, by_state, by_fuel, RunOutcome, read_object, edit_object}
use Rattle.ob_heap_spec.specs.Marks.{is_locked, lock}
use Rattle.ob_source_meaning.specs.Frames.{SourceFrame, SourceGiven, Locals, Calls, Flow, goes_on, returns}
use Rattle.ob_heap_spec.specs.GoingWrong.{is_assignable, is_givable, is_followed}
use Rattle.ob_source_meaning.specs.Naming.{object_seen, contract_seen, values_given}
use Rattle.ob_source_meaning.specs.Expressions.{value_of}
use Rattle.ob_source_meaning.specs.Fields.{comes_into_field, assign_field, given_of, moved_to, come_into_fields, move_this, change_state}
use Rattle.ob_heap_spec.specs.Objects.{with_field}
use Rattle.ob_source_meaning.specs.StateTests.{TestOutcome, holds, holds_locking, fails, test_this, is_barred, test_object, test_other, test_seen, branch}
use Rattle.ob_source_meaning.specs.Statements.{after, assign, choose, turns, return_with, abort_with, revert_with, run, run_block, run_otherwise, run_all}
use Rattle.ob_source_laws.proofs.Follows.{follows_on, follows_edit, follows_read_object, spared_this}
use Rattle.ob_source_laws.proofs.Marking.{follows_mark_disowned, follows_field, follows_fields}
use Rattle.ob_source_laws.proofs.Alike.{Alike as AlikeFor, later, alike_gives, alike_here, alike_aborts, alike_wrong, alike_right, alike_some, alike_object, alike_unless, alike_then, alike_unit, ends_lock, CallsAlike}
use Rattle.ob_source_laws.proofs.ExpressionParts.{value_alike, operand_of_alike, alone_alike}

-- Parts without calls.

field_assigned : (f : SourceFrame) (k : ℕ) (v : Value) (ls : Locals) (w : World)
    → AlikeFor (Some f.this) w (assign_field f k v ls w) (assign_field f k v ls w)
field_assigned f k v ls w =
    alike_object w f.this _ _
    (λ o. alike_right (is_assignable f.own o k)
    (alike_gives _ (follows_on (follows_field w f.own k v) (follows_edit (comes_into_field f.own k v w)
    (with_field k v) f.this (λ x. record { contract = refl; shared = λ e. e; disowned = λ e. e }) (spared_this (comes_into_field f.own k v w) f.this)))))

assigned : (f : SourceFrame) (seen : Seen) (v : Value) (ls : Locals) (w : World)
    → AlikeFor (Some f.this) w (assign f seen v ls w) (assign f seen v ls w)
assigned f This v ls w = alike_wrong w
assigned f (Local n) v ls w = alike_some (ls.variables n) _ _ (λ x. alike_here w _)
assigned f (FieldSeen id) v ls w = field_assigned f id.0 v ls w

moved : (f : SourceFrame) (s : StateId) (given : List (ℕ × Value)) (ls : Locals) (w : World)
    → AlikeFor (Some f.this) w (move_this f s given ls w) (move_this f s given ls w)
moved f s given ls w =
    alike_right (list_all (λ g. is_givable f.own s g.0) given)
    (alike_object (edit_object (moved_to f.own s given) f.this (come_into_fields f.own given w)) f.this _ _
    (λ o. alike_right (has_all_values f.own o)
    (alike_gives _ (follows_on (follows_fields w f.own given) (follows_edit (come_into_fields f.own given w)
    (moved_to f.own s given) f.this (λ x. record { contract = refl; shared = λ e. e; disowned = λ e. e }) (spared_this (come_into_fields f.own given w) f.this))))))

changed : (f : SourceFrame) (s : StateId) (given : List SourceGiven) (ls : Locals) (w : World)
    → AlikeFor (Some f.this) w (change_state f s given ls w) (change_state f s given ls w)
changed f s given ls w =
    alike_some (values_given f ls w given) _ _
    (λ values. alike_unless (f.share_entered && is_locked w f.this) (by_state f.this None) (moved f s values ls w))

this_tested : (f : SourceFrame) (s : StateId) (w : World) → AlikeFor (Some f.this) w (test_this f s w) (test_this f s w)
this_tested f s w =
    later (follows_read_object w f.this)
    (alike_unless (f.share_entered && is_locked (read_object w f.this) f.this) (by_state f.this None)
    (alike_object (read_object w f.this) f.this _ _ (λ o. alike_here (read_object w f.this) _)))

object_tested : (f : SourceFrame) (declared : ContractId) (s : StateId) (n : ℕ) (w : World)
    → AlikeFor (Some f.this) w (test_object f declared s n w) (test_object f declared s n w)
object_tested f declared s n w =
    later (follows_read_object w n)
    (alike_object (read_object w n) n _ _
    (λ o. alike_unless (is_barred (read_object w n) n o) (by_state n None) (alike_here (read_object w n) _)))

other_tested : (f : SourceFrame) (ls : Locals) (seen : Seen) (s : StateId) (w : World)
    → AlikeFor (Some f.this) w (test_other f ls seen s w) (test_other f ls seen s w)
other_tested f ls seen s w =
    alike_some (object_seen f ls w seen) _ _
    (λ n. alike_some (contract_seen f ls seen) _ _ (λ declared. object_tested f declared s n w))

tested : (f : SourceFrame) (ls : Locals) (seen : Seen) (s : StateId) (w : World)
    → AlikeFor (Some f.this) w (test_seen f ls seen s w) (test_seen f ls seen s w)
tested f ls This s w = this_tested f s w
tested f ls (Local n) s w = other_tested f ls (Local n) s w
tested f ls (FieldSeen id) s w = other_tested f ls (FieldSeen id) s w

text_aborts : {t : Option ℕ} (v : Value) (w : World) → AlikeFor t w (abort_with v w) (abort_with v w)
text_aborts (text_value bytes) w = alike_aborts w (by_revert bytes)
text_aborts (int_value z) w = alike_wrong w
text_aborts (bool_value b) w = alike_wrong w
text_aborts (reference n) w = alike_wrong w

pub chosen : {t : Option ℕ} {w : World} (v : Value) {o p x y : RunOutcome Flow} → AlikeFor t w o p → AlikeFor t w x y
    → AlikeFor t w (choose v o x) (choose v p y)
chosen (bool_value true) a b = a
chosen (bool_value false) a b = b
chosen {w = w} (int_value z) a b = alike_wrong w
chosen {w = w} (text_value bytes) a b = alike_wrong w
chosen {w = w} (reference n) a b = alike_wrong w

-- Statements.

module _ (m : ℕ) (c d : Calls) (called : CallsAlike m c d) (f : SourceFrame) where
  abbrev Alike : {A : Type 0} → World → RunOutcome A → RunOutcome A → Type 0
  Alike w o p = AlikeFor (Some f.this) w o p

  given_alike : (gs : List GivenField) (ls : Locals) (w : World) → w.fuel < m
      → Alike w (given_of c f gs ls w) (given_of d f gs ls w)
  given_alike [] ls w lt = alike_here w []
  given_alike (g ∷ gs) ls w lt =
      alike_then m _ _ (operand_of_alike m c d called f g.value ls w lt) lt
      (λ x w1 lt1. alike_then m _ _ (given_alike gs ls w1 lt1) lt1 (λ xs w2 lt2. alike_here w2 _))

  returned : (e : Option Expression) (ls : Locals) (w : World) → w.fuel < m
      → Alike w (return_with c f e ls w) (return_with d f e ls w)
  returned None ls w lt = alike_here w _
  returned (Some e) ls w lt = alike_then m _ _ (value_alike m c d called f e ls w lt) lt (λ v w1 lt1. alike_here w1 _)

  reverted : (e : Option Expression) (ls : Locals) (w : World) → w.fuel < m
      → Alike w (revert_with c f e ls w) (revert_with d f e ls w)
  reverted None ls w lt = alike_aborts w _
  reverted (Some e) ls w lt = alike_then m _ _ (value_alike m c d called f e ls w lt) lt (λ v w1 lt1. text_aborts v w1)

  branched : (t : TestOutcome) (w : World) (o p x y : World → RunOutcome Flow) → w.fuel < m
      → ((v : World) → v.fuel < m → Alike v (o v) (p v)) → ((v : World) → v.fuel < m → Alike v (x v) (y v))
      → Alike w (branch t w o x) (branch t w p y)
  branched holds w o p x y lt a b = a w lt
  branched (holds_locking n) w o p x y lt a b = ends_lock n (a (lock n w) lt)
  branched fails w o p x y lt a b = b w lt

  pub after_alike : (flow : Flow) (w : World) (o p : Locals → World → RunOutcome Flow) → w.fuel < m
      → ((ls : Locals) (v : World) → v.fuel < m → Alike v (o ls v) (p ls v))
      → Alike w (after flow w o) (after flow w p)
  after_alike (goes_on ls) w o p lt a = a ls w lt
  after_alike (returns result) w o p lt a = alike_here w _

  turned : (n : ℕ) (e : Expression) (o p : Locals → World → RunOutcome Flow)
      → ((ls : Locals) (v : World) → v.fuel < m → Alike v (o ls v) (p ls v)) → (ls : Locals) (w : World) → w.fuel < m
      → Alike w (turns n (value_of c f e) o ls w) (turns n (value_of d f e) p ls w)
  turned zero e o p a ls w lt = alike_aborts w by_fuel
  turned (suc n) e o p a ls w lt =
      alike_unit m w _ _ lt
      (λ w0 lt0. alike_then m _ _ (value_alike m c d called f e ls w0 lt0) lt0
      (λ v w1 lt1. chosen v (alike_then m _ _ (a ls w1 lt1) lt1
      (λ flow w2 lt2. after_alike flow w2 _ _ lt2 (turned n e o p a))) (alike_here w1 _)))

  mutual
    pub run_alike : (s : Statement) (ls : Locals) (w : World) → w.fuel < m → Alike w (run c f s ls w) (run d f s ls w)
    run_alike (resolved_declare n name kind e span) ls w lt =
        alike_unit m w _ _ lt
        (λ w0 lt0. alike_then m _ _ (value_alike m c d called f e ls w0 lt0) lt0 (λ v w1 lt1. alike_here w1 _))
    run_alike (resolved_assign target e span) ls w lt =
        alike_unit m w _ _ lt
        (λ w0 lt0. alike_then m _ _ (value_alike m c d called f e ls w0 lt0) lt0
        (λ v w1 lt1. assigned f target.of v ls w1))
    run_alike (resolved_stage s g span) ls w lt =
        alike_unit m w _ _ lt
        (λ w0 lt0. alike_then m _ _ (operand_of_alike m c d called f g.value ls w0 lt0) lt0
        (λ v w1 lt1. alike_here w1 _))
    run_alike (resolved_change s gs span) ls w lt =
        alike_unit m w _ _ lt
        (λ w0 lt0. alike_then m _ _ (given_alike gs ls w0 lt0) lt0 (λ xs w1 lt1. changed f s (ls.staged ++ xs) ls w1))
    run_alike (resolved_discard e span) ls w lt =
        alike_unit m w _ _ lt
        (λ w0 lt0. alike_then m _ _ (alone_alike m c d called f e ls w0 lt0) lt0 (λ r w1 lt1. alike_here w1 _))
    run_alike (resolved_test subject s a b span) ls w lt =
        alike_unit m w _ _ lt
        (λ w0 lt0. alike_then m _ _ (tested f ls subject.of s w0) lt0
        (λ t w1 lt1. branched t w1 _ _ _ _ lt1 (λ v ltv. block_alike a ls v ltv) (λ v ltv. otherwise_alike b ls v ltv)))
    run_alike (resolved_if e a b span) ls w lt =
        alike_unit m w _ _ lt
        (λ w0 lt0. alike_then m _ _ (value_alike m c d called f e ls w0 lt0) lt0
        (λ v w1 lt1. chosen v (block_alike a ls w1 lt1) (otherwise_alike b ls w1 lt1)))
    run_alike (resolved_while e b span) ls w lt = turned (suc w.fuel) e _ _ (λ ls v ltv. block_alike b ls v ltv) ls w lt
    run_alike (resolved_return e span) ls w lt = alike_unit m w _ _ lt (λ w0 lt0. returned e ls w0 lt0)
    run_alike (resolved_revert e span) ls w lt = alike_unit m w _ _ lt (λ w0 lt0. reverted e ls w0 lt0)
    run_alike (resolved_disown subject span) ls w lt =
        alike_unit m w _ _ lt
        (λ w0 lt0. alike_some (object_seen f ls w0 subject.of) _ _ (λ n. alike_gives _ (follows_mark_disowned w0 n)))
    run_alike (resolved_assert subject perm span) ls w lt = alike_unit m w _ _ lt (λ w0 lt0. alike_here w0 _)

    pub block_alike : (b : Block) (ls : Locals) (w : World) → w.fuel < m
        → Alike w (run_block c f b ls w) (run_block d f b ls w)
    block_alike (resolved_block ss end) ls w lt = all_alike ss ls w lt

    pub otherwise_alike : (b : Otherwise) (ls : Locals) (w : World) → w.fuel < m
        → Alike w (run_otherwise c f b ls w) (run_otherwise d f b ls w)
    otherwise_alike no_otherwise ls w lt = alike_here w _
    otherwise_alike (otherwise_block b) ls w lt = block_alike b ls w lt

    pub all_alike : (ss : Statements) (ls : Locals) (w : World) → w.fuel < m
        → Alike w (run_all c f ss ls w) (run_all d f ss ls w)
    all_alike no_statements ls w lt = alike_here w _
    all_alike (and_statement s ss) ls w lt =
        alike_right (is_followed s ss)
        (alike_then m _ _ (run_alike s ls w lt) lt
        (λ flow w1 lt1. after_alike flow w1 _ _ lt1 (λ ls1 v ltv. all_alike ss ls1 v ltv)))
