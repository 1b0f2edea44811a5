-- Statements whose end isn't reached.
use Rattle.std.proofs.Common.{◌≡◌, ℕ, zero, suc, Bool, true, false, ◌&&◌, ◌||◌, Option, Some, None, refl, sym, ap, ◌∙◌, true≢false}
use Rattle.std.specs.Prelude.{⊤}
use Rattle.ob_table.specs.Expressions.{Expression}
use Rattle.ob_table.specs.Statements.{Statement, resolved_declare, resolved_assign, resolved_stage, resolved_change, resolved_discard, resolved_test, resolved_if, resolved_while, resolved_return, resolved_revert, resolved_disown, resolved_assert, Block, resolved_block, Otherwise, no_otherwise, otherwise_block, Statements, no_statements, and_statement}
use Rattle.ob_table_spec.specs.WellFormed.{ends_there, block_ends_there, other_ends_there, one_ends_there}
use Rattle.ob_heap_spec.specs.Values.{Value, int_value, bool_value, text_value, reference}
use Rattle.ob_heap_spec.specs.Worlds.{World, RunOutcome, gives, aborts, wrong, ◌>>=◌, if_right, unit, with_fuel, with_unit_taken}
use Rattle.ob_heap_spec.specs.Marks.{lock, unlock}
use Rattle.ob_source_meaning.specs.Frames.{SourceFrame, Locals, Calls, Flow, goes_on, returns}
use Rattle.ob_heap_spec.specs.GoingWrong.{is_followed}
use Rattle.ob_source_meaning.specs.StateTests.{TestOutcome, holds, holds_locking, fails, test_seen, branch}
use Rattle.ob_source_meaning.specs.Expressions.{value_of}
use Rattle.ob_source_meaning.specs.Statements.{after, choose, return_with, abort_with, revert_with, run, run_block, run_otherwise, run_all}

-- a part of a body doesn't go on
abbrev pub StopsBy : RunOutcome Flow → Type 0
StopsBy (gives (goes_on ls) w) = ⊥
StopsBy (gives (returns r) w) = ⊤
StopsBy (aborts cause s) = ⊤
StopsBy wrong = ⊤

pub record Stops (o : RunOutcome Flow) : Type 0 where
  pub by : StopsBy o

fuel_stops : (n : ℕ) (w : World) (go : World → RunOutcome Flow) → ((v : World) → Stops (go v)) → Stops (with_fuel n w go)
fuel_stops zero w go each = record { by = tt }
fuel_stops (suc n) w go each = each (with_unit_taken w n)

unit_stops : (w : World) (go : World → RunOutcome Flow) → ((v : World) → Stops (go v)) → Stops (unit w go)
unit_stops w go each = fuel_stops w.fuel w go each

part_stops : {A : Type 0} (o : RunOutcome A) (go : A → World → RunOutcome Flow) → ((v : A) (w : World) → Stops (go v w)) → Stops (o >>= go)
part_stops (gives v w) go each = each v w
part_stops (aborts cause s) go each = record { by = tt }
part_stops wrong go each = record { by = tt }

stopped_stops : (o : RunOutcome Flow) (go : World → World) → Stops o → Stops (o >>= (λ flow w. gives flow (go w)))
stopped_stops (gives (goes_on ls) w) go s = absurd s.by
stopped_stops (gives (returns r) w) go s = record { by = tt }
stopped_stops (aborts cause t) go s = record { by = tt }
stopped_stops wrong go s = record { by = tt }

first_stops : (o : RunOutcome Flow) (go : Locals → World → RunOutcome Flow) → Stops o → Stops (o >>= (λ flow w. after flow w go))
first_stops (gives (goes_on ls) w) go s = absurd s.by
first_stops (gives (returns r) w) go s = record { by = tt }
first_stops (aborts cause t) go s = record { by = tt }
first_stops wrong go s = record { by = tt }

later_stops : (o : RunOutcome Flow) (go : Locals → World → RunOutcome Flow) → ((ls : Locals) (w : World) → Stops (go ls w)) → Stops (o >>= (λ flow w. after flow w go))
later_stops (gives (goes_on ls) w) go each = each ls w
later_stops (gives (returns r) w) go each = record { by = tt }
later_stops (aborts cause t) go each = record { by = tt }
later_stops wrong go each = record { by = tt }

right_stops : (b : Bool) (o : RunOutcome Flow) → Stops o → Stops (if_right b o)
right_stops true o s = s
right_stops false o s = record { by = tt }

branch_stops : (t : TestOutcome) (w : World) (x y : World → RunOutcome Flow) → ((v : World) → Stops (x v)) → ((v : World) → Stops (y v)) → Stops (branch t w x y)
branch_stops holds w x y a b = a w
branch_stops (holds_locking n) w x y a b = stopped_stops (x (lock n w)) (unlock n) (a (lock n w))
branch_stops fails w x y a b = b w

choose_stops : (v : Value) (x y : RunOutcome Flow) → Stops x → Stops y → Stops (choose v x y)
choose_stops (bool_value true) x y a b = a
choose_stops (bool_value false) x y a b = b
choose_stops (int_value z) x y a b = record { by = tt }
choose_stops (text_value z) x y a b = record { by = tt }
choose_stops (reference z) x y a b = record { by = tt }

return_stops : (calls : Calls) (f : SourceFrame) (e : Option Expression) (ls : Locals) (w : World) → Stops (return_with calls f e ls w)
return_stops calls f None ls w = record { by = tt }
return_stops calls f (Some e) ls w = part_stops (value_of calls f e ls w) _ (λ v w1. record { by = tt })

text_stops : (v : Value) (w : World) → Stops (abort_with v w)
text_stops (text_value z) w = record { by = tt }
text_stops (int_value z) w = record { by = tt }
text_stops (bool_value z) w = record { by = tt }
text_stops (reference z) w = record { by = tt }

revert_stops : (calls : Calls) (f : SourceFrame) (e : Option Expression) (ls : Locals) (w : World) → Stops (revert_with calls f e ls w)
revert_stops calls f None ls w = record { by = tt }
revert_stops calls f (Some e) ls w = part_stops (value_of calls f e ls w) abort_with text_stops

both : (a b : Bool) → (a && b) ≡ true → (a ≡ true) × (b ≡ true)
both true b e = (refl, e)
both false b e = absurd (true≢false (sym e))

mutual
  statement_stops : (calls : Calls) (f : SourceFrame) (x : Statement) (ls : Locals) (w : World) → ends_there x ≡ true → Stops (run calls f x ls w)
  statement_stops calls f (resolved_return e sp) ls w h = unit_stops w _ (λ v. return_stops calls f e ls v)
  statement_stops calls f (resolved_revert e sp) ls w h = unit_stops w _ (λ v. revert_stops calls f e ls v)
  statement_stops calls f (resolved_test subject s b o sp) ls w h =
      let e = both (block_ends_there b) (other_ends_there o) h in
      unit_stops w _ (λ v. part_stops (test_seen f ls subject.of s v) _ (λ t w1. branch_stops t w1 _ _ (λ u. block_stops calls f b ls u e.0) (λ u. otherwise_stops calls f o ls u e.1)))
  statement_stops calls f (resolved_if c b o sp) ls w h =
      let e = both (block_ends_there b) (other_ends_there o) h in
      unit_stops w _ (λ v. part_stops (value_of calls f c ls v) _ (λ u w1. choose_stops u _ _ (block_stops calls f b ls w1 e.0) (otherwise_stops calls f o ls w1 e.1)))
  statement_stops calls f (resolved_declare n name of value sp) ls w h = absurd (true≢false (sym h))
  statement_stops calls f (resolved_assign target value sp) ls w h = absurd (true≢false (sym h))
  statement_stops calls f (resolved_stage s g sp) ls w h = absurd (true≢false (sym h))
  statement_stops calls f (resolved_change s g sp) ls w h = absurd (true≢false (sym h))
  statement_stops calls f (resolved_discard value sp) ls w h = absurd (true≢false (sym h))
  statement_stops calls f (resolved_while c b sp) ls w h = absurd (true≢false (sym h))
  statement_stops calls f (resolved_disown subject sp) ls w h = absurd (true≢false (sym h))
  statement_stops calls f (resolved_assert subject perm sp) ls w h = absurd (true≢false (sym h))

  block_stops : (calls : Calls) (f : SourceFrame) (b : Block) (ls : Locals) (w : World) → block_ends_there b ≡ true → Stops (run_block calls f b ls w)
  block_stops calls f (resolved_block xs end) ls w h = all_stop calls f xs ls w h

  otherwise_stops : (calls : Calls) (f : SourceFrame) (o : Otherwise) (ls : Locals) (w : World) → other_ends_there o ≡ true → Stops (run_otherwise calls f o ls w)
  otherwise_stops calls f no_otherwise ls w h = absurd (true≢false (sym h))
  otherwise_stops calls f (otherwise_block b) ls w h = block_stops calls f b ls w h

  -- the end of a list that ends there isn't reached
  pub all_stop : (calls : Calls) (f : SourceFrame) (xs : Statements) (ls : Locals) (w : World) → one_ends_there xs ≡ true → Stops (run_all calls f xs ls w)
  all_stop calls f no_statements ls w h = absurd (true≢false (sym h))
  all_stop calls f (and_statement x xs) ls w h =
      list_stops (ends_there x) refl h (λ e. right_stops (is_followed x xs) _ (first_stops (run calls f x ls w) _ (statement_stops calls f x ls w e)))
      (λ e. right_stops (is_followed x xs) _ (later_stops (run calls f x ls w) _ (λ us v. all_stop calls f xs us v e)))
    where
      list_stops : (b : Bool) → ends_there x ≡ b → (ends_there x || one_ends_there xs) ≡ true → (ends_there x ≡ true → Stops (run_all calls f (and_statement x xs) ls w)) → (one_ends_there xs ≡ true → Stops (run_all calls f (and_statement x xs) ls w)) → Stops (run_all calls f (and_statement x xs) ls w)
      list_stops true e h one others = one e
      list_stops false e h one others = others (sym (ap (λ b. b || one_ends_there xs) e) ∙ h)
