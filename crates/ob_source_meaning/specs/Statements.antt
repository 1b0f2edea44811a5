-- What statements do; each takes a unit at its start, and a `while` one at the start of each turn (the Obsidian language
-- documentation, "Statements"; units and `while` are this project's own).
use Rattle.std.specs.Prelude.{ℕ, zero, suc, true, false, [], ◌∷◌, ◌++◌, Option, Some, None}
use Rattle.ob_table.specs.Expressions.{Expression}
use Rattle.ob_table.specs.Statements.{Statement, resolved_declare, resolved_assign, resolved_stage, resolved_change, resolved_discard, resolved_test, resolved_if, resolved_while, resolved_return, resolved_revert, resolved_disown, resolved_assert, Block, resolved_block, Otherwise, no_otherwise, otherwise_block, Statements, no_statements, and_statement}
use Rattle.ob_table.specs.declared.seen.Seen.{Seen}
use Rattle.ob_table.specs.declared.seen.Seen.TheVariants.{This, Local, Field as FieldSeen}
use Rattle.ob_heap_spec.specs.Values.{Value, bool_value, text_value, put}
use Rattle.ob_heap_spec.specs.Worlds.{World, by_revert, by_fuel, RunOutcome, gives, abort, wrong, ◌>>=◌, if_right, with_some, unit}
use Rattle.ob_heap_spec.specs.Marks.{mark_disowned}
use Rattle.ob_source_meaning.specs.Frames.{SourceFrame, SourceVariable, SourceGiven, Locals, Calls, Flow, goes_on, returns}
use Rattle.ob_heap_spec.specs.GoingWrong.{is_followed}
use Rattle.ob_source_meaning.specs.Naming.{object_seen}
use Rattle.ob_source_meaning.specs.Expressions.{value_of, operand_of, run_alone}
use Rattle.ob_source_meaning.specs.Fields.{assign_field, given_of, change_state}
use Rattle.ob_source_meaning.specs.StateTests.{test_seen, branch}

-- what follows, where the body goes on; once it has returned nothing follows
abbrev pub after : Flow → World → (Locals → World → RunOutcome Flow) → RunOutcome Flow
after (goes_on ls) w go = go ls w
after (returns result) w go = gives (returns result) w

-- a variable becomes this one
abbrev pub with_variable : ℕ → SourceVariable → Locals → Locals
with_variable n x ls = record ls { variables = put ls.variables n x }

-- a variable or a field of `this` is assigned; an assignment to `this` itself goes wrong
abbrev pub assign : SourceFrame → Seen → Value → Locals → World → RunOutcome Flow
assign f This v ls w = wrong
assign f (Local n) v ls w =
    with_some (ls.variables n) (λ x. gives (goes_on (with_variable n (record x { value = v }) ls)) w)
assign f (FieldSeen id) v ls w = assign_field f id.0 v ls w

-- one of two ways, by a truth
abbrev pub choose : Value → RunOutcome Flow → RunOutcome Flow → RunOutcome Flow
choose (bool_value true) then_go else_go = then_go
choose (bool_value false) then_go else_go = else_go
choose v then_go else_go = wrong

-- The turns of a `while`, so many at most. A turn takes a unit and evaluates the condition. Where that is true, the block
-- runs, and where the block goes on, so do the turns. With `suc w.fuel` for the bound, fuel is out before it is met.
abbrev pub turns : ℕ → (Locals → World → RunOutcome Value) → (Locals → World → RunOutcome Flow) → Locals → World
    → RunOutcome Flow
turns zero condition block ls w = abort by_fuel w
turns (suc n) condition block ls w =
    unit w
    (λ w0. condition ls w0
    >>= (λ v w1. choose v (block ls w1 >>= (λ flow w2. after flow w2 (turns n condition block))) (gives (goes_on ls) w1)))

-- a return, with the value of an expression if there is one
abbrev pub return_with : Calls → SourceFrame → Option Expression → Locals → World → RunOutcome Flow
return_with calls f None ls w = gives (returns None) w
return_with calls f (Some e) ls w = value_of calls f e ls w >>= (λ v w1. gives (returns (Some v)) w1)

-- an abort with the text that `revert` has
abbrev pub abort_with : Value → World → RunOutcome Flow
abort_with (text_value bytes) w = abort (by_revert bytes) w
abort_with v w = wrong

-- `revert`, with its text if there is one
abbrev pub revert_with : Calls → SourceFrame → Option Expression → Locals → World → RunOutcome Flow
revert_with calls f None ls w = abort (by_revert []) w
revert_with calls f (Some e) ls w = value_of calls f e ls w >>= abort_with

-- one more field is given by a staged statement
abbrev pub with_staged : SourceGiven → Locals → Locals
with_staged given ls = record ls { staged = ls.staged ++ given ∷ [] }

abbrev mutual
  -- what a statement does: it takes a unit, and then does its work; a `while` takes one at each turn
  pub run : Calls → SourceFrame → Statement → Locals → World → RunOutcome Flow
  run calls f (resolved_declare n name kind e span) ls w =
      unit w
      (λ w0. value_of calls f e ls w0
      >>= (λ v w1. gives (goes_on (with_variable n (record { value = v; kind = kind }) ls)) w1))
  run calls f (resolved_assign target e span) ls w =
      unit w (λ w0. value_of calls f e ls w0 >>= (λ v w1. assign f target.of v ls w1))
  run calls f (resolved_stage s given span) ls w =
      unit w
      (λ w0. operand_of calls f given.value ls w0
      >>= (λ x w1. gives (goes_on (with_staged (given.field.0, x) ls)) w1))
  run calls f (resolved_change s given span) ls w =
      unit w (λ w0. given_of calls f given ls w0 >>= (λ xs w1. change_state f s (ls.staged ++ xs) ls w1))
  run calls f (resolved_discard e span) ls w =
      unit w (λ w0. run_alone calls f e ls w0 >>= (λ result w1. gives (goes_on ls) w1))
  run calls f (resolved_test subject s block otherwise span) ls w =
      unit w
      (λ w0. test_seen f ls subject.of s w0
      >>= (λ t w1. branch t w1 (run_block calls f block ls) (run_otherwise calls f otherwise ls)))
  run calls f (resolved_if e block otherwise span) ls w =
      unit w
      (λ w0. value_of calls f e ls w0
      >>= (λ v w1. choose v (run_block calls f block ls w1) (run_otherwise calls f otherwise ls w1)))
  run calls f (resolved_while e block span) ls w =
      turns (suc w.fuel) (value_of calls f e) (run_block calls f block) ls w
  run calls f (resolved_return e span) ls w = unit w (λ w0. return_with calls f e ls w0)
  run calls f (resolved_revert e span) ls w = unit w (λ w0. revert_with calls f e ls w0)
  run calls f (resolved_disown subject span) ls w =
      unit w (λ w0. with_some (object_seen f ls w0 subject.of) (λ n. gives (goes_on ls) (mark_disowned n w0)))
  run calls f (resolved_assert subject perm span) ls w = unit w (λ w0. gives (goes_on ls) w0)

  -- what a block does
  pub run_block : Calls → SourceFrame → Block → Locals → World → RunOutcome Flow
  run_block calls f (resolved_block statements end) ls w = run_all calls f statements ls w

  -- what the block after `else` does, if there is one
  pub run_otherwise : Calls → SourceFrame → Otherwise → Locals → World → RunOutcome Flow
  run_otherwise calls f no_otherwise ls w = gives (goes_on ls) w
  run_otherwise calls f (otherwise_block block) ls w = run_block calls f block ls w

  -- what statements do one after another, up to one that returns
  pub run_all : Calls → SourceFrame → Statements → Locals → World → RunOutcome Flow
  run_all calls f no_statements ls w = gives (goes_on ls) w
  run_all calls f (and_statement s rest) ls w =
      if_right (is_followed s rest)
      (run calls f s ls w >>= (λ flow w1. after flow w1 (λ ls1 w2. run_all calls f rest ls1 w2)))
