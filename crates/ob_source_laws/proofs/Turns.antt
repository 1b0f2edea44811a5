-- A bound of turns that is more than the units that are left changes nothing: each turn takes a unit.
use Rattle.std.proofs.Common.{◌≡◌, ℕ, zero, suc, ◌<◌, Some, arith}
use Rattle.ob_base.specs.declared.fault.Span.{Span}
use Rattle.ob_table.specs.Expressions.{Expression}
use Rattle.ob_table.specs.Statements.{resolved_while, Block}
use Rattle.ob_heap_spec.specs.Worlds.{World, RunOutcome}
use Rattle.ob_source_meaning.specs.Frames.{SourceFrame, Locals, Calls, Flow}
use Rattle.ob_source_meaning.specs.Expressions.{value_of}
use Rattle.ob_source_meaning.specs.Statements.{turns, run, run_block}
use Rattle.ob_source_laws.specs.Laws.{turn}
use Rattle.ob_source_laws.proofs.Alike.{Alike, alike_here, alike_then, alike_unit_more, CallsAlike}
use Rattle.ob_source_laws.proofs.ExpressionParts.{value_alike}
use Rattle.ob_source_laws.proofs.StatementParts.{chosen, after_alike, block_alike}

module _ (c : Calls) (called : (m : ℕ) → CallsAlike m c c) (f : SourceFrame) (e : Expression) (b : Block) where
  -- a turn, after which the same comes from each world with fewer units
  turned : (o p : Locals → World → RunOutcome Flow) (ls : Locals) (w : World)
      → ((l : Locals) (v : World) → v.fuel < w.fuel → Alike (Some f.this) v (o l v) (p l v))
      → Alike (Some f.this) w (turn c f e b o ls w) (turn c f e b p ls w)
  turned o p ls w a =
      let m = w.fuel in
      alike_unit_more m w _ _ (omega arith)
      (λ w0 lt0. alike_then m _ _ (value_alike m c c (called m) f e ls w0 lt0) lt0
      (λ v w1 lt1. chosen v (alike_then m _ _ (block_alike m c c (called m) f b ls w1 lt1) lt1
      (λ flow w2 lt2. after_alike m c c (called m) f flow w2 _ _ lt2 a)) (alike_here w1 _)))

  enough : (n k : ℕ) (ls : Locals) (w : World) → w.fuel < n → w.fuel < k
      → Alike (Some f.this) w (turns n (value_of c f e) (run_block c f b) ls w) (turns k (value_of c f e) (run_block c f b) ls w)
  enough zero k ls w few less = absurd (omega (arith, few))
  enough (suc n) zero ls w few less = absurd (omega (arith, less))
  enough (suc n) (suc k) ls w few less =
      turned (turns n (value_of c f e) (run_block c f b)) (turns k (value_of c f e) (run_block c f b)) ls w
      (λ l v lt. enough n k l v (omega (arith, few, lt)) (omega (arith, less, lt)))

  pub done_again : (span : Span) (ls : Locals) (w : World)
      → run c f (resolved_while e b span) ls w ≡ turn c f e b (run c f (resolved_while e b span)) ls w
  done_again span ls w =
      (turned (turns w.fuel (value_of c f e) (run_block c f b)) (run c f (resolved_while e b span)) ls w
      (λ l v lt. enough w.fuel (suc v.fuel) l v lt (omega arith))).same
