-- Each part of a run keeps what a world keeps.
use Rattle.std.proofs.Common.{◌≡◌, ℕ, suc, ◌≤◌, List, Option, Some, arith}
use Rattle.ob_table.specs.Expressions.{Expression}
use Rattle.ob_table.specs.Statements.{Statements}
use Rattle.ob_table.specs.Tables.{ClassTable}
use Rattle.ob_heap_spec.specs.Values.{Value}
use Rattle.ob_heap_spec.specs.Worlds.{World, Spent, RunOutcome, gives, aborts, wrong}
use Rattle.ob_source_meaning.specs.Frames.{SourceFrame, Locals, Callee}
use Rattle.ob_source_meaning.specs.Expressions.{value_of}
use Rattle.ob_source_meaning.specs.Statements.{run_all}
use Rattle.ob_source_meaning.specs.Calls.{call_at}
use Rattle.ob_source_laws.specs.Laws.{EndsSo, this_of}
use Rattle.ob_source_laws.proofs.Follows.{Follows, Tells}
use Rattle.ob_source_laws.proofs.ExpressionParts.{value_alike}
use Rattle.ob_source_laws.proofs.StatementParts.{all_alike}
use Rattle.ob_source_laws.proofs.CallParts.{calls_alike, deeper_alike}

-- what follows from that a world follows another
pub ends_so : {A : Type 0} {t : Option ℕ} (w : World) {P : World → Type 0} {Q : Spent → Type 0} (o : RunOutcome A)
    → ((v : World) → Follows t w v → P v) → ((s : Spent) → Tells w s → Q s) → EndsSo (Follows t w) (Tells w) o
    → EndsSo P Q o
ends_so w (gives a v) p q e = p v e
ends_so w (aborts cause s) p q e = q s e
ends_so w wrong p q e = tt

pub calls_follow : (table : ClassTable) (depth : ℕ) (callee : Callee) (args : List Value) (w : World)
    → EndsSo (Follows (this_of callee) w) (Tells w) (call_at table depth callee args w)
calls_follow table depth callee args w = ((calls_alike table depth (suc w.fuel)).by callee args w (omega arith)).follows

pub values_follow : (table : ClassTable) (depth : ℕ) (f : SourceFrame) (e : Expression) (ls : Locals) (w : World)
    → EndsSo (Follows (Some f.this) w) (Tells w) (value_of (call_at table depth) f e ls w)
values_follow table depth f e ls w =
    (value_alike (suc w.fuel) (call_at table depth) (call_at table depth) (calls_alike table depth
    (suc w.fuel)) f e ls w
    (omega arith)).follows

pub bodies_follow : (table : ClassTable) (depth : ℕ) (f : SourceFrame) (ss : Statements) (ls : Locals) (w : World)
    → EndsSo (Follows (Some f.this) w) (Tells w) (run_all (call_at table depth) f ss ls w)
bodies_follow table depth f ss ls w =
    (all_alike (suc w.fuel) (call_at table depth) (call_at table depth) (calls_alike table depth (suc w.fuel)) f ss ls w
    (omega arith)).follows

pub calls_same : (table : ClassTable) (depth deeper : ℕ) (callee : Callee) (args : List Value) (w : World)
    → w.fuel ≤ depth → depth ≤ deeper → call_at table depth callee args w ≡ call_at table deeper callee args w
calls_same table depth deeper callee args w le more =
    ((deeper_alike table depth deeper more).by callee args w (omega (arith, le))).same

pub values_same : (table : ClassTable) (depth deeper : ℕ) (f : SourceFrame) (e : Expression) (ls : Locals) (w : World)
    → w.fuel ≤ depth → depth ≤ deeper
    → value_of (call_at table depth) f e ls w ≡ value_of (call_at table deeper) f e ls w
values_same table depth deeper f e ls w le more =
    (value_alike (suc depth) (call_at table depth) (call_at table deeper)
    (deeper_alike table depth deeper more) f e ls w
    (omega (arith, le))).same

pub bodies_same : (table : ClassTable) (depth deeper : ℕ) (f : SourceFrame) (ss : Statements) (ls : Locals) (w : World)
    → w.fuel ≤ depth → depth ≤ deeper
    → run_all (call_at table depth) f ss ls w ≡ run_all (call_at table deeper) f ss ls w
bodies_same table depth deeper f ss ls w le more =
    (all_alike (suc depth) (call_at table depth) (call_at table deeper) (deeper_alike table depth deeper more) f ss ls w
    (omega (arith, le))).same
