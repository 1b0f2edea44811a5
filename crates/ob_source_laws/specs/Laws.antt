-- What is kept by each part of a run (this project's own).
use Rattle.std.specs.Prelude.{◌≡◌, ◌≢◌, ℕ, ◌+◌, ◌<◌, ◌≤◌, true, List, ◌++◌, length, Option, Some, None, Contains, IsTrue, IsSomeAnd, ⊤}
use Rattle.ob_base.specs.declared.fault.Span.{Span}
use Rattle.ob_base.specs.declared.id.TxId.{TxId}
use Rattle.ob_table.specs.Expressions.{Expression}
use Rattle.ob_table.specs.Statements.{Statement, resolved_while, Block, Statements, and_statement, ResolvedBody}
use Rattle.ob_table.specs.Tables.{ClassTable, body_at}
use Rattle.ob_table.specs.declared.contract.Signature.{Signature}
use Rattle.ob_heap_spec.specs.Values.{Value}
use Rattle.ob_heap_spec.specs.Objects.{Object}
use Rattle.ob_heap_spec.specs.Contents.{object_at}
use Rattle.ob_heap_spec.specs.Worlds.{object_item, World, AbortCause, Spent, RunOutcome, gives, aborts, wrong, ◌>>=◌, unit}
use Rattle.ob_source_meaning.specs.Frames.{SourceFrame, Locals, first_locals, Callee, of_object, of_this, of_new, Calls, Flow, goes_on}
use Rattle.ob_heap_spec.specs.GoingWrong.{is_followed}
use Rattle.ob_source_meaning.specs.Expressions.{value_of}
use Rattle.ob_source_meaning.specs.Statements.{after, choose, run, run_block, run_all}
use Rattle.ob_source_meaning.specs.Bodies.{run_body}
use Rattle.ob_source_meaning.specs.Calls.{call_at}

-- Parts of a run.

-- a law holds of each call, begun in any world
abbrev pub OfCalls : (World → RunOutcome (Option Value) → Type 0) → Type 0
OfCalls Law =
    (table : ClassTable) (depth : ℕ) (callee : Callee) (args : List Value) (w : World)
    → Law w (call_at table depth callee args w)

-- a law holds of each expression, begun in any world
abbrev pub OfExpressions : (World → RunOutcome Value → Type 0) → Type 0
OfExpressions Law =
    (table : ClassTable) (depth : ℕ) (f : SourceFrame) (e : Expression) (ls : Locals) (w : World)
    → Law w (value_of (call_at table depth) f e ls w)

-- a law holds of each list of statements, begun in any world
abbrev pub OfStatements : (World → RunOutcome Flow → Type 0) → Type 0
OfStatements Law =
    (table : ClassTable) (depth : ℕ) (f : SourceFrame) (ss : Statements) (ls : Locals) (w : World)
    → Law w (run_all (call_at table depth) f ss ls w)

-- where a part of a run gives something, the first holds of the world after it; where it aborts, the second of what it
-- has spent
abbrev pub EndsSo : {A : Type 0} → (World → Type 0) → (Spent → Type 0) → RunOutcome A → Type 0
EndsSo P Q (gives a w) = P w
EndsSo P Q (aborts cause s) = Q s
EndsSo P Q wrong = ⊤

-- Units left and units taken add up to those that were there; an aborted run has taken no more than were there.
abbrev pub UnitsAddUp : {A : Type 0} → World → RunOutcome A → Type 0
UnitsAddUp w o = EndsSo (λ w1. w1.fuel + w1.taken ≡ w.fuel + w.taken) (λ s. s.taken ≤ w.fuel + w.taken) o

-- a list is another one with more before it
abbrev pub Grows : {A : Type 0} → List A → List A → Type 0
Grows {A} xs ys = (more : List A) × (ys ≡ more ++ xs)

-- What was read stays read.
abbrev pub ReadsGrow : {A : Type 0} → World → RunOutcome A → Type 0
ReadsGrow w o = EndsSo (λ w1. Grows w.reads w1.reads) (λ s. Grows w.reads s.reads) o

-- an object before and after a part of a run: its contract is the same, and it keeps the marks that it has
pub record IsSameObject (before after : Object) : Type 0 where
  pub contract : after.contract ≡ before.contract
  pub shared : before.shared ≡ true → after.shared ≡ true
  pub disowned : before.disowned ≡ true → after.disowned ≡ true

-- From one world to a later one each object that was there is still there, at its number, with its contract and its
-- marks. So many objects were made as there are more, and they come after all that were there.
pub record KeepsObjects (w w1 : World) : Type 0 where
  pub same : (n : ℕ) (o : Object) → object_at w.objects n ≡ Some o → IsSomeAnd (object_at w1.objects n) (IsSameObject o)
  pub more : ℕ
  pub made : w1.made ≡ more + w.made
  pub count : length w1.objects ≡ more + length w.objects

-- No object goes away or becomes one of another contract, and no mark is taken off.
abbrev pub ObjectsStay : {A : Type 0} → World → RunOutcome A → Type 0
ObjectsStay w o = EndsSo (KeepsObjects w) (λ s. ⊤) o

-- From one world to a later one each object is as before that the run has neither made nor read so far, unless it is
-- `this`, where the part runs in a body of an object.
pub record KeepsUnread (this : Option ℕ) (w w1 : World) : Type 0 where
  pub same : (n : ℕ) → n + w.made < length w.objects → this ≢ Some n → (Contains w1.reads (object_item n) → ⊥)
      → object_at w1.objects n ≡ object_at w.objects n

-- What a run changes it has made or read, but for `this`, which is read where its body is entered.
abbrev pub UnreadStay : {A : Type 0} → Option ℕ → World → RunOutcome A → Type 0
UnreadStay this w o = EndsSo (KeepsUnread this w) (λ s. ⊤) o

-- the object that a call finds as `this`: a call on `this` runs on its caller's
abbrev pub this_of : Callee → Option ℕ
this_of (of_object n contract tx) = None
this_of (of_this f tx) = Some f.this
this_of (of_new contract) = None

-- What a call changes it has made or read; a call on `this` may change its caller's object too.
abbrev pub UnreadStayInCalls : Type 0
UnreadStayInCalls =
    (table : ClassTable) (depth : ℕ) (callee : Callee) (args : List Value) (w : World)
    → UnreadStay (this_of callee) w (call_at table depth callee args w)

-- What an expression changes it has made or read, or it is `this`.
abbrev pub UnreadStayInExpressions : Type 0
UnreadStayInExpressions =
    (table : ClassTable) (depth : ℕ) (f : SourceFrame) (e : Expression) (ls : Locals) (w : World)
    → UnreadStay (Some f.this) w (value_of (call_at table depth) f e ls w)

-- What statements change they have made or read, or it is `this`.
abbrev pub UnreadStayInStatements : Type 0
UnreadStayInStatements =
    (table : ClassTable) (depth : ℕ) (f : SourceFrame) (ss : Statements) (ls : Locals) (w : World)
    → UnreadStay (Some f.this) w (run_all (call_at table depth) f ss ls w)

-- Locks, and transactions in progress, end with the part of the run that began them.
abbrev pub LocksEnd : {A : Type 0} → World → RunOutcome A → Type 0
LocksEnd w o = EndsSo (λ w1. (w1.locked ≡ w.locked) × (w1.progress ≡ w.progress)) (λ s. ⊤) o

-- Where no more units are left than calls may be deep, a greater depth changes nothing.
abbrev pub DepthIsEnough : {A : Type 0} → (ℕ → World → RunOutcome A) → Type 0
DepthIsEnough part = (depth deeper : ℕ) (w : World) → w.fuel ≤ depth → depth ≤ deeper → part depth w ≡ part deeper w

-- A greater depth changes no call.
abbrev pub DepthIsEnoughForCalls : Type 0
DepthIsEnoughForCalls =
    (table : ClassTable) (callee : Callee) (args : List Value)
    → DepthIsEnough (λ depth w. call_at table depth callee args w)

-- A greater depth of calls changes no expression.
abbrev pub DepthIsEnoughForExpressions : Type 0
DepthIsEnoughForExpressions =
    (table : ClassTable) (f : SourceFrame) (e : Expression) (ls : Locals)
    → DepthIsEnough (λ depth w. value_of (call_at table depth) f e ls w)

-- A greater depth of calls changes no list of statements.
abbrev pub DepthIsEnoughForStatements : Type 0
DepthIsEnoughForStatements =
    (table : ClassTable) (f : SourceFrame) (ss : Statements) (ls : Locals)
    → DepthIsEnough (λ depth w. run_all (call_at table depth) f ss ls w)

-- Turns.

-- A turn of a `while`: it takes a unit and evaluates the condition; where that is true the block runs, and where the block
-- goes on this is done again.
abbrev pub turn : Calls → SourceFrame → Expression → Block → (Locals → World → RunOutcome Flow) → Locals → World
    → RunOutcome Flow
turn calls f condition block again ls w =
    unit w
    (λ w0. value_of calls f condition ls w0
    >>= (λ v w1. choose v (run_block calls f block ls w1 >>= (λ flow w2. after flow w2 again)) (gives (goes_on ls) w1)))

-- A `while` is a turn, after which the same `while` is done again: no run meets the bound of its turns.
abbrev pub WhileIsTurn : Type 0
WhileIsTurn =
    (table : ClassTable) (depth : ℕ) (f : SourceFrame) (condition : Expression) (block : Block) (span : Span) (ls : Locals) (w : World)
    → run (call_at table depth) f (resolved_while condition block span) ls w
    ≡ turn (call_at table depth) f condition block (run (call_at table depth) f (resolved_while condition block span)) ls w

-- Aborts.

-- Where a statement aborts, the statements that it begins do, with the same cause, having spent the same.
abbrev pub AbortEndsStatements : Type 0
AbortEndsStatements =
    (calls : Calls) (f : SourceFrame) (s : Statement) (ss : Statements) (ls : Locals) (w : World) (cause : AbortCause) (t : Spent)
    → IsTrue (is_followed s ss) → run calls f s ls w ≡ aborts cause t
    → run_all calls f (and_statement s ss) ls w ≡ aborts cause t

-- Where the statements of a body abort, so does the body.
abbrev pub AbortEndsBody : Type 0
AbortEndsBody =
    (calls : Calls) (f : SourceFrame) (tx : TxId) (s : Signature) (args : List Value) (w : World) (cause : AbortCause) (t : Spent)
    (body : ResolvedBody)
    → body_at f.table f.here tx ≡ Some body
    → run_all calls f body.statements (first_locals s.params args) w ≡ aborts cause t
    → run_body calls f tx s args w ≡ aborts cause t

-- the objects after a run on a store with these: those of the world that it gives; an abort has none to give, and they
-- stay
abbrev pub objects_after : {A : Type 0} → List Object → RunOutcome A → List Object
objects_after objects (gives a w) = w.objects
objects_after objects (aborts cause s) = objects
objects_after objects wrong = objects
