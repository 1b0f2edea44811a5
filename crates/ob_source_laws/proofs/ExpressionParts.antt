-- Expressions, by the calls in them.
use Rattle.std.proofs.Common.{ℕ, ◌<◌, List, [], ◌∷◌, Option, Some, None}
use Rattle.std.specs.Prelude.{option_map}
use Rattle.ob_base.specs.declared.fault.Span.{Span}
use Rattle.ob_base.specs.declared.id.ContractId.{ContractId}
use Rattle.ob_base.specs.declared.id.TxId.{TxId}
use Rattle.ob_table.specs.Expressions.{Expression, resolved_number, resolved_text, resolved_bool, resolved_seen, resolved_unary, resolved_binary, resolved_logical, resolved_call, resolved_new, Arguments, no_arguments, and_argument}
use Rattle.ob_table.specs.declared.seen.Seen.{Seen}
use Rattle.ob_table.specs.declared.seen.SeenAt.{SeenAt}
use Rattle.ob_heap_spec.specs.Values.{Value}
use Rattle.ob_heap_spec.specs.Operations.{Operated, operated, overflows, other_kinds, between, before}
use Rattle.ob_heap_spec.specs.Worlds.{World, by_overflow, RunOutcome, with_some}
use Rattle.ob_source_meaning.specs.Frames.{SourceFrame, SourceOperand, named, Locals, of_object, of_this, of_new, Calls}
use Rattle.ob_source_meaning.specs.Naming.{value_seen, object_seen, reference_name, values_of_operands}
use Rattle.ob_source_meaning.specs.Expressions.{after_operation, Settled, decides, gives_right, unfit, settled, after_left, operand_or, with_result, started, constructed, value_of, operands_of, operand_of, let_go, run_alone}
use Rattle.ob_source_laws.proofs.Alike.{Alike as AlikeFor, alike_wider, alike_here, alike_aborts, alike_wrong, alike_some, alike_then, CallsAlike}

operation_alike : {t : Option ℕ} (w : World) (sign : Span) (x : Operated)
    → AlikeFor t w (after_operation sign x w) (after_operation sign x w)
operation_alike w sign (operated v) = alike_here w v
operation_alike w sign overflows = alike_aborts w (by_overflow sign.line)
operation_alike w sign other_kinds = alike_wrong w

pub result_alike : {t : Option ℕ} (x : Option Value) (w : World) → AlikeFor t w (with_result x w) (with_result x w)
result_alike x w = alike_some x _ _ (λ v. alike_here w v)

module _ (m : ℕ) (c d : Calls) (called : CallsAlike m c d) (f : SourceFrame) where
  abbrev Alike : {A : Type 0} → World → RunOutcome A → RunOutcome A → Type 0
  Alike w o p = AlikeFor (Some f.this) w o p

  operand_alike : (w : World) (x : Option Seen) {o p : RunOutcome Value} → w.fuel < m → Alike w o p
      → Alike w (operand_or x w o) (operand_or x w p)
  operand_alike w (Some seen) lt a = alike_here w (named seen)
  operand_alike w None lt a = alike_then m _ _ a lt (λ v w1 lt1. alike_here w1 _)

  left_alike : (s : Settled) (w : World) {o p : RunOutcome Value}
      → w.fuel < m → Alike w o p → Alike w (after_left s w o) (after_left s w p)
  left_alike (decides v) w lt a = alike_here w v
  left_alike gives_right w lt a = a
  left_alike unfit w lt a = alike_wrong w

  pub started_alike : (ls : Locals) (receiver : Option SeenAt) (contract : ContractId) (tx : TxId) (xs : List SourceOperand)
      (w : World)
      → w.fuel < m → Alike w (started c f ls receiver contract tx xs w) (started d f ls receiver contract tx xs w)
  started_alike ls None contract tx xs w lt =
      alike_some (values_of_operands f ls w xs) _ _ (λ args. called.by (of_this f tx) args w lt)
  started_alike ls (Some seen) contract tx xs w lt =
      alike_some (values_of_operands f ls w xs) _ _ (λ args. by_receiver args (object_seen f ls w seen.of))
    where
      by_receiver : (args : List Value) (o : Option ℕ)
          → Alike w (with_some (option_map (λ n. of_object n contract tx) o) (λ callee. c callee args w))
          (with_some (option_map (λ n. of_object n contract tx) o) (λ callee. d callee args w))
      by_receiver args None = alike_wrong w
      by_receiver args (Some n) = alike_wider (called.by (of_object n contract tx) args w lt)

  pub constructed_alike : (ls : Locals) (contract : ContractId) (xs : List SourceOperand) (w : World) → w.fuel < m
      → Alike w (constructed c f ls contract xs w) (constructed d f ls contract xs w)
  constructed_alike ls contract xs w lt =
      alike_some (values_of_operands f ls w xs) _ _ (λ args. alike_wider (called.by (of_new contract) args w lt))

  mutual
    pub value_alike : (e : Expression) (ls : Locals) (w : World) → w.fuel < m
        → Alike w (value_of c f e ls w) (value_of d f e ls w)
    value_alike (resolved_number z span) ls w lt = alike_here w _
    value_alike (resolved_text bytes span) ls w lt = alike_here w _
    value_alike (resolved_bool b span) ls w lt = alike_here w _
    value_alike (resolved_seen seen span) ls w lt = alike_some (value_seen f ls w seen.of) _ _ (λ v. alike_here w v)
    value_alike (resolved_unary operator sign e span) ls w lt =
        alike_then m _ _ (value_alike e ls w lt) lt (λ x w1 lt1. operation_alike w1 sign (before operator x))
    value_alike (resolved_binary operator sign left right span) ls w lt =
        alike_then m _ _ (value_alike left ls w lt) lt
        (λ x w1 lt1. alike_then m _ _ (value_alike right ls w1 lt1) lt1
        (λ y w2 lt2. operation_alike w2 sign (between operator x y)))
    value_alike (resolved_logical operator sign left right span) ls w lt =
        alike_then m _ _ (value_alike left ls w lt) lt
        (λ x w1 lt1. left_alike (settled operator x) w1 lt1 (value_alike right ls w1 lt1))
    value_alike (resolved_call receiver contract tx name args span) ls w lt =
        alike_then m _ _ (operands_alike args ls w lt) lt
        (λ xs w1 lt1. alike_then m _ _ (started_alike ls receiver contract tx xs w1 lt1) lt1
        (λ r w2 lt2. result_alike r w2))
    value_alike (resolved_new contract args span) ls w lt =
        alike_then m _ _ (operands_alike args ls w lt) lt
        (λ xs w1 lt1. alike_then m _ _ (constructed_alike ls contract xs w1 lt1) lt1 (λ r w2 lt2. result_alike r w2))

    pub operands_alike : (es : Arguments) (ls : Locals) (w : World) → w.fuel < m
        → Alike w (operands_of c f es ls w) (operands_of d f es ls w)
    operands_alike no_arguments ls w lt = alike_here w []
    operands_alike (and_argument e es) ls w lt =
        alike_then m _ _ (operand_alike w (reference_name f ls e) lt (value_alike e ls w lt)) lt
        (λ x w1 lt1. alike_then m _ _ (operands_alike es ls w1 lt1) lt1 (λ xs w2 lt2. alike_here w2 (x ∷ xs)))

  pub operand_of_alike : (e : Expression) (ls : Locals) (w : World) → w.fuel < m
      → Alike w (operand_of c f e ls w) (operand_of d f e ls w)
  operand_of_alike e ls w lt = operand_alike w (reference_name f ls e) lt (value_alike e ls w lt)

  pub alone_alike : (e : Expression) (ls : Locals) (w : World) → w.fuel < m
      → Alike w (run_alone c f e ls w) (run_alone d f e ls w)
  alone_alike (resolved_call receiver contract tx name args span) ls w lt =
      alike_then m _ _ (operands_alike args ls w lt) lt (λ xs w1 lt1. started_alike ls receiver contract tx xs w1 lt1)
  alone_alike (resolved_new contract args span) ls w lt =
      alike_then m _ _ (operands_alike args ls w lt) lt (λ xs w1 lt1. constructed_alike ls contract xs w1 lt1)
  alone_alike (resolved_number z span) ls w lt =
      alike_then m let_go let_go (operand_of_alike (resolved_number z span) ls w lt) lt (λ x w1 lt1. alike_here w1 None)
  alone_alike (resolved_text bytes span) ls w lt =
      alike_then m let_go let_go (operand_of_alike (resolved_text bytes span) ls w lt) lt (λ x w1 lt1. alike_here w1 None)
  alone_alike (resolved_bool b span) ls w lt =
      alike_then m let_go let_go (operand_of_alike (resolved_bool b span) ls w lt) lt (λ x w1 lt1. alike_here w1 None)
  alone_alike (resolved_seen seen span) ls w lt =
      alike_then m let_go let_go (operand_of_alike (resolved_seen seen span) ls w lt) lt (λ x w1 lt1. alike_here w1 None)
  alone_alike (resolved_unary operator sign e span) ls w lt =
      alike_then m let_go let_go (operand_of_alike (resolved_unary operator sign e span) ls w lt) lt (λ x w1 lt1. alike_here w1 None)
  alone_alike (resolved_binary operator sign left right span) ls w lt =
      alike_then m let_go let_go (operand_of_alike (resolved_binary operator sign left right span) ls w lt) lt (λ x w1 lt1. alike_here w1 None)
  alone_alike (resolved_logical operator sign left right span) ls w lt =
      alike_then m let_go let_go (operand_of_alike (resolved_logical operator sign left right span) ls w lt) lt (λ x w1 lt1. alike_here w1 None)
