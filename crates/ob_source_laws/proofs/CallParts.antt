-- Calls, by the calls in their bodies.
use Rattle.std.proofs.Common.{ℕ, zero, suc, ◌<◌, ◌≤◌, List, length, Some, None, arith}
use Rattle.std.specs.Prelude.{nat_le}
use Rattle.ob_base.specs.Limits.{most_objects}
use Rattle.ob_base.specs.declared.id.ContractId.{ContractId}
use Rattle.ob_base.specs.declared.id.TxId.{TxId}
use Rattle.ob_table.specs.Tables.{ClassTable, contract_at, signature_at, signature_of, body_at}
use Rattle.ob_table.specs.declared.contract.Signature.{Signature}
use Rattle.ob_table.specs.declared.contract.Contract.{Contract}
use Rattle.ob_table_spec.specs.WellFormed.{constructor_at}
use Rattle.ob_heap_spec.specs.Values.{Value}
use Rattle.ob_heap_spec.specs.Worlds.{World, next_item, by_reentry, by_full, with_read, read_object, make_object}
use Rattle.ob_heap_spec.specs.Marks.{is_in_progress, enter}
use Rattle.ob_source_meaning.specs.Frames.{SourceFrame, first_locals, Callee, of_object, of_this, of_new, Calls}
use Rattle.ob_heap_spec.specs.GoingWrong.{is_finished, may_pass, may_begin, may_return}
use Rattle.ob_source_meaning.specs.Bodies.{args_come, comes_in, result_of, run_body, run_transaction}
use Rattle.ob_source_meaning.specs.Calls.{run_on, entered, dispatch, call_after_unit, call_on_this, constructing, construct, new_after_unit, call_with, no_calls, call_at}
use Rattle.ob_heap_spec.specs.Dispatch.{answering}
use Rattle.ob_heap_spec.specs.Objects.{unfinished}
use Rattle.ob_source_laws.specs.Laws.{this_of}
use Rattle.ob_source_laws.proofs.Follows.{follows_read, follows_read_object, follows_make, told_read, told_made}
use Rattle.ob_source_laws.proofs.Marking.{follows_args, follows_this, follows_in, follows_result}
use Rattle.ob_source_laws.proofs.Alike.{Alike, later, alike_gives, alike_here, alike_aborts, alike_right, alike_some, alike_object, alike_unless, alike_then, alike_unit_more, alike_narrower, ends_progress, CallsAlike}
use Rattle.ob_source_laws.proofs.StatementParts.{all_alike}

module _ (m : ℕ) (c d : Calls) (called : CallsAlike m c d) where
  body_alike : (f : SourceFrame) (tx : TxId) (s : Signature) (args : List Value) (w : World) → w.fuel < m
      → Alike (Some f.this) w (run_body c f tx s args w) (run_body d f tx s args w)
  body_alike f tx s args w lt =
      alike_some (body_at f.table f.here tx) _ _
      (λ body. alike_then m _ _ (all_alike m c d called f body.statements (first_locals s.params args) w lt) lt
      (λ flow w1 lt1. alike_right (may_return f.table w1.objects f.here s f.this args (result_of flow))
      (alike_here w1 _)))

  transaction_alike : (f : SourceFrame) (tx : TxId) (s : Signature) (args : List Value) (w : World) → w.fuel < m
      → Alike (Some f.this) w (run_transaction c f tx s args w) (run_transaction d f tx s args w)
  transaction_alike f tx s args w lt =
      alike_then m _ _ (body_alike f tx s args w lt) lt (λ r w1 lt1. alike_gives _ (follows_result w1 s.result r))

  on_alike : (f : SourceFrame) (tx : TxId) (s : Signature) (args : List Value) (w : World) → w.fuel < m
      → Alike (Some f.this) w (run_on c f tx s args w) (run_on d f tx s args w)
  on_alike f tx s args w lt =
      alike_right (may_begin f.table w.objects f.here s f.this args)
      (ends_progress f.this (transaction_alike f tx s args (enter f.this w) lt))

  dispatch_alike : (table : ClassTable) (n : ℕ) (declared : ContractId) (tx : TxId) (asked : Signature)
      (args : List Value) (w : World)
      → w.fuel < m
      → Alike (Some n) w (dispatch table c n declared tx asked args w) (dispatch table d n declared tx asked args w)
  dispatch_alike table n declared tx asked args w lt =
      alike_object w n _ _
      (λ o. alike_some (contract_at table o.contract) _ _
      (λ own. alike_some (answering declared tx asked o.contract own) _ _
      (λ t. alike_some (signature_at own t) _ _ (λ s. on_alike (entered table n o own s) t s args w lt))))

  called_alike : (table : ClassTable) (n : ℕ) (declared : ContractId) (tx : TxId) (asked : Signature)
      (args : List Value) (w : World)
      → w.fuel < m
      → Alike None w (call_after_unit table c n declared tx asked args w)
      (call_after_unit table d n declared tx asked args w)
  called_alike table n declared tx asked args w lt =
      let f = follows_read_object w n in
      later f
      (alike_unless (is_in_progress (read_object w n) n) (by_reentry n)
      (alike_narrower n (told_read w n)
      (dispatch_alike table n declared tx asked args (read_object w n) (omega (arith, f.fuel, lt)))))

  this_alike : (f : SourceFrame) (tx : TxId) (s : Signature) (args : List Value) (w : World) → w.fuel < m
      → Alike (Some f.this) w (call_on_this c f tx s args w) (call_on_this d f tx s args w)
  this_alike f tx s args w lt =
      alike_right (may_begin f.table w.objects f.here s f.this args) (transaction_alike f tx s args w lt)

  construct_alike : (f : SourceFrame) (s : Signature) (args : List Value) (w : World) → w.fuel < m
      → Alike (Some f.this) w (construct c f s args w) (construct d f s args w)
  construct_alike f s args w lt =
      alike_then m _ _ (body_alike f _ s args w lt) lt
      (λ r w1 lt1. alike_object w1 f.this _ _
      (λ o. alike_right (is_finished f.own o) (alike_gives _ (follows_this w1 f.here s.exit f.this))))

  new_alike : (table : ClassTable) (contract : ContractId) (own : Contract) (s : Signature) (args : List Value)
      (w : World)
      → w.fuel < m
      → Alike None w (new_after_unit table c contract own s args w) (new_after_unit table d contract own s args w)
  new_alike table contract own s args w lt =
      later (follows_read w next_item)
      (alike_unless (nat_le most_objects (length w.objects)) by_full
      (alike_right (may_pass table w.objects s.params args)
      (later (follows_make w1 (unfinished contract))
      (alike_narrower (length w.objects) (told_made w1 (unfinished contract))
      (construct_alike (constructing table (length w.objects) contract own) s args (make_object w1
      (unfinished contract)) lt)))))
    where
      w1 : World
      w1 = with_read w next_item

  each_alike : (table : ClassTable) (callee : Callee) (args : List Value) (w : World) → w.fuel ≤ m
      → Alike (this_of callee) w (call_with table c callee args w) (call_with table d callee args w)
  each_alike table (of_object n declared tx) args w le =
      alike_some (signature_of table declared tx) _ _
      (λ asked. let f = follows_in w declared asked n args in
      later f
      (alike_unit_more m (comes_in declared asked n args w) _ _ (omega (arith, f.fuel, le))
      (λ v lt. called_alike table n declared tx asked args v lt)))
  each_alike table (of_this f tx) args w le =
      alike_some (signature_at f.own tx) _ _
      (λ s. let g = follows_in w f.here s f.this args in
      later g
      (alike_unit_more m (comes_in f.here s f.this args w) _ _ (omega (arith, g.fuel, le))
      (λ v lt. this_alike f tx s args v lt)))
  each_alike table (of_new contract) args w le =
      alike_some (contract_at table contract) _ _
      (λ own. alike_some (constructor_at table contract) _ _
      (λ s. let g = follows_args w s.params args in
      later g
      (alike_unit_more m (args_come s.params args w) _ _ (omega (arith, g.fuel, le))
      (λ v lt. new_alike table contract own s args v lt))))

  -- one call more
  pub with_alike : (table : ClassTable) → CallsAlike (suc m) (call_with table c) (call_with table d)
  with_alike table = record { by = λ callee args w lt. each_alike table callee args w (omega (arith, lt)) }

none_alike : (m : ℕ) → CallsAlike m no_calls no_calls
none_alike m = record { by = λ callee args w lt. alike_aborts w _ }

-- with few units at most
weaker : {m n : ℕ} {c d : Calls} → m ≤ n → CallsAlike n c d → CallsAlike m c d
weaker le a = record { by = λ callee args w lt. a.by callee args w (omega (arith, lt, le)) }

-- calls of one depth, with any units
pub calls_alike : (table : ClassTable) (depth m : ℕ) → CallsAlike m (call_at table depth) (call_at table depth)
calls_alike table zero m = weaker (omega arith) (with_alike m no_calls no_calls (none_alike m) table)
calls_alike table (suc depth) m =
    weaker (omega arith) (with_alike m (call_at table depth) (call_at table depth) (calls_alike table depth m) table)

nothing_alike : (c d : Calls) → CallsAlike 0 c d
nothing_alike c d = record { by = λ callee args w lt. absurd (omega (arith, lt)) }

-- calls of two depths, where no more units are left than the less deep one is deep
pub deeper_alike : (table : ClassTable) (depth deeper : ℕ) → depth ≤ deeper
    → CallsAlike (suc depth) (call_at table depth) (call_at table deeper)
deeper_alike table zero zero le = calls_alike table 0 1
deeper_alike table zero (suc deeper) le =
    with_alike 0 no_calls (call_at table deeper) (nothing_alike no_calls (call_at table deeper)) table
deeper_alike table (suc depth) zero le = absurd (omega (arith, le))
deeper_alike table (suc depth) (suc deeper) le =
    with_alike (suc depth) (call_at table depth) (call_at table deeper)
    (deeper_alike table depth deeper (omega (arith, le))) table
