-- By what an abort is.
use Rattle.std.proofs.Common.{◌≡◌, Bool, true, Option, Some, ap}
use Rattle.ob_heap_spec.specs.Worlds.{World, AbortCause, Spent, RunOutcome, aborts, ◌>>=◌, if_right, with_some}
use Rattle.ob_table.specs.Statements.{ResolvedBody}
use Rattle.ob_table.specs.Tables.{body_at}
use Rattle.ob_table.specs.declared.contract.Signature.{Signature}
use Rattle.ob_source_meaning.specs.Frames.{SourceFrame, first_locals}
use Rattle.ob_heap_spec.specs.GoingWrong.{is_followed}
use Rattle.ob_source_meaning.specs.Statements.{run, run_all}
use Rattle.ob_source_laws.proofs.aborts_leave_nothing.Goals as goal

then_aborts : {A B : Type 0} (o : RunOutcome A) (go : A → World → RunOutcome B) {cause : AbortCause} {t : Spent}
    → o ≡ aborts cause t → (o >>= go) ≡ aborts cause t
then_aborts o go e = ap (λ p. p >>= go) e

right_aborts : {A : Type 0} (b : Bool) (o : RunOutcome A) {cause : AbortCause} {t : Spent} → b ≡ true → o ≡ aborts cause t
    → if_right b o ≡ aborts cause t
right_aborts b o held e = rw held e

some_aborts : {A B : Type 0} (x : Option A) (a : A) (f : A → RunOutcome B) {cause : AbortCause} {t : Spent} → x ≡ Some a
    → f a ≡ aborts cause t → with_some x f ≡ aborts cause t
some_aborts x a f there e = rw there e

pub returns : goal.returns
returns c = record {
  statements = λ calls f s ss ls w cause t followed e.
      right_aborts (is_followed s ss) _ followed (then_aborts (run calls f s ls w) _ e);
  bodies = λ calls (f : SourceFrame) tx (s : Signature) args w cause t (body : ResolvedBody) there e.
      some_aborts (body_at f.table f.here tx) body _ there
      (then_aborts (run_all calls f body.statements (first_locals s.params args) w) _ e);
}
