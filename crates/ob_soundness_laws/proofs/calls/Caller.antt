-- The caller waits.
use Rattle.std.proofs.Common.{◌≡◌, ◌≢◌, ℕ, ◌+◌, ◌<◌, ◌≤◌, true, false, List, [], ◌∷◌, Option, Some, refl, sym, ap, subst, ◌∙◌, arith, ⊎_elim, inl, inr, true≢false}
use Rattle.std.proofs.lemmas.Bool.{not-true}
use Rattle.ob_perm.specs.Permissions.{shared, owns}
use Rattle.ob_table.specs.Tables.{ClassTable}
use Rattle.ob_table.specs.declared.contract.ResolvedType.{ResolvedType}
use Rattle.ob_table_spec.specs.Conditions.{IsClassTable}
use Rattle.ob_table_spec.specs.WellFormed.{kind_of_resolved}
use Rattle.ob_heap_spec.specs.Worlds.{World}
use Rattle.ob_silica.specs.Terms.{SilicaTerms}
use Rattle.ob_silica_places.specs.Places.{Location, slot, field, this}
use Rattle.ob_silica_steps.specs.Cells.{permission_in}
use Rattle.ob_silica_steps.specs.Configurations.{SilicaFrame, by_this, by_new, Loan, Ends, plain_end, test_end, lock_end, loop_end, Rest, Configuration}
use Rattle.ob_silica_steps.specs.Here.{Here, here, self_of}
use Rattle.ob_silica_steps.specs.Binding.{Bound}
use Rattle.ob_silica_formed.specs.Holdings.{Holdings, held as held_as}
use Rattle.ob_flow_spec.specs.Contexts.{BodyFrame, Context, permission_on}
use Rattle.ob_flow_spec.specs.Joining.{same_mode}
use Rattle.ob_coherent_spec.specs.Counting.{nth_object, owners}
use Rattle.ob_coherent_spec.specs.Runs.{times}
use Rattle.ob_coherent_spec.specs.Standing.{AllStand, NeedsOwner, HasItsState}
use Rattle.ob_coherent_spec.specs.Saying.{SaysOf, Says, every}
use Rattle.ob_coherent_spec.specs.Remaining.{BodyParts, body_of, Remains, HoldsSo}
use Rattle.ob_coherent_spec.specs.OpenTests.{IsTestOf, IsOpen, AreOpen, TestNoField}
use Rattle.ob_coherent_spec.specs.Waiting.{IsFrame, is_settled, is_result, tests_of, SharesThis, AreLoans, LendNoField, IsApart, gives_back_as, AwaitsResult, FieldsComeBack, waiting_here, Waits}
use Rattle.ob_coherent_spec.specs.Coherent.{Beginning, IsRunning}
use Rattle.ob_soundness_laws.proofs.frames.Entered.{innermost_in_progress}
use Rattle.ob_soundness_laws.proofs.frames.Near.{frame_with}
use Rattle.ob_soundness_laws.specs.places.Placed.{cell_at}
use Rattle.ob_soundness_laws.proofs.places.Keeping.{OpensKept, opens_kept}
use Rattle.ob_soundness_laws.proofs.places.Finding.{sits_read}
use Rattle.ob_soundness_laws.proofs.places.Alike.{says_alike, reads_alike}
use Rattle.ob_soundness_laws.proofs.places.Holding.{held_alike}
use Rattle.ob_soundness_laws.specs.calls.Binds.{in_both, in_rest, Binds}
use Rattle.ob_soundness_laws.proofs.calls.Running.{running_sits}
use Rattle.ob_soundness_laws.proofs.calls.BindingAll.{was_set}
use Rattle.ob_soundness_laws.proofs.calls.Called.{left_waiting, called_on}

-- Tests stay open where the objects of a world stay.

module _ (b : BodyFrame) (h : Here) (w : World) (same : w.objects ≡ h.world.objects) where
  test_alike : (p : Location) (n : ℕ) → IsTestOf b h p n → IsTestOf b (record h { world = w }) p n
  test_alike p n t = record {
    inside = t.inside;
    cell = t.cell;
    found = reads_alike h w same b.table p ∙ t.found;
    object = t.object;
  }

  shared_alike : (n : ℕ) → (nth_object h.world.objects n).shared ≡ true → (nth_object w.objects n).shared ≡ true
  shared_alike n e = ap (λ os. (nth_object os n).shared) same ∙ e

  open_alike : (ends : Ends) → IsOpen b h ends → IsOpen b (record h { world = w }) ends
  open_alike plain_end a = a
  open_alike (test_end p) a = (a.0, test_alike p (self_of h.slots) a.1, shared_alike (self_of h.slots) a.2)
  open_alike (lock_end p n) a = (a.0, test_alike p n a.1, shared_alike n a.2)
  open_alike (loop_end first x body end) a = a

  pub opens_alike : (outer : List Rest) → AreOpen b h outer → AreOpen b (record h { world = w }) outer
  opens_alike [] a = tt
  opens_alike (r ∷ outer) a = (open_alike r.ends a.0, a.1, opens_alike outer a.2)

module _ (table : ClassTable) (made : IsClassTable table) (entry : Option ℕ) (beginning : Beginning) (c : Configuration)
    (k : IsRunning table entry beginning c) (b : Bound) (g : Context) (n : ℕ)
    (binds : Binds table c k.whole.parts b g n) where
  -- tests stay open
  pub bound_opens : AreOpen (body_of table c.frame k.whole.parts) b.from k.outer
  bound_opens = opens_kept (body_of table c.frame k.whole.parts) (here c) b.from binds.stays k.outer kept k.opens
    where
      kept : OpensKept table k.outer (here c) b.from
      kept q z tested e =
          let r = binds.alike q z
          (sym (sits_read table made c.frame k.whole.parts (here c) k.context
          (running_sits table made entry beginning c k) q) ∙ e) in
          (r.0, sits_read table made c.frame k.whole.parts b.from g binds.sits q ∙ r.1, r.2)

  module _ (callee : SilicaFrame) (called : BodyParts) (terms rest : SilicaTerms) (outer : List Rest)
      (result : Option ℕ)
      (loans : List Loan) (w : World) (same_outer : outer ≡ k.outer) (objects : w.objects ≡ b.from.world.objects)
      (progress : (m : ℕ) → times m c.world.progress ≤ times m w.progress)
      (locked : w.locked ≡ c.world.locked)
      (fewer : (m : ℕ) → owners m (called_on c b callee terms rest outer result loans w) ≤ owners m c)
      (none : (m : ℕ) → in_both owns m b + in_rest owns m c ≡ 0
      → owners m (called_on c b callee terms rest outer result loans w) ≡ 0)
      (after : Context) (holdings : Holdings)
      (settled : (q : Location) → is_settled callee.how (left_waiting c b rest outer result loans) q ≡ true
      → after q ≡ g q)
      (held_on : (j : ℕ) → is_result result (slot j) ≡ false → holdings j ≡ k.holdings j)
      (result_held : (j : ℕ) (of : ResolvedType) → result ≡ Some j → gives_back_as callee called ≡ Some of
      → holdings j ≡ held_as (Some (kind_of_resolved of)))
      (remains : Remains (body_of table c.frame k.whole.parts) holdings after rest outer)
      (open_slots : callee.how ≡ by_this → TestNoField outer)
      (lending : AreLoans table (called_on c b callee terms rest outer result loans w) callee called
      (λ m. tests_of m callee.slots []) (waiting_here b.from.notes w
      (left_waiting c b rest outer result loans)) after loans)
      (lent_slots : callee.how ≡ by_this → LendNoField loans)
      (apart : IsApart callee.how (self_of b.from.slots) (self_of callee.slots ∷ []) (self_of callee.slots))
      (back : callee.how ≡ by_this → FieldsComeBack (body_of table c.frame k.whole.parts) after called)
      (no_constructor : callee.how ≡ by_this → c.frame.how ≢ by_new)
      (awaits : AwaitsResult (body_of table c.frame k.whole.parts) after
      (left_waiting c b rest outer result loans) result
      (gives_back_as callee called))
      (share_entered : callee.how ≡ by_this → callee.share_entered ≡ c.frame.share_entered) where
    says_now : Says (body_of table c.frame k.whole.parts) (NeedsOwner table w.objects) g
        (record b.from { world = w }) every
    says_now = subst (λ os. Says (body_of table c.frame k.whole.parts) (NeedsOwner table os) g
        (record b.from { world = w }) every)
        (sym objects) (says_alike b.from w objects (body_of table c.frame k.whole.parts)
        (NeedsOwner table b.from.world.objects) g every binds.sits.says)

    caller_shares : SharesThis (frame_with c.frame b.from.slots) (called_on c b callee terms rest outer result loans w)
        (tests_of (self_of b.from.slots) callee.slots [])
    caller_shares e =
        let x = k.whole.frame.this in
        let y = binds.alike this x k.whole.frame.set in
        let ys : y.0.note.permission ≡ shared = sym (ap permission_in y.1) ∙ e in
        let self = binds.stays.this in
        ⊎_elim
        (λ was.
        let old = k.shares (ap permission_in k.whole.frame.set ∙ was) in
        let more = progress (self_of c.frame.slots) in
        let less = fewer (self_of c.frame.slots) in
        let old_progress = old.0 in (
          subst (λ m. 0 < times m w.progress) (sym self) (omega (arith, old_progress, more)),
          ⊎_elim
              (λ few. inl (subst (λ m. owners m (called_on c b callee terms rest outer result loans w)
              ≤ tests_of (self_of b.from.slots) callee.slots []) (sym self) (omega (arith, few, less))))
              (λ z. inr (
                z.0,
                subst (λ ls. 0 < times (self_of b.from.slots) ls) (sym locked)
                    (subst (λ m. 0 < times m c.world.locked) (sym self) z.1),
              ))
              old.1,
        ))
        (λ left.
        let zero = none (self_of c.frame.slots) (left (self_of c.frame.slots) k.whole.frame.refers) in
        let old = innermost_in_progress table entry beginning c k.whole (λ made. absurd (true≢false
        (sym (binds.sits.owns_made made) ∙ ap owns e))) in
        let more = progress (self_of c.frame.slots) in (
          subst (λ m. 0 < times m w.progress) (sym self) (omega (arith, old, more)),
          inl (subst (λ m. owners m (called_on c b callee terms rest outer result loans w)
              ≤ tests_of (self_of b.from.slots) callee.slots []) (sym self) (omega (arith, zero))),
        ))
        (binds.shares this x y.0 k.whole.frame.set y.1 ys)

    -- the caller waits
    pub caller_waits : Waits table (NeedsOwner table w.objects)
        (called_on c b callee terms rest outer result loans w) callee called
        (self_of callee.slots ∷ []) (λ m. tests_of m callee.slots []) (left_waiting c b rest outer result loans)
    caller_waits = record {
      parts = k.whole.parts;
      context = after;
      holdings = holdings;
      frame = subst (λ os. IsFrame table os (frame_with c.frame b.from.slots) k.whole.parts)
          (sym objects) binds.sits.frame;
      owns_made = binds.sits.owns_made;
      cells = subst (λ os. AllStand table os b.from.slots) (sym objects) binds.sits.slots;
      says = record {
        slots = λ j e. subst (λ y. SaysOf (NeedsOwner table w.objects) y (b.from.slots j)) (sym (settled (slot j) e))
            (says_now.slots j refl);
        fields = λ j there e. subst (λ y. SaysOf (NeedsOwner table w.objects) y
            (cell_at (record b.from { world = w }) (field j)))
            (sym (settled (field j) e)) (says_now.fields j there refl);
        mode = λ e. subst (λ y. same_mode (permission_on y)
            (permission_in (b.from.slots 0)) ≡ true)
            (sym (settled this e)) (says_now.mode refl);
      };
      held = λ j y free e.
          let x = was_set table c k.whole.parts b g n binds (slot j) y e in
          subst (λ s. HoldsSo s y)
          (sym (held_on j (not-true (is_result result (slot j)) free)))
          (held_alike (k.holdings j) x.0 y x.3 (k.held j x.0 refl x.1));
      result_held = result_held;
      remains = remains;
      opens = opens_alike (body_of table c.frame k.whole.parts) b.from w objects outer
          (subst (λ o. AreOpen (body_of table c.frame k.whole.parts) b.from o) (sym same_outer) bound_opens);
      open_slots = open_slots;
      loans = lending;
      lent_slots = lent_slots;
      placed = λ other plain. subst (λ os. HasItsState table (nth_object os (self_of b.from.slots))) (sym objects)
          (binds.sits.placed plain);
      apart = apart;
      back = back;
      no_constructor = no_constructor;
      result = awaits;
      shares = caller_shares;
      share_entered = share_entered;
    }

    pub caller_parts : caller_waits.parts ≡ k.whole.parts
    unfolding caller_waits
    caller_parts = refl

    pub caller_context : caller_waits.context ≡ after
    unfolding caller_waits
    caller_context = refl
