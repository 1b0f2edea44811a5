-- A caller that waits goes on waiting where an object is made.
use Rattle.std.proofs.Common.{◌≡◌, ◌≢◌, ℕ, ◌+◌, ◌<◌, ◌≤◌, true, List, [], ◌∷◌, ◌++◌, length, Some, None, refl, sym, ap, subst, ◌∙◌, arith, ⊎_elim, inl, true≢false}
use Rattle.std.proofs.lemmas.Bool.{cases_lt}
use Rattle.ob_table.specs.Tables.{ClassTable}
use Rattle.ob_table.specs.declared.contract.ResolvedType.TheVariants.{Reference as TypedReference}
use Rattle.ob_heap_spec.specs.Objects.{Object}
use Rattle.ob_silica_steps.specs.Configurations.{SilicaFrame, How, by_this, by_new, Loan, Waiting, Configuration}
use Rattle.ob_silica_steps.specs.Here.{self_of}
use Rattle.ob_flow_spec.specs.Contexts.{Context}
use Rattle.ob_coherent_spec.specs.Counting.{nth_object, field_cell, owners}
use Rattle.ob_coherent_spec.specs.Runs.{times}
use Rattle.ob_coherent_spec.specs.Standing.{AllStand, NeedsOwner}
use Rattle.ob_coherent_spec.specs.Remaining.{BodyParts, body_of}
use Rattle.ob_coherent_spec.specs.Waiting.{tests_of, AreLoans, waiting_here, gives_back_by, gives_back_as, Waits}
use Rattle.ob_soundness_laws.proofs.counting.Objects.{no_object, make_length, make_same, make_other}
use Rattle.ob_soundness_laws.proofs.frames.Near.{IsNear, frame_near, all_stand_near, says_near, opens_near, shares_near}
use Rattle.ob_soundness_laws.proofs.places.Standing.{needs_before, has_state_same}

not_on_this : (how : How) → how ≡ by_new → how ≡ by_this → ⊥
not_on_this how e i = (let z : by_this ≡ by_new = sym i ∙ e in cc)

-- Two configurations between which an object is made.
pub record IsMadeBetween (table : ClassTable) (o : Object) (c d : Configuration) : Type 0 where
  pub objects : d.world.objects ≡ c.world.objects ++ o ∷ []
  pub state : o.state ≡ None
  pub notes : d.notes ≡ c.notes
  pub locked : d.world.locked ≡ c.world.locked
  pub progress : d.world.progress ≡ c.world.progress
  pub fields : (n : ℕ) → AllStand table c.world.objects (field_cell c.notes c.world.objects n)

module _ (table : ClassTable) (o : Object) (c d : Configuration) (between : IsMadeBetween table o c d) where
  pub old_object : (m : ℕ) → m < length c.world.objects → nth_object d.world.objects m ≡ nth_object c.world.objects m
  old_object m low = ap (λ os. nth_object os m) between.objects ∙ make_other c.world o m low

  shared_stays : (m : ℕ) → (nth_object c.world.objects m).shared ≡ true → (nth_object d.world.objects m).shared ≡ true
  shared_stays m e = ⊎_elim
      (λ low. ap (λ (o : Object). o.shared) (old_object m low) ∙ e)
      (λ past. absurd (true≢false (sym e ∙ ap (λ (o : Object). o.shared) (no_object c.world.objects m past))))
      (cases_lt m (length c.world.objects))

  pub between_near : IsNear table (length c.world.objects) (λ m. m < length c.world.objects)
      (NeedsOwner table c.world.objects) (NeedsOwner table d.world.objects) c d
  between_near = record {
    count = let e = ap (λ (os : List Object). length os) between.objects in let more = make_length c.world o in
        omega (arith, e, more);
    contracts = λ m low. ap (λ (o : Object). o.contract) (old_object m low);
    states = λ m low ne. ap (λ (o : Object). o.state) (old_object m low);
    fields = λ m j low ne. ap (λ (o : Object). o.fields j) (old_object m low);
    notes = λ m j low ne. ap (λ (n : Rattle.ob_silica_steps.specs.Configurations.Notes). n.fields m j) between.notes;
    shared = shared_stays;
    progress = λ m low some. subst (λ ls. 0 < times m ls) (sym between.progress) some;
    lock_ends = λ m some. inl (subst (λ ls. 0 < times m ls) (sym between.locked) some);
    needs = λ m low must. needs_before table c.world.objects d.world.objects m low
        (ap (λ (o : Object). o.contract) (old_object m low)) (shared_stays m)
        (λ e. ap (λ (o : Object). o.disowned) (old_object m low) ∙ e) must;
    stand = between.fields;
  }

  pub low_ne : (m : ℕ) → m < length c.world.objects → m ≢ length c.world.objects
  low_ne m low e = omega (arith, low, e)

  -- The caller goes on waiting, for a callee whose slots may differ, where its loans are what they must be.
  pub waits_made : (callee next : SilicaFrame) (called : BodyParts) (tests more : ℕ → ℕ) (h : Waiting)
      → callee.how ≡ by_new → next.how ≡ by_new → next.contract ≡ callee.contract
      → self_of next.slots ≡ self_of callee.slots
      → ((m : ℕ) → m < length c.world.objects → owners m d + tests m ≤ owners m c + more m)
      → (w : Waits table (NeedsOwner table c.world.objects) c callee called (self_of callee.slots ∷ []) tests h)
      → (g : Context) → w.context ≡ g → AreLoans table d next called more (waiting_here d.notes d.world h) g h.loans
      → Waits table (NeedsOwner table d.world.objects) d next called (self_of next.slots ∷ []) more h
  waits_made callee next called tests more h how how_next contract self balanced w g told loans = record {
    parts = w.parts;
    context = w.context;
    holdings = w.holdings;
    frame = frame_near table (length c.world.objects) _ _ _ c d between_near h.frame w.parts w.frame;
    owns_made = w.owns_made;
    cells = all_stand_near table (length c.world.objects) _ _ _ c d between_near h.frame.slots w.parts.slots w.frame.few
        w.frame.unset (inl state) w.cells;
    says = subst (λ x. Rattle.ob_coherent_spec.specs.Saying.Says (body_of table h.frame w.parts) (NeedsOwner table d.world.objects)
        w.context (waiting_here d.notes d.world h) (Rattle.ob_coherent_spec.specs.Waiting.is_settled x h)) (how ∙ sym how_next)
        (says_near table (length c.world.objects) _ _ _ c d between_near (body_of table h.frame w.parts) w.context h
        (Rattle.ob_coherent_spec.specs.Waiting.is_settled callee.how h) w.frame.there
        (λ j e. low_ne (self_of h.frame.slots) w.frame.there) w.cells w.says);
    held = w.held;
    result_held = λ j of e gift. w.result_held j of e (gift_same ∙ gift);
    remains = w.remains;
    opens = opens_near table (length c.world.objects) _ _ _ c d between_near (body_of table h.frame w.parts) h h.outer refl
        w.frame.there (inl (low_ne (self_of h.frame.slots) w.frame.there)) w.opens;
    open_slots = λ e. absurd (not_on_this next.how how_next e);
    loans = subst (λ z. AreLoans table d next called more (waiting_here d.notes d.world h) z h.loans) (sym told) loans;
    lent_slots = λ e. absurd (not_on_this next.how how_next e);
    placed = λ other plain. has_state_same table (nth_object c.world.objects (self_of h.frame.slots))
        (nth_object d.world.objects (self_of h.frame.slots))
        (ap (λ (o : Object). o.contract) (old_object _ w.frame.there))
        (ap (λ (o : Object). o.state) (old_object _ w.frame.there))
        (w.placed (ap Rattle.ob_coherent_spec.specs.Waiting.is_on_this (how ∙ sym how_next) ∙ other) plain);
    apart = subst (λ x. Rattle.ob_coherent_spec.specs.Waiting.IsApart x (self_of h.frame.slots) (self_of next.slots ∷ [])
        (self_of next.slots)) (how ∙ sym how_next)
        (subst (λ i. Rattle.ob_coherent_spec.specs.Waiting.IsApart callee.how (self_of h.frame.slots) (i ∷ []) i) (sym self) w.apart);
    back = λ e. absurd (not_on_this next.how how_next e);
    no_constructor = λ e. absurd (not_on_this next.how how_next e);
    result = subst (Rattle.ob_coherent_spec.specs.Waiting.AwaitsResult (body_of table h.frame w.parts) w.context h h.result)
        gift_same w.result;
    shares = shares_near table (length c.world.objects) _ _ _ c d between_near h.frame _ _ w.frame.there
        (balanced _ w.frame.there) w.frame.there w.shares;
    share_entered = λ e. absurd (not_on_this next.how how_next e);
  }
    where
      state : (nth_object d.world.objects (length c.world.objects)).state ≡ (nth_object c.world.objects (length c.world.objects)).state
      state = ap (λ os. (nth_object os (length c.world.objects)).state) between.objects
          ∙ ap (λ (x : Object). x.state) (make_same c.world o) ∙ between.state
          ∙ sym (ap (λ (x : Object). x.state) (no_object c.world.objects (length c.world.objects) (omega arith)))

      gift_same : gives_back_as callee called ≡ gives_back_as next called
      gift_same = ap (λ x. gives_back_by x callee called) how
          ∙ ap (λ id. Some (TypedReference id called.signature.exit)) (sym contract)
          ∙ sym (ap (λ x. gives_back_by x next called) how_next)

  pub waits_made_parts : (callee next : SilicaFrame) (called : BodyParts) (tests more : ℕ → ℕ) (h : Waiting)
      (how : callee.how ≡ by_new) (how_next : next.how ≡ by_new) (contract : next.contract ≡ callee.contract)
      (self : self_of next.slots ≡ self_of callee.slots)
      (balanced : (m : ℕ) → m < length c.world.objects → owners m d + tests m ≤ owners m c + more m)
      (w : Waits table (NeedsOwner table c.world.objects) c callee called (self_of callee.slots ∷ []) tests h)
      (g : Context) (told : w.context ≡ g)
      (loans : AreLoans table d next called more (waiting_here d.notes d.world h) g h.loans)
      → (waits_made callee next called tests more h how how_next contract self balanced w g told loans).parts ≡ w.parts
  unfolding waits_made
  waits_made_parts callee next called tests more h how how_next contract self balanced w g told loans = refl
