-- A step that opens and ends no test keeps what is so of the whole.
use Rattle.std.proofs.Common.{◌≡◌, ℕ, ◌+◌, ◌<◌, ◌≤◌, ◌⊎◌, inl, inr, ⊎_elim, nat_eq, List, Option, refl, sym, ap, ◌∙◌, subst, arith}
use Rattle.std.proofs.lemmas.Bool.{cases_Bool}
use Rattle.ob_perm.specs.Permissions.{shared}
use Rattle.ob_table.specs.Tables.{ClassTable}
use Rattle.ob_silica_steps.specs.Cells.{permission_in}
use Rattle.ob_silica_steps.specs.Configurations.{Rest, Control, Configuration}
use Rattle.ob_silica_steps.specs.Here.{Here, self_of}
use Rattle.ob_coherent_spec.specs.Counting.{nth_object, one_if, owners}
use Rattle.ob_coherent_spec.specs.Runs.{times, around, locks_around, locks_among, locks_entry, locks, tests_around, tests_in}
use Rattle.ob_coherent_spec.specs.Waiting.{SharesThis}
use Rattle.ob_coherent_spec.specs.Coherent.{Beginning, Holds}
use Rattle.ob_soundness_laws.specs.frames.Steps.{moved_to, KeepsWhole, KeepsQuietly}
use Rattle.ob_soundness_laws.proofs.frames.Near.{frame_with}
use Rattle.ob_soundness_laws.proofs.frames.Whole.{fewer_needs}

-- Two lists of what is around end the same tests.
pub record EndsSame (before after : List Rest) : Type 0 where
  pub locks : (n : ℕ) → locks_around n after ≡ locks_around n before
  pub tests : (n : ℕ) → tests_around n after ≡ tests_around n before

-- those that stay end the same
pub ends_itself : (outer : List Rest) → EndsSame outer outer
ends_itself outer = record { locks = λ n. refl; tests = λ n. refl }

module _ (table : ClassTable) (entry : Option ℕ) (beginning : Beginning) (c : Configuration) (h : Here)
    (control : Control)
    (k : Holds table entry beginning c) (same : EndsSame (around c.control) (around control))
    (m : KeepsQuietly table c k.parts h control) where
  same_tests : (n : ℕ) → tests_in n h.slots (around control) ≡ tests_in n c.frame.slots (around c.control)
  same_tests n = ap (λ j. tests_around (one_if (nat_eq j n)) (around control)) m.this
      ∙ same.tests (one_if (nat_eq (self_of c.frame.slots) n))

  same_locks : (n : ℕ) → locks entry n (moved_to c h control) ≡ locks entry n c
  same_locks n = ap (λ x. x + locks_among n c.stack + locks_entry entry n) (same.locks n)

  -- where `this` is Shared afterwards it was so before, or its object is in progress and no place owns it
  pub quiet_shares : SharesThis c.frame c 0
      → (permission_in (h.slots 0) ≡ shared → (permission_in (c.frame.slots 0) ≡ shared)
      ⊎ ((0 < times (self_of c.frame.slots) c.world.progress)
      × (owners (self_of c.frame.slots) (moved_to c h control) ≡ 0)))
      → SharesThis (frame_with c.frame h.slots) (moved_to c h control) 0
  quiet_shares shares or_gone held = ⊎_elim
      (λ was. let y = shares was in (
        in_progress y.0,
        ⊎_elim
            (λ few. inl (none_left (let less = m.fewer (self_of c.frame.slots) in omega arith)))
            (λ z. inr (
              z.0,
              subst (λ n. 0 < times n h.world.locked) (sym m.this)
                  (subst (λ l. 0 < times (self_of c.frame.slots) l) (sym m.locks) z.1),
            ))
            y.1,
      ))
      (λ y. (in_progress y.0, inl (none_left (let none = y.1 in omega arith))))
      (or_gone held)
    where
      in_progress : 0 < times (self_of c.frame.slots) c.world.progress → 0 < times (self_of h.slots) h.world.progress
      in_progress has = subst (λ n. 0 < times n h.world.progress) (sym m.this)
          (subst (λ l. 0 < times (self_of c.frame.slots) l) (sym m.others.progress) has)

      none_left : owners (self_of c.frame.slots) (moved_to c h control) ≤ 0
          → owners (self_of h.slots) (moved_to c h control) ≤ 0
      none_left few = subst (λ n. owners n (moved_to c h control) ≤ 0) (sym m.this) few

  pub quiet_whole : KeepsWhole table entry c k.parts h control
  quiet_whole = record {
    others = m.others;
    free = inl m.state;
    this = m.this;
    arguments = m.arguments;
    unset = m.unset;
    slots = m.slots;
    fields = m.fields;
    object = m.object;
    one_owner = λ n. let less = m.fewer n in let one = k.one_owner n in omega arith;
    disowned = λ n e f. ⊎_elim
        (λ y. ⊎_elim (λ z. absurd (let w = m.others.shared n z in cc))
        (λ z. let none = k.disowned n y z in let less = m.fewer n in omega arith)
        (cases_Bool (nth_object c.world.objects n).shared))
        (λ y. m.newly_disowned n y e)
        (cases_Bool (nth_object c.world.objects n).disowned);
    shared = λ n e has. ⊎_elim
        (λ y. ⊎_elim (λ z. inl (subst (λ l. 0 < times n l) (sym m.locks) z))
        (λ z. inr (let tests = same_tests n in omega arith))
        (k.shared n y (let less = m.fewer n in omega arith)))
        (λ y. absurd (let none = m.newly_shared n y e in omega arith))
        (cases_Bool (nth_object c.world.objects n).shared);
    assets = λ n l. let has = k.assets n (fewer_needs table c h m.others n l) in let keeps = m.keeps_owner n l in
        omega arith;
    balanced = λ n. let less = m.fewer n in let tests = same_tests n in let locks = same.locks n in omega arith;
    lock_ends = λ n has. inl (subst (λ l. 0 < times n l) (sym m.locks) has);
    tested = λ n has. k.tested n (let tests = same_tests n in omega arith);
    locked = λ n. same_locks n ∙ k.locked n ∙ ap (times n) (sym m.locks);
    locked_once = λ n. let locks = same_locks n in let once = k.locked_once n in omega arith;
  }
