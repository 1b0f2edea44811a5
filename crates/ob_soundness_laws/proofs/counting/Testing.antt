-- What the places count, and how many tests are open, where a test begins or ends.
use Rattle.std.proofs.Common.{◌≡◌, ◌≢◌, ℕ, ◌+◌, ◌<◌, ◌≤◌, Bool, true, false, nat_eq, List, ◌∷◌, length, Some, refl, sym, ap, ◌∙◌, subst, arith, ⊎_elim}
use Rattle.std.specs.Prelude.{⊤}
use Rattle.std.proofs.lemmas.Bool.Decides.{eqb_tells}
use Rattle.ob_perm.specs.Permissions.{Permission, shared, owns}
use Rattle.ob_heap_spec.specs.Values.{reference}
use Rattle.ob_heap_spec.specs.Marks.{without_first}
use Rattle.ob_silica.specs.Terms.{SilicaTerms}
use Rattle.ob_silica_places.specs.Places.{Location}
use Rattle.ob_silica_steps.specs.Cells.{Cell}
use Rattle.ob_silica_steps.specs.Configurations.{SlotCells, Ends, plain_end, test_end, lock_end, loop_end, Rest}
use Rattle.ob_silica_steps.specs.Here.{Here, self_of, set_permission}
use Rattle.ob_silica_steps.specs.Testing.{end_branch}
use Rattle.ob_coherent_spec.specs.Counting.{one_if, any}
use Rattle.ob_coherent_spec.specs.Runs.{times, locks_at, locks_around, tests_at, tests_in}
use Rattle.ob_coherent_spec.specs.Waiting.{tests_of}
use Rattle.ob_soundness_laws.proofs.counting.Numbers.{one_same, without_times, without_other}
use Rattle.ob_soundness_laws.proofs.counting.Frames.{tests_in_same}
use Rattle.ob_soundness_laws.proofs.counting.Writing.{IsLow, cell_at, in_here}
use Rattle.ob_soundness_laws.proofs.counting.Permitting.{self_permission, permission_other, permission_refers, permission_gone, permission_come}

-- Tests that are open.

-- 1 where what ends here is a test of this object
abbrev pub tested_at : ℕ → SlotCells → Ends → ℕ
tested_at n slots plain_end = 0
tested_at n slots (test_end p) = one_if (nat_eq (self_of slots) n)
tested_at n slots (lock_end p m) = one_if (nat_eq m n)
tested_at n slots (loop_end first x body end) = 0

pub tests_of_more : (n : ℕ) (slots : SlotCells) (r : Rest) (outer : List Rest)
    → tests_of n slots (r ∷ outer) ≡ tested_at n slots r.ends + tests_of n slots outer
tests_of_more n slots r outer = go r.ends
  where
    go : (e : Ends) → locks_at n e + locks_around n outer +
        (tests_at (one_if (nat_eq (self_of slots) n)) e + tests_in n slots outer)
        ≡ tested_at n slots e + tests_of n slots outer
    go plain_end = omega arith
    go (test_end p) = omega arith
    go (lock_end p m) = omega arith
    go (loop_end first x body end) = omega arith

pub tests_of_same : (n : ℕ) (slots others : SlotCells) (outer : List Rest) → self_of others ≡ self_of slots
    → tests_of n others outer ≡ tests_of n slots outer
tests_of_same n slots others outer self = omega (arith, tests_in_same n slots others outer self)

pub tested_same : (n : ℕ) (slots others : SlotCells) (e : Ends) → self_of others ≡ self_of slots → tested_at n others e
    ≡ tested_at n slots e
tested_same n slots others plain_end self = refl
tested_same n slots others (test_end p) self = ap (λ m. one_if (nat_eq m n)) self
tested_same n slots others (lock_end p m) self = refl
tested_same n slots others (loop_end first x body end) self = refl

-- Places under test.

-- a place has a reference to this object
pub record HasAt (p : Location) (n : ℕ) (h : Here) : Type 0 where
  pub low : IsLow p
  pub cell : Cell
  pub found : cell_at h p ≡ Some cell
  pub object : cell.value ≡ reference n

-- what ends here is the test of a place that has a reference to the tested object, and owns it or not
abbrev pub EndsAs : Bool → Ends → Here → Type 0
EndsAs owner plain_end h = ⊤
EndsAs owner (test_end p) h = (x : HasAt p (self_of h.slots) h) × (owns x.cell.note.permission ≡ owner)
EndsAs owner (lock_end p n) h = (x : HasAt p n h) × (owns x.cell.note.permission ≡ owner)
EndsAs owner (loop_end first x body end) h = ⊤

refers_other : (m n : ℕ) → m ≢ n → reference m ≢ reference n
refers_other m n other e = other (go e)
  where
    go : reference m ≡ reference n → m ≡ n
    go e = cc

module _ (h : Here) (there : self_of h.slots < length h.world.objects) where
  -- one place no longer owns the object
  pub shared_again : (p : Location) (m : ℕ) (x : HasAt p m h) → owns x.cell.note.permission ≡ true → (n : ℕ)
      → in_here owns n (set_permission p shared h) + one_if (nat_eq m n) ≡ in_here owns n h
  shared_again p m x owner n = ⊎_elim
      (λ e. omega (
        arith,
        ap one_if e.0,
        permission_gone p shared h x.low there x.cell x.found owns n (x.object ∙ ap reference e.1) owner refl,
      ))
      (λ e. omega (
        arith,
        ap one_if e.0,
        permission_other p shared h x.low there x.cell x.found owns n (λ z. refers_other m n e.1 (sym x.object ∙ z)),
      ))
      (eqb_tells m n)

  -- one place owns the object from here on
  pub owned_now : (p : Location) (m : ℕ) (x : HasAt p m h) (q : Permission) → owns x.cell.note.permission
      ≡ false → owns q ≡ true → (n : ℕ)
      → in_here owns n (set_permission p q h) ≡ in_here owns n h + one_if (nat_eq m n)
  owned_now p m x q not so n = ⊎_elim
      (λ e. omega (
        arith,
        ap one_if e.0,
        permission_come p q h x.low there x.cell x.found owns n (x.object ∙ ap reference e.1) not so,
      ))
      (λ e. omega (
        arith,
        ap one_if e.0,
        permission_other p q h x.low there x.cell x.found owns n (λ z. refers_other m n e.1 (sym x.object ∙ z)),
      ))
      (eqb_tells m n)

  pub end_self : (e : Ends) → self_of (end_branch e h).slots ≡ self_of h.slots
  end_self plain_end = refl
  end_self (test_end p) = self_permission p shared h
  end_self (lock_end p n) = self_permission p shared h
  end_self (loop_end first x body end) = refl

  pub end_owners : (e : Ends) → EndsAs true e h → (n : ℕ) → in_here owns n (end_branch e h) + tested_at n h.slots e
      ≡ in_here owns n h
  end_owners plain_end owner n = omega arith
  end_owners (test_end p) owner n = shared_again p (self_of h.slots) owner.0 owner.1 n
  end_owners (lock_end p m) owner n = shared_again p m owner.0 owner.1 n
  end_owners (loop_end first x body end) owner n = omega arith

  pub end_refers : (e : Ends) → EndsAs true e h → (n : ℕ) → in_here any n (end_branch e h) ≡ in_here any n h
  end_refers plain_end owner n = refl
  end_refers (test_end p) owner n = permission_refers p shared h owner.0.low there owner.0.cell owner.0.found n
  end_refers (lock_end p m) owner n = permission_refers p shared h owner.0.low there owner.0.cell owner.0.found n
  end_refers (loop_end first x body end) owner n = refl

  -- owners and open tests go together
  pub end_balanced : (r : Rest) (outer : List Rest) → EndsAs true r.ends h → (n : ℕ)
      → in_here owns n (end_branch r.ends h) + tests_of n h.slots (r ∷ outer)
      ≡ in_here owns n h + tests_of n (end_branch r.ends h).slots outer
  end_balanced r outer owner n = omega (
    arith,
    end_owners r.ends owner n,
    tests_of_more n h.slots r outer,
    tests_of_same n h.slots (end_branch r.ends h).slots outer (end_self r.ends),
  )

  -- where the test ends of an object with one owner, it has none
  pub end_none : (e : Ends) → EndsAs true e h → (n : ℕ) → in_here owns n h ≤ 1 → 0 < tested_at n h.slots e
      → in_here owns n (end_branch e h) ≡ 0
  end_none e owner n one some = omega (arith, end_owners e owner n)

  -- a test begins
  pub begin_balanced_this : (p : Location) (q : Permission) (x : HasAt p (self_of h.slots) h) (terms : SilicaTerms)
      (outer : List Rest)
      → owns x.cell.note.permission ≡ false → owns q ≡ true → (n : ℕ)
      → in_here owns n (set_permission p q h) + tests_of n h.slots outer
      ≡ in_here owns n h + tests_of n (set_permission p q h).slots (record { terms = terms; ends = test_end p } ∷ outer)
  begin_balanced_this p q x terms outer not so n = omega (
    arith,
    owned_now p (self_of h.slots) x q not so n,
    tests_of_more n h.slots (record { terms = terms; ends = test_end p }) outer,
    tests_of_same n h.slots (set_permission p q h).slots (record { terms = terms; ends = test_end p } ∷ outer)
        (self_permission p q h),
  )

  pub begin_balanced_other : (p : Location) (m : ℕ) (q : Permission) (x : HasAt p m h) (terms : SilicaTerms)
      (outer : List Rest)
      → owns x.cell.note.permission ≡ false → owns q ≡ true → (n : ℕ)
      → in_here owns n (set_permission p q h) + tests_of n h.slots outer
      ≡ in_here owns n h + tests_of n (set_permission p q h).slots
      (record { terms = terms; ends = lock_end p m } ∷ outer)
  begin_balanced_other p m q x terms outer not so n = omega (
    arith,
    owned_now p m x q not so n,
    tests_of_more n h.slots (record { terms = terms; ends = lock_end p m }) outer,
    tests_of_same n h.slots (set_permission p q h).slots (record { terms = terms; ends = lock_end p m } ∷ outer)
        (self_permission p q h),
  )

-- Locks.

-- a number is among others once less
pub without_count : (m n : ℕ) (ns : List ℕ) → 0 < times m ns → one_if (nat_eq m n) + times n (without_first m ns)
    ≡ times n ns
without_count m n ns some = ⊎_elim
    (λ e. subst (λ i. one_if (nat_eq m i) + times i (without_first m ns) ≡ times i ns) e.1
    (omega (arith, one_same m, without_times m ns some)))
    (λ e. omega (arith, ap one_if e.0, without_other m n ns (λ z. e.1 (sym z))))
    (eqb_tells m n)

-- a test with a lock ends: the locks of the lists around and the locked objects go together
pub unlocked : (m n : ℕ) (locked : List ℕ) (terms : SilicaTerms) (p : Location) (outer : List Rest) (others : ℕ)
    → 0 < times m locked
    → locks_around n (record { terms = terms; ends = lock_end p m } ∷ outer) + others ≡ times n locked
    → locks_around n outer + others ≡ times n (without_first m locked)
unlocked m n locked terms p outer others some same = omega (arith, without_count m n locked some)

-- and one begins
pub locked_now : (m n : ℕ) (locked : List ℕ) (terms : SilicaTerms) (p : Location) (outer : List Rest) (others : ℕ)
    → locks_around n outer + others ≡ times n locked
    → locks_around n (record { terms = terms; ends = lock_end p m } ∷ outer) + others ≡ times n (m ∷ locked)
locked_now m n locked terms p outer others same = omega arith
