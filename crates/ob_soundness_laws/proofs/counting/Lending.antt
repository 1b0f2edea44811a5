-- What the places count where a loan goes back, and where a frame is left.
use Rattle.std.proofs.Common.{◌≡◌, ℕ, ◌+◌, ◌<◌, List, [], ◌∷◌, length, Option, Some, None, option_map, refl, ap, arith}
use Rattle.ob_base.specs.Limits.{most_slots}
use Rattle.ob_perm.specs.Permissions.{unowned}
use Rattle.ob_silica_places.specs.Places.{Location, slot, field}
use Rattle.ob_silica_steps.specs.Cells.{Cell, noted}
use Rattle.ob_silica_steps.specs.Configurations.{SlotCells, How, by_receiver, by_this, by_new, Loan, Waiting, runs, leaves, Configuration}
use Rattle.ob_silica_steps.specs.Here.{Here, self_of, set_permission}
use Rattle.ob_silica_steps.specs.Returning.{leaves_progress, left_world, with_result, without_owner, returned_to}
use Rattle.ob_coherent_spec.specs.Counting.{Counted, in_cell, in_slots, in_objects, in_waiting, in_control, in_handles, in_all}
use Rattle.ob_soundness_laws.proofs.counting.Places.{slots_at}
use Rattle.ob_soundness_laws.proofs.counting.Writing.{IsLow, cell_at, here_permission}
use Rattle.ob_soundness_laws.proofs.counting.Permitting.{self_permission, noted_refers_same, permission_handles}

-- what the waiting frame works on
abbrev pub below_here : Waiting → Configuration → Here
below_here h c = record { slots = h.frame.slots; notes = c.notes; world = c.world }

-- the configuration once a loan has gone back
abbrev pub unlent : Option Cell → Waiting → Loan → List Loan → List Waiting → Configuration → Configuration
unlent result h loan loans stack c = record {
  frame = record c.frame { slots = without_owner loan.param c.frame.slots };
  control = leaves result [];
  stack = record h { frame = record h.frame { slots = (returned_to h loan c).slots }; loans = loans } ∷ stack;
  notes = (returned_to h loan c).notes;
  world = c.world;
}

module _ (counts : Counted) (n : ℕ) (c : Configuration) (h : Waiting) (loan : Loan) (loans : List Loan)
    (stack : List Waiting)
    (result : Option Cell) (control : c.control ≡ leaves result []) (waits : c.stack ≡ h ∷ stack)
    (low : IsLow loan.place) (few : loan.param < most_slots) (there : self_of h.frame.slots < length c.world.objects)
  where
    pub unlent_counts : in_all counts n (unlent result h loan loans stack c) + in_cell counts n
        (cell_at (below_here h c) loan.place)
        + in_cell counts n (c.frame.slots loan.param)
        ≡ in_all counts n c + in_cell counts n (option_map (noted loan.exit) (cell_at (below_here h c) loan.place))
        + in_cell counts n (option_map (noted unowned) (c.frame.slots loan.param))
    unlent_counts = omega (
      arith,
      here_permission counts n loan.place loan.exit (below_here h c) low there,
      world_same loan.place,
      slots_at counts n c.frame.slots loan.param (option_map (noted unowned) (c.frame.slots loan.param)) few,
      ap (in_control counts n) control,
      ap (in_waiting counts n) waits,
      ap (in_handles counts n) (permission_handles loan.place loan.exit (below_here h c)),
    )
      where
        world_same : (p : Location) → in_objects counts n (set_permission p loan.exit (below_here h c)).notes
            (set_permission p loan.exit (below_here h c)).world.objects
            ≡ in_objects counts n (set_permission p loan.exit (below_here h c)).notes c.world.objects
        world_same (slot k) = refl
        world_same (field k) = refl

    -- the place and the slot have the same value; the place owns nothing before
    pub unlent_with : (x y : Cell) → cell_at (below_here h c) loan.place ≡ Some x → c.frame.slots loan.param ≡ Some y
        → in_all counts n (unlent result h loan loans stack c) + in_cell counts n (Some x) + in_cell counts n (Some y)
        ≡ in_all counts n c + in_cell counts n (Some (noted loan.exit x)) + in_cell counts n (Some (noted unowned y))
    unlent_with x y found given = omega (
      arith,
      unlent_counts,
      ap (in_cell counts n) found,
      ap (in_cell counts n) given,
      ap (λ z. in_cell counts n (option_map (noted loan.exit) z)) found,
      ap (λ z. in_cell counts n (option_map (noted unowned) z)) given,
    )

-- the object of the frame that leaves, and of the one below
pub unlent_self : (slots : SlotCells) (k : ℕ) → self_of (without_owner k slots) ≡ self_of slots
unlent_self slots k = noted_refers_same unowned slots k

pub returned_self : (h : Waiting) (loan : Loan) (c : Configuration) → self_of (returned_to h loan c).slots
    ≡ self_of h.frame.slots
returned_self h loan c = self_permission loan.place loan.exit (below_here h c)

-- The frame below goes on.

abbrev pub resumed : Waiting → Option Cell → List Waiting → Configuration → Configuration
resumed h result stack c = record {
  frame = record h.frame { slots = with_result h.result result h.frame.slots };
  control = runs h.terms h.outer;
  stack = stack;
  notes = c.notes;
  world = left_world c;
}

pub left_objects : (c : Configuration) → (left_world c).objects ≡ c.world.objects
left_objects c = go c.frame.how
  where
    go : (how : How) → (leaves_progress how (self_of c.frame.slots) c.world).objects ≡ c.world.objects
    go by_receiver = refl
    go by_this = refl
    go by_new = refl

pub left_locked : (c : Configuration) → (left_world c).locked ≡ c.world.locked
left_locked c = go c.frame.how
  where
    go : (how : How) → (leaves_progress how (self_of c.frame.slots) c.world).locked ≡ c.world.locked
    go by_receiver = refl
    go by_this = refl
    go by_new = refl

module _ (counts : Counted) (n : ℕ) (c : Configuration) (h : Waiting) (stack : List Waiting) (result : Option Cell)
    (control : c.control ≡ leaves result []) (waits : c.stack ≡ h ∷ stack) where
  pub resumed_none : h.result ≡ None
      → in_all counts n (resumed h result stack c) + in_slots counts n c.frame.slots + in_cell counts n result
      ≡ in_all counts n c
  resumed_none none = omega (
    arith,
    ap (in_control counts n) control,
    ap (in_waiting counts n) waits,
    ap (in_objects counts n c.notes) (left_objects c),
    ap (λ r. in_slots counts n (with_result r result h.frame.slots)) none,
  )

  pub resumed_some : (k : ℕ) → h.result ≡ Some k → k < most_slots
      → in_all counts n (resumed h result stack c) + in_slots counts n c.frame.slots + in_cell counts n
      (h.frame.slots k) ≡ in_all counts n c
  resumed_some k some low = omega (
    arith,
    ap (in_control counts n) control,
    ap (in_waiting counts n) waits,
    ap (in_objects counts n c.notes) (left_objects c),
    ap (λ r. in_slots counts n (with_result r result h.frame.slots)) some,
    slots_at counts n h.frame.slots k result low,
  )
