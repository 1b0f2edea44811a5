-- All places are handed over to their parameters.
use Rattle.std.proofs.Common.{◌≡◌, ◌≢◌, ℕ, suc, ◌+◌, ◌<◌, ◌≤◌, Bool, true, false, ◌&&◌, ◌||◌, List, [], ◌∷◌, ◌++◌, append_assoc, length, Option, Some, None, refl, sym, ap, subst, ◌∙◌, arith, ⊎_elim, append-nil}
use Rattle.std.specs.Prelude.{if◌then◌else◌}
use Rattle.std.proofs.lemmas.Bool.{both_ways, or_left, or_right, or_parts}
use Rattle.std.proofs.lemmas.Option.{none-some, same_Some}
use Rattle.ob_base.specs.Limits.{most_slots}
use Rattle.ob_perm.specs.Permissions.{Permission, unowned, owns, kept}
use Rattle.ob_table.specs.Tables.{ClassTable}
use Rattle.ob_table.specs.declared.seen.Kind.{Kind}
use Rattle.ob_table_spec.specs.Conditions.{IsClassTable}
use Rattle.ob_table_spec.specs.WellFormed.{kind_of_resolved, serves_as}
use Rattle.ob_heap_spec.specs.Values.{reference}
use Rattle.ob_silica_places.specs.Known.{Known, permission_of_type}
use Rattle.ob_silica_places.specs.Places.{Location, this, same_location}
use Rattle.ob_silica_places.specs.Parameters.{Parameter}
use Rattle.ob_silica_steps.specs.Cells.{Cell, noted}
use Rattle.ob_silica_steps.specs.Configurations.{Configuration, NextStep}
use Rattle.ob_silica_steps.specs.Here.{here, if_there}
use Rattle.ob_silica_steps.specs.Binding.{Bound, bound_cell, bind_one, bind_all, loan_of}
use Rattle.ob_flow_spec.specs.Contexts.{Context, TestedPlaces, constructs, now, with_permission, permission_at, is_set}
use Rattle.ob_flow_spec.specs.Uses.{Read, kind_known, given_to}
use Rattle.ob_flow_spec.specs.Binding.{wants_owner, is_among, is_given_owning, given_all}
use Rattle.ob_flow_laws.specs.Binding.{EachOnceAfter, EachOnce, CanGiveAll}
use Rattle.ob_places_laws.proofs.Permissions.{kept_owner}
use Rattle.ob_coherent_spec.specs.Counting.{nth_object}
use Rattle.ob_coherent_spec.specs.Runs.{constructions}
use Rattle.ob_coherent_spec.specs.Standing.{HasItsState, Stands}
use Rattle.ob_coherent_spec.specs.Remaining.{BodyParts, body_of, IsPlaceIn}
use Rattle.ob_perm.specs.Permissions.{owns}
use Rattle.ob_soundness_laws.proofs.counting.Sums.{at_same, at_other}
use Rattle.ob_soundness_laws.specs.places.Placed.{cell_at, Stays}
use Rattle.ob_soundness_laws.proofs.places.Reading.{place_is, same_place}
use Rattle.ob_soundness_laws.proofs.places.Writing.{stays_itself, stays_onward}
use Rattle.ob_soundness_laws.proofs.places.Standing.{stands_stay}
use Rattle.ob_soundness_laws.proofs.places.Finding.{found_at, found_read}
use Rattle.ob_soundness_laws.specs.calls.Binds.{in_frame, in_rest, Binds, lent_all, AreOnce, ArePassedTo, places_of, AllBound}
use Rattle.ob_soundness_laws.proofs.calls.Binding.{bind_next, next_same, next_other, next_bound, next_stays}

-- Kinds, and what is known to be set, stay where a permission changes.

kind_put : (b : Bool) (w : Permission) (x y : Option Known) → x ≡ y
    → kind_known (if b then with_permission w x else y) ≡ kind_known y
kind_put true w None y e = ap kind_known e
kind_put true w (Some z) y e = ap kind_known e
kind_put false w x y e = refl

pub kind_now : (g : Context) (p : Location) (w : Permission) (q : Location)
    → kind_known (now g p w q) ≡ kind_known (g q)
kind_now g p w q = ⊎_elim
    (λ e. kind_put (same_location q p) w (g p) (g q) (ap g (sym e)))
    (λ e. ap (λ b. kind_known (if b then with_permission w (g p) else g q)) e)
    (place_is q p)

set_put : (b : Bool) (w : Permission) (x y : Option Known) → x ≡ y
    → is_set (if b then with_permission w x else y) ≡ is_set y
set_put true w None y e = ap is_set e
set_put true w (Some z) y e = ap is_set e
set_put false w x y e = refl

pub set_now : (g : Context) (p : Location) (w : Permission) (q : Location) → is_set (now g p w q) ≡ is_set (g q)
set_now g p w q = ⊎_elim
    (λ e. set_put (same_location q p) w (g p) (g q) (ap g (sym e)))
    (λ e. ap (λ b. is_set (if b then with_permission w (g p) else g q)) e)
    (place_is q p)

-- No place that is given to an owner is given again.

free_after : (owning : Location → Bool) (before rs : List Read) (l : Location) → EachOnceAfter owning before rs
    → owning l ≡ true → is_among l before ≡ true → is_among l rs ≡ false
free_after owning before [] l once own among = refl
free_after owning before (r ∷ rs) l once own among = ⊎_elim
    (λ same. absurd (both_ways (owning r.location) (once.0 (ap (λ q. is_among q before) (sym same) ∙ among))
    (ap owning (sym same) ∙ own)))
    (λ other. ap (λ b. b || is_among l rs) other
    ∙ free_after owning (r ∷ before) rs l once.1 own (or_right (same_location l r.location) (is_among l before) among))
    (place_is l r.location)

once_from : (owning : Location → Bool) (before rs : List Read) (ps : List Parameter) → EachOnceAfter owning before rs
    → ((l : Location) → is_given_owning l rs ps ≡ true → owning l ≡ true) → AreOnce rs ps
once_from owning before [] ps once says = tt
once_from owning before (r ∷ rs) [] once says = tt
once_from owning before (r ∷ rs) (p ∷ ps) once says = (
  λ wants. free_after owning (r ∷ before) rs r.location once.1
      (says r.location (or_left (same_location r.location r.location && wants_owner p)
      (is_given_owning r.location rs ps)
      (ap (λ b. b && wants_owner p) (same_place r.location) ∙ wants)))
      (or_left (same_location r.location r.location) (is_among r.location before) (same_place r.location)),
  once_from owning (r ∷ before) rs ps once.1
      (λ l given. says l (or_right (same_location l r.location && wants_owner p) (is_given_owning l rs ps) given)),
)

pub are_once : (rs : List Read) (ps : List Parameter) → EachOnce rs ps → AreOnce rs ps
are_once rs ps once = once_from (λ p. is_given_owning p rs ps) [] rs ps once (λ l given. given)

-- a place that has a cell while places are bound had one with that value and kind
pub was_set : (table : ClassTable) (c : Configuration) (parts : BodyParts) (b : Bound) (g : Context) (n : ℕ)
    → Binds table c parts b g n → (q : Location) (y : Cell) → cell_at b.from q ≡ Some y
    → (x : Cell) × (cell_at (here c) q ≡ Some x) × (y.value ≡ x.value) × (y.note.kind ≡ x.note.kind)
was_set table c parts b g n k q y e = by_cell (cell_at (here c) q) refl
  where
    by_cell : (o : Option Cell) → cell_at (here c) q ≡ o
        → (x : Cell) × (cell_at (here c) q ≡ Some x) × (y.value ≡ x.value) × (y.note.kind ≡ x.note.kind)
    by_cell None i = absurd (none-some y (sym (k.unset q i) ∙ e))
    by_cell (Some x) i =
        let r = k.alike q x i in
        let same : r.0 ≡ y = same_Some r.0 y (sym r.1 ∙ e) in
        (x, i, ap (λ (z : Cell). z.value) (sym same) ∙ r.2, ap (λ (z : Cell). z.note.kind) (sym same) ∙ r.3)

-- All places.

module _ (table : ClassTable) (made : IsClassTable table) (c : Configuration) (parts : BodyParts) (ts : TestedPlaces)
    (one : (m : ℕ) → in_frame owns m (here c) + in_rest owns m c ≤ 1)
    (placed : (m : ℕ) → m < length c.world.objects → constructions m c ≡ 0
    → HasItsState table (nth_object c.world.objects m))
    (finished : (q : Location) (x : Cell) → IsPlaceIn (body_of table c.frame parts) q
    → (constructs (body_of table c.frame parts) ≡ true → same_location q this ≡ false) → cell_at (here c) q ≡ Some x
    → (m : ℕ) → 0 < constructions m c → x.value ≢ reference m) where
  -- what is bound of the first place and of those after it
  bound_first : (known g : Context) (b : Bound) (r : Read) (rs : List Read) (p : Parameter) (ps : List Parameter)
      (n : ℕ)
      (x : Cell) (next : Bound) → kind_known (known r.location) ≡ x.note.kind → is_set (known r.location) ≡ true
      → cell_at (bind_one table b r.location x n p).from r.location
      ≡ Some (noted (kept x.note.permission (permission_of_type p.of)) x)
      → ((q : Location) → same_location q r.location ≡ false
      → cell_at (bind_one table b r.location x n p).from q ≡ cell_at b.from q)
      → Stands table (bind_one table b r.location x n p).from.world.objects
      (bound_cell p.of x.value)
      → Stays b.from (bind_one table b r.location x n p).from
      → (wants_owner p ≡ true → is_among r.location rs ≡ false)
      → ((y : Cell) → cell_at (here c) r.location ≡ Some y → x.value ≡ y.value)
      → AllBound table c parts known (given_to g r.location p) (bind_one table b r.location x n p) rs ps (suc n) next
      → AllBound table c parts known g b (r ∷ rs) (p ∷ ps) n next
  bound_first known g b r rs p ps n x next kind set same other stands stays once first a = record {
    binds = subst (Binds table c parts next (given_all (given_to g r.location p) rs ps))
        (let e : suc n + length ps ≡ n + suc (length ps) = omega arith in e) a.binds;
    stays = stays_onward b.from (bind_one table b r.location x n p).from next.from stays a.stays;
    bound = (
      record {
        value = x.value;
        set = slot_is;
        stands = stands_stay table (bind_one table b r.location x n p).from next.from a.stays
            (bound_cell p.of x.value) stands;
      },
      a.bound,
    );
    before = λ k lt. a.before k (omega (arith, lt))
        ∙ at_other b.slots n (Some (bound_cell p.of x.value)) k (λ e. omega (arith, e, lt));
    untouched = λ q none. apart q none;
    loans = a.loans ∙ append_assoc b.loans (loan_of table r.location n p x.note) (lent_all table known rs ps (suc n))
        ∙ ap (λ (k : Kind). b.loans ++ (loan_of table r.location n p (record { kind = k; permission = unowned })
        ++ lent_all table known rs ps (suc n))) (sym kind);
    lent = (
      λ wants. record {
        cell = noted (kept x.note.permission (permission_of_type p.of)) x;
        is = a.untouched r.location (once wants) ∙ same;
        lent = kept_owner x.note.permission (permission_of_type p.of) wants;
        kind = sym kind;
        known = set;
        given = slot_is;
      },
      a.lent,
    );
    first = λ y e. slot_is ∙ ap (λ v. Some (bound_cell p.of v)) (first y e);
  }
    where
      slot_is : next.slots n ≡ Some (bound_cell p.of x.value)
      slot_is = a.before n (omega arith) ∙ at_same b.slots n (Some (bound_cell p.of x.value))

      apart : (q : Location) → is_among q (r ∷ rs) ≡ false → cell_at next.from q ≡ cell_at b.from q
      apart q none =
          let parts = or_parts (same_location q r.location) (is_among q rs) none in
          a.untouched q parts.1 ∙ other q parts.0

  -- What follows the binding of all places follows from what it comes to.
  pub bind_all_steps : (P : NextStep → Type 0) (go : Bound → NextStep) (known : Context) (rs : List Read)
      (ps : List Parameter)
      (b : Bound) (g : Context) (n : ℕ) → Binds table c parts b g n → n + length ps ≤ most_slots
      → ((q : Location) → kind_known (known q) ≡ kind_known (g q)) → ((q : Location) → is_set (known q) ≡ is_set (g q))
      → CanGiveAll (body_of table c.frame parts) ts g rs ps → ArePassedTo table c parts rs ps → AreOnce rs ps
      → ((next : Bound) → AllBound table c parts known g b rs ps n next → P (go next))
      → P (bind_all table b (places_of rs) n ps go)
  bind_all_steps P go known [] [] b g n k few kinds sets can passed once done = done b (record {
    binds = subst (Binds table c parts b g) (let e : n ≡ n + 0 = omega arith in e) k;
    stays = stays_itself b.from;
    bound = tt;
    before = λ k lt. refl;
    untouched = λ q none. refl;
    loans = sym (append-nil b.loans);
    lent = tt;
    first = tt;
  })
  bind_all_steps P go known [] (p ∷ ps) b g n k few kinds sets can passed once done = absurd passed
  bind_all_steps P go known (r ∷ rs) [] b g n k few kinds sets can passed once done = absurd passed
  bind_all_steps P go known (r ∷ rs) (p ∷ ps) b g n k few kinds sets can passed once done =
      let u = found_at table made c.frame parts b.from g k.sits r.location can.0.usable.readable in
      let was = was_set table c parts b g n k r.location u.cell u.is in
      let low : n < most_slots = omega (arith, few) in
      let serves : serves_as table (kind_of_resolved p.of) u.cell.note.kind ≡ true =
      ap (serves_as table (kind_of_resolved p.of)) was.3 ∙ passed.1 was.0 was.1 in
      let old : (m : ℕ) → 0 < constructions m c → u.cell.value ≢ reference m =
      λ m some e. finished r.location was.0 passed.0 can.0.usable.spares_this was.1 m some (sym was.2 ∙ e) in
      let kind : kind_known (known r.location) ≡ u.cell.note.kind =
      kinds r.location ∙ ap kind_known u.told ∙ sym u.kind in
      let set : is_set (known r.location) ≡ true = sets r.location ∙ ap is_set u.told in
      subst (λ z. P (if_there z (λ x. bind_all table (bind_one table b r.location x n p) (places_of rs) (suc n) ps go)))
      (sym (found_read table made c.frame parts b.from g k.sits r.location u))
      (bind_all_steps P go known rs ps (bind_one table b r.location u.cell n p) (given_to g r.location p) (suc n)
      (bind_next table made c parts ts one placed b g n k r.location p passed.0 low can.0 u serves old)
      (omega (arith, few))
      (λ q. kinds q ∙ sym (kind_now g r.location (kept (permission_at g r.location) (permission_of_type p.of)) q))
      (λ q. sets q ∙ sym (set_now g r.location (kept (permission_at g r.location) (permission_of_type p.of)) q))
      can.1 passed.2 once.1
      (λ next a. done next (bound_first known g b r rs p ps n u.cell next kind set
      (next_same table made c parts ts one placed b g n k r.location p passed.0 low can.0 u serves old)
      (next_other table made c parts ts one placed b g n k r.location p passed.0 low can.0 u serves old)
      (next_bound table made c parts ts one placed b g n k r.location p passed.0 low can.0 u serves old)
      (next_stays table made c parts ts one placed b g n k r.location p passed.0 low can.0 u serves old)
      once.0
      (λ y e. was.2 ∙ ap (λ (z : Cell). z.value)
      (same_Some was.0 y (sym was.1 ∙ e))) a)))
