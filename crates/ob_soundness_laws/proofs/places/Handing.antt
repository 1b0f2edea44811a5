-- What is known of what a place gets, and who owns before and after.
use Rattle.std.proofs.Common.{◌≡◌, ◌≢◌, ℕ, ◌+◌, Bool, true, false, ◌&&◌, Option, Some, None, refl, sym, ap, subst, ◌∙◌, arith, ◌⊎◌, inl, inr, ⊎_elim, true≢false}
use Rattle.std.proofs.lemmas.Bool.{and_parts, and_from, and_right}
use Rattle.std.proofs.lemmas.Option.{same_Some}
use Rattle.ob_perm.specs.Permissions.{Permission, owned, shared, unowned, owns, is_unowned, fits, kept}
use Rattle.ob_table.specs.Tables.{ClassTable}
use Rattle.ob_table.specs.declared.contract.ResolvedType.{ResolvedType}
use Rattle.ob_table.specs.declared.seen.Kind.{Kind}
use Rattle.ob_table_spec.specs.Conditions.{IsClassTable}
use Rattle.ob_table_spec.specs.WellFormed.{kind_of_resolved}
use Rattle.ob_heap_spec.specs.Values.{Value, reference}
use Rattle.ob_silica_places.specs.Converting.{converted, gotten}
use Rattle.ob_silica_places.specs.Known.{known, permission_of_type}
use Rattle.ob_silica_places.specs.Places.{Location, slot}
use Rattle.ob_silica_steps.specs.Cells.{Cell, cell, noted}
use Rattle.ob_silica_steps.specs.Configurations.{SilicaFrame, Configuration}
use Rattle.ob_silica_steps.specs.Here.{Here, here, self_of, counted as counts_as}
use Rattle.ob_silica_steps.specs.Getting.{got_from}
use Rattle.ob_silica_steps.specs.Binding.{bound_cell}
use Rattle.ob_flow_spec.specs.Contexts.{Context, counted, known_as, type_of_field}
use Rattle.ob_flow_spec.specs.Uses.{kind_known, said_for_type}
use Rattle.ob_flow_spec.specs.Filling.{got}
use Rattle.ob_places_laws.specs.Serving.{Allows}
use Rattle.ob_places_laws.proofs.Permissions.{gotten_owns, kept_owns, owner_is, fits_owner}
use Rattle.ob_places_laws.proofs.Serves.{fits_allowed, gotten_keeps, allows_itself}
use Rattle.ob_places_laws.proofs.Conversions.{converted_keeps, converted_owns}
use Rattle.ob_coherent_spec.specs.Counting.{in_cell, one_if, refers_to}
use Rattle.ob_coherent_spec.specs.Standing.{NeedsOwner}
use Rattle.ob_coherent_spec.specs.Saying.{SaysOf}
use Rattle.ob_coherent_spec.specs.Remaining.{BodyParts, body_of}
use Rattle.ob_coherent_spec.specs.Coherent.{Beginning, IsRunning}
use Rattle.ob_soundness_laws.specs.frames.Steps.{KeepsArgument}
use Rattle.ob_soundness_laws.proofs.counting.Cells.{counted_cell}
use Rattle.ob_soundness_laws.specs.places.Placed.{cell_at, Written, Found, Sits}
use Rattle.ob_soundness_laws.proofs.places.Reading.{place_is}
use Rattle.ob_soundness_laws.proofs.places.Keeping.{written_that}
use Rattle.ob_soundness_laws.proofs.places.Finding.{counted_allows, counted_needs, counts_is}

module _ (table : ClassTable) (made : IsClassTable table) (f : SilicaFrame) (parts : BodyParts) (h : Here) (g : Context)
    (k : Sits table f parts h g) where
  -- the kind that is known of a place that is set
  pub kind_found : (p : Location) (u : Found (NeedsOwner table h.world.objects) (g p) (cell_at h p))
      → kind_known (g p) ≡ u.cell.note.kind
  kind_found p u = ap kind_known u.told ∙ sym u.kind

  -- what counts of a place, said for another kind, serves as the rules say it
  pub said_allows : (p : Location) (u : Found (NeedsOwner table h.world.objects) (g p) (cell_at h p)) (l : Kind)
      → Allows (converted table (kind_known (g p)) l (counted g p))
      (converted table u.cell.note.kind l (counts_as h p u.cell))
  said_allows p u l = subst
      (λ m. Allows (converted table m l (counted g p)) (converted table u.cell.note.kind l (counts_as h p u.cell)))
      (sym (kind_found p u))
      (converted_keeps table made u.cell.note.kind l (counted g p) (counts_as h p u.cell)
      (counted_allows table made f parts h g k p u))

  -- what serves by the rules serves in the run
  pub said_fits : (p : Location) (u : Found (NeedsOwner table h.world.objects) (g p) (cell_at h p)) (of : ResolvedType)
      (w : Permission)
      → fits (said_for_type (body_of table f parts) g p of) w ≡ true
      → fits (converted table u.cell.note.kind (kind_of_resolved of) (counts_as h p u.cell)) w ≡ true
  said_fits p u of w e = fits_allowed (said_for_type (body_of table f parts) g p of)
      (converted table u.cell.note.kind (kind_of_resolved of) (counts_as h p u.cell)) w
      (said_allows p u (kind_of_resolved of)) e

  -- what a slot gets in a move is known so
  pub moved_says : (p : Location) (u : Found (NeedsOwner table h.world.objects) (g p) (cell_at h p)) (l : Kind)
      → SaysOf (NeedsOwner table h.world.objects) (Some (known l (converted table (kind_known (g p)) l (counted g p))))
      (Some (cell u.cell.value l (converted table u.cell.note.kind l (counts_as h p u.cell))))
  moved_says p u l = record {
    known = (refl, said_allows p u l);
    owner = λ n m has. let r = counted_cell owns n
        (cell u.cell.value l (converted table u.cell.note.kind l (counts_as h p u.cell))) has in
        converted_owns table (kind_known (g p)) l (counted g p)
        ∙ counted_needs table made f parts h g k p u n m r.1
        (sym (converted_owns table u.cell.note.kind l (counts_as h p u.cell)) ∙ r.0);
  }

  -- what a field gets is known so
  pub filled_says : (p : Location) (u : Found (NeedsOwner table h.world.objects) (g p) (cell_at h p)) (n : ℕ)
      → SaysOf (NeedsOwner table h.world.objects) (got (body_of table f parts) g n p)
      (Some (got_from table (type_of_field (body_of table f parts) n) h p u.cell))
  filled_says p u n =
      let of = type_of_field (body_of table f parts) n in
      let w = permission_of_type of in
      let l = kind_of_resolved of in
      let said = said_for_type (body_of table f parts) g p of in
      let given = converted table u.cell.note.kind l (counts_as h p u.cell) in
      record {
        known = (refl, gotten_keeps w said given (said_allows p u l));
        owner = λ m needs has. let r = counted_cell owns m (cell u.cell.value l (gotten w given)) has in
            let d = and_parts (owns w) (owns given) (sym (gotten_owns w given) ∙ r.0) in
            gotten_owns w said ∙ and_from (owns w) (owns said) d.0
            (converted_owns table (kind_known (g p)) l (counted g p)
            ∙ counted_needs table made f parts h g k p u m needs r.1
            (sym (converted_owns table u.cell.note.kind l (counts_as h p u.cell)) ∙ d.1));
      }

-- what a parameter gets is known as it is declared
pub bound_says : (N : ℕ → Type 0) (of : ResolvedType) (v : Value)
    → SaysOf N (Some (known_as of)) (Some (bound_cell of v))
bound_says N of v = record {
  known = (refl, allows_itself (permission_of_type of));
  owner = λ n m has.
      (counted_cell owns n (bound_cell of v) has).0;
}

-- Who owns.

-- a cell owns by its permission and its value alone
owns_as : (n : ℕ) (x y : Cell) → y.value ≡ x.value → owns y.note.permission ≡ owns x.note.permission
    → in_cell owns n (Some y) ≡ in_cell owns n (Some x)
owns_as n x y v e = ap (λ b. one_if (b && refers_to n y.value)) e
    ∙ ap (λ z. one_if (owns x.note.permission && refers_to n z)) v

owns_none : (n : ℕ) (x : Cell) → owns x.note.permission ≡ false → in_cell owns n (Some x) ≡ 0
owns_none n x e = ap (λ b. one_if (b && refers_to n x.value)) e

-- In a move the owner is handed on: what is kept and what is got own as the place did.
pub hands_on : (table : ClassTable) (n : ℕ) (x : Cell) (v : Permission) (l : Kind)
    → ((v ≡ x.note.permission) ⊎ (v ≡ unowned))
    → in_cell owns n (Some (noted (kept x.note.permission v) x)) + in_cell owns n
    (Some (cell x.value l (converted table x.note.kind l v))) ≡ in_cell owns n (Some x)
hands_on table n x v l h = by_way (owns v) refl
  where
    kept_none : owns v ≡ true → in_cell owns n (Some (noted (kept x.note.permission v) x)) ≡ 0
    kept_none e = owns_none n (noted (kept x.note.permission v) x) (kept_owns x.note.permission v ∙ nothing_left v e)
      where
        nothing_left : (v : Permission) → owns v ≡ true → (owns x.note.permission && is_unowned v) ≡ false
        nothing_left (owned a) e = and_right (owns x.note.permission) false refl
        nothing_left shared e = absurd (true≢false (sym e))
        nothing_left unowned e = absurd (true≢false (sym e))

    owner_counts : owns v ≡ true → owns v ≡ owns x.note.permission
    owner_counts e = ⊎_elim (λ i. ap owns i) (λ i. absurd (true≢false (sym e ∙ ap owns i))) h

    kept_as : (v : Permission) → ((v ≡ x.note.permission) ⊎ (v ≡ unowned)) → owns v ≡ false
        → owns (kept x.note.permission v) ≡ owns x.note.permission
    kept_as (owned a) i e = absurd (true≢false e)
    kept_as shared (inl i) e = ap owns i
    kept_as shared (inr i) e = absurd (let t : shared ≡ unowned = i in cc)
    kept_as unowned i e = refl

    by_way : (b : Bool) → owns v ≡ b
        → in_cell owns n (Some (noted (kept x.note.permission v) x)) + in_cell owns n
        (Some (cell x.value l (converted table x.note.kind l v))) ≡ in_cell owns n (Some x)
    by_way true e =
        let a = kept_none e in
        let d = owns_as n x (cell x.value l (converted table x.note.kind l v)) refl
        (converted_owns table x.note.kind l v ∙ owner_counts e) in
        omega (arith, a, d)
    by_way false e =
        let a = owns_none n (cell x.value l (converted table x.note.kind l v))
        (converted_owns table x.note.kind l v ∙ e) in
        let d = owns_as n x (noted (kept x.note.permission v) x) refl (kept_as v h e) in
        omega (arith, a, d)

-- What is given where an owner is wanted, or no say, is owned as before by the two places.
pub gives_on : (n : ℕ) (x y : Cell) (w : Permission) → y.value ≡ x.value → w ≢ shared
    → (owns w ≡ true → owns x.note.permission ≡ true) → owns y.note.permission ≡ owns w
    → in_cell owns n (Some (noted (kept x.note.permission w) x)) + in_cell owns n (Some y) ≡ in_cell owns n (Some x)
gives_on n x y (owned a) v ne has e =
    let d = owns_none n (noted unowned x) refl in
    let c = owns_as n x y v (e ∙ sym (has refl)) in
    omega (arith, d, c)
gives_on n x y shared v ne has e = absurd (ne refl)
gives_on n x y unowned v ne has e =
    let d = owns_none n y e in
    let c = owns_as n x (noted x.note.permission x) refl refl in
    omega (arith, d, c)

-- What is given where Shared is wanted is owned by neither.
pub gives_shared : (n : ℕ) (x y : Cell) (w : Permission) → w ≡ shared → owns y.note.permission ≡ owns w
    → (in_cell owns n (Some (noted (kept x.note.permission w) x)) ≡ 0) × (in_cell owns n (Some y) ≡ 0)
gives_shared n x y w is e = (
  owns_none n (noted (kept x.note.permission w) x) (ap (λ z. owns (kept x.note.permission z)) is),
  owns_none n y (e ∙ ap owns is),
)

-- what counts as an owner's where it serves as one
pub counted_serves : (table : ClassTable) (h : Here) (p : Location) (x : Cell) (l : Kind) (w : Permission)
    → fits (converted table x.note.kind l (counts_as h p x)) w ≡ true
    → owns w ≡ true → (owns x.note.permission ≡ true) × (owns (counts_as h p x) ≡ true)
counted_serves table h p x l w fit e =
    let o = owner_is w e in
    let r = fits_owner (converted table x.note.kind l (counts_as h p x)) o.0
    (ap (fits (converted table x.note.kind l (counts_as h p x))) (sym o.1) ∙ fit) in
    let d = sym (converted_owns table x.note.kind l (counts_as h p x)) ∙ ap owns r.1 in
    (⊎_elim (λ i. ap owns (sym i) ∙ d) (λ i. absurd (true≢false (sym d ∙ ap owns i))) (counts_is h p x), d)

-- Arguments.

-- Each argument of a step is kept, where a permission changes, if a place that becomes Shared was so or nothing owns
-- its object.
pub carry_arguments : (left : ℕ → ℕ) (h after : Here) (p : Location) (x : Cell) (q : Permission)
    → Written p (Some (noted q x)) h after → cell_at h p ≡ Some x
    → (q ≡ shared → (x.note.permission ≡ shared) ⊎ ((n : ℕ) → x.value ≡ reference n → left n ≡ 0))
    → (j : ℕ) (z : Cell) → h.slots j ≡ Some z → KeepsArgument left z (after.slots j)
carry_arguments left h after p x q w is so j z e = ⊎_elim
    (λ i. subst (KeepsArgument left z) (sym (written_that h after p (Some (noted q x)) w (slot j) i))
    (subst (λ (y : Cell). KeepsArgument left y (Some (noted q x))) (same_Some x z (sym is ∙ ap (cell_at h) (sym i) ∙ e))
    (refl, refl, so)))
    (λ i. subst (KeepsArgument left z) (sym (w.others (slot j) i ∙ e)) (refl, refl, λ s. inl s))
    (place_is (slot j) p)

-- one change after another
pub argument_onward : (left : ℕ → ℕ) (x y : Cell) (z : Option Cell) → KeepsArgument left x (Some y)
    → KeepsArgument left y z → KeepsArgument left x z
argument_onward left x y None a b = b
argument_onward left x y (Some z) a b =
    (b.0 ∙ a.0, b.1 ∙ a.1, λ e. ⊎_elim (λ s. a.2 s) (λ s. inr (λ n v. s n (a.0 ∙ v))) (b.2 e))

-- The frame that runs.

pub sits_holding : (table : ClassTable) (entry : Option ℕ) (beginning : Beginning) (c : Configuration)
    (r : IsRunning table entry beginning c)
    → Sits table c.frame r.whole.parts (here c) r.context
sits_holding table entry beginning c r = record {
  frame = r.whole.frame;
  slots = r.whole.slots;
  fields = r.whole.fields (self_of c.frame.slots);
  object = r.whole.objects (self_of c.frame.slots) r.whole.frame.there;
  says = r.says;
  placed = r.placed;
  owns_made = r.owns_made;
}
