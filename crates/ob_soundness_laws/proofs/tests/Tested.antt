-- The place of an open test.
use Rattle.std.proofs.Common.{◌≡◌, ◌≢◌, ℕ, ◌<◌, true, List, [], ◌∷◌, Option, Some, None, refl, sym, ap, ◌∙◌, arith, inl, true≢false}
use Rattle.std.proofs.lemmas.Option.{same_Some}
use Rattle.ob_perm.specs.Permissions.{Permission, owned, shared, unowned, owns}
use Rattle.ob_table.specs.Tables.{ClassTable}
use Rattle.ob_table.specs.declared.contract.Contract.{Contract}
use Rattle.ob_table_spec.specs.Conditions.{IsClassTable}
use Rattle.ob_heap_spec.specs.Values.{reference}
use Rattle.ob_heap_spec.specs.Objects.{has_field}
use Rattle.ob_silica_places.specs.Known.{Known}
use Rattle.ob_silica_places.specs.Places.{Location, slot, field}
use Rattle.ob_silica_steps.specs.Cells.{Cell}
use Rattle.ob_silica_steps.specs.Configurations.{SilicaFrame, by_this, by_new, Waiting, Configuration}
use Rattle.ob_silica_steps.specs.Here.{Here, self_of}
use Rattle.ob_flow_spec.specs.Contexts.{Context, is_set, permission_on, permission_at}
use Rattle.ob_places_laws.specs.Serving.{Allows}
use Rattle.ob_coherent_spec.specs.Runs.{entered_at, entered_among, open_tests}
use Rattle.ob_coherent_spec.specs.Standing.{NeedsOwner}
use Rattle.ob_coherent_spec.specs.Saying.{SaysOf, own_object}
use Rattle.ob_coherent_spec.specs.Remaining.{BodyParts, body_of}
use Rattle.ob_coherent_spec.specs.OpenTests.{IsTestOf}
use Rattle.ob_coherent_spec.specs.Coherent.{Beginning, Holds}
use Rattle.ob_soundness_laws.proofs.counting.Frames.{entered_other}
use Rattle.ob_soundness_laws.proofs.frames.Near.{EachSelf}
use Rattle.ob_soundness_laws.proofs.frames.Apart.{apart_from_above}
use Rattle.ob_soundness_laws.specs.places.Placed.{cell_at, Found, Sits}
use Rattle.ob_soundness_laws.proofs.places.Reading.{read_is, kind_in_run, available_is}
use Rattle.ob_soundness_laws.proofs.places.Finding.{found, own_is}

-- a place that owns is set
owner_set : (y : Option Known) → owns (permission_on y) ≡ true → is_set y ≡ true
owner_set None e = absurd (true≢false (sym e))
owner_set (Some y) e = refl

allowed_owner : (p q : Permission) → owns p ≡ true → Allows p q → owns q ≡ true
allowed_owner (owned a) q e (b, is, sub) = ap owns is
allowed_owner shared q e al = absurd (true≢false (sym e))
allowed_owner unowned q e al = absurd (true≢false (sym e))

module _ (table : ClassTable) (t : IsClassTable table) (f : SilicaFrame) (parts : BodyParts) (h : Here) (g : Context)
    (s : Sits table f parts h g)
    (p : Location) (m : ℕ) (a : IsTestOf (body_of table f parts) h p m) where
  there : cell_at h p ≡ Some a.cell
  there = sym (read_is table h s.frame.there s.object p) ∙ a.found

  said : (p : Location) → cell_at h p ≡ Some a.cell → SaysOf (NeedsOwner table h.world.objects) (g p) (cell_at h p)
  said (slot n) e = s.says.slots n refl
  said (field n) e = s.says.fields n
      (available_is (body_of table f parts) n (own_object h).state
      ∙ ap (λ (o : Contract). has_field o (own_object h).state n) (sym (own_is table t f parts h g s))
      ∙ (kind_in_run table h.notes h.world.objects (self_of h.slots) s.object n a.cell e).0) refl

  -- a place under test that still owns has a cell that owns the tested object
  pub tested_found : owns (permission_at g p) ≡ true → Found (NeedsOwner table h.world.objects) (g p) (cell_at h p)
  tested_found owner = found (NeedsOwner table h.world.objects) (g p) (cell_at h p) (owner_set (g p) owner)
      (said p there)

  pub tested_refers : (u : Found (NeedsOwner table h.world.objects) (g p) (cell_at h p)) → u.cell.value ≡ reference m
  tested_refers u = ap (λ (x : Cell). x.value) (same_Some u.cell a.cell (sym u.is ∙ there)) ∙ a.object

  pub tested_owner : (u : Found (NeedsOwner table h.world.objects) (g p) (cell_at h p))
      → owns (permission_at g p) ≡ true → owns u.cell.note.permission ≡ true
  tested_owner u owner = allowed_owner u.note.permission u.cell.note.permission
      (ap (λ y. owns (permission_on y)) (sym u.told) ∙ owner) u.permission

none_entered : (n : ℕ) (hs : List Waiting) → EachSelf (λ i. i ≢ n) hs → entered_among n hs ≡ 0
none_entered n [] each = refl
none_entered n (h ∷ hs) each = let a = entered_other n h.frame.how h.frame.slots each.0 in
    let b = none_entered n hs each.1 in omega (arith, a, b)

-- no test is open of the object of a constructor that runs
pub test_not_made : (table : ClassTable) (entry : Option ℕ) (beginning : Beginning) (c : Configuration)
    → Holds table entry beginning c
    → 0 < open_tests (self_of c.frame.slots) c → c.frame.how ≢ by_new
test_not_made table entry beginning c k some made =
    let far = apart_from_above table _ c c.frame k.parts _ _ c.stack (self_of c.frame.slots) (inl refl)
    (λ e. absurd (let z : by_new ≡ by_this = sym made ∙ e in cc)) k.waiting in
    let none = none_entered (self_of c.frame.slots) c.stack far in
    let busy = k.tested (self_of c.frame.slots) some in
    let same = k.progress (self_of c.frame.slots) in
    let own : entered_at (self_of c.frame.slots) c.frame.how c.frame.slots ≡ 0 = rw made refl in
    omega (arith, none, busy, same, own)
