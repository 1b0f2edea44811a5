-- What slots hold after one of them is written, as well-formed terms see it.
use Rattle.std.proofs.Common.{◌≡◌, ℕ, Option, Some, None, sym, ap, subst, ◌∙◌, ⊎_elim}
use Rattle.std.specs.Prelude.{if◌then◌else◌}
use Rattle.std.proofs.lemmas.Bool.Decides.{eqb_tells}
use Rattle.std.proofs.lemmas.Option.{same_Some}
use Rattle.ob_perm.specs.Permissions.{Permission}
use Rattle.ob_table.specs.declared.seen.Kind.{Kind}
use Rattle.ob_table_spec.specs.WellFormed.{is_reference}
use Rattle.ob_silica_places.specs.Known.{at}
use Rattle.ob_silica_places.specs.Places.{Location, slot}
use Rattle.ob_silica_steps.specs.Cells.{Cell, noted}
use Rattle.ob_silica_steps.specs.Configurations.{SlotCells}
use Rattle.ob_silica_steps.specs.Here.{Here}
use Rattle.ob_silica_formed.specs.Holdings.{SlotContent, Holdings, held, with_slot}
use Rattle.ob_coherent_spec.specs.Saying.{every}
use Rattle.ob_coherent_spec.specs.Remaining.{HoldsSo, AreHeld}
use Rattle.ob_soundness_laws.specs.places.Placed.{cell_at, Written}
use Rattle.ob_soundness_laws.proofs.places.Objects.{at_that, at_other}
use Rattle.ob_soundness_laws.proofs.places.Reading.{place_is}
use Rattle.ob_soundness_laws.proofs.places.Keeping.{written_that}

-- a cell of the same kind is held so
pub held_alike : (x : SlotContent) (c d : Cell) → d.note.kind ≡ c.note.kind → HoldsSo x c → HoldsSo x d
held_alike x c d e s = record {
  kind = λ kind i. e
      ∙ s.kind kind i;
  refers = λ i. s.refers (ap is_reference (sym e) ∙ i);
}

-- what is known to have a kind holds a cell of that kind
pub held_of_kind : (kind : Kind) (c : Cell) → c.note.kind ≡ kind → HoldsSo (held (Some kind)) c
held_of_kind kind c e = record { kind = λ l i. e ∙ same_Some kind l i; refers = λ i. ap is_reference (sym e) ∙ i }

-- where a permission changes, all is held as it was
pub held_noted : (i : Holdings) (h after : Here) (p : Location) (x : Cell) (q : Permission)
    → Written p (Some (noted q x)) h after → cell_at h p ≡ Some x
    → AreHeld i h.slots every → AreHeld i after.slots every
held_noted i h after p x q w is a k y f e = ⊎_elim
    (λ s. held_alike (i k) x y
    (ap (λ (z : Cell). z.note.kind)
    (sym (same_Some (noted q x) y (sym (written_that h after p (Some (noted q x)) w (slot k) s) ∙ e))))
    (a k x f (ap (cell_at h) s ∙ is)))
    (λ s. a k y f (sym (w.others (slot k) s) ∙ e))
    (place_is (slot k) p)

-- where a place that is no slot is written, too
pub held_elsewhere : (i : Holdings) (h after : Here) → ((k : ℕ) → after.slots k ≡ h.slots k) → AreHeld i h.slots every
    → AreHeld i after.slots every
held_elsewhere i h after same a k y f e = a k y f (sym (same k) ∙ e)

-- a slot is set to what holds so
pub held_set : (i : Holdings) (slots : SlotCells) (k : ℕ) (x : Cell) (content : SlotContent) → HoldsSo content x
    → AreHeld i slots every
    → AreHeld (with_slot k content i) (at slots k (Some x)) every
held_set i slots k x content s a n y f e = ⊎_elim
    (λ q. subst (λ c. HoldsSo c y) (sym (ap (λ b. if b then content else i n) q.0))
    (subst (HoldsSo content) (same_Some x y (sym (at_that slots k (Some x) n q.1) ∙ e)) s))
    (λ q. subst (λ c. HoldsSo c y) (sym (ap (λ b. if b then content else i n) q.0))
    (a n y f (sym (at_other slots k (Some x) n q.1) ∙ e)))
    (eqb_tells n k)

-- a slot is unset, whatever is said of it then
pub held_unset : (i : Holdings) (slots : SlotCells) (k : ℕ) (content : SlotContent) → AreHeld i slots every
    → AreHeld (with_slot k content i) (at slots k None) every
held_unset i slots k content a n y f e = ⊎_elim
    (λ q. absurd (let z : ◌≡◌ {A = Option Cell} None (Some y) = sym (at_that slots k None n q.1) ∙ e in cc))
    (λ q. subst (λ c. HoldsSo c y) (sym (ap (λ b. if b then content else i n) q.0))
    (a n y f (sym (at_other slots k None n q.1) ∙ e)))
    (eqb_tells n k)
