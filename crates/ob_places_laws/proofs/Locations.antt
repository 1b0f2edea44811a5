-- Places of a context, and writing to them.
use Rattle.std.proofs.Common.{◌≡◌, ◌≢◌, true, false, Option, Some, None, refl, sym, ap, ◌∙◌, ◌⊎◌, inl, inr, ⊎_elim, eqb-true, eq-eqb, true≢false}
use Rattle.std.proofs.lemmas.Bool.{cond-true, cond-false, both_ways, cases_Bool, false_from_ne_true}
use Rattle.ob_perm.specs.Permissions.{Permission}
use Rattle.ob_silica_places.specs.Known.{Known, known}
use Rattle.ob_silica_places.specs.Places.{Location, slot, field, same_location}
use Rattle.ob_flow_spec.specs.Contexts.{Context, put, now, with_permission, permission_on, permission_at, is_set}

-- Places.

pub same_location_is : (p q : Location) → same_location p q ≡ true → p ≡ q
same_location_is (slot j) (slot k) e = ap slot (eqb-true j k e)
same_location_is (slot j) (field k) e = absurd (true≢false (sym e))
same_location_is (field j) (slot k) e = absurd (true≢false (sym e))
same_location_is (field j) (field k) e = ap field (eqb-true j k e)

pub same_location_itself : (p : Location) → same_location p p ≡ true
same_location_itself (slot k) = eq-eqb k k refl
same_location_itself (field k) = eq-eqb k k refl

pub other_location : (p q : Location) → p ≢ q → same_location p q ≡ false
other_location p q other = false_from_ne_true (same_location p q) (λ e. other (same_location_is p q e))

pub same_or_other : (p q : Location) → (p ≡ q) ⊎ (p ≢ q)
same_or_other p q = ⊎_elim
    (λ same. inl (same_location_is p q same))
    (λ other. inr (λ e. both_ways (same_location p q) other (ap (same_location p) (sym e) ∙ same_location_itself p)))
    (cases_Bool (same_location p q))

-- Writing.

pub put_there : (g : Context) (p : Location) (x : Option Known) → put g p x p ≡ x
put_there g p x = cond-true (same_location p p) x (g p) (same_location_itself p)

pub put_elsewhere : (g : Context) (p q : Location) (x : Option Known) → q ≢ p → put g p x q ≡ g q
put_elsewhere g p q x other = cond-false (same_location q p) x (g q) (other_location q p other)

pub now_there : (g : Context) (p : Location) (w : Permission) → now g p w p ≡ with_permission w (g p)
now_there g p w = put_there g p (with_permission w (g p))

pub now_elsewhere : (g : Context) (p q : Location) (w : Permission) → q ≢ p → now g p w q ≡ g q
now_elsewhere g p q w other = put_elsewhere g p q (with_permission w (g p)) other

-- A place that is set has what is written as its permission, and keeps its kind.
pub now_known : (g : Context) (p : Location) (w : Permission) (k : Known) → g p ≡ Some k
    → now g p w p ≡ Some (known k.kind w)
now_known g p w k e = now_there g p w ∙ ap (with_permission w) e

pub permission_now : (g : Context) (p : Location) (w : Permission) → is_set (g p) ≡ true
    → permission_at (now g p w) p ≡ w
permission_now g p w set = ap permission_on (now_there g p w) ∙ of_set (g p) set
  where
    of_set : (x : Option Known) → is_set x ≡ true → permission_on (with_permission w x) ≡ w
    of_set None e = absurd (true≢false (sym e))
    of_set (Some k) e = refl

pub set_is : (x : Option Known) → is_set x ≡ true → (k : Known) × (x ≡ Some k)
set_is None e = absurd (true≢false (sym e))
set_is (Some k) e = (k, refl)
