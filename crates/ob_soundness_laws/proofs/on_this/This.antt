-- `this` is Shared where a call on it wants a Shared one, and its fields are as the call wants them.
use Rattle.std.proofs.Common.{◌≡◌, Bool, true, false, ◌&&◌, ◌||◌, List, [], ◌∷◌, Option, Some, None, refl, sym, ap, subst, ◌∙◌, ⊎_elim, true≢false}
use Rattle.std.specs.Prelude.{if◌then◌else◌}
use Rattle.std.proofs.lemmas.Bool.{cases_Bool, both_ways, or_parts, or_right}
use Rattle.ob_perm.specs.Permissions.{Permission, owned, shared, unowned, owns, kept}
use Rattle.ob_silica_places.specs.Known.{Known, permission_of_type}
use Rattle.ob_silica_places.specs.Places.{Location, same_location}
use Rattle.ob_silica_places.specs.Parameters.{Parameter}
use Rattle.ob_flow_spec.specs.Contexts.{Context, now, with_permission, permission_on, permission_at}
use Rattle.ob_flow_spec.specs.Joining.{same_mode}
use Rattle.ob_flow_spec.specs.Uses.{Read, given_to}
use Rattle.ob_flow_spec.specs.Binding.{wants_owner, is_among, is_given_owning, given_all}
use Rattle.ob_flow_laws.specs.Binding.{EachOnceAfter, EachOnce}
use Rattle.ob_soundness_laws.proofs.places.Reading.{place_is, same_place}

-- What is Shared.

-- what is held as a Shared one is Shared
pub mode_shared : (q : Permission) → same_mode shared q ≡ true → q ≡ shared
mode_shared (owned a) e = absurd (true≢false (sym e))
mode_shared shared e = refl
mode_shared unowned e = absurd (true≢false (sym e))

-- a giver of a Shared one keeps it, unless an owner is wanted
kept_shared : (w : Permission) → owns w ≡ false → kept shared w ≡ shared
kept_shared (owned a) e = absurd (true≢false e)
kept_shared shared e = refl
kept_shared unowned e = refl

kept_where_shared : (p w : Permission) → w ≡ shared → kept p w ≡ shared
kept_where_shared p w e = ap (kept p) e

-- what is set gets the permission
told_shared : (y : Option Known) (w : Permission) → permission_on y ≡ shared → w ≡ shared
    → permission_on (with_permission w y) ≡ shared
told_shared None w e i = absurd (let z : unowned ≡ shared = e in cc)
told_shared (Some y) w e i = i

-- a Shared place stays Shared where it isn't given to an owner
one_shared : (g : Context) (q r : Location) (w : Permission) → permission_at g q ≡ shared
    → (same_location q r ≡ true → owns w ≡ false) → permission_at (now g r (kept (permission_at g r) w)) q ≡ shared
one_shared g q r w e spares = ⊎_elim
    (λ same.
    let here : permission_at g r ≡ shared = ap (permission_at g) (sym same) ∙ e in
    let keeps : kept (permission_at g r) w ≡ shared =
    ap (λ p. kept p w) here ∙ kept_shared w (spares (ap (λ z. same_location z r) same ∙ same_place r)) in
    ap (λ z. permission_on (if same_location z r then with_permission (kept (permission_at g r) w) (g r) else g z)) same
    ∙ ap (λ b. permission_on (if b then with_permission (kept (permission_at g r) w) (g r) else g r)) (same_place r)
    ∙ told_shared (g r) (kept (permission_at g r) w) here keeps)
    (λ other. ap (λ b. permission_on (if b then with_permission (kept (permission_at g r) w) (g r) else g q)) other ∙ e)
    (place_is q r)

all_shared : (g : Context) (rs : List Read) (ps : List Parameter) (q : Location) → permission_at g q ≡ shared
    → is_given_owning q rs ps ≡ false → permission_at (given_all g rs ps) q ≡ shared
all_shared g [] ps q e none = e
all_shared g (r ∷ rs) [] q e none = e
all_shared g (r ∷ rs) (p ∷ ps) q e none =
    let parts = or_parts (same_location q r.location && wants_owner p) (is_given_owning q rs ps) none in
    all_shared (given_to g r.location p) rs ps q
    (one_shared g q r.location (permission_of_type p.of) e
    (λ same. ap (λ b. b && wants_owner p) (sym same) ∙ parts.0)) parts.1

-- a place that stood before these and isn't given to an owner there isn't given to one here
none_after : (owning : Location → Bool) (before rs : List Read) (ps : List Parameter) (q : Location)
    → EachOnceAfter owning before rs → is_among q before ≡ true
    → ((l : Location) → is_given_owning l rs ps ≡ true → owning l ≡ true) → is_given_owning q rs ps ≡ false
none_after owning before [] ps q once among says = refl
none_after owning before (r ∷ rs) [] q once among says = refl
none_after owning before (r ∷ rs) (p ∷ ps) q once among says = ⊎_elim
    (λ yes. ⊎_elim
    (λ here. absurd (both_ways (owning r.location) (once.0 (subst (λ l. is_among l before ≡ true) here among))
    (ap owning (sym here) ∙ says q yes)))
    (λ other. ap (λ b. (b && wants_owner p) || is_given_owning q rs ps) other
    ∙ none_after owning (r ∷ before) rs ps q once.1 (or_right (same_location q r.location) (is_among q before) among)
    (λ l given. says l (or_right (same_location l r.location && wants_owner p) (is_given_owning l rs ps) given)))
    (place_is q r.location))
    (λ no. no)
    (cases_Bool (is_given_owning q (r ∷ rs) (p ∷ ps)))

-- The first place, where it is set and given to a parameter that wants a Shared one, is Shared once all are given.
pub first_shared : (g : Context) (r : Read) (rs : List Read) (p : Parameter) (ps : List Parameter)
    → EachOnce (r ∷ rs) (p ∷ ps) → permission_of_type p.of ≡ shared → (y : Known) → g r.location ≡ Some y
    → permission_at (given_all g (r ∷ rs) (p ∷ ps)) r.location ≡ shared
first_shared g r rs p ps once wants y set =
    let w : kept (permission_at g r.location) (permission_of_type p.of) ≡ shared =
    kept_where_shared (permission_at g r.location) (permission_of_type p.of) wants in
    all_shared (given_to g r.location p) rs ps r.location
    (ap (λ b. permission_on (if b then with_permission (kept (permission_at g r.location) (permission_of_type p.of))
    (g r.location) else g r.location)) (same_place r.location)
    ∙ ap (λ z. permission_on (with_permission (kept (permission_at g r.location) (permission_of_type p.of)) z)) set
    ∙ w)
    (none_after (λ l. is_given_owning l (r ∷ rs) (p ∷ ps)) (r ∷ []) rs ps r.location once.1
    (ap (λ b. b || false) (same_place r.location))
    (λ l given. or_right (same_location l r.location && wants_owner p) (is_given_owning l rs ps) given))
