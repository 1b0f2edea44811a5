-- Types one after another, and sites one after another.
use Rattle.std.proofs.Common.{◌≡◌, ℕ, Bool, true, false, List, [], ◌∷◌, ◌++◌, Option, if◌then◌else◌, refl, ap, sym, ◌∙◌}
use Rattle.std.specs.List.{flat_map}
use Rattle.std.proofs.lemmas.List.{map-append}
use Rattle.ob_base.specs.declared.fault.ProgramFault.{ProgramFault}
use Rattle.ob_resolve_spec.specs.Least.{lesser, least_from}
use Rattle.ob_resolve_sites.specs.Noted.{noted_if}
use Rattle.ob_generic_spec.specs.Arguments.{Around}
use Rattle.ob_generic_spec.specs.Uses.{Use, uses_of}
use Rattle.ob_generic_spec.specs.Instances.{Visit, visit_at, visits_at, after_visit, after_visits}
use Rattle.ob_generic_spec.specs.TypeSites.{TypeSite, span_at_type, use_sites, visits_sites}
use Rattle.ob_generic_spec.specs.TypeFaults.{type_conditions, type_fault_at, type_faults_at}
use Rattle.ob_generic_walk.specs.Noted.{noted_by, noted_at, noted}
use Rattle.ob_generic_walk.specs.Seen.{seen_one, seen, met}
use Rattle.ob_generic_walk.specs.declared.found.Found.{Found}

-- Sites.

pub noted-append : (l : Option ProgramFault) (xs ys : List TypeSite) → noted l (xs ++ ys) ≡ noted (noted l xs) ys
noted-append l [] ys = refl
noted-append l (x ∷ xs) ys = noted-append (noted_at l x) xs ys

least_from-append : (l : Option ProgramFault) (fs gs : List ProgramFault)
    → least_from l (fs ++ gs) ≡ least_from (least_from l fs) gs
least_from-append l [] gs = refl
least_from-append l (f ∷ fs) gs = least_from-append (lesser l f) fs gs

noted_if-is : (l : Option ProgramFault) (holds : Bool) (number : ℕ) (site : TypeSite)
    → noted_if l holds number (span_at_type site) ≡ least_from l (if holds then type_fault_at number site ∷ [] else [])
noted_if-is l true number site = refl
noted_if-is l false number site = refl

noted_by-is : (cs : List (ℕ × (TypeSite → Bool))) (l : Option ProgramFault) (site : TypeSite)
    → noted_by cs l site ≡ least_from l (flat_map (λ c. if c.1 site then type_fault_at c.0 site ∷ [] else []) cs)
noted_by-is [] l site = refl
noted_by-is (c ∷ cs) l site =
    noted_by-is cs (noted_if l (c.1 site) c.0 (span_at_type site)) site
    ∙ ap (λ m. least_from m (flat_map (λ c. if c.1 site then type_fault_at c.0 site ∷ [] else []) cs))
    (noted_if-is l (c.1 site) c.0 site)
    ∙ sym (least_from-append l (if c.1 site then type_fault_at c.0 site ∷ [] else [])
    (flat_map (λ c. if c.1 site then type_fault_at c.0 site ∷ [] else []) cs))

-- sites noted one after another give the least of all their faults
pub noted_is : (l : Option ProgramFault) (sites : List TypeSite) → noted l sites ≡ least_from l (flat_map type_faults_at sites)
noted_is l [] = refl
noted_is l (x ∷ xs) =
    noted_is (noted_at l x) xs
    ∙ ap (λ m. least_from m (flat_map type_faults_at xs)) (noted_by-is type_conditions l x)
    ∙ sym (least_from-append l (type_faults_at x) (flat_map type_faults_at xs))

-- Types.

pub seen-append : (f : Found) (us vs : List Visit) → seen f (us ++ vs) ≡ seen (seen f us) vs
seen-append f [] vs = refl
seen-append f (u ∷ us) vs = seen-append (seen_one f u) us vs

pub visits_at-append : (a : Around) (us vs : List Use) → visits_at a (us ++ vs) ≡ visits_at a us ++ visits_at a vs
visits_at-append a us vs = map-append (visit_at a) us vs

pub met-append : (a : Around) (f : Found) (us vs : List Use) → met a f (us ++ vs) ≡ met a (met a f us) vs
met-append a f [] vs = refl
met-append a f (u ∷ us) vs = met-append a (seen f (visits_at a (uses_of u))) us vs

-- the types with those in their arguments, one after another
pub met_is : (a : Around) (f : Found) (us : List Use) → met a f us ≡ seen f (visits_at a (flat_map uses_of us))
met_is a f [] = refl
met_is a f (u ∷ us) =
    met_is a (seen f (visits_at a (uses_of u))) us
    ∙ sym (ap (seen f) (visits_at-append a (uses_of u) (flat_map uses_of us))
    ∙ seen-append f (visits_at a (uses_of u)) (visits_at a (flat_map uses_of us)))

pub seen-known : (f : Found) (vs : List Visit) → (seen f vs).known ≡ after_visits f.known vs
seen-known f [] = refl
seen-known f (v ∷ vs) = seen-known (seen_one f v) vs

pub seen-least : (f : Found) (vs : List Visit) → (seen f vs).least ≡ noted f.least (visits_sites f.known vs)
seen-least f [] = refl
seen-least f (v ∷ vs) =
    seen-least (seen_one f v) vs
    ∙ sym (noted-append f.least (use_sites v.around f.known v.of) (visits_sites (after_visit f.known v) vs))
