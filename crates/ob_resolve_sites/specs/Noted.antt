-- Sites that are looked at one after another, with the least fault so far.
use Rattle.std.specs.Prelude.{◌≡◌, ℕ, Bool, true, false, not, ◌||◌, List, [], ◌∷◌, ◌++◌, map, Option, Some, None, flat_map, is_none, option_map, suc, refl, if◌then◌else◌}
use Rattle.std.proofs.Common.{ap, sym, ◌∙◌}
use Rattle.ob_base.specs.declared.fault.Span.{Span}
use Rattle.ob_base.specs.declared.fault.ProgramFault.{ProgramFault}
use Rattle.ob_table_spec.specs.Names.{Name, same, is_among, number_of}
use Rattle.ob_resolve_spec.specs.Sites.{Site, span_at}
use Rattle.ob_resolve_spec.specs.Faults.{conditions, fault_at, faults_at}
use Rattle.ob_resolve_spec.specs.Least.{lesser, least_from}

-- the least fault, where one more is there or isn't
abbrev pub noted_if : Option ProgramFault → Bool → ℕ → Span → Option ProgramFault
noted_if l holds number span = if holds then lesser l (record { number = number; span = span }) else l

-- the least fault after those of these conditions that hold at a site
abbrev pub noted_by : List (ℕ × (Site → Bool)) → Option ProgramFault → Site → Option ProgramFault
noted_by [] l site = l
noted_by (c ∷ cs) l site = noted_by cs (noted_if l (c.1 site) c.0 (span_at site)) site

-- the least fault after one more site
abbrev pub noted_at : Option ProgramFault → Site → Option ProgramFault
noted_at l site = noted_by conditions l site

-- the least fault after these sites
abbrev pub noted : Option ProgramFault → List Site → Option ProgramFault
noted l [] = l
noted l (site ∷ sites) = noted (noted_at l site) sites

-- the names of a row of names with their numbers
abbrev pub names_in : List (Name × ℕ) → List Name
names_in = map (λ e. e.0)

pub noted-append : (l : Option ProgramFault) (xs ys : List Site) → noted l (xs ++ ys) ≡ noted (noted l xs) ys
noted-append l [] ys = refl
noted-append l (x ∷ xs) ys = noted-append (noted_at l x) xs ys

least_from-append : (l : Option ProgramFault) (fs gs : List ProgramFault)
    → least_from l (fs ++ gs) ≡ least_from (least_from l fs) gs
least_from-append l [] gs = refl
least_from-append l (f ∷ fs) gs = least_from-append (lesser l f) fs gs

noted_if-is : (l : Option ProgramFault) (holds : Bool) (number : ℕ) (site : Site)
    → noted_if l holds number (span_at site) ≡ least_from l (if holds then fault_at number site ∷ [] else [])
noted_if-is l true number site = refl
noted_if-is l false number site = refl

noted_by-is : (cs : List (ℕ × (Site → Bool))) (l : Option ProgramFault) (site : Site)
    → noted_by cs l site ≡ least_from l (flat_map (λ c. if c.1 site then fault_at c.0 site ∷ [] else []) cs)
noted_by-is [] l site = refl
noted_by-is (c ∷ cs) l site =
    noted_by-is cs (noted_if l (c.1 site) c.0 (span_at site)) site
    ∙ ap (λ m. least_from m (flat_map (λ c. if c.1 site then fault_at c.0 site ∷ [] else []) cs))
    (noted_if-is l (c.1 site) c.0 site)
    ∙ sym (least_from-append l (if c.1 site then fault_at c.0 site ∷ [] else [])
    (flat_map (λ c. if c.1 site then fault_at c.0 site ∷ [] else []) cs))

-- sites noted one after another give the least of all their faults
pub noted_is : (l : Option ProgramFault) (sites : List Site) → noted l sites ≡ least_from l (flat_map faults_at sites)
noted_is l [] = refl
noted_is l (x ∷ xs) =
    noted_is (noted_at l x) xs
    ∙ ap (λ m. least_from m (flat_map faults_at xs)) (noted_by-is conditions l x)
    ∙ sym (least_from-append l (faults_at x) (flat_map faults_at xs))

none_suc : (o : Option ℕ) → is_none (option_map suc o) ≡ is_none o
none_suc None = refl
none_suc (Some n) = refl

-- a name without a number is none of them
pub number_of-is_none : (name : Name) (names : List Name) → is_none (number_of name names) ≡ not (is_among name names)
number_of-is_none name [] = refl
number_of-is_none name (x ∷ xs) = by (same name x) (number_of-is_none name xs)
  where
    by : (b : Bool) → is_none (number_of name xs) ≡ not (is_among name xs)
        → is_none (if b then Some 0 else option_map suc (number_of name xs)) ≡ not (b || is_among name xs)
    by true e = refl
    by false e = none_suc (number_of name xs) ∙ e

pub ruleset notes = (noted-append, number_of-is_none)
