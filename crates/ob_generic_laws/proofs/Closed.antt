-- Without faults there are no more instances than there may be, so the limit leaves none out.
use Rattle.std.proofs.Common.{◌≡◌, ◌≤◌, Bool, true, false, not, ◌&&◌, ◌||◌, nat_eq, nat_lt, if◌then◌else◌, List, [], ◌∷◌, ◌++◌, Option, Some, None, ◌∙◌, length, take_all, length-append, arith}
use Rattle.std.proofs.lemmas.Bool.Decides.{nat_tests}
use Rattle.ob_base.specs.Limits.{most_instances, most_noted}
use Rattle.ob_table_spec.specs.Names.{in_order}
use Rattle.ob_resolve_spec.specs.Declarations.{Program}
use Rattle.ob_generic_spec.specs.Arguments.{Around}
use Rattle.ob_generic_spec.specs.Uses.{Use, used}
use Rattle.ob_generic_spec.specs.Instances.{is_known, with_needed, short_one, instance_of, type_of_use, is_long, Visit, after_visit, after_visits, visits, needed_by, instances_of}
use Rattle.ob_generic_spec.specs.TypeSites.{head_sites, use_sites, visits_sites}
use Rattle.ob_generic_spec.specs.TypeFaults.{is_one_too_many, HasNoTypeFault}
use Rattle.ob_generic_spec.specs.declared.instance.Instance.{Instance}
use Rattle.ob_resolve_laws.proofs.Each.{Each, each_left, each_right}
use Rattle.ob_generic_laws.proofs.Clean.{IsClean, clean_sites}
use Rattle.ob_generic_laws.proofs.Rounds.{instances_needed}

-- one more is needed where no one is too many
within_one : (known : List Instance) (o : Option Instance) → is_one_too_many known o ≡ false
    → length known ≤ most_instances → length (with_needed known (short_one o)) ≤ most_instances
within_one known None e h = h
within_one known (Some x) e h = by (is_long x) e
  where
    added : (k : Bool) → (not k && nat_eq (length known) most_instances) ≡ false
        → length (if k || not (nat_lt (length known) most_noted) then known else known ++ x ∷ []) ≤ most_instances
    added true e = h
    added false e = more (nat_lt (length known) most_noted)
      where
        more : (b : Bool) → length (if not b then known else known ++ x ∷ []) ≤ most_instances
        more false = h
        more true = grind (arith, nat_tests, e, h, length-append known (x ∷ []))

    by : (long : Bool) → (long || not (is_known known x.name) && nat_eq (length known) most_instances) ≡ false
        → length (with_needed known (if long then None else Some x)) ≤ most_instances
    by true e = absurd (cc e)
    by false e = added (is_known known x.name) e

-- so it is at a site without faults
pub needs_few : (a : Around) (known : List Instance) (u : Use) → Each IsClean (use_sites a known u)
    → is_one_too_many known (instance_of a (type_of_use u)) ≡ false
needs_few a known (used role type) clean = clean.0.too_many

within : (known : List Instance) (vs : List Visit) → Each IsClean (visits_sites known vs)
    → length known ≤ most_instances → length (after_visits known vs) ≤ most_instances
within known [] clean h = h
within known (v ∷ vs) clean h =
    let here = use_sites v.around known v.of in
    let rest = visits_sites (after_visit known v) vs in
    within (after_visit known v) vs (each_right IsClean here rest clean)
    (within_one known (instance_of v.around (type_of_use v.of))
    (needs_few v.around known v.of (each_left IsClean here rest clean)) h)

-- the types that are met in a program without faults
pub clean_visits : (program : Program) → HasNoTypeFault program
    → Each IsClean (visits_sites [] (visits program (instances_of program)))
clean_visits program none =
    each_right IsClean (in_order head_sites program) (visits_sites [] (visits program (instances_of program)))
    (clean_sites program none)

pub nothing_else : (program : Program) → HasNoTypeFault program
    → instances_of program ≡ needed_by program (instances_of program)
nothing_else program none =
    instances_needed program
    ∙ take_all most_instances (needed_by program (instances_of program))
    (within [] (visits program (instances_of program)) (clean_visits program none) (omega arith))
