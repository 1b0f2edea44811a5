-- From one instance to the next, and what was found at the end.
use Rattle.std.proofs.Common.{◌≡◌, ℕ, [], ◌∷◌, ◌++◌, Option, None, Some, ap, sym, ◌∙◌, ◌+◌, add-one, append-nil}
use Rattle.std.specs.Prelude.{slice_get}
use Rattle.std.specs.List.{flat_map}
use Rattle.ob_base.specs.Limits.{most_instances}
use Rattle.ob_table_spec.specs.Names.{in_order}
use Rattle.ob_resolve_spec.specs.Declarations.{Program}
use Rattle.ob_generic_spec.specs.Heads.{heads_of}
use Rattle.ob_generic_spec.specs.Instances.{plain_visits, instance_visits, visits, needed_by, instances_of}
use Rattle.ob_generic_spec.specs.TypeSites.{head_sites, visits_sites, type_sites_of}
use Rattle.ob_generic_spec.specs.TypeFaults.{least_type_fault}
use Rattle.ob_generic_spec.specs.declared.instance.Instance.{Instance}
use Rattle.ob_generic_laws.proofs.Rounds.{visits-append}
use Rattle.ob_generic_walk.specs.Seen.{seen, start_of}
use Rattle.ob_generic_walk.specs.Stages.{stage}
use Rattle.ob_generic_walk.specs.declared.found.Found.{Found}
use Rattle.ob_generic_walk.proofs.SeenLemmas.{seen-append, seen-known, seen-least, noted-append, noted_is}
use Rattle.ob_generic_walk.proofs.StageLemmas.{stage_some, stage_none, stage_last}

-- what is found once the instances of a stage were gone over
abbrev pub At : Program → ℕ → Found
At program n = seen (start_of program) (visits program (stage program n))

-- the instance of a number that is known is that which is needed
pub needed_at : (program : Program) (n : ℕ) (f : Found) (o : Option Instance) → f ≡ At program n → o ≡ slice_get f.known n
    → slice_get (needed_by program (stage program n)) n ≡ o
needed_at program n f o e is =
    sym (is ∙ ap (λ k. slice_get k n)
    (ap (λ g. g.known) e ∙ seen-known (start_of program) (visits program (stage program n))))

pub some_step : (program : Program) (n : ℕ) (f : Found) (x : Instance) → f ≡ At program n → Some x ≡ slice_get f.known n
    → seen f (instance_visits program x) ≡ At program (n + 1)
some_step program n f x e is =
    ap (λ g. seen g (instance_visits program x)) e
    ∙ sym (ap (At program) (add-one n)
    ∙ ap (λ s. seen (start_of program) (visits program s)) (stage_some program n x (needed_at program n f (Some x) e is))
    ∙ ap (seen (start_of program)) (visits-append program (stage program n) (x ∷ [])
    ∙ ap (λ v. visits program (stage program n) ++ v) (append-nil (instance_visits program x)))
    ∙ seen-append (start_of program) (visits program (stage program n)) (instance_visits program x))

pub none_step : (program : Program) (n : ℕ) (f : Found) → f ≡ At program n → None ≡ slice_get f.known n
    → f ≡ At program (n + 1)
none_step program n f e is =
    e ∙ sym (ap (At program) (add-one n)
    ∙ ap (λ s. seen (start_of program) (visits program s)) (stage_none program n (needed_at program n f None e is)))

pub first_step : (program : Program)
    → seen (start_of program) (flat_map (plain_visits (heads_of program)) program) ≡ seen (start_of program) (visits program [])
first_step program = ap (seen (start_of program)) (sym (append-nil (flat_map (plain_visits (heads_of program)) program)))

pub last_step : (program : Program) (n : ℕ) → n ≡ most_instances
    → At program n ≡ seen (start_of program) (visits program (instances_of program))
last_step program n e =
    ap (At program) e ∙ ap (λ s. seen (start_of program) (visits program s)) (stage_last program)

pub found_known : (program : Program) (f : Found) → f ≡ seen (start_of program) (visits program (instances_of program))
    → f.known ≡ needed_by program (instances_of program)
found_known program f e =
    ap (λ g. g.known) e ∙ seen-known (start_of program) (visits program (instances_of program))

pub found_least : (program : Program) (f : Found) → f ≡ seen (start_of program) (visits program (instances_of program))
    → f.least ≡ least_type_fault program
found_least program f e =
    ap (λ g. g.least) e
    ∙ seen-least (start_of program) (visits program (instances_of program))
    ∙ sym (noted-append None (in_order head_sites program) (visits_sites [] (visits program (instances_of program))))
    ∙ noted_is None (type_sites_of program)

pub ruleset steps = (first_step)
