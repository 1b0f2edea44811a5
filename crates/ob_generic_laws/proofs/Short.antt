-- No instance has too long a name.
use Rattle.std.proofs.Common.{◌≡◌, Bool, true, false, not, ◌||◌, nat_lt, if◌then◌else◌, List, [], ◌∷◌, ◌++◌, Option, Some, None, refl, sym, subst, length}
use Rattle.std.specs.Prelude.{All}
use Rattle.std.proofs.lemmas.List.Elements.{All-nil, All-push, All-take}
use Rattle.ob_base.specs.Limits.{most_instances, most_noted}
use Rattle.ob_resolve_spec.specs.Declarations.{Program}
use Rattle.ob_generic_spec.specs.Instances.{is_known, with_instance, with_needed, short_one, instance_of, type_of_use, is_long, Visit, after_visit, after_visits, visits, needed_by, instances_of}
use Rattle.ob_generic_spec.specs.declared.instance.Instance.{Instance}
use Rattle.ob_generic_laws.proofs.Rounds.{instances_needed}

abbrev IsShort : Instance → Type 0
IsShort x = is_long x ≡ false

abbrev AreShort : List Instance → Type 0
AreShort = All IsShort

with_short : (known : List Instance) (x : Instance) → AreShort known → IsShort x → AreShort (with_instance known x)
with_short known x h k = by (is_known known x.name || not (nat_lt (length known) most_noted))
  where
    by : (b : Bool) → AreShort (if b then known else known ++ x ∷ [])
    by true = h
    by false = All-push IsShort known x h k

after_short : (known : List Instance) (o : Option Instance) → AreShort known → AreShort (with_needed known (short_one o))
after_short known None h = h
after_short known (Some x) h = by (is_long x) refl
  where
    by : (b : Bool) → is_long x ≡ b → AreShort (with_needed known (if b then None else Some x))
    by true e = h
    by false e = with_short known x h e

visits_short : (known : List Instance) (vs : List Visit) → AreShort known → AreShort (after_visits known vs)
visits_short known [] h = h
visits_short known (v ∷ vs) h =
    visits_short (after_visit known v) vs (after_short known (instance_of v.around (type_of_use v.of)) h)

pub all_short : (program : Program) → All (λ x. is_long x ≡ false) (instances_of program)
all_short program =
    subst AreShort (sym (instances_needed program))
    (All-take IsShort most_instances (needed_by program (instances_of program))
    (visits_short [] (visits program (instances_of program)) (All-nil IsShort)))
