-- Using a place, and giving it where a permission is wanted (Coblenz et al., TOPLAS 42(3), 2020, "Permissions"; the
-- premises and their order are this project's own).
use Rattle.std.specs.Prelude.{Bool, true, false, ◌&&◌, not, List, [], ◌++◌, Option, Some, None}
use Rattle.ob_base.specs.Faults.{not_accessible, unset, under_test, this_in_constructor}
use Rattle.ob_base.specs.declared.fault.Span.{Span}
use Rattle.ob_perm.specs.Permissions.{Permission, owned, shared, unowned, owns, kept, fit_fault, fault_number}
use Rattle.ob_perm.specs.Masks.{permission_of}
use Rattle.ob_perm.specs.declared.permission.FitFault.{FitFault}
use Rattle.ob_table.specs.declared.contract.ResolvedType.{ResolvedType}
use Rattle.ob_table.specs.declared.seen.Kind.{Kind}
use Rattle.ob_table.specs.declared.seen.Kind.TheVariants.{Int}
use Rattle.ob_table_spec.specs.WellFormed.{kind_of_resolved}
use Rattle.ob_silica_places.specs.Parameters.{Parameter}
use Rattle.ob_silica_places.specs.Known.{Known, permission_of_type}
use Rattle.ob_silica_places.specs.Places.{Location, slot, field, this, same_location}
use Rattle.ob_silica_places.specs.Converting.{converted}
use Rattle.ob_flow_spec.specs.Premises.{Premise, one}
use Rattle.ob_flow_spec.specs.Contexts.{BodyFrame, constructs, Context, now, permission_at, counted, is_set, accessible, TestedPlaces, is_tested}

-- a place that a form reads, and where a fault of it stands in the text
pub record Read : Type 0 where
  pub location : Location
  pub span : Span

-- the kind of what is known of a place; that of one that is unset is no reference's
abbrev pub kind_known : Option Known → Kind
kind_known None = Int
kind_known (Some x) = x.kind

-- reading a place: a field is accessible, and the place is set
abbrev pub reads_place : BodyFrame → Context → Location → Span → List Premise
reads_place b g (slot k) place = one unset place (is_set (g (slot k)))
reads_place b g (field f) place = one not_accessible place (accessible b g f) ++ one unset place (is_set (g (field f)))

-- using a place: a constructor doesn't use `this`, and else it is read
abbrev pub uses_place : BodyFrame → Context → Read → List Premise
uses_place b g r =
    one this_in_constructor r.span (not (constructs b && same_location r.location this))
    ++ reads_place b g r.location r.span

-- a permission serves where another is wanted, or else this is the cause
abbrev pub fitting : Option FitFault → Span → List Premise
fitting None span = []
fitting (Some cause) span = one (fault_number cause) span false

-- whether a place given where a permission is wanted doesn't come back as an owner's: it is shared from then on, or its
-- owner is gone
abbrev pub goes_away : Permission → Permission → Bool
goes_away (owned a) exit = not (owns exit)
goes_away shared exit = true
goes_away unowned exit = false

-- the permission on a place, as it counts, said for a type
abbrev pub said_for_type : BodyFrame → Context → Location → ResolvedType → Permission
said_for_type b g p of = converted b.table (kind_known (g p)) (kind_of_resolved of) (counted g p)

-- Giving a place to a parameter: it is used, it serves what the parameter's type wants, and a place under test stays its
-- owner's.
abbrev pub gives_place : BodyFrame → TestedPlaces → Context → Read → Parameter → List Premise
gives_place b ts g r p =
    uses_place b g r
    ++ fitting (fit_fault (said_for_type b g r.location p.of) (permission_of_type p.of)) r.span
    ++ one under_test r.span
    (not (is_tested ts r.location && goes_away (permission_of_type p.of) (permission_of p.exit)))

-- the context once a place was given where this permission is wanted
abbrev pub after_give : Context → Location → Permission → Context
after_give g p wanted = now g p (kept (permission_at g p) wanted)

-- the same, given to a parameter
abbrev pub given_to : Context → Location → Parameter → Context
given_to g p to = after_give g p (permission_of_type to.of)
