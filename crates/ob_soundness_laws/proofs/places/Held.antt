-- What is said of a place that is held in some way.
use Rattle.std.proofs.Common.{◌≡◌, ℕ, true, Option, Some, None, refl}
use Rattle.ob_perm.specs.Permissions.{Permission, owned, shared, unowned, owns, matches}
use Rattle.ob_table.specs.declared.seen.Kind.{Kind}
use Rattle.ob_silica_places.specs.Known.{Known, known}
use Rattle.ob_silica_steps.specs.Cells.{Cell}
use Rattle.ob_flow_spec.specs.Contexts.{is_held_as}
use Rattle.ob_places_laws.proofs.Serves.{allows_matched}
use Rattle.ob_coherent_spec.specs.Saying.{SaysOf}

-- a place that is held as this is said to be held so
pub held_says : (N : ℕ → Type 0) (y : Option Known) (x : Option Cell) (w : Permission) (kind : Kind)
    → ((z : Cell) → x ≡ Some z → z.note.kind ≡ kind) → is_held_as y w ≡ true → SaysOf N y x
    → SaysOf N (Some (known kind w)) x
held_says N None x w kind kinds held s = absurd (cc)
held_says N (Some y) None w kind kinds held s = absurd s.known
held_says N (Some y) (Some x) w kind kinds held s = record {
  known = (kinds x refl, allows_matched y.permission x.note.permission w s.known.1 held);
  owner = λ n needs has. owns_too y.permission w held (s.owner n needs has);
}
  where
    owns_too : (p w : Permission) → matches p w ≡ true → owns p ≡ true → owns w ≡ true
    owns_too (owned a) (owned b) e o = refl
    owns_too (owned a) shared e o = absurd (cc)
    owns_too (owned a) unowned e o = absurd (cc)
    owns_too shared w e o = absurd (cc)
    owns_too unowned w e o = absurd (cc)
