-- What a call lends, and what its places get back (Coblenz et al., TOPLAS 42(3), 2020, "Silica"; the statements are
-- this
-- project's own).
use Rattle.std.specs.Prelude.{◌≡◌, ℕ, suc, true, List, [], ◌∷◌, Some, slice_get, ⊤}
use Rattle.ob_perm.specs.Permissions.{owns}
use Rattle.ob_perm.specs.Masks.{permission_of}
use Rattle.ob_table.specs.Tables.{ClassTable}
use Rattle.ob_table_spec.specs.WellFormed.{kind_of_resolved}
use Rattle.ob_silica_places.specs.Parameters.{Parameter}
use Rattle.ob_silica_places.specs.Converting.{converted}
use Rattle.ob_silica_steps.specs.Cells.{Cell}
use Rattle.ob_silica_steps.specs.Configurations.{SlotCells}
use Rattle.ob_flow_spec.specs.Contexts.{Context, permission_at}
use Rattle.ob_flow_spec.specs.Uses.{Read, kind_known}
use Rattle.ob_flow_spec.specs.Binding.{wants_owner}
use Rattle.ob_coherent_spec.specs.Waiting.{Serves}

-- a context says of a place that was given to an owner what its parameter's exit gives back, for its own kind
pub record IsBack (table : ClassTable) (known g : Context) (r : Read) (p : Parameter) : Type 0 where
  pub permission : permission_at g r.location
      ≡ converted table (kind_of_resolved p.of) (kind_known (known r.location)) (permission_of p.exit)
  pub kind : kind_known (g r.location) ≡ kind_known (known r.location)

-- the same of each such place
abbrev pub AreBack : ClassTable → Context → Context → List Read → List Parameter → Type 0
AreBack table known g [] ps = ⊤
AreBack table known g (r ∷ rs) [] = ⊤
AreBack table known g (r ∷ rs) (p ∷ ps) =
    (wants_owner p ≡ true → IsBack table known g r p) × AreBack table known g rs ps

-- The parameter of a number of the body that is called, and what it leaves serves as what the place gets back.
pub record GivesBack (table : ClassTable) (called : List Parameter) (known : Context) (r : Read) (p : Parameter) (n : ℕ)
    : Type 0 where
  pub parameter : Parameter
  pub is : slice_get called n ≡ Some parameter
  pub serves : Serves table (kind_of_resolved parameter.of) (permission_of parameter.exit)
      (kind_known (known r.location))
      (converted table (kind_of_resolved p.of) (kind_known (known r.location)) (permission_of p.exit))

-- the same of each parameter that wants an owner, from a number on
abbrev pub GiveBack : ClassTable → List Parameter → Context → List Read → List Parameter → ℕ → Type 0
GiveBack table called known [] ps n = ⊤
GiveBack table called known (r ∷ rs) [] n = ⊤
GiveBack table called known (r ∷ rs) (p ∷ ps) n =
    (wants_owner p ≡ true → GivesBack table called known r p n) × GiveBack table called known rs ps (suc n)

-- Slots of the callee have the values that were bound, and own where those do.
pub record HasBound (bound slots : SlotCells) : Type 0 where
  pub has : (k : ℕ) (x : Cell) → bound k ≡ Some x
      → (y : Cell) × (slots k ≡ Some y) × (y.value ≡ x.value) × (owns y.note.permission ≡ owns x.note.permission)
