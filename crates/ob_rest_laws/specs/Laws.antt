-- What the laws of a store at rest say (this project's own).
use Rattle.std.specs.Prelude.{◌≡◌, ◌≤◌, ◌<◌, ◌⊎◌, ℕ, Bool, true, false, [], ◌∷◌, ⊤, ◌&&◌, nat_eq, List, filter, length, Some}
use Rattle.std.specs.List.{list_any}
use Rattle.ob_table.specs.Tables.{ClassTable}
use Rattle.ob_heap_spec.specs.Objects.{Object}
use Rattle.ob_heap_spec.specs.Contents.{HandleName, Handle, Content, object_at}
use Rattle.ob_rest_spec.specs.Modes.{is_owned, is_shared}
use Rattle.ob_rest_spec.specs.References.{field_references}
use Rattle.ob_rest_spec.specs.Incoming.{owners}
use Rattle.ob_rest_spec.specs.Failing.{is_marked, FailingWay, fails_by}

-- each object of a store fails in none of the six ways
abbrev pub FailsInNoWay : ClassTable → Content → Type 0
FailsInNoWay table content =
    (n : ℕ) (o : Object) → object_at content.objects n ≡ Some o → (way : FailingWay)
    → fails_by way table content n o ≡ false

-- how many fields own the object of a number
abbrev pub field_owners : ClassTable → List Object → ℕ → ℕ
field_owners table objects n =
    length (filter (λ r. nat_eq r.object n && is_owned r.perm.mode) (field_references table objects))

-- how many handles do
abbrev pub handle_owners : List (HandleName × Handle) → ℕ → ℕ
handle_owners handles n = length (filter (λ h. nat_eq h.1.object n && is_owned h.1.mode) handles)

-- whether a handle on the object of a number is Shared
abbrev pub is_shared_by_handle : List (HandleName × Handle) → ℕ → Bool
is_shared_by_handle handles n = list_any (λ h. nat_eq h.1.object n && is_shared h.1.mode) handles

-- an object is another one, but for marks that it has gained
pub record IsMarkedFrom (o p : Object) : Type 0 where
  pub contract : p.contract ≡ o.contract
  pub state : p.state ≡ o.state
  pub fields : p.fields ≡ o.fields
  pub shared : o.shared ≡ true → p.shared ≡ true
  pub disowned : o.disowned ≡ true → p.disowned ≡ true

-- objects are others, one by one, but for marks that they have gained
abbrev pub AreMarkedFrom : List Object → List Object → Type 0
AreMarkedFrom [] [] = ⊤
AreMarkedFrom (o ∷ objects) (p ∷ after) = IsMarkedFrom o p × AreMarkedFrom objects after
AreMarkedFrom objects after = ⊥

-- A change that keeps a store at rest: objects gain marks at most. No object gains an owner, one that gains a mark has
-- none then, and one that loses an owner has a mark. One on which there is a Shared handle had such a handle, or is
-- marked as shared.
pub record ChangesQuietly (table : ClassTable) (content after : Content) : Type 0 where
  pub objects : AreMarkedFrom content.objects after.objects
  pub owned : (n : ℕ) → owners table after n ≤ owners table content n
  pub marked : (n : ℕ) (o p : Object) → object_at content.objects n ≡ Some o → object_at after.objects n ≡ Some p
      → is_marked o ≡ false → is_marked p ≡ true → owners table after n ≡ 0
  pub lost : (n : ℕ) (p : Object) → object_at after.objects n ≡ Some p
      → owners table after n < owners table content n → is_marked p ≡ true
  pub shared : (n : ℕ) (p : Object) → object_at after.objects n ≡ Some p → is_shared_by_handle after.handles n ≡ true
      → (is_shared_by_handle content.handles n ≡ true) ⊎ (p.shared ≡ true)
