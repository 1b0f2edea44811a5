-- Noting one place after another (this project's own).
use Rattle.std.specs.Prelude.{ℕ, zero, suc, false, ◌||◌, List, [], ◌∷◌, ◌++◌, map, if◌then◌else◌}
use Rattle.std.specs.Option.{option_map_or}
use Rattle.ob_table.specs.Tables.{ClassTable}
use Rattle.ob_heap_spec.specs.Objects.{Object}
use Rattle.ob_heap_spec.specs.Contents.{HandleName, Handle, Content, object_at}
use Rattle.ob_rest_spec.specs.Failing.{is_outside_declaration}
use Rattle.ob_rest_spec.specs.Modes.{is_owned, is_shared}
use Rattle.ob_rest_spec.specs.References.{FieldReference, field_references}
use Rattle.ob_owners.specs.declared.tally.Holding.{Holding}
use Rattle.ob_owners.specs.declared.tally.OwnerCount.{OwnerCount}
use Rattle.ob_owners.specs.declared.tally.OwnerCount.TheVariants.{Zero, One, Many}
use Rattle.ob_owners.specs.declared.tally.Tally.{Tally}

-- how a field holds the object to which it refers
abbrev pub holding_of_field : ClassTable → List Object → FieldReference → Holding
holding_of_field table objects r = record {
  object = record { 0 = r.object };
  mode = r.perm.mode;
  outside = option_map_or (λ o. is_outside_declaration table o r) (object_at objects r.object) false;
}

-- how a handle holds its object
abbrev pub holding_of_handle : HandleName × Handle → Holding
holding_of_handle h = record { object = record { 0 = h.1.object }; mode = h.1.mode; outside = false }

-- how the places of a store hold its objects: the fields, and then the handles
abbrev pub holdings : ClassTable → Content → List Holding
holdings table content =
    map (holding_of_field table content.objects) (field_references table content.objects) ++ map holding_of_handle content.handles

-- the tally of an object to which no place refers
abbrev pub empty_tally : Tally
empty_tally = record { owners = Zero; shared = false; outside = false }

-- one owner more
abbrev pub one_owner_more : OwnerCount → OwnerCount
one_owner_more Zero = One
one_owner_more One = Many
one_owner_more Many = Many

-- a tally with one place more
abbrev pub with_holding : Holding → Tally → Tally
with_holding h t = record {
  owners = if is_owned h.mode then one_owner_more t.owners else t.owners;
  shared = t.shared || is_shared h.mode;
  outside = t.outside || h.outside;
}

-- a list in which the thing at a place, if there is one, is another
abbrev pub with_change_at : {A : Type 0} → ℕ → (A → A) → List A → List A
with_change_at n f [] = []
with_change_at zero f (x ∷ xs) = f x ∷ xs
with_change_at (suc n) f (x ∷ xs) = x ∷ with_change_at n f xs

-- the tallies of the objects, by number, with one place more
abbrev pub tallies_with : Holding → List Tally → List Tally
tallies_with h tallies = with_change_at h.object.0 (with_holding h) tallies

-- the same with more places, one after another
abbrev pub after_holdings : List Holding → List Tally → List Tally
after_holdings [] tallies = tallies
after_holdings (h ∷ hs) tallies = after_holdings hs (tallies_with h tallies)
