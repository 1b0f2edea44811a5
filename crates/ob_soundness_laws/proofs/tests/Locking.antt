-- What is so of a frame's places stays so where locks come and go.
use Rattle.std.proofs.Common.{◌≡◌, ℕ, Bool, false, ◌≤◌, List, [], ◌∷◌, Option, None, refl, ap, ◌∙◌}
use Rattle.std.proofs.lemmas.Option.{slice_get_past}
use Rattle.std.specs.Option.{option_map_or}
use Rattle.ob_table.specs.Tables.{ClassTable}
use Rattle.ob_table_spec.specs.Conditions.{IsClassTable}
use Rattle.ob_table.specs.declared.contract.Contract.{Contract}
use Rattle.ob_table.specs.declared.contract.Field.{Field}
use Rattle.ob_heap_spec.specs.Objects.{is_available, has_field}
use Rattle.ob_silica_places.specs.Places.{Location, slot, field}
use Rattle.ob_silica_steps.specs.Configurations.{SilicaFrame, Ends, plain_end, test_end, lock_end, loop_end, Rest}
use Rattle.ob_silica_steps.specs.Here.{Here, self_of, read}
use Rattle.ob_flow_spec.specs.Contexts.{BodyFrame, Context, field_count}
use Rattle.ob_coherent_spec.specs.Standing.{NeedsOwner}
use Rattle.ob_coherent_spec.specs.Saying.{Says, every, own_object, own_cell}
use Rattle.ob_coherent_spec.specs.Remaining.{BodyParts, body_of, Leads}
use Rattle.ob_coherent_spec.specs.OpenTests.{IsTestOf, IsOpen, AreOpen}
use Rattle.ob_soundness_laws.specs.places.Placed.{Sits}
use Rattle.ob_soundness_laws.proofs.places.Reading.{no_field_value}
use Rattle.ob_soundness_laws.proofs.places.Finding.{own_is}
use Rattle.ob_soundness_laws.proofs.remaining.Following.{says_leads}

-- a frame works on the same places, with these locks
abbrev pub with_locked : Here → List ℕ → Here
with_locked h ls = record h { world = record h.world { locked = ls } }

pub read_locked : (table : ClassTable) (h : Here) (ls : List ℕ) (p : Location)
    → read table (with_locked h ls) p ≡ read table h p
read_locked table h ls (slot k) = refl
read_locked table h ls (field k) = refl

test_locked : (b : BodyFrame) (h : Here) (ls : List ℕ) (p : Location) (n : ℕ) → IsTestOf b h p n
    → IsTestOf b (with_locked h ls) p n
test_locked b h ls p n a = record {
  inside = a.inside;
  cell = a.cell;
  found = read_locked b.table h ls p
      ∙ a.found;
  object = a.object;
}

end_locked : (b : BodyFrame) (h : Here) (ls : List ℕ) (e : Ends) → IsOpen b h e → IsOpen b (with_locked h ls) e
end_locked b h ls plain_end a = tt
end_locked b h ls (test_end p) a = (a.0, test_locked b h ls p (self_of h.slots) a.1, a.2)
end_locked b h ls (lock_end p n) a = (a.0, test_locked b h ls p n a.1, a.2)
end_locked b h ls (loop_end first x body end) a = a

pub opens_locked : (b : BodyFrame) (h : Here) (ls : List ℕ) (outer : List Rest) → AreOpen b h outer
    → AreOpen b (with_locked h ls) outer
opens_locked b h ls [] a = tt
opens_locked b h ls (r ∷ outer) a = (end_locked b h ls r.ends a.0, a.1, opens_locked b h ls outer a.2)

pub says_locked : (b : BodyFrame) (N : ℕ → Type 0) (g : Context) (h : Here) (ls : List ℕ) (free : Location → Bool)
    → Says b N g h free → Says b N g (with_locked h ls) free
says_locked b N g h ls free s = record { slots = s.slots; fields = s.fields; mode = s.mode }

-- What a context says of a frame's places is so of one that may take the place of it.
pub sits_leads : (table : ClassTable) (t : IsClassTable table) (f : SilicaFrame) (parts : BodyParts) (h : Here)
    (g j : Context) → Sits table f parts h g
    → Leads (body_of table f parts) g j → Says (body_of table f parts) (NeedsOwner table h.world.objects) j h every
sits_leads table t f parts h g j s leads = says_leads
    (body_of table f parts) t g j h every s.slots s.fields s.frame.unset past leads s.says
  where
    past : (n : ℕ) → field_count (body_of table f parts) ≤ n → own_cell h n ≡ None
    past n over = no_field_value h.notes h.world.objects (self_of h.slots) n (s.object.fields n
        (ap (λ (o : Contract). has_field o (own_object h).state n) (own_is table t f parts h g s)
        ∙ ap (λ (x : Option Field). option_map_or (is_available (own_object h).state) x false)
        (slice_get_past parts.own.fields n over)))
