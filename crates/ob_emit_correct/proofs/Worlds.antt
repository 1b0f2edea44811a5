-- What is done alike in two worlds that differ only in the order of reads leaves two such worlds.
use Rattle.std.proofs.Common.{◌≡◌, ℕ, suc, Bool, true, false, List, [], ◌∷◌, Option, Some, None, inl, inr, refl, sym, ap, ◌∙◌, subst}
use Rattle.std.specs.Prelude.{Contains, if◌then◌else◌}
use Rattle.std.specs.Option.{option_map_or}
use Rattle.std.proofs.lemmas.List.Elements.{Contains-append_left, Contains-append_right, Contains-append_cases}
use Rattle.ob_perm.specs.Permissions.{is_shared}
use Rattle.ob_perm.specs.Masks.{permission_of}
use Rattle.ob_table.specs.declared.contract.ResolvedType.{ResolvedType}
use Rattle.ob_table.specs.declared.contract.ResolvedType.TheVariants.{Int, Bool as BoolKind, Text, Reference}
use Rattle.ob_heap_spec.specs.Values.{Value, int_value, bool_value, text_value, reference}
use Rattle.ob_heap_spec.specs.Objects.{Object}
use Rattle.ob_heap_spec.specs.Contents.{object_at}
use Rattle.ob_heap_spec.specs.Worlds.{ReadItem, object_item, World, AllRead, ReadSame, SameWorld, is_made, with_read, read_object, set_object, edit_object, make_object, with_unit_taken}
use Rattle.ob_heap_spec.specs.Marks.{has_mark, mark_shared, mark_disowned, comes_into, lock, unlock, enter, leave}

-- a world with other reads
abbrev pub reading : List ReadItem → World → World
reading items w = record w { reads = items }

pub same_self : (w : World) → SameWorld w w
same_self w =
    record {
      objects = refl;
      made = refl;
      locked = refl;
      progress = refl;
      fuel = refl;
      taken = refl;
      reads = ((λ item c. c), (λ item c. c));
    }

-- a world with the same reads in another order
pub same_reading : (w : World) (items : List ReadItem) → ReadSame w.reads items → SameWorld w (reading items w)
same_reading w items s =
    record { objects = refl; made = refl; locked = refl; progress = refl; fuel = refl; taken = refl; reads = s }

-- the second of two such worlds is the first with other reads
same_as : (w v : World) → SameWorld w v → v ≡ reading v.reads w
same_as w v s =
    ap {B = World} (λ x. record v { objects = x }) s.objects
    ∙ ap {B = World} (λ x. record v { objects = w.objects; made = x }) s.made
    ∙ ap {B = World} (λ x. record v { objects = w.objects; made = w.made; locked = x }) s.locked
    ∙ ap {B = World} (λ x. record v { objects = w.objects; made = w.made; locked = w.locked; progress = x }) s.progress
    ∙ ap {B = World}
    (λ x. record v { objects = w.objects; made = w.made; locked = w.locked; progress = w.progress; fuel = x }) s.fuel
    ∙ ap {B = World}
    (λ x. record v { objects = w.objects; made = w.made; locked = w.locked; progress = w.progress; fuel = w.fuel; taken = x })
    s.taken

-- what holds of each world with the same reads in another order holds of such a world
pub by_reads : (P : World → Type 0) {w v : World} → SameWorld w v
    → ((items : List ReadItem) → ReadSame w.reads items → P (reading items w)) → P v
by_reads P {w} {v} s h = subst P (sym (same_as w v s)) (h v.reads s.reads)

-- Reads.

all_on : (a b c : List ReadItem) → AllRead a b → AllRead b c → AllRead a c
all_on a b c f g item h = g item (f item h)

pub same_on : {u w v : World} → SameWorld u w → SameWorld w v → SameWorld u v
same_on {u} {w} {v} a b = record {
  objects = b.objects ∙ a.objects;
  made = b.made ∙ a.made;
  locked = b.locked ∙ a.locked;
  progress = b.progress ∙ a.progress;
  fuel = b.fuel ∙ a.fuel;
  taken = b.taken ∙ a.taken;
  reads = (all_on u.reads w.reads v.reads a.reads.0 b.reads.0, all_on v.reads w.reads u.reads b.reads.1 a.reads.1);
}

all_more : (x : ReadItem) (rs ss : List ReadItem) → AllRead rs ss → AllRead (x ∷ rs) (x ∷ ss)
all_more x rs ss h item c =
    elim (Contains-append_cases (x ∷ []) rs item c) as
    (λ y. Contains (x ∷ ss) item)
    [ inl d ↦ Contains-append_left (x ∷ []) ss item d | inr d ↦ Contains-append_right (x ∷ []) ss item (h item d) ]

-- one item more is read
pub same_read : {w v : World} (x : ReadItem) → SameWorld w v → SameWorld (with_read w x) (with_read v x)
same_read {w} {v} x s = record {
  objects = s.objects;
  made = s.made;
  locked = s.locked;
  progress = s.progress;
  fuel = s.fuel;
  taken = s.taken;
  reads = (all_more x w.reads v.reads s.reads.0, all_more x v.reads w.reads s.reads.1);
}

-- what is the same either way
same_if : (b : Bool) {w x v y : World} → SameWorld w v → SameWorld x y → SameWorld (if b then w else x) (if b then v else y)
same_if true a b = a
same_if false a b = b

pub same_read_object : {w v : World} (n : ℕ) → SameWorld w v → SameWorld (read_object w n) (read_object v n)
same_read_object {w} n s = by_reads (λ v. SameWorld (read_object w n) (read_object v n)) s (λ items r.
    same_if (is_made w n) (same_reading w items r) (same_read (object_item n) (same_reading w items r)))

-- Parts.

pub same_unit : {w v : World} (n : ℕ) → SameWorld w v → SameWorld (with_unit_taken w n) (with_unit_taken v n)
same_unit n s = record {
  objects = s.objects;
  made = s.made;
  locked = s.locked;
  progress = s.progress;
  fuel = refl;
  taken = ap suc s.taken;
  reads = s.reads;
}

pub same_lock : {w v : World} (n : ℕ) → SameWorld w v → SameWorld (lock n w) (lock n v)
same_lock {w} n s = by_reads (λ v. SameWorld (lock n w) (lock n v)) s (λ items r. same_reading (lock n w) items r)

pub same_unlock : {w v : World} (n : ℕ) → SameWorld w v → SameWorld (unlock n w) (unlock n v)
same_unlock {w} n s = by_reads (λ v. SameWorld (unlock n w) (unlock n v)) s (λ items r. same_reading (unlock n w) items r)

pub same_enter : {w v : World} (n : ℕ) → SameWorld w v → SameWorld (enter n w) (enter n v)
same_enter {w} n s = by_reads (λ v. SameWorld (enter n w) (enter n v)) s (λ items r. same_reading (enter n w) items r)

pub same_leave : {w v : World} (n : ℕ) → SameWorld w v → SameWorld (leave n w) (leave n v)
same_leave {w} n s = by_reads (λ v. SameWorld (leave n w) (leave n v)) s (λ items r. same_reading (leave n w) items r)

pub same_make : {w v : World} (o : Object) → SameWorld w v → SameWorld (make_object w o) (make_object v o)
same_make {w} o s =
    by_reads (λ v. SameWorld (make_object w o) (make_object v o)) s (λ items r. same_reading (make_object w o) items r)

-- an edit of an object that is there, or isn't
edit_reading : (f : Object → Object) (n : ℕ) (w : World) (items : List ReadItem) (o : Option Object) → ReadSame w.reads items
    → SameWorld (option_map_or (λ x. set_object w n (f x)) o w)
    (option_map_or (λ x. set_object (reading items w) n (f x)) o (reading items w))
edit_reading f n w items None r = same_reading w items r
edit_reading f n w items (Some o) r = same_reading (set_object w n (f o)) items r

pub same_edit : {w v : World} (f : Object → Object) (n : ℕ) → SameWorld w v → SameWorld (edit_object f n w) (edit_object f n v)
same_edit {w} f n s =
    by_reads (λ v. SameWorld (edit_object f n w) (edit_object f n v)) s
    (λ items r. edit_reading f n w items (object_at w.objects n) r)

-- Marks.

-- a mark, once the object was read
abbrev marks_in : (Object → Bool) → (Object → Object) → ℕ → World → World
marks_in mark f n w = if has_mark mark w n then w else edit_object f n w

same_marks : (mark : Object → Bool) (f : Object → Object) (n : ℕ) {w v : World} → SameWorld w v
    → SameWorld (marks_in mark f n w) (marks_in mark f n v)
same_marks mark f n {w} s = by_reads (λ v. SameWorld (marks_in mark f n w) (marks_in mark f n v)) s (λ items r.
    same_if (has_mark mark w n) (same_reading w items r) (same_edit f n (same_reading w items r)))

pub same_shared : {w v : World} (n : ℕ) → SameWorld w v → SameWorld (mark_shared n w) (mark_shared n v)
same_shared n s = same_marks (λ o. o.shared) (λ o. record o { shared = true }) n (same_read_object n s)

pub same_disowned : {w v : World} (n : ℕ) → SameWorld w v → SameWorld (mark_disowned n w) (mark_disowned n v)
same_disowned n s = same_marks (λ o. o.disowned) (λ o. record o { disowned = true }) n (same_read_object n s)

pub same_comes : {w v : World} (of : ResolvedType) (x : Value) → SameWorld w v → SameWorld (comes_into of x w) (comes_into of x v)
same_comes (Reference id p) (reference n) s = same_if (is_shared (permission_of p)) (same_shared n s) s
same_comes (Reference id p) (int_value z) s = s
same_comes (Reference id p) (bool_value b) s = s
same_comes (Reference id p) (text_value bytes) s = s
same_comes Int x s = s
same_comes BoolKind x s = s
same_comes Text x s = s
