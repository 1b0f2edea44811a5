-- How objects and handles change.
use Rattle.std.proofs.Common.{◌≡◌, ℕ, zero, suc, ◌<◌, ◌≤◌, Bool, true, false, List, [], ◌∷◌, ◌++◌, length, map, get_or, refl, sym, ap, subst, ◌∙◌, true≢false, arith}
use Rattle.std.specs.Prelude.{nat_lt, if◌then◌else◌}
use Rattle.std.proofs.lemmas.Option.{slice_get-map}
use Rattle.ob_base.specs.declared.id.ObjectId.{ObjectId}
use Rattle.ob_base.specs.declared.name.Label.{Label}
use Rattle.ob_heap_spec.specs.Contents.{Content}
use Rattle.ob_heap.specs.declared.delta.Delta.{Delta}
use Rattle.ob_heap.specs.declared.object.Object.{Object}
use Rattle.ob_heap.specs.declared.object.Handle.{Handle}
use Rattle.ob_heap.specs.Ascending.{IsAscending}
use Rattle.ob_heap.specs.Contents.{Stored, content_of, named_of}
use Rattle.ob_heap.specs.Deltas.{AreNext}
use Rattle.ob_heap.specs.Differences.{is_other, other_objects, numbered_from, differing, with_objects, AreOthers}
use Rattle.ob_heap.specs.Overlays.{Changes, laid_over, objects_over}
use Rattle.ob_heap.specs.Plain.{object_of}
use Rattle.ob_exec_handles.specs.Coming.{LeadsTo}
use Rattle.ob_exec_handles.specs.Parts.{ObjectsLead, HandlesLead}

-- both parts make the whole
pub leads : (base : Stored) (d : Delta) (after : Content) → ObjectsLead base.objects d.objects after.objects
    → HandlesLead base.handles d.handles after.handles → LeadsTo base d after
leads base d after o h = record {
  is = record { objects = o.order; next = o.next; handles = h.order };
  objects = o.is;
  handles = h.is;
  other_objects = o.others;
  other_handles = h.others;
}

-- Nothing changes.

pub no_objects : (base : List Object) → ObjectsLead base [] (map object_of base)
no_objects base = record { order = tt; next = tt; is = refl; others = λ k d h. absurd (omega arith) }

pub no_handles : (base : List ((Label × Label) × Handle)) → HandlesLead base [] (map named_of base)
no_handles base = record { order = λ i j d l h. absurd (omega arith); is = refl; others = λ k d h. absurd (omega arith) }

pub stays : (base : Stored) (d : Delta) → d.objects ≡ [] → d.handles ≡ [] → LeadsTo base d (content_of base)
stays base d o h = leads base d (content_of base)
    (subst (λ xs. ObjectsLead base.objects xs (map object_of base.objects)) (sym o) (no_objects base.objects))
    (subst (λ xs. HandlesLead base.handles xs (map named_of base.handles)) (sym h) (no_handles base.handles))

-- What a run changed of the objects.

within : (base : List Object) (n : ℕ) (o : Object) → is_other base n o ≡ true → n < length base
within [] n o h = absurd (true≢false (sym h))
within (x ∷ xs) zero o h = omega arith
within (x ∷ xs) (suc n) o h = let r = within xs n o h in omega arith

not_lower : (n : ℕ) → nat_lt n n ≡ false
not_lower n = grind arith

is_lower : (m n : ℕ) → m < n → nat_lt m n ≡ true
is_lower m n h = grind arith

next_others : (base : List Object) (es : List (ℕ × Object)) (rest : List (ObjectId × Object)) → AreNext (length base) rest
    → AreNext (length base) (other_objects base es ++ rest)
next_others base [] rest h = h
next_others base (e ∷ es) rest h = by (is_other base e.0 e.1) refl (next_others base es rest h)
  where
    by : (b : Bool) → is_other base e.0 e.1 ≡ b → AreNext (length base) (other_objects base es ++ rest)
        → AreNext (length base) ((if b then (record { 0 = e.0 }, e.1) ∷ other_objects base es else other_objects base es) ++ rest)
    by true is r =
        let w : e.0 < length base = within base e.0 e.1 is in (
          omega arith,
          subst (λ b. AreNext (if b then length base else suc (length base)) (other_objects base es ++ rest)) (sym (is_lower e.0 (length base) w)) r,
        )
    by false is r = r

next_made : (n : ℕ) (os : List Object) → AreNext n (numbered_from n os)
next_made n [] = tt
next_made n (o ∷ os) = (omega arith, subst (λ b. AreNext (if b then n else suc n) (numbered_from (suc n) os)) (sym (not_lower n)) (next_made (suc n) os))

pub differing_lead : (base : List Object) (c : Changes) (changes : List (ObjectId × Object)) → changes ≡ differing base c
    → with_objects base changes ≡ laid_over base c → IsAscending (λ (e : ObjectId × Object). e.0.0) changes → AreOthers base changes
    → ObjectsLead base changes (objects_over base c)
differing_lead base c changes is applied order others = record {
  order = order;
  next = subst (AreNext (length base)) (sym is) (next_others base c.changed (numbered_from (length base) c.made) (next_made (length base) c.made));
  is = ap (map object_of) applied;
  others = λ k d l e. others k d l (sym (slice_get-map object_of base (get_or changes k d).0.0) ∙ e);
}
