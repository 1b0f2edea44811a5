-- Nothing differs between a content and itself.
use Rattle.std.proofs.Common.{◌≡◌, ◌+◌, ℕ, suc, true, false, not, List, [], ◌∷◌, ◌++◌, length, map, filter, Option, Some, append_assoc, length-append, refl, sym, ◌∙◌, ap, arith, slice_get}
use Rattle.std.proofs.Math.Seq.{get_or-append_seam}
use Rattle.std.proofs.lemmas.Option.{slice_get-get_or}
use Rattle.std.proofs.lemmas.Slice.Eq.{bytes_eq-Decides}
use Rattle.std.specs.Option.{option_map_or}
use Rattle.std.specs.Str.{bytes_eq}
use Rattle.ob_table.specs.Tables.{ClassTable}
use Rattle.ob_heap_spec.specs.Objects.{Object}
use Rattle.ob_heap_spec.specs.Contents.{Content, object_at}
use Rattle.ob_heap_spec.specs.Handles.{NamedHandle, handle_at, put_handles}
use Rattle.ob_store_spec.specs.Payloads.{object, held}
use Rattle.ob_store_spec.specs.Between.{stored_object, stored_from, is_stored_so, is_held_so, changes_between}
use Rattle.ob_store_spec.specs.Settling.{say_nothing}

bytes_same : (bytes : List ℕ) → bytes_eq bytes bytes ≡ true
bytes_same bytes = (bytes_eq-Decides bytes bytes).1 refl

held_all : (content : Content) (names : List NamedHandle) → filter (λ h. not (is_held_so content h)) (map (λ (h : NamedHandle). (h.0, handle_at content h.0)) names) ≡ []
held_all content [] = refl
held_all content (h ∷ hs) = rw (bytes_same (held.bytes (handle_at content h.0))) (held_all content hs)

stored_so : (table : ClassTable) (before os : List Object) (o : Object) → is_stored_so table (before ++ o ∷ os) (stored_object table (length before) o) ≡ true
stored_so table before os o =
    let at : object_at (before ++ o ∷ os) (length before) ≡ Some o =
    slice_get-get_or (before ++ o ∷ os) (length before) o (omega (arith, length-append before (o ∷ os))) ∙ ap (λ (x : Object). Some x) (get_or-append_seam before o os o) in
    ap (λ (r : Option Object). option_map_or (λ (x : Object). bytes_eq ((object table).bytes (stored_object table (length before) x)) ((object table).bytes (stored_object table (length before) o))) r false) at
    ∙ bytes_same ((object table).bytes (stored_object table (length before) o))

stored_all : (table : ClassTable) (before os : List Object) → filter (λ o. not (is_stored_so table (before ++ os) o)) (stored_from table (length before) os) ≡ []
stored_all table before [] = refl
stored_all table before (o ∷ os) =
    let rest = stored_all table (before ++ o ∷ []) os in
    let more : length (before ++ o ∷ []) ≡ suc (length before) = omega (arith, length-append before (o ∷ [])) in
    let same : filter (λ x. not (is_stored_so table (before ++ o ∷ os) x)) (stored_from table (suc (length before)) os) ≡ [] =
    ap (λ (n : ℕ). filter (λ x. not (is_stored_so table (before ++ o ∷ os) x)) (stored_from table n os)) (sym more)
    ∙ ap (λ (whole : List Object). filter (λ x. not (is_stored_so table whole x)) (stored_from table (length (before ++ o ∷ [])) os)) (sym (append_assoc before (o ∷ []) os)) ∙ rest in
    rw (stored_so table before os o) same

pub nothing_differs : (table : ClassTable) (content : Content) → say_nothing (changes_between table content content) ≡ true
nothing_differs table content =
    rw (stored_all table [] content.objects, held_all content (put_handles content.handles content.handles)) refl
