-- Handles that are put where some change nothing.
use Rattle.std.proofs.Common.{◌≡◌, ℕ, ◌+◌, ◌<◌, true, cond, List, [], ◌∷◌, ◌++◌, length, map, take, get_or, Some, None, refl, sym, ap, subst, ◌∙◌, true≢false, append-nil}
use Rattle.std.specs.Prelude.{flat_map, slice_set, if◌then◌else◌}
use Rattle.std.specs.Option.{option_map_or}
use Rattle.std.specs.Ordering.{is_eq}
use Rattle.std.specs.FinMap.Entries.{find as find_key, put as put_key, by_order}
use Rattle.std.specs.declared.cmp.Ordering.{Ordering}
use Rattle.std.specs.declared.cmp.Ordering.TheVariants.{Less, Equal, Greater}
use Rattle.std.proofs.lemmas.List.{map-append, map_more}
use Rattle.std.proofs.lemmas.List.Concat.{flat_map-append}
use Rattle.std.proofs.lemmas.List.Sums.{fold-append}
use Rattle.ob_base.specs.declared.name.Label.{Label}
use Rattle.ob_base.specs.declared.permission.Mode.{Mode}
use Rattle.ob_base.specs.declared.permission.Mode.TheVariants.{Owned, Shared, Unowned}
use Rattle.ob_verify_spec.proofs.Cells.{none_some, some_same}
use Rattle.ob_heap.specs.declared.object.Handle.{Handle}
use Rattle.ob_heap.specs.Contents.{Stored, name_of, named_of, content_of, IsInOrder, IsBeforeAll}
use Rattle.ob_heap.specs.Overlays.{Changes, objects_over}
use Rattle.ob_heap.specs.Plain.{handle_of}
use Rattle.ob_heap.proofs.HandlesLemmas.{names_total}
use Rattle.ob_heap_spec.specs.Contents.{HandleName, Handle as PlainHandle, name_order, object_at}
use Rattle.ob_heap_spec.specs.Objects.{Object}
use Rattle.ob_heap_spec.specs.Handles.{NamedHandle, handle_at, put_handle, put_handles}
use Rattle.ob_invocation_spec.specs.Entering.{handle_in}
use Rattle.ob_invocation_spec.specs.Entries.{HandleUse}
use Rattle.ob_exec_handles.specs.Marking.{marked, with_put_mark, with_put_marks}
use Rattle.ob_exec_handles.specs.declared.marking.Mark.TheVariants.{Shared as SharedMark}
use Rattle.ob_exec.specs.Putting.{stays_in, stays_as, LeaveTheSame}

-- A handle that is put where it stands.

abbrev Held : Type 0
Held = (Label × Label) × Handle

-- a name that comes before all has no handle
none_before : (k : HandleName) (n : Label × Label) (hs : List Held) → name_order k (name_of n) ≡ Less → IsBeforeAll n hs
    → find_key name_order k (map named_of hs) ≡ None
none_before k n [] less b = refl
none_before k n (h ∷ hs) less b =
    ap (λ o. cond (is_eq o) (Some (handle_of h.1)) (find_key name_order k (map named_of hs))) (names_total.trans k (name_of n) (name_of h.0) less b.0)
    ∙ none_before k n hs less b.1

put_stays : (k : HandleName) (v : PlainHandle) (hs : List Held) → IsInOrder hs → find_key name_order k (map named_of hs) ≡ Some v
    → put_key name_order k v (map named_of hs) ≡ map named_of hs
put_stays k v [] o is = absurd (none_some is)
put_stays k v (h ∷ hs) o is = by (name_order k (name_of h.0)) refl is (put_stays k v hs o.1)
  where
    by : (q : Ordering) → name_order k (name_of h.0) ≡ q
        → cond (is_eq q) (Some (handle_of h.1)) (find_key name_order k (map named_of hs)) ≡ Some v
        → (find_key name_order k (map named_of hs) ≡ Some v → put_key name_order k v (map named_of hs) ≡ map named_of hs)
        → by_order q ((k, v) ∷ named_of h ∷ map named_of hs) ((name_of h.0, v) ∷ map named_of hs)
        (named_of h ∷ put_key name_order k v (map named_of hs)) ≡ named_of h ∷ map named_of hs
    by Less less found rest = absurd (none_some (sym (none_before k h.0 hs less o.0) ∙ found))
    by Equal e found rest = ap (λ x. (name_of h.0, x) ∷ map named_of hs) (sym (some_same found))
    by Greater e found rest = ap (λ xs. named_of h ∷ xs) (rest found)

-- the mark that it would leave is there
mark_stays : (objects : List Object) (name : HandleName) (n : ℕ) (old mode : Mode) → stays_in objects n old mode ≡ true
    → with_put_mark objects (handle_in name n mode) ≡ objects
mark_stays objects name n Owned Owned h = refl
mark_stays objects name n Owned Shared h = absurd (true≢false (sym h))
mark_stays objects name n Owned Unowned h = absurd (true≢false (sym h))
mark_stays objects name n Shared Owned h = absurd (true≢false (sym h))
mark_stays objects name n Shared Shared h =
    ap (λ b. if b then objects else option_map_or (λ o. slice_set objects n (marked SharedMark o)) (object_at objects n) objects) h
mark_stays objects name n Shared Unowned h = absurd (true≢false (sym h))
mark_stays objects name n Unowned Owned h = absurd (true≢false (sym h))
mark_stays objects name n Unowned Shared h = absurd (true≢false (sym h))
mark_stays objects name n Unowned Unowned h = refl

mode_stays : (objects : List Object) (n : ℕ) (old mode : Mode) → stays_in objects n old mode ≡ true → old ≡ mode
mode_stays objects n Owned Owned h = refl
mode_stays objects n Owned Shared h = absurd (true≢false (sym h))
mode_stays objects n Owned Unowned h = absurd (true≢false (sym h))
mode_stays objects n Shared Owned h = absurd (true≢false (sym h))
mode_stays objects n Shared Shared h = refl
mode_stays objects n Shared Unowned h = absurd (true≢false (sym h))
mode_stays objects n Unowned Owned h = absurd (true≢false (sym h))
mode_stays objects n Unowned Shared h = absurd (true≢false (sym h))
mode_stays objects n Unowned Unowned h = refl

-- More is put.

pub same_more : (base : Stored) (changes : Changes) (others puts more : List NamedHandle) → LeaveTheSame base changes others puts
    → LeaveTheSame base changes (others ++ more) (puts ++ more)
same_more base changes others puts more same = record {
  handles = fold-append put_handle (content_of base).handles others more ∙ ap (λ hs. put_handles hs more) same.handles
      ∙ sym (fold-append put_handle (content_of base).handles puts more);
  objects = fold-append with_put_mark (objects_over base.objects changes) others more ∙ ap (λ os. with_put_marks os more) same.objects
      ∙ sym (fold-append with_put_mark (objects_over base.objects changes) puts more);
}

-- nothing more is
pub none_more : (base : Stored) (changes : Changes) (others puts more : List NamedHandle) → more ≡ [] → LeaveTheSame base changes others puts
    → LeaveTheSame base changes (others ++ more) puts
none_more base changes others puts more none same =
    subst (λ ps. LeaveTheSame base changes ps puts) (sym (ap (λ ps. others ++ ps) none ∙ append-nil others)) same

-- one more is
pub one_more : (base : Stored) (changes : Changes) (others more : List NamedHandle) (old new : List Held) (put : Held) (h : NamedHandle)
    → more ≡ h ∷ [] → named_of put ≡ h → new ≡ old ++ put ∷ [] → LeaveTheSame base changes others (map named_of old)
    → LeaveTheSame base changes (others ++ more) (map named_of new)
one_more base changes others more old new put h one is pushed same =
    let news : map named_of new ≡ map named_of old ++ h ∷ [] =
    ap (map named_of) pushed ∙ map-append named_of old (put ∷ []) ∙ ap (λ x. map named_of old ++ x ∷ []) is in
    subst (λ ps. LeaveTheSame base changes (others ++ ps) (map named_of new)) (sym one)
    (subst (LeaveTheSame base changes (others ++ h ∷ [])) (sym news) (same_more base changes others (map named_of old) (h ∷ []) same))

-- what changes nothing needn't be put, where nothing was
stays_more : (base : Stored) (changes : Changes) (others : List NamedHandle) (name : HandleName) (h : Handle) (mode : Mode) → IsInOrder base.handles
    → handle_at (content_of base) name ≡ Some (handle_of h) → stays_as (objects_over base.objects changes) h mode ≡ true
    → LeaveTheSame base changes others [] → LeaveTheSame base changes (others ++ handle_in name h.object.0 mode ∷ []) []
stays_more base changes others name h mode order stands stays same =
    let put = handle_in name h.object.0 mode in
    let mode_is : h.mode ≡ mode = mode_stays (objects_over base.objects changes) h.object.0 h.mode mode stays in
    let found : handle_at (content_of base) name ≡ Some put.1 = stands ∙ ap (λ (m : Mode). Some (handle_in name h.object.0 m).1) mode_is in
    record {
      handles = fold-append put_handle (content_of base).handles others (put ∷ []) ∙ ap (λ hs. put_handle hs put) same.handles
          ∙ put_stays name put.1 base.handles order found;
      objects = fold-append with_put_mark (objects_over base.objects changes) others (put ∷ []) ∙ ap (λ os. with_put_mark os put) same.objects
          ∙ mark_stays (objects_over base.objects changes) name h.object.0 h.mode mode stays;
    }

pub none_needed : (base : Stored) (changes : Changes) (others more : List NamedHandle) (puts : List Held) (name : HandleName) (h : Handle) (mode : Mode)
    → IsInOrder base.handles → handle_at (content_of base) name ≡ Some (handle_of h) → more ≡ handle_in name h.object.0 mode ∷ []
    → (puts ≡ []) × (stays_as (objects_over base.objects changes) h mode ≡ true) → LeaveTheSame base changes others (map named_of puts)
    → LeaveTheSame base changes (others ++ more) (map named_of puts)
none_needed base changes others more puts name h mode order stands one needless same =
    subst (λ ps. LeaveTheSame base changes (others ++ ps) (map named_of puts)) (sym one)
    (subst (λ ps. LeaveTheSame base changes (others ++ handle_in name h.object.0 mode ∷ []) (map named_of ps)) (sym needless.0)
    (stays_more base changes others name h mode order stands needless.1
    (subst (λ ps. LeaveTheSame base changes others (map named_of ps)) needless.0 same)))

-- what is put for the uses up to the next
pub next_use : {A : Type 0} (f : HandleUse → List NamedHandle) (g : A → HandleUse) (xs : List A) (i : ℕ) (x : A) → i < length xs → x ≡ get_or xs i x
    → flat_map f (map g (take i xs)) ++ f (g x) ≡ flat_map f (map g (take (i + 1) xs))
next_use f g xs i x h is =
    ap (λ y. flat_map f (map g (take i xs)) ++ f (g y)) is
    ∙ one (f (g (get_or xs i x)))
    ∙ sym (flat_map-append f (map g (take i xs)) (g (get_or xs i x) ∷ []))
    ∙ ap (flat_map f) (sym (map_more g xs i x h))
  where
    one : (ys : List NamedHandle) → flat_map f (map g (take i xs)) ++ ys ≡ flat_map f (map g (take i xs)) ++ (ys ++ [])
    one ys = ap (λ zs. flat_map f (map g (take i xs)) ++ zs) (sym (append-nil ys))
