-- What requests that run nothing come to.
use Rattle.std.proofs.Common.{◌≡◌, ℕ, Bool, true, false, cond, List, [], ◌∷◌, ◌++◌, length, map, Option, Some, None, refl, sym, ap, subst, ◌∙◌, arith}
use Rattle.std.specs.Prelude.{not, is_none, is_some, nat_le, option_map, if◌then◌else◌}
use Rattle.std.specs.Option.{option_map_or}
use Rattle.std.specs.Ordering.{is_eq, ordering_reverse}
use Rattle.std.specs.FinMap.Entries.{find as find_key}
use Rattle.std.specs.declared.cmp.Ordering.{Ordering}
use Rattle.std.specs.declared.cmp.Ordering.TheVariants.{Less, Equal, Greater}
use Rattle.std.proofs.lemmas.List.{length-map, map-append}
use Rattle.std.proofs.lemmas.List.Elements.{All-from_recursion}
use Rattle.ob_base.specs.Limits.{most_handles}
use Rattle.ob_base.specs.declared.id.ObjectId.{ObjectId}
use Rattle.ob_base.specs.declared.name.Label.{Label}
use Rattle.ob_base.specs.declared.permission.Mode.{Mode}
use Rattle.ob_base.specs.declared.permission.Mode.TheVariants.{Owned, Shared, Unowned}
use Rattle.ob_heap_spec.specs.Contents.{HandleName, Handle as PlainHandle, Content, name_order}
use Rattle.ob_heap_spec.specs.Worlds.{ReadItem}
use Rattle.ob_heap_spec.specs.Marks.{mark_disowned}
use Rattle.ob_heap_spec.specs.Handles.{NamedHandle, put_handles}
use Rattle.ob_heap_spec.specs.Handles as stored
use Rattle.ob_rest_spec.specs.Modes.{is_owned, is_shared}
use Rattle.ob_invocation_spec.specs.Checks.{refusal_of, reads_of, left_as_it_was, refused_or, with_found}
use Rattle.ob_invocation_spec.specs.Entering.{handle_in}
use Rattle.ob_invocation_spec.specs.Handles.{handle_name, serves, mark_puts, are_handles_full}
use Rattle.ob_invocation_spec.specs.Invocation.{still_world, with_handle, disowned_world, disown_handle, giver_after, puts_of_give, give_from, invoke_give}
use Rattle.ob_invocation_spec.specs.Refusals.{handle_check, making_checks, give_checks, is_taken}
use Rattle.ob_invocation_spec.specs.Replies.{Refusal, Invocation, refused, no_handle, permission}
use Rattle.ob_invocation_spec.specs.Requests.{GiveRequest}
use Rattle.ob_heap.specs.declared.delta.Delta.{Delta}
use Rattle.ob_heap.specs.declared.object.Object.{Object}
use Rattle.ob_heap.specs.declared.object.Handle.{Handle}
use Rattle.ob_heap.specs.Contents.{Stored, content_of, name_of, named_of, handle_at}
use Rattle.ob_heap.specs.Plain.{object_of, handle_of}
use Rattle.ob_heap.proofs.HandlesLemmas.{names_total}
use Rattle.ob_heap.proofs.LookLemmas.{plain_without}
use Rattle.ob_wire.specs.Refusals.{refusal_told}
use Rattle.ob_wire.specs.declared.reply.Answer.{Answer}
use Rattle.ob_wire.specs.declared.reply.Answer.TheVariants as answer
use Rattle.ob_wire.specs.declared.reply.Outcome.TheVariants as outcome
use Rattle.ob_exec_handles.specs.Coming.{LeadsTo, ComesTo}
use Rattle.ob_exec_handles.specs.Giving.{left_checks, with_given}
use Rattle.ob_exec_handles.specs.Marking.{with_mark, with_put_marks}
use Rattle.ob_exec_handles.specs.Parts.{ObjectsLead, HandlesLead}
use Rattle.ob_exec_handles.specs.declared.marking.Mark.TheVariants.{Shared as SharedMark, Disowned as DisownedMark}
use Rattle.ob_exec_handles.proofs.ChangingLemmas.{mark_again}
use Rattle.ob_exec_handles.proofs.MarkingLemmas.{disowned_objects, puts_objects}
use Rattle.ob_exec_handles.proofs.PartsLemmas.{leads, no_objects}

-- The handle of a name.

turned : (o : Ordering) → is_eq (ordering_reverse o) ≡ is_eq o
turned Less = refl
turned Equal = refl
turned Greater = refl

pub plain_at : (n : HandleName) (hs : List ((Label × Label) × Handle)) → find_key name_order n (map named_of hs) ≡ option_map handle_of (handle_at n hs)
plain_at n [] = refl
plain_at n (h ∷ hs) =
    ap (λ b. cond b (Some (handle_of h.1)) (find_key name_order n (map named_of hs)))
    (ap is_eq (names_total.antisymm n (name_of h.0)) ∙ turned (name_order (name_of h.0) n))
    ∙ by (is_eq (name_order (name_of h.0) n)) (plain_at n hs)
  where
    by : (b : Bool) → find_key name_order n (map named_of hs) ≡ option_map handle_of (handle_at n hs)
        → cond b (Some (handle_of h.1)) (find_key name_order n (map named_of hs)) ≡ option_map handle_of (cond b (Some h.1) (handle_at n hs))
    by true e = refl
    by false e = e

pub found_at : (base : Stored) (n : HandleName) (r : Option Handle) → handle_at n base.handles ≡ r → stored.handle_at (content_of base) n ≡ option_map handle_of r
found_at base n r at = plain_at n base.handles ∙ ap (option_map handle_of) at

-- what a request comes to that needs a handle, by whether it is there
abbrev by_handle : Content → HandleName → (PlainHandle → List ReadItem → Invocation) → Option PlainHandle → Invocation
by_handle content n go r =
    refused_or content (if is_none r then Some no_handle else None) (reads_of (handle_check content n ∷ [])) (λ reads. with_found r (λ h. go h reads))

pub missing_is : (base : Stored) (n : HandleName) (go : PlainHandle → List ReadItem → Invocation) → handle_at n base.handles ≡ None
    → with_handle (content_of base) n go ≡ left_as_it_was (content_of base) (refused no_handle) (reads_of (handle_check (content_of base) n ∷ []))
missing_is base n go at = ap (by_handle (content_of base) n go) (found_at base n None at)

pub there_is : (base : Stored) (n : HandleName) (go : PlainHandle → List ReadItem → Invocation) (h : Handle) → handle_at n base.handles ≡ Some h
    → with_handle (content_of base) n go ≡ go (handle_of h) (reads_of (handle_check (content_of base) n ∷ []))
there_is base n go h at = ap (by_handle (content_of base) n go) (found_at base n (Some h) at)

pub comes_without : (base : Stored) (n : HandleName) (go : PlainHandle → List ReadItem → Invocation) (a : Answer) (d : Delta)
    → handle_at n base.handles ≡ None → a ≡ answer.Refused (refusal_told no_handle) → LeadsTo base d (content_of base)
    → ComesTo (with_handle (content_of base) n go) base a d
comes_without base n go a d at told same = subst (λ i. ComesTo i base a d) (sym (missing_is base n go at)) (told, same)

pub comes_with : (base : Stored) (n : HandleName) (go : PlainHandle → List ReadItem → Invocation) (h : Handle) (a : Answer) (d : Delta)
    → handle_at n base.handles ≡ Some h → ((reads : List ReadItem) → ComesTo (go (handle_of h) reads) base a d)
    → ComesTo (with_handle (content_of base) n go) base a d
comes_with base n go h a d at comes =
    subst (λ i. ComesTo i base a d) (sym (there_is base n go h at)) (comes (reads_of (handle_check (content_of base) n ∷ [])))

-- A handle is given up.

pub disowned_owned : (base : Stored) (h : Handle) (changes : List (ObjectId × Object)) → is_owned h.mode ≡ true
    → ObjectsLead base.objects changes (with_mark DisownedMark h.object.0 (map object_of base.objects))
    → ObjectsLead base.objects changes (disowned_world (content_of base) (handle_of h)).objects
disowned_owned base h changes e lead =
    subst (ObjectsLead base.objects changes)
    (sym (ap (λ b. (if b then mark_disowned h.object.0 (still_world (content_of base)) else still_world (content_of base)).objects) e
    ∙ disowned_objects h.object.0 (still_world (content_of base)))) lead

pub disowned_other : (base : Stored) (h : Handle) (changes : List (ObjectId × Object)) → is_owned h.mode ≡ false → changes ≡ []
    → ObjectsLead base.objects changes (disowned_world (content_of base) (handle_of h)).objects
disowned_other base h changes e none =
    subst (λ cs. ObjectsLead base.objects cs (disowned_world (content_of base) (handle_of h)).objects) (sym none)
    (subst (ObjectsLead base.objects [])
    (sym (ap (λ b. (if b then mark_disowned h.object.0 (still_world (content_of base)) else still_world (content_of base)).objects) e))
    (no_objects base.objects))

pub removed_lead : (n : Label × Label) (base : List ((Label × Label) × Handle)) (h : Handle) → handle_at (name_of n) base ≡ Some h
    → HandlesLead base ((n, None) ∷ []) (stored.without_handle (map named_of base) (name_of n))
removed_lead n base h at = record {
  order = λ i j d l k. absurd (omega arith);
  is = plain_without n base;
  others = All-from_recursion (λ (e : (Label × Label) × Option Handle). ¬ (handle_at (name_of e.0) base ≡ e.1)) ((n, None) ∷ []) ((λ e. absurd cc), tt);
}

pub disowns : (base : Stored) (n : Label × Label) (h : Handle) (objects : List (ObjectId × Object)) (handles : List ((Label × Label) × Option Handle))
    (reads : List ReadItem) → handle_at (name_of n) base.handles ≡ Some h
    → ObjectsLead base.objects objects (disowned_world (content_of base) (handle_of h)).objects → handles ≡ (n, None) ∷ []
    → ComesTo (disown_handle (content_of base) (name_of n) (handle_of h) reads) base (answer.Ok outcome.Nothing)
    (record { objects = objects; handles = handles })
disowns base n h objects handles reads at o e = (
  refl,
  leads base (record { objects = objects; handles = handles })
      (record {
        objects = (disowned_world (content_of base) (handle_of h)).objects;
        handles = stored.without_handle (map named_of base.handles) (name_of n);
      }) o
      (subst (λ cs. HandlesLead base.handles cs (stored.without_handle (map named_of base.handles) (name_of n))) (sym e)
      (removed_lead n base.handles h at)),
)

-- A handle is given.

-- what a `give` comes to, by the handle that is found and by why it isn't given
abbrev give_by : Content → List ℕ → GiveRequest → Option PlainHandle → Invocation
give_by content who r found =
    refused_or content
    (if is_none found then Some no_handle
    else if option_map_or (λ (h : PlainHandle). not (serves h.mode r.mode)) found false then Some permission
    else refusal_of (making_checks content (handle_name r.to r.into)))
    (reads_of (give_checks content who r)) (λ reads. with_found found (give_from content who r reads))

pub gives_without : (base : Stored) (who : List ℕ) (r : GiveRequest) (a : Answer) (d : Delta) → handle_at (handle_name who r.on) base.handles ≡ None
    → a ≡ answer.Refused (refusal_told no_handle) → LeadsTo base d (content_of base) → ComesTo (invoke_give (content_of base) who r) base a d
gives_without base who r a d at told same =
    subst (λ f. ComesTo (give_by (content_of base) who r f) base a d) (sym (found_at base (handle_name who r.on) None at)) (told, same)

gives_found : (base : Stored) (who : List ℕ) (r : GiveRequest) (h : Handle) (a : Answer) (d : Delta) → handle_at (handle_name who r.on) base.handles ≡ Some h
    → ComesTo (refused_or (content_of base) (refusal_of (left_checks (content_of base) (handle_of h) r)) (reads_of (give_checks (content_of base) who r))
    (λ reads. give_from (content_of base) who r reads (handle_of h))) base a d
    → ComesTo (invoke_give (content_of base) who r) base a d
gives_found base who r h a d at comes =
    subst (λ f. ComesTo (give_by (content_of base) who r f) base a d) (sym (found_at base (handle_name who r.on) (Some h) at)) comes

pub gives_refused : (base : Stored) (who : List ℕ) (r : GiveRequest) (h : Handle) (a : Answer) (d : Delta) (x : Refusal)
    → handle_at (handle_name who r.on) base.handles ≡ Some h → refusal_of (left_checks (content_of base) (handle_of h) r) ≡ Some x
    → a ≡ answer.Refused (refusal_told x) → LeadsTo base d (content_of base) → ComesTo (invoke_give (content_of base) who r) base a d
gives_refused base who r h a d x at why told same =
    gives_found base who r h a d at
    (subst (λ f. ComesTo (refused_or (content_of base) f (reads_of (give_checks (content_of base) who r)) (λ reads. give_from (content_of base) who r reads (handle_of h))) base a d)
    (sym why) (told, same))

pub gives_done : (base : Stored) (who : List ℕ) (r : GiveRequest) (h : Handle) (a : Answer) (d : Delta)
    → handle_at (handle_name who r.on) base.handles ≡ Some h → refusal_of (left_checks (content_of base) (handle_of h) r) ≡ None
    → ((reads : List ReadItem) → ComesTo (give_from (content_of base) who r reads (handle_of h)) base a d) → ComesTo (invoke_give (content_of base) who r) base a d
gives_done base who r h a d at why comes =
    gives_found base who r h a d at
    (subst (λ f. ComesTo (refused_or (content_of base) f (reads_of (give_checks (content_of base) who r)) (λ reads. give_from (content_of base) who r reads (handle_of h))) base a d)
    (sym why) (comes (reads_of (give_checks (content_of base) who r))))

-- a refusal that is told is one
pub told_refusal : (r : Option Refusal) (x : _) → option_map refusal_told r ≡ Some x → (y : Refusal) × (r ≡ Some y) × (refusal_told y ≡ x)
told_refusal None x e = absurd cc
told_refusal (Some y) x e = (y, refl, cc)

pub no_refusal : (r : Option Refusal) → None ≡ option_map refusal_told r → r ≡ None
no_refusal None e = refl
no_refusal (Some y) e = absurd cc

-- what is put marks the object where it is given as Shared
pub given_marks : (content : Content) (who : List ℕ) (r : GiveRequest) (h : PlainHandle)
    → (mark_puts (still_world content) (puts_of_give who r h)).objects ≡ with_given r.mode h.object content.objects
given_marks content who r h = puts_objects (puts_of_give who r h) (still_world content) ∙ by r.mode
  where
    by : (m : Mode) → with_put_marks content.objects (giver_after (handle_name who r.on) h.object m ++ handle_in (handle_name r.to r.into) h.object m ∷ [])
        ≡ with_given m h.object content.objects
    by Owned = refl
    by Shared = mark_again SharedMark h.object content.objects
    by Unowned = refl

pub taken_plain : (base : Stored) (n : HandleName) → is_some (handle_at n base.handles) ≡ is_taken (content_of base) n
taken_plain base n = by (handle_at n base.handles) ∙ sym (ap is_some (plain_at n base.handles))
  where
    by : (r : Option Handle) → is_some r ≡ is_some (option_map handle_of r)
    by None = refl
    by (Some h) = refl

pub full_plain : (base : Stored) → are_handles_full (content_of base) ≡ nat_le most_handles (length base.handles)
full_plain base = ap (nat_le most_handles) (length-map base.handles named_of)

pub gives : (base : Stored) (who : List ℕ) (r : GiveRequest) (h : Handle) (d : Delta) (puts : List NamedHandle) (reads : List ReadItem)
    → puts ≡ puts_of_give who r (handle_of h)
    → LeadsTo base d (record { objects = with_given r.mode h.object.0 (map object_of base.objects); handles = put_handles (map named_of base.handles) puts })
    → ComesTo (give_from (content_of base) who r reads (handle_of h)) base (answer.Ok outcome.Nothing) d
gives base who r h d puts reads e lead = (
  refl,
  subst (λ os. LeadsTo base d (record { objects = os; handles = put_handles (map named_of base.handles) (puts_of_give who r (handle_of h)) }))
      (sym (given_marks (content_of base) who r (handle_of h)))
      (subst (λ ps. LeadsTo base d (record { objects = with_given r.mode h.object.0 (map object_of base.objects); handles = put_handles (map named_of base.handles) ps })) e lead),
)

pub given_shared : (base : List Object) (n : ℕ) (mode : Mode) (changes : List (ObjectId × Object)) → is_shared mode ≡ true
    → ObjectsLead base changes (with_mark SharedMark n (map object_of base)) → ObjectsLead base changes (with_given mode n (map object_of base))
given_shared base n mode changes e lead =
    subst (ObjectsLead base changes) (sym (ap (λ b. if b then with_mark SharedMark n (map object_of base) else map object_of base) e)) lead

pub given_other : (base : List Object) (n : ℕ) (mode : Mode) (changes : List (ObjectId × Object)) → is_shared mode ≡ false → changes ≡ []
    → ObjectsLead base changes (with_given mode n (map object_of base))
given_other base n mode changes e none =
    subst (λ cs. ObjectsLead base cs (with_given mode n (map object_of base))) (sym none)
    (subst (ObjectsLead base []) (sym (ap (λ b. if b then with_mark SharedMark n (map object_of base) else map object_of base) e)) (no_objects base))

pub given_leads : (base : Stored) (mode : Mode) (n : ℕ) (puts plain : List ((Label × Label) × Handle)) (objects : List (ObjectId × Object))
    (handles : List ((Label × Label) × Option Handle)) → plain ≡ puts
    → ObjectsLead base.objects objects (with_given mode n (map object_of base.objects))
    → HandlesLead base.handles handles (put_handles (map named_of base.handles) (map named_of plain))
    → LeadsTo base (record { objects = objects; handles = handles })
    (record { objects = with_given mode n (map object_of base.objects); handles = put_handles (map named_of base.handles) (map named_of puts) })
given_leads base mode n puts plain objects handles e o h =
    leads base (record { objects = objects; handles = handles })
    (record { objects = with_given mode n (map object_of base.objects); handles = put_handles (map named_of base.handles) (map named_of puts) })
    o (subst (λ ps. HandlesLead base.handles handles (put_handles (map named_of base.handles) (map named_of ps))) e h)

-- what is put where a handle is given
pub named_puts : (who : List ℕ) (r : GiveRequest) (h : PlainHandle) (left puts : List ((Label × Label) × Handle)) (put : (Label × Label) × Handle)
    → puts ≡ left ++ put ∷ [] → map named_of left ≡ giver_after (handle_name who r.on) h.object r.mode
    → named_of put ≡ handle_in (handle_name r.to r.into) h.object r.mode → map named_of puts ≡ puts_of_give who r h
named_puts who r h left puts put all before one =
    ap (map named_of) all ∙ map-append named_of left (put ∷ [])
    ∙ ap (λ ps. ps ++ named_of put ∷ []) before
    ∙ ap (λ p. giver_after (handle_name who r.on) h.object r.mode ++ p ∷ []) one

pub ruleset plain = (taken_plain, full_plain)
