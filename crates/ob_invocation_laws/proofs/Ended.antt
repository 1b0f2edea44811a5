-- What a store holds where a `new` or a `call` is done: its handles are on its objects, in order, and few.
use Rattle.std.proofs.Common.{◌≡◌, ◌∙◌, inl, inr, ℕ, ◌+◌, ◌≤◌, ◌<◌, Bool, true, false, List, [], ◌∷◌, ◌++◌, length, Option, Some, None, refl, sym, subst, arith}
use Rattle.std.specs.Prelude.{cond, nat_le, is_some, IsTrue, All, AllPairs, ⊤}
use Rattle.std.specs.Ordering.{eq_by_cmp}
use Rattle.std.specs.FinMap.Entries.{find as find_key, find-put}
use Rattle.std.proofs.lemmas.List.Sums.{fold-append}
use Rattle.std.proofs.lemmas.List.Elements.{All-cons}
use Rattle.ob_base.specs.Limits.{most_objects, most_handles}
use Rattle.ob_base.specs.Names.{is_label}
use Rattle.ob_base.specs.declared.permission.Mode.{Mode}
use Rattle.ob_table.specs.Tables.{ClassTable}
use Rattle.ob_heap_spec.specs.Values.{Value, reference}
use Rattle.ob_heap_spec.specs.Objects.{Object}
use Rattle.ob_heap_spec.specs.Contents.{HandleName, Handle, Content, IsHandle, IsObject, name_order}
use Rattle.ob_heap_spec.specs.Worlds.{World}
use Rattle.ob_heap_spec.specs.Handles.{NamedHandle, handle_at, put_handle, put_handles}
use Rattle.ob_heap_spec.proofs.Names.{names_total}
use Rattle.ob_heap_spec.proofs.Items.{item_of, all_of}
use Rattle.ob_rest_spec.specs.AtRest.{IsAtRest, IsStoreAtRest}
use Rattle.ob_invocation_spec.specs.Handles.{handle_name, mark_puts}
use Rattle.ob_invocation_spec.specs.Entries.{HandleUse, Entry, handle_uses}
use Rattle.ob_invocation_spec.specs.Entering.{handle_in, put_into, puts_after}
use Rattle.ob_invocation_laws.specs.Laws.{AreHandles, puts_of_uses}
use Rattle.ob_invocation_laws.proofs.Handles.{Before, head_of, tail_of, puts_keep, put_in_order}
use Rattle.ob_invocation_laws.proofs.Marking.{same_length, objects_stay, puts_share}
use Rattle.ob_invocation_laws.proofs.Kept.{one_name_tested}
use Rattle.ob_invocation_laws.proofs.Still.{one_at_most, none_more}
use Rattle.ob_invocation_laws.proofs.Entered.{MayEnter, AreFound}
use Rattle.ob_invocation_laws.proofs.Used.{use_put, into_put}

-- Handles.

-- a handle that is found is one under the name that was asked for
pub found_handle : (objects : List Object) (name : HandleName) (handles : List NamedHandle) (h : Handle)
    → All (IsHandle objects) handles → find_key name_order name handles ≡ Some h → IsHandle objects (name, h)
found_handle objects name [] h all there = absurd cc
found_handle objects name (g ∷ handles) h all there =
    at_test (eq_by_cmp name_order name g.0) refl there
    (λ later. found_handle objects name handles h (tail_of (IsHandle objects) g handles all) later)
  where
    at_test : (b : Bool) → eq_by_cmp name_order name g.0 ≡ b
        → cond b (Some g.1) (find_key name_order name handles) ≡ Some h
        → (find_key name_order name handles ≡ Some h → IsHandle objects (name, h)) → IsHandle objects (name, h)
    at_test true is here rest =
        let value : g.1 ≡ h = cc in
        let one = one_name_tested name g.0 is in
        let it = head_of (IsHandle objects) g handles all in
        record {
          who = subst (λ (x : HandleName). IsTrue (is_label x.who)) (sym one) it.who;
          name = subst (λ (x : HandleName). IsTrue (is_label x.name)) (sym one) it.name;
          object = subst (λ (x : Handle). x.object < length objects) value it.object;
        }
    at_test false is here rest = rest here

-- handles are such where there are more objects
pub handles_stay : (objects more : List Object) (handles : List NamedHandle) → length objects ≤ length more
    → AreHandles objects handles → AreHandles more handles
handles_stay objects more handles longer are = record {
  each = all_of (IsHandle more) handles (λ k h there.
      let it = item_of (IsHandle objects) handles are.each k h there in
      record {
        who = it.who;
        name = it.name;
        object = (let below = it.object in omega (arith, longer, below));
      });
  order = are.order;
}

module _ (content : Content) (objects : List Object) (are : AreHandles content.objects content.handles)
    (longer : length content.objects ≤ length objects) where
  -- what a used handle becomes is a handle
  use_handle : (u : HandleUse) (m : Mode) → handle_at content u.name ≡ Some u.handle
      → IsHandle objects (handle_in u.name u.handle.object m)
  use_handle u m there =
      let it = found_handle content.objects u.name content.handles u.handle are.each there in
      record {
        who = it.who;
        name = it.name;
        object = (let below = it.object in omega (arith, longer, below));
      }

  uses_handles : (uses : List HandleUse) (more : List NamedHandle) → AreFound content uses → All (IsHandle objects) more
      → All (IsHandle objects) (puts_of_uses uses ++ more)
  uses_handles [] more found all = all
  uses_handles (u ∷ uses) more found all =
      let rest = uses_handles uses more found.1 all in
      elim (use_put u) [
        | inl is ↦ rw is rest
        | inr some ↦ rw some.1 (All-cons (IsHandle objects) (handle_in u.name u.handle.object some.0)
            (puts_of_uses uses ++ more) (use_handle u some.0 found.0) rest)
      ]

  none_there : All (IsHandle objects) []
  none_there k d inside = absurd (omega arith)

  into_handles : (e : Entry) (result : Option Value) → IsTrue (is_label e.who)
      → ((into : List ℕ) → e.into ≡ Some into → IsTrue (is_label into))
      → ((n : ℕ) → result ≡ Some (reference n) → n < length objects) → All (IsHandle objects) (put_into e result)
  into_handles e result who label there = elim (into_put e result) [
    | inl none ↦ rw none none_there
    | inr put ↦ rw put.is (All-cons (IsHandle objects) (handle_in (handle_name e.who put.into) put.object put.mode) []
        (record { who = who; name = label put.into put.named; object = there put.object put.gives }) none_there)
  ]

  -- handles after a `new` or a `call` are handles of the objects after, in order
  pub handles_after : (e : Entry) (result : Option Value) → AreFound content (handle_uses content e)
      → IsTrue (is_label e.who) → ((into : List ℕ) → e.into ≡ Some into → IsTrue (is_label into))
      → ((n : ℕ) → result ≡ Some (reference n) → n < length objects)
      → AreHandles objects (put_handles content.handles (puts_after content e result))
  handles_after e result found who label there =
      puts_keep objects content.handles (puts_after content e result)
      (handles_stay content.objects objects content.handles longer are)
      (uses_handles (handle_uses content e) (put_into e result) found (into_handles e result who label there))

-- How many there are.

-- the names of uses are those of handles
AreNamed : List NamedHandle → List HandleUse → Type 0
AreNamed handles [] = ⊤
AreNamed handles (u ∷ uses) = (is_some (find_key name_order u.name handles) ≡ true) × AreNamed handles uses

named_first : (content : Content) (uses : List HandleUse) → AreFound content uses → AreNamed content.handles uses
unfolding AreNamed
named_first content [] found = tt
named_first content (u ∷ uses) found = (rw found.0 refl, named_first content uses found.1)

named_then : (handles : List NamedHandle) (p : NamedHandle) (uses : List HandleUse) → AreNamed handles uses
    → AreNamed (put_handle handles p) uses
unfolding AreNamed
named_then handles p [] named = tt
named_then handles p (u ∷ uses) named = (
  rw (find-put name_order names_total u.name p.0 p.1 handles) (either (eq_by_cmp name_order u.name p.0)),
  named_then handles p uses named.1,
)
  where
    either : (b : Bool) → is_some (cond b (Some p.1) (find_key name_order u.name handles)) ≡ true
    either true = refl
    either false = named.0

-- what used handles become doesn't change how many there are
uses_few : (handles : List NamedHandle) (uses : List HandleUse) → AllPairs Before handles → AreNamed handles uses
    → (length (put_handles handles (puts_of_uses uses)) ≡ length handles)
    × AllPairs Before (put_handles handles (puts_of_uses uses))
unfolding AreNamed
uses_few handles [] order named = (refl, order)
uses_few handles (u ∷ uses) order named = elim (use_put u) [
  | inl is ↦ rw is (uses_few handles uses order named.1)
  | inr some ↦
      let p = handle_in u.name u.handle.object some.0 in
      let rest = uses_few (put_handle handles p) uses (put_in_order handles p order)
      (named_then handles p uses named.1) in
      rw some.1 (rest.0 ∙ there p (find_key name_order u.name handles) refl named.0, rest.1)
]
  where
    there : (p : NamedHandle) (found : Option Handle) → find_key name_order p.0 handles ≡ found
        → is_some found ≡ true → length (put_handle handles p) ≡ length handles
    there p None is some = absurd cc
    there p (Some h) is some = none_more handles p h order is

-- handles stay as few as there may be
pub few_after : (table : ClassTable) (content : Content) (e : Entry) (result : Option Value)
    → AllPairs Before content.handles → AreFound content (handle_uses content e) → MayEnter table content e
    → length content.handles ≤ most_handles
    → length (put_handles content.handles (puts_after content e result)) ≤ most_handles
few_after table content e result order found may few =
    let uses = puts_of_uses (handle_uses content e) in
    let same = uses_few content.handles (handle_uses content e) order
    (named_first content (handle_uses content e) found) in
    let apart = fold-append put_handle content.handles uses (put_into e result) in
    elim (into_put e result) [
      | inl none ↦ rw apart (rw none (omega (arith, same.0, few)))
      | inr put ↦
          let p = handle_in (handle_name e.who put.into) put.object put.mode in
          let one = one_at_most (put_handles content.handles uses) p same.1 in
          let room = not_full (length content.handles) (may.room put.into put.named) in
          rw apart (rw put.is (omega (arith, same.0, one, room)))
    ]
  where
    not_full : (n : ℕ) → nat_le most_handles n ≡ false → n + 1 ≤ most_handles
    not_full n room = grind arith

-- The store.

-- what a store holds where a `new` or a `call` is done, whose run ended in a world
abbrev pub content_after : Content → Entry → Option Value → World → Content
content_after content e result w = record {
  objects = (mark_puts w (puts_after content e result)).objects;
  handles = put_handles content.handles (puts_after content e result);
}

-- it is a store at rest, where the objects of the world are of the table and few, and none of the content's is lost,
-- what is given is one of them, and the content is at rest
pub store_after : (table : ClassTable) (content : Content) (e : Entry) (result : Option Value) (w : World)
    → IsStoreAtRest table content → AreFound content (handle_uses content e) → MayEnter table content e
    → IsTrue (is_label e.who) → ((into : List ℕ) → e.into ≡ Some into → IsTrue (is_label into))
    → All (IsObject table w.objects) w.objects → length content.objects ≤ length w.objects
    → length w.objects ≤ most_objects → ((n : ℕ) → result ≡ Some (reference n) → n < length w.objects)
    → IsAtRest table (content_after content e result w) → IsStoreAtRest table (content_after content e result w)
store_after table content e result w store found may who label objects longer few there rest =
    let before : AreHandles content.objects content.handles =
    record { each = store.is_content.handles; order = store.is_content.order } in
    let marks = puts_share w (puts_after content e result) in
    let same = same_length w.objects (content_after content e result w).objects marks.marked in
    let are = handles_after content w.objects before longer e result found who label there in
    let stay = handles_stay w.objects (content_after content e result w).objects
    (content_after content e result w).handles (omega (arith, same)) are in
    record {
      is_content = record {
        objects = objects_stay table w.objects (content_after content e result w).objects marks.marked objects;
        handles = stay.each;
        order = stay.order;
      };
      at_rest = rest;
      few_objects = omega (arith, same, few);
      few_handles = few_after table content e result before.order found may store.few_handles;
    }
