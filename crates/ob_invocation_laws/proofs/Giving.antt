-- A store at rest stays so by a `give`.
use Rattle.std.proofs.Common.{◌≡◌, ◌∙◌, ◌⊎◌, inl, inr, ℕ, ◌+◌, ◌<◌, Bool, true, false, List, [], ◌∷◌, ◌++◌, Option, Some, None, refl, sym, arith}
use Rattle.std.specs.Prelude.{not, ◌&&◌, ◌||◌, nat_eq, nat_lt, is_some, if◌then◌else◌}
use Rattle.std.specs.Ordering.{eq_by_cmp}
use Rattle.ob_base.specs.declared.permission.Mode.{Mode}
use Rattle.ob_base.specs.declared.permission.Mode.TheVariants.{Owned, Shared, Unowned}
use Rattle.ob_table.specs.Tables.{ClassTable}
use Rattle.ob_heap_spec.specs.Objects.{Object}
use Rattle.ob_heap_spec.specs.Contents.{HandleName, Handle, Content, object_at, name_order}
use Rattle.ob_heap_spec.specs.Worlds.{handle_item, handles_full_item}
use Rattle.ob_heap_spec.specs.Handles.{NamedHandle, handle_at, put_handle, put_handles}
use Rattle.ob_rest_spec.specs.Modes.{is_owned, is_shared}
use Rattle.ob_rest_spec.specs.Incoming.{owners}
use Rattle.ob_rest_spec.specs.Failing.{is_marked, many_owners, shared_unmarked}
use Rattle.ob_rest_spec.specs.AtRest.{IsAtRest}
use Rattle.ob_rest_laws.specs.Laws.{handle_owners, is_shared_by_handle, ChangesQuietly}
use Rattle.ob_rest_laws.proofs.Ways.{fails_by_none}
use Rattle.ob_rest_laws.proofs.Changing.{rests_after, shared_places, is_shared_by_field}
use Rattle.ob_invocation_spec.specs.Requests.{GiveRequest}
use Rattle.ob_invocation_spec.specs.Handles.{handle_name, serves, are_handles_full, mark_puts}
use Rattle.ob_invocation_spec.specs.Replies.{permission, into_taken, handles_full}
use Rattle.ob_invocation_spec.specs.Checks.{Check, check, refusal_of}
use Rattle.ob_invocation_spec.specs.Refusals.{handle_check, making_checks, is_taken, gives_too_much, give_checks}
use Rattle.ob_invocation_spec.specs.Invocation.{still_world, giver_after, puts_of_give}
use Rattle.ob_invocation_spec.specs.Entering.{handle_in}
use Rattle.ob_invocation_laws.specs.Laws.{AreHandles, owners_in}
use Rattle.ob_invocation_laws.proofs.Disowning.{neither, some_same}
use Rattle.ob_invocation_laws.proofs.Handles.{found_put, put_in_order}
use Rattle.ob_invocation_laws.proofs.Owners.{put_counts}
use Rattle.ob_invocation_laws.proofs.Marking.{Shares, puts_share}
use Rattle.ob_invocation_laws.proofs.Puts.{found_shared, puts_shared, owners_change}

-- Changes of handles that keep a store at rest.

module _ (table : ClassTable) (content : Content) (objects : List Object) (puts : List NamedHandle)
    (shares : Shares content.objects objects (is_shared_by_handle puts)) where
  -- what the store holds after
  abbrev after : Content
  after = record { objects = objects; handles = put_handles content.handles puts }

  -- an object that gains a mark is one on which a Shared handle was put
  gains : (n : ℕ) (o p : Object) → object_at content.objects n ≡ Some o → object_at objects n ≡ Some p
      → is_marked o ≡ false → is_marked p ≡ true → (b : Bool) → is_shared_by_handle puts n ≡ b → b ≡ true
  gains n o p was is unmarked marked true e = refl
  gains n o p was is unmarked marked false e =
      absurd (let same : o ≡ p = some_same o p (sym was ∙ sym (shares.others n e) ∙ is) in
      let now = rw same at unmarked in cc)

  -- where handles carry as many owners, and none is Shared that is put
  same_owners_rest : ((n : ℕ) → handle_owners (put_handles content.handles puts) n ≡ handle_owners content.handles n)
      → ((n : ℕ) → is_shared_by_handle puts n ≡ false) → ChangesQuietly table content after
  same_owners_rest same none = record {
    objects = shares.marked;
    owned = λ n. (let change = owners_change table content objects (put_handles content.handles puts) shares.marked n in
        omega (arith, change, same n));
    marked = λ n o p was is unmarked marked.
        absurd (let gained = gains n o p was is unmarked marked (is_shared_by_handle puts n) refl in
        let not = none n in cc);
    lost = λ n p is fewer.
        absurd (let change = owners_change table content objects (put_handles content.handles puts) shares.marked n in
        omega (arith, change, same n, fewer));
    shared = λ n p is has. elim (puts_shared n content.handles puts has) [
      | inl was ↦ inl was
      | inr now ↦ absurd (let not = none n in cc)
    ];
  }

  -- where a handle that was there has become Shared, with another Shared one on its object
  shared_rest : IsAtRest table content → (name : HandleName) (h : Handle) → handle_at content name ≡ Some h
      → is_owned h.mode ≡ true ⊎ is_shared h.mode ≡ true
      → ((n : ℕ) → handle_owners (put_handles content.handles puts) n + owners_in n (Some h)
      ≡ handle_owners content.handles n)
      → ((n : ℕ) → is_shared_by_handle puts n ≡ nat_eq h.object n) → ChangesQuietly table content after
  shared_rest rest name h there mode count only = record {
    objects = shares.marked;
    owned = λ n. (let change = owners_change table content objects (put_handles content.handles puts) shares.marked n in
        omega (arith, change, count n));
    marked = λ n o p was is unmarked marked. (
        let gained = gains n o p was is unmarked marked (is_shared_by_handle puts n) refl in
        let at : nat_eq h.object n ≡ true = sym (only n) ∙ gained in
        let change = owners_change table content objects (put_handles content.handles puts) shares.marked n in
        let few = fails_by_none table content rest n o was many_owners in
        let one = goes_one n o was unmarked at in
        none_left (owners table content n) (owners table after n) few (omega (arith, change, count n, one)));
    lost = λ n p is fewer. (
        let change = owners_change table content objects (put_handles content.handles puts) shares.marked n in
        let at = is_this n (nat_eq h.object n) refl (omega (arith, change, count n, fewer)) in
        marked_by p (shares.these n p (only n ∙ at) is));
    shared = λ n p is has. elim (puts_shared n content.handles puts has) [
      | inl was ↦ inl was
      | inr now ↦ inr (shares.these n p now is)
    ];
  }
    where
      none_left : (before left : ℕ) → nat_lt 1 before ≡ false → left + 1 ≡ before → left ≡ 0
      none_left before left few one = grind arith

      marked_by : (p : Object) → p.shared ≡ true → is_marked p ≡ true
      marked_by p is = rw is refl

      is_this : (n : ℕ) (b : Bool) → nat_eq h.object n ≡ b → 0 < owners_in n (Some h) → b ≡ true
      is_this n true at some = refl
      is_this n false at some = absurd (let no = rw at at some in omega (arith, no))

      front : (a b : Bool) → (not a && (b || true)) ≡ false → a ≡ true
      front true b is = refl
      front false true is = absurd cc
      front false false is = absurd cc

      goes_one : (n : ℕ) (o : Object) → object_at content.objects n ≡ Some o → is_marked o ≡ false
          → nat_eq h.object n ≡ true → owners_in n (Some h) ≡ 1
      goes_one n o was unmarked at = elim mode [
        | inl owns ↦ rw (at, owns) refl
        | inr is ↦ absurd (
            let same : h.object ≡ n = grind arith in
            let has = rw same at (found_shared name content.handles h there is) in
            let way = fails_by_none table content rest n o was shared_unmarked in
            let both = rw (shared_places table content n, has) at way in
            let marked = front o.shared (is_shared_by_field table content.objects n) both in
            let now = rw marked at unmarked in cc)
      ]

-- The checks of a `give`.

-- where no check holds, the first doesn't, and none of the others
pub passes : (c : Check) (checks : List Check) → refusal_of (c ∷ checks) ≡ None
    → (c.holds ≡ false) × (refusal_of checks ≡ None)
passes c checks passed = go c.holds refl passed
  where
    go : (b : Bool) → c.holds ≡ b → (if b then Some c.refusal else refusal_of checks) ≡ None
        → (c.holds ≡ false) × (refusal_of checks ≡ None)
    go true is passed = absurd cc
    go false is passed = (is, passed)

-- what a `give` that isn't refused has found
pub record MayGive (content : Content) (who : List ℕ) (r : GiveRequest) (h : Handle) : Type 0 where
  pub serves : serves h.mode r.mode ≡ true
  pub free : handle_at content (handle_name r.to r.into) ≡ None
  pub room : are_handles_full content ≡ false

turned : (b : Bool) → not b ≡ false → b ≡ true
turned true is = refl
turned false is = absurd cc

none_there : {X : Type 0} (x : Option X) → is_some x ≡ false → x ≡ None
none_there None is = refl
none_there (Some x) is = absurd cc

pub may_give : (content : Content) (who : List ℕ) (r : GiveRequest) (h : Handle)
    → refusal_of (give_checks content who r) ≡ None → handle_at content (handle_name who r.on) ≡ Some h
    → MayGive content who r h
may_give content who r h passed there =
    let name = handle_name who r.on in
    let making = making_checks content (handle_name r.to r.into) in
    let mode = check permission (gives_too_much content name r.mode) in
    let first = passes (handle_check content name) (mode ∷ making) passed in
    let second = passes mode making first.1 in
    let taken : Check = record {
      refusal = into_taken;
      holds = is_taken content (handle_name r.to r.into);
      reads = handle_item (handle_name r.to r.into) ∷ [];
    } in
    let full : Check = record {
      refusal = handles_full;
      holds = are_handles_full content;
      reads = handles_full_item ∷ [];
    } in
    let third = passes taken (full ∷ []) second.1 in
    let fourth = passes full [] third.1 in
    record {
      serves = turned (serves h.mode r.mode) (rw there at second.0);
      free = none_there (handle_at content (handle_name r.to r.into)) third.0;
      room = fourth.0;
    }

-- What handles become by a `give`.

module _ (table : ClassTable) (content : Content) (on new : HandleName) (h : Handle) (mode : Mode)
    (rest : IsAtRest table content) (are : AreHandles content.objects content.handles)
    (there : handle_at content on ≡ Some h) (free : handle_at content new ≡ None)
    (served : serves h.mode mode ≡ true) where
  -- the handle that is given
  abbrev given : Handle
  given = record { object = h.object; mode = mode }

  none_owned : (n : ℕ) (g : Handle) → is_owned g.mode ≡ false → owners_in n (Some g) ≡ 0
  none_owned n g not = rw (neither (nat_eq g.object n) (is_owned g.mode) not) refl

  -- what stands under the new name once the giver's handle has changed carries no owner
  new_none : (n : ℕ) (g : Handle) → is_owned g.mode ≡ false
      → owners_in n (handle_at (record content { handles = put_handle content.handles (on, g) }) new) ≡ 0
  new_none n g not = rw (found_put content (on, g) new) (either (eq_by_cmp name_order new on))
    where
      either : (b : Bool) → owners_in n (if b then Some g else handle_at content new) ≡ 0
      either true = none_owned n g not
      either false = rw free refl

  -- owners that handles carry, where the giver's handle becomes no owner
  gave : (n : ℕ) (g : Handle) → is_owned g.mode ≡ false
      → handle_owners (put_handles content.handles ((on, g) ∷ (new, given) ∷ [])) n + owners_in n (Some h)
      ≡ handle_owners content.handles n + owners_in n (Some given)
  gave n g not =
      let first = rw there at (put_counts n content.handles (on, g) are.order) in
      let second = put_counts n (put_handle content.handles (on, g)) (new, given)
      (put_in_order content.handles (on, g) are.order) in
      omega (arith, first, second, none_owned n g not, new_none n g not)

  -- and where it stays
  gave_more : (n : ℕ) → is_owned mode ≡ false
      → handle_owners (put_handles content.handles ((new, given) ∷ [])) n ≡ handle_owners content.handles n
  gave_more n not =
      let first = rw free at (put_counts n content.handles (new, given) are.order) in
      omega (arith, first, none_owned n given not)

-- By the mode that is given.

owned_serves : (m : Mode) → serves m Owned ≡ true → is_owned m ≡ true
owned_serves Owned is = refl
owned_serves Shared is = absurd cc
owned_serves Unowned is = absurd cc

shared_serves : (m : Mode) → serves m Shared ≡ true → is_owned m ≡ true ⊎ is_shared m ≡ true
shared_serves Owned is = inl refl
shared_serves Shared is = inr refl
shared_serves Unowned is = absurd cc

none_shared : (b : Bool) → ((b && false) || ((b && false) || false)) ≡ false
none_shared true = refl
none_shared false = refl

one_unshared : (b : Bool) → ((b && false) || false) ≡ false
one_unshared true = refl
one_unshared false = refl

both_shared : (b : Bool) → ((b && true) || ((b && true) || false)) ≡ b
both_shared true = refl
both_shared false = refl

-- what handles become by a `give` from a handle, by names
abbrev pub giving : HandleName → HandleName → ℕ → Mode → List NamedHandle
giving on new n mode = giver_after on n mode ++ handle_in new n mode ∷ []

-- what a store holds once handles are put, and objects marked
abbrev pub content_with : Content → List NamedHandle → Content
content_with content puts = record {
  objects = (mark_puts (still_world content) puts).objects;
  handles = put_handles content.handles puts;
}

pub give_quietly : (table : ClassTable) (content : Content) (on new : HandleName) (h : Handle) (mode : Mode)
    → IsAtRest table content → AreHandles content.objects content.handles → handle_at content on ≡ Some h
    → handle_at content new ≡ None → serves h.mode mode ≡ true
    → ChangesQuietly table content (content_with content (giving on new h.object mode))
give_quietly table content on new h Owned rest are there free served =
    let puts = giving on new h.object Owned in
    same_owners_rest table content (mark_puts (still_world content) puts).objects puts
    (puts_share (still_world content) puts)
    (λ n. (let count = gave table content on new h Owned rest are there free served n
    (record { object = h.object; mode = Unowned }) refl in
    let same : owners_in n (Some h) ≡ owners_in n (Some (record { object = h.object; mode = Owned })) =
    rw (owned_serves h.mode served) refl in
    omega (arith, count, same)))
    (λ n. none_shared (nat_eq h.object n))
give_quietly table content on new h Shared rest are there free served =
    let puts = giving on new h.object Shared in
    shared_rest table content (mark_puts (still_world content) puts).objects puts
    (puts_share (still_world content) puts) rest on h there (shared_serves h.mode served)
    (λ n. (let count = gave table content on new h Shared rest are there free served n
    (record { object = h.object; mode = Shared }) refl in
    let none = none_owned table content on new h Shared rest are there free served n
    (record { object = h.object; mode = Shared }) refl in
    omega (arith, count, none)))
    (λ n. both_shared (nat_eq h.object n))
give_quietly table content on new h Unowned rest are there free served =
    let puts = giving on new h.object Unowned in
    same_owners_rest table content (mark_puts (still_world content) puts).objects puts
    (puts_share (still_world content) puts)
    (λ n. gave_more table content on new h Unowned rest are there free served n refl)
    (λ n. one_unshared (nat_eq h.object n))

pub give_rests : (table : ClassTable) (content : Content) (who : List ℕ) (r : GiveRequest) (h : Handle)
    → IsAtRest table content → AreHandles content.objects content.handles
    → handle_at content (handle_name who r.on) ≡ Some h → MayGive content who r h
    → IsAtRest table (content_with content (puts_of_give who r h))
give_rests table content who r h rest are there may =
    rests_after table content (content_with content (puts_of_give who r h)) rest
    (give_quietly table content (handle_name who r.on) (handle_name r.to r.into) h r.mode rest are there may.free
    may.serves)
