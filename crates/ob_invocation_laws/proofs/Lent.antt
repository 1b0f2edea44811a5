-- Handles that are lent while a `new` or a `call` runs: those that its uses change. The others are kept.
use Rattle.std.proofs.Common.{◌≡◌, ◌∙◌, ℕ, zero, suc, ◌+◌, ◌≤◌, ◌<◌, Bool, true, false, List, [], ◌∷◌, Option, Some, None, refl, sym, ap, subst, arith}
use Rattle.std.specs.Prelude.{cond, not, ◌&&◌, ◌||◌, nat_eq, slice_get, option_to_list, if◌then◌else◌, AllPairs}
use Rattle.std.specs.Ordering.{is_eq, eq_by_cmp, ordering_reverse}
use Rattle.std.specs.Option.{option_map_or}
use Rattle.std.specs.List.{list_all}
use Rattle.std.specs.Cmp.{tied_itself}
use Rattle.std.specs.FinMap.Entries.{find as find_key, where_key}
use Rattle.ob_base.specs.declared.permission.Mode.{Mode}
use Rattle.ob_base.specs.declared.permission.Mode.TheVariants.{Shared}
use Rattle.ob_table.specs.Tables.{ClassTable}
use Rattle.ob_heap_spec.specs.Objects.{Object}
use Rattle.ob_heap_spec.specs.Contents.{HandleName, Handle, Content, object_at, name_order}
use Rattle.ob_heap_spec.specs.Worlds.{World, read_object, set_object}
use Rattle.ob_heap_spec.specs.Marks.{mark_shared}
use Rattle.ob_heap_spec.specs.Handles.{NamedHandle, handle_at}
use Rattle.ob_heap_spec.proofs.Names.{names_total}
use Rattle.ob_heap_spec.proofs.Items.{item_of}
use Rattle.ob_rest_spec.specs.Modes.{is_owned, is_shared}
use Rattle.ob_rest_laws.specs.Laws.{handle_owners, is_shared_by_handle}
use Rattle.ob_invocation_spec.specs.Handles.{serves, mark_put, mark_puts}
use Rattle.ob_invocation_spec.specs.Entries.{HandleUse, Entry, argument_uses}
use Rattle.ob_invocation_spec.specs.Refusals.{use_serves, receiver_serves}
use Rattle.ob_invocation_spec.specs.Entering.{handle_in, put_after_use}
use Rattle.ob_invocation_laws.specs.Laws.{AreHandles, owners_in, is_put, kept_handles, put_owners, puts_of_uses}
use Rattle.ob_invocation_laws.proofs.Disowning.{read_objects}
use Rattle.ob_invocation_laws.proofs.Handles.{Before, head_before, tail_pairs}
use Rattle.ob_invocation_laws.proofs.Owners.{counted}
use Rattle.ob_invocation_laws.proofs.Kept.{one_name_tested}
use Rattle.ob_invocation_laws.proofs.Entered.{MayEnter, AreFound}
use Rattle.ob_invocation_laws.proofs.Used.{any_append}

-- Marks that are there already.

-- a mark of sharing that is there changes no object
marked_already : (w : World) (n : ℕ) → ((o : Object) → object_at w.objects n ≡ Some o → o.shared ≡ true)
    → (mark_shared n w).objects ≡ w.objects
marked_already w n marked =
    by_found (object_at (read_object w n).objects n) refl ∙ read_objects w n
  where
    by_mark : (o : Object) (b : Bool) → o.shared ≡ b → b ≡ true
        → (if o.shared then read_object w n
        else set_object (read_object w n) n (record o { shared = true })).objects ≡ (read_object w n).objects
    by_mark o b is has = rw (is ∙ has) refl

    by_found : (found : Option Object) → object_at (read_object w n).objects n ≡ found
        → (if option_map_or (λ (o : Object). o.shared) found true then read_object w n
        else option_map_or (λ o. set_object (read_object w n) n (record o { shared = true })) found
        (read_object w n)).objects ≡ (read_object w n).objects
    by_found None is = refl
    by_found (Some o) is =
        by_mark o true (marked o (ap (λ objects. object_at objects n) (sym (read_objects w n)) ∙ is)) refl

-- where each object that a Shared one of them is on is marked, handles that are put change no object
pub puts_marked : (w : World) (puts : List NamedHandle)
    → ((n : ℕ) (o : Object) → is_shared_by_handle puts n ≡ true → object_at w.objects n ≡ Some o → o.shared ≡ true)
    → (mark_puts w puts).objects ≡ w.objects
puts_marked w [] marked = refl
puts_marked w (h ∷ puts) marked =
    let first = by_mode (is_shared h.1.mode) refl in
    puts_marked (mark_put w h) puts
    (λ n o is there. marked n o (later (nat_eq h.1.object n && is_shared h.1.mode) (is_shared_by_handle puts n) is)
    (ap (λ objects. object_at objects n) (sym first) ∙ there)) ∙ first
  where
    later : (a b : Bool) → b ≡ true → (a || b) ≡ true
    later true b is = refl
    later false b is = is

    this : is_shared h.1.mode ≡ true → is_shared_by_handle (h ∷ puts) h.1.object ≡ true
    this is = let same : nat_eq h.1.object h.1.object ≡ true = grind arith in rw (same, is) refl

    by_mode : (b : Bool) → is_shared h.1.mode ≡ b → (if b then mark_shared h.1.object w else w).objects ≡ w.objects
    by_mode true is = marked_already w h.1.object (λ o there. marked h.1.object o (this is) there)
    by_mode false is = refl

-- What a use returns.

-- an owner comes back where an Owned handle was used as the owner, if its exit owns
pub returned_use : (u : HandleUse) (n : ℕ)
    → put_owners (put_after_use u) n
    ≡ (if is_owned u.handle.mode && is_owned u.entry.mode
    then owners_in n (Some (record { object = u.handle.object; mode = u.exit.mode })) else 0)
returned_use u n = go (is_owned u.handle.mode && is_owned u.entry.mode) (is_shared u.entry.mode)
  where
    none : (b : Bool) → (if b && false then 1 else 0) + 0 ≡ 0
    none true = refl
    none false = refl

    go : (a c : Bool)
        → put_owners (if a then handle_in u.name u.handle.object u.exit.mode ∷ []
        else if c then handle_in u.name u.handle.object Shared ∷ []
        else []) n
        ≡ (if a then owners_in n (Some (record { object = u.handle.object; mode = u.exit.mode })) else 0)
    go true c = omega arith
    go false true = none (nat_eq u.handle.object n)
    go false false = refl

-- What serves.

all_of_both : {X : Type 0} (test : X → Bool) (xs : List X) (k : ℕ) (x : X) → list_all test xs ≡ true
    → slice_get xs k ≡ Some x → test x ≡ true
all_of_both test [] k x all there = absurd cc
all_of_both test (y ∷ xs) zero x all there =
    let same : y ≡ x = cc in subst (λ z. test z ≡ true) same (front (test y) (list_all test xs) all)
  where
    front : (a b : Bool) → (a && b) ≡ true → a ≡ true
    front true b is = refl
    front false b is = absurd cc
all_of_both test (y ∷ xs) (suc k) x all there =
    all_of_both test xs k x (rest (test y) (list_all test xs) all) there
  where
    rest : (a b : Bool) → (a && b) ≡ true → b ≡ true
    rest true b is = is
    rest false b is = absurd cc

both_serve : (a b : Bool) → (not a || not b) ≡ false → (a ≡ true) × (b ≡ true)
both_serve true true is = (refl, refl)
both_serve true false is = absurd cc
both_serve false b is = absurd cc

-- the mode of each handle that is an argument serves at the entry of its parameter
pub arguments_serve : (table : ClassTable) (content : Content) (e : Entry) → MayEnter table content e → (k : ℕ)
    (u : HandleUse) → slice_get (argument_uses content e) k ≡ Some u → serves u.handle.mode u.entry.mode ≡ true
arguments_serve table content e may k u there =
    all_of_both use_serves (argument_uses content e) k u
    (both_serve (list_all receiver_serves (option_to_list e.receiver)) (list_all use_serves (argument_uses content e))
    may.permission).1 there

-- and so does that of the receiver, or it is Shared, and its use owns at the entry, and leaves it Unowned nowhere
pub receiver_may_enter : (table : ClassTable) (content : Content) (e : Entry) → MayEnter table content e
    → (u : HandleUse) → e.receiver ≡ Some u → receiver_serves u ≡ true
receiver_may_enter table content e may u is =
    all_of_both receiver_serves (option_to_list e.receiver) 0 u
    (both_serve (list_all receiver_serves (option_to_list e.receiver)) (list_all use_serves (argument_uses content e))
    may.permission).0 (rw is refl)

-- Owners that are kept, and that are lent.

-- the handles that are lent: those under whose names others are put
abbrev pub lent_handles : List NamedHandle → List NamedHandle → List NamedHandle
lent_handles handles puts = where_key name_order (is_put puts) handles

pub kept_and_lent : (n : ℕ) (handles puts : List NamedHandle)
    → handle_owners (kept_handles handles puts) n + handle_owners (lent_handles handles puts) n
    ≡ handle_owners handles n
kept_and_lent n [] puts = refl
kept_and_lent n (h ∷ handles) puts =
    by_test (is_put puts h.0) (kept_and_lent n handles puts)
  where
    by_test : (b : Bool)
        → handle_owners (kept_handles handles puts) n + handle_owners (lent_handles handles puts) n
        ≡ handle_owners handles n
        → handle_owners (cond (not b) (h ∷ kept_handles handles puts) (kept_handles handles puts)) n
        + handle_owners (cond b (h ∷ lent_handles handles puts) (lent_handles handles puts)) n
        ≡ handle_owners (h ∷ handles) n
    by_test true rest =
        let all = counted n h handles in let lent = counted n h (lent_handles handles puts) in
        omega (arith, rest, all, lent)
    by_test false rest =
        let all = counted n h handles in let kept = counted n h (kept_handles handles puts) in
        omega (arith, rest, all, kept)

-- a handle that is found and is lent counts among those
pub lent_owner : (n : ℕ) (handles puts : List NamedHandle) (name : HandleName) (h : Handle)
    → find_key name_order name handles ≡ Some h → is_put puts name ≡ true
    → owners_in n (Some h) ≤ handle_owners (lent_handles handles puts) n
lent_owner n [] puts name h there lent = absurd cc
lent_owner n (g ∷ handles) puts name h there lent =
    by_name (eq_by_cmp name_order name g.0) refl there
    (λ later. lent_owner n handles puts name h later lent)
  where
    first : (b : Bool) → b ≡ true
        → owners_in n (Some g.1)
        ≤ handle_owners (cond b (g ∷ lent_handles handles puts) (lent_handles handles puts)) n
    first true is = let all = counted n g (lent_handles handles puts) in omega (arith, all)
    first false is = absurd cc

    more : (b : Bool) → handle_owners (lent_handles handles puts) n
        ≤ handle_owners (cond b (g ∷ lent_handles handles puts) (lent_handles handles puts)) n
    more true = let all = counted n g (lent_handles handles puts) in omega (arith, all)
    more false = omega arith

    by_name : (b : Bool) → eq_by_cmp name_order name g.0 ≡ b
        → cond b (Some g.1) (find_key name_order name handles) ≡ Some h
        → (find_key name_order name handles ≡ Some h
        → owners_in n (Some h) ≤ handle_owners (lent_handles handles puts) n)
        → owners_in n (Some h) ≤ handle_owners (lent_handles (g ∷ handles) puts) n
    by_name true is here rest =
        let value : g.1 ≡ h = cc in
        let same = one_name_tested name g.0 is in
        let at = first (is_put puts g.0) (ap (is_put puts) (sym same) ∙ lent) in
        subst (λ (x : Handle). owners_in n (Some x) ≤ handle_owners (lent_handles (g ∷ handles) puts) n) value at
    by_name false is here rest =
        let before = rest here in let on = more (is_put puts g.0) in omega (arith, before, on)

-- Which uses lend a handle.

-- whether a use changes its handle
abbrev pub changes : HandleUse → Bool
changes u = (is_owned u.handle.mode && is_owned u.entry.mode) || is_shared u.entry.mode

-- what the handle of such a use becomes
abbrev pub mode_after : HandleUse → Mode
mode_after u = if is_owned u.handle.mode && is_owned u.entry.mode then u.exit.mode else Shared

pub changed_put : (u : HandleUse)
    → put_after_use u ≡ (if changes u then handle_in u.name u.handle.object (mode_after u) ∷ [] else [])
changed_put u = go (is_owned u.handle.mode && is_owned u.entry.mode) (is_shared u.entry.mode)
  where
    go : (a b : Bool)
        → (if a then handle_in u.name u.handle.object u.exit.mode ∷ []
        else if b then handle_in u.name u.handle.object Shared ∷ []
        else [])
        ≡ (if a || b then handle_in u.name u.handle.object (if a then u.exit.mode else Shared) ∷ [] else [])
    go true b = refl
    go false true = refl
    go false false = refl

-- the names of the uses that change their handles are those under which handles are put
pub use_is_put : (uses : List HandleUse) (k : ℕ) (u : HandleUse) → slice_get uses k ≡ Some u → changes u ≡ true
    → is_put (puts_of_uses uses) u.name ≡ true
use_is_put [] k u there is = absurd cc
use_is_put (v ∷ uses) zero u there is =
    let same : v ≡ u = cc in
    subst (λ x. is_put (puts_of_uses (v ∷ uses)) x.name ≡ true) same (here (rw (sym same) at is))
  where
    tied : is_eq (name_order v.name v.name) ≡ true
    tied = ap is_eq (tied_itself names_total v.name)

    here : changes v ≡ true → is_put (puts_of_uses (v ∷ uses)) v.name ≡ true
    here is = rw (changed_put v, is, tied) refl
use_is_put (v ∷ uses) (suc k) u there is =
    any_append (put_after_use v) (puts_of_uses uses) u.name
    ∙ later (is_put (put_after_use v) u.name) (is_put (puts_of_uses uses) u.name) (use_is_put uses k u there is)
  where
    later : (a b : Bool) → b ≡ true → (a || b) ≡ true
    later true b is = refl
    later false b is = is

-- where an object has one owning handle at most, and a use changes that, none is kept
pub none_kept : (content : Content) (uses : List HandleUse) (k : ℕ) (u : HandleUse)
    → handle_owners content.handles u.handle.object ≤ 1 → handle_at content u.name ≡ Some u.handle
    → slice_get uses k ≡ Some u → is_owned u.handle.mode ≡ true → changes u ≡ true
    → handle_owners (kept_handles content.handles (puts_of_uses uses)) u.handle.object ≡ 0
none_kept content uses k u one found there owned changed =
    let all = kept_and_lent u.handle.object content.handles (puts_of_uses uses) in
    let lent = lent_owner u.handle.object content.handles (puts_of_uses uses) u.name u.handle found
    (use_is_put uses k u there changed) in
    let own = owns u.handle.object u.handle.mode owned in
    omega (arith, one, all, lent, own)
  where
    owns : (n : ℕ) (m : Mode) → is_owned m ≡ true → owners_in n (Some (record { object = n; mode = m })) ≡ 1
    owns n m is = let same : nat_eq n n ≡ true = grind arith in rw (same, is) refl

-- some handle passes a test, and owns the object of a number
abbrev pub SomeOwns : (HandleName → Bool) → ℕ → List NamedHandle → Type 0
SomeOwns test n handles =
    (k : ℕ) × (h : NamedHandle) × (slice_get handles k ≡ Some h) × (test h.0 ≡ true)
    × ((nat_eq h.1.object n && is_owned h.1.mode) ≡ true)

-- where handles that pass a test own an object, one of them does
owning_item : (test : HandleName → Bool) (n : ℕ) (handles : List NamedHandle)
    → 0 < handle_owners (where_key name_order test handles) n → SomeOwns test n handles
owning_item test n [] some = absurd (omega (arith, some))
owning_item test n (h ∷ handles) some =
    by_test (test h.0) (nat_eq h.1.object n && is_owned h.1.mode) refl refl some (owning_item test n handles)
  where
    after : SomeOwns test n handles → SomeOwns test n (h ∷ handles)
    after l = (suc l.0, l.1, l.2, l.3, l.4)

    by_test : (a b : Bool) → test h.0 ≡ a → (nat_eq h.1.object n && is_owned h.1.mode) ≡ b
        → 0 < handle_owners (cond a (h ∷ where_key name_order test handles) (where_key name_order test handles)) n
        → (0 < handle_owners (where_key name_order test handles) n → SomeOwns test n handles)
        → SomeOwns test n (h ∷ handles)
    by_test true true passes owns some rest = (0, h, refl, passes, owns)
    by_test true false passes owns some rest =
        let all = counted n h (where_key name_order test handles) in
        let none : owners_in n (Some h.1) ≡ 0 = rw owns refl in
        after (rest (omega (arith, some, all, none)))
    by_test false b passes owns some rest = after (rest some)

-- handles in order are found by their names
pub found_itself : (handles : List NamedHandle) (k : ℕ) (h : NamedHandle) → AllPairs Before handles
    → slice_get handles k ≡ Some h → find_key name_order h.0 handles ≡ Some h.1
found_itself [] k h order there = absurd cc
found_itself (g ∷ handles) zero h order there =
    let same : g ≡ h = cc in
    subst (λ (x : NamedHandle). find_key name_order x.0 (g ∷ handles) ≡ Some x.1) same
    (let tied = ap is_eq (tied_itself names_total g.0) in rw tied refl)
found_itself (g ∷ handles) (suc k) h order there =
    let before = item_of (Before g) handles (head_before g handles order) k h there in
    let turned = names_total.antisymm h.0 g.0 ∙ ap ordering_reverse before in
    rw turned (found_itself handles k h (tail_pairs g handles order) there)

-- some use of a name changes its handle, which is there
abbrev pub SomeChanges : Content → List HandleUse → HandleName → Type 0
SomeChanges content uses name =
    (k : ℕ) × (u : HandleUse) × (slice_get uses k ≡ Some u) × (u.name ≡ name) × (changes u ≡ true)
    × (handle_at content u.name ≡ Some u.handle)

-- a handle is put by a use of its name, which changes it
pub put_by_use : (content : Content) (uses : List HandleUse) (name : HandleName) → AreFound content uses
    → is_put (puts_of_uses uses) name ≡ true → SomeChanges content uses name
put_by_use content [] name found put = absurd cc
put_by_use content (u ∷ uses) name found put =
    by_change (changes u) (eq_by_cmp name_order u.name name) refl refl (parts put)
    (λ later. put_by_use content uses name found.1 later)
  where
    after : SomeChanges content uses name → SomeChanges content (u ∷ uses) name
    after l = (suc l.0, l.1, l.2, l.3, l.4, l.5)

    parts : is_put (puts_of_uses (u ∷ uses)) name ≡ true
        → (is_put (if changes u then handle_in u.name u.handle.object (mode_after u) ∷ [] else []) name
        || is_put (puts_of_uses uses) name) ≡ true
    parts put =
        ap (λ puts. is_put puts name || is_put (puts_of_uses uses) name) (sym (changed_put u))
        ∙ sym (any_append (put_after_use u) (puts_of_uses uses) name) ∙ put

    by_change : (a b : Bool) → changes u ≡ a → eq_by_cmp name_order u.name name ≡ b
        → (is_put (if a then handle_in u.name u.handle.object (mode_after u) ∷ [] else []) name
        || is_put (puts_of_uses uses) name) ≡ true
        → (is_put (puts_of_uses uses) name ≡ true → SomeChanges content uses name)
        → SomeChanges content (u ∷ uses) name
    by_change true true is same put rest = (0, u, refl, one_name_tested u.name name same, is, found.0)
    by_change true false is same put rest = after (rest (rw same at put))
    by_change false b is same put rest = after (rest put)

-- an owner that is lent is that of an Owned handle, which a use changes
pub lent_by_use : (content : Content) (uses : List HandleUse) (n : ℕ) → AreHandles content.objects content.handles
    → AreFound content uses → 0 < handle_owners (lent_handles content.handles (puts_of_uses uses)) n
    → (k : ℕ) × (u : HandleUse) × (slice_get uses k ≡ Some u) × (changes u ≡ true)
    × ((nat_eq u.handle.object n && is_owned u.handle.mode) ≡ true)
lent_by_use content uses n are found some =
    let h = owning_item (is_put (puts_of_uses uses)) n content.handles some in
    let u = put_by_use content uses h.1.0 found h.3 in
    let itself = found_itself content.handles h.0 h.1 are.order h.2 in
    let there = rw u.3 at u.5 in
    let same : h.1.1 ≡ u.1.handle = some_same (sym itself ∙ there) in
    (u.0, u.1, u.2, u.4, subst (λ (x : Handle). (nat_eq x.object n && is_owned x.mode) ≡ true) same h.4)
  where
    some_same : {x y : Handle} → Some x ≡ Some y → x ≡ y
    some_same e = cc
