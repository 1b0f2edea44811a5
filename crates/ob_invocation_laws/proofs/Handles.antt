-- Handles stand in the order of their names, also once one is put or has gone, and are found by them.
use Rattle.std.proofs.Common.{◌≡◌, ◌∙◌, suc, Bool, true, false, List, [], ◌∷◌, Option, None, refl, sym, ap, arith}
use Rattle.std.specs.Prelude.{T, cond, not, ◌&&◌, All, AllPairs}
use Rattle.std.specs.Ordering.{is_lt, is_eq, eq_by_cmp}
use Rattle.std.specs.declared.cmp.Ordering.{Ordering}
use Rattle.std.specs.declared.cmp.Ordering.TheVariants.{Less, Equal, Greater}
use Rattle.std.specs.Cmp.{alike_right}
use Rattle.std.specs.FinMap.Entries.{below_all, is_sorted, is_sorted-put, find-put, find-where_key, by_order}
use Rattle.std.proofs.lemmas.List.Elements.{All-cons, All-filter}
use Rattle.std.proofs.lemmas.List.Kept.{AllPairs-cons, AllPairs-filter}
use Rattle.ob_heap_spec.specs.Objects.{Object}
use Rattle.ob_heap_spec.specs.Contents.{HandleName, Handle, Content, IsHandle, name_order}
use Rattle.ob_heap_spec.specs.Handles.{NamedHandle, handle_at, put_handle, put_handles, without_handle}
use Rattle.ob_heap_spec.proofs.Names.{names_total}
use Rattle.ob_invocation_laws.specs.Laws.{AreHandles, found_after_put, found_without}

-- Order.

-- the name of the first comes before that of the second
abbrev pub Before : NamedHandle → NamedHandle → Type 0
Before a b = name_order a.0 b.0 ≡ Less

parts : (a b : Bool) → T (a && b) → (a ≡ true) × T b
parts true b h = (refl, h)
parts false b h = absurd h

both : (a b : Bool) → a ≡ true → T b → T (a && b)
both true b e h = h
both false b e h = absurd cc

less : (o : Ordering) → is_lt o ≡ true → o ≡ Less
less Less e = refl
less Equal e = absurd cc
less Greater e = absurd cc

less_back : (o : Ordering) → o ≡ Less → is_lt o ≡ true
less_back Less e = refl
less_back Equal e = absurd cc
less_back Greater e = absurd cc

none_in : (P : NamedHandle → Type 0) → All P []
none_in P k d inside = absurd (omega arith)

pub head_of : (P : NamedHandle → Type 0) (h : NamedHandle) (handles : List NamedHandle) → All P (h ∷ handles) → P h
head_of P h handles all = all 0 h (omega arith)

pub tail_of : (P : NamedHandle → Type 0) (h : NamedHandle) (handles : List NamedHandle) → All P (h ∷ handles)
    → All P handles
tail_of P h handles all k d inside = all (suc k) d (omega arith)

-- the first is before all others
pub head_before : (h : NamedHandle) (handles : List NamedHandle) → AllPairs Before (h ∷ handles)
    → All (Before h) handles
head_before h handles pairs k d inside = pairs 0 (suc k) d (omega arith) (omega arith)

pub tail_pairs : (h : NamedHandle) (handles : List NamedHandle) → AllPairs Before (h ∷ handles)
    → AllPairs Before handles
tail_pairs h handles pairs i j d later inside = pairs (suc i) (suc j) d (omega arith) (omega arith)

below : (h : NamedHandle) (handles : List NamedHandle) → T (below_all name_order h.0 handles) → All (Before h) handles
below h [] is = none_in (Before h)
below h (g ∷ handles) is =
    let p = parts (is_lt (name_order h.0 g.0)) (below_all name_order h.0 handles) is in
    All-cons (Before h) g handles (less (name_order h.0 g.0) p.0) (below h handles p.1)

below_back : (h : NamedHandle) (handles : List NamedHandle) → All (Before h) handles
    → T (below_all name_order h.0 handles)
below_back h [] all = tt
below_back h (g ∷ handles) all =
    both (is_lt (name_order h.0 g.0)) (below_all name_order h.0 handles)
    (less_back (name_order h.0 g.0) (head_of (Before h) g handles all))
    (below_back h handles (tail_of (Before h) g handles all))

all_true : (a b : Bool) → T (a && b) → T a × T b
all_true true b h = (tt, h)
all_true false b h = absurd h

both_true : (a b : Bool) → T a → T b → T (a && b)
both_true true b g h = h
both_true false b g h = absurd g

pairs : (handles : List NamedHandle) → T (is_sorted name_order handles) → AllPairs Before handles
pairs [] is = λ i j d later inside. absurd (omega arith)
pairs (h ∷ handles) is =
    let p = all_true (below_all name_order h.0 handles) (is_sorted name_order handles) is in
    AllPairs-cons Before h handles (below h handles p.0) (pairs handles p.1)

pub pairs_back : (handles : List NamedHandle) → AllPairs Before handles → T (is_sorted name_order handles)
pairs_back [] all = tt
pairs_back (h ∷ handles) all =
    both_true (below_all name_order h.0 handles) (is_sorted name_order handles)
    (below_back h handles (head_before h handles all)) (pairs_back handles (tail_pairs h handles all))

-- a handle that is put keeps the order
pub put_in_order : (handles : List NamedHandle) (h : NamedHandle) → AllPairs Before handles
    → AllPairs Before (put_handle handles h)
put_in_order handles h all =
    pairs (put_handle handles h) (is_sorted-put name_order names_total h.0 h.1 handles (pairs_back handles all))

-- Handles on objects.

-- a handle that is put under a name that is there
renamed : (objects : List Object) (g h : NamedHandle) → IsHandle objects g → IsHandle objects h
    → IsHandle objects (g.0, h.1)
renamed objects g h is new = record { who = is.who; name = is.name; object = new.object }

-- handles on objects, with one more that is put
put_is_handle : (objects : List Object) (handles : List NamedHandle) (h : NamedHandle) → All (IsHandle objects) handles
    → IsHandle objects h → All (IsHandle objects) (put_handle handles h)
put_is_handle objects [] h all is = All-cons (IsHandle objects) h [] is (none_in (IsHandle objects))
put_is_handle objects (g ∷ handles) h all is =
    let here = head_of (IsHandle objects) g handles all in
    let rest = tail_of (IsHandle objects) g handles all in
    at_order (name_order h.0 g.0) here rest (put_is_handle objects handles h rest is)
  where
    at_order : (o : Ordering) → IsHandle objects g → All (IsHandle objects) handles
        → All (IsHandle objects) (put_handle handles h)
        → All (IsHandle objects) (by_order o (h ∷ g ∷ handles) ((g.0, h.1) ∷ handles) (g ∷ put_handle handles h))
    at_order Less here rest more = All-cons (IsHandle objects) h (g ∷ handles) is all
    at_order Equal here rest more = All-cons (IsHandle objects) (g.0, h.1) handles (renamed objects g h here is) rest
    at_order Greater here rest more = All-cons (IsHandle objects) g (put_handle handles h) here more

put_keeps : (objects : List Object) (handles : List NamedHandle) (h : NamedHandle) → AreHandles objects handles
    → IsHandle objects h → AreHandles objects (put_handle handles h)
put_keeps objects handles h are is =
    record { each = put_is_handle objects handles h are.each is; order = put_in_order handles h are.order }

pub puts_keep : (objects : List Object) (handles puts : List NamedHandle) → AreHandles objects handles
    → All (IsHandle objects) puts → AreHandles objects (put_handles handles puts)
puts_keep objects handles [] are all = are
puts_keep objects handles (h ∷ puts) are all =
    puts_keep objects (put_handle handles h) puts
    (put_keeps objects handles h are (head_of (IsHandle objects) h puts all)) (tail_of (IsHandle objects) h puts all)

pub without_keeps : (objects : List Object) (handles : List NamedHandle) (name : HandleName)
    → AreHandles objects handles → AreHandles objects (without_handle handles name)
without_keeps objects handles name are = record {
  each = All-filter (λ h. not (eq_by_cmp name_order name h.0)) (IsHandle objects) handles are.each;
  order = AllPairs-filter Before (λ h. not (eq_by_cmp name_order name h.0)) handles are.order;
}

-- What is found.

pub found_put : (content : Content) (h : NamedHandle) (name : HandleName)
    → handle_at (record content { handles = put_handle content.handles h }) name ≡ found_after_put content h name
found_put content h name = find-put name_order names_total name h.0 h.1 content.handles

-- one of two things under a test that is turned
turned : (b : Bool) (found : Option Handle) → cond (not b) found None ≡ cond b None found
turned true found = refl
turned false found = refl

pub found_gone : (content : Content) (gone name : HandleName)
    → handle_at (record content { handles = without_handle content.handles gone }) name
    ≡ found_without content gone name
found_gone content gone name =
    find-where_key name_order (λ other. not (eq_by_cmp name_order gone other)) name
    (λ other same. ap (λ o. not (is_eq o)) (sym (alike_right names_total name other gone same))) content.handles
    ∙ turned (eq_by_cmp name_order gone name) (handle_at content name)
