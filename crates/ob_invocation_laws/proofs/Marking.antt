-- What marks of sharing leave: objects are as they were but for their marks, and stay objects of their contracts.
use Rattle.std.proofs.Common.{◌≡◌, ◌∙◌, ℕ, suc, Bool, true, false, List, [], ◌∷◌, length, Option, Some, None, refl, sym, ap, subst, arith}
use Rattle.std.specs.Prelude.{◌&&◌, ◌||◌, nat_eq, slice_get, slice_set, if◌then◌else◌, All, IsSomeAnd, IfSome}
use Rattle.std.specs.Option.{option_map_or}
use Rattle.ob_table.specs.Tables.{ClassTable, contract_at}
use Rattle.ob_table.specs.declared.contract.Contract.{Contract}
use Rattle.ob_table.specs.declared.contract.Field.{Field}
use Rattle.ob_table.specs.declared.contract.ResolvedType.{ResolvedType}
use Rattle.ob_table.specs.declared.contract.ResolvedType.TheVariants.{Int, Bool as BoolKind, Text, Reference}
use Rattle.ob_heap_spec.specs.Values.{Value, int_value, bool_value, text_value, reference}
use Rattle.ob_heap_spec.specs.Objects.{Object}
use Rattle.ob_heap_spec.specs.Contents.{object_at, IsObjectOf, IsObject, IsValueOf}
use Rattle.ob_heap_spec.specs.Worlds.{World, read_object, set_object}
use Rattle.ob_heap_spec.specs.Marks.{mark_shared}
use Rattle.ob_heap_spec.specs.Handles.{NamedHandle}
use Rattle.ob_heap_spec.proofs.Items.{item_of, all_of}
use Rattle.ob_rest_spec.specs.Modes.{is_shared}
use Rattle.ob_rest_laws.specs.Laws.{is_shared_by_handle, IsMarkedFrom, AreMarkedFrom}
use Rattle.ob_rest_laws.proofs.Changing.{was_there}
use Rattle.ob_invocation_spec.specs.Handles.{mark_put, mark_puts}
use Rattle.ob_invocation_laws.proofs.Disowning.{as_they_are, one_is_marked, set_there, set_elsewhere, read_objects}

-- Marks, one after another.

marked_then : (o p q : Object) → IsMarkedFrom o p → IsMarkedFrom p q → IsMarkedFrom o q
marked_then o p q a b = record {
  contract = b.contract ∙ a.contract;
  state = b.state ∙ a.state;
  fields = b.fields ∙ a.fields;
  shared = λ is. b.shared (a.shared is);
  disowned = λ is. b.disowned (a.disowned is);
}

all_marked_then : (os ps qs : List Object) → AreMarkedFrom os ps → AreMarkedFrom ps qs → AreMarkedFrom os qs
all_marked_then [] [] [] a b = tt
all_marked_then [] [] (q ∷ qs) a b = absurd b
all_marked_then [] (p ∷ ps) qs a b = absurd a
all_marked_then (o ∷ os) [] qs a b = absurd a
all_marked_then (o ∷ os) (p ∷ ps) [] a b = absurd b
all_marked_then (o ∷ os) (p ∷ ps) (q ∷ qs) a b = (marked_then o p q a.0 b.0, all_marked_then os ps qs a.1 b.1)

-- marks don't change how many objects there are
pub same_length : (objects after : List Object) → AreMarkedFrom objects after → length after ≡ length objects
same_length [] [] m = refl
same_length [] (p ∷ after) m = absurd m
same_length (o ∷ objects) [] m = absurd m
same_length (o ∷ objects) (p ∷ after) m = ap suc (same_length objects after m.1)

-- What marks of sharing leave: the objects but for their marks, those marked that a test holds of, the others as they
-- were.
pub record Shares (objects after : List Object) (test : ℕ → Bool) : Type 0 where
  pub marked : AreMarkedFrom objects after
  pub these : (n : ℕ) (p : Object) → test n ≡ true → object_at after n ≡ Some p → p.shared ≡ true
  pub others : (n : ℕ) → test n ≡ false → object_at after n ≡ object_at objects n

-- an object that is marked already, or isn't there
already : (objects : List Object) (n : ℕ) (found : Option Object) → object_at objects n ≡ found
    → option_map_or (λ (o : Object). o.shared) found true ≡ true → Shares objects objects (nat_eq n)
already objects n found is has = record {
  marked = as_they_are objects;
  these = λ k p here there. (let at : n ≡ k = grind arith in
      let same : found ≡ Some p = sym is ∙ ap (object_at objects) at ∙ there in rw same at has);
  others = λ k other. refl;
}

-- an object that isn't
anew : (objects : List Object) (n : ℕ) (o : Object) → object_at objects n ≡ Some o
    → Shares objects (slice_set objects n (record o { shared = true })) (nat_eq n)
anew objects n o there = record {
  marked = one_is_marked objects n o (record o { shared = true }) there
      (record { contract = refl; state = refl; fields = refl; shared = λ is. refl; disowned = λ is. is });
  these = λ k p here is. (let at : n ≡ k = grind arith in
      let now = rw (sym at) at is in
      let set = set_there objects n o (record o { shared = true }) there in
      let same : record o { shared = true } ≡ p = cc in rw (sym same) refl);
  others = λ k other. set_elsewhere objects n k (record o { shared = true }) (turned n k other);
}
  where
    turned : (n k : ℕ) → nat_eq n k ≡ false → nat_eq k n ≡ false
    turned n k other = grind arith

-- by whether it is marked
by_its_mark : (w : World) (n : ℕ) (o : Object) → object_at w.objects n ≡ Some o → (b : Bool) → o.shared ≡ b
    → Shares w.objects (if b then w else set_object w n (record o { shared = true })).objects (nat_eq n)
by_its_mark w n o there true is = already w.objects n (Some o) there is
by_its_mark w n o there false is = anew w.objects n o there

by_mark : (w : World) (n : ℕ) (found : Option Object) → object_at w.objects n ≡ found
    → Shares w.objects
    (if option_map_or (λ (o : Object). o.shared) found true then w
    else option_map_or (λ o. set_object w n (record o { shared = true })) found w).objects (nat_eq n)
by_mark w n None there = already w.objects n None there refl
by_mark w n (Some o) there = by_its_mark w n o there o.shared refl

pub mark_shares : (w : World) (n : ℕ) → Shares w.objects (mark_shared n w).objects (nat_eq n)
mark_shares w n =
    subst (λ objects. Shares objects (mark_shared n w).objects (nat_eq n)) (read_objects w n)
    (by_mark (read_object w n) n (object_at (read_object w n).objects n) refl)

-- the mark of a handle that is put
put_shares : (w : World) (h : NamedHandle)
    → Shares w.objects (mark_put w h).objects (λ n. nat_eq h.1.object n && is_shared h.1.mode)
put_shares w h = by_mode (is_shared h.1.mode) refl
  where
    under : (a b : Bool) → (a && b) ≡ true → a ≡ true
    under true b is = refl
    under false b is = absurd cc

    here : (a b : Bool) → b ≡ true → (a && b) ≡ false → a ≡ false
    here true b owns is = absurd cc
    here false b owns is = refl

    never : (a b : Bool) → b ≡ false → (a && b) ≡ true → ⊥
    never true b other is = absurd cc
    never false b other is = absurd cc

    by_mode : (b : Bool) → is_shared h.1.mode ≡ b
        → Shares w.objects (if b then mark_shared h.1.object w else w).objects
        (λ n. nat_eq h.1.object n && is_shared h.1.mode)
    by_mode true is =
        let m = mark_shares w h.1.object in
        record {
          marked = m.marked;
          these = λ n p at there. m.these n p (under (nat_eq h.1.object n) (is_shared h.1.mode) at) there;
          others = λ n at. m.others n (here (nat_eq h.1.object n) (is_shared h.1.mode) is at);
        }
    by_mode false is = record {
      marked = as_they_are w.objects;
      these = λ n p at there. absurd (never (nat_eq h.1.object n) (is_shared h.1.mode) is at);
      others = λ n at. refl;
    }

-- the marks of one handle, and then of others
module _ (w v x : List Object) (h : NamedHandle) (puts : List NamedHandle)
    (first : Shares w v (λ n. nat_eq h.1.object n && is_shared h.1.mode)) (rest : Shares v x (is_shared_by_handle puts))
  where
    front : (a b : Bool) → (a || b) ≡ false → a ≡ false
    front true b is = absurd cc
    front false b is = refl

    second : (a b : Bool) → (a || b) ≡ false → b ≡ false
    second true b is = absurd cc
    second false b is = is

    at_one : (n : ℕ) (p : Object) → object_at x n ≡ Some p → (b : Bool)
        → (nat_eq h.1.object n && is_shared h.1.mode) ≡ b → (b || is_shared_by_handle puts n) ≡ true → p.shared ≡ true
    at_one n p there true here is =
        let was = was_there v x n p rest.marked there in
        let m = was.2 in
        m.shared (first.these n was.0 here was.1)
    at_one n p there false here is = rest.these n p is there

    both_share : Shares w x (is_shared_by_handle (h ∷ puts))
    both_share = record {
      marked = all_marked_then w v x first.marked rest.marked;
      these = λ n p is there. at_one n p there (nat_eq h.1.object n && is_shared h.1.mode) refl is;
      others = λ n is.
          rest.others n (second (nat_eq h.1.object n && is_shared h.1.mode) (is_shared_by_handle puts n) is)
          ∙ first.others n (front (nat_eq h.1.object n && is_shared h.1.mode) (is_shared_by_handle puts n) is);
    }

-- the marks of handles that are put: each object that a Shared one is on has its mark, the others are as they were
pub puts_share : (w : World) (puts : List NamedHandle)
    → Shares w.objects (mark_puts w puts).objects (is_shared_by_handle puts)
puts_share w [] = record {
  marked = as_they_are w.objects;
  these = λ n p is there. absurd cc;
  others = λ n is. refl;
}
puts_share w (h ∷ puts) =
    both_share w.objects (mark_put w h).objects (mark_puts w (h ∷ puts)).objects h puts (put_shares w h)
    (puts_share (mark_put w h) puts)

-- Objects stay objects of their contracts.

value_stays : (objects after : List Object) → length after ≡ length objects → (of : ResolvedType) (v : Value)
    → IsValueOf objects of v → IsValueOf after of v
value_stays objects after same Int (int_value z) is = is
value_stays objects after same Int (bool_value z) is = absurd is
value_stays objects after same Int (text_value z) is = absurd is
value_stays objects after same Int (reference n) is = absurd is
value_stays objects after same BoolKind (int_value z) is = absurd is
value_stays objects after same BoolKind (bool_value z) is = is
value_stays objects after same BoolKind (text_value z) is = absurd is
value_stays objects after same BoolKind (reference n) is = absurd is
value_stays objects after same Text (int_value z) is = absurd is
value_stays objects after same Text (bool_value z) is = absurd is
value_stays objects after same Text (text_value z) is = is
value_stays objects after same Text (reference n) is = absurd is
value_stays objects after same (Reference id p) (int_value z) is = absurd is
value_stays objects after same (Reference id p) (bool_value z) is = absurd is
value_stays objects after same (Reference id p) (text_value z) is = absurd is
value_stays objects after same (Reference id p) (reference n) is = rw same is

field_value_stays : (objects after : List Object) → length after ≡ length objects → (c : Contract) (k : ℕ)
    (v : Option Value) → IfSome v (λ v. IsSomeAnd (slice_get c.fields k) (λ f. IsValueOf objects f.of v))
    → IfSome v (λ v. IsSomeAnd (slice_get c.fields k) (λ f. IsValueOf after f.of v))
field_value_stays objects after same c k None is = tt
field_value_stays objects after same c k (Some v) is = at_field (slice_get c.fields k) is
  where
    at_field : (f : Option Field) → IsSomeAnd f (λ f. IsValueOf objects f.of v)
        → IsSomeAnd f (λ f. IsValueOf after f.of v)
    at_field None is = is
    at_field (Some f) is = value_stays objects after same f.of v is

object_of_stays : (objects after : List Object) → length after ≡ length objects → (c : Contract) (o p : Object)
    → IsMarkedFrom o p → IsObjectOf objects c o → IsObjectOf after c p
object_of_stays objects after same c o p m is = record {
  contract = is.contract;
  state = rw m.state is.state;
  fields = rw (m.fields, m.state) is.fields;
  values = λ k. field_value_stays objects after same c k (p.fields k) (rw m.fields (is.values k));
}

object_stays : (table : ClassTable) (objects after : List Object) → length after ≡ length objects → (o p : Object)
    → IsMarkedFrom o p → IsObject table objects o → IsObject table after p
object_stays table objects after same o p m is =
    subst (λ id. IsSomeAnd (contract_at table id) (λ c. IsObjectOf after c p)) (sym m.contract)
    (at_contract (contract_at table o.contract) is)
  where
    at_contract : (c : Option Contract) → IsSomeAnd c (λ c. IsObjectOf objects c o)
        → IsSomeAnd c (λ c. IsObjectOf after c p)
    at_contract None is = is
    at_contract (Some c) is = object_of_stays objects after same c o p m is

-- objects of a table stay such where they gain marks
pub objects_stay : (table : ClassTable) (objects after : List Object) → AreMarkedFrom objects after
    → All (IsObject table objects) objects → All (IsObject table after) after
objects_stay table objects after m all = all_of (IsObject table after) after (λ k p there.
    let was = was_there objects after k p m there in
    object_stays table objects after (same_length objects after m) was.0 p was.2
    (item_of (IsObject table objects) objects all k was.0 was.1))
