-- Owning places, put into the lists of their objects one after another.
use Rattle.std.proofs.Common.{◌≡◌, ◌≢◌, ℕ, zero, suc, ◌+◌, ◌<◌, ◌≤◌, Bool, true, false, cond, List, [], ◌∷◌, ◌++◌, map, length, get_or, set, replicate, Option, Some, None, refl, sym, ap, subst, ◌∙◌, true≢false, arith, length-append}
use Rattle.std.specs.Prelude.{⊤, Result, Ok, Err, OnOk, nat_eq, nat_lt, slice_get, option_map, filter, find, flat_map, filter_map, IfSome, IsSomeAnd, if◌then◌else◌}
use Rattle.std.specs.Option.{option_map_or, unwrap_or}
use Rattle.std.specs.List.{enumerate_from, cons_option}
use Rattle.std.proofs.lemmas.Bool.Decides.{Decides-eqb}
use Rattle.std.proofs.lemmas.List.{map-append, length-replicate, get_or_past}
use Rattle.std.proofs.lemmas.List.Concat.{flat_map-append}
use Rattle.std.proofs.lemmas.Option.{slice_get-map, same_Some}
use Rattle.ob_base.specs.declared.id.ObjectId.{ObjectId}
use Rattle.ob_base.specs.declared.permission.Mode.{Mode}
use Rattle.ob_code.specs.declared.image.ContractCode.{ContractCode}
use Rattle.ob_code.specs.declared.image.Image.{Image}
use Rattle.ob_table.specs.Tables.{ClassTable, contract_at}
use Rattle.ob_table.specs.declared.contract.Contract.{Contract}
use Rattle.ob_table.specs.declared.contract.Field.{Field}
use Rattle.ob_table.specs.declared.contract.ResolvedType.{ResolvedType}
use Rattle.ob_table.specs.declared.contract.ResolvedType.TheVariants.{Int, Bool as BoolKind, Text, Reference}
use Rattle.ob_heap.specs.declared.object.Object.{Object}
use Rattle.ob_heap.specs.Differences.{with_objects}
use Rattle.ob_heap_spec.specs.Contents.{HandleName, Handle as PlainHandle, Content, IsContent, IsObject, IsObjectOf, IsHandle, IsValueOf}
use Rattle.ob_heap_spec.specs.Objects.{Object as PlainObject, has_field}
use Rattle.ob_heap_spec.specs.Values.{Value, int_value, bool_value, text_value, reference}
use Rattle.ob_heap_spec.proofs.Items.{item_of}
use Rattle.ob_code_table.specs.ImageTables.{contract_of_code, table_of_image}
use Rattle.ob_rest_spec.specs.Incoming.{StorePlace, stored_field, stored_handle, IncomingReference, incoming_by_field, incoming_by_handle, incoming_references}
use Rattle.ob_rest_spec.specs.Modes.{is_owned}
use Rattle.ob_rest_spec.specs.References.{FieldReference, reference_of, references_of, field_references, available_value}
use Rattle.ob_owners.specs.declared.gathering.Owning.{Owning}
use Rattle.ob_owners.specs.Indexes.{Indexed, IsIndexOf, SameReferences, without_bodies, told_owner}
use Rattle.ob_owners.specs.Moving.{changed_by, with_first_places}
use Rattle.ob_owners.specs.Noting.{with_change_at}
use Rattle.ob_owners.specs.Owning.{OwningPlace, owning_of, owning_by_field, owning_by_handle, owning_by_object, all_owning, places_owning}
use Rattle.ob_owners.specs.Referring.{references_by}
use Rattle.ob_owners.specs.Spots.{place_of, owner_place}
use Rattle.ob_owners.proofs.SeenLemmas.{contract_by}
use Rattle.ob_owners.proofs.TallyLaws.{changed_is_set}

-- The list of one object.

abbrev pub onto : ℕ → OwningPlace → Bool
onto n p = nat_eq p.object n

at_other : (f : List StorePlace → List StorePlace) (xs : List (List StorePlace)) (k n : ℕ) → k ≢ n → slice_get (with_change_at k f xs) n ≡ slice_get xs n
at_other f [] k n ne = refl
at_other f (x ∷ xs) zero zero ne = absurd (ne refl)
at_other f (x ∷ xs) zero (suc n) ne = refl
at_other f (x ∷ xs) (suc k) zero ne = refl
at_other f (x ∷ xs) (suc k) (suc n) ne = at_other f xs k n (λ e. ne (ap suc e))

at_same : (f : List StorePlace → List StorePlace) (xs : List (List StorePlace)) (k : ℕ) → slice_get (with_change_at k f xs) k ≡ option_map f (slice_get xs k)
at_same f [] k = refl
at_same f (x ∷ xs) zero = refl
at_same f (x ∷ xs) (suc k) = at_same f xs k

-- what changes for these places make of the list of one object
abbrev pub changes_by : (StorePlace → List StorePlace → List StorePlace) → List OwningPlace → List StorePlace → List StorePlace
changes_by change [] xs = xs
changes_by change (p ∷ ps) xs = change p.place (changes_by change ps xs)

mapped_again : (f g : List StorePlace → List StorePlace) (o : Option (List StorePlace)) → option_map f (option_map g o) ≡ option_map (λ xs. f (g xs)) o
mapped_again f g None = refl
mapped_again f g (Some xs) = refl

unchanged : (o : Option (List StorePlace)) → o ≡ option_map (λ xs. xs) o
unchanged None = refl
unchanged (Some xs) = refl

list_there : (change : StorePlace → List StorePlace → List StorePlace) (n : ℕ) (ps : List OwningPlace) (lists : List (List StorePlace))
    → slice_get (changed_by change ps lists) n ≡ option_map (changes_by change (filter (onto n) ps)) (slice_get lists n)
list_there change n [] lists = unchanged (slice_get lists n)
list_there change n (p ∷ ps) lists = by (nat_eq p.object n) refl (list_there change n ps lists)
  where
    by : (b : Bool) → nat_eq p.object n ≡ b → slice_get (changed_by change ps lists) n ≡ option_map (changes_by change (filter (onto n) ps)) (slice_get lists n)
        → slice_get (with_change_at p.object (change p.place) (changed_by change ps lists)) n
        ≡ option_map (changes_by change (cond b (p ∷ filter (onto n) ps) (filter (onto n) ps))) (slice_get lists n)
    by true is rest =
        ap (λ k. slice_get (with_change_at k (change p.place) (changed_by change ps lists)) n) ((Decides-eqb p.object n).0 is)
        ∙ at_same (change p.place) (changed_by change ps lists) n ∙ ap (option_map (change p.place)) rest
        ∙ mapped_again (change p.place) (changes_by change (filter (onto n) ps)) (slice_get lists n)
    by false is rest =
        at_other (change p.place) (changed_by change ps lists) p.object n (λ e. true≢false (sym ((Decides-eqb p.object n).1 e) ∙ is)) ∙ rest

none_past : (lists : List (List StorePlace)) (n : ℕ) → slice_get lists n ≡ None → length lists ≤ n
none_past [] n e = omega arith
none_past (x ∷ xs) zero e = cc
none_past (x ∷ xs) (suc n) e = let h = none_past xs n e in omega arith

from_get : (lists : List (List StorePlace)) (n : ℕ) (o : Option (List StorePlace)) → slice_get lists n ≡ o → get_or lists n [] ≡ unwrap_or o []
from_get [] n o e = ap (λ x. unwrap_or x []) e
from_get (x ∷ xs) zero o e = ap (λ y. unwrap_or y []) e
from_get (x ∷ xs) (suc n) o e = from_get xs n o e

-- the list of an object after changes, if there is one; where there is none, no change may be of it
pub list_after : (change : StorePlace → List StorePlace → List StorePlace) (n : ℕ) (ps : List OwningPlace) (lists : List (List StorePlace))
    → (length lists ≤ n → filter (onto n) ps ≡ [])
    → get_or (changed_by change ps lists) n [] ≡ changes_by change (filter (onto n) ps) (get_or lists n [])
list_after change n ps lists out = by (slice_get lists n) refl
  where
    by : (o : Option (List StorePlace)) → slice_get lists n ≡ o → get_or (changed_by change ps lists) n [] ≡ changes_by change (filter (onto n) ps) (get_or lists n [])
    by None at =
        let past : length lists ≤ n = none_past lists n at in
        from_get (changed_by change ps lists) n None (list_there change n ps lists ∙ ap (option_map (changes_by change (filter (onto n) ps))) at)
        ∙ sym (ap (λ qs. changes_by change qs (get_or lists n [])) (out past) ∙ get_or_past lists n [] past)
    by (Some xs) at =
        from_get (changed_by change ps lists) n (Some (changes_by change (filter (onto n) ps) xs)) (list_there change n ps lists ∙ ap (option_map (changes_by change (filter (onto n) ps))) at)
        ∙ ap (changes_by change (filter (onto n) ps)) (sym (from_get lists n (Some xs) at))

-- the last of these places goes first
pub changed_last : (change : StorePlace → List StorePlace → List StorePlace) (ps : List OwningPlace) (p : OwningPlace) (lists : List (List StorePlace))
    → changed_by change (ps ++ p ∷ []) lists ≡ changed_by change ps (with_change_at p.object (change p.place) lists)
changed_last change [] p lists = refl
changed_last change (q ∷ ps) p lists = ap (with_change_at q.object (change q.place)) (changed_last change ps p lists)

-- one turn of a loop that takes the last of the places
pub changed_turn : (change : StorePlace → List StorePlace → List StorePlace) (olds news : List Owning) (o : Owning) (lists after : List (List StorePlace)) → olds ≡ news ++ o ∷ []
    → after ≡ with_change_at o.object.0 (change (place_of o.spot)) lists
    → changed_by change (map owning_of news) after ≡ changed_by change (map owning_of olds) lists
changed_turn change olds news o lists after e is =
    ap (changed_by change (map owning_of news)) is ∙ sym (changed_last change (map owning_of news) (owning_of o) lists)
    ∙ sym (ap (λ ps. changed_by change ps lists) (ap (map owning_of) e ∙ map-append owning_of news (o ∷ [])))

-- the list of a number changes as it would among all of them
pub changed_at : (f : List StorePlace → List StorePlace) (lists : List (List StorePlace)) (l : ℕ) → l < length lists → set lists l (f (get_or lists l [])) ≡ with_change_at l f lists
changed_at f lists l h = changed_is_set f lists l [] (f (get_or lists l [])) h refl

-- The owning places of one object.

abbrev pub placed : List OwningPlace → List StorePlace
placed ps = map (λ (p : OwningPlace). p.place) ps

abbrev owned : List IncomingReference → List StorePlace
owned rs = map (λ (r : IncomingReference). r.place) (filter (λ r. is_owned r.mode) rs)

owned_append : (rs ss : List IncomingReference) → owned (rs ++ ss) ≡ owned rs ++ owned ss
owned_append [] ss = refl
owned_append (r ∷ rs) ss = by (is_owned r.mode) (owned_append rs ss)
  where
    by : (b : Bool) → owned (rs ++ ss) ≡ owned rs ++ owned ss
        → map (λ (q : IncomingReference). q.place) (cond b (r ∷ filter (λ q. is_owned q.mode) (rs ++ ss)) (filter (λ q. is_owned q.mode) (rs ++ ss)))
        ≡ map (λ (q : IncomingReference). q.place) (cond b (r ∷ filter (λ q. is_owned q.mode) rs) (filter (λ q. is_owned q.mode) rs)) ++ owned ss
    by true e = ap (λ ps. r.place ∷ ps) e
    by false e = e

pub placed_append : (n : ℕ) (ps qs : List OwningPlace) → placed (filter (onto n) (ps ++ qs)) ≡ placed (filter (onto n) ps) ++ placed (filter (onto n) qs)
placed_append n [] qs = refl
placed_append n (p ∷ ps) qs = by (nat_eq p.object n) (placed_append n ps qs)
  where
    by : (b : Bool) → placed (filter (onto n) (ps ++ qs)) ≡ placed (filter (onto n) ps) ++ placed (filter (onto n) qs)
        → placed (cond b (p ∷ filter (onto n) (ps ++ qs)) (filter (onto n) (ps ++ qs))) ≡ placed (cond b (p ∷ filter (onto n) ps) (filter (onto n) ps)) ++ placed (filter (onto n) qs)
    by true e = ap (λ xs. p.place ∷ xs) e
    by false e = e

mapped_if : {A B : Type 0} (f : A → B) (b : Bool) (x : A) (xs : List A) → map f (cond b (x ∷ xs) xs) ≡ cond b (f x ∷ map f xs) (map f xs)
mapped_if f true x xs = refl
mapped_if f false x xs = refl

-- a place that owns an object, before others
one_owned : (n m : ℕ) (mode : Mode) (place : StorePlace) (rest : List IncomingReference)
    → placed (filter (onto n) (if is_owned mode then record { object = m; place = place } ∷ [] else [])) ++ owned rest
    ≡ owned (cond (nat_eq m n) (record { place = place; mode = mode } ∷ rest) rest)
one_owned n m mode place rest =
    ap (λ xs. xs ++ owned rest) (left (is_owned mode)) ∙ both (is_owned mode) (nat_eq m n) (owned rest) ∙ sym (right (nat_eq m n))
  where
    this : (c : Bool) → placed (cond c (record { object = m; place = place } ∷ []) []) ≡ cond c (place ∷ []) []
    this true = refl
    this false = refl

    left : (b : Bool) → placed (filter (onto n) (if b then record { object = m; place = place } ∷ [] else [])) ≡ cond b (cond (nat_eq m n) (place ∷ []) []) []
    left true = this (nat_eq m n)
    left false = refl

    both : (b c : Bool) (xs : List StorePlace) → cond b (cond c (place ∷ []) []) [] ++ xs ≡ cond c (cond b (place ∷ xs) xs) xs
    both true true xs = refl
    both true false xs = refl
    both false true xs = refl
    both false false xs = refl

    right : (c : Bool) → owned (cond c (record { place = place; mode = mode } ∷ rest) rest) ≡ cond c (cond (is_owned mode) (place ∷ owned rest) (owned rest)) (owned rest)
    right true = mapped_if (λ (r : IncomingReference). r.place) (is_owned mode) (record { place = place; mode = mode }) (filter (λ r. is_owned r.mode) rest)
    right false = refl

fields_owned : (n : ℕ) (rs : List FieldReference) → placed (filter (onto n) (flat_map owning_by_field rs)) ≡ owned (map incoming_by_field (filter (λ r. nat_eq r.object n) rs))
fields_owned n [] = refl
fields_owned n (r ∷ rs) =
    placed_append n (owning_by_field r) (flat_map owning_by_field rs)
    ∙ ap (λ xs. placed (filter (onto n) (owning_by_field r)) ++ xs) (fields_owned n rs)
    ∙ one_owned n r.object r.perm.mode (stored_field r.holder r.field) (map incoming_by_field (filter (λ q. nat_eq q.object n) rs))
    ∙ sym (ap owned (mapped_if incoming_by_field (nat_eq r.object n) r (filter (λ q. nat_eq q.object n) rs)))

handles_owned : (n : ℕ) (hs : List (HandleName × PlainHandle)) → placed (filter (onto n) (flat_map owning_by_handle hs)) ≡ owned (map incoming_by_handle (filter (λ h. nat_eq h.1.object n) hs))
handles_owned n [] = refl
handles_owned n (h ∷ hs) =
    placed_append n (owning_by_handle h) (flat_map owning_by_handle hs)
    ∙ ap (λ xs. placed (filter (onto n) (owning_by_handle h)) ++ xs) (handles_owned n hs)
    ∙ one_owned n h.1.object h.1.mode (stored_handle h.0) (map incoming_by_handle (filter (λ g. nat_eq g.1.object n) hs))
    ∙ sym (ap owned (mapped_if incoming_by_handle (nat_eq h.1.object n) h (filter (λ g. nat_eq g.1.object n) hs)))

flat_twice : (table : ClassTable) (os : List (ℕ × PlainObject)) → flat_map (owning_by_object table) os ≡ flat_map owning_by_field (flat_map (λ o. references_of table o.0 o.1) os)
flat_twice table [] = refl
flat_twice table (o ∷ os) =
    ap (λ xs. owning_by_object table o ++ xs) (flat_twice table os)
    ∙ sym (flat_map-append owning_by_field (references_of table o.0 o.1) (flat_map (λ o. references_of table o.0 o.1) os))

pub all_owned : (table : ClassTable) (content : Content) (n : ℕ) → placed (filter (onto n) (all_owning table content)) ≡ places_owning table content n
all_owned table content n =
    placed_append n (flat_map (owning_by_object table) (enumerate_from 0 content.objects)) (flat_map owning_by_handle content.handles)
    ∙ ap (λ xs. placed (filter (onto n) xs) ++ placed (filter (onto n) (flat_map owning_by_handle content.handles))) (flat_twice table (enumerate_from 0 content.objects))
    ∙ ap (λ xs. xs ++ placed (filter (onto n) (flat_map owning_by_handle content.handles))) (fields_owned n (field_references table content.objects))
    ∙ ap (λ xs. owned (map incoming_by_field (filter (λ r. nat_eq r.object n) (field_references table content.objects))) ++ xs) (handles_owned n content.handles)
    ∙ sym (owned_append (map incoming_by_field (filter (λ r. nat_eq r.object n) (field_references table content.objects)))
    (map incoming_by_handle (filter (λ h. nat_eq h.1.object n) content.handles)))

-- The references of a content are to objects that it has.

abbrev Below : ℕ → List OwningPlace → Type 0
Below m [] = ⊤
Below m (p ∷ ps) = (p.object < m) × Below m ps

below_both : (m : ℕ) (ps qs : List OwningPlace) → Below m ps → Below m qs → Below m (ps ++ qs)
below_both m [] qs a b = b
below_both m (p ∷ ps) qs a b = (a.0, below_both m ps qs a.1 b)

below_none : (m n : ℕ) (ps : List OwningPlace) → Below m ps → m ≤ n → filter (onto n) ps ≡ []
below_none m n [] b past = refl
below_none m n (p ∷ ps) b past = by (nat_eq p.object n) refl (below_none m n ps b.1 past)
  where
    by : (c : Bool) → nat_eq p.object n ≡ c → filter (onto n) ps ≡ [] → cond c (p ∷ filter (onto n) ps) (filter (onto n) ps) ≡ []
    by true is rest = let e = (Decides-eqb p.object n).0 is in absurd (omega (arith, e, b.0, past))
    by false is rest = rest

by_field_below : (m : ℕ) (r : FieldReference) → r.object < m → Below m (owning_by_field r)
by_field_below m r h = by (is_owned r.perm.mode)
  where
    by : (b : Bool) → Below m (if b then record { object = r.object; place = stored_field r.holder r.field } ∷ [] else [])
    by true = (h, tt)
    by false = tt

by_handle_below : (m : ℕ) (x : HandleName × PlainHandle) → x.1.object < m → Below m (owning_by_handle x)
by_handle_below m x h = by (is_owned x.1.mode)
  where
    by : (b : Bool) → Below m (if b then record { object = x.1.object; place = stored_handle x.0 } ∷ [] else [])
    by true = (h, tt)
    by false = tt

value_below : (objects : List PlainObject) (h k : ℕ) (kind : ResolvedType) (v : Option Value) → IfSome v (λ x. IsValueOf objects kind x)
    → IfSome (reference_of h k kind v) (λ r. r.object < length objects)
value_below objects h k Int v is = tt
value_below objects h k BoolKind v is = tt
value_below objects h k Text v is = tt
value_below objects h k (Reference c p) None is = tt
value_below objects h k (Reference c p) (Some (int_value z)) is = tt
value_below objects h k (Reference c p) (Some (bool_value b)) is = tt
value_below objects h k (Reference c p) (Some (text_value t)) is = tt
value_below objects h k (Reference c p) (Some (reference n)) is = is

fields_below : (m h : ℕ) (c : Contract) (o : PlainObject) (s : ℕ) (fs : List Field)
    → ((i : ℕ) (f : Field) → slice_get fs i ≡ Some f → IfSome (reference_of h (s + i) f.of (available_value c o (s + i))) (λ r. r.object < m))
    → Below m (flat_map owning_by_field (filter_map (λ (f : ℕ × Field). reference_of h f.0 f.1.of (available_value c o f.0)) (enumerate_from s fs)))
fields_below m h c o s [] good = tt
fields_below m h c o s (f ∷ fs) good = by (reference_of h s f.of (available_value c o s)) here (fields_below m h c o (s + 1) fs later)
  where
    here : IfSome (reference_of h s f.of (available_value c o s)) (λ r. r.object < m)
    here = let e : s + 0 ≡ s = omega arith in subst (λ k. IfSome (reference_of h k f.of (available_value c o k)) (λ r. r.object < m)) e (good 0 f refl)

    later : (i : ℕ) (g : Field) → slice_get fs i ≡ Some g → IfSome (reference_of h (s + 1 + i) g.of (available_value c o (s + 1 + i))) (λ r. r.object < m)
    later i g at = let e : s + suc i ≡ s + 1 + i = omega arith in subst (λ k. IfSome (reference_of h k g.of (available_value c o k)) (λ r. r.object < m)) e (good (suc i) g at)

    by : (r : Option FieldReference) → IfSome r (λ x. x.object < m)
        → Below m (flat_map owning_by_field (filter_map (λ (g : ℕ × Field). reference_of h g.0 g.1.of (available_value c o g.0)) (enumerate_from (s + 1) fs)))
        → Below m (flat_map owning_by_field (cons_option r (filter_map (λ (g : ℕ × Field). reference_of h g.0 g.1.of (available_value c o g.0)) (enumerate_from (s + 1) fs))))
    by None is rest = rest
    by (Some r) is rest = below_both m (owning_by_field r) (flat_map owning_by_field (filter_map (λ (g : ℕ × Field). reference_of h g.0 g.1.of (available_value c o g.0)) (enumerate_from (s + 1) fs))) (by_field_below m r is) rest

object_below : (table : ClassTable) (objects : List PlainObject) (h : ℕ) (o : PlainObject) → IsObject table objects o → Below (length objects) (owning_by_object table (h, o))
object_below table objects h o is = by (contract_at table o.contract) is
  where
    in_field : (c : Contract) → IsObjectOf objects c o → (k : ℕ) (f : Field) → slice_get c.fields k ≡ Some f
        → IfSome (reference_of h k f.of (available_value c o k)) (λ r. r.object < length objects)
    in_field c so k f at = value_below objects h k f.of (available_value c o k) (kept (has_field c o.state k) (o.fields k) (so.values k))
      where
        told : (v : Value) (r : Option Field) → r ≡ Some f → IsSomeAnd r (λ g. IsValueOf objects g.of v) → IsValueOf objects f.of v
        told v None e there = cc
        told v (Some g) e there = subst (λ x. IsValueOf objects x.of v) (same_Some g f e) there

        kept : (b : Bool) (v : Option Value) → IfSome v (λ x. IsSomeAnd (slice_get c.fields k) (λ g. IsValueOf objects g.of x)) → IfSome (if b then v else None) (λ x. IsValueOf objects f.of x)
        kept false v there = tt
        kept true None there = tt
        kept true (Some v) there = told v (slice_get c.fields k) at there

    by : (r : Option Contract) → IsSomeAnd r (λ c. IsObjectOf objects c o)
        → Below (length objects) (flat_map owning_by_field (option_map_or (λ c. filter_map (λ (f : ℕ × Field). reference_of h f.0 f.1.of (available_value c o f.0)) (enumerate_from 0 c.fields)) r []))
    by None so = tt
    by (Some c) so = fields_below (length objects) h c o 0 c.fields (λ i f at. let e : i ≡ 0 + i = omega arith in subst (λ k. IfSome (reference_of h k f.of (available_value c o k)) (λ r. r.object < length objects)) e (in_field c so i f at))

objects_below : (table : ClassTable) (all : List PlainObject) (s : ℕ) (os : List PlainObject) → ((i : ℕ) (o : PlainObject) → slice_get os i ≡ Some o → IsObject table all o)
    → Below (length all) (flat_map (owning_by_object table) (enumerate_from s os))
objects_below table all s [] good = tt
objects_below table all s (o ∷ os) good =
    below_both (length all) (owning_by_object table (s, o)) (flat_map (owning_by_object table) (enumerate_from (s + 1) os))
    (object_below table all s o (good 0 o refl)) (objects_below table all (s + 1) os (λ i x at. good (suc i) x at))

handles_below : (m : ℕ) (hs : List (HandleName × PlainHandle)) → ((i : ℕ) (x : HandleName × PlainHandle) → slice_get hs i ≡ Some x → x.1.object < m)
    → Below m (flat_map owning_by_handle hs)
handles_below m [] good = tt
handles_below m (x ∷ hs) good =
    below_both m (owning_by_handle x) (flat_map owning_by_handle hs) (by_handle_below m x (good 0 x refl)) (handles_below m hs (λ i y at. good (suc i) y at))

pub within : (table : ClassTable) (content : Content) → IsContent table content → (n : ℕ) → length content.objects ≤ n → filter (onto n) (all_owning table content) ≡ []
within table content c n past =
    below_none (length content.objects) n (all_owning table content)
    (below_both (length content.objects) (flat_map (owning_by_object table) (enumerate_from 0 content.objects)) (flat_map owning_by_handle content.handles)
    (objects_below table content.objects 0 content.objects (λ i o at. item_of (IsObject table content.objects) content.objects c.objects i o at))
    (handles_below (length content.objects) content.handles (λ i x at. (item_of (IsHandle content.objects) content.handles c.handles i x at).object)))
    past

-- The index of a content.

first_puts : (ps : List OwningPlace) → changes_by (λ p xs. p ∷ xs) ps [] ≡ placed ps
first_puts [] = refl
first_puts (p ∷ ps) = ap (λ xs. p.place ∷ xs) (first_puts ps)

abbrev pub empty_lists : ℕ → List (List StorePlace)
empty_lists k = replicate k []

all_empty : (k n : ℕ) → get_or (empty_lists k) n [] ≡ []
all_empty zero n = refl
all_empty (suc k) zero = refl
all_empty (suc k) (suc n) = all_empty k n

pub built : (table : ClassTable) (own : Image) (content : Content) (start lists : List (List StorePlace)) (ps going coming : List OwningPlace) → start ≡ empty_lists (length content.objects)
    → ps ≡ all_owning table content → lists ≡ with_first_places ps start → SameReferences (table_of_image own) table → IsContent table content
    → IsIndexOf table content (record { declared = own; lists = lists; going = going; coming = coming })
built table own content start lists ps going coming none all is same content_is = record {
  references = same;
  owning = λ n. ap (λ ls. get_or ls n []) from
      ∙ list_after (λ p xs. p ∷ xs) n (all_owning table content) (empty_lists (length content.objects))
      (λ past. within table content content_is n (omega (arith, past, length-replicate {A = List StorePlace} (length content.objects) [])))
      ∙ ap (changes_by (λ p xs. p ∷ xs) (filter (onto n) (all_owning table content))) (all_empty (length content.objects) n)
      ∙ first_puts (filter (onto n) (all_owning table content)) ∙ all_owned table content n;
}
  where
    from : lists ≡ with_first_places (all_owning table content) (empty_lists (length content.objects))
    from = is ∙ ap (λ qs. with_first_places qs start) all ∙ ap (with_first_places (all_owning table content)) none

-- The owner.

head_found : (rs : List IncomingReference) → slice_get (owned rs) 0 ≡ option_map (λ (r : IncomingReference). r.place) (find (λ r. is_owned r.mode) rs)
head_found [] = refl
head_found (r ∷ rs) = by (is_owned r.mode) (head_found rs)
  where
    by : (b : Bool) → slice_get (owned rs) 0 ≡ option_map (λ (q : IncomingReference). q.place) (find (λ q. is_owned q.mode) rs)
        → slice_get (map (λ (q : IncomingReference). q.place) (cond b (r ∷ filter (λ q. is_owned q.mode) rs) (filter (λ q. is_owned q.mode) rs))) 0
        ≡ option_map (λ (q : IncomingReference). q.place) (cond b (Some r) (find (λ q. is_owned q.mode) rs))
    by true e = refl
    by false e = e

pub told_is_owner : (table : ClassTable) (content : Content) (v : Indexed) (n : ℕ) → IsIndexOf table content v → told_owner v n ≡ owner_place table content n
told_is_owner table content v n i = ap (λ ps. slice_get ps 0) (i.owning n) ∙ head_found (incoming_references table content n)

-- The contracts of an image without their bodies say the same of references.
pub same_references : (code declared : Image) → declared.contracts ≡ map without_bodies code.contracts → SameReferences (table_of_image declared) (table_of_image code)
same_references code declared e holder o = by (slice_get code.contracts o.contract.0) refl
  where
    same : (r : Option ContractCode)
        → option_map_or (λ (c : Contract). references_by c holder o) (option_map contract_of_code (option_map without_bodies r)) []
        ≡ option_map_or (λ (c : Contract). references_by c holder o) (option_map contract_of_code r) []
    same None = refl
    same (Some c) = refl

    by : (r : Option ContractCode) → slice_get code.contracts o.contract.0 ≡ r → references_of (table_of_image declared) holder o ≡ references_of (table_of_image code) holder o
    by r at =
        ap (λ x. option_map_or (λ (c : Contract). references_by c holder o) x [])
        (contract_by declared o.contract (option_map without_bodies r)
        (ap (λ cs. slice_get cs o.contract.0) e ∙ slice_get-map without_bodies code.contracts o.contract.0 ∙ ap (option_map without_bodies) at))
        ∙ same r ∙ sym (ap (λ x. option_map_or (λ (c : Contract). references_by c holder o) x []) (contract_by code o.contract r at))

-- An index with more lists, or with what is made ready.

pub index_kept : (old new : Indexed) → new.declared ≡ old.declared → ((n : ℕ) → get_or new.lists n [] ≡ get_or old.lists n []) → (table : ClassTable) (c : Content) → IsIndexOf table c old → IsIndexOf table c new
index_kept old new same lists table c i = record {
  references = subst (λ image. SameReferences (table_of_image image) table) (sym same) i.references;
  owning = λ n. lists n ∙ i.owning n;
}

pub get_longer : (lists : List (List StorePlace)) (k n : ℕ) → get_or (lists ++ empty_lists k) n [] ≡ get_or lists n []
get_longer [] k n = all_empty k n
get_longer (x ∷ xs) k zero = refl
get_longer (x ∷ xs) k (suc n) = get_longer xs k n

pub few_after : (os : List Object) (es : List (ObjectId × Object)) → length (with_objects os es) ≤ length os + length es
few_after os [] = omega arith
few_after os (e ∷ es) = by (nat_lt e.0.0 (length os)) (few_after (set os e.0.0 e.1) es) (few_after (os ++ e.1 ∷ []) es)
  where
    set_length : (xs : List Object) (i : ℕ) (x : Object) → length (set xs i x) ≡ length xs
    set_length [] i x = refl
    set_length (y ∷ ys) zero x = refl
    set_length (y ∷ ys) (suc i) x = ap suc (set_length ys i x)

    by : (b : Bool) → length (with_objects (set os e.0.0 e.1) es) ≤ length (set os e.0.0 e.1) + length es → length (with_objects (os ++ e.1 ∷ []) es) ≤ length (os ++ e.1 ∷ []) + length es
        → length (with_objects (if b then set os e.0.0 e.1 else os ++ e.1 ∷ []) es) ≤ length os + suc (length es)
    by true h k = omega (arith, h, set_length os e.0.0 e.1)
    by false h k = omega (arith, k, length-append os (e.1 ∷ []))

-- what holds on success, and what follows from it
pub on_ok : {T E : Type 0} (r : Result T E) {A B : Type 0} → (A → B) → OnOk r A → OnOk r B
on_ok (Ok x) f h = f h
on_ok (Err e) f h = tt
