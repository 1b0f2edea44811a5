-- The start of a run from an entry, on two contents.
use Rattle.std.proofs.Common.{◌≡◌, ℕ, ◌<◌, ◌≤◌, inl, inr, Bool, true, false, List, [], ◌∷◌, length, Option, Some, None, refl, sym, ap, ◌∙◌, subst, arith, true≢false}
use Rattle.std.specs.Prelude.{⊤, if◌then◌else◌}
use Rattle.ob_perm.specs.Permissions.{is_shared}
use Rattle.ob_perm.specs.Masks.{permission_of}
use Rattle.ob_base.specs.declared.id.ContractId.{ContractId}
use Rattle.ob_table.specs.declared.contract.ResolvedType.{ResolvedType}
use Rattle.ob_table.specs.declared.contract.ResolvedType.TheVariants.{Int, Bool as BoolKind, Text, Reference}
use Rattle.ob_heap_spec.specs.Values.{Value, int_value, bool_value, text_value, reference}
use Rattle.ob_heap_spec.specs.Objects.{Object}
use Rattle.ob_heap_spec.specs.Contents.{object_at}
use Rattle.ob_heap_spec.specs.Worlds.{ReadItem, World, first_world, read_object}
use Rattle.ob_heap_spec.specs.Marks.{has_mark, mark_shared, mark_disowned, comes_into}
use Rattle.ob_code.specs.declared.image.BodyCode.{BodyCode}
use Rattle.ob_code.specs.declared.image.Image.{Image}
use Rattle.ob_code.specs.declared.image.ParamCode.{ParamCode}
use Rattle.ob_code.specs.Code.{body_code}
use Rattle.ob_code_table.specs.ImageTables.{perm_of_code, type_of_param}
use Rattle.ob_machine_steps.specs.Entries.{MachineEntry, lock_receiver, args_come_in, receiver_comes_in, comes_into_body, marked_world, entry_world}
use Rattle.ob_request_run_laws.specs.LocalityLaws.{setting}
use Rattle.ob_request_run_laws.specs.Locality.{Agree, Setting, IsKnown, Alike, onto, IsGood, AreThere, IsReceiverThere, ComesThere}
use Rattle.ob_request_run_laws.proofs.Lists.{none_is_some, some_is, all_read_on, past_end, there_is}
use Rattle.ob_request_run_laws.proofs.Moves.{HasAlike, Moves, moves_self, moves_from, reads_grow, reads_good, edit_good, marks_in, shared_moves}

-- two contents that agree are alike at first
pub first_alike : (items : List ReadItem) (xs ys : List Object) → Agree items xs ys → Alike (record { items = items; count = length xs; others = ys }) xs ys
first_alike items xs ys a = record { known = known; others = λ n h. refl; next = a.next }
  where
    known : (n : ℕ) → IsKnown (record { items = items; count = length xs; others = ys }) n → object_at ys n ≡ object_at xs n
    known n (inl k) = a.objects n k
    known n (inr k) = past_end ys n (subst (λ l. l ≤ n) (sym (a.next k.0)) k.1) ∙ sym (past_end xs n k.1)

pub first_good : (xs : List Object) (fuel : ℕ) → IsGood (length xs) (first_world xs fuel)
first_good xs fuel = record { objects = omega arith; next = λ h. absurd (omega (arith, h)); progress = λ n h. absurd (true≢false (sym h)) }

if_good : (count : ℕ) (b : Bool) (x y : World) → IsGood count x → IsGood count y → IsGood count (if b then x else y)
if_good count true x y g h = g
if_good count false x y g h = h

-- What comes in is marked.

-- what moved goes on by a part that looks at what is there
pub then_moves : (s : Setting) (r : List ReadItem) (w v : World) (f : World → World) → (m : Moves s r w v) → Moves s w.reads (f w) (f (onto m.ys w)) → Moves s r (f w) (f v)
then_moves s r w v f m n = record {
  grows = all_read_on r w.reads (f w).reads m.grows n.grows;
  good = n.good;
  ys = n.ys;
  is = λ all. ap f (m.is (all_read_on w.reads (f w).reads s.items n.grows all)) ∙ n.is all;
  alike = n.alike;
}

-- an object of the content is still there
is_still : (s : Setting) (w : World) (n : ℕ) → IsGood s.count w → n < s.count → n < length w.objects
is_still s w n good l = omega (arith, good.objects, l)

marked_moves : (s : Setting) (w : World) (ys : List Object) (n : ℕ) → IsGood s.count w → HasAlike s w ys → n < s.count → Moves s w.reads (mark_shared n w) (mark_shared n (onto ys w))
marked_moves s w ys n good alike l =
    let there = there_is w.objects n (is_still s w n good l) in
    moves_from s w.reads (read_object w n).reads (mark_shared n w) (mark_shared n (onto ys w)) (reads_grow w n) (shared_moves s w ys n there.0 good alike there.1)

-- a value refers to an object of the content, if it refers to one
abbrev pub IsBelow : ℕ → Value → Type 0
IsBelow count (int_value z) = ⊤
IsBelow count (bool_value b) = ⊤
IsBelow count (text_value bytes) = ⊤
IsBelow count (reference n) = n < count

if_moves : (s : Setting) (w : World) (ys : List Object) (b : Bool) (x y : World) → IsGood s.count w → HasAlike s w ys → Moves s w.reads x y → Moves s w.reads (if b then x else w) (if b then y else onto ys w)
if_moves s w ys true x y good alike m = m
if_moves s w ys false x y good alike m = moves_self s w ys good alike

value_moves : (s : Setting) (w : World) (ys : List Object) (kind : ResolvedType) (v : Value) → IsGood s.count w → HasAlike s w ys → IsBelow s.count v → Moves s w.reads (comes_into kind v w) (comes_into kind v (onto ys w))
value_moves s w ys (Reference id p) (reference n) good alike l = if_moves s w ys (is_shared (permission_of p)) _ _ good alike (marked_moves s w ys n good alike l)
value_moves s w ys (Reference id p) (int_value z) good alike l = moves_self s w ys good alike
value_moves s w ys (Reference id p) (bool_value b) good alike l = moves_self s w ys good alike
value_moves s w ys (Reference id p) (text_value bytes) good alike l = moves_self s w ys good alike
value_moves s w ys Int v good alike l = moves_self s w ys good alike
value_moves s w ys BoolKind v good alike l = moves_self s w ys good alike
value_moves s w ys Text v good alike l = moves_self s w ys good alike

abbrev pub AreBelow : ℕ → List Value → Type 0
AreBelow count [] = ⊤
AreBelow count (v ∷ vs) = IsBelow count v × AreBelow count vs

args_move : (s : Setting) (params : List ParamCode) (args : List Value) (r : List ReadItem) (w v : World) → AreBelow s.count args → Moves s r w v → Moves s r (args_come_in params args w) (args_come_in params args v)
args_move s [] args r w v l m = m
args_move s (p ∷ params) [] r w v l m = m
args_move s (p ∷ params) (a ∷ args) r w v l m =
    args_move s params args r (comes_into (type_of_param p) a w) (comes_into (type_of_param p) a v) l.1
    (then_moves s r w v (comes_into (type_of_param p) a) m (value_moves s w m.ys (type_of_param p) a m.good m.alike l.0))

receiver_moves : (s : Setting) (contract : ContractId) (b : BodyCode) (receiver : Option ℕ) (w : World) (ys : List Object) → IsGood s.count w → HasAlike s w ys → ((n : ℕ) → receiver ≡ Some n → n < s.count)
    → Moves s w.reads (receiver_comes_in contract b receiver w) (receiver_comes_in contract b receiver (onto ys w))
receiver_moves s contract b None w ys good alike l = moves_self s w ys good alike
receiver_moves s contract b (Some n) w ys good alike l = value_moves s w ys (Reference contract (perm_of_code b.entry)) (reference n) good alike (l n refl)

body_moves : (s : Setting) (contract : ContractId) (b : Option BodyCode) (receiver : Option ℕ) (args : List Value) (w : World) (ys : List Object) → IsGood s.count w → HasAlike s w ys
    → ((n : ℕ) → receiver ≡ Some n → n < s.count) → AreBelow s.count args → Moves s w.reads (comes_into_body contract b receiver args w) (comes_into_body contract b receiver args (onto ys w))
body_moves s contract None receiver args w ys good alike l m = moves_self s w ys good alike
body_moves s contract (Some b) receiver args w ys good alike l m =
    args_move s b.params args w.reads (receiver_comes_in contract b receiver w) (receiver_comes_in contract b receiver (onto ys w)) m (receiver_moves s contract b receiver w ys good alike l)

-- The world of an entry.

pub locked_good : (count : ℕ) (locked : Bool) (receiver : Option ℕ) (w : World) → IsGood count w → IsGood count (lock_receiver locked receiver w)
locked_good count locked None w good = good
locked_good count true (Some n) w good = record { objects = good.objects; next = good.next; progress = good.progress }
locked_good count false (Some n) w good = good

locked_onto : (locked : Bool) (receiver : Option ℕ) (w : World) (ys : List Object) → lock_receiver locked receiver (onto ys w) ≡ onto ys (lock_receiver locked receiver w)
locked_onto locked None w ys = refl
locked_onto true (Some n) w ys = refl
locked_onto false (Some n) w ys = refl

pub locked_objects : (locked : Bool) (receiver : Option ℕ) (w : World) → (lock_receiver locked receiver w).objects ≡ w.objects
locked_objects locked None w = refl
locked_objects true (Some n) w = refl
locked_objects false (Some n) w = refl

below_all : (xs : List Object) (vs : List Value) → AreThere xs vs → AreBelow (length xs) vs
below_all xs [] h = tt
below_all xs (int_value z ∷ vs) h = (tt, below_all xs vs h.1)
below_all xs (bool_value b ∷ vs) h = (tt, below_all xs vs h.1)
below_all xs (text_value bytes ∷ vs) h = (tt, below_all xs vs h.1)
below_all xs (reference n ∷ vs) h = (h.0, below_all xs vs h.1)

receiver_below : (xs : List Object) (receiver : Option ℕ) → IsReceiverThere xs receiver → (n : ℕ) → receiver ≡ Some n → n < length xs
receiver_below xs None h n e = absurd (none_is_some e)
receiver_below xs (Some m) h n e = subst (λ k. k < length xs) (some_is m n e) h

-- an entry begins in both in the same way
pub entry_moves : (image : Image) (e : MachineEntry) (items : List ReadItem) (xs ys : List Object) (fuel : ℕ) → ComesThere xs e → Agree items xs ys
    → Moves (setting items (length xs) ys) (lock_receiver e.lock e.receiver (first_world xs fuel)).reads (entry_world image e xs fuel) (entry_world image e ys fuel)
entry_moves image e items xs ys fuel there agree =
    subst (λ v. Moves (setting items (length xs) ys) w.reads (entry_world image e xs fuel) (marked_world image e v)) (sym (locked_onto e.lock e.receiver (first_world xs fuel) ys))
    (body_moves (setting items (length xs) ys) e.contract (body_code image e.contract e.tx) e.receiver e.args w ys (locked_good (length xs) e.lock e.receiver (first_world xs fuel) (first_good xs fuel))
    (λ all. subst (λ zs. Alike (setting items (length xs) ys) zs ys) (sym (locked_objects e.lock e.receiver (first_world xs fuel))) (first_alike items xs ys agree))
    (receiver_below xs e.receiver there.receiver) (below_all xs e.args there.args))
  where
    w : World
    w = lock_receiver e.lock e.receiver (first_world xs fuel)

-- What every run keeps, where what comes in needn't be there.

marks_good : (count : ℕ) (mark : Object → Bool) (f : Object → Object) (n : ℕ) (w : World) → IsGood count w → IsGood count (marks_in mark f n (read_object w n))
marks_good count mark f n w good = if_good count (has_mark mark (read_object w n) n) (read_object w n) _ (reads_good count w n good) (edit_good count f n (read_object w n) (object_at (read_object w n).objects n) (reads_good count w n good))

pub marked_good : (count n : ℕ) (w : World) → IsGood count w → IsGood count (mark_shared n w)
marked_good count n w good = marks_good count (λ o. o.shared) (λ o. record o { shared = true }) n w good

pub disowned_good : (count n : ℕ) (w : World) → IsGood count w → IsGood count (mark_disowned n w)
disowned_good count n w good = marks_good count (λ o. o.disowned) (λ o. record o { disowned = true }) n w good

value_good : (count : ℕ) (kind : ResolvedType) (v : Value) (w : World) → IsGood count w → IsGood count (comes_into kind v w)
value_good count (Reference id p) (reference n) w good = if_good count (is_shared (permission_of p)) _ w (marked_good count n w good) good
value_good count (Reference id p) (int_value z) w good = good
value_good count (Reference id p) (bool_value b) w good = good
value_good count (Reference id p) (text_value bytes) w good = good
value_good count Int v w good = good
value_good count BoolKind v w good = good
value_good count Text v w good = good

args_good : (count : ℕ) (params : List ParamCode) (args : List Value) (w : World) → IsGood count w → IsGood count (args_come_in params args w)
args_good count [] args w good = good
args_good count (p ∷ params) [] w good = good
args_good count (p ∷ params) (a ∷ args) w good = args_good count params args (comes_into (type_of_param p) a w) (value_good count (type_of_param p) a w good)

receiver_good : (count : ℕ) (contract : ContractId) (b : BodyCode) (receiver : Option ℕ) (w : World) → IsGood count w → IsGood count (receiver_comes_in contract b receiver w)
receiver_good count contract b None w good = good
receiver_good count contract b (Some n) w good = value_good count (Reference contract (perm_of_code b.entry)) (reference n) w good

body_good : (count : ℕ) (contract : ContractId) (b : Option BodyCode) (receiver : Option ℕ) (args : List Value) (w : World) → IsGood count w → IsGood count (comes_into_body contract b receiver args w)
body_good count contract None receiver args w good = good
body_good count contract (Some b) receiver args w good = args_good count b.params args (receiver_comes_in contract b receiver w) (receiver_good count contract b receiver w good)

pub entry_good : (image : Image) (e : MachineEntry) (xs : List Object) (fuel : ℕ) → IsGood (length xs) (entry_world image e xs fuel)
entry_good image e xs fuel =
    body_good (length xs) e.contract (body_code image e.contract e.tx) e.receiver e.args (lock_receiver e.lock e.receiver (first_world xs fuel)) (locked_good (length xs) e.lock e.receiver (first_world xs fuel) (first_good xs fuel))
