-- Frames that wait go on waiting where one object changes, with the frames above it that work on it.
use Rattle.std.proofs.Common.{◌≡◌, ◌≢◌, ℕ, ◌+◌, ◌<◌, ◌≤◌, ◌⊎◌, inl, inr, ⊎_elim, Bool, true, false, List, [], ◌∷◌, length, Option, Some, None, option_map, slice_get, refl, sym, ap, ◌∙◌, subst, arith}
use Rattle.std.specs.Option.{option_and_then}
use Rattle.std.specs.Prelude.{⊤}
use Rattle.std.proofs.lemmas.Bool.{both_ways, or_right, not_from_true, cases_lt}
use Rattle.std.proofs.lemmas.Bool.Decides.{eqb_tells}
use Rattle.std.proofs.lemmas.List.{length-map}
use Rattle.std.proofs.lemmas.Option.{slice_get_within}
use Rattle.ob_base.specs.Limits.{most_slots}
use Rattle.ob_perm.specs.States.{States}
use Rattle.ob_perm.specs.Permissions.{owns}
use Rattle.ob_table.specs.Tables.{ClassTable}
use Rattle.ob_table.specs.declared.seen.Kind.{Kind}
use Rattle.ob_table.specs.declared.seen.Kind.TheVariants.{Int, Bool as BoolKind, Text, Reference}
use Rattle.ob_table_spec.specs.WellFormed.{serves_as}
use Rattle.ob_heap_spec.specs.Values.{Value, int_value, bool_value, text_value, reference}
use Rattle.ob_heap_spec.specs.Objects.{state_number}
use Rattle.ob_silica_places.specs.Known.{Known}
use Rattle.ob_silica_places.specs.Places.{Location, slot, field}
use Rattle.ob_silica_places.specs.Parameters.{parameter_of, all_parameters}
use Rattle.ob_silica_steps.specs.Cells.{Cell}
use Rattle.ob_silica_steps.specs.Configurations.{SlotCells, How, by_receiver, by_this, by_new, SilicaFrame, Ends, plain_end, test_end, lock_end, loop_end, Rest, Loan, Waiting, Configuration}
use Rattle.ob_silica_steps.specs.Here.{self_of, read, field_value}
use Rattle.ob_flow_spec.specs.Contexts.{BodyFrame, available, Context, is_field}
use Rattle.ob_coherent_spec.specs.Counting.{nth_object, field_cell, in_cell, in_slots, in_waiting, owners}
use Rattle.ob_coherent_spec.specs.Runs.{times}
use Rattle.ob_coherent_spec.specs.Standing.{Stands, IsOfKind, RefersToShared, RefersToIn, AllStand}
use Rattle.ob_coherent_spec.specs.Saying.{SaysOf, Says}
use Rattle.ob_coherent_spec.specs.Remaining.{BodyParts, body_of}
use Rattle.ob_coherent_spec.specs.OpenTests.{IsTestOf, IsOpen, AreOpen, EndsNoField, TestNoField}
use Rattle.ob_coherent_spec.specs.Waiting.{IsFrame, tests_of, SharesThis, is_lent, is_result, is_on_this, is_settled, waiting_here, IsLoan, AreLoans, LendNoField, IsNotAmong, IsApart, gives_back_by, AwaitsResult, Waits, AllWait}
use Rattle.ob_soundness_laws.specs.frames.Steps.{KeepsArgument}
use Rattle.ob_soundness_laws.proofs.counting.Sums.{terms_zero}
use Rattle.ob_soundness_laws.proofs.counting.Objects.{object_there}
use Rattle.ob_soundness_laws.proofs.frames.Cells.{same_field_value, same_seen, same_has_state, owns_counted, owned_there, reference_there, says_less}

-- Two configurations that differ in one object that there was, in new ones, and in what the frames above have. Fewer
-- objects that there were must have an owner; marks stay, and transactions in progress of the objects of which this is
-- so; where a lock ends no place owns the object.
pub record IsNear (table : ClassTable) (i : ℕ) (stays : ℕ → Type 0) (N M : ℕ → Type 0)
    (c d : Configuration) : Type 0 where
  pub count : length c.world.objects ≤ length d.world.objects
  pub contracts : (n : ℕ) → n < length c.world.objects
      → (nth_object d.world.objects n).contract ≡ (nth_object c.world.objects n).contract
  pub states : (n : ℕ) → n < length c.world.objects → n ≢ i
      → (nth_object d.world.objects n).state ≡ (nth_object c.world.objects n).state
  pub fields : (n k : ℕ) → n < length c.world.objects → n ≢ i
      → (nth_object d.world.objects n).fields k ≡ (nth_object c.world.objects n).fields k
  pub notes : (n k : ℕ) → n < length c.world.objects → n ≢ i → d.notes.fields n k ≡ c.notes.fields n k
  pub shared : (n : ℕ) → (nth_object c.world.objects n).shared ≡ true → (nth_object d.world.objects n).shared ≡ true
  pub progress : (n : ℕ) → stays n → 0 < times n c.world.progress → 0 < times n d.world.progress
  pub lock_ends : (n : ℕ) → 0 < times n c.world.locked → (0 < times n d.world.locked) ⊎ (owners n d ≡ 0)
  pub needs : (n : ℕ) → n < length c.world.objects → M n → N n
  pub stand : (n : ℕ) → AllStand table c.world.objects (field_cell c.notes c.world.objects n)

-- the same frame with other slots
abbrev pub frame_with : SilicaFrame → SlotCells → SilicaFrame
frame_with f slots = record f { slots = slots }

-- a number is among others
abbrev pub IsAmong : ℕ → List ℕ → Type 0
IsAmong n [] = ⊥
IsAmong n (m ∷ ms) = (n ≡ m) ⊎ IsAmong n ms

-- The state of the object that changes stays, or none of the frames that wait owns it.
abbrev pub IsFree : ℕ → Configuration → Configuration → List Waiting → Type 0
IsFree i c d hs = ((nth_object d.world.objects i).state ≡ (nth_object c.world.objects i).state)
    ⊎ (in_waiting owns i hs ≡ 0)

-- this is so of the object of each frame that waits
abbrev pub EachSelf : (ℕ → Type 0) → List Waiting → Type 0
EachSelf P [] = ⊤
EachSelf P (h ∷ hs) = P (self_of h.frame.slots) × EachSelf P hs

-- it is so where it is so of every number
pub each_self : (P : ℕ → Type 0) → ((n : ℕ) → P n) → (hs : List Waiting) → EachSelf P hs
each_self P all [] = tt
each_self P all (h ∷ hs) = (all (self_of h.frame.slots), each_self P all hs)

-- parameters keep their values
abbrev pub KeepsArguments : BodyParts → Configuration → SlotCells → SlotCells → Type 0
KeepsArguments parts d before after = (k : ℕ) (x : Cell) → k ≤ length parts.signature.params → before k ≡ Some x
    → KeepsArgument (λ n. owners n d) x (after k)

differ : (n i : ℕ) (ms : List ℕ) → IsNotAmong n ms → IsAmong i ms → n ≢ i
differ n i [] a h = absurd h
differ n i (m ∷ ms) a (inl e) = λ z. a.0 (z ∙ e)
differ n i (m ∷ ms) a (inr h) = differ n i ms a.1 h

-- the object of a frame that waits isn't the one that changes, unless the callee is one of a call on `this`
pub others : (how : How) (n m i : ℕ) (above : List ℕ) → IsApart how n above m → IsAmong i above
    → (how ≡ by_this → ⊥) → n ≢ i
others by_this n m i above a h ne = absurd (ne refl)
others by_receiver n m i above a h ne = differ n i above a h
others by_new n m i above a h ne = differ n i above a h

-- a field that is settled isn't one of a called `this`
unsettled : (how : How) (h : Waiting) (f : ℕ) → is_settled how h (field f) ≡ true → how ≡ by_this → ⊥
unsettled how h f e called = both_ways _
    (not_from_true _ (or_right (is_lent h.loans (field f)) _
    (or_right (is_result h.result (field f)) _ (rw called refl)))) e

pub on_this : (how : How) → (how ≡ by_this) ⊎ (how ≡ by_this → ⊥)
on_this by_this = inl refl
on_this by_receiver = inr (λ e. cc)
on_this by_new = inr (λ e. cc)

-- a slot that stays keeps its value
pub keeps_itself : (left : ℕ → ℕ) (x : Cell) (y : Option Cell) → y ≡ Some x → KeepsArgument left x y
keeps_itself left x y e = subst (KeepsArgument left x) (sym e) (refl, refl, λ held. inl held)

-- what a frame gives back doesn't depend on its slots
same_gift : (how : How) (f : SilicaFrame) (slots : SlotCells) (parts : BodyParts)
    → gives_back_by how (frame_with f slots) parts ≡ gives_back_by how f parts
same_gift by_receiver f slots parts = refl
same_gift by_this f slots parts = refl
same_gift by_new f slots parts = refl

module _ (table : ClassTable) (i : ℕ) (stays : ℕ → Type 0) (N M : ℕ → Type 0) (c d : Configuration)
    (near : IsNear table i stays N M c d) where
  pub kind_near : (kind : Kind) (v : Value) → IsOfKind table c.world.objects kind v
      → IsOfKind table d.world.objects kind v
  kind_near Int (int_value z) e = e
  kind_near BoolKind (bool_value b) e = e
  kind_near Text (text_value s) e = e
  kind_near (Reference id) (reference n) (below, serves) = (
    let more = near.count in omega arith,
    ap (λ e. serves_as table (Reference id) (Reference e))
        (near.contracts n below) ∙ serves,
  )
  kind_near kind v e = absurd e

  marked_near : (v : Value) → RefersToShared c.world.objects v → RefersToShared d.world.objects v
  marked_near (reference n) e = near.shared n e
  marked_near (int_value z) e = absurd e
  marked_near (bool_value z) e = absurd e
  marked_near (text_value z) e = absurd e

  pub state_near : (n : ℕ) → n < length c.world.objects
      → (n ≡ i → (nth_object d.world.objects i).state ≡ (nth_object c.world.objects i).state)
      → (nth_object d.world.objects n).state ≡ (nth_object c.world.objects n).state
  state_near n below same = ⊎_elim
      (λ t. subst (λ m. (nth_object d.world.objects m).state ≡ (nth_object c.world.objects m).state) (sym t.1)
      (same t.1))
      (λ t. near.states n below t.1)
      (eqb_tells n i)

  in_near : (kind : Kind) (v : Value) (a : States) → IsOfKind table c.world.objects kind v
      → (v ≡ reference i → (nth_object d.world.objects i).state ≡ (nth_object c.world.objects i).state)
      → RefersToIn table c.world.objects kind a v → RefersToIn table d.world.objects kind a v
  in_near (Reference id) (reference n) a of same e =
      ap a (same_seen table id (nth_object c.world.objects n) (nth_object d.world.objects n) (near.contracts n of.0)
      (state_near n of.0 (λ z. same (ap reference z)))) ∙ e
  in_near Int (reference n) a of same e = absurd of
  in_near BoolKind (reference n) a of same e = absurd of
  in_near Text (reference n) a of same e = absurd of
  in_near kind (int_value z) a of same e = absurd e
  in_near kind (bool_value z) a of same e = absurd e
  in_near kind (text_value z) a of same e = absurd e

  -- what stands of a cell stands on, unless it owns the object whose state changes
  pub stands_near : (x : Cell)
      → ((nth_object d.world.objects i).state ≡ (nth_object c.world.objects i).state) ⊎ (in_cell owns i (Some x) ≡ 0)
      → Stands table c.world.objects x → Stands table d.world.objects x
  stands_near x free s = record {
    kind = kind_near x.note.kind x.value s.kind;
    marked = λ e. marked_near x.value (s.marked e);
    states = λ a e. in_near x.note.kind x.value a s.kind
        (λ refers. ⊎_elim (λ same. same)
        (λ none. absurd (let one = owns_counted i x a e refers in omega arith)) free)
        (s.states a e);
  }

  pub all_stand_near : (slots : SlotCells) (bound : ℕ) → bound ≤ most_slots → ((k : ℕ) → bound ≤ k → slots k ≡ None)
      → ((nth_object d.world.objects i).state ≡ (nth_object c.world.objects i).state) ⊎ (in_slots owns i slots ≡ 0)
      → AllStand table c.world.objects slots → AllStand table d.world.objects slots
  all_stand_near slots bound few unset free a k x e = stands_near x
      (⊎_elim (λ same. inl same)
      (λ none. inr (subst (λ y. in_cell owns i y ≡ 0) e
      (terms_zero most_slots (λ j. in_cell owns i (slots j)) none k inside)))
      free)
      (a k x e)
    where
      inside : k < most_slots
      inside = ⊎_elim (λ below. omega arith) (λ past. absurd (let z = unset k past in cc)) (cases_lt k bound)

  needs_in : (x : Option Cell) → ((z : Cell) → x ≡ Some z → Stands table c.world.objects z) → (n : ℕ)
      → 0 < in_cell owns n x → M n → N n
  needs_in None stands n has m = absurd (omega arith)
  needs_in (Some z) stands n has m = near.needs n (owned_there table c.world.objects z n (stands z refl) has) m

  -- a field of an object that doesn't change
  pub field_near : (n k : ℕ) → n < length c.world.objects → n ≢ i
      → field_cell d.notes d.world.objects n k ≡ field_cell c.notes c.world.objects n k
  field_near n k below ne = rw (near.fields n k below ne, near.notes n k below ne) refl

  -- what a context says of such a field
  pub says_field_near : (y : Option Known) (n k : ℕ) → n < length c.world.objects → n ≢ i
      → SaysOf N y (field_cell c.notes c.world.objects n k) → SaysOf M y (field_cell d.notes d.world.objects n k)
  says_field_near y n k below ne s = subst (SaysOf M y) (sym (field_near n k below ne))
      (says_less N M y _ (needs_in (field_cell c.notes c.world.objects n k) (near.stand n k)) s)

  pub says_near : (b : BodyFrame) (g : Context) (h : Waiting) (free : Location → Bool)
      → self_of h.frame.slots < length c.world.objects
      → ((f : ℕ) → free (field f) ≡ true → self_of h.frame.slots ≢ i) → AllStand table c.world.objects h.frame.slots
      → Says b N g (waiting_here c.notes c.world h) free → Says b M g (waiting_here d.notes d.world h) free
  says_near b g h free below far stand y = record {
    slots = λ k e. says_less N M (g (slot k)) (h.frame.slots k) (needs_in (h.frame.slots k) (stand k)) (y.slots k e);
    fields = λ k a e. says_field_near (g (field k)) (self_of h.frame.slots) k below (far k e) (y.fields k
        (ap (λ s. available b k (state_number s)) (sym (near.states (self_of h.frame.slots) below (far k e))) ∙ a) e);
    mode = y.mode;
  }

  pub read_near : (h : Waiting) (p : Location) → self_of h.frame.slots < length c.world.objects
      → (is_field p ≡ true → self_of h.frame.slots ≢ i)
      → read table (waiting_here d.notes d.world h) p ≡ read table (waiting_here c.notes c.world h) p
  read_near h (slot k) below far = refl
  read_near h (field k) below far = let ne = far refl in let n = self_of h.frame.slots in
      let same = same_field_value table (nth_object c.world.objects n) (nth_object d.world.objects n) k
      (near.contracts n below) (near.states n below ne) (near.fields n k below ne) in
      ap (λ x. option_map (λ v. record { value = v; note = d.notes.fields n k })
      (option_and_then (λ o. field_value table o k) x))
      (object_there d.world.objects n (let more = near.count in omega arith))
      ∙ ap (λ x. option_map (λ v. record { value = v; note = d.notes.fields n k }) x) same
      ∙ ap (λ note. option_map (λ v. record { value = v; note = note })
      (field_value table (nth_object c.world.objects n) k)) (near.notes n k below ne)
      ∙ sym (ap (λ x. option_map (λ v. record { value = v; note = c.notes.fields n k })
      (option_and_then (λ o. field_value table o k) x))
      (object_there c.world.objects n below))

  -- Tests.

  open_near : (b : BodyFrame) (h : Waiting) (p : Location) (n : ℕ) → b.table ≡ table
      → self_of h.frame.slots < length c.world.objects
      → (self_of h.frame.slots ≢ i) ⊎ (is_field p ≡ false)
      → IsTestOf b (waiting_here c.notes c.world h) p n → IsTestOf b (waiting_here d.notes d.world h) p n
  open_near b h p n same below far a = record {
    inside = a.inside;
    cell = a.cell;
    found = subst (λ t. read t (waiting_here d.notes d.world h) p ≡ Some a.cell) (sym same)
        (read_near h p below (λ e. ⊎_elim (λ ne. ne) (λ z. absurd (both_ways _ z e)) far)
        ∙ subst (λ t. read t (waiting_here c.notes c.world h) p ≡ Some a.cell) same a.found);
    object = a.object;
  }

  ends_near : (b : BodyFrame) (h : Waiting) (e : Ends) → b.table ≡ table
      → self_of h.frame.slots < length c.world.objects
      → (self_of h.frame.slots ≢ i) ⊎ EndsNoField e
      → IsOpen b (waiting_here c.notes c.world h) e → IsOpen b (waiting_here d.notes d.world h) e
  ends_near b h plain_end same below far a = tt
  ends_near b h (test_end p) same below far a = (a.0, open_near b h p _ same below far a.1, near.shared _ a.2)
  ends_near b h (lock_end p n) same below far a = (a.0, open_near b h p n same below far a.1, near.shared n a.2)
  ends_near b h (loop_end first x body end) same below far a = tt

  pub opens_near : (b : BodyFrame) (h : Waiting) (outer : List Rest) → b.table ≡ table
      → self_of h.frame.slots < length c.world.objects
      → (self_of h.frame.slots ≢ i) ⊎ TestNoField outer
      → AreOpen b (waiting_here c.notes c.world h) outer → AreOpen b (waiting_here d.notes d.world h) outer
  opens_near b h [] same below far a = tt
  opens_near b h (r ∷ outer) same below far a = (
    ends_near b h r.ends same below (⊎_elim (λ ne. inl ne) (λ none. inr none.0) far) a.0,
    a.1,
    opens_near b h outer same below (⊎_elim (λ ne. inl ne) (λ none. inr none.1) far) a.2,
  )

  -- Loans.

  -- tests begin for each owner that an object gains
  IsBalanced : (ℕ → ℕ) → (ℕ → ℕ) → Type 0
  IsBalanced tests more = (n : ℕ) → n < length c.world.objects → owners n d + tests n ≤ owners n c + more n

  module _ (callee : SilicaFrame) (called : BodyParts) (slots : SlotCells) (tests more : ℕ → ℕ)
      (kept : KeepsArguments called d callee.slots slots) (stand : AllStand table c.world.objects callee.slots)
      (balanced : (n : ℕ) → n < length c.world.objects → owners n d + tests n ≤ owners n c + more n) where
    kept_loan : (h : Waiting) (g : Context) (l : Loan)
        → read table (waiting_here d.notes d.world h) l.place ≡ read table (waiting_here c.notes c.world h) l.place
        → (a : IsLoan table c callee called tests (waiting_here c.notes c.world h) g l)
        → (y : Option Cell) → slots l.param ≡ y → KeepsArgument (λ n. owners n d) a.given y
        → IsLoan table d (frame_with callee slots) called more (waiting_here d.notes d.world h) g l
    kept_loan h g l same a None e keeps = absurd keeps
    kept_loan h g l same a (Some y) e keeps = record {
      cell = a.cell;
      place = same ∙ a.place;
      lent = a.lent;
      parameter = a.parameter;
      param = a.param;
      given = y;
      found = e;
      same = keeps.0 ∙ a.same;
      serves = a.serves;
      kind = a.kind;
      exit = a.exit;
      gone = λ n refers held. ⊎_elim
          (λ was. let x = a.gone n (sym keeps.0 ∙ refers) was in
          let less = balanced n (reference_there table c.world.objects a.given.note.kind a.given.value n
          (stand l.param a.given a.found).kind (sym keeps.0 ∙ refers)) in omega arith)
          (λ left. let none = left n (sym keeps.0 ∙ refers) in omega arith)
          (keeps.2 held);
    }

    low_param : (l : Loan) (p : _) → slice_get (all_parameters callee.contract called.signature) l.param ≡ Some p
        → l.param ≤ length called.signature.params
    low_param l p e = let below = slice_get_within (all_parameters callee.contract called.signature) l.param p e in
        let same = length-map called.signature.params parameter_of in omega arith

    loans_near : (h : Waiting) (g : Context) (ls : List Loan) → self_of h.frame.slots < length c.world.objects
        → ((l : Loan) → is_field l.place ≡ true → self_of h.frame.slots ≢ i) ⊎ LendNoField ls
        → AreLoans table c callee called tests (waiting_here c.notes c.world h) g ls
        → AreLoans table d (frame_with callee slots) called more (waiting_here d.notes d.world h) g ls
    loans_near h g [] below far a = tt
    loans_near h g (l ∷ ls) below far a = (
      kept_loan h g l (read_near h l.place below (is_far far)) a.0 (slots l.param) refl
          (kept l.param a.0.given (low_param l a.0.parameter a.0.param) a.0.found),
      a.1,
      a.2,
      loans_near h g ls below (⊎_elim (λ ne. inl ne) (λ none. inr none.1) far) a.3,
    )
      where
        is_far : ((l : Loan) → is_field l.place ≡ true → self_of h.frame.slots ≢ i) ⊎ LendNoField (l ∷ ls)
            → is_field l.place ≡ true → self_of h.frame.slots ≢ i
        is_far (inl f) = f l
        is_far (inr none) = λ e. absurd (both_ways _ none.0 e)

  -- Frames.

  pub shares_near : (f : SilicaFrame) (above more : ℕ) → self_of f.slots < length c.world.objects
      → owners (self_of f.slots) d + above ≤ owners (self_of f.slots) c + more → stays (self_of f.slots)
      → SharesThis f c above → SharesThis f d more
  shares_near f above more below balanced still_on a e = let y = a e in (
    near.progress (self_of f.slots) still_on y.0,
    ⊎_elim (λ few. inl (omega arith))
        (λ z. ⊎_elim (λ still. inr (z.0, still)) (λ none. inl (omega arith)) (near.lock_ends (self_of f.slots) z.1))
        y.1,
  )

  -- a frame of which nothing changes
  pub frame_near : (f : SilicaFrame) (parts : BodyParts) → IsFrame table c.world.objects f parts
      → IsFrame table d.world.objects f parts
  frame_near f parts a = record {
    own = a.own;
    class = a.class;
    signature = a.signature;
    few = a.few;
    params = a.params;
    this = a.this;
    set = a.set;
    refers = a.refers;
    kind = a.kind;
    there = let more = near.count in let was = a.there in omega arith;
    contract = near.contracts (self_of f.slots) a.there ∙ a.contract;
    constructor = a.constructor;
    constructs = a.constructs;
    listed = a.listed;
    arguments = a.arguments;
    unset = a.unset;
  }

  far_loans : (how : How) (n m : ℕ) (above : List ℕ) (ls : List Loan) → IsApart how n above m → IsAmong i above
      → (how ≡ by_this → LendNoField ls) → ((l : Loan) → is_field l.place ≡ true → n ≢ i) ⊎ LendNoField ls
  far_loans how n m above ls apart inside none = ⊎_elim
      (λ e. inr (none e)) (λ ne. inl (λ l e. others how n m i above apart inside ne)) (on_this how)

  pub apart_near : (how : How) (n m k : ℕ) (above wide : List ℕ) → k ≡ m → (IsNotAmong n above → IsNotAmong n wide)
      → IsApart how n above m → IsApart how n wide k
  apart_near by_this n m k above wide same apart a = a ∙ sym same
  apart_near by_receiver n m k above wide same apart a = apart a
  apart_near by_new n m k above wide same apart a = apart a

  pub waits_near : (callee : SilicaFrame) (called : BodyParts) (slots : SlotCells) (above wide : List ℕ)
      (tests more : ℕ → ℕ)
      (h : Waiting)
      → self_of slots ≡ self_of callee.slots → KeepsArguments called d callee.slots slots
      → AllStand table c.world.objects callee.slots → IsAmong i above
      → ((n : ℕ) → n < length c.world.objects → owners n d + tests n ≤ owners n c + more n)
      → ((nth_object d.world.objects i).state ≡ (nth_object c.world.objects i).state)
      ⊎ (in_slots owns i h.frame.slots ≡ 0)
      → stays (self_of h.frame.slots)
      → (IsNotAmong (self_of h.frame.slots) above → IsNotAmong (self_of h.frame.slots) wide)
      → Waits table N c callee called above tests h → Waits table M d (frame_with callee slots) called wide more h
  waits_near callee called slots above wide tests more h same kept stand inside balanced free still_on apart w =
      record {
        parts = w.parts;
        context = w.context;
        holdings = w.holdings;
        frame = frame_near h.frame w.parts w.frame;
        owns_made = w.owns_made;
        cells = all_stand_near h.frame.slots w.parts.slots w.frame.few w.frame.unset free w.cells;
        says = says_near (body_of table h.frame w.parts) w.context h (is_settled callee.how h) w.frame.there
            (λ k e. others callee.how _ _ i above w.apart inside (unsettled callee.how h k e)) w.cells w.says;
        held = w.held;
        result_held = λ k of e gift. w.result_held k of e (sym (same_gift callee.how callee slots called) ∙ gift);
        remains = w.remains;
        opens = opens_near (body_of table h.frame w.parts) h h.outer refl w.frame.there
            (⊎_elim (λ e. inr (w.open_slots e)) (λ ne. inl (others callee.how _ _ i above w.apart inside ne))
            (on_this callee.how))
            w.opens;
        open_slots = w.open_slots;
        loans = loans_near callee called slots tests more kept stand balanced h w.context h.loans w.frame.there
            (far_loans callee.how _ _ above h.loans w.apart inside w.lent_slots) w.loans;
        lent_slots = w.lent_slots;
        placed = λ other made. same_has_state table (nth_object c.world.objects (self_of h.frame.slots))
            (nth_object d.world.objects (self_of h.frame.slots)) (near.contracts _ w.frame.there)
            (near.states _ w.frame.there (others callee.how _ _ i above w.apart inside
            (λ e. let t : is_on_this callee.how ≡ true = rw e refl in both_ways _ other t)))
            (w.placed other made);
        apart = apart_near callee.how (self_of h.frame.slots) _ _ above wide same apart w.apart;
        back = w.back;
        no_constructor = w.no_constructor;
        result = subst (AwaitsResult (body_of table h.frame w.parts) w.context h h.result)
            (sym (same_gift callee.how callee slots called)) w.result;
        shares = shares_near h.frame _ _ w.frame.there (balanced _ w.frame.there) still_on w.shares;
        share_entered = w.share_entered;
      }

  -- All frames that wait go on waiting, where the frame above them has other slots that keep the parameters, and where
  -- each of their objects, if it is none of those above, is none of those above then.
  pub all_near_under : (callee : SilicaFrame) (called : BodyParts) (slots : SlotCells) (above wide : List ℕ)
      (tests more : ℕ → ℕ)
      (hs : List Waiting) → self_of slots ≡ self_of callee.slots → KeepsArguments called d callee.slots slots
      → AllStand table c.world.objects callee.slots → IsAmong i above
      → ((n : ℕ) → n < length c.world.objects → owners n d + tests n ≤ owners n c + more n) → IsFree i c d hs
      → EachSelf stays hs → ((n : ℕ) → stays n → IsNotAmong n above → IsNotAmong n wide)
      → AllWait table N c callee called above tests hs → AllWait table M d (frame_with callee slots) called wide more hs
  unfolding waits_near
  all_near_under callee called slots above wide tests more [] same kept stand inside balanced free on apart w = w
  all_near_under callee called slots above wide tests more (h ∷ hs) same kept stand inside balanced free on apart
      (w, ws) = (
        waits_near callee called slots above wide tests more h same kept stand inside balanced
            (⊎_elim (λ e. inl e) (λ none. inr (omega arith)) free) on.0 (apart (self_of h.frame.slots) on.0) w,
        all_near_under h.frame w.parts h.frame.slots (self_of h.frame.slots ∷ above) (self_of h.frame.slots ∷ wide)
            (λ n. tests_of n h.frame.slots h.outer + tests n) (λ n. tests_of n h.frame.slots h.outer + more n) hs refl
            (λ k x le e. keeps_itself (λ n. owners n d) x (h.frame.slots k) e) w.cells (inr inside)
            (λ n below. let less = balanced n below in omega arith)
            (⊎_elim (λ e. inl e) (λ none. inr (omega arith)) free) on.1
            (λ n stay a. (a.0, apart n stay a.1)) ws,
      )

  -- the same, where the objects above are those that they were
  pub all_near : (callee : SilicaFrame) (called : BodyParts) (slots : SlotCells) (above : List ℕ) (tests more : ℕ → ℕ)
      (hs : List Waiting) → self_of slots ≡ self_of callee.slots → KeepsArguments called d callee.slots slots
      → AllStand table c.world.objects callee.slots → IsAmong i above
      → ((n : ℕ) → n < length c.world.objects → owners n d + tests n ≤ owners n c + more n) → IsFree i c d hs
      → EachSelf stays hs
      → AllWait table N c callee called above tests hs
      → AllWait table M d (frame_with callee slots) called above more hs
  all_near callee called slots above tests more hs same kept stand inside balanced free on w =
      all_near_under callee called slots above above tests more hs same kept stand inside balanced free on
      (λ n stay a. a) w
