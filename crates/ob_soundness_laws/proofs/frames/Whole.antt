-- A step by which the innermost frame changes its own places keeps what is so of the whole.
use Rattle.std.proofs.Common.{◌≡◌, ℕ, ◌+◌, ◌<◌, ◌≤◌, ◌⊎◌, inl, inr, ⊎_elim, true, List, [], ◌∷◌, length, Option, Some, None, slice_get, refl, sym, ap, ◌∙◌, subst, arith}
use Rattle.std.specs.Prelude.{⊤}
use Rattle.std.proofs.lemmas.Bool.{both_ways, cases_Bool, cases_lt}
use Rattle.std.proofs.lemmas.Option.{slice_get_within}
use Rattle.std.proofs.lemmas.List.{length-map}
use Rattle.ob_table.specs.Tables.{ClassTable}
use Rattle.ob_table.specs.declared.seen.Kind.TheVariants.{Reference}
use Rattle.ob_table_spec.specs.WellFormed.{kind_of_resolved}
use Rattle.ob_table_spec.specs.Conditions.{IsClassTable}
use Rattle.ob_heap_spec.specs.Values.{Value, reference}
use Rattle.ob_heap_spec.specs.Objects.{Object}
use Rattle.ob_silica_places.specs.Parameters.{Parameter, parameter_of, all_parameters}
use Rattle.ob_silica_steps.specs.Cells.{Cell, value_in}
use Rattle.ob_silica_steps.specs.Configurations.{SlotCells, How, by_receiver, by_this, by_new, SilicaFrame, Waiting, Control, Configuration}
use Rattle.ob_silica_steps.specs.Here.{Here, self_of}
use Rattle.ob_flow_spec.specs.Contexts.{is_asset}
use Rattle.ob_coherent_spec.specs.Counting.{nth_object, owners}
use Rattle.ob_coherent_spec.specs.Runs.{times, around, entered_at, entered_among, entries, constructing_at, constructing_among, constructions, tests_in, tests_among, open_tests}
use Rattle.ob_coherent_spec.specs.Standing.{NeedsOwner}
use Rattle.ob_coherent_spec.specs.Remaining.{BodyParts}
use Rattle.ob_coherent_spec.specs.Waiting.{IsFrame, tests_of, AllWait}
use Rattle.ob_coherent_spec.specs.Coherent.{Beginning, outermost, BeganSo, Holds}
use Rattle.ob_soundness_laws.specs.frames.Steps.{moved_to, KeepsArgument, LeavesOthers, KeepsWhole}
use Rattle.ob_soundness_laws.proofs.frames.Objects.{ObjectHolds, ObjectsHold, objects_hold}
use Rattle.ob_soundness_laws.proofs.frames.Near.{IsNear, frame_with, each_self, all_near}
use Rattle.ob_soundness_laws.proofs.frames.Entered.{has_entry}

-- Frames.

pub entered_same : (n : ℕ) (how : How) (s t : SlotCells) → self_of t ≡ self_of s
    → entered_at n how t ≡ entered_at n how s
entered_same n by_receiver s t e = rw e refl
entered_same n by_this s t e = refl
entered_same n by_new s t e = refl

pub constructing_same : (n : ℕ) (how : How) (s t : SlotCells) → self_of t ≡ self_of s
    → constructing_at n how t ≡ constructing_at n how s
constructing_same n by_receiver s t e = refl
constructing_same n by_this s t e = refl
constructing_same n by_new s t e = rw e refl

kept_value : (left : ℕ → ℕ) (v : Value) (x y : Option Cell) → ((z : Cell) → x ≡ Some z → KeepsArgument left z y)
    → value_in x ≡ Some v
    → value_in y ≡ Some v
kept_value left v None y keeps e = cc
kept_value left v (Some x) None keeps e = absurd (keeps x refl)
kept_value left v (Some x) (Some y) keeps e = ap Some ((keeps x refl).0) ∙ e

-- the run began as it did, where parameters keep their values
pub began_kept : (table : ClassTable) (objects : List Object) (beginning : Beginning) (f : SilicaFrame)
    (parts : BodyParts)
    (slots : SlotCells) (left : ℕ → ℕ) (hs : List Waiting) → IsFrame table objects f parts
    → ((k : ℕ) (x : Cell) → k ≤ length parts.signature.params → f.slots k ≡ Some x → KeepsArgument left x (slots k))
    → BeganSo table beginning (outermost f hs) → BeganSo table beginning (outermost (frame_with f slots) hs)
began_kept table objects beginning f parts slots left (h ∷ hs) a kept b = b
began_kept table objects beginning f parts slots left [] a kept b = record {
  contract = b.contract;
  tx = b.tx;
  how = b.how;
  within = b.within;
  values = λ k v e. let low = slice_get_within beginning.values k v e in
      let few = b.within parts.own parts.signature a.own a.signature in
      kept_value left v (f.slots (beginning.from + k)) (slots (beginning.from + k))
      (λ x set. kept (beginning.from + k) x (omega arith) set) (b.values k v e);
}

-- fewer objects must have an owner
pub fewer_needs : (table : ClassTable) (c : Configuration) (h : Here) → LeavesOthers c h → (n : ℕ)
    → NeedsOwner table h.world.objects n
    → NeedsOwner table c.world.objects n
fewer_needs table c h others n l = record {
  there = let same = others.count in let below = l.there in omega arith;
  asset = subst (λ id. is_asset table (Reference id) ≡ true) (others.contracts n) l.asset;
  unshared = ⊎_elim (λ e. absurd (both_ways _ l.unshared (others.shared n e))) (λ e. e)
      (cases_Bool (nth_object c.world.objects n).shared);
  kept = ⊎_elim (λ e. absurd (both_ways _ l.kept (others.disowned n e))) (λ e. e)
      (cases_Bool (nth_object c.world.objects n).disowned);
}

either : (a b : ℕ) → 0 < a + b → (0 < a) ⊎ (0 < b)
either a b e = ⊎_elim (λ x. inl x) (λ x. inr (omega arith)) (cases_lt 0 a)

module _ (table : ClassTable) (entry : Option ℕ) (beginning : Beginning) (c : Configuration) (h : Here)
    (control : Control)
    (t : IsClassTable table) (k : Holds table entry beginning c) (m : KeepsWhole table entry c k.parts h control) where
  step_near : IsNear table (self_of c.frame.slots) (λ n. ⊤) (NeedsOwner table c.world.objects)
      (NeedsOwner table h.world.objects) c (moved_to c h control)
  step_near = record {
    count = let e = m.others.count in omega arith;
    contracts = λ n below. m.others.contracts n;
    states = λ n below ne. m.others.states n ne;
    fields = λ n j below ne. m.others.fields n j ne;
    notes = λ n j below ne. m.others.notes n j ne;
    shared = m.others.shared;
    progress = λ n stay has. subst (λ l. 0 < times n l) (sym m.others.progress) has;
    lock_ends = m.lock_ends;
    needs = λ n below need. fewer_needs table c h m.others n need;
    stand = k.fields;
  }

  pub same_entries : (n : ℕ) → entries n (moved_to c h control) ≡ entries n c
  same_entries n = ap (λ x. x + entered_among n c.stack) (entered_same n c.frame.how c.frame.slots h.slots m.this)

  pub same_constructions : (n : ℕ) → constructions n (moved_to c h control) ≡ constructions n c
  same_constructions n = ap (λ x. x + constructing_among n c.stack)
      (constructing_same n c.frame.how c.frame.slots h.slots m.this)

  pub all_objects : ObjectsHold table (moved_to c h control)
  all_objects = objects_hold table entry beginning (self_of c.frame.slots) _ c (moved_to c h control) step_near t k
      m.others.handles
      (λ n ne. ⊎_elim (λ same. inl same) (λ none. inr (none.1 n ne)) m.free)
      (λ n changed below. ⊎_elim (λ e. subst (ObjectHolds table (moved_to c h control)) (sym e) own_object)
      (λ past. absurd (let same = m.others.count in omega arith)) changed)
      (λ n there ne none new. (sym (same_entries n) ∙ none, sym (same_constructions n) ∙ new))
    where
      own_object : ObjectHolds table (moved_to c h control) (self_of c.frame.slots)
      own_object = record {
        stand = m.fields;
        object = m.object;
        declared = λ none new. absurd (
            let has = has_entry table _ c c.frame k.parts _ _ c.stack k.waiting in
            let x = same_entries (self_of c.frame.slots) in let y = same_constructions (self_of c.frame.slots) in
            let z : 0 < entries (self_of c.frame.slots) c + constructions (self_of c.frame.slots) c = has in omega arith);
      }

  pub frame_kept : (y : Option Cell) → h.slots 0 ≡ y
      → KeepsArgument (λ n. owners n (moved_to c h control)) k.frame.this y
      → IsFrame table h.world.objects (frame_with c.frame h.slots) k.parts
  frame_kept None e keeps = absurd keeps
  frame_kept (Some y) e keeps = record {
    own = k.frame.own;
    class = k.frame.class;
    signature = k.frame.signature;
    few = k.frame.few;
    params = k.frame.params;
    this = y;
    set = e;
    refers = keeps.0 ∙ k.frame.refers ∙ ap reference (sym m.this);
    kind = keeps.1 ∙ k.frame.kind;
    there = let below = k.frame.there in let same = m.others.count in let this = m.this in omega arith;
    contract = ap (λ j. (nth_object h.world.objects j).contract) m.this ∙ m.others.contracts (self_of c.frame.slots)
        ∙ k.frame.contract;
    constructor = k.frame.constructor;
    constructs = k.frame.constructs;
    listed = k.frame.listed;
    arguments = λ j p has. let a = k.frame.arguments j p has in
        kept_argument j p a.0 a.2 (h.slots j) refl (m.arguments j a.0 (low j p has) a.1);
    unset = m.unset;
  }
    where
      low : (j : ℕ) (p : Parameter) → slice_get (all_parameters c.frame.contract k.parts.signature) j ≡ Some p
          → j ≤ length k.parts.signature.params
      low j p has = let below = slice_get_within (all_parameters c.frame.contract k.parts.signature) j p has in
          let same = length-map k.parts.signature.params parameter_of in omega arith

      kept_argument : (j : ℕ) (p : Parameter) (x : Cell) → x.note.kind ≡ kind_of_resolved p.of → (z : Option Cell)
          → h.slots j ≡ z
          → KeepsArgument (λ n. owners n (moved_to c h control)) x z → (w : Cell) × (h.slots j ≡ Some w)
          × (w.note.kind ≡ kind_of_resolved p.of)
      kept_argument j p x kind None set keeps = absurd keeps
      kept_argument j p x kind (Some z) set keeps = (z, set, keeps.1 ∙ kind)

  pub all_wait : AllWait table (NeedsOwner table h.world.objects) (moved_to c h control)
      (frame_with c.frame h.slots) k.parts (self_of h.slots ∷ [])
      (λ n. tests_of n h.slots (around control)) c.stack
  all_wait = subst (λ j. AllWait table (NeedsOwner table h.world.objects) (moved_to c h control)
      (frame_with c.frame h.slots) k.parts (j ∷ [])
      (λ n. tests_of n h.slots (around control)) c.stack) (sym m.this)
      (all_near table _ _ _ _ c (moved_to c h control) step_near c.frame k.parts h.slots
      (self_of c.frame.slots ∷ []) _ _ c.stack m.this m.arguments
      k.slots (inl refl) (λ n below. m.balanced n) (⊎_elim (λ same. inl same) (λ none. inr none.0) m.free)
      (each_self (λ n. ⊤) (λ n. tt) c.stack) k.waiting)

  pub tests_in_progress : (n : ℕ) → 0 < open_tests n (moved_to c h control) → 0 < times n h.world.progress
  tests_in_progress n has = subst (λ l. 0 < times n l) (sym m.others.progress)
      (⊎_elim (λ own. m.tested n own) (λ other. k.tested n (omega arith))
      (either (tests_in n h.slots (around control)) (tests_among n c.stack) has))

  -- What is so of the whole is so after the step; the frame still runs the same body.
  abbrev pub whole_kept : Holds table entry beginning (moved_to c h control)
  whole_kept = record {
    one_owner = m.one_owner;
    disowned = m.disowned;
    shared = m.shared;
    tested = tests_in_progress;
    assets = m.assets;
    slots = m.slots;
    fields = all_objects.fields;
    handles = all_objects.handles;
    objects = all_objects.objects;
    declared = all_objects.declared;
    progress = λ n. same_entries n ∙ k.progress n ∙ ap (times n) (sym m.others.progress);
    entered_once = λ n. let same = same_entries n in let once = k.entered_once n in omega arith;
    locked = m.locked;
    locked_once = m.locked_once;
    parts = k.parts;
    frame = frame_kept (h.slots 0) refl (m.arguments 0 k.frame.this (omega arith) k.frame.set);
    waiting = all_wait;
    began = began_kept table c.world.objects beginning c.frame k.parts h.slots
        (λ n. owners n (moved_to c h control)) c.stack k.frame m.arguments k.began;
  }
