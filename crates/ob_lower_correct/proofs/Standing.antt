-- What a frame of the meaning and one of the steps have to do with one another.
use Rattle.std.proofs.Common.{◌≡◌, ◌≢◌, ℕ, ◌≤◌, Bool, List, Option, Some, None, refl, sym, ap, ◌∙◌, eq-eqb, true≢false, arith}
use Rattle.std.proofs.lemmas.Bool.{ne_eqb}
use Rattle.std.specs.Prelude.{option_map, unwrap_or, is_some}
use Rattle.ob_base.specs.declared.id.ContractId.{ContractId}
use Rattle.ob_base.specs.declared.id.TxId.{TxId}
use Rattle.ob_table.specs.Tables.{ClassTable}
use Rattle.ob_table.specs.declared.contract.Contract.{Contract}
use Rattle.ob_table.specs.declared.contract.Signature.{Signature}
use Rattle.ob_table.specs.declared.seen.Kind.{Kind}
use Rattle.ob_table.specs.declared.seen.Kind.TheVariants.{Reference}
use Rattle.ob_table_spec.specs.WellFormed as made
use Rattle.ob_heap_spec.specs.Values.{Value, reference, referred}
use Rattle.ob_heap_spec.specs.Objects.{Object}
use Rattle.ob_heap_spec.specs.Contents.{object_at}
use Rattle.ob_heap_spec.specs.Worlds.{World, RunOutcome, ◌>>=◌}
use Rattle.ob_source_meaning.specs.Frames as meaning
use Rattle.ob_silica_steps.specs.Cells.{Cell, value_in, object_in}
use Rattle.ob_silica_steps.specs.Configurations.{SilicaProgram, SlotCells, How, Waiting, Control, Notes, Configuration, goes}
use Rattle.ob_silica_steps.specs.Here.{Here, self_of}
use Rattle.ob_silica_places.specs.Known.{at}
pub use Rattle.ob_lower_correct.specs.Bodies.{shape, Noted}
use Rattle.ob_lower_correct.proofs.Slots.{Used, Within}
use Rattle.ob_lower_correct.proofs.Runs.{Leads, leads_on, Ends, ends_then, ends_later, ends_map}

-- what stays of a frame while its body runs, on both sides
pub record Setting : Type 0 where
  pub this : ℕ
  pub here : ContractId
  pub own : Contract
  pub tx : TxId
  pub signature : Signature
  pub how : How
  pub share_entered : Bool
  pub stack : List Waiting

-- the frame of the meaning
abbrev pub frame_in : ClassTable → Setting → meaning.SourceFrame
frame_in table s = record { table = table; this = s.this; here = s.here; own = s.own; share_entered = s.share_entered }

-- the frame of the conditions
abbrev pub made_in : ClassTable → Setting → made.StaticFrame
made_in table s = made.frame_of table s.here s.own s.signature

-- the configuration with this to work on and this to do
abbrev pub config : Setting → Here → Control → Configuration
config s h control = record {
  frame = record { slots = h.slots; contract = s.here; tx = s.tx; how = s.how; share_entered = s.share_entered };
  control = control;
  stack = s.stack;
  notes = h.notes;
  world = h.world;
}

-- slots in use have the same values and kinds
pub record Kept (used : List ℕ) (s t : SlotCells) : Type 0 where
  pub by : (n : ℕ) → Used n used → shape (t n) ≡ shape (s n)

-- objects stay, and keep their contracts, and no unit comes back
pub record Later (w v : World) : Type 0 where
  pub by : (n : ℕ) (o : Object) → object_at w.objects n ≡ Some o
      → (p : Object) × (object_at v.objects n ≡ Some p) × (p.contract ≡ o.contract)
  pub fuel : v.fuel ≤ w.fuel

-- a frame stands so in a configuration
pub record Stands (table : ClassTable) (most : ℕ) (s : Setting) (h : Here) : Type 0 where
  pub this : shape (h.slots 0) ≡ Some (reference s.this, Reference s.here)
  pub object : (o : Object) × (object_at h.world.objects s.this ≡ Some o) × (o.contract ≡ s.here)
  pub noted : Noted table h.notes h.world.objects
  pub fuel : h.world.fuel ≤ most

-- from one place of a run to a later one
pub record Comes (table : ClassTable) (most : ℕ) (used : List ℕ) (h t : Here) : Type 0 where
  pub kept : Kept used h.slots t.slots
  pub later : Later h.world t.world
  pub noted : Noted table t.notes t.world.objects
  pub fuel : t.world.fuel ≤ most

pub later_self : (w : World) → Later w w
later_self w = record { by = λ n o e. (o, e, refl); fuel = omega arith }

pub later_on : {w v u : World} → Later w v → Later v u → Later w u
later_on a b = record { by = λ n o e. let x = a.by n o e in let y = b.by n x.0 x.1 in (y.0, y.1, y.2 ∙ x.2); fuel = omega (arith, a.fuel, b.fuel) }

pub kept_self : (used : List ℕ) (s : SlotCells) → Kept used s s
kept_self used s = record { by = λ n u. refl }

pub kept_on : {used : List ℕ} {s t r : SlotCells} → Kept used s t → Kept used t r → Kept used s r
kept_on a b = record { by = λ n u. b.by n u ∙ a.by n u }

pub kept_fewer : {some all : List ℕ} {s t : SlotCells} → Within some all → Kept all s t → Kept some s t
kept_fewer a k = record { by = λ n u. k.by n (a.by n u) }

pub at_same : {A : Type 0} (xs : ℕ → A) (k : ℕ) (x : A) → at xs k x k ≡ x
at_same xs k x = rw (eq-eqb k k refl) refl

pub at_other : {A : Type 0} (xs : ℕ → A) (k : ℕ) (x : A) (n : ℕ) → n ≢ k → at xs k x n ≡ xs n
at_other xs k x n h = rw (ne_eqb n k h) refl

pub value_shape : (c : Option Cell) → value_in c ≡ option_map (λ (x : Value × Kind). x.0) (shape c)
value_shape None = refl
value_shape (Some x) = refl

pub same_value : (c d : Option Cell) → shape c ≡ shape d → value_in c ≡ value_in d
same_value c d e = value_shape c ∙ ap (option_map (λ (x : Value × Kind). x.0)) e ∙ sym (value_shape d)

-- nothing is no thing
pub none_some : {A : Type 0} {a : A} → None ≡ Some a → ⊥
none_some e = true≢false (sym (ap is_some e))

pub some_same : {A : Type 0} (a b : A) → Some a ≡ Some b → a ≡ b
some_same a b e = ap (λ o. unwrap_or o a) e

object_value : (c : Option Cell) (n : ℕ) → value_in c ≡ Some (reference n) → unwrap_or (object_in c) 0 ≡ n
object_value None n e = absurd (none_some e)
object_value (Some x) n e = ap (λ v. unwrap_or (referred v) 0) (some_same x.value (reference n) e)

pub shape_value : (c : Option Cell) (v : Value) (kind : Kind) → shape c ≡ Some (v, kind) → value_in c ≡ Some v
shape_value c v kind e = value_shape c ∙ ap (option_map (λ (x : Value × Kind). x.0)) e

pub self_shape : (slots : SlotCells) (n : ℕ) (kind : Kind) → shape (slots 0) ≡ Some (reference n, kind) → self_of slots ≡ n
self_shape slots n kind e = object_value (slots 0) n (shape_value (slots 0) (reference n) kind e)

module _ (table : ClassTable) (most : ℕ) where
  pub this_value : {s : Setting} {h : Here} → Stands table most s h → value_in (h.slots 0) ≡ Some (reference s.this)
  this_value {s} {h} st = value_shape (h.slots 0) ∙ ap (option_map (λ (x : Value × Kind). x.0)) st.this

  pub self_is : {s : Setting} {h : Here} → Stands table most s h → self_of h.slots ≡ s.this
  self_is {s} {h} st = object_value (h.slots 0) s.this (this_value st)

  pub comes_self : {s : Setting} {h : Here} (used : List ℕ) → Stands table most s h → Comes table most used h h
  comes_self {h = h} used st = record { kept = kept_self used h.slots; later = later_self h.world; noted = st.noted; fuel = st.fuel }

  pub comes_on : {used : List ℕ} {h t r : Here} → Comes table most used h t → Comes table most used t r → Comes table most used h r
  comes_on a b = record { kept = kept_on a.kept b.kept; later = later_on a.later b.later; noted = b.noted; fuel = b.fuel }

  pub comes_fewer : {some all : List ℕ} {h t : Here} → Within some all → Comes table most all h t → Comes table most some h t
  comes_fewer w a = record { kept = kept_fewer w a.kept; later = a.later; noted = a.noted; fuel = a.fuel }

  pub stands_on : {used : List ℕ} {s : Setting} {h t : Here} → Used 0 used → Stands table most s h → Comes table most used h t → Stands table most s t
  stands_on zero_used st c = record {
    this = c.kept.by 0 zero_used ∙ st.this;
    object = let x = c.later.by _ st.object.0 st.object.1 in (x.0, x.1, x.2 ∙ st.object.2);
    noted = c.noted;
    fuel = c.fuel;
  }

-- the steps reach this control, with what is in use kept, and this holds there
pub record Reached (program : SilicaProgram) (most : ℕ) {A : Type 0} (Q : Here → A → Type 0) (used : List ℕ) (s : Setting) (h : Here) (control : Control) (v : A) (w : World) (c : Configuration) : Type 0 where
  pub slots : SlotCells
  pub notes : Notes
  pub comes : Comes program.table most used h (record { slots = slots; notes = notes; world = w })
  pub holds : Q (record { slots = slots; notes = notes; world = w }) v
  pub leads : Leads program c (goes (config s (record { slots = slots; notes = notes; world = w }) control))

module _ (program : SilicaProgram) (most : ℕ) where
  pub reached_closed : {A : Type 0} {Q : Here → A → Type 0} {used : List ℕ} {s : Setting} {h : Here} {control : Control} (v : A) (w : World) (c d : Configuration)
      → Leads program c (goes d) → Reached program most Q used s h control v w d → Reached program most Q used s h control v w c
  reached_closed v w c d l r = record { slots = r.slots; notes = r.notes; comes = r.comes; holds = r.holds; leads = leads_on program l r.leads }

  -- what follows a part: from there on, in any relation
  pub after_part : {A B : Type 0} {P : Here → A → Type 0} {used : List ℕ} {s : Setting} {h : Here} {mid : Control} {c : Configuration} {S : B → World → Configuration → Type 0}
      (o : RunOutcome A) (go : A → World → RunOutcome B)
      → ((v : B) (w : World) (c d : Configuration) → Leads program c (goes d) → S v w d → S v w c)
      → Ends program (Reached program most P used s h mid) c o
      → ((v : A) (t : Here) → Comes program.table most used h t → P t v → Ends program S (config s t mid) (go v t.world))
      → Ends program S c (o >>= go)
  after_part o go closed e next = ends_then program o go e
      (λ v w r. ends_later program (go v w) closed r.leads (next v (record { slots = r.slots; notes = r.notes; world = w }) r.comes r.holds))

  -- one part and then another, which keeps at least as much
  pub bind : {A B : Type 0} {P : Here → A → Type 0} {Q : Here → B → Type 0} {used first more : List ℕ} {s : Setting} {h : Here} {mid control : Control} {c : Configuration}
      (o : RunOutcome A) (go : A → World → RunOutcome B) → Within used first → Within used more
      → Ends program (Reached program most P first s h mid) c o
      → ((v : A) (t : Here) → Comes program.table most first h t → P t v → Ends program (Reached program most Q more s t control) (config s t mid) (go v t.world))
      → Ends program (Reached program most Q used s h control) c (o >>= go)
  bind o go least within e next = after_part o go reached_closed e
      (λ v t comes p. ends_map program (go v t.world)
      (λ u w r. record { slots = r.slots; notes = r.notes; comes = comes_on program.table most (comes_fewer program.table most least comes) (comes_fewer program.table most within r.comes); holds = r.holds; leads = r.leads })
      (next v t comes p))
