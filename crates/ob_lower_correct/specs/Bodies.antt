-- Lowering keeps the meaning of a body: in each frame of it, by the source meaning and by Silica steps (this project's
-- own).
use Rattle.std.specs.Prelude.{◌≡◌, ◌≢◌, ℕ, suc, ◌≤◌, List, [], ◌∷◌, Option, Some, option_map, IsSomeAnd, ⊤}
use Rattle.ob_base.specs.declared.id.TxId.{TxId}
use Rattle.ob_table.specs.Statements.{ResolvedBody}
use Rattle.ob_table.specs.Tables.{ClassTable, contract_at, signature_at, body_at}
use Rattle.ob_table.specs.declared.contract.Contract.{Contract}
use Rattle.ob_table.specs.declared.contract.Field.{Field}
use Rattle.ob_table.specs.declared.contract.Signature.{Signature}
use Rattle.ob_table.specs.declared.seen.Kind.{Kind}
use Rattle.ob_table.specs.declared.seen.Kind.TheVariants.{Reference}
use Rattle.ob_table_spec.specs.WellFormed.{kind_of_resolved}
use Rattle.ob_heap_spec.specs.Values.{Value, reference}
use Rattle.ob_heap_spec.specs.Objects.{Object}
use Rattle.ob_heap_spec.specs.Contents.{object_at}
use Rattle.ob_heap_spec.specs.Worlds.{World, Spent, RunOutcome, gives, aborts, wrong, ◌>>=◌, SameWorld, SameSpent}
use Rattle.ob_heap_spec.specs.Marks.{leave}
use Rattle.ob_source_meaning.specs.Frames.{SourceFrame, Calls}
use Rattle.ob_source_meaning.specs.Bodies.{run_transaction}
use Rattle.ob_source_meaning.specs.Calls.{construct, call_at}
use Rattle.ob_silica.specs.Terms.{SilicaBody}
use Rattle.ob_silica_steps.specs.Cells.{Cell, value_in}
use Rattle.ob_silica_steps.specs.Configurations.{SilicaProgram, SlotCells, How, by_receiver, by_this, by_new, Waiting, runs, Notes, Configuration, NextStep, goes, ended, aborted, stuck}
use Rattle.ob_silica_steps.specs.Here.{self_of, field_of}
use Rattle.ob_silica_places.specs.Parameters.{Parameter, parameters}
use Rattle.ob_silica_steps.specs.Calling.{constructor_id}
use Rattle.ob_silica_steps.specs.Steps.{steps}
use Rattle.ob_lower_spec.specs.BodyTerms.{Lowers}
use Rattle.ob_lower_correct.specs.Law.{IsLoweredProgram}

-- The source meaning of a body.

-- What a body comes to, up to where its caller goes on, by how its frame was entered: a transaction called with a
-- receiver, which has none in progress then; one called on `this`; a constructor, which gives its object.
abbrev pub run_entered : How → Calls → SourceFrame → TxId → Signature → List Value → World → RunOutcome (Option Value)
run_entered by_receiver calls f tx s args w =
    run_transaction calls f tx s args w >>= (λ result w1. gives result (leave f.this w1))
run_entered by_this calls f tx s args w = run_transaction calls f tx s args w
run_entered by_new calls f tx s args w = construct calls f s args w

-- Frames of a body.

-- what a slot holds beside the permission that is noted, which no step tests: its value and its kind
abbrev pub shape : Option Cell → Option (Value × Kind)
shape c = option_map (λ (x : Cell). (x.value, x.note.kind)) c

-- the slots from a number on hold values, as many as there are parameters, each of its parameter's kind
abbrev pub HoldsFrom : SlotCells → ℕ → List Parameter → List Value → Type 0
HoldsFrom slots k [] [] = ⊤
HoldsFrom slots k (p ∷ ps) (v ∷ vs) = (shape (slots k) ≡ Some (v, kind_of_resolved p.of)) × HoldsFrom slots (suc k) ps vs
HoldsFrom slots k ps vs = ⊥

-- of each field that has a value, the kind that is noted is the declared one
pub record Noted (table : ClassTable) (notes : Notes) (objects : List Object) : Type 0 where
  pub by : (n k : ℕ) (o : Object) (f : Field) (v : Value) → object_at objects n ≡ Some o → field_of table o k ≡ Some f
      → o.fields k ≡ Some v → (notes.fields n k).kind ≡ kind_of_resolved f.of

-- The innermost frame of a configuration runs this body of a contract from its first term on, with `this` in slot 0 and
-- these arguments in the slots after it. Any frames may wait below it, and the world is any in which `this` is an
-- object of the contract.
pub record BeginsBody (program : SilicaProgram) (body : ResolvedBody) (lowered : SilicaBody) (own : Contract)
    (s : Signature) (args : List Value) (c : Configuration) : Type 0 where
  -- it is the body of this constructor or transaction; a `new` enters a constructor
  pub contract : contract_at program.table c.frame.contract ≡ Some own
  pub signature : signature_at own c.frame.tx ≡ Some s
  pub is_body : body_at program.table c.frame.contract c.frame.tx ≡ Some body
  pub constructor : c.frame.how ≡ by_new → c.frame.tx ≡ constructor_id
  pub control : c.control ≡ runs lowered.terms []
  -- what its slots hold, and which object `this` is
  pub this : shape (c.frame.slots 0) ≡ Some (reference (self_of c.frame.slots), Reference c.frame.contract)
  pub arguments : HoldsFrom c.frame.slots 1 (parameters s) args
  pub object : IsSomeAnd (object_at c.world.objects (self_of c.frame.slots)) (λ o. o.contract ≡ c.frame.contract)
  -- what is noted of fields
  pub noted : Noted program.table c.notes c.world.objects

-- the frame in which the source's body runs
abbrev pub source_frame : ClassTable → Contract → Configuration → SourceFrame
source_frame table own c = record {
  table = table;
  this = self_of c.frame.slots;
  here = c.frame.contract;
  own = own;
  share_entered = c.frame.share_entered;
}

-- How the run goes on after a body.

-- The frame that waited goes on with these below it: the slot for the result holds it, and each other slot holds what it
-- held. The world is this one, but for the order in which items were read, and of fields the declared kinds are still
-- noted.
pub record GoesOn (table : ClassTable) (h : Waiting) (below : List Waiting) (value : Option Value) (w : World)
    (d : Configuration) : Type 0 where
  pub frame : d.frame ≡ record h.frame { slots = d.frame.slots }
  pub control : d.control ≡ runs h.terms h.outer
  pub stack : d.stack ≡ below
  pub world : SameWorld w d.world
  pub result : (k : ℕ) → h.result ≡ Some k → value_in (d.frame.slots k) ≡ value
  pub others : (k : ℕ) → h.result ≢ Some k → shape (d.frame.slots k) ≡ shape (h.frame.slots k)
  pub noted : Noted table d.notes w.objects

-- the run has returned to the frame that waits, if there is one; else it has ended with the result, in the same world but
-- for the order in which items were read
abbrev pub Returned : ClassTable → List Waiting → Option Value → World → NextStep → Type 0
Returned table [] result w next = (v : World) × (next ≡ ended result v) × SameWorld w v
Returned table (h ∷ below) result w next = (d : Configuration) × (next ≡ goes d) × GoesOn table h below result w d

-- After some steps the Silica run stands as the source meaning of the body says: it has returned with the same result,
-- in the same world, in which the same items were read, in whatever order; or it has aborted with the same cause, having
-- taken as many units and read the same items; or, where the source meaning goes wrong, it has reached a configuration
-- that has no step.
abbrev pub BodyEndsAs : SilicaProgram → Configuration → RunOutcome (Option Value) → Type 0
BodyEndsAs program c (gives result w) = (n : ℕ) × Returned program.table c.stack result w (steps program n c)
BodyEndsAs program c (aborts cause s) = (n : ℕ) × (t : Spent) × (steps program n c ≡ aborted cause t) × SameSpent s t
BodyEndsAs program c wrong = (n : ℕ) × (steps program n c ≡ stuck)

-- Each body, by the terms to which it may be lowered, ends by steps as by the source meaning: in each frame, with any
-- frames waiting below, in each world, and with any number of units left, where calls may be as deep as that.
abbrev pub BodiesKeepMeaning : Type 0
BodiesKeepMeaning =
    (program : SilicaProgram) (body : ResolvedBody) (lowered : SilicaBody) (own : Contract) (s : Signature)
    (args : List Value) (c : Configuration) (depth : ℕ)
    → IsLoweredProgram program → Lowers program.table body lowered → BeginsBody program body lowered own s args c
    → c.world.fuel ≤ depth
    → BodyEndsAs program c (run_entered c.frame.how (call_at program.table depth) (source_frame program.table own c)
    c.frame.tx s args c.world)
