-- What a frame has still to run is well-formed and derives (Coblenz et al., TOPLAS 42(3), 2020, "Silica"; that a body's rest
-- lies in lists around one another is this project's own).
use Rattle.std.specs.Prelude.{◌≡◌, ℕ, ◌<◌, ◌≤◌, Bool, true, false, List, [], ◌∷◌, Option, Some, None, Ok, All, IsSome, ⊤}
use Rattle.ob_base.specs.declared.fault.Span.{Span}
use Rattle.ob_base.specs.declared.id.ContractId.{ContractId}
use Rattle.ob_base.specs.declared.id.TxId.{TxId}
use Rattle.ob_perm.specs.Permissions.{Permission, owns, shared}
use Rattle.ob_table.specs.Tables.{ClassTable, contract_at, signature_at}
use Rattle.ob_table.specs.declared.contract.Contract.{Contract}
use Rattle.ob_table.specs.declared.contract.Signature.{Signature}
use Rattle.ob_table.specs.declared.seen.Kind.{Kind}
use Rattle.ob_table.specs.declared.seen.Kind.TheVariants.{Bool as BoolKind, Reference}
use Rattle.ob_table_spec.specs.Conditions.{IsClassTable}
use Rattle.ob_table_spec.specs.WellFormed.{StaticFrame, is_reference}
use Rattle.ob_silica.specs.Terms.{SilicaForm, loop_form, SilicaTerms, and_term, SilicaBody}
use Rattle.ob_silica.specs.declared.place.Operand.{Operand}
use Rattle.ob_silica.specs.Slots.{slots_of_terms}
use Rattle.ob_silica_places.specs.Known.{Known, known}
use Rattle.ob_silica_places.specs.Places.{Location, slot, field, this, located}
use Rattle.ob_silica_steps.specs.Cells.{Cell}
use Rattle.ob_silica_steps.specs.Configurations.{SilicaProgram, terms_at, SlotCells, SilicaFrame, Ends, plain_end, test_end, lock_end, loop_end, Rest}
use Rattle.ob_silica_formed.specs.Holdings.{SlotContent, Holdings, after_terms, Each}
use Rattle.ob_silica_formed.specs.Points.{NamesWhatIsThere, HasKind, HasKinds, TakesResult, LeavesParams, LosesNoReference, NamesBody, ReturnsResult, TakesTurns}
use Rattle.ob_silica_formed.specs.WellFormedTerms.{IsWellFormedTerms}
use Rattle.ob_flow_spec.specs.Contexts.{BodyFrame, static_of, field_count, Context, TestedPlaces, now, permission_at, permission_on, is_owned_asset}
use Rattle.ob_flow_spec.specs.Deriving.{derive_all, Derives}
use Rattle.ob_flow_spec.specs.Joining.{same_mode}
use Rattle.ob_flow_laws.specs.Uses.{CanUse}
use Rattle.ob_coherent_spec.specs.Runs.{tested_places}
use Rattle.ob_coherent_spec.specs.Saying.{Agrees}

-- Programs.

-- A body that is well-formed and derives.
pub record IsCheckedBody (table : ClassTable) (body : SilicaBody) : Type 0 where
  pub well_formed : IsWellFormedTerms table body
  pub derives : Derives table body

-- each constructor and transaction of a contract has terms
abbrev pub HasTerms : SilicaProgram → Type 0
HasTerms program = (contract : ContractId) (tx : TxId) (own : Contract) (s : Signature)
    → contract_at program.table contract ≡ Some own → own.interface ≡ false → signature_at own tx ≡ Some s
    → IsSome (terms_at program contract tx)

-- A program whose class table meets the conditions, which has a body for each constructor and transaction, and whose bodies
-- are well-formed and derive.
pub record IsCheckedProgram (program : SilicaProgram) : Type 0 where
  pub table : IsClassTable program.table
  pub terms : HasTerms program
  pub bodies : All (IsCheckedBody program.table) program.bodies

-- Bodies of frames.

-- what is known of the body that a frame runs: its contract, its signature, and how many slots it has
pub record BodyParts : Type 0 where
  pub own : Contract
  pub signature : Signature
  pub slots : ℕ

-- the body that a frame runs, as the permission rules see it
abbrev pub body_of : ClassTable → SilicaFrame → BodyParts → BodyFrame
body_of table f parts = record {
  table = table;
  here = f.contract;
  own = parts.own;
  tx = f.tx;
  signature = parts.signature;
  slots = parts.slots;
}

-- Forms that are well-formed.

-- a form is well-formed, where slots hold this
pub record IsWellFormedForm (f : StaticFrame) (h : Holdings) (form : SilicaForm) : Type 0 where
  pub numbers : NamesWhatIsThere f h form
  pub kinds : HasKinds f h form
  pub results : TakesResult f h form
  pub params : LeavesParams f h form
  pub references : LosesNoReference f h form
  pub bodies : NamesBody f h form
  pub returns : ReturnsResult f h form
  pub turns : TakesTurns f h form

-- each of these terms is well-formed, where slots hold this at first, and names slots of the body alone
pub record AreWellFormedFrom (b : BodyFrame) (h : Holdings) (terms : SilicaTerms) : Type 0 where
  pub forms : Each IsWellFormedForm (static_of b) h terms
  pub slots : slots_of_terms terms ≤ b.slots

-- a slot holds what is said of it: a value of this kind, and no reference unless it may
pub record HoldsSo (x : SlotContent) (c : Cell) : Type 0 where
  pub kind : (kind : Kind) → x.kind ≡ Some kind → c.note.kind ≡ kind
  pub refers : is_reference c.note.kind ≡ true → x.refers ≡ true

-- each free slot that is set holds what is said of it
abbrev pub AreHeld : Holdings → SlotCells → (Location → Bool) → Type 0
AreHeld h slots free = (k : ℕ) (x : Cell) → free (slot k) ≡ true → slots k ≡ Some x → HoldsSo (h k) x

-- what holds as the first says holds as the second says
pub record HoldsToo (x y : SlotContent) : Type 0 where
  pub kind : (kind : Kind) → y.kind ≡ Some kind → x.kind ≡ Some kind
  pub refers : x.refers ≡ true → y.refers ≡ true

-- the same of each slot
abbrev pub HoldToo : Holdings → Holdings → Type 0
HoldToo h i = (k : ℕ) → HoldsToo (h k) (i k)

-- What is left to run.

-- the place is one of the body's
abbrev pub IsPlaceIn : BodyFrame → Location → Type 0
IsPlaceIn b (slot k) = k < b.slots
IsPlaceIn b (field f) = f < field_count b

-- what is known may be forgotten, but not that an asset is owned
abbrev pub LosesNone : ClassTable → Option Known → Option Known → Type 0
LosesNone table x y = is_owned_asset table x ≡ true → owns (permission_on y) ≡ true

-- the second context may take the place of the first: what agrees with the first agrees with it
pub record Leads (b : BodyFrame) (g j : Context) : Type 0 where
  pub known : (p : Location) (x : Option Cell) → Agrees (g p) x → Agrees (j p) x
  pub kept : (p : Location) → IsPlaceIn b p → LosesNone b.table (g p) (j p)
  pub mode : same_mode (permission_at j this) (permission_at g this) ≡ true

-- the context after the end of a list, where what was under test is Shared again
abbrev pub at_end : Context → Ends → Context
at_end g plain_end = g
at_end g (test_end p) = now g p shared
at_end g (lock_end p n) = now g p shared
at_end g (loop_end first a body end) = g

-- what is under test still owns at the end of the list
abbrev pub StillOwns : Context → Ends → Type 0
StillOwns g plain_end = ⊤
StillOwns g (test_end p) = owns (permission_at g p) ≡ true
StillOwns g (lock_end p n) = owns (permission_at g p) ≡ true
StillOwns g (loop_end first a body end) = ⊤

-- `this` is known, with its own kind
abbrev pub KnowsThis : BodyFrame → Context → Type 0
KnowsThis b g = (p : Permission) × (g this ≡ Some (known (Reference b.here) p))

-- Where a list is left with this context, these terms go on, with these places under test: with a context that may stand
-- for it, from which they derive, and with holdings under which they are well-formed. What is left after them goes on too.
abbrev pub GoesOnBy : BodyFrame → TestedPlaces → (Option Context → Holdings → Type 0) → SilicaTerms → Option Context → Holdings
    → Type 0
GoesOnBy b ts Next terms None h = ⊤
GoesOnBy b ts Next terms (Some g) h =
    (j : Context) × (i : Holdings) × (left : Option Context) × Leads b g j × KnowsThis b j × HoldToo h i
    × AreWellFormedFrom b i terms × (derive_all b ts terms j ≡ Ok left) × Next left (after_terms (static_of b) terms i)

-- Where the first part of a Loop is left with this context, its operand can be used and is a `bool`, its body derives and
-- is well-formed, and after it the same Loop goes on.
pub record CanTurn (b : BodyFrame) (ts : TestedPlaces) (Next : Option Context → Holdings → Type 0) (first : SilicaTerms)
    (a : Operand) (body : SilicaTerms) (end : Span) (rest : SilicaTerms) (g : Context) (h : Holdings) : Type 0 where
  pub can : CanUse b g (located a)
  pub kind : HasKind (static_of b) h BoolKind a
  pub formed : AreWellFormedFrom b h body
  pub turned : Option Context
  pub derives : derive_all b ts body g ≡ Ok turned
  pub again : GoesOnBy b ts Next (and_term (loop_form first a body end) end rest) turned (after_terms (static_of b) body h)

-- what ends with a list may be the first part of a Loop, which can then turn
abbrev pub MayTurn : BodyFrame → TestedPlaces → (Option Context → Holdings → Type 0) → SilicaTerms → Ends → Context → Holdings
    → Type 0
MayTurn b ts Next rest (loop_end first a body end) g h = CanTurn b ts Next first a body end rest g h
MayTurn b ts Next rest ends g h = ⊤

-- Where the end of a list is reached with this context, the lists around go on.
abbrev pub GoOn : BodyFrame → Option Context → Holdings → List Rest → Type 0
GoOn b None h outer = ⊤
GoOn b (Some g) h [] = ⊥
GoOn b (Some g) h (r ∷ outer) =
    StillOwns g r.ends × MayTurn b (tested_places outer) (λ left i. GoOn b left i outer) r.terms r.ends g h
    × GoesOnBy b (tested_places outer) (λ left i. GoOn b left i outer) r.terms (Some (at_end g r.ends)) h

-- What a frame has still to run: terms that are well-formed and derive, and after them the lists around.
pub record Remains (b : BodyFrame) (h : Holdings) (g : Context) (terms : SilicaTerms) (outer : List Rest) : Type 0 where
  pub formed : AreWellFormedFrom b h terms
  pub itself : KnowsThis b g
  pub left : Option Context
  pub derived : derive_all b (tested_places outer) terms g ≡ Ok left
  pub after : GoOn b left (after_terms (static_of b) terms h) outer
