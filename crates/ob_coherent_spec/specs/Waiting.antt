-- The frames of a run: the innermost one, and those that wait for a call (Coblenz et al., TOPLAS 42(3), 2020, "Silica";
-- loans, and calls on `this` that pass fields along, are this project's own).
use Rattle.std.specs.Prelude.{◌≡◌, ◌≢◌, ℕ, ◌<◌, ◌≤◌, ◌+◌, ◌⊎◌, Bool, true, false, not, ◌&&◌, ◌||◌, List, [], ◌∷◌, length, Option, Some, None, slice_get, ⊤}
use Rattle.ob_base.specs.Limits.{most_slots}
use Rattle.ob_base.specs.declared.id.ContractId.{ContractId}
use Rattle.ob_base.specs.declared.id.TxId.{TxId}
use Rattle.ob_perm.specs.States.{States}
use Rattle.ob_perm.specs.Permissions.{Permission, owned, shared, unowned, owns, is_shared, is_unowned}
use Rattle.ob_perm.specs.Masks.{permission_of}
use Rattle.ob_table.specs.Tables.{ClassTable, contract_at, signature_at}
use Rattle.ob_table.specs.declared.contract.Contract.{Contract}
use Rattle.ob_table.specs.declared.contract.ResolvedType.{ResolvedType}
use Rattle.ob_table.specs.declared.contract.ResolvedType.TheVariants.{Reference as TypedReference}
use Rattle.ob_table.specs.declared.contract.Signature.{Signature}
use Rattle.ob_table.specs.declared.seen.Kind.{Kind}
use Rattle.ob_table.specs.declared.seen.Kind.TheVariants.{Reference}
use Rattle.ob_table_spec.specs.WellFormed.{kind_of_resolved, serves_as, is_reference}
use Rattle.ob_heap_spec.specs.Values.{reference}
use Rattle.ob_heap_spec.specs.Objects.{Object}
use Rattle.ob_heap_spec.specs.Worlds.{World}
use Rattle.ob_silica_places.specs.Known.{known}
use Rattle.ob_silica_places.specs.Places.{Location, slot, field, this, same_location}
use Rattle.ob_silica_places.specs.Parameters.{Parameter, all_parameters}
use Rattle.ob_silica_steps.specs.Cells.{Cell, permission_in}
use Rattle.ob_silica_steps.specs.Configurations.{SlotCells, Rest, How, by_receiver, by_this, by_new, SilicaFrame, Loan, Waiting, Notes, Configuration}
use Rattle.ob_silica_steps.specs.Here.{Here, self_of, read}
use Rattle.ob_silica_formed.specs.Holdings.{Holdings, held as held_as}
use Rattle.ob_flow_spec.specs.Contexts.{BodyFrame, constructs, field_count, type_of_field, exit_of_field, Context, permission_at, known_as, is_field, is_tested}
use Rattle.ob_flow_spec.specs.Joining.{same_mode}
use Rattle.ob_flow_spec.specs.Uses.{kind_known}
use Rattle.ob_coherent_spec.specs.Counting.{nth_object, owners}
use Rattle.ob_coherent_spec.specs.Runs.{tested_places, times, locks_around, tests_in}
use Rattle.ob_coherent_spec.specs.Standing.{is_in, AllStand, HasItsState}
use Rattle.ob_coherent_spec.specs.Saying.{Says}
use Rattle.ob_coherent_spec.specs.Remaining.{BodyParts, body_of, AreHeld, Remains}
use Rattle.ob_coherent_spec.specs.OpenTests.{AreOpen, TestNoField}

-- Each frame.

-- A frame runs a body of a contract of the table, and slot 0 has `this`: an object of that contract. It was entered by `new`
-- exactly where the body is a constructor, and lists fields only where it was entered by a call on `this`. The slots of its
-- parameters have values of their kinds, and those past the body's are unset.
pub record IsFrame (table : ClassTable) (objects : List Object) (f : SilicaFrame) (parts : BodyParts) : Type 0 where
  pub own : contract_at table f.contract ≡ Some parts.own
  pub class : parts.own.interface ≡ false
  pub signature : signature_at parts.own f.tx ≡ Some parts.signature
  pub few : parts.slots ≤ most_slots
  pub params : length parts.signature.params < parts.slots
  pub this : Cell
  pub set : f.slots 0 ≡ Some this
  pub refers : this.value ≡ reference (self_of f.slots)
  pub kind : this.note.kind ≡ Reference f.contract
  pub there : self_of f.slots < length objects
  pub contract : (nth_object objects (self_of f.slots)).contract ≡ f.contract
  pub constructor : (constructs (body_of table f parts) ≡ true) → f.how ≡ by_new
  pub constructs : f.how ≡ by_new → constructs (body_of table f parts) ≡ true
  pub listed : f.how ≢ by_this → parts.signature.listed ≡ []
  pub arguments : (k : ℕ) (p : Parameter) → slice_get (all_parameters f.contract parts.signature) k ≡ Some p
      → (x : Cell) × (f.slots k ≡ Some x) × (x.note.kind ≡ kind_of_resolved p.of)
  pub unset : (k : ℕ) → parts.slots ≤ k → f.slots k ≡ None

-- the frame of a constructor owns its object
abbrev pub OwnsMade : SilicaFrame → Type 0
OwnsMade f = f.how ≡ by_new → owns (permission_in (f.slots 0)) ≡ true

-- how many tests of an object are open in a frame, with a lock or of its `this`
abbrev pub tests_of : ℕ → SlotCells → List Rest → ℕ
tests_of n slots outer = locks_around n outer + tests_in n slots outer

-- Where `this` is Shared, its object has a transaction in progress, and no place owns it but under tests of the frames above,
-- which are open so often; unless the frame is share-entered and the object is locked, so that no state changes.
abbrev pub SharesThis : SilicaFrame → Configuration → ℕ → Type 0
SharesThis f c above = permission_in (f.slots 0) ≡ shared → (0 < times (self_of f.slots) c.world.progress)
    × ((owners (self_of f.slots) c ≤ above) ⊎ ((f.share_entered ≡ true) × (0 < times (self_of f.slots) c.world.locked)))

-- Loans.

-- whether a place is lent
abbrev pub is_lent : List Loan → Location → Bool
is_lent [] p = false
is_lent (l ∷ ls) p = same_location p l.place || is_lent ls p

-- whether a slot of the callee has what was lent
abbrev pub has_lent : List Loan → ℕ → Bool
has_lent [] k = false
has_lent (l ∷ ls) k = same_location (slot k) (slot l.param) || has_lent ls k

-- whether a place gets the result
abbrev pub is_result : Option ℕ → Location → Bool
is_result None p = false
is_result (Some k) p = same_location p (slot k)

-- whether a frame was entered by a call on `this`
abbrev pub is_on_this : How → Bool
is_on_this by_this = true
is_on_this by_receiver = false
is_on_this by_new = false

-- whether a place of a frame that waits stays as it is until the callee, entered so, has returned
abbrev pub is_settled : How → Waiting → Location → Bool
is_settled how h p = not (is_lent h.loans p || (is_result h.result p || (is_on_this how && is_field p)))

-- the places of a frame that waits
abbrev pub waiting_here : Notes → World → Waiting → Here
waiting_here notes w h = record { slots = h.frame.slots; notes = notes; world = w }

-- A permission on objects as one kind sees them serves as another on the same objects as a second kind sees them: it is
-- held in the same way, and an object that is in the states of the first is in those of the second.
pub record Serves (table : ClassTable) (k : Kind) (p : Permission) (l : Kind) (q : Permission) : Type 0 where
  pub mode : same_mode p q ≡ true
  pub states : (a b : States) (o : Object) → p ≡ owned a → q ≡ owned b → HasItsState table o
      → serves_as table k (Reference o.contract) ≡ true → serves_as table l (Reference o.contract) ≡ true
      → is_in table k a o ≡ true → is_in table l b o ≡ true

-- A loan of a frame that waits: the place is Unowned, its value is in a slot of the callee, and what the callee leaves there
-- serves as what the place gets back, which is what the context says of it. Where that slot is Shared by now, no place owns the
-- object but under tests of the frames above, which are open so often.
pub record IsLoan (table : ClassTable) (c : Configuration) (callee : SilicaFrame) (called : BodyParts) (tests : ℕ → ℕ)
    (h : Here) (g : Context) (l : Loan) : Type 0 where
  pub cell : Cell
  pub place : read table h l.place ≡ Some cell
  pub lent : cell.note.permission ≡ unowned
  pub parameter : Parameter
  pub param : slice_get (all_parameters callee.contract called.signature) l.param ≡ Some parameter
  pub given : Cell
  pub found : callee.slots l.param ≡ Some given
  pub same : given.value ≡ cell.value
  pub serves : Serves table (kind_of_resolved parameter.of) (permission_of parameter.exit) cell.note.kind l.exit
  pub kind : kind_known (g l.place) ≡ cell.note.kind
  pub exit : permission_at g l.place ≡ l.exit
  pub gone : (n : ℕ) → given.value ≡ reference n → given.note.permission ≡ shared → owners n c ≤ tests n

-- each of them is one, and no place and no slot stands in two
abbrev pub AreLoans : ClassTable → Configuration → SilicaFrame → BodyParts → (ℕ → ℕ) → Here → Context → List Loan → Type 0
AreLoans table c callee called tests h g [] = ⊤
AreLoans table c callee called tests h g (l ∷ ls) =
    IsLoan table c callee called tests h g l × (is_lent ls l.place ≡ false) × (has_lent ls l.param ≡ false)
    × AreLoans table c callee called tests h g ls

-- none of them is of a field
abbrev pub LendNoField : List Loan → Type 0
LendNoField [] = ⊤
LendNoField (l ∷ ls) = (is_field l.place ≡ false) × LendNoField ls

-- A frame that waits for this body, entered so, has lent each parameter whose exit is an owner's; a `new` hasn't lent what it
-- makes.
pub record Lends (table : ClassTable) (contract : ContractId) (tx : TxId) (how : How) (h : Waiting) : Type 0 where
  pub owners : (own : Contract) (s : Signature) → contract_at table contract ≡ Some own → signature_at own tx ≡ Some s
      → (k : ℕ) (p : Parameter) → slice_get (all_parameters contract s) k ≡ Some p
      → owns (permission_of p.exit) ≡ true → (how ≡ by_new → k ≢ 0) → has_lent h.loans k ≡ true
  pub made : how ≡ by_new → has_lent h.loans 0 ≡ false

-- each frame that waits has
abbrev pub AllLend : ClassTable → ContractId → TxId → How → List Waiting → Type 0
AllLend table contract tx how [] = ⊤
AllLend table contract tx how (h ∷ hs) =
    Lends table contract tx how h × AllLend table h.frame.contract h.frame.tx h.frame.how hs

-- Frames that wait.

-- a number isn't among others
abbrev pub IsNotAmong : ℕ → List ℕ → Type 0
IsNotAmong n [] = ⊤
IsNotAmong n (m ∷ ms) = (n ≢ m) × IsNotAmong n ms

-- the object of a frame that waits isn't that of a frame above it, unless it's the same one, of a call on `this`
abbrev pub IsApart : How → ℕ → List ℕ → ℕ → Type 0
IsApart by_this n above m = n ≡ m
IsApart by_receiver n above m = IsNotAmong n above
IsApart by_new n above m = IsNotAmong n above

-- what a frame entered so gives back: a constructor its object, and another one its result
abbrev pub gives_back_by : How → SilicaFrame → BodyParts → Option ResolvedType
gives_back_by by_receiver f parts = parts.signature.result
gives_back_by by_this f parts = parts.signature.result
gives_back_by by_new f parts = Some (TypedReference f.contract parts.signature.exit)

-- what a frame gives back
abbrev pub gives_back_as : SilicaFrame → BodyParts → Option ResolvedType
gives_back_as f parts = gives_back_by f.how f parts

-- The slot for a result is one of the frame's own, which holds no reference and isn't under test, and the context says of it
-- what the callee declares. There is one exactly where the callee gives something back.
abbrev pub AwaitsResult : BodyFrame → Context → Waiting → Option ℕ → Option ResolvedType → Type 0
AwaitsResult b g h None None = ⊤
AwaitsResult b g h (Some k) (Some of) =
    (length b.signature.params < k) × (k < b.slots) × (is_tested (tested_places h.outer) (slot k) ≡ false)
    × ((x : Cell) → h.frame.slots k ≡ Some x → is_reference x.note.kind ≡ false) × (g (slot k) ≡ Some (known_as of))
AwaitsResult b g h result of = ⊥

-- each field is left by a call on `this` as the callee lists or declares it
abbrev pub FieldsComeBack : BodyFrame → Context → BodyParts → Type 0
FieldsComeBack b g callee = (f : ℕ) → f < field_count b
    → g (field f) ≡ Some (known (kind_of_resolved (type_of_field b f)) (exit_of_field b callee.signature f))

-- A frame that waits for a callee. What its context says holds of each settled place now; of what is lent, of the result and,
-- where the call is one on `this`, of the fields it holds once the callee has returned. The tests that are open in the frames
-- above are counted by `tests`.
pub record Waits (table : ClassTable) (N : ℕ → Type 0) (c : Configuration) (callee : SilicaFrame) (called : BodyParts)
    (above : List ℕ) (tests : ℕ → ℕ) (h : Waiting) : Type 0 where
  pub parts : BodyParts
  pub context : Context
  pub holdings : Holdings
  pub frame : IsFrame table c.world.objects h.frame parts
  pub owns_made : OwnsMade h.frame
  pub cells : AllStand table c.world.objects h.frame.slots
  pub says : Says (body_of table h.frame parts) N context (waiting_here c.notes c.world h) (is_settled callee.how h)
  pub held : AreHeld holdings h.frame.slots (λ p. not (is_result h.result p))
  pub result_held : (k : ℕ) (of : ResolvedType) → h.result ≡ Some k → gives_back_as callee called ≡ Some of
      → holdings k ≡ held_as (Some (kind_of_resolved of))
  pub remains : Remains (body_of table h.frame parts) holdings context h.terms h.outer
  pub opens : AreOpen (body_of table h.frame parts) (waiting_here c.notes c.world h) h.outer
  pub open_slots : callee.how ≡ by_this → TestNoField h.outer
  pub loans : AreLoans table c callee called tests (waiting_here c.notes c.world h) context h.loans
  pub lent_slots : callee.how ≡ by_this → LendNoField h.loans
  pub placed : is_on_this callee.how ≡ false → h.frame.how ≢ by_new
      → HasItsState table (nth_object c.world.objects (self_of h.frame.slots))
  pub apart : IsApart callee.how (self_of h.frame.slots) above (self_of callee.slots)
  pub back : callee.how ≡ by_this → FieldsComeBack (body_of table h.frame parts) context called
  pub no_constructor : callee.how ≡ by_this → h.frame.how ≢ by_new
  pub result : AwaitsResult (body_of table h.frame parts) context h h.result (gives_back_as callee called)
  pub shares : SharesThis h.frame c (tests (self_of h.frame.slots))
  pub share_entered : callee.how ≡ by_this → callee.share_entered ≡ h.frame.share_entered

-- All frames that wait, the outermost last; the outermost frame wasn't entered by a call on `this`.
abbrev pub AllWait : ClassTable → (ℕ → Type 0) → Configuration → SilicaFrame → BodyParts → List ℕ → (ℕ → ℕ)
    → List Waiting → Type 0
AllWait table N c callee called above tests [] = is_on_this callee.how ≡ false
AllWait table N c callee called above tests (h ∷ hs) =
    (w : Waits table N c callee called above tests h)
    × AllWait table N c h.frame w.parts (self_of h.frame.slots ∷ above) (λ n. tests_of n h.frame.slots h.outer + tests n) hs
