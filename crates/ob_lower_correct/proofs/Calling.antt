-- What is said of calls, before it is shown of them.
use Rattle.std.proofs.Common.{◌≡◌, ◌≢◌, ℕ, ◌≤◌, List, [], ◌∷◌, length, Option, Some}
use Rattle.std.specs.Prelude.{option_map, option_and_then, IsSome, IsSomeAnd, ⊤}
use Rattle.ob_base.specs.declared.fault.Span.{Span}
use Rattle.ob_base.specs.declared.id.ContractId.{ContractId}
use Rattle.ob_base.specs.declared.id.TxId.{TxId}
use Rattle.ob_table.specs.Tables.{ClassTable, contract_at, signature_of}
use Rattle.ob_table_spec.specs.WellFormed.{constructor_at}
use Rattle.ob_heap_spec.specs.Values.{Value, referred}
use Rattle.ob_heap_spec.specs.Worlds.{World, with_some}
use Rattle.ob_source_meaning.specs.Frames.{of_object, of_this, of_new, Calls}
use Rattle.ob_silica.specs.Terms.{SilicaTerms, and_term, call_form, call_this_form, new_form}
use Rattle.ob_silica.specs.declared.place.Operand.{Operand}
use Rattle.ob_silica_steps.specs.Cells.{value_in}
use Rattle.ob_silica_places.specs.Places.{Location, located, all_located}
use Rattle.ob_silica_steps.specs.Configurations.{SilicaProgram, SlotCells, Notes, Rest, Control, runs, Configuration, goes}
use Rattle.ob_silica_steps.specs.Here.{Here, read}
use Rattle.ob_lower_correct.proofs.Runs.{Leads, Ends}
use Rattle.ob_lower_correct.proofs.Standing.{Setting, frame_in, config, shape, Later, Noted, Stands}

-- the values of places, if each has one
abbrev pub read_values : ClassTable → Here → List Location → Option (List Value)
read_values table h [] = Some []
read_values table h (p ∷ ps) =
    option_and_then (λ v. option_map (λ vs. v ∷ vs) (read_values table h ps)) (value_in (read table h p))

-- a call has come back: all slots are as before but that of the result
pub record Called (program : SilicaProgram) (most : ℕ) (must : Type 0) (k : Option ℕ) (s : Setting) (h : Here) (control : Control) (r : Option Value) (w : World) (c : Configuration) : Type 0 where
  pub slots : SlotCells
  pub notes : Notes
  pub kept : (n : ℕ) → k ≢ Some n → shape (slots n) ≡ shape (h.slots n)
  pub value : (n : ℕ) → k ≡ Some n → value_in (slots n) ≡ r
  pub later : Later h.world w
  pub noted : Noted program.table notes w.objects
  pub fuel : w.fuel ≤ most
  pub answers : must → IsSome r
  pub leads : Leads program c (goes (config s (record { slots = slots; notes = notes; world = w }) control))

-- there are as many places as parameters
abbrev pub Passes : ClassTable → ContractId → TxId → ℕ → Type 0
Passes table contract tx n = IsSomeAnd (signature_of table contract tx) (λ g. length g.params ≡ n)

-- a transaction has a result
abbrev pub Answers : ClassTable → ContractId → TxId → Type 0
Answers table contract tx = IsSomeAnd (signature_of table contract tx) (λ g. IsSome g.result)

-- the forms of calls do what calls do, with no more units than these
pub record CallsRun (program : SilicaProgram) (most : ℕ) (calls : Calls) : Type 0 where
  pub object : (s : Setting) (h : Here) (k : Option ℕ) (receiver : Operand) (contract : ContractId) (tx : TxId) (args : List Operand) (span : Span) (rest : SilicaTerms) (outer : List Rest)
      → contract_at program.table s.here ≡ Some s.own → Stands program.table most s h → Passes program.table contract tx (length args)
      → Ends program (Called program most (Answers program.table contract tx) k s h (runs rest outer))
      (config s h (runs (and_term (call_form k receiver contract tx args) span rest) outer))
      (with_some (read_values program.table h (all_located args))
      (λ vs. with_some (option_map (λ n. of_object n contract tx) (option_and_then referred (value_in (read program.table h (located receiver)))))
      (λ callee. calls callee vs h.world)))
  pub same : (s : Setting) (h : Here) (k : Option ℕ) (tx : TxId) (args : List Operand) (span : Span) (rest : SilicaTerms) (outer : List Rest)
      → contract_at program.table s.here ≡ Some s.own → Stands program.table most s h → Passes program.table s.here tx (length args)
      → Ends program (Called program most (Answers program.table s.here tx) k s h (runs rest outer))
      (config s h (runs (and_term (call_this_form k tx args) span rest) outer))
      (with_some (read_values program.table h (all_located args)) (λ vs. calls (of_this (frame_in program.table s) tx) vs h.world))
  pub new : (s : Setting) (h : Here) (k : ℕ) (contract : ContractId) (args : List Operand) (span : Span) (rest : SilicaTerms) (outer : List Rest)
      → contract_at program.table s.here ≡ Some s.own → Stands program.table most s h → IsSomeAnd (constructor_at program.table contract) (λ g. length g.params ≡ length args)
      → Ends program (Called program most ⊤ (Some k) s h (runs rest outer))
      (config s h (runs (and_term (new_form k contract args) span rest) outer))
      (with_some (read_values program.table h (all_located args)) (λ vs. calls (of_new contract) vs h.world))
