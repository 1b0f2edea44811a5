-- Calls and `new`: what is handed over, and what waits (Coblenz et al., TOPLAS 42(3), 2020, "Silica"; units are this
-- project's own).
use Rattle.std.specs.Prelude.{ℕ, List, ◌∷◌, Option, Some}
use Rattle.ob_base.specs.declared.id.ContractId.{ContractId}
use Rattle.ob_base.specs.declared.id.TxId.{TxId}
use Rattle.ob_table.specs.Tables.{signature_of}
use Rattle.ob_table_spec.specs.WellFormed.{constructor_at}
use Rattle.ob_heap_spec.specs.Values.{referred}
use Rattle.ob_heap_spec.specs.Worlds.{World}
use Rattle.ob_silica.specs.Terms.{SilicaTerms}
use Rattle.ob_silica_places.specs.Places.{Location, this}
use Rattle.ob_silica_steps.specs.Configurations.{SilicaProgram, Rest, Waiting, Configuration, NextStep}
use Rattle.ob_silica_steps.specs.Here.{here, if_there, with_unit, read}
use Rattle.ob_silica_steps.specs.Binding.{Bound, unbound, bind_all, without_field_loans}
use Rattle.ob_silica_places.specs.Parameters.{parameters, all_parameters}
use Rattle.ob_silica_steps.specs.Entering.{Entered, calls_object, calls_this, makes_object}

-- the frame of a configuration waits for a call, left with what was bound
abbrev pub waits : Configuration → Bound → SilicaTerms → List Rest → Option ℕ → List Waiting
waits c b rest outer result = record {
  frame = record c.frame { slots = b.from.slots };
  terms = rest;
  outer = outer;
  result = result;
  loans = b.loans;
} ∷ c.stack

-- what a body begins with, once the unit of its call is taken
abbrev pub entered_with : Configuration → Bound → SilicaTerms → List Rest → Option ℕ → World → Entered
entered_with c b rest outer result w =
    record { slots = b.slots; stack = waits c b rest outer result; notes = b.from.notes; world = w }

-- the receiver and the arguments are handed over, and then a unit is taken
abbrev pub call_step : SilicaProgram → Option ℕ → Location → ContractId → TxId → List Location → SilicaTerms
    → List Rest → Configuration → NextStep
call_step program result receiver contract tx args rest outer c =
    if_there (signature_of program.table contract tx) (λ s.
    if_there (read program.table (here c) receiver) (λ x. if_there (referred x.value) (λ n.
    bind_all program.table (unbound (here c)) (receiver ∷ args) 0 (all_parameters contract s) (λ b.
    with_unit b.from.world (λ w. calls_object program (entered_with c b rest outer result w) contract tx s n)))))

-- `this` and the arguments are handed over, and then a unit is taken; what fields lent is given back in its own way
abbrev pub call_this_step : SilicaProgram → Option ℕ → TxId → List Location → SilicaTerms → List Rest
    → Configuration → NextStep
call_this_step program result tx args rest outer c =
    if_there (signature_of program.table c.frame.contract tx) (λ s.
    bind_all program.table (unbound (here c)) (this ∷ args) 0 (all_parameters c.frame.contract s) (λ b.
    with_unit b.from.world (λ w.
    calls_this program (entered_with c (without_field_loans b) rest outer result w) c.frame tx s)))

-- the number of a contract's constructor
abbrev pub constructor_id : TxId
constructor_id = record { 0 = 0 }

-- the arguments are handed over, and then a unit is taken; an interface has no constructor, and its `new` no step
abbrev pub new_step : SilicaProgram → ℕ → ContractId → List Location → SilicaTerms → List Rest → Configuration → NextStep
new_step program k contract args rest outer c =
    if_there (constructor_at program.table contract) (λ s.
    bind_all program.table (unbound (here c)) args 1 (parameters s) (λ b.
    with_unit b.from.world (λ w.
    makes_object program (entered_with c b rest outer (Some k) w) contract constructor_id s)))
