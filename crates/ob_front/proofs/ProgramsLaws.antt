-- A text is one program at most, or has one first fault.
use native.Mathlib.Omega.{arith}
use Rattle.std.proofs.Common.{ℕ, ◌≡◌, ◌≤◌, ◌<◌, suc, List, [], ◌∷◌, Some, None, map, sym, ap, ◌∙◌, subst}
use Rattle.std.specs.Prelude.{All}
use Rattle.ob_base.specs.Limits.{most_weight}
use Rattle.ob_base.specs.declared.fault.ProgramFault.{ProgramFault}
use Rattle.ob_table.specs.Tables.{ClassTable}
use Rattle.ob_silica.specs.Terms.{SilicaBody}
use Rattle.ob_silica.specs.TermsView.{silica_body_of}
use Rattle.ob_silica.specs.declared.body.TermBody.{TermBody}
use Rattle.ob_flow_spec.specs.Deriving.{Derives}
use Rattle.ob_emit_spec.specs.Weights.{weight, IsTooHeavy}
use Rattle.ob_front.specs.Stages.{HasTable, HasTableFault}
use Rattle.std.proofs.lemmas.List.Elements.{All-cons}
use Rattle.ob_table.specs.Statements.{ResolvedBody}
use Rattle.ob_table_spec.specs.Conditions.{IsClassTable}
use Rattle.ob_table_spec.specs.WellFormed.{IsWellFormed}
use Rattle.ob_flow_spec.specs.Numbered.{AllNameStates}
use Rattle.ob_lower_formed.proofs.NamesStates.{lowered_terms_name_states_lem}
use Rattle.ob_lower_functions.proofs.Bodies.{gives_terms}
use Rattle.ob_base.specs.TextErrors.{OnFault}
use Rattle.ob_base.specs.declared.text_error.TextError.{TextError}
use Rattle.ob_base.specs.declared.text_error.TextError.TheVariants.{Fault, Memory}
use Rattle.ob_front.specs.Lowered.{AreLoweredTo, first_slot_past, LacksSlots}
use Rattle.ob_front.specs.Checked.{AllNumbered, first_flow_fault, FailsPremise}
use Rattle.ob_front.proofs.MiddleLaws.{some_is, one_lowering, none_past, one_slot_fault, none_fails}
use Rattle.ob_front.specs.Programs.{HasTerms, HasTermsFault, at_table, at_slot, IsChecked, IsProgram, IsAccepted, HasTextFault, at_terms, at_premise, at_weight}
use Rattle.ob_front.proofs.StagesLaws.{one_table, table_or_none, one_table_fault_lem, well_formed}

terms_or_slot : (text : List ℕ) (table other : ClassTable) (bodies : List SilicaBody) (fault : ProgramFault) → HasTerms text table bodies → HasTable text other → ¬ (LacksSlots other fault)
terms_or_slot text table other bodies fault is has lacks =
    let same = one_table text table other is.has has in
    let e : first_slot_past other other.bodies ≡ None = subst (λ (t : ClassTable). first_slot_past t t.bodies ≡ None) same (none_past table table.bodies bodies is.lowered) in
    let f : None ≡ Some fault.span = sym e ∙ lacks.place in
    cc

-- a text whose bodies have terms has no fault up to them
terms_or_fault : (text : List ℕ) (table : ClassTable) (bodies : List SilicaBody) (fault : ProgramFault) → HasTerms text table bodies → ¬ (HasTermsFault text fault)
terms_or_fault text table bodies fault is (at_table none) = table_or_none text table fault is.has none
terms_or_fault text table bodies fault is (at_slot other has lacks) = terms_or_slot text table other bodies fault is has lacks

one_terms_fault : (text : List ℕ) (a b : ProgramFault) → HasTermsFault text a → HasTermsFault text b → a ≡ b
one_terms_fault text a b (at_table p) (at_table q) = one_table_fault_lem text a b p q
one_terms_fault text a b (at_table p) (at_slot table has q) = absurd (table_or_none text table a has p)
one_terms_fault text a b (at_slot table has p) (at_table q) = absurd (table_or_none text table b has q)
one_terms_fault text a b (at_slot table has p) (at_slot other has' q) =
    one_slot_fault other a b (subst (λ t. LacksSlots t a) (one_table text table other has has') p) q

-- ---- programs

-- the terms of a text's bodies are one list at most
one_terms : (text : List ℕ) (table other : ClassTable) (bodies more : List SilicaBody) → HasTerms text table bodies → HasTerms text other more
    → first_flow_fault table bodies ≡ first_flow_fault other more
one_terms text table other bodies more one two =
    let same = one_table text table other one.has two.has in
    let there : AreLoweredTo other other.bodies bodies = subst (λ (t : ClassTable). AreLoweredTo t t.bodies bodies) same one.lowered in
    ap (λ t. first_flow_fault t bodies) same ∙ ap (first_flow_fault other) (one_lowering other other.bodies bodies more there two.lowered)

checked_or_premise : (text : List ℕ) (table other : ClassTable) (bodies more : List SilicaBody) (fault : ProgramFault) → IsChecked text table bodies
    → HasTerms text other more → ¬ (first_flow_fault other more ≡ Some fault)
checked_or_premise text table other bodies more fault is terms fails =
    let f : None ≡ Some fault = sym (none_fails table bodies is.derive) ∙ one_terms text table other bodies more is.terms terms ∙ fails in
    cc

-- what a text weighs is one number
one_weight : (text : List ℕ) (table other : ClassTable) (bodies more : List SilicaBody) → HasTerms text table bodies → HasTerms text other more
    → weight table bodies ≡ weight other more
one_weight text table other bodies more one two =
    let same = one_table text table other one.has two.has in
    let there : AreLoweredTo other other.bodies bodies = subst (λ (t : ClassTable). AreLoweredTo t t.bodies bodies) same one.lowered in
    ap (λ t. weight t bodies) same ∙ ap (weight other) (one_lowering other other.bodies bodies more there two.lowered)

-- a program isn't too heavy
program_or_weight : (text : List ℕ) (table other : ClassTable) (bodies more : List SilicaBody) (fault : ProgramFault) → IsProgram text table bodies
    → IsChecked text other more → ¬ (IsTooHeavy other more fault)
program_or_weight text table other bodies more fault is checked heavy =
    let same = one_weight text table other bodies more is.checked.terms checked.terms in
    let light : weight table bodies ≤ most_weight = is.light in
    let past : most_weight < weight other more = heavy.heavy in
    omega (arith, same, light, past)

-- two faults of weight are one
one_weight_fault : (table other : ClassTable) (bodies more : List SilicaBody) (a b : ProgramFault) → IsTooHeavy table bodies a → IsTooHeavy other more b → a ≡ b
one_weight_fault table other bodies more a b x y =
    ap (λ n. record a { number = n }) (x.number ∙ sym y.number) ∙ ap (λ s. record { number = b.number; span = s }) (x.span ∙ sym y.span)

-- a text that is accepted has no first fault
pub never_accepted_and_faulty_lem : (text : List ℕ) (fault : ProgramFault) → HasTextFault text fault → ¬ (IsAccepted text)
never_accepted_and_faulty_lem text fault (at_terms has) is = terms_or_fault text is.table is.bodies fault is.is.checked.terms has
never_accepted_and_faulty_lem text fault (at_premise table bodies terms fails) is = checked_or_premise text is.table table is.bodies bodies fault is.is.checked terms fails
never_accepted_and_faulty_lem text fault (at_weight table bodies checked heavy) is = program_or_weight text is.table table is.bodies bodies fault is.is checked heavy

-- nor has any text two
pub one_text_fault_lem : (text : List ℕ) (a b : ProgramFault) → HasTextFault text a → HasTextFault text b → a ≡ b
one_text_fault_lem text a b (at_terms p) (at_terms q) = one_terms_fault text a b p q
one_text_fault_lem text a b (at_terms p) (at_premise table bodies terms fails) = absurd (terms_or_fault text table bodies a terms p)
one_text_fault_lem text a b (at_premise table bodies terms fails) (at_terms q) = absurd (terms_or_fault text table bodies b terms q)
one_text_fault_lem text a b (at_premise table bodies terms fails) (at_premise other more terms' fails') =
    some_is a b (sym fails ∙ one_terms text table other bodies more terms terms' ∙ fails')
one_text_fault_lem text a b (at_terms p) (at_weight table bodies checked heavy) = absurd (terms_or_fault text table bodies a checked.terms p)
one_text_fault_lem text a b (at_weight table bodies checked heavy) (at_terms q) = absurd (terms_or_fault text table bodies b checked.terms q)
one_text_fault_lem text a b (at_premise table bodies terms fails) (at_weight other more checked heavy) =
    absurd (checked_or_premise text other table more bodies a checked terms fails)
one_text_fault_lem text a b (at_weight other more checked heavy) (at_premise table bodies terms fails) =
    absurd (checked_or_premise text other table more bodies b checked terms fails)
one_text_fault_lem text a b (at_weight table bodies checked heavy) (at_weight other more checked' heavy') =
    one_weight_fault table other bodies more a b heavy heavy'

pub accepted_program : (text : List ℕ) (table : ClassTable) (bodies : List SilicaBody) → IsProgram text table bodies → IsAccepted text
accepted_program text table bodies is = record { table = table; bodies = bodies; is = is }

-- ---- what is told of a text, stage by stage

-- of a text without a class table
pub table_told : (text : List ℕ) (cause : TextError) → OnFault cause (HasTableFault text) → OnFault cause (HasTermsFault text)
table_told text (Fault fault) has = at_table has
table_told text Memory has = tt

-- of one whose bodies need too many slots
pub slot_told : (text : List ℕ) (table : ClassTable) (cause : TextError) → HasTable text table → OnFault cause (LacksSlots table)
    → OnFault cause (HasTermsFault text)
slot_told text table (Fault fault) has lacks = at_slot table has lacks
slot_told text table Memory has lacks = tt

-- of one whose bodies have no terms
pub terms_told : (text : List ℕ) (cause : TextError) → OnFault cause (HasTermsFault text) → OnFault cause (HasTextFault text)
terms_told text (Fault fault) has = at_terms has
terms_told text Memory has = tt

-- of one of whose bodies a premise fails
pub premise_told : (text : List ℕ) (table : ClassTable) (bodies : List SilicaBody) (cause : TextError) → HasTerms text table bodies
    → OnFault cause (FailsPremise table bodies) → OnFault cause (HasTextFault text)
premise_told text table bodies (Fault fault) terms fails = at_premise table bodies terms fails
premise_told text table bodies Memory terms fails = tt

-- of one that weighs too much
pub weight_told : (text : List ℕ) (table : ClassTable) (bodies : List SilicaBody) (cause : TextError) → IsChecked text table bodies
    → OnFault cause (IsTooHeavy table bodies) → OnFault cause (HasTextFault text)
weight_told text table bodies (Fault fault) checked heavy = at_weight table bodies checked heavy
weight_told text table bodies Memory checked heavy = tt

-- ---- what the check of permissions needs

pub conditions_met : (text : List ℕ) (table : ClassTable) (bodies : List SilicaBody) → HasTerms text table bodies → IsClassTable table
conditions_met text table bodies terms = (well_formed text table terms.has).conditions

-- terms of well-formed bodies name states by their numbers
numbered_of : (table : ClassTable) (bs : List ResolvedBody) (ls : List SilicaBody) → IsClassTable table → All (IsWellFormed table) bs
    → AreLoweredTo table bs ls → AllNumbered ls
numbered_of table [] [] is made lowered = λ k d h. absurd (omega (arith, h))
numbered_of table [] (l ∷ ls) is made lowered = absurd lowered
numbered_of table (b ∷ bs) [] is made lowered = absurd lowered
numbered_of table (b ∷ bs) (l ∷ ls) is made lowered =
    All-cons (λ body. AllNameStates body.terms) l ls
    (lowered_terms_name_states_lem table b l is (made 0 b (omega arith)) (gives_terms table b l lowered.0).lowers)
    (numbered_of table bs ls is (λ k d h. made (suc k) d (omega (arith, h))) lowered.1)

pub all_numbered : (text : List ℕ) (table : ClassTable) (bodies : List SilicaBody) → HasTerms text table bodies → AllNumbered bodies
all_numbered text table bodies terms =
    numbered_of table table.bodies bodies (conditions_met text table bodies terms) (well_formed text table terms.has).bodies terms.lowered

-- ---- the same of a slice of the bodies

pub numbered_slice : (text : List ℕ) (table : ClassTable) (bodies slice : List TermBody) → HasTerms text table (map silica_body_of bodies) → slice ≡ bodies
    → AllNumbered (map silica_body_of slice)
numbered_slice text table bodies slice terms whole =
    subst (λ bs. AllNumbered (map silica_body_of bs)) (sym whole) (all_numbered text table (map silica_body_of bodies) terms)

pub slice_told : (text : List ℕ) (table : ClassTable) (bodies slice : List TermBody) (cause : TextError) → HasTerms text table (map silica_body_of bodies)
    → slice ≡ bodies → OnFault cause (FailsPremise table (map silica_body_of slice)) → OnFault cause (HasTextFault text)
slice_told text table bodies slice cause terms whole fails =
    premise_told text table (map silica_body_of bodies) cause terms
    (subst (λ bs. OnFault cause (FailsPremise table (map silica_body_of bs))) whole fails)

pub slice_derives : (text : List ℕ) (table : ClassTable) (bodies slice : List TermBody) → HasTerms text table (map silica_body_of bodies) → slice ≡ bodies
    → All (Derives table) (map silica_body_of slice) → IsChecked text table (map silica_body_of bodies)
slice_derives text table bodies slice terms whole derive = record {
  terms = terms;
  derive = subst (λ bs. All (Derives table) (map silica_body_of bs)) whole derive;
}
