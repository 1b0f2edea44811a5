-- The terms of an expression do what the expression does.
use Rattle.std.proofs.Common.{◌≡◌, ℕ, Bool, List, [], ◌∷◌, ◌++◌, Option, Some, None, refl, sym, ap, ◌∙◌, subst, inl}
use Rattle.ob_base.specs.declared.fault.Span.{Span}
use Rattle.ob_table.specs.Tables.{ClassTable}
use Rattle.ob_table.specs.declared.seen.Kind.{Kind}
use Rattle.ob_heap_spec.specs.Values.{Value}
use Rattle.ob_heap_spec.specs.Operations.{Operated, operated, overflows, other_kinds}
use Rattle.ob_heap_spec.specs.Worlds.{gives, with_some}
use Rattle.ob_source_meaning.specs.Expressions.{after_operation}
use Rattle.ob_silica.specs.Terms.{op_form, copy_form, SilicaTerms, and_term}
use Rattle.ob_silica.specs.declared.place.Operand.{Operand}
use Rattle.ob_silica.specs.declared.place.Place.TheVariants.{Slot}
use Rattle.ob_silica.specs.declared.term.SilicaOperator.{SilicaOperator}
use Rattle.ob_silica_steps.specs.Cells.{Cell, plain_cell, value_in}
use Rattle.ob_silica_places.specs.Known.{kind_of_operator}
use Rattle.ob_silica_places.specs.Places.{located, location_of, slot}
use Rattle.ob_silica_steps.specs.Configurations.{SilicaProgram, Rest, Control, runs, Configuration, NextStep, goes, stuck}
use Rattle.ob_silica_steps.specs.Here.{Here, read, set_slot, if_there}
use Rattle.ob_silica_places.specs.Known.{at}
use Rattle.ob_silica_steps.specs.Steps.{step}
use Rattle.ob_silica_steps.specs.Straight.{operate, with_operated, copy_to}
use Rattle.ob_lower_spec.specs.Points.{IsFree, Temporary, in_use}
use Rattle.ob_lower_spec.specs.ExpressionTerms.{Lowered, temporary}
use Rattle.ob_lower_correct.proofs.Slots.{Used, used_left, used_right, free_differs, slots_made, made_append, Within}
use Rattle.ob_lower_correct.proofs.Runs.{Leads, Ends, one_step}
use Rattle.ob_lower_correct.proofs.Standing.{Setting, config, shape, Kept, Stands, Comes, Reached, later_self, at_same, at_other, same_value, none_some, some_same}

-- the value of an operand stands in this slot, which is in use
pub record InSlot (o : Operand) (v : Value) (used : List ℕ) (t : Here) : Type 0 where
  pub slot : ℕ
  pub place : o.place ≡ Slot slot
  pub inside : Used slot used
  pub value : value_in (t.slots slot) ≡ Some v

-- the value of an expression stands in a temporary that it made
pub record Result (l : Lowered) (used : List ℕ) (t : Here) (v : Value) : Type 0 where
  pub slot : ℕ
  pub place : l.operand.place ≡ Slot slot
  pub inside : Used slot (in_use l.made used)
  pub fresh : IsFree slot used
  pub value : value_in (t.slots slot) ≡ Some v

pub in_slot_on : {o : Operand} {v : Value} {used : List ℕ} {t r : Here} → InSlot o v used t → Kept used t.slots r.slots → InSlot o v used r
in_slot_on {t = t} {r = r} i k = record { slot = i.slot; place = i.place; inside = i.inside; value = same_value (r.slots i.slot) (t.slots i.slot) (k.by i.slot i.inside) ∙ i.value }

pub in_slot_wide : {o : Operand} {v : Value} {used more : List ℕ} {t : Here} → InSlot o v used t → Within used more → InSlot o v more t
in_slot_wide i w = record { slot = i.slot; place = i.place; inside = w.by i.slot i.inside; value = i.value }

pub in_slot : {l : Lowered} {used : List ℕ} {t : Here} {v : Value} → Result l used t v → InSlot l.operand v (in_use l.made used) t
in_slot r = record { slot = r.slot; place = r.place; inside = r.inside; value = r.value }

pub read_in_slot : (table : ClassTable) {o : Operand} {v : Value} {used : List ℕ} {t : Here} → InSlot o v used t → value_in (read table t (located o)) ≡ Some v
read_in_slot table {t = t} i = ap (λ q. value_in (read table t (location_of q))) i.place ∙ i.value

-- What reading leads to.

pub read_one : (c : Option Cell) (v : Value) (go : Value → NextStep) → value_in c ≡ Some v → if_there c (λ x. go x.value) ≡ go v
read_one None v go e = absurd (none_some e)
read_one (Some x) v go e = ap go (some_same x.value v e)

pub read_two : (c d : Option Cell) (v u : Value) (go : Value → Value → NextStep) → value_in c ≡ Some v → value_in d ≡ Some u → if_there c (λ x. if_there d (λ y. go x.value y.value)) ≡ go v u
read_two None d v u go e h = absurd (none_some e)
read_two (Some x) None v u go e h = absurd (none_some h)
read_two (Some x) (Some y) v u go e h = ap (λ z. go z y.value) (some_same x.value v e) ∙ ap (go v) (some_same y.value u h)

-- what is there, with its cell
pub there : (c : Option Cell) (v : Value) → value_in c ≡ Some v → (x : Cell) × (c ≡ Some x) × (x.value ≡ v)
there None v e = absurd (none_some e)
there (Some x) v e = (x, refl, some_same x.value v e)

pub not_there : (c : Option Cell) (go : Cell → NextStep) → value_in c ≡ None → if_there c go ≡ stuck
not_there None go e = refl
not_there (Some x) go e = absurd (none_some (sym e))

pub used_last : (k : ℕ) (b : Bool) (made : List Temporary) (used : List ℕ) → Used k (in_use (made ++ temporary k b ∷ []) used)
used_last k b made used = used_left k (slots_made (made ++ temporary k b ∷ [])) used
    (subst (Used k) (sym (made_append made (temporary k b ∷ []))) (used_right k (slots_made made) (k ∷ []) (inl refl)))

module _ (program : SilicaProgram) (most : ℕ) where
  pub comes_set : {s : Setting} {h : Here} {used : List ℕ} (k : ℕ) (x : Option Cell) → IsFree k used → Stands program.table most s h → Comes program.table most used h (set_slot k x h)
  comes_set {h = h} {used = used} k x free st = record {
    kept = record { by = λ n u. ap shape (at_other h.slots k x n (free_differs k used free n u)) };
    later = later_self h.world;
    noted = st.noted;
    fuel = st.fuel;
  }

  -- one form that sets a temporary
  pub sets : {s : Setting} {h : Here} {used : List ℕ} {control : Control} {c : Configuration} (l : Lowered) (k : ℕ) (x : Cell) (v : Value)
      → l.operand.place ≡ Slot k → Used k (in_use l.made used) → IsFree k used → x.value ≡ v → Stands program.table most s h
      → Leads program c (goes (config s (set_slot k (Some x) h) control))
      → Ends program (Reached program most (λ t u. Result l used t u) used s h control) c (gives v h.world)
  sets {h = h} l k x v place inside free e st leads = record {
    by = record {
      slots = at h.slots k (Some x);
      notes = h.notes;
      comes = comes_set k (Some x) free st;
      holds = record { slot = k; place = place; inside = inside; fresh = free; value = ap value_in (at_same h.slots k (Some x)) ∙ ap Some e };
      leads = leads;
    };
  }

  operated_runs : {s : Setting} {h : Here} {used : List ℕ} {rest : SilicaTerms} {outer : List Rest} {c : Configuration} (l : Lowered) (k : ℕ) (kind : Kind) (sign : Span) (r : Operated)
      → l.operand.place ≡ Slot k → Used k (in_use l.made used) → IsFree k used → Stands program.table most s h
      → step program c ≡ with_operated sign.line h.world r (λ v. goes (config s (set_slot k (Some (plain_cell v kind)) h) (runs rest outer)))
      → Ends program (Reached program most (λ t u. Result l used t u) used s h (runs rest outer)) c (after_operation sign r h.world)
  operated_runs l k kind sign (operated v) place inside free st e = sets l k (plain_cell v kind) v place inside free refl st (one_step program e)
  operated_runs l k kind sign overflows place inside free st e = record { by = one_step program e }
  operated_runs l k kind sign other_kinds place inside free st e = record { by = one_step program e }

  -- an operator's form
  pub op_runs : (s : Setting) (h : Here) (used : List ℕ) (rest : SilicaTerms) (outer : List Rest) (span : Span) (l : Lowered) (k : ℕ) (o : SilicaOperator) (a b : Operand) (sign : Span) (x y : Value)
      → l.operand.place ≡ Slot k → Used k (in_use l.made used) → IsFree k used → Stands program.table most s h
      → value_in (read program.table h (located a)) ≡ Some x → value_in (read program.table h (located b)) ≡ Some y
      → Ends program (Reached program most (λ t u. Result l used t u) used s h (runs rest outer))
      (config s h (runs (and_term (op_form k o a b sign.line) span rest) outer)) (after_operation sign (operate o x y) h.world)
  op_runs s h used rest outer span l k o a b sign x y place inside free st ea eb =
      operated_runs l k (kind_of_operator o) sign (operate o x y) place inside free st
      (read_two (read program.table h (located a)) (read program.table h (located b)) x y
      (λ u v. with_operated sign.line h.world (operate o u v) (λ z. goes (config s (set_slot k (Some (plain_cell z (kind_of_operator o))) h) (runs rest outer)))) ea eb)

  -- a copy of a place that may have no value, into a slot
  pub copy_runs : (s : Setting) (h : Here) (used : List ℕ) (rest : SilicaTerms) (outer : List Rest) (span : Span) (l : Lowered) (k : ℕ) (from : Operand) (o : Option Value)
      → l.operand.place ≡ Slot k → Used k (in_use l.made used) → IsFree k used → Stands program.table most s h
      → value_in (read program.table h (located from)) ≡ o
      → Ends program (Reached program most (λ t u. Result l used t u) used s h (runs rest outer))
      (config s h (runs (and_term (copy_form (Slot k) from) span rest) outer)) (with_some o (λ v. gives v h.world))
  copy_runs s h used rest outer span l k from None place inside free st e =
      record { by = one_step program (not_there (read program.table h (located from)) (λ x. copy_to program.table (slot k) x h (λ n. goes (config s n (runs rest outer)))) e) }
  copy_runs s h used rest outer span l k from (Some v) place inside free st e =
      let x = there (read program.table h (located from)) v e in
      sets l k (plain_cell x.0.value x.0.note.kind) v place inside free x.2 st
      (one_step program (ap (λ c. if_there c (λ x. copy_to program.table (slot k) x h (λ n. goes (config s n (runs rest outer))))) x.1))
