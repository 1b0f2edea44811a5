-- What a call hands over.
use Rattle.std.proofs.Common.{◌≡◌, ℕ, suc, ◌<◌, ◌≤◌, List, [], ◌∷◌, map, length, Option, Some, None, refl, sym, ap, ◌∙◌, subst, arith, ◌⊎◌, inl, inr}
use Rattle.std.specs.Prelude.{option_map, option_and_then}
use Rattle.ob_table.specs.Tables.{ClassTable}
use Rattle.ob_table.specs.declared.contract.ResolvedType.{ResolvedType}
use Rattle.ob_table.specs.declared.contract.Param.{Param}
use Rattle.ob_heap_spec.specs.Values.{Value}
use Rattle.ob_heap_spec.specs.Worlds.{World}
use Rattle.ob_heap_spec.specs.Marks.{comes_into}
use Rattle.ob_source_meaning.specs.Bodies.{args_come}
use Rattle.ob_silica_steps.specs.Cells.{Cell, value_in}
use Rattle.ob_silica_places.specs.Places.{Location}
use Rattle.ob_silica_steps.specs.Configurations.{SilicaProgram, SlotCells, NextStep, stuck}
use Rattle.ob_silica_steps.specs.Here.{Here, read, if_there, hand}
use Rattle.ob_silica_places.specs.Known.{at}
use Rattle.ob_silica_steps.specs.Binding.{bound_cell, Bound, bind_one, bind_all}
use Rattle.ob_silica_places.specs.Parameters.{Parameter, parameter_of}
pub use Rattle.ob_lower_correct.specs.Bodies.{HoldsFrom}
use Rattle.ob_lower_correct.proofs.Standing.{shape, none_some, some_same, at_same, at_other}
use Rattle.ob_lower_correct.proofs.Changes.{Alike, alike_self, alike_on, Quiet, quiet_self, quiet_on, quiet_into}
use Rattle.ob_lower_correct.proofs.Placing.{hand_alike, hand_world}
use Rattle.ob_lower_correct.proofs.Filling.{read_alike}
use Rattle.ob_lower_correct.proofs.Values.{there, not_there}
use Rattle.ob_lower_correct.proofs.Calling.{read_values}

-- values come into parameters, one after another
abbrev pub come_all : List Parameter → List Value → World → World
come_all [] vs w = w
come_all (p ∷ ps) [] w = w
come_all (p ∷ ps) (v ∷ vs) w = come_all ps vs (comes_into p.of v w)

-- the slots of parameters with these values
abbrev pub bound_slots : SlotCells → ℕ → List Parameter → List Value → SlotCells
bound_slots slots k [] vs = slots
bound_slots slots k (p ∷ ps) [] = slots
bound_slots slots k (p ∷ ps) (v ∷ vs) = bound_slots (at slots k (Some (bound_cell p.of v))) (suc k) ps vs

pub come_args : (params : List Param) (args : List Value) (w : World) → args_come params args w ≡ come_all (map parameter_of params) args w
come_args [] args w = refl
come_args (p ∷ params) [] w = refl
come_args (p ∷ params) (v ∷ args) w = come_args params args (comes_into p.of v w)

pub quiet_all : (ps : List Parameter) (vs : List Value) (w : World) → Quiet w (come_all ps vs w)
quiet_all [] vs w = quiet_self w
quiet_all (p ∷ ps) [] w = quiet_self w
quiet_all (p ∷ ps) (v ∷ vs) w = quiet_on (quiet_into p.of v w) (quiet_all ps vs (comes_into p.of v w))

pub values_alike : (table : ClassTable) (h t : Here) (places : List Location) → Alike h t → Quiet h.world t.world → read_values table t places ≡ read_values table h places
values_alike table h t [] a q = refl
values_alike table h t (p ∷ ps) a q =
    ap (λ r. option_and_then (λ v. option_map (λ vs. v ∷ vs) (read_values table t ps)) r) (read_alike table h t a q p)
    ∙ ap (λ r. option_and_then (λ v. option_map (λ vs. v ∷ vs) r) (value_in (read table h p))) (values_alike table h t ps a q)

pub split_values : (r : Option Value) (rest : Option (List Value)) (vs : List Value) → option_and_then (λ v. option_map (λ us. v ∷ us) rest) r ≡ Some vs
    → (v : Value) × (us : List Value) × (r ≡ Some v) × (rest ≡ Some us) × (v ∷ us ≡ vs)
split_values None rest vs e = absurd (none_some e)
split_values (Some v) None vs e = absurd (none_some e)
split_values (Some v) (Some us) vs e = (v, us, refl, refl, some_same (v ∷ us) vs e)

no_values : (r : Option Value) (rest : Option (List Value)) → option_and_then (λ v. option_map (λ us. v ∷ us) rest) r ≡ None → (r ≡ None) ⊎ (rest ≡ None)
no_values None rest e = inl refl
no_values (Some v) None e = inr refl
no_values (Some v) (Some us) e = absurd (none_some (sym e))

-- so many places, so many values
pub read_length : (table : ClassTable) (h : Here) (places : List Location) (vs : List Value) → read_values table h places ≡ Some vs → length vs ≡ length places
read_length table h [] vs e = ap length (sym (some_same [] vs e))
read_length table h (p ∷ ps) vs e =
    let x = split_values (value_in (read table h p)) (read_values table h ps) vs e in
    ap length (sym x.4) ∙ ap suc (read_length table h ps x.1 x.3)

all_stuck : (o : Option Cell) (go : Cell → NextStep) → ((c : Cell) → go c ≡ stuck) → if_there o go ≡ stuck
all_stuck None go each = refl
all_stuck (Some c) go each = each c

-- what a call has handed over
pub record HandedOver (b d : Bound) (k : ℕ) (ps : List Parameter) (vs : List Value) : Type 0 where
  pub alike : Alike b.from d.from
  pub world : d.from.world ≡ come_all ps vs b.from.world
  pub slots : d.slots ≡ bound_slots b.slots k ps vs

module _ (program : SilicaProgram) (most : ℕ) where
  abbrev table : ClassTable
  table = program.table

  quiet_hand : (of : ResolvedType) (place : Location) (c : Cell) (h : Here) → Quiet h.world (hand of place c h).world
  quiet_hand of place c h = subst (Quiet h.world) (sym (hand_world program most of place c h)) (quiet_into of c.value h.world)

  -- where a place has no value there is no step
  pub bind_stuck : (places : List Location) (ps : List Parameter) (b : Bound) (k : ℕ) (go : Bound → NextStep) → read_values table b.from places ≡ None → bind_all table b places k ps go ≡ stuck
  bind_stuck [] ps b k go e = absurd (none_some (sym e))
  bind_stuck (place ∷ places) [] b k go e = refl
  bind_stuck (place ∷ places) (p ∷ ps) b k go e =
      one_stuck place places p ps b k go (λ c h. bind_stuck places ps (bind_one table b place c k p) (suc k) go
      (values_alike table b.from (hand p.of place c b.from) places (hand_alike program most p.of place c b.from) (quiet_hand p.of place c b.from) ∙ h))
      (no_values (value_in (read table b.from place)) (read_values table b.from places) e)
    where
      one_stuck : (place : Location) (places : List Location) (p : Parameter) (ps : List Parameter) (b : Bound) (k : ℕ) (go : Bound → NextStep)
          → ((c : Cell) → read_values table b.from places ≡ None → bind_all table (bind_one table b place c k p) places (suc k) ps go ≡ stuck)
          → (value_in (read table b.from place) ≡ None) ⊎ (read_values table b.from places ≡ None) → bind_all table b (place ∷ places) k (p ∷ ps) go ≡ stuck
      one_stuck place places p ps b k go each (inl e) = not_there (read table b.from place) _ e
      one_stuck place places p ps b k go each (inr e) = all_stuck (read table b.from place) _ (λ c. each c e)

  -- all places are handed over
  pub binds : (places : List Location) (ps : List Parameter) (vs : List Value) (b : Bound) (k : ℕ) → read_values table b.from places ≡ Some vs → length vs ≡ length ps
      → (d : Bound) × ((go : Bound → NextStep) → bind_all table b places k ps go ≡ go d) × HandedOver b d k ps vs
  binds [] [] vs b k e len = (b, λ go. refl, rw (sym (some_same [] vs e)) (record { alike = alike_self b.from; world = refl; slots = refl }))
  binds (place ∷ places) [] vs b k e len =
      let x = split_values (value_in (read table b.from place)) (read_values table b.from places) vs e in absurd (no_length (ap length x.4 ∙ len))
    where
      no_length : {n : ℕ} → suc n ≡ 0 → ⊥
      no_length e = omega (arith, e)
  binds [] (p ∷ ps) vs b k e len = absurd (no_length (ap length (some_same [] vs e) ∙ len))
    where
      no_length : {n : ℕ} → 0 ≡ suc n → ⊥
      no_length e = omega (arith, e)
  binds (place ∷ places) (p ∷ ps) vs b k e len =
      let x = split_values (value_in (read table b.from place)) (read_values table b.from places) vs e in
      let c = there (read table b.from place) x.0 x.2 in
      let b1 = bind_one table b place c.0 k p in
      let rest = binds places ps x.1 b1 (suc k) (values_alike table b.from (hand p.of place c.0 b.from) places (hand_alike program most p.of place c.0 b.from) (quiet_hand p.of place c.0 b.from) ∙ x.3) (one_less (ap length x.4 ∙ len)) in (
        rest.0,
        λ go. ap (λ o. if_there o (λ c. bind_all table (bind_one table b place c k p) places (suc k) ps go)) c.1 ∙ rest.1 go,
        subst (λ us. HandedOver b rest.0 k (p ∷ ps) us) x.4 (record {
          alike = alike_on (hand_alike program most p.of place c.0 b.from) rest.2.alike;
          world = rest.2.world ∙ ap (come_all ps x.1) (hand_world program most p.of place c.0 b.from ∙ ap (λ u. comes_into p.of u b.from.world) c.2);
          slots = rest.2.slots ∙ ap (λ u. bound_slots (at b.slots k (Some (bound_cell p.of u))) (suc k) ps x.1) c.2;
        }),
      )
    where
      one_less : {n m : ℕ} → suc n ≡ suc m → n ≡ m
      one_less e = omega (arith, e)

-- The slots of what is handed over.

pub bound_below : (ps : List Parameter) (vs : List Value) (slots : SlotCells) (k n : ℕ) → n < k → bound_slots slots k ps vs n ≡ slots n
bound_below [] vs slots k n lt = refl
bound_below (p ∷ ps) [] slots k n lt = refl
bound_below (p ∷ ps) (v ∷ vs) slots k n lt =
    bound_below ps vs (at slots k (Some (bound_cell p.of v))) (suc k) n (omega (arith, lt)) ∙ at_other slots k (Some (bound_cell p.of v)) n (λ e. omega (arith, lt, e))

pub bound_holds : (ps : List Parameter) (vs : List Value) (slots : SlotCells) (k : ℕ) → length vs ≡ length ps → HoldsFrom (bound_slots slots k ps vs) k ps vs
bound_holds [] [] slots k len = tt
bound_holds (p ∷ ps) (v ∷ vs) slots k len = (
  ap shape (bound_below ps vs (at slots k (Some (bound_cell p.of v))) (suc k) k (omega arith) ∙ at_same slots k (Some (bound_cell p.of v))),
  bound_holds ps vs (at slots k (Some (bound_cell p.of v))) (suc k) (omega (arith, len)),
)
bound_holds [] (v ∷ vs) slots k len = absurd (omega (arith, len))
bound_holds (p ∷ ps) [] slots k len = absurd (omega (arith, len))

pub holds_on : (ps : List Parameter) (vs : List Value) (slots more : SlotCells) (k : ℕ) → ((n : ℕ) → k ≤ n → shape (more n) ≡ shape (slots n)) → HoldsFrom slots k ps vs → HoldsFrom more k ps vs
holds_on [] [] slots more k same h = tt
holds_on (p ∷ ps) (v ∷ vs) slots more k same h = (same k (omega arith) ∙ h.0, holds_on ps vs slots more (suc k) (λ n le. same n (omega (arith, le))) h.1)
holds_on [] (v ∷ vs) slots more k same h = absurd h
holds_on (p ∷ ps) [] slots more k same h = absurd h
