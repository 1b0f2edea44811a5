-- What a running frame finds at an operand of a well-formed form.
use Rattle.std.proofs.Common.{◌≡◌, ℕ, ◌<◌, ◌≤◌, Option, Some, None, refl, sym, ap, ◌∙◌, arith}
use Rattle.std.specs.Prelude.{IsSome, slice_get, option_map, length}
use Rattle.std.proofs.lemmas.Option.{slice_get_within, same_Some}
use Rattle.ob_table.specs.Tables.{ClassTable, contract_at}
use Rattle.ob_table.specs.declared.contract.Contract.{Contract}
use Rattle.ob_table.specs.declared.contract.Field.{Field}
use Rattle.ob_table.specs.declared.seen.Kind.{Kind}
use Rattle.ob_table.specs.declared.seen.Kind.TheVariants.{Reference}
use Rattle.ob_table_spec.specs.Conditions.{IsClassTable}
use Rattle.ob_table_spec.specs.WellFormed.{kind_of_resolved}
use Rattle.ob_silica.specs.declared.place.Place.{Place}
use Rattle.ob_silica.specs.declared.place.Place.TheVariants.{This, Slot, Field as FieldPlace}
use Rattle.ob_silica.specs.Slots.{slots_of_place}
use Rattle.ob_silica_places.specs.Places.{location_of}
use Rattle.ob_silica_steps.specs.Cells.{Cell}
use Rattle.ob_silica_steps.specs.Configurations.{Configuration}
use Rattle.ob_silica_steps.specs.Here.{here, self_of}
use Rattle.ob_silica_formed.specs.Holdings.{kind_of_place}
use Rattle.ob_silica_formed.specs.Points.{IsPlace}
use Rattle.ob_flow_spec.specs.Contexts.{BodyFrame, static_of}
use Rattle.ob_coherent_spec.specs.Remaining.{body_of, IsPlaceIn}
use Rattle.ob_coherent_spec.specs.Coherent.{Beginning, IsRunning}
use Rattle.ob_soundness_laws.specs.places.Placed.{cell_at}
use Rattle.ob_soundness_laws.proofs.places.Reading.{kind_in_run}
use Rattle.ob_soundness_laws.proofs.tests.Finding.{own_in_run}

-- a place that a body names is one of its places
pub place_inside : (b : BodyFrame) (p : Place) → slots_of_place p ≤ b.slots → IsPlace (static_of b) p
    → IsPlaceIn b (location_of p)
place_inside b This few there = omega (arith, few)
place_inside b (Slot k) few there = omega (arith, few)
place_inside b (FieldPlace f) few there = by_field (slice_get b.own.fields f.0) refl there
  where
    by_field : (x : Option Field) → slice_get b.own.fields f.0 ≡ x → IsSome x → f.0 < length b.own.fields
    by_field None e is = absurd (cc)
    by_field (Some x) e is = slice_get_within b.own.fields f.0 x e

module _ (table : ClassTable) (t : IsClassTable table) (entry : Option ℕ) (beginning : Beginning) (c : Configuration)
    (k : IsRunning table entry beginning c) where
  -- the value at a place whose kind is known is noted with that kind
  pub kind_found : (p : Place) (x : Cell) (kind : Kind) → cell_at (here c) (location_of p) ≡ Some x
      → kind_of_place (static_of (body_of table c.frame k.whole.parts)) k.holdings p ≡ Some kind → x.note.kind ≡ kind
  kind_found This x kind e is =
      ap (λ (y : Cell). y.note.kind) (same_Some x k.whole.frame.this (sym e ∙ k.whole.frame.set)) ∙ k.whole.frame.kind
      ∙ same_Some (Reference c.frame.contract) kind is
  kind_found (Slot n) x kind e is = (k.held n x refl e).kind kind is
  kind_found (FieldPlace f) x kind e is =
      let r = kind_in_run table c.notes c.world.objects (self_of c.frame.slots)
      (own_in_run table t entry beginning c k) f.0 x e in
      let own : (own_in_run table t entry beginning c k).own ≡ k.whole.parts.own
      = same_Some (own_in_run table t entry beginning c k).own k.whole.parts.own
      (sym (own_in_run table t entry beginning c k).contract ∙ ap (contract_at table) k.whole.frame.contract
      ∙ k.whole.frame.own) in
      r.4 ∙ same_Some (kind_of_resolved r.1.of) kind
      (sym (ap (option_map (λ (x : Field). kind_of_resolved x.of))
      (ap (λ (o : Contract). slice_get o.fields f.0) (sym own) ∙ r.2)) ∙ is)
