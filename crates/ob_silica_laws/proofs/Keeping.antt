-- What each effect of a step keeps of a world.
use Rattle.std.proofs.Common.{◌≡◌, ℕ, zero, suc, ◌+◌, ◌≤◌, Bool, true, false, Option, Some, None, refl, ◌∙◌, arith}
use Rattle.std.specs.Prelude.{if◌then◌else◌}
use Rattle.ob_table.specs.declared.contract.ResolvedType.{ResolvedType}
use Rattle.ob_heap_spec.specs.Values.{Value}
use Rattle.ob_heap_spec.specs.Worlds.{World, Spent, AbortCause, by_fuel, with_unit_taken}
use Rattle.ob_heap_spec.specs.Marks.{comes_into, lock, unlock, enter, leave}
use Rattle.ob_heap_spec.specs.Objects.{with_field}
use Rattle.ob_source_laws.specs.Laws.{Grows, KeepsObjects}
use Rattle.ob_source_laws.proofs.Follows.{Follows, Tells, grows_none, grows_on, keeps_all, keeps_on, follows_unit, follows_edit, spared_this}
use Rattle.ob_source_laws.proofs.Marking.{follows_into}
use Rattle.ob_silica_steps.specs.Cells.{Cell}
use Rattle.ob_silica_places.specs.Places.{Location, slot, field}
use Rattle.ob_silica_steps.specs.Configurations.{Configuration, Control, Ends, plain_end, test_end, lock_end, loop_end, How, by_receiver, by_this, by_new, NextStep, goes, ended, abort_step, stuck}
use Rattle.ob_perm.specs.Permissions.{Permission}
use Rattle.ob_silica_steps.specs.Here.{Here, if_there, with_fuel_left, with_unit, set_permission, set_field, hand, self_of, goes_to}
use Rattle.ob_silica_steps.specs.Testing.{end_branch}
use Rattle.ob_silica_steps.specs.Returning.{leaves_progress}
use Rattle.ob_silica_laws.specs.Laws.{LeadsSo}

-- all that steps keep of a world
pub record Keeps (w v : World) : Type 0 where
  pub fuel : v.fuel ≤ w.fuel
  pub units : v.fuel + v.taken ≡ w.fuel + w.taken
  pub reads : Grows w.reads v.reads
  pub objects : KeepsObjects w v

-- a world that keeps all of w, or an abort that tells of it
pub record Leads (w : World) (next : NextStep) : Type 0 where
  pub by : LeadsSo (Keeps w) (Tells w) next

pub keeps_self : (w : World) → Keeps w w
keeps_self w = record { fuel = omega arith; units = refl; reads = grows_none w.reads; objects = keeps_all w }

pub keeps_then : {w v u : World} → Keeps w v → Keeps v u → Keeps w u
keeps_then a b = record { fuel = omega (arith, a.fuel, b.fuel); units = b.units ∙ a.units; reads = grows_on a.reads b.reads; objects = keeps_on a.objects b.objects }

pub then_follows : {w v u : World} → Keeps w v → Follows None v u → Keeps w u
then_follows a b = record { fuel = omega (arith, a.fuel, b.fuel); units = b.units ∙ a.units; reads = grows_on a.reads b.reads; objects = keeps_on a.objects b.objects }

-- the object of this number is edited
pub then_edits : {w v u : World} (n : ℕ) → Keeps w v → Follows (Some n) v u → Keeps w u
then_edits n a b = record { fuel = omega (arith, a.fuel, b.fuel); units = b.units ∙ a.units; reads = grows_on a.reads b.reads; objects = keeps_on a.objects b.objects }

pub tells_then : {w v : World} {s : Spent} → Keeps w v → Tells v s → Tells w s
tells_then a b = record { units = omega (arith, a.units, b.units); reads = grows_on a.reads b.reads }

-- what is neither units nor reads nor objects doesn't matter
pub keeps_lock : {w v : World} (n : ℕ) → Keeps w v → Keeps w (lock n v)
keeps_lock n a = record {
  fuel = a.fuel;
  units = a.units;
  reads = a.reads;
  objects = record { same = a.objects.same; more = a.objects.more; made = a.objects.made; count = a.objects.count };
}

pub keeps_unlock : {w v : World} (n : ℕ) → Keeps w v → Keeps w (unlock n v)
keeps_unlock n a = record {
  fuel = a.fuel;
  units = a.units;
  reads = a.reads;
  objects = record { same = a.objects.same; more = a.objects.more; made = a.objects.made; count = a.objects.count };
}

pub keeps_enter : {w v : World} (n : ℕ) → Keeps w v → Keeps w (enter n v)
keeps_enter n a = record {
  fuel = a.fuel;
  units = a.units;
  reads = a.reads;
  objects = record { same = a.objects.same; more = a.objects.more; made = a.objects.made; count = a.objects.count };
}

pub keeps_leave : {w v : World} (n : ℕ) → Keeps w v → Keeps w (leave n v)
keeps_leave n a = record {
  fuel = a.fuel;
  units = a.units;
  reads = a.reads;
  objects = record { same = a.objects.same; more = a.objects.more; made = a.objects.made; count = a.objects.count };
}

pub keeps_progress : {w v : World} (how : How) (n : ℕ) → Keeps w v → Keeps w (leaves_progress how n v)
keeps_progress by_receiver n a = keeps_leave n a
keeps_progress by_this n a = a
keeps_progress by_new n a = a

-- Combinators.

pub leads_goes : {w : World} (c : Configuration) → Keeps w c.world → Leads w (goes c)
leads_goes c a = record { by = a }

pub leads_to : {w : World} (c : Configuration) (h : Here) (control : Control) → Keeps w h.world → Leads w (goes_to c h control)
leads_to c h control a = record { by = a }

pub leads_ended : {w v : World} (result : Option Value) → Keeps w v → Leads w (ended result v)
leads_ended result a = record { by = a }

pub leads_stuck : (w : World) → Leads w stuck
leads_stuck w = record { by = tt }

pub leads_abort : {w v : World} (cause : AbortCause) → Keeps w v → Leads w (abort_step cause v)
leads_abort cause a = record { by = record { units = omega (arith, a.units); reads = a.reads } }

pub leads_there : {A : Type 0} {w : World} (o : Option A) (go : A → NextStep) → ((a : A) → Leads w (go a)) → Leads w (if_there o go)
leads_there {w = w} None go each = leads_stuck w
leads_there (Some a) go each = each a

pub leads_if : {w : World} (b : Bool) (x y : NextStep) → Leads w x → Leads w y → Leads w (if b then x else y)
leads_if true x y a b = a
leads_if false x y a b = b

leads_fuel : {w : World} (v : World) (n : ℕ) → v.fuel ≡ n → (go : World → NextStep) → Keeps w v → ((u : World) → Keeps w u → Leads w (go u)) → Leads w (with_fuel_left n v go)
leads_fuel v zero e go a each = leads_abort by_fuel a
leads_fuel v (suc n) e go a each = each (with_unit_taken v n) (then_follows a (follows_unit v n e))

pub leads_unit : {w : World} (v : World) (go : World → NextStep) → Keeps w v → ((u : World) → Keeps w u → Leads w (go u)) → Leads w (with_unit v go)
leads_unit v go a each = leads_fuel v v.fuel refl go a each

-- Places.

pub keeps_permission : {w : World} (place : Location) (p : Permission) (h : Here) → Keeps w h.world → Keeps w (set_permission place p h).world
keeps_permission (slot k) p h a = a
keeps_permission (field k) p h a = a

pub keeps_field : {w : World} (k : ℕ) (c : Cell) (h : Here) → Keeps w h.world → Keeps w (set_field k c h).world
keeps_field k c h a = then_edits (self_of h.slots) a (follows_edit h.world (with_field k c.value) (self_of h.slots) (λ o. record { contract = refl; shared = λ e. e; disowned = λ e. e }) (spared_this h.world (self_of h.slots)))

pub keeps_hand : {w : World} (of : ResolvedType) (place : Location) (c : Cell) (h : Here) → Keeps w h.world → Keeps w (hand of place c h).world
keeps_hand of place c h a = keeps_permission place _ (record h { world = comes_into of c.value h.world }) (then_follows a (follows_into h.world of c.value))

pub keeps_end : {w : World} (ends : Ends) (h : Here) → Keeps w h.world → Keeps w (end_branch ends h).world
keeps_end plain_end h a = a
keeps_end (test_end place) h a = keeps_permission place _ h a
keeps_end (loop_end first x body end) h a = a
keeps_end (lock_end place n) h a = keeps_unlock n (keeps_permission place _ h a)
