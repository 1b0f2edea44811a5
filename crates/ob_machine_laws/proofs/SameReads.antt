-- Runs that have read the same items.
use Rattle.std.proofs.Common.{◌≡◌, ℕ, inl, inr, List, [], ◌++◌, Option, Some, None, refl, sym, ap, ◌∙◌, subst}
use Rattle.std.specs.Prelude.{option_map, Contains}
use Rattle.std.proofs.lemmas.List.Elements.{Contains-append_left, Contains-append_right, Contains-append_cases}
use Rattle.ob_heap_spec.specs.Worlds.{ReadItem, World, AllRead, ReadSame, SameWorld}
use Rattle.ob_code.specs.declared.image.Image.{Image}
use Rattle.ob_machine_steps.specs.Configurations.{Configuration, End, ended, aborted, Next, goes, stops}
use Rattle.ob_machine_steps.specs.Entries.{MachineEntry, Phase, starting, running, next_step}
use Rattle.ob_machine_steps.specs.Runs.{Stop, paused, over, run_in}
use Rattle.ob_machine_laws.specs.Laws.{read_before, phase_before, end_before, next_before, stop_before, SameConfiguration, SamePhase, SameEnd, SameNext, SameStop}
use Rattle.ob_machine_laws.proofs.Reading.{next_reads, slice_reads}

-- Items read.

all_more : (xs rs ss : List ReadItem) → AllRead rs ss → AllRead (xs ++ rs) (xs ++ ss)
all_more xs rs ss h item c =
    elim (Contains-append_cases xs rs item c) as (λ x. Contains (xs ++ ss) item) [ inl d ↦ Contains-append_left xs ss item d | inr d ↦ Contains-append_right xs ss item (h item d) ]

more_read : (xs rs ss : List ReadItem) → ReadSame rs ss → ReadSame (xs ++ rs) (xs ++ ss)
more_read xs rs ss h = (all_more xs rs ss h.0, all_more xs ss rs h.1)

-- Worlds and runs that differ in what was read before.

world_of : (w : World) (rs ss : List ReadItem) → ReadSame rs ss → SameWorld (read_before rs w) (read_before ss w)
world_of w rs ss h = record { objects = refl; made = refl; locked = refl; progress = refl; fuel = refl; taken = refl; reads = more_read w.reads rs ss h }

phase_of : (p : Phase) (rs ss : List ReadItem) → ReadSame rs ss → SamePhase (phase_before rs p) (phase_before ss p)
phase_of (starting e w) rs ss h = (refl, world_of w rs ss h)
phase_of (running c) rs ss h = record { top = refl; below = refl; world = world_of c.world rs ss h }

end_of : (x : End) (rs ss : List ReadItem) → ReadSame rs ss → SameEnd (end_before rs x) (end_before ss x)
end_of (ended result w) rs ss h = (refl, world_of w rs ss h)
end_of (aborted cause s) rs ss h = (refl, record { taken = refl; reads = more_read s.reads rs ss h })

next_of : (x : Option Next) (rs ss : List ReadItem) → ReadSame rs ss → SameNext (option_map (next_before rs) x) (option_map (next_before ss) x)
next_of None rs ss h = tt
next_of (Some (goes c)) rs ss h = record { top = refl; below = refl; world = world_of c.world rs ss h }
next_of (Some (stops end)) rs ss h = end_of end rs ss h

stop_of : (x : Option Stop) (rs ss : List ReadItem) → ReadSame rs ss → SameStop (option_map (stop_before rs) x) (option_map (stop_before ss) x)
stop_of None rs ss h = tt
stop_of (Some (paused p)) rs ss h = phase_of p rs ss h
stop_of (Some (over end)) rs ss h = end_of end rs ss h

-- two runs are one with other items read before
record Apart (p q : Phase) : Type 0 where
  core : Phase
  first : List ReadItem
  second : List ReadItem
  same : ReadSame first second
  is_first : p ≡ phase_before first core
  is_second : q ≡ phase_before second core

-- the world without what was read
abbrev unread : World → World
unread w = record w { reads = [] }

world_as : (w v : World) → SameWorld w v → v ≡ read_before v.reads (unread w)
world_as w v s =
    ap {B = World} (λ x. record v { objects = x }) s.objects
    ∙ ap {B = World} (λ x. record v { objects = w.objects; made = x }) s.made
    ∙ ap {B = World} (λ x. record v { objects = w.objects; made = w.made; locked = x }) s.locked
    ∙ ap {B = World} (λ x. record v { objects = w.objects; made = w.made; locked = w.locked; progress = x }) s.progress
    ∙ ap {B = World} (λ x. record v { objects = w.objects; made = w.made; locked = w.locked; progress = w.progress; fuel = x }) s.fuel
    ∙ ap {B = World} (λ x. record v { objects = w.objects; made = w.made; locked = w.locked; progress = w.progress; fuel = w.fuel; taken = x }) s.taken

running_as : (c d : Configuration) → SameConfiguration c d → running d ≡ phase_before d.world.reads (running (record c { world = unread c.world }))
running_as c d s =
    ap (λ x. running (record d { top = x })) s.top
    ∙ ap (λ x. running (record d { top = c.top; below = x })) s.below
    ∙ ap (λ x. running (record { top = c.top; below = c.below; world = x })) (world_as c.world d.world s.world)

starting_as : (e f : MachineEntry) (w v : World) → f ≡ e → SameWorld w v → starting f v ≡ phase_before v.reads (starting e (unread w))
starting_as e f w v h s = ap (λ x. starting x v) h ∙ ap (λ x. starting e x) (world_as w v s)

apart : (p q : Phase) → SamePhase p q → Apart p q
apart (starting e w) (starting f v) s = record {
  core = starting e (unread w);
  first = w.reads;
  second = v.reads;
  same = s.1.reads;
  is_first = refl;
  is_second = starting_as e f w v s.0 s.1;
}
apart (running c) (running d) s = record {
  core = running (record c { world = unread c.world });
  first = c.world.reads;
  second = d.world.reads;
  same = s.world.reads;
  is_first = refl;
  is_second = running_as c d s;
}
apart (starting e w) (running d) s = absurd s
apart (running c) (starting f v) s = absurd s

pub same_steps : (image : Image) (p q : Phase) → SamePhase p q → SameNext (next_step image p) (next_step image q)
same_steps image p q s =
    let a : Apart p q = apart p q s in
    let first : next_step image p ≡ option_map (next_before a.first) (next_step image a.core) = ap (next_step image) a.is_first ∙ next_reads image a.first a.core in
    let second : next_step image q ≡ option_map (next_before a.second) (next_step image a.core) = ap (next_step image) a.is_second ∙ next_reads image a.second a.core in
    subst (λ x. SameNext x (next_step image q)) (sym first)
    (subst (λ y. SameNext (option_map (next_before a.first) (next_step image a.core)) y) (sym second) (next_of (next_step image a.core) a.first a.second a.same))

pub same_slices : (image : Image) (n units : ℕ) (p q : Phase) → SamePhase p q → SameStop (run_in image n units p) (run_in image n units q)
same_slices image n units p q s =
    let a : Apart p q = apart p q s in
    let first : run_in image n units p ≡ option_map (stop_before a.first) (run_in image n units a.core) = ap (run_in image n units) a.is_first ∙ slice_reads image a.first n units a.core in
    let second : run_in image n units q ≡ option_map (stop_before a.second) (run_in image n units a.core) = ap (run_in image n units) a.is_second ∙ slice_reads image a.second n units a.core in
    subst (λ x. SameStop x (run_in image n units q)) (sym first)
    (subst (λ y. SameStop (option_map (stop_before a.first) (run_in image n units a.core)) y) (sym second) (stop_of (run_in image n units a.core) a.first a.second a.same))
