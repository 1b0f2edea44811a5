-- What a run changes on its own content it holds.
use Rattle.std.proofs.Common.{◌≡◌, ℕ, suc, Bool, true, false, List, [], ◌∷◌, ◌++◌, length, Option, Some, None, refl, sym, ap, ◌∙◌, subst}
use Rattle.std.proofs.lemmas.List.{append-nil}
use Rattle.std.specs.Prelude.{⊤, fold, map, if◌then◌else◌}
use Rattle.ob_heap_spec.specs.Objects.{Object}
use Rattle.ob_heap_spec.specs.Values.{Value}
use Rattle.ob_heap_spec.specs.Contents.{Handle, Content}
use Rattle.ob_heap_spec.specs.Worlds.{ReadItem, World, first_world}
use Rattle.ob_heap_spec.specs.Marks.{mark_shared, mark_disowned}
use Rattle.ob_heap_spec.specs.Handles.{NamedHandle, put_handle, put_handles}
use Rattle.ob_source_laws.proofs.Marking.{follows_mark_shared, follows_mark_disowned}
use Rattle.ob_source_laws.proofs.Follows as source
use Rattle.ob_rest_spec.specs.Modes.{is_shared, is_owned}
use Rattle.ob_invocation_spec.specs.Handles.{mark_put, mark_puts}
use Rattle.ob_invocation_spec.specs.Invocation.{done, done_with, still_world, disowned_world}
use Rattle.ob_invocation_spec.specs.Replies.{Reply, invoked}
use Rattle.ob_code.specs.declared.image.Image.{Image}
use Rattle.ob_machine_steps.specs.Configurations.{ended}
use Rattle.ob_machine_steps.specs.Entries.{MachineEntry, Phase, started}
use Rattle.ob_machine_steps.specs.Runs.{paused, over, after_steps, world_of}
use Rattle.ob_machine_laws.specs.Laws.{LeadsSo}
use Rattle.ob_request_run_laws.specs.Locality.{IsGood, IsGoodPhase}
use Rattle.ob_request_run_laws.specs.LocalityLaws.{HasReadChanges}
use Rattle.ob_request_run_laws.proofs.Entries.{first_good, entry_good, marked_good, disowned_good}
use Rattle.ob_request_run_laws.proofs.Local.{still_xs, grown, run_stays_good, phase_world_good, changes_are_read}
use Rattle.ob_request_run_laws.specs.Held.{nothing_held, laid_from, held_by}
use Rattle.ob_request_run_laws.specs.Runs.{NameChange, put_of, changed_by, invoked_by}
use Rattle.ob_request_run_laws.proofs.Laid.{IsKept, laid_back}

-- what every run keeps of its content, and what it hasn't read is the content's
pub record Stands (xs : List Object) (w : World) : Type 0 where
  pub good : IsGood (length xs) w
  pub kept : IsKept xs w

pub first_stands : (xs : List Object) (fuel : ℕ) → Stands xs (first_world xs fuel)
first_stands xs fuel = record { good = first_good xs fuel; kept = record { same = λ n l none. refl } }

-- so it does after a part that leaves what it hasn't read
stands_on : (xs : List Object) (w v : World) → Stands xs w → IsGood (length xs) v → source.Follows None w v → Stands xs v
stands_on xs w v s good f = record { good = good; kept = record { same = λ n l none. still_xs xs w v s.good f.unread (grown w.reads v.reads f.reads) s.kept.same n l none } }

shared_stands : (xs : List Object) (n : ℕ) (w : World) → Stands xs w → Stands xs (mark_shared n w)
shared_stands xs n w s = stands_on xs w (mark_shared n w) s (marked_good (length xs) n w s.good) (follows_mark_shared w n)

pub disowned_stands : (xs : List Object) (n : ℕ) (w : World) → Stands xs w → Stands xs (mark_disowned n w)
disowned_stands xs n w s = stands_on xs w (mark_disowned n w) s (disowned_good (length xs) n w s.good) (follows_mark_disowned w n)

if_stands : (xs : List Object) (b : Bool) (w v : World) → Stands xs w → Stands xs v → Stands xs (if b then w else v)
if_stands xs true w v s t = s
if_stands xs false w v s t = t

pub puts_stand : (xs : List Object) (puts : List NamedHandle) (w : World) → Stands xs w → Stands xs (mark_puts w puts)
puts_stand xs [] w s = s
puts_stand xs (p ∷ puts) w s = puts_stand xs puts (mark_put w p) (if_stands xs (is_shared p.1.mode) _ w (shared_stands xs p.1.object w s) s)

pub disown_stands : (c : Content) (h : Handle) → Stands c.objects (disowned_world c h)
disown_stands c h = if_stands c.objects (is_owned h.mode) _ (still_world c) (disowned_stands c.objects h.object (still_world c) (first_stands c.objects 0)) (first_stands c.objects 0)

-- Runs from an entry.

pub paused_stands : (image : Image) (e : MachineEntry) (xs : List Object) (fuel k : ℕ) (p : Phase) → after_steps image k (started image e xs fuel) ≡ Some (paused p) → IsGoodPhase (length xs) p × Stands xs (world_of p)
paused_stands image e xs fuel k p h =
    let good = (run_stays_good image (length xs) k (started image e xs fuel) (paused p) (entry_good image e xs fuel) h).0 in
    let read : HasReadChanges xs (world_of p) = subst (LeadsSo (HasReadChanges xs) (λ s. ⊤)) h (changes_are_read image e xs fuel k) in
    (good, record { good = phase_world_good (length xs) p good; kept = record { same = read.objects } })

pub ended_stands : (image : Image) (e : MachineEntry) (xs : List Object) (fuel k : ℕ) (result : Option Value) (w : World) → after_steps image k (started image e xs fuel) ≡ Some (over (ended result w)) → Stands xs w
ended_stands image e xs fuel k result w h =
    let good = (run_stays_good image (length xs) k (started image e xs fuel) (over (ended result w)) (entry_good image e xs fuel) h).0 in
    let read : HasReadChanges xs w = subst (LeadsSo (HasReadChanges xs) (λ s. ⊤)) h (changes_are_read image e xs fuel k) in
    record { good = good; kept = record { same = read.objects } }

-- Answers.

laid_none : (n : ℕ) (xs : List Object) → laid_from [] n xs ≡ xs
laid_none n [] = refl
laid_none n (x ∷ xs) = ap (λ ys. x ∷ ys) (laid_none (suc n) xs)

pub unchanged_is : (c : Content) (reply : Reply) (taken : ℕ) (reads : List ReadItem)
    → invoked (record { reply = reply; content = c; taken = taken; reads = reads }) ≡ invoked (invoked_by c (record { reply = reply; held = nothing_held; handles = []; taken = taken; reads = reads }))
unchanged_is c reply taken reads =
    ap (λ xs. invoked (record { reply = reply; content = record { objects = xs; handles = c.handles }; taken = taken; reads = reads })) (sym (append-nil (laid_from [] 0 c.objects) ∙ laid_none 0 c.objects))

pub done_is : (c : Content) (reply : Reply) (handles : List NamedHandle) (changes : List NameChange) (w : World) (reads : List ReadItem) → Stands c.objects w → fold changed_by c.handles changes ≡ handles
    → done reply handles w reads ≡ invoked (invoked_by c (record { reply = reply; held = held_by w; handles = changes; taken = w.taken; reads = w.reads ++ reads }))
done_is c reply handles changes w reads s e =
    ap (λ hs. invoked (record { reply = reply; content = record { objects = w.objects; handles = hs }; taken = w.taken; reads = w.reads ++ reads })) (sym e)
    ∙ ap (λ xs. invoked (record { reply = reply; content = record { objects = xs; handles = fold changed_by c.handles changes }; taken = w.taken; reads = w.reads ++ reads })) (sym (laid_back c.objects w s.good s.kept))

puts_same : (handles puts : List NamedHandle) → fold changed_by handles (map put_of puts) ≡ put_handles handles puts
puts_same handles [] = refl
puts_same handles (p ∷ puts) = puts_same (put_handle handles p) puts

pub put_is : (c : Content) (reply : Reply) (puts : List NamedHandle) (w : World) (reads : List ReadItem) → Stands c.objects w
    → done_with reply c puts w reads ≡ invoked (invoked_by c (record { reply = reply; held = held_by (mark_puts w puts); handles = map put_of puts; taken = (mark_puts w puts).taken; reads = (mark_puts w puts).reads ++ reads }))
put_is c reply puts w reads s = done_is c reply (put_handles c.handles puts) (map put_of puts) (mark_puts w puts) reads (puts_stand c.objects puts w s) (puts_same c.handles puts)
