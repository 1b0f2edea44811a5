-- Where a slice of a request stops, on two contents.
use Rattle.std.proofs.Common.{◌≡◌, ℕ, ◌+◌, ◌<◌, ◌≤◌, inl, inr, Bool, true, false, List, [], ◌∷◌, ◌++◌, length, Option, Some, None, refl, sym, ap, ◌∙◌, subst, arith}
use Rattle.std.proofs.lemmas.List.Elements.{Contains-append_left, Contains-append_right, Contains-append_cases}
use Rattle.std.specs.Prelude.{⊤, map, flat_map, if◌then◌else◌}
use Rattle.ob_table.specs.Tables.{ClassTable}
use Rattle.ob_heap_spec.specs.Objects.{Object}
use Rattle.ob_heap_spec.specs.Values.{Value}
use Rattle.ob_heap_spec.specs.Contents.{Content}
use Rattle.ob_heap_spec.specs.Worlds.{ReadItem, World, AllRead, read_object}
use Rattle.ob_heap_spec.specs.Marks.{mark_shared}
use Rattle.ob_heap_spec.specs.Handles.{NamedHandle}
use Rattle.ob_source_laws.proofs.Marking.{follows_mark_shared}
use Rattle.ob_rest_spec.specs.Modes.{is_shared}
use Rattle.ob_invocation_spec.specs.Entering.{put_after_use, put_into, puts_after}
use Rattle.ob_invocation_spec.specs.Entries.{Entry}
use Rattle.ob_invocation_spec.specs.Handles.{mark_put, mark_puts}
use Rattle.ob_invocation_spec.specs.Replies.{Reply}
use Rattle.ob_invocation_spec.specs.Replies as reply
use Rattle.ob_invocation_spec.specs.Requests.{Request}
use Rattle.ob_invocation_spec.specs.Showing.{reply_of_result}
use Rattle.ob_code.specs.declared.image.Image.{Image}
use Rattle.ob_machine_steps.specs.Configurations.{ended, aborted}
use Rattle.ob_machine_steps.specs.Entries.{Phase, starting, running}
use Rattle.ob_code_table.specs.ImageTables.{table_of_image}
use Rattle.ob_machine_steps.specs.Measures.{steps_left}
use Rattle.ob_machine_steps.specs.Runs.{Stop, over, run_in, world_of}
use Rattle.ob_machine_steps.specs.Runs as steps
use Rattle.ob_request_run_laws.specs.LocalityLaws.{setting}
use Rattle.ob_request_run_laws.specs.Locality.{Setting, onto, phase_onto, stop_onto, reads_of_stop, IsGoodPhase, IsGoodStop, AlikeStop}
use Rattle.ob_request_run_laws.proofs.Entries.{then_moves}
use Rattle.ob_request_run_laws.proofs.Lists.{all_read_self, all_read_on, there_is}
use Rattle.ob_request_run_laws.proofs.Local.{grown}
use Rattle.ob_request_run_laws.proofs.Moves.{HasAlike, Moves, moves_self, moves_from, reads_grow, shared_moves}
use Rattle.ob_request_run_laws.proofs.Slices.{FollowsStop, slice_follows, told}
use Rattle.ob_request_run_laws.specs.Runs.{NameChange, Run, opened, paused, answered, lost, reads_of_run, done_in, puts_in, put_of, unchanged}
use Rattle.ob_request_run_laws.specs.Slices.{stops_so, sliced}
use Rattle.ob_request_run_laws.proofs.Causes.{EndTellsNone, told_none, end_plain}
use Rattle.ob_request_run_laws.proofs.Checks.{read_left}
use Rattle.ob_request_run_laws.proofs.Found.{IsEntryFound, uses_same}
use Rattle.ob_request_run_laws.proofs.Laid.{held_alike}
use Rattle.ob_request_run_laws.proofs.There.{ArePutsBelow, puts_more}
use Rattle.ob_request_run_laws.proofs.Whole.{phase_reads}

-- a run had no next step
abbrev pub IsLost : Run → Type 0
IsLost (opened q) = ⊥
IsLost (paused q reads p h) = ⊥
IsLost (answered a) = ⊥
IsLost lost = ⊤

-- Handles that are put.

more_is : (l m more : ℕ) → m ≡ more + l → l ≤ m
more_is l m more e = omega (arith, e)

put_longer : (w : World) (p : NamedHandle) → length w.objects ≤ length (mark_put w p).objects
put_longer w p = by (is_shared p.1.mode)
  where
    by : (b : Bool) → length w.objects ≤ length (if b then mark_shared p.1.object w else w).objects
    by true = let f = follows_mark_shared {t = None} w p.1.object in more_is (length w.objects) (length (mark_shared p.1.object w).objects) f.objects.more f.objects.count
    by false = more_is (length w.objects) (length w.objects) 0 (omega arith)

put_moves : (s : Setting) (r : List ReadItem) (w v : World) (p : NamedHandle) → p.1.object < length w.objects → Moves s r w v → Moves s r (mark_put w p) (mark_put v p)
put_moves s r w v p l m = by (is_shared p.1.mode)
  where
    by : (b : Bool) → Moves s r (if b then mark_shared p.1.object w else w) (if b then mark_shared p.1.object v else v)
    by true =
        let there = there_is w.objects p.1.object l in
        then_moves s r w v (mark_shared p.1.object) m
        (moves_from s w.reads (read_object w p.1.object).reads (mark_shared p.1.object w) (mark_shared p.1.object (onto m.ys w)) (reads_grow w p.1.object) (shared_moves s w m.ys p.1.object there.0 m.good m.alike there.1))
    by false = m

pub puts_move : (s : Setting) (r : List ReadItem) (w v : World) (puts : List NamedHandle) → ArePutsBelow (length w.objects) puts → Moves s r w v → Moves s r (mark_puts w puts) (mark_puts v puts)
puts_move s r w v [] t m = m
puts_move s r w v (p ∷ puts) t m =
    puts_move s r (mark_put w p) (mark_put v p) puts (puts_more (length w.objects) (length (mark_put w p).objects) puts (put_longer w p) t.1) (put_moves s r w v p t.0 m)

-- a request that was done in two worlds
pub done_same : (s : Setting) (r : List ReadItem) (reply : Reply) (handles : List NameChange) (w v : World) (reads : List ReadItem) → Moves s r w v → AllRead w.reads s.items → done_in reply handles v reads ≡ done_in reply handles w reads
done_same s r reply handles w v reads m all =
    ap (λ x. done_in reply handles x reads) (m.is all)
    ∙ ap (λ h. answered (record { reply = reply; held = h; handles = handles; taken = w.taken; reads = w.reads ++ reads })) (held_alike s w m.ys m.good all (m.alike all))

-- What is read.

put_grows : (w : World) (p : NamedHandle) → AllRead w.reads (mark_put w p).reads
put_grows w p = by (is_shared p.1.mode)
  where
    by : (b : Bool) → AllRead w.reads (if b then mark_shared p.1.object w else w).reads
    by true = grown w.reads (mark_shared p.1.object w).reads (follows_mark_shared {t = None} w p.1.object).reads
    by false = all_read_self w.reads

puts_grow : (w : World) (puts : List NamedHandle) → AllRead w.reads (mark_puts w puts).reads
puts_grow w [] = all_read_self w.reads
puts_grow w (p ∷ puts) = all_read_on w.reads (mark_put w p).reads (mark_puts (mark_put w p) puts).reads (put_grows w p) (puts_grow (mark_put w p) puts)

pub more_read : (a b r : List ReadItem) → AllRead a b → AllRead (a ++ r) (b ++ r)
more_read a b r h = λ i c. elim (Contains-append_cases a r i c) [ inl x ↦ Contains-append_left b r i (h i x) | inr y ↦ Contains-append_right b r i y ]

-- what a slice has read where it stops, and before its entry, the run has read
pub stop_reads : (table : ClassTable) (c : Content) (q : Request) (e : Entry) (reads : List ReadItem) (x : Stop) → AllRead (reads_of_stop x ++ reads) (reads_of_run (stops_so table c q e reads (Some x)))
stop_reads table c q e reads (steps.paused p) = subst (λ r. AllRead ((world_of p).reads ++ reads) (r ++ reads)) (sym (phase_reads p [])) (all_read_self ((world_of p).reads ++ reads))
stop_reads table c q e reads (over (ended result w)) = more_read w.reads (mark_puts w (puts_after c e result)).reads reads (puts_grow w (puts_after c e result))
stop_reads table c q e reads (over (aborted cause t)) = all_read_self (t.reads ++ reads)

-- Where a slice stops.

-- the handles that are put are on objects that are there
abbrev pub PutsThere : Content → Entry → Option Stop → Type 0
PutsThere c e None = ⊤
PutsThere c e (Some (steps.paused p)) = ⊤
PutsThere c e (Some (over (ended result w))) = ArePutsBelow (length w.objects) (puts_after c e result)
PutsThere c e (Some (over (aborted cause t))) = ⊤

-- no state is told where the run is over
abbrev StopTellsNone : Stop → Type 0
StopTellsNone (steps.paused p) = ⊤
StopTellsNone (over e) = EndTellsNone e

puts_same : (c d : Content) (e : Entry) (result : Option Value) → IsEntryFound c d e → puts_after d e result ≡ puts_after c e result
puts_same c d e result found = ap (λ uses. flat_map put_after_use uses ++ put_into e result) (uses_same c d e found)

stop_same : (s : Setting) (table : ClassTable) (c d : Content) (q : Request) (e : Entry) (reads : List ReadItem) (x : Stop) (ys : List Object) → IsGoodStop s.count x → AllRead (reads_of_run (stops_so table c q e reads (Some x))) s.items
    → AlikeStop s x ys → IsEntryFound c d e → StopTellsNone x → PutsThere c e (Some x) → stops_so table d q e reads (Some (stop_onto ys x)) ≡ stops_so table c q e reads (Some x)
stop_same s table c d q e reads (steps.paused (starting m w)) ys good all a found told there = ap (λ h. paused q reads (starting m (onto [] w)) h) (held_alike s w ys good (read_left w.reads reads s.items all) a)
stop_same s table c d q e reads (steps.paused (running k)) ys good all a found told there =
    ap (λ h. paused q reads (phase_onto [] (running k)) h) (held_alike s k.world ys good.0 (read_left k.world.reads reads s.items all) a)
stop_same s table c d q e reads (over (ended result w)) ys good all a found told there =
    ap (λ puts. puts_in (reply_of_result result) puts (onto ys w) reads) (puts_same c d e result found)
    ∙ done_same s w.reads (reply_of_result result) (map put_of (puts_after c e result)) (mark_puts w (puts_after c e result)) (mark_puts (onto ys w) (puts_after c e result)) reads
    (puts_move s w.reads w (onto ys w) (puts_after c e result) there (moves_self s w ys good (λ h. a))) (read_left (mark_puts w (puts_after c e result)).reads reads s.items all)
stop_same s table c d q e reads (over (aborted cause t)) ys good all a found told there =
    ap (λ state. unchanged (reply.aborted cause state) t.taken (t.reads ++ reads)) (told_none table d.objects cause told ∙ sym (told_none table c.objects cause told))

tells_by : (image : Image) (n units : ℕ) (p : Phase) (x : Stop) → run_in image n units p ≡ Some x → StopTellsNone x
tells_by image n units p (steps.paused q) h = tt
tells_by image n units p (over e) h = end_plain image n units p e h

same_left : (image : Image) (p : Phase) (ys : List Object) → steps_left image (phase_onto ys p) ≡ steps_left image p
same_left image (starting e w) ys = refl
same_left image (running c) ys = refl

-- A slice, from where a run is on the first content and on the second.
pub sliced_local : (image : Image) (items : List ReadItem) (c d : Content) (units : ℕ) (q : Request) (e : Entry) (reads : List ReadItem) (p p2 : Phase) (ys : List Object) → IsGoodPhase (length c.objects) p
    → HasAlike (setting items (length c.objects) d.objects) (world_of p) ys → (AllRead (world_of p).reads items → p2 ≡ phase_onto ys p) → IsEntryFound c d e → (o : Option Stop) → run_in image (steps_left image p) units p ≡ o
    → ¬ (IsLost (stops_so (table_of_image image) c q e reads o)) → AllRead (reads_of_run (stops_so (table_of_image image) c q e reads o)) items → PutsThere c e o
    → sliced image d units q e reads p2 ≡ stops_so (table_of_image image) c q e reads o
sliced_local image items c d units q e reads p p2 ys good alike same found None h right all there = absurd (right tt)
sliced_local image items c d units q e reads p p2 ys good alike same found (Some x) h right all there =
    ap (sliced image d units q e reads) (same (all_read_on (world_of p).reads (reads_of_stop x) items f.grows read))
    ∙ ap (λ n. stops_so table d q e reads (run_in image n units (phase_onto ys p))) (same_left image p ys)
    ∙ ap (stops_so table d q e reads) (f.is read)
    ∙ stop_same s table c d q e reads x f.ys f.good all (f.alike read) found (tells_by image (steps_left image p) units p x h) there
  where
    table : ClassTable
    table = table_of_image image

    s : Setting
    s = setting items (length c.objects) d.objects

    f : FollowsStop s (world_of p).reads x (run_in image (steps_left image p) units (phase_onto ys p))
    f = told s (world_of p).reads (run_in image (steps_left image p) units p) (run_in image (steps_left image p) units (phase_onto ys p)) (slice_follows s image (steps_left image p) units p ys good alike) x h

    read : AllRead (reads_of_stop x) items
    read = read_left (reads_of_stop x) reads items (all_read_on (reads_of_stop x ++ reads) (reads_of_run (stops_so table c q e reads (Some x))) items (stop_reads table c q e reads x) all)
