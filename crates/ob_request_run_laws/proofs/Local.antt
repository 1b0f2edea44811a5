-- The laws, from steps and slices on two contents.
use Rattle.std.proofs.Common.{◌≡◌, ℕ, ◌<◌, inl, inr, List, [], ◌∷◌, length, Contains, Option, Some, None, refl, sym, ap, ◌∙◌, subst, arith}
use Rattle.std.proofs.lemmas.List.Elements.{Contains-append_right}
use Rattle.std.specs.Prelude.{⊤}
use Rattle.ob_base.specs.declared.id.ContractId.{ContractId}
use Rattle.ob_table.specs.declared.contract.ResolvedType.TheVariants.{Reference}
use Rattle.ob_heap_spec.specs.Values.{Value, reference}
use Rattle.ob_heap_spec.specs.Objects.{Object}
use Rattle.ob_heap_spec.specs.Contents.{object_at}
use Rattle.ob_heap_spec.specs.Worlds.{ReadItem, object_item, World, first_world, AllRead}
use Rattle.ob_heap_spec.specs.Marks.{comes_into}
use Rattle.ob_source_laws.specs.Laws.{Grows, KeepsUnread}
use Rattle.ob_source_laws.proofs.Follows.{Follows as Keeps, follows_self, follows_on}
use Rattle.ob_source_laws.proofs.Marking.{follows_into}
use Rattle.ob_code.specs.declared.image.BodyCode.{BodyCode}
use Rattle.ob_code.specs.declared.image.Image.{Image}
use Rattle.ob_code.specs.declared.image.ParamCode.{ParamCode}
use Rattle.ob_code.specs.Code.{body_code}
use Rattle.ob_code_table.specs.ImageTables.{perm_of_code, type_of_param}
use Rattle.ob_machine_steps.specs.Configurations.{ended, aborted, Next}
use Rattle.ob_machine_steps.specs.Entries.{MachineEntry, lock_receiver, args_come_in, receiver_comes_in, comes_into_body, entry_world, Phase, starting, running, started, next_step}
use Rattle.ob_machine_steps.specs.Runs.{Stop, paused, over, after_steps, run_in, world_of}
use Rattle.ob_machine_laws.specs.Laws.{LeadsSo}
use Rattle.ob_machine_laws.proofs.Unread.{unread_stay}
use Rattle.ob_request_run_laws.specs.LocalityLaws.{setting, StepsAlike, StopsAlike, HasReadChanges}
use Rattle.ob_request_run_laws.specs.Locality.{Agree, Setting, Alike, phase_onto, reads_of_next, reads_of_stop, IsKnown, onto, IsGood, IsGoodNext, IsGoodPhase, IsGoodStop, ComesThere}
use Rattle.ob_request_run_laws.proofs.Lists.{none_is_some, all_read_self}
use Rattle.ob_request_run_laws.proofs.Follows as local
use Rattle.ob_request_run_laws.proofs.Instructions.{step_follows}
use Rattle.ob_request_run_laws.proofs.Slices.{FollowsStop, steps_follow, slice_follows, told}
use Rattle.ob_request_run_laws.proofs.Entries.{first_good, locked_good, locked_objects, entry_moves, entry_good}

-- Steps.

next_told : (s : Setting) (r : List ReadItem) (x y : Option Next) → local.Follows s r x y → (z : Next) → x ≡ Some z → local.FollowsNext s r z y
next_told s r None y h z e = absurd (none_is_some e)
next_told s r (Some x) y h z e = subst (λ o. local.Follows s r o y) e h

pub steps_are_local : (image : Image) (count : ℕ) (others : List Object) (p : Phase) (ys : List Object) (x : Next)
    → IsGoodPhase count p → next_step image p ≡ Some x → Alike (setting (reads_of_next x) count others) (world_of p).objects ys
    → StepsAlike (setting (reads_of_next x) count others) x (next_step image (phase_onto ys p))
steps_are_local image count others p ys x good e alike =
    let f = next_told (setting (reads_of_next x) count others) (world_of p).reads (next_step image p) (next_step image (phase_onto ys p)) (step_follows (setting (reads_of_next x) count others) image p ys good (λ all. alike)) x e in
    record { objects = f.ys; same = f.is (all_read_self (reads_of_next x)); alike = f.alike (all_read_self (reads_of_next x)) }

-- where nothing is known all is the second content's
pub all_other : (count : ℕ) (xs ys : List Object) → Alike (setting [] count ys) xs ys
all_other count xs ys = record { known = λ n k. absurd (unknown n k); others = λ n k. refl; next = λ c. absurd (none_in c) }
  where
    none_in : {item : ReadItem} → Contains [] item → ⊥
    none_in c = omega (arith, c.1)

    unknown : (n : ℕ) → IsKnown (setting [] count ys) n → ⊥
    unknown n (inl c) = none_in c
    unknown n (inr c) = none_in c.0

pub steps_stay_good : (image : Image) (count : ℕ) (p : Phase) (x : Next) → IsGoodPhase count p → next_step image p ≡ Some x → IsGoodNext count x
steps_stay_good image count p x good e =
    (next_told (setting [] count []) (world_of p).reads (next_step image p) (next_step image (phase_onto [] p)) (step_follows (setting [] count []) image p [] good (λ all. all_other count (world_of p).objects [])) x e).good

-- Any number of steps, and slices.

-- how far a run has come, by what is told of it
alike_by : (s : Setting) (r : List ReadItem) (x : Stop) (y : Option Stop) → s.items ≡ reads_of_stop x → FollowsStop s r x y → StopsAlike s x y
alike_by s r x y e f =
    let all : AllRead (reads_of_stop x) s.items = subst (AllRead (reads_of_stop x)) (sym e) (all_read_self (reads_of_stop x)) in
    record { objects = f.ys; same = f.is all; alike = f.alike all }

pub runs_are_local : (image : Image) (count : ℕ) (others : List Object) (n : ℕ) (p : Phase) (ys : List Object) (x : Stop)
    → IsGoodPhase count p → after_steps image n p ≡ Some x → Alike (setting (reads_of_stop x) count others) (world_of p).objects ys
    → StopsAlike (setting (reads_of_stop x) count others) x (after_steps image n (phase_onto ys p))
runs_are_local image count others n p ys x good e alike =
    alike_by (setting (reads_of_stop x) count others) (world_of p).reads x _ refl
    (told (setting (reads_of_stop x) count others) (world_of p).reads (after_steps image n p) _ (steps_follow (setting (reads_of_stop x) count others) image n p ys good (λ all. alike)) x e)

pub slices_are_local : (image : Image) (count : ℕ) (others : List Object) (n units : ℕ) (p : Phase) (ys : List Object) (x : Stop)
    → IsGoodPhase count p → run_in image n units p ≡ Some x → Alike (setting (reads_of_stop x) count others) (world_of p).objects ys
    → StopsAlike (setting (reads_of_stop x) count others) x (run_in image n units (phase_onto ys p))
slices_are_local image count others n units p ys x good e alike =
    alike_by (setting (reads_of_stop x) count others) (world_of p).reads x _ refl
    (told (setting (reads_of_stop x) count others) (world_of p).reads (run_in image n units p) _ (slice_follows (setting (reads_of_stop x) count others) image n units p ys good (λ all. alike)) x e)

-- what a run keeps of its content, after any number of steps and after a slice
pub run_stays_good : (image : Image) (count n : ℕ) (p : Phase) (x : Stop) → IsGoodPhase count p → after_steps image n p ≡ Some x → IsGoodStop count x × AllRead (world_of p).reads (reads_of_stop x)
run_stays_good image count n p x good e =
    let f = told (setting [] count []) (world_of p).reads (after_steps image n p) _ (steps_follow (setting [] count []) image n p [] good (λ all. all_other count (world_of p).objects [])) x e in (f.good, f.grows)

pub slice_stays_good : (image : Image) (count n units : ℕ) (p : Phase) (x : Stop) → IsGoodPhase count p → run_in image n units p ≡ Some x → IsGoodStop count x × AllRead (world_of p).reads (reads_of_stop x)
slice_stays_good image count n units p x good e =
    let f = told (setting [] count []) (world_of p).reads (run_in image n units p) _ (slice_follows (setting [] count []) image n units p [] good (λ all. all_other count (world_of p).objects [])) x e in (f.good, f.grows)

pub phase_world_good : (count : ℕ) (p : Phase) → IsGoodPhase count p → IsGood count (world_of p)
phase_world_good count (starting e w) good = good
phase_world_good count (running c) good = good.0

-- From an entry on.

pub entries_are_local : (image : Image) (e : MachineEntry) (xs ys : List Object) (fuel n : ℕ) (x : Stop)
    → ComesThere xs e → after_steps image n (started image e xs fuel) ≡ Some x → Agree (reads_of_stop x) xs ys
    → StopsAlike (setting (reads_of_stop x) (length xs) ys) x (after_steps image n (started image e ys fuel))
entries_are_local image e xs ys fuel n x there h agree =
    let s = setting (reads_of_stop x) (length xs) ys in
    let m = entry_moves image e (reads_of_stop x) xs ys fuel there agree in
    let f = told s (entry_world image e xs fuel).reads (after_steps image n (started image e xs fuel)) (after_steps image n (starting e (onto m.ys (entry_world image e xs fuel))))
    (steps_follow s image n (started image e xs fuel) m.ys m.good m.alike) x h in
    record {
      objects = f.ys;
      same = ap (λ w. after_steps image n (starting e w)) (m.is f.grows) ∙ f.is (all_read_self (reads_of_stop x));
      alike = f.alike (all_read_self (reads_of_stop x));
    }

pub entry_slices_are_local : (image : Image) (e : MachineEntry) (xs ys : List Object) (fuel n units : ℕ) (x : Stop)
    → ComesThere xs e → run_in image n units (started image e xs fuel) ≡ Some x → Agree (reads_of_stop x) xs ys
    → StopsAlike (setting (reads_of_stop x) (length xs) ys) x (run_in image n units (started image e ys fuel))
entry_slices_are_local image e xs ys fuel n units x there h agree =
    let s = setting (reads_of_stop x) (length xs) ys in
    let m = entry_moves image e (reads_of_stop x) xs ys fuel there agree in
    let f = told s (entry_world image e xs fuel).reads (run_in image n units (started image e xs fuel)) (run_in image n units (starting e (onto m.ys (entry_world image e xs fuel))))
    (slice_follows s image n units (started image e xs fuel) m.ys m.good m.alike) x h in
    record {
      objects = f.ys;
      same = ap (λ w. run_in image n units (starting e w)) (m.is f.grows) ∙ f.is (all_read_self (reads_of_stop x));
      alike = f.alike (all_read_self (reads_of_stop x));
    }

-- What a run changes it has read.

args_keep : (params : List ParamCode) (args : List Value) (w : World) → Keeps None w (args_come_in params args w)
args_keep [] args w = follows_self w
args_keep (p ∷ params) [] w = follows_self w
args_keep (p ∷ params) (a ∷ args) w = follows_on (follows_into w (type_of_param p) a) (args_keep params args (comes_into (type_of_param p) a w))

receiver_keeps : (contract : ContractId) (b : BodyCode) (receiver : Option ℕ) (w : World) → Keeps None w (receiver_comes_in contract b receiver w)
receiver_keeps contract b None w = follows_self w
receiver_keeps contract b (Some n) w = follows_into w (Reference contract (perm_of_code b.entry)) (reference n)

pub body_keeps : (contract : ContractId) (b : Option BodyCode) (receiver : Option ℕ) (args : List Value) (w : World) → Keeps None w (comes_into_body contract b receiver args w)
body_keeps contract None receiver args w = follows_self w
body_keeps contract (Some b) receiver args w = follows_on (receiver_keeps contract b receiver w) (args_keep b.params args (receiver_comes_in contract b receiver w))

-- the content's objects are still those of a world, but for what was read since
pub still_xs : (xs : List Object) (w v : World) → IsGood (length xs) w → KeepsUnread None w v → AllRead w.reads v.reads → ((n : ℕ) → n < length xs → ¬ (Contains w.reads (object_item n)) → object_at w.objects n ≡ object_at xs n)
    → (n : ℕ) → n < length xs → ¬ (Contains v.reads (object_item n)) → object_at v.objects n ≡ object_at xs n
still_xs xs w v good keeps grows before n l none = keeps.same n (omega (arith, l, good.objects)) none_is_some none ∙ before n l (λ c. none (grows (object_item n) c))

pub grown : (xs ys : List ReadItem) → Grows xs ys → AllRead xs ys
grown xs ys g = λ i c. subst (λ l. Contains l i) (sym g.1) (Contains-append_right g.0 xs i c)

entry_still : (image : Image) (e : MachineEntry) (xs : List Object) (fuel n : ℕ) → n < length xs → ¬ (Contains (entry_world image e xs fuel).reads (object_item n))
    → object_at (entry_world image e xs fuel).objects n ≡ object_at xs n
entry_still image e xs fuel n l none =
    let k = body_keeps e.contract (body_code image e.contract e.tx) e.receiver e.args (lock_receiver e.lock e.receiver (first_world xs fuel)) in
    still_xs xs (lock_receiver e.lock e.receiver (first_world xs fuel)) (entry_world image e xs fuel) (locked_good (length xs) e.lock e.receiver (first_world xs fuel) (first_good xs fuel)) k.unread
    (grown (lock_receiver e.lock e.receiver (first_world xs fuel)).reads (entry_world image e xs fuel).reads k.reads)
    (λ m h c. ap (λ ys. object_at ys m) (locked_objects e.lock e.receiver (first_world xs fuel))) n l none

pub changes_are_read : (image : Image) (e : MachineEntry) (xs : List Object) (fuel n : ℕ) → LeadsSo (HasReadChanges xs) (λ s. ⊤) (after_steps image n (started image e xs fuel))
changes_are_read image e xs fuel n = by (after_steps image n (started image e xs fuel)) refl
  where
    w : World
    w = entry_world image e xs fuel

    unread : (o : Option Stop) → after_steps image n (started image e xs fuel) ≡ o → LeadsSo (KeepsUnread None w) (λ s. ⊤) o
    unread o h = subst (LeadsSo (KeepsUnread None w) (λ s. ⊤)) h (unread_stay image n (started image e xs fuel) tt)

    by : (o : Option Stop) → after_steps image n (started image e xs fuel) ≡ o → LeadsSo (HasReadChanges xs) (λ s. ⊤) o
    by None h = tt
    by (Some (paused p)) h =
        let k = run_stays_good image (length xs) n (started image e xs fuel) (paused p) (entry_good image e xs fuel) h in
        record {
          objects = still_xs xs w (world_of p) (entry_good image e xs fuel) (unread (Some (paused p)) h) k.1 (entry_still image e xs fuel);
          next = (phase_world_good (length xs) p k.0).next;
        }
    by (Some (over (ended result v))) h =
        let k = run_stays_good image (length xs) n (started image e xs fuel) (over (ended result v)) (entry_good image e xs fuel) h in
        record { objects = still_xs xs w v (entry_good image e xs fuel) (unread (Some (over (ended result v))) h) k.1 (entry_still image e xs fuel); next = k.0.next }
    by (Some (over (aborted cause s))) h = tt
