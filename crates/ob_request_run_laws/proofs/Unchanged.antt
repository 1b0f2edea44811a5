-- What a paused run has and hasn't changed is the content's of the moment.
use Rattle.std.proofs.Common.{◌≡◌, ℕ, zero, suc, ◌<◌, inl, List, ◌++◌, length, Option, Some, None, refl, sym, ap, ◌∙◌, subst, arith}
use Rattle.std.proofs.lemmas.List.{append-nil}
use Rattle.std.specs.Prelude.{⊤, slice_get}
use Rattle.ob_heap_spec.specs.Objects.{Object}
use Rattle.ob_heap_spec.specs.Contents.{Content, object_at}
use Rattle.ob_heap_spec.specs.Worlds.{ReadItem, World}
use Rattle.ob_invocation_spec.specs.Requests.{Request}
use Rattle.ob_code.specs.declared.image.Image.{Image}
use Rattle.ob_machine_steps.specs.Configurations.{ended, aborted}
use Rattle.ob_machine_steps.specs.Entries.{MachineEntry, Phase, started}
use Rattle.ob_machine_steps.specs.Measures.{LeadsAheadOrToUnit}
use Rattle.ob_machine_steps.specs.Runs.{Stop, over, after_steps, world_of}
use Rattle.ob_machine_steps.specs.Runs as steps
use Rattle.ob_machine_laws.specs.Laws.{LeadsSo}
use Rattle.ob_request_run_laws.specs.Held.{Held, found, held_by, laid_from, laid_over}
use Rattle.ob_request_run_laws.specs.Laws.{AgreeOn, IsReadAs, HasReadChanges}
use Rattle.ob_request_run_laws.specs.Locality.{Agree}
use Rattle.ob_request_run_laws.specs.LocalityLaws.{setting}
use Rattle.ob_request_run_laws.specs.Pauses.{IsOfTheMoment}
use Rattle.ob_request_run_laws.specs.Runs.{opened, paused}
use Rattle.ob_request_run_laws.specs.Slices.{slices}
use Rattle.ob_request_run_laws.proofs.Changed.{requests_read_changes}
use Rattle.ob_request_run_laws.proofs.Laid.{IsHeld, laid_unread, laid_unheld, made_none, laid_alike, laid_back}
use Rattle.ob_request_run_laws.proofs.Lists.{none_is_some, all_read_self}
use Rattle.ob_request_run_laws.proofs.Standing.{Stands, paused_stands, ended_stands}

-- What is taken off a run is laid back.

stands_back : (xs : List Object) (w : World) → Stands xs w → laid_over xs (held_by w) ≡ w.objects
stands_back xs w s = laid_back xs w s.good s.kept

pub held_is_laid_back : (image : Image) (e : MachineEntry) (objects : List Object) (fuel n : ℕ) → LeadsSo (λ w. laid_over objects (held_by w) ≡ w.objects) (λ s. ⊤) (after_steps image n (started image e objects fuel))
held_is_laid_back image e objects fuel n = by (after_steps image n (started image e objects fuel)) refl
  where
    by : (o : Option Stop) → after_steps image n (started image e objects fuel) ≡ o → LeadsSo (λ w. laid_over objects (held_by w) ≡ w.objects) (λ s. ⊤) o
    by None h = tt
    by (Some (steps.paused p)) h = stands_back objects (world_of p) (paused_stands image e objects fuel n p h).1
    by (Some (over (ended result w))) h = stands_back objects w (ended_stands image e objects fuel n result w h)
    by (Some (over (aborted cause s))) h = tt

-- What isn't changed.

unheld_laid : (items : List ReadItem) (xs ys : List Object) (h : Held) (n : ℕ) → IsReadAs items h → Agree items xs ys → n < length xs → found n h.read ≡ None → object_at (laid_over ys h) n ≡ object_at ys n
unheld_laid items xs ys h n read agree below none = by (length h.made) refl
  where
    by : (k : ℕ) → length h.made ≡ k → object_at (laid_over ys h) n ≡ object_at ys n
    by zero e =
        ap (λ m. slice_get (laid_from h.read 0 ys ++ m) n) (made_none h.made e) ∙ ap (λ l. slice_get l n) (append-nil (laid_from h.read 0 ys))
        ∙ laid_unread h.read ys n None none refl
    by (suc k) e =
        let next = agree.next (read.next (omega (arith, e))) in
        laid_unheld ys h n (omega (arith, next, below)) (λ o f. none_is_some (sym none ∙ f))

unchanged_laid : (items : List ReadItem) (xs ys : List Object) (h : Held) (n : ℕ) (x : Option Object) → IsReadAs items h → Agree items xs ys → n < length xs → found n h.read ≡ x
    → object_at (laid_over xs h) n ≡ object_at xs n → object_at (laid_over ys h) n ≡ object_at ys n
unchanged_laid items xs ys h n None read agree below e same = unheld_laid items xs ys h n read agree below e
unchanged_laid items xs ys h n (Some o) read agree below e same =
    let has = read.objects n o e in
    let held : IsHeld items h = record { read = read.objects; made = read.next } in
    let alike = laid_alike (setting items (length xs) ys) items xs h refl (all_read_self items) held agree.objects agree.next in
    alike.known n (inl has) ∙ same ∙ sym (agree.objects n has)

pub unchanged_is_of_the_moment : (image : Image) (fuel : ℕ) (c d : Content) (q : Request) (units : List ℕ) (reads : List ReadItem) (p : Phase) (h : Held) → LeadsAheadOrToUnit image
    → slices image fuel c units (opened q) ≡ paused q reads p h → AgreeOn ((world_of p).reads ++ reads) c d → IsOfTheMoment c d h
unchanged_is_of_the_moment image fuel c d q units reads p h ahead is agree = record {
  held = λ n o e same. agree.objects.objects n (read.objects n o e) ∙ same;
  laid = λ n below same. unchanged_laid ((world_of p).reads ++ reads) c.objects d.objects h n (found n h.read) read agree.objects below refl same;
}
  where
    read : IsReadAs ((world_of p).reads ++ reads) h
    read = subst HasReadChanges is (requests_read_changes image fuel c q units ahead)
