-- What an answer makes of a content differs from it on what was read.
use Rattle.std.proofs.Common.{◌≡◌, ℕ, zero, suc, ◌+◌, ◌<◌, Bool, true, false, List, [], ◌∷◌, length, Contains, Option, Some, None, refl, sym, ap, ◌∙◌, subst, arith}
use Rattle.std.specs.Prelude.{⊤, cond, fold}
use Rattle.std.specs.List.{AllByRecursion}
use Rattle.std.specs.Ordering.{eq_by_cmp}
use Rattle.std.specs.FinMap.Entries.{find as find_key}
use Rattle.ob_heap_spec.specs.Contents.{HandleName, Handle, Content, name_order}
use Rattle.ob_heap_spec.specs.Worlds.{ReadItem, handle_item}
use Rattle.ob_heap_spec.specs.Handles.{NamedHandle}
use Rattle.ob_invocation_laws.proofs.Handles.{found_put, found_gone}
use Rattle.ob_invocation_laws.proofs.Kept.{one_name_tested}
use Rattle.ob_invocation_spec.specs.Replies.{Invocation, Invoked, invoked, goes_wrong}
use Rattle.ob_invocation_spec.specs.Requests.{Request}
use Rattle.ob_code.specs.declared.image.Image.{Image}
use Rattle.ob_machine_meaning.specs.Meanings.{machine_invocation}
use Rattle.ob_machine_steps.specs.Measures.{LeadsAheadOrToUnit}
use Rattle.ob_request_run_laws.specs.Runs.{NameChange, Answer, Run, opened, paused, answered, lost, changed_to, changed_by, content_after}
use Rattle.ob_request_run_laws.specs.Laws.{ComesTo, HasEnded, HasRead, HasReadChanges, DifferOn}
use Rattle.ob_request_run_laws.specs.Slices.{slices}
use Rattle.ob_request_run_laws.proofs.Changed.{requests_read_changes}
use Rattle.ob_request_run_laws.proofs.Enough.{whole_slices_end}
use Rattle.ob_request_run_laws.proofs.Laid.{laid_length, laid_unheld}
use Rattle.ob_request_run_laws.proofs.Whole.{slices_come_to}

-- Handles.

not_one : (a b : HandleName) → ¬ (a ≡ b) → eq_by_cmp name_order a b ≡ false
not_one a b other = by (eq_by_cmp name_order a b) refl
  where
    by : (x : Bool) → eq_by_cmp name_order a b ≡ x → x ≡ false
    by true e = absurd (other (one_name_tested a b e))
    by false e = refl

-- two names of which one is read and the other isn't
apart : (items : List ReadItem) (a b : HandleName) → Contains items (handle_item a) → ¬ (Contains items (handle_item b)) → ¬ (a ≡ b)
apart items a b has none = λ e. none (subst (λ x. Contains items (handle_item x)) e has)

one_stays : (items : List ReadItem) (handles : List NamedHandle) (changed : HandleName) (value : Option Handle) (name : HandleName) → Contains items (handle_item changed) → ¬ (Contains items (handle_item name))
    → find_key name_order name (changed_to handles changed value) ≡ find_key name_order name handles
one_stays items handles changed None name has none =
    found_gone (record { objects = []; handles = handles }) changed name
    ∙ ap (λ b. cond b None (find_key name_order name handles)) (not_one changed name (apart items changed name has none))
one_stays items handles changed (Some h) name has none =
    found_put (record { objects = []; handles = handles }) (changed, h) name
    ∙ ap (λ b. cond b (Some h) (find_key name_order name handles)) (not_one name changed (λ e. apart items changed name has none (sym e)))

others_stay : (items : List ReadItem) (handles : List NamedHandle) (changes : List NameChange) (name : HandleName) → AllByRecursion (λ (change : NameChange). Contains items (handle_item change.0)) changes
    → ¬ (Contains items (handle_item name)) → find_key name_order name (fold changed_by handles changes) ≡ find_key name_order name handles
others_stay items handles [] name all none = refl
others_stay items handles (x ∷ changes) name all none = others_stay items (changed_by handles x) changes name all.1 none ∙ one_stays items handles x.0 x.1 name all.0 none

-- Objects.

not_above : (k : ℕ) → ¬ (0 < k) → k ≡ 0
not_above zero none = refl
not_above (suc k) none = absurd (none (omega arith))

none_added : (c l m : ℕ) → l ≡ c + m → m ≡ 0 → l ≡ c
none_added c l m e z = omega (arith, e, z)

pub answers_differ : (c : Content) (a : Answer) → HasRead a → DifferOn a.reads c (content_after c a)
answers_differ c a h = record {
  objects = λ n below none. laid_unheld c.objects a.held n below (λ o e. none (h.held.objects n o e));
  next = λ none. none_added (length c.objects) _ (length a.held.made) (laid_length c.objects a.held) (not_above (length a.held.made) (λ l. none (h.held.next l)));
  handles = λ name none. others_stay a.reads c.handles a.handles name h.handles none;
}

-- Requests.

abbrev IsInvoked : Invocation → Type 0
IsInvoked (invoked i) = ⊤
IsInvoked goes_wrong = ⊥

abbrev invoked_or : Invoked → Invocation → Invoked
invoked_or j (invoked i) = i
invoked_or j goes_wrong = j

pub requests_differ : (image : Image) (fuel : ℕ) (c : Content) (q : Request) (i : Invoked) → LeadsAheadOrToUnit image → machine_invocation image c q fuel ≡ invoked i → DifferOn i.reads c i.content
requests_differ image fuel c q i ahead is =
    by (slices image fuel c (fuel ∷ []) (opened q)) (whole_slices_end image fuel c q fuel (omega arith)) (slices_come_to image fuel c q (fuel ∷ []) ahead) (requests_read_changes image fuel c q (fuel ∷ []) ahead)
  where
    by : (r : Run) → HasEnded r → ComesTo c (machine_invocation image c q fuel) r → HasReadChanges r → DifferOn i.reads c i.content
    by (opened x) over comes read = absurd over
    by (paused x reads p h) over comes read = absurd over
    by (answered a) over comes read = subst (λ (x : Invoked). DifferOn x.reads c x.content) (ap (invoked_or i) (sym comes ∙ is)) (answers_differ c a read)
    by lost over comes read = absurd (subst IsInvoked (sym is ∙ comes) tt)
