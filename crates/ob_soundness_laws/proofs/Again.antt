-- Where the run of a request has ended, the store is at rest again.
use Rattle.std.proofs.Common.{◌≡◌, ◌≢◌, ℕ, suc, ◌+◌, ◌<◌, ◌≤◌, Bool, true, false, not, ◌&&◌, ◌||◌, List, [], ◌∷◌, ◌++◌, length, Option, Some, None, refl, sym, ap, subst, ◌∙◌, arith, true≢false, ⊎_elim}
use Rattle.std.specs.Prelude.{nat_eq, option_to_list, unwrap_or, All, if◌then◌else◌}
use Rattle.std.specs.List.{list_any}
use Rattle.std.proofs.lemmas.Bool.Decides.{nat_tests}
use Rattle.std.proofs.lemmas.Option.{same_Some}
use Rattle.ob_base.specs.Limits.{most_slots}
use Rattle.ob_base.specs.declared.permission.Mode.{Mode}
use Rattle.ob_base.specs.declared.permission.Mode.TheVariants.{Owned, Shared, Unowned}
use Rattle.ob_perm.specs.Permissions.{owns}
use Rattle.ob_table.specs.Tables.{ClassTable}
use Rattle.ob_table.specs.declared.contract.Signature.{Signature}
use Rattle.ob_table_spec.specs.Conditions.{IsParam}
use Rattle.ob_places_laws.proofs.Tables.{each_at}
use Rattle.ob_heap_spec.specs.Values.{Value, reference, referred}
use Rattle.ob_heap_spec.specs.Contents.{Content, IsHandle, object_at}
use Rattle.ob_heap_spec.specs.Handles.{NamedHandle, handle_at, put_handles}
use Rattle.ob_silica_steps.specs.Cells.{Cell, value_in, object_in, permission_in}
use Rattle.ob_silica_steps.specs.Here.{self_of}
use Rattle.ob_soundness_laws.proofs.counting.Cells.{cell_counted}
use Rattle.ob_perm.specs.Masks.{held, states_of}
use Rattle.ob_silica_steps.specs.Configurations.{SilicaProgram, Rest, How, Control, Configuration, by_receiver, by_new}
use Rattle.ob_coherent_spec.specs.Counting.{nth_object, in_cell, in_slots, in_objects, in_handles, in_waiting, in_control, owners}
use Rattle.ob_coherent_spec.specs.Runs.{times, around, locks_around, locks_among, locks_entry, open_tests, tests_in, tests_among}
use Rattle.ob_coherent_spec.specs.Waiting.{gives_back_by, gives_back_as}
use Rattle.ob_soundness_laws.proofs.counting.Numbers.{one_of}
use Rattle.ob_coherent_spec.specs.Standing.{Stands, NeedsOwner}
use Rattle.ob_coherent_spec.specs.Remaining.{IsCheckedProgram}
use Rattle.ob_coherent_spec.specs.Coherent.{LeavesWith, IsLeaving}
use Rattle.ob_soundness_laws.proofs.counting.Objects.{object_there}
use Rattle.ob_rest_spec.specs.Modes.{is_owned, is_shared, is_unowned}
use Rattle.ob_rest_spec.specs.Incoming.{incoming_references}
use Rattle.ob_rest_spec.specs.Failing.{shared_unmarked}
use Rattle.ob_rest_spec.specs.AtRest.{IsStoreAtRest}
use Rattle.ob_rest_laws.specs.Laws.{handle_owners, is_shared_by_handle}
use Rattle.ob_rest_laws.proofs.Ways.{fails_by_none}
use Rattle.ob_rest_laws.proofs.Changing.{is_shared_by_field, shared_places}
use Rattle.ob_invocation_spec.specs.Handles.{serves}
use Rattle.ob_invocation_spec.specs.Entries.{HandleUse, Entry, mode_of_result, handle_uses, argument_uses, values_of, used_as_receiver}
use Rattle.ob_invocation_spec.specs.Entering.{put_after_use, puts_after, put_into, is_locked_at_entry}
use Rattle.ob_invocation_laws.specs.Laws.{returned_owners, put_owners, puts_of_uses, kept_handles}
use Rattle.ob_invocation_laws.proofs.Handles.{head_of, tail_of}
use Rattle.ob_invocation_laws.proofs.Entered.{MayEnter, AreFound, new_may_enter, call_may_enter, new_found, call_found}
use Rattle.ob_invocation_laws.proofs.Lent.{arguments_serve, receiver_may_enter, returned_use}
use Rattle.ob_invocation_laws.proofs.Puts.{found_shared}
use Rattle.ob_invocation_laws.proofs.Used.{owners_after}
use Rattle.ob_soundness_laws.specs.Requests.{entry_lock, beginning_on, beginning_of, handles_in_run, IsEntered, by_request_new, by_request_call}
use Rattle.ob_soundness_laws.proofs.Entries.{ArgumentsFit, has_passed, enters_new, enters_call, arguments_fit}
use Rattle.ob_soundness_laws.proofs.Bodies.{EntersBody, entered_body}
use Rattle.ob_soundness_laws.proofs.Left.{HasLeft, began, argument_left, receiver_left, made_left, others_left, same_signature}
use Rattle.ob_soundness_laws.proofs.Given.{row, Left, returned_less, returned_more, args_less, args_more}
use Rattle.ob_soundness_laws.proofs.Results.{into_less, into_more, into_marked}
use Rattle.ob_soundness_laws.proofs.Marked.{shared_either, use_marked, args_marked}
use Rattle.ob_soundness_laws.proofs.Counts.{slots_more, slots_less, carried, returned_append}

-- Shared handles of a store at rest are on marked objects.
module _ (table : ClassTable) (content : Content) (rests : IsStoreAtRest table content) (n : ℕ) where
  handle_inside : (hs : List NamedHandle) → All (IsHandle content.objects) hs → is_shared_by_handle hs n ≡ true → n < length content.objects
  handle_inside [] all e = absurd cc
  handle_inside (h ∷ hs) all e = go (nat_eq h.1.object n) (is_shared h.1.mode) refl (handle_inside hs (tail_of (IsHandle content.objects) h hs all)) e
    where
      go : (a b : Bool) → nat_eq h.1.object n ≡ a → (is_shared_by_handle hs n ≡ true → n < length content.objects)
          → ((a && b) || is_shared_by_handle hs n) ≡ true → n < length content.objects
      go true b same rest e = let low = (head_of (IsHandle content.objects) h hs all).object in
          let z : h.1.object ≡ n = grind (arith, nat_tests, same) in omega (arith, low, z)
      go false b same rest e = rest e

  pub store_marked : is_shared_by_handle content.handles n ≡ true → (nth_object content.objects n).shared ≡ true
  store_marked e = go (nth_object content.objects n).shared refl
    where
      there : object_at content.objects n ≡ Some (nth_object content.objects n)
      there = object_there content.objects n (handle_inside content.handles rests.is_content.handles e)

      go : (b : Bool) → (nth_object content.objects n).shared ≡ b → (nth_object content.objects n).shared ≡ true
      go true is = is
      go false is = absurd (let way = fails_by_none table content rests.at_rest n (nth_object content.objects n) there shared_unmarked in
          let places = shared_places table content n in
          let z : list_any (λ r. is_shared r.mode) (incoming_references table content n) ≡ true =
          places ∙ ap (λ b. is_shared_by_field table content.objects n || b) e ∙ or_true (is_shared_by_field table content.objects n) in
          true≢false (sym z ∙ ap (λ b. not b && list_any (λ r. is_shared r.mode) (incoming_references table content n)) (sym is) ∙ way))
        where
          or_true : (b : Bool) → (b || true) ≡ true
          or_true true = refl
          or_true false = refl

module _ (program : SilicaProgram) (checked : IsCheckedProgram program) (content : Content)
    (rests : IsStoreAtRest program.table content) (e : Entry) (entered : IsEntered program.table content e) where
  pub may_enter : MayEnter program.table content e
  may_enter = go entered
    where
      go : IsEntered program.table content e → MayEnter program.table content e
      go (by_request_new who r labels is passed within) = new_may_enter program.table content who r e passed is
      go (by_request_call who r labels is passed within) = call_may_enter program.table content who r e passed is

  pub are_found : AreFound content (handle_uses content e)
  are_found = go entered
    where
      go : IsEntered program.table content e → AreFound content (handle_uses content e)
      go (by_request_new who r labels is passed within) = new_found program.table content who r e is
      go (by_request_call who r labels is passed within) = call_found program.table content who r e is

  body : EntersBody program.table e
  body = entered_body program.table checked.table content rests e entered

  fit : ArgumentsFit program.table content e.who e.signature.params e.args (values_of content e)
  fit = arguments_fit program.table content e (has_passed program.table content e entered)

  -- a receiver's handle is there, and has the permissions of the signature
  recv : (u : HandleUse) → e.receiver ≡ Some u → (handle_at content u.name ≡ Some u.handle) × (u.exit ≡ e.signature.exit)
  recv u at = go entered
    where
      go : IsEntered program.table content e → (handle_at content u.name ≡ Some u.handle) × (u.exit ≡ e.signature.exit)
      go (by_request_new who r labels is passed within) =
          absurd (let n = enters_new program.table content e who r is in
          let z : ◌≡◌ {A = Option HandleUse} None (Some u) = sym n.receiver ∙ at in cc)
      go (by_request_call who r labels is passed within) =
          let n = enters_call program.table content e who r labels is in
          let same = same_Some (used_as_receiver n.name n.handle e.contract e.signature) u (sym n.receiver ∙ at) in
          (subst (λ (w : HandleUse). handle_at content w.name ≡ Some w.handle) same n.found, ap (λ (w : HandleUse). w.exit) (sym same))

  module _ (c : Configuration) (k : IsLeaving program.table (entry_lock e.receiver) (beginning_of content e) c) (outer : k.outer ≡ [])
      (alone : c.stack ≡ []) (longer : length content.objects ≤ length c.world.objects)
      (marks : (n : ℕ) → (nth_object content.objects n).shared ≡ true → (nth_object c.world.objects n).shared ≡ true) (n : ℕ) where
    abbrev first : ℕ
    first = in_cell owns n (c.frame.slots 0)

    abbrev args : ℕ
    args = row c.frame.slots n 1 (length e.signature.params)

    left_args : Left program.table content e.who c n 1 e.signature.params (values_of content e)
    left_args j p v at is = subst (λ i. HasLeft program.table c i v p.exit) (let z : suc j ≡ 1 + j = omega arith in z)
        (argument_left program.table checked.table content e body c k outer alone j p v at is)

    left_recv : (u : HandleUse) → e.receiver ≡ Some u → HasLeft program.table c 0 (reference u.handle.object) u.exit
    left_recv u at = receiver_left program.table checked.table content e body c k outer alone u at (recv u at).1

    recv_less : returned_owners (option_to_list e.receiver) n ≤ first
    recv_less = go e.receiver refl
      where
        go : (r : Option HandleUse) → e.receiver ≡ r → returned_owners (option_to_list r) n ≤ first
        go None at = omega arith
        go (Some u) at = let z = returned_less program.table c 0 u (left_recv u at) n in omega (arith, z)

    -- of a Shared receiver nothing comes back
    recv_none : (u : HandleUse) → e.receiver ≡ Some u → is_owned u.handle.mode ≡ false → returned_owners (option_to_list e.receiver) n ≡ 0
    recv_none u at other = rw (at, returned_use, other) refl

    recv_more : NeedsOwner program.table c.world.objects n → first ≤ returned_owners (option_to_list e.receiver) n
    recv_more needs = go e.receiver refl
      where
        owner : (u : HandleUse) → e.receiver ≡ Some u → u.handle.object ≡ n → (m : Mode) → u.handle.mode ≡ m → (w : Mode) → u.entry.mode ≡ w
            → is_owned u.entry.mode ≡ true → is_owned u.handle.mode ≡ true
        owner u at o Owned is w entry owns = ap is_owned is
        owner u at o Shared is w entry owns = absurd (let found = found_shared u.name content.handles u.handle (recv u at).0 (ap is_shared is) in
            let marked = marks n (store_marked program.table content rests n (ap (is_shared_by_handle content.handles) (sym o) ∙ found)) in
            true≢false (sym marked ∙ needs.unshared))
        owner u at o Unowned is Owned entry owns = absurd (let z = receiver_may_enter program.table content e may_enter u at in
            let y = rw (is, entry) at z in cc)
        owner u at o Unowned is Shared entry owns = absurd (let z = ap is_owned (sym entry) ∙ owns in cc)
        owner u at o Unowned is Unowned entry owns = absurd (let z = ap is_owned (sym entry) ∙ owns in cc)

        go : (r : Option HandleUse) → e.receiver ≡ r → first ≤ returned_owners (option_to_list r) n
        go None at = let z = made_left program.table checked.table content e body c k outer alone at n needs in omega (arith, z)
        go (Some u) at = let z = returned_more program.table c 0 u (left_recv u at) n needs (body.leaves u at)
            (λ o owns. owner u at o u.handle.mode refl u.entry.mode refl owns) in omega (arith, z)

    arguments_less : returned_owners (argument_uses content e) n ≤ args
    arguments_less = args_less program.table content e.who c n 1 e.signature.params e.args (values_of content e) fit left_args

    arguments_more : NeedsOwner program.table c.world.objects n → args ≤ returned_owners (argument_uses content e) n
    arguments_more needs = args_more program.table content e.who c n needs 1 e.signature.params e.args (values_of content e) fit left_args
        (λ j p at. each_at (IsParam program.table) e.signature.params j p body.params at)
        (λ j u at. arguments_serve program.table content e may_enter j u at)

    few_params : length e.signature.params < most_slots
    few_params = let a = k.whole.frame.params in let b = k.whole.frame.few in
        let same = ap (λ (s : Signature). length s.params) (same_signature program.table checked.table content e body c k outer alone) in
        omega (arith, a, b, same)

    -- what comes back is in slots
    pub back_less : returned_owners (handle_uses content e) n ≤ in_slots owns n c.frame.slots
    back_less = let a = returned_append (option_to_list e.receiver) (argument_uses content e) n in
        let b = slots_more c.frame.slots n (length e.signature.params) few_params in
        omega (arith, a, b, recv_less, arguments_less)

    -- and beside it what the slot of a Shared receiver has
    pub back_beside : (u : HandleUse) → e.receiver ≡ Some u → is_owned u.handle.mode ≡ false
        → returned_owners (handle_uses content e) n + first ≤ in_slots owns n c.frame.slots
    back_beside u at other = let a = returned_append (option_to_list e.receiver) (argument_uses content e) n in
        let b = slots_more c.frame.slots n (length e.signature.params) few_params in
        let z = recv_none u at other in
        omega (arith, a, b, z, arguments_less)

    pub back_more : NeedsOwner program.table c.world.objects n → in_slots owns n c.frame.slots ≤ returned_owners (handle_uses content e) n
    back_more needs = let a = returned_append (option_to_list e.receiver) (argument_uses content e) n in
        let b = slots_less c.frame.slots n (length e.signature.params) few_params
        (λ j past. others_left program.table checked.table content e body c k outer alone j past n needs) in
        let x = recv_more needs in let y = arguments_more needs in
        omega (arith, a, b, x, y)

    -- what is given has the mode of what the entry gives
    given_is : e.given ≡ mode_of_result (gives_back_as c.frame k.whole.parts)
    given_is = go entered
      where
        signature : k.whole.parts.signature ≡ e.signature
        signature = same_signature program.table checked.table content e body c k outer alone

        go : IsEntered program.table content e → e.given ≡ mode_of_result (gives_back_as c.frame k.whole.parts)
        go (by_request_new who r labels is passed within) =
            let m = enters_new program.table content e who r is in
            let how : c.frame.how ≡ by_new = (began program.table checked.table content e body c k outer alone).how
            ∙ ap (λ (x : Option HandleUse). (beginning_on e x (values_of content e)).how) m.receiver in
            m.given ∙ ap (λ (s : Signature). Some s.exit.mode) (sym signature)
            ∙ ap (λ (h : How). mode_of_result (gives_back_by h c.frame k.whole.parts)) (sym how)
        go (by_request_call who r labels is passed within) =
            let m = enters_call program.table content e who r labels is in
            let how : c.frame.how ≡ by_receiver = (began program.table checked.table content e body c k outer alone).how
            ∙ ap (λ (x : Option HandleUse). (beginning_on e x (values_of content e)).how) m.receiver in
            m.given ∙ ap (λ (s : Signature). mode_of_result s.result) (sym signature)
            ∙ ap (λ (h : How). mode_of_result (gives_back_by h c.frame k.whole.parts)) (sym how)

    module _ (carries : c.notes.handles ≡ handles_in_run content e) (result : Option Value) (gives : result ≡ value_in k.result) where
      abbrev handles_now : List NamedHandle
      handles_now = put_handles content.handles (puts_after content e result)

      run_owners : owners n c ≡ in_slots owns n c.frame.slots + in_objects owns n c.notes c.world.objects
          + (in_cell owns n k.result + 0 + handle_owners (kept_handles content.handles (puts_of_uses (handle_uses content e))) n)
      run_owners =
          let a = ap (in_control owns n) k.control in
          let b = ap (in_waiting owns n) alone in
          let d = ap (in_handles owns n) carries ∙ carried n (puts_of_uses (handle_uses content e)) content.handles in
          omega (arith, a, b, d)

      now_owners : handle_owners handles_now n
          ≡ handle_owners (kept_handles content.handles (puts_of_uses (handle_uses content e))) n
          + (returned_owners (handle_uses content e) n + put_owners (put_into e result) n)
      now_owners = owners_after program.table content e result n
          (record { each = rests.is_content.handles; order = rests.is_content.order }) are_found may_enter

      given_less : put_owners (put_into e result) n ≤ in_cell owns n k.result
      given_less = into_less (NeedsOwner program.table c.world.objects) e (gives_back_as c.frame k.whole.parts) given_is k.result k.given result gives n

      -- the store has no more owners than the run
      pub total_less : in_objects owns n c.notes c.world.objects + handle_owners handles_now n ≤ owners n c
      total_less = omega (arith, run_owners, now_owners, given_less, back_less)

      -- and none beside what the slot of a Shared receiver has
      pub total_beside : (u : HandleUse) → e.receiver ≡ Some u → is_owned u.handle.mode ≡ false
          → in_objects owns n c.notes c.world.objects + handle_owners handles_now n + first ≤ owners n c
      total_beside u at other = let z = back_beside u at other in omega (arith, run_owners, now_owners, given_less, z)

      -- and of an object that must have an owner no fewer
      pub total_more : NeedsOwner program.table c.world.objects n
          → owners n c ≤ in_objects owns n c.notes c.world.objects + handle_owners handles_now n
      total_more needs = let a = back_more needs in
          let b = into_more (NeedsOwner program.table c.world.objects) e (gives_back_as c.frame k.whole.parts) given_is k.result k.given result gives n needs
          may_enter.has_into in
          omega (arith, run_owners, now_owners, a, b)

      -- an object that has an owner in the store isn't marked as shared
      pub unshared_now : (first_shares : (u : HandleUse) → e.receiver ≡ Some u → is_owned u.entry.mode ≡ true → c.frame.share_entered ≡ false)
          → 0 < in_objects owns n c.notes c.world.objects + handle_owners handles_now n
          → (nth_object c.world.objects n).shared ≡ true → ⊥
      unshared_now first_shares some marked = ⊎_elim (λ l. at_lock e.receiver refl (lock_left l)) (λ t. no_tests t)
          (k.whole.shared n marked (let z = total_less in omega (arith, z, some)))
        where
          no_tests : 0 < open_tests n c → ⊥
          no_tests t = let a = ap (λ (o : Control). tests_in n c.frame.slots (around o)) k.control in
              let b = ap (λ (o : List Rest). tests_in n c.frame.slots o) outer in
              let d = ap (tests_among n) alone in omega (arith, a, b, d, t)

          lock_left : 0 < times n c.world.locked → 0 < locks_entry (entry_lock e.receiver) n
          lock_left t = let a = ap (λ (o : Control). locks_around n (around o)) k.control in
              let b = ap (locks_around n) outer in
              let d = ap (locks_among n) alone in
              let l = k.whole.locked n in omega (arith, a, b, d, l, t)

          at_use : (u : HandleUse) → e.receiver ≡ Some u → is_locked_at_entry u ≡ true → u.handle.object ≡ n → ⊥
          at_use u at locked o = by_exit u.exit.mode refl
            where
              modes : (is_shared u.handle.mode ≡ true) × (is_owned u.entry.mode ≡ true)
              modes = both (is_shared u.handle.mode) (is_owned u.entry.mode) locked
                where
                  both : (a b : Bool) → (a && b) ≡ true → (a ≡ true) × (b ≡ true)
                  both true b e = (refl, e)
                  both false b e = absurd cc

              left : HasLeft program.table c 0 (reference u.handle.object) u.exit
              left = left_recv u at

              not_owner : (m : Mode) → is_shared m ≡ true → is_owned m ≡ false
              not_owner Owned e = absurd cc
              not_owner Shared e = refl
              not_owner Unowned e = absurd cc

              unserved : (m w x : Mode) → is_shared m ≡ true → is_owned w ≡ true → is_unowned x ≡ true
                  → (serves m w || ((is_shared m && is_owned w) && not (is_unowned x))) ≡ true → ⊥
              unserved Shared Owned Unowned a b d e = absurd cc
              unserved Owned w x a b d e = absurd cc
              unserved Unowned w x a b d e = absurd cc
              unserved Shared Shared x a b d e = absurd cc
              unserved Shared Unowned x a b d e = absurd cc
              unserved Shared Owned Owned a b d e = absurd cc
              unserved Shared Owned Shared a b d e = absurd cc

              leaves_as : (m : Mode) → u.exit.mode ≡ m → LeavesWith (NeedsOwner program.table c.world.objects) (held m (states_of u.exit.states)) left.cell
              leaves_as m is = subst (λ (m : Mode). LeavesWith (NeedsOwner program.table c.world.objects) (held m (states_of u.exit.states)) left.cell) is left.leaves

              self : self_of c.frame.slots ≡ n
              self = ap (λ (x : Option Cell). unwrap_or (object_in x) 0) left.set ∙ ap (λ (v : Value). unwrap_or (referred v) 0) left.value ∙ o

              how : c.frame.how ≢ by_new
              how new = let b = (began program.table checked.table content e body c k outer alone).how
                  ∙ ap (λ (x : Option HandleUse). (beginning_on e x (values_of content e)).how) at in
                  absurd (let z : by_receiver ≡ by_new = sym b ∙ new in cc)

              by_exit : (m : Mode) → u.exit.mode ≡ m → ⊥
              by_exit Owned is =
                  let one : first ≡ 1 = ap (in_cell owns n) left.set ∙ cell_counted owns n left.cell (ap owns (leaves_as Owned is).1) (left.value ∙ ap reference o) in
                  let t = total_beside u at (not_owner u.handle.mode modes.0) in
                  let most = k.whole.one_owner n in
                  omega (arith, one, t, most, some)
              by_exit Shared is =
                  let s = k.shares how (ap permission_in left.set ∙ leaves_as Shared is) in
                  ⊎_elim
                  (λ none. let t = total_less in let z = subst (λ i. owners i c ≤ 0) self none in omega (arith, z, t, some))
                  (λ entered. absurd (true≢false (sym entered.0 ∙ first_shares u at modes.1)))
                  s.1
              by_exit Unowned is = unserved u.handle.mode u.entry.mode u.exit.mode modes.0 modes.1 (ap is_unowned is) (receiver_may_enter program.table content e may_enter u at)

          at_lock : (r : Option HandleUse) → e.receiver ≡ r → 0 < locks_entry (entry_lock r) n → ⊥
          at_lock None at l = omega (arith, l)
          at_lock (Some u) at l = by_lock (is_locked_at_entry u) refl l
            where
              by_lock : (b : Bool) → is_locked_at_entry u ≡ b → 0 < locks_entry (if b then Some u.handle.object else None) n → ⊥
              by_lock true is l = at_use u at is (one_of u.handle.object n l)
              by_lock false is l = omega (arith, l)

      -- each object that a Shared handle is put on is marked
      pub puts_are_marked : is_shared_by_handle (puts_after content e result) n ≡ true → (nth_object c.world.objects n).shared ≡ true
      puts_are_marked is = ⊎_elim at_uses at_into (shared_either (puts_of_uses (handle_uses content e)) (put_into e result) n is)
        where
          stands : (j : ℕ) (x : Cell) → c.frame.slots j ≡ Some x → Stands program.table c.world.objects x
          stands j x set = k.whole.slots j x set

          at_arguments : is_shared_by_handle (puts_of_uses (argument_uses content e)) n ≡ true → (nth_object c.world.objects n).shared ≡ true
          at_arguments a = args_marked program.table content e.who c n stands 1 e.signature.params e.args (values_of content e) fit left_args
              (λ j p at. each_at (IsParam program.table) e.signature.params j p body.params at) a

          at_receiver : (r : Option HandleUse) → e.receiver ≡ r
              → is_shared_by_handle (puts_of_uses (option_to_list r ++ argument_uses content e)) n ≡ true → (nth_object c.world.objects n).shared ≡ true
          at_receiver None at a = at_arguments a
          at_receiver (Some u) at a = ⊎_elim
              (λ x. use_marked program.table c 0 u (left_recv u at) (stands 0) (body.leaves u at) n x)
              at_arguments
              (shared_either (put_after_use u) (puts_of_uses (argument_uses content e)) n a)

          at_uses : is_shared_by_handle (puts_of_uses (handle_uses content e)) n ≡ true → (nth_object c.world.objects n).shared ≡ true
          at_uses a = at_receiver e.receiver refl a

          at_into : is_shared_by_handle (put_into e result) n ≡ true → (nth_object c.world.objects n).shared ≡ true
          at_into a = into_marked (NeedsOwner program.table c.world.objects) e (gives_back_as c.frame k.whole.parts) given_is k.result k.given
              result gives n program.table c.world.objects (λ x is. k.returned x is) a
