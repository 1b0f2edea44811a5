-- The objects of handles of a content at rest are there, and so is what a request puts into a handle.
use Rattle.std.proofs.Common.{◌≡◌, ℕ, ◌<◌, ◌≤◌, ◌⊎◌, inl, inr, Bool, true, false, List, [], ◌∷◌, ◌++◌, length, Option, Some, None, refl, sym, ap, ◌∙◌, subst, arith}
use Rattle.std.specs.Prelude.{⊤, ◌&&◌, flat_map, filter_map, option_map, option_to_list, if◌then◌else◌}
use Rattle.std.specs.Cmp.{tied_itself}
use Rattle.std.specs.Ordering.{is_eq}
use Rattle.std.specs.List.{cons_option}
use Rattle.ob_table.specs.Tables.{ClassTable}
use Rattle.ob_base.specs.declared.permission.Mode.TheVariants.{Shared}
use Rattle.ob_heap_spec.specs.Values.{Value, reference}
use Rattle.ob_heap_spec.specs.Objects.{Object}
use Rattle.ob_heap_spec.specs.Contents.{HandleName, Handle, Content}
use Rattle.ob_heap_spec.specs.Worlds.{ReadItem, World}
use Rattle.ob_heap_spec.specs.Handles.{NamedHandle, handle_at, put_handle, put_handles}
use Rattle.ob_heap_spec.proofs.Names.{names_total}
use Rattle.ob_rest_spec.specs.AtRest.{IsStoreAtRest}
use Rattle.ob_rest_spec.specs.Modes.{is_owned, is_shared}
use Rattle.ob_invocation_spec.specs.Entering.{handle_in, put_after_use, put_into, puts_after}
use Rattle.ob_invocation_spec.specs.Entries.{HandleUse, Entry, value_of, values_of, handle_uses}
use Rattle.ob_invocation_spec.specs.Handles.{handle_name, mark_puts}
use Rattle.ob_invocation_spec.specs.Invocation.{done_with}
use Rattle.ob_invocation_spec.specs.Replies.{Reply}
use Rattle.ob_invocation_spec.specs.Requests.{Argument, int_argument, bool_argument, text_argument, handle_argument, other_argument}
use Rattle.ob_invocation_laws.specs.Laws.{KeepsStoreAtRest}
use Rattle.ob_invocation_laws.proofs.Handles.{found_put}
use Rattle.ob_invocation_laws.proofs.Marking.{same_length, puts_share}
use Rattle.ob_invocation_laws.proofs.Shown.{found_object}
use Rattle.ob_invocation_laws.proofs.Used.{IntoPut, into_put}
use Rattle.ob_machine_meaning.specs.Meanings.{entry_of_request}
use Rattle.ob_request_run_laws.specs.Locality.{AreThere, IsReceiverThere}
use Rattle.ob_request_run_laws.proofs.Found.{AreUses, AreArgumentsOn, IsEntryOn, uses_on}

-- a number is below
abbrev pub IsBelow : ℕ → ℕ → Type 0
IsBelow l n = n < l

pub handles_below : (table : ClassTable) (c : Content) → IsStoreAtRest table c → (name : HandleName) (h : Handle) → handle_at c name ≡ Some h → IsBelow (length c.objects) h.object
handles_below table c rest name h e = found_object c.objects name c.handles h rest.is_content.handles e

-- What an entry comes with.

value_there : (xs : List Object) (x : Option Handle) (vs : List Value) → ((h : Handle) → x ≡ Some h → h.object < length xs) → AreThere xs vs → AreThere xs (cons_option (option_map (λ (h : Handle). reference h.object) x) vs)
value_there xs None vs h k = k
value_there xs (Some u) vs h k = (h u refl, k)

values_there : (xs : List Object) (c : Content) (who : List ℕ) (args : List Argument) → AreArgumentsOn (IsBelow (length xs)) c who args → AreThere xs (filter_map (value_of c who) args)
values_there xs c who [] h = tt
values_there xs c who (handle_argument name ∷ args) h = value_there xs (handle_at c (handle_name who name)) (filter_map (value_of c who) args) h.0 (values_there xs c who args h.1)
values_there xs c who (int_argument z ∷ args) h = (tt, values_there xs c who args h.1)
values_there xs c who (bool_argument b ∷ args) h = (tt, values_there xs c who args h.1)
values_there xs c who (text_argument bytes ∷ args) h = (tt, values_there xs c who args h.1)
values_there xs c who (other_argument ∷ args) h = values_there xs c who args h.1

receiver_there : (xs : List Object) (x : Option HandleUse) → AreUses (IsBelow (length xs)) (option_to_list x) → IsReceiverThere xs (option_map (λ (u : HandleUse). u.handle.object) x)
receiver_there xs None h = tt
receiver_there xs (Some u) h = h.0

pub args_there : (c : Content) (e : Entry) → IsEntryOn (IsBelow (length c.objects)) c e → AreThere c.objects (values_of c e)
args_there c e h = values_there c.objects c e.who e.args h.args

pub on_there : (c : Content) (e : Entry) → IsEntryOn (IsBelow (length c.objects)) c e → IsReceiverThere c.objects (entry_of_request c e).receiver
on_there c e h = receiver_there c.objects e.receiver h.receiver

-- Handles that are put.

-- handles that are put are on one of so many objects
abbrev pub ArePutsBelow : ℕ → List NamedHandle → Type 0
ArePutsBelow l [] = ⊤
ArePutsBelow l (p ∷ puts) = (p.1.object < l) × ArePutsBelow l puts

below_more : (n l m : ℕ) → n < l → l ≤ m → n < m
below_more n l m a b = omega (arith, a, b)

pub puts_more : (l m : ℕ) (puts : List NamedHandle) → l ≤ m → ArePutsBelow l puts → ArePutsBelow m puts
puts_more l m [] h k = tt
puts_more l m (p ∷ puts) h k = (below_more p.1.object l m k.0 h, puts_more l m puts h k.1)

pub puts_both : (l : ℕ) (xs ys : List NamedHandle) → ArePutsBelow l xs → ArePutsBelow l ys → ArePutsBelow l (xs ++ ys)
puts_both l [] ys h k = k
puts_both l (x ∷ xs) ys h k = (h.0, puts_both l xs ys h.1 k)

use_below : (l : ℕ) (u : HandleUse) → u.handle.object < l → ArePutsBelow l (put_after_use u)
use_below l u h = by (is_owned u.handle.mode && is_owned u.entry.mode) (is_shared u.entry.mode)
  where
    by : (a b : Bool) → ArePutsBelow l (if a then handle_in u.name u.handle.object u.exit.mode ∷ [] else if b then handle_in u.name u.handle.object Shared ∷ [] else [])
    by true b = (h, tt)
    by false true = (h, tt)
    by false false = tt

uses_below : (l : ℕ) (uses : List HandleUse) → AreUses (IsBelow l) uses → ArePutsBelow l (flat_map put_after_use uses)
uses_below l [] h = tt
uses_below l (u ∷ uses) h = puts_both l (put_after_use u) (flat_map put_after_use uses) (use_below l u h.0) (uses_below l uses h.1)

-- what is put last is there under its name
fold_last : (handles xs : List NamedHandle) (h : NamedHandle) → put_handles handles (xs ++ h ∷ []) ≡ put_handle (put_handles handles xs) h
fold_last handles [] h = refl
fold_last handles (x ∷ xs) h = fold_last (put_handle handles x) xs h

last_found : (objects : List Object) (handles xs : List NamedHandle) (h : NamedHandle) → handle_at (record { objects = objects; handles = put_handles handles (xs ++ h ∷ []) }) h.0 ≡ Some h.1
last_found objects handles xs h =
    ap (λ hs. handle_at (record { objects = objects; handles = hs }) h.0) (fold_last handles xs h)
    ∙ found_put (record { objects = objects; handles = put_handles handles xs }) h h.0
    ∙ ap (λ b. if b then Some h.1 else handle_at (record { objects = objects; handles = put_handles handles xs }) h.0) (ap is_eq (tied_itself names_total h.0))

-- the objects of what is put stay as many
marks_length : (w : World) (puts : List NamedHandle) → length (mark_puts w puts).objects ≡ length w.objects
marks_length w puts = same_length w.objects (mark_puts w puts).objects (puts_share w puts).marked

-- what is given is there, where the content after the request is at rest
given_below : (table : ClassTable) (reply : Reply) (c : Content) (e : Entry) (result : Option Value) (w : World) (reads : List ReadItem) → KeepsStoreAtRest table (done_with reply c (puts_after c e result) w reads)
    → ArePutsBelow (length w.objects) (put_into e result)
given_below table reply c e result w reads keeps = by (into_put e result)
  where
    puts : List NamedHandle
    puts = puts_after c e result

    by : (put_into e result ≡ []) ⊎ IntoPut e result → ArePutsBelow (length w.objects) (put_into e result)
    by (inl none) = subst (ArePutsBelow (length w.objects)) (sym none) tt
    by (inr put) =
        let h : NamedHandle = handle_in (handle_name e.who put.into) put.object put.mode in
        let uses = flat_map put_after_use (handle_uses c e) in
        let found : handle_at (record { objects = (mark_puts w puts).objects; handles = put_handles c.handles puts }) h.0 ≡ Some h.1 =
        ap (λ ps. handle_at (record { objects = (mark_puts w puts).objects; handles = put_handles c.handles (uses ++ ps) }) h.0) put.is ∙ last_found (mark_puts w puts).objects c.handles uses h in
        subst (ArePutsBelow (length w.objects)) (sym put.is)
        (subst (λ l. put.object < l) (marks_length w puts) (handles_below table (record { objects = (mark_puts w puts).objects; handles = put_handles c.handles puts }) keeps h.0 h.1 found), tt)

pub puts_below : (table : ClassTable) (reply : Reply) (c : Content) (e : Entry) (result : Option Value) (w : World) (reads : List ReadItem) → KeepsStoreAtRest table (done_with reply c (puts_after c e result) w reads)
    → length c.objects ≤ length w.objects → IsEntryOn (IsBelow (length c.objects)) c e → ArePutsBelow (length w.objects) (puts_after c e result)
puts_below table reply c e result w reads keeps more on =
    puts_both (length w.objects) (flat_map put_after_use (handle_uses c e)) (put_into e result)
    (puts_more (length c.objects) (length w.objects) (flat_map put_after_use (handle_uses c e)) more (uses_below (length c.objects) (handle_uses c e) (uses_on (IsBelow (length c.objects)) c e on)))
    (given_below table reply c e result w reads keeps)
