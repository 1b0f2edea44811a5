-- The checks of a request, on two contents.
use Rattle.std.proofs.Common.{◌≡◌, ℕ, Bool, true, false, List, [], ◌∷◌, ◌++◌, Option, Some, None, refl, sym, ap, ◌∙◌, subst, arith}
use Rattle.std.proofs.lemmas.List.Elements.{Contains-append_left, Contains-append_right}
use Rattle.std.specs.Prelude.{⊤, not, ◌||◌, map, flat_map, option_map, option_to_list, is_some, is_none, if◌then◌else◌}
use Rattle.std.specs.Option.{option_map_or}
use Rattle.std.specs.List.{list_any, list_all}
use Rattle.ob_table.specs.Tables.{ClassTable}
use Rattle.ob_heap_spec.specs.Contents.{HandleName, Handle, Content}
use Rattle.ob_heap_spec.specs.Worlds.{ReadItem, object_item, handle_item, handles_full_item, AllRead}
use Rattle.ob_invocation_spec.specs.Checks.{Check, check, refusal_of, reads_of}
use Rattle.ob_invocation_spec.specs.Entries.{Entry, entry_of_new, entry_of_call}
use Rattle.ob_invocation_spec.specs.Handles.{handle_name, handle_reads, serves}
use Rattle.ob_invocation_spec.specs.Refusals.{handle_check, argument_checks, is_no_transaction, receiver_serves, use_serves, is_repeated, making_checks, entry_checks, found_checks, new_checks, call_checks, give_checks}
use Rattle.ob_invocation_spec.specs.Replies.{Refusal, no_contract, not_main, no_transaction, arg_count, arg_kind, permission, repeated, into_missing, into_needless}
use Rattle.ob_invocation_spec.specs.Requests.{argument_names, NewRequest, CallRequest, GiveRequest}
use Rattle.ob_request_run_laws.proofs.Lists.{some_is_none}
use Rattle.ob_request_run_laws.specs.Laws.{AgreeOn}
use Rattle.ob_request_run_laws.proofs.Found.{IsFound, found_by, AreFound, arguments_found, IsEntryFound, kinds_same, argument_uses_same, uses_same, new_found, call_found, call_same}

-- Each check is the same as far as the ones before it and its own reads say.
pub EachSame : List ReadItem → List Check → List Check → Type 0
EachSame items [] [] = ⊤
EachSame items [] (d ∷ ds) = ⊥
EachSame items (c ∷ cs) [] = ⊥
EachSame items (c ∷ cs) (d ∷ ds) = (d.refusal ≡ c.refusal) × (AllRead c.reads items → (d.reads ≡ c.reads) × (d.holds ≡ c.holds) × (c.holds ≡ false → EachSame items cs ds))

each_none : (items : List ReadItem) → EachSame items [] []
unfolding EachSame
each_none items = tt

-- one check more, which is the same by its own reads
each_more : (items : List ReadItem) (c d : Check) (cs ds : List Check) → d.refusal ≡ c.refusal → (AllRead c.reads items → (d.reads ≡ c.reads) × (d.holds ≡ c.holds) × (c.holds ≡ false → EachSame items cs ds))
    → EachSame items (c ∷ cs) (d ∷ ds)
unfolding EachSame
each_more items c d cs ds e h = (e, h)

pub record SameChecks (cs ds : List Check) : Type 0 where
  pub refusal : refusal_of ds ≡ refusal_of cs
  pub reads : reads_of ds ≡ reads_of cs

pub read_left : (a b items : List ReadItem) → AllRead (a ++ b) items → AllRead a items
read_left a b items h = λ i c. h i (Contains-append_left a b i c)

pub read_right : (a b items : List ReadItem) → AllRead (a ++ b) items → AllRead b items
read_right a b items h = λ i c. h i (Contains-append_right a b i c)

check_by : (c d : Check) (cs ds : List Check) (b : Bool) → c.holds ≡ b → d.holds ≡ b → d.refusal ≡ c.refusal → d.reads ≡ c.reads → (b ≡ false → SameChecks cs ds) → SameChecks (c ∷ cs) (d ∷ ds)
check_by c d cs ds true e f r l h = record { refusal = rw (e, f) (ap Some r); reads = rw (e, f) (ap (λ a. a ++ []) l) }
check_by c d cs ds false e f r l h = record { refusal = rw (e, f) (h refl).refusal; reads = rw (e, f) (ap (λ a. a ++ reads_of ds) l ∙ ap (λ a. c.reads ++ a) (h refl).reads) }

pub checks_same : (items : List ReadItem) (cs ds : List Check) → EachSame items cs ds → AllRead (reads_of cs) items → SameChecks cs ds
unfolding EachSame
checks_same items [] [] h all = record { refusal = refl; reads = refl }
checks_same items [] (d ∷ ds) h all = absurd h
checks_same items (c ∷ cs) [] h all = absurd h
checks_same items (c ∷ cs) (d ∷ ds) h all =
    let own = h.1 (read_left c.reads (if c.holds then [] else reads_of cs) items all) in
    check_by c d cs ds c.holds refl own.1 h.0 own.0
    (λ e. checks_same items cs ds (own.2 e) (subst (λ b. AllRead (if b then [] else reads_of cs) items) e (read_right c.reads (if c.holds then [] else reads_of cs) items all)))

-- Handles.

handle_same : (items : List ReadItem) (c d : Content) (name : HandleName) (cs ds : List Check) → AgreeOn items c d → (IsFound c d name → EachSame items cs ds)
    → EachSame items (handle_check c name ∷ cs) (handle_check d name ∷ ds)
handle_same items c d name cs ds a h = each_more items (handle_check c name) (handle_check d name) cs ds refl (λ all. let f = found_by items c d name a all in (reads f, ap is_none f.handle, λ e. h f))
  where
    reads : IsFound c d name → handle_reads d name ≡ handle_reads c name
    reads f = ap (λ x. handle_item name ∷ option_to_list (option_map (λ (k : Handle). object_item k.object) x)) f.handle

names_same : (items : List ReadItem) (c d : Content) (who : List ℕ) (names : List (List ℕ)) (cs ds : List Check) → AgreeOn items c d → (AreFound c d who names → EachSame items cs ds)
    → EachSame items (map (λ name. handle_check c (handle_name who name)) names ++ cs) (map (λ name. handle_check d (handle_name who name)) names ++ ds)
names_same items c d who [] cs ds a h = h tt
names_same items c d who (n ∷ names) cs ds a h = handle_same items c d (handle_name who n) _ _ a (λ f. names_same items c d who names cs ds a (λ g. h (f, g)))

-- a check that reads nothing more
check_same : (items : List ReadItem) (refusal : Refusal) (x y : Bool) (cs ds : List Check) → y ≡ x → EachSame items cs ds → EachSame items (check refusal x ∷ cs) (check refusal y ∷ ds)
check_same items refusal x y cs ds e h = each_more items (check refusal x) (check refusal y) cs ds refl (λ all. (refl, e, λ f. h))

-- What is entered.

making_same : (items : List ReadItem) (c d : Content) (name : HandleName) (cs ds : List Check) → AgreeOn items c d → EachSame items cs ds → EachSame items (making_checks c name ++ cs) (making_checks d name ++ ds)
making_same items c d name cs ds a h = each_more items _ _ _ _ refl (λ all. (
  refl,
  ap is_some (a.handles name (all (handle_item name) (0, omega arith, refl))),
  λ e.
      each_more items _ _ cs ds refl (λ more. (refl, a.full (more handles_full_item (0, omega arith, refl)), λ f. h)),
))

into_same : (items : List ReadItem) (c d : Content) (who : List ℕ) (into : Option (List ℕ)) → AgreeOn items c d
    → EachSame items (flat_map (λ name. making_checks c (handle_name who name)) (option_to_list into) ++ []) (flat_map (λ name. making_checks d (handle_name who name)) (option_to_list into) ++ [])
into_same items c d who None a = each_none items
into_same items c d who (Some name) a = making_same items c d (handle_name who name) [] [] a (each_none items)

entry_same : (items : List ReadItem) (table : ClassTable) (c d : Content) (e : Entry) → AgreeOn items c d → IsEntryFound c d e → EachSame items (entry_checks table c e ++ []) (entry_checks table d e ++ [])
entry_same items table c d e a h =
    check_same items arg_count _ _ _ _ refl
    (check_same items arg_kind _ _ _ _ (kinds_same table c d e h)
    (check_same items permission _ _ _ _ (ap (λ uses. not (list_all receiver_serves (option_to_list e.receiver)) || not (list_all use_serves uses)) (argument_uses_same c d e h))
    (check_same items repeated _ _ _ _ (ap (λ uses. list_any (is_repeated uses) uses) (uses_same c d e h))
    (check_same items into_missing _ _ _ _ refl
    (check_same items into_needless _ _ _ _ refl (into_same items c d e.who e.into a))))))

found_same : (items : List ReadItem) (table : ClassTable) (c d : Content) (o : Option Entry) → AgreeOn items c d → ((e : Entry) → o ≡ Some e → IsEntryFound c d e) → EachSame items (found_checks table c o) (found_checks table d o)
found_same items table c d None a h = each_none items
found_same items table c d (Some e) a h = entry_same items table c d e a (h e refl)

-- Requests.

pub new_same : (items : List ReadItem) (table : ClassTable) (c d : Content) (who : List ℕ) (r : NewRequest) → AgreeOn items c d → EachSame items (new_checks table c who r) (new_checks table d who r)
new_same items table c d who r a = names_same items c d who (argument_names r.args) _ _ a (λ f.
    check_same items no_contract _ _ _ _ refl (check_same items not_main _ _ _ _ refl (found_same items table c d (entry_of_new table who r) a (λ e is. new_found table c d who r e (arguments_found c d who r.args f) is))))

pub call_checks_same : (items : List ReadItem) (table : ClassTable) (c d : Content) (who : List ℕ) (r : CallRequest) → AgreeOn items c d → EachSame items (call_checks table c who r) (call_checks table d who r)
call_checks_same items table c d who r a = handle_same items c d (handle_name who r.on) _ _ a (λ on. names_same items c d who (argument_names r.args) _ _ a (λ f.
    check_same items no_transaction _ _ _ _ (ap is_none (call_same table c d who r on))
    (subst (λ o. EachSame items (found_checks table c (entry_of_call table c who r)) (found_checks table d o)) (sym (call_same table c d who r on))
    (found_same items table c d (entry_of_call table c who r) a (λ e is. call_found table c d who r e on (arguments_found c d who r.args f) is)))))

pub give_same : (items : List ReadItem) (c d : Content) (who : List ℕ) (r : GiveRequest) → AgreeOn items c d → EachSame items (give_checks c who r) (give_checks d who r)
give_same items c d who r a = handle_same items c d (handle_name who r.on) _ _ a (λ on.
    check_same items permission _ _ _ _ (ap (λ x. option_map_or (λ (h : Handle). not (serves h.mode r.mode)) x false) on.handle) (making_same items c d (handle_name r.to r.into) [] [] a (each_none items)))

pub one_same : (items : List ReadItem) (c d : Content) (name : HandleName) → AgreeOn items c d → EachSame items (handle_check c name ∷ []) (handle_check d name ∷ [])
one_same items c d name a = handle_same items c d name [] [] a (λ f. each_none items)

-- What the checks have read once none holds.

abbrev if_reads : Check → List Check → List ReadItem
if_reads c cs = c.reads ++ (if c.holds then [] else reads_of cs)

-- the first check doesn't hold, and what the others read is read
pub first_passed : (c : Check) (cs : List Check) → refusal_of (c ∷ cs) ≡ None → (c.holds ≡ false) × (refusal_of cs ≡ None)
first_passed c cs e = by c.holds e
  where
    by : (b : Bool) → (if b then Some c.refusal else refusal_of cs) ≡ None → (b ≡ false) × (refusal_of cs ≡ None)
    by true f = absurd (some_is_none f)
    by false f = (refl, f)

pub rest_read : (c : Check) (cs : List Check) (items : List ReadItem) → refusal_of (c ∷ cs) ≡ None → AllRead (reads_of (c ∷ cs)) items → AllRead (reads_of cs) items
rest_read c cs items e all = subst (λ b. AllRead (if b then [] else reads_of cs) items) (first_passed c cs e).0 (read_right c.reads (if c.holds then [] else reads_of cs) items all)

names_read : (items : List ReadItem) (c d : Content) (who : List ℕ) (names : List (List ℕ)) (cs : List Check) → AgreeOn items c d → refusal_of (map (λ name. handle_check c (handle_name who name)) names ++ cs) ≡ None
    → AllRead (reads_of (map (λ name. handle_check c (handle_name who name)) names ++ cs)) items → AreFound c d who names
names_read items c d who [] cs a e all = tt
names_read items c d who (n ∷ names) cs a e all =
    let k = handle_check c (handle_name who n) in
    let ks = map (λ name. handle_check c (handle_name who name)) names ++ cs in
    (found_by items c d (handle_name who n) a (read_left k.reads (if k.holds then [] else reads_of ks) items all), names_read items c d who names cs a (first_passed k ks e).1 (rest_read k ks items e all))

pub new_entry_found : (items : List ReadItem) (table : ClassTable) (c d : Content) (who : List ℕ) (r : NewRequest) (e : Entry) → AgreeOn items c d → refusal_of (new_checks table c who r) ≡ None → AllRead (reads_of (new_checks table c who r)) items
    → entry_of_new table who r ≡ Some e → IsEntryFound c d e
new_entry_found items table c d who r e a passed all is = new_found table c d who r e (arguments_found c d who r.args (names_read items c d who (argument_names r.args) _ a passed all)) is

pub on_found : (items : List ReadItem) (c d : Content) (name : HandleName) (cs : List Check) → AgreeOn items c d → AllRead (reads_of (handle_check c name ∷ cs)) items → IsFound c d name
on_found items c d name cs a all = found_by items c d name a (read_left (handle_check c name).reads (if (handle_check c name).holds then [] else reads_of cs) items all)

pub call_on_found : (items : List ReadItem) (table : ClassTable) (c d : Content) (who : List ℕ) (r : CallRequest) → AgreeOn items c d → AllRead (reads_of (call_checks table c who r)) items → IsFound c d (handle_name who r.on)
call_on_found items table c d who r a all =
    on_found items c d (handle_name who r.on) (argument_checks c who r.args ++ check no_transaction (is_no_transaction (entry_of_call table c who r)) ∷ found_checks table c (entry_of_call table c who r)) a all

pub call_entry_found : (items : List ReadItem) (table : ClassTable) (c d : Content) (who : List ℕ) (r : CallRequest) (e : Entry) → AgreeOn items c d → refusal_of (call_checks table c who r) ≡ None
    → AllRead (reads_of (call_checks table c who r)) items → entry_of_call table c who r ≡ Some e → IsEntryFound c d e
call_entry_found items table c d who r e a passed all is =
    let k = handle_check c (handle_name who r.on) in
    let ks = argument_checks c who r.args ++ check no_transaction (is_no_transaction (entry_of_call table c who r)) ∷ found_checks table c (entry_of_call table c who r) in
    call_found table c d who r e (on_found items c d (handle_name who r.on) ks a all)
    (arguments_found c d who r.args (names_read items c d who (argument_names r.args) _ a (first_passed k ks passed).1 (rest_read k ks items passed all))) is
