-- The line of a request that can be sent asks that request.
use Rattle.std.proofs.Common.{◌≡◌, ℕ, ℤ, ◌≤◌, ◌^◌, pos, negsuc, true, List, [], ◌∷◌, Option, Some, None, refl, ap₂, arith, ◌++◌, Ordering, Less, Equal, Greater}
use Rattle.std.specs.Prelude.{IsTrue, ⊤, codes}
use Rattle.std.specs.List.{list_all}
use Rattle.std.specs.Str.{is_utf8}
use Rattle.std.specs.Ordering.{nat_cmp, match_ordering}
use Rattle.std.specs.Cmp.Lexicographic.{slice_cmp}
use Rattle.std.proofs.lemmas.Bool.{ltb-true}
use Rattle.serde_json.specs.Data.{Data, string, Members, no_members, member, put, depth, items_depth, members_depth}
use Rattle.std.proofs.lemmas.Str.{is_utf8-from_IsUtf8}
use Rattle.json.proofs.Printed.Utf8.{are_ascii, IsUtf8-are_ascii}
use Rattle.serde_json.proofs.OnLiterals.{serde_json_on_literals}
use Rattle.ob_base.specs.Names.{is_label, is_text}
use Rattle.ob_base.proofs.OptionalLemmas.{both_true}
use Rattle.ob_base.specs.declared.permission.Mode.{Mode}
use Rattle.ob_base.specs.declared.permission.Mode.TheVariants.{Owned, Shared, Unowned}
use Rattle.ob_wire.specs.Requests.{word_of, word_of_mode, arguments_of, argument_of, Asks}
use Rattle.ob_wire.specs.Reading.{request_in}
use Rattle.ob_wire.proofs.RequestLaws.{request_there}
use Rattle.ob_wire.specs.declared.request.Arg.{Arg}
use Rattle.ob_wire.specs.declared.request.Arg.TheVariants as arg
use Rattle.ob_wire.specs.declared.request.Request.{Request}
use Rattle.ob_wire.specs.declared.request.Op.{Op}
use Rattle.ob_wire.specs.declared.request.Op.TheVariants.{New, Call, Disown, Give, See, Owner}
use Rattle.ob_client.specs.RequestLines.{Pair, argument_json, arguments_json, args_pairs, into_pairs, common_pairs, op_pairs, with_pairs, request_json, request_line}
use Rattle.ob_client.specs.Sendable.{is_id, is_argument, is_label_if, is_operation, is_sendable}
use Rattle.ob_client.specs.Exact.{IsExact, AreExact, HasExact, with_members}
use Rattle.ob_client.proofs.ExactLemmas.{read_again, text_utf8}

-- ---- arguments

argument_again : (a : Arg) → is_argument a ≡ true → argument_of (argument_json a) ≡ a
argument_again (arg.Int (pos n)) h = rw h refl
argument_again (arg.Int (negsuc n)) h = refl
argument_again (arg.Bool b) h = refl
argument_again (arg.Text text) h = rw h refl
argument_again (arg.Handle name) h = rw h refl
argument_again arg.Other h = refl

arguments_again : (args : List Arg) → list_all is_argument args ≡ true → arguments_of (arguments_json args) ≡ args
arguments_again [] h = refl
arguments_again (a ∷ args) h =
    let parts = both_true (is_argument a) (list_all is_argument args) h in
    ap₂ (λ (x : Arg) xs. x ∷ xs) (argument_again a parts.0) (arguments_again args parts.1)

-- ---- what is asked is worked out of the value

-- a request with this number and client
abbrev request : ℕ → List ℕ → Op → Request
request id who op = record { id = pos id; who = who; op = op }

new_again : (id : ℕ) (who contract : List ℕ) (args : List Arg) (into : Option (List ℕ)) → is_id (pos id) ≡ true → is_label who ≡ true
    → is_label contract ≡ true → list_all is_argument args ≡ true → is_label_if into ≡ true
    → request_in (request_json (request id who (New contract args into))) ≡ Some (request id who (New contract args into))
unfolding serde_json_on_literals
new_again id who contract [] None i w c a o = rw (i, w, c) refl
new_again id who contract [] (Some into) i w c a o = rw (i, w, c, o) refl
new_again id who contract (x ∷ xs) None i w c a o = rw (i, w, c, arguments_again (x ∷ xs) a) refl
new_again id who contract (x ∷ xs) (Some into) i w c a o = rw (i, w, c, o, arguments_again (x ∷ xs) a) refl

call_again : (id : ℕ) (who on tx : List ℕ) (args : List Arg) (into : Option (List ℕ)) → is_id (pos id) ≡ true → is_label who ≡ true
    → is_label on ≡ true → is_label tx ≡ true → list_all is_argument args ≡ true → is_label_if into ≡ true
    → request_in (request_json (request id who (Call on tx args into))) ≡ Some (request id who (Call on tx args into))
unfolding serde_json_on_literals
call_again id who on tx [] None i w c t a o = rw (i, w, c, t) refl
call_again id who on tx [] (Some into) i w c t a o = rw (i, w, c, t, o) refl
call_again id who on tx (x ∷ xs) None i w c t a o = rw (i, w, c, t, arguments_again (x ∷ xs) a) refl
call_again id who on tx (x ∷ xs) (Some into) i w c t a o = rw (i, w, c, t, o, arguments_again (x ∷ xs) a) refl

give_again : (id : ℕ) (who on to into : List ℕ) (mode : Mode) → is_id (pos id) ≡ true → is_label who ≡ true
    → is_label on ≡ true → is_label to ≡ true → is_label into ≡ true
    → request_in (request_json (request id who (Give on to into mode))) ≡ Some (request id who (Give on to into mode))
unfolding serde_json_on_literals
give_again id who on to into Owned i w c t o = rw (i, w, c, t, o) refl
give_again id who on to into Shared i w c t o = rw (i, w, c, t, o) refl
give_again id who on to into Unowned i w c t o = rw (i, w, c, t, o) refl

op_again : (id : ℕ) (who : List ℕ) (op : Op) → is_id (pos id) ≡ true → is_label who ≡ true → is_operation op ≡ true
    → request_in (request_json (request id who op)) ≡ Some (request id who op)
unfolding serde_json_on_literals
op_again id who (New contract args into) i w h =
    let first = both_true _ _ h in
    let rest = both_true _ _ first.1 in
    new_again id who contract args into i w first.0 rest.0 rest.1
op_again id who (Call on tx args into) i w h =
    let first = both_true _ _ h in
    let second = both_true _ _ first.1 in
    let rest = both_true _ _ second.1 in
    call_again id who on tx args into i w first.0 second.0 rest.0 rest.1
op_again id who (Give on to into mode) i w h =
    let first = both_true _ _ h in
    let rest = both_true _ _ first.1 in
    give_again id who on to into mode i w first.0 rest.0 rest.1
op_again id who (Disown on) i w h = rw (i, w, h) refl
op_again id who (See on) i w h = rw (i, w, h) refl
op_again id who (Owner on) i w h = rw (i, w, h) refl

-- ---- its JSON value is exact

pub plain : (text : List ℕ) → are_ascii text ≡ true → is_utf8 text ≡ true
plain text h = is_utf8-from_IsUtf8 text (IsUtf8-are_ascii text h)

text_exact : (text : List ℕ) → is_text text ≡ true → is_utf8 text ≡ true
text_exact text h = (both_true _ (is_utf8 text) h).1

pub label_exact : (label : List ℕ) → is_label label ≡ true → is_utf8 label ≡ true
label_exact label h = (both_true _ (is_utf8 label) h).1

argument_exact : (a : Arg) → is_argument a ≡ true → IsExact (argument_json a)
argument_exact (arg.Int (pos n)) h = omega (arith, ltb-true n (2 ^ 63) h)
argument_exact (arg.Int (negsuc n)) h = ltb-true n (2 ^ 63) h
argument_exact (arg.Bool b) h = tt
argument_exact (arg.Text text) h = text_exact text h
argument_exact (arg.Handle name) h = (refl, (plain (codes "ref") refl, label_exact name h, tt))
argument_exact arg.Other h = tt

arguments_exact : (args : List Arg) → list_all is_argument args ≡ true → AreExact (arguments_json args)
arguments_exact [] h = tt
arguments_exact (a ∷ args) h =
    let parts = both_true (is_argument a) (list_all is_argument args) h in
    (argument_exact a parts.0, arguments_exact args parts.1)

arguments_shallow : (args : List Arg) → items_depth (arguments_json args) ≤ 1
arguments_shallow [] = omega arith
arguments_shallow (arg.Int z ∷ args) = omega (arith, arguments_shallow args)
arguments_shallow (arg.Bool b ∷ args) = omega (arith, arguments_shallow args)
arguments_shallow (arg.Text text ∷ args) = omega (arith, arguments_shallow args)
arguments_shallow (arg.Handle name ∷ args) = omega (arith, arguments_shallow args)
arguments_shallow (arg.Other ∷ args) = omega (arith, arguments_shallow args)

-- members that are exact, and not deep
abbrev pub AreGood : Members → Type 0
AreGood members = HasExact members × (members_depth members ≤ 2)

abbrev pub IsGood : Data → Type 0
IsGood value = IsExact value × (depth value ≤ 2)

by_order : (o : Ordering) (a b c : Members) → AreGood a → AreGood b → AreGood c → AreGood (match_ordering o a b c)
by_order Less a b c x y z = x
by_order Equal a b c x y z = y
by_order Greater a b c x y z = z

one_more : (key : List ℕ) (value : Data) (ms : Members) → is_utf8 key ≡ true → IsGood value → AreGood ms → AreGood (member key value ms)
one_more key value ms k v m = ((k, v.0, m.0), omega (arith, v.1, m.1))

pub put_good : (key : List ℕ) (value : Data) (ms : Members) → is_utf8 key ≡ true → IsGood value → AreGood ms → AreGood (put key value ms)
put_good key value no_members k v m = one_more key value no_members k v m
put_good key value (member l other ms) k v m =
    let rest : AreGood ms = (m.0.2, omega (arith, m.1)) in
    let old : IsGood other = (m.0.1, omega (arith, m.1)) in
    by_order (slice_cmp nat_cmp key l) (member key value (member l other ms)) (member l value ms) (member l other (put key value ms))
    (one_more key value (member l other ms) k v m) (one_more l value ms m.0.0 v rest)
    (one_more l other (put key value ms) m.0.0 old (put_good key value ms k v rest))

abbrev ArePairs : List Pair → Type 0
ArePairs [] = ⊤
ArePairs (p ∷ pairs) = (is_utf8 p.0 ≡ true) × IsGood p.1 × ArePairs pairs

pairs_good : (pairs : List Pair) (ms : Members) → ArePairs pairs → AreGood ms → AreGood (with_pairs ms pairs)
pairs_good [] ms h m = m
pairs_good (p ∷ pairs) ms h m = pairs_good pairs _ h.2 (put_good p.0 p.1 ms h.0 h.1 m)

more_pairs : (a b : List Pair) → ArePairs a → ArePairs b → ArePairs (a ++ b)
more_pairs [] b x y = y
more_pairs (p ∷ a) b x y = (x.0, x.1, more_pairs a b x.2 y)

good_text : (text : List ℕ) → is_utf8 text ≡ true → IsGood (string text)
good_text text h = (h, omega arith)

good_label : (label : List ℕ) → is_label label ≡ true → IsGood (string label)
good_label label h = good_text label (label_exact label h)

good_args : (args : List Arg) → list_all is_argument args ≡ true → ArePairs (args_pairs args)
good_args [] h = tt
good_args (a ∷ args) h = (plain (codes "args") refl, (arguments_exact (a ∷ args) h, omega (arith, arguments_shallow (a ∷ args))), tt)

good_into : (into : Option (List ℕ)) → is_label_if into ≡ true → ArePairs (into_pairs into)
good_into None h = tt
good_into (Some into) h = (plain (codes "into") refl, good_label into h, tt)

good_word : (mode : Mode) → IsGood (string (word_of_mode mode))
good_word Owned = (plain (codes "owned") refl, omega arith)
good_word Shared = (plain (codes "shared") refl, omega arith)
good_word Unowned = (plain (codes "unowned") refl, omega arith)

good_op_word : (op : Op) → IsGood (string (word_of op))
good_op_word (New contract args into) = (plain (codes "new") refl, omega arith)
good_op_word (Call on tx args into) = (plain (codes "call") refl, omega arith)
good_op_word (Disown on) = (plain (codes "disown") refl, omega arith)
good_op_word (Give on to into mode) = (plain (codes "give") refl, omega arith)
good_op_word (See on) = (plain (codes "see") refl, omega arith)
good_op_word (Owner on) = (plain (codes "owner") refl, omega arith)

good_op : (op : Op) → is_operation op ≡ true → ArePairs (op_pairs op)
good_op (New contract args into) h =
    let first = both_true _ _ h in
    let rest = both_true _ _ first.1 in
    (plain (codes "contract") refl, good_label contract first.0, more_pairs (args_pairs args) _ (good_args args rest.0) (good_into into rest.1))
good_op (Call on tx args into) h =
    let first = both_true _ _ h in
    let second = both_true _ _ first.1 in
    let rest = both_true _ _ second.1 in
    (plain (codes "on") refl, good_label on first.0, (plain (codes "tx") refl, good_label tx second.0, more_pairs (args_pairs args) _ (good_args args rest.0) (good_into into rest.1)))
good_op (Give on to into mode) h =
    let first = both_true _ _ h in
    let rest = both_true _ _ first.1 in (
      plain (codes "on") refl,
      good_label on first.0,
      (
        plain (codes "to") refl,
        good_label to rest.0,
        (plain (codes "into") refl, good_label into rest.1, (plain (codes "as") refl, good_word mode, tt)),
      ),
    )
good_op (Disown on) h = (plain (codes "on") refl, good_label on h, tt)
good_op (See on) h = (plain (codes "on") refl, good_label on h, tt)
good_op (Owner on) h = (plain (codes "on") refl, good_label on h, tt)

-- the members of a request
abbrev members_of_request : ℕ → List ℕ → Op → Members
members_of_request id who op = with_pairs no_members (common_pairs (pos id) (word_of op) who ++ op_pairs op)

in_order : (id : ℕ) (who : List ℕ) (op : Op) → with_members no_members (members_of_request id who op) ≡ members_of_request id who op
unfolding serde_json_on_literals
in_order id who (New contract [] None) = refl
in_order id who (New contract [] (Some into)) = refl
in_order id who (New contract (a ∷ args) None) = refl
in_order id who (New contract (a ∷ args) (Some into)) = refl
in_order id who (Call on tx [] None) = refl
in_order id who (Call on tx [] (Some into)) = refl
in_order id who (Call on tx (a ∷ args) None) = refl
in_order id who (Call on tx (a ∷ args) (Some into)) = refl
in_order id who (Disown on) = refl
in_order id who (Give on to into mode) = refl
in_order id who (See on) = refl
in_order id who (Owner on) = refl

good_members : (id : ℕ) (who : List ℕ) (op : Op) → is_id (pos id) ≡ true → is_label who ≡ true → is_operation op ≡ true
    → AreGood (members_of_request id who op)
good_members id who op i w o =
    pairs_good (common_pairs (pos id) (word_of op) who ++ op_pairs op) no_members (
      plain (codes "id") refl,
      (omega (arith, ltb-true id (2 ^ 63) i), omega arith),
      (plain (codes "op") refl, good_op_word op, (plain (codes "who") refl, good_label who w, good_op op o)),
    ) (tt, omega arith)

-- ---- the law

asks : (id : ℕ) (who : List ℕ) (op : Op) → is_id (pos id) ≡ true → is_label who ≡ true → is_operation op ≡ true
    → Asks (request_line (request id who op)) (request id who op)
asks id who op i w o =
    let good = good_members id who op i w o in
    let value = request_json (request id who op) in
    let exact : IsExact value = (in_order id who op, good.0) in (
      value,
      record { utf8 = text_utf8 value exact; json = read_again value exact (omega (arith, good.1)) },
      request_there value _ (op_again id who op i w o),
    )

pub lines_ask : (r : Request) → IsTrue (is_sendable r) → Asks (request_line r) r
lines_ask r h =
    let first = both_true (is_id r.id) _ h in
    let rest = both_true (is_label r.who) (is_operation r.op) first.1 in
    go r.id r.who r.op first.0 rest.0 rest.1
  where
    go : (id : ℤ) (who : List ℕ) (op : Op) → is_id id ≡ true → is_label who ≡ true → is_operation op ≡ true
        → Asks (request_line (record { id = id; who = who; op = op })) (record { id = id; who = who; op = op })
    go (pos id) who op i w o = asks id who op i w o
    go (negsuc id) who op i w o = absurd cc
