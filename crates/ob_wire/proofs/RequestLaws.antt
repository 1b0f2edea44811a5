-- What is worked out of a value is what the value asks.
use Rattle.std.proofs.Common.{rules, subst, ◌≡◌, ℕ, ℤ, pos, negsuc, Bool, true, false, List, Option, Some, None, refl, sym, ◌∙◌, ap, ◌⊎◌, inl, inr}
use Rattle.std.specs.Prelude.{codes, is_some, ◌≤ℤ◌, if◌then◌else◌}
use Rattle.std.specs.List.{list_any}
use Rattle.std.specs.Str.{bytes_eq}
use Rattle.std.proofs.lemmas.Slice.Eq.{bytes_eq-Decides}
use Rattle.serde_json.specs.Data.{Data, null, boolean, number, string, array, object, Members, no_members, member, Items}
use Rattle.serde_json.specs.Find.{get, get_member, as_str, as_array}
use Rattle.ob_base.specs.Names.{is_label}
use Rattle.ob_base.specs.Optional.{◌>>=◌, where_true}
use Rattle.ob_base.proofs.OptionalLemmas.{bind_some, where_some, both_true, by_cases}
use Rattle.ob_base.specs.declared.permission.Mode.{Mode}
use Rattle.ob_base.specs.declared.permission.Mode.TheVariants.{Owned, Shared, Unowned}
use Rattle.ob_wire.specs.Requests.{keys_of, allowed_keys, word_of, word_of_mode, HasOnly, LabelAt, LabelIfAt, whole, IdAt, arguments_of, AreArgs, ModeAt, HasParts, IsRequest, Asks}
use Rattle.ob_wire.specs.Reading.{only_keys, has_only, found_if, text_at, label_at, label_if_at, from_zero, id_at, args_in, args_at, mode_named, mode_at, new_in, call_in, give_in, on_in, op_named, op_in, request_in}
use Rattle.ob_wire.specs.declared.reading.RequestKeys.TheVariants as allowed
use Rattle.ob_wire.specs.declared.request.Arg.{Arg}
use Rattle.ob_wire.specs.declared.request.Request.{Request}
use Rattle.ob_wire.specs.declared.request.Op.{Op}
use Rattle.ob_wire.specs.declared.request.Op.TheVariants.{New, Call, Disown, Give, See, Owner}
use Rattle.ob_wire.proofs.ReadingLemmas.{get_member-more}

found_some : {A : Type 0} (b : Bool) (o : Option A) (y : A) → found_if b o ≡ Some y → (b ≡ true) × (o ≡ Some y)
found_some true o y e = (refl, e)
found_some false o y e = absurd cc

same_text : (a b : List ℕ) → bytes_eq a b ≡ true → a ≡ b
same_text a b e = (bytes_eq-Decides a b).0 e

-- ---- keys

-- a key that is there is one of these
among_keys : (keys : List (List ℕ)) (ms : Members) (key : List ℕ) → only_keys keys ms ≡ true → is_some (get_member key ms) ≡ true → list_any (bytes_eq key) keys ≡ true
among_keys keys no_members key only is = absurd cc
among_keys keys (member l value ms) key only is =
    let h = both_true (list_any (bytes_eq l) keys) (only_keys keys ms) only in
    elim (by_cases (bytes_eq key l)) [
      | inl same ↦ rw (same_text key l same) h.0
      | inr other ↦ among_keys keys ms key h.1 (sym (ap is_some (get_member-more key l value ms ∙ rw other refl)) ∙ is)
    ]

only_there : (keys : List (List ℕ)) (value : Data) → has_only keys value ≡ true → HasOnly keys value
only_there keys null only = absurd cc
only_there keys (boolean b) only = absurd cc
only_there keys (number n) only = absurd cc
only_there keys (string t) only = absurd cc
only_there keys (array ds) only = absurd cc
only_there keys (object ms) only = record { members = ms; is = refl; only = λ key. among_keys keys ms key only }

-- a key of some member
abbrev Among : List ℕ → Members → Type 0
Among key no_members = ⊥
Among key (member l value ms) = (key ≡ l) ⊎ Among key ms

found : (key : List ℕ) (ms : Members) → Among key ms → is_some (get_member key ms) ≡ true
found key no_members among = absurd among
found key (member l value ms) (inl same) = ap is_some (get_member-more key l value ms) ∙ rw ((bytes_eq-Decides key l).1 same) refl
found key (member l value ms) (inr later) =
    elim (by_cases (bytes_eq key l)) [
      | inl same ↦ ap is_some (get_member-more key l value ms) ∙ rw same refl
      | inr other ↦ ap is_some (get_member-more key l value ms) ∙ rw other (found key ms later)
    ]

only_by : (keys : List (List ℕ)) (ms : Members) → ((key : List ℕ) → Among key ms → list_any (bytes_eq key) keys ≡ true) → only_keys keys ms ≡ true
only_by keys no_members h = refl
only_by keys (member l value ms) h = rw (h l (inl refl)) (only_by keys ms (λ key later. h key (inr later)))

only_again : (keys : List (List ℕ)) (value : Data) → HasOnly keys value → has_only keys value ≡ true
only_again keys value h = rw h.is (only_by keys h.members (λ key among. h.only key (rw h.is (found key h.members among))))

-- ---- values at keys

as_str-is : (value : Data) (text : List ℕ) → as_str value ≡ Some text → value ≡ string text
as_str-is null text e = absurd cc
as_str-is (boolean b) text e = absurd cc
as_str-is (number n) text e = absurd cc
as_str-is (string t) text e = cc
as_str-is (array ds) text e = absurd cc
as_str-is (object ms) text e = absurd cc

pub as_array-is : (value : Data) (items : Items) → as_array value ≡ Some items → value ≡ array items
as_array-is null items e = absurd cc
as_array-is (boolean b) items e = absurd cc
as_array-is (number n) items e = absurd cc
as_array-is (string t) items e = absurd cc
as_array-is (array ds) items e = cc
as_array-is (object ms) items e = absurd cc

text_there : (key : List ℕ) (value : Data) (text : List ℕ) → text_at key value ≡ Some text → get key value ≡ Some (string text)
text_there key value text e = let b = bind_some (get key value) as_str text e in b.1 ∙ ap Some (as_str-is b.0 text b.2)

label_there : (key : List ℕ) (value : Data) (label : List ℕ) → label_at key value ≡ Some label → LabelAt key value label
label_there key value label e =
    let a = bind_some (text_at key value) (λ l. where_true (is_label l) l) label e in
    let w = where_some (is_label a.0) a.0 label a.2 in
    let same : a.0 ≡ label = w.1 in
    let fits : is_label label ≡ true = ap is_label (sym same) ∙ w.0 in
    record { is = text_there key value a.0 a.1 ∙ ap (λ (l : List ℕ). Some (string l)) same; fits = fits }

label_again : (key : List ℕ) (value : Data) (label : List ℕ) → LabelAt key value label → label_at key value ≡ Some label
label_again key value label h = rw (h.is, h.fits) refl

none_is : {A : Type 0} (o : Option A) → is_some o ≡ false → o ≡ None
none_is None e = refl
none_is (Some x) e = absurd cc

some_is : {A : Type 0} (o : Option A) (x : A) → o ≡ Some x → is_some o ≡ true
some_is o x e = ap is_some e

label_if_by : (b : Bool) (key : List ℕ) (value : Data) (into : Option (List ℕ)) → is_some (get key value) ≡ b
    → (if b then (label_at key value >>= λ label. Some (Some label)) else Some None) ≡ Some into → LabelIfAt key value into
label_if_by true key value into there e =
    let a = bind_some (label_at key value) (λ label. Some (Some label)) into e in
    let same : Some a.0 ≡ into = cc in
    subst (LabelIfAt key value) same (label_there key value a.0 a.1)
label_if_by false key value into absent e =
    let same : None ≡ into = cc in
    subst (LabelIfAt key value) same (none_is (get key value) absent)

label_if_there : (key : List ℕ) (value : Data) (into : Option (List ℕ)) → label_if_at key value ≡ Some into → LabelIfAt key value into
label_if_there key value into e = label_if_by (is_some (get key value)) key value into refl e

label_if_again : (key : List ℕ) (value : Data) (into : Option (List ℕ)) → LabelIfAt key value into → label_if_at key value ≡ Some into
label_if_again key value None h = rw h refl
label_if_again key value (Some label) h = rw (some_is _ _ h.is, label_again key value label h) refl

from_zero-is : (z id : ℤ) → from_zero z ≡ Some id → (z ≡ id) × (pos 0 ≤ℤ id)
from_zero-is (pos n) id e = let same : pos n ≡ id = cc in (same, rw (← same) (search rules))
from_zero-is (negsuc n) id e = absurd cc

from_zero-again : (id : ℤ) → pos 0 ≤ℤ id → from_zero id ≡ Some id
from_zero-again (pos n) le = refl
from_zero-again (negsuc n) le = absurd (search rules)

id_there : (value : Data) (id : ℤ) → id_at value ≡ Some id → IdAt value id
id_there value id e =
    let a = bind_some (get (codes "id") value >>= whole) from_zero id e in
    let b = bind_some (get (codes "id") value) whole a.0 a.1 in
    let z = from_zero-is a.0 id a.2 in
    record { found = b.0; is = b.1; whole = b.2 ∙ ap (λ (z : ℤ). Some z) z.0; from_zero = z.1 }

id_again : (value : Data) (id : ℤ) → IdAt value id → id_at value ≡ Some id
id_again value id h = rw (h.is, h.whole) (from_zero-again id h.from_zero)

args_there : (o : Option Data) (args : List Arg) → args_in o ≡ Some args → AreArgs o args
args_there None args e = cc
args_there (Some value) args e =
    let a = bind_some (as_array value) (λ items. Some (arguments_of items)) args e in
    (a.0, as_array-is value a.0 a.1, cc)

args_again : (o : Option Data) (args : List Arg) → AreArgs o args → args_in o ≡ Some args
args_again None args h = rw h refl
args_again (Some value) args h = rw (h.1, h.2) refl

mode_there : (word : List ℕ) (mode : Mode) → mode_named word ≡ Some mode → word ≡ word_of_mode mode
mode_there word mode e =
    elim (by_cases (bytes_eq word (codes "owned"))) [
      | inl is ↦
          let same : Owned ≡ mode = let t = rw is at e in cc in
          same_text word (codes "owned") is ∙ ap word_of_mode same
      | inr unlike ↦ elim (by_cases (bytes_eq word (codes "shared"))) [
        | inl is ↦
            let same : Shared ≡ mode = let t = rw (unlike, is) at e in cc in
            same_text word (codes "shared") is ∙ ap word_of_mode same
        | inr other ↦
            let w = where_some (bytes_eq word (codes "unowned")) Unowned mode (rw (unlike, other) at e) in
            same_text word (codes "unowned") w.0 ∙ ap word_of_mode w.1
      ]
    ]

mode_again : (mode : Mode) → mode_named (word_of_mode mode) ≡ Some mode
mode_again Owned = refl
mode_again Shared = refl
mode_again Unowned = refl

mode_at_there : (value : Data) (mode : Mode) → mode_at value ≡ Some mode → ModeAt value mode
mode_at_there value mode e =
    let a = bind_some (text_at (codes "as") value) mode_named mode e in
    text_there (codes "as") value a.0 a.1 ∙ ap (λ (t : List ℕ). Some (string t)) (mode_there a.0 mode a.2)

mode_at_again : (value : Data) (mode : Mode) → ModeAt value mode → mode_at value ≡ Some mode
mode_at_again value mode h = rw h (mode_again mode)

-- ---- what is asked

-- a value has the keys and parts of what is asked
abbrev HasForm : Data → Op → Type 0
HasForm value op = HasOnly (keys_of (allowed_keys op)) value × HasParts value op

new_there : (value : Data) (op : Op) → new_in value ≡ Some op → HasForm value op × (word_of op ≡ codes "new")
new_there value op e =
    let a = found_some (has_only (keys_of allowed.New) value) (label_at (codes "contract") value >>= λ contract. args_at value >>= λ args. label_if_at (codes "into") value >>= λ into. Some (New contract args into)) op e in
    let b = bind_some (label_at (codes "contract") value) (λ contract. args_at value >>= λ args. label_if_at (codes "into") value >>= λ into. Some (New contract args into)) op a.1 in
    let d = bind_some (args_at value) (λ args. label_if_at (codes "into") value >>= λ into. Some (New b.0 args into)) op b.2 in
    let f = bind_some (label_if_at (codes "into") value) (λ into. Some (New b.0 d.0 into)) op d.2 in
    let same : New b.0 d.0 f.0 ≡ op = cc in
    subst (λ o. HasForm value o × (word_of o ≡ codes "new")) same (
      (
        only_there (keys_of allowed.New) value a.0,
        (label_there (codes "contract") value b.0 b.1, args_there (get (codes "args") value) d.0 d.1, label_if_there (codes "into") value f.0 f.1),
      ),
      refl,
    )

call_there : (value : Data) (op : Op) → call_in value ≡ Some op → HasForm value op × (word_of op ≡ codes "call")
call_there value op e =
    let a = found_some (has_only (keys_of allowed.Call) value) (label_at (codes "on") value >>= λ on. label_at (codes "tx") value >>= λ tx. args_at value >>= λ args. label_if_at (codes "into") value >>= λ into. Some (Call on tx args into)) op e in
    let b = bind_some (label_at (codes "on") value) (λ on. label_at (codes "tx") value >>= λ tx. args_at value >>= λ args. label_if_at (codes "into") value >>= λ into. Some (Call on tx args into)) op a.1 in
    let d = bind_some (label_at (codes "tx") value) (λ tx. args_at value >>= λ args. label_if_at (codes "into") value >>= λ into. Some (Call b.0 tx args into)) op b.2 in
    let f = bind_some (args_at value) (λ args. label_if_at (codes "into") value >>= λ into. Some (Call b.0 d.0 args into)) op d.2 in
    let g = bind_some (label_if_at (codes "into") value) (λ into. Some (Call b.0 d.0 f.0 into)) op f.2 in
    let same : Call b.0 d.0 f.0 g.0 ≡ op = cc in
    subst (λ o. HasForm value o × (word_of o ≡ codes "call")) same (
      (
        only_there (keys_of allowed.Call) value a.0,
        (label_there (codes "on") value b.0 b.1, label_there (codes "tx") value d.0 d.1, args_there (get (codes "args") value) f.0 f.1, label_if_there (codes "into") value g.0 g.1),
      ),
      refl,
    )

give_there : (value : Data) (op : Op) → give_in value ≡ Some op → HasForm value op × (word_of op ≡ codes "give")
give_there value op e =
    let a = found_some (has_only (keys_of allowed.Give) value) (label_at (codes "on") value >>= λ on. label_at (codes "to") value >>= λ to. label_at (codes "into") value >>= λ into. mode_at value >>= λ mode. Some (Give on to into mode)) op e in
    let b = bind_some (label_at (codes "on") value) (λ on. label_at (codes "to") value >>= λ to. label_at (codes "into") value >>= λ into. mode_at value >>= λ mode. Some (Give on to into mode)) op a.1 in
    let d = bind_some (label_at (codes "to") value) (λ to. label_at (codes "into") value >>= λ into. mode_at value >>= λ mode. Some (Give b.0 to into mode)) op b.2 in
    let f = bind_some (label_at (codes "into") value) (λ into. mode_at value >>= λ mode. Some (Give b.0 d.0 into mode)) op d.2 in
    let g = bind_some (mode_at value) (λ mode. Some (Give b.0 d.0 f.0 mode)) op f.2 in
    let same : Give b.0 d.0 f.0 g.0 ≡ op = cc in
    subst (λ o. HasForm value o × (word_of o ≡ codes "give")) same (
      (
        only_there (keys_of allowed.Give) value a.0,
        (label_there (codes "on") value b.0 b.1, label_there (codes "to") value d.0 d.1, label_there (codes "into") value f.0 f.1, mode_at_there value g.0 g.1),
      ),
      refl,
    )

on_there : (value : Data) (on : List ℕ) → on_in value ≡ Some on → HasOnly (keys_of allowed.Handle) value × LabelAt (codes "on") value on
on_there value on e =
    let a = found_some (has_only (keys_of allowed.Handle) value) (label_at (codes "on") value) on e in
    (only_there (keys_of allowed.Handle) value a.0, label_there (codes "on") value on a.1)

disown_there : (value : Data) (op : Op) → (on_in value >>= λ on. Some (Disown on)) ≡ Some op → HasForm value op × (word_of op ≡ codes "disown")
disown_there value op e =
    let a = bind_some (on_in value) (λ on. Some (Disown on)) op e in
    let same : Disown a.0 ≡ op = cc in
    subst (λ o. HasForm value o × (word_of o ≡ codes "disown")) same (on_there value a.0 a.1, refl)

see_there : (value : Data) (op : Op) → (on_in value >>= λ on. Some (See on)) ≡ Some op → HasForm value op × (word_of op ≡ codes "see")
see_there value op e =
    let a = bind_some (on_in value) (λ on. Some (See on)) op e in
    let same : See a.0 ≡ op = cc in
    subst (λ o. HasForm value o × (word_of o ≡ codes "see")) same (on_there value a.0 a.1, refl)

owner_there : (value : Data) (op : Op) → (on_in value >>= λ on. Some (Owner on)) ≡ Some op → HasForm value op × (word_of op ≡ codes "owner")
owner_there value op e =
    let a = bind_some (on_in value) (λ on. Some (Owner on)) op e in
    let same : Owner a.0 ≡ op = cc in
    subst (λ o. HasForm value o × (word_of o ≡ codes "owner")) same (on_there value a.0 a.1, refl)

-- the word is that of what is asked
by_word : (value : Data) (name word : List ℕ) (op : Op) → bytes_eq name word ≡ true → HasForm value op × (word_of op ≡ word) → HasForm value op × (name ≡ word_of op)
by_word value name word op is h = (h.0, same_text name word is ∙ sym h.1)

last_there : (value : Data) (name : List ℕ) (op : Op) → found_if (bytes_eq name (codes "owner")) (on_in value >>= λ on. Some (Owner on)) ≡ Some op → HasForm value op × (name ≡ word_of op)
last_there value name op e =
    let a = found_some (bytes_eq name (codes "owner")) (on_in value >>= λ on. Some (Owner on)) op e in
    by_word value name (codes "owner") op a.0 (owner_there value op a.1)

op_there : (value : Data) (name : List ℕ) (op : Op) → op_named name value ≡ Some op → HasForm value op × (name ≡ word_of op)
op_there value name op e =
    elim (by_cases (bytes_eq name (codes "new"))) [
      | inl is ↦ by_word value name (codes "new") op is (new_there value op (rw is at e))
      | inr n1 ↦ elim (by_cases (bytes_eq name (codes "call"))) [
        | inl is ↦ by_word value name (codes "call") op is (call_there value op (rw (n1, is) at e))
        | inr n2 ↦ elim (by_cases (bytes_eq name (codes "give"))) [
          | inl is ↦ by_word value name (codes "give") op is (give_there value op (rw (n1, n2, is) at e))
          | inr n3 ↦ elim (by_cases (bytes_eq name (codes "disown"))) [
            | inl is ↦ by_word value name (codes "disown") op is (disown_there value op (rw (n1, n2, n3, is) at e))
            | inr n4 ↦ elim (by_cases (bytes_eq name (codes "see"))) [
              | inl is ↦ by_word value name (codes "see") op is (see_there value op (rw (n1, n2, n3, n4, is) at e))
              | inr n5 ↦ last_there value name op (rw (n1, n2, n3, n4, n5) at e)
            ]
          ]
        ]
      ]
    ]

-- what is worked out is asked
pub request_there : (value : Data) (request : Request) → request_in value ≡ Some request → IsRequest value request
request_there value request e =
    let a = bind_some (id_at value) (λ id. label_at (codes "who") value >>= λ who. op_in value >>= λ op. Some (record { id = id; who = who; op = op })) request e in
    let b = bind_some (label_at (codes "who") value) (λ who. op_in value >>= λ op. Some (record { id = a.0; who = who; op = op })) request a.2 in
    let d = bind_some (op_in value) (λ op. Some (record { id = a.0; who = b.0; op = op })) request b.2 in
    let f = bind_some (text_at (codes "op") value) (λ op. op_named op value) d.0 d.1 in
    let op = op_there value f.0 d.0 f.2 in
    let made : Request = record { id = a.0; who = b.0; op = d.0 } in
    let same : made ≡ request = cc in
    subst (IsRequest value) same (record {
      keys = op.0.0;
      id = id_there value a.0 a.1;
      who = label_there (codes "who") value b.0 b.1;
      op = text_there (codes "op") value f.0 f.1 ∙ ap (λ (t : List ℕ). Some (string t)) op.1;
      parts = op.0.1;
    })

op_again : (value : Data) (op : Op) → HasOnly (keys_of (allowed_keys op)) value → HasParts value op → op_named (word_of op) value ≡ Some op
op_again value (New contract args into) keys h =
    rw (only_again (keys_of allowed.New) value keys, label_again (codes "contract") value contract h.0, args_again (get (codes "args") value) args h.1, label_if_again (codes "into") value into h.2) refl
op_again value (Call on tx args into) keys h =
    rw (only_again (keys_of allowed.Call) value keys, label_again (codes "on") value on h.0, label_again (codes "tx") value tx h.1, args_again (get (codes "args") value) args h.2, label_if_again (codes "into") value into h.3) refl
op_again value (Give on to into mode) keys h =
    rw (only_again (keys_of allowed.Give) value keys, label_again (codes "on") value on h.0, label_again (codes "to") value to h.1, label_again (codes "into") value into h.2, mode_at_again value mode h.3) refl
op_again value (Disown on) keys h = rw (only_again (keys_of allowed.Handle) value keys, label_again (codes "on") value on h) refl
op_again value (See on) keys h = rw (only_again (keys_of allowed.Handle) value keys, label_again (codes "on") value on h) refl
op_again value (Owner on) keys h = rw (only_again (keys_of allowed.Handle) value keys, label_again (codes "on") value on h) refl

-- what is asked is worked out
pub request_again : (value : Data) (request : Request) → IsRequest value request → request_in value ≡ Some request
request_again value request h =
    rw (id_again value request.id h.id, label_again (codes "who") value request.who h.who, h.op, op_again value request.op h.keys h.parts) refl

-- ---- lines

-- a line asks one thing at most
pub asks_one : (line : List ℕ) (a b : Request) → Asks line a → Asks line b → a ≡ b
asks_one line a b p q =
    let same : p.0 ≡ q.0 = let x = p.1.json in let y = q.1.json in cc in
    let x = request_again p.0 a p.2 in
    let y = request_again q.0 b q.2 in
    cc
