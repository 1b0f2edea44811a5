-- What the members of a map say of the object, and one argument after another.
use Rattle.std.proofs.Common.{◌≡◌, ℕ, suc, ◌+◌, ◌<◌, ◌==◌, Bool, true, false, ◌&&◌, List, [], ◌∷◌, ◌++◌, length, map, drop, get_or, Option, Some, None, refl, sym, ◌∙◌, ap, append_assoc, arith}
use Rattle.std.specs.Prelude.{String, string_bytes, codes, if◌then◌else◌, nat_le}
use Rattle.std.specs.declared.alloc.Global.{Global}
use Rattle.std.specs.List.{list_any, list_all}
use Rattle.std.proofs.Common.{Ordering, Less, Equal, Greater, cond}
use Rattle.std.specs.Ordering.{is_eq, nat_cmp, match_ordering}
use Rattle.std.specs.Cmp.Lexicographic.{slice_cmp}
use Rattle.std.specs.Str.{IsUtf8, is_utf8, bytes_eq}
use Rattle.std.proofs.lemmas.Str.{IsUtf8-from_is_utf8}
use Rattle.std.proofs.lemmas.Bool.Decides.{nat_tests}
use Rattle.std.proofs.lemmas.List.{drop_more}
use Rattle.std.proofs.lemmas.Map.Text.{is_eq-slice_cmp}
use Rattle.serde_json.specs.Data.{Data, object, Members, no_members, member}
use Rattle.serde_json.specs.Find.{get_member, as_str, as_object}
use Rattle.serde_json.specs.View.{view, members_view, items_view}
use Rattle.serde_json.specs.declared.value.Value.{Value}
use Rattle.ob_base.specs.Names.{is_label}
use Rattle.ob_base.specs.Limits.{longest_name}
use Rattle.ob_base.specs.Optional.{◌>>=◌}
use Rattle.ob_base.proofs.OptionalLemmas.{both_true}
use Rattle.ob_wire.specs.Requests.{argument_of, arguments_of, handle_named, handle_argument}
use Rattle.ob_wire.specs.Reading.{only_keys, has_only, is_one, has_one, ref_in}
use Rattle.ob_wire.specs.declared.request.Arg.{Arg}
use Rattle.ob_wire.specs.declared.request.Arg.TheVariants as arg

only_keys-members : (allowed : List (List ℕ)) (es : List (String Global × Value)) → list_all (λ key. list_any (bytes_eq (string_bytes key)) allowed) (map (λ e. e.0) es) ≡ only_keys allowed (members_view es)
only_keys-members allowed [] = refl
only_keys-members allowed (e ∷ es) = ap (λ (b : Bool). list_any (bytes_eq (string_bytes e.0)) allowed && b) (only_keys-members allowed es)

-- the keys of an object, by those of its map
pub has_only-members : (allowed : List (List ℕ)) (value : Data) (es : List (String Global × Value)) → Some (members_view es) ≡ as_object value → list_all (λ key. list_any (bytes_eq (string_bytes key)) allowed) (map (λ e. e.0) es) ≡ has_only allowed value
has_only-members allowed value es is = only_keys-members allowed es ∙ ap (λ (o : Option Members). elim o as (λ _. Bool) [ None ↦ false | Some members ↦ only_keys allowed members ]) is

many : (n : ℕ) → (suc (suc n) == 1) ≡ false
many n = grind (arith, nat_tests)

is_one-members : (es : List (String Global × Value)) → (length es == 1) ≡ is_one (members_view es)
is_one-members [] = refl
is_one-members (e ∷ []) = refl
is_one-members (e ∷ f ∷ es) = many (length es)

-- whether an object has one member, by its map
pub has_one-members : (value : Data) (es : List (String Global × Value)) → Some (members_view es) ≡ as_object value → (length es == 1) ≡ has_one value
has_one-members value es is = is_one-members es ∙ ap (λ (o : Option Members). elim o as (λ _. Bool) [ None ↦ false | Some members ↦ is_one members ]) is

-- one more argument
pub reads_on : (front : List Arg) (values : List Value) (i : ℕ) (v : Value) (all : List Arg) → i < length values → v ≡ get_or values i v
    → front ++ arguments_of (items_view (drop i values)) ≡ all → (front ++ argument_of (view v) ∷ []) ++ arguments_of (items_view (drop (i + 1) values)) ≡ all
reads_on front values i v all lt at so_far =
    let one : drop i values ≡ v ∷ drop (i + 1) values = drop_more values i v lt ∙ ap (λ (x : Value). x ∷ drop (i + 1) values) (sym at) in
    append_assoc front (argument_of (view v) ∷ []) (arguments_of (items_view (drop (i + 1) values)))
    ∙ sym (ap (λ (vs : List Value). front ++ arguments_of (items_view vs)) one) ∙ so_far

by_order : {A : Type 0} (o : Ordering) (a b : A) → match_ordering o a b a ≡ cond (is_eq o) b a
by_order Less a b = refl
by_order Equal a b = refl
by_order Greater a b = refl

-- a member at a key, by whether the first has this key
pub get_member-more : (key l : List ℕ) (value : Data) (ms : Members) → get_member key (member l value ms) ≡ cond (bytes_eq key l) (Some value) (get_member key ms)
get_member-more key l value ms = by_order (slice_cmp nat_cmp key l) (get_member key ms) (Some value) ∙ ap (λ (b : Bool). cond b (Some value) (get_member key ms)) (is_eq-slice_cmp key l)

named_by : (b : Bool) (value : Data) → handle_named (cond b (Some value) None >>= as_str) ≡ if b then handle_named (as_str value) else arg.Other
named_by true value = refl
named_by false value = refl

-- the handle that an object is, by the string at `ref` where that is its one member
pub handle_argument-is : (ms : Members) → handle_named (ref_in (object ms)) ≡ handle_argument ms
handle_argument-is no_members = refl
handle_argument-is (member key value no_members) =
    ap (λ (o : Option Data). handle_named (o >>= as_str)) (get_member-more (codes "ref") key value no_members)
    ∙ named_by (bytes_eq (codes "ref") key) value
handle_argument-is (member key value (member l other ms)) = refl

-- a label is UTF-8
pub label_is_utf8 : (bytes : List ℕ) → is_label bytes ≡ true → IsUtf8 bytes
label_is_utf8 bytes is = IsUtf8-from_is_utf8 bytes (both_true (nat_le 1 (length bytes) && nat_le (length bytes) longest_name) (is_utf8 bytes) is).1
