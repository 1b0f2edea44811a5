-- Members that are put one after another stand in the byte order of their keys, and so do the fields that they are.
use Rattle.std.proofs.Common.{◌≡◌, ℕ, true, List, [], ◌∷◌, Ordering, Less, Equal, Greater, refl, ap, ◌∙◌}
use Rattle.std.specs.Prelude.{⊤}
use Rattle.std.specs.Ordering.{nat_cmp, match_ordering, is_lt, ordering_reverse}
use Rattle.std.specs.Cmp.Lexicographic.{slice_cmp}
use Rattle.std.proofs.lemmas.Cmp.{nat_list_cmp_total}
use Rattle.serde_json.specs.Data.{Data, Members, no_members, member, put}
use Rattle.ob_base.proofs.OptionalLemmas.{both_true}
use Rattle.ob_wire.specs.Replies.{value_json, with_fields}
use Rattle.ob_wire.specs.declared.reply.ShownField.{ShownField}
use Rattle.ob_client.specs.Exact.{with_members}
use Rattle.ob_client.specs.Told.{is_before, are_in_order}

abbrev compared : List ℕ → List ℕ → Ordering
compared = slice_cmp nat_cmp

-- a key comes before those of all these members
abbrev pub AllAfter : List ℕ → Members → Type 0
AllAfter k no_members = ⊤
AllAfter k (member l d ms) = (compared k l ≡ Less) × AllAfter k ms

abbrev pub InOrder : Members → Type 0
InOrder no_members = ⊤
InOrder (member k d ms) = AllAfter k ms × InOrder ms

-- ---- members that are put

turned : (k l : List ℕ) (o : Ordering) → compared k l ≡ o → compared l k ≡ ordering_reverse o
turned k l o e = nat_list_cmp_total.antisymm l k ∙ ap ordering_reverse e

pub pick : (P : Members → Type 0) (o : Ordering) (a b d : Members) → P a → P b → P d → P (match_ordering o a b d)
pick P Less a b d x y z = x
pick P Equal a b d x y z = y
pick P Greater a b d x y z = z

after_further : (k l : List ℕ) (ms : Members) → compared k l ≡ Less → AllAfter l ms → AllAfter k ms
after_further k l no_members e h = tt
after_further k l (member m d ms) e h = (nat_list_cmp_total.trans k l m e h.0, after_further k l ms e h.1)

after_put : (j k : List ℕ) (d : Data) (ms : Members) → compared j k ≡ Less → AllAfter j ms → AllAfter j (put k d ms)
after_put j k d no_members e h = (e, tt)
after_put j k d (member l x ms) e h =
    pick (AllAfter j) (compared k l) (member k d (member l x ms)) (member l d ms) (member l x (put k d ms))
    (e, h) h (h.0, after_put j k d ms e h.1)

put_case : (o : Ordering) (k l : List ℕ) (d x : Data) (ms : Members) → compared k l ≡ o → InOrder (member l x ms) → InOrder (put k d ms)
    → InOrder (match_ordering o (member k d (member l x ms)) (member l d ms) (member l x (put k d ms)))
put_case Less k l d x ms e h rest = ((e, after_further k l ms e h.0), h)
put_case Equal k l d x ms e h rest = h
put_case Greater k l d x ms e h rest = (after_put l k d ms (turned k l Greater e) h.0, rest)

put_ordered : (k : List ℕ) (d : Data) (ms : Members) → InOrder ms → InOrder (put k d ms)
put_ordered k d no_members h = (tt, tt)
put_ordered k d (member l x ms) h = put_case (compared k l) k l d x ms refl h (put_ordered k d ms h.1)

pub fields_ordered : (fields : List ShownField) (ms : Members) → InOrder ms → InOrder (with_fields ms fields)
fields_ordered [] ms h = h
fields_ordered (f ∷ fields) ms h = fields_ordered fields _ (put_ordered f.name (value_json f.value) ms h)

-- ---- members in order are themselves when they are put

with_first : (k : List ℕ) (d : Data) (found ms : Members) → AllAfter k ms → with_members (member k d found) ms ≡ member k d (with_members found ms)
with_first k d found no_members h = refl
with_first k d found (member l x ms) h =
    ap (λ (o : Ordering). with_members (match_ordering o (member l x (member k d found)) (member k x found) (member k d (put l x found))) ms) (turned k l Less h.0)
    ∙ with_first k d (put l x found) ms h.1

pub put_again : (ms : Members) → InOrder ms → with_members no_members ms ≡ ms
put_again no_members h = refl
put_again (member k d ms) h = with_first k d no_members ms h.0 ∙ ap (member k d) (put_again ms h.1)

-- ---- fields

-- the members that fields are
abbrev pub listed : List ShownField → Members
listed [] = no_members
listed (f ∷ fields) = member f.name (value_json f.value) (listed fields)

with_listed : (fields : List ShownField) (found : Members) → with_fields found fields ≡ with_members found (listed fields)
with_listed [] found = refl
with_listed (f ∷ fields) found = with_listed fields (put f.name (value_json f.value) found)

is_less : (o : Ordering) → is_lt o ≡ true → o ≡ Less
is_less Less e = refl
is_less Equal e = absurd cc
is_less Greater e = absurd cc

all_after : (name : List ℕ) (fields : List ShownField) → is_before name fields ≡ true → AllAfter name (listed fields)
all_after name [] h = tt
all_after name (f ∷ fields) h =
    let parts = both_true (is_lt (compared name f.name)) (is_before name fields) h in
    (is_less (compared name f.name) parts.0, all_after name fields parts.1)

in_order : (fields : List ShownField) → are_in_order fields ≡ true → InOrder (listed fields)
in_order [] h = tt
in_order (f ∷ fields) h =
    let parts = both_true (is_before f.name fields) (are_in_order fields) h in
    (all_after f.name fields parts.0, in_order fields parts.1)

-- fields that stand in order are the members that they are
pub fields_listed : (fields : List ShownField) → are_in_order fields ≡ true → with_fields no_members fields ≡ listed fields
fields_listed fields h = with_listed fields no_members ∙ put_again (listed fields) (in_order fields h)
