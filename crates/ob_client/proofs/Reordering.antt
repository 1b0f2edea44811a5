-- The line of a reply tells it with the fields of an object in the order of their names.
use Rattle.std.proofs.Common.{◌≡◌, ◌≢◌, ℕ, ℤ, suc, ◌<◌, Bool, true, ◌&&◌, List, [], ◌∷◌, ◌++◌, length, map, Option, Ordering, Less, Equal, Greater, refl, sym, ap, ◌∙◌, subst, append-nil, arith}
use Rattle.std.specs.Prelude.{⊤, codes, slice_index_or}
use Rattle.std.specs.List.{list_all}
use Rattle.std.specs.List.Sorted.{IsPermutation}
use Rattle.std.specs.Str.{is_utf8}
use Rattle.std.specs.Ordering.{nat_cmp, match_ordering, is_lt, is_eq}
use Rattle.std.specs.Cmp.Lexicographic.{slice_cmp, bytes_decides}
use Rattle.std.proofs.lemmas.Map.Text.{is_eq-slice_cmp}
use Rattle.std.proofs.lemmas.List.Sorted.{IsPermutation-refl, IsPermutation-sym, IsPermutation-trans, IsPermutation-cons, IsPermutation-middle, IsPermutation-append_right}
use Rattle.serde_json.specs.Data.{Data, boolean, string, object, Members, no_members, member, put}
use Rattle.serde_json.specs.Written.{compact_text}
use Rattle.ob_base.proofs.OptionalLemmas.{both_true}
use Rattle.ob_table_spec.specs.Conditions.{AreDistinct}
use Rattle.ob_wire.specs.Replies.{id_json, text_json, number_json, value_json, with_fields, reply_line}
use Rattle.ob_wire.specs.declared.reply.Reply.{Reply}
use Rattle.ob_wire.specs.declared.reply.Answer.{Answer}
use Rattle.ob_wire.specs.declared.reply.Answer.TheVariants as answer
use Rattle.ob_wire.specs.declared.reply.Outcome.TheVariants as outcome
use Rattle.ob_wire.specs.declared.reply.Shown.{Shown}
use Rattle.ob_wire.specs.declared.reply.ShownField.{ShownField}
use Rattle.ob_client.specs.Told.{is_text_if, is_object, is_field, is_answer, is_before, are_in_order, is_in_order, is_id_of, Tells}
use Rattle.ob_client.specs.Reordered.{AreNamedApart, MayBeGiven, shown_with, IsReordered, TellsReordered}
use Rattle.ob_client.proofs.OrderLemmas.{AllAfter, InOrder, listed, fields_ordered, fields_listed}
use Rattle.ob_client.proofs.ReplyLines.{line_tells}

both : (a b : Bool) → a ≡ true → b ≡ true → (a && b) ≡ true
both a b x y = rw (x, y) refl

same_bytes : (a b : List ℕ) → slice_cmp nat_cmp a b ≡ Equal → a ≡ b
same_bytes a b is = (bytes_decides a b).0 (sym (is_eq-slice_cmp a b) ∙ ap is_eq is)

-- ---- names that differ

-- no field has this name
abbrev Apart : List ℕ → List ShownField → Type 0
Apart name [] = ⊤
Apart name (f ∷ fields) = (name ≢ f.name) × Apart name fields

-- no two of these fields have the same name, and none has that of one that is placed
abbrev Distinct : List ShownField → List ShownField → Type 0
Distinct placed [] = ⊤
Distinct placed (f ∷ fields) = Apart f.name placed × Apart f.name fields × Distinct placed fields

abbrev names : List ShownField → List (List ℕ)
names = map (λ (f : ShownField). f.name)

apart_of : (name : List ℕ) (fields : List ShownField)
    → ((k : ℕ) (d : List ℕ) → k < length (names fields) → name ≢ slice_index_or (names fields) k d) → Apart name fields
apart_of name [] h = tt
apart_of name (f ∷ fields) h = (h 0 [] (omega arith), apart_of name fields (λ k d inside. h (suc k) d (omega arith)))

distinct_of : (fields : List ShownField) → AreDistinct (names fields) → Distinct [] fields
distinct_of [] h = tt
distinct_of (f ∷ fields) h =
    (tt, apart_of f.name fields (λ k d inside. h 0 (suc k) d (omega arith) (omega arith)), distinct_of fields (λ i j d later inside. h (suc i) (suc j) d (omega arith) (omega arith)))

-- ---- a field at its place

abbrev place : ShownField → List ShownField → List ShownField
place f [] = f ∷ []
place f (g ∷ fields) = match_ordering (slice_cmp nat_cmp f.name g.name) (f ∷ g ∷ fields) (f ∷ fields) (g ∷ place f fields)

pick : (P : List ShownField → Type 0) (o : Ordering) (a b d : List ShownField) → P a → P b → P d → P (match_ordering o a b d)
pick P Less a b d x y z = x
pick P Equal a b d x y z = y
pick P Greater a b d x y z = z

apart_placed : (name : List ℕ) (f : ShownField) (fields : List ShownField) → name ≢ f.name → Apart name fields → Apart name (place f fields)
apart_placed name f [] n h = (n, tt)
apart_placed name f (g ∷ fields) n h =
    pick (Apart name) (slice_cmp nat_cmp f.name g.name) (f ∷ g ∷ fields) (f ∷ fields) (g ∷ place f fields)
    (n, h) (n, h.1) (h.0, apart_placed name f fields n h.1)

distinct_placed : (f : ShownField) (placed fields : List ShownField) → Apart f.name fields → Distinct placed fields → Distinct (place f placed) fields
distinct_placed f placed [] a h = tt
distinct_placed f placed (g ∷ fields) a h =
    (apart_placed g.name f placed (λ e. a.0 (sym e)) h.0, h.1, distinct_placed f placed fields a.1 h.2)

good_placed : (f : ShownField) (fields : List ShownField) → is_field f ≡ true → list_all is_field fields ≡ true → list_all is_field (place f fields) ≡ true
good_placed f [] x h = both (is_field f) true x refl
good_placed f (g ∷ fields) x h =
    let parts = both_true (is_field g) (list_all is_field fields) h in
    pick (λ fs. list_all is_field fs ≡ true) (slice_cmp nat_cmp f.name g.name) (f ∷ g ∷ fields) (f ∷ fields) (g ∷ place f fields)
    (both (is_field f) (list_all is_field (g ∷ fields)) x h) (both (is_field f) (list_all is_field fields) x parts.1)
    (both (is_field g) (list_all is_field (place f fields)) parts.0 (good_placed f fields x parts.1))

listed_case : (o : Ordering) (f g : ShownField) (fields : List ShownField) → slice_cmp nat_cmp f.name g.name ≡ o → f.name ≢ g.name
    → listed (place f fields) ≡ put f.name (value_json f.value) (listed fields)
    → listed (match_ordering o (f ∷ g ∷ fields) (f ∷ fields) (g ∷ place f fields))
    ≡ match_ordering o (member f.name (value_json f.value) (listed (g ∷ fields))) (member g.name (value_json f.value) (listed fields)) (member g.name (value_json g.value) (put f.name (value_json f.value) (listed fields)))
listed_case Less f g fields e n rest = refl
listed_case Equal f g fields e n rest = absurd (n (same_bytes f.name g.name e))
listed_case Greater f g fields e n rest = ap (member g.name (value_json g.value)) rest

listed_placed : (f : ShownField) (fields : List ShownField) → Apart f.name fields → listed (place f fields) ≡ put f.name (value_json f.value) (listed fields)
listed_placed f [] h = refl
listed_placed f (g ∷ fields) h = listed_case (slice_cmp nat_cmp f.name g.name) f g fields refl h.0 (listed_placed f fields h.1)

moved_case : (o : Ordering) (f g : ShownField) (fields : List ShownField) → slice_cmp nat_cmp f.name g.name ≡ o → f.name ≢ g.name
    → IsPermutation (f ∷ fields) (place f fields)
    → IsPermutation (f ∷ g ∷ fields) (match_ordering o (f ∷ g ∷ fields) (f ∷ fields) (g ∷ place f fields))
moved_case Less f g fields e n rest = IsPermutation-refl (f ∷ g ∷ fields)
moved_case Equal f g fields e n rest = absurd (n (same_bytes f.name g.name e))
moved_case Greater f g fields e n rest =
    IsPermutation-trans (f ∷ g ∷ fields) (g ∷ f ∷ fields) (g ∷ place f fields) (IsPermutation-middle (f ∷ []) g fields)
    (IsPermutation-cons g (f ∷ fields) (place f fields) rest)

moved_placed : (f : ShownField) (fields : List ShownField) → Apart f.name fields → IsPermutation (f ∷ fields) (place f fields)
moved_placed f [] h = IsPermutation-refl (f ∷ [])
moved_placed f (g ∷ fields) h = moved_case (slice_cmp nat_cmp f.name g.name) f g fields refl h.0 (moved_placed f fields h.1)

-- ---- fields, one after another

abbrev place_all : List ShownField → List ShownField → List ShownField
place_all placed [] = placed
place_all placed (f ∷ fields) = place_all (place f placed) fields

all_listed : (placed fields : List ShownField) → Distinct placed fields → listed (place_all placed fields) ≡ with_fields (listed placed) fields
all_listed placed [] h = refl
all_listed placed (f ∷ fields) h =
    all_listed (place f placed) fields (distinct_placed f placed fields h.1 h.2) ∙ ap (λ (ms : Members). with_fields ms fields) (listed_placed f placed h.0)

all_moved : (placed fields : List ShownField) → Distinct placed fields → IsPermutation (fields ++ placed) (place_all placed fields)
all_moved placed [] h = IsPermutation-refl placed
all_moved placed (f ∷ fields) h =
    IsPermutation-trans (f ∷ (fields ++ placed)) (fields ++ f ∷ placed) (place_all (place f placed) fields)
    (IsPermutation-sym (fields ++ f ∷ placed) (f ∷ (fields ++ placed)) (IsPermutation-middle fields f placed))
    (IsPermutation-trans (fields ++ f ∷ placed) (fields ++ place f placed) (place_all (place f placed) fields)
    (IsPermutation-append_right fields (f ∷ placed) (place f placed) (moved_placed f placed h.0))
    (all_moved (place f placed) fields (distinct_placed f placed fields h.1 h.2)))

all_good : (placed fields : List ShownField) → list_all is_field placed ≡ true → list_all is_field fields ≡ true → list_all is_field (place_all placed fields) ≡ true
all_good placed [] p h = p
all_good placed (f ∷ fields) p h =
    let parts = both_true (is_field f) (list_all is_field fields) h in
    all_good (place f placed) fields (good_placed f placed parts.0 p) parts.1

before_listed : (name : List ℕ) (fields : List ShownField) → AllAfter name (listed fields) → is_before name fields ≡ true
before_listed name [] h = refl
before_listed name (f ∷ fields) h =
    both (is_lt (slice_cmp nat_cmp name f.name)) (is_before name fields) (ap is_lt h.0) (before_listed name fields h.1)

ordered_listed : (fields : List ShownField) → InOrder (listed fields) → are_in_order fields ≡ true
ordered_listed [] h = refl
ordered_listed (f ∷ fields) h = both (is_before f.name fields) (are_in_order fields) (before_listed f.name fields h.0) (ordered_listed fields h.1)

-- ---- replies

-- the value of the reply to a `see`, with these members for the fields
abbrev seen_json : Option ℤ → Shown → Members → Data
seen_json id s ms =
    object (member (codes "id") (id_json id) (member (codes "ok") (object (member (codes "contract") (string s.contract) (member (codes "disowned") (boolean s.disowned)
    (member (codes "fields") (object ms) (member (codes "object") (number_json s.object)
    (member (codes "shared") (boolean s.shared) (member (codes "state") (text_json s.state) no_members))))))) no_members))

seen : (id : Option ℤ) (s : Shown) → is_id_of (answer.Ok (outcome.See s)) id ≡ true → is_answer (answer.Ok (outcome.See s)) ≡ true → AreDistinct (names s.fields)
    → TellsReordered (reply_line (record { id = id; answer = answer.Ok (outcome.See s) })) (record { id = id; answer = answer.Ok (outcome.See s) })
seen id s i p n =
    let d = distinct_of s.fields n in
    let fields = place_all [] s.fields in
    let a = both_true (is_object s.object) (is_utf8 s.contract && (is_text_if s.state && list_all is_field s.fields)) p in
    let b = both_true (is_utf8 s.contract) (is_text_if s.state && list_all is_field s.fields) a.1 in
    let e = both_true (is_text_if s.state) (list_all is_field s.fields) b.1 in
    let members : listed fields ≡ with_fields no_members s.fields = all_listed [] s.fields d in
    let ordered : are_in_order fields ≡ true = ordered_listed fields (subst InOrder (sym members) (fields_ordered s.fields no_members tt)) in
    let same : with_fields no_members fields ≡ with_fields no_members s.fields = fields_listed fields ordered ∙ members in
    let good : list_all is_field fields ≡ true = all_good [] s.fields refl e.1 in
    let parts = both (is_object s.object) (is_utf8 s.contract && (is_text_if s.state && list_all is_field fields)) a.0 (both (is_utf8 s.contract) (is_text_if s.state && list_all is_field fields) b.0 (both (is_text_if s.state) (list_all is_field fields) e.0 good)) in
    told fields (subst (λ fs. IsPermutation fs fields) (append-nil s.fields) (all_moved [] s.fields d)) same
    (both (is_id_of (answer.Ok (outcome.See s)) id) (is_answer (answer.Ok (outcome.See (shown_with s fields))) && are_in_order fields) i (both (is_answer (answer.Ok (outcome.See (shown_with s fields)))) (are_in_order fields) parts ordered))
  where
    told : (fields : List ShownField) → IsPermutation s.fields fields → with_fields no_members fields ≡ with_fields no_members s.fields
        → (is_id_of (answer.Ok (outcome.See s)) id && (is_answer (answer.Ok (outcome.See (shown_with s fields))) && are_in_order fields)) ≡ true
        → TellsReordered (reply_line (record { id = id; answer = answer.Ok (outcome.See s) })) (record { id = id; answer = answer.Ok (outcome.See s) })
    told fields moved same possible = record {
      told = record { id = id; answer = answer.Ok (outcome.See (shown_with s fields)) };
      id = refl;
      answer = (fields, moved, refl);
      tells = subst (λ line. Tells line (record { id = id; answer = answer.Ok (outcome.See (shown_with s fields)) }))
          (ap (λ (ms : Members). compact_text (seen_json id s ms) ++ codes "\n") same)
          (line_tells (record { id = id; answer = answer.Ok (outcome.See (shown_with s fields)) }) possible);
    }

-- a reply that shows no object is told as it is
as_it_is : (id : Option ℤ) (a : Answer) → is_id_of a id ≡ true → is_answer a ≡ true → is_in_order a ≡ true → IsReordered a a
    → TellsReordered (reply_line (record { id = id; answer = a })) (record { id = id; answer = a })
as_it_is id a i p o same = record {
  told = record { id = id; answer = a };
  id = refl;
  answer = same;
  tells = line_tells (record { id = id; answer = a }) (both (is_id_of a id) (is_answer a && is_in_order a) i (both (is_answer a) (is_in_order a) p o));
}

answer_told : (id : Option ℤ) (a : Answer) → is_id_of a id ≡ true → is_answer a ≡ true → AreNamedApart a
    → TellsReordered (reply_line (record { id = id; answer = a })) (record { id = id; answer = a })
answer_told id (answer.Ok outcome.Nothing) i p n = as_it_is id _ i p refl refl
answer_told id (answer.Ok (outcome.Int z)) i p n = as_it_is id _ i p refl refl
answer_told id (answer.Ok (outcome.Bool b)) i p n = as_it_is id _ i p refl refl
answer_told id (answer.Ok (outcome.Text text)) i p n = as_it_is id _ i p refl refl
answer_told id (answer.Ok (outcome.Object o)) i p n = as_it_is id _ i p refl refl
answer_told id (answer.Ok (outcome.See s)) i p n = seen id s i p n
answer_told id (answer.Ok (outcome.Handle who name)) i p n = as_it_is id _ i p refl refl
answer_told id (answer.Ok (outcome.Field o name)) i p n = as_it_is id _ i p refl refl
answer_told id (answer.Abort c) i p n = as_it_is id _ i p refl refl
answer_told id (answer.Refused r) i p n = as_it_is id _ i p refl refl

pub line_tells_reordered : (r : Reply) → MayBeGiven r → TellsReordered (reply_line r) r
line_tells_reordered r h = answer_told r.id r.answer h.id h.parts h.names
