-- The line of a reply tells this reply, and no other; what is read of a line is what it tells.
use Rattle.std.proofs.Common.{◌≡◌, ℕ, Bool, true, false, List, [], ◌∷◌, ◌++◌, Option, Some, None, refl, sym, ap, ◌∙◌, append_assoc, append-nil, arith}
use Rattle.std.specs.Prelude.{◌↔◌, IsTrue, IfOk, IsErrOf, codes, Result, Ok, Err}
use Rattle.std.specs.Str.{IsUtf8, bytes_eq}
use Rattle.std.specs.Cmp.Lexicographic.{bytes_decides}
use Rattle.std.proofs.lemmas.List.{append_cancel_right}
use Rattle.std.proofs.lemmas.Str.{IsUtf8-append, is_utf8-from_IsUtf8}
use Rattle.json.proofs.Printed.Utf8.{IsUtf8-are_ascii}
use Rattle.serde_json.specs.Data.{Data, Members, no_members, member}
use Rattle.serde_json.specs.Read.{read}
use Rattle.serde_json.specs.Written.{has_float, compact_text}
use Rattle.ob_base.specs.Optional.{◌>>=◌}
use Rattle.ob_base.proofs.OptionalLemmas.{both_true}
use Rattle.ob_wire.specs.Requests.{IsNoJson}
use Rattle.ob_wire.specs.Replies.{reply_json, reply_line}
use Rattle.ob_wire.proofs.ReplyTexts.{is_whole}
use Rattle.ob_wire.specs.declared.reading.WireError.{WireError}
use Rattle.ob_wire.specs.declared.reading.WireError.TheVariants as wire
use Rattle.ob_wire.specs.declared.reply.Reply.{Reply}
use Rattle.ob_wire.specs.declared.reply.ShownField.{ShownField}
use Rattle.ob_client.specs.Told.{is_id_of, is_answer, is_in_order, is_reply, Tells, TellsNothing}
use Rattle.ob_client.specs.ReplyReading.{text_of, field_in, fields_of, reply_in, IsToldBy, ReadsReply}
use Rattle.ob_client.proofs.ExactLemmas.{read_again, read_line_again, text_utf8}
use Rattle.ob_client.proofs.ReplyExact.{reply_fine}
use Rattle.ob_client.proofs.ReplyLaws.{reply_again, IsFormed, reply_formed, reply_possible}

-- ---- laws

pub line_tells : (r : Reply) → IsTrue (is_reply r) → Tells (reply_line r) r
line_tells r h =
    let a = both_true (is_id_of r.answer r.id) _ h in
    let b = both_true (is_answer r.answer) (is_in_order r.answer) a.1 in
    let fine = reply_fine r a.0 b.0 in
    record {
      json = record {
        utf8 = IsUtf8-append (compact_text (reply_json r)) (codes "\n") (text_utf8 (reply_json r) fine.0) (IsUtf8-are_ascii (codes "\n") refl);
        json = read_line_again (reply_json r) fine.0 (omega (arith, fine.1));
      };
      possible = h;
    }

inside : {A : Type 0} (x y : A) → Some x ≡ Some y → x ≡ y
inside x y e = cc

pub tells_one : (line : List ℕ) (first second : Reply) → Tells line first → Tells line second → first ≡ second
tells_one line first second a b =
    let same : reply_json first ≡ reply_json second = inside _ _ (sym a.json.json ∙ b.json.json) in
    inside first second (sym (reply_again first a.possible) ∙ ap reply_in same ∙ reply_again second b.possible)

-- ---- a value has the line of a reply exactly where it is this reply's

pub of_same_line : (r : Reply) (value : Data) (text : List ℕ) → IsFormed r → read text ≡ Some value
    → text ++ 10 ∷ [] ≡ compact_text (reply_json r) ++ 10 ∷ [] → value ≡ reply_json r
of_same_line r value text formed back same =
    let fine = reply_fine r formed.0 formed.1 in
    inside value (reply_json r) (
    sym back ∙ ap read (append_cancel_right text (compact_text (reply_json r)) (10 ∷ []) same)
    ∙ read_again (reply_json r) fine.0 (omega (arith, fine.1))
    )

pub has_same_line : (r : Reply) (value : Data) (text : List ℕ) → (has_float value ≡ false → text ≡ compact_text value) → value ≡ reply_json r
    → text ++ 10 ∷ [] ≡ compact_text (reply_json r) ++ 10 ∷ []
has_same_line r value text written same =
    ap (λ (t : List ℕ). t ++ 10 ∷ []) (written (ap has_float same ∙ is_whole r) ∙ ap compact_text same)

-- what the test of two lines tells, of which one is a text of the value and the other the reply's
pub same_lines : (r : Reply) (value : Data) (text left right : List ℕ) (same : Bool) → IsFormed r → read text ≡ Some value
    → (has_float value ≡ false → text ≡ compact_text value) → left ≡ text ++ 10 ∷ [] → right ≡ reply_line r → same ≡ bytes_eq left right
    → IsTrue same ↔ (value ≡ reply_json r)
same_lines r value text left right same formed back written l w is = (
  λ (h : same ≡ true). of_same_line r value text formed back (sym l ∙ (bytes_decides left right).0 (sym is ∙ h) ∙ w),
  λ (e : value ≡ reply_json r). is ∙ (bytes_decides left right).1 (l ∙ has_same_line r value text written e ∙ sym w),
)

-- ---- what is read of a value

pub none_read : (value : Data) (r : Reply) → reply_in value ≡ None → IsTrue (is_reply r) → ¬ (value ≡ reply_json r)
none_read value r none h same = let no : None ≡ Some r = sym none ∙ ap reply_in same ∙ reply_again r h in absurd cc

pub other_read : (value : Data) (found r : Reply) → reply_in value ≡ Some found → ¬ (value ≡ reply_json found) → IsTrue (is_reply r) → ¬ (value ≡ reply_json r)
other_read value found r is other h same =
    let one : found ≡ r = inside found r (sym is ∙ ap reply_in same ∙ reply_again r h) in
    other (same ∙ ap reply_json (sym one))

pub told_read : (value : Data) (r : Reply) → reply_in value ≡ Some r → value ≡ reply_json r → (value ≡ reply_json r) × IsTrue (is_reply r)
told_read value r is same = (same, reply_possible r (ap reply_in (sym same) ∙ is))

-- ---- what is read of a line

pub reads_value : (result : Result Reply WireError) (line : List ℕ) (value : Data) → IsUtf8 line → read line ≡ Some value → IsToldBy result value
    → ReadsReply result line
reads_value (Ok r) line value utf8 json told =
    record { json = record { utf8 = utf8; json = json ∙ ap Some told.0 }; possible = told.1 }
reads_value (Err wire.Json) line value utf8 json told = absurd told
reads_value (Err wire.BatchSize) line value utf8 json told = absurd told
reads_value (Err wire.Shape) line value utf8 json told = (value, record { utf8 = utf8; json = json }, told)
reads_value (Err wire.Memory) line value utf8 json told = tt

pub told_by : (line : List ℕ) (result : Result Reply WireError) → ReadsReply result line → IfOk result (λ r. Tells line r)
told_by line (Ok r) h = h
told_by line (Err e) h = tt

pub no_json_by : (line : List ℕ) (result : Result Reply WireError) → ReadsReply result line → IsErrOf result wire.Json → IsNoJson line
no_json_by line (Ok r) h is = absurd cc
no_json_by line (Err wire.Json) h is = h
no_json_by line (Err wire.Shape) h is = absurd cc
no_json_by line (Err wire.BatchSize) h is = absurd cc
no_json_by line (Err wire.Memory) h is = absurd cc

pub no_reply_by : (line : List ℕ) (result : Result Reply WireError) → ReadsReply result line → IsErrOf result wire.Shape → TellsNothing line
no_reply_by line (Ok r) h is = absurd cc
no_reply_by line (Err wire.Json) h is = absurd cc
no_reply_by line (Err wire.Shape) h is = h
no_reply_by line (Err wire.BatchSize) h is = absurd cc
no_reply_by line (Err wire.Memory) h is = absurd cc

pub no_batch_size_by : (line : List ℕ) (result : Result Reply WireError) → ReadsReply result line → ¬ (IsErrOf result wire.BatchSize)
no_batch_size_by line (Ok r) h is = absurd cc
no_batch_size_by line (Err wire.Json) h is = absurd cc
no_batch_size_by line (Err wire.Shape) h is = absurd cc
no_batch_size_by line (Err wire.BatchSize) h is = absurd h
no_batch_size_by line (Err wire.Memory) h is = absurd cc

-- ---- one field after another

pub none_before : (o : Option (List ShownField)) → (o >>= λ more. Some ([] ++ more)) ≡ o
none_before None = refl
none_before (Some fields) = refl

joined : (front : List ShownField) (f : ShownField) (o : Option (List ShownField))
    → (o >>= λ more. Some ((front ++ f ∷ []) ++ more)) ≡ (o >>= λ fields. Some (f ∷ fields)) >>= λ more. Some (front ++ more)
joined front f None = refl
joined front f (Some fields) = ap Some (append_assoc front (f ∷ []) fields)

pub one_more_field : (front : List ShownField) (name : List ℕ) (d : Data) (ms : Members) (f : ShownField) (all : Option (List ShownField))
    → field_in name d ≡ Some f → (fields_of (member name d ms) >>= λ more. Some (front ++ more)) ≡ all
    → (fields_of ms >>= λ more. Some ((front ++ f ∷ []) ++ more)) ≡ all
one_more_field front name d ms f all is so_far =
    joined front f (fields_of ms)
    ∙ sym (ap (λ (o : Option ShownField). (o >>= λ g. fields_of ms >>= λ fields. Some (g ∷ fields)) >>= λ more. Some (front ++ more)) is) ∙ so_far

pub no_field : (front : List ShownField) (name : List ℕ) (d : Data) (ms : Members) (all : Option (List ShownField))
    → field_in name d ≡ None → (fields_of (member name d ms) >>= λ more. Some (front ++ more)) ≡ all → all ≡ None
no_field front name d ms all is so_far =
    sym so_far ∙ ap (λ (o : Option ShownField). (o >>= λ g. fields_of ms >>= λ fields. Some (g ∷ fields)) >>= λ more. Some (front ++ more)) is

pub all_fields : (front : List ShownField) (all : Option (List ShownField)) → (fields_of no_members >>= λ more. Some (front ++ more)) ≡ all
    → all ≡ Some front
all_fields front all so_far = sym so_far ∙ ap Some (append-nil front)

pub text_is : (text : List ℕ) → IsUtf8 text → text_of text ≡ Some text
text_is text utf8 = rw (is_utf8-from_IsUtf8 text utf8) refl

pub formed_read : (value : Data) (r : Reply) → reply_in value ≡ Some r → (IsTrue (is_id_of r.answer r.id)) × (IsTrue (is_answer r.answer))
formed_read = reply_formed
