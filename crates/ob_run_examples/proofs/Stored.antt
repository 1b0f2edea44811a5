-- The same over a store on a disk without a byte.
use Rattle.std.proofs.Common.{ℕ, ◌≡◌, ◌+◌, pos, List, [], length, inl, refl, sym, ◌∙◌, ap, subst}
use Rattle.std.specs.Fmt.{digits}
use Rattle.std.specs.Str.{is_utf8, chars}
use Rattle.serde_json.proofs.OnLiterals.{serde_json_on_literals}
use Rattle.ob_base.specs.Limits.{most_slots, area_bytes}
use Rattle.ob_perm.specs.Masks.{states_of}
use Rattle.ob_perm.specs.States.{states_max}
use Rattle.ob_lexer.specs.Lexing.{word_of}
use Rattle.ob_parser_spec.specs.AllReaders.{all_refs, all_unary, all_branches}
use Rattle.ob_table.specs.Tables.{ClassTable}
use Rattle.ob_silica.specs.Terms.{SilicaBody}
use Rattle.ob_heap_spec.specs.Contents.{empty_content}
use Rattle.ob_format_spec.specs.Texts.{text}
use Rattle.ob_code.specs.Images.{mode, permission, reference, type_code, reference_param, param, result_type, field, body, contract, image}
use Rattle.ob_code.specs.Instructions.{operator, int_code, bool_code, text_code, copy_code, load_code, store_code, op_code, jump_code, unless_code, test_code, change_code, new_code, call_code, self_call_code, share_code, disown_code, ret_value_code, revert_code, instruction}
use Rattle.ob_emit_spec.specs.EmittedImages.{image_of}
use Rattle.ob_front.specs.Lowered.{AreLoweredTo}
use Rattle.ob_front.specs.Programs.{IsProgram}
use Rattle.ob_front.proofs.MiddleLaws.{one_lowering}
use Rattle.ob_front.proofs.StagesLaws.{one_table}
use Rattle.ob_io.specs.LinesOfText.{lines_of}
use Rattle.ob_journal_spec.proofs.UniqueDisks.{no_bytes_blank}
use Rattle.ob_store_spec.specs.Payloads.{state, marks, truth, value, object_head, object, hold, held, handle, payload}
use Rattle.ob_store_spec.specs.Stores.{StoreProgram, StoreState, IsStoreOf}
use Rattle.ob_store_spec.proofs.Leading.{one_store}
use Rattle.ob_serve.specs.Session.{items_from, replies}
use Rattle.ob_run.specs.Sessions.{program_with, source_items}
use Rattle.ob_run.specs.VendingMachine.{vending_machine}
use Rattle.ob_run_examples.specs.Sample.{asked_stored, input, output}
use Rattle.ob_run_examples.proofs.Sampled.{many, passes}
use Rattle.ob_run_examples.proofs.Testing.{tokens, tree, table, bodies, is_program}

-- a text is one program at most
one_program : (a b : ClassTable) (xs ys : List SilicaBody) → IsProgram vending_machine a xs → IsProgram vending_machine b ys → program_with a xs ≡ program_with b ys
one_program a b xs ys p q =
    let same = one_table vending_machine a b p.checked.terms.has q.checked.terms.has in
    let terms = one_lowering b b.bodies xs ys (subst (λ (t : ClassTable). AreLoweredTo t t.bodies xs) same p.checked.terms.lowered) q.checked.terms.lowered in
    ap (λ (t : ClassTable). program_with t xs) same ∙ ap (λ (bodies : List SilicaBody). program_with b bodies) terms

-- how many bytes the image of its code has
image_length : length (image.bytes (image_of (table many vending_machine) (bodies many vending_machine))) ≡ 577
unfolding tokens tree table bodies most_slots states_max states_of word_of all_refs all_unary all_branches text mode permission reference type_code reference_param param result_type field body contract image operator int_code bool_code text_code copy_code load_code store_code op_code jump_code unless_code test_code change_code new_code call_code self_call_code share_code disown_code ret_value_code revert_code instruction
image_length = refl

-- the store that a disk without a byte represents
abbrev begun_at : ℕ → StoreState
begun_at count = record { content = empty_content; gate = 17 + count + 0; serial = pos 1 }

blank : (program : StoreProgram) (start : StoreState) → IsStoreOf program area_bytes [] start → start ≡ begun_at (length program.image)
blank program start is =
    one_store program area_bytes [] start (begun_at (length program.image)) is (inl (record { blank = no_bytes_blank area_bytes; content = refl; gate = refl; serial = refl }))

computed : (more : List SilicaBody) → replies (items_from (source_items asked_stored (table many vending_machine) more) (begun_at 577) (lines_of input)) ≡ output
unfolding tokens tree table most_slots states_max states_of word_of all_refs all_unary all_branches serde_json_on_literals is_utf8 chars lib.Utf8.encode digits text state marks truth value object_head object hold held handle payload mode
computed more = refl

pub answered_stored : (other : ClassTable) (more : List SilicaBody) (start : StoreState) → IsProgram vending_machine other more → IsStoreOf (program_with other more) area_bytes [] start
    → replies (items_from (source_items asked_stored other more) start (lines_of input)) ≡ output
answered_stored other more start is stands =
    let own = is_program many vending_machine passes in
    let same = one_table vending_machine (table many vending_machine) other own.checked.terms.has is.checked.terms.has in
    let program = one_program other (table many vending_machine) more (bodies many vending_machine) is own in
    let begins : start ≡ begun_at 577 =
    blank (program_with (table many vending_machine) (bodies many vending_machine)) start (subst (λ (p : StoreProgram). IsStoreOf p area_bytes [] start) program stands) ∙ ap (λ (n : ℕ). begun_at n) image_length in
    subst (λ (s : StoreState). replies (items_from (source_items asked_stored other more) s (lines_of input)) ≡ output) (sym begins)
    (subst (λ (t : ClassTable). replies (items_from (source_items asked_stored t more) (begun_at 577) (lines_of input)) ≡ output) same (computed more))
