-- The replies to the sample, computed.
use Rattle.std.proofs.Common.{◌≡◌, List, refl, subst}
use Rattle.std.specs.Fmt.{digits}
use Rattle.std.specs.Str.{is_utf8, chars}
use Rattle.serde_json.proofs.OnLiterals.{serde_json_on_literals}
use Rattle.ob_base.specs.Limits.{most_slots}
use Rattle.ob_perm.specs.Masks.{states_of}
use Rattle.ob_perm.specs.States.{states_max}
use Rattle.ob_lexer.specs.Lexing.{word_of}
use Rattle.ob_parser_spec.specs.AllReaders.{all_refs, all_unary, all_branches}
use Rattle.ob_table.specs.Tables.{ClassTable}
use Rattle.ob_silica.specs.Terms.{SilicaBody}
use Rattle.ob_front.specs.Programs.{IsProgram}
use Rattle.ob_front.proofs.StagesLaws.{one_table}
use Rattle.ob_io.specs.LinesOfText.{lines_of}
use Rattle.ob_serve.specs.Session.{items_from, replies}
use Rattle.ob_run.specs.Sessions.{source_items, store_in_memory}
use Rattle.ob_run.specs.VendingMachine.{vending_machine}
use Rattle.ob_run_examples.specs.Sample.{asked, input, output}
use Rattle.ob_run_examples.proofs.Sampled.{many, passes}
use Rattle.ob_run_examples.proofs.Testing.{tokens, tree, table, is_program}

computed : (bodies : List SilicaBody) → replies (items_from (source_items asked (table many vending_machine) bodies) store_in_memory (lines_of input)) ≡ output
unfolding tokens tree table most_slots states_max states_of word_of all_refs all_unary all_branches serde_json_on_literals is_utf8 chars lib.Utf8.encode digits
computed bodies = refl

pub answered : (other : ClassTable) (more : List SilicaBody) → IsProgram vending_machine other more → replies (items_from (source_items asked other more) store_in_memory (lines_of input)) ≡ output
answered other more is =
    let same = one_table vending_machine (table many vending_machine) other (is_program many vending_machine passes).checked.terms.has is.checked.terms.has in
    subst (λ (t : ClassTable). replies (items_from (source_items asked t more) store_in_memory (lines_of input)) ≡ output) same (computed more)
