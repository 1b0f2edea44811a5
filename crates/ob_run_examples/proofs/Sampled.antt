-- The tests of the vending machine's text, computed.
use Rattle.std.proofs.Common.{ℕ, ◌≡◌, nat_le, true, length, refl}
use Rattle.std.specs.Prelude.{flat_map}
use Rattle.std.specs.Str.{is_utf8, chars}
use Rattle.ob_base.specs.Limits.{most_slots, longest_program, most_open, most_weight}
use Rattle.ob_perm.specs.Masks.{states_of}
use Rattle.ob_perm.specs.States.{states_max}
use Rattle.ob_lexer.specs.Lexing.{word_of}
use Rattle.ob_parser_spec.specs.AllReaders.{all_refs, all_unary, all_branches, all_programs}
use Rattle.ob_resolve_spec.specs.Faults.{faults_of}
use Rattle.ob_resolve_spec.specs.Generics.{arguments_in_contract}
use Rattle.ob_format_spec.specs.Texts.{text}
use Rattle.ob_code.specs.Images.{mode, permission, reference, type_code, reference_param, param, result_type, field, body, contract, image}
use Rattle.ob_emit_spec.specs.Weights.{weight}
use Rattle.ob_store_spec.specs.Settling.{is_empty}
use Rattle.ob_run.specs.VendingMachine.{vending_machine}
use Rattle.ob_run_examples.proofs.Lexing.{reading}
use Rattle.ob_run_examples.proofs.Testing.{tokens, tree, table, bodies, is_read, are_plain, are_lowered, do_derive, Passes}

-- as many steps as the text has bytes are enough
abbrev pub many : ℕ
many = 638

-- ---- the tests of the text

short : nat_le (length vending_machine) longest_program ≡ true
short = refl

utf8 : is_utf8 vending_machine ≡ true
unfolding is_utf8 chars lib.Utf8.encode
utf8 = refl

to_end : is_empty (reading many vending_machine).rest ≡ true
unfolding word_of
to_end = refl

read : is_read (all_programs most_open (tokens many vending_machine)) ≡ true
unfolding tokens word_of all_refs all_unary all_branches
read = refl

plain : are_plain (tree many vending_machine) ≡ true
unfolding tokens tree word_of all_refs all_unary all_branches
plain = refl

unapplied : is_empty (flat_map arguments_in_contract (tree many vending_machine)) ≡ true
unfolding tokens tree word_of all_refs all_unary all_branches
unapplied = refl

clean : is_empty (faults_of (tree many vending_machine)) ≡ true
unfolding tokens tree states_max states_of word_of all_refs all_unary all_branches
clean = refl

lowered : are_lowered (table many vending_machine) (table many vending_machine).bodies ≡ true
unfolding tokens tree table most_slots states_max states_of word_of all_refs all_unary all_branches
lowered = refl

derive : do_derive (table many vending_machine) (bodies many vending_machine) ≡ true
unfolding tokens tree table bodies most_slots states_max states_of word_of all_refs all_unary all_branches
derive = refl

light : nat_le (weight (table many vending_machine) (bodies many vending_machine)) most_weight ≡ true
unfolding tokens tree table bodies most_slots states_max states_of word_of all_refs all_unary all_branches text mode permission reference type_code reference_param param result_type field body contract image
light = refl

pub passes : Passes many vending_machine
passes = record { short = short; utf8 = utf8; to_end = to_end; read = read; plain = plain; unapplied = unapplied; clean = clean; lowered = lowered; derive = derive; light = light }
