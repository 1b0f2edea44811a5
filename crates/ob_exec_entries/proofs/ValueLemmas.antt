-- The values of arguments, one after another.
use Rattle.std.proofs.Common.{◌≡◌, ℕ, ◌+◌, ◌<◌, List, [], ◌∷◌, ◌++◌, map, length, take, get_or, Option, Some, None, refl, sym, ap, ◌∙◌}
use Rattle.std.specs.Prelude.{filter_map, option_map, option_to_list}
use Rattle.std.specs.List.{cons_option}
use Rattle.std.proofs.lemmas.List.{map-append, take_more}
use Rattle.std.proofs.lemmas.List.Elements.{filter_map-append}
use Rattle.ob_heap.specs.Plain.{value_of as plain_value}
use Rattle.ob_heap.specs.declared.value.Value.{Value}
use Rattle.ob_heap_spec.specs.Values.{Value as PlainValue}
use Rattle.ob_heap_spec.specs.Contents.{Content}
use Rattle.ob_invocation_spec.specs.Entries.{value_of}
use Rattle.ob_wire.specs.Meanings.{argument_meant}
use Rattle.ob_wire.specs.declared.request.Arg.{Arg}
use Rattle.ob_exec_entries.proofs.ArgumentLemmas.{map-option}

only_one : (o : Option PlainValue) → cons_option o [] ≡ option_to_list o
only_one None = refl
only_one (Some v) = refl

pub values_turn : (content : Content) (who : List ℕ) (args : List Arg) (i : ℕ) (a : Arg) (before after : List Value) (o : Option Value)
    → i < length args → a ≡ get_or args i a → after ≡ before ++ option_to_list o → option_map plain_value o ≡ value_of content who (argument_meant a)
    → map plain_value before ≡ filter_map (value_of content who) (map argument_meant (take i args))
    → map plain_value after ≡ filter_map (value_of content who) (map argument_meant (take (i + 1) args))
values_turn content who args i a before after o l is e f h =
    let more : take (i + 1) args ≡ take i args ++ a ∷ [] = take_more args i a l ∙ ap (λ (y : Arg). take i args ++ y ∷ []) (sym is) in
    let one : filter_map (value_of content who) (argument_meant a ∷ []) ≡ option_to_list (option_map plain_value o) =
    only_one (value_of content who (argument_meant a)) ∙ ap option_to_list (sym f) in
    ap (map plain_value) e ∙ map-append plain_value before (option_to_list o)
    ∙ ap (λ (vs : List PlainValue). vs ++ map plain_value (option_to_list o)) h
    ∙ ap (λ (vs : List PlainValue). filter_map (value_of content who) (map argument_meant (take i args)) ++ vs) (map-option plain_value o ∙ sym one)
    ∙ sym (filter_map-append (value_of content who) (map argument_meant (take i args)) (argument_meant a ∷ []))
    ∙ ap (filter_map (value_of content who)) (sym (map-append argument_meant (take i args) (a ∷ [])))
    ∙ ap (λ (xs : List Arg). filter_map (value_of content who) (map argument_meant xs)) (sym more)
