-- The shape of the members that tokens spell.
use Rattle.std.proofs.Common.{◌≡◌, Bool, true, false, List, [], ◌∷◌, Some, None, IsTrue, refl}
use Rattle.std.specs.List.{AllByRecursion}
use Rattle.std.proofs.lemmas.List.Elements.{All-from_recursion}
use Rattle.ob_base.specs.Names.{is_name}
use Rattle.ob_tree.specs.Members.{Field, Listed, Member, state_member, field_member, constructor_member, transaction_member}
use Rattle.ob_parser_spec.specs.MemberRows.{field, fields_of_state, privacy, member, interface_member}
use Rattle.ob_resolve_spec.specs.Shape.{HasMemberShape}
use Rattle.ob_parser_laws.proofs.StmtShapes.{block_says}
use Rattle.ob_parser_laws.proofs.RowFacts.{Says, never_says, holds, both_say, so_says, name_says, first_says, then_says, spanning_says, each_says}

-- the name of a field is one
abbrev IsNamed : Field → Type 0
IsNamed f = IsTrue (is_name f.name.name)

field_says : (f : Field) → Says (field f) (IsNamed f)
field_says f = then_says (first_says name_says)

fields_say : (fields : List Field) → Says (fields_of_state fields) (AllByRecursion IsNamed fields)
fields_say [] = holds tt
fields_say (f ∷ fs) = then_says (first_says (each_says field IsNamed field_says (f ∷ fs)))

privacy_says : (private : Bool) (lists : List Listed) → Says (privacy private lists) (private ≡ false → lists ≡ [])
privacy_says false [] = holds (λ e. refl)
privacy_says false (l ∷ ls) = never_says
privacy_says true lists = holds (λ e. absurd cc)

pub member_says : (m : Member) → Says (member m) (HasMemberShape false m)
member_says (state_member part fields span) =
    spanning_says (so_says (λ known. (known.0, All-from_recursion IsNamed fields known.1, λ e. absurd cc))
    (both_say (then_says (first_says name_says)) (then_says (then_says (fields_say fields)))))
member_says (field_member f) = so_says (λ known. (known, refl)) (field_says f)
member_says (constructor_member of with params body span) =
    spanning_says (so_says (λ known. (refl, known))
    (then_says (then_says (then_says (then_says (then_says (then_says (block_says body))))))))
member_says (transaction_member private lists part params result (Some body) span) =
    spanning_says (so_says
    (λ known. record {
      name_form = known.0.0;
      lists = known.0.1;
      head = λ e. absurd cc;
      whole = λ e. refl;
      operators = known.1;
    })
    (both_say
    (both_say (then_says (first_says (then_says (first_says name_says)))) (first_says (privacy_says private lists)))
    (then_says (then_says (block_says body)))))
member_says (transaction_member private lists part params result None span) = never_says

pub interface_member_says : (m : Member) → Says (interface_member m) (HasMemberShape true m)
interface_member_says (state_member part [] span) =
    spanning_says (so_says (λ known. (known, All-from_recursion IsNamed [] tt, λ e. refl))
    (then_says (first_says name_says)))
interface_member_says (transaction_member false [] part params result None span) =
    spanning_says (so_says
    (λ known. record { name_form = known; lists = λ e. refl; head = λ e. (refl, refl); whole = λ e. absurd cc; operators = tt })
    (first_says (then_says (first_says name_says))))
interface_member_says m = never_says
