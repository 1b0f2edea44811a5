-- What contracts declare, by name.
use Rattle.std.proofs.Common.{◌≡◌, ℕ, zero, suc, ◌+◌, List, [], ◌∷◌, ◌++◌, map, length, Option, Some, None, refl, sym, ap, ◌∙◌, append_assoc, length-append}
use Rattle.std.specs.Prelude.{flat_map, option_map, option_and_then, slice_get}
use Rattle.std.specs.Option.{option_map_or}
use Rattle.std.proofs.lemmas.Option.{slice_get-map}
use Rattle.ob_tree.specs.Members.{Contract, Field, Member, state_member, field_member, constructor_member, transaction_member}
use Rattle.ob_tree.specs.MembersView.{member_of, contract_of}
use Rattle.ob_tree.specs.declared.member.Member.{Member as MemberNode}
use Rattle.ob_tree.specs.declared.contract.ContractNode.{ContractNode}
use Rattle.ob_table_spec.specs.Names.{Name, number_of}
use Rattle.ob_resolve_spec.specs.Declarations.{Program, declared_contract, FieldDeclaration, fields_of, field_names, Transaction, transactions_of_member, transactions_of, transaction_named}
use Rattle.ob_resolve_spec.specs.Kinds.{kind_of_type}
use Rattle.ob_resolve_spec.specs.Scopes.{kind_of_field}
use Rattle.ob_resolve_spec.specs.declared.kind.InferredKind.TheVariants.{Unknown as unknown}
use Rattle.ob_resolve_scope.specs.Numbered.{find}
use Rattle.ob_resolve_scope.specs.Members.{members_of, heading_of, transaction_of_member, positions_from}
use Rattle.ob_resolve_scope.specs.declared.members.Members.{Members}
use Rattle.ob_resolve_scope.proofs.NumberedLemmas.{find-numbered, first_named-number}

pub members_at : (program : Program) (members : List Members) (n : ℕ) → members ≡ map (members_of program) program
    → slice_get members n ≡ option_map (members_of program) (declared_contract program n)
members_at program members n is = ap (λ xs. slice_get xs n) is ∙ slice_get-map (members_of program) program n

pub field_in : (program : Program) (name : Name) (c : Option Contract) (o : Option Members)
    → o ≡ option_map (members_of program) c
    → option_and_then (λ m. find name m.fields) o ≡ option_and_then (λ c. number_of name (field_names c)) c
field_in program name None o e = ap (option_and_then (λ m. find name m.fields)) e
field_in program name (Some c) o e =
    ap (option_and_then (λ m. find name m.fields)) e ∙ find-numbered name (field_names c)

map_map : {A B C : Type 0} (f : B → C) (g : A → B) (xs : List A) → map f (map g xs) ≡ map (λ x. f (g x)) xs
map_map f g [] = refl
map_map f g (x ∷ xs) = ap (λ ys. f (g x) ∷ ys) (map_map f g xs)

-- what is said of a field stands at the field's number
kind_at : (program : Program) (name : Name) (fs : List FieldDeclaration) (o : Option ℕ)
    → option_map_or (λ k. k) (option_and_then (slice_get (map (λ f. kind_of_type program f.field.of) fs)) o) unknown
    ≡ option_map_or (λ (f : Field). kind_of_type program f.of)
    (option_and_then (slice_get (map (λ f. f.field) fs)) o) unknown
kind_at program name fs None = refl
kind_at program name fs (Some n) =
    ap (λ o. option_map_or (λ k. k) o unknown) (slice_get-map (λ f. kind_of_type program f.field.of) fs n)
    ∙ by (slice_get fs n)
    ∙ ap (λ o. option_map_or (λ (f : Field). kind_of_type program f.of) o unknown)
    (sym (slice_get-map (λ f. f.field) fs n))
  where
    by : (o : Option FieldDeclaration) → option_map_or (λ k. k)
        (option_map (λ f. kind_of_type program f.field.of) o) unknown
        ≡ option_map_or (λ (f : Field). kind_of_type program f.of) (option_map (λ f. f.field) o) unknown
    by None = refl
    by (Some f) = refl

-- the kind of a field stands at its number
pub kind_of_field-is : (program : Program) (c : Contract) (name : Name)
    → kind_of_field program c name
    ≡ option_map_or (λ k. k) (option_and_then (slice_get (members_of program c).kinds)
    (find name (members_of program c).fields)) unknown
kind_of_field-is program c name =
    ap (λ o. option_map_or (λ (f : Field). kind_of_type program f.of) o unknown)
    (first_named-number (λ (f : Field). f.name.name) name (map (λ f. f.field) (fields_of c))
    ∙ ap (λ xs. option_and_then (slice_get (map (λ f. f.field) (fields_of c))) (number_of name xs))
    (map_map (λ (f : Field). f.name.name) (λ f. f.field) (fields_of c)))
    ∙ sym (kind_at program name (fields_of c) (number_of name (field_names c)))
    ∙ ap (λ o. option_map_or (λ k. k) (option_and_then (slice_get (members_of program c).kinds) o) unknown)
    (sym (find-numbered name (field_names c)))

pub kind_in : (program : Program) (name : Name) (c : Option Contract) (o : Option Members)
    → o ≡ option_map (members_of program) c
    → option_map_or (λ m. option_map_or (λ k. k) (option_and_then (slice_get m.kinds)
    (find name m.fields)) unknown) o unknown
    ≡ option_map_or (λ c. kind_of_field program c name) c unknown
kind_in program name None o e = ap (λ o. option_map_or
    (λ m. option_map_or (λ k. k) (option_and_then (slice_get m.kinds) (find name m.fields)) unknown) o unknown) e
kind_in program name (Some c) o e =
    ap (λ o. option_map_or (λ m. option_map_or (λ k. k)
    (option_and_then (slice_get m.kinds) (find name m.fields)) unknown) o unknown) e
    ∙ sym (kind_of_field-is program c name)

pub transaction_in : (program : Program) (name : Name) (c : Option Contract) (o : Option Members)
    → o ≡ option_map (members_of program) c
    → option_and_then (λ m. find name m.transactions) o
    ≡ option_and_then (λ c. number_of name (map (λ t. t.name.name) (transactions_of c))) c
transaction_in program name None o e = ap (option_and_then (λ m. find name m.transactions)) e
transaction_in program name (Some c) o e =
    ap (option_and_then (λ m. find name m.transactions)) e
    ∙ find-numbered name (map (λ t. t.name.name) (transactions_of c))

-- the heading of a transaction stands at its number
pub heading-is : (program : Program) (c : Contract) (name : Name)
    → option_map (heading_of program) (transaction_named c name)
    ≡ option_and_then (slice_get (members_of program c).headings) (find name (members_of program c).transactions)
heading-is program c name =
    ap (option_map (heading_of program)) (first_named-number (λ (t : Transaction). t.name.name) name
    (transactions_of c))
    ∙ by (number_of name (map (λ t. t.name.name) (transactions_of c)))
    ∙ ap (option_and_then (slice_get (members_of program c).headings))
    (sym (find-numbered name (map (λ t. t.name.name) (transactions_of c))))
  where
    by : (o : Option ℕ) → option_map (heading_of program) (option_and_then (slice_get (transactions_of c)) o)
        ≡ option_and_then (slice_get (map (heading_of program) (transactions_of c))) o
    by None = refl
    by (Some n) = sym (slice_get-map (heading_of program) (transactions_of c) n)

pub heading_in : (program : Program) (name : Name) (c : Option Contract) (o : Option Members)
    → o ≡ option_map (members_of program) c
    → option_and_then (λ m. option_and_then (slice_get m.headings) (find name m.transactions)) o
    ≡ option_map (heading_of program) (option_and_then (λ c. transaction_named c name) c)
heading_in program name None o e = ap (option_and_then
    (λ m. option_and_then (slice_get m.headings) (find name m.transactions))) e
heading_in program name (Some c) o e =
    ap (option_and_then (λ m. option_and_then (slice_get m.headings) (find name m.transactions))) e
    ∙ sym (heading-is program c name)

-- Transactions, by the places of their members.

-- what stands after others stands at their count
pub slice_get-at : {A : Type 0} (xs ys : List A) (x : A) → slice_get (xs ++ x ∷ ys) (length xs) ≡ Some x
slice_get-at [] ys x = refl
slice_get-at (y ∷ xs) ys x = slice_get-at xs ys x

placed : (before ms : List Member) (k : ℕ)
    → slice_get (flat_map transactions_of_member ms) k
    ≡ option_and_then (λ p. option_and_then transaction_of_member (slice_get (before ++ ms) p))
    (slice_get (positions_from (length before) ms) k)
placed before [] k = refl
placed before (m ∷ ms) k =
    by m k
    (λ j. placed (before ++ m ∷ []) ms j
    ∙ ap (λ ns. option_and_then (λ p. option_and_then transaction_of_member (slice_get ns p))
    (slice_get (positions_from (length (before ++ m ∷ [])) ms) j)) (append_assoc before (m ∷ []) ms)
    ∙ ap (λ n. option_and_then (λ p. option_and_then transaction_of_member (slice_get (before ++ m ∷ ms) p))
    (slice_get (positions_from n ms) j)) (length-append before (m ∷ [])))
  where
    by : (m : Member) (k : ℕ) → ((k : ℕ) → slice_get (flat_map transactions_of_member ms) k
        ≡ option_and_then (λ p. option_and_then transaction_of_member (slice_get (before ++ m ∷ ms) p))
        (slice_get (positions_from (length before + 1) ms) k))
        → slice_get (flat_map transactions_of_member (m ∷ ms)) k
        ≡ option_and_then (λ p. option_and_then transaction_of_member (slice_get (before ++ m ∷ ms) p))
        (slice_get (positions_from (length before) (m ∷ ms)) k)
    by (state_member name fields span) k rest = rest k
    by (field_member field) k rest = rest k
    by (constructor_member of perm params body span) k rest = rest k
    by (transaction_member private listed name params result body span) zero rest =
        sym (ap (option_and_then transaction_of_member)
        (slice_get-at before ms (transaction_member private listed name params result body span)))
    by (transaction_member private listed name params result body span) (suc k) rest = rest k

through_nodes : (members : List MemberNode) (o : Option ℕ)
    → option_and_then (λ p. option_and_then transaction_of_member (slice_get (map member_of members) p)) o
    ≡ option_and_then (λ p. option_and_then (λ m. transaction_of_member (member_of m)) (slice_get members p)) o
through_nodes members None = refl
through_nodes members (Some p) = ap (option_and_then transaction_of_member) (slice_get-map member_of members p)
    ∙ by (slice_get members p)
  where
    by : (o : Option MemberNode) → option_and_then transaction_of_member (option_map member_of o)
        ≡ option_and_then (λ m. transaction_of_member (member_of m)) o
    by None = refl
    by (Some m) = refl

-- a transaction is the member at its place
pub transaction-placed : (c : ContractNode) (k : ℕ)
    → slice_get (transactions_of (contract_of c)) k
    ≡ option_and_then (λ p. option_and_then (λ m. transaction_of_member (member_of m)) (slice_get c.members p))
    (slice_get (positions_from 0 (map member_of c.members)) k)
transaction-placed c k =
    placed [] (map member_of c.members) k ∙ through_nodes c.members
    (slice_get (positions_from 0 (map member_of c.members)) k)

pub ruleset members = (members_at)

pub ruleset placing = (transaction-placed)
