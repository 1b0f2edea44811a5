-- What a name denotes, by look-ups of its number.
use Rattle.std.proofs.Common.{◌≡◌, ℕ, Bool, true, false, not, ◌&&◌, ◌||◌, List, [], ◌∷◌, length, get_or, drop, ◌<◌, ◌+◌, Option, Some, None, is_some, if◌then◌else◌, map, suc, refl, ap, sym, ◌∙◌, add-one, drop-cons, slice_get, option_and_then}
use Rattle.std.specs.Prelude.{option_map}
use Rattle.std.specs.Option.{option_map_or}
use Rattle.std.proofs.lemmas.Bool.{false≢true}
use Rattle.std.proofs.lemmas.List.Folds.{list_any-append}
use Rattle.std.proofs.lemmas.Option.{slice_get-map}
use Rattle.ob_base.specs.declared.fault.ProgramFault.{ProgramFault}
use Rattle.ob_base.specs.declared.fault.Span.{Span}
use Rattle.ob_tree.specs.Names.{Ref}
use Rattle.ob_tree.specs.NamesView.{named_of, named_with, ref_of, named_of-out}
use Rattle.ob_tree.specs.Members.{Contract}
use Rattle.ob_tree.specs.MembersView.{contract_of}
use Rattle.ob_tree.specs.declared.name.NamedNode.{NamedNode, out-NamedNode}
use Rattle.ob_tree.specs.declared.name.NamePart.{NamePart}
use Rattle.ob_tree.specs.declared.contract.ContractNode.{ContractNode}
use Rattle.ob_table_spec.specs.Names.{Name, same, is_among, number_of, first_named}
use Rattle.ob_resolve_spec.specs.Declarations.{Program, Transaction, part_of_named, state_names, field_names, transactions_of, transaction_named}
use Rattle.ob_resolve_spec.specs.Visible.{means, is_visible, a_public_transaction, visible_after_dot}
use Rattle.ob_resolve_spec.specs.Sites.{Site, names_thing, names_state}
use Rattle.ob_resolve_spec.specs.declared.variable.ScopeVariable.{ScopeVariable}
use Rattle.ob_resolve_scope.specs.Members.{heading_of}
use Rattle.ob_resolve_scope.specs.Numbered.{find}
use Rattle.ob_resolve_sites.specs.Noted.{notes, noted, noted_at, noted_if, noted-append, names_in}
use Rattle.ob_resolve_scope.specs.declared.members.Heading.{Heading}
use Rattle.ob_base.specs.Faults as faults

some_suc : (o : Option ℕ) → is_some (option_map suc o) ≡ is_some o
some_suc None = refl
some_suc (Some n) = refl

-- a name with a number is one of them
pub number_of-is_some : (name : Name) (names_thing : List Name) → is_some (number_of name names_thing) ≡ is_among name names_thing
number_of-is_some name [] = refl
number_of-is_some name (x ∷ xs) = by (same name x) (number_of-is_some name xs)
  where
    by : (b : Bool) → is_some (number_of name xs) ≡ is_among name xs
        → is_some (if b then Some 0 else option_map suc (number_of name xs)) ≡ (b || is_among name xs)
    by true e = refl
    by false e = some_suc (number_of name xs) ∙ e

-- a thing of a name is there where the name is one of theirs
is_some-first : {A : Type 0} (name_of : A → Name) (name : Name) (xs : List A)
    → is_some (first_named name_of name xs) ≡ is_among name (map name_of xs)
is_some-first name_of name [] = refl
is_some-first name_of name (x ∷ xs) = by (same name (name_of x)) (is_some-first name_of name xs)
  where
    by : (b : Bool) → is_some (first_named name_of name xs) ≡ is_among name (map name_of xs)
        → is_some (if b then Some x else first_named name_of name xs) ≡ (b || is_among name (map name_of xs))
    by true e = refl
    by false e = e

pub variable-is_some : (name : Name) (vs : List ScopeVariable)
    → is_some (first_named (λ v. v.name) name vs) ≡ is_among name (map (λ v. v.name) vs)
variable-is_some = is_some-first (λ v. v.name)

pub transaction-is_some : (name : Name) (ts : List Transaction)
    → is_some (first_named (λ t. t.name.name) name ts) ≡ is_among name (map (λ t. t.name.name) ts)
transaction-is_some = is_some-first (λ t. t.name.name)

-- a name that is found is one of those in the row
pub find-is_some : (name : Name) (es : List (Name × ℕ)) → is_some (find name es) ≡ is_among name (names_in es)
find-is_some name [] = refl
find-is_some name (e ∷ es) = by (same name e.0) (find-is_some name es)
  where
    by : (b : Bool) → is_some (find name es) ≡ is_among name (names_in es)
        → is_some (if b then Some e.1 else find name es) ≡ (b || is_among name (names_in es))
    by true h = refl
    by false h = h

-- what is there after a reference is there
pub mapped-is_some : {A B : Type 0} (f : A → B) (o : Option A) (p : Option B) → option_map f o ≡ p
    → is_some o ≡ is_some p
mapped-is_some f None p e = ap is_some e
mapped-is_some f (Some x) p e = ap is_some e

part_with : (name : List ℕ) (argument : Option Ref) (span : Span)
    → part_of_named (named_with name argument span) ≡ record { name = name; span = span }
part_with name None span = refl
part_with name (Some argument) span = refl

-- a name with its argument has the name and the place that are written
pub part_of_node : (node : NamedNode)
    → part_of_named (named_of node) ≡ record { name = (out-NamedNode node).name; span = (out-NamedNode node).span }
part_of_node node = ap part_of_named (named_of-out node)
    ∙ part_with (out-NamedNode node).name (option_map ref_of (out-NamedNode node).argument) (out-NamedNode node).span

-- the contract of a number, as plain data
pub node_at : (nodes : List ContractNode) (n : ℕ)
    → slice_get (map contract_of nodes) n ≡ option_map contract_of (slice_get nodes n)
node_at nodes n = slice_get-map contract_of nodes n

-- Of a contract that may not be there.

-- what is visible after a dot
abbrev visible_after : Option Contract → Name → Bool
visible_after o name = option_map_or (λ c. is_visible (visible_after_dot c) name) o false

-- a transaction there that isn't private
abbrev public_after : Option Contract → Name → Bool
public_after o name = option_map_or (λ c. means a_public_transaction (visible_after_dot c) name) o false

-- the site of such a transaction
abbrev public_sites : Option Contract → NamePart → List Site
public_sites o name = option_map_or (λ c. names_thing a_public_transaction (visible_after_dot c) name ∷ []) o []

is_public_heading : (program : Program) (t : Option Transaction)
    → option_map_or (λ (h : Heading). not h.private) (option_map (heading_of program) t) false
    ≡ option_map_or (λ t. not t.private) t false
is_public_heading program None = refl
is_public_heading program (Some t) = refl

pub is_public : (program : Program) (o : Option Contract) (name : Name)
    → (let t = option_and_then (λ c. transaction_named c name) o in
    option_map_or (λ (h : Heading). not h.private) (option_map (heading_of program) t) false ≡ public_after o name)
is_public program None name = refl
is_public program (Some c) name = is_public_heading program (transaction_named c name)

or_nothing : (a b d : Bool) → (a || b || d) ≡ (false || a || b || d || false)
or_nothing true b d = refl
or_nothing false true d = refl
or_nothing false false true = refl
or_nothing false false false = refl

abbrev transaction_names : Contract → List Name
transaction_names c = map (λ t. t.name.name) (transactions_of c)

pub is_visible_after : (o : Option Contract) (name : Name)
    → (is_some (option_and_then (λ c. number_of name (state_names c)) o)
    || is_some (option_and_then (λ c. number_of name (field_names c)) o)
    || is_some (option_and_then (λ c. number_of name (transaction_names c)) o))
    ≡ visible_after o name
is_visible_after None name = refl
is_visible_after (Some c) name =
    rw (number_of-is_some name (state_names c), number_of-is_some name (field_names c))
    (rw (number_of-is_some name (transaction_names c), transaction-is_some name (transactions_of c))
    (or_nothing (is_among name (state_names c)) (is_among name (field_names c)) (is_among name (transaction_names c))))

pub public_site : (l : Option ProgramFault) (o : Option Contract) (name : NamePart) → is_some o ≡ true
    → noted l (public_sites o name)
    ≡ noted_if (noted_if l (not (visible_after o name.name)) faults.unknown_name name.span)
    (visible_after o name.name && not (public_after o name.name)) faults.wrong_kind name.span
public_site l (Some c) name e = refl
public_site l None name e = absurd (false≢true e)

pub no_public_site : (l : Option ProgramFault) (o : Option Contract) (name : NamePart) → is_some o ≡ false
    → noted l (public_sites o name) ≡ l
no_public_site l (Some c) name e = absurd (false≢true (sym e))
no_public_site l None name e = refl

-- the site of a state
abbrev state_sites : Option Contract → NamePart → List Site
state_sites o name = option_map_or (λ c. names_state c name ∷ []) o []

-- whether it has no such state
abbrev lacks_state : Option Contract → Name → Bool
lacks_state o name = option_map_or (λ c. not (is_among name (state_names c))) o false

pub state_site : (l : Option ProgramFault) (o : Option Contract) (name : NamePart)
    → noted l (state_sites o name) ≡ noted_if l (lacks_state o name.name) faults.no_state name.span
state_site l (Some c) name = refl
state_site l None name = refl

pub lacks : (o : Option Contract) (name : Name)
    → (is_some o && not (is_some (option_and_then (λ c. number_of name (state_names c)) o))) ≡ lacks_state o name
lacks None name = refl
lacks (Some c) name = ap not (number_of-is_some name (state_names c))

-- a loop's turn, over the states that are needed of a contract
pub states_turn : (o : Option Contract) (l : Option ProgramFault) (xs : List NamePart) (i : ℕ) (x : NamePart)
    → i < length xs → x ≡ get_or xs i x
    → noted (noted l (state_sites o x)) (option_map_or (λ c. map (names_state c) (drop (i + 1) xs)) o [])
    ≡ noted l (option_map_or (λ c. map (names_state c) (drop i xs)) o [])
states_turn None l xs i x h is = refl
states_turn (Some c) l xs i x h is =
    rw (add-one, drop-cons xs i x) (ap (λ y. noted l (names_state c y ∷ map (names_state c) (drop (suc i) xs))) is)

pub ruleset naming = (
  notes,
  number_of-is_some,
  variable-is_some,
  transaction-is_some,
  find-is_some,
  list_any-append,
  part_of_node,
  node_at,
  is_public,
  is_visible_after,
  public_site,
  no_public_site,
  state_site,
  lacks,
  states_turn,
)
