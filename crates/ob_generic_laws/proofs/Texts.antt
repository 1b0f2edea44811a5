-- Printed names are UTF-8 where the names in types are, and those of instances are texts.
use Rattle.std.proofs.Common.{◌≡◌, ℕ, ◌≤◌, ◌<◌, zero, suc, Bool, true, false, ◌&&◌, ◌||◌, not, nat_lt, nat_le, List, [], ◌∷◌, ◌++◌, Option, Some, None, IsTrue, IfSome, codes, if◌then◌else◌, is_some, option_map, length, take, refl, ap₂, length-append, arith}
use Rattle.std.specs.Prelude.{All}
use Rattle.std.specs.List.{list_all, flat_map}
use Rattle.std.specs.Option.{option_map_or}
use Rattle.std.specs.Str.{IsUtf8, IsAscii, is_utf8}
use Rattle.std.proofs.lemmas.Str.{IsUtf8-nil, IsUtf8-append, IsUtf8-from_ascii, IsUtf8-from_is_utf8, is_utf8-from_IsUtf8}
use Rattle.std.proofs.lemmas.Bool.Decides.{nat_tests}
use Rattle.std.proofs.lemmas.List.Elements.{All-from_recursion, recursion_from_All}
use Rattle.ob_base.specs.Limits.{longest_string, most_instances, most_noted}
use Rattle.ob_base.specs.Names.{is_text}
use Rattle.ob_base.specs.declared.fault.Span.{Span}
use Rattle.ob_base.specs.declared.permission.Mode as modes
use Rattle.ob_base.specs.declared.permission.Mode.TheVariants.{Owned, Shared, Unowned}
use Rattle.ob_base.proofs.OptionalLemmas.{both_true}
use Rattle.ob_tree.specs.Names.{Named, bare_name, name_with, Ref, ref_with}
use Rattle.ob_tree.specs.Members.{Contract}
use Rattle.ob_tree.specs.declared.name.NamePart.{NamePart}
use Rattle.ob_tree.specs.declared.name.PermNode.{PermNode}
use Rattle.ob_tree.specs.declared.name.PermNode.TheVariants.{Mode, States}
use Rattle.ob_tree.specs.declared.contract.ParamNode.{ParamNode}
use Rattle.ob_table_spec.specs.Names.{Name, same}
use Rattle.ob_resolve_spec.specs.Declarations.{Program, declared_contract}
use Rattle.ob_generic_spec.specs.Heads.{heads_of}
use Rattle.ob_generic_spec.specs.Substitution.{Own, states_at, perm_at, states_given, state_in, states_in, perm_in, printed_mode, printed_more, printed_perm, printed_name, written_itself, written_bare, written_in, argument_in}
use Rattle.ob_generic_spec.specs.Arguments.{Around, is_faulty_with, is_faulty_argument}
use Rattle.ob_generic_spec.specs.Uses.{Use, used, types_in_contract, uses_in_named, uses_in_argument, uses_of, uses_in_contract}
use Rattle.ob_generic_spec.specs.Instances.{instance_with, number_named, instance_of, is_long, short_one, Visit, is_known, with_needed, type_of_use, after_visit, after_visits, visits_at, around_plain, own_of, around_instance, plain_visits, instance_visits, visits, needed_by, rounds, instances_of}
use Rattle.ob_generic_spec.specs.TextNames.{HasTextStates, HasTextNames, HasTextArgument, IsTextUse, HaveTextNames}
use Rattle.ob_generic_spec.specs.declared.head.Head.{Head}
use Rattle.ob_generic_spec.specs.declared.instance.Argument.{Argument}
use Rattle.ob_generic_spec.specs.declared.instance.Instance.{Instance}
use Rattle.ob_generic_spec.specs.declared.role.Role.{Role}
use Rattle.ob_generic_spec.specs.declared.role.Role.TheVariants.{InArgument}
use Rattle.ob_resolve_laws.proofs.Each.{Each, each_both, each_weaker, each_flat_map}
use Rattle.ob_generic_laws.proofs.Lists.{each_found}

-- Texts.

pub text_utf8 : (bytes : List ℕ) → IsTrue (is_text bytes) → IsUtf8 bytes
text_utf8 bytes e = IsUtf8-from_is_utf8 bytes (both_true (nat_le (length bytes) longest_string) (is_utf8 bytes) e).1

pub utf8_text : (bytes : List ℕ) → nat_le (length bytes) longest_string ≡ true → IsUtf8 bytes → IsTrue (is_text bytes)
utf8_text bytes e u = ap₂ (λ a b. a && b) e (is_utf8-from_IsUtf8 bytes u)

pub few : (n : ℕ) → nat_lt longest_string n ≡ false → nat_le n longest_string ≡ true
few n e = grind (arith, nat_tests)

few_of : (m n : ℕ) → m ≤ n → nat_lt longest_string n ≡ false → nat_le m longest_string ≡ true
few_of m n h e = grind (arith, nat_tests)

-- bytes below 128
abbrev is_low : ℕ → Bool
is_low b = nat_lt b 128

low : (b : ℕ) → is_low b ≡ true → b < 128
low b e = grind (arith, nat_tests)

are_low : (bytes : List ℕ) → list_all is_low bytes ≡ true → IsAscii bytes
are_low [] e i = omega arith
are_low (b ∷ bytes) e zero = low b (both_true (is_low b) (list_all is_low bytes) e).0
are_low (b ∷ bytes) e (suc i) = are_low bytes (both_true (is_low b) (list_all is_low bytes) e).1 i

ascii : (bytes : List ℕ) → list_all is_low bytes ≡ true → IsUtf8 bytes
ascii bytes e = IsUtf8-from_ascii bytes (are_low bytes e)

-- Permissions.

abbrev IsUtf8State : NamePart → Type 0
IsUtf8State s = IsUtf8 s.name

abbrev pub HasUtf8States : PermNode → Type 0
HasUtf8States (Mode mode span) = Unit {0}
HasUtf8States (States states) = Each IsUtf8State states

text_states : (perm : PermNode) → HasTextStates perm → HasUtf8States perm
text_states (Mode mode span) h = tt
text_states (States states) h =
    each_weaker (λ (s : NamePart). IsTrue (is_text s.name)) IsUtf8State (λ s e. text_utf8 s.name e) states
    (recursion_from_All (λ (s : NamePart). IsTrue (is_text s.name)) states h)

at_utf8 : (span : Span) (states : List NamePart) → Each IsUtf8State states → Each IsUtf8State (states_at span states)
at_utf8 span [] h = tt
at_utf8 span (s ∷ ss) h = (h.0, at_utf8 span ss h.1)

perm_at_utf8 : (span : Span) (perm : PermNode) → HasUtf8States perm → HasUtf8States (perm_at span perm)
perm_at_utf8 span (Mode mode old) h = tt
perm_at_utf8 span (States states) h = at_utf8 span states h

printed_mode_utf8 : (mode : modes.Mode) → IsUtf8 (printed_mode mode)
printed_mode_utf8 Owned = ascii (codes "Owned") refl
printed_mode_utf8 Shared = ascii (codes "Shared") refl
printed_mode_utf8 Unowned = ascii (codes "Unowned") refl

given_utf8 : (span : Span) (perm : PermNode) → HasUtf8States perm → Each IsUtf8State (states_given span perm)
given_utf8 span (Mode mode old) h = (printed_mode_utf8 mode, tt)
given_utf8 span (States states) h = at_utf8 span states h

bar_utf8 : IsUtf8 (codes "|")
bar_utf8 = ascii (codes "|") refl

open_utf8 : IsUtf8 (codes "[")
open_utf8 = ascii (codes "[") refl

at_sign_utf8 : IsUtf8 (codes "@")
at_sign_utf8 = ascii (codes "@") refl

close_utf8 : IsUtf8 (codes "]")
close_utf8 = ascii (codes "]") refl

more_utf8 : (names : List NamePart) → Each IsUtf8State names → IsUtf8 (printed_more names)
more_utf8 [] h = IsUtf8-nil
more_utf8 (n ∷ ns) h =
    IsUtf8-append (codes "|") (n.name ++ printed_more ns) bar_utf8
    (IsUtf8-append n.name (printed_more ns) h.0 (more_utf8 ns h.1))

perm_utf8 : (perm : PermNode) → HasUtf8States perm → IsUtf8 (printed_perm perm)
perm_utf8 (Mode mode span) h = printed_mode_utf8 mode
perm_utf8 (States []) h = IsUtf8-nil
perm_utf8 (States (n ∷ ns)) h = IsUtf8-append n.name (printed_more ns) h.0 (more_utf8 ns h.1)

printed_utf8 : (name : Name) (argument : Argument) → IsUtf8 name → IsUtf8 argument.of.name → HasUtf8States argument.perm
    → IsUtf8 (printed_name name argument)
printed_utf8 name argument a b c =
    let of = argument.of.name in
    let p = printed_perm argument.perm in
    IsUtf8-append (name ++ codes "[" ++ of ++ codes "@" ++ p) (codes "]")
    (IsUtf8-append (name ++ codes "[" ++ of ++ codes "@") p
    (IsUtf8-append (name ++ codes "[" ++ of) (codes "@")
    (IsUtf8-append (name ++ codes "[") of (IsUtf8-append name (codes "[") a open_utf8) b) at_sign_utf8)
    (perm_utf8 argument.perm c)) close_utf8

-- Instances.

-- an instance whose printed names are texts
pub record IsTextInstance (x : Instance) : Type 0 where
  pub short : is_long x ≡ false
  pub name : IsUtf8 x.name
  pub of : IsUtf8 x.argument.of.name
  pub perm : HasUtf8States x.argument.perm
  pub within : length x.argument.of.name ≤ length x.name

pub instance_text : (x : Instance) → IsTextInstance x → IsTrue (is_text x.name)
instance_text x h = utf8_text x.name (few (length x.name) h.short) h.name

pub argument_text : (x : Instance) → IsTextInstance x → IsTrue (is_text x.argument.of.name)
argument_text x h =
    utf8_text x.argument.of.name (few_of (length x.argument.of.name) (length x.name) h.within h.short) h.of

abbrev pub HasTextOwn : Option Own → Type 0
HasTextOwn None = Unit {0}
HasTextOwn (Some o) = IsTextInstance o.instance

-- Types in instances.

state_in_utf8 : (o : Own) → IsTextInstance o.instance → (n : NamePart) → IsUtf8State n → Each IsUtf8State (state_in o n)
state_in_utf8 o k n h = by (same o.param.perm.name n.name)
  where
    by : (b : Bool) → Each IsUtf8State (if b then states_given n.span o.instance.argument.perm else n ∷ [])
    by true = given_utf8 n.span o.instance.argument.perm k.perm
    by false = (h, tt)

states_in_utf8 : (o : Own) → IsTextInstance o.instance → (states : List NamePart) → Each IsUtf8State states
    → HasUtf8States (states_in o states)
states_in_utf8 o k [] h = tt
states_in_utf8 o k (n ∷ []) h = by (same o.param.perm.name n.name)
  where
    by : (b : Bool) → HasUtf8States (if b then perm_at n.span o.instance.argument.perm else States (n ∷ []))
    by true = perm_at_utf8 n.span o.instance.argument.perm k.perm
    by false = h
states_in_utf8 o k (n ∷ m ∷ ns) h =
    each_flat_map IsUtf8State (state_in o) (n ∷ m ∷ ns)
    (each_weaker IsUtf8State (λ s. Each IsUtf8State (state_in o s)) (state_in_utf8 o k) (n ∷ m ∷ ns) h)

perm_in_utf8 : (own : Option Own) → HasTextOwn own → (perm : PermNode) → HasTextStates perm
    → HasUtf8States (perm_in own perm)
perm_in_utf8 None k perm h = text_states perm h
perm_in_utf8 (Some o) k (Mode mode span) h = tt
perm_in_utf8 (Some o) k (States states) h = states_in_utf8 o k states (text_states (States states) h)

bare_utf8 : (own : Option Own) → HasTextOwn own → (name : Name) → IsTrue (is_text name)
    → IsUtf8 (written_bare own name).name
bare_utf8 None k name h = text_utf8 name h
bare_utf8 (Some o) k name h = by (same o.param.name.name name)
  where
    by : (b : Bool) → IsUtf8 (if b then o.instance.argument.of else written_itself name).name
    by true = k.of
    by false = text_utf8 name h

mutual
  pub written_utf8 : (own : Option Own) → HasTextOwn own → (n : Named) → HasTextNames n → IsUtf8 (written_in own n).name
  written_utf8 own k (bare_name name span) h = bare_utf8 own k name h
  written_utf8 own k (name_with name argument span) h =
      let of = argument_utf8 own k argument h.1 in
      printed_utf8 name (argument_in own argument) (text_utf8 name h.0) of.0 of.1

  argument_utf8 : (own : Option Own) → HasTextOwn own → (r : Ref) → HasTextArgument r
      → IsUtf8 (argument_in own r).of.name × HasUtf8States (argument_in own r).perm
  argument_utf8 own k (ref_with of perm) h = (written_utf8 own k of h.0, perm_in_utf8 own k perm h.1)

within_printed : (name of perm : List ℕ)
    → length of ≤ length (name ++ codes "[" ++ of ++ codes "@" ++ perm ++ codes "]")
within_printed name of perm =
    let a = length-append (name ++ codes "[") of in
    let b = length-append (name ++ codes "[" ++ of) (codes "@") in
    let c = length-append (name ++ codes "[" ++ of ++ codes "@") perm in
    let d = length-append (name ++ codes "[" ++ of ++ codes "@" ++ perm) (codes "]") in
    omega (arith, a, b, c, d)

-- What types need.

needed_text : (a : Around) → HasTextOwn a.own → (n : Named) → HasTextNames n
    → IfSome (short_one (instance_of a n)) IsTextInstance
needed_text a k (bare_name name span) h = tt
needed_text a k (name_with name argument span) h =
    by (is_faulty_with a name (is_faulty_argument a argument) (argument_in a.own argument)) (number_named a.heads name)
  where
    made : (number : ℕ) → is_long (instance_with name (argument_in a.own argument) number) ≡ false
        → IsTextInstance (instance_with name (argument_in a.own argument) number)
    made number e =
        let of = argument_utf8 a.own k argument h.1 in
        let x = argument_in a.own argument in
        record {
          short = e;
          name = printed_utf8 name x (text_utf8 name h.0) of.0 of.1;
          of = of.0;
          perm = of.1;
          within = within_printed name x.of.name (printed_perm x.perm);
        }

    short : (number : ℕ) (b : Bool) → is_long (instance_with name (argument_in a.own argument) number) ≡ b
        → IfSome (if b then None else Some (instance_with name (argument_in a.own argument) number)) IsTextInstance
    short number true e = tt
    short number false e = made number e

    by : (faulty : Bool) (number : Option ℕ)
        → IfSome (short_one (if faulty then None else option_map (instance_with name (argument_in a.own argument)) number))
        IsTextInstance
    by true number = tt
    by false None = tt
    by false (Some number) = short number (is_long (instance_with name (argument_in a.own argument) number)) refl

with_text : (known : List Instance) (o : Option Instance) → Each IsTextInstance known → IfSome o IsTextInstance
    → Each IsTextInstance (with_needed known o)
with_text known None h k = h
with_text known (Some x) h k = by (is_known known x.name || not (nat_lt (length known) most_noted))
  where
    by : (b : Bool) → Each IsTextInstance (if b then known else known ++ x ∷ [])
    by true = h
    by false = each_both IsTextInstance known (x ∷ []) h (k, tt)

abbrev pub IsTextVisit : Visit → Type 0
IsTextVisit v = HasTextOwn v.around.own × IsTextUse v.of

after_text : (known : List Instance) (vs : List Visit) → Each IsTextVisit vs → Each IsTextInstance known
    → Each IsTextInstance (after_visits known vs)
after_text known [] h k = k
after_text known (v ∷ vs) h k =
    after_text (after_visit known v) vs h.1
    (with_text known (short_one (instance_of v.around (type_of_use v.of))) k
    (needed_text v.around h.0.0 (type_of_use v.of) h.0.1))

-- The types that are met.

mutual
  named_text : (role : Role) (n : Named) → HasTextNames n → Each IsTextUse (uses_in_named role n)
  named_text role (bare_name name span) h = (h, tt)
  named_text role (name_with name argument span) h = (h, ref_text argument h.1)

  ref_text : (r : Ref) → HasTextArgument r → Each IsTextUse (uses_in_argument r)
  ref_text (ref_with of perm) h = named_text InArgument of h.0

use_text : (u : Use) → IsTextUse u → Each IsTextUse (uses_of u)
use_text (used role of) h = named_text role of h

abbrev pub IsTextContract : Contract → Type 0
IsTextContract c = Each IsTextUse (types_in_contract c)

contract_text : (c : Contract) → IsTextContract c → Each IsTextUse (uses_in_contract c)
contract_text c h =
    each_flat_map IsTextUse uses_of (types_in_contract c)
    (each_weaker IsTextUse (λ u. Each IsTextUse (uses_of u)) use_text (types_in_contract c) h)

pub contracts_text : (program : Program) → HaveTextNames program → Each IsTextContract program
contracts_text program h =
    each_weaker (λ c. All IsTextUse (types_in_contract c)) IsTextContract
    (λ c k. recursion_from_All IsTextUse (types_in_contract c) k) program
    (recursion_from_All (λ c. All IsTextUse (types_in_contract c)) program h)

at_text : (a : Around) → HasTextOwn a.own → (us : List Use) → Each IsTextUse us → Each IsTextVisit (visits_at a us)
at_text a k [] h = tt
at_text a k (u ∷ us) h = ((k, h.0), at_text a k us h.1)

plain_text : (heads : List Head) (c : Contract) → IsTextContract c → Each IsTextVisit (plain_visits heads c)
plain_text heads c h = by (is_some c.param)
  where
    by : (generic : Bool)
        → Each IsTextVisit (if generic then [] else visits_at (around_plain heads) (uses_in_contract c))
    by true = tt
    by false = at_text (around_plain heads) tt (uses_in_contract c) (contract_text c h)

abbrev own_with : Contract → Instance → ParamNode → Own
own_with c x p = record { instance = x; name = c.name; param = p }

pub own_text : (c : Contract) (x : Instance) → IsTextInstance x → HasTextOwn (own_of c x)
own_text c x k = by c.param
  where
    by : (p : Option ParamNode) → HasTextOwn (option_map (own_with c x) p)
    by None = tt
    by (Some p) = k

pub found_text : (program : Program) → Each IsTextContract program → (n : ℕ)
    → IfSome (declared_contract program n) IsTextContract
found_text program h n = each_found IsTextContract program n h

instance_visits_text : (program : Program) → Each IsTextContract program → (x : Instance) → IsTextInstance x
    → Each IsTextVisit (instance_visits program x)
instance_visits_text program h x k = by (declared_contract program x.contract) (found_text program h x.contract)
  where
    by : (o : Option Contract) → IfSome o IsTextContract
        → Each IsTextVisit
        (option_map_or (λ c. visits_at (around_instance (heads_of program) c x) (uses_in_contract c)) o [])
    by None f = tt
    by (Some c) f =
        at_text (around_instance (heads_of program) c x) (own_text c x k) (uses_in_contract c) (contract_text c f)

visits_text : (program : Program) → Each IsTextContract program → (xs : List Instance) → Each IsTextInstance xs
    → Each IsTextVisit (visits program xs)
visits_text program h xs k =
    let heads = heads_of program in
    each_both IsTextVisit (flat_map (plain_visits heads) program) (flat_map (instance_visits program) xs)
    (each_flat_map IsTextVisit (plain_visits heads) program
    (each_weaker IsTextContract (λ c. Each IsTextVisit (plain_visits heads c)) (plain_text heads) program h))
    (each_flat_map IsTextVisit (instance_visits program) xs
    (each_weaker IsTextInstance (λ x. Each IsTextVisit (instance_visits program x)) (instance_visits_text program h) xs k))

each_take : {A : Type 0} (P : A → Type 0) (n : ℕ) (xs : List A) → Each P xs → Each P (take n xs)
each_take P zero xs h = tt
each_take P (suc n) [] h = tt
each_take P (suc n) (x ∷ xs) h = (h.0, each_take P n xs h.1)

rounds_text : (program : Program) → Each IsTextContract program → (n : ℕ) → Each IsTextInstance (rounds program n)
rounds_text program h zero = tt
rounds_text program h (suc n) =
    each_take IsTextInstance most_instances (needed_by program (rounds program n))
    (after_text [] (visits program (rounds program n)) (visits_text program h (rounds program n) (rounds_text program h n)) tt)

pub instances_text : (program : Program) → Each IsTextContract program → Each IsTextInstance (instances_of program)
unfolding instances_of
instances_text program h = rounds_text program h most_instances

pub instance_names : (program : Program) → HaveTextNames program → All (λ x. IsTrue (is_text x.name)) (instances_of program)
instance_names program h =
    All-from_recursion (λ (x : Instance). IsTrue (is_text x.name)) (instances_of program)
    (each_weaker IsTextInstance (λ (x : Instance). IsTrue (is_text x.name)) instance_text (instances_of program)
    (instances_text program (contracts_text program h)))
