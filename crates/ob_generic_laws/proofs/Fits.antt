-- Without faults each printed name in a program is a text, so the tree of the instances has the names that are printed.
use Rattle.std.proofs.Common.{◌≡◌, ℕ, suc, Bool, true, false, not, ◌&&◌, ◌||◌, List, [], ◌∷◌, Option, Some, None, IsTrue, IfSome, cond, if◌then◌else◌, is_some, map, option_map, find, refl, sym, ap, ◌∙◌, nat_eq, nat_lt, length}
use Rattle.std.specs.Prelude.{All}
use Rattle.std.specs.List.{list_any, flat_map}
use Rattle.std.specs.Option.{option_map_or}
use Rattle.std.proofs.lemmas.List.Elements.{All-from_recursion}
use Rattle.ob_base.specs.Limits.{longest_string, most_instances}
use Rattle.ob_base.specs.Names.{is_text}
use Rattle.ob_base.specs.declared.fault.Span.{Span}
use Rattle.ob_tree.specs.Names.{Named, bare_name, name_with, Ref, ref_with}
use Rattle.ob_tree.specs.Members.{Contract}
use Rattle.ob_tree.specs.declared.name.NamePart.{NamePart}
use Rattle.ob_tree.specs.declared.name.PermNode.{PermNode}
use Rattle.ob_tree.specs.declared.name.PermNode.TheVariants.{Mode, States}
use Rattle.ob_tree.specs.declared.contract.ParamNode.{ParamNode}
use Rattle.ob_table_spec.specs.Names.{Name, same, is_among, number_of}
use Rattle.ob_resolve_spec.specs.Declarations.{Program, declared_contract}
use Rattle.ob_generic_spec.specs.Heads.{heads_of, head_named}
use Rattle.ob_generic_spec.specs.Substitution.{Own, is_param, printed_name, written_itself, written_bare, written_in, argument_in}
use Rattle.ob_generic_spec.specs.Arguments.{Around, refuses, names_other_state, lacks_state, is_faulty_for, is_faulty_with, is_faulty, is_faulty_argument}
use Rattle.ob_generic_spec.specs.Uses.{Use, used, types_in_contract, uses_in_named, uses_in_argument, uses_of, uses_in_contract}
use Rattle.ob_generic_spec.specs.Instances.{instance_with, number_named, is_long, type_of_use, Visit, visit_at, visits_at, after_visit, around_plain, around_instance, plain_visits, instance_visits, visits, instances_of, is_known}
use Rattle.ob_generic_spec.specs.TypeSites.{names_argument_state, argument_state_sites, argument_perm_sites, use_sites, visits_sites}
use Rattle.ob_generic_spec.specs.TypeFaults.{is_generic, is_own, is_one_too_many, HasNoTypeFault}
use Rattle.ob_generic_spec.specs.TextNames.{HasTextNames, HasTextArgument, IsTextUse, HaveTextNames}
use Rattle.ob_generic_spec.specs.declared.head.Head.{Head}
use Rattle.ob_generic_spec.specs.declared.instance.Argument.{Argument}
use Rattle.ob_generic_spec.specs.declared.instance.Instance.{Instance}
use Rattle.ob_generic_spec.specs.declared.role.Role.{Role}
use Rattle.ob_generic_spec.specs.declared.role.Role.TheVariants.{InArgument}
use Rattle.ob_resolve_laws.proofs.Each.{Each, each_left, each_right, each_both, each_of_both, each_of_map, each_map, each_of_flat_map, each_flat_map}
use Rattle.ob_generic_laws.proofs.Clean.{IsClean}
use Rattle.ob_generic_laws.proofs.Closed.{clean_visits}
use Rattle.ob_generic_laws.proofs.Texts.{utf8_text, few, IsTextInstance, argument_text, HasTextOwn, own_text, written_utf8, IsTextContract, contracts_text, found_text, instances_text}

-- Which types have no fault.

-- a type at whose sites no condition holds, whatever is known before it
record IsCleanUse (a : Around) (u : Use) : Type 0 where
  known : List Instance
  clean : Each IsClean (use_sites a known u)

abbrev AreCleanUses : Around → List Use → Type 0
AreCleanUses a = Each (IsCleanUse a)

no_own_in_argument : (own : Option Own) (name : Name) → is_own own InArgument name ≡ false
no_own_in_argument None name = refl
no_own_in_argument (Some o) name = refl

unless : (g o : Bool) → o ≡ false → (g && not o) ≡ false → g ≡ false
unless true true e k = absurd (cc e)
unless true false e k = absurd (cc k)
unless false o e k = refl

-- what a name without an argument denotes, by whether it is the parameter's, and by the head of that name
right_bare : (p : Bool) (o : Option Head) → (not p && not (is_some o)) ≡ false
    → (not p && option_map_or (λ h. is_some h.param) o false) ≡ false
    → (not p && option_map_or (λ h. is_some h.param) o true) ≡ false
right_bare true o u g = refl
right_bare false None u g = absurd (cc u)
right_bare false (Some h) u g = g

-- and one with an argument
right_with : (a : Around) (inner : Bool) (x : Argument) (p : Bool) (o : Option Head)
    → (not p && not (is_some o)) ≡ false → (p || option_map_or (λ h. not (is_some h.param)) o false) ≡ false
    → inner ≡ false
    → (not p && not inner && option_map_or (λ h. option_map_or (λ q. refuses a.heads q x) h.param false) o false) ≡ false
    → (p || option_map_or (λ h. option_map_or (is_faulty_for a inner x) h.param true) o true) ≡ false
right_with a inner x true o u t i r = absurd (cc t)
right_with a inner x false None u t i r = absurd (cc u)
right_with a inner x false (Some h) u t i r = by h.param t r
  where
    by : (q : Option ParamNode) → (not (is_some q)) ≡ false
        → (not inner && option_map_or (λ q. refuses a.heads q x) q false) ≡ false
        → option_map_or (is_faulty_for a inner x) q true ≡ false
    by None s k = absurd (cc s)
    by (Some q) s k = ap (λ b. b || refuses a.heads q x) i ∙ ap (λ b. not b && refuses a.heads q x) (sym i) ∙ k

states_right : (h : Head) (names : List NamePart) → Each IsClean (map (names_argument_state (Some h)) names)
    → list_any (λ n. not (is_among n.name h.states)) names ≡ false
states_right h [] clean = refl
states_right h (n ∷ ns) clean =
    ap (λ b. b || list_any (λ m. not (is_among m.name h.states)) ns) clean.0.no_argument_state ∙ states_right h ns clean.1

perm_right : (head : Option Head) (perm : PermNode) → Each IsClean (argument_state_sites head perm)
    → option_map_or (λ h. names_other_state h.states perm) head false ≡ false
perm_right None perm clean = refl
perm_right (Some h) (Mode mode span) clean = refl
perm_right (Some h) (States names) clean = states_right h names clean

-- a type with an argument, at any place
right_type : (a : Around) (role : Role) (name : Name) (argument : Ref) (span : Span)
    → IsCleanUse a (used role (name_with name argument span)) → is_faulty_argument a argument ≡ false
    → is_faulty_with a name (is_faulty_argument a argument) (argument_in a.own argument) ≡ false
right_type a role name argument span h i =
    right_with a (is_faulty_argument a argument) (argument_in a.own argument) (is_param a.own name)
    (head_named a.heads name) h.clean.0.unknown_type h.clean.0.param_count i h.clean.1.0.out_of_bound

mutual
  -- a type in an argument
  right_named : (a : Around) (n : Named) → AreCleanUses a (uses_in_named InArgument n) → is_faulty a n ≡ false
  right_named a (bare_name name span) h =
      right_bare (is_param a.own name) (head_named a.heads name) h.0.clean.0.unknown_type
      (unless (is_generic a name) (is_own a.own InArgument name) (no_own_in_argument a.own name) h.0.clean.0.param_count)
  right_named a (name_with name argument span) h =
      right_type a InArgument name argument span h.0 (right_argument a argument h.1 h.0.clean.1.1)

  -- an argument
  right_argument : (a : Around) (r : Ref) → AreCleanUses a (uses_in_argument r)
      → Each IsClean (argument_perm_sites a (argument_in a.own r)) → is_faulty_argument a r ≡ false
  right_argument a (ref_with of perm) h k =
      let x = argument_in a.own (ref_with of perm) in
      ap (λ b. b || lacks_state a.heads x) (right_named a of h) ∙ perm_right (head_named a.heads x.of.base) x.perm k

-- Which printed names are texts.

head_found : (p : Bool) (o : Option Head) → (not p && not (is_some o)) ≡ false
    → (p || option_map_or (λ h. not (is_some h.param)) o false) ≡ false → is_some o ≡ true
head_found true o u t = absurd (cc t)
head_found false None u t = absurd (cc u)
head_found false (Some h) u t = refl

one_more : (o : Option ℕ) → is_some o ≡ true → is_some (option_map suc o) ≡ true
one_more None e = e
one_more (Some n) e = refl

-- what has a head has a number
numbered : (heads : List Head) (name : Name) → is_some (head_named heads name) ≡ true
    → is_some (number_named heads name) ≡ true
numbered [] name e = e
numbered (h ∷ hs) name e = by (same name h.name) (numbered hs name) e
  where
    by : (b : Bool)
        → (is_some (head_named hs name) ≡ true → is_some (number_of name (map (λ x. x.name) hs)) ≡ true)
        → is_some (cond b (Some h) (find (λ x. same name x.name) hs)) ≡ true
        → is_some (if b then Some 0 else option_map suc (number_of name (map (λ x. x.name) hs))) ≡ true
    by true rest k = refl
    by false rest k = one_more (number_of name (map (λ x. x.name) hs)) (rest k)

left_false : (a b : Bool) → (a || b) ≡ false → a ≡ false
left_false true b e = absurd (cc e)
left_false false b e = refl

-- an instance that isn't one too many has no long name
no_long_name : (known : List Instance) (name : Name) (x : Argument) (faulty : Bool) (number : Option ℕ) → faulty ≡ false
    → is_some number ≡ true
    → is_one_too_many known (if faulty then None else option_map (instance_with name x) number) ≡ false
    → nat_lt longest_string (length (printed_name name x)) ≡ false
no_long_name known name x true number e s k = absurd (cc e)
no_long_name known name x false None e s k = absurd (cc s)
no_long_name known name x false (Some number) e s k =
    left_false (is_long (instance_with name x number))
    (not (is_known known (printed_name name x)) && nat_eq (length known) most_instances) k

-- the printed name of a type is a text
abbrev Fits : Around → Use → Type 0
Fits a u = IsTrue (is_text (written_in a.own (type_of_use u)).name)

bare_fits : (own : Option Own) → HasTextOwn own → (name : Name) → IsTrue (is_text name)
    → IsTrue (is_text (written_bare own name).name)
bare_fits None k name h = h
bare_fits (Some o) k name h = by (same o.param.name.name name)
  where
    by : (b : Bool) → IsTrue (is_text (if b then o.instance.argument.of else written_itself name).name)
    by true = argument_text o.instance k
    by false = h

with_fits : (a : Around) → HasTextOwn a.own → (role : Role) (name : Name) (argument : Ref) (span : Span)
    → HasTextNames (name_with name argument span) → IsCleanUse a (used role (name_with name argument span))
    → is_faulty_argument a argument ≡ false → Fits a (used role (name_with name argument span))
with_fits a k role name argument span h c i =
    let x = argument_in a.own argument in
    let found = head_found (is_param a.own name) (head_named a.heads name) c.clean.0.unknown_type c.clean.0.param_count in
    let long = no_long_name c.known name x (is_faulty_with a name (is_faulty_argument a argument) x)
    (number_named a.heads name) (right_type a role name argument span c i) (numbered a.heads name found)
    c.clean.0.too_many in
    utf8_text (printed_name name x) (few (length (printed_name name x)) long)
    (written_utf8 a.own k (name_with name argument span) h)

mutual
  named_fits : (a : Around) → HasTextOwn a.own → (role : Role) (n : Named) → HasTextNames n
      → AreCleanUses a (uses_in_named role n) → Each (Fits a) (uses_in_named role n)
  named_fits a k role (bare_name name span) h c = (bare_fits a.own k name h, tt)
  named_fits a k role (name_with name argument span) h c = (
    with_fits a k role name argument span h c.0 (right_argument a argument c.1 c.0.clean.1.1),
    ref_fits a k argument h.1 c.1,
  )

  ref_fits : (a : Around) → HasTextOwn a.own → (r : Ref) → HasTextArgument r → AreCleanUses a (uses_in_argument r)
      → Each (Fits a) (uses_in_argument r)
  ref_fits a k (ref_with of perm) h c = named_fits a k InArgument of h.0 c

use_fits : (a : Around) → HasTextOwn a.own → (u : Use) → IsTextUse u → AreCleanUses a (uses_of u)
    → Each (Fits a) (uses_of u)
use_fits a k (used role of) h c = named_fits a k role of h c

contract_fits : (a : Around) → HasTextOwn a.own → (c : Contract) → IsTextContract c
    → AreCleanUses a (uses_in_contract c) → Each (Fits a) (uses_in_contract c)
contract_fits a k c h clean =
    let types = types_in_contract c in
    each_flat_map (Fits a) uses_of types
    (each_of_both IsTextUse (λ u. AreCleanUses a (uses_of u)) (λ u. Each (Fits a) (uses_of u)) (use_fits a k) types h
    (each_of_flat_map (IsCleanUse a) uses_of types clean))

-- The types that are met.

abbrev IsCleanVisit : Visit → Type 0
IsCleanVisit v = IsCleanUse v.around v.of

abbrev FitsVisit : Visit → Type 0
FitsVisit v = IsTrue (is_text (written_in v.around.own (type_of_use v.of)).name)

each_clean : (known : List Instance) (vs : List Visit) → Each IsClean (visits_sites known vs) → Each IsCleanVisit vs
each_clean known [] h = tt
each_clean known (v ∷ vs) h =
    let here = use_sites v.around known v.of in
    let rest = visits_sites (after_visit known v) vs in (
      record { known = known; clean = each_left IsClean here rest h },
      each_clean (after_visit known v) vs (each_right IsClean here rest h),
    )

at_fits : (a : Around) → HasTextOwn a.own → (c : Contract) → IsTextContract c
    → Each IsCleanVisit (visits_at a (uses_in_contract c)) → Each FitsVisit (visits_at a (uses_in_contract c))
at_fits a k c h clean =
    each_map FitsVisit (visit_at a) (uses_in_contract c)
    (contract_fits a k c h (each_of_map IsCleanVisit (visit_at a) (uses_in_contract c) clean))

plain_fits : (heads : List Head) (c : Contract) → IsTextContract c → Each IsCleanVisit (plain_visits heads c)
    → Each FitsVisit (plain_visits heads c)
plain_fits heads c h clean = by (is_some c.param) clean
  where
    by : (generic : Bool)
        → Each IsCleanVisit (if generic then [] else visits_at (around_plain heads) (uses_in_contract c))
        → Each FitsVisit (if generic then [] else visits_at (around_plain heads) (uses_in_contract c))
    by true k = tt
    by false k = at_fits (around_plain heads) tt c h k

instance_fits : (program : Program) → Each IsTextContract program → (x : Instance) → IsTextInstance x
    → Each IsCleanVisit (instance_visits program x) → Each FitsVisit (instance_visits program x)
instance_fits program h x k clean =
    by (declared_contract program x.contract) (found_text program h x.contract) clean
  where
    by : (o : Option Contract) → IfSome o IsTextContract
        → Each IsCleanVisit
        (option_map_or (λ c. visits_at (around_instance (heads_of program) c x) (uses_in_contract c)) o [])
        → Each FitsVisit
        (option_map_or (λ c. visits_at (around_instance (heads_of program) c x) (uses_in_contract c)) o [])
    by None f g = tt
    by (Some c) f g = at_fits (around_instance (heads_of program) c x) (own_text c x k) c f g

all_fit : (program : Program) → Each IsTextContract program → (xs : List Instance) → Each IsTextInstance xs
    → Each IsCleanVisit (visits program xs) → Each FitsVisit (visits program xs)
all_fit program h xs k clean =
    let plain = plain_visits (heads_of program) in
    let of = instance_visits program in
    each_both FitsVisit (flat_map plain program) (flat_map of xs)
    (each_flat_map FitsVisit plain program
    (each_of_both IsTextContract (λ c. Each IsCleanVisit (plain c)) (λ c. Each FitsVisit (plain c))
    (plain_fits (heads_of program)) program h
    (each_of_flat_map IsCleanVisit plain program (each_left IsCleanVisit (flat_map plain program) (flat_map of xs) clean))))
    (each_flat_map FitsVisit of xs
    (each_of_both IsTextInstance (λ x. Each IsCleanVisit (of x)) (λ x. Each FitsVisit (of x)) (instance_fits program h) xs k
    (each_of_flat_map IsCleanVisit of xs (each_right IsCleanVisit (flat_map plain program) (flat_map of xs) clean))))

pub printed_names : (program : Program) → HaveTextNames program → HasNoTypeFault program
    → All (λ v. IsTrue (is_text (written_in v.around.own (type_of_use v.of)).name)) (visits program (instances_of program))
printed_names program h none =
    let contracts = contracts_text program h in
    let met = visits program (instances_of program) in
    All-from_recursion FitsVisit met
    (all_fit program contracts (instances_of program) (instances_text program contracts)
    (each_clean [] met (clean_visits program none)))
