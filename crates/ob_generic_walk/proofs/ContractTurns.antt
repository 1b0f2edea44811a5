-- The types of contracts, one contract after another.
use Rattle.std.proofs.Common.{◌≡◌, ℕ, ◌<◌, ◌+◌, false, List, [], Option, Some, None, is_some, if◌then◌else◌, map, length, drop, get_or, ap, sym, ◌∙◌}
use Rattle.std.specs.Prelude.{option_map, slice_get}
use Rattle.std.specs.List.{flat_map}
use Rattle.std.proofs.lemmas.Option.{slice_get-map}
use Rattle.ob_tree.specs.Members.{Contract}
use Rattle.ob_tree.specs.MembersView.{contract_of}
use Rattle.ob_tree.specs.declared.contract.ContractNode.{ContractNode}
use Rattle.ob_tree.specs.declared.contract.ParamNode.{ParamNode}
use Rattle.ob_generic_spec.specs.Substitution.{Own}
use Rattle.ob_generic_spec.specs.Arguments.{Around}
use Rattle.ob_generic_spec.specs.Uses.{types_in_contract, uses_in_contract}
use Rattle.ob_generic_spec.specs.Instances.{visits_at, around_plain, own_of, around_instance, plain_visits}
use Rattle.ob_generic_spec.specs.declared.head.Head.{Head}
use Rattle.ob_generic_spec.specs.declared.instance.Instance.{Instance}
use Rattle.ob_generic_walk.specs.Seen.{seen, met}
use Rattle.ob_generic_walk.specs.declared.found.Found.{Found}
use Rattle.ob_generic_walk.proofs.Turns.{turn}
use Rattle.ob_generic_walk.proofs.SeenLemmas.{seen-append, met_is}

abbrev around_of : List Head → Option Own → Around
around_of heads own = record { heads = heads; own = own }

pub met_contract : (a : Around) (f : Found) (c : Contract)
    → met a f (types_in_contract c) ≡ seen f (visits_at a (uses_in_contract c))
met_contract a f c = met_is a f (types_in_contract c)

-- a contract that isn't generic
pub plain_met : (heads : List Head) (f : Found) (a : Around) (c : Contract) → a ≡ around_plain heads → false ≡ is_some c.param
    → met a f (types_in_contract c) ≡ seen f (plain_visits heads c)
plain_met heads f a c around plain =
    met_contract a f c
    ∙ ap (λ x. seen f (visits_at x (uses_in_contract c))) around
    ∙ ap (λ b. seen f (if b then [] else visits_at (around_plain heads) (uses_in_contract c))) plain

-- an instance, from within
abbrev of_param : Contract → Instance → ParamNode → Own
of_param c x p = record { instance = x; name = c.name; param = p }

pub own_none : (c : Contract) (x : Instance) (own : Option Own) → own ≡ None → c.param ≡ None → own ≡ own_of c x
own_none c x own none param = none ∙ sym (ap (option_map (of_param c x)) param)

pub own_some : (c : Contract) (x : Instance) (own : Option Own) (o : Own) (p : ParamNode)
    → own ≡ Some o → o ≡ of_param c x p → c.param ≡ Some p → own ≡ own_of c x
own_some c x own o p some is param = some ∙ ap Some is ∙ sym (ap (option_map (of_param c x)) param)

pub instance_met : (heads : List Head) (f : Found) (a : Around) (c : Contract) (x : Instance) (own : Option Own)
    → a ≡ record { heads = heads; own = own } → own ≡ own_of c x
    → met a f (types_in_contract c) ≡ seen f (visits_at (around_instance heads c x) (uses_in_contract c))
instance_met heads f a c x own around is =
    met_contract a f c
    ∙ ap (λ b. seen f (visits_at b (uses_in_contract c))) around
    ∙ ap (λ o. seen f (visits_at (around_of heads o) (uses_in_contract c))) is

pub plains_turn : (heads : List Head) (f : Found) (xs : List ContractNode) (i : ℕ) (x : ContractNode) → i < length xs
    → x ≡ get_or xs i x
    → seen (seen f (plain_visits heads (contract_of x))) (flat_map (plain_visits heads) (map contract_of (drop (i + 1) xs)))
    ≡ seen f (flat_map (plain_visits heads) (map contract_of (drop i xs)))
plains_turn heads f xs i x h is =
    sym (seen-append f (plain_visits heads (contract_of x)) (flat_map (plain_visits heads) (map contract_of (drop (i + 1) xs))))
    ∙ ap (λ ys. seen f (flat_map (plain_visits heads) (map contract_of ys))) (sym (turn xs i x h is))

pub at_number : (xs : List ContractNode) (n : ℕ) → slice_get (map contract_of xs) n ≡ option_map contract_of (slice_get xs n)
at_number = slice_get-map contract_of

pub ruleset turns = (met_contract, plains_turn, at_number)
