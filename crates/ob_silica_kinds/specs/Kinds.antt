-- The kinds of the values in slots, as far as they are known where a form stands (this project's own).
use Rattle.std.specs.Prelude.{ℕ, ◌+◌, Bool, true, false, List, [], ◌∷◌, map, Option, Some, None, slice_get}
use Rattle.std.specs.Option.{option_flatten, option_map_or}
use Rattle.ob_base.specs.declared.id.ContractId.{ContractId}
use Rattle.ob_table.specs.declared.contract.Param.{Param}
use Rattle.ob_table.specs.declared.seen.Kind.{Kind}
use Rattle.ob_table.specs.declared.seen.Kind.TheVariants.{Reference}
use Rattle.ob_table_spec.specs.WellFormed.{StaticFrame, kind_of_resolved}
use Rattle.ob_silica.specs.Terms.{SilicaForm, test_form, if_form, loop_form, return_form, revert_form, SilicaTerms, no_terms, and_term}
use Rattle.ob_silica_places.specs.Known.{at}
use Rattle.ob_silica_formed.specs.Holdings.{Holdings, held, slot_written, kind_written, terms_end, kinds_equal, common_kind}

-- the kind of each slot's value, where it is known
abbrev pub Kinds : Type 0
Kinds = ℕ → Option Kind

-- the kinds of a list; those of slots past its end are unknown
unfoldable pub kinds_of : List (Option Kind) → Kinds
kinds_of ks = λ k. option_flatten (slice_get ks k)

-- the kinds of parameters, one after another
abbrev pub param_kinds : List Param → List (Option Kind)
param_kinds params = map (λ p. Some (kind_of_resolved p.of)) params

-- the kinds of `this` and of parameters, by their slots
abbrev pub first_kinds : ContractId → List Param → List (Option Kind)
first_kinds here params = Some (Reference here) ∷ param_kinds params

-- slots that hold values of these kinds
abbrev pub holding : Kinds → Holdings
holding kinds = λ k. held (kinds k)

-- the kinds of what slots hold
abbrev pub kinds_held : Holdings → Kinds
kinds_held h = λ k. (h k).kind

-- slots of which nothing is known
abbrev pub nothing_held : Holdings
nothing_held = λ k. held None

-- whether a value is of a kind, as far as its own is known
abbrev pub has_kind : Kind → Option Kind → Bool
has_kind kind known = option_map_or (λ x. kinds_equal kind x) known false

-- the same kinds, but for a slot if there is one
abbrev pub with_kind : Option ℕ → Option Kind → Kinds → Kinds
with_kind None kind kinds = kinds
with_kind (Some k) kind kinds = at kinds k kind

-- the kinds after two ways
abbrev pub common_kinds : Kinds → Kinds → Kinds
common_kinds a b = λ k. common_kind (a k) (b k)

-- the kinds after two ways, where the slots of the first are these from a number on
abbrev pub common_list : List (Option Kind) → Kinds → ℕ → List (Option Kind)
common_list [] b n = []
common_list (k ∷ ks) b n = common_kind k (b n) ∷ common_list ks b (n + 1)

-- the kinds after two branches: where one of them ends, those after the other
abbrev pub joined_kinds : Bool → Bool → Kinds → Kinds → Kinds
joined_kinds true other_ends a b = b
joined_kinds false true a b = a
joined_kinds false false a b = common_kinds a b

abbrev mutual
  -- the kinds after a form
  pub kinds_after_form : StaticFrame → SilicaForm → Kinds → Kinds
  kinds_after_form f (test_form place state branch other join) kinds =
      joined_kinds (terms_end branch) (terms_end other) (kinds_after f branch kinds) (kinds_after f other kinds)
  kinds_after_form f (if_form place branch other join) kinds =
      joined_kinds (terms_end branch) (terms_end other) (kinds_after f branch kinds) (kinds_after f other kinds)
  kinds_after_form f (loop_form first a body end) kinds =
      kinds_after f first (joined_kinds false (terms_end body) kinds (kinds_after f body (kinds_after f first kinds)))
  kinds_after_form f form kinds = with_kind (slot_written form) (kind_written f (holding kinds) form) kinds

  -- the kinds after terms
  pub kinds_after : StaticFrame → SilicaTerms → Kinds → Kinds
  kinds_after f no_terms kinds = kinds
  kinds_after f (and_term form span rest) kinds = kinds_after f rest (kinds_after_form f form kinds)

-- the kinds at the head of a loop with this first part and this body: those before it and after one turn
abbrev pub kinds_at_head : StaticFrame → SilicaTerms → SilicaTerms → Kinds → Kinds
kinds_at_head f first body kinds = joined_kinds false (terms_end body) kinds (kinds_after f body (kinds_after f first kinds))

-- the kinds after one turn of such a loop
abbrev pub kinds_turned : StaticFrame → SilicaTerms → SilicaTerms → Kinds → Kinds
kinds_turned f first body kinds = kinds_after f body (kinds_after f first kinds)

-- whether nothing is reached after a form that has no branches
abbrev pub straight_ends : SilicaForm → Bool
straight_ends (return_form place) = true
straight_ends (revert_form text) = true
straight_ends form = false
