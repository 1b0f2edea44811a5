-- States of a permission among those of a contract.
use Rattle.std.proofs.Common.{◌≡◌, ℕ, Bool, false, not, ◌||◌, is_none, List, [], ◌∷◌, Option, Some, None, refl, ap, ◌∙◌}
use Rattle.std.specs.Prelude.{option_map}
use Rattle.std.specs.Option.{option_map_or}
use Rattle.std.specs.List.{list_any}
use Rattle.ob_tree.specs.declared.name.NamePart.{NamePart}
use Rattle.ob_tree.specs.declared.name.PermNode.{PermNode}
use Rattle.ob_table_spec.specs.Names.{Name, is_among}
use Rattle.ob_resolve_scope.specs.Numbered.{find, numbered}
use Rattle.ob_resolve_scope.proofs.NumberedLemmas.{find-numbered, number_of-is_none}
use Rattle.ob_generic_spec.specs.Arguments.{names_other_state}
use Rattle.ob_generic_spec.specs.declared.head.Head.{Head}

-- names that aren't found aren't among the others
pub any_other : (xs : List Name) (names : List NamePart)
    → list_any (λ n. is_none (find n.name (numbered xs))) names ≡ list_any (λ n. not (is_among n.name xs)) names
any_other xs [] = refl
any_other xs (n ∷ names) =
    ap (λ b. b || list_any (λ m. is_none (find m.name (numbered xs))) names)
    (ap is_none (find-numbered n.name xs) ∙ number_of-is_none n.name xs)
    ∙ ap (λ b. not (is_among n.name xs) || b) (any_other xs names)

-- what is said of a head's states is said by the head
pub by_states : (perm : PermNode) (o : Option Head) (s : List (Name × ℕ)) → Some s ≡ option_map (λ h. numbered h.states) o
    → (answer : Bool) → ((xs : List Name) → s ≡ numbered xs → answer ≡ names_other_state xs perm)
    → answer ≡ option_map_or (λ h. names_other_state h.states perm) o false
by_states perm None s e answer f = absurd (cc e)
by_states perm (Some h) s e answer f = f h.states (cc e)

pub by_none : (perm : PermNode) (o : Option Head) → None ≡ option_map (λ h. numbered h.states) o
    → false ≡ option_map_or (λ h. names_other_state h.states perm) o false
by_none perm None e = refl
by_none perm (Some h) e = absurd (cc e)
