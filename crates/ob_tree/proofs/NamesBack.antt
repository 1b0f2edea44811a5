-- From plain data back to the names and types of a tree.
use Rattle.std.proofs.Common.{◌≡◌, ℕ, List, Option, Some, None, ap, ◌∙◌, refl, subst}
use Rattle.ob_base.specs.declared.fault.Span.{Span}
use Rattle.ob_tree.specs.Names.{Named, bare_name, name_with, Ref, ref_with, TypeExpr, int_type, bool_type, text_type, ref_type}
use Rattle.ob_tree.specs.NamesView.{named_of, ref_of, type_of, named_of-roll, ref_of-roll}
use Rattle.ob_tree.specs.declared.name.NamedNode.{NamedNode, NamedNode-F, map-NamedNode, ind-NamedNode, roll-NamedNode}
use Rattle.ob_tree.specs.declared.name.RefNode.{RefNode, RefNode-F, map-RefNode, roll-RefNode, out-RefNode, roll-out-RefNode}
use Rattle.ob_tree.specs.declared.name.TypeNode.{TypeNode}
use Rattle.ob_tree.specs.declared.name.TypeNode.TheVariants.{Int, Bool, Text, Reference}

abbrev mutual
  pub named_back : Named → NamedNode
  named_back (bare_name name span) = roll-NamedNode (record { name = name; argument = None; span = span })
  named_back (name_with name argument span) = roll-NamedNode (record { name = name; argument = Some (ref_back argument); span = span })

  pub ref_back : Ref → RefNode
  ref_back (ref_with of perm) = roll-RefNode (record { of = named_back of; perm = perm })

abbrev IsNamedBack : NamedNode → Type 0
IsNamedBack node = named_back (named_of node) ≡ node

abbrev IsRefBack : RefNode → Type 0
IsRefBack node = ref_back (ref_of node) ≡ node

rolled : {A B : Type 0} (f : A → NamedNode) (g : B → RefNode) → ((b : B) → IsRefBack (g b)) → (name : List ℕ) (argument : Option B) (span : Span) → IsNamedBack (roll-NamedNode (map-NamedNode A B NamedNode RefNode f g (record { name = name; argument = argument; span = span })))
rolled f g back name None span = ap named_back (named_of-roll (record { name = name; argument = None; span = span }))
rolled f g back name (Some b) span = ap named_back (named_of-roll (record { name = name; argument = Some (g b); span = span })) ∙ ap (λ of. roll-NamedNode (record { name = name; argument = Some of; span = span })) (back b)

named_step : {A B : Type 0} (node : NamedNode-F A B) (f : A → NamedNode) (g : B → RefNode) → ((b : B) → IsRefBack (g b)) → IsNamedBack (roll-NamedNode (map-NamedNode A B NamedNode RefNode f g node))
named_step node f g back = rolled f g back node.name node.argument node.span

ref_step : {A B : Type 0} (node : RefNode-F A B) (f : A → NamedNode) (g : B → RefNode) → ((a : A) → IsNamedBack (f a)) → IsRefBack (roll-RefNode (map-RefNode A B NamedNode RefNode f g node))
ref_step node f g back = ap ref_back (ref_of-roll (record { of = f node.of; perm = node.perm })) ∙ ap (λ of. roll-RefNode (record { of = of; perm = node.perm })) (back node.of)

pub named_back-of : (node : NamedNode) → IsNamedBack node
named_back-of = ind-NamedNode IsNamedBack IsRefBack
    (λ x y is. subst (λ z. IsNamedBack (roll-NamedNode z)) is (named_step y (λ e. e.0) (λ e. e.0) (λ e. e.1)))
    (λ x y is. subst (λ z. IsRefBack (roll-RefNode z)) is (ref_step y (λ e. e.0) (λ e. e.0) (λ e. e.1)))

pub ref_back-of : (node : RefNode) → IsRefBack node
ref_back-of node = subst IsRefBack (roll-out-RefNode node) (ref_step (out-RefNode node) (λ n. n) (λ r. r) named_back-of)

abbrev pub type_back : TypeExpr → TypeNode
type_back (int_type span) = Int span
type_back (bool_type span) = Bool span
type_back (text_type span) = Text span
type_back (ref_type of) = Reference (ref_back of)

pub type_back-of : (node : TypeNode) → type_back (type_of node) ≡ node
type_back-of (Int span) = refl
type_back-of (Bool span) = refl
type_back-of (Text span) = refl
type_back-of (Reference of) = ap Reference (ref_back-of of)
