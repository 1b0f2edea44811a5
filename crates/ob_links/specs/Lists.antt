-- Lists of pairs, each a node and its item, and the nodes of which they speak (this project's own).
use Rattle.std.specs.Prelude.{◌≡◌, ℕ, Bool, false, not, ◌||◌, nat_eq, List, [], ◌∷◌, ◌++◌, filter, ⊤, Option, Some, None, if◌then◌else◌}
use Rattle.ob_links.specs.declared.node.NodeId.{NodeId}

-- a node, and its item
abbrev pub Pair : Type 0
Pair = NodeId × ℕ

-- Lists of pairs, and how many more pairs they can take without memory.
pub record Linked : Type 0 where
  pub lists : List (List (NodeId × ℕ))
  pub spare : ℕ

-- the pairs of all lists, one list after another
abbrev pub joined : List (List Pair) → List Pair
joined [] = []
joined (xs ∷ ls) = xs ++ joined ls

-- whether a node is in one of these pairs
abbrev pub has_node : NodeId → List Pair → Bool
has_node n [] = false
has_node n (x ∷ xs) = nat_eq x.0.0 n.0 || has_node n xs

-- no node is in two of these pairs
abbrev pub AreApart : List Pair → Type 0
AreApart [] = ⊤
AreApart (x ∷ xs) = (has_node x.0 xs ≡ false) × AreApart xs

-- the list in which a node is
abbrev pub list_of : NodeId → List (List Pair) → List Pair
list_of n [] = []
list_of n (xs ∷ ls) = if has_node n xs then xs else list_of n ls

-- the item of a node
abbrev pub item_of : NodeId → List Pair → Option ℕ
item_of n [] = None
item_of n (x ∷ xs) = if nat_eq x.0.0 n.0 then Some x.1 else item_of n xs

-- the first node of a list
abbrev pub first_node : List Pair → Option NodeId
first_node [] = None
first_node (x ∷ xs) = Some x.0

-- the node after another one
abbrev pub node_after : NodeId → List Pair → Option NodeId
node_after n [] = None
node_after n (x ∷ xs) = if nat_eq x.0.0 n.0 then first_node xs else node_after n xs

-- whether it is the node of this number
abbrev pub is_node : Option NodeId → NodeId → Bool
is_node None n = false
is_node (Some m) n = nat_eq n.0 m.0

-- a list with one pair more, which stands before that of a node, or at the end
abbrev pub with_pair : Option NodeId → Pair → List Pair → List Pair
with_pair before x [] = x ∷ []
with_pair before x (y ∷ ys) = if is_node before y.0 then x ∷ y ∷ ys else y ∷ with_pair before x ys

-- a list without the pair of a node
abbrev pub without_node : NodeId → List Pair → List Pair
without_node n xs = filter (λ (x : Pair). not (nat_eq x.0.0 n.0)) xs
