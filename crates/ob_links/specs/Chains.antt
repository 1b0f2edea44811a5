-- How lists of pairs stand in a vector of nodes: each node with those beside it in its list (this project's own).
use Rattle.std.specs.Prelude.{◌≡◌, ℕ, zero, suc, ◌^◌, ◌<◌, ◌≤◌, ⊤, List, [], ◌∷◌, map, length, slice_get, slice_set, slice_index_or, Option, Some, None}
use Rattle.std.specs.Option.{option_map_or}
use Rattle.ob_links.specs.declared.node.NodeId.{NodeId}
use Rattle.ob_links.specs.declared.node.Node.{Node}
use Rattle.ob_links.specs.declared.node.Ends.{Ends}
use Rattle.ob_links.specs.Lists.{Pair, Linked, joined, with_pair}

-- the first node of a list, or another where it has none
abbrev pub first_or : List Pair → Option NodeId → Option NodeId
first_or [] next = next
first_or (x ∷ xs) next = Some x.0

-- the last node of a list, or another where it has none
abbrev pub last_or : Option NodeId → List Pair → Option NodeId
last_or previous [] = previous
last_or previous (x ∷ xs) = last_or (Some x.0) xs

-- the node of each pair of a list has the pair's item, the list's number, and the nodes of the pairs beside it; before the
-- first pair and after the last one stand these
abbrev pub AreLinked : List Node → ℕ → Option NodeId → List Pair → Option NodeId → Type 0
AreLinked nodes list previous [] next = ⊤
AreLinked nodes list previous (x ∷ xs) next =
    (slice_get nodes x.0.0 ≡ Some (record { list = list; item = x.1; previous = previous; next = first_or xs next }))
    × AreLinked nodes list (Some x.0) xs next

-- the ends of a list
abbrev pub ends_of : List Pair → Ends
ends_of xs = record { first = first_or xs None; last = last_or None xs }

-- the ends of a list without nodes
abbrev pub no_ends : Ends
no_ends = record { first = None; last = None }

-- these lists stand in a vector of nodes, and have these ends
pub record AreChains (nodes : List Node) (ends : List Ends) (chains : List (List Pair)) : Type 0 where
  pub borders : ends ≡ map ends_of chains
  pub linked : (list : ℕ) (xs : List Pair) → slice_get chains list ≡ Some xs → AreLinked nodes list None xs None

-- at most so many pairs from a node on
abbrev pub chain_from : List Node → ℕ → Option NodeId → List Pair
chain_from nodes zero start = []
chain_from nodes (suc most) None = []
chain_from nodes (suc most) (Some n) =
    option_map_or (λ (v : Node). (n, v.item) ∷ chain_from nodes most v.next) (slice_get nodes n.0) []

-- the lists that stand in a vector of nodes
abbrev pub chains_of : List Node → List Ends → List (List Pair)
chains_of nodes ends = map (λ (e : Ends). chain_from nodes (length nodes) e.first) ends

-- lists, the first of which has the free nodes, as callers see them
abbrev pub linked_of : List (List Pair) → Linked
linked_of [] = record { lists = []; spare = 0 }
linked_of (free ∷ lists) = record { lists = lists; spare = length free }

-- A vector in which each node is in one of the lists, and so many in the first one. Numbers of nodes and of lists have 32 bits.
pub record IsSound (nodes : List Node) (ends : List Ends) (spare : ℕ) : Type 0 where
  pub chains : AreChains nodes ends (chains_of nodes ends)
  pub all : length (joined (chains_of nodes ends)) ≡ length nodes
  pub free : spare ≡ (linked_of (chains_of nodes ends)).spare
  pub some : 0 < length ends
  pub few_nodes : length nodes < 2 ^ 32
  pub few_lists : length ends ≤ 2 ^ 32

-- nodes of which one is another
abbrev pub edited : NodeId → (Node → Node) → List Node → List Node
edited n f nodes = option_map_or (λ v. slice_set nodes n.0 (f v)) (slice_get nodes n.0) nodes

-- nodes of which one has another next node
abbrev pub with_next : Option NodeId → Option NodeId → List Node → List Node
with_next None next nodes = nodes
with_next (Some n) next nodes = edited n (λ v. record v { next = next }) nodes

-- nodes of which one has another previous node
abbrev pub with_previous : Option NodeId → Option NodeId → List Node → List Node
with_previous None previous nodes = nodes
with_previous (Some n) previous nodes = edited n (λ v. record v { previous = previous }) nodes

-- the ends of a list of which another node follows this one, or is the first
abbrev pub with_first : Option NodeId → Option NodeId → Ends → Ends
with_first None next e = record e { first = next }
with_first (Some n) next e = e

-- the ends of a list of which another node stands before this one, or is the last
abbrev pub with_last : Option NodeId → Option NodeId → Ends → Ends
with_last None previous e = record e { last = previous }
with_last (Some n) previous e = e

-- the node before another one, or the last of a list with these ends
abbrev pub previous_of : List Node → Ends → Option NodeId → Option NodeId
previous_of nodes e None = e.last
previous_of nodes e (Some n) = option_map_or (λ (v : Node). v.previous) (slice_get nodes n.0) None

-- lists of which one has one pair more
abbrev pub with_pair_in : ℕ → Option NodeId → Pair → List (List Pair) → List (List Pair)
with_pair_in list before x chains = slice_set chains list (with_pair before x (slice_index_or chains list []))

-- the first node of the first list, which has the free nodes
abbrev pub first_free : List Ends → Option NodeId
first_free [] = None
first_free (e ∷ es) = e.first
