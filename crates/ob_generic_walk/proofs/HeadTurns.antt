-- Heads that are looked at one after another give the least of all their faults.
use Rattle.std.proofs.Common.{◌≡◌, ℕ, ◌<◌, ◌+◌, Bool, true, false, ◌&&◌, ◌||◌, List, [], ◌∷◌, ◌++◌, Option, Some, None, is_some, if◌then◌else◌, map, length, drop, get_or, refl, ap, sym, ◌∙◌}
use Rattle.std.specs.List.{list_any}
use Rattle.std.proofs.lemmas.List.Folds.{list_any-append}
use Rattle.ob_base.specs.declared.fault.ProgramFault.{ProgramFault}
use Rattle.ob_tree.specs.Members.{Contract}
use Rattle.ob_tree.specs.MembersView.{contract_of}
use Rattle.ob_tree.specs.declared.contract.ContractNode.{ContractNode}
use Rattle.ob_table_spec.specs.Names.{Name, same, in_order, in_order_after}
use Rattle.ob_resolve_scope.specs.Numbered.{find, added}
use Rattle.ob_resolve_scope.proofs.NumberedLemmas.{or_else, find-added}
use Rattle.ob_generic_spec.specs.TypeSites.{head_sites}
use Rattle.ob_generic_spec.specs.TypeFaults.{is_second_generic}
use Rattle.ob_generic_walk.specs.Noted.{noted}
use Rattle.ob_generic_walk.specs.HeadNotes.{is_second, with_generic, head_noted, heads_noted}
use Rattle.ob_generic_walk.proofs.Turns.{turn}
use Rattle.ob_generic_walk.proofs.SeenLemmas.{noted-append}

pub heads_turn : (l : Option ProgramFault) (all generics : List (Name × ℕ)) (xs : List ContractNode) (i : ℕ)
    (x : ContractNode) → i < length xs → x ≡ get_or xs i x
    → heads_noted (head_noted l (is_second all generics (contract_of x)) (contract_of x)) (added all x.name 0)
    (with_generic generics (contract_of x)) (map contract_of (drop (i + 1) xs))
    ≡ heads_noted l all generics (map contract_of (drop i xs))
heads_turn l all generics xs i x h is = ap (λ ys. heads_noted l all generics (map contract_of ys)) (sym (turn xs i x h is))

-- Which names stand before.

-- the names of all contracts before, and of the generic ones
record AreBefore (all generics : List (Name × ℕ)) (before : List Contract) : Type 0 where
  all_are : (name : Name) → is_some (find name all) ≡ list_any (λ (b : Contract). same name b.name) before
  generics_are : (name : Name)
      → is_some (find name generics) ≡ list_any (λ (b : Contract). same name b.name && is_some b.param) before

found_added : (name : Name) (es : List (Name × ℕ)) (x : Name)
    → is_some (find name (added es x 0)) ≡ (is_some (find name es) || same name x)
found_added name es x = ap is_some (find-added name es x 0) ∙ by (find name es) (same name x)
  where
    by : (o : Option ℕ) (b : Bool) → is_some (or_else o (if b then Some 0 else None)) ≡ (is_some o || b)
    by None true = refl
    by None false = refl
    by (Some n) b = refl

or_nothing : (b : Bool) → b ≡ (b || (false || false))
or_nothing true = refl
or_nothing false = refl

and_true : (b : Bool) → (b && true) ≡ b
and_true true = refl
and_true false = refl

and_false : (b : Bool) → (b && false) ≡ false
and_false true = refl
and_false false = refl

or_one : (a b : Bool) → (a || b) ≡ (a || (b || false))
or_one true b = refl
or_one false true = refl
or_one false false = refl

one_more : (all generics : List (Name × ℕ)) (before : List Contract) (c : Contract) → AreBefore all generics before
    → AreBefore (added all c.name 0) (with_generic generics c) (before ++ c ∷ [])
one_more all generics before c p = record {
  all_are = λ name. found_added name all c.name ∙ ap (λ b. b || same name c.name) (p.all_are name)
      ∙ or_one (list_any (λ (b : Contract). same name b.name) before) (same name c.name)
      ∙ sym (list_any-append (λ (b : Contract). same name b.name) before (c ∷ []));
  generics_are = λ name. by name (is_some c.param) refl
      ∙ sym (list_any-append (λ (b : Contract). same name b.name && is_some b.param) before (c ∷ []));
}
  where
    by : (name : Name) (g : Bool) → is_some c.param ≡ g
        → is_some (find name (if g then added generics c.name 0 else generics))
        ≡ (list_any (λ (b : Contract). same name b.name && is_some b.param) before
        || (same name c.name && is_some c.param || false))
    by name true e =
        found_added name generics c.name ∙ ap (λ b. b || same name c.name) (p.generics_are name)
        ∙ or_one (list_any (λ (b : Contract). same name b.name && is_some b.param) before) (same name c.name)
        ∙ ap (λ b. list_any (λ (b : Contract). same name b.name && is_some b.param) before || (b || false))
        (sym (ap (λ b. same name c.name && b) e ∙ and_true (same name c.name)))
    by name false e =
        p.generics_are name ∙ or_nothing (list_any (λ (b : Contract). same name b.name && is_some b.param) before)
        ∙ ap (λ b. list_any (λ (b : Contract). same name b.name && is_some b.param) before || (b || false))
        (sym (ap (λ b. same name c.name && b) e ∙ and_false (same name c.name)))

any_generic : (c : Contract) (g : Bool) → is_some c.param ≡ g → (before : List Contract)
    → list_any (is_second_generic c) before
    ≡ (if g then list_any (λ (b : Contract). same c.name b.name) before
    else list_any (λ (b : Contract). same c.name b.name && is_some b.param) before)
any_generic c true e [] = refl
any_generic c false e [] = refl
any_generic c true e (b ∷ bs) =
    ap (λ x. same c.name b.name && (x || is_some b.param) || list_any (is_second_generic c) bs) e
    ∙ ap (λ x. x || list_any (is_second_generic c) bs) (and_true (same c.name b.name))
    ∙ ap (λ x. same c.name b.name || x) (any_generic c true e bs)
any_generic c false e (b ∷ bs) =
    ap (λ x. same c.name b.name && (x || is_some b.param) || list_any (is_second_generic c) bs) e
    ∙ ap (λ x. same c.name b.name && is_some b.param || x) (any_generic c false e bs)

second_is : (all generics : List (Name × ℕ)) (before : List Contract) (c : Contract) → AreBefore all generics before
    → is_second all generics c ≡ list_any (is_second_generic c) before
second_is all generics before c p = by (is_some c.param) refl
  where
    by : (g : Bool) → is_some c.param ≡ g
        → is_some (find c.name (if g then all else generics)) ≡ list_any (is_second_generic c) before
    by true e = p.all_are c.name ∙ sym (any_generic c true e before)
    by false e = p.generics_are c.name ∙ sym (any_generic c false e before)

one_head : (l : Option ProgramFault) (before : List Contract) (c : Contract)
    → head_noted l (list_any (is_second_generic c) before) c ≡ noted l (head_sites before c)
one_head l before c = refl

heads_after : (l : Option ProgramFault) (all generics : List (Name × ℕ)) (before cs : List Contract)
    → AreBefore all generics before → heads_noted l all generics cs ≡ noted l (in_order_after head_sites before cs)
heads_after l all generics before [] p = refl
heads_after l all generics before (c ∷ cs) p =
    let here = head_noted l (is_second all generics c) c in
    heads_after here (added all c.name 0) (with_generic generics c) (before ++ c ∷ []) cs (one_more all generics before c p)
    ∙ ap (λ m. noted m (in_order_after head_sites (before ++ c ∷ []) cs))
    (ap (λ s. head_noted l s c) (second_is all generics before c p) ∙ one_head l before c)
    ∙ sym (noted-append l (head_sites before c) (in_order_after head_sites (before ++ c ∷ []) cs))

pub heads_noted_is : (l : Option ProgramFault) (cs : List Contract) → heads_noted l [] [] cs ≡ noted l (in_order head_sites cs)
heads_noted_is l cs = heads_after l [] [] [] cs (record { all_are = λ name. refl; generics_are = λ name. refl })

pub ruleset turns = (heads_turn)

pub ruleset heads = (heads_noted_is)
