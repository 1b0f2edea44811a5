-- How many owners handles carry where a `new` or a `call` is done.
use Rattle.std.proofs.Common.{◌≡◌, ◌∙◌, ◌⊎◌, inl, inr, ℕ, ◌+◌, ◌≤◌, Bool, true, false, List, [], ◌∷◌, ◌++◌, Option, Some, None, refl, sym, ap, arith}
use Rattle.std.specs.Prelude.{cond, not, ◌&&◌, ◌||◌, nat_eq, nat_lt, count_by, if◌then◌else◌, ⊤}
use Rattle.std.specs.Ordering.{eq_by_cmp}
use Rattle.std.specs.List.{list_any}
use Rattle.std.specs.FinMap.Entries.{find as find_key}
use Rattle.std.proofs.lemmas.List.Recursion.{is_count_by}
use Rattle.ob_base.specs.declared.permission.Mode.{Mode}
use Rattle.ob_base.specs.declared.permission.Mode.TheVariants.{Shared}
use Rattle.ob_table.specs.Tables.{ClassTable}
use Rattle.ob_heap_spec.specs.Values.{Value, int_value, bool_value, text_value, reference}
use Rattle.ob_heap_spec.specs.Contents.{HandleName, Handle, Content, name_order}
use Rattle.ob_heap_spec.specs.Handles.{NamedHandle, handle_at, put_handles}
use Rattle.ob_rest_spec.specs.Modes.{is_owned, is_shared}
use Rattle.ob_rest_laws.specs.Laws.{handle_owners}
use Rattle.ob_invocation_spec.specs.Handles.{handle_name}
use Rattle.ob_invocation_spec.specs.Entries.{HandleUse, Entry, handle_uses}
use Rattle.ob_invocation_spec.specs.Refusals.{times_used, is_repeated}
use Rattle.ob_invocation_spec.specs.Entering.{handle_in, put_after_use, put_given, put_into, puts_after}
use Rattle.ob_invocation_laws.specs.Laws.{AreHandles, owners_in, is_put, kept_handles, put_owners, returned_owners, puts_of_uses}
use Rattle.ob_invocation_laws.proofs.Disowning.{neither}
use Rattle.ob_invocation_laws.proofs.Kept.{one_name_tested, puts_count}
use Rattle.ob_invocation_laws.proofs.Entered.{MayEnter, AreFound}

-- What becomes of the handle of a use.

-- a use leaves its handle, or changes its mode: to one that owns only where it was used as the owner
pub use_put : (u : HandleUse) → (put_after_use u ≡ [])
    ⊎ ((m : Mode) × (put_after_use u ≡ handle_in u.name u.handle.object m ∷ [])
    × ((is_owned u.entry.mode ≡ true) ⊎ (is_owned m ≡ false)))
use_put u = go (is_owned u.handle.mode) (is_owned u.entry.mode) (is_shared u.entry.mode) refl
  where
    go : (a b c : Bool) → is_owned u.entry.mode ≡ b
        → ((if a && b then handle_in u.name u.handle.object u.exit.mode ∷ []
        else if c then handle_in u.name u.handle.object Shared ∷ []
        else []) ≡ [])
        ⊎ ((m : Mode)
        × ((if a && b then handle_in u.name u.handle.object u.exit.mode ∷ []
        else if c then handle_in u.name u.handle.object Shared ∷ []
        else []) ≡ handle_in u.name u.handle.object m ∷ [])
        × ((is_owned u.entry.mode ≡ true) ⊎ (is_owned m ≡ false)))
    go true true c is = inr (u.exit.mode, refl, inl is)
    go true false true is = inr (Shared, refl, inr refl)
    go true false false is = inl refl
    go false b true is = inr (Shared, refl, inr refl)
    go false b false is = inl refl

-- How often an object is used.

abbrev pub uses_of : ℕ → List HandleUse → ℕ
uses_of n [] = 0
uses_of n (u ∷ uses) = cond (nat_eq u.handle.object n) (1 + uses_of n uses) (uses_of n uses)

-- no use that owns its object at the entry has another of it after it
abbrev pub NoneRepeated : List HandleUse → Type 0
NoneRepeated [] = ⊤
NoneRepeated (u ∷ uses) = (is_owned u.entry.mode ≡ true → uses_of u.handle.object uses ≡ 0) × NoneRepeated uses

counted_uses : (n : ℕ) (uses : List HandleUse) → uses_of n uses ≡ count_by (λ v. nat_eq v.handle.object n) uses
counted_uses n uses = is_count_by (uses_of n) (λ v. nat_eq v.handle.object n) refl (λ u us. refl) uses

pub more_uses : (n : ℕ) (u : HandleUse) (uses : List HandleUse) → uses_of n uses ≤ uses_of n (u ∷ uses)
more_uses n u uses = either (nat_eq u.handle.object n)
  where
    either : (b : Bool) → uses_of n uses ≤ cond b (1 + uses_of n uses) (uses_of n uses)
    either true = omega arith
    either false = omega arith

own_use : (u : HandleUse) (uses : List HandleUse)
    → uses_of u.handle.object (u ∷ uses) ≡ 1 + uses_of u.handle.object uses
own_use u uses = let same : nat_eq u.handle.object u.handle.object ≡ true = grind arith in rw same refl

none_of_both : (a b : Bool) → (a || b) ≡ false → (a ≡ false) × (b ≡ false)
none_of_both true b is = absurd cc
none_of_both false b is = (refl, is)

pub none_repeated : (all uses : List HandleUse) → list_any (is_repeated all) uses ≡ false
    → ((n : ℕ) → uses_of n uses ≤ uses_of n all) → NoneRepeated uses
none_repeated all [] none fewer = tt
none_repeated all (u ∷ uses) none fewer =
    let parts = none_of_both (is_repeated all u) (list_any (is_repeated all) uses) none in (
      λ owns. (let few = at_most_one (times_used all u) (under (is_owned u.entry.mode) (nat_lt 1 (times_used all u))
          owns parts.0) in
          let same = counted_uses u.handle.object all in
          let here = fewer u.handle.object in
          let own = own_use u uses in
          omega (arith, few, same, here, own)),
      none_repeated all uses parts.1 (λ n. let here = fewer n in let more = more_uses n u uses in
          omega (arith, here, more)),
    )
  where
    under : (a b : Bool) → a ≡ true → (a && b) ≡ false → b ≡ false
    under true b is none = none
    under false b is none = absurd cc

    at_most_one : (n : ℕ) → nat_lt 1 n ≡ false → n ≤ 1
    at_most_one n is = grind arith

-- Owners in what handles become.

-- a handle is put in one of two lists
pub any_append : (puts more : List NamedHandle) (name : HandleName)
    → is_put (puts ++ more) name ≡ (is_put puts name || is_put more name)
any_append [] more name = refl
any_append (p ∷ puts) more name =
    under (eq_by_cmp name_order p.0 name) (is_put (puts ++ more) name) (is_put puts name) (is_put more name)
    (any_append puts more name)
  where
    under : (a b c d : Bool) → b ≡ (c || d) → (a || b) ≡ ((a || c) || d)
    under true b c d same = refl
    under false b c d same = same

-- where an object isn't used, its handle isn't put
not_put : (content : Content) (name : HandleName) (h : Handle) (uses : List HandleUse)
    → handle_at content name ≡ Some h → AreFound content uses → uses_of h.object uses ≡ 0
    → is_put (puts_of_uses uses) name ≡ false
not_put content name h [] there found none = refl
not_put content name h (u ∷ uses) there found none =
    let few = more_uses h.object u uses in
    let rest = not_put content name h uses there found.1 (omega (arith, few, none)) in
    elim (use_put u) [
      | inl is ↦ rw is rest
      | inr some ↦ rw (some.1, rest) (other (eq_by_cmp name_order u.name name) refl)
    ]
  where
    other : (b : Bool) → eq_by_cmp name_order u.name name ≡ b → (b || false) ≡ false
    other true is = absurd (
        let same = one_name_tested u.name name is in
        let at = sym (rw same at found.0) ∙ there in
        let handle : u.handle ≡ h = cc in
        let one = ap (λ (x : Handle). uses_of x.object (u ∷ uses)) handle in
        let own = own_use u uses in
        omega (arith, none, one, own))
    other false is = refl

-- the owners in what handles become that are used, and in others that are put after them under new names
pub uses_count : (content : Content) (uses : List HandleUse) (more : List NamedHandle) (n : ℕ) → AreFound content uses
    → NoneRepeated uses
    → ((name : HandleName) (h : Handle) → handle_at content name ≡ Some h → is_put more name ≡ false)
    → put_owners (puts_of_uses uses ++ more) n ≡ returned_owners uses n + put_owners more n
uses_count content [] more n found once new = omega arith
uses_count content (u ∷ uses) more n found once new =
    let rest = uses_count content uses more n found.1 once.1 new in
    elim (use_put u) [
      | inl is ↦ rw is (omega (arith, rest))
      | inr some ↦ rw some.1 (
          let first = last_of (is_put (puts_of_uses uses ++ more) u.name)
          (owners_in n (Some (record { object = u.handle.object; mode = some.0 })))
          (elim some.2 [
            | inl owns ↦ inl (any_append (puts_of_uses uses) more u.name
                ∙ neither_put (is_put (puts_of_uses uses) u.name) (is_put more u.name)
                (not_put content u.name u.handle uses found.0 found.1 (once.0 owns))
                (new u.name u.handle found.0))
            | inr other ↦ inr (rw (neither (nat_eq u.handle.object n) (is_owned some.0) other) refl)
          ]) in
          omega (arith, rest, first))
    ]
  where
    neither_put : (a b : Bool) → a ≡ false → b ≡ false → (a || b) ≡ false
    neither_put true b first second = absurd cc
    neither_put false b first second = second

    last_of : (b : Bool) (k : ℕ) → (b ≡ false) ⊎ (k ≡ 0) → (if b then 0 else k) ≡ k
    last_of true k (inl is) = absurd cc
    last_of true k (inr none) = sym none
    last_of false k is = refl

-- The handle on what is given.

-- there is one where a reference is given, in the mode in which it is given
pub given_put : (name : HandleName) (given : Option Mode) (result : Option Value) → (put_given name given result ≡ [])
    ⊎ ((n : ℕ) × (mode : Mode) × (put_given name given result ≡ handle_in name n mode ∷ [])
    × (given ≡ Some mode) × (result ≡ Some (reference n)))
given_put name None result = inl refl
given_put name (Some mode) None = inl refl
given_put name (Some mode) (Some (int_value z)) = inl refl
given_put name (Some mode) (Some (bool_value b)) = inl refl
given_put name (Some mode) (Some (text_value bytes)) = inl refl
given_put name (Some mode) (Some (reference n)) = inr (n, mode, refl, refl, refl)

-- the handle that a request names for what is given
pub record IntoPut (e : Entry) (result : Option Value) : Type 0 where
  pub into : List ℕ
  pub object : ℕ
  pub mode : Mode
  pub named : e.into ≡ Some into
  pub given : e.given ≡ Some mode
  pub gives : result ≡ Some (reference object)
  pub is : put_into e result ≡ handle_in (handle_name e.who into) object mode ∷ []

pub into_put : (e : Entry) (result : Option Value) → (put_into e result ≡ []) ⊎ IntoPut e result
into_put e result = by_name e.into refl
  where
    by_name : (into : Option (List ℕ)) → e.into ≡ into → (put_into e result ≡ []) ⊎ IntoPut e result
    by_name None named = inl (rw named refl)
    by_name (Some into) named = elim (given_put (handle_name e.who into) e.given result) [
      | inl none ↦ inl (rw named none)
      | inr some ↦ inr (record {
        into = into;
        object = some.0;
        mode = some.1;
        named = named;
        given = some.3;
        gives = some.4;
        is = rw named some.2;
      })
    ]

-- a name that isn't found is none of a handle that is
other_name : (content : Content) (new name : HandleName) (h : Handle) → handle_at content new ≡ None
    → handle_at content name ≡ Some h → (b : Bool) → eq_by_cmp name_order new name ≡ b → (b || false) ≡ false
other_name content new name h free there true is =
    absurd (let same = one_name_tested new name is in let both = sym (rw same at free) ∙ there in cc)
other_name content new name h free there false is = refl

-- its name is new
into_new : (table : ClassTable) (content : Content) (e : Entry) (result : Option Value) → MayEnter table content e
    → (name : HandleName) (h : Handle) → handle_at content name ≡ Some h → is_put (put_into e result) name ≡ false
into_new table content e result may name h there = elim (into_put e result) [
  | inl none ↦ rw none refl
  | inr put ↦ rw put.is (other_name content (handle_name e.who put.into) name h (may.free put.into put.named) there
      (eq_by_cmp name_order (handle_name e.who put.into) name) refl)
]

-- handles are kept as if it weren't put
kept_same : (handles puts : List NamedHandle) (p : NamedHandle) → find_key name_order p.0 handles ≡ None
    → kept_handles handles (puts ++ p ∷ []) ≡ kept_handles handles puts
kept_same [] puts p none = refl
kept_same (g ∷ handles) puts p none =
    by_test (eq_by_cmp name_order p.0 g.0) refl none (λ later. kept_same handles puts p later)
  where
    same_test : (a : Bool) → (a || (false || false)) ≡ a
    same_test true = refl
    same_test false = refl

    by_test : (b : Bool) → eq_by_cmp name_order p.0 g.0 ≡ b
        → cond b (Some g.1) (find_key name_order p.0 handles) ≡ None
        → (find_key name_order p.0 handles ≡ None
        → kept_handles handles (puts ++ p ∷ []) ≡ kept_handles handles puts)
        → kept_handles (g ∷ handles) (puts ++ p ∷ []) ≡ kept_handles (g ∷ handles) puts
    by_test true is found rest = absurd cc
    by_test false is found rest =
        let test : is_put (puts ++ p ∷ []) g.0 ≡ is_put puts g.0 =
        any_append puts (p ∷ []) g.0 ∙ ap (λ b. is_put puts g.0 || (b || false)) is ∙ same_test (is_put puts g.0) in
        (λ i. cond (not (test i)) (g ∷ rest found i) (rest found i))

-- Owners that handles carry where a `new` or a `call` is done.

pub once_used : (table : ClassTable) (content : Content) (e : Entry) → MayEnter table content e
    → NoneRepeated (handle_uses content e)
once_used table content e may =
    none_repeated (handle_uses content e) (handle_uses content e) may.once (λ n. omega arith)

-- those of the handles that it doesn't change, those that come back, and the one of what is given
pub owners_after : (table : ClassTable) (content : Content) (e : Entry) (result : Option Value) (n : ℕ)
    → AreHandles content.objects content.handles → AreFound content (handle_uses content e) → MayEnter table content e
    → handle_owners (put_handles content.handles (puts_after content e result)) n
    ≡ handle_owners (kept_handles content.handles (puts_of_uses (handle_uses content e))) n
    + (returned_owners (handle_uses content e) n + put_owners (put_into e result) n)
owners_after table content e result n are found may =
    let uses = puts_of_uses (handle_uses content e) in
    let all = puts_count n content.handles (puts_after content e result) are.order in
    let puts = uses_count content (handle_uses content e) (put_into e result) n found (once_used table content e may)
    (into_new table content e result may) in
    let kept = ap (λ hs. handle_owners hs n) (kept_as (into_put e result)) in
    omega (arith, all, puts, kept)
  where
    no_more : (puts : List NamedHandle) → puts ++ [] ≡ puts
    no_more [] = refl
    no_more (p ∷ puts) = ap (λ xs. p ∷ xs) (no_more puts)

    kept_as : (put_into e result ≡ []) ⊎ IntoPut e result
        → kept_handles content.handles (puts_after content e result)
        ≡ kept_handles content.handles (puts_of_uses (handle_uses content e))
    kept_as (inl none) =
        ap (λ more. kept_handles content.handles (puts_of_uses (handle_uses content e) ++ more)) none
        ∙ ap (kept_handles content.handles) (no_more (puts_of_uses (handle_uses content e)))
    kept_as (inr put) =
        ap (λ more. kept_handles content.handles (puts_of_uses (handle_uses content e) ++ more)) put.is
        ∙ kept_same content.handles (puts_of_uses (handle_uses content e))
        (handle_in (handle_name e.who put.into) put.object put.mode) (may.free put.into put.named)
