-- How many places own an object where a run begins: those of the store, without the handles that are lent, and the
-- uses that own it.
use Rattle.std.proofs.Common.{◌≡◌, ℕ, zero, suc, ◌+◌, ◌<◌, ◌≤◌, Bool, true, false, not, ◌&&◌, ◌||◌, List, [], ◌∷◌, map, length, Option, Some, refl, sym, ap, subst, ◌∙◌, arith, ⊎_elim, ◌⊎◌, inl, inr, eq-eqb, eqb-true, cond}
use Rattle.std.specs.Prelude.{nat_eq, nat_lt, slice_get, count_by, fold, if◌then◌else◌}
use Rattle.std.specs.List.{list_any}
use Rattle.std.proofs.lemmas.Bool.{cases_Bool, both_ways, and_parts, and_from, or_left, or_right}
use Rattle.std.proofs.lemmas.Option.{same_Some}
use Rattle.ob_base.specs.declared.permission.Mode.{Mode}
use Rattle.ob_base.specs.declared.permission.Mode.TheVariants.{Owned, Shared, Unowned}
use Rattle.ob_perm.specs.Permissions.{unowned, owns}
use Rattle.ob_table.specs.Tables.{ClassTable}
use Rattle.ob_heap_spec.specs.Contents.{HandleName, Handle, Content}
use Rattle.ob_heap_spec.specs.Handles.{handle_at}
use Rattle.ob_rest_spec.specs.Modes.{is_owned, is_shared}
use Rattle.ob_rest_spec.specs.Incoming.{owners}
use Rattle.ob_rest_spec.specs.Failing.{is_asset}
use Rattle.ob_rest_spec.specs.AtRest.{IsStoreAtRest}
use Rattle.ob_invocation_spec.specs.Entries.{HandleUse}
use Rattle.ob_invocation_spec.specs.Refusals.{times_used, is_repeated}
use Rattle.ob_invocation_laws.specs.Laws.{is_put, puts_of_uses}
use Rattle.ob_invocation_laws.proofs.Entered.{AreFound}
use Rattle.ob_invocation_laws.proofs.Kept.{one_name_tested}
use Rattle.ob_invocation_laws.proofs.Lent.{changes, use_is_put, put_by_use, found_itself}
use Rattle.ob_perm.specs.Masks.{held}
use Rattle.ob_coherent_spec.specs.Counting.{nth_object, one_if, in_handles}
use Rattle.ob_soundness_laws.proofs.stores.Handles.{owning_handles, owning_where, handles_owning_but}
use Rattle.ob_soundness_laws.specs.beginning.Uses.{is_lent, owning_uses, sharing_uses, uses_of, IsUse, AreUses}
use Rattle.ob_soundness_laws.specs.Requests.{any_state, note_in_run}
use Rattle.ob_soundness_laws.proofs.beginning.Lists.{none_at}
use Rattle.ob_soundness_laws.proofs.beginning.Rests.{one_owner, none_if_shared, none_if_disowned, asset_has_owner, handle_marks}

-- Modes.

owned_or_shared : (m : Mode) (b : Bool) → one_if (is_owned m && b) + one_if (is_shared m && b) ≤ one_if b
owned_or_shared Owned b = omega arith
owned_or_shared Shared b = omega arith
owned_or_shared Unowned b = omega arith

-- Handles.

module _ (test : HandleName × Handle → Bool) (n : ℕ) where
  where_at : (hs : List (HandleName × Handle)) (k : ℕ) (h : HandleName × Handle) → slice_get hs k ≡ Some h
      → test h ≡ true
      → is_owned h.1.mode ≡ true → h.1.object ≡ n → 0 < owning_where test n hs
  where_at [] k h e is own same = absurd (cc)
  where_at (g ∷ hs) zero h e is own same =
      let z : one_if (test g && (is_owned g.1.mode && nat_eq g.1.object n)) ≡ 1 =
      subst (λ (x : HandleName × Handle). one_if (test x && (is_owned x.1.mode && nat_eq x.1.object n)) ≡ 1)
      (sym (same_Some g h e))
      (rw (is, own, eq-eqb h.1.object n same) refl) in omega (arith, z)
  where_at (g ∷ hs) (suc k) h e is own same = let rest = where_at hs k h e is own same in omega (arith, rest)

  where_found : (hs : List (HandleName × Handle)) → 0 < owning_where test n hs
      → (k : ℕ) × (h : HandleName × Handle) × (slice_get hs k ≡ Some h) × (test h ≡ true) × (is_owned h.1.mode ≡ true)
      × (h.1.object ≡ n)
  where_found [] some = absurd (omega (arith, some))
  where_found (h ∷ hs) some = ⊎_elim
      (λ yes. let one = and_parts (test h) (is_owned h.1.mode && nat_eq h.1.object n) yes in
      let two = and_parts (is_owned h.1.mode) (nat_eq h.1.object n) one.1 in
      (0, h, refl, one.0, two.0, eqb-true h.1.object n two.1))
      (λ no. let r = where_found hs (let z = ap one_if no in omega (arith, some, z)) in
      (suc r.0, r.1, r.2, r.3, r.4, r.5))
      (cases_Bool (test h && (is_owned h.1.mode && nat_eq h.1.object n)))

-- Uses.

count_from : {A : Type 0} (g : A → ℕ) (m : ℕ) (xs : List A)
    → fold (λ (a : ℕ) (x : A). a + g x) m xs ≡ m + fold (λ (a : ℕ) (x : A). a + g x) 0 xs
count_from g m [] = omega arith
count_from {A} g m (x ∷ xs) =
    let one = count_from g (m + g x) xs in
    let two = count_from g (0 + g x) xs in
    omega (arith, one, two)

one_cond : (b : Bool) → cond b 1 0 ≡ one_if b
one_cond true = refl
one_cond false = refl

uses_counted : (n : ℕ) (us : List HandleUse) → count_by (λ (v : HandleUse). nat_eq v.handle.object n) us ≡ uses_of n us
uses_counted n [] = refl
uses_counted n (u ∷ us) =
    let one = count_from (λ (v : HandleUse). cond (nat_eq v.handle.object n) 1 0)
    (0 + cond (nat_eq u.handle.object n) 1 0) us in
    let two = one_cond (nat_eq u.handle.object n) in
    let three = uses_counted n us in
    omega (arith, one, two, three)

module _ (n : ℕ) where
  pub say_uses : (us : List HandleUse) → owning_uses n us + sharing_uses n us ≤ uses_of n us
  say_uses [] = omega arith
  say_uses (u ∷ us) = let rest = say_uses us in let here = owned_or_shared u.entry.mode (nat_eq u.handle.object n) in
      omega (arith, rest, here)

  use_found : (test : Mode → Bool) (count : List HandleUse → ℕ) → count [] ≡ 0
      → ((u : HandleUse) (us : List HandleUse) → count (u ∷ us) ≡ one_if
      (test u.entry.mode && nat_eq u.handle.object n) + count us)
      → (us : List HandleUse) → 0 < count us
      → (k : ℕ) × (u : HandleUse) × (slice_get us k ≡ Some u) × (test u.entry.mode ≡ true) × (u.handle.object ≡ n)
  use_found test count none more [] some = absurd (omega (arith, some, none))
  use_found test count none more (u ∷ us) some = ⊎_elim
      (λ yes. let p = and_parts (test u.entry.mode) (nat_eq u.handle.object n) yes in
      (0, u, refl, p.0, eqb-true u.handle.object n p.1))
      (λ no. let r = use_found test count none more us
      (let z = ap one_if no in let y = more u us in omega (arith, some, z, y)) in
      (suc r.0, r.1, r.2, r.3, r.4))
      (cases_Bool (test u.entry.mode && nat_eq u.handle.object n))

  pub owning_found : (us : List HandleUse) → 0 < owning_uses n us
      → (k : ℕ) × (u : HandleUse) × (slice_get us k ≡ Some u) × (is_owned u.entry.mode ≡ true) × (u.handle.object ≡ n)
  owning_found us some = use_found is_owned (owning_uses n) refl (λ u us. refl) us some

  pub sharing_found : (us : List HandleUse) → 0 < sharing_uses n us
      → (k : ℕ) × (u : HandleUse) × (slice_get us k ≡ Some u) × (is_shared u.entry.mode ≡ true) × (u.handle.object ≡ n)
  sharing_found us some = use_found is_shared (sharing_uses n) refl (λ u us. refl) us some

  owning_at : (us : List HandleUse) (k : ℕ) (u : HandleUse) → slice_get us k ≡ Some u → is_owned u.entry.mode ≡ true
      → u.handle.object ≡ n → 0 < owning_uses n us
  owning_at [] k u e is same = absurd (cc)
  owning_at (v ∷ us) zero u e is same =
      let z : one_if (is_owned v.entry.mode && nat_eq v.handle.object n) ≡ 1 =
      subst (λ (x : HandleUse). one_if (is_owned x.entry.mode && nat_eq x.handle.object n) ≡ 1) (sym (same_Some v u e))
      (rw (is, eq-eqb u.handle.object n same) refl) in omega (arith, z)
  owning_at (v ∷ us) (suc k) u e is same = let rest = owning_at us k u e is same in omega (arith, rest)

  sharing_at : (us : List HandleUse) (k : ℕ) (u : HandleUse) → slice_get us k ≡ Some u → is_shared u.entry.mode ≡ true
      → u.handle.object ≡ n → 0 < sharing_uses n us
  sharing_at [] k u e is same = absurd (cc)
  sharing_at (v ∷ us) zero u e is same =
      let z : one_if (is_shared v.entry.mode && nat_eq v.handle.object n) ≡ 1 =
      subst (λ (x : HandleUse). one_if (is_shared x.entry.mode && nat_eq x.handle.object n) ≡ 1) (sym (same_Some v u e))
      (rw (is, eq-eqb u.handle.object n same) refl) in omega (arith, z)
  sharing_at (v ∷ us) (suc k) u e is same = let rest = sharing_at us k u e is same in omega (arith, rest)

  -- what is used by an owner is used once
  pub used_once : (us : List HandleUse) → list_any (is_repeated us) us ≡ false → 0 < owning_uses n us → uses_of n us ≤ 1
  used_once us none some =
      let r = owning_found us some in
      let no = none_at (is_repeated us) us r.0 r.1 none r.2 in
      let z : nat_lt 1 (times_used us r.1) ≡ false = sym (ap (λ b. b && nat_lt 1 (times_used us r.1)) r.3) ∙ no in
      let y : times_used us r.1 ≡ uses_of n us =
      uses_counted r.1.handle.object us ∙ ap (λ m. uses_of m us) r.4 in
      let x : nat_lt 1 (uses_of n us) ≡ false = ap (nat_lt 1) (sym y) ∙ z in
      grind (arith, x)

pub use_at : (table : ClassTable) (content : Content) (entry : Option ℕ) (us : List HandleUse) (k : ℕ) (u : HandleUse)
    → AreUses table content entry us → slice_get us k ≡ Some u → IsUse table content entry u
use_at table content entry [] k u all e = absurd (cc)
use_at table content entry (v ∷ us) zero u all e = subst (IsUse table content entry) (same_Some v u e) all.0
use_at table content entry (v ∷ us) (suc k) u all e = use_at table content entry us k u all.1 e

all_found : (table : ClassTable) (content : Content) (entry : Option ℕ) (us : List HandleUse)
    → AreUses table content entry us → AreFound content us
all_found table content entry [] all = tt
all_found table content entry (u ∷ us) all = (all.0.found, all_found table content entry us all.1)

module _ (table : ClassTable) (content : Content) (rest : IsStoreAtRest table content) (entry : Option ℕ)
    (us : List HandleUse) (all : AreUses table content entry us) (once : list_any (is_repeated us) us ≡ false) where
  -- how many handles own an object that are lent
  abbrev pub lent : ℕ → ℕ
  lent n = owning_where (is_lent us) n content.handles

  -- and how many aren't
  pub carried : (n : ℕ) → in_handles owns n (map (note_in_run (puts_of_uses us)) content.handles) + lent n ≡ owning_handles n
      content.handles
  carried n = handles_owning_but n (is_lent us) (note_in_run (puts_of_uses us)) content.handles (λ h. refl)
      (λ h. go (is_lent us h) h.1.mode)
    where
      go : (b : Bool) (m : Mode) → owns (if b then unowned else held m any_state) ≡ (is_owned m && not b)
      go true Owned = refl
      go true Shared = refl
      go true Unowned = refl
      go false Owned = refl
      go false Shared = refl
      go false Unowned = refl

  -- the handle of a use that changes it is lent
  use_lent : (k : ℕ) (u : HandleUse) → slice_get us k ≡ Some u → changes u ≡ true → is_owned u.handle.mode ≡ true
      → 0 < lent u.handle.object
  use_lent k u e change own =
      let is = use_at table content entry us k u all e in
      where_at (is_lent us) u.handle.object content.handles is.place is.holder is.held
      (ap (is_put (puts_of_uses us)) (sym (one_name_tested u.name is.holder.0 is.named)) ∙ use_is_put us k u e change)
      (ap (λ (h : Handle). is_owned h.mode) is.same ∙ own) (ap (λ (h : Handle). h.object) is.same)

  -- a Shared handle that is used is on a marked object
  use_marks : (k : ℕ) (u : HandleUse) → slice_get us k ≡ Some u → is_shared u.handle.mode ≡ true
      → (nth_object content.objects u.handle.object).shared ≡ true
  use_marks k u e mode =
      let is = use_at table content entry us k u all e in
      subst (λ (h : Handle). (nth_object content.objects h.object).shared ≡ true) is.same
      (handle_marks table content rest is.place is.holder is.held
      (subst (λ (h : Handle). h.object < length content.objects) (sym is.same) is.there)
      (ap (λ (h : Handle). is_shared h.mode) is.same ∙ mode))

  module _ (n : ℕ) (there : n < length content.objects) (few : lent n ≤ owners table content n) where
    -- an owning use is of a lent handle, or it's the one for which the object is locked
    owning_use : 0 < owning_uses n us
        → (0 < lent n) ⊎ ((entry ≡ Some n) × ((nth_object content.objects n).shared ≡ true))
    owning_use some =
        let r = owning_found n us some in
        let is = use_at table content entry us r.0 r.1 all r.2 in
        ⊎_elim
        (λ own. inl (subst (λ m. 0 < lent m) r.4 (use_lent r.0 r.1 r.2
        (or_left (is_owned r.1.handle.mode && is_owned r.1.entry.mode) (is_shared r.1.entry.mode)
        (and_from (is_owned r.1.handle.mode) (is_owned r.1.entry.mode) own r.3)) own)))
        (λ share. inr (
          share.1 ∙ ap Some r.4,
          subst (λ m. (nth_object content.objects m).shared ≡ true) r.4
              (use_marks r.0 r.1 r.2 share.0),
        ))
        (is.takes r.3)

    -- a sharing use is of a lent handle, or of a marked object
    sharing_use : 0 < sharing_uses n us → (0 < lent n) ⊎ ((nth_object content.objects n).shared ≡ true)
    sharing_use some =
        let r = sharing_found n us some in
        let is = use_at table content entry us r.0 r.1 all r.2 in
        ⊎_elim
        (λ own. inl (subst (λ m. 0 < lent m) r.4 (use_lent r.0 r.1 r.2
        (or_right (is_owned r.1.handle.mode && is_owned r.1.entry.mode) (is_shared r.1.entry.mode) r.3) own)))
        (λ share. inr (subst (λ m. (nth_object content.objects m).shared ≡ true) r.4 (use_marks r.0 r.1 r.2 share)))
        (is.shares r.3)

    -- what is lent is used
    lent_used : 0 < lent n → (0 < owning_uses n us) ⊎ (0 < sharing_uses n us)
    lent_used some =
        let h = where_found (is_lent us) n content.handles some in
        let r = put_by_use content us h.1.0 (all_found table content entry us all) h.3 in
        let itself = found_itself content.handles h.0 h.1 rest.is_content.order h.2 in
        let same : r.1.handle ≡ h.1.1 =
        same_Some r.1.handle h.1.1 (sym r.5 ∙ ap (handle_at content) r.3 ∙ itself) in
        let object : r.1.handle.object ≡ n = ap (λ (x : Handle). x.object) same ∙ h.5 in
        ⊎_elim
        (λ own. inl (owning_at n us r.0 r.1 r.2 (and_parts (is_owned r.1.handle.mode) (is_owned r.1.entry.mode) own).1
        object))
        (λ not. inr (sharing_at n us r.0 r.1 r.2
        (sym (ap (λ b. b || is_shared r.1.entry.mode) not) ∙ r.4) object))
        (cases_Bool (is_owned r.1.handle.mode && is_owned r.1.entry.mode))

    owns_few : 0 < owning_uses n us → (owning_uses n us ≡ 1) × (sharing_uses n us ≡ 0)
    owns_few some =
        let most = used_once n us once some in let both = say_uses n us in (
          (let z : owning_uses n us ≡ 1 = omega (arith, some, most, both) in z),
          (let z : sharing_uses n us ≡ 0 = omega (arith, some, most, both) in z),
        )

    zero_or : (m : ℕ) → (m ≡ 0) ⊎ (0 < m)
    zero_or zero = inl refl
    zero_or (suc m) = inr (omega arith)

    -- one place owns it at most
    pub total_one : owning_uses n us + owners table content n ≤ 1 + lent n
    total_one =
        let one = one_owner table content rest n there in
        ⊎_elim
        (λ none. omega (arith, one, none))
        (λ some. let few = owns_few some in ⊎_elim
        (λ l. let z = few.0 in omega (arith, one, l, z))
        (λ s. let z = few.0 in let y = none_if_shared table content rest n there s.1 in omega (arith, z, y))
        (owning_use some))
        (zero_or (owning_uses n us))

    -- none where it's disowned and not shared
    pub total_disowned : (nth_object content.objects n).disowned ≡ true → (nth_object content.objects n).shared ≡ false
        → owning_uses n us + owners table content n ≤ lent n
    total_disowned mark unshared =
        let y = none_if_disowned table content rest n there mark in
        ⊎_elim
        (λ none. omega (arith, y, none))
        (λ some. ⊎_elim
        (λ l. absurd (omega (arith, l, few, y)))
        (λ s. absurd (both_ways _ unshared s.1))
        (owning_use some))
        (zero_or (owning_uses n us))

    -- one that was shared is owned only where it's locked for the whole call
    pub total_shared : (nth_object content.objects n).shared ≡ true → lent n < owning_uses n us + owners table content n
        → entry ≡ Some n
    total_shared mark more =
        let y = none_if_shared table content rest n there mark in
        ⊎_elim
        (λ none. absurd (omega (arith, y, none, more)))
        (λ some. ⊎_elim
        (λ l. absurd (omega (arith, l, few, y)))
        (λ s. s.0)
        (owning_use some))
        (zero_or (owning_uses n us))

    -- one that comes to be shared isn't owned
    pub total_newly : (nth_object content.objects n).shared ≡ false → 0 < sharing_uses n us
        → owning_uses n us + owners table content n ≤ lent n
    total_newly unshared some =
        let one = one_owner table content rest n there in
        let l = ⊎_elim (λ l. l) (λ s. absurd (both_ways _ unshared s)) (sharing_use some) in
        ⊎_elim
        (λ none. omega (arith, one, none, l))
        (λ has. absurd (let z = (owns_few has).1 in omega (arith, z, some)))
        (zero_or (owning_uses n us))

    -- an asset that must have an owner has one
    pub total_asset : is_asset table (nth_object content.objects n) ≡ true
        → (nth_object content.objects n).shared ≡ false
        → (nth_object content.objects n).disowned ≡ false → sharing_uses n us ≡ 0
        → lent n < owning_uses n us + owners table content n
    total_asset asset unshared kept none =
        let one = one_owner table content rest n there in
        let has = asset_has_owner table content rest n there asset unshared kept in
        ⊎_elim
        (λ l. omega (arith, l, has))
        (λ l. ⊎_elim
        (λ own. omega (arith, own, has, few, one))
        (λ share. absurd (omega (arith, none, share)))
        (lent_used l))
        (zero_or (lent n))
