-- What a join leaves may take the place of what each of its branches leaves.
use Rattle.std.proofs.Common.{◌≡◌, ⊎_elim, Bool, true, false, Option, Some, None, refl, sym, ap, ◌∙◌, arith}
use Rattle.std.specs.Prelude.{not, ◌&&◌, ◌||◌, if◌then◌else◌}
use Rattle.std.proofs.lemmas.Bool.{both_ways, cases_Bool, or_left, or_right, and_parts, or_parts}
use Rattle.ob_perm.specs.Permissions.{Permission, owned, shared, unowned, owns, joined}
use Rattle.ob_table.specs.Tables.{ClassTable}
use Rattle.ob_table.specs.declared.seen.Kind.{Kind}
use Rattle.ob_table.specs.declared.seen.Kind.TheVariants.{Int, Bool as BoolKind, Text, Reference}
use Rattle.ob_silica_places.specs.Known.{Known, known}
use Rattle.ob_silica_places.specs.Places.{Location, slot, field, this}
use Rattle.ob_silica_steps.specs.Cells.{Cell}
use Rattle.ob_flow_spec.specs.Contexts.{BodyFrame, Context, permission_on, permission_at, is_owned_asset}
use Rattle.ob_flow_spec.specs.Joining.{same_kind, same_mode, joined_known, agrees_with, join_loses, joined_context}
use Rattle.ob_flow_laws.specs.Joining.{JoinsBranches}
use Rattle.ob_places_laws.specs.Serving.{Allows}
use Rattle.ob_coherent_spec.specs.Saying.{Agrees, AgreesWith}
use Rattle.ob_coherent_spec.specs.Remaining.{IsPlaceIn, LosesNone, Leads, KnowsThis}

-- Kinds and permissions.

pub kind_same : (k l : Kind) → same_kind k l ≡ true → k ≡ l
kind_same (Reference c) (Reference d) e = ap Reference (same_id c d e)
  where
    same_id : (c d : Rattle.ob_base.specs.declared.id.ContractId.ContractId) → Rattle.std.specs.Prelude.nat_eq c.0 d.0 ≡ true → c ≡ d
    same_id c d e = ap (λ n. record { 0 = n }) (grind arith)
kind_same (Reference c) Int e = absurd (cc)
kind_same (Reference c) BoolKind e = absurd (cc)
kind_same (Reference c) Text e = absurd (cc)
kind_same Int Int e = refl
kind_same Int (Reference d) e = absurd (cc)
kind_same Int BoolKind e = absurd (cc)
kind_same Int Text e = absurd (cc)
kind_same BoolKind BoolKind e = refl
kind_same BoolKind (Reference d) e = absurd (cc)
kind_same BoolKind Int e = absurd (cc)
kind_same BoolKind Text e = absurd (cc)
kind_same Text Text e = refl
kind_same Text (Reference d) e = absurd (cc)
kind_same Text Int e = absurd (cc)
kind_same Text BoolKind e = absurd (cc)

allows_first : (p q r : Permission) → Allows p r → Allows (joined p q) r
allows_first (owned a) (owned b) r h = (h.0, h.1, λ i lt y. or_left (a i) (b i) (h.2 i lt y))
allows_first (owned a) shared r h = tt
allows_first (owned a) unowned r h = tt
allows_first shared (owned b) r h = tt
allows_first shared shared r h = h
allows_first shared unowned r h = tt
allows_first unowned (owned b) r h = tt
allows_first unowned shared r h = tt
allows_first unowned unowned r h = tt

allows_second : (p q r : Permission) → Allows q r → Allows (joined p q) r
allows_second (owned a) (owned b) r h = (h.0, h.1, λ i lt y. or_right (a i) (b i) (h.2 i lt y))
allows_second (owned a) shared r h = tt
allows_second (owned a) unowned r h = tt
allows_second shared (owned b) r h = tt
allows_second shared shared r h = h
allows_second shared unowned r h = tt
allows_second unowned (owned b) r h = tt
allows_second unowned shared r h = tt
allows_second unowned unowned r h = tt

mode_first : (p q : Permission) → same_mode p q ≡ true → same_mode (joined p q) p ≡ true
mode_first (owned a) (owned b) e = refl
mode_first (owned a) shared e = absurd (cc)
mode_first (owned a) unowned e = absurd (cc)
mode_first shared (owned b) e = absurd (cc)
mode_first shared shared e = refl
mode_first shared unowned e = absurd (cc)
mode_first unowned (owned b) e = absurd (cc)
mode_first unowned shared e = absurd (cc)
mode_first unowned unowned e = refl

mode_second : (p q : Permission) → same_mode p q ≡ true → same_mode (joined p q) q ≡ true
mode_second (owned a) (owned b) e = refl
mode_second (owned a) shared e = absurd (cc)
mode_second (owned a) unowned e = absurd (cc)
mode_second shared (owned b) e = absurd (cc)
mode_second shared shared e = refl
mode_second shared unowned e = absurd (cc)
mode_second unowned (owned b) e = absurd (cc)
mode_second unowned shared e = absurd (cc)
mode_second unowned unowned e = refl

owns_first : (p q : Permission) → same_mode p q ≡ true → owns p ≡ true → owns (joined p q) ≡ true
owns_first (owned a) (owned b) m e = refl
owns_first (owned a) shared m e = absurd (cc)
owns_first (owned a) unowned m e = absurd (cc)
owns_first shared q m e = absurd (cc)
owns_first unowned q m e = absurd (cc)

owns_second : (p q : Permission) → same_mode p q ≡ true → owns q ≡ true → owns (joined p q) ≡ true
owns_second (owned a) (owned b) m e = refl
owns_second shared (owned b) m e = absurd (cc)
owns_second unowned (owned b) m e = absurd (cc)
owns_second p shared m e = absurd (cc)
owns_second p unowned m e = absurd (cc)

-- One place.

-- the second may take the place of the first
record Weakens (table : ClassTable) (x j : Option Known) : Type 0 where
  pub known : (c : Option Cell) → Agrees x c → Agrees j c
  pub kept : LosesNone table x j

-- what agrees with a kind and a permission agrees with another permission that allows as much
pub agrees_as : (k l : Kind) (p q : Permission) → k ≡ l → ((r : Permission) → Allows p r → Allows q r) → (c : Option Cell)
    → AgreesWith (known k p) c → AgreesWith (known l q) c
agrees_as k l p q e more None h = h
agrees_as k l p q e more (Some c) h = (h.0 ∙ e, more c.note.permission h.1)

-- an owner of an asset is neither of the two
owned_neither : (a x y : Bool) → (not a && (x || y)) ≡ false → a ≡ false → (x ≡ false) × (y ≡ false)
owned_neither true x y e z = absurd (cc)
owned_neither false x y e z = or_parts x y e

both_set : (table : ClassTable) (x y : Known) → join_loses table (Some x) (Some y) ≡ false
    → Weakens table (Some x) (joined_known (Some x) (Some y)) × Weakens table (Some y) (joined_known (Some x) (Some y))
both_set table x y none = same_or_not (same_kind x.kind y.kind) refl
  where
    first_kept : same_kind x.kind y.kind ≡ true → is_owned_asset table (Some x) ≡ true → owns (joined x.permission y.permission) ≡ true
    first_kept s o = ⊎_elim
        (λ m. owns_first x.permission y.permission m (and_parts _ _ o).0)
        (λ m. absurd (both_ways _ (owned_neither (agrees_with x y) (is_owned_asset table (Some x)) (is_owned_asset table (Some y)) none (rw s m)).0 o))
        (cases_Bool (same_mode x.permission y.permission))

    second_kept : same_kind x.kind y.kind ≡ true → is_owned_asset table (Some y) ≡ true → owns (joined x.permission y.permission) ≡ true
    second_kept s o = ⊎_elim
        (λ m. owns_second x.permission y.permission m (and_parts _ _ o).0)
        (λ m. absurd (both_ways _ (owned_neither (agrees_with x y) (is_owned_asset table (Some x)) (is_owned_asset table (Some y)) none (rw s m)).1 o))
        (cases_Bool (same_mode x.permission y.permission))

    joined_is : (b : Bool) → Option Known
    joined_is b = if b then Some (known x.kind (joined x.permission y.permission)) else None

    same_or_not : (b : Bool) → same_kind x.kind y.kind ≡ b
        → Weakens table (Some x) (joined_known (Some x) (Some y)) × Weakens table (Some y) (joined_known (Some x) (Some y))
    same_or_not true s =
        let z : joined_known (Some x) (Some y) ≡ Some (known x.kind (joined x.permission y.permission)) = rw s refl in (
          record {
            known = λ c h. rw z (agrees_as x.kind x.kind x.permission _ refl (allows_first x.permission y.permission) c h);
            kept = λ o. rw z (first_kept s o);
          },
          record {
            known = λ c h. rw z (agrees_as y.kind x.kind y.permission _ (sym (kind_same x.kind y.kind s)) (allows_second x.permission y.permission) c h);
            kept = λ o. rw z (second_kept s o);
          },
        )
    same_or_not false s =
        let z : joined_known (Some x) (Some y) ≡ None = rw s refl in
        let neither = owned_neither (agrees_with x y) (is_owned_asset table (Some x)) (is_owned_asset table (Some y)) none (rw s refl) in (
          record { known = λ c h. rw z tt; kept = λ o. absurd (both_ways _ neither.0 o) },
          record { known = λ c h. rw z tt; kept = λ o. absurd (both_ways _ neither.1 o) },
        )

weakens_both : (table : ClassTable) (x y : Option Known) → join_loses table x y ≡ false
    → Weakens table x (joined_known x y) × Weakens table y (joined_known x y)
weakens_both table None None none = (record { known = λ c h. h; kept = λ o. absurd (cc) }, record { known = λ c h. h; kept = λ o. absurd (cc) })
weakens_both table None (Some y) none = (record { known = λ c h. h; kept = λ o. absurd (cc) }, record { known = λ c h. tt; kept = λ o. absurd (both_ways _ none o) })
weakens_both table (Some x) None none = (record { known = λ c h. tt; kept = λ o. absurd (both_ways _ none o) }, record { known = λ c h. h; kept = λ o. absurd (cc) })
weakens_both table (Some x) (Some y) none = both_set table x y none

-- what is known after a join agrees with what agreed before
known_first : (x y : Option Known) (c : Option Cell) → Agrees x c → Agrees (joined_known x y) c
known_first None y c h = tt
known_first (Some x) None c h = tt
known_first (Some x) (Some y) c h = by_kind (same_kind x.kind y.kind) refl
  where
    by_kind : (b : Bool) → same_kind x.kind y.kind ≡ b → Agrees (joined_known (Some x) (Some y)) c
    by_kind true s = rw s (agrees_as x.kind x.kind x.permission _ refl (allows_first x.permission y.permission) c h)
    by_kind false s = rw s tt

known_second : (x y : Option Known) (c : Option Cell) → Agrees y c → Agrees (joined_known x y) c
known_second None y c h = tt
known_second (Some x) None c h = tt
known_second (Some x) (Some y) c h = by_kind (same_kind x.kind y.kind) refl
  where
    by_kind : (b : Bool) → same_kind x.kind y.kind ≡ b → Agrees (joined_known (Some x) (Some y)) c
    by_kind true s = rw s (agrees_as y.kind x.kind y.permission _ (sym (kind_same x.kind y.kind s)) (allows_second x.permission y.permission) c h)
    by_kind false s = rw s tt

-- Contexts.

-- `this` stays known
this_joined : (b : BodyFrame) (g h : Context) → KnowsThis b g → KnowsThis b h → KnowsThis b (joined_context g h)
this_joined b g h x y = (joined x.0 y.0, rw (x.1, y.1) (rw (same_kind_self b) refl))
  where
    same_kind_self : (b : BodyFrame) → same_kind (Reference b.here) (Reference b.here) ≡ true
    same_kind_self b = grind arith

this_held : (b : BodyFrame) (g h : Context) → KnowsThis b g → KnowsThis b h
    → permission_at (joined_context g h) this ≡ joined (permission_at g this) (permission_at h this)
unfolding this_joined
this_held b g h x y = rw ((this_joined b g h x y).1, x.1, y.1) refl

pub known_this_joined : (b : BodyFrame) (g h : Context) → KnowsThis b g → KnowsThis b h → KnowsThis b (joined_context g h)
known_this_joined = this_joined

place_kept : (b : BodyFrame) (under : Permission) (g h : Context) → JoinsBranches b under g h → (p : Location) → IsPlaceIn b p
    → join_loses b.table (g p) (h p) ≡ false
place_kept b under g h j (slot k) inside = j.slots k inside
place_kept b under g h j (field f) inside = (j.fields f inside).loses_none

-- the joined context may take the place of that of the first branch
pub leads_first : (b : BodyFrame) (under : Permission) (g h : Context) → KnowsThis b g → KnowsThis b h
    → JoinsBranches b under g h → Leads b g (joined_context g h)
leads_first b under g h x y j = record {
  known = λ p c. known_first (g p) (h p) c;
  kept = λ p inside. (weakens_both b.table (g p) (h p) (place_kept b under g h j p inside)).0.kept;
  mode = rw (this_held b g h x y) (mode_first _ _ j.itself);
}

-- and for that of the second
pub leads_second : (b : BodyFrame) (under : Permission) (g h : Context) → KnowsThis b g → KnowsThis b h
    → JoinsBranches b under g h → Leads b h (joined_context g h)
leads_second b under g h x y j = record {
  known = λ p c. known_second (g p) (h p) c;
  kept = λ p inside. (weakens_both b.table (g p) (h p) (place_kept b under g h j p inside)).1.kept;
  mode = rw (this_held b g h x y) (mode_second _ _ j.itself);
}

pub same_mode_self : (p : Permission) → same_mode p p ≡ true
same_mode_self (owned a) = refl
same_mode_self shared = refl
same_mode_self unowned = refl

-- a context may take the place of itself
pub leads_self : (b : BodyFrame) (g : Context) → Leads b g g
leads_self b g = record { known = λ p c h. h; kept = λ p inside o. owns_known (g p) o; mode = same_mode_self _ }
  where
    owns_known : (x : Option Known) → is_owned_asset b.table x ≡ true → owns (permission_on x) ≡ true
    owns_known None o = absurd (cc)
    owns_known (Some x) o = (and_parts _ _ o).0
