-- What is known after two branches may take the place of what is known after each.
use Rattle.std.proofs.Common.{◌≡◌, Bool, true, false, not, ◌&&◌, ◌||◌, Option, Some, None, refl, sym, ap, subst, ◌∙◌, ◌⊎◌, inl, inr, ⊎_elim}
use Rattle.std.specs.Prelude.{if◌then◌else◌}
use Rattle.std.proofs.lemmas.Bool.{both_ways, and_parts, and_from, and_cases, or_parts, not-false}
use Rattle.ob_perm.specs.Permissions.{Permission, owns, joined}
use Rattle.ob_table.specs.Tables.{ClassTable}
use Rattle.ob_table.specs.declared.seen.Kind.{Kind}
use Rattle.ob_silica_places.specs.Known.{Known, known}
use Rattle.ob_flow_spec.specs.Contexts.{is_asset, is_owned_asset, permission_on}
use Rattle.ob_flow_spec.specs.Joining.{same_kind, same_mode, joined_known, agrees_with, join_loses}
use Rattle.ob_places_laws.specs.Serving.{Allows}
use Rattle.ob_places_laws.specs.Agreeing.{Agrees, MayReplace}
use Rattle.ob_places_laws.proofs.Permissions.{same_mode_owns, joined_owns, joined_mode_left, joined_mode_right}
use Rattle.ob_places_laws.proofs.Serves.{joined_allows_left, joined_allows_right}
use Rattle.ob_places_laws.proofs.Conversions.{same_kind_is, same_kind_itself}

-- Standing for another.

pub stands_itself : (table : ClassTable) (x : Option Known) → MayReplace table x x
stands_itself table x = record { agrees = λ noted a. a; assets = λ e. e }

pub stands_onward : (table : ClassTable) (x y z : Option Known) → MayReplace table x y → MayReplace table y z
    → MayReplace table x z
stands_onward table x y z first second =
    record {
      agrees = λ noted a. second.agrees noted (first.agrees noted a);
      assets = λ e. second.assets
          (first.assets e);
    }

-- Nothing known may take the place of what owns no asset.
pub unset_stands : (table : ClassTable) (x : Option Known) → is_owned_asset table x ≡ false → MayReplace table x None
unset_stands table x e =
    record { agrees = λ noted a. tt; assets = λ o. absurd (both_ways (is_owned_asset table x) e o) }

-- A weaker permission may take the place of another, if an owner's of an asset stays an owner's.
pub weaker_stands : (table : ClassTable) (k : Kind) (p q : Permission) → ((r : Permission) → Allows p r → Allows q r)
    → (owns p ≡ true → is_asset table k ≡ true → owns q ≡ true) → MayReplace table (Some (known k p)) (Some (known k q))
weaker_stands table k p q more keeps = record {
  agrees = agrees;
  assets = λ e. let parts = and_parts (owns p) (is_asset table k) e in
      and_from (owns q) (is_asset table k) (keeps parts.0 parts.1) parts.1;
}
  where
    agrees : (noted : Option Known) → Agrees (Some (known k p)) noted → Agrees (Some (known k q)) noted
    agrees None a = a
    agrees (Some noted) a = (a.0, more noted.permission a.1)

-- Branches.

-- Both hold an owner of an asset in the same way, or none of them does.
held_alike : (table : ClassTable) (x y : Known) → join_loses table (Some x) (Some y) ≡ false
    → ((same_kind x.kind y.kind ≡ true) × (same_mode x.permission y.permission ≡ true))
    ⊎ ((is_owned_asset table (Some x) ≡ false) × (is_owned_asset table (Some y) ≡ false))
held_alike table x y e = ⊎_elim
    (λ same. inl (and_parts (same_kind x.kind y.kind) (same_mode x.permission y.permission)
    (not-false (agrees_with x y) same)))
    (λ none. inr (or_parts (is_owned_asset table (Some x)) (is_owned_asset table (Some y)) none))
    (and_cases (not (agrees_with x y)) (is_owned_asset table (Some x) || is_owned_asset table (Some y)) e)

both_set : (table : ClassTable) (k : Kind) (p q : Permission)
    → (same_mode p q ≡ true) ⊎ ((owns p && is_asset table k ≡ false) × (owns q && is_asset table k ≡ false))
    → MayReplace table (Some (known k p)) (Some (known k (joined p q)))
    × MayReplace table (Some (known k q)) (Some (known k (joined p q)))
both_set table k p q alike = (
  weaker_stands table k p (joined p q) (λ r a. joined_allows_left p q r a) (λ o a. owner_left alike o a),
  weaker_stands table k q (joined p q) (λ r a. joined_allows_right p q r a) (λ o a. owner_right alike o a),
)
  where
    owner_left : (same_mode p q ≡ true) ⊎ ((owns p && is_asset table k ≡ false) × (owns q && is_asset table k ≡ false))
        → owns p ≡ true → is_asset table k ≡ true → owns (joined p q) ≡ true
    owner_left (inl m) o a = joined_owns p q ∙ and_from (owns p) (owns q) o (sym (same_mode_owns p q m) ∙ o)
    owner_left (inr n) o a =
        absurd (both_ways (owns p && is_asset table k) n.0 (and_from (owns p) (is_asset table k) o a))

    owner_right : (same_mode p q ≡ true) ⊎ ((owns p && is_asset table k ≡ false) × (owns q && is_asset table k ≡ false))
        → owns q ≡ true → is_asset table k ≡ true → owns (joined p q) ≡ true
    owner_right (inl m) o a = joined_owns p q ∙ and_from (owns p) (owns q) (same_mode_owns p q m ∙ o) o
    owner_right (inr n) o a =
        absurd (both_ways (owns q && is_asset table k) n.1 (and_from (owns q) (is_asset table k) o a))

set_in_both : (table : ClassTable) (k l : Kind) (p q : Permission)
    → join_loses table (Some (known k p)) (Some (known l q)) ≡ false
    → (b : Bool) → same_kind k l ≡ b
    → MayReplace table (Some (known k p)) (if b then Some (known k (joined p q)) else None)
    × MayReplace table (Some (known l q)) (if b then Some (known k (joined p q)) else None)
set_in_both table k l p q e true same =
    subst (λ m. MayReplace table (Some (known k p)) (Some (known k (joined p q)))
    × MayReplace table (Some (known m q)) (Some (known k (joined p q))))
    (same_kind_is k l same) (both_set table k p q (alike (held_alike table (known k p) (known l q) e)))
  where
    alike : ((same_kind k l ≡ true) × (same_mode p q ≡ true))
        ⊎ ((owns p && is_asset table k ≡ false) × (owns q && is_asset table l ≡ false))
        → (same_mode p q ≡ true) ⊎ ((owns p && is_asset table k ≡ false) × (owns q && is_asset table k ≡ false))
    alike (inl m) = inl m.1
    alike (inr n) = inr (n.0, subst (λ m. owns q && is_asset table m ≡ false) (sym (same_kind_is k l same)) n.1)
set_in_both table k l p q e false other = none (held_alike table (known k p) (known l q) e)
  where
    none : ((same_kind k l ≡ true) × (same_mode p q ≡ true))
        ⊎ ((owns p && is_asset table k ≡ false) × (owns q && is_asset table l ≡ false))
        → MayReplace table (Some (known k p)) None × MayReplace table (Some (known l q)) None
    none (inl m) = absurd (both_ways (same_kind k l) other m.0)
    none (inr n) = (unset_stands table (Some (known k p)) n.0, unset_stands table (Some (known l q)) n.1)

-- Where no owner of an asset is lost, what is known after both branches may take the place of what each knew.
pub joined_stands : (table : ClassTable) (x y : Option Known) → join_loses table x y ≡ false
    → MayReplace table x (joined_known x y) × MayReplace table y (joined_known x y)
joined_stands table None None e = (stands_itself table None, stands_itself table None)
joined_stands table None (Some y) e = (stands_itself table None, unset_stands table (Some y) e)
joined_stands table (Some x) None e = (unset_stands table (Some x) e, stands_itself table None)
joined_stands table (Some x) (Some y) e =
    set_in_both table x.kind y.kind x.permission y.permission e (same_kind x.kind y.kind) refl

-- Of a place that both hold in the same way, with one kind, it is held so after them, and is of that kind.
pub joined_alike : (k : Kind) (p q : Permission)
    → joined_known (Some (known k p)) (Some (known k q)) ≡ Some (known k (joined p q))
joined_alike k p q = ap (λ b. if b then Some (known k (joined p q)) else None) (same_kind_itself k)

pub joined_mode : (k : Kind) (p q : Permission) → same_mode p q ≡ true
    → (same_mode (permission_on (joined_known (Some (known k p)) (Some (known k q)))) p ≡ true)
    × (same_mode (permission_on (joined_known (Some (known k p)) (Some (known k q)))) q ≡ true)
joined_mode k p q e =
    subst (λ x. (same_mode (permission_on x) p ≡ true) × (same_mode (permission_on x) q ≡ true))
    (sym (joined_alike k p q))
    (joined_mode_left p q e, joined_mode_right p q e)
