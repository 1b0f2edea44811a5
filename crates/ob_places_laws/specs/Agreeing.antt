-- When what is noted of a place agrees with what is known of it (Coblenz et al., TOPLAS 42(3), 2020, "Silica"; the
-- statements are this project's own).
use Rattle.std.specs.Prelude.{◌≡◌, true, Option, Some, None, ⊤}
use Rattle.ob_table.specs.Tables.{ClassTable}
use Rattle.ob_silica_places.specs.Known.{Known}
use Rattle.ob_flow_spec.specs.Contexts.{is_owned_asset}
use Rattle.ob_places_laws.specs.Serving.{Allows}

-- Of a place of which something is known there is a note, of the same kind and with a permission that serves. Where
-- nothing is known there may be a note or none.
abbrev pub Agrees : Option Known → Option Known → Type 0
Agrees None noted = ⊤
Agrees (Some k) None = ⊥
Agrees (Some k) (Some noted) = (noted.kind ≡ k.kind) × Allows k.permission noted.permission

-- The second may take the place of the first: what agrees with the first agrees with it, and it owns an asset where that does.
pub record MayReplace (table : ClassTable) (x y : Option Known) : Type 0 where
  pub agrees : (noted : Option Known) → Agrees x noted → Agrees y noted
  pub assets : is_owned_asset table x ≡ true → is_owned_asset table y ≡ true
