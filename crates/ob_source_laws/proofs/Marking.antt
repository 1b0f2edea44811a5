-- Marks keep what a world keeps.
use Rattle.std.proofs.Common.{ℕ, Bool, true, false, List, [], ◌∷◌, Option, Some, None, refl}
use Rattle.std.specs.Prelude.{if◌then◌else◌, slice_get}
use Rattle.std.specs.Option.{option_map_or}
use Rattle.ob_base.specs.declared.id.ContractId.{ContractId}
use Rattle.ob_base.specs.declared.permission.Perm.{Perm}
use Rattle.ob_perm.specs.Permissions.{is_shared}
use Rattle.ob_perm.specs.Masks.{permission_of}
use Rattle.ob_table.specs.declared.contract.ResolvedType.{ResolvedType}
use Rattle.ob_table.specs.declared.contract.ResolvedType.TheVariants.{Int, Bool as BoolKind, Text, Reference}
use Rattle.ob_table.specs.declared.contract.Field.{Field}
use Rattle.ob_table.specs.declared.contract.Param.{Param}
use Rattle.ob_table.specs.declared.contract.Contract.{Contract}
use Rattle.ob_table.specs.declared.contract.Signature.{Signature}
use Rattle.ob_heap_spec.specs.Values.{Value, int_value, bool_value, text_value, reference}
use Rattle.ob_heap_spec.specs.Worlds.{World, read_object}
use Rattle.ob_heap_spec.specs.Marks.{has_mark, mark_shared, mark_disowned, comes_into}
use Rattle.ob_source_meaning.specs.Fields.{comes_into_field, come_into_fields}
use Rattle.ob_source_meaning.specs.Bodies.{args_come, this_comes, result_goes, comes_in}
use Rattle.ob_source_laws.proofs.Follows.{Follows, follows_self, follows_on, follows_read_object, follows_edit, told_read, spared_told}

marked_unless : {t : Option ℕ} (b : Bool) (w v u : World) → Follows t w v → Follows t v u → Follows t w (if b then v else u)
marked_unless true w v u a b = a
marked_unless false w v u a b = follows_on a b

pub follows_mark_shared : {t : Option ℕ} (w : World) (n : ℕ) → Follows t w (mark_shared n w)
follows_mark_shared w n =
    marked_unless (has_mark (λ o. o.shared) (read_object w n) n) w (read_object w n) _ (follows_read_object w n)
    (follows_edit (read_object w n) (λ o. record o { shared = true }) n
    (λ o. record { contract = refl; shared = λ e. refl; disowned = λ e. e }) (spared_told _ (read_object w n) n (told_read w n)))

pub follows_mark_disowned : {t : Option ℕ} (w : World) (n : ℕ) → Follows t w (mark_disowned n w)
follows_mark_disowned w n =
    marked_unless (has_mark (λ o. o.disowned) (read_object w n) n) w (read_object w n) _ (follows_read_object w n)
    (follows_edit (read_object w n) (λ o. record o { disowned = true }) n
    (λ o. record { contract = refl; shared = λ e. e; disowned = λ e. refl }) (spared_told _ (read_object w n) n (told_read w n)))

marked_if : {t : Option ℕ} (b : Bool) (w : World) (n : ℕ) → Follows t w (if b then mark_shared n w else w)
marked_if true w n = follows_mark_shared w n
marked_if false w n = follows_self w

pub follows_into : {t : Option ℕ} (w : World) (kind : ResolvedType) (v : Value) → Follows t w (comes_into kind v w)
follows_into w (Reference id p) (reference n) = marked_if (is_shared (permission_of p)) w n
follows_into w (Reference id p) (int_value z) = follows_self w
follows_into w (Reference id p) (bool_value b) = follows_self w
follows_into w (Reference id p) (text_value bytes) = follows_self w
follows_into w Int v = follows_self w
follows_into w BoolKind v = follows_self w
follows_into w Text v = follows_self w

field_some : {t : Option ℕ} (w : World) (v : Value) (f : Option Field)
    → Follows t w (option_map_or (λ (field : Field). comes_into field.of v w) f w)
field_some w v None = follows_self w
field_some w v (Some f) = follows_into w f.of v

pub follows_field : {t : Option ℕ} (w : World) (c : Contract) (k : ℕ) (v : Value) → Follows t w (comes_into_field c k v w)
follows_field w c k v = field_some w v (slice_get c.fields k)

pub follows_fields : {t : Option ℕ} (w : World) (c : Contract) (given : List (ℕ × Value)) → Follows t w (come_into_fields c given w)
follows_fields w c [] = follows_self w
follows_fields w c ((k, v) ∷ given) =
    follows_on (follows_field w c k v) (follows_fields (comes_into_field c k v w) c given)

pub follows_args : {t : Option ℕ} (w : World) (params : List Param) (args : List Value) → Follows t w (args_come params args w)
follows_args w [] args = follows_self w
follows_args w (p ∷ params) [] = follows_self w
follows_args w (p ∷ params) (v ∷ args) =
    follows_on (follows_into w p.of v) (follows_args (comes_into p.of v w) params args)

pub follows_this : {t : Option ℕ} (w : World) (contract : ContractId) (p : Perm) (n : ℕ) → Follows t w (this_comes contract p n w)
follows_this w contract p n = marked_if (is_shared (permission_of p)) w n

pub follows_in : {t : Option ℕ} (w : World) (contract : ContractId) (s : Signature) (n : ℕ) (args : List Value)
    → Follows t w (comes_in contract s n args w)
follows_in w contract s n args =
    follows_on (follows_this w contract s.entry n) (follows_args (this_comes contract s.entry n w) s.params args)

pub follows_result : {t : Option ℕ} (w : World) (kind : Option ResolvedType) (v : Option Value) → Follows t w (result_goes kind v w)
follows_result w (Some kind) (Some v) = follows_into w kind v
follows_result w (Some kind) None = follows_self w
follows_result w None v = follows_self w
