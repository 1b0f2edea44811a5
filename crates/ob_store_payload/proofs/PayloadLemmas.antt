-- The payload of what a delta says anew.
use Rattle.std.proofs.Common.{◌≡◌, ◌∙◌, ℕ, suc, true, false, List, [], ◌∷◌, ◌++◌, length, Some, None, refl, sym, ap, arith}
use Rattle.std.specs.Prelude.{◌==◌, ◌&&◌, Vec}
use Rattle.std.specs.declared.alloc.Global.{Global}
use Rattle.ob_base.specs.Bytes.{u32_bytes}
use Rattle.ob_table.specs.Tables.{ClassTable}
use Rattle.ob_format_spec.specs.Combinators.{each_bytes}
use Rattle.ob_store_spec.specs.Payloads.{Changes, object, handle, payload}
use Rattle.ob_store_spec.specs.Settling.{is_empty, say_nothing}
use Rattle.ob_store_payload.specs.declared.rows.Rows.{Rows}
use Rattle.ob_store_payload.specs.Rows.{AreRows}
use Rattle.ob_store_payload.specs.Writing.{IsPayload}

not_zero : (n : ℕ) → false ≡ (suc n == 0)
not_zero n = grind arith

empty_is : {A : Type 0} (xs : List A) → is_empty xs ≡ (length xs == 0)
empty_is [] = refl
empty_is (x ∷ xs) = not_zero (length xs)

module _ (table : ClassTable) (changes : Changes) (os hs : Rows) (objects : AreRows (object table).bytes changes.objects os) (handles : AreRows handle.bytes changes.handles hs) where
  nothing_is : say_nothing changes ≡ (os.count == 0 && hs.count == 0)
  nothing_is =
      ap (λ b. b && is_empty changes.handles) (empty_is changes.objects ∙ ap (λ n. n == 0) (sym objects.count))
      ∙ ap (λ b. (os.count == 0) && b) (empty_is changes.handles ∙ ap (λ n. n == 0) (sym handles.count))

  pub says_nothing : (os.count == 0 && hs.count == 0) ≡ true → IsPayload table changes None
  says_nothing empty = nothing_is ∙ empty

  spelled : (payload table).bytes changes ≡ (u32_bytes os.count ++ os.bytes.items) ++ (u32_bytes hs.count ++ hs.bytes.items)
  unfolding payload
  spelled =
      ap (λ n. (u32_bytes n ++ each_bytes (object table).bytes changes.objects) ++ (u32_bytes (length changes.handles) ++ each_bytes handle.bytes changes.handles)) (sym objects.count)
      ∙ ap (λ l. (u32_bytes os.count ++ l) ++ (u32_bytes (length changes.handles) ++ each_bytes handle.bytes changes.handles)) (sym objects.bytes)
      ∙ ap (λ n. (u32_bytes os.count ++ os.bytes.items) ++ (u32_bytes n ++ each_bytes handle.bytes changes.handles)) (sym handles.count)
      ∙ ap (λ l. (u32_bytes os.count ++ os.bytes.items) ++ (u32_bytes hs.count ++ l)) (sym handles.bytes)

  pub says_so : (start half bytes : Vec ℕ Global) → (os.count == 0 && hs.count == 0) ≡ false → start.items ≡ [] → half.items ≡ start.items ++ (u32_bytes os.count ++ os.bytes.items)
      → bytes.items ≡ half.items ++ (u32_bytes hs.count ++ hs.bytes.items) → IsPayload table changes (Some bytes)
  says_so start half bytes some none first second =
      (nothing_is ∙ some, second ∙ ap (λ l. l ++ (u32_bytes hs.count ++ hs.bytes.items)) (first ∙ ap (λ l. l ++ (u32_bytes os.count ++ os.bytes.items)) none) ∙ sym spelled)
