-- Object by object, and handle by handle.
use Rattle.std.proofs.Common.{◌≡◌, true, ℕ, zero, suc, ◌<◌, [], ◌∷◌, None, Less, get_or, refl, arith, ap}
use Rattle.std.specs.Prelude.{is_some, IfSome, IsSomeAnd, slice_get}
use Rattle.std.specs.Str.{is_utf8}
use Rattle.std.proofs.lemmas.Bool.{ne_eqb}
use Rattle.std.proofs.lemmas.Str.{IsUtf8-from_ascii, is_utf8-from_IsUtf8}
use Rattle.std.proofs.lemmas.Str.Ascii.{IsAscii-nil, IsAscii-cons}
use Rattle.std.proofs.lemmas.List.Elements.{All-from_recursion}
use Rattle.ob_perm.specs.Masks.{states_of}
use Rattle.ob_heap_spec.specs.Objects.{has_field}
use Rattle.ob_heap_spec.specs.Contents.{HandleName, Handle, IsValueOf, IsObject, IsHandle, name_order}
use Rattle.ob_examples.specs.VendingMachine.{machine, full_machine, vending_machine, vending_store, vending_content}
use Rattle.ob_examples.proofs.meaning.vending_store_is_content.Goals as goal

no_more_fields : (k : ℕ) → full_machine.fields (suc (suc k)) ≡ None
no_more_fields k =
    rw (ne_eqb (suc (suc k)) 1 (λ e. absurd (omega (arith, e)))) (rw (ne_eqb (suc (suc k)) 0 (λ e. absurd (omega
    (arith, e)))))

its_fields : (k : ℕ) → is_some (full_machine.fields k) ≡ has_field machine full_machine.state k
unfolding states_of
its_fields zero = refl
its_fields (suc zero) = refl
its_fields (suc (suc k)) = ap is_some (no_more_fields k)

its_values : (k : ℕ) → IfSome (full_machine.fields k) (λ v. IsSomeAnd (slice_get machine.fields k)
    (λ f. IsValueOf vending_store f.of v))
its_values zero = omega arith
its_values (suc zero) = refl
its_values (suc (suc k)) = rw (no_more_fields k) tt

in_order : (i j : ℕ) (d : HandleName × Handle) → i < j → j < 2
    → name_order (get_or vending_content.handles i d).0 (get_or vending_content.handles j d).0 ≡ Less
in_order zero (suc zero) d lt few = refl
in_order zero zero d lt few = absurd (omega (arith, lt))
in_order (suc i) (suc zero) d lt few = absurd (omega (arith, lt))
in_order (suc i) zero d lt few = absurd (omega (arith, lt))
in_order i (suc (suc j)) d lt few = absurd (omega (arith, few))

letter : (b : ℕ) → b < 128 → is_utf8 (b ∷ []) ≡ true
letter b lt = is_utf8-from_IsUtf8 (b ∷ []) (IsUtf8-from_ascii (b ∷ []) (IsAscii-cons b [] lt IsAscii-nil))

pub returns : goal.returns
unfolding states_of
returns c = record {
  objects = All-from_recursion (IsObject vending_machine vending_store) vending_store (
    record { contract = refl; state = refl; fields = λ k. refl; values = λ k. tt },
    (
      record { contract = refl; state = refl; fields = λ k. refl; values = λ k. tt },
      (record { contract = refl; state = omega arith; fields = its_fields; values = its_values }, tt),
    ),
  );
  handles = All-from_recursion (IsHandle vending_store) vending_content.handles (
    record { who = letter 97 (omega arith); name = letter 99 (omega arith); object = omega arith },
    (record { who = letter 97 (omega arith); name = letter 109 (omega arith); object = omega arith }, tt),
  );
  order = in_order;
}
