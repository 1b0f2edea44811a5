-- Objects among items, and lanes that are in the lists as they were.
use Rattle.std.proofs.Common.{◌≡◌, ℕ, zero, suc, ◌+◌, ◌<◌, List, [], ◌∷◌, ◌++◌, map, length, take, get_or, Option, Some, None, refl, sym, ap, ◌∙◌, arith}
use Rattle.std.specs.Option.{option_to_list}
use Rattle.std.specs.List.{cons_option}
use Rattle.ob_heap_spec.specs.Worlds.{ReadItem}
use Rattle.ob_lanes.specs.Readers.{Listing, OthersStay, object_in, objects_of}

pub stay_twice : (lane : ℕ) (one two three : Listing) → OthersStay lane one two → OthersStay lane two three → OthersStay lane one three
stay_twice lane one two three h g = λ k n other. g k n other ∙ h k n other

-- the objects among items, and one item more
objects_suc : {A : Type 0} (f : A → ReadItem) (xs : List A) (i : ℕ) (x : A) → i < length xs → x ≡ get_or xs i x
    → objects_of (take (suc i) (map f xs)) ≡ objects_of (take i (map f xs)) ++ option_to_list (object_in (f x))
objects_suc f [] i x less e = absurd (omega (arith, less))
objects_suc f (y ∷ ys) zero x less e = one (object_in (f y)) ∙ ap (λ z. option_to_list (object_in (f z))) (sym e)
  where
    one : (o : Option ℕ) → cons_option o [] ≡ option_to_list o
    one None = refl
    one (Some n) = refl
objects_suc f (y ∷ ys) (suc i) x less e =
    ap (cons_option (object_in (f y))) (objects_suc f ys i x (omega (arith, less)) e) ∙ behind (object_in (f y)) (objects_of (take i (map f ys))) (option_to_list (object_in (f x)))
  where
    behind : (o : Option ℕ) (ns ms : List ℕ) → cons_option o (ns ++ ms) ≡ cons_option o ns ++ ms
    behind None ns ms = refl
    behind (Some n) ns ms = refl

plus_one : (n : ℕ) → n + 1 ≡ suc n
plus_one n = omega arith

pub objects_next : {A : Type 0} (f : A → ReadItem) (xs : List A) (i : ℕ) (x : A) → i < length xs → x ≡ get_or xs i x
    → objects_of (take (i + 1) (map f xs)) ≡ objects_of (take i (map f xs)) ++ option_to_list (object_in (f x))
objects_next f xs i x less e = ap (λ k. objects_of (take k (map f xs))) (plus_one i) ∙ objects_suc f xs i x less e
