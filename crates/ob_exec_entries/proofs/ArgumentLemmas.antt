-- Arguments, one after another.
use Rattle.std.proofs.Common.{◌≡◌, ℕ, zero, suc, ◌+◌, ◌<◌, Bool, List, [], ◌∷◌, ◌++◌, map, length, drop, get_or, min, Option, Some, None, refl, sym, ap, ◌∙◌, cond, add-one, drop-cons, append_assoc, arith}
use Rattle.std.specs.Prelude.{filter_map, zip, option_map, option_to_list, ◌||◌, ◌&&◌, count_by, fold}
use Rattle.std.specs.List.{list_any, list_all, cons_option}
use Rattle.std.proofs.lemmas.List.{map-append, drop_all}
use Rattle.ob_code.specs.declared.image.ParamCode.{ParamCode}
use Rattle.ob_heap_spec.specs.Contents.{Content}
use Rattle.ob_invocation_spec.specs.Entries.{use_of_argument}
use Rattle.ob_code_table.specs.ImageTables.{param_of_code}
use Rattle.ob_wire.specs.Meanings.{argument_meant}
use Rattle.ob_wire.specs.declared.request.Arg.{Arg}
use Rattle.ob_exec_entries.specs.Arguments.{uses_of}

cons-option : {X : Type 0} (o : Option X) (xs : List X) → cons_option o xs ≡ option_to_list o ++ xs
cons-option None xs = refl
cons-option (Some x) xs = refl

pub map-option : {X Y : Type 0} (f : X → Y) (o : Option X) → map f (option_to_list o) ≡ option_to_list (option_map f o)
map-option f None = refl
map-option f (Some x) = refl

drop_here : {X : Type 0} (xs : List X) (i : ℕ) (x : X) → i < length xs → x ≡ get_or xs i x → drop i xs ≡ x ∷ drop (i + 1) xs
drop_here xs i x l is = rw add-one (drop-cons xs i x l ∙ ap (λ y. y ∷ drop (suc i) xs) (sym is))

-- one more pair
pub uses_turn : (content : Content) (who : List ℕ) (ps : List ParamCode) (args : List Arg) (i : ℕ) (p : ParamCode) (a : Arg)
    → i < length ps → i < length args → p ≡ get_or ps i p → a ≡ get_or args i a
    → uses_of content who (drop i ps) (drop i args)
    ≡ option_to_list (use_of_argument content who (param_of_code p) (argument_meant a)) ++ uses_of content who (drop (i + 1) ps) (drop (i + 1) args)
uses_turn content who ps args i p a l m is are =
    ap (λ xs. uses_of content who xs (drop i args)) (drop_here ps i p l is)
    ∙ ap (λ ys. uses_of content who (p ∷ drop (i + 1) ps) ys) (drop_here args i a m are)
    ∙ cons-option (use_of_argument content who (param_of_code p) (argument_meant a)) (uses_of content who (drop (i + 1) ps) (drop (i + 1) args))

none_beside : (content : Content) (who : List ℕ) (ps : List ParamCode) → uses_of content who ps [] ≡ []
none_beside content who [] = refl
none_beside content who (p ∷ ps) = refl

-- no pair is left
pub uses_end : (content : Content) (who : List ℕ) (ps : List ParamCode) (args : List Arg) (i : ℕ) → i ≡ min (length ps) (length args)
    → uses_of content who (drop i ps) (drop i args) ≡ []
uses_end content who [] args i e = ap (λ xs. uses_of content who xs (drop i args)) (drop_all i [] (omega arith))
uses_end content who (p ∷ ps) [] i e =
    ap (λ ys. uses_of content who (drop i (p ∷ ps)) ys) (drop_all i [] (omega arith)) ∙ none_beside content who (drop i (p ∷ ps))
uses_end content who (p ∷ ps) (a ∷ args) zero e = absurd (omega (arith, e))
uses_end content who (p ∷ ps) (a ∷ args) (suc i) e = uses_end content who ps args i (omega (arith, e))

-- the uses so far, and one more
pub uses_step : {X Y : Type 0} (f : X → Y) (before after : List X) (o : Option X) (p : Option Y) (rest all : List Y)
    → after ≡ before ++ option_to_list o → option_map f o ≡ p → map f before ++ (option_to_list p ++ rest) ≡ all → map f after ++ rest ≡ all
uses_step f before after o p rest all e g h =
    ap (λ xs. map f xs ++ rest) e ∙ ap (λ ys. ys ++ rest) (map-append f before (option_to_list o) ∙ ap (λ ys. map f before ++ ys) (map-option f o ∙ ap option_to_list g))
    ∙ append_assoc (map f before) (option_to_list p) rest ∙ h

-- Tests and counts of what is made of each thing.

pub any-map : {X Y : Type 0} (f : X → Y) (p : Y → Bool) (xs : List X) → list_any p (map f xs) ≡ list_any (λ x. p (f x)) xs
any-map f p [] = refl
any-map f p (x ∷ xs) = ap (λ b. p (f x) || b) (any-map f p xs)

pub all-map : {X Y : Type 0} (f : X → Y) (p : Y → Bool) (xs : List X) → list_all p (map f xs) ≡ list_all (λ x. p (f x)) xs
all-map f p [] = refl
all-map f p (x ∷ xs) = ap (λ b. p (f x) && b) (all-map f p xs)

pub zip-map : {X Y V W : Type 0} (f : X → V) (g : Y → W) (xs : List X) (ys : List Y) → zip (map f xs) (map g ys) ≡ map (λ (pair : X × Y). (f pair.0, g pair.1)) (zip xs ys)
zip-map f g [] ys = refl
zip-map f g (x ∷ xs) [] = refl
zip-map f g (x ∷ xs) (y ∷ ys) = ap (λ r. (f x, g y) ∷ r) (zip-map f g xs ys)

pub filter_map-map : {X Y Z : Type 0} (f : X → Y) (h : Y → Option Z) (xs : List X) → filter_map h (map f xs) ≡ filter_map (λ x. h (f x)) xs
filter_map-map f h [] = refl
filter_map-map f h (x ∷ xs) = ap (cons_option (h (f x))) (filter_map-map f h xs)

fold-map : {X Y : Type 0} (f : X → Y) (g : Y → ℕ) (a : ℕ) (xs : List X) → fold (λ n y. n + g y) a (map f xs) ≡ fold (λ n x. n + g (f x)) a xs
fold-map f g a [] = refl
fold-map f g a (x ∷ xs) = fold-map f g (a + g (f x)) xs

pub count-map : {X Y : Type 0} (f : X → Y) (p : Y → Bool) (xs : List X) → count_by p (map f xs) ≡ count_by (λ x. p (f x)) xs
count-map f p xs = fold-map f (λ y. cond (p y) 1 0) 0 xs

pub any-alike : {X : Type 0} (p q : X → Bool) (xs : List X) → ((x : X) → p x ≡ q x) → list_any p xs ≡ list_any q xs
any-alike p q [] h = refl
any-alike p q (x ∷ xs) h = ap (λ b. b || list_any p xs) (h x) ∙ ap (λ b. q x || b) (any-alike p q xs h)
