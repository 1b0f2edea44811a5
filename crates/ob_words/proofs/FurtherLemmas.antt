-- The commands and the further ones have different words.
use Rattle.std.proofs.Common.{◌≡◌, Bool, true, false, List, [], ◌∷◌, Option, None, Some, refl, sym, subst, codes}
use Rattle.std.specs.Prelude.{if◌then◌else◌}
use Rattle.std.specs.Str.{bytes_eq}
use Rattle.std.proofs.lemmas.Slice.Eq.{bytes_eq-Decides}
use Rattle.clap.specs.Walk.{Text, all_of, first_of}
use Rattle.ob_words.specs.CommandLine.{is_taken, values_in}
use Rattle.ob_words.specs.Asked.{Command, Limits, Asked, asked_of, asked_with, command_of, command_of_one, command_of_two, limits_of}
use Rattle.ob_words.specs.Further.{further_of, further_of_one, further_of_two, further_of_words, further_with}

not_one : (word one : Text) (c : Command) → command_of_one word one ≡ Some c → further_of_one word one ≡ None
not_one word one c is = by_check (bytes_eq word (codes "check")) refl
  where
    other : (text : Text) → bytes_eq word text ≡ true → further_of_one text one ≡ None → further_of_one word one ≡ None
    other text same none = subst (λ (w : Text). further_of_one w one ≡ None) (sym ((bytes_eq-Decides word text).0 same)) none

    by_trial : (b : Bool) → bytes_eq word (codes "check") ≡ false → bytes_eq word (codes "serve") ≡ false → bytes_eq word (codes "trial") ≡ b → further_of_one word one ≡ None
    by_trial true check serve trial = other (codes "trial") trial refl
    by_trial false check serve trial = absurd (let none : None ≡ Some c = (rw (check, serve, trial) at is) in cc)

    by_serve : (b : Bool) → bytes_eq word (codes "check") ≡ false → bytes_eq word (codes "serve") ≡ b → further_of_one word one ≡ None
    by_serve true check serve = other (codes "serve") serve refl
    by_serve false check serve = by_trial (bytes_eq word (codes "trial")) check serve refl

    by_check : (b : Bool) → bytes_eq word (codes "check") ≡ b → further_of_one word one ≡ None
    by_check true check = other (codes "check") check refl
    by_check false check = by_serve (bytes_eq word (codes "serve")) check refl

not_two : (word one two : Text) (c : Command) → command_of_two word one two ≡ Some c → further_of_two word one two ≡ None
not_two word one two c is = by_serve (bytes_eq word (codes "serve")) refl
  where
    other : (text : Text) → bytes_eq word text ≡ true → further_of_two text one two ≡ None → further_of_two word one two ≡ None
    other text same none = subst (λ (w : Text). further_of_two w one two ≡ None) (sym ((bytes_eq-Decides word text).0 same)) none

    by_audit : (b : Bool) → bytes_eq word (codes "serve") ≡ false → bytes_eq word (codes "audit") ≡ b → further_of_two word one two ≡ None
    by_audit true serve audit = other (codes "audit") audit refl
    by_audit false serve audit = absurd (let none : None ≡ Some c = (rw (serve, audit) at is) in cc)

    by_serve : (b : Bool) → bytes_eq word (codes "serve") ≡ b → further_of_two word one two ≡ None
    by_serve true serve = other (codes "serve") serve refl
    by_serve false serve = by_audit (bytes_eq word (codes "audit")) serve refl

not_words : (word : Text) (words : List Text) (c : Command) → command_of word words ≡ Some c → further_of_words word words ≡ None
not_words word [] c is = refl
not_words word (one ∷ []) c is = not_one word one c is
not_words word (one ∷ two ∷ []) c is = not_two word one two c is
not_words word (one ∷ two ∷ three ∷ more) c is = absurd (cc is)

not_with : (limits : Option Limits) (word : Option Text) (words : Option (List Text)) (a : Asked) → asked_with limits word words ≡ Some a
    → further_with limits word words ≡ None
not_with None word words a is = refl
not_with (Some l) None words a is = refl
not_with (Some l) (Some w) None a is = refl
not_with (Some l) (Some w) (Some ws) a is = go (command_of w ws) refl
  where
    go : (c : Option Command) → command_of w ws ≡ c → further_with (Some l) (Some w) (Some ws) ≡ None
    go (Some c) same = rw (not_words w ws c same) refl
    go None same = absurd (let none : None ≡ Some a = (rw same at is) in cc)

pub not_further : (words : List Text) (a : Asked) → asked_of words ≡ Some a → further_of words ≡ None
not_further words a is = go (is_taken words) refl
  where
    go : (b : Bool) → is_taken words ≡ b → further_of words ≡ None
    go true taken =
        let rows = values_in words in
        rw taken (not_with (limits_of (first_of (codes "fuel") rows) (first_of (codes "lanes") rows) (first_of (codes "slice") rows))
        (first_of (codes "command") rows) (all_of (codes "words") rows) a (rw taken at is))
    go false taken = rw taken refl
