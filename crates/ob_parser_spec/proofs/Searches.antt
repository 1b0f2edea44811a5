-- What is found by the symbol of a token, and among which kinds it is.
use Rattle.std.proofs.Common.{◌≡◌, Bool, true, false, cond, ◌&&◌, ◌||◌, List, [], ◌∷◌, Option, Some, None, option_map, refl, sym, ap, ◌∙◌}
use Rattle.std.specs.List.{find, filter}
use Rattle.std.specs.Option.{is_some}
use Rattle.ob_base.specs.declared.fault.Span.{Span}
use Rattle.ob_lexer.specs.declared.token.Token.{Token}
use Rattle.ob_parser_spec.specs.Symbols.{Symbol, symbol_of, number}
use Rattle.ob_parser_spec.specs.Readers.{is_of, one_among, one_if, kinds_among}
use Rattle.ob_parser_spec.proofs.One.{Takes}
use Rattle.ob_parser_spec.proofs.Symbols.{symbol_is}

-- ---- what a search finds

found_first : {A : Type 0} (test : A → Bool) (y : A) (ys : List A) (x : A) (b : Bool) → test y ≡ b → (find test ys ≡ Some x → test x ≡ true) → cond b (Some y) (find test ys) ≡ Some x → test x ≡ true
found_first test y ys x true is later e = let same : y ≡ x = cc in sym (ap test same) ∙ is
found_first test y ys x false is later e = later e

-- it passes the test
pub found : {A : Type 0} (test : A → Bool) (xs : List A) (x : A) → find test xs ≡ Some x → test x ≡ true
found test [] x e = absurd cc
found test (y ∷ ys) x e = found_first test y ys x (test y) refl (found test ys x) e

kept_first : {A : Type 0} (p : A → Bool) (x : A) (a b : Bool) (more : List A) (later : Option A) → p x ≡ b → find p more ≡ later → find p (cond a (x ∷ more) more) ≡ cond (a && b) (Some x) later
kept_first p x true b more later is e = ap (λ c. cond c (Some x) (find p more)) is ∙ ap (λ o. cond b (Some x) o) e
kept_first p x false b more later is e = e

-- among those that pass another test
pub find-filter : {A : Type 0} (q p : A → Bool) (xs : List A) → find p (filter q xs) ≡ find (λ x. q x && p x) xs
find-filter q p [] = refl
find-filter q p (x ∷ xs) = kept_first p x (q x) (p x) (filter q xs) _ refl (find-filter q p xs)

-- ---- by the symbol of a token

either : {A : Type 0} (x : A) (o : Option A) (b c : Bool) → is_some o ≡ c → is_some (cond (b || false) (Some x) o) ≡ (b || c)
either x o true c e = refl
either x o false c e = e

module _ {A : Type 0} where
  placed_some : (o : Option A) (span : Span) → is_some o ≡ true → (x : A × Span) × (option_map (λ y. (y, span)) o ≡ Some x)
  placed_some None span is = absurd cc
  placed_some (Some x) span is = ((x, span), refl)

  pub some_placed : (o : Option A) (span : Span) (x : A × Span) → option_map (λ y. (y, span)) o ≡ Some x → (o ≡ Some x.0) × (span ≡ x.1)
  some_placed None span x e = absurd cc
  some_placed (Some y) span x e =
      let pair : (y, span) ≡ x = cc in
      (ap (λ (z : A × Span). Some z.0) pair, ap (λ (z : A × Span). z.1) pair)

module _ {A : Type 0} (symbol : A → Symbol) where
  -- one is found where the token is of one of their kinds
  pub is_among : (among : List A) (t : Token) → is_some (one_among symbol among t) ≡ is_of (kinds_among symbol among) t
  is_among [] t = refl
  is_among (x ∷ xs) t = either x (one_among symbol xs t) _ (is_of (kinds_among symbol xs) t) (is_among xs t)

  -- it has the token's symbol and place
  pub one_is : (among : List A) (t : Token) (x : A × Span) → one_if symbol among t ≡ Some x → (symbol_of t.kind ≡ symbol x.0) × (t.span ≡ x.1)
  one_is among t x e =
      let one = some_placed (one_among symbol among t) t.span x e in
      (symbol_is (symbol x.0) t (found (λ y. is_of (number (symbol y) ∷ []) t) among x.0 one.0), one.1)

  pub takes_among : (among : List A) (token : Token) (x : A × Span) → one_if symbol among token ≡ Some x → Takes (one_if symbol among) (kinds_among symbol among)
  takes_among among token x e = record {
    of = λ t is. placed_some (one_among symbol among t) t.span (is_among among t ∙ is);
    is = λ t y same. sym (is_among among t) ∙ ap is_some (some_placed (one_among symbol among t) t.span y same).0;
    token = token;
    value = x;
    one = e;
  }
