-- Lists of entries in the order of their keys: which are in it, and what is found in them.
use Rattle.std.proofs.Common.{◌≡◌, ◌∙◌, suc, Bool, true, false, cond, List, [], ◌∷◌, map, Option, Some, None, refl, sym, ap, subst, arith}
use Rattle.std.specs.Prelude.{T, ◌&&◌, filter, All, AllPairs, option_map}
use Rattle.std.specs.Ordering.{is_lt, is_eq, eq_by_cmp}
use Rattle.std.specs.FinMap.Entries.{find as find_key, below_all, is_sorted}
use Rattle.std.specs.declared.cmp.Ordering.{Ordering}
use Rattle.std.specs.declared.cmp.Ordering.TheVariants.{Less, Equal, Greater}
use Rattle.std.proofs.lemmas.List.Elements.{All-cons}
use Rattle.std.proofs.lemmas.List.Kept.{AllPairs-cons, AllPairs-filter}

pub both : (a b : Bool) → T a → T b → T (a && b)
both true b p q = q
both false b p q = p

pub parts : (a b : Bool) → T (a && b) → T a × T b
parts true b h = (tt, h)
parts false b h = absurd h

pub less : (o : Ordering) → T (is_lt o) → o ≡ Less
less Less h = refl
less Equal h = absurd h
less Greater h = absurd h

pub equal : (o : Ordering) → is_eq o ≡ true → o ≡ Equal
equal Less e = absurd cc
equal Equal e = refl
equal Greater e = absurd cc

module _ {K X : Type 0} (R : K → K → Ordering) where
  -- the key of the first comes before that of the second
  abbrev pub Before : K × X → K × X → Type 0
  Before a b = R a.0 b.0 ≡ Less

  below_of : (k : K) (es : List (K × X)) → All (λ (e : K × X). R k e.0 ≡ Less) es → T (below_all R k es)
  below_of k [] h = tt
  below_of k (e ∷ es) h =
      both (is_lt (R k e.0)) (below_all R k es) (subst (λ o. T (is_lt o)) (sym (h 0 e (omega arith))) tt)
      (below_of k es (λ j d inside. h (suc j) d (omega arith)))

  of_below : (k : K) (es : List (K × X)) → T (below_all R k es) → All (λ (e : K × X). R k e.0 ≡ Less) es
  of_below k [] h = λ j d inside. absurd (omega arith)
  of_below k (e ∷ es) h =
      let p = parts (is_lt (R k e.0)) (below_all R k es) h in
      All-cons (λ (f : K × X). R k f.0 ≡ Less) e es (less (R k e.0) p.0) (of_below k es p.1)

  pub sorted_of : (es : List (K × X)) → AllPairs Before es → T (is_sorted R es)
  sorted_of [] h = tt
  sorted_of (e ∷ es) h =
      both (below_all R e.0 es) (is_sorted R es) (below_of e.0 es (λ j d inside. h 0 (suc j) d (omega arith) (omega arith)))
      (sorted_of es (λ i j d later inside. h (suc i) (suc j) d (omega arith) (omega arith)))

  pub of_sorted : (es : List (K × X)) → T (is_sorted R es) → AllPairs Before es
  of_sorted [] h = λ i j d later inside. absurd (omega arith)
  of_sorted (e ∷ es) h =
      let p = parts (below_all R e.0 es) (is_sorted R es) h in
      AllPairs-cons Before e es (of_below e.0 es p.0) (of_sorted es p.1)

  pub sorted_filter : (p : K × X → Bool) (es : List (K × X)) → T (is_sorted R es) → T (is_sorted R (filter p es))
  sorted_filter p es h = sorted_of (filter p es) (AllPairs-filter Before p es (of_sorted es h))

  pub first_below : (e : K × X) (es : List (K × X)) → T (is_sorted R (e ∷ es)) → T (below_all R e.0 es)
  first_below e es h = (parts (below_all R e.0 es) (is_sorted R es) h).0

  pub rest_sorted : (e : K × X) (es : List (K × X)) → T (is_sorted R (e ∷ es)) → T (is_sorted R es)
  rest_sorted e es h = (parts (below_all R e.0 es) (is_sorted R es) h).1

  -- nothing is found before all keys
  none_before : (k : K) (es : List (K × X)) → T (below_all R k es) → find_key R k es ≡ None
  none_before k [] h = refl
  none_before k (e ∷ es) h =
      let p = parts (is_lt (R k e.0)) (below_all R k es) h in
      ap (λ o. cond (is_eq o) (Some e.1) (find_key R k es)) (less (R k e.0) p.0) ∙ none_before k es p.1

module _ {K : Type 0} (R : K → K → Ordering) (exact : (x y : K) → R x y ≡ Equal → x ≡ y) where
  pub same_key : (q k : K) → eq_by_cmp R q k ≡ true → q ≡ k
  same_key q k e = exact q k (equal (R q k) e)

  -- nor behind the entry of a key
  pub none_behind : {X : Type 0} (q : K) (e : K × X) (es : List (K × X)) → eq_by_cmp R q e.0 ≡ true → T (is_sorted R (e ∷ es)) → find_key R q es ≡ None
  none_behind q e es is h = subst (λ k. find_key R k es ≡ None) (sym (same_key q e.0 is)) (none_before R e.0 es (first_below R e es h))

  -- what is found, if it passes a test with its key
  abbrev pub passing : {X : Type 0} → (K × X → Bool) → K → Option X → Option X
  passing p q None = None
  passing p q (Some v) = cond (p (q, v)) (Some v) None

  pub find-filter : {X : Type 0} (p : K × X → Bool) (q : K) (es : List (K × X)) → T (is_sorted R es)
      → find_key R q (filter p es) ≡ passing p q (find_key R q es)
  find-filter p q [] h = refl
  find-filter {X} p q (e ∷ es) h = by (eq_by_cmp R q e.0) (p e) refl refl (find-filter p q es (rest_sorted R e es h))
    where
      tested : (b : Bool) → eq_by_cmp R q e.0 ≡ true → p e ≡ b → p (q, e.1) ≡ b
      tested b is passes = ap (λ k. p (k, e.1)) (same_key q e.0 is) ∙ passes

      by : (b c : Bool) → eq_by_cmp R q e.0 ≡ b → p e ≡ c → find_key R q (filter p es) ≡ passing p q (find_key R q es)
          → find_key R q (cond c (e ∷ filter p es) (filter p es)) ≡ passing p q (cond b (Some e.1) (find_key R q es))
      by true true is passes rest =
          ap (λ b. cond b (Some e.1) (find_key R q (filter p es))) is ∙ sym (ap (λ b. cond b (Some e.1) None) (tested true is passes))
      by true false is passes rest =
          rest ∙ ap (passing p q) (none_behind q e es is h) ∙ sym (ap (λ b. cond b (Some e.1) None) (tested false is passes))
      by false true is passes rest = ap (λ b. cond b (Some e.1) (find_key R q (filter p es))) is ∙ rest
      by false false is passes rest = rest

  -- each key with something else, which depends on the key alone
  pub find-map : {X Y : Type 0} (f : K → Y) (q : K) (es : List (K × X))
      → find_key R q (map (λ e. (e.0, f e.0)) es) ≡ option_map (λ v. f q) (find_key R q es)
  find-map f q [] = refl
  find-map {X} f q (e ∷ es) = by (eq_by_cmp R q e.0) refl (find-map f q es)
    where
      by : (b : Bool) → eq_by_cmp R q e.0 ≡ b → find_key R q (map (λ e. (e.0, f e.0)) es) ≡ option_map (λ v. f q) (find_key R q es)
          → cond b (Some (f e.0)) (find_key R q (map (λ e. (e.0, f e.0)) es)) ≡ option_map (λ v. f q) (cond b (Some e.1) (find_key R q es))
      by true is rest = ap (λ k. Some (f k)) (sym (same_key q e.0 is))
      by false is rest = rest

-- keys that a map keeps in their order stay in it
module _ {K X L Y : Type 0} (R : K → K → Ordering) (S : L → L → Ordering) (f : K × X → L × Y) (k : K → L)
    (key : (e : K × X) → (f e).0 ≡ k e.0) (alike : (a b : K) → R a b ≡ S (k a) (k b)) where
  below_map : (x : K) (es : List (K × X)) → below_all R x es ≡ below_all S (k x) (map f es)
  below_map x [] = refl
  below_map x (e ∷ es) =
      ap (λ o. is_lt o && below_all R x es) (alike x e.0 ∙ ap (S (k x)) (sym (key e))) ∙ ap (λ b. is_lt (S (k x) (f e).0) && b) (below_map x es)

  pub sorted_map : (es : List (K × X)) → is_sorted R es ≡ is_sorted S (map f es)
  sorted_map [] = refl
  sorted_map (e ∷ es) =
      ap (λ b. b && is_sorted R es) (below_map e.0 es ∙ ap (λ x. below_all S x (map f es)) (sym (key e)))
      ∙ ap (λ b. below_all S (f e).0 (map f es) && b) (sorted_map es)
