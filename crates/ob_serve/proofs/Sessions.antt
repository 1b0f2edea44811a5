-- Items one after another, for any meaning of lines, and what a crash leaves of their store.
use Rattle.std.proofs.Common.{◌≡◌, ℕ, suc, ◌+◌, ◌≤◌, min, Bool, true, false, not, cond, List, [], ◌∷◌, ◌++◌, length, take, refl, sym, ◌∙◌, ap, subst, arith, append_assoc}
use Rattle.std.specs.Prelude.{if◌then◌else◌}
use Rattle.std.proofs.lemmas.List.{append-nil, take_at, take-append-le, take_min}
use Rattle.ob_serve.specs.Session.{SessionItem, session, items_from, bytes_of, state_after, requests_in, replies, is_blank_line}
use Rattle.ob_serve.specs.Serving.{items_shown}
use Rattle.ob_serve.specs.Crash.{AfterAll, AfterFirst, AfterSome}

pub replies-append : {S : Type 0} (xs ys : List (SessionItem S)) → replies (xs ++ ys) ≡ replies xs ++ replies ys
replies-append [] ys = refl
replies-append (x ∷ xs) ys = ap (λ (l : List ℕ). bytes_of x.reply ++ l) (replies-append xs ys) ∙ sym (append_assoc (bytes_of x.reply) (replies xs) (replies ys))

pub state_after-append : {S : Type 0} (s : S) (xs ys : List (SessionItem S)) → state_after s (xs ++ ys) ≡ state_after (state_after s xs) ys
state_after-append s [] ys = refl
state_after-append s (x ∷ xs) ys = state_after-append x.after xs ys

cond-append : (b : Bool) (x : List ℕ) (xs ys : List (List ℕ)) → cond b (x ∷ (xs ++ ys)) (xs ++ ys) ≡ cond b (x ∷ xs) xs ++ ys
cond-append true x xs ys = refl
cond-append false x xs ys = refl

pub requests_in-append : (xs ys : List (List ℕ)) → requests_in (xs ++ ys) ≡ requests_in xs ++ requests_in ys
requests_in-append [] ys = refl
requests_in-append (x ∷ xs) ys =
    ap (λ (l : List (List ℕ)). cond (not (is_blank_line x)) (x ∷ l) l) (requests_in-append xs ys) ∙ cond-append (not (is_blank_line x)) x (requests_in xs) (requests_in ys)

one_request : (x : List ℕ) → is_blank_line x ≡ false → requests_in (x ∷ []) ≡ x ∷ []
one_request x shows = rw shows refl

no_request : (x : List ℕ) → is_blank_line x ≡ true → requests_in (x ∷ []) ≡ []
no_request x is = rw is refl

module _ {S : Type 0} (items : S → List ℕ → List (SessionItem S)) where
  session-append : (s : S) (xs ys : List (List ℕ)) → session items s (xs ++ ys) ≡ session items s xs ++ session items (state_after s (session items s xs)) ys
  session-append s [] ys = refl
  session-append s (x ∷ xs) ys =
      let t = state_after s (items s x) in
      ap (λ (is : List (SessionItem S)). items s x ++ is) (session-append t xs ys)
      ∙ sym (append_assoc (items s x) (session items t xs) (session items (state_after t (session items t xs)) ys))
      ∙ ap (λ (u : S). (items s x ++ session items t xs) ++ session items u ys) (sym (state_after-append s (items s x) (session items t xs)))

  -- the items of more lines
  pub items_from-append : (s : S) (xs ys : List (List ℕ)) → items_from items s (xs ++ ys) ≡ items_from items s xs ++ items_from items (state_after s (items_from items s xs)) ys
  items_from-append s xs ys = ap (session items s) (requests_in-append xs ys) ∙ session-append s (requests_in xs) (requests_in ys)

  one_by : (s : S) (x : List ℕ) (b : Bool) → is_blank_line x ≡ b → items_from items s (x ∷ []) ≡ (if b then [] else items s x)
  one_by s x true is = ap (session items s) (no_request x is)
  one_by s x false is = ap (session items s) (one_request x is) ∙ append-nil (items s x)

  -- and of one more
  pub one_more : (s : S) (xs : List (List ℕ)) (x : List ℕ) → items_from items s (xs ++ x ∷ []) ≡ items_from items s xs ++ items_shown items (state_after s (items_from items s xs)) x
  one_more s xs x =
      items_from-append s xs (x ∷ [])
      ∙ ap (λ (is : List (SessionItem S)). items_from items s xs ++ is) (one_by (state_after s (items_from items s xs)) x (is_blank_line x) refl)

-- the first of some items and of those that follow
take_plus : {A : Type 0} (xs ys : List A) (k : ℕ) → take (length xs + k) (xs ++ ys) ≡ xs ++ take k ys
take_plus [] ys k = ap (λ (n : ℕ). take n ys) (let none : 0 + k ≡ k = omega arith in none)
take_plus (x ∷ xs) ys k =
    ap (λ (n : ℕ). take n (x ∷ (xs ++ ys))) (let one : suc (length xs) + k ≡ suc (length xs + k) = omega arith in one) ∙ ap (λ l. x ∷ l) (take_plus xs ys k)

pub take_in : {A : Type 0} (xs ys rest : List A) (k : ℕ) → k ≤ length ys → take (length xs + k) ((xs ++ ys) ++ rest) ≡ xs ++ take k ys
take_in xs ys rest k within =
    ap (λ l. take (length xs + k) l) (append_assoc xs ys rest) ∙ take_plus xs (ys ++ rest) k ∙ ap (λ l. xs ++ l) (take-append-le k ys rest within)

module _ {S : Type 0} (stands : S → List ℕ → Type 0) where
  -- the store after the first items
  pub after_front : (s : S) (xs ys : List (SessionItem S)) (c : List ℕ) → stands (state_after s xs) c → AfterAll stands s (take (length xs) (xs ++ ys)) c
  after_front s xs ys c is = subst (λ (l : List (SessionItem S)). stands (state_after s l) c) (sym (take_at xs ys (length xs) refl)) is

  -- where more items come, it is still the store after some of them
  pub some_more : (s : S) (xs ys : List (SessionItem S)) (c : List ℕ) → AfterSome stands s xs c → AfterSome stands s (xs ++ ys) c
  some_more s xs ys c some =
      let n = min some.0 (length xs) in
      let same : take n (xs ++ ys) ≡ take some.0 xs = take-append-le n xs ys (omega arith) ∙ take_min some.0 xs in
      (n, subst (λ (l : List (SessionItem S)). stands (state_after s l) c) (sym same) some.1)

  -- and where items came first
  pub some_later : (s : S) (xs ys : List (SessionItem S)) (c : List ℕ) → AfterSome stands (state_after s xs) ys c → AfterSome stands s (xs ++ ys) c
  some_later s xs ys c some =
      (length xs + some.0, subst (λ (t : S). stands t c) (sym (ap (state_after s) (take_plus xs ys some.0) ∙ state_after-append s xs (take some.0 ys))) some.1)

  -- the store after so many of them, where items came first and more come
  pub first_in : (s : S) (xs ys rest : List (SessionItem S)) (P Q : ℕ → Type 0) → ((j : ℕ) → P j → j ≤ length ys) → ((j : ℕ) → P j → Q (length xs + j))
      → (c : List ℕ) → AfterFirst stands (state_after s xs) ys P c → AfterFirst stands s ((xs ++ ys) ++ rest) Q c
  first_in s xs ys rest P Q within later c first =
      let same = ap (state_after s) (take_in xs ys rest first.0 (within first.0 first.1)) ∙ state_after-append s xs (take first.0 ys) in
      (length xs + first.0, later first.0 first.1, subst (λ (t : S). stands t c) (sym same) first.2)
