-- Calls that look at a file and neither read nor write it.
use Rattle.std.proofs.Common.{◌≡◌, ◌≢◌, ℕ, ◌+◌, ◌<◌, true, false, List, [], ◌∷◌, ◌++◌, length, map, take, get_or, Option, None, Some, Result, Ok, Err, IsErr, MatchResult, OnOk, Bor, refl, sym, ◌∙◌, ap, subst}
use Rattle.std.proofs.lemmas.List.{map-append, take_more}
use Rattle.ob_io_std.specs.Calls.{Call, Adds, AddsSome, kind_of, opened, kind, identity, descriptor, identity_of, locked, folder_synced}
use Rattle.ob_io_std.specs.Taking.{IsNoneElse, IsOpened, streams, MeanOthers, IsNumbered, IsApart, IsHeld, IsTaken, IsLook, AreLooks}
use Rattle.ob_io_std.specs.declared.system.Access.{Access}
use Rattle.ob_io_std.specs.declared.system.Identity.{Identity}
use Rattle.ob_io_std.proofs.CallLemmas.{adds_none, adds_then}

looks_append : (xs ys : List Call) → AreLooks xs → AreLooks ys → AreLooks (xs ++ ys)
looks_append [] ys p q = q
looks_append (x ∷ xs) ys (p, ps) q = (p, looks_append xs ys ps q)

pub looks_same : (a : Option (List Call)) → AddsSome a a AreLooks
looks_same a = ([], tt, adds_none a)

pub looks_none : (a b : Option (List Call)) → Adds a b [] → AddsSome a b AreLooks
looks_none a b p = ([], tt, p)

pub looks_one : (a b : Option (List Call)) (call : Call) → Adds a b (call ∷ []) → IsLook call → AddsSome a b AreLooks
looks_one a b call p look = (call ∷ [], (look, tt), p)

pub looks_then : (a b c : Option (List Call)) → AddsSome a b AreLooks → AddsSome b c AreLooks → AddsSome a c AreLooks
looks_then a b c (xs, p, x) (ys, q, y) = (xs ++ ys, looks_append xs ys p q, adds_then a b c xs ys x y)

pub others_more : (own : Identity) (names : List (List ℕ)) (name : List ℕ) (xs ys : List Call) → MeanOthers own names xs → MeanOthers own (name ∷ []) ys → MeanOthers own (names ++ name ∷ []) (xs ++ ys)
others_more own [] name xs ys is more = subst (λ (l : List Call). MeanOthers own (name ∷ []) (l ++ ys)) (sym is) more
others_more own (first ∷ names) name xs ys (found, rest, is, differs, others) more =
    (found, rest ++ ys, ap (λ (l : List Call). l ++ ys) is, differs, others_more own names name rest ys others more)

-- What a name means.

false_true : false ≡ true → ⊥
false_true is = cc

some_false : Some true ≡ Some false → ⊥
some_false is = cc

none_false : None ≡ Some false → ⊥
none_false is = cc

none_own : (own : Identity) → None ≡ Some own → ⊥
none_own own is = cc

unsome : (one other : Identity) → Some one ≡ Some other → one ≡ other
unsome one other is = cc

pub name_regular : (a b : Option (List Call)) (name : List ℕ) → Adds a b (kind_of name (Some true) ∷ []) → AddsSome a b (IsNoneElse name)
name_regular a b name p = (kind_of name (Some true) ∷ [], (Some true, some_false, refl), p)

pub name_missing : (a b : Option (List Call)) (name : List ℕ) → Adds a b (kind_of name None ∷ []) → AddsSome a b (IsNoneElse name)
name_missing a b name p = (kind_of name None ∷ [], (None, none_false, refl), p)

pub named_it : (a b : Option (List Call)) (name : List ℕ) (found own : Identity) → found ≡ own → Adds a b (identity_of name (Some found) ∷ []) → Adds a b (identity_of name (Some own) ∷ [])
named_it a b name found own same p = subst (λ (i : Identity). Adds a b (identity_of name (Some i) ∷ [])) same p

pub named_other : (a b : Option (List Call)) (name : List ℕ) (found own : Identity) → found ≢ own → Adds a b (identity_of name (Some found) ∷ []) → AddsSome a b (MeanOthers own (name ∷ []))
named_other a b name found own differs p = (identity_of name (Some found) ∷ [], (Some found, [], refl, (λ is. differs (unsome found own is)), refl), p)

pub named_none : (a b : Option (List Call)) (name : List ℕ) (own : Identity) → Adds a b (identity_of name None ∷ []) → AddsSome a b (MeanOthers own (name ∷ []))
named_none a b name own p = (identity_of name None ∷ [], (None, [], refl, none_own own, refl), p)

-- The parts one behind the other.

pub opened_then : (a b c d e : Option (List Call)) (name : List ℕ) (access : Access) (own : Identity) → AddsSome a b (IsNoneElse name) → Adds b c (opened name access ∷ []) → Adds c d (kind true ∷ []) → Adds d e (identity own ∷ [])
    → AddsSome a e (IsOpened name access own)
opened_then a b c d e name access own (before, is, x) y z w =
    let last : Adds c e (kind true ∷ identity own ∷ []) = adds_then c d e (kind true ∷ []) (identity own ∷ []) z w in
    let more : Adds b e (opened name access ∷ kind true ∷ identity own ∷ []) = adds_then b c e (opened name access ∷ []) (kind true ∷ identity own ∷ []) y last in
    (before ++ (opened name access ∷ kind true ∷ identity own ∷ []), (before, is, refl), adds_then a b e before (opened name access ∷ kind true ∷ identity own ∷ []) x more)

pub numbered_then : (a b c : Option (List Call)) (own : Identity) (number : ℕ) → 2 < number → Adds a b (descriptor number ∷ []) → ((name : List ℕ) × Adds b c (identity_of name (Some own) ∷ [])) → AddsSome a c (IsNumbered own)
numbered_then a b c own number above x (name, y) =
    (descriptor number ∷ identity_of name (Some own) ∷ [], record { number = number; name = name; is_above = above; is = refl }, adds_then a b c (descriptor number ∷ []) (identity_of name (Some own) ∷ []) x y)

pub apart_then : (a b c d : Option (List Call)) (others : List (List ℕ)) (own : Identity) → AddsSome a b (IsNumbered own) → AddsSome b c (MeanOthers own streams) → AddsSome c d (MeanOthers own others) → AddsSome a d (IsApart others own)
apart_then a b c d others own (xs, p, x) (ys, q, y) (zs, r, z) =
    (xs ++ (ys ++ zs), record { first = xs; second = ys; third = zs; is_numbered = p; is_no_stream = q; is_no_other = r; is = refl }, adds_then a b d xs (ys ++ zs) x (adds_then b c d ys zs y z))

pub held_then : (a b c d : Option (List Call)) (name : List ℕ) (own : Identity) → Adds a b (locked ∷ []) → Adds b c (identity_of name (Some own) ∷ []) → Adds c d (folder_synced name ∷ []) → AddsSome a d (IsHeld name own)
held_then a b c d name own x y z =
    let more : Adds b d (identity_of name (Some own) ∷ folder_synced name ∷ []) = adds_then b c d (identity_of name (Some own) ∷ []) (folder_synced name ∷ []) y z in
    (locked ∷ identity_of name (Some own) ∷ folder_synced name ∷ [], refl, adds_then a b d (locked ∷ []) (identity_of name (Some own) ∷ folder_synced name ∷ []) x more)

pub taken_then : (a b c d : Option (List Call)) (name : List ℕ) (access : Access) (others : List (List ℕ)) (own : Identity) → AddsSome a b (IsOpened name access own) → AddsSome b c (IsApart others own) → AddsSome c d (IsHeld name own)
    → AddsSome a d (IsTaken name access others)
taken_then a b c d name access others own (xs, p, x) (ys, q, y) (zs, r, z) =
    (xs ++ (ys ++ zs), record { own = own; first = xs; second = ys; third = zs; is_opened = p; is_apart = q; is_held = r; is = refl }, adds_then a b d xs (ys ++ zs) x (adds_then b c d ys zs y z))

pub taken_after : (a b c : Option (List Call)) (name : List ℕ) (access : Access) (others : List (List ℕ)) → Adds a b [] → AddsSome b c (IsTaken name access others) → AddsSome a c (IsTaken name access others)
taken_after a b c name access others x (ys, q, y) = (ys, q, adds_then a b c [] ys x y)

-- one name more
pub others_next : (own : Identity) (names : List (Bor (List ℕ))) (at : ℕ) (none : Bor (List ℕ)) (xs ys : List Call) → at < length names → MeanOthers own (map (λ name. name.now) (take at names)) xs
    → MeanOthers own ((get_or names at none).now ∷ []) ys → MeanOthers own (map (λ name. name.now) (take (at + 1) names)) (xs ++ ys)
others_next own names at none xs ys within so_far next =
    let bytes : Bor (List ℕ) → List ℕ = λ name. name.now in
    let is : map bytes (take (at + 1) names) ≡ map bytes (take at names) ++ (get_or names at none).now ∷ [] = ap (λ (l : List (Bor (List ℕ))). map bytes l) (take_more names at none within) ∙ map-append bytes (take at names) (get_or names at none ∷ []) in
    subst (λ (l : List (List ℕ)). MeanOthers own l (xs ++ ys)) (sym is) (others_more own (map bytes (take at names)) (get_or names at none).now xs ys so_far next)

-- what holds where a call answered `Ok`, since what was counted of it did
pub told_ok : {T E F P : Type 0} (told : Result T E) (result : Result T F) (value : T) → MatchResult told (λ v. result ≡ Ok v) (λ error. IsErr result) → result ≡ Ok value → OnOk told P → P
told_ok (Ok v) result value told is p = p
told_ok (Err error) result value told is p = absurd (false_true (subst (λ r. IsErr r) is told))

-- a file that is the same
pub taken_same : {F : Type 0} (calls : F → Option (List Call)) (a : Option (List Call)) (old new : F) (name : List ℕ) (access : Access) (others : List (List ℕ)) → new ≡ old → AddsSome a (calls old) (IsTaken name access others)
    → AddsSome a (calls new) (IsTaken name access others)
taken_same {F} calls a old new name access others same p = subst (λ (f : F). AddsSome a (calls f) (IsTaken name access others)) (sym same) p
