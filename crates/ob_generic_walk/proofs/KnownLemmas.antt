-- Instances by name.
use Rattle.std.proofs.Common.{◌≡◌, ℕ, Bool, true, false, List, [], ◌∷◌, ◌++◌, is_some, if◌then◌else◌, map, length, take, sym, ap, ◌∙◌}
use Rattle.std.proofs.Math.Seq.{take-append_seam}
use Rattle.std.proofs.lemmas.List.{map-append, length-map, append-nil}
use Rattle.ob_table_spec.specs.Names.{Name}
use Rattle.ob_resolve_scope.specs.Numbered.{find, added, numbered}
use Rattle.ob_resolve_scope.proofs.NumberedLemmas.{find-numbered, numbered-push, number_of-is_some}
use Rattle.ob_generic_spec.specs.Instances.{is_known}
use Rattle.ob_generic_spec.specs.declared.instance.Instance.{Instance}

abbrev names_of : List Instance → List Name
names_of xs = map (λ x. x.name) xs

-- one more name after the others
pub names-push : (xs : List Instance) (x : Instance)
    → numbered (names_of (xs ++ x ∷ [])) ≡ added (numbered (names_of xs)) x.name (length xs)
names-push xs x =
    ap numbered (map-append (λ (y : Instance). y.name) xs (x ∷ []))
    ∙ numbered-push (names_of xs) x.name
    ∙ ap (added (numbered (names_of xs)) x.name) (length-map xs (λ (y : Instance). y.name))

-- the name that was added is taken back
pub taken_back : (es : List (Name × ℕ)) (name : Name) (n : ℕ) → take (length es) (added es name n) ≡ es
taken_back es name n = by (is_some (find name es))
  where
    by : (b : Bool) → take (length es) (if b then es else es ++ (name, n) ∷ []) ≡ es
    by true = ap (take (length es)) (sym (append-nil es)) ∙ take-append_seam es []
    by false = take-append_seam es ((name, n) ∷ [])

-- an instance of the name is there where the name is found
pub known_found : (es : List (Name × ℕ)) (xs : List Instance) (name : Name) → es ≡ numbered (names_of xs)
    → is_some (find name es) ≡ is_known xs name
known_found es xs name e =
    ap (λ l. is_some (find name l)) e ∙ ap is_some (find-numbered name (names_of xs)) ∙ number_of-is_some name (names_of xs)

pub ruleset known = (names-push, taken_back, known_found)
