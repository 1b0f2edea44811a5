-- What is found in parts that `clap` takes.
use Rattle.std.proofs.Common.{◌≡◌, ◌∙◌, ◌≤◌, Bool, true, false, List, [], ◌∷◌, ◌++◌, None, refl, sym, subst, ap, codes, length, arith}
use Rattle.std.specs.Prelude.{⊤, is_some, if◌then◌else◌}
use Rattle.std.specs.Str.{bytes_eq}
use Rattle.std.proofs.lemmas.List.{append_assoc, append-nil}
use Rattle.std.proofs.lemmas.Slice.Eq.{bytes_eq-Decides}
use Rattle.clap.specs.Faults.{use_fault}
use Rattle.clap.specs.Walk.{Row, Text, has_row, reading_by, used, with_values}
use Rattle.clap.specs.declared.parser.matches.ValueSource.TheVariants.{CommandLine}
use Rattle.clap.proofs.OnLiterals.{clap_on_literals}
use Rattle.ob_words.specs.Settings.{fuel, lanes, slice}
use Rattle.ob_words.proofs.RowLemmas.{fresh_stays, given, has_row_seen, seen, seen_other, seen_own}
use Rattle.ob_words.proofs.WalkLemmas.{IsClean, Part, Parts, command, id_of, rule_at, setting, uses, words}

-- the values of a part
abbrev pub values_at : Part → Parts → List Text
values_at part [] = []
values_at part (g ∷ gs) = if bytes_eq (id_of g.0) (id_of part) then g.1 ∷ values_at part gs else values_at part gs

-- the part may be given once
abbrev pub IsSingle : Part → Type 0
IsSingle words = ⊥
IsSingle _ = ⊤

abbrev pub IsFresh : Part → List Row → Type 0
IsFresh part rows = IsSingle part → seen (id_of part) rows ≡ None

abbrev put_by : (part : Part) (v : Text) → List Row → List Row
put_by part v rows = with_values (id_of part) (reading_by (rule_at part)) CommandLine (v ∷ []) rows

put : (part : Part) (v : Text) (rows : List Row) → IsFresh part rows → used (rule_at part) (v ∷ []) rows ≡ put_by part v rows
unfolding clap_on_literals
put (setting fuel) v rows fresh = ap (put_by (setting fuel) v) (fresh_stays _ rows (fresh tt))
put (setting lanes) v rows fresh = ap (put_by (setting lanes) v) (fresh_stays _ rows (fresh tt))
put (setting slice) v rows fresh = ap (put_by (setting slice) v) (fresh_stays _ rows (fresh tt))
put command v rows fresh = ap (put_by command v) (fresh_stays _ rows (fresh tt))
put words v rows fresh = refl

no_row : (id : Text) (rows : List Row) → seen id rows ≡ None → has_row id rows ≡ false
no_row id rows e = has_row_seen id rows ∙ ap is_some e

fine : (part : Part) (v : Text) (rows : List Row) → IsFresh part rows → use_fault false (rule_at part) (v ∷ []) rows ≡ []
unfolding clap_on_literals
fine (setting fuel) v rows fresh = rw (no_row (codes "fuel") rows (fresh tt)) refl
fine (setting lanes) v rows fresh = rw (no_row (codes "lanes") rows (fresh tt)) refl
fine (setting slice) v rows fresh = rw (no_row (codes "slice") rows (fresh tt)) refl
fine command v rows fresh = rw (no_row (codes "command") rows (fresh tt)) refl
fine words v rows fresh = refl

pub values_append : (part : Part) (a b : Parts) → values_at part (a ++ b) ≡ values_at part a ++ values_at part b
values_append part [] b = refl
values_append part (g ∷ gs) b = go (bytes_eq (id_of g.0) (id_of part)) refl (values_append part gs b)
  where
    go : (t : Bool) → bytes_eq (id_of g.0) (id_of part) ≡ t → values_at part (gs ++ b) ≡ values_at part gs ++ values_at part b
        → values_at part ((g ∷ gs) ++ b) ≡ values_at part (g ∷ gs) ++ values_at part b
    go true t e = rw t (ap (λ xs. g.1 ∷ xs) e)
    go false t e = rw t e

-- the rows have these parts
abbrev pub HasParts : List Row → Parts → Type 0
HasParts rows done = (part : Part) → seen (id_of part) rows ≡ given (values_at part done)

more : (g : Part × Text) (rows : List Row) (done : Parts) → HasParts rows done → IsFresh g.0 rows
    → HasParts (used (rule_at g.0) (g.1 ∷ []) rows) (done ++ g ∷ [])
more g rows done has fresh part =
    ap (seen (id_of part)) (put g.0 g.1 rows fresh)
    ∙ go (bytes_eq (id_of g.0) (id_of part)) refl
    ∙ ap given (sym (values_append part done (g ∷ [])))
  where
    go : (t : Bool) → bytes_eq (id_of g.0) (id_of part) ≡ t
        → seen (id_of part) (put_by g.0 g.1 rows) ≡ given (values_at part done ++ values_at part (g ∷ []))
    go true t =
        let same : id_of g.0 ≡ id_of part = (bytes_eq-Decides (id_of g.0) (id_of part)).0 t in
        rw t (subst (λ id. seen id (put_by g.0 g.1 rows) ≡ given (values_at part done ++ g.1 ∷ [])) same
        (seen_own _ g.1 (values_at part done) (id_of g.0) rows (ap (λ id. seen id rows) same ∙ has part)))
    go false t = rw (t, append-nil (values_at part done)) (seen_other _ (g.1 ∷ []) (id_of g.0) (id_of part) rows t ∙ has part)

-- each single part is given once at most
abbrev pub IsOnce : Parts → Type 0
IsOnce ps = (part : Part) → IsSingle part → length (values_at part ps) ≤ 1

not_empty : (xs : List Text) (v : Text) (ys : List Text) → 1 ≤ length (xs ++ v ∷ ys)
not_empty [] v ys = omega arith
not_empty (x ∷ xs) v ys = omega (not_empty xs v ys, arith)

none_before : (xs : List Text) (v : Text) (ys : List Text) → length (xs ++ v ∷ ys) ≤ 1 → xs ≡ []
none_before [] v ys h = refl
none_before (x ∷ xs) v ys h = absurd (omega (not_empty xs v ys, h, arith))

own_value : (g : Part × Text) (gs : Parts) → values_at g.0 (g ∷ gs) ≡ g.1 ∷ values_at g.0 gs
own_value g gs = rw ((bytes_eq-Decides (id_of g.0) (id_of g.0)).1 refl) refl

is_fresh : (g : Part × Text) (gs done : Parts) (rows : List Row) → HasParts rows done → IsOnce (done ++ g ∷ gs) → IsFresh g.0 rows
is_fresh g gs done rows has once single =
    let few = once g.0 single in
    let few_more : length (values_at g.0 done ++ g.1 ∷ values_at g.0 gs) ≤ 1 =
    subst (λ xs. length xs ≤ 1) (values_append g.0 done (g ∷ gs) ∙ ap (λ xs. values_at g.0 done ++ xs) (own_value g gs)) few in
    has g.0 ∙ ap given (none_before _ _ _ few_more)

pub found : (ps : Parts) (rows : List Row) (done : Parts) → HasParts rows done → IsOnce (done ++ ps)
    → IsClean rows ps × HasParts (uses rows ps) (done ++ ps)
found [] rows done has once = (tt, subst (HasParts rows) (sym (append-nil done)) has)
found (g ∷ gs) rows done has once =
    let fresh = is_fresh g gs done rows has once in
    let again = append_assoc done (g ∷ []) gs in
    let rest = found gs (used (rule_at g.0) (g.1 ∷ []) rows) (done ++ g ∷ []) (more g rows done has fresh) (subst IsOnce (sym again) once) in
    ((fine g.0 g.1 rows fresh, rest.0), subst (HasParts _) again rest.1)
