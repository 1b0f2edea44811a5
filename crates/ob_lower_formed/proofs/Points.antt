-- What stands at a point of a block, and what a statement does to it.
use Rattle.std.proofs.Common.{◌≡◌, ℕ, ◌<◌, ◌≤◌, Bool, true, false, nat_eq, List, [], ◌∷◌, map, Some, None, refl, sym, ap, ◌∙◌, subst, ◌⊎◌, inl, inr, true≢false, is_some}
use Rattle.std.proofs.lemmas.Bool.{or_parts, or_from, or_left, or_right}
use Rattle.std.specs.Prelude.{⊤}
use Rattle.ob_base.specs.declared.fault.Span.{Span}
use Rattle.ob_base.specs.declared.id.StateId.{StateId}
use Rattle.ob_table.specs.Statements.{Statement, Statements, and_statement}
use Rattle.ob_table_spec.specs.WellFormed.{StaticFrame, LocalKinds, local_kind, locals_after, rest_of_row, ends_there}
use Rattle.ob_silica.specs.Terms.{SilicaForm, unit_form, SilicaTerms, one_term, then_terms}
use Rattle.ob_silica.specs.declared.place.Given.{Given}
use Rattle.ob_silica_formed.specs.Holdings.{Holdings, after_terms, terms_end, Each}
use Rattle.ob_silica_formed.specs.Points.{NoneFollows}
use Rattle.ob_lower_spec.specs.Forms.{SlotVariable, locals_of, slot_of, refused_at}
use Rattle.ob_lower_spec.specs.Points.{Temporary, references, StagedRow, no_row, staged_row, refused_row, given_before, made_before, Point, passed, declares, used_at}
use Rattle.ob_lower_spec.specs.GivenTerms.{with_unit}
use Rattle.ob_lower_spec.specs.StatementTerms.{ended_by}
use Rattle.ob_lower_formed.proofs.Sets.{among, or_split, Within, within_self, within_on}
use Rattle.ob_lower_formed.proofs.Ways.{IsWellFormedForm, after_then, each_then, end_then, follows_then}
use Rattle.ob_lower_formed.proofs.Effects.{Kept, Quiet, After, kept_on, differs, if_refers, Runs, Leaves, runs_of, leaves_of, then_dropped}
use Rattle.ob_lower_formed.proofs.Operands.{Stands, stands_on, Fields, Fresh, fresh_none}
use Rattle.ob_lower_formed.proofs.Expressions.{nothing_within}

-- More of what terms leave.

pub within_cons : (k : ℕ) (used : List ℕ) → Within used (k ∷ used)
within_cons k used = record { by = λ j e. or_right (nat_eq j k) (among j used) e }

pub if_refers_apart : (j k : ℕ) (b : Bool) → nat_eq j k ≡ false → among j (if_refers k b) ≡ false
if_refers_apart j k true e = or_from (nat_eq j k) false e refl
if_refers_apart j k false e = refl

pub after_same : {used left more : List ℕ} {h g i : Holdings} → After used left h g → After used more g i → After used more h i
after_same a b = record { kept = kept_on a.kept (record { by = λ j e. e }) b.kept; quiet = b.quiet }

module _ (f : StaticFrame) where
  -- terms and then others, with the same slots in use
  pub same_runs : {h : Holdings} {x y : SilicaTerms} {used left more : List ℕ} → Leaves f h x used left → Runs f (after_terms f x h) y used more
      → Runs f h (then_terms x y) used more
  same_runs {h} {x} {y} {used} {left} {more} a b = record {
    each = each_then f IsWellFormedForm x y h a.each b.each;
    follows = follows_then x y a.follows a.goes_on b.follows;
    after = λ e. subst (λ g. After used more h g) (sym (after_then f x y h))
        (after_same a.after (b.after ((or_parts (terms_end x) (terms_end y) (sym (end_then x y) ∙ e)).1)));
  }

  pub same_leaves : {h : Holdings} {x y : SilicaTerms} {used left more : List ℕ} → Leaves f h x used left → Leaves f (after_terms f x h) y used more
      → Leaves f h (then_terms x y) used more
  same_leaves {h} {x} {y} a b = leaves_of f (same_runs a (runs_of f b)) (end_then x y ∙ or_from (terms_end x) (terms_end y) a.goes_on b.goes_on)

  unit_made : (h : Holdings) → IsWellFormedForm f h unit_form
  unit_made h = record { numbers = tt; kinds = tt; results = tt; params = tt; references = tt; bodies = tt; returns = tt; turns = tt }

  pub unit_runs : {h : Holdings} {x : SilicaTerms} {used left : List ℕ} (span : Span) → Runs f h x used left → Runs f h (with_unit span x) used left
  unit_runs {h} span r = record {
    each = (unit_made h, tt, r.each);
    follows = ((λ t. absurd (true≢false (sym t))), tt, r.follows);
    after = r.after;
  }

  -- a form, and then the temporaries end
  pub finished : {h : Holdings} {x : SilicaTerms} {form : SilicaForm} (used : List ℕ) (made : List Temporary) (span : Span) → ((k : ℕ) → among k used ≡ false → f.params < k)
      → ((j : ℕ) → among j used ≡ true → among j (references made) ≡ false) → Leaves f h x used (references made) → Leaves f (after_terms f x h) (one_term form span) used (references made)
      → Leaves f h (ended_by span x form made) used []
  finished {h} {x} {form} used made span own apart first second =
      same_leaves first (then_dropped f span used (references made) own apart second)

-- Points.

-- the fields that are given
abbrev pub fields_of : List Given → List ℕ
fields_of given = map (λ g. g.field.0) given

-- no number stands twice
abbrev pub Once : List ℕ → Type 0
Once [] = ⊤
Once (x ∷ xs) = (among x xs ≡ false) × Once xs

-- the slots of variables, and those of `this` and the parameters, are in use
pub record Low (f : StaticFrame) (vs : List SlotVariable) (used : List ℕ) : Type 0 where
  pub inside : (n k : ℕ) → slot_of vs n ≡ Some k → among k used ≡ true
  pub fixed : (j : ℕ) → j ≤ f.params → among j used ≡ true

-- the fields that a row of staged statements gives are those of the row
abbrev pub RowIs : StagedRow → List ℕ → Type 0
RowIs no_row row = row ≡ []
RowIs (staged_row first given made) row = fields_of given ≡ row
RowIs refused_row row = ⊤

-- after a staged statement another one or the change follows
abbrev pub RowOpen : StagedRow → Statements → Type 0
RowOpen no_row rest = ⊤
RowOpen (staged_row first given made) rest = (state : StateId) × (at : Span) × (refused_at state at rest ≡ None)
RowOpen refused_row rest = ⊤

-- what stands at a point, before these statements
pub record At (f : StaticFrame) (p : Point) (ws : LocalKinds) (row : List ℕ) (rest : Statements) (h : Holdings) : Type 0 where
  pub stands : Stands f p.variables (used_at p) h
  pub low : Low f p.variables p.used
  pub quiet : Quiet p.used (references (made_before p.row)) h
  pub fresh : Fresh (made_before p.row) p.used
  pub agree : (n : ℕ) → local_kind ws n ≡ local_kind (locals_of p.variables) n
  pub given : Fields f (used_at p) h (given_before p.row)
  pub row_is : RowIs p.row row
  pub once : Once (fields_of (given_before p.row))
  pub goes_on : RowOpen p.row rest

-- a statement that is no part of a row has none before it
pub row_closed : (r : StagedRow) (s : Statement) (rest : Statements) → RowOpen r (and_statement s rest)
    → ((state : StateId) (at : Span) → refused_at state at (and_statement s rest) ≡ Some at) → made_before r ≡ []
row_closed no_row s rest o c = refl
row_closed (staged_row first given made) s rest o c = absurd (true≢false (ap is_some (sym (c o.0 o.1) ∙ o.2)))
row_closed refused_row s rest o c = refl

pub closed_stands : {f : StaticFrame} {p : Point} {ws : LocalKinds} {row : List ℕ} {rest : Statements} {h : Holdings} → At f p ws row rest h → made_before p.row ≡ []
    → Stands f p.variables p.used h
closed_stands {f} {p} {ws} {row} {rest} {h} a e = record {
  sees = λ n k s. let x = a.stands.sees n k s in record { kind = x.kind; is = x.is; inside = a.low.inside n k s; holds = x.holds; own = x.own; real = x.real };
  fixed = a.low.fixed;
  quiet = subst (λ m. Quiet p.used (references m) h) e a.quiet;
}

pub passed_at : {f : StaticFrame} (p : Point) {ws : LocalKinds} (rest : Statements) {h : Holdings} → Stands f p.variables p.used h → Low f p.variables p.used
    → ((n : ℕ) → local_kind ws n ≡ local_kind (locals_of p.variables) n) → At f (passed p) ws [] rest h
passed_at {f} p rest s low agree = record {
  stands = s;
  low = record { inside = low.inside; fixed = low.fixed };
  quiet = s.quiet;
  fresh = fresh_none p.used;
  agree = agree;
  given = record { by = tt };
  row_is = refl;
  once = tt;
  goes_on = tt;
}

-- of a block: what had been in use before it, and what it declares
pub record Blocked (outer : List ℕ) (p : Point) : Type 0 where
  pub wider : Within outer p.used
  pub split : (j : ℕ) → among j p.used ≡ true → (among j outer ≡ true) ⊎ (among j p.declared ≡ true)
  pub apart : (j : ℕ) → among j outer ≡ true → among j p.declared ≡ false

pub blocked_declares : {outer : List ℕ} {p : Point} (v : SlotVariable) → Blocked outer p → among v.slot p.used ≡ false → Blocked outer (declares p v)
blocked_declares {outer} {p} v b free = record {
  wider = within_on b.wider (within_cons v.slot p.used);
  split = λ j e. go j (or_split (nat_eq j v.slot) (among j p.used) e);
  apart = λ j e. or_from (nat_eq j v.slot) (among j p.declared) (differs j v.slot p.used (b.wider.by j e) free) (b.apart j e);
}
  where
    more : (j : ℕ) → (among j outer ≡ true) ⊎ (among j p.declared ≡ true) → (among j outer ≡ true) ⊎ (among j (v.slot ∷ p.declared) ≡ true)
    more j (inl e) = inl e
    more j (inr e) = inr (or_right (nat_eq j v.slot) (among j p.declared) e)

    go : (j : ℕ) → (nat_eq j v.slot ≡ true) ⊎ (among j p.used ≡ true) → (among j outer ≡ true) ⊎ (among j (v.slot ∷ p.declared) ≡ true)
    go j (inl e) = inr (or_left (nat_eq j v.slot) (among j p.declared) e)
    go j (inr e) = more j (b.split j e)

-- what a statement does
pub record Did (f : StaticFrame) (outer : List ℕ) (p q : Point) (ws : LocalKinds) (row : List ℕ) (s : Statement) (rest : Statements) (ts : SilicaTerms) (h : Holdings) : Type 0 where
  pub each : Each IsWellFormedForm f h ts
  pub follows : NoneFollows ts
  pub ends : terms_end ts ≡ ends_there s
  pub kept : ends_there s ≡ false → Kept p.used h (after_terms f ts h)
  pub next : ends_there s ≡ false → At f q (locals_after ws s) (rest_of_row row s) rest (after_terms f ts h)
  pub blocked : Blocked outer q

-- one that declares and stages nothing
pub did_passed : {f : StaticFrame} {outer : List ℕ} {p q : Point} {ws : LocalKinds} {row : List ℕ} {s : Statement} {rest : Statements} {ts : SilicaTerms} {h : Holdings}
    → Stands f p.variables p.used h → Low f p.variables p.used → ((n : ℕ) → local_kind ws n ≡ local_kind (locals_of p.variables) n) → Blocked outer p
    → locals_after ws s ≡ ws → rest_of_row row s ≡ [] → q ≡ passed p → Runs f h ts p.used [] → terms_end ts ≡ ends_there s
    → Did f outer p q ws row s rest ts h
did_passed {f} {outer} {p} {q} {ws} {row} {s} {rest} {ts} {h} st low agree b eb er eq r ends =
    subst (λ q. Did f outer p q ws row s rest ts h) (sym eq) (record {
      each = r.each;
      follows = r.follows;
      ends = ends;
      kept = λ e. (r.after (ends ∙ e)).kept;
      next = λ e. subst (λ o. At f (passed p) (locals_after ws s) o rest (after_terms f ts h)) (sym er)
          (subst (λ l. At f (passed p) l [] rest (after_terms f ts h)) (sym eb)
          (passed_at p rest (stands_on st (r.after (ends ∙ e)) (within_self p.used) (nothing_within p.used)) low agree));
      blocked = record { wider = b.wider; split = b.split; apart = b.apart };
    })
