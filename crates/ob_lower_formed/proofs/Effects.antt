-- What terms leave after them: which slots hold what they held, and which refer.
use Rattle.std.proofs.Common.{◌≡◌, ℕ, ◌<◌, Bool, true, false, ◌&&◌, ◌||◌, nat_eq, List, [], ◌∷◌, ◌++◌, Option, Some, None, refl, sym, ap, ◌∙◌, subst, eqb-true, ◌⊎◌, inl, inr, true≢false, if◌then◌else◌}
use Rattle.std.proofs.lemmas.Bool.{or_parts, or_from}
use Rattle.ob_base.specs.declared.fault.Span.{Span}
use Rattle.ob_table.specs.declared.seen.Kind.{Kind}
use Rattle.ob_table.specs.declared.seen.Kind.TheVariants.{Int, Bool as BoolKind, Text, Reference}
use Rattle.ob_table_spec.specs.WellFormed.{StaticFrame}
use Rattle.ob_silica.specs.Terms.{SilicaForm, test_form, if_form, loop_form, drop_form, SilicaTerms, no_terms, one_term, then_terms}
use Rattle.ob_silica.specs.declared.place.Operand.{Operand}
use Rattle.ob_silica_formed.specs.Holdings.{SlotContent, held, Holdings, with_slot, with_slot_if, written, slot_written, kind_written, after_form, at_head, after_terms, form_ends, terms_end, kinds_equal, common_kind, either_way, joined, Each, EachWithin}
use Rattle.ob_silica_formed.specs.Points.{NoneFollows, NoneFollowsWithin}
use Rattle.ob_lower_spec.specs.Forms.{drops}
use Rattle.ob_lower_formed.proofs.Sets.{among, by_bool, nat_same, apart_parts, Within, apart_within}
use Rattle.ob_lower_formed.proofs.Ways.{IsWellFormedForm, after_then, each_then, end_then, follows_then}

-- slots that hold what they held
pub record Kept (used : List ℕ) (h g : Holdings) : Type 0 where
  pub by : (j : ℕ) → among j used ≡ true → g j ≡ h j

-- no slots but these hold a reference on some way
pub record Quiet (used left : List ℕ) (h : Holdings) : Type 0 where
  pub by : (j : ℕ) → among j used ≡ false → among j left ≡ false → (h j).refers ≡ false

-- both
pub record After (used left : List ℕ) (h g : Holdings) : Type 0 where
  pub kept : Kept used h g
  pub quiet : Quiet used left g

pub kept_self : (used : List ℕ) (h : Holdings) → Kept used h h
kept_self used h = record { by = λ j e. refl }

pub kept_on : {some all : List ℕ} {h g i : Holdings} → Kept some h g → Within some all → Kept all g i → Kept some h i
kept_on a w b = record { by = λ j e. b.by j (w.by j e) ∙ a.by j e }

pub differs : (j k : ℕ) (used : List ℕ) → among j used ≡ true → among k used ≡ false → nat_eq j k ≡ false
differs j k used e f = go (by_bool (nat_eq j k))
  where
    go : (nat_eq j k ≡ true) ⊎ (nat_eq j k ≡ false) → nat_eq j k ≡ false
    go (inl t) = absurd (true≢false (sym e ∙ ap (λ n. among n used) (eqb-true j k t) ∙ f))
    go (inr d) = d

-- what follows after terms, and then others
pub after_on : {used mid left more : List ℕ} {h g i : Holdings} → After used left h g → Within used mid → After mid more g i
    → After used (left ++ more) h i
after_on {used} {mid} {left} {more} {h} {g} {i} a w b = record {
  kept = kept_on a.kept w b.kept;
  quiet = record { by = λ j u l. let parts = apart_parts j left more l in go j u parts.0 parts.1 (by_bool (among j mid)) };
}
  where
    go : (j : ℕ) → among j used ≡ false → among j left ≡ false → among j more ≡ false
        → (among j mid ≡ true) ⊎ (among j mid ≡ false) → (i j).refers ≡ false
    go j u l m (inl t) = ap (λ (x : SlotContent). x.refers) (b.kept.by j t) ∙ a.quiet.by j u l
    go j u l m (inr f) = b.quiet.by j f m

pub after_more : {used left more : List ℕ} {h g : Holdings} → After used left h g → Within left more → After used more h g
after_more a w = record { kept = a.kept; quiet = record { by = λ j u m. a.quiet.by j u (apart_within j w m) } }

-- Setting a slot.

pub set_kept : (used : List ℕ) (k : ℕ) (x : SlotContent) (h : Holdings) → among k used ≡ false → Kept used h (with_slot k x h)
set_kept used k x h e = record { by = λ j u. ap (λ b. if b then x else h j) (differs j k used u e) }

pub set_at : (k : ℕ) (x : SlotContent) (h : Holdings) → with_slot k x h k ≡ x
set_at k x h = ap (λ b. if b then x else h k) (nat_same k)

-- a slot, if it holds a reference
abbrev pub if_refers : ℕ → Bool → List ℕ
if_refers k b = if b then k ∷ [] else []

pub set_quiet : (used left : List ℕ) (k : ℕ) (x : SlotContent) (h : Holdings) (b : Bool) → x.refers ≡ b → Quiet used left h
    → Quiet used (left ++ if_refers k b) (with_slot k x h)
set_quiet used left k x h b e q = record { by = λ j u l. let parts = apart_parts j left (if_refers k b) l in go j u parts.0 b e parts.1 (by_bool (nat_eq j k)) }
  where
    go : (j : ℕ) → among j used ≡ false → among j left ≡ false → (d : Bool) → x.refers ≡ d → among j (if_refers k d) ≡ false
        → (nat_eq j k ≡ true) ⊎ (nat_eq j k ≡ false) → (with_slot k x h j).refers ≡ false
    go j u l true r m (inl t) = absurd (true≢false (sym t ∙ (or_parts (nat_eq j k) false m).0))
    go j u l false r m (inl t) = ap (λ c. (if c then x else h j).refers) t ∙ r
    go j u l d r m (inr f) = ap (λ c. (if c then x else h j).refers) f ∙ q.by j u l

-- Branches.

kinds_same : (k : Kind) → kinds_equal k k ≡ true
kinds_same Int = refl
kinds_same BoolKind = refl
kinds_same Text = refl
kinds_same (Reference c) = nat_same c.0

common_same : (o : Option Kind) → common_kind o o ≡ o
common_same None = refl
common_same (Some k) = ap (λ b. if b then Some k else None) (kinds_same k)

or_same : (b : Bool) → (b || b) ≡ b
or_same true = refl
or_same false = refl

pub held_by : (a b : SlotContent) → a.kind ≡ b.kind → a.refers ≡ b.refers → a ≡ b
held_by a b e d = ap (λ k. record { kind = k; refers = a.refers }) e ∙ ap (λ r. record { kind = b.kind; refers = r }) d

pub either_same : (a : SlotContent) → either_way a a ≡ a
either_same a = held_by (either_way a a) a (common_same a.kind) (or_same a.refers)

pub either_of : (a b c : SlotContent) → a ≡ c → b ≡ c → either_way a b ≡ c
either_of a b c e d = ap (λ x. either_way x b) e ∙ ap (λ y. either_way c y) d ∙ either_same c

after_joined : {used left : List ℕ} {h a b : Holdings} (p q : Bool) → (p ≡ false → After used left h a) → (q ≡ false → After used left h b)
    → (p && q) ≡ false → After used left h (joined p q a b)
after_joined true true x y e = absurd (true≢false e)
after_joined true false x y e = y refl
after_joined false true x y e = x refl
after_joined {used} {left} {h} {a} {b} false false x y e = record {
  kept = record { by = λ j u. either_of (a j) (b j) (h j) ((x refl).kept.by j u) ((y refl).kept.by j u) };
  quiet = record { by = λ j u l. or_from (a j).refers (b j).refers ((x refl).quiet.by j u l) ((y refl).quiet.by j u l) };
}

module _ (f : StaticFrame) where
  -- well-formed terms, after which, where it is reached, slots hold this
  pub record Runs (h : Holdings) (ts : SilicaTerms) (used left : List ℕ) : Type 0 where
    pub each : Each IsWellFormedForm f h ts
    pub follows : NoneFollows ts
    pub after : terms_end ts ≡ false → After used left h (after_terms f ts h)

  -- the same, and what is after them is reached
  pub record Leaves (h : Holdings) (ts : SilicaTerms) (used left : List ℕ) : Type 0 where
    pub each : Each IsWellFormedForm f h ts
    pub follows : NoneFollows ts
    pub goes_on : terms_end ts ≡ false
    pub after : After used left h (after_terms f ts h)

  pub runs_of : {h : Holdings} {ts : SilicaTerms} {used left : List ℕ} → Leaves h ts used left → Runs h ts used left
  runs_of l = record { each = l.each; follows = l.follows; after = λ e. l.after }

  pub leaves_of : {h : Holdings} {ts : SilicaTerms} {used left : List ℕ} → Runs h ts used left → terms_end ts ≡ false → Leaves h ts used left
  leaves_of r e = record { each = r.each; follows = r.follows; goes_on = e; after = r.after e }

  pub none_leaves : (h : Holdings) (used : List ℕ) → Quiet used [] h → Leaves h no_terms used []
  none_leaves h used q = record { each = tt; follows = tt; goes_on = refl; after = record { kept = kept_self used h; quiet = q } }

  pub leaves_more : {h : Holdings} {ts : SilicaTerms} {used left more : List ℕ} → Leaves h ts used left → Within left more → Leaves h ts used more
  leaves_more l w = record { each = l.each; follows = l.follows; goes_on = l.goes_on; after = after_more l.after w }

  -- terms, and then others
  pub then_runs : {h : Holdings} {x y : SilicaTerms} {used mid left more : List ℕ} → Leaves h x used left → Within used mid
      → Runs (after_terms f x h) y mid more → Runs h (then_terms x y) used (left ++ more)
  then_runs {h} {x} {y} {used} {mid} {left} {more} a w b = record {
    each = each_then f IsWellFormedForm x y h a.each b.each;
    follows = follows_then x y a.follows a.goes_on b.follows;
    after = λ e. subst (λ g. After used (left ++ more) h g) (sym (after_then f x y h))
        (after_on a.after w (b.after ((or_parts (terms_end x) (terms_end y) (sym (end_then x y) ∙ e)).1)));
  }

  pub then_leaves : {h : Holdings} {x y : SilicaTerms} {used mid left more : List ℕ} → Leaves h x used left → Within used mid
      → Leaves (after_terms f x h) y mid more → Leaves h (then_terms x y) used (left ++ more)
  then_leaves {h} {x} {y} a w b =
      leaves_of (then_runs a w (runs_of b)) (end_then x y ∙ or_from (terms_end x) (terms_end y) a.goes_on b.goes_on)

  -- a form without branches that doesn't end
  pub record Plain (h : Holdings) (form : SilicaForm) : Type 0 where
    pub well_formed : IsWellFormedForm f h form
    pub within : EachWithin IsWellFormedForm f h form
    pub follows : NoneFollowsWithin form
    pub after : after_form f form h ≡ written f form h
    pub goes_on : form_ends form ≡ false

  -- one that sets a slot
  pub set_leaves : {h : Holdings} {form : SilicaForm} (span : Span) (used left : List ℕ) (k : ℕ) (kind : Option Kind) (b : Bool)
      → Plain h form → slot_written form ≡ Some k → kind_written f h form ≡ kind → (held kind).refers ≡ b → among k used ≡ false
      → Quiet used left h → Leaves h (one_term form span) used (left ++ if_refers k b)
  set_leaves {h} {form} span used left k kind b p slot is refers apart quiet = record {
    each = (p.well_formed, p.within, tt);
    follows = ((λ t. absurd (true≢false (sym t ∙ p.goes_on))), p.follows, tt);
    goes_on = or_from (form_ends form) false p.goes_on refl;
    after = subst (λ g. After used (left ++ if_refers k b) h g) (sym (p.after ∙ ap (λ o. with_slot_if o (held (kind_written f h form)) h) slot ∙ ap (λ o. with_slot k (held o) h) is))
        (record { kept = set_kept used k (held kind) h apart; quiet = set_quiet used left k (held kind) h b refers quiet });
  }

  pub set_after : {h : Holdings} {form : SilicaForm} (span : Span) (k : ℕ) (kind : Option Kind)
      → Plain h form → slot_written form ≡ Some k → kind_written f h form ≡ kind
      → after_terms f (one_term form span) h ≡ with_slot k (held kind) h
  set_after {h} {form} span k kind p slot is =
      p.after ∙ ap (λ o. with_slot_if o (held (kind_written f h form)) h) slot ∙ ap (λ o. with_slot k (held o) h) is

  -- one that sets none
  pub quiet_leaves : {h : Holdings} {form : SilicaForm} (span : Span) (used left : List ℕ)
      → Plain h form → slot_written form ≡ None → Quiet used left h → Leaves h (one_term form span) used left
  quiet_leaves {h} {form} span used left p slot quiet = record {
    each = (p.well_formed, p.within, tt);
    follows = ((λ t. absurd (true≢false (sym t ∙ p.goes_on))), p.follows, tt);
    goes_on = or_from (form_ends form) false p.goes_on refl;
    after = subst (λ g. After used left h g) (sym (p.after ∙ ap (λ o. with_slot_if o (held (kind_written f h form)) h) slot))
        (record { kept = kept_self used h; quiet = quiet });
  }

  -- an `if`, and a test
  pub if_runs : {h : Holdings} (a : Operand) (x y : SilicaTerms) (join span : Span) (used left : List ℕ)
      → IsWellFormedForm f h (if_form a x y join) → Runs h x used left → Runs h y used left → Runs h (one_term (if_form a x y join) span) used left
  if_runs {h} a x y join span used left m r s = record {
    each = (m, (r.each, s.each), tt);
    follows = ((λ t. refl), (r.follows, s.follows), tt);
    after = λ e. after_joined (terms_end x) (terms_end y) r.after s.after (or_parts (terms_end x && terms_end y) false e).0;
  }

  pub test_runs : {h : Holdings} (place : Operand) (state : _) (x y : SilicaTerms) (join span : Span) (used left : List ℕ)
      → IsWellFormedForm f h (test_form place state x y join) → Runs h x used left → Runs h y used left → Runs h (one_term (test_form place state x y join) span) used left
  test_runs {h} place state x y join span used left m r s = record {
    each = (m, (r.each, s.each), tt);
    follows = ((λ t. refl), (r.follows, s.follows), tt);
    after = λ e. after_joined (terms_end x) (terms_end y) r.after s.after (or_parts (terms_end x && terms_end y) false e).0;
  }

  -- what slots hold at the head of a loop, where a turn leaves those in use as they were and no other that refers
  pub head_after : {h : Holdings} (first body : SilicaTerms) (used : List ℕ) → Quiet used [] h → (terms_end body ≡ false → After used [] h (after_terms f body (after_terms f first h)))
      → After used [] h (at_head f first body h)
  head_after {h} first body used quiet turn = after_joined false (terms_end body) (λ e. record { kept = kept_self used h; quiet = quiet }) turn refl

  -- a loop
  pub loop_leaves : {h : Holdings} (first : SilicaTerms) (a : Operand) (body : SilicaTerms) (end span : Span) (used : List ℕ)
      → IsWellFormedForm f h (loop_form first a body end) → After used [] h (at_head f first body h) → Leaves (at_head f first body h) first used []
      → Runs (after_terms f first (at_head f first body h)) body used [] → Leaves h (one_term (loop_form first a body end) span) used []
  loop_leaves {h} first a body end span used m head r s = record {
    each = (m, (r.each, s.each), tt);
    follows = ((λ t. absurd (true≢false (sym t))), (r.follows, s.follows), tt);
    goes_on = refl;
    after = record { kept = kept_on head.kept (record { by = λ j e. e }) r.after.kept; quiet = r.after.quiet };
  }

  -- Drops.

  -- once a slot is dropped it doesn't refer
  dropped_quiet : (used : List ℕ) (k : ℕ) (ks : List ℕ) (h : Holdings) → Quiet used (k ∷ ks) h → Quiet used ks (with_slot k (held None) h)
  dropped_quiet used k ks h q = record { by = λ j u l. go j u l (by_bool (nat_eq j k)) }
    where
      go : (j : ℕ) → among j used ≡ false → among j ks ≡ false → (nat_eq j k ≡ true) ⊎ (nat_eq j k ≡ false)
          → (with_slot k (held None) h j).refers ≡ false
      go j u l (inl t) = ap (λ c. (if c then held None else h j).refers) t
      go j u l (inr d) = ap (λ c. (if c then held None else h j).refers) d ∙ q.by j u (or_from (nat_eq j k) (among j ks) d l)

  pub drop_made : (h : Holdings) (k : ℕ) → f.params < k → IsWellFormedForm f h (drop_form k)
  drop_made h k own = record { numbers = tt; kinds = tt; results = tt; params = own; references = tt; bodies = tt; returns = tt; turns = tt }

  -- slots that aren't in use are dropped
  pub drops_leave : (span : Span) (used ks : List ℕ) (h : Holdings) → ((k : ℕ) → among k used ≡ false → f.params < k)
      → ((j : ℕ) → among j used ≡ true → among j ks ≡ false) → Quiet used ks h → Leaves h (drops ks span) used []
  drops_leave span used [] h own apart q = none_leaves h used q
  drops_leave span used (k ∷ ks) h own apart q =
      let out : among k used ≡ false = go (by_bool (among k used)) in
      let rest = drops_leave span used ks (with_slot k (held None) h) own (λ j u. (or_parts (nat_eq j k) (among j ks) (apart j u)).1) (dropped_quiet used k ks h q) in
      record {
        each = (drop_made h k (own k out), tt, rest.each);
        follows = ((λ t. absurd (true≢false (sym t))), tt, rest.follows);
        goes_on = rest.goes_on;
        after = record { kept = kept_on (set_kept used k (held None) h out) (record { by = λ j e. e }) rest.after.kept; quiet = rest.after.quiet };
      }
    where
      go : (among k used ≡ true) ⊎ (among k used ≡ false) → among k used ≡ false
      go (inl t) = absurd (true≢false (sym (nat_same k) ∙ (or_parts (nat_eq k k) (among k ks) (apart k t)).0))
      go (inr d) = d

  -- terms whose slots that refer are dropped then
  pub then_dropped : {h : Holdings} {x : SilicaTerms} (span : Span) (used left : List ℕ) → ((k : ℕ) → among k used ≡ false → f.params < k)
      → ((j : ℕ) → among j used ≡ true → among j left ≡ false) → Leaves h x used left → Leaves h (then_terms x (drops left span)) used []
  then_dropped {h} {x} span used left own apart a =
      let d = drops_leave span used left (after_terms f x h) own apart a.after.quiet in
      record {
        each = each_then f IsWellFormedForm x (drops left span) h a.each d.each;
        follows = follows_then x (drops left span) a.follows a.goes_on d.follows;
        goes_on = end_then x (drops left span) ∙ or_from (terms_end x) (terms_end (drops left span)) a.goes_on d.goes_on;
        after = subst (λ g. After used [] h g) (sym (after_then f x (drops left span) h))
            (record { kept = kept_on a.after.kept (record { by = λ j e. e }) d.after.kept; quiet = d.after.quiet });
      }
