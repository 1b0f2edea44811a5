-- Declarations and assignments.
use Rattle.std.proofs.Common.{◌≡◌, ℕ, ◌<◌, true, false, ◌||◌, nat_eq, List, [], ◌∷◌, ◌++◌, Option, Some, None, option_map, IsSomeAnd, refl, sym, ap, ◌∙◌, subst, ◌⊎◌, inl, inr, true≢false, if◌then◌else◌, eqb-true}
use Rattle.std.proofs.lemmas.Bool.{or_parts, or_from, or_left, or_right}
use Rattle.std.specs.Prelude.{IsTrue}
use Rattle.ob_base.specs.declared.fault.Span.{Span}
use Rattle.ob_base.specs.declared.id.FieldId.{FieldId}
use Rattle.ob_table.specs.Expressions.{Expression}
use Rattle.ob_table.specs.Statements.{resolved_declare, resolved_assign, Statements}
use Rattle.ob_table.specs.Tables.{ClassTable}
use Rattle.ob_table.specs.declared.seen.Kind.{Kind}
use Rattle.ob_table.specs.declared.seen.Kind.TheVariants.{Int, Bool as BoolKind, Text, Reference}
use Rattle.ob_table.specs.declared.seen.Seen.{Seen}
use Rattle.ob_table.specs.declared.seen.Seen.TheVariants.{This as ThisSeen, Local, Field as FieldSeen}
use Rattle.ob_table.specs.declared.seen.SeenAt.{SeenAt}
use Rattle.ob_table_spec.specs.WellFormed.{StaticFrame, LocalKinds, local_kind, kind_of_seen, kind_of_expression, is_reference, serves_as, IsLocalKind, IsTarget, IsValue}
use Rattle.ob_silica.specs.Terms.{SilicaForm, copy_form, SilicaTerms, and_term, one_term, then_terms}
use Rattle.ob_silica.specs.declared.place.Operand.{Operand}
use Rattle.ob_silica.specs.declared.place.Place.{Place}
use Rattle.ob_silica.specs.declared.place.Place.TheVariants.{Slot, Field}
use Rattle.ob_silica_formed.specs.Holdings.{SlotContent, held, Holdings, with_slot, kind_of_place, slot_written, kind_written, after_terms}
use Rattle.ob_silica_formed.specs.Points.{HasKind}
use Rattle.ob_lower_spec.specs.Forms.{drops, SlotVariable, locals_of, slot_of, place_seen, set_slot, set_place}
use Rattle.ob_lower_spec.specs.Points.{IsFree, references, Point, passed, declares, around}
use Rattle.ob_lower_spec.specs.ExpressionTerms.{Lowered, LowersExpression}
use Rattle.ob_lower_spec.specs.GivenTerms.{with_unit}
use Rattle.ob_lower_spec.specs.StatementTerms.{ended_by}
use Rattle.ob_lower_formed.proofs.Sets.{among, by_bool, or_split, free_among, nat_same, apart_both, Within, within_self}
use Rattle.ob_lower_formed.proofs.Ways.{after_then}
use Rattle.ob_lower_formed.proofs.Effects.{Kept, Quiet, After, kept_self, kept_on, set_at, if_refers, Leaves, runs_of, then_leaves, Plain, set_leaves, set_after, quiet_leaves, drops_leave}
use Rattle.ob_lower_formed.proofs.Operands.{some_so, and_so, if_so, none_some, some_same, Visible, Stands, own_slot, stands_on, place_there, Serving, has_kind, fresh_none, fresh_apart, Gave, copy_plain}
use Rattle.ob_lower_formed.proofs.Expressions.{serving_of, nothing_within, narrowed, seen_agree, expression_made}
use Rattle.ob_lower_formed.proofs.Points.{within_cons, if_refers_apart, same_leaves, unit_runs, finished, Low, At, Blocked, blocked_declares, Did, did_passed}

serves_plain : (table : ClassTable) (of kind : Kind) → serves_as table of kind ≡ true → is_reference of ≡ false → of ≡ kind
serves_plain table Int Int e p = refl
serves_plain table BoolKind BoolKind e p = refl
serves_plain table Text Text e p = refl
serves_plain table (Reference c) kind e p = absurd (true≢false p)
serves_plain table Int BoolKind e p = absurd (true≢false (sym e))
serves_plain table Int Text e p = absurd (true≢false (sym e))
serves_plain table Int (Reference c) e p = absurd (true≢false (sym e))
serves_plain table BoolKind Int e p = absurd (true≢false (sym e))
serves_plain table BoolKind Text e p = absurd (true≢false (sym e))
serves_plain table BoolKind (Reference c) e p = absurd (true≢false (sym e))
serves_plain table Text Int e p = absurd (true≢false (sym e))
serves_plain table Text BoolKind e p = absurd (true≢false (sym e))
serves_plain table Text (Reference c) e p = absurd (true≢false (sym e))

pub serves_reference : (table : ClassTable) (c : _) (kind : Kind) → serves_as table (Reference c) kind ≡ true → is_reference kind ≡ true
serves_reference table c Int e = absurd (true≢false (sym e))
serves_reference table c BoolKind e = absurd (true≢false (sym e))
serves_reference table c Text e = absurd (true≢false (sym e))
serves_reference table c (Reference d) e = refl

-- a form that sets a slot to a value of a kind
pub record Sets (f : StaticFrame) (g : Holdings) (of : Kind) (k : ℕ) (form : SilicaForm) : Type 0 where
  pub plain : Plain f g form
  pub slot : slot_written form ≡ Some k
  pub kind : kind_written f g form ≡ Some of

copy_sets : {f : StaticFrame} {g : Holdings} {used : List ℕ} (of : Kind) (k : ℕ) (o : Operand) → Serving f used g of o.place → is_reference of ≡ false → f.params < k
    → (g k).refers ≡ false → Sets f g of k (copy_form (Slot k) o)
copy_sets {f} {g} of k o s plain own quiet =
    let is : kind_of_place f g o.place ≡ Some of = s.holds.is ∙ ap Some (sym (serves_plain f.table of s.kind s.serves plain)) in
    record { plain = copy_plain k o of is plain own quiet; slot = refl; kind = is }

pub slot_sets : {f : StaticFrame} {g : Holdings} {used : List ℕ} (of : Kind) (k : ℕ) (o : Operand) → Serving f used g of o.place → IsLocalKind f.table of → f.params < k
    → (is_reference of ≡ false → (g k).refers ≡ false) → Sets f g of k (set_slot of k o)
slot_sets Int k o s real own quiet = copy_sets Int k o s refl own (quiet refl)
slot_sets BoolKind k o s real own quiet = copy_sets BoolKind k o s refl own (quiet refl)
slot_sets Text k o s real own quiet = copy_sets Text k o s refl own (quiet refl)
slot_sets {f} {g} {used} (Reference c) k o s real own quiet = record {
  plain = record {
    well_formed = record {
      numbers = (tt, place_there f g o.place s.kind s.holds.is, real);
      kinds = (and_so (kind_of_place f g o.place) (λ d. is_reference d ≡ true) s.kind s.holds.is (serves_reference f.table c s.kind s.serves), has_kind {wanted = Reference c} o s);
      results = tt;
      params = own;
      references = tt;
      bodies = tt;
      returns = tt;
      turns = tt;
    };
    within = tt;
    follows = tt;
    after = refl;
    goes_on = refl;
  };
  slot = refl;
  kind = refl;
}

-- a slot that holds a value of the kind already
reset_leaves : {f : StaticFrame} {g : Holdings} {form : SilicaForm} (span : Span) (used left : List ℕ) (k : ℕ) (of : Kind) → Sets f g of k form → g k ≡ held (Some of)
    → Quiet used left g → Leaves f g (one_term form span) used left
reset_leaves {f} {g} {form} span used left k of s e q = record {
  each = (s.plain.well_formed, s.plain.within, tt);
  follows = ((λ t. absurd (true≢false (sym t ∙ s.plain.goes_on))), s.plain.follows, tt);
  goes_on = ap (λ b. b || false) s.plain.goes_on;
  after = subst (λ i. After used left g i) (sym (set_after f span k (Some of) s.plain s.slot s.kind)) (record {
    kept = record { by = λ j u. same j (by_bool (nat_eq j k)) };
    quiet = record { by = λ j u l. ap (λ (o : SlotContent). o.refers) (same j (by_bool (nat_eq j k))) ∙ q.by j u l };
  });
}
  where
    same : (j : ℕ) → (nat_eq j k ≡ true) ⊎ (nat_eq j k ≡ false) → with_slot k (held (Some of)) g j ≡ g j
    same j (inl t) = ap (λ c. if c then held (Some of) else g j) t ∙ sym e ∙ ap g (sym (eqb-true j k t))
    same j (inr d) = ap (λ c. if c then held (Some of) else g j) d

-- Fields.

copy_field_plain : {f : StaticFrame} {g : Holdings} {used : List ℕ} (of : Kind) (id : FieldId) (o : Operand) → kind_of_place f g (Field id) ≡ Some of → Serving f used g of o.place
    → is_reference of ≡ false → Plain f g (copy_form (Field id) o)
copy_field_plain {f} {g} of id o e s plain = record {
  well_formed = record {
    numbers = (place_there f g (Field id) of e, place_there f g o.place s.kind s.holds.is);
    kinds = (
      and_so (kind_of_place f g o.place) (λ d. is_reference d ≡ false) s.kind s.holds.is (ap is_reference (sym (serves_plain f.table of s.kind s.serves plain)) ∙ plain),
      if_so (kind_of_place f g (Field id)) (λ kind. HasKind f g kind o) of e (has_kind {wanted = of} o s),
    );
    results = tt;
    params = tt;
    references = tt;
    bodies = tt;
    returns = tt;
    turns = tt;
  };
  within = tt;
  follows = tt;
  after = refl;
  goes_on = refl;
}

field_plain : {f : StaticFrame} {g : Holdings} {used : List ℕ} (of : Kind) (id : FieldId) (o : Operand) → kind_of_place f g (Field id) ≡ Some of → Serving f used g of o.place
    → Plain f g (set_place of (Field id) o)
field_plain Int id o e s = copy_field_plain Int id o e s refl
field_plain BoolKind id o e s = copy_field_plain BoolKind id o e s refl
field_plain Text id o e s = copy_field_plain Text id o e s refl
field_plain {f} {g} (Reference c) id o e s = record {
  well_formed = record {
    numbers = (place_there f g (Field id) (Reference c) e, place_there f g o.place s.kind s.holds.is, tt);
    kinds = (
      and_so (kind_of_place f g o.place) (λ d. is_reference d ≡ true) s.kind s.holds.is (serves_reference f.table c s.kind s.serves),
      if_so (kind_of_place f g (Field id)) (λ kind. HasKind f g kind o) (Reference c) e (has_kind {wanted = Reference c} o s),
    );
    results = tt;
    params = tt;
    references = tt;
    bodies = tt;
    returns = tt;
    turns = tt;
  };
  within = tt;
  follows = tt;
  after = refl;
  goes_on = refl;
}

field_slot : (of : Kind) (id : FieldId) (o : Operand) → slot_written (set_place of (Field id) o) ≡ None
field_slot Int id o = refl
field_slot BoolKind id o = refl
field_slot Text id o = refl
field_slot (Reference c) id o = refl

-- Variables.

pub after_kind : (ws : LocalKinds) (n l : ℕ) (of : Kind) → local_kind ws l ≡ None → local_kind (ws ++ (l, of) ∷ []) n ≡ (if nat_eq n l then Some of else local_kind ws n)
after_kind [] n l of e = refl
after_kind (w ∷ ws) n l of e = step (λ z. after_kind ws n l of z) (by_bool (nat_eq l w.0)) (by_bool (nat_eq n w.0)) (by_bool (nat_eq n l))
  where
    rest_none : nat_eq l w.0 ≡ false → local_kind ws l ≡ None
    rest_none d = sym (ap (λ b. if b then Some w.1 else local_kind ws l) d) ∙ e

    step : (local_kind ws l ≡ None → local_kind (ws ++ (l, of) ∷ []) n ≡ (if nat_eq n l then Some of else local_kind ws n))
        → (nat_eq l w.0 ≡ true) ⊎ (nat_eq l w.0 ≡ false) → (nat_eq n w.0 ≡ true) ⊎ (nat_eq n w.0 ≡ false) → (nat_eq n l ≡ true) ⊎ (nat_eq n l ≡ false)
        → (if nat_eq n w.0 then Some w.1 else local_kind (ws ++ (l, of) ∷ []) n) ≡ (if nat_eq n l then Some of else (if nat_eq n w.0 then Some w.1 else local_kind ws n))
    step ih (inl t) m k = absurd (none_some (sym e ∙ ap (λ b. if b then Some w.1 else local_kind ws l) t))
    step ih (inr d) (inl t) (inl s) = absurd (true≢false (sym t ∙ ap (λ i. nat_eq i w.0) (eqb-true n l s) ∙ d))
    step ih (inr d) (inl t) (inr s) = ap (λ b. if b then Some w.1 else local_kind (ws ++ (l, of) ∷ []) n) t
        ∙ sym (ap (λ b. if b then Some w.1 else local_kind ws n) t) ∙ sym (ap (λ b. if b then Some of else (if nat_eq n w.0 then Some w.1 else local_kind ws n)) s)
    step ih (inr d) (inr u) (inl s) = ap (λ b. if b then Some w.1 else local_kind (ws ++ (l, of) ∷ []) n) u ∙ ih (rest_none d)
        ∙ ap (λ b. if b then Some of else local_kind ws n) s ∙ sym (ap (λ b. if b then Some of else (if nat_eq n w.0 then Some w.1 else local_kind ws n)) s)
    step ih (inr d) (inr u) (inr s) = ap (λ b. if b then Some w.1 else local_kind (ws ++ (l, of) ∷ []) n) u ∙ ih (rest_none d)
        ∙ ap (λ b. if b then Some of else local_kind ws n) s ∙ sym (ap (λ b. if b then Some w.1 else local_kind ws n) u)
        ∙ sym (ap (λ b. if b then Some of else (if nat_eq n w.0 then Some w.1 else local_kind ws n)) s)

-- one more variable
stands_declares : {f : StaticFrame} {vs : List SlotVariable} {used : List ℕ} {h : Holdings} (v : SlotVariable) → Stands f vs used h → among v.slot used ≡ true → h v.slot ≡ held (Some v.kind)
    → f.params < v.slot → IsLocalKind f.table v.kind → Stands f (v ∷ vs) used h
stands_declares {f} {vs} {used} {h} v s inside holds own real = record {
  sees = λ n k e. go n k e (by_bool (nat_eq n v.local));
  fixed = s.fixed;
  quiet = s.quiet;
}
  where
    go : (n k : ℕ) → slot_of (v ∷ vs) n ≡ Some k → (nat_eq n v.local ≡ true) ⊎ (nat_eq n v.local ≡ false) → Visible f (v ∷ vs) used h n k
    go n k e (inl t) =
        let same : v.slot ≡ k = some_same (sym (ap (λ b. if b then Some v.slot else slot_of vs n) t) ∙ e) in
        subst (λ j. Visible f (v ∷ vs) used h n j) same (record {
          kind = v.kind;
          is = ap (λ b. if b then Some v.kind else local_kind (locals_of vs) n) t;
          inside = inside;
          holds = holds;
          own = λ l. own;
          real = λ l. real;
        })
    go n k e (inr d) =
        let x = s.sees n k (sym (ap (λ b. if b then Some v.slot else slot_of vs n) d) ∙ e) in
        record {
          kind = x.kind;
          is = ap (λ b. if b then Some v.kind else local_kind (locals_of vs) n) d ∙ x.is;
          inside = x.inside;
          holds = x.holds;
          own = x.own;
          real = x.real;
        }

low_declares : {f : StaticFrame} {vs : List SlotVariable} {used : List ℕ} (v : SlotVariable) → Low f vs used → Low f (v ∷ vs) (v.slot ∷ used)
low_declares {f} {vs} {used} v l = record {
  inside = λ n k e. go n k e (by_bool (nat_eq n v.local));
  fixed = λ j e. or_right (nat_eq j v.slot) (among j used) (l.fixed j e);
}
  where
    go : (n k : ℕ) → slot_of (v ∷ vs) n ≡ Some k → (nat_eq n v.local ≡ true) ⊎ (nat_eq n v.local ≡ false) → among k (v.slot ∷ used) ≡ true
    go n k e (inl t) =
        let same : v.slot ≡ k = some_same (sym (ap (λ b. if b then Some v.slot else slot_of vs n) t) ∙ e) in
        or_left (nat_eq k v.slot) (among k used) (subst (λ j. nat_eq j v.slot ≡ true) same (nat_same v.slot))
    go n k e (inr d) = or_right (nat_eq k v.slot) (among k used) (l.inside n k (sym (ap (λ b. if b then Some v.slot else slot_of vs n) d) ∙ e))

module _ (f : StaticFrame) (outer : List ℕ) (p : Point) (ws : LocalKinds) (row : List ℕ) (h : Holdings) (s : Stands f p.variables p.used h) (low : Low f p.variables p.used)
    (agree : (n : ℕ) → local_kind ws n ≡ local_kind (locals_of p.variables) n) (b : Blocked outer p) where
  -- a declaration
  pub declare_did : (local : ℕ) (name : Span) (of : Kind) (value : Expression) (span : Span) (rest : Statements) (ts : SilicaTerms) (q : Point) (k : ℕ) (x : Lowered)
      → IsFree k p.used → LowersExpression (around f p span) (k ∷ p.used) value x → ts ≡ with_unit span (ended_by span x.terms (set_slot of k x.operand) x.made)
      → q ≡ declares p (record { local = local; kind = of; slot = k }) → IsLocalKind f.table of → f.params < local → local_kind ws local ≡ None → IsValue f ws of value
      → Did f outer p q ws row (resolved_declare local name of value span) rest ts h
  declare_did local name of value span rest ts q k x free lx et eq real above none made =
      let v : SlotVariable = record { local = local; kind = of; slot = k } in
      let apart : among k p.used ≡ false = free_among k p.used free in
      let own : f.params < k = own_slot s k apart in
      let used : List ℕ = k ∷ p.used in
      let wider : Within p.used used = within_cons k p.used in
      let s1 : Stands f p.variables used h = stands_on s (record { kept = kept_self p.used h; quiet = s.quiet }) wider (nothing_within used) in
      let sx = some_so (kind_of_expression f ws value) (λ has. IsTrue (serves_as f.table of has)) made.1 in
      let gx : Gave f h used x sx.0 = expression_made f p.variables ws agree span value x used h sx.0 lx made.0 s1 sx.1 in
      let g = after_terms f x.terms h in
      let refs : List ℕ = references x.made in
      let form = set_slot of k x.operand in
      let first : Leaves f h x.terms p.used refs = narrowed s.quiet wider gx.leaves in
      let before : g k ≡ h k = gx.leaves.after.kept.by k (or_left (nat_eq k k) (among k p.used) (nat_same k)) in
      let set : Sets f g of k form = slot_sets of k x.operand (serving_of x.operand.place sx.0 gx.holds sx.2) real own (λ e. ap (λ (o : SlotContent). o.refers) before ∙ s.quiet.by k apart refl) in
      let second : Leaves f g (one_term form span) p.used (refs ++ if_refers k (is_reference of)) = set_leaves f span p.used refs k (Some of) (is_reference of) set.plain set.slot set.kind refl apart first.after.quiet in
      let g1 = after_terms f (one_term form span) g in
      let at_k : g1 k ≡ held (Some of) = ap (λ (i : Holdings). i k) (set_after f span k (Some of) set.plain set.slot set.kind) ∙ set_at k (held (Some of)) g in
      let third : Leaves f g1 (drops refs span) used [] = drops_leave f span used refs g1 (own_slot s1) (fresh_apart gx.fresh)
      (record { by = λ j u l. let parts = or_parts (nat_eq j k) (among j p.used) u in second.after.quiet.by j parts.1 (apart_both j refs (if_refers k (is_reference of)) l (if_refers_apart j k (is_reference of) parts.0)) }) in
      let inner : Leaves f g (and_term form span (drops refs span)) p.used ((refs ++ if_refers k (is_reference of)) ++ []) = then_leaves f second wider third in
      let whole = same_leaves f first inner in
      let i = after_terms f (then_terms x.terms (and_term form span (drops refs span))) h in
      let last = after_terms f (drops refs span) g1 in
      let same : i ≡ last = after_then f x.terms (and_term form span (drops refs span)) h in
      let kept : Kept p.used h last = kept_on first.after.kept (within_self p.used) (kept_on second.after.kept wider third.after.kept) in
      let after : After p.used (k ∷ []) h last = record { kept = kept; quiet = record { by = λ j u l. third.after.quiet.by j (or_from (nat_eq j k) (among j p.used) (or_parts (nat_eq j k) false l).0 u) refl } } in
      let unit = unit_runs f span (runs_of f whole) in
      let inside : among k used ≡ true = or_left (nat_eq k k) (among k p.used) (nat_same k) in
      let stands : Stands f (v ∷ p.variables) used last = stands_declares v
      (stands_on s after wider (record { by = λ j e. go j (or_split (nat_eq j k) false e) })) inside (third.after.kept.by k inside ∙ at_k) own real in
      subst (λ q. Did f outer p q ws row (resolved_declare local name of value span) rest ts h) (sym eq)
      (subst (λ ts. Did f outer p (declares p v) ws row (resolved_declare local name of value span) rest ts h) (sym et) (record {
        each = unit.each;
        follows = unit.follows;
        ends = whole.goes_on;
        kept = λ e. subst (λ m. Kept p.used h m) (sym same) kept;
        next = λ e. subst (λ m. At f (declares p v) (ws ++ (local, of) ∷ []) [] rest m) (sym same) (record {
          stands = stands;
          low = low_declares v low;
          quiet = stands.quiet;
          fresh = fresh_none used;
          agree = λ n. after_kind ws n local of none ∙ ap (λ o. if nat_eq n local then Some of else o) (agree n);
          given = record { by = tt };
          row_is = refl;
          once = tt;
          goes_on = tt;
        });
        blocked = blocked_declares v b apart;
      }))
    where
      go : (j : ℕ) → (nat_eq j k ≡ true) ⊎ (false ≡ true) → among j (k ∷ p.used) ≡ true
      go j (inl e) = or_left (nat_eq j k) (among j p.used) e
      go j (inr e) = absurd (true≢false (sym e))

  field_or_slot : (target : SeenAt) (value : Expression) (span : Span) (x : Lowered) (kind : Kind) (place : Place) (seen : Seen) → (has : Kind) → Gave f h p.used x has → serves_as f.table kind has ≡ true
      → IsTarget f seen → kind_of_seen f (locals_of p.variables) seen ≡ Some kind → place_seen p.variables seen ≡ Some place
      → Leaves f (after_terms f x.terms h) (one_term (set_place kind place x.operand) span) p.used (references x.made)
  field_or_slot target value span x kind place ThisSeen has gx serve is ek ep = absurd is
  field_or_slot target value span x kind place (FieldSeen id) has gx serve is ek ep =
      subst (λ place. Leaves f (after_terms f x.terms h) (one_term (set_place kind place x.operand) span) p.used (references x.made)) (some_same ep)
      (quiet_leaves f span p.used (references x.made) (field_plain kind id x.operand ek (serving_of x.operand.place has gx.holds serve)) (field_slot kind id x.operand) gx.leaves.after.quiet)
  field_or_slot target value span x kind place (Local n) has gx serve above ek ep = go (slot_of p.variables n) refl ep
    where
      go : (o : Option ℕ) → slot_of p.variables n ≡ o → option_map Slot o ≡ Some place → Leaves f (after_terms f x.terms h) (one_term (set_place kind place x.operand) span) p.used (references x.made)
      go None eo e = absurd (none_some e)
      go (Some k) eo e =
          let v = s.sees n k eo in
          let same : v.kind ≡ kind = some_same (sym v.is ∙ ek) in
          let there : after_terms f x.terms h k ≡ held (Some kind) = gx.leaves.after.kept.by k v.inside ∙ v.holds ∙ ap (λ c. held (Some c)) same in
          subst (λ place. Leaves f (after_terms f x.terms h) (one_term (set_place kind place x.operand) span) p.used (references x.made)) (some_same e)
          (reset_leaves span p.used (references x.made) k kind
          (slot_sets kind k x.operand (serving_of x.operand.place has gx.holds serve) (subst (IsLocalKind f.table) same (v.real above)) (v.own above) (λ plain. ap (λ (o : SlotContent). o.refers) there ∙ plain))
          there gx.leaves.after.quiet)

  -- an assignment
  pub assign_did : (target : SeenAt) (value : Expression) (span : Span) (rest : Statements) (ts : SilicaTerms) (q : Point) (x : Lowered) (kind : Kind) (place : Place)
      → LowersExpression (around f p span) p.used value x → kind_of_seen f (locals_of p.variables) target.of ≡ Some kind → place_seen p.variables target.of ≡ Some place
      → ts ≡ with_unit span (ended_by span x.terms (set_place kind place x.operand) x.made) → q ≡ passed p
      → IsTarget f target.of → IsSomeAnd (kind_of_seen f ws target.of) (λ kind. IsValue f ws kind value)
      → Did f outer p q ws row (resolved_assign target value span) rest ts h
  assign_did target value span rest ts q x kind place lx ek ep et eq is made =
      let sk = some_so (kind_of_seen f ws target.of) (λ kind. IsValue f ws kind value) made in
      let same : sk.0 ≡ kind = some_same (sym sk.1 ∙ seen_agree f p.variables ws agree span target.of ∙ ek) in
      let sx = some_so (kind_of_expression f ws value) (λ has. IsTrue (serves_as f.table sk.0 has)) sk.2.1 in
      let gx : Gave f h p.used x sx.0 = expression_made f p.variables ws agree span value x p.used h sx.0 lx sk.2.0 s sx.1 in
      let set = field_or_slot target value span x kind place target.of sx.0 gx (subst (λ c. serves_as f.table c sx.0 ≡ true) same sx.2) is ek ep in
      let whole = finished f p.used x.made span (own_slot s) (fresh_apart gx.fresh) gx.leaves set in
      subst (λ ts. Did f outer p q ws row (resolved_assign target value span) rest ts h) (sym et)
      (did_passed s low agree b refl refl eq (unit_runs f span (runs_of f whole)) whole.goes_on)
