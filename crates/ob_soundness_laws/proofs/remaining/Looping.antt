-- What is left to run in a Loop.
use Rattle.std.proofs.Common.{◌≡◌, ⊎_elim, ℕ, zero, suc, ◌≤◌, ◌<◌, Bool, true, false, List, ◌∷◌, Option, Some, None, Ok, refl, sym, ap, ◌∙◌, subst, arith}
use Rattle.std.specs.Prelude.{max, not, ◌||◌, nat_lt, if◌then◌else◌}
use Rattle.std.specs.Option.{option_map_or}
use Rattle.std.proofs.lemmas.Bool.{cases_Bool, and_parts, or_parts}
use Rattle.std.proofs.Math.Path.{fun_ext}
use Rattle.ob_base.specs.declared.fault.Span.{Span}
use Rattle.ob_perm.specs.Permissions.{Permission, owned, shared, unowned, owns, matches}
use Rattle.ob_table.specs.Tables.{ClassTable}
use Rattle.ob_table.specs.declared.seen.Kind.{Kind}
use Rattle.ob_table.specs.declared.seen.Kind.TheVariants.{Int, Bool as BoolKind, Text, Reference}
use Rattle.ob_table_spec.specs.WellFormed.{StaticFrame, is_reference}
use Rattle.ob_silica.specs.Terms.{SilicaForm, test_form, if_form, loop_form, SilicaTerms, no_terms, and_term}
use Rattle.ob_silica.specs.declared.place.Operand.{Operand}
use Rattle.ob_silica.specs.Slots.{slots_of_operand, slots_of_form, slots_of_terms}
use Rattle.ob_silica_places.specs.Known.{Known, known}
use Rattle.ob_silica_places.specs.Places.{Location, slot, field, this}
use Rattle.ob_silica_steps.specs.Cells.{Cell}
use Rattle.ob_silica_steps.specs.Configurations.{plain_end, loop_end, Rest}
use Rattle.ob_silica_formed.specs.Holdings.{SlotContent, Holdings, after_form, after_terms, at_head, EachWithin, Each}
use Rattle.ob_silica_formed.specs.Points.{HasKind, HasKinds}
use Rattle.ob_flow_spec.specs.Premises.{checked, ◌>>=◌}
use Rattle.ob_flow_spec.specs.Contexts.{BodyFrame, field_count, Context, permission_on, permission_at, is_set, is_asset, is_owned_asset, static_of}
use Rattle.ob_flow_spec.specs.Uses.{uses_place}
use Rattle.ob_flow_spec.specs.Binding.{read_of}
use Rattle.ob_flow_spec.specs.Joining.{same_kind, same_mode}
use Rattle.ob_flow_spec.specs.Looping.{holding, is_kept, slot_at_head, head_context, is_as_at_head, frame_is_as_at_head_if}
use Rattle.ob_flow_spec.specs.Deriving.{Derived, derive, derive_all, if_reached}
use Rattle.ob_flow_laws.specs.Looping.{TurnsBack, TurnsBackIf}
use Rattle.ob_flow_laws.specs.Deriving.{PassesLoop, PassesTurnIf}
use Rattle.ob_places_laws.specs.Serving.{Allows}
use Rattle.ob_places_laws.proofs.Sets.{among_from_subset}
use Rattle.ob_coherent_spec.proofs.Heads.{turn_holds, head_stays}
use Rattle.ob_coherent_spec.specs.Runs.{tested_places}
use Rattle.ob_coherent_spec.specs.Saying.{Agrees}
use Rattle.ob_coherent_spec.specs.Remaining.{IsWellFormedForm, AreWellFormedFrom, KnowsThis, IsPlaceIn, LosesNone, Leads, GoesOnBy, CanTurn, GoOn, Remains}
use Rattle.ob_soundness_laws.proofs.remaining.Joins.{kind_same, agrees_as, same_mode_self, leads_self}
use Rattle.ob_soundness_laws.proofs.remaining.Knowing.{KnowsIf, knows_head, terms_know}
use Rattle.ob_soundness_laws.proofs.remaining.Alike.{HoldAlike, is_below, head_alike}
use Rattle.ob_soundness_laws.proofs.remaining.Branches.{holds_self, reached_goes_on, goes_after}

-- The context at the head.

cut_known : (z : Bool) (y : Option Known) (c : Option Cell) → Agrees y c → Agrees (if z then y else None) c
cut_known true y c h = h
cut_known false y c h = tt

slot_known : (b : BodyFrame) (first body : SilicaTerms) (g : Context) (k : ℕ) (y : Option Known) (c : Option Cell) → Agrees y c
    → Agrees (slot_at_head b first body g k y) c
slot_known b first body g k None c h = h
slot_known b first body g k (Some x) c h = cut_known (is_kept b first body g k x) (Some x) c h

owns_known : (table : ClassTable) (x : Option Known) → is_owned_asset table x ≡ true → owns (permission_on x) ≡ true
owns_known table None o = absurd (cc)
owns_known table (Some x) o = (and_parts _ _ o).0

cut_kept : (table : ClassTable) (z : Bool) → z ≡ true → (x y : Option Known) → LosesNone table x y → LosesNone table x (if z then y else None)
cut_kept table true e x y l o = l o
cut_kept table false e x y l o = absurd (cc)

-- a value that is no reference is no asset
no_asset : (table : ClassTable) (kind : Kind) → is_reference kind ≡ false → is_asset table kind ≡ true → ⊥
no_asset table (Reference c) e o = cc
no_asset table Int e o = cc
no_asset table BoolKind e o = cc
no_asset table Text e o = cc

slot_kept : (b : BodyFrame) (first body : SilicaTerms) (g : Context) (k : ℕ) (y : Option Known)
    → LosesNone b.table y (slot_at_head b first body g k y)
slot_kept b first body g k None o = absurd (cc)
slot_kept b first body g k (Some x) o = by_kept (is_kept b first body g k x) refl
  where
    by_kept : (z : Bool) → is_kept b first body g k x ≡ z → owns (permission_on (if z then Some x else None)) ≡ true
    by_kept true e = owns_known b.table (Some x) o
    by_kept false e = absurd (no_asset b.table x.kind (or_parts (is_reference x.kind) _ e).0 (and_parts (owns x.permission) (is_asset b.table x.kind) o).1)

below : (m n : ℕ) → m < n → nat_lt m n ≡ true
below m n lt = grind arith

module _ (b : BodyFrame) (first body : SilicaTerms) (g : Context) where
  abbrev known_at_head : Context
  known_at_head = head_context b first body g

  -- the context at the head of a Loop may take the place of the one before it
  pub leads_head : Leads b g known_at_head
  leads_head = record { known = known_too; kept = kept_too; mode = same_mode_self _ }
    where
      known_too : (p : Location) (c : Option Cell) → Agrees (g p) c → Agrees (known_at_head p) c
      known_too (slot zero) c h = h
      known_too (slot (suc k)) c h =
          cut_known (nat_lt (suc k) b.slots) (slot_at_head b first body g (suc k) (g (slot (suc k)))) c
          (slot_known b first body g (suc k) (g (slot (suc k))) c h)
      known_too (field f) c h = cut_known (nat_lt f (field_count b)) (g (field f)) c h

      kept_too : (p : Location) → IsPlaceIn b p → LosesNone b.table (g p) (known_at_head p)
      kept_too (slot zero) inside o = owns_known b.table (g (slot zero)) o
      kept_too (slot (suc k)) inside o =
          cut_kept b.table (nat_lt (suc k) b.slots) (below (suc k) b.slots inside) (g (slot (suc k)))
          (slot_at_head b first body g (suc k) (g (slot (suc k)))) (slot_kept b first body g (suc k) (g (slot (suc k)))) o
      kept_too (field f) inside o =
          cut_kept b.table (nat_lt f (field_count b)) (below f (field_count b) inside) (g (field f)) (g (field f)) (owns_known b.table (g (field f))) o

  -- the head of the same Loop from its head is that head, where a turn tells the same of each slot that is set there
  head_again : HoldAlike known_at_head (at_head (static_of b) first body (holding known_at_head)) (at_head (static_of b) first body (holding g))
      → head_context b first body known_at_head ≡ known_at_head
  head_again alike = fun_ext each_place
    where
      cut_again : (z : Bool) (y : Option Known) → (if z then (if z then y else None) else None) ≡ (if z then y else None)
      cut_again true y = refl
      cut_again false y = refl

      slot_again : (k : ℕ) (z : Bool) (y : Option Known)
          → (is_set (if z then slot_at_head b first body g k y else None) ≡ true
          → at_head (static_of b) first body (holding known_at_head) k ≡ at_head (static_of b) first body (holding g) k)
          → (if z then slot_at_head b first body known_at_head k (if z then slot_at_head b first body g k y else None) else None)
          ≡ (if z then slot_at_head b first body g k y else None)
      slot_again k false y same = refl
      slot_again k true None same = refl
      slot_again k true (Some x) same = by_kept (is_kept b first body g k x) refl same
        where
          by_kept : (z : Bool) → is_kept b first body g k x ≡ z
              → (is_set (if z then Some x else None) ≡ true
              → at_head (static_of b) first body (holding known_at_head) k ≡ at_head (static_of b) first body (holding g) k)
              → slot_at_head b first body known_at_head k (if z then Some x else None) ≡ (if z then Some x else None)
          by_kept true e same =
              ap (λ z. if z then Some x else None)
              (ap (λ (c : SlotContent). is_reference x.kind || option_map_or (same_kind x.kind) c.kind false) (same refl) ∙ e)
          by_kept false e same = refl

      each_place : (p : Location) → head_context b first body known_at_head p ≡ known_at_head p
      each_place (slot zero) = refl
      each_place (slot (suc k)) = slot_again (suc k) (nat_lt (suc k) b.slots) (g (slot (suc k))) (alike (suc k))
      each_place (field f) = cut_again (nat_lt f (field_count b)) (g (field f))

-- The end of a turn.

allows_match : (p q r : Permission) → matches p q ≡ true → Allows p r → Allows q r
allows_match (owned a) (owned s) r e h = (h.0, h.1, λ i lt y. among_from_subset a s e i lt (h.2 i lt y))
allows_match (owned a) shared r e h = absurd (cc)
allows_match (owned a) unowned r e h = absurd (cc)
allows_match shared (owned s) r e h = absurd (cc)
allows_match shared shared r e h = h
allows_match shared unowned r e h = absurd (cc)
allows_match unowned (owned s) r e h = absurd (cc)
allows_match unowned shared r e h = absurd (cc)
allows_match unowned unowned r e h = tt

owns_match : (p q : Permission) → matches p q ≡ true → owns p ≡ true → owns q ≡ true
owns_match (owned a) (owned s) e o = refl
owns_match (owned a) shared e o = absurd (cc)
owns_match (owned a) unowned e o = absurd (cc)
owns_match shared q e o = absurd (cc)
owns_match unowned q e o = absurd (cc)

mode_match : (p q : Permission) → matches p q ≡ true → same_mode q p ≡ true
mode_match (owned a) (owned s) e = refl
mode_match (owned a) shared e = absurd (cc)
mode_match (owned a) unowned e = absurd (cc)
mode_match shared (owned s) e = absurd (cc)
mode_match shared shared e = refl
mode_match shared unowned e = absurd (cc)
mode_match unowned (owned s) e = absurd (cc)
mode_match unowned shared e = absurd (cc)
mode_match unowned unowned e = refl

place_known : (table : ClassTable) (x y : Option Known) (c : Option Cell) → is_as_at_head table x y ≡ true → Agrees y c → Agrees x c
place_known table None y c e h = tt
place_known table (Some x) None c e h = absurd (cc)
place_known table (Some x) (Some y) c e h =
    let parts = and_parts (same_kind y.kind x.kind) (matches y.permission x.permission) e in
    agrees_as y.kind x.kind y.permission x.permission (kind_same y.kind x.kind parts.0)
    (λ r. allows_match y.permission x.permission r parts.1) c h

not_owned : (z : Bool) → not z ≡ true → z ≡ true → ⊥
not_owned true e o = cc
not_owned false e o = cc

place_kept : (table : ClassTable) (x y : Option Known) → is_as_at_head table x y ≡ true → LosesNone table y x
place_kept table None y e o = absurd (not_owned (is_owned_asset table y) e o)
place_kept table (Some x) None e o = absurd (cc)
place_kept table (Some x) (Some y) e o =
    owns_match y.permission x.permission (and_parts (same_kind y.kind x.kind) (matches y.permission x.permission) e).1 (and_parts _ _ o).0

place_mode : (table : ClassTable) (x : Known) (y : Option Known) → is_as_at_head table (Some x) y ≡ true
    → same_mode x.permission (permission_on y) ≡ true
place_mode table x None e = absurd (cc)
place_mode table x (Some y) e = mode_match y.permission x.permission (and_parts (same_kind y.kind x.kind) (matches y.permission x.permission) e).1

-- where a turn ends as it began, the context at the head may take the place of the one at the end
leads_turn : (b : BodyFrame) (first body : SilicaTerms) (g j : Context) → KnowsThis b g → TurnsBack b (head_context b first body g) j → Leads b j (head_context b first body g)
leads_turn b first body g j y t = record { known = known_too; kept = kept_too; mode = mode_too }
  where
    cut_none : (z : Bool) → z ≡ false → (x : Option Known) (c : Option Cell) → Agrees (if z then x else None) c
    cut_none true e x c = absurd (cc)
    cut_none false e x c = tt

    known_too : (p : Location) (c : Option Cell) → Agrees (j p) c → Agrees (head_context b first body g p) c
    known_too (slot zero) c h = place_known b.table (g (slot zero)) (j (slot zero)) c t.itself h
    known_too (slot (suc k)) c h = ⊎_elim
        (λ e. place_known b.table (head_context b first body g (slot (suc k))) (j (slot (suc k))) c (t.slots (suc k) (is_below (suc k) b.slots e)) h)
        (λ e. cut_none (nat_lt (suc k) b.slots) e (slot_at_head b first body g (suc k) (g (slot (suc k)))) c)
        (cases_Bool (nat_lt (suc k) b.slots))
    known_too (field f) c h = ⊎_elim
        (λ e. place_known b.table (head_context b first body g (field f)) (j (field f)) c (t.fields f (is_below f (field_count b) e)) h)
        (λ e. cut_none (nat_lt f (field_count b)) e (g (field f)) c)
        (cases_Bool (nat_lt f (field_count b)))

    kept_too : (p : Location) → IsPlaceIn b p → LosesNone b.table (j p) (head_context b first body g p)
    kept_too (slot k) inside o = place_kept b.table (head_context b first body g (slot k)) (j (slot k)) (t.slots k inside) o
    kept_too (field f) inside o = place_kept b.table (head_context b first body g (field f)) (j (field f)) (t.fields f inside) o

    mode_too : same_mode (permission_at (head_context b first body g) this) (permission_at j this) ≡ true
    mode_too = subst (λ x. is_as_at_head b.table x (j this) ≡ true → same_mode (permission_on x) (permission_on (j this)) ≡ true) (sym y.1)
        (place_mode b.table (known (Reference b.here) y.0) (j this)) t.itself

-- Terms.

slots_first : (x a y n : ℕ) → max x (max a y) ≤ n → x ≤ n
slots_first x a y n h = omega (arith, h)

slots_body : (x a y n : ℕ) → max x (max a y) ≤ n → y ≤ n
slots_body x a y n h = omega (arith, h)

slots_form : (x y n : ℕ) → max x y ≤ n → x ≤ n
slots_form x y n h = omega (arith, h)

mutual
  kinds_of : (f : StaticFrame) (h : Holdings) (terms : SilicaTerms) → Each IsWellFormedForm f h terms → Each HasKinds f h terms
  kinds_of f h no_terms each = tt
  kinds_of f h (and_term form span rest) each = (each.0.kinds, kinds_within f h form each.1, kinds_of f (after_form f form h) rest each.2)

  kinds_within : (f : StaticFrame) (h : Holdings) (form : SilicaForm) → EachWithin IsWellFormedForm f h form → EachWithin HasKinds f h form
  kinds_within f h (test_form place state branch other join) each = (kinds_of f h branch each.0, kinds_of f h other each.1)
  kinds_within f h (if_form a branch other join) each = (kinds_of f h branch each.0, kinds_of f h other each.1)
  kinds_within f h (loop_form first a body end) each =
      (kinds_of f (at_head f first body h) first each.0, kinds_of f (after_terms f first (at_head f first body h)) body each.1)
  kinds_within f h form each = tt

module _ (b : BodyFrame) (h : Holdings) (g : Context) (first : SilicaTerms) (a : Operand) (body : SilicaTerms) (end span : Span) (rest : SilicaTerms)
    (outer : List Rest) (r : Remains b h g (and_term (loop_form first a body end) span rest) outer) where
  abbrev f : StaticFrame
  f = static_of b

  abbrev holdings : Holdings
  holdings = at_head f first body h

  abbrev head : Context
  head = head_context b first body g

  abbrev turn : SilicaForm
  turn = loop_form first a body end

  abbrev Next : Option Context → Holdings → Type 0
  Next left i = GoOn b left i outer

  slots : slots_of_form turn ≤ b.slots
  slots = slots_form (slots_of_form turn) (slots_of_terms rest) b.slots r.formed.slots

  -- the Loop derives from its head as it did
  from_head : Context → Derived
  from_head x =
      derive_all b (tested_places outer) first x
      >>= (λ left. if_reached left (λ j. checked (uses_place b j (read_of a)) j
      >>= (λ j. derive_all b (tested_places outer) body j
      >>= (λ turned. checked (frame_is_as_at_head_if b x turned end) (Some j)))))

  derives_again : head_context b first body head ≡ head → derive_all b (tested_places outer) (and_term turn end rest) head ≡ Ok r.left
  unfolding from_head
  derives_again same = ap (λ x. from_head x >>= (λ left. if_reached left (λ j. derive_all b (tested_places outer) rest j))) same ∙ r.derived

  stays : at_head f first body holdings ≡ holdings
  stays = head_stays f first body h (kinds_of f holdings first r.formed.forms.1.0) (kinds_of f (after_terms f first holdings) body r.formed.forms.1.1)

  -- it is well-formed from its head
  formed_again : AreWellFormedFrom b holdings (and_term turn end rest)
  formed_again = record {
    forms = (
      one,
      subst (λ i. Each IsWellFormedForm f i first × Each IsWellFormedForm f (after_terms f first i) body) (sym stays) r.formed.forms.1,
      subst (λ i. Each IsWellFormedForm f (after_terms f first i) rest) (sym stays) r.formed.forms.2,
    );
    slots = r.formed.slots;
  }
    where
      one : IsWellFormedForm f holdings turn
      one = record {
        numbers = r.formed.forms.0.numbers;
        kinds = subst (λ i. HasKind f (after_terms f first i) BoolKind a) (sym stays) r.formed.forms.0.kinds;
        results = tt;
        params = tt;
        references = tt;
        bodies = tt;
        returns = tt;
        turns = r.formed.forms.0.turns;
      }

  goes_again : (left turned : Option Context) (j : Context) → PassesTurnIf b (tested_places outer) a body head (Some j) left
      → derive_all b (tested_places outer) first head ≡ Ok (Some j)
      → derive_all b (tested_places outer) body j ≡ Ok turned
      → TurnsBackIf b head turned
      → GoesOnBy b (tested_places outer) Next (and_term turn end rest) turned (after_terms f body (after_terms f first holdings))
  goes_again left None j p s d t = tt
  goes_again left (Some g2) j p s d t =
      let ends = reached_goes_on b (tested_places outer) body j g2 d in (
        head,
        holdings,
        r.left,
        leads_turn b first body g g2 r.itself t,
        knows_head b first body g r.itself,
        turn_holds f first body h (kinds_of f holdings first r.formed.forms.1.0) (kinds_of f (after_terms f first holdings) body r.formed.forms.1.1) ends,
        formed_again,
        derives_again (head_again b first body g
            (head_alike b (tested_places outer) h first body g j (Some g2) r.formed.forms.1.0 r.formed.forms.1.1 s d t)),
        subst (λ i. Next r.left (after_terms f rest (after_terms f first i))) (sym stays) r.after,
      )

  -- what is left in the first part of a Loop
  pub loop_first : (mid : Option Context) → derive b (tested_places outer) turn span g ≡ Ok mid → PassesLoop b (tested_places outer) first a body g mid
      → Remains b holdings head first (record { terms = rest; ends = loop_end first a body end } ∷ outer)
  loop_first mid d p = record {
    formed = record { forms = r.formed.forms.1.0; slots = slots_first (slots_of_terms first) (slots_of_operand a) (slots_of_terms body) b.slots slots };
    itself = knows_head b first body g r.itself;
    left = p.after;
    derived = p.first_derives;
    after = by_after p.after p.first_derives p.turn (terms_know b (tested_places outer) holdings first head p.after r.formed.forms.1.0 p.first_derives (knows_head b first body g r.itself));
  }
    where
      by_after : (after : Option Context) → derive_all b (tested_places outer) first head ≡ Ok after → PassesTurnIf b (tested_places outer) a body head after mid → KnowsIf b after
          → GoOn b after (after_terms f first holdings) (record { terms = rest; ends = loop_end first a body end } ∷ outer)
      by_after None s t y = tt
      by_after (Some j) s t y = goes_after b h (after_terms f first holdings) g j turn span rest (loop_end first a body end) outer mid r d
          (λ k. holds_self (after_terms f first holdings k)) (tt, j, t.leaves, leads_self b j, y)
          (record {
            can = t.can;
            kind = r.formed.forms.0.kinds;
            formed = record { forms = r.formed.forms.1.1; slots = slots_body (slots_of_terms first) (slots_of_operand a) (slots_of_terms body) b.slots slots };
            turned = t.turned;
            derives = t.body_derives;
            again = goes_again mid t.turned j t s t.body_derives t.turns;
          })

-- what is left in the body of a Loop
pub loop_body : (b : BodyFrame) (h : Holdings) (g : Context) (first : SilicaTerms) (a : Operand) (body : SilicaTerms) (end : Span) (rest : SilicaTerms) (outer : List Rest)
    → KnowsThis b g → CanTurn b (tested_places outer) (λ left i. GoOn b left i outer) first a body end rest g h
    → Remains b h g body (record { terms = and_term (loop_form first a body end) end rest; ends = plain_end } ∷ outer)
loop_body b h g first a body end rest outer y t = record {
  formed = t.formed;
  itself = y;
  left = t.turned;
  derived = t.derives;
  after = by_turned t.turned t.again;
}
  where
    by_turned : (turned : Option Context)
        → GoesOnBy b (tested_places outer) (λ left i. GoOn b left i outer) (and_term (loop_form first a body end) end rest) turned (after_terms (static_of b) body h)
        → GoOn b turned (after_terms (static_of b) body h) (record { terms = and_term (loop_form first a body end) end rest; ends = plain_end } ∷ outer)
    by_turned None x = tt
    by_turned (Some j) x = (tt, tt, x)
