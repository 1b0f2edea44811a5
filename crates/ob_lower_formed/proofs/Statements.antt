-- The terms of statements and blocks are well-formed.
use Rattle.std.proofs.Common.{◌≡◌, ℕ, ◌<◌, Bool, true, false, ◌||◌, List, [], Some, refl, sym, ap, ◌∙◌, subst, ◌⊎◌, inl, inr, true≢false, if◌then◌else◌}
use Rattle.std.proofs.lemmas.Bool.{or_parts, or_left}
use Rattle.ob_base.specs.declared.fault.Span.{Span}
use Rattle.ob_table.specs.Statements.{Statement, resolved_declare, resolved_assign, resolved_stage, resolved_change, resolved_discard, resolved_test, resolved_if, resolved_while, resolved_return, resolved_revert, resolved_disown, resolved_assert, Block, resolved_block, Otherwise, no_otherwise, otherwise_block, Statements, no_statements, and_statement}
use Rattle.ob_table_spec.specs.WellFormed.{StaticFrame, LocalKinds, local_kind, locals_after, rest_of_row, ends_there, one_ends_there, block_ends_there, other_ends_there, IsStatement, IsBlock, IsOtherwise, AreStatements}
use Rattle.ob_silica.specs.Terms.{SilicaTerms, no_terms, and_term, then_terms}
use Rattle.ob_silica_formed.specs.Holdings.{Holdings, after_terms, terms_end, Each}
use Rattle.ob_silica_formed.specs.Points.{NoneFollows}
use Rattle.ob_lower_spec.specs.Forms.{drops, locals_of, refused_at}
use Rattle.ob_lower_spec.specs.Points.{references, StagedRow, no_row, staged_row, refused_row, made_before, Point, inside}
use Rattle.ob_lower_spec.specs.StatementTerms.{LowersStatement, LowersStatements, LowersBlock, LowersOtherwise}
use Rattle.ob_lower_formed.proofs.Sets.{among, by_bool, within_self}
use Rattle.ob_lower_formed.proofs.Ways.{IsWellFormedForm, after_then, each_then, end_then, follows_then}
use Rattle.ob_lower_formed.proofs.Effects.{After, kept_self, kept_on, Leaves, runs_of, none_leaves, then_dropped}
use Rattle.ob_lower_formed.proofs.Operands.{none_some, Stands, own_slot, fresh_none}
use Rattle.ob_lower_formed.proofs.Points.{Low, RowOpen, At, row_closed, closed_stands, Blocked, Did}
use Rattle.ob_lower_formed.proofs.Setting.{declare_did, assign_did}
use Rattle.ob_lower_formed.proofs.Ending.{IsWellFormedBlock, discard_did, return_did, revert_did, disown_did, assert_did, test_did, if_did}
use Rattle.ob_lower_formed.proofs.Turning.{while_did}
use Rattle.ob_lower_formed.proofs.Staging.{stage_did, change_did}

-- what statements of a block do
pub record AllDid (f : StaticFrame) (outer : List ℕ) (ss : Statements) (ts : SilicaTerms) (declared : List ℕ) (h : Holdings) : Type 0 where
  pub each : Each IsWellFormedForm f h ts
  pub follows : NoneFollows ts
  pub ends : terms_end ts ≡ one_ends_there ss
  pub after : one_ends_there ss ≡ false → After outer declared h (after_terms f ts h)
  pub apart : (j : ℕ) → among j outer ≡ true → among j declared ≡ false

-- no row is open at the end of a block
end_closed : (r : StagedRow) → RowOpen r no_statements → made_before r ≡ []
end_closed no_row o = refl
end_closed (staged_row first given made) o = absurd (none_some (sym o.2))
end_closed refused_row o = refl

pub then_none : (x : SilicaTerms) → then_terms x no_terms ≡ x
then_none no_terms = refl
then_none (and_term form span rest) = ap (and_term form span) (then_none rest)

module _ (f : StaticFrame) where
  none_did : {outer : List ℕ} (p : Point) {ws : LocalKinds} {row : List ℕ} {h : Holdings} → At f p ws row no_statements h → Blocked outer p → AllDid f outer no_statements no_terms p.declared h
  none_did {outer} p {ws} {row} {h} a b = record {
    each = tt;
    follows = tt;
    ends = refl;
    after = λ e. record { kept = kept_self outer h; quiet = record { by = λ j u l. a.quiet.by j (out j u l (by_bool (among j p.used))) (ap (λ m. among j (references m)) (end_closed p.row a.goes_on)) } };
    apart = b.apart;
  }
    where
      neither : (j : ℕ) → among j outer ≡ false → among j p.declared ≡ false → (among j outer ≡ true) ⊎ (among j p.declared ≡ true) → ⊥
      neither j u l (inl e) = true≢false (sym e ∙ u)
      neither j u l (inr e) = true≢false (sym e ∙ l)

      out : (j : ℕ) → among j outer ≡ false → among j p.declared ≡ false → (among j p.used ≡ true) ⊎ (among j p.used ≡ false) → among j p.used ≡ false
      out j u l (inl e) = absurd (neither j u l (b.split j e))
      out j u l (inr e) = e

  -- a statement, and those after it
  both_did : {outer : List ℕ} {p q : Point} {ws : LocalKinds} {row : List ℕ} {s : Statement} {rest : Statements} {x : SilicaTerms} (y : SilicaTerms) (declared : List ℕ) {h : Holdings} → Blocked outer p
      → Did f outer p q ws row s rest x h → LowersStatements f q rest y declared → (ends_there s ≡ true → rest ≡ no_statements)
      → (At f q (locals_after ws s) (rest_of_row row s) rest (after_terms f x h) → AllDid f outer rest y declared (after_terms f x h))
      → (ends_there s ≡ true) ⊎ (ends_there s ≡ false) → AllDid f outer (and_statement s rest) (then_terms x y) declared h
  both_did {outer} {p} {q} {ws} {row} {s} {rest} {x} y declared {h} b d ly alone go (inl e) =
      let none : LowersStatements f q no_statements y declared = subst (λ r. LowersStatements f q r y declared) (alone e) ly in
      let same : then_terms x y ≡ x = ap (then_terms x) none.0 ∙ then_none x in
      subst (λ t. AllDid f outer (and_statement s rest) t declared h) (sym same) (record {
        each = d.each;
        follows = d.follows;
        ends = d.ends ∙ e ∙ sym (or_left (ends_there s) (one_ends_there rest) e);
        after = λ z. absurd (true≢false (sym e ∙ (or_parts (ends_there s) (one_ends_there rest) z).0));
        apart = λ j u. ap (among j) none.1 ∙ d.blocked.apart j u;
      })
  both_did {outer} {p} {q} {ws} {row} {s} {rest} {x} y declared {h} b d ly alone go (inr e) =
      let r = go (d.next e) in
      record {
        each = each_then f IsWellFormedForm x y h d.each r.each;
        follows = follows_then x y d.follows (d.ends ∙ e) r.follows;
        ends = end_then x y ∙ ap (λ t. t || terms_end y) d.ends ∙ ap (λ t. ends_there s || t) r.ends;
        after = λ z. subst (λ g. After outer declared h g) (sym (after_then f x y h)) (record {
          kept = kept_on (record { by = λ j u. (d.kept e).by j (b.wider.by j u) }) (within_self outer) (r.after ((or_parts (ends_there s) (one_ends_there rest) z).1)).kept;
          quiet = (r.after ((or_parts (ends_there s) (one_ends_there rest) z).1)).quiet;
        });
        apart = r.apart;
      }

  block_from : (g : Holdings) (used : List ℕ) (statements : Statements) (y x : SilicaTerms) (declared : List ℕ) (end : Span) → ((k : ℕ) → among k used ≡ false → f.params < k)
      → AllDid f used statements y declared g → (c : Bool) → one_ends_there statements ≡ c → x ≡ then_terms y (if c then no_terms else drops declared end) → IsWellFormedBlock f g used x (one_ends_there statements)
  block_from g used statements y x declared end own r true e is =
      subst (λ t. IsWellFormedBlock f g used t (one_ends_there statements)) (sym (is ∙ then_none y)) (record {
        runs = record { each = r.each; follows = r.follows; after = λ z. absurd (true≢false (sym e ∙ sym r.ends ∙ z)) };
        ends_so = r.ends;
      })
  block_from g used statements y x declared end own r false e is =
      let leaves : Leaves f g y used declared = record { each = r.each; follows = r.follows; goes_on = r.ends ∙ e; after = r.after e } in
      let whole = then_dropped f end used declared own r.apart leaves in
      subst (λ t. IsWellFormedBlock f g used t (one_ends_there statements)) (sym is) (record { runs = runs_of f whole; ends_so = whole.goes_on ∙ sym e })

  closed : {p : Point} {ws : LocalKinds} {row : List ℕ} {h : Holdings} (s : Statement) (rest : Statements) → At f p ws row (and_statement s rest) h
      → ((state : _) (at : Span) → refused_at state at (and_statement s rest) ≡ Some at) → Stands f p.variables p.used h
  closed {p} s rest a c = closed_stands a (row_closed p.row s rest a.goes_on c)

  mutual
    pub statement_did : (outer : List ℕ) (p : Point) (ws : LocalKinds) (row : List ℕ) (s : Statement) (rest : Statements) (ts : SilicaTerms) (q : Point) (h : Holdings) → LowersStatement f p s rest ts q
        → IsStatement f ws row s → At f p ws row (and_statement s rest) h → Blocked outer p → Did f outer p q ws row s rest ts h
    statement_did outer p ws row (resolved_declare local name of value span) rest ts q h (k, free, x, lx, et, eq) made a b =
        declare_did f outer p ws row h (closed (resolved_declare local name of value span) rest a (λ state at. refl)) a.low a.agree b local name of value span rest ts q k x free lx et eq made.0 made.1 made.2 made.3
    statement_did outer p ws row (resolved_assign target value span) rest ts q h (x, lx, kind, ek, place, ep, et, eq) made a b =
        assign_did f outer p ws row h (closed (resolved_assign target value span) rest a (λ state at. refl)) a.low a.agree b target value span rest ts q x kind place lx ek ep et eq made.0 made.1
    statement_did outer p ws row (resolved_stage state given span) rest ts q h low made a b =
        stage_did f outer p ws row h b rest ts q state span given a made.1 low
    statement_did outer p ws row (resolved_change state given span) rest ts q h (x, lx, et, eq) made a b =
        change_did f outer p ws row h b rest ts q state span given x a lx et eq made.0 made.1
    statement_did outer p ws row (resolved_discard value span) rest ts q h (x, lx, et, eq) made a b =
        discard_did f outer p ws row h (closed (resolved_discard value span) rest a (λ state at. refl)) a.low a.agree b span rest ts q value x lx et eq made
    statement_did outer p ws row (resolved_test subject state branch other span) rest ts q h (o, is, x, lx, y, ly, et, eq) made a b =
        let s = closed (resolved_test subject state branch other span) rest a (λ state at. refl) in
        test_did f outer p ws row h s a.low a.agree b span rest ts q subject state branch other o x y is et eq made.0
        (block_did p ws branch x h lx made.1 s a.low a.agree) (otherwise_did p ws other y h ly made.2 s a.low a.agree)
    statement_did outer p ws row (resolved_if condition branch other span) rest ts q h (c, lc, x, lx, y, ly, et, eq) made a b =
        if_did f outer p ws row h (closed (resolved_if condition branch other span) rest a (λ state at. refl)) a.low a.agree b span rest ts q condition branch other c x y lc et eq made.0
        (λ g s. block_did p ws branch x g lx made.1 s a.low a.agree) (λ g s. otherwise_did p ws other y g ly made.2 s a.low a.agree)
    statement_did outer p ws row (resolved_while condition body span) rest ts q h (c, lc, x, lx, et, eq) made a b =
        while_did f outer p ws row h (closed (resolved_while condition body span) rest a (λ state at. refl)) a.low a.agree b span rest ts q condition body c x lc et eq made.0
        (λ g s. block_did p ws body x g lx made.1 s a.low a.agree)
    statement_did outer p ws row (resolved_return value span) rest ts q h (x, lx, et, eq) made a b =
        return_did f outer p ws row h (closed (resolved_return value span) rest a (λ state at. refl)) a.low a.agree b span rest ts q value x lx et eq made
    statement_did outer p ws row (resolved_revert text span) rest ts q h (x, lx, et, eq) made a b =
        revert_did f outer p ws row h (closed (resolved_revert text span) rest a (λ state at. refl)) a.low a.agree b span rest ts q text x lx et eq made
    statement_did outer p ws row (resolved_disown subject span) rest ts q h (o, is, et, eq) made a b =
        disown_did f outer p ws row h (closed (resolved_disown subject span) rest a (λ state at. refl)) a.low a.agree b span rest ts q subject o is et eq made
    statement_did outer p ws row (resolved_assert subject perm span) rest ts q h (o, is, et, eq) made a b =
        assert_did f outer p ws row h (closed (resolved_assert subject perm span) rest a (λ state at. refl)) a.low a.agree b span rest ts q subject perm o is et eq made

    pub statements_did : (outer : List ℕ) (p : Point) (ws : LocalKinds) (row : List ℕ) (ss : Statements) (ts : SilicaTerms) (declared : List ℕ) (h : Holdings) → LowersStatements f p ss ts declared
        → AreStatements f ws row ss → At f p ws row ss h → Blocked outer p → AllDid f outer ss ts declared h
    statements_did outer p ws row no_statements ts declared h (et, ed) made a b =
        subst (λ d. AllDid f outer no_statements ts d h) (sym ed) (subst (λ t. AllDid f outer no_statements t p.declared h) (sym et) (none_did p a b))
    statements_did outer p ws row (and_statement s rest) ts declared h (x, q, ls, y, ly, et) made a b =
        let d = statement_did outer p ws row s rest x q h ls made.0 a b in
        subst (λ t. AllDid f outer (and_statement s rest) t declared h) (sym et)
        (both_did y declared b d ly made.1 (λ n. statements_did outer q (locals_after ws s) (rest_of_row row s) rest y declared (after_terms f x h) ly made.2 n d.blocked) (by_bool (ends_there s)))

    pub block_did : (p : Point) (ws : LocalKinds) (block : Block) (x : SilicaTerms) (g : Holdings) → LowersBlock f p block x → IsBlock f ws block
        → Stands f p.variables p.used g → Low f p.variables p.used → ((n : ℕ) → local_kind ws n ≡ local_kind (locals_of p.variables) n) → IsWellFormedBlock f g p.used x (block_ends_there block)
    block_did p ws (resolved_block statements end) x g (y, declared, ls, et) made s low agree =
        let a : At f (inside p) ws [] statements g = record {
          stands = s;
          low = record { inside = low.inside; fixed = low.fixed };
          quiet = s.quiet;
          fresh = fresh_none p.used;
          agree = agree;
          given = record { by = tt };
          row_is = refl;
          once = tt;
          goes_on = tt;
        } in
        let b : Blocked p.used (inside p) = record { wider = within_self p.used; split = λ j e. inl e; apart = λ j e. refl } in
        block_from g p.used statements y x declared end (own_slot s) (statements_did p.used (inside p) ws [] statements y declared g ls made a b) (one_ends_there statements) refl et

    pub otherwise_did : (p : Point) (ws : LocalKinds) (other : Otherwise) (x : SilicaTerms) (g : Holdings) → LowersOtherwise f p other x → IsOtherwise f ws other
        → Stands f p.variables p.used g → Low f p.variables p.used → ((n : ℕ) → local_kind ws n ≡ local_kind (locals_of p.variables) n) → IsWellFormedBlock f g p.used x (other_ends_there other)
    otherwise_did p ws no_otherwise x g is made s low agree =
        subst (λ t. IsWellFormedBlock f g p.used t false) (sym is) (record { runs = runs_of f (none_leaves f g p.used s.quiet); ends_so = refl })
    otherwise_did p ws (otherwise_block block) x g lx made s low agree = block_did p ws block x g lx made s low agree
