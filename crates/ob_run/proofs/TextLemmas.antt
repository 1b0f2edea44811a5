-- What is done with a text that was cut is done with all of it.
use Rattle.std.proofs.Common.{◌≡◌, inl, inr, ℕ, ◌<◌, ◌≤◌, List, length, take, Option, None, Some, refl, subst, arith, length-take}
use Rattle.std.proofs.lemmas.Bool.{cases_lt}
use Rattle.std.proofs.lemmas.List.{take_all}
use Rattle.ob_base.specs.Limits.{longest_program}
use Rattle.ob_base.specs.declared.fault.ProgramFault.{ProgramFault}
use Rattle.ob_table.specs.Tables.{ClassTable}
use Rattle.ob_silica.specs.Terms.{SilicaBody}
use Rattle.ob_lexer.specs.Flaws.{HasFault, too_long, no_utf8, flawed}
use Rattle.ob_front.specs.Stages.{at_token, at_row, HasTableFault, at_tree, at_type, at_site}
use Rattle.ob_front.specs.Programs.{HasTermsFault, at_table, at_slot, IsProgram, HasTextFault, at_terms, at_premise, at_weight}
use Rattle.ob_serve.specs.Served.{IsToldAs}
use Rattle.ob_outside.specs.Devices.{Devices}
use Rattle.ob_serve.specs.declared.serving.Served.{Served}
use Rattle.ob_serve.specs.declared.serving.Served.TheVariants as ended
use Rattle.ob_words.specs.Asked.{Command, check, serve, serve_stored, audit, trial, Asked}
use Rattle.ob_run.specs.FileAsks.{most_read}
use Rattle.ob_run.specs.Openings.{OpensNot}
use Rattle.ob_run.specs.Sessions.{ServesProgram}
use Rattle.ob_run.specs.Statuses.{IsRefusal, IsFinding, IsOfText, Treats}
use Rattle.ob_run.specs.TextRead.{IsReadOf}
use Rattle.ob_outside.specs.declared.exit.Exit.{Exit}
use Rattle.ob_outside.specs.declared.exit.Exit.TheVariants.{Done, Refused, Usage, ReadFault, WriteFault, DiskFault, StoreRefused, FileFault, Memory, Long}

long_and_short : (text : List ℕ) → longest_program < length text → length text ≤ longest_program → ⊥
long_and_short text long short = omega arith

-- a text that is longer than a program may have has the same fault as what was read of it
module _ (content : List ℕ) (long : longest_program < length (take most_read content)) where
  too_long_tokens : (fault : ProgramFault) → HasFault (take most_read content) fault → HasFault content fault
  too_long_tokens fault (too_long f) = too_long (record { long = omega (arith, length-take most_read content); is = f.is })
  too_long_tokens fault (no_utf8 f) = absurd (long_and_short (take most_read content) long f.short)
  too_long_tokens fault (flawed f) = absurd (long_and_short (take most_read content) long f.short)

  too_long_table : (fault : ProgramFault) → HasTableFault (take most_read content) fault → HasTableFault content fault
  too_long_table fault (at_tree (at_token has)) = at_tree (at_token (too_long_tokens fault has))
  too_long_table fault (at_tree (at_row lexed spelled has)) = absurd (long_and_short (take most_read content) long spelled.short)
  too_long_table fault (at_type tree of has) = absurd (long_and_short (take most_read content) long of.spelled.short)
  too_long_table fault (at_site made is has) = absurd (long_and_short (take most_read content) long is.of.spelled.short)

  too_long_terms : (fault : ProgramFault) → HasTermsFault (take most_read content) fault → HasTermsFault content fault
  too_long_terms fault (at_table has) = at_table (too_long_table fault has)
  too_long_terms fault (at_slot table has lacks) = absurd (long_and_short (take most_read content) long has.resolved.is.of.spelled.short)

  too_long_text : (fault : ProgramFault) → HasTextFault (take most_read content) fault → HasTextFault content fault
  too_long_text fault (at_terms has) = at_terms (too_long_terms fault has)
  too_long_text fault (at_premise table bodies terms fails) = absurd (long_and_short (take most_read content) long terms.has.resolved.is.of.spelled.short)
  too_long_text fault (at_weight table bodies checked heavy) = absurd (long_and_short (take most_read content) long checked.terms.has.resolved.is.of.spelled.short)

  too_long_refusal : (bytes : List ℕ) → IsRefusal (take most_read content) bytes → IsRefusal content bytes
  too_long_refusal bytes h = record { fault = h.fault; told = too_long_text h.fault h.told; line = h.line }

  no_program : (table : ClassTable) (bodies : List SilicaBody) → IsProgram (take most_read content) table bodies → ⊥
  no_program table bodies h = long_and_short (take most_read content) long h.checked.terms.has.resolved.is.of.spelled.short

  not_found : (command : Command) (bytes : List ℕ) → IsFinding command (take most_read content) bytes → ⊥
  not_found (check name) bytes h = no_program h.0.table h.0.bodies h.0.is
  not_found (serve name) bytes h = h
  not_found (serve_stored name store) bytes h = h
  not_found (audit name store) bytes h = h
  not_found (trial length) bytes h = no_program h.table h.bodies h.program

  too_long_of_text : (command : Command) (bytes : List ℕ) → IsOfText command (take most_read content) bytes → IsOfText command content bytes
  too_long_of_text command bytes (inl h) = inl (too_long_refusal bytes h)
  too_long_of_text command bytes (inr h) = absurd (not_found command bytes h)

  serves_none : (asked : Asked) (old new : Devices) (served : Served) → ServesProgram asked (take most_read content) old new served → ⊥
  serves_none asked old new served h = no_program h.table h.bodies h.program

  opens_none : (command : Command) (old new : Devices) → OpensNot command (take most_read content) old new → ⊥
  opens_none command old new h = no_program h.of.table h.of.bodies h.of.program

  too_long_treated : (asked : Asked) (old new : Devices) (exit : Exit) → Treats asked (take most_read content) old new exit → Treats asked content old new exit
  too_long_treated asked old new Done (inl h) = absurd (not_found asked.command h.output.bytes h.output.said)
  too_long_treated asked old new Done (inr (inl h)) = absurd (no_program h.of.table h.of.bodies h.of.program)
  too_long_treated asked old new Done (inr (inr h)) = absurd (serves_none asked old new ended.Done h)
  too_long_treated asked old new Refused h = record {
    output = record { bytes = h.output.bytes; said = too_long_refusal h.output.bytes h.output.said; written = h.output.written };
    input = h.input;
    disk = h.disk;
  }
  too_long_treated asked old new ReadFault h = absurd (serves_none asked old new ended.ReadFault h)
  too_long_treated asked old new WriteFault (inl h) = inl (record {
    output = record { bytes = h.output.bytes; said = too_long_of_text asked.command h.output.bytes h.output.said; cause = h.output.cause; front = h.output.front };
    input = h.input;
    disk = h.disk;
  })
  too_long_treated asked old new WriteFault (inr (inl h)) = absurd (no_program h.of.table h.of.bodies h.of.program)
  too_long_treated asked old new WriteFault (inr (inr (inl h))) = absurd (no_program h.of.table h.of.bodies h.of.program)
  too_long_treated asked old new WriteFault (inr (inr (inr h))) = absurd (serves_none asked old new ended.WriteFault h)
  too_long_treated asked old new DiskFault (inl h) = absurd (opens_none asked.command old new h.0)
  too_long_treated asked old new DiskFault (inr h) = absurd (serves_none asked old new ended.DiskFault h)
  too_long_treated asked old new StoreRefused h = absurd (no_program h.of.table h.of.bodies h.of.program)
  too_long_treated asked old new Memory (inl h) = inl h
  too_long_treated asked old new Memory (inr (inl h)) = absurd (opens_none asked.command old new h)
  too_long_treated asked old new Memory (inr (inr h)) = absurd (serves_none asked old new ended.Memory h)
  too_long_treated asked old new Long h = absurd (serves_none asked old new ended.Long h)
  too_long_treated asked old new Usage h = h
  too_long_treated asked old new FileFault h = h

-- a text that isn't too long was read whole
whole : (content : List ℕ) → length (take most_read content) ≤ longest_program → take most_read content ≡ content
whole content short = take_all most_read content (omega (arith, length-take most_read content))

treated_whole : (asked : Asked) (content : List ℕ) (old new : Devices) (exit : Exit) → Treats asked (take most_read content) old new exit → Treats asked content old new exit
treated_whole asked content old new exit h = elim (cases_lt longest_program (length (take most_read content))) [
  | inl long ↦ too_long_treated content long asked old new exit h
  | inr short ↦ subst (λ (l : List ℕ). Treats asked l old new exit) (whole content short) h
]

-- what a command does with what it read is what it does with all that is observable
pub record TreatsAll (asked : Asked) (content : Option (List ℕ)) (old new : Devices) (exit : Exit) : Type 0 where
  pub text : List ℕ
  pub told : IsToldAs content text
  pub treats : Treats asked text old new exit

pub treated_all : (asked : Asked) (content : Option (List ℕ)) (text : List ℕ) (old new : Devices) (exit : Exit) → IsReadOf content text → Treats asked text old new exit → TreatsAll asked content old new exit
treated_all asked None text old new exit read h = record { text = text; told = tt; treats = h }
treated_all asked (Some content) text old new exit read h = record {
  text = content;
  told = refl;
  treats = treated_whole asked content old new exit (subst (λ (l : List ℕ). Treats asked l old new exit) read h);
}
