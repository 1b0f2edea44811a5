-- Sites of types that are looked at one after another, with the least fault so far (this project's own).
use Rattle.std.specs.Prelude.{ℕ, Bool, List, [], ◌∷◌, Option}
use Rattle.ob_base.specs.declared.fault.ProgramFault.{ProgramFault}
use Rattle.ob_resolve_sites.specs.Noted.{noted_if}
use Rattle.ob_generic_spec.specs.TypeSites.{TypeSite, span_at_type}
use Rattle.ob_generic_spec.specs.TypeFaults.{type_conditions}

-- the least fault after those of these conditions that hold at a site
abbrev pub noted_by : List (ℕ × (TypeSite → Bool)) → Option ProgramFault → TypeSite → Option ProgramFault
noted_by [] l site = l
noted_by (c ∷ cs) l site = noted_by cs (noted_if l (c.1 site) c.0 (span_at_type site)) site

-- the least fault after one more site
abbrev pub noted_at : Option ProgramFault → TypeSite → Option ProgramFault
noted_at l site = noted_by type_conditions l site

-- the least fault after these sites
abbrev pub noted : Option ProgramFault → List TypeSite → Option ProgramFault
noted l [] = l
noted l (site ∷ sites) = noted (noted_at l site) sites
