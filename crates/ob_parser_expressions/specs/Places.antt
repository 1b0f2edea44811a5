-- Where tokens stand.
use Rattle.std.specs.Prelude.{List, [], ◌∷◌}
use Rattle.ob_base.specs.declared.fault.Span.{Span}
use Rattle.ob_lexer.specs.declared.token.Token.{Token}

-- the place of the first token
abbrev pub first_span : List Token → Span
first_span [] = record { start = 0; end = 0; line = 0; column = 0 }
first_span (t ∷ ts) = t.span
