-- How a plan writes a naming service.
use Rattle.std.specs.Prelude.{ℕ, Bool, true, false, List, [], ◌∷◌, Option, Some, None}
use Rattle.sal_value.specs.declared.name.Authority.{Authority}
use Rattle.sal_value.specs.declared.constants.TheConstants.{NAME_PORT}
use Rattle.sal_value.specs.Names.{AddressForm, parts_after_scheme}

abbrev pub is_nothing : List ℕ → Bool
is_nothing [] = true
is_nothing (b ∷ bytes) = false

-- `host` or `host:port`, as names have them: no scheme stands before them, and no path after them
abbrev pub service_form : AddressForm
service_form = record { scheme = []; usual = NAME_PORT; path = is_nothing }

abbrev pub authority_from : Option (List ℕ × (ℕ × List ℕ)) → Option Authority
authority_from None = None
authority_from (Some parts) = Some (record { host = parts.0; port = parts.1.0 })

-- the service that a text writes, if it writes one
unfoldable pub authority_of : List ℕ → Option Authority
authority_of text = authority_from (parts_after_scheme service_form (Some text))
