-- What holds of typed programs.
use Rattle.std.specs.Prelude.{◌≡◌, ℕ, true, is_some, slice_get, Some}
use Rattle.std.specs.List.{list_any}
use Rattle.sal_ast.specs.declared.program.Program.{Program}
use Rattle.sal_ast.specs.Members.{Handler, handlers_at}
use Rattle.sal_types.specs.Endings.{surely_ends}
use Rattle.sal_types.specs.Programs.{IsTyped}
use Rattle.sal_types.specs.declared.signature.Signature.{Signature}
use Rattle.sal_types.specs.Signatures.{signature_at}

-- a handler with a result doesn't fall off its end
abbrev pub HandlersWithResultsEnd : Type 0
HandlersWithResultsEnd =
    (p : Program) → IsTyped p → (behavior number : ℕ) (h : Handler) → slice_get (handlers_at p.behaviors (Some behavior)) number ≡ Some h
    → is_some h.result ≡ true → list_any surely_ends h.body ≡ true

-- each handler has a signature: each type that is written means one
abbrev pub HandlersHaveSignatures : Type 0
HandlersHaveSignatures =
    (p : Program) → IsTyped p → (behavior number : ℕ) (h : Handler) → slice_get (handlers_at p.behaviors (Some behavior)) number ≡ Some h
    → (s : Signature) × (signature_at behavior number p ≡ Some s)
