-- The order of names.
use Rattle.std.specs.Prelude.{◌≡◌, ℕ, suc, List, [], ◌∷◌, ◌++◌, map}
use Rattle.sal_value.specs.declared.name.Uan.{Uan}
use Rattle.sal_value.specs.declared.name.Name.{Name}
use Rattle.sal_value.specs.declared.name.Name.TheVariants as name
use Rattle.sal_value.specs.Names.{uan_text}

-- a list that ends before any number that may follow it
abbrev pub with_end : List ℕ → List ℕ
with_end bytes = map suc bytes ++ 0 ∷ []

-- The numbers by which names are ordered. Actors without a universal name come first, by theatre and
-- number; then calls from outside; then universal names, by canonical text and, where texts agree, by host.
-- The port at the end never decides: it is there so that equal keys are equal names.
unfoldable pub key : Name → List ℕ
key (name.Anon theatre number) = 0 ∷ theatre ∷ number ∷ []
key (name.Outside number) = 1 ∷ number ∷ []
key (name.Uan u) = 2 ∷ (with_end (uan_text u) ++ (with_end u.host ++ u.port ∷ []))

-- the same of a universal name
abbrev pub uan_key : Uan → List ℕ
uan_key u = key (name.Uan u)

-- equal keys are equal names
abbrev pub KeysAreInjective : Type 0
KeysAreInjective = (a b : Name) → key a ≡ key b → a ≡ b
