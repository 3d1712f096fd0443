-- States of handlers whose values are of the types that the checker gave.
use Rattle.std.specs.Prelude.{◌≡◌, ℕ, true, List, [], ◌∷◌, map, slice_get, Option, Some, None, Ok}
use Rattle.sal_value.specs.declared.value.Base.TheVariants as meant
use Rattle.sal_value.specs.declared.value.Sort.{Sort as MeantSort}
use Rattle.sal_value.specs.declared.value.Value.{Value}
use Rattle.sal_value.specs.declared.value.Value.TheVariants.{Null}
use Rattle.sal_value.specs.Membership.{belongs}
use Rattle.sal_ast.specs.declared.program.Behavior.{Behavior}
use Rattle.sal_ast.specs.Members.{Field, constructor_of}
use Rattle.sal_ast.specs.Sorts.{fields_in, type_sort}
use Rattle.sal_mail.specs.declared.effects.Actor.{Actor}
use Rattle.sal_mail.specs.declared.effects.Creation.{Creation}
use Rattle.sal_sorts.specs.declared.sort.Sort.{Sort}
use Rattle.sal_sorts.specs.Environments.{Environment, constructor_params}
use Rattle.sal_typing.specs.Numbers.{number_sort, scope_of}
use Rattle.sal_handler.specs.declared.state.Content.{Content}
use Rattle.sal_handler.specs.declared.state.Content.TheVariants as content
use Rattle.sal_handler.specs.declared.state.Local.{Local}
use Rattle.sal_handler.specs.declared.state.State.{State}
use Rattle.sal_handler.specs.Expressions.{FieldMaker}
use Rattle.sal_handler.specs.Scopes.{Context}
use Rattle.sal_handler.specs.Scopes.{scope_of as scope_now}
use Rattle.sal_handler.specs.WellFormed.{EachOf}

-- ---- values

-- of this type; what has none in the meaning is null
abbrev pub IsOf : Option MeantSort → Value → Type 0
IsOf None v = v ≡ Null
IsOf (Some t) v = belongs v t ≡ true

-- pairwise, and just as many
abbrev pub AreOf : List MeantSort → List Value → Type 0
AreOf [] [] = Unit {0}
AreOf [] (v ∷ vs) = ⊥
AreOf (t ∷ ts) [] = ⊥
AreOf (t ∷ ts) (v ∷ vs) = (belongs v t ≡ true) × AreOf ts vs

-- a value of the local's type; a token has no type
abbrev pub HoldsSort : Option MeantSort → Content → Type 0
HoldsSort None (content.Value v) = ⊥
HoldsSort (Some t) (content.Value v) = belongs v t ≡ true
HoldsSort t (content.Token n) = t ≡ None

-- pairwise of the fields' types, and just as many
abbrev pub AreFields : List Behavior → List Field → List Value → Type 0
AreFields behaviors [] [] = Unit {0}
AreFields behaviors [] (v ∷ vs) = ⊥
AreFields behaviors (f ∷ fs) [] = ⊥
AreFields behaviors (f ∷ fs) (v ∷ vs) =
    ((t : MeantSort) × ((type_sort f.sort behaviors ≡ Some t) × (belongs v t ≡ true))) × AreFields behaviors fs vs

-- the fields of an actor of the behaviour with this number
abbrev pub FieldsOf : List Behavior → ℕ → List Value → Type 0
FieldsOf behaviors n vs = AreFields behaviors (fields_in (slice_get behaviors n)) vs

-- ---- new actors

-- what the constructor of a behaviour takes
abbrev pub params_in : Option Behavior → List Sort
params_in None = []
params_in (Some b) = constructor_params (constructor_of b)

-- where a type means nothing, which no typed program has, that of null
abbrev pub or_void : Option MeantSort → MeantSort
or_void None = record { base = meant.Void; dims = 0 }
or_void (Some t) = t

-- the types of what the constructor of the behaviour with this number takes
abbrev pub params_of : List Behavior → ℕ → List MeantSort
params_of behaviors n = map (λ s. or_void (number_sort s behaviors)) (params_in (slice_get behaviors n))

-- Of arguments of the parameters' types it makes fields of theirs.
abbrev pub MakesFields : List Behavior → FieldMaker → Type 0
MakesFields behaviors make =
    (n : ℕ) (args fields : List Value) → AreOf (params_of behaviors n) args → make n args ≡ Ok fields → FieldsOf behaviors n fields

-- initialisers and constructors make no actors
abbrev pub MakesFieldsIfAny : List Behavior → Option FieldMaker → Type 0
MakesFieldsIfAny behaviors None = Unit {0}
MakesFieldsIfAny behaviors (Some make) = MakesFields behaviors make

-- ---- states

-- Locals, fields, and what new actors and creations have, are of their types.
pub record IsTypedState (behaviors : List Behavior) (mine : ℕ) (s : State) : Type 0 where
  pub locals : EachOf (λ (l : Local). HoldsSort l.sort l.held) s.locals
  pub fields : FieldsOf behaviors mine s.fields
  pub actors : EachOf (λ (a : Actor). FieldsOf behaviors a.behavior a.fields) s.actors
  pub creations : EachOf (λ (c : Creation). FieldsOf behaviors c.behavior c.fields) s.creations

-- The names in scope are those of the environment, and the state is typed.
pub record IsTypedAt (env : Environment) (mine : ℕ) (r : Context) (s : State) : Type 0 where
  pub scope : scope_of env mine ≡ scope_now r s
  pub makes : MakesFieldsIfAny env.behaviors r.make
  pub state : IsTypedState env.behaviors mine s
