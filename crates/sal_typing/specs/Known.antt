-- What is known of the places in a typed program where nodes stand.
use Rattle.std.specs.Prelude.{◌≡◌, ◌≤◌, ◌⊎◌, ℕ, Bool, true, false, List, [], ◌∷◌, length, Option, Some, None}
use Rattle.std.specs.List.{find}
use Rattle.std.specs.Str.{bytes_eq}
use Rattle.sal_value.specs.declared.value.Sort.{Sort as MeantSort}
use Rattle.sal_ast.specs.declared.program.Behavior.{Behavior}
use Rattle.sal_ast.specs.Members.{Field, Handler, fields_of, handlers_of, behavior_by_name}
use Rattle.sal_ast.specs.Sorts.{type_sort, result_sort}
use Rattle.sal_sorts.specs.declared.sort.Base.{Base}
use Rattle.sal_sorts.specs.declared.sort.Base.TheVariants.{Void, Null}
use Rattle.sal_sorts.specs.declared.sort.Sort.{Sort}
use Rattle.sal_sorts.specs.declared.variable.Variable.{Variable}
use Rattle.sal_sorts.specs.Sorts.{plain}
use Rattle.sal_sorts.specs.Environments.{Environment}
use Rattle.sal_typing.specs.Numbers.{number_sort}

-- it holds of each
abbrev pub Each : {A : Type 0} → (A → Type 0) → List A → Type 0
Each P [] = Unit {0}
Each P (x ∷ xs) = P x × Each P xs

-- something is there
abbrev pub IsThere : {A : Type 0} → Option A → Type 0
IsThere {A} o = (a : A) × (o ≡ Some a)

-- ---- types

-- not `void`
abbrev pub is_no_void : Base → Bool
is_no_void Void = false
is_no_void _ = true

-- the type of a value: it is one of the meaning, and not `void`
pub record IsValueSort (s : Sort) (behaviors : List Behavior) : Type 0 where
  pub number : MeantSort
  pub means : number_sort s behaviors ≡ Some number
  pub no_void : is_no_void s.base ≡ true

-- the type of a reply: `void`, or that of a value
abbrev pub IsReplySort : Sort → List Behavior → Type 0
IsReplySort s behaviors = (s ≡ plain Void) ⊎ IsValueSort s behaviors

-- the type of an expression: that of `null`, or of a value
abbrev pub IsExprSort : Sort → List Behavior → Type 0
IsExprSort s behaviors = (s ≡ plain Null) ⊎ IsValueSort s behaviors

-- ---- names in scope

-- a token waits for a reply, and all else in scope is a value
abbrev pub IsSortInScope : Bool → Sort → List Behavior → Type 0
IsSortInScope true s behaviors = IsReplySort s behaviors
IsSortInScope false s behaviors = IsValueSort s behaviors

-- its type is known
abbrev pub IsKnownVariable : List Behavior → Variable → Type 0
IsKnownVariable behaviors v = IsSortInScope v.is_token v.sort behaviors

-- each name stands for one thing
abbrev pub NamesAreDistinct : List Variable → Type 0
NamesAreDistinct [] = Unit {0}
NamesAreDistinct (v ∷ vs) = (find (λ w. bytes_eq w.name v.name) vs ≡ None) × NamesAreDistinct vs

-- ---- members

-- the field's type is one
abbrev pub FieldIsKnown : List Behavior → Field → Type 0
FieldIsKnown behaviors f = IsThere (type_sort f.sort behaviors)

-- the types of the handler's parameters and of its result are some
abbrev pub HandlerIsKnown : List Behavior → Handler → Type 0
HandlerIsKnown behaviors h = Each (λ p. IsThere (type_sort p.sort behaviors)) h.params × IsThere (result_sort h.result behaviors)

-- all types of its fields and handlers are
abbrev pub MembersAreKnown : List Behavior → Behavior → Type 0
MembersAreKnown behaviors b = Each (FieldIsKnown behaviors) (fields_of b) × Each (HandlerIsKnown behaviors) (handlers_of b)

-- ---- places

-- what is known where a node of a typed program stands, in the behaviour with this number
pub record IsKnown (env : Environment) (mine : ℕ) : Type 0 where
  pub few : length env.behaviors ≤ 64
  pub own : behavior_by_name env.own env.behaviors ≡ Some mine
  pub members : Each (MembersAreKnown env.behaviors) env.behaviors
  pub result : IsReplySort env.result env.behaviors
  pub scope : Each (IsKnownVariable env.behaviors) env.scope
  pub distinct : NamesAreDistinct env.scope
